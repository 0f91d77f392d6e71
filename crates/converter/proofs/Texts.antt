-- A request on a device is no Utf8; a byte written over is seen nowhere but in the texts themselves. Assumes nothing.
use Rattle.answers.specs.declared.Error.{Error}
use Rattle.std.specs.Prelude.{Result}
use Prim.Native.Nat.{ℕ, ◌<◌}
use mathlib.Core.Path.{◌≡◌, sym, ap, ◌∙◌}
use mathlib.Core.Bool.{false≢true}
use mathlib.Core.List.{List}
use native.Mathlib.Omega.{arith}
use lib.ListN.{get_or, length-set}
use lib.Seq.{get_or-set_same}
use Rattle.requests.specs.Row.{texts_limit}
use Rattle.requests.specs.declared.eis.DeviceRequest.{DeviceRequest}
use Rattle.requests.specs.declared.eis.Request.{Request}
use Rattle.model.specs.Call.{Input, Call, split}
use Rattle.model.specs.Plan as plan
use Rattle.model.specs.Plan.{refusal}
use Rattle.model.specs.Step.{refuses, step}
use Rattle.session.specs.View.{Store, session}
use Rattle.answers.specs.Answer.{outcome_of}
use Rattle.answers.specs.Meets.{Meets, turn, Handled}
use Rattle.answers.specs.Kept.{NoText}
use Rattle.answers.specs.declared.Answer.{Answer}
use Rattle.answers.proofs.Texts.{plain-no_text, no_text, others_keep_texts}
use Rattle.texts.proofs.Slots.{last_byte_unseen}
use Rattle.handlers.specs.Call.{call_of}
use Rattle.converter.specs.Texts.{last_byte, scribbled, FrameKeepsTexts, ScribbleShutOut}

device-no_text : (request : DeviceRequest) (device version : ℕ) (text : List ℕ) → NoText (call_of (Request.Device request) device version text)
device-no_text DeviceRequest.Release d v text = plain-no_text _
device-no_text (DeviceRequest.StartEmulating serial sequence) d v text = plain-no_text _
device-no_text (DeviceRequest.StopEmulating serial) d v text = plain-no_text _
device-no_text (DeviceRequest.Frame serial timestamp) d v text = plain-no_text _
device-no_text DeviceRequest.Ready d v text = plain-no_text _

pub frame_keeps_texts : FrameKeepsTexts
frame_keeps_texts s e out later device version clock request text a h =
    others_keep_texts s e out later _ clock a h (device-no_text request device version text)

module _ (s e : Store) (out later : List ℕ) (call : Call Input) (clock : ℕ) (a : Result Answer Error) (slot byte : ℕ) (h : Handled s e out later call clock a)
    (told : outcome_of a ≡ plan.Result.accepted) (low : slot < texts_limit) where
  -- all but the texts, of which anything may be said
  pub but_texts : {T : Type 0} → T → Meets s (scribbled e slot byte) out later T (step (split (turn call clock out)) (session s)) a
  unfolding refuses refusal
  but_texts texts =
      let w = h.whole in
      record {
        whole = record { sound = w.sound; words_long = w.words_long; reals_long = w.reals_long; texts_long = length-set e.texts (last_byte slot) byte ∙ w.texts_long };
        view = last_byte_unseen e.control e.words e.reals e.texts slot byte low w.texts_long ∙ h.view;
        outcome = h.outcome;
        count = h.count;
        bytes = h.bytes;
        kept = λ z. absurd (false≢true (ap refuses (sym told) ∙ ap refuses h.outcome ∙ z));
        texts = texts;
      }

pub scribble_shut_out : ScribbleShutOut
scribble_shut_out s e out later call clock a slot byte h told other low another =
    record {
      refused = λ g.
          let same = no_text other g.texts ∙ sym (no_text other h.texts) in
          another (ap (λ (l : List ℕ). get_or l (last_byte slot) 0) (sym same) ∙ get_or-set_same e.texts (last_byte slot) byte 0 (omega (arith, low, h.whole.texts_long)));
      besides = but_texts s e out later call clock a slot byte h told low tt;
    }
