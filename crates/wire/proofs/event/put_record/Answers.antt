-- `wire::event::put_record` meets its contract: an event's record is that of its numbers, with the text that its kind has. Assumes nothing.
use mathlib.Core.List.{List}
use mathlib.Core.Path.{◌≡◌, sym, ap, ◌∙◌}
use Prim.Native.Nat.{ℕ}
use denote.Bor.{Bor}
use Rattle.wire.specs.Record.{text_of}
use Rattle.wire.proofs.Records.{record_is, text_is}
use Rattle.wire.proofs.event.put_record.Goals.{then-f, else-f}
use Rattle.wire.proofs.event.put_record.Goals as goal

pub returns : goal.returns
returns c =
    let a = c.args in
    let l = c.fields_of-f.ensures in
    let sent : text_of a.e a.text.now ≡ c.if-f.sent.now =
    elim c.if-f.branch [ then-f w ↦ text_is l w.if-f.true a.text.now ∙ sym (ap (λ (t : Bor (List ℕ)). t.now) w.sent-is) | else-f w ↦ text_is l w.if-f.false a.text.now ∙ sym (ap (λ (t : Bor (List ℕ)). t.now) w.sent-is) ] in
    rw (record_is l a.object a.text.now sent) c.put_whole.ensures
