-- A session's beginning: the versions that the handshake settled, set one after another. Assumes nothing.
use Rattle.std.specs.Prelude.{Result, Err}
use Rattle.answers.specs.Answer.{count_of, Tells}
use Rattle.model.specs.Plan as plan
use Prim.Native.Nat.{ℕ, zero, suc, ◌+◌, ◌≤◌, ◌<◌}
use mathlib.Core.Path.{◌≡◌, refl, sym, ap, ◌∙◌}
use mathlib.Core.List.{List, [], ◌∷◌}
use mathlib.Core.Option.{Option, none, some}
use native.Mathlib.Omega.{arith}
use native.Mathlib.Numerals.{add-one}
use lib.Ieee.{Float}
use lib.ListN.{length, get_or, set, replicate}
use Rattle.requests.specs.Row.{row_at}
use Rattle.model.specs.Session.{Connection, fresh}
use Rattle.control.specs.Table.{tab}
use Rattle.control.specs.Control.{control_length, device_count, queue_head, queue_length, connection_of}
use Rattle.control.specs.Sound.{Sound}
use Rattle.control.specs.Change.{Reconnected, Fresh, with_versions}
use Rattle.session.specs.View.{store, request_at, queue_row, device_in, queue_in, session}
use Rattle.session.proofs.Views.{session_of}
use Rattle.std.specs.Prelude.{Some, None}
use Rattle.std.specs.Prelude as rust
use Rattle.eiproto.specs.Told.{told}
use Rattle.handshake.specs.View.{versions_of}
use Rattle.handshake.specs.declared.handshake.EisHandshakeResp.{EisHandshakeResp}
use Rattle.answers.specs.declared.Error.{Error}
use Rattle.answers.specs.declared.Answer.{Answer}
use Rattle.converter.specs.Next.{Begins}

-- ---- the first i of the versions

unfoldable pub settled : ℕ → List (rust.Option ℕ) → List (Option ℕ)
settled i [] = []
settled zero (v ∷ vs) = none ∷ settled zero vs
settled (suc i) (v ∷ vs) = told v ∷ settled i vs

settled-none : (n : ℕ) (vs : List (rust.Option ℕ)) → length vs ≡ n → replicate n none ≡ settled 0 vs
unfolding settled
settled-none zero [] e = refl
settled-none zero (v ∷ vs) e = absurd (omega arith)
settled-none (suc n) [] e = absurd (omega arith)
settled-none (suc n) (v ∷ vs) e = ap (λ (xs : List (Option ℕ)). none ∷ xs) (settled-none n vs (omega arith))

settled_all : (i : ℕ) (vs : List (rust.Option ℕ)) → length vs ≤ i → settled i vs ≡ versions_of vs
unfolding settled
settled_all i [] l = refl
settled_all zero (v ∷ vs) l = absurd (omega arith)
settled_all (suc i) (v ∷ vs) l = ap (λ (xs : List (Option ℕ)). told v ∷ xs) (settled_all i vs (omega arith))

module _ (d : rust.Option ℕ) where
  settled-set : (i : ℕ) (vs : List (rust.Option ℕ)) {version : ℕ} → i < length vs → get_or vs i d ≡ Some version
      → set (settled i vs) i (some version) ≡ settled (suc i) vs
  unfolding settled
  settled-set i [] l e = absurd (omega arith)
  settled-set zero (v ∷ vs) l e = rw e
  settled-set (suc i) (v ∷ vs) l e = ap (λ (xs : List (Option ℕ)). told v ∷ xs) (settled-set i vs (omega arith) e)

  settled_skip : (i : ℕ) (vs : List (rust.Option ℕ)) → i < length vs → get_or vs i d ≡ None → settled i vs ≡ settled (suc i) vs
  unfolding settled
  settled_skip i [] l e = absurd (omega arith)
  settled_skip zero (v ∷ vs) l e = rw e
  settled_skip (suc i) (v ∷ vs) l e = ap (λ (xs : List (Option ℕ)). told v ∷ xs) (settled_skip i vs (omega arith) e)

-- ---- the control words with so many set

abbrev begun_with : EisHandshakeResp → List (Option ℕ) → Connection
begun_with p vs = (fresh {P = Unit {0}} p.connection p.serial p.next vs).connection

pub record Beginning (e : List ℕ) (p : EisHandshakeResp) (i : ℕ) : Type 0 where
  pub sound : Sound e
  pub devices : device_count e ≡ 0
  pub queued : queue_length e ≡ 0
  pub connection : connection_of e ≡ (fresh {P = Unit {0}} p.connection p.serial p.next (settled i p.interfaces)).connection

module _ (p : EisHandshakeResp) (long : length p.interfaces ≡ 12) where
  pub beginning_none : {e : List ℕ} → Fresh e p.connection p.serial p.next → Beginning e p 0
  beginning_none f =
      record {
        sound = f.sound;
        devices = f.devices;
        queued = f.queued;
        connection = f.connection_is ∙ ap (begun_with p) (settled-none 12 p.interfaces long);
      }

  module _ (d : rust.Option ℕ) {c : List ℕ} (i : ℕ) (l : i < 12) (b : Beginning c p i) where
    pub beginning_skip : get_or p.interfaces i d ≡ None → Beginning c p (i + 1)
    beginning_skip h =
        record {
          sound = b.sound;
          devices = b.devices;
          queued = b.queued;
          connection = b.connection ∙ ap (begun_with p) (settled_skip d i p.interfaces (omega arith) h ∙ ap (λ (j : ℕ). settled j p.interfaces) (sym (add-one i)));
        }

    pub beginning_set : {e : List ℕ} {version : ℕ} → get_or p.interfaces i d ≡ Some version
        → Reconnected c e (with_versions (set (connection_of c).versions i (some version)) (connection_of c)) → Beginning e p (i + 1)
    unfolding fresh
    beginning_set {version = version} h r =
        record {
          sound = r.sound;
          devices = r.devices.count ∙ b.devices;
          queued = r.queue.queued ∙ b.queued;
          connection =
              r.connection
              ∙ ap (λ (n : Connection). with_versions (set n.versions i (some version)) n) b.connection
              ∙ ap (begun_with p) (settled-set d i p.interfaces (omega arith) h ∙ ap (λ (j : ℕ). settled j p.interfaces) (sym (add-one i)));
        }

  -- all are set
  beginning_all : {e : List ℕ} (i : ℕ) (w : List ℕ) (r : List Float) (t : List ℕ) → 12 ≤ i → Beginning e p i
      → session (store e w r t) ≡ fresh p.connection p.serial p.next (versions_of p.interfaces)
  unfolding session fresh queue_in tab
  beginning_all {e} i w r t l b =
      session_of e (row_at w r) t (b.connection ∙ ap (begun_with p) (settled_all i p.interfaces (omega arith)))
      (ap (λ (n : ℕ). tab n (device_in e (row_at w r) t)) b.devices)
      (ap (λ (n : ℕ). tab n (λ j. request_at t (row_at w r (queue_row (queue_head e) j)))) b.queued)

-- ---- the answer

module _ {c : List ℕ} (p : EisHandshakeResp) {a : Result Answer Error} where
  pub begins-bad : (length c ≡ control_length → ⊥) → a ≡ Err Error.BadState → Begins c c p a
  begins-bad short t =
      record { count = ap count_of t; damaged = λ h. (t, refl); accepted = λ h. absurd (short h); begun = λ h. absurd (short h) }

  pub begins-done : {d : List ℕ} (i : ℕ) → length c ≡ control_length → length p.interfaces ≡ 12 → 12 ≤ i → Beginning d p i → Tells a plan.Result.accepted 0
      → Begins c d p a
  begins-done i h long all b t =
      record {
        count = t.1;
        damaged = λ short. absurd (short h);
        accepted = λ _. t.0;
        begun = λ _ w r s words reals texts.
            (record { sound = b.sound; words_long = words; reals_long = reals; texts_long = texts }, beginning_all p long i w r s all b);
      }
