-- How the bytes read, by what was tested of them; and the calls that messages stand for. Assumes nothing.
use Prim.Native.Nat.{ℕ, ◌+◌, ◌-◌, ◌≤◌, ◌<◌}
use mathlib.Core.Path.{◌≡◌, sym, ap, ◌∙◌}
use mathlib.Core.List.{List}
use mathlib.Core.Option.{none, some}
use native.Mathlib.Omega.{arith}
use borrow.Author.Tests.{lt-ltb, le-ltb, eq-eqb, ne_eqb}
use lib.ListN.{length, take, drop}
use Rattle.parse.specs.First.{ReadFirst, first_of}
use Rattle.parse.specs.Parse.{le64}
use Rattle.parse.specs.declared.Arguments.{Arguments}
use Rattle.requests.specs.Row.{low}
use Rattle.requests.specs.declared.eis.Request.{Request}
use Rattle.handlers.specs.Call.{call_of}
use Rattle.model.specs.Call.{Plain, Call}
use Rattle.model.specs.Session.{View}
use Rattle.model.specs.Live.{Object, live}
use Rattle.model_reads.specs.Message.{Reading}
use Rattle.session.specs.View.{Store, Whole, Lending}
use Rattle.session.proofs.Views.{whole_is}
use Rattle.std.specs.Prelude.{Result}
use Rattle.answers.specs.declared.Error.{Error}
use Rattle.answers.specs.declared.Answer.{Answer}
use Rattle.answers.specs.Meets.{Handled, Answered}
use Rattle.answers.proofs.Meetings.{answered-handled}
use Rattle.messages.specs.Reading.{request_in, call_in, read_as, reading_on, reading_of, reading}

-- ---- the calls

module _ {s e : Store} {out later : List ℕ} {r : Result Answer Error} (a : Arguments) (object version clock : ℕ) (m : List ℕ) where
  pub handed-sync : a.request ≡ 5 → {second : ℕ} → second ≡ low a.second → Handled s e out later (Call.plain (Plain.sync_message a.first second)) clock r
      → Handled s e out later (call_in a object version m) clock r
  unfolding call_in
  handed-sync is q h = rw (eq-eqb a.request 5 is, ← q) h

  pub handed-call : (a.request ≡ 5 → ⊥) → {request : Request} → request ≡ request_in a
      → Handled s e out later (call_of request object version (take (a.start + a.length - a.start) (drop a.start m))) clock r
      → Handled s e out later (call_in a object version m) clock r
  unfolding call_in
  handed-call other q h =
      let part : a.start + a.length - a.start ≡ a.length = omega arith in
      rw (ne_eqb a.request 5 other, ← q, ← part) h

-- ---- on an object that lives

pub read_is : (object interface version : ℕ) (m : List ℕ) {f g : ReadFirst} → f ≡ first_of interface m → f ≡ g → reading_on object interface version m ≡ read_as object version m g
unfolding reading_on
read_is object interface version m e q = ap (read_as object version m) (sym e ∙ q)

-- ---- by its object

module _ (v : View) (m : List ℕ) where
  pub no_header : length m < 16 → reading v m ≡ Reading.wait
  unfolding reading
  no_header h = rw (lt-ltb (length m) 16 h)

  module _ (h : 16 ≤ length m) {id : ℕ} (is : id ≡ le64 m 0) where
    pub not-alive : none ≡ live v id → reading v m ≡ Reading.no_object
    unfolding reading reading_of
    not-alive e = rw (le-ltb (length m) 16 h, ← is, ← e)

    pub alive : (o : Object) → some o ≡ live v id → reading v m ≡ reading_on id o.interface o.version m
    unfolding reading reading_of
    alive o e = rw (le-ltb (length m) 16 h, ← is, ← e)
