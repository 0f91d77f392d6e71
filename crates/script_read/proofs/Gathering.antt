-- The records that the lines of a read gather, and the call that they make. Assumes nothing.
use Prim.Native.Nat.{ℕ, zero, suc, ◌+◌, ◌*◌, ◌≤◌, ◌<◌}
use mathlib.Core.Path.{◌≡◌, refl, sym, ap, ◌∙◌, subst}
use mathlib.Core.Bool.{Bool, true, false, cond, ◌||◌}
use mathlib.Core.List.{List, [], ◌∷◌, ◌++◌, map}
use mathlib.Core.Logic.{inl, inr}
use native.Mathlib.Omega.{arith}
use denote.Enum.Declared.{tag_of}
use types.Run.{OneOf}
use borrow.Author.Tests.{eq-eqb, ne_eqb}
use lib.Dec.{eqb}
use lib.Ieee.{Float, nan}
use lib.ListN.{length, take, length-take}
use lib.Seq.{get_or-take}
use Rattle.model.specs.Call.{Input, Call}
use Rattle.model_reads.specs.Read.{Entry}
use Rattle.session.specs.View.{Store}
use Rattle.requests.specs.Row.{Put}
use Rattle.std.specs.Prelude.{Some, Ok}
use Rattle.requests.proofs.Arms.{among}
use Rattle.requests.proofs.Arms as arms
use Rattle.control.specs.Table.{tab}
use Rattle.control.proofs.Tables.{tab_same, tab_push}
use Rattle.reads.specs.declared.ReadAnswer.{ReadAnswer}
use Rattle.reads.specs.declared.record.RequestRecord.{RequestRecord}
use Rattle.reads.specs.Record.{entry_of}
use Rattle.reads.specs.Handed.{Handed}
use Rattle.lent_read.specs.Numbers.{record_words, record_reals, record_count, record_at, cell_at, records_in}
use Rattle.script.specs.Text.{Copied}
use Rattle.script_run.specs.declared.call.Run.{Run}
use Rattle.script_run.specs.declared.call.Why.{Why}
use Rattle.script_run.specs.declared.call.Told.{Told}
use Rattle.script_record.specs.declared.Record.{Record}
use Rattle.script_run.specs.contracts.call.Told.{the_type}
use Rattle.script_run.proofs.Doings.{text-lent}
use Rattle.script_run.specs.Take.{quiet, no_call, counted}
use Rattle.script_read.specs.declared.Reading.{Reading}
use Rattle.script_read.specs.declared.Taken.{Taken}
use Rattle.script_read.specs.Read.{no_read, onward, gathered, texts_of, Fits, as_record, closing, Settles, Begins, RecordDoes}

-- ---- the records of the first places

module _ (rs : List ℕ) (ps : List Float) (n : ℕ) where
  first_count : n ≤ record_count rs ps → record_count (take (n * record_words) rs) (take (n * record_reals) ps) ≡ n
  first_count h = omega (arith, length-take (n * record_words) rs, length-take (n * record_reals) ps)

  first_at : (j : ℕ) → j < n → record_at (take (n * record_words) rs) (take (n * record_reals) ps) j ≡ record_at rs ps j
  unfolding record_at cell_at
  first_at j h =
      rw (
        get_or-take (n * record_words) rs (j * record_words) 0 (omega arith),
        get_or-take (n * record_words) rs (j * record_words + 1) 0 (omega arith),
        get_or-take (n * record_words) rs (j * record_words + 2) 0 (omega arith),
        get_or-take (n * record_words) rs (j * record_words + 3) 0 (omega arith),
        get_or-take (n * record_words) rs (j * record_words + 4) 0 (omega arith),
        get_or-take (n * record_words) rs (j * record_words + 5) 0 (omega arith),
        get_or-take (n * record_words) rs (j * record_words + 6) 0 (omega arith),
        get_or-take (n * record_words) rs (j * record_words + 7) 0 (omega arith),
        get_or-take (n * record_reals) ps (j * record_reals) nan (omega arith),
        get_or-take (n * record_reals) ps (j * record_reals + 1) nan (omega arith),
      )

  first-records : n ≤ record_count rs ps → records_in (take (n * record_words) rs) (take (n * record_reals) ps) ≡ tab n (record_at rs ps)
  unfolding records_in
  first-records h =
      let c = first_count h in
      tab_same (record_count (take (n * record_words) rs) (take (n * record_reals) ps)) n (record_at (take (n * record_words) rs) (take (n * record_reals) ps)) (record_at rs ps) c
      (λ j k. first_at j (omega (arith, c, k)))

-- a record that is put behind them joins them
pub joins : (g : Reading) (rs rs' : List ℕ) (ps ps' : List Float) {one : RequestRecord} → g.held + 1 ≤ record_count rs ps → length rs' ≡ length rs → length ps' ≡ length ps
    → Put (record_at rs ps) (record_at rs' ps') g.held one → gathered (onward g) rs' ps' ≡ gathered g rs ps ++ (one ∷ [])
unfolding gathered
joins g rs rs' ps ps' {one} h p q put =
    first-records rs' ps' (g.held + 1) (omega (arith, p, q))
    ∙ tab_push g.held (g.held + 1) (record_at rs ps) (record_at rs' ps') one refl put.here (λ j k. put.other j (λ e. omega (arith, k, e)))
    ∙ ap (λ (l : List RequestRecord). l ++ (one ∷ [])) (sym (first-records rs ps g.held (omega arith)))

-- before the first there is none
pub none_yet : (count m : ℕ) (rs : List ℕ) (ps : List Float) → gathered (record { left = count; held = 0; length = m }) rs ps ≡ []
unfolding gathered records_in tab
none_yet count m rs ps = refl

-- what the code lends of the slices, from 0 on
pub entries_same : (g : Reading) (rs : List ℕ) (ps : List Float) (lent : List ℕ)
    → map (entry_of (take g.length lent)) (records_in (take (g.held * record_words) rs) (take (g.held * record_reals) ps))
    ≡ map (entry_of (texts_of g lent)) (gathered g rs ps)
unfolding gathered
entries_same g rs ps lent = refl

pub handed_as : {s e : Store} {out later : List ℕ} {es es' : List (Entry (Call Input))} {clock : ℕ} {a : ReadAnswer} → es ≡ es' → Handed s e out later es clock a → Handed s e out later es' clock a
handed_as {s} {e} {out} {later} {clock = clock} {a = a} q h = subst (λ (es : List (Entry (Call Input))). Handed s e out later es clock a) q h

-- ---- behind the last line

module _ (r : Run) (g : Reading) where
  pub closing-ended : r.ended ≡ true → closing r g ≡ quiet r
  closing-ended e = ap (λ (b : Bool). cond (b || eqb g.left 0) (quiet r) (no_call Why.Within (counted r))) e

  pub closing-none : r.ended ≡ false → g.left ≡ 0 → closing r g ≡ quiet r
  closing-none e z = ap (λ (b : Bool). cond (b || eqb g.left 0) (quiet r) (no_call Why.Within (counted r))) e
      ∙ ap (λ (b : Bool). cond b (quiet r) (no_call Why.Within (counted r))) (eq-eqb g.left 0 z)

  pub closing-within : r.ended ≡ false → (g.left ≡ 0 → ⊥) → closing r g ≡ no_call Why.Within (counted r)
  closing-within e z = ap (λ (b : Bool). cond (b || eqb g.left 0) (quiet r) (no_call Why.Within (counted r))) e
      ∙ ap (λ (b : Bool). cond b (quiet r) (no_call Why.Within (counted r))) (ne_eqb g.left 0 z)

-- ---- a read that goes on, or ends, lies within the slices

pub no_read-fits : (rs : List ℕ) (ps : List Float) (lent : List ℕ) → Fits no_read rs ps lent
no_read-fits rs ps lent = record { room = omega arith; texts = omega arith }

pub settled-fits : {run : Run} {g : Reading} {rs : List ℕ} {ps : List Float} {lent : List ℕ} {records : List RequestRecord} {texts : List ℕ} {s e : Store} {out later : List ℕ} {r : Taken}
    → Fits g rs ps lent → Settles run g records texts s e out later r → Fits r.reading rs ps lent
settled-fits {g = g} {rs} {ps} {lent} {r = r} f h = go g.left refl
  where
    go : (n : ℕ) → g.left ≡ n → Fits r.reading rs ps lent
    go zero e = subst (λ (t : Taken). Fits t.reading rs ps lent) (sym (h.last e).told) (no_read-fits rs ps lent)
    go (suc n) e = subst (λ (t : Taken). Fits t.reading rs ps lent) (sym (h.waits (λ z. omega (arith, e, z))).0) f

-- ---- lines

-- the texts of a read are the first bytes that are lent
pub texts-lent : {text before after : List ℕ} {n : ℕ} → Copied text before after n → take n after ≡ take (length before) text
texts-lent h = text-lent refl h

pub settles_as : {run run' : Run} {g g' : Reading} {rs rs' : List RequestRecord} {texts texts' : List ℕ} {s e : Store} {out later : List ℕ} {r : Taken}
    → run ≡ run' → g ≡ g' → rs ≡ rs' → texts ≡ texts' → Settles run g rs texts s e out later r → Settles run' g' rs' texts' s e out later r
settles_as p q u v h = rw (p, q, u, v) at h

-- there is room for a record less, behind a record more
pub onward-fits : {g next : Reading} {rs rs' : List ℕ} {ps ps' : List Float} {lent : List ℕ} → next ≡ onward g → 0 < g.left → Fits g rs ps lent → length rs' ≡ length rs → length ps' ≡ length ps
    → Fits next rs' ps' lent
onward-fits {g} {next} {rs} {rs'} {ps} {ps'} {lent} e h f p q =
    subst (λ (n : Reading). Fits n rs' ps' lent) (sym e) (record { room = omega (arith, h, f.room, p, q); texts = f.texts })

-- a record joins those before it
pub record_does : (run : Run) (g : Reading) {here : Run} {next : Reading} {x : Record} {one : RequestRecord} (rs rs' : List ℕ) (ps ps' : List Float) (lent : List ℕ) {s e : Store} {out later : List ℕ} {r : Taken}
    → here ≡ counted run → next ≡ onward g → one ≡ as_record x.object x.version x.request x.part → gathered next rs' ps' ≡ gathered g rs ps ++ (one ∷ [])
    → Settles here next (gathered next rs' ps') (texts_of next lent) s e out later r
    → RecordDoes (counted run) g (Ok (Some x)) s e out later rs rs' ps ps' lent r
record_does run g rs rs' ps ps' lent p q u j h =
    let k = j ∙ ap (λ (x : RequestRecord). gathered g rs ps ++ (x ∷ [])) u in
    (ap (λ (n : Reading). gathered n rs' ps') (sym q) ∙ k, settles_as p q k (ap (λ (n : Reading). texts_of n lent) q) h)

-- a line begins one read
pub begun_same : {t : Told} {m n : ℕ} → t ≡ Told.Begun m → t ≡ Told.Begun n → m ≡ n
begun_same p q = let z = sym p ∙ q in cc

pub begins_as : {run : Run} {m n : ℕ} {line : List ℕ} {s e : Store} {out later : List ℕ} {rs : List ℕ} {ps : List Float} {lent lent' : List ℕ} {r : Taken} → m ≡ n
    → Begins run m line s e out later rs ps lent lent' r → Begins run n line s e out later rs ps lent lent' r
begins_as p h = rw p at h

-- the tags are those of the arm that begins none
pub not-begun : (t : Told) → OneOf (0 ∷ 1 ∷ 2 ∷ 3 ∷ 4 ∷ arms.run 6 5) (tag_of the_type t) → (n : ℕ) → t ≡ Told.Begun n → ⊥
not-begun t o n e = go (subst (λ (x : Told). OneOf (0 ∷ 1 ∷ 2 ∷ 3 ∷ 4 ∷ arms.run 6 5) (tag_of the_type x)) e o)
  where
    go : OneOf (0 ∷ 1 ∷ 2 ∷ 3 ∷ 4 ∷ arms.run 6 5) (tag_of the_type (Told.Begun n)) → ⊥
    go (inl e) = omega (arith, e)
    go (inr (inl e)) = omega (arith, e)
    go (inr (inr (inl e))) = omega (arith, e)
    go (inr (inr (inr (inl e)))) = omega (arith, e)
    go (inr (inr (inr (inr (inl e))))) = omega (arith, e)
    go (inr (inr (inr (inr (inr o))))) = omega (arith, (among 6 5 5 o).0)
