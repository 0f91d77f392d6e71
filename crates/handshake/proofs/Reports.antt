-- Laws of the report of the interfaces: row by row, and how long it is. Assumes nothing.
use Prim.Native.Nat.{ℕ, zero, suc, ◌+◌, ◌-◌, ◌*◌, ◌≤◌, ◌<◌}
use mathlib.Core.Bool.{Bool, true, false, cond}
use mathlib.Core.List.{List, [], ◌∷◌, ◌++◌, append_assoc, append-nil, map}
use mathlib.Core.Option.{Option, none, some}
use mathlib.Core.Path.{◌≡◌, refl, sym, ap, ◌∙◌}
use native.Mathlib.Nat.{add-zero}
use native.Mathlib.Numerals.{add-one}
use native.Mathlib.Omega.{arith}
use lib.ListN.{length, get_or, set, take, drop, length-append, length-map, take-append-drop}
use lib.Seq.{take-suc, length-take-le}
use Rattle.wire.specs.Record.{layout, text_of, fixed_length, record_length}
use Rattle.wire.specs.Put.{PutWhole, Wrote}
use Rattle.wire.specs.declared.event.Event.{Event}
use Rattle.wire.proofs.Splices.{wrote_put}
use Rattle.wire.proofs.Records.{length_record}
use Rattle.handshake.specs.Handshake.{Handshake, is_some, version_of, sent, report_one, report, concluded}
use Rattle.handshake.specs.View.{versions_of}
use Rattle.eiproto.specs.Told.{told}
use Rattle.std.specs.Prelude.{Some, None, count_by}
use Rattle.std.proofs.lemmas.List.Recursion.{is_count_by}
use Rattle.std.specs.Prelude as rust

-- a handshake event has no text
pub length-sent : (e : Event) → length (sent e) ≡ fixed_length e
unfolding sent record_length text_of
length-sent e = length_record 0 e [] ∙ go (layout e).text
  where
    go : (b : Bool) → fixed_length e + length (cond {A = List ℕ} b [] []) ≡ fixed_length e
    go true = add-zero (fixed_length e)
    go false = add-zero (fixed_length e)

pub length-version : (i v : ℕ) → fixed_length (Event.InterfaceVersion i v) ≡ 15
unfolding fixed_length
length-version i v = refl

pub length-connection : (id serial v : ℕ) → fixed_length (Event.Connection id serial v) ≡ 26
unfolding fixed_length
length-connection id serial v = refl

report-append : (i : ℕ) (xs ys : List (Option ℕ)) → report i (xs ++ ys) ≡ report i xs ++ report (i + length xs) ys
unfolding report
report-append i [] ys = rw add-zero
report-append i (x ∷ xs) ys =
    let e : i + 1 + length xs ≡ i + suc (length xs) = omega arith in
    rw (report-append (i + 1) xs ys, e, append_assoc)

-- the report of some of the interfaces is no longer than that of all
pub report-le : (j : ℕ) (vs : List (Option ℕ)) → length (report 1 (take j vs)) ≤ length (report 1 vs)
report-le j vs =
    let e : report 1 vs ≡ report 1 (take j vs) ++ report (1 + length (take j vs)) (drop j vs) = rw (← report-append, take-append-drop) in
    rw (e, length-append) (omega arith)

-- a report is short: a record for each interface at most
pub report-short : (i : ℕ) (vs : List (Option ℕ)) → length (report i vs) ≤ 15 * length vs
unfolding report report_one
report-short i [] = omega arith
report-short i (none ∷ vs) = let h = report-short (i + 1) vs in omega arith
report-short i (some v ∷ vs) =
    let h = report-short (i + 1) vs in
    rw (length-append, length-sent, length-version) (omega arith)

pub length-concluded : (h : Handshake)
    → length (concluded h).bytes ≡ length (report 1 h.versions) + fixed_length (Event.Connection h.next_id h.initial_serial 1)
unfolding concluded
length-concluded h = rw (length-append, length-sent)

-- ---- the rows, as the code has them

module _ (rows : List (rust.Option ℕ)) (j : ℕ) (d : rust.Option ℕ) (h : j < length rows) where
  pub row_at : get_or (versions_of rows) j none ≡ told (get_or rows j d)
  row_at = go rows j h
    where
      go : (l : List (rust.Option ℕ)) (k : ℕ) → k < length l → get_or (map told l) k none ≡ told (get_or l k d)
      go [] k h = absurd (omega arith)
      go (r ∷ l) zero h = refl
      go (r ∷ l) (suc k) h = go l k (omega arith)

  -- one row more
  report-more : report 1 (take (j + 1) (versions_of rows)) ≡ report 1 (take j (versions_of rows)) ++ report_one (j + 1) (told (get_or rows j d))
  unfolding report
  report-more =
      let l : j < length (versions_of rows) = rw length-map h in
      let n : 1 + length (take j (versions_of rows)) ≡ j + 1 = rw (length-take-le j (versions_of rows) (omega arith)) (omega arith) in
      let e : take (j + 1) (versions_of rows) ≡ take j (versions_of rows) ++ (get_or (versions_of rows) j none ∷ []) = rw add-one (take-suc (versions_of rows) j none l) in
      rw (e, report-append, n, row_at, append-nil)

  pub report_hit : {v : ℕ} → get_or rows j d ≡ Some v
      → report 1 (take (j + 1) (versions_of rows)) ≡ report 1 (take j (versions_of rows)) ++ sent (Event.InterfaceVersion (j + 1) v)
  unfolding report_one
  report_hit t = report-more ∙ rw t

  -- its record, put behind those of the rows before it
  pub wrote_hit : {v : ℕ} → get_or rows j d ≡ Some v → {out mid later : List ℕ} {at n : ℕ}
      → Wrote out mid 0 at (report 1 (take j (versions_of rows))) at → PutWhole mid later at (sent (Event.InterfaceVersion (j + 1) v)) n
      → length (report 1 (versions_of rows)) ≤ length out → Wrote out later 0 (at + n) (report 1 (take (j + 1) (versions_of rows))) (at + n)
  wrote_hit {v} t {out} {at = at} {n = n} w put fits =
      let e = length-append (report 1 (take j (versions_of rows))) (sent (Event.InterfaceVersion (j + 1) v)) in
      let l = report-le (j + 1) (versions_of rows) in
      let g = ap length (report_hit t) in
      let v = wrote_put w put (omega (arith, w.long)) in
      record { buffer = rw (report_hit t) v.buffer; long = rw (report_hit t) (omega (arith, v.long, v.next)); next = omega arith }

  pub report_miss : get_or rows j d ≡ None → report 1 (take (j + 1) (versions_of rows)) ≡ report 1 (take j (versions_of rows))
  unfolding report_one
  report_miss t = report-more ∙ rw (t, append-nil)

-- whether an interface was negotiated
pub has-row : (rows : List (rust.Option ℕ)) (n : ℕ) (d : rust.Option ℕ) → n - 1 < length rows
    → rust.is_some (get_or rows (n - 1) d) ≡ is_some (version_of (versions_of rows) n)
unfolding version_of is_some
has-row rows n d h = rw (row_at rows (n - 1) d h) (go (get_or rows (n - 1) d))
  where
    go : (v : rust.Option ℕ) → rust.is_some v ≡ is_some (told v)
    go (Some v) = refl
    go None = refl

-- how many were negotiated
negotiated : List (rust.Option ℕ) → ℕ
negotiated [] = 0
negotiated (None ∷ rows) = negotiated rows
negotiated (Some v ∷ rows) = 1 + negotiated rows

negotiated_is : (rows : List (rust.Option ℕ)) → negotiated rows ≡ count_by rust.is_some rows
unfolding negotiated
negotiated_is = is_count_by negotiated rust.is_some refl step
  where
    step : (x : rust.Option ℕ) (xs : List (rust.Option ℕ)) → negotiated (x ∷ xs) ≡ cond (rust.is_some x) (1 + negotiated xs) (negotiated xs)
    step None xs = refl
    step (Some v) xs = refl

records : (i : ℕ) (rows : List (rust.Option ℕ)) → length (report i (versions_of rows)) ≡ negotiated rows * 15
unfolding report report_one negotiated
records i [] = refl
records i (None ∷ rows) = records (i + 1) rows
records i (Some v ∷ rows) =
    let h = records (i + 1) rows in
    rw (length-append, length-sent, length-version) (omega arith)

-- the report has a record for each of them
pub length_report : (rows : List (rust.Option ℕ)) → length (report 1 (versions_of rows)) ≡ count_by rust.is_some rows * 15
length_report rows = rw (← negotiated_is) (records 1 rows)

-- an array of rows has the length that its type says
pub length-rows : (X Y : Type 0) (f : X → Y) (l : List X) (n : ℕ) → length (map f l) ≡ n → length l ≡ n
length-rows X Y f l n p = sym (length-map l f) ∙ p

-- a row stored is a version stored
pub versions-set : (rows : List (rust.Option ℕ)) (i : ℕ) (row : rust.Option ℕ) → versions_of (set rows i row) ≡ set (versions_of rows) i (told row)
versions-set [] i row = refl
versions-set (r ∷ rows) zero row = refl
versions-set (r ∷ rows) (suc i) row = ap (λ (l : List (Option ℕ)). told r ∷ l) (versions-set rows i row)
