-- Lines: their words in turn, what they are, and where they end. Assumes nothing.
use Prim.Native.Nat.{ℕ, zero, suc, ◌+◌, ◌-◌, ◌≤◌, ◌<◌, min}
use mathlib.Core.Path.{◌≡◌, refl, sym, ap, ap₂, ◌∙◌, subst}
use mathlib.Core.Bool.{Bool, true, false, cond, ◌&&◌}
use mathlib.Core.List.{List, [], ◌∷◌, ◌++◌}
use mathlib.Core.Option as math
use mathlib.Core.Option.{none, some}
use Rattle.std.specs.Prelude.{Option, Some, None}
use mathlib.Core.Logic.{dite}
use native.Mathlib.Decide.{dec_lt}
use native.Mathlib.Omega.{arith}
use native.Mathlib.Numerals.{add-one}
use borrow.Author.Tests.{lt-ltb, le-ltb, eq-eqb, ne_eqb, ltb-true}
use lib.Dec.{eqb, ltb}
use lib.ListN.{length, get_or, take, drop, length-take, length-drop, drop_of_length-le}
use lib.Seq.{drop-cons, drop-drop, take_all, get_or-take, get_or-drop}
use Rattle.script.specs.declared.verb.Kind.{Kind}
use Rattle.script.specs.declared.value.Value.{Value}
use Rattle.script.specs.declared.line.Args.{Args}
use Rattle.script.specs.declared.line.LineEnd.{LineEnd}
use Rattle.eiproto.specs.Interface.{same_bytes}
use Rattle.script.specs.Words.{before, joined, words}
use Rattle.script.specs.Verbs.{Entry, settings, row_at, kinds_of, lookup_from, lookup, table, kind_at}
use Rattle.script.specs.Script.{Arg, blank, setting, call, no_call, read_as, read_args, behind, first, is_blank, reading}
use Rattle.script.specs.Told.{one, part, words_from, behind_space, present, Stepped, value_told, Given}
use Rattle.script.specs.Split.{filled, line_length, line_end}
use Rattle.script.proofs.Words.{some_eq, none_some, take-before, before-le}
use Rattle.script.proofs.Table.{row-kinds}

-- ---- the first word of a line, and the others

words-split : (l : List ℕ) → words l ≡ before 0x20 l ∷ behind_space (drop (length (before 0x20 l)) l)
unfolding words before
words-split [] = refl
words-split (c ∷ l) = go (eqb c 0x20) (words-split l)
  where
    go : (t : Bool) → words l ≡ before 0x20 l ∷ behind_space (drop (length (before 0x20 l)) l)
        → joined t c (words l)
        ≡ cond t [] (c ∷ before 0x20 l) ∷ behind_space (drop (length (cond t [] (c ∷ before 0x20 l))) (c ∷ l))
    go true e = refl
    go false e = rw e

module _ (line : List ℕ) where
  words-part : (from end : ℕ) → end ≡ from + length (before 0x20 (drop from line)) → words (drop from line) ≡ part from end line ∷ words_from end line
  unfolding words_from
  words-part from end e =
      let l = drop from line in
      let n : length (before 0x20 l) ≡ end - from = omega arith in
      words-split l
      ∙ ap₂ (λ (w : List ℕ) (ws : List (List ℕ)). w ∷ ws)
      (sym (take-before 0x20 l) ∙ ap (λ (k : ℕ). take k l) n)
      (ap behind_space (drop-drop (length (before 0x20 l)) from line ∙ ap (λ (k : ℕ). drop k line) (sym e)))

  pub words-first : (end : ℕ) → end ≡ 0 + length (before 0x20 (drop 0 line)) → words line ≡ take end line ∷ words_from end line
  words-first end e = let z : end - 0 ≡ end = omega arith in words-part 0 end e ∙ ap (λ (k : ℕ). take k line ∷ words_from end line) z

  words-behind : (at : ℕ) → at < length line → words_from at line ≡ words (drop (at + 1) line)
  unfolding words_from
  words-behind at h = rw (drop-cons line at 0 h, add-one)

  pub words_at : (at end : ℕ) → at < length line → end ≡ at + 1 + length (before 0x20 (drop (at + 1) line))
      → words_from at line ≡ part (at + 1) end line ∷ words_from end line
  words_at at end h e = words-behind at h ∙ words-part (at + 1) end e

  pub words-none : (at : ℕ) → length line ≤ at → words_from at line ≡ []
  unfolding words_from
  words-none at h = rw (drop_of_length-le line h)

-- ---- the words behind the first, slot by slot

module _ (rest : math.Option (List Arg)) where
  first_some : (o : math.Option Arg) (xs : List Arg) → some xs ≡ one o → first o rest ≡ behind xs rest
  first_some none xs e = absurd (let z : ◌≡◌ {A = ℕ} 0 1 = cc in omega arith)
  first_some (some x) xs e = let z : x ∷ [] ≡ xs = cc in ap (λ (l : List Arg). behind l rest) z

  first-none : (o : math.Option Arg) → none ≡ one o → first o rest ≡ none
  first-none none e = refl
  first-none (some x) e = absurd (let z : ◌≡◌ {A = ℕ} 0 1 = cc in omega arith)

pub one_value : (o : math.Option Arg) (xs : List Arg) → some xs ≡ one o → length xs ≡ 1
one_value none xs e = absurd (let z : ◌≡◌ {A = ℕ} 0 1 = cc in omega arith)
one_value (some x) xs e = let z : xs ≡ x ∷ [] = cc in ap length z

module _ (line : List ℕ) (at : ℕ) where
  pub slot-empty : (ks : List Kind) → read_args (present None ++ ks) (words_from at line) ≡ behind [] (read_args ks (words_from at line))
  slot-empty ks = go (read_args ks (words_from at line))
    where
      go : (o : math.Option (List Arg)) → o ≡ behind [] o
      go none = refl
      go (some xs) = refl

  pub slot-missing : (k : Kind) → length line ≤ at → (ks : List Kind) → read_args (present (Some k) ++ ks) (words_from at line) ≡ none
  unfolding read_args
  slot-missing k h ks = rw (words-none line at h)

  module _ (k : Kind) (end : ℕ) (h : at < length line) (e : end ≡ at + 1 + length (before 0x20 (drop (at + 1) line))) where
    pub slot_read : (xs : List Arg) → some xs ≡ one (read_as k (part (at + 1) end line)) → (ks : List Kind)
        → read_args (present (Some k) ++ ks) (words_from at line) ≡ behind xs (read_args ks (words_from end line))
    unfolding read_args
    slot_read xs f ks =
        rw (words_at line at end h e) (first_some (read_args ks (words_from end line)) (read_as k (part (at + 1) end line)) xs f)

    pub slot-bad : none ≡ one (read_as k (part (at + 1) end line)) → (ks : List Kind)
        → read_args (present (Some k) ++ ks) (words_from at line) ≡ none
    unfolding read_args
    slot-bad f ks = rw (words_at line at end h e) (first-none (read_args ks (words_from end line)) (read_as k (part (at + 1) end line)) f)

-- the kinds of a row from a place on
abbrev pub from1 : List Kind → List Kind
from1 ks = present (kind_at 1 ks) ++ (present (kind_at 2 ks) ++ (present (kind_at 3 ks) ++ []))

abbrev pub from2 : List Kind → List Kind
from2 ks = present (kind_at 2 ks) ++ (present (kind_at 3 ks) ++ [])

abbrev pub from3 : List Kind → List Kind
from3 ks = present (kind_at 3 ks) ++ []

split : (ks : List Kind) → length ks ≤ 4 → ks ≡ present (kind_at 0 ks) ++ from1 ks
split [] h = refl
split (a ∷ []) h = refl
split (a ∷ b ∷ []) h = refl
split (a ∷ b ∷ c ∷ []) h = refl
split (a ∷ b ∷ c ∷ d ∷ []) h = refl
split (a ∷ b ∷ c ∷ d ∷ e ∷ ks) h = absurd (omega arith)

-- a row's slots are filled from the first on
pub in_turn_lem : (k : ℕ) (ks : List Kind) → length (present (kind_at (suc k) ks)) ≤ length (present (kind_at k ks))
in_turn_lem zero [] = omega arith
in_turn_lem zero (a ∷ []) = omega arith
in_turn_lem zero (a ∷ b ∷ ks) = omega arith
in_turn_lem (suc k) [] = omega arith
in_turn_lem (suc k) (a ∷ ks) = in_turn_lem k ks

pub row-split : (i : ℕ) (r : Bool) → i < 59 → kinds_of r (row_at i) ≡ present (kind_at 0 (kinds_of r (row_at i))) ++ from1 (kinds_of r (row_at i))
row-split i r h = split (kinds_of r (row_at i)) (row-kinds i h r)

-- where no kind is left
module _ (line : List ℕ) (at : ℕ) where
  pub args_end : length line ≤ at → read_args [] (words_from at line) ≡ math.some []
  unfolding read_args
  args_end h = rw (words-none line at h)

  pub args_more : at < length line → read_args [] (words_from at line) ≡ math.none
  unfolding read_args
  args_more h = rw (words_at line at (at + 1 + length (before 0x20 (drop (at + 1) line))) h refl)

-- the words behind the first, slot by slot: where one stops it, there are no arguments
module _ (line : List ℕ) (at i : ℕ) (r : Bool) (h : i < 59) where
  begun : read_args (kinds_of r (row_at i)) (words_from at line) ≡ read_args (present (kind_at 0 (kinds_of r (row_at i))) ++ from1 (kinds_of r (row_at i))) (words_from at line)
  begun = ap (λ (l : List Kind). read_args l (words_from at line)) (row-split i r h)

  none_given : (q : Option Args) → q ≡ None → none ≡ read_args (kinds_of r (row_at i)) (words_from at line) → Given line at i r q
  none_given q n e = subst (Given line at i r) (sym n) (record { reads = e; in_turn = tt })

  pub none_a : (q : Option Args) → q ≡ None → Stepped line at (kind_at 0 (kinds_of r (row_at i))) None → Given line at i r q
  none_a q n s = none_given q n (sym (begun ∙ s (from1 (kinds_of r (row_at i)))))

  module _ (a : Value) (p : ℕ) (sa : Stepped line at (kind_at 0 (kinds_of r (row_at i))) (Some (a, p))) where
    after_a : read_args (kinds_of r (row_at i)) (words_from at line) ≡ behind (value_told line a) (read_args (from1 (kinds_of r (row_at i))) (words_from p line))
    after_a = begun ∙ sa.1.1 (from1 (kinds_of r (row_at i)))

    pub none_b : (q : Option Args) → q ≡ None → Stepped line p (kind_at 1 (kinds_of r (row_at i))) None → Given line at i r q
    none_b q n s = none_given q n (sym (after_a ∙ ap (behind (value_told line a)) (s (from2 (kinds_of r (row_at i))))))

    module _ (b : Value) (q : ℕ) (sb : Stepped line p (kind_at 1 (kinds_of r (row_at i))) (Some (b, q))) where
      after_b : read_args (kinds_of r (row_at i)) (words_from at line)
          ≡ behind (value_told line a) (behind (value_told line b) (read_args (from2 (kinds_of r (row_at i))) (words_from q line)))
      after_b = after_a ∙ ap (behind (value_told line a)) (sb.1.1 (from2 (kinds_of r (row_at i))))

      pub none_c : (g : Option Args) → g ≡ None → Stepped line q (kind_at 2 (kinds_of r (row_at i))) None → Given line at i r g
      none_c g n s =
          none_given g n
          (sym (after_b ∙ ap (λ (o : math.Option (List Arg)). behind (value_told line a) (behind (value_told line b) o)) (s (from3 (kinds_of r (row_at i))))))

      module _ (c : Value) (t : ℕ) (sc : Stepped line q (kind_at 2 (kinds_of r (row_at i))) (Some (c, t))) where
        abbrev three : math.Option (List Arg) → math.Option (List Arg)
        three o = behind (value_told line a) (behind (value_told line b) (behind (value_told line c) o))

        after_c : read_args (kinds_of r (row_at i)) (words_from at line) ≡ three (read_args (from3 (kinds_of r (row_at i))) (words_from t line))
        after_c =
            after_b
            ∙ ap (λ (o : math.Option (List Arg)). behind (value_told line a) (behind (value_told line b) o)) (sc.1.1 (from3 (kinds_of r (row_at i))))

        pub none_d : (g : Option Args) → g ≡ None → Stepped line t (kind_at 3 (kinds_of r (row_at i))) None → Given line at i r g
        none_d g n s = none_given g n (sym (after_c ∙ ap three (s [])))

        module _ (d : Value) (u : ℕ) (sd : Stepped line t (kind_at 3 (kinds_of r (row_at i))) (Some (d, u))) where
          after_d : read_args (kinds_of r (row_at i)) (words_from at line) ≡ three (behind (value_told line d) (read_args [] (words_from u line)))
          after_d = after_c ∙ ap three (sd.1.1 [])

          pub more_args : u < length line → Given line at i r None
          more_args m =
              none_given None refl
              (sym (after_d ∙ ap (λ (o : math.Option (List Arg)). three (behind (value_told line d) o)) (args_more line u m)))

          pub all_given : length line ≤ u → Given line at i r (Some (record { a = a; b = b; c = c; d = d }))
          all_given e = record {
            reads =
                sym (after_d ∙ ap (λ (o : math.Option (List Arg)). three (behind (value_told line d) o)) (args_end line u e));
            in_turn = (
              omega (arith, sa.1.0, sb.1.0, in_turn_lem 0 (kinds_of r (row_at i))),
              (omega (arith, sb.1.0, sc.1.0, in_turn_lem 1 (kinds_of r (row_at i))), omega (arith, sc.1.0, sd.1.0, in_turn_lem 2 (kinds_of r (row_at i)))),
            );
          }

-- ---- what a line is

found_below : (n : ℕ) (es : List Entry) (w : List ℕ) (i : ℕ) → some i ≡ lookup_from n es w → i < n + length es
unfolding lookup_from
found_below n [] w i e = absurd (let z : ◌≡◌ {A = ℕ} 0 1 = cc in omega arith)
found_below n (x ∷ es) w i e = go (same_bytes x.name w) e (λ f. found_below (n + 1) es w i f)
  where
    go : (t : Bool) → some i ≡ cond t (some n) (lookup_from (n + 1) es w) → (some i ≡ lookup_from (n + 1) es w → i < n + 1 + length es) → i < n + suc (length es)
    go true e f = let z : i ≡ n = cc in omega arith
    go false e f = omega (arith, f e)

pub row_below : (w : List ℕ) (i : ℕ) → some i ≡ lookup w → i < 59
unfolding lookup table
row_below w i e = omega (arith, found_below 0 table w i e)

pub reads-blank : (r : Bool) (line : List ℕ) → is_blank line ≡ true → blank ≡ reading r line
unfolding reading
reads-blank r line e = rw e

module _ (r : Bool) (line w : List ℕ) (ws : List (List ℕ)) (b : is_blank line ≡ false) (s : words line ≡ w ∷ ws) where
  pub reads_no_verb : none ≡ lookup w → no_call ≡ reading r line
  unfolding reading
  reads_no_verb e = rw (b, s, ← e)

  module _ (i : ℕ) (e : some i ≡ lookup w) where
    pub reads_no_args : none ≡ read_args (kinds_of r (row_at i)) ws → no_call ≡ reading r line
    unfolding reading
    reads_no_args f = rw (b, s, ← e, ← f)

    module _ (args : List Arg) (f : some args ≡ read_args (kinds_of r (row_at i)) ws) where
      pub reads-setting : i < 3 → setting (row_at i).verb args ≡ reading r line
      unfolding reading settings
      reads-setting h = rw (b, s, ← e, ← f, lt-ltb i 3 h)

      pub reads-call : 3 ≤ i → call (row_at i).verb args ≡ reading r line
      unfolding reading settings
      reads-call h = rw (b, s, ← e, ← f, le-ltb i 3 h)

-- ---- where a line ends

abbrev ended : (end next : ℕ) → LineEnd
ended end next = record { end = end; next = next }

no_length : (l : List ℕ) → length l ≡ 0 → line_length l ≡ 0
unfolding line_length
no_length [] e = refl
no_length (x ∷ l) e = absurd (omega arith)

module _ (l : List ℕ) where
  cut : 0 < length l → get_or l (length l - 1) 0 ≡ 0x0d → line_length l ≡ length l - 1
  unfolding line_length
  cut h e = rw (lt-ltb 0 (length l) h, eq-eqb (get_or l (length l - 1) 0) 0x0d e)

  whole : 0 < length l → (get_or l (length l - 1) 0 ≡ 0x0d → ⊥) → line_length l ≡ length l
  unfolding line_length
  whole h e = rw (lt-ltb 0 (length l) h, ne_eqb (get_or l (length l - 1) 0) 0x0d e)

module _ (buf : List ℕ) (from to stop : ℕ) (m : stop ≡ min to (length buf)) where
  pub stop-take : take stop buf ≡ take to buf
  stop-take =
      dite (dec_lt to (length buf)) (λ h. let z : stop ≡ to = omega arith in ap (λ (k : ℕ). take k buf) z)
      (λ h. take_all stop buf (omega arith) ∙ sym (take_all to buf (omega arith)))

  length-filled : length (filled buf from to) ≡ stop - from
  length-filled = omega (arith, length-drop from (take to buf), length-take to buf)

  pub end_empty : stop ≤ from → None ≡ line_end buf from to
  unfolding line_end
  end_empty h = rw (le-ltb (length (before 0x0a (filled buf from to))) (length (filled buf from to)) (omega (arith, length-filled)))

  module _ (h : from < stop) (r : ℕ) (e : r ≡ from + length (before 0x0a (drop from (take stop buf)))) where
    placed : r ≡ from + length (before 0x0a (filled buf from to))
    placed = e ∙ ap (λ (l : List ℕ). from + length (before 0x0a (drop from l))) stop-take

    pub end_below : r ≤ stop
    end_below = omega (arith, placed, before-le 0x0a (filled buf from to), length-filled)

    pub end_none : r ≡ stop → None ≡ line_end buf from to
    unfolding line_end
    end_none q = rw (le-ltb (length (before 0x0a (filled buf from to))) (length (filled buf from to)) (omega (arith, length-filled, placed)))

    module _ (q : r ≡ stop → ⊥) where
      at_end : (n : ℕ) → line_length (before 0x0a (filled buf from to)) ≡ n → Some (ended (from + n) (r + 1)) ≡ line_end buf from to
      unfolding line_end
      at_end n f =
          let k : length (before 0x0a (filled buf from to)) < length (filled buf from to) = omega (arith, end_below, length-filled, placed, q) in
          let g : from + length (before 0x0a (filled buf from to)) + 1 ≡ r + 1 = omega (arith, placed) in
          sym (rw (lt-ltb (length (before 0x0a (filled buf from to))) (length (filled buf from to)) k, f, g))

      pub end_short : r ≤ from → Some (ended r (r + 1)) ≡ line_end buf from to
      end_short g =
          let z : r ≡ from + 0 = omega (arith, placed) in
          ap (λ (k : ℕ). Some (ended k (r + 1))) z
          ∙ at_end 0 (no_length (before 0x0a (filled buf from to)) (omega (arith, placed)))

      -- the last byte before the newline
      last_byte : from < r → get_or (before 0x0a (filled buf from to)) (length (before 0x0a (filled buf from to)) - 1) 0 ≡ get_or buf (r - 1) 0
      last_byte g =
          let p = filled buf from to in
          let l = before 0x0a p in
          let k = length l - 1 in
          let u : k < length l = omega (arith, placed) in
          let v : from + k < to = omega (arith, placed, before-le 0x0a p, length-filled) in
          let x : from + k ≡ r - 1 = omega (arith, placed) in
          ap (λ (y : List ℕ). get_or y k 0) (sym (take-before 0x0a p)) ∙ get_or-take (length l) p k 0 u
          ∙ get_or-drop from (take to buf) k 0
          ∙ get_or-take to buf (from + k) 0 v
          ∙ ap (λ (y : ℕ). get_or buf y 0) x

      pub end_return : from < r → get_or buf (r - 1) 0 ≡ 0x0d → Some (ended (r - 1) (r + 1)) ≡ line_end buf from to
      end_return g f =
          let l = before 0x0a (filled buf from to) in
          let z : r - 1 ≡ from + (length l - 1) = omega (arith, placed, g) in
          ap (λ (k : ℕ). Some (ended k (r + 1))) z ∙ at_end (length l - 1) (cut l (omega (arith, placed, g)) (last_byte g ∙ f))

      pub end-plain : from < r → (get_or buf (r - 1) 0 ≡ 0x0d → ⊥) → Some (ended r (r + 1)) ≡ line_end buf from to
      end-plain g f =
          let l = before 0x0a (filled buf from to) in
          let z : r ≡ from + length l = placed in
          ap (λ (k : ℕ). Some (ended k (r + 1))) z ∙ at_end (length l) (whole l (omega (arith, placed, g)) (λ e. f (sym (last_byte g) ∙ e)))

line_length_lem : (l : List ℕ) → line_length l ≤ length l
unfolding line_length
line_length_lem l = go (ltb 0 (length l) && eqb (get_or l (length l - 1) 0) 0x0d)
  where
    go : (t : Bool) → cond t (length l - 1) (length l) ≤ length l
    go true = omega arith
    go false = omega arith

-- an end that is found lies in what is filled, and the next line begins behind it
pub end_bounds : (buf : List ℕ) (from to : ℕ) (r : LineEnd) → line_end buf from to ≡ Some r
    → (from ≤ r.end) × ((r.end < r.next) × ((r.next ≤ to) × (r.next ≤ length buf)))
unfolding line_end
end_bounds buf from to r e = go (ltb (length l) (length (filled buf from to))) refl e
  where
    l : List ℕ
    l = before 0x0a (filled buf from to)

    go : (t : Bool) → ltb (length l) (length (filled buf from to)) ≡ t
        → cond t (Some (ended (from + line_length l) (from + length l + 1))) None ≡ Some r
        → (from ≤ r.end) × ((r.end < r.next) × ((r.next ≤ to) × (r.next ≤ length buf)))
    go true q f =
        let a : from + line_length l ≡ r.end = ap (λ (x : LineEnd). x.end) (some_eq f) in
        let b : from + length l + 1 ≡ r.next = ap (λ (x : LineEnd). x.next) (some_eq f) in
        let h = ltb-true (length l) (length (filled buf from to)) q in
        let m = length-drop from (take to buf) in
        let n = length-take to buf in
        let s = line_length_lem l in
        (omega arith, (omega arith, (omega arith, omega arith)))
    go false q f = absurd (none_some f)
