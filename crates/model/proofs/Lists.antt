-- One device among others, told by a test: laws on what it has, each over the test's value, so that no proof splits a test in place. Assumes nothing.
use Prim.Native.Nat.{ℕ, ◌+◌, ◌≤◌, ◌<◌}
use mathlib.Core.Path.{◌≡◌, refl, ap, sym, ◌∙◌}
use mathlib.Core.Bool.{Bool, true, false, cond}
use mathlib.Core.List.{List, [], ◌∷◌, ◌++◌, append-nil, append_assoc}
use native.Mathlib.Omega.{arith}
use Rattle.model.specs.Reachable.{count_of}

pub count-append : (x : ℕ) (xs ys : List ℕ) → count_of x (xs ++ ys) ≡ count_of x xs + count_of x ys
unfolding count_of
count-append x [] ys = omega arith
count-append x (y ∷ xs) ys = omega (arith, count-append x xs ys)

module _ {A : Type 0} where
  pub cond-nil : (b : Bool) → cond {A = List A} b [] [] ≡ []
  cond-nil true = refl
  cond-nil false = refl

  pub cond-cons : (b : Bool) (x : A) (xs : List A) → cond b (x ∷ []) [] ++ cond b xs [] ≡ cond b (x ∷ xs) []
  cond-cons true x xs = refl
  cond-cons false x xs = refl

  -- below, `xs` is what the device has, and `ys` what the n like it have that stand behind it
  pub none-cons : (b : Bool) (xs ys : List A) (n : ℕ) → (n ≡ 0 → ys ≡ []) → cond b 1 0 + n ≡ 0 → cond b xs [] ++ ys ≡ []
  none-cons true xs ys n h e = absurd (omega arith)
  none-cons false xs ys n h e = h (omega arith)

  -- one thing more at the end of what it has
  pub pend-cons : (b : Bool) (xs ys : List A) (x : A) (n : ℕ) → (n ≡ 0 → ys ≡ []) → cond b 1 0 + n ≤ 1 →
      cond b (xs ++ (x ∷ [])) [] ++ ys ≡ (cond b xs [] ++ ys) ++ cond b (x ∷ []) []
  pend-cons true xs ys x n h e = rw (h (omega arith)) (simp append-nil)
  pend-cons false xs ys x n h e = sym (append-nil ys)

  -- all that it has taken out
  pub empty-cons : (b : Bool) (xs ys : List A) → cond b xs [] ++ (cond b [] [] ++ ys) ≡ cond b xs [] ++ ys
  empty-cons true xs ys = refl
  empty-cons false xs ys = refl

  -- taken out further on: nothing of it goes past what stands before
  pub pass_cons : (b : Bool) (xs out ys zs : List A) (n : ℕ) → (n ≡ 0 → out ≡ []) → cond b 1 0 + n ≤ 1 → out ++ ys ≡ zs →
      out ++ (cond b xs [] ++ ys) ≡ cond b xs [] ++ zs
  pass_cons true xs out ys zs n h e q = rw (h (omega arith)) (ap (λ r. xs ++ r) (rw (h (omega arith)) at q))
  pass_cons false xs out ys zs n h e q = q

-- devices removed: none of them is the one, or fewer like it stand
pub data Fewer {A : Type 0} (n : ℕ) (xs : List A) (n' : ℕ) (xs' : List A) : Type 0 where
  same : n' ≡ n → xs' ≡ xs → Fewer n xs n' xs'
  fewer : n' < n → Fewer n xs n' xs'

module _ {A : Type 0} {n n' : ℕ} {xs xs' : List A} where
  pub fewer_keep : (b : Bool) (ps : List A) → Fewer n xs n' xs' → Fewer (cond b 1 0 + n) (cond b ps [] ++ xs) (cond b 1 0 + n') (cond b ps [] ++ xs')
  fewer_keep b ps (same e q) = same (rw e) (rw q)
  fewer_keep b ps (fewer h) = fewer (omega arith)

  pub fewer-drop : (b : Bool) (ps : List A) → Fewer n xs n' xs' → Fewer (cond b 1 0 + n) (cond b ps [] ++ xs) n' xs'
  fewer-drop true ps (same e q) = fewer (omega arith)
  fewer-drop true ps (fewer h) = fewer (omega arith)
  fewer-drop false ps (same e q) = same (omega arith) q
  fewer-drop false ps (fewer h) = fewer (omega arith)

-- one more before those that stand no more (`c` tells whether the one stands, `b` whether this is it, `c'` whether this stands): what they have of the one
pub gone_cons : {A : Type 0} (b c' c : Bool) → (b ≡ true → c' ≡ c) → (xs ys zs : List A) → zs ≡ cond c [] ys →
    cond c' [] (cond b xs []) ++ zs ≡ cond c [] (cond b xs [] ++ ys)
gone_cons true c' c h xs ys zs e = rw (h refl) (go c e)
  where
    go : (c : Bool) → zs ≡ cond c [] ys → cond c [] xs ++ zs ≡ cond c [] (xs ++ ys)
    go true e = e
    go false e = ap (λ r. xs ++ r) e
gone_cons false c' c h xs ys zs e = rw (cond-nil {A = _} c') e

-- and how many of them are the one
pub gone-sum : (b c' c : Bool) → (b ≡ true → c' ≡ c) → (n m : ℕ) → m ≡ cond c 0 n → cond c' 0 (cond b 1 0) + m ≡ cond c 0 (cond b 1 0 + n)
gone-sum true c' c h n m e = rw (h refl) (go c e)
  where
    go : (c : Bool) → m ≡ cond c 0 n → cond c 0 1 + m ≡ cond c 0 (1 + n)
    go true e = omega arith
    go false e = omega arith
gone-sum false c' c h n m e = go c' c e
  where
    go : (c' c : Bool) → m ≡ cond c 0 n → cond c' 0 0 + m ≡ cond c 0 (0 + n)
    go true true e = omega arith
    go true false e = omega arith
    go false true e = omega arith
    go false false e = omega arith

-- some go out at the front of a list and others come in at its end, twice
pub moved_twice : {A : Type 0} (rs out mid out' last more more' : List A) → out ++ mid ≡ rs ++ more → out' ++ last ≡ mid ++ more' →
    (out ++ out') ++ last ≡ rs ++ (more ++ more')
moved_twice {A} rs out mid out' last more more' e e' =
    append_assoc out out' last
    ∙ ap (λ (x : List A). out ++ x) e'
    ∙ sym (append_assoc out mid more')
    ∙ ap (λ (x : List A). x ++ more') e
    ∙ append_assoc rs more more'

-- taken is given, queued, pending and lost, in this order
module _ {A : Type 0} (taken given queued pending lost : List A) (e : taken ≡ given ++ (queued ++ (pending ++ lost))) where
  pub idle_sum : taken ++ [] ≡ (given ++ []) ++ (queued ++ (pending ++ lost))
  idle_sum = simp append-nil e

  pub pend-sum : (new : List A) → lost ≡ [] → taken ++ new ≡ (given ++ []) ++ (queued ++ ((pending ++ new) ++ lost))
  pend-sum new z = rw (e, z) (simp (append-nil, append_assoc))

  pub frame-sum : (framed left : List A) → framed ++ left ≡ pending → taken ++ [] ≡ (given ++ []) ++ ((queued ++ framed) ++ (left ++ lost))
  frame-sum framed left q = rw (e, ← q) (simp (append-nil, append_assoc))

  pub deliver-sum : (first rest : List A) → first ++ rest ≡ queued → taken ++ [] ≡ (given ++ first) ++ (rest ++ (pending ++ lost))
  deliver-sum first rest q = rw (e, ← q) (simp (append-nil, append_assoc))

  -- what is pending is lost, where nothing was before
  pub clear_sum : lost ≡ [] → taken ≡ given ++ (queued ++ ([] ++ (lost ++ pending)))
  clear_sum z = rw (e, z) (simp append-nil)
