-- Calls that were sent one after another. Assumes nothing.
use Rattle.std.proofs.Common.{◌≡◌, ℕ, suc, ◌+◌, ◌%◌, ◌^◌, ◌<◌, ◌≤◌, List, [], ◌∷◌, ◌++◌, length, sym, ap, ◌∙◌, subst, mod-eq_of_lt, arith}
use Rattle.requests.specs.declared.eis.Request.{Request}
use Rattle.model.specs.Call.{Input, Call}
use Rattle.session.specs.View.{Store}
use Rattle.handlers.specs.Call.{call_of}
use Rattle.eiproto.specs.declared.eiproto_enum.KeyState.{KeyState}
use Rattle.converter.specs.Next.{Delivered}
use Rattle.std.specs.Prelude.{Option, Some, None, Result, Ok, Err}
use Rattle.answers.specs.declared.Error.{Error}
use Rattle.requests.specs.declared.request.EisRequest.{EisRequest}
use Rattle.bench_calls.specs.Sent.{Sent, device, key, presses, given_by, Asked}

pub sent_join : {s m e : Store} {xs ys : List (Call Input)} → Sent s xs m → Sent m ys e → Sent s (xs ++ ys) e
sent_join Sent.none q = q
sent_join (Sent.sent a p) q = Sent.sent a (sent_join p q)

-- a request that a function made, as what it is
pub sent_as : {s e : Store} {r r' : Request} (object : ℕ) → r ≡ r' → Sent s (call_of r object 2 [] ∷ []) e → Sent s (call_of r' object 2 [] ∷ []) e
sent_as {s} {e} object p x = subst (λ (q : Request). Sent s (call_of q object 2 [] ∷ []) e) p x

pub pressed-more : {s m e : Store} (n : ℕ) → Sent s (presses n) m → Sent m (key (device + 1) n KeyState.Press ∷ []) e → Sent s (presses (n + 1)) e
unfolding presses
pressed-more {s} {e = e} n p q = let z : suc n ≡ n + 1 = omega arith in subst (λ (k : ℕ). Sent s (presses k) e) z (sent_join p q)

-- at the end of a loop the count is what was asked for
pub pressed_all : {s e : Store} {n : ℕ} (j : ℕ) → j ≡ n → Sent s (presses j) e → Sent s (presses n) e
pressed_all {s} {e} j p x = subst (λ (k : ℕ). Sent s (presses k) e) p x

pub asked_all : {room given n : ℕ} {s e : Store} (j : ℕ) → j ≡ n → Asked room j s e given → Asked room n s e given
asked_all {room} {given} {s = s} {e} j p x = subst (λ (k : ℕ). Asked room k s e given) p x

given_one : (r : Result (Option EisRequest) Error) → given_by r ≤ 1
given_one (Ok (Some r)) = omega arith
given_one (Ok None) = omega arith
given_one (Err e) = omega arith

-- asked once more: what was given so far and what is given now is the sum that the code has, which does not wrap
pub asked-more : {room times given now total : ℕ} {s m e : Store} {buffer later : List ℕ} (answer : Result (Option EisRequest) Error)
    → times + 1 < 2 ^ 64 → given ≤ times → now ≡ given_by answer → total ≡ (given + now) % 2 ^ 64
    → Asked room times s m given → length buffer ≡ room → Delivered m e buffer later answer
    → (total ≤ times + 1) × Asked room (times + 1) s e total
asked-more {room} {times} {given} {now} {total} {s} {e = e} answer low few is sum a long d =
    let one = given_one answer in
    let exact : total ≡ given + given_by answer = sum ∙ mod-eq_of_lt (omega (arith, few, is, one, low)) ∙ ap (λ (k : ℕ). given + k) is in
    (omega (arith, exact, few, one), subst (λ (k : ℕ). Asked room (times + 1) s e k) (sym exact) (Asked.asked a long d))
