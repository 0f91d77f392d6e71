-- The bytes and the versions are stored whole, the five words before the versions one by one. Assumes nothing.
use Prim.Native.Nat.{◌<◌}
use mathlib.Core.Path.{◌≡◌, ap, ◌∙◌}
use native.Mathlib.Omega.{arith}
use lib.Dec.{eqb}
use lib.ListN.{length, length-set}
use Rattle.lent_handshake.specs.Lent.{context_at}
use Rattle.lent_handshake.proofs.Words.{lent_parts, said_word, store_is, store-held}
use Rattle.lent_handshake.proofs.store.Goals as goal

pub bounds-words-1 : goal.bounds-words-1
bounds-words-1 c =
    simp length-set (omega (arith, (lent_parts _ _ c.requires.0).0))

pub bounds-words-2 : goal.bounds-words-2
bounds-words-2 c =
    simp length-set (omega (arith, (lent_parts _ _ c.requires.0).0))

pub bounds-words-3 : goal.bounds-words-3
bounds-words-3 c =
    simp length-set (omega (arith, (lent_parts _ _ c.requires.0).0))

pub bounds-words-4 : goal.bounds-words-4
bounds-words-4 c =
    simp length-set (omega (arith, (lent_parts _ _ c.requires.0).0))

pub returns : goal.returns
returns c =
    let h = c.args.h in
    let l : (length c.args.words.now ≡ 17) × (length c.args.name.now ≡ 254) = lent_parts _ _ c.requires.0 in
    let words = c.store_versions.new.words in
    let name = c.copy_from_slice.new.self in
    let w : length words ≡ 17 = c.store_versions.auto.words ∙ l.0 in
    let n : length name ≡ 254 = c.copy_from_slice.auto.self ∙ l.1 in
    let serial : h.serial < 4294967296 = omega arith in
    let given : h.name.given ≡ eqb c.from.result 1 = rw c.from.ensures (said_word h.name.given) in
    let context = ap context_at c.from-2.ensures ∙ c.context_word.ensures.1 in
    rw c.from-3.ensures
    (store-held name h c.from.result c.from-2.result words w n c.requires.1, store_is name h c.from.result c.from-2.result words w given context serial c.copy_from_slice.ensures.after c.store_versions.ensures)
