-- `wire::event::put_text` meets its contract: the text's place is a part of the buffer, and a text of no byte has none. Assumes nothing.
use mathlib.Core.Path.{◌≡◌, refl}
use Rattle.std.proofs.Common.{rules, tests}
use Rattle.std.proofs.lemmas.List.{nil_from_length}
use lib.ListN.{length}
use Rattle.wire.proofs.Splices.{splice_part, wrote_none}
use Rattle.wire.proofs.event.put_text.Goals as goal

-- nothing written is a text of no byte
pub returns-then-is_empty : goal.returns-then-is_empty
returns-then-is_empty c =
    let a = c.args in
    let z : length a.text.now ≡ 0 = search (rules, tests) in
    rw (nil_from_length a.text.now z) (wrote_none a.out.now a.at)

pub returns : goal.returns
returns c = record { buffer = splice_part c.args.out.now c.args.text.now _ c.args.at c.copy_from_slice.ensures.after c.requires; long = refl; next = refl }
