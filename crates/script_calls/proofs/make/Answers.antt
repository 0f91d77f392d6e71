-- Each group as its own contract has it. Assumes nothing.
use Rattle.script_calls.proofs.Stations.{for_station}
use Rattle.script_calls.specs.Station.{is_lent, lent_bytes}
use Rattle.script_calls.proofs.make.Goals as goal

pub returns-in-Add : goal.returns-in-Add
returns-in-Add c =
    let t = c.args.text in
    λ clock u. for_station (is_lent t) (lent_bytes t) clock c.in-Add.is (c.add.ensures clock c.args.words.now c.args.reals.now u)

pub returns-in-Remove : goal.returns-in-Remove
returns-in-Remove c =
    let t = c.args.text in
    λ clock u. for_station (is_lent t) (lent_bytes t) clock c.in-Remove.is (c.remove.ensures clock u)

pub returns-in-Tell : goal.returns-in-Tell
returns-in-Tell c =
    let t = c.args.text in
    λ clock u. for_station (is_lent t) (lent_bytes t) clock c.in-Tell.is (c.tell.ensures clock c.args.words.now c.args.reals.now u)

pub returns-in-Ask : goal.returns-in-Ask
returns-in-Ask c =
    let t = c.args.text in
    λ clock u. for_station (is_lent t) (lent_bytes t) clock c.in-Ask.is (rw c.or_empty.ensures at (c.ask.ensures clock c.args.out.now c.args.words.now c.args.reals.now u))
