-- `utf8::eight_or` meets its contract. Assumes nothing.
use Rattle.utf8.proofs.Scan.{within-ors}
use Rattle.utf8.proofs.eight_or.Goals as goal

pub returns : goal.returns
returns c = let a = c.args in within-ors a.text.now a.at 7
