-- `handshake::handshake::report_length` meets its contract: a record of one length for each version. Assumes nothing.
use mathlib.Core.Path.{◌≡◌, ◌∙◌}
use native.Mathlib.Omega.{arith}
use borrow.Author.Rules.{rules}
use lib.ListN.{length}
use Rattle.std.specs.Prelude.{count_by, is_some}
use Rattle.std.proofs.lemmas.List.Sums.{count_by-le-length}
use Rattle.handshake.proofs.Reports.{length-version, length_report, length-rows}
use Rattle.handshake.proofs.handshake.report_length.Goals as goal

pub overflow_mul-result : goal.overflow_mul-result
overflow_mul-result c =
    let rows = c.args.interfaces in
    let n : c.count-negotiated.result ≡ count_by is_some rows = search rules in
    let l : length rows ≡ 12 = search (rules, length-rows) in
    let e : c.fixed_length.result ≡ 15 = c.fixed_length.ensures ∙ simp length-version in
    rw e (omega (arith, n, l, count_by-le-length is_some rows))

pub returns : goal.returns
returns c =
    let n : c.count-negotiated.result ≡ count_by is_some c.args.interfaces = search rules in
    let e : c.fixed_length.result ≡ 15 = c.fixed_length.ensures ∙ simp length-version in
    rw (n, e, length_report)
