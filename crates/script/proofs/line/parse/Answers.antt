-- The first word ends at the first space, and its row says what the others are. Assumes nothing.
use mathlib.Core.Path.{sym, ap, ◌∙◌, subst}
use native.Mathlib.Omega.{arith}
use lib.ListN.{take}
use lib.Seq.{length-take-le}
use Rattle.script.specs.declared.verb.Verb.{Verb}
use Rattle.eiproto.specs.Told.{told}
use Rattle.script.specs.Script.{setting, call}
use Rattle.script.specs.Told.{args_read, args_told, words_from, ReadInTurn}
use Rattle.script.proofs.Words.{before-le}
use Rattle.script.proofs.Lines.{words-first, row_below, reads-blank, reads_no_verb, reads_no_args, reads-setting, reads-call}
use Rattle.script.proofs.line.parse.Goals as goal

pub returns-then-is_blank : goal.returns-then-is_blank
returns-then-is_blank c =
    record {
      reads = reads-blank c.args.within c.args.line.now (sym c.is_blank.ensures ∙ c.if-is_blank.true);
      in_turn = tt;
    }

pub slice_bounds-find-end : goal.slice_bounds-find-end
slice_bounds-find-end c =
    sym (length-take-le c.find_byte-end.result c.args.line.now (omega (arith, c.find_byte-end.ensures, before-le 0x20 c.args.line.now)))

pub returns-in_default : goal.returns-in_default
returns-in_default c =
    let w = c.args.line.now in
    let e = c.find_byte-end in
    record {
      reads = reads_no_verb c.args.within w (take e.result w) (words_from e.result w) (sym c.is_blank.ensures ∙ c.if-is_blank.false) (words-first w e.result e.ensures)
          (ap told (sym c.in_default.is) ∙ c.find.ensures.row);
      in_turn = tt;
    }

pub read_args-requires : goal.read_args-requires
read_args-requires c =
    let w = c.args.line.now in
    let e = c.find_byte-end in (
      omega (arith, e.ensures, before-le 0x20 w),
      row_below (take e.result w) c.in-Some.i (ap told (sym c.in-Some.is) ∙ c.find.ensures.row),
    )

pub returns-in_default-read_args : goal.returns-in_default-read_args
returns-in_default-read_args c =
    let w = c.args.line.now in
    let e = c.find_byte-end in
    record {
      reads = reads_no_args c.args.within w (take e.result w) (words_from e.result w) (sym c.is_blank.ensures ∙ c.if-is_blank.false) (words-first w e.result e.ensures)
          c.in-Some.i (ap told (sym c.in-Some.is) ∙ c.find.ensures.row)
          (ap (args_read w) (sym c.in_default-read_args.is) ∙ c.read_args.ensures.reads);
      in_turn = tt;
    }

pub returns-then-i-lt-SETTINGS : goal.returns-then-i-lt-SETTINGS
returns-then-i-lt-SETTINGS c =
    let w = c.args.line.now in
    let e = c.find_byte-end in
    record {
      reads = ap (λ (v : Verb). setting v (args_told w c.in-Some-read_args.args)) c.verb_at-verb.ensures
          ∙ reads-setting c.args.within w (take e.result w) (words_from e.result w) (sym c.is_blank.ensures ∙ c.if-is_blank.false) (words-first w e.result e.ensures)
          c.in-Some.i (ap told (sym c.in-Some.is) ∙ c.find.ensures.row)
          (args_told w c.in-Some-read_args.args) (ap (args_read w) (sym c.in-Some-read_args.is) ∙ c.read_args.ensures.reads) c.if-i-lt-SETTINGS.true;
      in_turn = subst (ReadInTurn w) c.in-Some-read_args.is c.read_args.ensures.in_turn;
    }

pub returns-else-i-lt-SETTINGS : goal.returns-else-i-lt-SETTINGS
returns-else-i-lt-SETTINGS c =
    let w = c.args.line.now in
    let e = c.find_byte-end in
    record {
      reads = ap (λ (v : Verb). call v (args_told w c.in-Some-read_args.args)) c.verb_at-verb.ensures
          ∙ reads-call c.args.within w (take e.result w) (words_from e.result w) (sym c.is_blank.ensures ∙ c.if-is_blank.false) (words-first w e.result e.ensures)
          c.in-Some.i (ap told (sym c.in-Some.is) ∙ c.find.ensures.row)
          (args_told w c.in-Some-read_args.args) (ap (args_read w) (sym c.in-Some-read_args.is) ∙ c.read_args.ensures.reads) c.if-i-lt-SETTINGS.false;
      in_turn = subst (ReadInTurn w) c.in-Some-read_args.is c.read_args.ensures.in_turn;
    }
