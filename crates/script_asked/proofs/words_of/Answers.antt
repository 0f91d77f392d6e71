-- Each word as its call read it. Assumes nothing.
use mathlib.Core.Path.{◌∙◌}
use mir.Facts.{to_z-of_z}
use mir.Syntax.{w32}
use mir.Val.{SFits}
use Rattle.script_asked.proofs.Reading.{read_words_lem}
use borrow.Author.Rules.{rules}
use Rattle.script_asked.proofs.words_of.Goals as goal

pub returns : goal.returns
returns c =
    let bi : SFits w32 c.i32_of.result = search rules in
    let ci : SFits w32 c.i32_of-2.result = search rules in
    read_words_lem c.args.args
    c.u64_of.ensures
    c.u32_of.ensures
    c.u64_of-2.ensures
    c.u32_of-2.ensures
    c.u64_of-3.ensures
    c.u32_of-3.ensures
    c.u64_of-4.ensures
    c.u32_of-4.ensures
    c.f32_of.ensures
    c.f32_of-2.ensures
    c.f32_of-3.ensures
    (to_z-of_z bi ∙ c.i32_of.ensures)
    (to_z-of_z ci ∙ c.i32_of-2.ensures)
    c.key_state.ensures
    c.button_state.ensures
    c.device_type.ensures
    c.reason_of.ensures
    c.capability_of.ensures
