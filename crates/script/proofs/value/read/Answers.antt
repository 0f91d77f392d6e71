-- Each kind has its arm. Assumes nothing.
use mathlib.Core.Path.{◌∙◌}
use Rattle.script.specs.declared.verb.Kind.{Kind}
use Rattle.script.specs.Script.{read_as}
use Rattle.script.specs.Told.{part}
use Rattle.script.proofs.Values.{as_kind}
use Rattle.script.proofs.value.read.Goals as goal

pub returns-in-U64 : goal.returns-in-U64
unfolding read_as
returns-in-U64 c =
    let a = c.args in
    c.unsigned64.ensures a.line.now ∙ as_kind (part a.from a.end a.line.now) a.kind Kind.U64 c.in-U64.is

pub returns-in-U32 : goal.returns-in-U32
unfolding read_as
returns-in-U32 c =
    let a = c.args in
    c.unsigned32.ensures a.line.now ∙ as_kind (part a.from a.end a.line.now) a.kind Kind.U32 c.in-U32.is

pub returns-in-I32 : goal.returns-in-I32
unfolding read_as
returns-in-I32 c =
    let a = c.args in
    c.signed.ensures a.line.now ∙ as_kind (part a.from a.end a.line.now) a.kind Kind.I32 c.in-I32.is

pub returns-in-F32 : goal.returns-in-F32
unfolding read_as
returns-in-F32 c =
    let a = c.args in
    c.float.ensures a.line.now ∙ as_kind (part a.from a.end a.line.now) a.kind Kind.F32 c.in-F32.is

pub returns-in-Text : goal.returns-in-Text
unfolding read_as
returns-in-Text c =
    let a = c.args in
    c.text_in.ensures ∙ as_kind (part a.from a.end a.line.now) a.kind Kind.Text c.in-Text.is

pub returns-in-State : goal.returns-in-State
unfolding read_as
returns-in-State c =
    let a = c.args in
    c.unsigned32-in-State.ensures a.line.now ∙ as_kind (part a.from a.end a.line.now) a.kind Kind.State c.in-State.is

pub returns-in-TypeNumber : goal.returns-in-TypeNumber
unfolding read_as
returns-in-TypeNumber c =
    let a = c.args in
    c.unsigned32-in-TypeNumber.ensures a.line.now ∙ as_kind (part a.from a.end a.line.now) a.kind Kind.TypeNumber c.in-TypeNumber.is

pub returns-in-Reason : goal.returns-in-Reason
unfolding read_as
returns-in-Reason c =
    let a = c.args in
    c.unsigned32-in-Reason.ensures a.line.now ∙ as_kind (part a.from a.end a.line.now) a.kind Kind.Reason c.in-Reason.is

pub returns-in-Capability : goal.returns-in-Capability
unfolding read_as
returns-in-Capability c =
    let a = c.args in
    c.capability.ensures a.line.now ∙ as_kind (part a.from a.end a.line.now) a.kind Kind.Capability c.in-Capability.is

pub returns-in-Count : goal.returns-in-Count
unfolding read_as
returns-in-Count c =
    let a = c.args in
    c.unsigned32-in-Count.ensures a.line.now ∙ as_kind (part a.from a.end a.line.now) a.kind Kind.Count c.in-Count.is

pub returns-in-Part : goal.returns-in-Part
unfolding read_as
returns-in-Part c =
    let a = c.args in
    c.part_of_texts.ensures a.line.now ∙ as_kind (part a.from a.end a.line.now) a.kind Kind.Part c.in-Part.is

pub returns-in-Interface : goal.returns-in-Interface
unfolding read_as
returns-in-Interface c =
    let a = c.args in
    c.unsigned32-in-Interface.ensures a.line.now ∙ as_kind (part a.from a.end a.line.now) a.kind Kind.Interface c.in-Interface.is
