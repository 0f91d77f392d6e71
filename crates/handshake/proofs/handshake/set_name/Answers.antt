-- `handshake::handshake::set_name` meets its contract: a case of the definition for each answer. Assumes nothing.
use mathlib.Core.Path.{refl, sym, ◌∙◌}
use borrow.Author.Tests.{le-leb}
use lib.ListN.{length, take}
use Rattle.handshake.specs.View.{view_of, name_of, is_sound}
use Rattle.handshake.specs.declared.handshake.HandshakeError.{HandshakeError}
use Rattle.handshake.proofs.Answers.{refused-done, accepted-done}
use Rattle.handshake.proofs.Cases.{name-bad, name-long, name_twice, name-first}
use Rattle.handshake.proofs.handshake.set_name.Goals as goal

pub returns-then-not-valid : goal.returns-then-not-valid
returns-then-not-valid c =
    λ out.
    let a = c.args in
    refused-done a.h HandshakeError.BadUtf8 c.requires
    (name-bad (view_of a.h) (length out) a.text.now (sym c.if-not-valid.ensures))
    refl
    out

pub returns-then-text-gt-NAME_LENGTH_LIMIT : goal.returns-then-text-gt-NAME_LENGTH_LIMIT
returns-then-text-gt-NAME_LENGTH_LIMIT c =
    λ out.
    let a = c.args in
    refused-done a.h HandshakeError.NameLong c.requires
    (name-long (view_of a.h) (length out) a.text.now (sym c.if-not-valid.ensures) c.if-text-gt-NAME_LENGTH_LIMIT.true)
    refl
    out

pub returns-then-h : goal.returns-then-h
unfolding view_of name_of
returns-then-h c =
    λ out.
    let a = c.args in
    let valid = sym c.if-not-valid.ensures in
    refused-done a.h HandshakeError.DuplicateEvent c.requires
    (name_twice (view_of a.h) (length out) a.text.now valid c.if-text-gt-NAME_LENGTH_LIMIT.false {old = take a.h.name.length a.h.name.bytes} (rw c.if-h.true))
    refl
    out

pub returns : goal.returns
unfolding view_of name_of is_sound
returns c =
    λ out.
    let a = c.args in
    let n = c.name_of in
    let valid = sym c.if-not-valid.ensures in
    accepted-done a.h _ (le-leb n.result.length 254 n.ensures.1)
    (name-first (view_of a.h) (length out) a.text.now valid c.if-text-gt-NAME_LENGTH_LIMIT.false (rw c.if-h.false) ∙ rw n.ensures.0)
    refl
    out
