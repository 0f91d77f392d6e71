-- `handshake::handshake::negotiate` meets its contract: a case of the definition for each answer, and a row stored is a version stored. Assumes nothing.
use mathlib.Core.Path.{refl, sym, ap, ◌∙◌}
use native.Mathlib.Omega.{arith}
use lib.ListN.{length}
use Rattle.eiproto.specs.Told.{told}
use Rattle.handshake.specs.Handshake.{negotiate}
use Rattle.handshake.specs.View.{view_of, is_sound}
use Rattle.handshake.specs.declared.handshake.HandshakeError.{HandshakeError}
use Rattle.handshake.proofs.Answers.{refused-done, accepted-done}
use Rattle.handshake.proofs.Cases.{found_in, version-bad, version-set}
use Rattle.handshake.proofs.Reports.{versions-set}
use Rattle.handshake.proofs.handshake.negotiate.Goals as goal

pub returns-then-not-valid : goal.returns-then-not-valid
returns-then-not-valid c =
    λ out.
    let a = c.args in
    refused-done a.h HandshakeError.BadUtf8 c.requires
    (version-bad (view_of a.h) (length out) a.text.now a.version (sym c.if-not-valid.ensures))
    refl
    out

pub overflow_sub-number : goal.overflow_sub-number
overflow_sub-number c =
    let e = found_in c.args.text.now _ c.find.ensures c.in-Some.is in
    omega (arith, e.0)

pub bounds-agreed-number : goal.bounds-agreed-number
bounds-agreed-number c =
    let e = found_in c.args.text.now _ c.find.ensures c.in-Some.is in
    omega (arith, e.1)

pub returns-in-Some : goal.returns-in-Some
unfolding view_of is_sound negotiate
returns-in-Some c =
    λ out.
    let a = c.args in
    let valid = sym c.if-not-valid.ensures in
    let found = sym (ap told c.in-Some.is) ∙ c.find.ensures in
    accepted-done a.h _ c.requires
    (version-set (view_of a.h) (length out) a.text.now valid a.version found
    ∙ rw (versions-set, c.min.ensures, c.version.ensures))
    refl
    out

pub returns-in_default : goal.returns-in_default
unfolding view_of negotiate
returns-in_default c =
    λ out.
    let a = c.args in
    let valid = sym c.if-not-valid.ensures in
    let found = sym (ap told c.in_default.is) ∙ c.find.ensures in
    accepted-done a.h a.h c.requires
    (version-set (view_of a.h) (length out) a.text.now valid a.version found)
    refl
    out
