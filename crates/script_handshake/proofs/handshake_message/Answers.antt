-- Each arm is its row. Assumes nothing.
use mathlib.Core.Path.{◌≡◌, refl, sym, ◌∙◌, ap}
use Rattle.handshake.specs.declared.handshake.HandshakeMessage.{HandshakeMessage}
use Rattle.eiproto.specs.declared.eiproto_enum.ContextType.{ContextType}
use Rattle.eiproto.specs.declared.eiproto_enum.InvalidVariant.{InvalidVariant}
use Rattle.std.specs.Prelude.{Result, Ok, Err}
use Rattle.std.specs.Result.{result_unwrap_or}
use Rattle.script_handshake.specs.Shaken.{context_case, handshake_message}
use Rattle.script_handshake.proofs.handshake_message.Goals as goal

by_case : (r : Result ContextType InvalidVariant) → result_unwrap_or r ContextType.Receiver ≡ context_case r
by_case (Ok x) = refl
by_case (Err n) = refl

pub returns-in-HandshakeVersion : goal.returns-in-HandshakeVersion
returns-in-HandshakeVersion c = sym (ap handshake_message c.in-HandshakeVersion.is)

pub returns-in-ContextType : goal.returns-in-ContextType
returns-in-ContextType c =
    ap HandshakeMessage.ContextType (c.unwrap_or.ensures ∙ by_case c.try_from.result ∙ ap context_case c.try_from.ensures) ∙ sym (ap handshake_message c.in-ContextType.is)

pub returns-in-InterfaceVersion : goal.returns-in-InterfaceVersion
returns-in-InterfaceVersion c = sym (ap handshake_message c.in-InterfaceVersion.is)
