-- Reals, signed amounts and refusals as numbers. Assumes nothing.
use Prim.Native.Nat.{ℕ, ◌+◌, ◌*◌, ◌≤◌}
use mathlib.Core.Path.{◌≡◌, refl, sym}
use mathlib.Core.Bool.{true, false, not, false≢true}
use native.Mathlib.Omega.{arith}
use borrow.Author.Tests.{ltb-true, eq-eqb}
use lib.Dec.{T, lit≤}
use lib.Ieee.{Float, nan, inf, fin, eq, is_nan, up, down}
use lib.IntN.{ℤ, pos, negsuc, nat_abs}
use lib.Signed.{lt_z}
use Rattle.answers.specs.Answer.{error_of, number_of}
use Rattle.answers.specs.declared.Error.{Error}
use Rattle.handshake.specs.View.{number}
use Rattle.handshake.specs.declared.handshake.HandshakeError.{HandshakeError}
use Rattle.model.specs.Plan.{Result}
use Rattle.script_pattern.specs.Words.{amount_number}

-- ---- a real that equals itself is no NaN, and any other does

pub no_nan : (x : Float) → eq x x ≡ true → is_nan x ≡ false
unfolding eq is_nan
no_nan nan h = sym h
no_nan (inf s) h = refl
no_nan (fin s m e) h = refl

pub a_nan : (x : Float) → eq x x ≡ false → is_nan x ≡ true
unfolding eq is_nan
a_nan nan h = refl
a_nan (inf true) h = sym h
a_nan (inf false) h = sym h
a_nan (fin true m e) h = rw (eq-eqb (m * up e * down e) (m * up e * down e) refl) at (sym h)
a_nan (fin false m e) h = rw (eq-eqb (m * up e * down e) (m * up e * down e) refl) at (sym h)

pub not_nan : (x : Float) → is_nan x ≡ false → T (not (is_nan x))
not_nan x h = rw h tt

-- ---- an amount below 0, and one that is not

pub amount-below : (x : ℤ) → lt_z x (pos 0) ≡ true → 4294967296 + nat_abs x ≡ amount_number x
amount-below (pos k) h = absurd (omega (arith, ltb-true k 0 h))
amount-below (negsuc k) h = refl

pub amount-above : (x : ℤ) → lt_z x (pos 0) ≡ false → nat_abs x ≡ amount_number x
amount-above (pos k) h = refl
amount-above (negsuc k) h = absurd (false≢true (sym h))

-- ---- the numbers of refusals are at most 26

pub error_most : (e : Error) → number_of e ≤ 26
unfolding number_of
error_most Error.UnexpectedHandshakeEvent = lit≤ tt
error_most (Error.InvalidInterfaceVersion i v) = lit≤ tt
error_most Error.InvalidCapabilities = lit≤ tt
error_most Error.TooManyTouches = lit≤ tt
error_most Error.DuplicatedTouchDown = lit≤ tt
error_most Error.InvalidTextLength = lit≤ tt
error_most Error.BadUtf8 = lit≤ tt
error_most Error.NameLong = lit≤ tt
error_most Error.UnknownHandle = lit≤ tt
error_most Error.BadCapabilities = lit≤ tt
error_most Error.FullSeats = lit≤ tt
error_most Error.FullDevices = lit≤ tt
error_most Error.FullPending = lit≤ tt
error_most Error.FullQueue = lit≤ tt
error_most Error.FullTexts = lit≤ tt
error_most Error.ShortOut = lit≤ tt
error_most Error.IdsSpent = lit≤ tt
error_most Error.BadState = lit≤ tt
error_most Error.BadPart = lit≤ tt
error_most Error.InvalidId = lit≤ tt

pub handshake-most : (e : HandshakeError) → number e ≤ 26
handshake-most HandshakeError.NonHandshakeEvent = lit≤ tt
handshake-most HandshakeError.DuplicateEvent = lit≤ tt
handshake-most HandshakeError.MissingInterface = lit≤ tt
handshake-most HandshakeError.BadUtf8 = lit≤ tt
handshake-most HandshakeError.NameLong = lit≤ tt
handshake-most HandshakeError.ShortOut = lit≤ tt
handshake-most HandshakeError.IdsSpent = lit≤ tt
handshake-most HandshakeError.BadState = lit≤ tt

-- a refusal other than 2 is known by its number
pub plain_error : (e : Error) → ((i v : ℕ) → e ≡ Error.InvalidInterfaceVersion i v → ⊥) → Result.refused (number_of e) ≡ error_of e
unfolding number_of
plain_error Error.UnexpectedHandshakeEvent o = refl
plain_error Error.InvalidCapabilities o = refl
plain_error Error.TooManyTouches o = refl
plain_error Error.DuplicatedTouchDown o = refl
plain_error Error.InvalidTextLength o = refl
plain_error Error.BadUtf8 o = refl
plain_error Error.NameLong o = refl
plain_error Error.UnknownHandle o = refl
plain_error Error.BadCapabilities o = refl
plain_error Error.FullSeats o = refl
plain_error Error.FullDevices o = refl
plain_error Error.FullPending o = refl
plain_error Error.FullQueue o = refl
plain_error Error.FullTexts o = refl
plain_error Error.ShortOut o = refl
plain_error Error.IdsSpent o = refl
plain_error Error.BadState o = refl
plain_error Error.BadPart o = refl
plain_error Error.InvalidId o = refl
plain_error (Error.InvalidInterfaceVersion i v) o = absurd (o i v refl)
