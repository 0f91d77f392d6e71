-- Values as a trail shows them. Every value is a number of 64 bits here: that of a real, a signed amount or a truth is said first. Assumes nothing.
use Rattle.std.specs.Prelude.{ℕ, suc, ◌+◌, ◌-◌, Bool, cond, List, [], ◌∷◌, ◌++◌, eqb, ltb, Float, ℤ, pos, negsuc}
use Rattle.std.specs.Float.{binary32}
use Rattle.std.specs.Float.Ieee.{is_nan, to_bits}
use Rattle.eiproto.specs.Interface.{ascii}
use Rattle.script_pattern.specs.Digits.{eight, decimal, escaped}

-- the bits of an f32, and 2^32 for the NaN
unfoldable pub real_number : Float → ℕ
real_number x = cond (is_nan x) 4294967296 (to_bits binary32 x)

-- "An f32 is its bits, `0x` and eight digits, or `nan`"
unfoldable pub real : ℕ → List ℕ
unfolding ascii eight
real n = cond (ltb n 4294967296) (ascii "0x" ++ eight n) (ascii "nan")

-- a signed amount of 32 bits: 2^32 more than its distance from 0 where it is below it
abbrev pub amount_number : ℤ → ℕ
amount_number (pos n) = n
amount_number (negsuc n) = 4294967296 + suc n

unfoldable pub amount : ℕ → List ℕ
unfolding decimal
amount n = cond (ltb n 4294967296) (decimal n) (0x2d ∷ decimal (n - 4294967296))

abbrev pub truth_number : Bool → ℕ
truth_number b = cond b 1 0

unfoldable pub truth : ℕ → List ℕ
unfolding ascii
truth n = cond (eqb n 0) (ascii "false") (ascii "true")

-- ---- in an explained trail

-- a device type and a disconnect reason by name (eiproto/specs/Enum has the numbers); any other number by itself
unfoldable pub device_type : ℕ → List ℕ
unfolding ascii decimal
device_type n = cond (eqb n 1) (ascii "virtual") (cond (eqb n 2) (ascii "physical") (decimal n))

unfoldable pub reason : ℕ → List ℕ
unfolding ascii decimal
reason n =
    cond (eqb n 0) (ascii "disconnected")
    (cond (eqb n 1) (ascii "error")
    (cond (eqb n 2) (ascii "mode")
    (cond (eqb n 3) (ascii "protocol")
    (cond (eqb n 4) (ascii "value")
    (cond (eqb n 5) (ascii "transport")
    (decimal n))))))

-- the explanation of a `disconnected` record, if the byte before it says that there is one
unfoldable pub explanation : ℕ → List ℕ → List ℕ
unfolding ascii escaped
explanation n text = cond (ltb 127 n) (ascii " explanation \"" ++ (escaped text ++ ascii "\"")) []
