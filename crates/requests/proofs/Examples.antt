-- The definitions at work. Assumes nothing.
use mathlib.Core.Path.{◌≡◌, refl}
use mathlib.Core.Bool.{false}
use lib.Ieee.{nan}
use lib.IntN.{negsuc}
use Rattle.eiproto.specs.declared.eiproto_enum.KeyState.{KeyState}
use Rattle.requests.specs.declared.request.EisRequest.TheVariants.{Disconnect, Frame, ScrollStop, KeyboardKey, TextUtf8}
use Rattle.requests.specs.Request.{framed_request}
use Rattle.requests.specs.Row.{amount_of, cell_of, request_of, row_of, entry}

-- a key gets the device and the time of its frame; a frame, which none but damage leaves pending, is lost
key-framed : framed_request 7 500 (KeyboardKey 0 3 30 KeyState.Press) ≡ KeyboardKey 7 500 30 KeyState.Press
key-framed = refl

frame-lost : framed_request 7 500 (Frame 7 2 3) ≡ ScrollStop 7 500 false false
frame-lost = refl

-- 32 ones are minus 1
all_ones : amount_of 4294967295 ≡ negsuc 0
unfolding amount_of
all_ones = refl

-- numbers too wide: a kind past the last, and a text's length and slot
kind_past : request_of (cell_of 22 7 3 0 0 nan nan) ≡ Disconnect
unfolding request_of
kind_past = refl

text_cut : row_of (cell_of 21 7 3 258 33 nan nan) ≡ entry (TextUtf8 7 3 2) 1
unfolding row_of request_of entry
text_cut = refl
