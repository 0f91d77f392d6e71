-- Slices worked out by hand from the layout, and the session that they hold. Assumes nothing.
use Prim.Native.Nat.{ℕ, ◌-◌, ◌*◌}
use mathlib.Core.Path.{◌≡◌, refl}
use mathlib.Core.Bool.{true, false}
use mathlib.Core.List.{List, [], ◌∷◌, ◌++◌}
use mathlib.Core.Option.{none, some}
use lib.Ieee.{Float, nan}
use lib.ListN.{replicate}
use Rattle.eiproto.specs.declared.eiproto_enum.KeyState.{KeyState}
use Rattle.eiproto.specs.Bits.{bits_of, bits_below, common}
use Rattle.requests.specs.Row.{row_words, request_of, entry, row_of, cell_at, row_at}
use Rattle.model.specs.Call.{Kind, Load}
use Rattle.model.specs.Session.{Untimed, Queued}
use Rattle.control.specs.Table.{tab}
use Rattle.control.specs.Control.{queue_limit, control_length, version_in, seat_at, versions_of, connection_of, interface_id, interface_on, interfaces_on, core_at}
use Rattle.control.specs.Sound.{row_sound, rows_sound, is_sound}
use Rattle.session.specs.View.{queue_start, reals_length, slot_length, texts_length, store, item_of, request_in, item_in, text_of, request_at, item_at, device_in, queue_in, session_in, session, is_whole}

-- Connection 5, last serial 7, next id 100; version 2 of the first interface, no other; seat 8 has all capabilities. Device 20 on it has pointer and
-- keyboard (bits 0 and 2), pointer is no longer listed, touch 9 is held, and one request is pending. Two are queued, the oldest at the last place of the ring.
control : List ℕ
control =
    (5 ∷ 7 ∷ 100 ∷ 1 ∷ 1 ∷ 255 ∷ 2 ∷ 0 ∷ [])
    ++ ((3 ∷ 0 ∷ 0 ∷ 0 ∷ 0 ∷ 0 ∷ 0 ∷ 0 ∷ 0 ∷ 0 ∷ 0 ∷ 0 ∷ [])
    ++ ((8 ∷ 127 ∷ 0 ∷ 0 ∷ 0 ∷ 0 ∷ 0 ∷ 0 ∷ 0 ∷ 0 ∷ 0 ∷ 0 ∷ []) ++ ((20 ∷ 8 ∷ 5 ∷ 4 ∷ 1 ∷ 1 ∷ 9 ∷ []) ++ replicate (control_length - 39) 0)))

-- the first row is a key, the first of the ring a Ready, the last of the ring a text of two bytes in slot 1
words : List ℕ
words = (15 ∷ 20 ∷ 0 ∷ 30 ∷ 1 ∷ []) ++ (replicate (row_words * (queue_start - 1)) 0 ++ ((5 ∷ 20 ∷ 0 ∷ 0 ∷ 0 ∷ []) ++ (replicate (row_words * (queue_limit - 2)) 0 ++ (21 ∷ 20 ∷ 1000 ∷ 2 ∷ 1 ∷ []))))

reals : List Float
reals = replicate reals_length nan

texts : List ℕ
texts = replicate slot_length 0 ++ ((104 ∷ 105 ∷ 33 ∷ []) ++ replicate (texts_length - slot_length - 3) 0)

whole : is_whole (store control words reals texts) ≡ true
unfolding is_whole is_sound rows_sound row_sound control words reals texts
whole = refl

-- a byte more is no session's
long-texts : is_whole (store control words reals (0 ∷ texts)) ≡ false
unfolding is_whole is_sound rows_sound row_sound control words reals texts
long-texts = refl

held : session (store control words reals texts)
    ≡ record {
      connection =
          record {
            id = 5;
            versions = some 2 ∷ replicate 11 none;
            seats = record { id = 8; capabilities = 127 } ∷ [];
            last_serial = 7;
            next_id = 100;
            last_peer_id = 0;
            gone = false;
          };
      devices =
          record {
            id = 20;
            seat = 8;
            interfaces = record { capability = 2; id = 22 } ∷ [];
            down_touch_ids = 9 ∷ [];
            pending = item_of Kind.KeyboardKey 0 (Load.KeyPress 30 KeyState.Press) ∷ [];
          }
          ∷ [];
      requests =
          Queued.timed 20 1000 (record { kind = Kind.TextUtf8; touch = 0; size = 2; load = Load.Text (104 ∷ 105 ∷ []) })
          ∷ Queued.untimed (Untimed.Ready 20)
          ∷ [];
    }
unfolding session session_in connection_of versions_of version_in seat_at tab device_in core_at interfaces_on interface_on interface_id bits_of bits_below common queue_in request_at request_in text_of item_at item_in row_at row_of cell_at request_of entry control words reals texts
held = refl
