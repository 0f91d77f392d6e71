-- What is missing is filled up with zeros, and with NaNs where it is reals: a session's other slices may hold anything. Assumes nothing.
use Prim.Native.Nat.{ℕ}
use mathlib.Core.List.{List}
use lib.Ieee.{Float, nan}
use lib.ListN.{replicate, length-replicate}
use Rattle.control.proofs.Sounds.{sound_bounds}
use Rattle.session.specs.View.{store, words_length, reals_length, texts_length}
use Rattle.session.proofs.Views.{lent_parts, whole_is}
use Rattle.session_theorems.specs.Extends.{SoundExtends, LentExtends}

pub lent_extends : LentExtends
lent_extends c w q h =
    let l = lent_parts c w q h in
    let t : List ℕ = replicate texts_length 0 in (
      t,
      whole_is (store c w q t)
          (record { sound = l.sound; words_long = l.words_long; reals_long = l.reals_long; texts_long = length-replicate {A = ℕ} texts_length 0 }),
    )

pub sound_extends : SoundExtends
sound_extends c h =
    let w : List ℕ = replicate words_length 0 in
    let q : List Float = replicate reals_length nan in
    let t : List ℕ = replicate texts_length 0 in (
      w,
      (
        q,
        (
          t,
          whole_is (store c w q t)
              (record {
                sound = sound_bounds c h;
                words_long = length-replicate {A = ℕ} words_length 0;
                reals_long = length-replicate reals_length nan;
                texts_long = length-replicate {A = ℕ} texts_length 0;
              }),
        ),
      ),
    )
