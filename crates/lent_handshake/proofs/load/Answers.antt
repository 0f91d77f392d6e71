-- Word by word, by what is promised of each. Assumes nothing.
use mathlib.Core.Path.{refl}
use Rattle.lent_handshake.proofs.Words.{words_are}
use Rattle.lent_handshake.proofs.load.Goals as goal

pub returns : goal.returns
returns c =
    let a = c.args in
    record {
      result_value = words_are a.words.now a.name.now _ c.copy_from_slice.ensures.after refl refl c.context_of.ensures c.low.ensures refl c.load_versions.ensures;
      length_value = refl;
    }
