-- The smallest set HL bit is a count of trailing zeros, and the word that the code makes has the same count.
use mathlib.Core.Path.{sym, ap, ◌∙◌}
use Prim.Native.Nat.{ℕ}
use lib.Count.{count_trailing_zeros}
use Rattle.rules.specs.Image.{at, NICR}
use Rattle.rules.proofs.RestoredLaws.{restored_trailing, trailing_word}
use Rattle.arbiter.proofs.nesting.restored_level.Goals as goal

pub returns : goal.returns
returns c =
    let m = c.args.image.now in
    ap (λ (w : ℕ). count_trailing_zeros 32 w) c.from.ensures ∙ sym (restored_trailing m ∙ trailing_word (at m NICR))
