use native.Mathlib.Omega.{arith}
use Rattle.rules.proofs.RestoredLaws.{restored_le}
use Rattle.arbiter.proofs.nesting.unnest.Goals as goal

pub put_cpl-requires : goal.put_cpl-requires
put_cpl-requires c = omega (arith, c.restored_level-level.ensures, restored_le c.args.image.now)
