-- A level is one of eight.
use native.Mathlib.Omega.{arith}
use Rattle.rules.proofs.LevelLaws.{external-level}
use Rattle.requests.proofs.external_rank.Goals as goal

pub interrupt_rank-requires : goal.interrupt_rank-requires
interrupt_rank-requires c = omega (arith, c.external_level.ensures, external-level c.args.eiplr c.args.k c.requires)
