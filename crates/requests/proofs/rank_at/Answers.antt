-- Each way reads what the definition does.
use mathlib.Core.Path.{◌∙◌}
use native.Mathlib.Omega.{arith}
use Rattle.rules.specs.Sources.{sources}
use Rattle.requests.proofs.RankLaws.{rank_external, rank_record}
use Rattle.requests.proofs.rank_at.Goals as goal

pub returns-then-position-lt-EXTERNALS : goal.returns-then-position-lt-EXTERNALS
returns-then-position-lt-EXTERNALS c = c.external_rank.ensures ∙ rank_external _ _ _ _ c.if-position-lt-EXTERNALS.true

pub idcr-requires : goal.idcr-requires
unfolding sources
idcr-requires c = omega (arith, c.requires)

pub returns : goal.returns
returns c = rw c.idcr.ensures.place at c.record_rank.ensures ∙ rank_record _ _ _ _ c.if-position-lt-EXTERNALS.false
