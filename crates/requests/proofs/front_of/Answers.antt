-- The external channels first; the records where the gathered bits do not rule them out.
use mathlib.Core.Path.{sym, ◌∙◌}
use native.Mathlib.Omega.{arith}
use Rattle.rules.specs.Sources.{sources}
use Rattle.requests.proofs.RankLaws.{rank_external, ruled_out}
use Rattle.requests.proofs.FrontLaws.{front_same, front_on}
use Rattle.requests.proofs.front_of.Goals as goal

pub records_front-requires : goal.records_front-requires
records_front-requires c = front_same _ _ _ _ c.externals_front-externals.ensures _ (rank_external _ _ _)

pub returns : goal.returns
unfolding sources
returns c =
    front_on _ _ _ _ (front_same _ _ _ _ c.externals_front-externals.ensures _ (rank_external _ _ _)) _ (omega arith)
    (ruled_out _ _ _ c.args.gathered c.requires (sym c.may_request.ensures ∙ c.if-may_request.false))
