-- The invariant: the channels that are no longer left are accounted for.
use Rattle.requests.proofs.FrontLaws.{Left}
use Rattle.requests.proofs.externals_front.Given as goal

abbrev pub invariant-loop-left : goal.invariant-loop-left
invariant-loop-left l = Left l.limit l.eiplr l.requesting l.front.rank l.front.position l.left

abbrev pub decreases-loop-left : goal.decreases-loop-left
decreases-loop-left l = l.left
