-- The invariant: the front of the external channels and of the records below k.
use Prim.Native.Nat.{◌+◌}
use Rattle.requests.specs.Ranks.{rank_at, IsFront}
use Rattle.requests.proofs.records_front.Given as goal

abbrev pub invariant-loop-k : goal.invariant-loop-k
invariant-loop-k l = IsFront (rank_at l.limits l.image l.places.all.now) (8 + l.k) l.front.rank l.front.position
