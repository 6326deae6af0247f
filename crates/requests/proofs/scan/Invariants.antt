-- Three loops with one invariant: nobody so far. A hit is the first of its kind and level, and so the first of all.
use Rattle.std.specs.Prelude.{None}
use mathlib.Core.Path.{◌≡◌}
use Rattle.rules.specs.Sources.{sources}
use Rattle.rules.specs.Requests.{first}
use Rattle.requests.specs.Ranks.{rank_at, found, found_of_kind, found_at_level}
use Rattle.requests.proofs.scan.Given as goal

abbrev pub invariant-loop-position : goal.invariant-loop-position
invariant-loop-position l = first l.position (found (rank_at l.limits l.image l.places.all.now) l.level l.kind) ≡ None

abbrev pub invariant-loop-kind : goal.invariant-loop-kind
invariant-loop-kind l =
    first l.kind (found_of_kind (rank_at l.limits l.image l.places.all.now) (sources l.places.all.now) l.level) ≡ None

abbrev pub invariant-loop-level : goal.invariant-loop-level
invariant-loop-level l =
    first l.level (found_at_level (rank_at l.limits l.image l.places.all.now) (sources l.places.all.now)) ≡ None
