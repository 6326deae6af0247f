-- The invariant: the wait report of all the words is that of what is left, after the steps done and the arbitrations made, which are no more than
-- the steps.
use mathlib.Core.Path.{◌≡◌}
use Prim.Native.Nat.{◌≤◌}
use lib.ListN.{length, drop}
use Rattle.std.specs.Prelude.{None}
use Rattle.rules.specs.Image.{image_length}
use Rattle.rules.specs.Outcomes.{state}
use Rattle.rules.specs.Runs.{wait_events, wait_of}
use Rattle.rules.specs.Encodings.{steps_of}
use Rattle.runs.proofs.RunSteps.{wait_from}
use Rattle.runs.proofs.wait_accepted.Given as goal

abbrev pub invariant-loop-done : goal.invariant-loop-done
invariant-loop-done l =
    let s = state l.image l.memory in
    let cs = l.laid.places.all.now in
    (length l.image ≡ image_length) × (l.arbitrations ≤ l.done)
    × (wait_of (state l.initial.image l.initial.memory) cs l.source (steps_of l.words)
    ≡ wait_from l.source s l.done l.arbitrations None (wait_events s cs l.source (steps_of (drop l.done l.words))))
