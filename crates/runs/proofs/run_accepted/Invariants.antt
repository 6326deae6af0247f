-- The invariant: the run of all the words is that of what is left, after the steps done.
use mathlib.Core.Path.{◌≡◌}
use lib.ListN.{length, drop}
use Rattle.rules.specs.Image.{image_length}
use Rattle.rules.specs.Outcomes.{state}
use Rattle.rules.specs.Runs.{run_events, run_of}
use Rattle.rules.specs.Encodings.{steps_of}
use Rattle.runs.proofs.RunSteps.{run_from}
use Rattle.runs.proofs.run_accepted.Given as goal

abbrev pub invariant-loop-index : goal.invariant-loop-index
invariant-loop-index l =
    let s = state l.image l.memory in
    let cs = l.laid.places.all.now in
    (length l.image ≡ image_length)
    × (run_of (state l.initial.image l.initial.memory) cs (steps_of l.words) ≡ run_from s l.index l.last (run_events s cs (steps_of (drop l.index l.words))))
