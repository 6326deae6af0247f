-- The invariant: what is answered of all the words is what is answered of those that are left, after the steps done on the copy, with what these
-- triggered and raised, twelve a step at most.
use mathlib.Core.Path.{◌≡◌}
use Prim.Native.Nat.{◌*◌, ◌≤◌}
use lib.ListN.{length, drop}
use Rattle.rules.specs.Image.{image_length}
use Rattle.rules.specs.Outcomes.{alone}
use Rattle.rules.specs.Runs.{history}
use Rattle.rules.specs.Demand3.{rival, H}
use Rattle.rules.specs.Handlers.{up_to}
use Rattle.rules.specs.Encodings.{steps_of}
use Rattle.handlers.specs.Handled.{followed_from}
use Rattle.handlers.proofs.followed.Given as goal

abbrev pub invariant-loop-index : goal.invariant-loop-index
invariant-loop-index l =
    let cs = l.laid.places.all.now in
    let among = rival l.image cs l.source in
    let h = H l.image cs l.source in
    (l.index ≤ length l.words) × (l.triggers ≤ 12 * l.index) × (length l.copy ≡ image_length)
    × (followed_from cs l.source among h 0 0 (up_to l.source (history (alone l.image) cs (steps_of l.words)))
    ≡ followed_from cs l.source among h l.index l.triggers (up_to l.source (history (alone l.copy) cs (steps_of (drop l.index l.words)))))
