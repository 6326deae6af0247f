-- The invariant: what is answered of all the words is what is answered of those that are left, after the steps done on the copy, with the triggers
-- counted so far and the first arbitration with interrupts disabled, if there was one.
use mathlib.Core.Path.{◌≡◌}
use Prim.Native.Nat.{◌≤◌}
use Rattle.std.specs.Prelude.{None}
use lib.ListN.{length, drop}
use Rattle.rules.specs.Image.{image_length}
use Rattle.rules.specs.Outcomes.{alone}
use Rattle.rules.specs.Runs.{history}
use Rattle.rules.specs.Demand3.{rival, H}
use Rattle.rules.specs.Encodings.{steps_of}
use Rattle.bounds.specs.Followed.{followed_from}
use Rattle.bounds.proofs.followed.Given as goal

abbrev pub invariant-loop-index : goal.invariant-loop-index
invariant-loop-index l =
    let cs = l.laid.places.all.now in
    let among = rival l.image cs l.ours in
    let h = H l.image cs l.ours in
    (l.index ≤ length l.words) × (l.triggers ≤ l.index) × (length l.copy ≡ image_length)
    × (followed_from among h 0 None 0 (history (alone l.image) cs (steps_of l.words))
    ≡ followed_from among h l.index l.disabled l.triggers (history (alone l.copy) cs (steps_of (drop l.index l.words))))
