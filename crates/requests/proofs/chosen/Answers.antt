-- Nobody where the least rank is none; else the scan, with the limits of the image.
use mathlib.Core.Path.{sym}
use Rattle.requests.proofs.FrontLaws.{scanned_nobody}
use Rattle.requests.proofs.chosen.Goals as goal

pub returns-then-front-eq-NO_RANK : goal.returns-then-front-eq-NO_RANK
returns-then-front-eq-NO_RANK c =
    sym (scanned_nobody _ _ _ _ (rw c.limits_of-limits.ensures at c.front_of-front.ensures) c.if-front-eq-NO_RANK.true)
