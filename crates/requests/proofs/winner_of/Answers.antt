-- The scan of the ranks of the sources' requests finds the winner.
use mathlib.Core.Path.{refl, sym, ◌∙◌}
use Rattle.requests.proofs.RankLaws.{scanned_winner}
use Rattle.requests.proofs.FrontLaws.{front_idle, scanned_nobody}
use Rattle.requests.proofs.winner_of.Goals as goal

pub returns-then-not-may_request : goal.returns-then-not-may_request
returns-then-not-may_request c =
    let e = sym c.may_request.ensures ∙ c.if-not-may_request.true in
    sym (scanned_nobody _ _ _ _ (front_idle _ _ _ _ c.if-image-eq0.true e c.gathered_bits-gathered.ensures) refl) ∙ scanned_winner _ _

pub returns : goal.returns
returns c = c.chosen.ensures ∙ scanned_winner _ _
