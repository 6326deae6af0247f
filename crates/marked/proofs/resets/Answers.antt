-- The step does what its promise says, and that is compared.
use mathlib.Core.Path.{◌∙◌}
use Rattle.marked.proofs.PassLaws.{compared}
use Rattle.marked.proofs.resets.Goals as goal

pub returns : goal.returns
returns c =
    let d = c.reset-a in
    c.as_said.ensures ∙ compared _ _ _ _ d.result _ _ _ c.none.ensures d.ensures
