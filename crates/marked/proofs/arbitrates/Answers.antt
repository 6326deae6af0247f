-- The step does what its promise says, and that is compared.
use mathlib.Core.Path.{refl, ◌∙◌}
use Rattle.marked.proofs.PassLaws.{compared}
use Rattle.marked.proofs.arbitrates.Goals as goal

pub returns : goal.returns
returns c =
    let d = c.arbitrate-a in
    c.as_said.ensures ∙ compared _ _ _ _ d.result _ _ _ refl d.ensures
