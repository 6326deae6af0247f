-- The memory that the step gets has no byte, and so has what it leaves.
use mathlib.Core.Path.{◌∙◌}
use Rattle.rules.proofs.MemoryLaws.{alone-is}
use Rattle.machine.proofs.step_alone.Goals as goal

pub returns : goal.returns
returns c =
    let d = c.one_step.ensures in
    (d.0, alone-is _ _ c.none-2-1.given ∙ d.1)
