use mathlib.Core.Path.{ap₂, ◌∙◌}
use Rattle.marked.specs.Passes.{same_numbers}
use Rattle.marked.proofs.PassLaws.{derived-same}
use Rattle.marked.proofs.compare.same_answer.Goals as goal

pub returns : goal.returns
returns c = c.eq.ensures ∙ derived-same c.tell.result c.tell-2.result ∙ ap₂ same_numbers c.tell.ensures c.tell-2.ensures
