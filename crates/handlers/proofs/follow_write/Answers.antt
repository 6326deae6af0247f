-- What the step did is held against the copy that was made before it.
use mathlib.Core.Path.{sym, ◌∙◌}
use Rattle.handlers.proofs.FollowLaws.{follows_write, follows_refused}
use Rattle.handlers.proofs.follow_write.Goals as goal

pub returns-then-is_err : goal.returns-then-is_err
returns-then-is_err c = follows_refused _ _ _ _ _ _ _ _ c.perform_alone-answer.ensures c.requires.1 (sym c.is_err.ensures.value ∙ c.if-is_err.true)

pub returns : goal.returns
returns c =
    follows_write _ _ _ _ _ _ _ _ c.perform_alone-answer.ensures c.requires.1 (sym c.is_err.ensures.value ∙ c.if-is_err.false) _ _
    c.first_changed.ensures c.raised_rivals.ensures
