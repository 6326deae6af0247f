-- A run of one word answers what its step does: the arms are those of `sole`.
use mathlib.Core.Path.{◌≡◌, refl, ap}
use mathlib.Core.Bool.{true}
use borrow.Author.Rules.{rules}
use Rattle.std.specs.Prelude.{Option, Some, None, Err, is_some}
use Rattle.rules.specs.declared.Answer.{Answer}
use Rattle.rules.specs.Encodings.{steps_of}
use Rattle.runs.proofs.RunSteps.{done, answers-alone, answer_there}
use Rattle.runs.proofs.perform.Goals as goal

last_there : (o : Option Answer) → is_some (done o) ≡ true → is_some o ≡ true
last_there None h = h
last_there (Some a) h = refl

pub unwrap-requires : goal.unwrap-requires
unfolding steps_of
unwrap-requires c = last_there _ (answer_there _ _ _ (search rules) c.args.laid.now.places.ok c.requires c.in-Ok.ensures)

pub returns-in-Ok : goal.returns-in-Ok
unfolding steps_of
returns-in-Ok c = answers-alone _ _ _ (search rules) c.args.laid.now.places.ok c.requires c.in-Ok.ensures _ (ap done c.unwrap.ensures)

pub returns-in-Err-Before : goal.returns-in-Err-Before
unfolding steps_of
returns-in-Err-Before c =
    answers-alone _ _ _ (search rules) c.args.laid.now.places.ok c.requires (rw c.in-Err-Before.is at c.run_accepted.ensures) (Err c.in-Err-Before.refusal) (search rules)

pub returns-in-Err-At : goal.returns-in-Err-At
unfolding steps_of
returns-in-Err-At c =
    answers-alone _ _ _ (search rules) c.args.laid.now.places.ok c.requires (rw c.in-Err-At.is at c.run_accepted.ensures) (Err c.in-Err-At.refusal) (search rules)
