-- Document 01, "Runs and the wait report" and "Refusal numbers": one step of the six kinds, on an image and a memory. Assumes nothing.
use Rattle.std.specs.Prelude.{List, eqb, leb, length}
use Rattle.rules.specs.declared.Channel.{Channel}
use Rattle.rules.specs.declared.Step.{Step}
use Rattle.rules.specs.declared.Step.TheVariants as step
use Rattle.rules.specs.declared.Refusal.TheVariants as refusal
use Rattle.rules.specs.Image.{image_length, most_memory}
use Rattle.rules.specs.Channels.{list_ok}
use Rattle.rules.specs.Outcomes.{State, Outcome, outcome, changed, refuse, refused_unless, refused_or, Verdict, accepted, Answered}
use Rattle.rules.specs.Registers.{read_of, write_of, reset_of}
use Rattle.rules.specs.Triggers.{trigger_of}
use Rattle.rules.specs.Arbitration.{arbitrate_of}
use Rattle.rules.specs.Return.{return_of}

-- what is lent: refused with 1 where the image's length is not 1,265, then with 2 where the list breaks a rule, then with 8 where the memory is over 65,536 bytes
unfoldable pub lent_verdict : State → List Channel → Verdict
lent_verdict s cs =
    refused_unless (eqb (length s.image) image_length) refusal.Length
    (refused_unless (list_ok cs) refusal.List (refused_unless (leb (length s.memory) most_memory) refusal.Memory accepted))

-- a step on what is accepted, with its own refusals: read and write 3; trigger 4 or 7; arbitration 6, then 5; return and reset none; an unknown kind 7
unfoldable pub act_of : State → List Channel → Step → Outcome Answered State
act_of s cs (step.Read r) = outcome (read_of s.image cs r) s
act_of s cs (step.Write r v) = changed s (write_of s.image cs r v)
act_of s cs (step.Trigger t) = changed s (trigger_of s.image cs t)
act_of s cs step.Arbitrate = arbitrate_of s cs
act_of s cs step.Return = changed s (return_of s.image)
act_of s cs step.Reset = changed s (reset_of s.image)
act_of s cs step.Unknown = refuse refusal.Kind s

-- one step: refusals 1, 2 and 8, then the step's own
unfoldable pub step_of : State → List Channel → Step → Outcome Answered State
step_of s cs x = refused_or (lent_verdict s cs) (λ reason. refuse reason s) (act_of s cs x)
