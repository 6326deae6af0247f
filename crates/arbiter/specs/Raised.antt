-- Names for private functions: of a trigger and of an interrupt that has won. Assumes nothing.
use Rattle.std.specs.Prelude.{◌≡◌, Bool, true, cond, List, ℕ, Ok, Some}
use Rattle.rules.specs.declared.Channel.{Channel}
use Rattle.rules.specs.declared.Trigger.{Trigger}
use Rattle.rules.specs.declared.Effect.{Effect}
use Rattle.rules.specs.declared.Effect.TheVariants as effect
use Rattle.rules.specs.declared.Answer.{Answer}
use Rattle.rules.specs.declared.Winner.TheVariants as winner
use Rattle.rules.specs.Image.{Image, Memory, Bit, has, put}
use Rattle.rules.specs.Outcomes.{Answered, state, outcome}
use Rattle.rules.specs.Triggers.{effect_on, trigger_of}
use Rattle.rules.specs.Arbitration.{granted}

-- a bit that is selected is set, and answered as raised, or as merged where it is already 1
abbrev pub Raises : Image → Bit → Bool → Effect → Image → Type 0
Raises before flag selected answered after =
    (answered ≡ cond selected (effect_on (has before flag)) effect.NotSelected) × (after ≡ cond selected (put before flag true) before)

-- a trigger with this channel list
abbrev pub FiresIn : Image → List Channel → Trigger → Answered → Image → Type 0
FiresIn before cs t answered after = outcome answered after ≡ trigger_of before cs t

-- a trigger of no record, whatever the list is
abbrev pub Fires : Image → Trigger → Answered → Image → Type 0
Fires before t answered after = (cs : List Channel) → FiresIn before cs t answered after

-- an interrupt of this source and level gets what the winner gets, whatever the memory
abbrev pub Acknowledges : Image → List Channel → ℕ → ℕ → Answer → Image → Type 0
Acknowledges before cs source level answered after =
    (memory : Memory) → outcome (Ok answered) (state after memory) ≡ granted (state before memory) cs (Some (winner.Interrupt source level))
