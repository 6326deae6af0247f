-- What a DMA service asks, and names for private functions that the memory does not concern. Assumes nothing.
use Rattle.std.specs.Prelude.{◌≡◌, ℕ, ◌<◌, ◌≤◌, List, Ok}
use Rattle.rules.specs.declared.Channel.{Channel}
use Rattle.rules.specs.declared.Answer.{Answer}
use Rattle.rules.specs.Image.{Image, Memory}
use Rattle.rules.specs.Sources.{sources}
use Rattle.rules.specs.Outcomes.{Answered, state, outcome}
use Rattle.rules.specs.Transfer.{finished, served, register_transfer}

-- the end of a transfer, by its new counter, whatever the memory
abbrev pub Finishes : Image → Channel → ℕ → ℕ → Answer → Image → Type 0
Finishes before channel source count answered after =
    (memory : Memory) → outcome (Ok answered) (state after memory) ≡ finished (state before memory) channel source count

-- a transfer with the register file, by what its pair held, and with its refusal
abbrev pub Serves : Image → Channel → ℕ → ℕ → ℕ → ℕ → Answer → Image → Type 0
Serves before channel source n a c answered after =
    (memory : Memory) → outcome (Ok answered) (state after memory) ≡ served (state before memory) channel source n a c

abbrev pub ServesRegister : Image → Channel → ℕ → Answered → Image → Type 0
ServesRegister before channel source answered after =
    (memory : Memory) → outcome answered (state after memory) ≡ register_transfer (state before memory) channel source

-- what a DMA service asks of a source: that it is a record's
abbrev pub OfRecord : List Channel → ℕ → Type 0
OfRecord cs source = (8 ≤ source) × (source < sources cs)
