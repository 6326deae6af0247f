-- Names for the private functions of what a source has. Assumes nothing.
use Rattle.std.specs.Prelude.{Bool, cond, ◌&&◌, List, ℕ}
use Rattle.rules.specs.declared.Channel.{Channel}
use Rattle.rules.specs.Image.{Image, bit_of, has}
use Rattle.rules.specs.Channels.{idcr_byte}
use Rattle.rules.specs.Sources.{external, record_of, pending}
use Rattle.rules.specs.Demand3.{rival, H}

-- a bit that each source has: of an external channel its bit of a register, of a record bit k of its IDCR
abbrev pub source_bit : Image → List Channel → ℕ → ℕ → ℕ → Bool
source_bit m cs source register k = cond (external source) (has m (bit_of register source)) (has m (bit_of (idcr_byte (record_of cs source)) k))

-- a pending source that is unmasked and outranks ours
abbrev pub pending_rival : Image → List Channel → ℕ → ℕ → Bool
pending_rival m cs ours source = pending m cs source && rival m cs ours source

-- how many there are: H (a contract has another meaning for that letter)
abbrev pub pending_rivals : Image → List Channel → ℕ → ℕ
pending_rivals m cs ours = H m cs ours
