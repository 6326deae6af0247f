-- Document 01, "The image", "Arbitration" and "Runs and the wait report": the sources, and what each has pending, unmasked and at which level.
-- Sources 0 to 7 are the external channels INTA0, INTA1, INTB0 .. INTD1; source 8 + k is record k.
-- Assumes nothing.
use Rattle.std.specs.Prelude.{Bool, false, cond, List, ℕ, ◌+◌, ◌-◌, ◌*◌, ◌/◌, ◌%◌, ltb, length}
use Rattle.bits.specs.Bits.{digit}
use Rattle.rules.specs.declared.Channel.{Channel}
use Rattle.rules.specs.Image.{Image, at, EIPR, EIMR, EIPLR, Bit, bit_of, has}
use Rattle.rules.specs.Channels.{record_at, IP, DM, IM, PRL}

-- how many sources there are
unfoldable pub sources : List Channel → ℕ
sources cs = 8 + length cs

-- an external channel
abbrev pub external : ℕ → Bool
external source = ltb source 8

-- the record of a source
abbrev pub record_of : List Channel → ℕ → Channel
record_of cs source = record_at cs (source - 8)

-- EIPR bit k, or IP
unfoldable pub pending_bit : List Channel → ℕ → Bit
pending_bit cs source = cond (external source) (bit_of EIPR source) (IP (record_of cs source))

-- a source is pending if its EIPR or IP bit is 1
unfoldable pub pending : Image → List Channel → ℕ → Bool
pending m cs source = has m (pending_bit cs source)

-- and unmasked if its EIMR bit, or IM, is 1
unfoldable pub unmasked : Image → List Channel → ℕ → Bool
unmasked m cs source = cond (external source) (has m (bit_of EIMR source)) (has m (IM (record_of cs source)))

-- DMA is enabled if DM = 1; an external channel has none
unfoldable pub dma_enabled : Image → List Channel → ℕ → Bool
dma_enabled m cs source = cond (external source) false (has m (DM (record_of cs source)))

-- 4 times the upper group bit, plus 2 times the lower, plus k modulo 2 (groups A to D from bit 0 up)
unfoldable pub external_level : ℕ → ℕ → ℕ
external_level eiplr k = 4 * digit (2 * (k / 2) + 1) eiplr + 2 * digit (2 * (k / 2)) eiplr + k % 2

-- the level of a source, pending or not; 0 is the highest
unfoldable pub level : Image → List Channel → ℕ → ℕ
level m cs source = cond (external source) (external_level (at m EIPLR) source) (PRL m (record_of cs source))
