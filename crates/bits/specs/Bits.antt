-- Bits of a byte: as numbers, as tests, and put.
-- Assumes nothing.
use Rattle.std.specs.Prelude.{Bool, true, false, ℕ, ◌-◌, ◌/◌, ◌%◌, ◌^◌, eqb}
use Rattle.std.specs.Int.Bits.{bit_and, bit_or}

-- bit k of b, 0 or 1
unfoldable pub digit : ℕ → ℕ → ℕ
digit k b = b / 2 ^ k % 2

-- bit k of b is 1
unfoldable pub bit : ℕ → ℕ → Bool
bit k b = eqb (digit k b) 1

-- the byte b with bit k made 1 or 0
unfoldable pub put_bit : ℕ → Bool → ℕ → ℕ
put_bit k true b = bit_or b (2 ^ k)
put_bit k false b = bit_and b (255 - 2 ^ k)
