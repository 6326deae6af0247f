-- Document 01, "Registers": the table of twenty-two rows, for the system registers R224 to R239 and for R242 to R247 of page 0.
-- Assumes nothing.
use Rattle.std.specs.Prelude.{cond, List, [], ◌∷◌, ℕ, ◌+◌, ◌-◌, ltb, get_or}

-- a row: the bits that exist, the bits that reset changes, and what it makes of them
pub record Row : Type 0 where
  pub existing : ℕ
  pub reset : ℕ
  pub value : ℕ

abbrev pub row : ℕ → ℕ → ℕ → Row
row existing reset value = record { existing = existing; reset = reset; value = value }

-- all eight bits, kept at reset (house reading)
abbrev pub plain : Row
plain = row 0xff 0x00 0x00

-- what stands past the table's end; no rule uses it
abbrev pub no_row : Row
no_row = row 0 0 0

-- document 01's table, a row for each register
unfoldable pub rows : List Row
rows =
    plain ∷ plain ∷ plain ∷ plain ∷ plain ∷ plain  -- R224 to R229
    ∷ row 0xff 0xff 0x87  -- R230 CICR
    ∷ plain ∷ plain ∷ plain  -- R231 to R233
    ∷ row 0xfc 0x00 0x00  -- R234 PPR
    ∷ row 0xff 0xff 0xe0  -- R235 MODER
    ∷ plain ∷ plain ∷ plain ∷ plain  -- R236 to R239
    ∷ row 0xff 0xff 0x00  -- R242 EITR
    ∷ row 0xff 0xff 0x00  -- R243 EIPR
    ∷ row 0xff 0xff 0x00  -- R244 EIMR
    ∷ row 0xff 0xff 0xff  -- R245 EIPLR
    ∷ row 0xff 0x0f 0x06  -- R246 EIVR
    ∷ row 0xff 0xff 0x00  -- R247 NICR
    ∷ []

-- row k
abbrev pub row_at : ℕ → Row
row_at k = get_or rows k no_row

-- how many rows there are
abbrev pub row_count : ℕ
row_count = 22

-- the byte of row k
unfoldable pub row_place : ℕ → ℕ
row_place k = cond (ltb k 16) (224 + k) (226 + k)

-- the bits that exist of R0 to R239 and of R242 to R247 of page 0
unfoldable pub existing_bits : ℕ → ℕ
existing_bits r = cond (ltb r 224) 0xff (cond (ltb r 240) (row_at (r - 224)).existing (row_at (r - 226)).existing)
