-- Document 01, "The image": where the registers and the mark stand, and the bits that the rules name; and the memory of document 02, §1.
-- Assumes nothing.
use Rattle.std.specs.Prelude.{Bool, not, List, ℕ, ◌+◌, ◌-◌, ◌*◌, ◌/◌, ◌%◌, ◌≤◌, eqb, length, get_or, set}
use Rattle.bits.specs.Bits.{bit, put_bit}

-- the bytes of an image, in order. No rule asks that they are below 256: what is lent are bytes by their type
abbrev pub Image : Type 0
Image = List ℕ

-- an image has exactly 1,265 bytes
abbrev pub image_length : ℕ
image_length = 1265

-- the bytes of a memory, in order: what a DMA channel may fill or empty beside the register file (document 02, §1)
abbrev pub Memory : Type 0
Memory = List ℕ

-- a memory has at most 65,536 bytes
abbrev pub most_memory : ℕ
most_memory = 65536

-- one that has no more is not refused
abbrev pub Fits : Memory → Type 0
Fits memory = length memory ≤ most_memory

-- the byte at a place of an image, or at an address of a memory
abbrev pub at : List ℕ → ℕ → ℕ
at m i = get_or m i 0

-- byte 240 + 16p + (r - 240) is register r (240 to 255) of page p (0 to 63)
unfoldable pub page_byte : ℕ → ℕ → ℕ
page_byte p r = 240 + 16 * p + (r - 240)

-- ---- the bytes of the named registers: bytes 0 to 239 are R0 to R239, and page 0 stands at the register's own number

abbrev pub CICR : ℕ
CICR = 230

abbrev pub PPR : ℕ
PPR = 234

abbrev pub MODER : ℕ
MODER = 235

abbrev pub EITR : ℕ
EITR = 242

abbrev pub EIPR : ℕ
EIPR = 243

abbrev pub EIMR : ℕ
EIMR = 244

abbrev pub EIPLR : ℕ
EIPLR = 245

abbrev pub EIVR : ℕ
EIVR = 246

abbrev pub NICR : ℕ
NICR = 247

-- byte 1264 is the top-level-in-service mark
abbrev pub MARK : ℕ
MARK = 1264

-- ---- single bits

-- a bit of the image: its byte, and its number there
pub record Bit : Type 0 where
  pub byte : ℕ
  pub number : ℕ

abbrev pub bit_of : ℕ → ℕ → Bit
bit_of i k = record { byte = i; number = k }

-- the bit is 1
abbrev pub has : Image → Bit → Bool
has m flag = bit flag.number (at m flag.byte)

-- the image with the bit made 1 or 0, and nothing else changed
unfoldable pub put : Image → Bit → Bool → Image
put m flag on = set m flag.byte (put_bit flag.number on (at m flag.byte))

-- CICR: 7 GCEN, 6 TLIP, 5 TLI, 4 IEN, 3 IAM, 2:0 CPL
abbrev pub TLIP : Bit
TLIP = bit_of CICR 6

abbrev pub TLI : Bit
TLI = bit_of CICR 5

abbrev pub IEN : Bit
IEN = bit_of CICR 4

abbrev pub IAM : Bit
IAM = bit_of CICR 3

abbrev pub CPL : Image → ℕ
CPL m = at m CICR % 8

-- the image with CPL made l, and nothing else changed
unfoldable pub put_CPL : Image → ℕ → Image
put_CPL m l = set m CICR (at m CICR / 8 * 8 + l)

-- EIVR: 7:4 vector, 3 TLTEV, 2 TLIS, 1 IAOS, 0 EWEN
abbrev pub TLTEV : Bit
TLTEV = bit_of EIVR 3

abbrev pub TLIS : Bit
TLIS = bit_of EIVR 2

abbrev pub IAOS : Bit
IAOS = bit_of EIVR 1

-- NICR: 7 TLNM, 6:0 HL6..HL0
abbrev pub TLNM : Bit
TLNM = bit_of NICR 7

abbrev pub HL : ℕ → Bit
HL x = bit_of NICR x

-- any nonzero mark means in service
abbrev pub in_service : Image → Bool
in_service m = not (eqb (at m MARK) 0)
