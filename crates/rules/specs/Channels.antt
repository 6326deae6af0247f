-- Document 01, "The image": the channel list, the places of a record's registers, the bits of its IDCR, and the rules on the list (refusal 2).
-- Assumes nothing.
use Rattle.std.specs.Prelude.{Bool, true, false, cond, not, ◌&&◌, ◌||◌, List, [], ◌∷◌, ◌++◌, ℕ, ◌%◌, eqb, ltb, leb, length, get_or, take}
use Rattle.rules.specs.declared.Channel.{Channel}
use Rattle.rules.specs.declared.Channels.{Channels}
use Rattle.rules.specs.Image.{Image, at, page_byte, Bit, bit_of}

-- a list has at most twelve records
abbrev pub most_records : ℕ
most_records = 12

-- what stands past a list's end, where no rule looks; it also fills a list that is refused for its length
abbrev pub no_channel : Channel
no_channel = record { page = 0; idcr = 0; ivr = 0; dcpr = 0; dapr = 0; io = 0; direction = 0 }

-- record k of the list
abbrev pub record_at : List Channel → ℕ → Channel
record_at cs k = get_or cs k no_channel

-- the bytes of a record's registers
unfoldable pub idcr_byte : Channel → ℕ
idcr_byte channel = page_byte channel.page channel.idcr

unfoldable pub ivr_byte : Channel → ℕ
ivr_byte channel = page_byte channel.page channel.ivr

unfoldable pub dcpr_byte : Channel → ℕ
dcpr_byte channel = page_byte channel.page channel.dcpr

unfoldable pub dapr_byte : Channel → ℕ
dapr_byte channel = page_byte channel.page channel.dapr

unfoldable pub data_byte : Channel → ℕ
data_byte channel = page_byte channel.page channel.io

-- all five, in this order
abbrev pub record_bytes : Channel → List ℕ
record_bytes channel = idcr_byte channel ∷ ivr_byte channel ∷ dcpr_byte channel ∷ dapr_byte channel ∷ data_byte channel ∷ []

-- the bits of its IDCR: 5 IP, 4 DM, 3 IM, 2:0 PRL
abbrev pub IP : Channel → Bit
IP channel = bit_of (idcr_byte channel) 5

abbrev pub DM : Channel → Bit
DM channel = bit_of (idcr_byte channel) 4

abbrev pub IM : Channel → Bit
IM channel = bit_of (idcr_byte channel) 3

abbrev pub PRL : Image → Channel → ℕ
PRL m channel = at m (idcr_byte channel) % 8

-- ---- the rules on the list

-- lo to hi, both included
abbrev pub between : ℕ → ℕ → ℕ → Bool
between lo hi x = leb lo x && leb x hi

-- a page of 1 to 63, five register numbers of 240 to 255, and a direction of 0 or 1
abbrev pub record_ok : Channel → Bool
record_ok channel =
    between 1 63 channel.page && between 240 255 channel.idcr && between 240 255 channel.ivr && between 240 255 channel.dcpr
    && between 240 255 channel.dapr && between 240 255 channel.io && leb channel.direction 1

-- every record is within these ranges
unfoldable pub records_ok : List Channel → Bool
records_ok [] = true
records_ok (channel ∷ cs) = record_ok channel && records_ok cs

-- x occurs in the list
unfoldable pub member : ℕ → List ℕ → Bool
member x [] = false
member x (y ∷ ys) = eqb x y || member x ys

-- no number occurs twice
unfoldable pub distinct : List ℕ → Bool
distinct [] = true
distinct (x ∷ xs) = not (member x xs) && distinct xs

-- the bytes of all records' registers, in order
unfoldable pub all_bytes : List Channel → List ℕ
all_bytes [] = []
all_bytes (channel ∷ cs) = record_bytes channel ++ all_bytes cs

-- the rules on a list. No (page, register) pair occurs twice: two pairs in range are equal exactly if their bytes are.
unfoldable pub list_ok : List Channel → Bool
list_ok cs = leb (length cs) most_records && records_ok cs && distinct (all_bytes cs)

-- the list that a list by value, as the core has it, stands for: its first `count` items; where the count is over twelve one of thirteen, which `list_ok` refuses
unfoldable pub list_of : Channels → List Channel
list_of all = cond (ltb most_records all.count) (all.items ++ (no_channel ∷ [])) (take all.count all.items)
