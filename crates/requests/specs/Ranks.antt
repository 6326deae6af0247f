-- The ranks that the search for the winner goes by: level and kind of an eligible request in one number. Positions are not in it: the search goes over
-- them within a rank. Assumes nothing.
use Rattle.std.specs.Prelude.{◌≡◌, Bool, true, false, cond, ◌&&◌, ◌||◌, List, ℕ, ◌+◌, ◌*◌, ◌%◌, ◌≤◌, ◌<◌, eqb, ltb, length, Option, Some, None}
use Rattle.std.specs.Int.Bits.{bit_and}
use Rattle.bits.specs.Bits.{bit}
use Rattle.rules.specs.declared.Channel.{Channel}
use Rattle.rules.specs.declared.Request.{Request}
use Rattle.rules.specs.declared.Request.TheVariants as request
use Rattle.rules.specs.declared.Winner.{Winner}
use Rattle.rules.specs.Image.{Image, at, has, IEN, CPL, EIPR, EIMR, EIPLR}
use Rattle.rules.specs.Channels.{record_at, idcr_byte}
use Rattle.rules.specs.Sources.{external, record_of, external_level}
use Rattle.rules.specs.Requests.{won_by, first}
use Rattle.requests.specs.declared.Limits.{Limits}

-- what a record requests, by its IDCR: 5 IP, 4 DM, 3 IM, 2:0 PRL
unfoldable pub record_request : ℕ → Option Request
record_request idcr =
    cond (bit 5 idcr) (cond (bit 4 idcr) (Some (request.Dma (idcr % 8))) (cond (bit 3 idcr) (Some (request.Interrupt (idcr % 8))) None)) None

-- what a level must be below to be eligible: a DMA request's, and an interrupt's
abbrev pub limits_of : Image → Limits
limits_of m = record { dma = CPL m; interrupt = cond (has m IEN) (CPL m) 0 }

-- of what is not eligible
abbrev pub no_rank : ℕ
no_rank = 16

-- of an interrupt request at a level
unfoldable pub interrupt_rank : ℕ → ℕ → ℕ
interrupt_rank limit l = cond (ltb l limit) (2 * l + 1) no_rank

-- 2 * level + kind (0 DMA, 1 interrupt) of a request, where it is eligible
unfoldable pub rank_of : Limits → Option Request → ℕ
rank_of limits None = no_rank
rank_of limits (Some (request.Dma l)) = cond (ltb l limits.dma) (2 * l) no_rank
rank_of limits (Some (request.Interrupt l)) = interrupt_rank limits.interrupt l

-- of external channel k, by the channels that request
unfoldable pub external_rank : ℕ → ℕ → ℕ → ℕ → ℕ
external_rank limit eiplr requesting k = cond (bit k requesting) (interrupt_rank limit (external_level eiplr k)) no_rank

-- the external channels that request
abbrev pub requesting : Image → ℕ
requesting m = bit_and (at m EIPR) (at m EIMR)

-- the IDCR of a record
abbrev pub idcr_of : Image → Channel → ℕ
idcr_of m channel = at m (idcr_byte channel)

-- of a source
unfoldable pub rank_at : Limits → Image → List Channel → ℕ → ℕ
rank_at limits m cs s =
    cond (external s) (external_rank limits.interrupt (at m EIPLR) (requesting m) s) (rank_of limits (record_request (idcr_of m (record_of cs s))))

-- a bit that is 0 here is 0 in each record's IDCR
abbrev pub Gathered : Image → List Channel → ℕ → Type 0
Gathered m cs gathered = (k : ℕ) → k < length cs → (j : ℕ) → bit j gathered ≡ false → bit j (idcr_of m (record_at cs k)) ≡ false

-- whether a record may request: some IP, and some DM or IM
unfoldable pub may_request : ℕ → Bool
may_request gathered = bit 5 gathered && (bit 4 gathered || bit 3 gathered)

-- the number of the lowest bit of a byte that is 1
pub record Lowest (b k : ℕ) : Type 0 where
  pub byte : k < 8
  pub one : bit k b ≡ true
  pub clear : (j : ℕ) → j < k → bit j b ≡ false

-- no rank of the first n positions is below this one, and none of it stands before the position
pub record IsFront (rank : ℕ → ℕ) (n least position : ℕ) : Type 0 where
  pub top : least ≤ no_rank
  pub within : position ≤ n
  pub under : (p : ℕ) → p < n → least ≤ rank p
  pub before : (p : ℕ) → p < position → least < rank p

-- who is found at a level, a kind and a position
unfoldable pub found : (ℕ → ℕ) → ℕ → ℕ → ℕ → Option Winner
found rank l kind p = cond (eqb (rank p) (2 * l + kind)) (won_by l kind p) None

-- the first of n positions,
unfoldable pub found_of_kind : (ℕ → ℕ) → ℕ → ℕ → ℕ → Option Winner
found_of_kind rank n l kind = first n (found rank l kind)

-- of two kinds,
unfoldable pub found_at_level : (ℕ → ℕ) → ℕ → ℕ → Option Winner
found_at_level rank n l = first 2 (found_of_kind rank n l)

-- and of eight levels
unfoldable pub scanned : (ℕ → ℕ) → ℕ → Option Winner
scanned rank n = first 8 (found_at_level rank n)
