-- Document 01, "Arbitration": the mark, the top level, and what the winner gets. Assumes nothing.
use Rattle.std.specs.Prelude.{Bool, true, false, cond, ◌&&◌, ◌||◌, List, ℕ, ◌+◌, ◌*◌, ◌/◌, leb, set, Ok, Option, Some, None}
use Rattle.rules.specs.declared.Channel.{Channel}
use Rattle.rules.specs.declared.Answer.TheVariants as answer
use Rattle.rules.specs.declared.Winner.{Winner}
use Rattle.rules.specs.declared.Winner.TheVariants as winner
use Rattle.rules.specs.Image.{Image, at, has, put, put_CPL, in_service, CPL, HL, IAM, IEN, TLI, TLIP, TLNM, EIVR, MARK}
use Rattle.rules.specs.Channels.{ivr_byte}
use Rattle.rules.specs.Outcomes.{State, Outcome, outcome, changed, Answered}
use Rattle.rules.specs.Sources.{external, record_of, pending_bit}
use Rattle.rules.specs.Requests.{winner_of}
use Rattle.rules.specs.Transfer.{transfer_of}

-- ---- the top level

-- rule 2: TLIP set and (TLNM, or TLI and IEN)
unfoldable pub top_level : Image → Bool
top_level m = has m TLIP && (has m TLNM || (has m TLI && has m IEN))

-- TLIP is cleared, the mark set; IEN, CPL and NICR stay. Its vector is 04h (Encodings `told`)
unfoldable pub entered_top : Image → Image
entered_top m = set (put m TLIP false) MARK 1

-- ---- an interrupt has won

-- EIVR's upper half plus 2k, or IVR with bit 0 cleared
unfoldable pub vector_of : Image → List Channel → ℕ → ℕ
vector_of m cs source = cond (external source) (at m EIVR / 16 * 16 + 2 * source) (at m (ivr_byte (record_of cs source)) / 2 * 2)

-- HLx is set for x = CPL if CPL is at most 6
unfoldable pub pushed : Image → Image
pushed m = cond (leb (CPL m) 6) (put m (HL (CPL m)) true) m

-- that, and CPL becomes the winner's level
unfoldable pub nested : Image → ℕ → Image
nested m l = put_CPL (pushed m) l

-- in nested mode (IAM = 1); in concurrent mode the levels stay
abbrev pub acknowledged_levels : Image → ℕ → Image
acknowledged_levels m l = cond (has m IAM) (nested m l) m

-- the winner's EIPR or IP bit is cleared
unfoldable pub cleared : Image → List Channel → ℕ → Image
cleared m cs source = put m (pending_bit cs source) false

-- the levels first; then the winner's bit and IEN are cleared
unfoldable pub acknowledged : Image → List Channel → ℕ → ℕ → Image
acknowledged m cs source l = put (cleared (acknowledged_levels m l) cs source) IEN false

-- ---- an arbitration

-- what the winner gets; a DMA request that has won may be refused with 6 or 5, and it alone concerns the memory
unfoldable pub granted : State → List Channel → Option Winner → Outcome Answered State
granted s cs None = outcome (Ok answer.Nothing) s
granted s cs (Some (winner.Dma source)) = transfer_of s (record_of cs source) source
granted s cs (Some (winner.Interrupt source l)) =
    let m = s.image in
    changed s (outcome (Ok (answer.Interrupt source l (vector_of m cs source))) (acknowledged m cs source l))

-- rules 1 and 2, then the winner of rules 3 to 5
unfoldable pub arbitrate_of : State → List Channel → Outcome Answered State
arbitrate_of s cs =
    let m = s.image in
    cond (in_service m) (outcome (Ok answer.Nothing) s)
    (cond (top_level m) (changed s (outcome (Ok answer.TopLevel) (entered_top m))) (granted s cs (winner_of m cs)))
