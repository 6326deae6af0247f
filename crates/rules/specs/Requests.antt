-- Document 01, "Arbitration", rules 3 to 5: who requests what, what is eligible, and the winner.
-- Assumes nothing.
use Rattle.std.specs.Prelude.{Bool, false, cond, ◌&&◌, List, ℕ, zero, suc, eqb, ltb, Option, Some, None}
use Rattle.rules.specs.declared.Channel.{Channel}
use Rattle.rules.specs.declared.Request.{Request}
use Rattle.rules.specs.declared.Request.TheVariants as request
use Rattle.rules.specs.declared.Winner.{Winner}
use Rattle.rules.specs.declared.Winner.TheVariants as winner
use Rattle.rules.specs.Image.{Image, has, IEN, CPL}
use Rattle.rules.specs.Sources.{sources, pending, unmasked, dma_enabled, level}

-- rule 3: a pending source requests DMA if that is enabled, else an interrupt if it is unmasked, else nothing
unfoldable pub request_of : Image → List Channel → ℕ → Option Request
request_of m cs source =
    cond (pending m cs source)
    (cond (dma_enabled m cs source) (Some (request.Dma (level m cs source))) (cond (unmasked m cs source) (Some (request.Interrupt (level m cs source))) None))
    None

-- rule 4: the level number is strictly below CPL and, for an interrupt, IEN = 1 (house reading: DMA whatever IEN is)
unfoldable pub eligible : Image → Option Request → Bool
eligible m None = false
eligible m (Some (request.Dma l)) = ltb l (CPL m)
eligible m (Some (request.Interrupt l)) = has m IEN && ltb l (CPL m)

-- the kinds of request, in the order in which they are tried within a level
abbrev pub dma : ℕ
dma = 0

abbrev pub interrupt : ℕ
interrupt = 1

abbrev pub kind_count : ℕ
kind_count = 2

-- levels 0 to 7
abbrev pub level_count : ℕ
level_count = 8

-- the request is of this level and kind
unfoldable pub is_at : ℕ → ℕ → Option Request → Bool
is_at l kind None = false
is_at l kind (Some (request.Dma its)) = eqb kind dma && eqb its l
is_at l kind (Some (request.Interrupt its)) = eqb kind interrupt && eqb its l

-- the winner of this level, kind and position
unfoldable pub won_by : ℕ → ℕ → ℕ → Option Winner
won_by l kind source = cond (eqb kind dma) (Some (winner.Dma source)) (Some (winner.Interrupt source l))

-- what is found at a level, a kind and a position
unfoldable pub candidate : Image → List Channel → ℕ → ℕ → ℕ → Option Winner
candidate m cs l kind source = cond (eligible m (request_of m cs source) && is_at l kind (request_of m cs source)) (won_by l kind source) None

-- the first of two that is somebody
abbrev pub or_winner : Option Winner → Option Winner → Option Winner
or_winner None other = other
or_winner (Some its) other = Some its

-- the first of f 0, f 1, .. f (n - 1) that is somebody
unfoldable pub first : ℕ → (ℕ → Option Winner) → Option Winner
first zero f = None
first (suc n) f = let last = f n in or_winner (first n f) last

-- rule 5: positions from 0 up,
unfoldable pub winner_of_kind : Image → List Channel → ℕ → ℕ → Option Winner
winner_of_kind m cs l kind = first (sources cs) (candidate m cs l kind)

-- within a level DMA before interrupt,
unfoldable pub winner_at_level : Image → List Channel → ℕ → Option Winner
winner_at_level m cs l = first kind_count (winner_of_kind m cs l)

-- and levels from 0 up: the first eligible request wins
unfoldable pub winner_of : Image → List Channel → Option Winner
winner_of m cs = first level_count (winner_at_level m cs)
