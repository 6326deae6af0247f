-- When an example of `rules` (specs/Examples) passes: every step of it answers and leaves what the paper says.
-- Assumes nothing.
use Rattle.std.specs.Prelude.{Bool, true, false, ◌&&◌, List, [], ◌∷◌, ℕ, eqb}
use Rattle.rules.specs.declared.Channel.{Channel}
use Rattle.rules.specs.declared.Step.{Step}
use Rattle.rules.specs.declared.Flat.{Flat}
use Rattle.rules.specs.Image.{Image, CICR, EIPR, EIMR, EIPLR, NICR}
use Rattle.rules.specs.Outcomes.{alone, Answered}
use Rattle.rules.specs.Steps.{step_of}
use Rattle.rules.specs.Encodings.{told}
use Rattle.rules.specs.Examples.{◌↤◌, storing, Line, Scenario, image}

-- two answers have the same six numbers
unfoldable pub same_numbers : Flat → Flat → Bool
same_numbers f g =
    eqb f.kind g.kind && eqb f.refusal g.refusal && eqb f.steps g.steps && eqb f.first g.first && eqb f.second g.second
    && eqb f.third g.third

-- two images have the same bytes, and equally many
unfoldable pub same_bytes : List ℕ → List ℕ → Bool
same_bytes [] [] = true
same_bytes [] (y ∷ ys) = false
same_bytes (x ∷ xs) [] = false
same_bytes (x ∷ xs) (y ∷ ys) = eqb x y && same_bytes xs ys

-- on this list and image, without a memory, a step answers this and leaves this whole image
unfoldable pub holds : List Channel → Image → Step → Answered → Image → Bool
holds cs before x answered after =
    let o = step_of (alone before) cs x in
    same_numbers (told o.answer) (told answered) && same_bytes o.left.image after

-- each line's step does, on the image that the paper says the line before it left
abbrev pub lines_hold : List Channel → Image → List Line → Bool
lines_hold cs m [] = true
lines_hold cs m (l ∷ ls) = let n = storing m l.leaves in holds cs m l.step l.answer n && lines_hold cs n ls

-- of an example
abbrev pub scenarios_hold : List Scenario → Bool
scenarios_hold [] = true
scenarios_hold (s ∷ ss) = lines_hold s.channels s.start s.lines && scenarios_hold ss

-- ---- the images of the program's functions, by the bytes that they store

-- CICR, NICR, EIPR, EIMR and EIPLR
abbrev pub interrupt_image : ℕ → ℕ → ℕ → ℕ → ℕ → Image
interrupt_image cicr nicr eipr eimr eiplr = image ((CICR ↤ cicr) ∷ (NICR ↤ nicr) ∷ (EIPR ↤ eipr) ∷ (EIMR ↤ eimr) ∷ (EIPLR ↤ eiplr) ∷ [])

-- the address and the counter of a transfer in R16 and R17, and the record's IDCR, DCPR and data
abbrev pub transfer_image : Image → ℕ → ℕ → ℕ → Image
transfer_image m idcr address counter = storing m ((16 ↤ address) ∷ (17 ↤ counter) ∷ (384 ↤ idcr) ∷ (386 ↤ 0x11) ∷ (388 ↤ 0x5a) ∷ [])
