-- Document 01, "Marked examples": C01 to C13 as one list. Each example is a few scenarios: the channel list, the image at the start,
-- and steps with the answer and the bytes that each must leave changed. Whole images are compared. Assumes nothing.
use Rattle.std.specs.Prelude.{◌≡◌, true, false, List, [], ◌∷◌, map, ℕ, set, replicate, Ok, Err}
use Rattle.rules.specs.declared.Channel.{Channel}
use Rattle.rules.specs.declared.Step.{Step}
use Rattle.rules.specs.declared.Step.TheVariants as step
use Rattle.rules.specs.declared.Trigger.TheVariants as trigger
use Rattle.rules.specs.declared.Effect.TheVariants as effect
use Rattle.rules.specs.declared.Refusal.TheVariants as refusal
use Rattle.rules.specs.declared.Answer.TheVariants as answer
use Rattle.rules.specs.Image.{Image, image_length, CICR, MODER, EITR, EIPR, EIMR, EIPLR, EIVR, NICR, MARK}
use Rattle.rules.specs.Channels.{idcr_byte, dcpr_byte, data_byte}
use Rattle.rules.specs.Outcomes.{State, alone, Outcome, outcome, Answered}
use Rattle.rules.specs.Registers.{losses}
use Rattle.rules.specs.Runs.{Event, history}

-- a byte at a place
pub record Stored : Type 0 where
  pub place : ℕ
  pub byte : ℕ

-- `place ↤ byte`
infix 50 ◌↤◌
abbrev pub ◌↤◌ : ℕ → ℕ → Stored
p ↤ b = record { place = p; byte = b }

-- the image with these bytes stored
abbrev pub storing : Image → List Stored → Image
storing m [] = m
storing m (b ∷ bs) = storing (set m b.place b.byte) bs

-- a step, its answer, and the bytes that it leaves changed
pub record Line : Type 0 where
  pub step : Step
  pub answer : Answered
  pub leaves : List Stored

abbrev pub line : Step → Answered → List Stored → Line
line x answered leaves = record { step = x; answer = answered; leaves = leaves }

-- a channel list, an image, and the steps one after another
pub record Scenario : Type 0 where
  pub channels : List Channel
  pub start : Image
  pub lines : List Line

abbrev pub scenario : List Channel → Image → List Line → Scenario
scenario cs m ls = record { channels = cs; start = m; lines = ls }

-- what the rules make of a scenario, without a memory: the answer and the image after each step
abbrev pub does : Scenario → List (Outcome Answered State)
does example = map (λ (e : Event). e.outcome) (history (alone example.start) example.channels (map (λ (l : Line). l.step) example.lines))

-- the paper's line for each step: its answer, and the image with the bytes that change; where the paper prints only some of these, we filled in the others
abbrev pub says_from : Image → List Line → List (Outcome Answered State)
says_from m [] = []
says_from m (l ∷ ls) = outcome l.answer (alone (storing m l.leaves)) ∷ says_from (storing m l.leaves) ls

-- of a scenario
abbrev pub says : Scenario → List (Outcome Answered State)
says example = says_from example.start example.lines

-- ---- the images

-- a zero image
abbrev pub zero_image : Image
zero_image = replicate image_length 0

-- unless said, other bytes are 0 and EIVR is 46h
unfoldable pub image : List Stored → Image
image bs = storing zero_image ((EIVR ↤ 0x46) ∷ bs)

-- the record of C09 to C11: its page and registers are free in the paper
abbrev pub channel : Channel
channel = record { page = 9; idcr = 240; ivr = 241; dcpr = 242; dapr = 243; io = 244; direction = 0 }

-- its DCPR 11h and data 5Ah
unfoldable pub image_with : List Stored → Image
unfolding image dcpr_byte data_byte
image_with bs = storing (image ((dcpr_byte channel ↤ 0x11) ∷ (data_byte channel ↤ 0x5a) ∷ [])) bs

-- ---- the examples

-- C01: reset of a zero image
unfoldable pub c01 : List Scenario
c01 = scenario [] zero_image (line step.Reset (Ok answer.Reset) ((CICR ↤ 0x87) ∷ (MODER ↤ 0xe0) ∷ (EIPLR ↤ 0xff) ∷ (EIVR ↤ 0x06) ∷ []) ∷ []) ∷ []

-- C02: pin 1 falling, twice
unfoldable pub c02 : List Scenario
unfolding image
c02 =
    scenario [] (image ((EITR ↤ 0x00) ∷ []))
    (line (step.Trigger (trigger.Pin 1 0)) (Ok (answer.Triggered effect.Raised effect.NotSelected)) ((EIPR ↤ 0x02) ∷ [])
    ∷ line (step.Trigger (trigger.Pin 1 0)) (Ok (answer.Triggered effect.Merged effect.NotSelected)) [] ∷ [])
    ∷ []

-- C03: two external channels pending
unfoldable pub c03 : List Scenario
unfolding image
c03 =
    scenario [] (image ((CICR ↤ 0x97) ∷ (EIPR ↤ 0x03) ∷ (EIMR ↤ 0x03) ∷ (EIPLR ↤ 0xfc) ∷ []))
    (line step.Arbitrate (Ok (answer.Interrupt 0 0 0x40)) ((EIPR ↤ 0x02) ∷ (CICR ↤ 0x87) ∷ []) ∷ [])
    ∷ []

-- C04: return after C03, then arbitrate: the image that C03 leaves is written out
unfoldable pub c04 : List Scenario
unfolding image
c04 =
    scenario [] (image ((CICR ↤ 0x87) ∷ (EIPR ↤ 0x02) ∷ (EIMR ↤ 0x03) ∷ (EIPLR ↤ 0xfc) ∷ []))
    (line step.Return (Ok answer.Returned) ((CICR ↤ 0x97) ∷ [])
    ∷ line step.Arbitrate (Ok (answer.Interrupt 1 1 0x42)) ((EIPR ↤ 0x00) ∷ (CICR ↤ 0x87) ∷ []) ∷ [])
    ∷ []

-- C05: a nested acknowledgement and its return
unfoldable pub c05 : List Scenario
unfolding image
c05 =
    scenario [] (image ((CICR ↤ 0x9c) ∷ (EIPR ↤ 0x01) ∷ (EIMR ↤ 0x01) ∷ (EIPLR ↤ 0xfc) ∷ []))
    (line step.Arbitrate (Ok (answer.Interrupt 0 0 0x40)) ((EIPR ↤ 0x00) ∷ (NICR ↤ 0x10) ∷ (CICR ↤ 0x88) ∷ [])
    ∷ line step.Return (Ok answer.Returned) ((CICR ↤ 0x9c) ∷ (NICR ↤ 0x00) ∷ []) ∷ [])
    ∷ []

-- C06: level 7 is never eligible; level 6 under CPL 7 is
unfoldable pub c06 : List Scenario
unfolding image
c06 =
    scenario [] (image ((CICR ↤ 0x97) ∷ (EIPLR ↤ 0xff) ∷ (EIMR ↤ 0xff) ∷ (EIPR ↤ 0x80) ∷ [])) (line step.Arbitrate (Ok answer.Nothing) [] ∷ [])
    ∷ scenario [] (image ((CICR ↤ 0x97) ∷ (EIPLR ↤ 0xff) ∷ (EIMR ↤ 0xff) ∷ (EIPR ↤ 0x40) ∷ []))
    (line step.Arbitrate (Ok (answer.Interrupt 6 6 0x4c)) ((EIPR ↤ 0x00) ∷ (CICR ↤ 0x87) ∷ []) ∷ [])
    ∷ []

-- C07: a level equal to CPL, and one below it
unfoldable pub c07 : List Scenario
unfolding image
c07 =
    scenario [] (image ((CICR ↤ 0x92) ∷ (EIPLR ↤ 0xfd) ∷ (EIPR ↤ 0x01) ∷ (EIMR ↤ 0x01) ∷ [])) (line step.Arbitrate (Ok answer.Nothing) [] ∷ [])
    ∷ scenario [] (image ((CICR ↤ 0x93) ∷ (EIPLR ↤ 0xfd) ∷ (EIPR ↤ 0x01) ∷ (EIMR ↤ 0x01) ∷ []))
    (line step.Arbitrate (Ok (answer.Interrupt 0 2 0x40)) ((EIPR ↤ 0x00) ∷ (CICR ↤ 0x83) ∷ []) ∷ [])
    ∷ []

-- C08: top level, the next arbitration, and the return
unfoldable pub c08 : List Scenario
unfolding image
c08 =
    scenario [] (image ((CICR ↤ 0xc7) ∷ (NICR ↤ 0x80) ∷ []))
    (line step.Arbitrate (Ok answer.TopLevel) ((CICR ↤ 0x87) ∷ (MARK ↤ 1) ∷ [])
    ∷ line step.Arbitrate (Ok answer.Nothing) []
    ∷ line step.Return (Ok answer.Returned) ((MARK ↤ 0) ∷ []) ∷ [])
    ∷ []

-- C09: a DMA service that ends a block
unfoldable pub c09 : List Scenario
unfolding image_with idcr_byte
c09 =
    scenario (channel ∷ []) (image_with ((idcr_byte channel ↤ 0x3a) ∷ (16 ↤ 20) ∷ (17 ↤ 1) ∷ (CICR ↤ 0x87) ∷ []))
    (line step.Arbitrate (Ok (answer.Transferred 8 true)) ((20 ↤ 0x5a) ∷ (16 ↤ 21) ∷ (17 ↤ 0) ∷ (idcr_byte channel ↤ 0x2a) ∷ []) ∷ [])
    ∷ []

-- C10: the last address and a counter of 0; then refused with 6
unfoldable pub c10 : List Scenario
unfolding image_with idcr_byte
c10 =
    scenario (channel ∷ []) (image_with ((idcr_byte channel ↤ 0x32) ∷ (16 ↤ 223) ∷ (17 ↤ 0) ∷ (CICR ↤ 0x87) ∷ []))
    (line step.Arbitrate (Ok (answer.Transferred 8 false)) ((223 ↤ 0x5a) ∷ (16 ↤ 224) ∷ (17 ↤ 255) ∷ (idcr_byte channel ↤ 0x12) ∷ [])
    ∷ line (step.Trigger (trigger.Request 0)) (Ok (answer.Triggered effect.Raised effect.NotSelected)) ((idcr_byte channel ↤ 0x32) ∷ [])
    ∷ line step.Arbitrate (Err refusal.Pointer) [] ∷ [])
    ∷ []

-- C11: DMA before an interrupt of the same level
unfoldable pub c11 : List Scenario
unfolding image_with idcr_byte
c11 =
    scenario (channel ∷ [])
    (image_with ((idcr_byte channel ↤ 0x3a) ∷ (16 ↤ 20) ∷ (17 ↤ 1) ∷ (CICR ↤ 0x97) ∷ (EIPLR ↤ 0xfd) ∷ (EIPR ↤ 0x01) ∷ (EIMR ↤ 0x01) ∷ []))
    (line step.Arbitrate (Ok (answer.Transferred 8 true)) ((20 ↤ 0x5a) ∷ (16 ↤ 21) ∷ (17 ↤ 0) ∷ (idcr_byte channel ↤ 0x2a) ∷ []) ∷ [])
    ∷ []

-- C12: a write to EIPR answers the bits lost
unfoldable pub c12 : List Scenario
unfolding image
c12 = scenario [] (image ((EIPR ↤ 0x03) ∷ [])) (line (step.Write EIPR 0x01) (Ok (answer.Written (losses 0x02))) ((EIPR ↤ 0x01) ∷ []) ∷ []) ∷ []

-- C13: TLNM is set-only
unfoldable pub c13 : List Scenario
unfolding image
c13 = scenario [] (image ((NICR ↤ 0x80) ∷ [])) (line (step.Write NICR 0x00) (Ok (answer.Written (losses 0x00))) [] ∷ []) ∷ []

-- all thirteen, in order
unfoldable pub examples : List (List Scenario)
unfolding c01 c02 c03 c04 c05 c06 c07 c08 c09 c10 c11 c12 c13
examples = c01 ∷ c02 ∷ c03 ∷ c04 ∷ c05 ∷ c06 ∷ c07 ∷ c08 ∷ c09 ∷ c10 ∷ c11 ∷ c12 ∷ c13 ∷ []

-- the one claim: each does what the paper says, answers and whole images
abbrev pub ExamplesHold : Type 0
ExamplesHold = map (map does) examples ≡ map (map says) examples
