-- Document 02, §1: examples of a transfer with the memory, whole images and memories compared. The record is that of C09 to C11. Assumes nothing.
use Rattle.std.specs.Prelude.{Ok, Err}
use mathlib.Core.Path.{◌≡◌, refl}
use mathlib.Core.Bool.{false}
use mathlib.Core.List.{List, [], ◌∷◌}
use Prim.Native.Nat.{ℕ}
use Rattle.bits.specs.Bits.{digit, bit, put_bit}
use Rattle.rules.specs.declared.Channel.{Channel}
use Rattle.rules.specs.declared.Step.TheVariants as step
use Rattle.rules.specs.declared.Answer.TheVariants as answer
use Rattle.rules.specs.declared.Refusal.TheVariants as refusal
use Rattle.rules.specs.declared.RunRefusal.TheVariants as run_refused
use Rattle.rules.specs.Image.{Image, page_byte, put, CICR}
use Rattle.rules.specs.Channels.{idcr_byte, ivr_byte, dcpr_byte, dapr_byte, data_byte, records_ok, member, distinct, all_bytes, list_ok}
use Rattle.rules.specs.Outcomes.{state, outcome, refuse}
use Rattle.rules.specs.Table.{existing_bits}
use Rattle.rules.specs.Registers.{page_zero, record_place, records_place, place_of, read_of}
use Rattle.rules.specs.Sources.{sources, pending_bit, pending, unmasked, dma_enabled, external_level, level}
use Rattle.rules.specs.Requests.{request_of, eligible, is_at, won_by, candidate, first, winner_of_kind, winner_at_level, winner_of}
use Rattle.rules.specs.Transfer.{pair_of, settled, finished, address_pair_of, word_at, put_word, moved_memory, one_more_word, less_one_word, advanced_words, served_memory, memory_transfer, transfer_of}
use Rattle.rules.specs.Arbitration.{granted, top_level, arbitrate_of}
use Rattle.rules.specs.Steps.{lent_verdict, act_of, step_of}
use Rattle.rules.specs.Runs.{history, state_after, counted, until, last_answer, run_answer, run_of}
use Rattle.rules.specs.Examples.{Stored, ◌↤◌, image, channel}

abbrev channels : List Channel
channels = channel ∷ []

-- DCPR, DAPR, IDCR, and further bytes; the data register has 5Ah
abbrev image_of : ℕ → ℕ → ℕ → List Stored → Image
image_of dcpr dapr idcr bs =
    image ((CICR ↤ 0x87) ∷ (dcpr_byte channel ↤ dcpr) ∷ (dapr_byte channel ↤ dapr) ∷ (data_byte channel ↤ 0x5a) ∷ (idcr_byte channel ↤ idcr) ∷ bs)

-- 1. both pointers name R16 and R17, which hold 0005h: the byte goes to 0005h, and the counter stands. 2. DCPR E0h and no memory: 6 comes before 5. 3. pointers that
-- are good, address 0000h, no memory: 5. 4. an address of 0100h, high byte first, past a memory of two bytes: 5. 5. a run that is refused at its second step
-- keeps the byte of its first
pub memory-examples :
    (step_of (state (image_of 0x10 0x11 0x32 ((17 ↤ 5) ∷ [])) (0 ∷ 0 ∷ 0 ∷ 0 ∷ 0 ∷ 0 ∷ 0 ∷ 0 ∷ [])) channels step.Arbitrate
    ≡ outcome (Ok (answer.Transferred 8 false)) (state (image_of 0x10 0x11 0x12 ((17 ↤ 4) ∷ [])) (0 ∷ 0 ∷ 0 ∷ 0 ∷ 0 ∷ 0x5a ∷ 0 ∷ 0 ∷ [])))
    × (step_of (state (image_of 0xe0 0x10 0x32 []) []) channels step.Arbitrate ≡ refuse refusal.Pointer (state (image_of 0xe0 0x10 0x32 []) []))
    × (step_of (state (image_of 0x10 0x12 0x32 []) []) channels step.Arbitrate ≡ refuse refusal.Address (state (image_of 0x10 0x12 0x32 []) []))
    × ((step_of (state (image_of 0x10 0x12 0x32 ((18 ↤ 1) ∷ [])) (1 ∷ 2 ∷ [])) channels step.Arbitrate).answer ≡ (Err refusal.Address))
    × (run_of (state (image_of 0x10 0x12 0x32 ((17 ↤ 2) ∷ (19 ↤ 1) ∷ [])) (7 ∷ 7 ∷ [])) channels (step.Arbitrate ∷ step.Read 256 ∷ step.Arbitrate ∷ [])
    ≡ outcome (Err (run_refused.At refusal.Register 1)) (state (image_of 0x10 0x12 0x12 ((17 ↤ 1) ∷ (19 ↤ 2) ∷ [])) (7 ∷ 0x5a ∷ [])))
unfolding image digit bit put_bit page_byte put existing_bits idcr_byte ivr_byte dcpr_byte dapr_byte data_byte records_ok member distinct all_bytes list_ok page_zero record_place records_place place_of read_of sources pending_bit pending unmasked dma_enabled external_level level request_of eligible is_at won_by candidate first winner_of_kind winner_at_level winner_of pair_of settled finished address_pair_of word_at put_word moved_memory one_more_word less_one_word advanced_words served_memory memory_transfer transfer_of granted top_level arbitrate_of lent_verdict act_of step_of history state_after counted until last_answer run_answer run_of
memory-examples = (refl, refl, refl, refl, refl)
