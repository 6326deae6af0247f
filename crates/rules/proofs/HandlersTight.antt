-- The bound of Handlers can be met exactly: a handler's list that needs H + E + 1 arbitrations, where one write of EIPR raises two rivals. And what is
-- answered of steps that its premises forbid. Assumes nothing.
use Rattle.std.specs.Prelude.{Ok, Err}
use mathlib.Core.Path.{◌≡◌, refl}
use mathlib.Core.Bool.{true, false}
use mathlib.Core.Option.{or_else}
use mathlib.Core.List.{List, [], ◌∷◌, map}
use Prim.Native.Nat.{◌+◌, ◌*◌}
use lib.ListN.{take}
use Rattle.bits.specs.Bits.{digit, bit, put_bit}
use Rattle.rules.specs.declared.Step.{Step}
use Rattle.rules.specs.declared.Step.TheVariants as step
use Rattle.rules.specs.declared.Trigger.TheVariants as trigger
use Rattle.rules.specs.declared.Basis.TheVariants as basis
use Rattle.rules.specs.declared.NoBound.TheVariants as no_bound
use Rattle.rules.specs.Image.{Image, page_byte, put, CICR, PPR, EIPR, EIMR, EIPLR, NICR}
use Rattle.rules.specs.Channels.{idcr_byte, ivr_byte, dcpr_byte, dapr_byte, data_byte, records_ok, member, distinct, all_bytes, list_ok}
use Rattle.rules.specs.Table.{rows, row_place, existing_bits}
use Rattle.rules.specs.Outcomes.{alone}
use Rattle.rules.specs.Registers.{page_zero, record_place, records_place, place_of, read_of, stored_byte, lost_bits, write_at, write_of, reset_byte, reset_row, reset_rows, reset_of}
use Rattle.rules.specs.Sources.{sources, pending_bit, pending, unmasked, dma_enabled, external_level, level}
use Rattle.rules.specs.Triggers.{trigger_verdict, selects, selects_top, source_effect, raise_source, top_effect, raise_top, fired, trigger_of}
use Rattle.rules.specs.Requests.{request_of, eligible, is_at, won_by, candidate, first, winner_of_kind, winner_at_level, winner_of}
use Rattle.rules.specs.Arbitration.{vector_of, cleared, acknowledged, granted, top_level, arbitrate_of}
use Rattle.rules.specs.Return.{returned, return_of}
use Rattle.rules.specs.Steps.{lent_verdict, act_of, step_of}
use Rattle.rules.specs.Runs.{until, wait_verdict, Event, any_event, counted, history, acknowledged_in, arbitrations_in}
use Rattle.rules.specs.Demand3.{outranks, rival, count_below, pending_of, H, E, Start}
use Rattle.rules.specs.Handlers.{raised, raised_of, Handles, up_to}
use Rattle.rules.specs.Bounds.{any_below, calm_premises, source_premises, Bounded, bound_at}
use Rattle.rules.specs.HandlerBounds.{changes, first_changed, broken_step, broken_by, first_broken, handler_bound_in, handler_bound_of}
use Rattle.rules.specs.Examples.{image, channel, ◌↤◌}
use Rattle.rules.proofs.HandlerBoundLaws.{handler_premises}
use Rattle.rules.proofs.Tight.{channels, ours}

-- CPL is 7, IEN 0 and TLIP 1, and page 0 is selected. INTA0, INTB0 and the record are at level 0, INTA1 (ours) and INTB1 at level 1; all but INTB1 are
-- unmasked. INTA0 and ours are pending
unfoldable pub start : Image
unfolding image idcr_byte
start = image ((CICR ↤ 0xc7) ∷ (EIPR ↤ 0x03) ∷ (EIMR ↤ 0x07) ∷ (EIPLR ↤ 0xf0) ∷ (idcr_byte channel ↤ 0x08) ∷ [])

-- INTA0 is served. Its handler reads EIPR and writes it with INTA0, ours, INTB0 and INTB1: two rivals are raised. They are served; a handler selects the
-- record's page, raises the record, works in the register file and enables interrupts by CICR. The record is served, INTA0 triggered and served, then ours
abbrev pub steps : List Step
steps =
    step.Return ∷ step.Arbitrate ∷ step.Read EIPR ∷ step.Write EIPR 0x0f ∷ step.Return ∷ step.Arbitrate ∷ step.Return ∷ step.Arbitrate
    ∷ step.Write PPR (4 * channel.page) ∷ step.Write channel.idcr 0x28 ∷ step.Write 10 0xaa ∷ step.Write CICR 0x97 ∷ step.Arbitrate
    ∷ step.Trigger (trigger.Pin 0 0) ∷ step.Return ∷ step.Arbitrate ∷ step.Return ∷ step.Arbitrate ∷ []

abbrev pub events : List Event
events = history (alone start) channels steps

-- the bound that is answered is H + E + 1, with H = 1, one trigger, and three rivals raised by writes; so the premises hold. Ours is not acknowledged among
-- the first five arbitrations, and is by the sixth: a bound that forgets what the writes raise, or counts one for each write that raises, is wrong
pub handlers-tight :
    (handler_bound_of start channels ours steps ≡ (Ok (bound_at 1 4 6))) × Start start channels ours × Handles channels ours (up_to ours events)
    × (H start channels ours + E start channels ours events ≡ 2)
    × (arbitrations_in (take 17 events) ≡ 5) × (acknowledged_in ours (take 17 events) ≡ false)
    × (arbitrations_in events ≡ 6) × (acknowledged_in ours events ≡ true)
unfolding start image digit bit put_bit page_byte put idcr_byte ivr_byte dcpr_byte dapr_byte data_byte records_ok member distinct all_bytes list_ok sources pending_bit pending unmasked dma_enabled external_level level trigger_verdict selects selects_top source_effect raise_source top_effect raise_top fired trigger_of request_of eligible is_at won_by candidate first winner_of_kind winner_at_level winner_of vector_of cleared acknowledged granted top_level arbitrate_of returned return_of lent_verdict act_of step_of history outranks rival count_below pending_of any_event counted until rows existing_bits page_zero record_place records_place place_of read_of stored_byte lost_bits write_at write_of raised raised_of any_below changes first_changed broken_step broken_by or_else first_broken calm_premises source_premises wait_verdict handler_bound_in handler_bound_of
handlers-tight =
    let bound : handler_bound_of start channels ours steps ≡ (Ok (bound_at 1 4 6)) = refl in
    let p = handler_premises start channels ours steps 1 4 6 bound in
    (bound, p.0, p.1, refl, refl, refl, refl, refl)

-- ---- what the premises forbid: each write is answered with what it changed

abbrev pub answer_to : List Step → Bounded
answer_to xs = handler_bound_of start channels ours xs

-- EIPR without our bit; CICR with IAM, with another CPL, with TLI; NICR with TLNM; EIMR and EIPLR changed; the record's DM set, its PRL changed; a reset;
-- an arbitration after a write that clears IEN. Then two writes that change several things: CICR with IAM, another CPL and TLI, the record's IDCR with IM, DM
-- and PRL changed. And a reset behind the acknowledgement, which is not looked at
pub changed-answers :
    map answer_to (
    (step.Return ∷ step.Write EIPR 0x01 ∷ []) ∷ (step.Write CICR 0x9f ∷ []) ∷ (step.Write CICR 0x96 ∷ []) ∷ (step.Write CICR 0xb7 ∷ [])
    ∷ (step.Write NICR 0x80 ∷ []) ∷ (step.Write EIMR 0x0f ∷ []) ∷ (step.Write EIPLR 0xf1 ∷ [])
    ∷ (step.Write PPR (4 * channel.page) ∷ step.Write channel.idcr 0x18 ∷ []) ∷ (step.Write PPR (4 * channel.page) ∷ step.Write channel.idcr 0x09 ∷ [])
    ∷ (step.Reset ∷ []) ∷ (step.Write CICR 0x87 ∷ step.Arbitrate ∷ [])
    ∷ (step.Write CICR 0xbe ∷ []) ∷ (step.Write PPR (4 * channel.page) ∷ step.Write channel.idcr 0x11 ∷ [])
    ∷ (step.Return ∷ step.Arbitrate ∷ step.Return ∷ step.Arbitrate ∷ step.Reset ∷ []) ∷ [])
    ≡ ((Err (no_bound.Changed basis.Pending 1)) ∷ (Err (no_bound.Changed basis.Mode 0)) ∷ (Err (no_bound.Changed basis.CurrentLevel 0)) ∷ (Err (no_bound.Changed basis.TopLevel 0))
    ∷ (Err (no_bound.Changed basis.TopLevel 0)) ∷ (Err (no_bound.Changed basis.Mask 0)) ∷ (Err (no_bound.Changed basis.Level 0))
    ∷ (Err (no_bound.Changed basis.DmaEnable 1)) ∷ (Err (no_bound.Changed basis.Level 1))
    ∷ (Err (no_bound.OtherStep 0)) ∷ (Err (no_bound.InterruptsDisabled 1))
    ∷ (Err (no_bound.Changed basis.Mode 0)) ∷ (Err (no_bound.Changed basis.Mask 1)) ∷ (Ok (bound_at 1 0 2)) ∷ [])
unfolding start image digit bit put_bit page_byte put idcr_byte ivr_byte dcpr_byte dapr_byte data_byte records_ok member distinct all_bytes list_ok sources pending_bit pending unmasked dma_enabled external_level level trigger_verdict selects selects_top source_effect raise_source top_effect raise_top fired trigger_of request_of eligible is_at won_by candidate first winner_of_kind winner_at_level winner_of vector_of cleared acknowledged granted top_level arbitrate_of returned return_of lent_verdict act_of step_of history outranks rival count_below pending_of any_event counted until rows existing_bits page_zero record_place records_place place_of read_of stored_byte lost_bits write_at write_of raised raised_of any_below changes first_changed broken_step broken_by or_else first_broken calm_premises source_premises wait_verdict handler_bound_in handler_bound_of row_place reset_byte reset_row reset_rows reset_of
changed-answers = refl
