-- Demand 3's premises can be met, and its bound is met exactly: a list of calls that needs H + E + 1 arbitrations. What must not count is there too:
-- a masked source above ours and one that ours outranks, both pending and triggered, a trigger of ours, and a refused one. Assumes nothing.
use Rattle.std.specs.Prelude.{Ok}
use mathlib.Core.Path.{◌≡◌, refl, ap₂, ◌∙◌}
use mathlib.Core.Bool.{true, false, not}
use mathlib.Core.List.{List, [], ◌∷◌, ◌++◌}
use Prim.Native.Nat.{ℕ, ◌+◌}
use native.Mathlib.Omega.{arith}
use lib.Dec.{lit<}
use lib.ListN.{length, take, drop}
use lib.Seq.{take-length}
use Rattle.bits.specs.Bits.{digit, bit, put_bit}
use Rattle.bits.proofs.Tests.{passes, fails}
use Rattle.rules.specs.declared.Channel.{Channel}
use Rattle.rules.specs.declared.Step.{Step}
use Rattle.rules.specs.declared.Step.TheVariants as step
use Rattle.rules.specs.declared.Trigger.TheVariants as trigger
use Rattle.rules.specs.declared.WaitEnd.TheVariants as wait
use Rattle.rules.specs.Image.{Image, page_byte, put, CICR, EIPR, EIMR, EIPLR}
use Rattle.rules.specs.Channels.{idcr_byte, ivr_byte, dcpr_byte, dapr_byte, data_byte, records_ok, member, distinct, all_bytes, list_ok}
use Rattle.rules.specs.Outcomes.{alone}
use Rattle.rules.specs.Sources.{sources, pending_bit, pending, unmasked, dma_enabled, external_level, level}
use Rattle.rules.specs.Triggers.{trigger_verdict, selects, selects_top, source_effect, raise_source, top_effect, raise_top, fired, trigger_of}
use Rattle.rules.specs.Requests.{request_of, eligible, is_at, won_by, candidate, first, winner_of_kind, winner_at_level, winner_of}
use Rattle.rules.specs.Arbitration.{vector_of, cleared, acknowledged, granted, top_level, arbitrate_of}
use Rattle.rules.specs.Return.{returned, return_of}
use Rattle.rules.specs.Steps.{lent_verdict, act_of, step_of}
use Rattle.rules.specs.Runs.{until, last_answer, state_after, wait_events, wait_answer, wait_verdict, wait_of, Event, any_event, counted, history, acknowledged_in, arbitrations_in}
use Rattle.rules.specs.Demand3.{outranks, rival, count_below, pending_of, H, E, Start, OnlyCalls}
use Rattle.rules.specs.Bounds.{bound_of, bound_at}
use Rattle.rules.specs.Examples.{image, channel, ◌↤◌}
use Rattle.rules.proofs.Histories.{history_chain}
use Rattle.rules.proofs.Demand3.{demand3}
use Rattle.rules.proofs.BoundLaws.{none_calls, bound-given}

-- CPL is 7, IEN 0 and TLIP 1. INTA0, the record and INTB0 are at level 0, INTA1 and INTB1 at level 1; all five are pending, and all but INTB0
-- unmasked. Byte 240, which no rule reads, has what the record's IDCR has: where a record isn't there the definitions read that byte, so that a
-- refused request of it would show if it counted
unfoldable pub start : Image
unfolding image idcr_byte
start =
    image ((CICR ↤ 0xc7) ∷ (EIPR ↤ 0x0f) ∷ (EIMR ↤ 0x0b) ∷ (EIPLR ↤ 0xf0) ∷ (idcr_byte channel ↤ 0x28) ∷ (page_byte 0 240 ↤ 0x28) ∷ [])

abbrev pub channels : List Channel
channels = channel ∷ []

-- INTA1
abbrev pub ours : ℕ
ours = 1

abbrev falling : ℕ → Step
falling k = step.Trigger (trigger.Pin k 0)

abbrev request : ℕ → Step
request k = step.Trigger (trigger.Request k)

-- each rival is served, triggered and served again; there is no record 1
abbrev pub steps : List Step
steps =
    step.Return ∷ step.Arbitrate ∷ falling 0 ∷ falling 1 ∷ falling 2 ∷ falling 3 ∷ request 1 ∷ step.Return ∷ step.Arbitrate ∷ step.Return ∷ step.Arbitrate
    ∷ request 0 ∷ step.Return ∷ step.Arbitrate ∷ step.Return ∷ step.Arbitrate ∷ []

abbrev pub events : List Event
events = history (alone start) channels steps

starts : Start start channels ours
unfolding start image digit bit page_byte idcr_byte ivr_byte dcpr_byte dapr_byte data_byte records_ok member distinct all_bytes list_ok sources pending_bit pending unmasked dma_enabled external_level level
starts =
    record {
      calm =
          record {
            long = refl;
            listed = refl;
            concurrent = refl;
            no_dma = λ k h. fails (dma_enabled start channels k) (passes 9 (λ k. not (dma_enabled start channels k)) tt k h);
            no_TLI = refl;
            no_TLNM = refl;
            idle = refl;
          };
      there = lit< tt;
      waits = refl;
      unmasked_there = refl;
      above = lit< tt;
    }

-- a start and a list of calls as demand 3 asks, with H = 2 and E = 2: ours is not acknowledged among the first four arbitrations, and is by the fifth
pub tight : Start start channels ours × OnlyCalls events × (H start channels ours ≡ 2) × (E start channels ours events ≡ 2)
    × (arbitrations_in (take 15 events) ≡ 4) × (acknowledged_in ours (take 15 events) ≡ false)
    × (arbitrations_in events ≡ 5) × (acknowledged_in ours events ≡ true)
unfolding start image digit bit put_bit page_byte put idcr_byte ivr_byte dcpr_byte dapr_byte data_byte records_ok member distinct all_bytes list_ok sources pending_bit pending unmasked dma_enabled external_level level trigger_verdict selects selects_top source_effect raise_source top_effect raise_top fired trigger_of request_of eligible is_at won_by candidate first winner_of_kind winner_at_level winner_of vector_of cleared acknowledged granted top_level arbitrate_of returned return_of lent_verdict act_of step_of history outranks rival count_below pending_of any_event counted
tight = (starts, none_calls events refl refl, refl, refl, refl, refl, refl, refl)

-- and demand 3 promises no later one: the list has no sixth
pub demand3-tight : acknowledged_in ours events ≡ true
demand3-tight =
    rw (take-length events) at (demand3 start channels ours events (history_chain (alone start) channels steps) tight.0 tight.1 (length events)).0
    (omega (arith, tight.2, tight.3, tight.6))

-- the bound that is answered for it is H + E + 1
pub bound-tight : bound_of start channels ours steps ≡ (Ok (bound_at 2 2 5))
bound-tight =
    bound-given start channels ours steps tight.0 tight.1
    ∙ ap₂ (λ (h e : ℕ). (Ok (bound_at h e (h + e + 1)))) tight.2 tight.3

-- the same as a wait report, without the refused request, which would end it: acknowledged with H + E + 1 arbitrations
abbrev pub accepted : List Step
accepted = take 6 steps ++ drop 7 steps

pub wait-tight : OnlyCalls (wait_events (alone start) channels ours accepted)
    × (H start channels ours + E start channels ours (wait_events (alone start) channels ours accepted) ≡ 4)
    × ((wait_of (alone start) channels ours accepted).answer ≡ (Ok (wait.Acknowledged 5)))
unfolding start image digit bit put_bit page_byte put idcr_byte ivr_byte dcpr_byte dapr_byte data_byte records_ok member distinct all_bytes list_ok sources pending_bit pending unmasked dma_enabled external_level level trigger_verdict selects selects_top source_effect raise_source top_effect raise_top fired trigger_of request_of eligible is_at won_by candidate first winner_of_kind winner_at_level winner_of vector_of cleared acknowledged granted top_level arbitrate_of returned return_of lent_verdict act_of step_of history outranks rival count_below pending_of any_event counted until last_answer state_after wait_answer wait_verdict wait_of
wait-tight = (none_calls (wait_events (alone start) channels ours accepted) refl refl, refl, refl)
