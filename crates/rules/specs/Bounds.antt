-- The bound of demand 3 for one image, channel list, source and list of steps: whether the premises hold (Demand3 `Start`, `OnlyCalls`), which of them
-- fails first, and H + E + 1 where they hold. Assumes nothing.
use Rattle.std.specs.Prelude.{◌≡◌, Bool, false, cond, not, ◌&&◌, ◌||◌, List, [], ◌∷◌, ℕ, zero, suc, ◌+◌, ltb, Result, Ok, Err}
use Rattle.std.proofs.Math.Option.{Option, none, some, get_or, map}
use Rattle.rules.specs.declared.Channel.{Channel}
use Rattle.rules.specs.declared.Step.{Step}
use Rattle.rules.specs.declared.Bound.{Bound}
use Rattle.rules.specs.declared.NoBound.{NoBound}
use Rattle.rules.specs.declared.NoBound.TheVariants as no_bound
use Rattle.rules.specs.Image.{Image, has, in_service, CPL, IAM, IEN, TLI, TLNM}
use Rattle.rules.specs.Outcomes.{State, alone, refused_or}
use Rattle.rules.specs.Sources.{sources, pending, unmasked, dma_enabled, level}
use Rattle.rules.specs.Runs.{Event, history, event_refused, is_arbitration, wait_verdict, Waited}
use Rattle.rules.specs.Demand3.{H, E, Start, is_call, OnlyCalls}
use Rattle.rules.specs.Claims.{WaitWithin}

-- what is answered: a bound, or why there is none
abbrev pub Bounded : Type 0
Bounded = Result Bound NoBound

abbrev pub bound_at : ℕ → ℕ → ℕ → Bound
bound_at outranking triggers bound = record { outranking = outranking; triggers = triggers; bound = bound }

-- ---- the premises on the start, each with what is answered where it is the first that fails

-- what is answered where a premise fails by this test, else what comes next
abbrev pub failing : Bool → NoBound → Bounded → Bounded
failing fails reason next = cond fails (Err reason) next

-- the same by the test that it holds
abbrev pub holding : Bool → NoBound → Bounded → Bounded
holding holds reason next = cond holds next (Err reason)

-- some number below n passes a test
unfoldable pub any_below : ℕ → (ℕ → Bool) → Bool
any_below zero test = false
any_below (suc n) test = test n || any_below n test

-- some record has DMA enabled
abbrev pub any_dma : Image → List Channel → Bool
any_dma m cs = any_below (sources cs) (dma_enabled m cs)

-- top level disabled is TLNM and TLI both 0
abbrev pub top_level_enabled : Image → Bool
top_level_enabled m = has m TLNM || has m TLI

-- on the image and the list, in the order of Demand3 `Calm`
unfoldable pub calm_premises : Image → List Channel → Bounded → Bounded
calm_premises m cs next =
    failing (has m IAM) no_bound.Nested
    (failing (any_dma m cs) no_bound.DmaEnabled
    (failing (top_level_enabled m) no_bound.TopLevelEnabled
    (failing (in_service m) no_bound.TopLevelInService next)))

-- on the source, in the order of Demand3 `Start`
unfoldable pub source_premises : Image → List Channel → ℕ → Bounded → Bounded
source_premises m cs ours next =
    holding (pending m cs ours) no_bound.NotPending
    (holding (unmasked m cs ours) no_bound.Masked
    (holding (ltb (level m cs ours) (CPL m)) no_bound.LevelNotAbove next))

-- all of them
abbrev pub start_premises : Image → List Channel → ℕ → Bounded → Bounded
start_premises m cs ours next = calm_premises m cs (source_premises m cs ours next)

-- ---- the premises on the steps

-- a step that is no trigger, arbitration or return, and is not refused
abbrev pub other_step : Event → Bool
other_step e = not (event_refused e) && not (is_call e.step)

-- an arbitration with interrupts disabled, on the image that it gets (on data that is accepted, with no DMA enabled, none is refused)
abbrev pub disabled_step : Event → Bool
disabled_step e = is_arbitration e.step && not (has e.before.image IEN)

-- the index of the first event that passes a test, where the events start at this index
unfoldable pub first_from : ℕ → (Event → Bool) → List Event → Option ℕ
first_from index test [] = none
first_from index test (e ∷ es) = cond (test e) (some index) (first_from (index + 1) test es)

-- H, E and the bound
abbrev pub bounding : ℕ → ℕ → Bounded
bounding outranking triggers = Ok (bound_at outranking triggers (outranking + triggers + 1))

-- what is answered of the events of a list of steps from m: the first step of another kind, wherever it stands; then the first arbitration with interrupts
-- disabled; then the bound
unfoldable pub bound_in : Image → List Channel → ℕ → List Event → Bounded
bound_in m cs ours es =
    get_or (map (λ index. Err (no_bound.OtherStep index)) (first_from 0 other_step es))
    (get_or (map (λ index. Err (no_bound.InterruptsDisabled index)) (first_from 0 disabled_step es)) (bounding (H m cs ours) (E m cs ours es)))

-- ---- the bound

-- on data that is accepted: the premises on the start, and on the steps, each done, without a memory, on the image that the one before it left
abbrev pub accepted_bound : Image → List Channel → ℕ → List Step → Bounded
accepted_bound m cs ours xs = start_premises m cs ours (bound_in m cs ours (history (alone m) cs xs))

-- refused with 1, then 2, then 4, as a wait report without a memory is; then the first premise on the start that fails; then those on the steps; then the bound
unfoldable pub bound_of : Image → List Channel → ℕ → List Step → Bounded
bound_of m cs ours xs = refused_or (wait_verdict (alone m) cs ours) (λ reason. Err (no_bound.Refused reason)) (accepted_bound m cs ours xs)

-- ---- what an answer says

-- P of H, E and the bound where one is answered, else Q
abbrev pub where_bounded : (ℕ → ℕ → ℕ → Type 0) → Type 0 → Bounded → Type 0
where_bounded P Q (Ok given) = P given.outranking given.triggers given.bound
where_bounded P Q (Err reason) = Q

-- a bound is answered exactly where demand 3's premises hold of the start and the steps; it is H + E + 1
abbrev pub BoundSays : State → List Channel → ℕ → List Step → Bounded → Type 0
BoundSays s cs ours xs answered =
    let es = history s cs xs in
    let m = s.image in
    where_bounded
    (λ outranking triggers bound.
    Start m cs ours × OnlyCalls es × (outranking ≡ H m cs ours) × (triggers ≡ E m cs ours es) × (bound ≡ outranking + triggers + 1))
    (Start m cs ours → OnlyCalls es → ⊥) answered

-- a wait report on the same data that answers w, with ours pending still after it or not: where a bound is answered, it is within it, and the bound is H + E + 1
abbrev pub WaitInBound : Bounded → Waited → Bool → Type 0
WaitInBound answered w still =
    where_bounded (λ outranking triggers bound. WaitWithin bound w still × (bound ≡ outranking + triggers + 1)) (Unit {0}) answered
