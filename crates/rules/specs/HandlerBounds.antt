-- The bound of Handlers for one image, channel list, source and list of steps: whether the premises hold (Demand3 `Start`, Handlers `Handles`), which of
-- them fails first, and where they hold H + EAndRaised + 1, over the steps until ours is acknowledged. Assumes nothing.
use Rattle.std.specs.Prelude.{◌≡◌, Bool, cond, not, ◌&&◌, ◌||◌, List, [], ◌∷◌, ℕ, ◌+◌, eqb, Err}
use Rattle.std.proofs.Math.Option.{Option, none, some, or_else, get_or, map}
use Rattle.rules.specs.declared.Channel.{Channel}
use Rattle.rules.specs.declared.Step.{Step}
use Rattle.rules.specs.declared.Step.TheVariants as step
use Rattle.rules.specs.declared.Basis.{Basis}
use Rattle.rules.specs.declared.Basis.TheVariants as basis
use Rattle.rules.specs.declared.NoBound.{NoBound}
use Rattle.rules.specs.declared.NoBound.TheVariants as no_bound
use Rattle.rules.specs.Image.{Image, has, CPL, IAM, TLI, TLNM}
use Rattle.rules.specs.Outcomes.{State, alone, refused_or}
use Rattle.rules.specs.Sources.{sources, pending, unmasked, dma_enabled, level}
use Rattle.rules.specs.Runs.{Event, history, event_refused, wait_verdict}
use Rattle.rules.specs.Demand3.{H, Start}
use Rattle.rules.specs.Handlers.{EAndRaised, Handles, up_to}
use Rattle.rules.specs.Bounds.{any_below, start_premises, disabled_step, bounding, where_bounded, Bounded}

-- ---- what a write changed of what the bound rests on

-- two truth values differ
abbrev pub differ : Bool → Bool → Bool
differ one other = cond one (not other) other

-- whether the write erased our pending bit, or changed this setting
unfoldable pub changes : List Channel → ℕ → Image → Image → Basis → Bool
changes cs ours before after basis.Pending = pending before cs ours && not (pending after cs ours)
changes cs ours before after basis.Mode = differ (has after IAM) (has before IAM)
changes cs ours before after basis.CurrentLevel = not (eqb (CPL after) (CPL before))
changes cs ours before after basis.TopLevel = differ (has after TLI) (has before TLI) || differ (has after TLNM) (has before TLNM)
changes cs ours before after basis.Mask = any_below (sources cs) (λ source. differ (unmasked after cs source) (unmasked before cs source))
changes cs ours before after basis.DmaEnable = any_below (sources cs) (λ source. differ (dma_enabled after cs source) (dma_enabled before cs source))
changes cs ours before after basis.Level = any_below (sources cs) (λ source. not (eqb (level after cs source) (level before cs source)))

-- all of it, in the order in which a change is answered
abbrev pub bases : List Basis
bases = basis.Pending ∷ basis.Mode ∷ basis.CurrentLevel ∷ basis.TopLevel ∷ basis.Mask ∷ basis.DmaEnable ∷ basis.Level ∷ []

-- the first of some that passes a test, as the answer for the step at this index
unfoldable pub first_changed : (Basis → Bool) → List Basis → ℕ → Option NoBound
first_changed test [] index = none
first_changed test (first ∷ more) index = cond (test first) (some (no_bound.Changed first index)) (first_changed test more index)

-- ---- the premises on the steps

-- what a step that is not refused breaks
unfoldable pub broken_step : List Channel → ℕ → Image → Step → Image → ℕ → Option NoBound
broken_step cs ours before (step.Read r) after index = none
broken_step cs ours before (step.Write r v) after index = first_changed (changes cs ours before after) bases index
broken_step cs ours before (step.Trigger t) after index = none
broken_step cs ours before step.Arbitrate after index = none
broken_step cs ours before step.Return after index = none
broken_step cs ours before step.Reset after index = some (no_bound.OtherStep index)
broken_step cs ours before step.Unknown after index = some (no_bound.OtherStep index)

-- what an event breaks
unfoldable pub broken_by : List Channel → ℕ → Event → ℕ → Option NoBound
broken_by cs ours e index =
    cond (disabled_step e) (some (no_bound.InterruptsDisabled index))
    (cond (event_refused e) none (broken_step cs ours e.before.image e.step e.outcome.left.image index))

-- what the first event that breaks a premise breaks, where the events start at this index
unfoldable pub first_broken : List Channel → ℕ → ℕ → List Event → Option NoBound
first_broken cs ours index [] = none
first_broken cs ours index (e ∷ es) = or_else (broken_by cs ours e index) (first_broken cs ours (index + 1) es)

-- what is answered of the events until ours is acknowledged: the first premise that one breaks, or the bound
unfoldable pub handler_bound_in : Image → List Channel → ℕ → List Event → Bounded
handler_bound_in m cs ours es = get_or (map Err (first_broken cs ours 0 es)) (bounding (H m cs ours) (EAndRaised m cs ours es))

-- ---- the bound

-- on data that is accepted: the premises on the start, as demand 3 has them, and on the steps until ours is acknowledged
abbrev pub accepted_handler_bound : Image → List Channel → ℕ → List Step → Bounded
accepted_handler_bound m cs ours xs = start_premises m cs ours (handler_bound_in m cs ours (up_to ours (history (alone m) cs xs)))

-- refused with 1, then 2, then 4, as a wait report without a memory is; then the first premise on the start that fails; then the first step that breaks one; then the bound
unfoldable pub handler_bound_of : Image → List Channel → ℕ → List Step → Bounded
handler_bound_of m cs ours xs = refused_or (wait_verdict (alone m) cs ours) (λ reason. Err (no_bound.Refused reason)) (accepted_handler_bound m cs ours xs)

-- a bound is answered exactly where the premises hold; it is H + EAndRaised + 1 over the steps until ours is acknowledged
abbrev pub HandlerBoundSays : State → List Channel → ℕ → List Step → Bounded → Type 0
HandlerBoundSays s cs ours xs answered =
    let es = up_to ours (history s cs xs) in
    let m = s.image in
    where_bounded
    (λ outranking triggers bound.
    Start m cs ours × Handles cs ours es × (outranking ≡ H m cs ours) × (triggers ≡ EAndRaised m cs ours es) × (bound ≡ outranking + triggers + 1))
    (Start m cs ours → Handles cs ours es → ⊥) answered
