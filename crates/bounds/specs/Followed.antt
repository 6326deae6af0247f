-- Names for the private functions of `bound` and for its loop: what a step's answer tells of demand 3's triggers, and the steps followed so far.
-- Assumes nothing.
use Rattle.std.specs.Prelude.{◌≡◌, Bool, true, false, cond, not, ◌&&◌, List, ℕ, ◌+◌, ltb}
use Rattle.std.specs.Prelude.{Result, Ok, Err}
use Rattle.std.specs.declared.option.Option as rust
use Rattle.std.specs.declared.option.Option.TheVariants.{Some, None}
use Rattle.std.proofs.Math.Option.{Option, none, some, get_or, or_else, map}
use Rattle.rules.specs.declared.Channel.{Channel}
use Rattle.rules.specs.declared.Trigger.{Trigger}
use Rattle.rules.specs.declared.Trigger.TheVariants as trigger
use Rattle.rules.specs.declared.Step.{Step}
use Rattle.rules.specs.declared.Step.TheVariants as step
use Rattle.rules.specs.declared.Effect.{Effect}
use Rattle.rules.specs.declared.Effect.TheVariants as effect
use Rattle.rules.specs.declared.AnswerKind.{AnswerKind}
use Rattle.rules.specs.declared.AnswerKind.TheVariants as kind
use Rattle.rules.specs.declared.NoBound.{NoBound}
use Rattle.rules.specs.declared.NoBound.TheVariants as no_bound
use Rattle.rules.specs.Image.{Image}
use Rattle.rules.specs.Outcomes.{alone, Answered, kind_of}
use Rattle.rules.specs.Sources.{sources}
use Rattle.rules.specs.Runs.{Event, history, is_arbitration}
use Rattle.rules.specs.Demand3.{rival, triggers_of}
use Rattle.rules.specs.Encodings.{steps_of}
use Rattle.rules.specs.Bounds.{Bounded, first_from, other_step, disabled_step, bounding, bound_in, accepted_bound}

-- ---- the premises on the start

-- whether some premises hold, or the first of them that fails
abbrev pub Premises : Type 0
Premises = Result (Unit {0}) NoBound

-- what is answered by it: what comes next, or the one that fails
abbrev pub answered_by : Premises → Bounded → Bounded
answered_by (Ok it) next = next
answered_by (Err failed) next = Err failed

-- the answer of the first premise that fails, or else of what comes next (Bounds `source_premises`, `start_premises`), is decided
abbrev pub Decides : (Bounded → Bounded) → Premises → Type 0
Decides answers p = (next : Bounded) → answers next ≡ answered_by p next

-- ---- the source that a step triggered

-- raised or merged
abbrev pub selected : Effect → Bool
selected effect.NotSelected = false
selected effect.Raised = true
selected effect.Merged = true

-- of a trigger that selected a source's bit
abbrev pub selected_kind : AnswerKind → Bool
selected_kind kind.Plain = false
selected_kind (kind.Triggered maskable) = selected maskable
selected_kind (kind.Acknowledged source) = false

-- the answer of such a trigger
abbrev pub selected_in : Answered → Bool
selected_in (Ok answered) = selected_kind (kind_of answered)
selected_in (Err reason) = false

-- the one source that a trigger can select, if any
abbrev pub target_by : Trigger → rust.Option ℕ
target_by (trigger.Pin k d) = Some k
target_by trigger.Watchdog = Some 0
target_by (trigger.Nmi d) = None
target_by (trigger.Request k) = Some (8 + k)
target_by trigger.Unknown = None

abbrev pub target_of : Step → rust.Option ℕ
target_of (step.Read r) = None
target_of (step.Write r v) = None
target_of (step.Trigger t) = target_by t
target_of step.Arbitrate = None
target_of step.Return = None
target_of step.Reset = None
target_of step.Unknown = None

-- it is a source of the list, and of a set
abbrev pub target_among : List Channel → (ℕ → Bool) → rust.Option ℕ → Bool
target_among cs among None = false
target_among cs among (Some source) = ltb source (sources cs) && among source

-- by its answer, a step was a trigger of an unmasked source outranking ours on the image m
abbrev pub rival_triggered : Image → List Channel → ℕ → Step → Answered → Bool
rival_triggered m cs ours x answered = selected_in answered && target_among cs (rival m cs ours) (target_of x)

-- ---- the first arbitration with interrupts disabled

-- after step i: the index that was found before, or i where this is the first
abbrev pub first_disabled : rust.Option ℕ → ℕ → Step → Bool → rust.Option ℕ
first_disabled (Some first) i x enabled = Some first
first_disabled None i x enabled = cond (is_arbitration x && not enabled) (Some i) None

-- ---- the loop

-- what is answered of the steps of a list of words
abbrev pub steps_bound : Image → List Channel → ℕ → List ℕ → Bounded
steps_bound m cs ours words = bound_in m cs ours (history (alone m) cs (steps_of words))

-- and with the premises on the start
abbrev pub words_bound : Image → List Channel → ℕ → List ℕ → Bounded
words_bound m cs ours words = accepted_bound m cs ours (steps_of words)

-- by the indices of the first step of another kind and of the first arbitration with interrupts disabled, if there are such
abbrev pub steps_answer : Option ℕ → Option ℕ → ℕ → ℕ → Bounded
steps_answer other disabled outranking triggers =
    get_or (map (λ index. Err (no_bound.OtherStep index)) other) (get_or (map (λ index. Err (no_bound.InterruptsDisabled index)) disabled) (bounding outranking triggers))

-- the index that was found, if any
abbrev pub found : rust.Option ℕ → Option ℕ
found None = none
found (Some first) = some first

-- of the events es from step n on, with some triggers before them, and perhaps an arbitration before that had interrupts disabled
unfoldable pub followed_from : (ℕ → Bool) → ℕ → ℕ → rust.Option ℕ → ℕ → List Event → Bounded
followed_from among outranking n first triggers es =
    steps_answer (first_from n other_step es) (or_else (found first) (first_from n disabled_step es)) outranking (triggers + triggers_of among es)
