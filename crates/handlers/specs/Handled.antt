-- Names for the private functions of the bound over reads and writes and for its loop: what a step breaks, and the steps followed so far. Assumes
-- nothing.
use Rattle.std.specs.Prelude.{◌≡◌, Bool, true, false, cond, not, ◌&&◌, List, ℕ, ◌+◌, eqb, ltb, Ok, Err}
use Rattle.std.proofs.Math.Option.{Option, none, some, get_or, map}
use Rattle.rules.specs.declared.Channel.{Channel}
use Rattle.rules.specs.declared.Step.{Step}
use Rattle.rules.specs.declared.Step.TheVariants as step
use Rattle.rules.specs.declared.Basis.{Basis}
use Rattle.rules.specs.declared.Basis.TheVariants as basis
use Rattle.rules.specs.declared.NoBound.{NoBound}
use Rattle.rules.specs.declared.NoBound.TheVariants as no_bound
use Rattle.rules.specs.Image.{Image, CICR}
use Rattle.rules.specs.Outcomes.{alone, outcome, Answered, is_refused}
use Rattle.rules.specs.Sources.{sources, unmasked, dma_enabled, level}
use Rattle.rules.specs.Steps.{act_of}
use Rattle.rules.specs.Runs.{Event, event_of, history, one_if}
use Rattle.rules.specs.Demand3.{rival, triggers, triggers_of}
use Rattle.rules.specs.Handlers.{raises, raised, raised_by, raised_of, up_to}
use Rattle.rules.specs.Bounds.{any_below, bounding, Bounded}
use Rattle.rules.specs.Encodings.{steps_of}
use Rattle.rules.specs.HandlerBounds.{differ, changes, bases, first_changed, broken_by, first_broken, handler_bound_in, accepted_handler_bound}
use Rattle.bounds.specs.Followed.{Premises}
use Rattle.handlers.specs.declared.Seen.{Seen}

-- ---- what a write changed

-- of one source
abbrev pub source_changes : List Channel → Image → Image → Basis → ℕ → Bool
source_changes cs before after basis.Pending source = false
source_changes cs before after basis.Mode source = false
source_changes cs before after basis.CurrentLevel source = false
source_changes cs before after basis.TopLevel source = false
source_changes cs before after basis.Mask source = differ (unmasked after cs source) (unmasked before cs source)
source_changes cs before after basis.DmaEnable source = differ (dma_enabled after cs source) (dma_enabled before cs source)
source_changes cs before after basis.Level source = not (eqb (level after cs source) (level before cs source))

-- of some source
abbrev pub any_source_changes : List Channel → Image → Image → Basis → Bool
any_source_changes cs before after changed = any_below (sources cs) (source_changes cs before after changed)

-- a write raises an unmasked source that outranks ours on the image at the start
abbrev pub raises_rival : Image → List Channel → ℕ → Image → Image → ℕ → Bool
raises_rival start cs ours before after source = raises cs (rival start cs ours) before after source

-- how many it raises
abbrev pub raised_rivals : Image → List Channel → ℕ → Image → Image → ℕ
raised_rivals start cs ours before after = raised cs (rival start cs ours) before after

-- ---- what a step breaks

-- as the code has it: the premises hold where nothing is broken
abbrev pub broken : Option NoBound → Premises
broken none = Ok tt
broken (some b) = Err b

-- of a write, by the first of what it changed
abbrev pub broken_write : List Channel → ℕ → Image → Image → ℕ → Premises
broken_write cs ours before after index = broken (first_changed (changes cs ours before after) bases index)

-- a step of a kind that may stand in the list, a write where it leaves what the bound rests on
abbrev pub may_stand : Step → Bool
may_stand (step.Read r) = true
may_stand (step.Write r v) = true
may_stand (step.Trigger t) = true
may_stand step.Arbitrate = true
may_stand step.Return = true
may_stand step.Reset = false
may_stand step.Unknown = false

-- a write of R0 to R239 but CICR
abbrev pub file_write : Step → Bool
file_write (step.Read r) = false
file_write (step.Write r v) = ltb r 240 && not (eqb r CICR)
file_write (step.Trigger t) = false
file_write step.Arbitrate = false
file_write step.Return = false
file_write step.Reset = false
file_write step.Unknown = false

-- what a step breaks that is no write, by its answer and whether it is an arbitration with interrupts disabled
abbrev pub broken_call : Step → Answered → Bool → ℕ → Premises
broken_call x a disabled i =
    cond disabled (Err (no_bound.InterruptsDisabled i)) (cond (is_refused a) (Ok tt) (cond (may_stand x) (Ok tt) (Err (no_bound.OtherStep i))))

-- ---- a step that is followed

-- how many of a set an event triggers or raises
abbrev pub more : List Channel → (ℕ → Bool) → Event → ℕ
more cs among e = one_if (triggers among e) + raised_by cs among e

-- the step x at this index, from the image `before` in a list from `start`: done, with what it breaks, and how many of the rivals at the start it
-- triggers or raises
pub record Follows (start before : Image) (cs : List Channel) (ours : ℕ) (x : Step) (index : ℕ) (f : Seen) (after : Image) : Type 0 where
  pub did : outcome f.answer (alone after) ≡ act_of (alone before) cs x
  pub breaks : f.broken ≡ broken (broken_by cs ours (event_of (alone before) x (outcome f.answer (alone after))) index)
  pub counts : f.more ≡ more cs (rival start cs ours) (event_of (alone before) x (outcome f.answer (alone after)))

-- ---- the loop

-- what is answered of the events es from step n on, where those before them triggered or raised so many of the set
unfoldable pub followed_from : List Channel → ℕ → (ℕ → Bool) → ℕ → ℕ → ℕ → List Event → Bounded
followed_from cs ours among outranking n counted es =
    get_or (map Err (first_broken cs ours n es)) (bounding outranking (counted + (triggers_of among es + raised_of cs among es)))

-- what is answered of the steps of a list of words until ours is acknowledged
abbrev pub steps_bound : Image → List Channel → ℕ → List ℕ → Bounded
steps_bound m cs ours words = handler_bound_in m cs ours (up_to ours (history (alone m) cs (steps_of words)))

-- and with the premises on the start
abbrev pub words_bound : Image → List Channel → ℕ → List ℕ → Bounded
words_bound m cs ours words = accepted_handler_bound m cs ours (steps_of words)
