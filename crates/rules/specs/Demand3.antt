-- Demand 3, in the order of the user's sentences (quoted), its words as document 01 gives them in "Runs and the wait report". Assumes nothing.
use Rattle.std.specs.Prelude.{◌≡◌, Bool, true, false, not, ◌&&◌, ◌||◌, List, [], ◌∷◌, ℕ, zero, suc, ◌+◌, ◌≤◌, ◌<◌, eqb, ltb, length, take}
use Rattle.std.proofs.Math.Option.{Option, none, some}
use Rattle.rules.specs.declared.Channel.{Channel}
use Rattle.rules.specs.declared.Step.{Step}
use Rattle.rules.specs.declared.Step.TheVariants as step
use Rattle.rules.specs.Image.{Image, image_length, has, in_service, CPL, IAM, IEN, TLI, TLNM}
use Rattle.rules.specs.Channels.{list_ok}
use Rattle.rules.specs.Sources.{sources, pending, unmasked, dma_enabled, level}
use Rattle.rules.specs.Triggers.{selects}
use Rattle.rules.specs.Runs.{Event, Chain, image_after, event_refused, one_if, counted, acknowledged_in, arbitrations_in, is_arbitration}

-- ---- the start

-- "Start from any image and channel list within document 01's rules, in concurrent mode, no channel with DMA enabled, top level disabled and not in service."
pub record Calm (m : Image) (cs : List Channel) : Type 0 where
  pub long : length m ≡ image_length
  pub listed : list_ok cs ≡ true
  pub concurrent : has m IAM ≡ false
  pub no_dma : (source : ℕ) → source < sources cs → dma_enabled m cs source ≡ false
  pub no_TLI : has m TLI ≡ false
  pub no_TLNM : has m TLNM ≡ false
  pub idle : in_service m ≡ false

-- "Take any unmasked pending interrupt source there whose level is above the current one."
pub record Start (m : Image) (cs : List Channel) (ours : ℕ) : Type 0 where
  pub calm : Calm m cs
  pub there : ours < sources cs
  pub waits : pending m cs ours ≡ true
  pub unmasked_there : unmasked m cs ours ≡ true
  pub above : level m cs ours < CPL m

-- ---- the list

-- triggers, arbitrations and returns
abbrev pub is_call : Step → Bool
is_call (step.Read r) = false
is_call (step.Write r v) = false
is_call (step.Trigger t) = true
is_call step.Arbitrate = true
is_call step.Return = true
is_call step.Reset = false
is_call step.Unknown = false

-- if an event is an arbitration, interrupts are enabled, on the image that it gets
abbrev pub Enabled : Event → Type 0
Enabled e = is_arbitration e.step ≡ true → has e.before.image IEN ≡ true

-- "Then take every list of triggers, arbitrations and returns, refused ones included, with interrupts enabled at each arbitration. A refused one changes
-- nothing and counts nowhere." A refused step may be of any kind, which admits more lists than the sentence. `Enabled` is asked of refused arbitrations
-- too: under `Calm` there is no DMA winner, so that only one with a memory over 65,536 bytes is refused
abbrev pub OnlyCalls : List Event → Type 0
OnlyCalls [] = Unit {0}
OnlyCalls (e ∷ es) = (event_refused e ≡ false → is_call e.step ≡ true) × Enabled e × OnlyCalls es

-- ---- H: "Let H be the number of unmasked sources outranking ours that are pending at the start,"

-- one source outranks the other, pending or not, if its level number is smaller or, at equal level, its source number is
unfoldable pub outranks : Image → List Channel → ℕ → ℕ → Bool
outranks m cs one other = ltb (level m cs one) (level m cs other) || (eqb (level m cs one) (level m cs other) && ltb one other)

-- of ours and a source: the source is unmasked and outranks ours
unfoldable pub rival : Image → List Channel → ℕ → ℕ → Bool
rival m cs ours source = unmasked m cs source && outranks m cs source ours

-- how many numbers below n pass a test
unfoldable pub count_below : ℕ → (ℕ → Bool) → ℕ
count_below zero test = 0
count_below (suc n) test = one_if (test n) + count_below n test

-- how many sources of a set are pending
unfoldable pub pending_of : Image → List Channel → (ℕ → Bool) → ℕ
pending_of m cs among = count_below (sources cs) (λ source. pending m cs source && among source)

-- H, on the image at the start
abbrev pub H : Image → List Channel → ℕ → ℕ
H m cs ours = pending_of m cs (rival m cs ours)

-- ---- E: "and E the number of triggers, in the list, of any unmasked source outranking ours."

-- only a trigger that selects a source's EIPR or IP bit, raised or merged, counts as that source's trigger
abbrev pub selected_by : Image → Step → Option ℕ
selected_by m (step.Read r) = none
selected_by m (step.Write r v) = none
selected_by m (step.Trigger t) = selects m t
selected_by m step.Arbitrate = none
selected_by m step.Return = none
selected_by m step.Reset = none
selected_by m step.Unknown = none

-- the selected source, if there is one, is of the set
abbrev pub within : (ℕ → Bool) → Option ℕ → Bool
within among none = false
within among (some source) = among source

-- the event is a trigger of a source of the set, and not refused
abbrev pub triggers : (ℕ → Bool) → Event → Bool
triggers among e = not (event_refused e) && within among (selected_by e.before.image e.step)

-- how many such triggers there are among the events
abbrev pub triggers_of : (ℕ → Bool) → List Event → ℕ
triggers_of among es = counted (triggers among) es

-- E, with the unmasked sources outranking ours on the image at the start: no step of such a list changes a mask or a level (proofs/Effects `step_same`)
abbrev pub E : Image → List Channel → ℕ → List Event → ℕ
E m cs ours es = triggers_of (rival m cs ours) es

-- ---- in time, and kept

-- "Ours is acknowledged at the latest by arbitration H + E + 1, if the list has that many.": where the events have at least `bound` arbitrations, refused ones
-- not counted, ours is acknowledged among the events. Said of the events up to arbitration `bound`, this is "at the latest by"
abbrev pub InTime : ℕ → ℕ → List Event → Type 0
InTime ours bound es = bound ≤ arbitrations_in es → acknowledged_in ours es ≡ true

-- "After every call before its first acknowledgement, and after every call of the list if it is never acknowledged, its pending bit is set."
abbrev pub Kept : Image → List Channel → ℕ → List Event → Type 0
Kept m cs ours es = acknowledged_in ours es ≡ false → pending (image_after m es) cs ours ≡ true

-- ---- the claim

-- of every list of calls, with any memories. For each n, of the first n calls, with E over the whole list: the n that ends with arbitration H + E + 1 gives "at the
-- latest by", each gives "after every call"
abbrev pub Demand3 : Type 0
Demand3 =
    (m : Image) (cs : List Channel) (ours : ℕ) (es : List Event)
    → Chain m cs es
    → Start m cs ours
    → OnlyCalls es
    → (n : ℕ) → InTime ours (H m cs ours + E m cs ours es + 1) (take n es) × Kept m cs ours (take n es)
