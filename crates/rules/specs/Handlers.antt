-- Beyond demand 3: its bound for lists that also have reads and writes, as a handler does them, where no write changes what the bound rests on. In the place
-- of E stands `EAndRaised`, which also counts the pending bits that writes raise. Demand 3's own words are in Demand3. Assumes nothing.
use Rattle.std.specs.Prelude.{◌≡◌, Bool, true, false, cond, not, ◌&&◌, List, [], ◌∷◌, ℕ, ◌+◌, ◌≤◌, ◌<◌, take}
use Rattle.rules.specs.declared.Channel.{Channel}
use Rattle.rules.specs.declared.Step.{Step}
use Rattle.rules.specs.declared.Step.TheVariants as step
use Rattle.rules.specs.Image.{Image, has, CPL, IAM, IEN, TLI, TLNM}
use Rattle.rules.specs.Sources.{sources, pending, unmasked, dma_enabled, level}
use Rattle.rules.specs.Runs.{Event, Chain, until, counted, event_refused, made_arbitration, event_acknowledges, acknowledged_in}
use Rattle.rules.specs.Demand3.{rival, count_below, H, E, Start, Enabled, InTime, Kept}

-- ---- what a write must not change

-- what decides who is served, beside the pending bits, IEN and the mark: the mode, the current level, the top level's two enables, and each source's
-- mask, DMA enable and level
pub record SameSettings (cs : List Channel) (before after : Image) : Type 0 where
  pub same_IAM : has after IAM ≡ has before IAM
  pub same_CPL : CPL after ≡ CPL before
  pub same_TLI : has after TLI ≡ has before TLI
  pub same_TLNM : has after TLNM ≡ has before TLNM
  pub same_mask : (source : ℕ) → source < sources cs → unmasked after cs source ≡ unmasked before cs source
  pub same_dma : (source : ℕ) → source < sources cs → dma_enabled after cs source ≡ dma_enabled before cs source
  pub same_level : (source : ℕ) → source < sources cs → level after cs source ≡ level before cs source

-- all this stays, and our pending bit if it was set. IEN may change, and every other pending bit
pub record LeavesAlone (cs : List Channel) (ours : ℕ) (before after : Image) : Type 0 where
  pub settings : SameSettings cs before after
  pub ours_kept : pending before cs ours ≡ true → pending after cs ours ≡ true

-- ---- E, and what writes raise

-- a change raises a source of a set: it is pending after it, and was not before
abbrev pub raises : List Channel → (ℕ → Bool) → Image → Image → ℕ → Bool
raises cs among before after source = not (pending before cs source) && pending after cs source && among source

-- how many sources of a set it raises
unfoldable pub raised : List Channel → (ℕ → Bool) → Image → Image → ℕ
raised cs among before after = count_below (sources cs) (raises cs among before after)

-- a write step
abbrev pub is_write : Step → Bool
is_write (step.Read r) = false
is_write (step.Write r v) = true
is_write (step.Trigger t) = false
is_write step.Arbitrate = false
is_write step.Return = false
is_write step.Reset = false
is_write step.Unknown = false

-- how many of the set the event raises, where it is a write and not refused: one write of EIPR may raise several
abbrev pub raised_by : List Channel → (ℕ → Bool) → Event → ℕ
raised_by cs among e = cond (is_write e.step && not (event_refused e)) (raised cs among e.before.image e.outcome.left.image) 0

-- how many the events' writes raise
unfoldable pub raised_of : List Channel → (ℕ → Bool) → List Event → ℕ
raised_of cs among [] = 0
raised_of cs among (e ∷ es) = raised_by cs among e + raised_of cs among es

-- demand 3's E, and the pending bits of unmasked sources outranking ours that the writes raise
abbrev pub EAndRaised : Image → List Channel → ℕ → List Event → ℕ
EAndRaised m cs ours es = E m cs ours es + raised_of cs (rival m cs ours) es

-- ---- the premises on the steps

-- a trigger, an arbitration, a return or a read, or a write that does not change what the bound rests on. No reset: where ours is an external channel it clears
-- its pending bit, unserved (proofs/HandlerWrites `reset-breaks`)
abbrev pub MayDo : List Channel → ℕ → Image → Step → Image → Type 0
MayDo cs ours before (step.Read r) after = Unit {0}
MayDo cs ours before (step.Write r v) after = LeavesAlone cs ours before after
MayDo cs ours before (step.Trigger t) after = Unit {0}
MayDo cs ours before step.Arbitrate after = Unit {0}
MayDo cs ours before step.Return after = Unit {0}
MayDo cs ours before step.Reset after = ⊥
MayDo cs ours before step.Unknown after = ⊥

-- an event is such a step if it isn't refused
abbrev pub May : List Channel → ℕ → Event → Type 0
May cs ours e = event_refused e ≡ false → MayDo cs ours e.before.image e.step e.outcome.left.image

-- each event is such a step
abbrev pub AllMay : List Channel → ℕ → List Event → Type 0
AllMay cs ours [] = Unit {0}
AllMay cs ours (e ∷ es) = May cs ours e × AllMay cs ours es

-- each event is such a step, and interrupts are enabled at each arbitration
abbrev pub Handles : List Channel → ℕ → List Event → Type 0
Handles cs ours [] = Unit {0}
Handles cs ours (e ∷ es) = May cs ours e × Enabled e × Handles cs ours es

-- ---- the claim

-- the events until ours is acknowledged, that one included; all of them where it never is
abbrev pub up_to : ℕ → List Event → List Event
up_to ours es = until (event_acknowledges ours) es

-- where every step until ours is acknowledged is such a step, ours is acknowledged at the latest by arbitration H + EAndRaised + 1, if the list has that many, and
-- its pending bit is set until then; EAndRaised is counted over those steps
abbrev pub Handlers : Type 0
Handlers =
    (m : Image) (cs : List Channel) (ours : ℕ) (es : List Event)
    → Chain m cs es
    → Start m cs ours
    → Handles cs ours (up_to ours es)
    → (n : ℕ) → InTime ours (H m cs ours + EAndRaised m cs ours (up_to ours es) + 1) (take n es) × Kept m cs ours (take n es)

-- ---- without a premise on IEN: with no DMA enabled and the top level disabled an arbitration with interrupts disabled serves nobody, so only the others are counted

-- an arbitration that was made with interrupts enabled
abbrev pub enabled_arbitration : Event → Bool
enabled_arbitration e = made_arbitration e && has e.before.image IEN

-- where the events have `bound` of these, ours is acknowledged among them
abbrev pub InEnabledTime : ℕ → ℕ → List Event → Type 0
InEnabledTime ours bound es = bound ≤ counted enabled_arbitration es → acknowledged_in ours es ≡ true

-- Handlers without `Enabled`, by the arbitrations that get IEN = 1
abbrev pub EnabledHandlers : Type 0
EnabledHandlers =
    (m : Image) (cs : List Channel) (ours : ℕ) (es : List Event)
    → Chain m cs es
    → Start m cs ours
    → AllMay cs ours (up_to ours es)
    → (n : ℕ) → InEnabledTime ours (H m cs ours + EAndRaised m cs ours (up_to ours es) + 1) (take n es) × Kept m cs ours (take n es)
