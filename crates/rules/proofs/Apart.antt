-- On an image that is calm (Demand3 `Calm`: no DMA is enabled) the memory is apart: a step answers and leaves the same, whatever memory that fits it is lent. So a
-- bound, which is lent none, speaks of steps with any such. Assumes nothing.
use Rattle.std.specs.Prelude.{Option, Some, None}
use mathlib.Core.Path.{◌≡◌, refl, ap}
use mathlib.Core.List.{List, [], ◌∷◌, map}
use mathlib.Core.Bool.{Bool, true, false, cond}
use Prim.Native.Nat.{ℕ, ◌+◌}
use Rattle.rules.specs.declared.Channel.{Channel}
use Rattle.rules.specs.declared.Step.{Step}
use Rattle.rules.specs.declared.Step.TheVariants as step
use Rattle.rules.specs.declared.Winner.{Winner}
use Rattle.rules.specs.declared.Winner.TheVariants as winner
use Rattle.rules.specs.Image.{Image, Memory, Fits}
use Rattle.rules.specs.Outcomes.{State, state, Outcome, outcome, Answered}
use Rattle.rules.specs.Requests.{winner_of}
use Rattle.rules.specs.Arbitration.{granted}
use Rattle.rules.specs.Steps.{act_of, step_of}
use Rattle.rules.specs.Runs.{Event, event_of, history, until, counted, one_if}
use Rattle.rules.specs.Demand3.{Calm, OnlyCalls, triggers, triggers_of}
use Rattle.rules.specs.Handlers.{AllMay, Handles, raised_by, raised_of}
use Rattle.rules.proofs.Refusals.{accepted-acts}
use Rattle.rules.proofs.WinnerLaws.{Won, won}
use Rattle.rules.proofs.Effects.{arbitration_grants, step_same}
use Rattle.rules.proofs.Wait.{calm-same}

-- the same outcome with another memory, and the same event
abbrev pub lent_outcome : Memory → Outcome Answered State → Outcome Answered State
lent_outcome memory o = outcome o.answer (state o.left.image memory)

abbrev pub lent_event : Memory → Event → Event
lent_event memory e = event_of (state e.before.image memory) e.step (lent_outcome memory e.outcome)

-- ---- a step

module _ (m : Image) (cs : List Channel) (a : Calm m cs) (one other : Memory) where
  grant_apart : (w : Option Winner) → Won m cs w → granted (state m other) cs w ≡ lent_outcome other (granted (state m one) cs w)
  unfolding granted
  grant_apart None h = refl
  grant_apart (Some (winner.Dma w)) h = absurd h
  grant_apart (Some (winner.Interrupt w l)) h = refl

  act-apart : (x : Step) → act_of (state m other) cs x ≡ lent_outcome other (act_of (state m one) cs x)
  unfolding act_of
  act-apart (step.Read r) = refl
  act-apart (step.Write r v) = refl
  act-apart (step.Trigger t) = refl
  act-apart step.Arbitrate =
      rw (arbitration_grants (state m other) cs a, arbitration_grants (state m one) cs a) (grant_apart (winner_of m cs) (won m cs a.no_dma))
  act-apart step.Return = refl
  act-apart step.Reset = refl
  act-apart step.Unknown = refl

  pub step-apart : Fits one → Fits other → (x : Step) → step_of (state m other) cs x ≡ lent_outcome other (step_of (state m one) cs x)
  step-apart fits fits' x =
      rw (accepted-acts (state m other) cs x a.long a.listed fits', accepted-acts (state m one) cs x a.long a.listed fits) (act-apart x)

-- ---- a list of steps, up to the first event of a kind, or all

module _ (cs : List Channel) (ours : ℕ) (one other : Memory) (fits : Fits one) (fits' : Fits other) (p : Event → Bool)
    (same : (e : Event) → p (lent_event other e) ≡ p e) where
  pub history-apart : (xs : List Step) (m : Image) → Calm m cs → AllMay cs ours (until p (history (state m one) cs xs))
      → until p (history (state m other) cs xs) ≡ map (lent_event other) (until p (history (state m one) cs xs))
  unfolding history until
  history-apart [] m a c = refl
  history-apart (x ∷ xs) m a c = rw (step-apart m cs a one other fits fits' x, same e) (ap (λ (es : List Event). lent_event other e ∷ es) (go (p e) c.1 (history-apart xs m')))
    where
      o : Outcome Answered State
      o = step_of (state m one) cs x

      e : Event
      e = event_of (state m one) x o

      m' : Image
      m' = o.left.image

      -- the memory stays
      kept : o.left ≡ state m' one
      kept = ap (λ (r : Outcome Answered State). r.left) (step-apart m cs a one one fits fits x)

      go : (b : Bool) → AllMay cs ours (cond b [] (until p (history o.left cs xs)))
          → (Calm m' cs → AllMay cs ours (until p (history (state m' one) cs xs))
          → until p (history (state m' other) cs xs) ≡ map (lent_event other) (until p (history (state m' one) cs xs)))
          → cond b [] (until p (history (state m' other) cs xs)) ≡ map (lent_event other) (cond b [] (until p (history o.left cs xs)))
      go true may ih = refl
      go false may ih = rw kept (ih (calm-same cs m m' (step_same (state m one) cs a ours x c.0) a) (rw kept at may))

-- ---- what is counted and asked of events has nothing to do with the memory

module _ (cs : List Channel) (ours : ℕ) (memory : Memory) where
  abbrev lent : List Event → List Event
  lent es = map (lent_event memory) es

  pub counted-apart : (r : ℕ → Bool) (es : List Event) → (triggers_of r (lent es) ≡ triggers_of r es) × (raised_of cs r (lent es) ≡ raised_of cs r es)
  unfolding counted raised_of
  counted-apart r [] = (refl, refl)
  counted-apart r (e ∷ es) =
      let ih = counted-apart r es in
      (ap (λ (n : ℕ). one_if (triggers r e) + n) ih.0, ap (λ (n : ℕ). raised_by cs r e + n) ih.1)

  pub calls_apart : (es : List Event) → OnlyCalls es → OnlyCalls (lent es)
  calls_apart [] c = tt
  calls_apart (e ∷ es) c = (c.0, c.1, calls_apart es c.2)

  pub handles_apart : (es : List Event) → Handles cs ours es → Handles cs ours (lent es)
  handles_apart [] c = tt
  handles_apart (e ∷ es) c = (c.0, c.1, handles_apart es c.2)
