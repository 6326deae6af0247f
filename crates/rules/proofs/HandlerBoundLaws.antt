-- The bound of Handlers as a function: a bound is answered exactly where the premises hold, else the first premise that fails. Assumes nothing.
use Rattle.std.specs.Prelude.{Ok, Err}
use mathlib.Core.Path.{◌≡◌, refl, sym, ap, ap₂, ◌∙◌, subst}
use mathlib.Core.Logic.{◌⊎◌, inl, inr}
use mathlib.Core.List.{List, [], ◌∷◌}
use mathlib.Core.Bool.{Bool, true, false, cond}
use mathlib.Core.Option.{Option, none, some, or_else, get_or, map}
use Prim.Native.Nat.{ℕ, suc, ◌+◌, ◌≤◌}
use native.Mathlib.Omega.{arith}
use lib.Dec.{lit≤}
use lib.ListN.{take, drop}
use Rattle.rules.specs.declared.Channel.{Channel}
use Rattle.rules.specs.declared.Step.{Step}
use Rattle.rules.specs.declared.Step.TheVariants as step
use Rattle.rules.specs.declared.Basis.{Basis}
use Rattle.rules.specs.declared.NoBound.{NoBound}
use Rattle.rules.specs.declared.NoBound.TheVariants as no_bound
use Rattle.rules.specs.Image.{Image, Memory, Fits, has, IEN}
use Rattle.rules.specs.Outcomes.{state, alone}
use Rattle.rules.specs.Runs.{Event, history, event_refused, is_arbitration, event_acknowledges, wait_verdict}
use Rattle.rules.specs.Demand3.{Enabled, rival, H, Start}
use Rattle.rules.specs.Handlers.{is_write, EAndRaised, MayDo, May, Handles, up_to}
use Rattle.rules.specs.Bounds.{disabled_step, bound_of, BoundSays, bounding, Bounded, bound_at}
use Rattle.rules.specs.HandlerBounds.{changes, bases, first_changed, broken_step, broken_by, first_broken, handler_bound_in, handler_bound_of, HandlerBoundSays}
use Rattle.rules.specs.Encodings.{steps_of}
use Rattle.rules.specs.Promises.{HandlerBoundNotAbove, HandlerBoundWaits}
use Rattle.rules.proofs.Verdicts.{verdict_elim}
use Rattle.rules.proofs.Bools.{implied, implies, not_both}
use Rattle.rules.proofs.Refusals.{lent-accepted}
use Rattle.rules.proofs.WaitLaws.{wait-accepted}
use Rattle.rules.proofs.Told.{told-bound_injective}
use Rattle.rules.proofs.FirstFailing.{Above, above-start, FailingBy, start-failing}
use Rattle.rules.proofs.Handlers.{handle_may, handle_until, fewer_until}
use Rattle.rules.proofs.Apart.{history-apart, counted-apart, handles_apart}
use Rattle.rules.proofs.Demand3.{calls_handle, calls_raise_none}
use Rattle.rules.proofs.RunsAndWaits.{wait-within}
use Rattle.rules.proofs.ChangeLaws.{leaves_unchanged, unchanged_leaves, Leads, FirstIs, first-is, every_basis}
use Rattle.rules.proofs.BoundLaws.{where_elim, exactly_where, start-kept, bound-says, keeps_told}

-- ---- what a step, an event and a list break

module _ (cs : List Channel) (s : ℕ) where
  -- a step that is not refused: it may be done, or it may not and the answer says why
  abbrev StepBreaks : Image → Step → Image → ℕ → Option NoBound → Type 0
  StepBreaks m x m' i none = MayDo cs s m x m'
  StepBreaks m x m' i (some b) =
      (MayDo cs s m x m' → ⊥)
      × (((b ≡ (no_bound.OtherStep i)) × (is_write x ≡ false)) ⊎ ((a : Basis) × (b ≡ (no_bound.Changed a i)) × (is_write x ≡ true) × Leads (changes cs s m m') i bases a))

  step-breaks : (m : Image) (x : Step) (m' : Image) (i : ℕ) → StepBreaks m x m' i (broken_step cs s m x m' i)
  unfolding broken_step
  step-breaks m (step.Read r) m' i = tt
  step-breaks m (step.Write r v) m' i = go (first_changed p bases i) (first-is p i bases)
    where
      p : Basis → Bool
      p = changes cs s m m'

      go : (o : Option NoBound) → FirstIs p i bases o → StepBreaks m (step.Write r v) m' i o
      go none f = unchanged_leaves cs s m m' (every_basis p i f)
      go (some b) f = (λ l. not_both (p f.0) f.2.4 (leaves_unchanged cs s m m' l f.0), inr (f.0, f.1, refl, f.2))
  step-breaks m (step.Trigger t) m' i = tt
  step-breaks m step.Arbitrate m' i = tt
  step-breaks m step.Return m' i = tt
  step-breaks m step.Reset m' i = (λ z. z, inl (refl, refl))
  step-breaks m step.Unknown m' i = (λ z. z, inl (refl, refl))

  -- the premises on one event
  abbrev Meets : Event → Type 0
  Meets e = May cs s e × Enabled e

  abbrev EventBreaks : Event → ℕ → Option NoBound → Type 0
  EventBreaks e i none = Meets e
  EventBreaks e i (some b) =
      (Meets e → ⊥)
      × (((b ≡ (no_bound.InterruptsDisabled i)) × (disabled_step e ≡ true))
      ⊎ ((event_refused e ≡ false) × StepBreaks e.before.image e.step e.outcome.left.image i (some b)))

  event-breaks : (e : Event) (i : ℕ) → EventBreaks e i (broken_by cs s e i)
  unfolding broken_by
  event-breaks e i =
      go (disabled_step e) (event_refused e) (broken_step cs s e.before.image e.step e.outcome.left.image i) refl refl
      (step-breaks e.before.image e.step e.outcome.left.image i)
    where
      enabled : disabled_step e ≡ false → Enabled e
      enabled = implies (is_arbitration e.step) (has e.before.image IEN)

      go : (d r : Bool) (o : Option NoBound) → disabled_step e ≡ d → event_refused e ≡ r → StepBreaks e.before.image e.step e.outcome.left.image i o
          → EventBreaks e i (cond d (some (no_bound.InterruptsDisabled i)) (cond r none o))
      go true r o p q f =
          (λ h. not_both (disabled_step e) p (implied (is_arbitration e.step) (has e.before.image IEN) h.1), inl (refl, p))
      go false true o p q f = (λ t. absurd (not_both (event_refused e) q t), enabled p)
      go false false none p q f = (λ t. f, enabled p)
      go false false (some b) p q f = (λ h. f.0 (h.0 q), inr (q, f))

  -- none where the premises hold; else the first event that breaks one
  abbrev ListBreaks : List Event → ℕ → Option NoBound → Type 0
  ListBreaks es i none = Handles cs s es
  ListBreaks es i (some b) =
      (n : ℕ) × (e : Event) × (rest : List Event) × (drop n es ≡ (e ∷ rest)) × Handles cs s (take n es) × EventBreaks e (i + n) (some b)

  list_breaks : (es : List Event) (i : ℕ) → ListBreaks es i (first_broken cs s i es)
  unfolding first_broken or_else
  list_breaks [] i = tt
  list_breaks (e ∷ es) i = go (broken_by cs s e i) (first_broken cs s (i + 1) es) (event-breaks e i) (list_breaks es (i + 1))
    where
      go : (o p : Option NoBound) → EventBreaks e i o → ListBreaks es (i + 1) p → ListBreaks (e ∷ es) i (or_else o p)
      go (some b) p f g = let z : i + 0 ≡ i = omega arith in (0, e, es, refl, tt, rw z f)
      go none none f g = (f.0, f.1, g)
      go none (some b) f g =
          let z : i + suc g.0 ≡ i + 1 + g.0 = omega arith in (suc g.0, g.1, g.2, g.3, (f.0, f.1, g.4), rw z g.5)

  meets-none : (e : Event) (i : ℕ) → Meets e → broken_by cs s e i ≡ none
  meets-none e i h = go (broken_by cs s e i) (event-breaks e i)
    where
      go : (o : Option NoBound) → EventBreaks e i o → o ≡ none
      go none f = refl
      go (some b) f = absurd (f.0 h)

  handles_none : (es : List Event) (i : ℕ) → Handles cs s es → first_broken cs s i es ≡ none
  unfolding first_broken or_else
  handles_none [] i h = refl
  handles_none (e ∷ es) i h = rw (meets-none e i (h.0, h.1)) (handles_none es (i + 1) h.2)

-- ---- the first premise that fails

module _ (m : Image) (cs : List Channel) (s : ℕ) (es : List Event) where
  -- the event at index i breaks a premise, and the events before it don't
  abbrev FailsAt : (Event → Type 0) → ℕ → Type 0
  FailsAt P i = (e : Event) × (rest : List Event) × (drop i es ≡ (e ∷ rest)) × Handles cs s (take i es) × P e

  -- a step that may not be done and is no write; a write with the first of what it changed; an arbitration with interrupts disabled
  abbrev pub HandlerFailing : Bounded → Type 0
  HandlerFailing =
      FailingBy m cs s
      (FailsAt (λ e. (event_refused e ≡ false) × (is_write e.step ≡ false) × (MayDo cs s e.before.image e.step e.outcome.left.image → ⊥)))
      (λ a i.
      FailsAt (λ e. (event_refused e ≡ false) × (is_write e.step ≡ true) × Leads (changes cs s e.before.image e.outcome.left.image) i bases a) i)
      (FailsAt (λ e. disabled_step e ≡ true)) (Handles cs s es)

  steps-failing : Above m cs s → (o : Option NoBound) (h e : ℕ) → ListBreaks cs s es 0 o → HandlerFailing (get_or (map Err o) (bounding h e))
  steps-failing a none h e f = (a, f)
  steps-failing a (some b) h e f = let z : 0 + f.0 ≡ f.0 = omega arith in go (rw z at f.5.1)
    where
      go : ((b ≡ (no_bound.InterruptsDisabled f.0)) × (disabled_step f.1 ≡ true))
          ⊎ ((event_refused f.1 ≡ false) × StepBreaks cs s f.1.before.image f.1.step f.1.outcome.left.image f.0 (some b))
          → HandlerFailing (Err b)
      go (inl q) = rw q.0 (a, (f.1, f.2, f.3, f.4, q.1))
      go (inr (r, (may, inl q))) = rw q.0 (a, (f.1, f.2, f.3, f.4, (r, q.1, may)))
      go (inr (r, (may, inr q))) = rw q.1 (a, (f.1, f.2, f.3, f.4, (r, q.2, q.3)))

module _ (m : Image) (cs : List Channel) (s : ℕ) (xs : List Step) where
  -- the steps until ours is acknowledged
  abbrev events : List Event
  events = up_to s (history (alone m) cs xs)

  -- each answer is the first premise that fails
  pub handler_failing : HandlerFailing m cs s events (handler_bound_of m cs s xs)
  unfolding handler_bound_of handler_bound_in
  handler_failing =
      verdict_elim (HandlerFailing m cs s events) (wait_verdict (alone m) cs s)
      (start-failing m cs s _ _ _ _ (handler_bound_in m cs s events)
      (λ a. steps-failing m cs s events a (first_broken cs s 0 events) (H m cs s) (EAndRaised m cs s events) (list_breaks cs s events 0)))
      (λ r e. e)

  -- with the premises the bound is H + E + 1
  pub handler_bound-given : Start m cs s → Handles cs s events
      → handler_bound_of m cs s xs ≡ (Ok (bound_at (H m cs s) (EAndRaised m cs s events) (H m cs s + EAndRaised m cs s events + 1)))
  unfolding handler_bound_of handler_bound_in
  handler_bound-given a c =
      rw (wait-accepted (alone m) cs s (lent-accepted (alone m) cs a.calm.long a.calm.listed (lit≤ tt)) a.there)
      (start-kept m cs s (handler_bound_in m cs s events) a ∙ rw (handles_none cs s events 0 c))

  -- and with a bound they hold
  pub handler_premises : (h e k : ℕ) → handler_bound_of m cs s xs ≡ (Ok (bound_at h e k)) → Start m cs s × Handles cs s events
  handler_premises h e k q = let f = subst (HandlerFailing m cs s events) q handler_failing in (above-start m cs s f.0, f.1)

  -- the events until ours is acknowledged are with one memory those with another, where the premises hold of them
  abbrev events_with : Memory → List Event
  events_with memory = up_to s (history (state m memory) cs xs)

  handles_same : (one other : Memory) → Fits one → Fits other → Start m cs s → Handles cs s (events_with one)
      → Handles cs s (events_with other) × (EAndRaised m cs s (events_with other) ≡ EAndRaised m cs s (events_with one))
  handles_same one other fits fits' a c =
      let es = events_with one in
      let n = counted-apart cs s other (rival m cs s) es in
      rw (history-apart cs s one other fits fits' (event_acknowledges s) (λ e. refl) xs m a.calm (handle_may cs s es c))
      (handles_apart cs s other es c, ap₂ ◌+◌ n.0 n.1)

  -- so a bound is answered exactly where they hold, whatever memory that fits the steps get
  pub handler_bound-says : (memory : Memory) → Fits memory → HandlerBoundSays (state m memory) cs s xs (handler_bound_of m cs s xs)
  handler_bound-says memory fits =
      exactly_where (Start m cs s) (Handles cs s (events_with memory)) (H m cs s) (EAndRaised m cs s (events_with memory)) (handler_bound_of m cs s xs)
      (λ a c.
      let q = handles_same memory [] fits (lit≤ tt) a c in
      handler_bound-given a q.0 ∙ ap (λ (e : ℕ). (Ok (bound_at (H m cs s) e (H m cs s + e + 1)))) q.1)
      (λ h e k q. let p = handler_premises h e k q in (p.0, (handles_same [] memory (lit≤ tt) fits p.0 p.1).0))

  -- where demand 3's bound is answered this one is too, and is no larger
  pub handler_bound_sharper : (h e k : ℕ) → bound_of m cs s xs ≡ (Ok (bound_at h e k))
      → (e' : ℕ) × (e' ≤ e) × (handler_bound_of m cs s xs ≡ (Ok (bound_at h e' (h + e' + 1))))
  handler_bound_sharper h e k q =
      let es = history (alone m) cs xs in
      let given : BoundSays (alone m) cs s xs (Ok (bound_at h e k)) = subst (BoundSays (alone m) cs s xs) q (bound-says m cs s xs [] (lit≤ tt)) in (
        EAndRaised m cs s events,
        omega (arith, given.3, fewer_until m cs s (event_acknowledges s) es, calls_raise_none cs s (rival m cs s) es given.1),
        rw given.2 (handler_bound-given given.0 (handle_until cs s (event_acknowledges s) es (calls_handle cs s es given.1))),
      )

-- ---- demand 3's bound and a wait report on the same data

pub handler_bound_not_above : HandlerBoundNotAbove
handler_bound_not_above m cs s words b b' bounds handlers =
    let xs = steps_of words in
    where_elim _ _ b
    (λ h e k q.
    let sharper = handler_bound_sharper m cs s xs h e k (sym (told-bound_injective b (bound_of m cs s xs) bounds) ∙ q) in
    let same : b' ≡ (Ok (bound_at h sharper.0 (h + sharper.0 + 1))) = told-bound_injective b' (handler_bound_of m cs s xs) handlers ∙ sharper.2 in
    let given : BoundSays (alone m) cs s xs (Ok (bound_at h e k)) =
    subst (BoundSays (alone m) cs s xs) (sym (told-bound_injective b (bound_of m cs s xs) bounds) ∙ q) (bound-says m cs s xs [] (lit≤ tt)) in
    rw same (refl, sharper.1, omega (arith, sharper.1, given.4)))
    (λ n. tt)

pub handler_bound-waits : HandlerBoundWaits
handler_bound-waits lent cs s words b w after fits bounds waits =
    let xs = steps_of words in
    let m = lent.image in
    keeps_told lent cs s words b (handler_bound_of m cs s xs) w after bounds waits
    (λ h e k q.
    let given : HandlerBoundSays lent cs s xs (Ok (bound_at h e k)) =
    subst (HandlerBoundSays lent cs s xs) q (handler_bound-says m cs s xs lent.memory fits) in
    (rw (given.4, given.2, given.3) (wait-within lent cs s xs fits given.0 given.1), given.4))
