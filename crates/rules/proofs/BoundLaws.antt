-- Demand 3's bound as a function: a bound is answered exactly where the premises hold, and a wait report on the same data keeps it. Assumes nothing.
use Rattle.std.specs.Prelude.{Ok, Err}
use mathlib.Core.Path.{◌≡◌, refl, sym, ap, ◌∙◌, subst}
use mathlib.Core.List.{List, [], ◌∷◌, map}
use mathlib.Core.Bool.{false, not}
use mathlib.Core.Option.{none}
use Prim.Native.Nat.{ℕ, ◌+◌}
use native.Mathlib.Omega.{arith}
use lib.Dec.{lit≤}
use borrow.Author.Tests.{not-true, lt-ltb}
use Rattle.rules.specs.declared.Channel.{Channel}
use Rattle.rules.specs.declared.Step.{Step}
use Rattle.rules.specs.Image.{Image, Memory, Fits, has, CPL, IEN}
use Rattle.rules.specs.Outcomes.{State, state, alone}
use Rattle.rules.specs.Sources.{sources, pending, dma_enabled, level}
use Rattle.rules.specs.Runs.{Event, history, any_event, event_refused, is_arbitration, event_acknowledges, wait_of, Waited}
use Rattle.rules.specs.Demand3.{H, E, Start, is_call, OnlyCalls, rival}
use Rattle.rules.specs.Claims.{WaitWithin}
use Rattle.rules.specs.Bounds.{calm_premises, source_premises, start_premises, other_step, disabled_step, first_from, bound_in, bound_of, where_bounded, BoundSays, WaitInBound, Bounded, bound_at}
use Rattle.rules.specs.Encodings.{steps_of, told_bound}
use Rattle.rules.specs.Promises.{Waits, BoundWaits}
use Rattle.rules.proofs.Bools.{implied, implies, or_off, or_off_r}
use Rattle.rules.proofs.AnyBelow.{any_none}
use Rattle.rules.proofs.Refusals.{lent-accepted}
use Rattle.rules.proofs.WaitLaws.{wait-accepted}
use Rattle.rules.proofs.Told.{told-wait_injective, told-bound_injective}
use Rattle.rules.proofs.Histories.{until_none}
use Rattle.rules.proofs.Handlers.{handle_may, handle_until, fewer_until}
use Rattle.rules.proofs.Demand3.{calls_handle, calls_raise_none}
use Rattle.rules.proofs.RunsAndWaits.{within_more, wait-within}
use Rattle.rules.proofs.Apart.{lent_event, history-apart, counted-apart, calls_apart}
use Rattle.rules.proofs.FirstFailing.{above-start, Failing, first-failing}

-- ---- whether a bound is answered

abbrev Given : Bounded → Type 0
Given b = where_bounded (λ h e k. Unit {0}) ⊥ b

-- by whether one is
pub where_elim : (P : ℕ → ℕ → ℕ → Type 0) (Q : Type 0) (b : Bounded)
    → ((h e k : ℕ) → b ≡ (Ok (bound_at h e k)) → P h e k) → ((Given b → ⊥) → Q) → where_bounded P Q b
where_elim P Q (Ok g) p q = p g.outranking g.triggers g.bound refl
where_elim P Q (Err r) p q = q (λ z. z)

-- with premises A and C that give the bound of H and E, and that hold where one is given: it is given exactly where they hold
pub exactly_where : (A C : Type 0) (h₀ e₀ : ℕ) (b : Bounded) → (A → C → b ≡ (Ok (bound_at h₀ e₀ (h₀ + e₀ + 1))))
    → ((h e k : ℕ) → b ≡ (Ok (bound_at h e k)) → A × C)
    → where_bounded (λ h e k. A × C × (h ≡ h₀) × (e ≡ e₀) × (k ≡ h + e + 1)) (A → C → ⊥) b
exactly_where A C h₀ e₀ b gives holds =
    where_elim _ _ b
    (λ h e k q.
    let p = holds h e k q in
    let same = sym q ∙ gives p.0 p.1 in
    let h' : h ≡ h₀ = ap (λ (b : Bounded). (told_bound b).first) same in
    let e' : e ≡ e₀ = ap (λ (b : Bounded). (told_bound b).second) same in
    let k' : k ≡ h₀ + e₀ + 1 = ap (λ (b : Bounded). (told_bound b).third) same in
    (p.0, p.1, h', e', omega (arith, h', e', k')))
    (λ n a c. n (subst Given (sym (gives a c)) tt))

-- with the premises on the start, what is answered is what the steps give
pub start-kept : (m : Image) (cs : List Channel) (s : ℕ) (b : Bounded) → Start m cs s → start_premises m cs s b ≡ b
unfolding calm_premises source_premises
start-kept m cs s b a =
    rw (
      a.calm.concurrent,
      any_none (dma_enabled m cs) (sources cs) a.calm.no_dma,
      a.calm.no_TLNM,
      a.calm.no_TLI,
      a.calm.idle,
      a.waits,
      a.unmasked_there,
      lt-ltb (level m cs s) (CPL m) a.above,
    )

-- ---- the premises on the steps

-- where the premises hold there is no other step and no arbitration with interrupts disabled,
calls_none : (i : ℕ) (es : List Event) → OnlyCalls es → (first_from i other_step es ≡ none) × (first_from i disabled_step es ≡ none)
unfolding first_from
calls_none i [] c = (refl, refl)
calls_none i (e ∷ es) c =
    let ih = calls_none (i + 1) es c.2 in (
      rw (implied (not (event_refused e)) (is_call e.step) (λ t. c.0 (not-true (event_refused e) t))) ih.0,
      rw (implied (is_arbitration e.step) (has e.before.image IEN) c.1) ih.1,
    )

-- and where there is none they hold
pub none_calls : (es : List Event) → any_event other_step es ≡ false → any_event disabled_step es ≡ false → OnlyCalls es
unfolding any_event
none_calls [] o d = tt
none_calls (e ∷ es) o d = (
  λ f. implies (not (event_refused e)) (is_call e.step) (or_off (other_step e) (any_event other_step es) o) (ap not f),
  implies (is_arbitration e.step) (has e.before.image IEN) (or_off (disabled_step e) (any_event disabled_step es) d),
  none_calls es (or_off_r (other_step e) (any_event other_step es) o) (or_off_r (disabled_step e) (any_event disabled_step es) d),
)

-- ---- a bound is answered exactly where the premises hold

module _ (m : Image) (cs : List Channel) (s : ℕ) (xs : List Step) where
  abbrev events : List Event
  events = history (alone m) cs xs

  -- with all of them the bound is H + E + 1
  pub bound-given : Start m cs s → OnlyCalls events → bound_of m cs s xs ≡ (Ok (bound_at (H m cs s) (E m cs s events) (H m cs s + E m cs s events + 1)))
  unfolding bound_of bound_in
  bound-given a c =
      rw (wait-accepted (alone m) cs s (lent-accepted (alone m) cs a.calm.long a.calm.listed (lit≤ tt)) a.there)
      (start-kept m cs s (bound_in m cs s events) a ∙ rw ((calls_none 0 events c).0, (calls_none 0 events c).1))

  -- and with a bound they hold
  given_premises : (h e k : ℕ) → bound_of m cs s xs ≡ (Ok (bound_at h e k)) → Start m cs s × OnlyCalls events
  given_premises h e k q =
      let f = subst (Failing m cs s events) q (first-failing m cs s xs) in
      (above-start m cs s f.0, none_calls events f.1.0 f.1.1)

  -- the events of the steps with one memory are those with another, where they are calls
  calls_same : (one other : Memory) → Fits one → Fits other → Start m cs s → OnlyCalls (history (state m one) cs xs)
      → OnlyCalls (history (state m other) cs xs) × (E m cs s (history (state m other) cs xs) ≡ E m cs s (history (state m one) cs xs))
  calls_same one other fits fits' a c =
      let es = history (state m one) cs xs in
      let same : history (state m other) cs xs ≡ map (lent_event other) es =
      rw (until_none, until_none) at (history-apart cs s one other fits fits' (λ e. false) (λ e. refl) xs m a.calm
      (rw (until_none es) (handle_may cs s es (calls_handle cs s es c)))) in
      rw same (calls_apart cs s other es c, (counted-apart cs s other (rival m cs s) es).0)

  -- so it is answered exactly where they hold, whatever memory that fits the steps get
  pub bound-says : (memory : Memory) → Fits memory → BoundSays (state m memory) cs s xs (bound_of m cs s xs)
  bound-says memory fits =
      exactly_where (Start m cs s) (OnlyCalls (history (state m memory) cs xs)) (H m cs s) (E m cs s (history (state m memory) cs xs)) (bound_of m cs s xs)
      (λ a c.
      let q = calls_same memory [] fits (lit≤ tt) a c in
      bound-given a q.0 ∙ ap (λ (e : ℕ). (Ok (bound_at (H m cs s) e (H m cs s + e + 1)))) q.1)
      (λ h e k q. let p = given_premises h e k q in (p.0, (calls_same [] memory (lit≤ tt) fits p.0 p.1).0))

-- ---- a wait report on the same data

-- where a bound b₀ is answered, the wait report is within it; so it is by what is told of both
pub keeps_told : (lent : State) (cs : List Channel) (s : ℕ) (words : List ℕ) (b b₀ : Bounded) (w : Waited) (after : State)
    → told_bound b ≡ told_bound b₀ → Waits lent cs s words w after
    → ((h e k : ℕ) → b₀ ≡ (Ok (bound_at h e k))
    → WaitWithin k (wait_of lent cs s (steps_of words)).answer (pending (wait_of lent cs s (steps_of words)).left.image cs s) × (k ≡ h + e + 1))
    → WaitInBound b w (pending after.image cs s)
keeps_told lent cs s words b b₀ w after same waits gives =
    where_elim _ _ b
    (λ h e k q.
    let g = gives h e k (sym (told-bound_injective b b₀ same) ∙ q) in
    (rw (told-wait_injective w (wait_of lent cs s (steps_of words)).answer waits.0, waits.1) g.0, g.1))
    (λ n. tt)

pub bound-waits : BoundWaits
bound-waits lent cs s words b w after fits bounds waits =
    let xs = steps_of words in
    let m = lent.image in
    let es = history lent cs xs in
    let o = wait_of lent cs s xs in
    keeps_told lent cs s words b (bound_of m cs s xs) w after bounds waits
    (λ h e k q.
    let given : BoundSays lent cs s xs (Ok (bound_at h e k)) = subst (BoundSays lent cs s xs) q (bound-says m cs s xs lent.memory fits) in (
      within_more _ _ o.answer (pending o.left.image cs s)
          (omega (arith, given.2, given.3, given.4, fewer_until m cs s (event_acknowledges s) es, calls_raise_none cs s (rival m cs s) es given.1))
          (wait-within lent cs s xs fits given.0 (handle_until cs s (event_acknowledges s) es (calls_handle cs s es given.1))),
      given.4,
    ))
