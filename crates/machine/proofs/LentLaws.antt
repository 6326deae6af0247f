-- A call's promise by its verdict. Assumes nothing.
use Rattle.std.specs.Prelude.{Err}
use mathlib.Core.Path.{◌≡◌, refl, sym, ap, ◌∙◌}
use mathlib.Core.Bool.{true, false≢true}
use mathlib.Core.List.{List}
use Prim.Native.Nat.{ℕ}
use lib.Dec.{leb}
use lib.ListN.{length}
use borrow.Author.Tests.{eq-eqb}
use Rattle.rules.specs.declared.Channel.{Channel}
use Rattle.rules.specs.declared.Step.{Step}
use Rattle.rules.specs.declared.Refusal.{Refusal}
use Rattle.rules.specs.declared.Refusal.TheVariants as refusal
use Rattle.rules.specs.declared.RunRefusal.TheVariants as run_refused
use Rattle.rules.specs.declared.WaitRefusal.TheVariants as wait_refused
use Rattle.rules.specs.declared.NoBound.TheVariants as no_bound
use Rattle.rules.specs.Image.{Image, image_length, most_memory}
use Rattle.rules.specs.Channels.{list_ok}
use Rattle.rules.specs.Outcomes.{State, alone, outcome, refuse, refused_unless, refused_or, is_refused, Answered, Verdict, accepted}
use Rattle.rules.specs.Steps.{lent_verdict, act_of, step_of}
use Rattle.rules.specs.Runs.{run_of, wait_verdict, wait_of}
use Rattle.rules.specs.Bounds.{accepted_bound, bound_of, Bounded}
use Rattle.rules.specs.HandlerBounds.{accepted_handler_bound, handler_bound_of}
use Rattle.rules.specs.Encodings.{steps_of, told, told_run, told_wait, told_bound}
use Rattle.rules.specs.Promises.{Does, Runs, Waits, Bounds, HandlerBounds}
use Rattle.runs.proofs.RunSteps.{promised}

-- what is led to by the verdict v is led to by an equal one
by_verdict : {A : Type 0} (f : Refusal → A) (x : A) {u v : Verdict} {a : A} → u ≡ v → a ≡ refused_or v f x → a ≡ refused_or u f x
by_verdict {A} f x l e = e ∙ ap (λ (w : Verdict). refused_or {A = A} w f x) (sym l)

-- a refusal accepts nothing
pub not_accepted : {A : Type 0} {r : Refusal} → (Err r) ≡ accepted → A
not_accepted e = absurd (false≢true (sym (ap is_refused e)))

-- past the image's length and the list the memory decides
pub lent-by_memory : (s : State) (cs : List Channel) → length s.image ≡ image_length → list_ok cs ≡ true
    → lent_verdict s cs ≡ refused_unless (leb (length s.memory) most_memory) refusal.Memory accepted
unfolding lent_verdict
lent-by_memory s cs h l = rw (eq-eqb (length s.image) image_length h, l)

module _ (s t : State) (cs : List Channel) (v : Verdict) where
  -- a step that answers and leaves what the definition says by its verdict keeps the promise
  pub does-by : (x : Step) (a : Answered) → lent_verdict s cs ≡ v → outcome a t ≡ refused_or v (λ r. refuse r s) (act_of s cs x) → Does s cs x a t
  unfolding step_of
  does-by x a l e = promised told (by_verdict _ _ l e)

module _ (s : State) (cs : List Channel) (r : Refusal) where
  -- so does a run that is refused before any step,
  pub run-refuses : (ws : List ℕ) → lent_verdict s cs ≡ (Err r) → Runs s cs ws (Err (run_refused.Before r)) s
  unfolding run_of
  run-refuses ws l = promised told_run (by_verdict _ _ l refl)

  -- and a wait report
  pub wait-refuses : (source : ℕ) (ws : List ℕ) → wait_verdict s cs source ≡ (Err r) → Waits s cs source ws (Err (wait_refused.Before r)) s
  unfolding wait_of
  wait-refuses source ws l = promised told_wait (by_verdict _ _ l refl)

-- so does a bound, which leaves the image as it was: demand 3's, and that of Handlers
module _ (m : Image) (cs : List Channel) (v : Verdict) (source : ℕ) (ws : List ℕ) (b : Bounded) (l : wait_verdict (alone m) cs source ≡ v) where
  pub bounds_by : b ≡ refused_or v (λ r. Err (no_bound.Refused r)) (accepted_bound m cs source (steps_of ws)) → Bounds m cs source ws b
  unfolding bound_of
  bounds_by e = ap told_bound (by_verdict _ _ l e)

  pub handler_bounds_by : b ≡ refused_or v (λ r. Err (no_bound.Refused r)) (accepted_handler_bound m cs source (steps_of ws)) → HandlerBounds m cs source ws b
  unfolding handler_bound_of
  handler_bounds_by e = ap told_bound (by_verdict _ _ l e)
