-- What a promise says of the copy it says of the lent list, and what demand 3 and Handlers say of a run, a wait report and a bound that keep theirs.
-- Assumes nothing.
use Rattle.std.specs.Prelude.{Err}
use mathlib.Core.Path.{◌≡◌, refl, sym, subst}
use mathlib.Core.Bool.{Bool, true, false, cond}
use mathlib.Core.List.{List}
use Prim.Native.Nat.{ℕ, ◌<◌}
use lib.Dec.{eqb}
use lib.ListN.{length}
use Rattle.rules.specs.declared.Channel.{Channel}
use Rattle.rules.specs.declared.Step.{Step}
use Rattle.rules.specs.declared.Step.TheVariants as step
use Rattle.rules.specs.declared.Refusal.TheVariants as refusal
use Rattle.rules.specs.Image.{Image, Memory, image_length, Fits}
use Rattle.rules.specs.Channels.{most_records, list_of}
use Rattle.rules.specs.Outcomes.{Answered, State, state, alone, Outcome, Verdict}
use Rattle.rules.specs.Steps.{lent_verdict, step_of}
use Rattle.rules.specs.Runs.{run_of, wait_verdict, wait_of, Ran, Waited}
use Rattle.rules.specs.Bounds.{bound_of, BoundSays, Bounded}
use Rattle.rules.specs.HandlerBounds.{handler_bound_of, HandlerBoundSays}
use Rattle.rules.specs.Encodings.{steps_of, told, told_run, told_wait, told_bound}
use Rattle.rules.specs.Promises.{Does, Reads, Runs, RunClaims, Waits, WaitClaims, Bounds, BoundClaims, HandlerBounds, HandlerBoundClaims}
use Rattle.rules.proofs.ListLaws.{list_long}
use Rattle.rules.proofs.Told.{told-wait_injective, told-bound_injective}
use Rattle.rules.proofs.RunsAndWaits.{runs_claimed, waits_claimed}
use Rattle.rules.proofs.BoundLaws.{bound-says}
use Rattle.rules.proofs.HandlerBoundLaws.{handler_bound-says}
use Rattle.lent.specs.Copies.{copy_of}
use Rattle.lent.proofs.CopyLaws.{through}

-- ---- a list over twelve is refused, whatever is in it

abbrev refused : Bool → Verdict
refused b = Err (cond b refusal.List refusal.Length)

long-refused : (s : State) (cs : List Channel) → most_records < length cs → lent_verdict s cs ≡ refused (eqb (length s.image) image_length)
unfolding lent_verdict
long-refused s cs h = rw (list_long cs h) (go (eqb (length s.image) image_length))
  where
    go : (b : Bool) → cond b (Err refusal.List) (Err refusal.Length) ≡ refused b
    go true = refl
    go false = refl

module _ (s : State) (bs cs : List Channel) (h : most_records < length bs) (k : most_records < length cs) where
  step_alike : (x : Step) → step_of s bs x ≡ step_of s cs x
  unfolding step_of
  step_alike x = rw (long-refused s bs h, long-refused s cs k)

  run_alike : (xs : List Step) → run_of s bs xs ≡ run_of s cs xs
  unfolding run_of
  run_alike xs = rw (long-refused s bs h, long-refused s cs k)

  wait_alike : (source : ℕ) (xs : List Step) → wait_of s bs source xs ≡ wait_of s cs source xs
  unfolding wait_of wait_verdict
  wait_alike source xs = rw (long-refused s bs h, long-refused s cs k)

module _ (m : Image) (bs cs : List Channel) (h : most_records < length bs) (k : most_records < length cs) where
  bound_alike : (source : ℕ) (xs : List Step) → bound_of m bs source xs ≡ bound_of m cs source xs
  unfolding bound_of wait_verdict
  bound_alike source xs = rw (long-refused (alone m) bs h, long-refused (alone m) cs k)

  handler_bound_alike : (source : ℕ) (xs : List Step) → handler_bound_of m bs source xs ≡ handler_bound_of m cs source xs
  unfolding handler_bound_of wait_verdict
  handler_bound_alike source xs = rw (long-refused (alone m) bs h, long-refused (alone m) cs k)

-- ---- from the copy to the lent list

module _ (s : State) (cs : List Channel) where
  -- one step
  pub lent-does : (x : Step) (a : Answered) (t : State) → Does s (list_of (copy_of cs)) x a t → Does s cs x a t
  lent-does x a t =
      subst (λ (o : Outcome Answered State). (told a ≡ told o.answer) × (t ≡ o.left))
      (through (λ (l : List Channel). step_of s l x) (λ bs ds h k. step_alike s bs ds h k x) cs)

  -- a run, with what is claimed of it
  pub lent_runs : (ws : List ℕ) (r : Ran) (t : State) → Runs s (list_of (copy_of cs)) ws r t → RunClaims s cs ws r t
  lent_runs ws r t promise =
      let p : Runs s cs ws r t =
      subst (λ (o : Outcome Ran State). (told_run r ≡ told_run o.answer) × (t ≡ o.left))
      (through (λ (l : List Channel). run_of s l (steps_of ws)) (λ bs ds h k. run_alike s bs ds h k (steps_of ws)) cs) promise in
      (p, rw p.1 (runs_claimed s cs (steps_of ws)))

  -- a wait report, likewise
  pub lent-waits : (source : ℕ) (ws : List ℕ) (w : Waited) (t : State) → Waits s (list_of (copy_of cs)) source ws w t → WaitClaims s cs source ws w t
  lent-waits source ws w t promise =
      let p : Waits s cs source ws w t =
      subst (λ (o : Outcome Waited State). (told_wait w ≡ told_wait o.answer) × (t ≡ o.left))
      (through (λ (l : List Channel). wait_of s l source (steps_of ws)) (λ bs ds h k. wait_alike s bs ds h k source (steps_of ws)) cs) promise in
      let same = told-wait_injective w (wait_of s cs source (steps_of ws)).answer p.0 in
      (p, rw (same, p.1) (waits_claimed s cs source (steps_of ws)))

module _ (m : Image) (cs : List Channel) where
  -- a read, whose promise has the answer alone
  pub lent_reads : (r : ℕ) (a : Answered) → Reads m (list_of (copy_of cs)) r a → Reads m cs r a
  lent_reads r a =
      subst (λ (o : Outcome Answered State). told a ≡ told o.answer)
      (through (λ (l : List Channel). step_of (alone m) l (step.Read r)) (λ bs ds h k. step_alike (alone m) bs ds h k (step.Read r)) cs)

  -- a bound, with what it says: of either claim
  module _ (bound_by : Image → List Channel → ℕ → List Step → Bounded)
      (alike : (bs ds : List Channel) → most_records < length bs → most_records < length ds → (source : ℕ) (xs : List Step) → bound_by m bs source xs ≡ bound_by m ds source xs)
      (Says : List Step → ℕ → Bounded → Type 0) (says : (source : ℕ) (xs : List Step) → Says xs source (bound_by m cs source xs)) where
    bound-through : (source : ℕ) (ws : List ℕ) (b : Bounded) → told_bound b ≡ told_bound (bound_by m (list_of (copy_of cs)) source (steps_of ws))
        → (told_bound b ≡ told_bound (bound_by m cs source (steps_of ws))) × Says (steps_of ws) source b
    bound-through source ws b promise =
        let o : Bounded = bound_by m cs source (steps_of ws) in
        let p : told_bound b ≡ told_bound o =
        subst (λ (o : Bounded). told_bound b ≡ told_bound o)
        (through (λ (l : List Channel). bound_by m l source (steps_of ws)) (λ bs ds h k. alike bs ds h k source (steps_of ws)) cs) promise in
        (p, subst (Says (steps_of ws) source) (sym (told-bound_injective b o p)) (says source (steps_of ws)))

  pub lent_bounds : (source : ℕ) (ws : List ℕ) (b : Bounded) → Bounds m (list_of (copy_of cs)) source ws b → BoundClaims m cs source ws b
  lent_bounds =
      bound-through bound_of (bound_alike m) (λ xs source b. (memory : Memory) → Fits memory → BoundSays (state m memory) cs source xs b)
      (λ source xs. bound-says m cs source xs)

  pub lent_handler_bounds : (source : ℕ) (ws : List ℕ) (b : Bounded) → HandlerBounds m (list_of (copy_of cs)) source ws b → HandlerBoundClaims m cs source ws b
  lent_handler_bounds =
      bound-through handler_bound_of (handler_bound_alike m) (λ xs source b. (memory : Memory) → Fits memory → HandlerBoundSays (state m memory) cs source xs b)
      (λ source xs. handler_bound-says m cs source xs)
