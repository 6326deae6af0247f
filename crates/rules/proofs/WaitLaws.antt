-- Document 01, "Runs and the wait report": what a wait report answers and leaves. Assumes nothing.
use Rattle.std.specs.Prelude.{Ok, Err, Some, None, Option}
use mathlib.Core.Path.{◌≡◌, refl, sym, ap, ◌∙◌}
use mathlib.Core.Bool.{Bool, true, false, false≢true, cond, ◌||◌}
use mathlib.Core.List.{List, [], ◌∷◌, ◌++◌}
use Prim.Native.Nat.{ℕ, ◌≤◌, ◌<◌}
use lib.ListN.{take}
use lib.Dec.{ltb}
use borrow.Author.Tests.{ltb-true, lt-ltb, le-ltb}
use Rattle.rules.specs.declared.Channel.{Channel}
use Rattle.rules.specs.declared.Step.{Step}
use Rattle.rules.specs.declared.Refusal.{Refusal}
use Rattle.rules.specs.declared.Refusal.TheVariants as refusal
use Rattle.rules.specs.declared.RunRefusal.TheVariants as run_refused
use Rattle.rules.specs.declared.WaitEnd.{WaitEnd}
use Rattle.rules.specs.declared.WaitEnd.TheVariants as wait
use Rattle.rules.specs.declared.WaitRefusal.TheVariants as wait_refused
use Rattle.rules.specs.Outcomes.{refused_unless, State, Outcome, outcome, acknowledges, Verdict, accepted, Answered}
use Rattle.rules.specs.Sources.{sources}
use Rattle.rules.specs.Steps.{lent_verdict}
use Rattle.rules.specs.Runs.{ran_by, waited_by, Event, history, state_after, any_event, until, steps_done, run_events, last_answer, run_answer, run_of, acknowledged_in, arbitrations_in, wait_events, wait_answer, wait_verdict, wait_of, wait_history, event_acknowledges, Ran, Waited}
use Rattle.rules.proofs.Histories.{until-whole, wait-ends, wait-after}
use Rattle.rules.proofs.Bools.{impossible, cond_elim}
use Rattle.rules.proofs.Verdicts.{verdict_elim, verdict_same}
use Rattle.rules.proofs.AcknowledgedBy.{last_acknowledges}

-- ---- refused before any step: 1, 2 and 8 for what is lent, then the source number

-- a wait report refused so does nothing
pub wait-refused : (s : State) (cs : List Channel) (source : ℕ) (xs : List Step) (r : Refusal) → wait_verdict s cs source ≡ (Err r)
    → wait_of s cs source xs ≡ outcome (Err (wait_refused.Before r)) s
unfolding wait_of
wait-refused s cs source xs r v = rw v

-- and has no event; else its events are the steps up to the acknowledgement or the first refused
pub wait-history : (s : State) (cs : List Channel) (source : ℕ) (xs : List Step)
    → ((r : Refusal) → wait_verdict s cs source ≡ (Err r) → wait_history s cs source xs ≡ [])
    × (wait_verdict s cs source ≡ accepted → wait_history s cs source xs ≡ wait_events s cs source xs)
wait-history s cs source xs = (λ r v. rw v, λ v. rw v)

module _ (s : State) (cs : List Channel) (source : ℕ) where
  -- what is lent comes first
  pub lent-first : (r : Refusal) → lent_verdict s cs ≡ (Err r) → wait_verdict s cs source ≡ (Err r)
  unfolding wait_verdict
  lent-first r v = rw v

  -- refusal 4 next: there is no such source
  pub source_next : lent_verdict s cs ≡ accepted → sources cs ≤ source → wait_verdict s cs source ≡ (Err refusal.Number)
  unfolding wait_verdict
  source_next v h = rw (v, le-ltb source (sources cs) h)

  -- so the source decides where what is lent is accepted
  pub wait-by_source : lent_verdict s cs ≡ accepted → wait_verdict s cs source ≡ refused_unless (ltb source (sources cs)) refusal.Number accepted
  unfolding wait_verdict
  wait-by_source v = rw v

  -- a wait report is accepted only with what is lent
  pub accepted-lent : wait_verdict s cs source ≡ accepted → lent_verdict s cs ≡ accepted
  unfolding wait_verdict
  accepted-lent v = verdict_elim (λ (w : Verdict). w ≡ accepted → lent_verdict s cs ≡ accepted) (lent_verdict s cs) (λ u e. u) (λ r u e. impossible (cc)) v

  -- and with a source that is there
  pub accepted-source : wait_verdict s cs source ≡ accepted → source < sources cs
  unfolding wait_verdict
  accepted-source v =
      verdict_elim (λ (w : Verdict). w ≡ accepted → source < sources cs) (lent_verdict s cs)
      (λ u. cond_elim (λ (w : Verdict). w ≡ accepted → source < sources cs) (ltb source (sources cs)) (λ d e. ltb-true source (sources cs) d) (λ d e. impossible (cc)))
      (λ r u e. impossible (cc)) v

  -- otherwise the steps are done
  pub wait-accepted : lent_verdict s cs ≡ accepted → source < sources cs → wait_verdict s cs source ≡ accepted
  unfolding wait_verdict
  wait-accepted v h = rw (v, lt-ltb source (sources cs) h)

-- ---- the count, and the end

-- the arbitrations that a wait report answers with
abbrev pub arbitrations_of : Waited → ℕ
arbitrations_of (Err (wait_refused.Before r)) = 0
arbitrations_of (Err (wait_refused.At r i k)) = k
arbitrations_of (Ok (wait.Ended k)) = k
arbitrations_of (Ok (wait.Acknowledged k)) = k

-- a number that is m of each answer a wait report of what is accepted may give
waited_each : (f : Waited → ℕ) (m source n k : ℕ) (a : Option Answered) → f (Ok (wait.Acknowledged k)) ≡ m → f (Ok (wait.Ended k)) ≡ m
    → ((r : Refusal) → f (Err (wait_refused.At r n k)) ≡ m) → f (waited_by source n k a) ≡ m
waited_each f m source n k None p q h = q
waited_each f m source n k (Some (Ok a)) p q h = cond_elim (λ (w : WaitEnd). f (Ok w) ≡ m) (acknowledges source (Ok a)) (λ e. p) (λ e. q)
waited_each f m source n k (Some (Err r)) p q h = h r

-- a wait report counts the arbitrations among its events, which are the run's up to the acknowledgement
pub wait-count : (s : State) (cs : List Channel) (source : ℕ) (xs : List Step) → wait_verdict s cs source ≡ accepted
    → (w : Waited) → (wait_of s cs source xs).answer ≡ w → arbitrations_of w ≡ arbitrations_in (wait_events s cs source xs)
unfolding wait_of wait_answer
wait-count s cs source xs v w p =
    let es : List Event = wait_events s cs source xs in
    sym (ap arbitrations_of (rw v at p))
    ∙ waited_each arbitrations_of (arbitrations_in es) source (steps_done es) (arbitrations_in es) (last_answer None es) refl refl (λ r. refl)

-- steps after the acknowledgement are never looked at, whatever they are
pub wait_stops : (s : State) (cs : List Channel) (source : ℕ) (xs ys : List Step) → acknowledged_in source (run_events s cs xs) ≡ true
    → wait_of s cs source (xs ++ ys) ≡ wait_of s cs source xs
unfolding wait_of
wait_stops s cs source xs ys h =
    verdict_same (wait_verdict s cs source) (λ v. ap (λ (es : List Event). outcome (wait_answer source es) (state_after s es)) (wait-ends s cs source xs ys h)) (λ r v. refl)

-- the index that it answers with, n where there is none
abbrev index_or : ℕ → Waited → ℕ
index_or n (Err (wait_refused.Before r)) = n
index_or n (Err (wait_refused.At r i k)) = i
index_or n (Ok (wait.Ended k)) = n
index_or n (Ok (wait.Acknowledged k)) = n

-- it leaves the state after the last step done
pub wait-state : (s : State) (cs : List Channel) (source : ℕ) (xs : List Step) → wait_verdict s cs source ≡ accepted
    → (wait_of s cs source xs).left ≡ state_after s (wait_events s cs source xs)
unfolding wait_of
wait-state s cs source xs v = rw v

-- refused at a step, it leaves what exactly the steps before leave, and counts their arbitrations
pub wait-leaves : (s : State) (cs : List Channel) (source : ℕ) (xs : List Step) (r : Refusal) (i k : ℕ)
    → (wait_of s cs source xs).answer ≡ (Err (wait_refused.At r i k))
    → ((wait_of s cs source xs).left ≡ state_after s (history s cs (take i xs))) × (k ≡ arbitrations_in (history s cs (take i xs)))
unfolding wait_of wait_answer history state_after
wait-leaves s cs source xs r i k = verdict_elim Leaves (wait_verdict s cs source) (λ v. done) (λ q v p. impossible (cc))
  where
    es : List Event
    es = wait_events s cs source xs

    n : ℕ
    n = steps_done es

    last : Option Answered
    last = last_answer None es

    Leaves : Outcome Waited State → Type 0
    Leaves o = o.answer ≡ (Err (wait_refused.At r i k)) → (o.left ≡ state_after s (history s cs (take i xs))) × (k ≡ arbitrations_in (history s cs (take i xs)))

    done : Leaves (outcome (waited_by source n (arbitrations_in es) last) (state_after s es))
    done p =
        let e : index_or n (waited_by source n (arbitrations_in es) last) ≡ n = waited_each (index_or n) n source n (arbitrations_in es) last refl refl (λ r. refl) in
        let f : arbitrations_of (waited_by source n (arbitrations_in es) last) ≡ arbitrations_in es =
        waited_each arbitrations_of (arbitrations_in es) source n (arbitrations_in es) last refl refl (λ r. refl) in
        let index : n ≡ i = sym e ∙ ap (index_or n) p in (
          (wait-after s cs source xs).0 ∙ ap (λ (n : ℕ). state_after s (history s cs (take n xs))) index,
          sym (ap arbitrations_of p) ∙ f ∙ (wait-after s cs source xs).1 ∙ ap (λ (n : ℕ). arbitrations_in (history s cs (take n xs))) index,
        )

-- ---- which end it is

module _ (s : ℕ) where
  -- up to the acknowledgement, the last answer tells whether there is one
  pub last-tells : (es : List Event) (a : Option Answered) → last_acknowledges s a ≡ false
      → last_acknowledges s (last_answer a (until (event_acknowledges s) es)) ≡ acknowledged_in s (until (event_acknowledges s) es)
  unfolding last_answer until any_event
  last-tells [] a f = f
  last-tells (e ∷ es) a f = go (event_acknowledges s e) refl (last-tells es (Some e.outcome.answer))
    where
      go : (b : Bool) → event_acknowledges s e ≡ b
          → (event_acknowledges s e ≡ false
          → last_acknowledges s (last_answer (Some e.outcome.answer) (until (event_acknowledges s) es)) ≡ acknowledged_in s (until (event_acknowledges s) es))
          → last_acknowledges s (last_answer (Some e.outcome.answer) (cond b [] (until (event_acknowledges s) es))) ≡ (b || acknowledged_in s (cond b [] (until (event_acknowledges s) es)))
      go true d ih = d
      go false d ih = ih d

  -- the acknowledgement is among the events up to it
  until-acknowledged : (es : List Event) → acknowledged_in s (until (event_acknowledges s) es) ≡ acknowledged_in s es
  unfolding any_event until
  until-acknowledged [] = refl
  until-acknowledged (e ∷ es) = go (event_acknowledges s e) (until-acknowledged es)
    where
      go : (b : Bool) → acknowledged_in s (until (event_acknowledges s) es) ≡ acknowledged_in s es
          → (b || acknowledged_in s (cond b [] (until (event_acknowledges s) es))) ≡ (b || acknowledged_in s es)
      go true ih = refl
      go false ih = ih

-- a run's answer as a wait report that counted k arbitrations
abbrev pub counting : ℕ → Ran → Waited
counting k (Err (run_refused.Before r)) = Err (wait_refused.Before r)
counting k (Err (run_refused.At r i)) = Err (wait_refused.At r i k)
counting k (Ok its) = Ok (wait.Ended k)

module _ (source n k : ℕ) where
  -- by a last answer that acknowledges the source,
  ends_acknowledged : (a : Option Answered) → last_acknowledges source a ≡ true → waited_by source n k a ≡ Ok (wait.Acknowledged k)
  ends_acknowledged None t = absurd (false≢true t)
  ends_acknowledged (Some (Ok a)) t = rw t
  ends_acknowledged (Some (Err r)) t = absurd (false≢true t)

  -- and by another
  ends_as_run : (a : Option Answered) → last_acknowledges source a ≡ false → waited_by source n k a ≡ counting k (ran_by n a)
  ends_as_run None t = refl
  ends_as_run (Some (Ok a)) t = rw t
  ends_as_run (Some (Err r)) t = refl

module _ (s : State) (cs : List Channel) (source : ℕ) (xs : List Step) where
  -- the last answer of a wait report acknowledges exactly if an event of the run does
  last-acknowledges : last_acknowledges source (last_answer None (wait_events s cs source xs)) ≡ acknowledged_in source (run_events s cs xs)
  last-acknowledges = last-tells source (run_events s cs xs) None refl ∙ until-acknowledged source (run_events s cs xs)

  -- with the source acknowledged among the run's events, that is the answer
  pub wait-acknowledged : wait_verdict s cs source ≡ accepted → acknowledged_in source (run_events s cs xs) ≡ true
      → (wait_of s cs source xs).answer ≡ (Ok (wait.Acknowledged (arbitrations_in (wait_events s cs source xs))))
  unfolding wait_of wait_answer
  wait-acknowledged v h = rw v (ends_acknowledged source _ _ (last_answer None (wait_events s cs source xs)) (last-acknowledges ∙ h))

  -- without, the wait report is the run, with its arbitrations counted
  pub wait_as_run : wait_verdict s cs source ≡ accepted → acknowledged_in source (run_events s cs xs) ≡ false
      → wait_of s cs source xs ≡ outcome (counting (arbitrations_in (run_events s cs xs)) (run_of s cs xs).answer) (run_of s cs xs).left
  unfolding wait_of wait_answer run_of run_answer
  wait_as_run v h =
      rw (v, accepted-lent s cs source v, whole) (ap (λ (w : Waited). outcome w (state_after s es)) (ends_as_run source (steps_done es) (arbitrations_in es) (last_answer None es) other))
    where
      es : List Event
      es = run_events s cs xs

      whole : wait_events s cs source xs ≡ es
      whole = until-whole (event_acknowledges source) es h

      other : last_acknowledges source (last_answer None es) ≡ false
      other = ap (λ (fs : List Event). last_acknowledges source (last_answer None fs)) (sym whole) ∙ last-acknowledges ∙ h
