-- Document 01, "Runs and the wait report": what a run answers and leaves, and where it stops. Assumes nothing.
use Rattle.std.specs.Prelude.{Ok, Err, Some, None, Option}
use mathlib.Core.Path.{◌≡◌, refl, sym, ap, ◌∙◌}
use mathlib.Core.Bool.{Bool, true, false, false≢true, cond, not, ◌||◌}
use mathlib.Core.List.{List, [], ◌∷◌, ◌++◌}
use Prim.Native.Nat.{ℕ, suc, ◌+◌}
use native.Mathlib.Omega.{arith}
use lib.ListN.{length, take}
use Rattle.rules.specs.declared.Channel.{Channel}
use Rattle.rules.specs.declared.Step.{Step}
use Rattle.rules.specs.declared.Answer.{Answer}
use Rattle.rules.specs.declared.Refusal.{Refusal}
use Rattle.rules.specs.declared.RunRefusal.TheVariants as run_refused
use Rattle.rules.specs.Outcomes.{State, Outcome, outcome, is_refused, accepted, Answered}
use Rattle.rules.specs.Steps.{lent_verdict, step_of}
use Rattle.rules.specs.Runs.{ran_by, Event, event_of, history, state_after, event_refused, one_if, any_event, counted, until, steps_done, run_events, last_answer, run_answer, run_of, run_history, Ran, ran}
use Rattle.rules.proofs.Verdicts.{verdict_elim, verdict_same}
use Rattle.rules.proofs.Refusals.{refused-same}
use Rattle.rules.proofs.Histories.{history-length, after-append, last-append, counted-append, refused_in, run-goes_on, run_ends, run-whole, run-after}

-- a run refused before any step, with 1, 2 or 8, does nothing
pub run-refused : (s : State) (cs : List Channel) (xs : List Step) (r : Refusal) → lent_verdict s cs ≡ (Err r)
    → run_of s cs xs ≡ outcome (Err (run_refused.Before r)) s
unfolding run_of
run-refused s cs xs r v = rw v

-- and has no event; else its events are the steps up to the first refused
pub run-history : (s : State) (cs : List Channel) (xs : List Step)
    → ((r : Refusal) → lent_verdict s cs ≡ (Err r) → run_history s cs xs ≡ []) × (lent_verdict s cs ≡ accepted → run_history s cs xs ≡ run_events s cs xs)
run-history s cs xs = (λ r v. rw v, λ v. rw v)

-- with none refused, all the steps are done
done_all : (es : List Event) → refused_in es ≡ false → steps_done es ≡ length es
unfolding any_event counted
done_all [] h = refl
done_all (e ∷ es) h = go (event_refused e) h (done_all es)
  where
    go : (b : Bool) → (b || refused_in es) ≡ false → (refused_in es ≡ false → steps_done es ≡ length es) → one_if (not b) + steps_done es ≡ suc (length es)
    go true h ih = absurd (false≢true (sym h))
    go false h ih = omega (arith, ih h)

-- the last of some answers is a refusal
abbrev pub last_refused : Option Answered → Bool
last_refused None = false
last_refused (Some a) = is_refused a

-- and the last answer is none
last-accepted : (a : Option Answered) (es : List Event) → last_refused a ≡ false → refused_in es ≡ false → last_refused (last_answer a es) ≡ false
unfolding any_event last_answer
last-accepted a [] f h = f
last-accepted a (e ∷ es) f h = go (event_refused e) refl h (last-accepted (Some e.outcome.answer) es)
  where
    go : (b : Bool) → event_refused e ≡ b → (b || refused_in es) ≡ false
        → (event_refused e ≡ false → refused_in es ≡ false → last_refused (last_answer (Some e.outcome.answer) es) ≡ false)
        → last_refused (last_answer (Some e.outcome.answer) es) ≡ false
    go false d h ih = ih d h
    go true d h ih = absurd (false≢true (sym h))

-- the last of some answers, where it is no refusal
abbrev pub last_done : Option Answered → Option Answer
last_done None = None
last_done (Some (Ok a)) = Some a
last_done (Some (Err r)) = None

-- by it the run is done
ran_done : (n : ℕ) (a : Option Answered) → last_refused a ≡ false → ran_by n a ≡ Ok (ran n (last_done a))
ran_done n None f = refl
ran_done n (Some (Ok a)) f = refl
ran_done n (Some (Err r)) f = absurd (false≢true (sym f))

-- what is lent accepted, the run answers and leaves what its events say
run-told : (s : State) (cs : List Channel) (xs : List Step) → lent_verdict s cs ≡ accepted
    → (es : List Event) (n : ℕ) (a : Option Answered) (t : State)
    → run_events s cs xs ≡ es → steps_done es ≡ n → last_answer None es ≡ a → state_after s es ≡ t
    → run_of s cs xs ≡ outcome (ran_by n a) t
unfolding run_of run_answer
run-told s cs xs v es n a t p d l q = rw (v, p, d, l, q)

-- where no step is refused, all are done
pub run-done : (s : State) (cs : List Channel) (xs : List Step) → lent_verdict s cs ≡ accepted → refused_in (history s cs xs) ≡ false
    → run_of s cs xs ≡ outcome (Ok (ran (length xs) (last_done (last_answer None (history s cs xs))))) (state_after s (history s cs xs))
run-done s cs xs v h =
    let es : List Event = history s cs xs in
    run-told s cs xs v es (length xs) (last_answer None es) (state_after s es) (run-whole s cs xs h) (done_all es h ∙ history-length s cs xs) refl refl
    ∙ ap (λ (r : Ran). outcome r (state_after s es)) (ran_done (length xs) (last_answer None es) (last-accepted None es refl h))

-- where one is refused after steps that are not, its index is answered, and exactly the steps before it are done
pub refused_midway : (s : State) (cs : List Channel) (ys : List Step) (x : Step) (zs : List Step) (r : Refusal)
    → lent_verdict s cs ≡ accepted → refused_in (history s cs ys) ≡ false
    → (step_of (state_after s (history s cs ys)) cs x).answer ≡ (Err r)
    → run_of s cs (ys ++ (x ∷ zs)) ≡ outcome (Err (run_refused.At r (length ys))) (state_after s (history s cs ys))
unfolding any_event counted until history state_after last_answer
refused_midway s cs ys x zs r v h p =
    let es : List Event = history s cs ys in
    let t : State = state_after s es in
    let e : Event = event_of t x (step_of t cs x) in
    let f : event_refused e ≡ true = ap is_refused p in
    run-told s cs (ys ++ (x ∷ zs)) v (es ++ (e ∷ [])) (length ys) (Some (Err r)) t
    (run-goes_on s cs ys (x ∷ zs) h ∙ ap (λ (b : Bool). es ++ (e ∷ cond b [] (run_events (step_of t cs x).left cs zs))) f)
    (omega (arith, counted-append (λ e. not (event_refused e)) es (e ∷ []), done_all es h, history-length s cs ys, ap (λ (b : Bool). one_if (not b)) f))
    (last-append None es (e ∷ []) ∙ ap Some p) (after-append s es (e ∷ []) ∙ refused-same t cs x f)

-- steps after a refused one are never looked at, whatever they are
pub run_stops : (s : State) (cs : List Channel) (xs ys : List Step) → refused_in (history s cs xs) ≡ true → run_of s cs (xs ++ ys) ≡ run_of s cs xs
unfolding run_of
run_stops s cs xs ys h =
    verdict_same (lent_verdict s cs) (λ v. ap (λ (es : List Event). outcome (run_answer es) (state_after s es)) (run_ends s cs xs ys h)) (λ r v. refl)

-- the steps done that a run answers with
abbrev pub steps_in : Ran → ℕ
steps_in (Err (run_refused.Before r)) = 0
steps_in (Err (run_refused.At r i)) = i
steps_in (Ok its) = its.steps

ran_steps : (n : ℕ) (a : Option Answered) → steps_in (ran_by n a) ≡ n
ran_steps n None = refl
ran_steps n (Some (Ok a)) = refl
ran_steps n (Some (Err r)) = refl

-- a run leaves what exactly the steps leave that it answers as done, refused or not
pub run-leaves : (s : State) (cs : List Channel) (xs : List Step)
    → (run_of s cs xs).left ≡ state_after s (history s cs (take (steps_in (run_of s cs xs).answer) xs))
unfolding run_of run_answer history state_after
run-leaves s cs xs =
    verdict_elim (λ (o : Outcome Ran State). o.left ≡ state_after s (history s cs (take (steps_in o.answer) xs))) (lent_verdict s cs)
    (λ v. simp ran_steps (run-after s cs xs).0) (λ r v. refl)
