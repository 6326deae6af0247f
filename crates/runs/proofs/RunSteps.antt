-- A run and a wait report after some steps of theirs, and what the next step does to them; a step as a run of it alone. Assumes nothing.
use mathlib.Core.Path.{◌≡◌, refl, sym, ap, ap₂, ◌∙◌}
use mathlib.Core.Bool.{Bool, true, false, cond, and-true, and-false}
use mathlib.Core.List.{List, [], ◌∷◌}
use Prim.Native.Nat.{ℕ, ◌+◌, ◌<◌}
use native.Mathlib.Nat.{add-zero, zero-add, add_assoc}
use lib.ListN.{length}
use Rattle.std.specs.Prelude.{Option, Some, None, Ok, Err, is_some}
use Rattle.rules.specs.declared.Channel.{Channel}
use Rattle.rules.specs.declared.Step.{Step}
use Rattle.rules.specs.declared.Answer.{Answer}
use Rattle.rules.specs.declared.Refusal.{Refusal}
use Rattle.rules.specs.declared.RunRefusal.TheVariants as run_refused
use Rattle.rules.specs.declared.WaitEnd.TheVariants as wait
use Rattle.rules.specs.declared.WaitRefusal.TheVariants as wait_refused
use Rattle.rules.specs.declared.Flat.{Flat}
use Rattle.rules.specs.Image.{image_length, Fits}
use Rattle.rules.specs.Channels.{list_ok}
use Rattle.rules.specs.Outcomes.{State, Outcome, outcome, Answered, is_refused, acknowledges}
use Rattle.rules.specs.Sources.{sources}
use Rattle.rules.specs.Steps.{act_of, step_of}
use Rattle.rules.specs.Runs.{Event, event_of, history, state_after, one_if, counted, until, run_events, last_answer, steps_done, Ran, ran, ran_by, run_answer, run_of, is_arbitration, arbitrations_in, Waited, waited_by, wait_events, wait_answer, wait_of}
use Rattle.rules.proofs.Refusals.{lent-accepted, accepted-acts}
use Rattle.rules.proofs.WaitLaws.{wait-accepted}
use Rattle.dispatch.proofs.NextSteps.{Next, history_next}

-- ---- n steps after the start, with an answer of the last or k arbitrations made

-- an answer as that of a step that is not refused
abbrev pub done : Option Answer → Option Answered
done None = None
done (Some a) = Some (Ok a)

unfoldable pub run_from : State → ℕ → Option Answer → List Event → Outcome Ran State
run_from s n last es = outcome (ran_by (n + steps_done es) (last_answer (done last) es)) (state_after s es)

unfoldable pub wait_from : ℕ → State → ℕ → ℕ → Option Answered → List Event → Outcome Waited State
wait_from source s n k last es = outcome (waited_by source (n + steps_done es) (k + arbitrations_in es) (last_answer last es)) (state_after s es)

-- at the start
module _ (s : State) (cs : List Channel) (l : length s.image ≡ image_length) (ok : list_ok cs ≡ true) (k : Fits s.memory) where
  pub run_starts : (xs : List Step) → run_of s cs xs ≡ run_from s 0 None (run_events s cs xs)
  unfolding run_of run_answer run_from
  run_starts xs = rw (lent-accepted s cs l ok k, zero-add)

  pub wait-starts : (source : ℕ) (xs : List Step) → source < sources cs → wait_of s cs source xs ≡ wait_from source s 0 0 None (wait_events s cs source xs)
  unfolding wait_of wait_answer wait_from
  wait-starts source xs h = rw (wait-accepted s cs source (lent-accepted s cs l ok k) h, zero-add, zero-add)

-- ---- no step left

-- a run is done, with the answer of its last step
done_is : (n : ℕ) (last : Option Answer) → ran_by n (done last) ≡ Ok (ran n last)
done_is n None = refl
done_is n (Some a) = refl

module _ (s : State) (cs : List Channel) {ys : List Step} (none : ys ≡ []) (n : ℕ) where
  pub run_end : (last : Option Answer) → run_from s n last (run_events s cs ys) ≡ outcome (Ok (ran n last)) s
  unfolding run_from history state_after counted until last_answer
  run_end last = rw (none, add-zero, done_is n last)

  -- a wait report ends without an acknowledgement
  pub wait_end : (source k : ℕ) → wait_from source s n k None (wait_events s cs source ys) ≡ outcome (Ok (wait.Ended k)) s
  unfolding wait_from history state_after counted until last_answer
  wait_end source k = rw (none, add-zero)

-- ---- a step left

-- the last answer does not matter where it is no refusal and acknowledges nothing
last-free : (source : ℕ) (s : State) (n k : ℕ) (a : Answer) (es : List Event) → acknowledges source (Ok a) ≡ false
    → wait_from source s n k (Some (Ok a)) es ≡ wait_from source s n k None es
unfolding wait_from last_answer
last-free source s n k a [] f = rw f
last-free source s n k a (e ∷ es) f = refl

-- a choice between none and none
cond_none : (b : Bool) → cond {A = List Event} b [] [] ≡ []
cond_none true = refl
cond_none false = refl

-- one that is not refused: the run's events go on after it
module _ {s t : State} {cs : List Channel} {ys xs : List Step} {x : Step} {a : Answer} (next : Next s t cs ys xs x (Ok a)) where
  events_on : run_events s cs ys ≡ event_of s x (outcome (Ok a) t) ∷ run_events t cs xs
  unfolding until
  events_on = rw (history_next next)

  -- a run has done one step more
  pub run_on : (n : ℕ) (last : Option Answer) → run_from s n last (run_events s cs ys) ≡ run_from t (n + 1) (Some a) (run_events t cs xs)
  unfolding run_from state_after counted last_answer
  run_on n last = rw (events_on, ← add_assoc)

  module _ (source n k : ℕ) where
    -- a wait report has also counted the step if it is an arbitration
    pub wait_on : acknowledges source (Ok a) ≡ false
        → wait_from source s n k None (wait_events s cs source ys)
        ≡ wait_from source t (n + 1) (k + one_if (is_arbitration x)) None (wait_events t cs source xs)
    unfolding wait_from state_after counted until last_answer
    wait_on f =
        rw (events_on, f, and-true (is_arbitration x), ← add_assoc n, ← add_assoc k)
        (last-free source t (n + 1) (k + one_if (is_arbitration x)) a (wait_events t cs source xs) f)

    -- or ends with the acknowledgement
    pub wait-acknowledges : acknowledges source (Ok a) ≡ true
        → wait_from source s n k None (wait_events s cs source ys) ≡ outcome (Ok (wait.Acknowledged (k + one_if (is_arbitration x)))) t
    unfolding wait_from state_after counted until last_answer
    wait-acknowledges f = rw (events_on, f, f, and-true (is_arbitration x), add-zero)

-- one that is refused is the last
module _ {s t : State} {cs : List Channel} {ys xs : List Step} {x : Step} {r : Refusal} (next : Next s t cs ys xs x (Err r)) where
  events_stop : run_events s cs ys ≡ event_of s x (outcome (Err r) t) ∷ []
  unfolding until
  events_stop = rw (history_next next)

  pub run_stop : (n : ℕ) (last : Option Answer) → run_from s n last (run_events s cs ys) ≡ outcome (Err (run_refused.At r n)) t
  unfolding run_from state_after counted last_answer
  run_stop n last = rw events_stop (simp add-zero)

  pub wait_stop : (source n k : ℕ) → wait_from source s n k None (wait_events s cs source ys) ≡ outcome (Err (wait_refused.At r n k)) t
  unfolding wait_from state_after counted until last_answer
  wait_stop source n k = rw (events_stop, and-false (is_arbitration x)) (simp add-zero)

-- ---- a run of one step

-- what it answered, by what the run answers
abbrev pub sole : Ran → Option Answered
sole (Ok its) = done its.last
sole (Err (run_refused.Before r)) = Some (Err r)
sole (Err (run_refused.At r i)) = Some (Err r)

sole_of : (n : ℕ) (a : Answered) → sole (ran_by n (Some a)) ≡ Some a
sole_of n (Ok a) = refl
sole_of n (Err r) = refl

-- its one event
sole_event : (s : State) (cs : List Channel) (x : Step) → run_events s cs (x ∷ []) ≡ event_of s x (step_of s cs x) ∷ []
unfolding history until
sole_event s cs x = rw (cond_none (is_refused (step_of s cs x).answer))

-- it answers and leaves what the step does
pub step-alone : (s : State) (cs : List Channel) (x : Step) {t : State} {r : Ran} → length s.image ≡ image_length → list_ok cs ≡ true → Fits s.memory
    → outcome r t ≡ run_of s cs (x ∷ []) → (sole r ≡ Some (act_of s cs x).answer) × (t ≡ (act_of s cs x).left)
unfolding last_answer state_after run_from
step-alone s cs x {t} {r} l ok k e =
    let o : Outcome Answered State = step_of s cs x in
    let n : ℕ = 0 + steps_done (event_of s x o ∷ []) in
    let one : outcome r t ≡ outcome (ran_by n (Some o.answer)) o.left
    = e ∙ run_starts s cs l ok k (x ∷ []) ∙ ap (run_from s 0 None) (sole_event s cs x) in
    let acts = accepted-acts s cs x l ok k in (
      rw (← acts) (ap (λ (o : Outcome Ran State). sole o.answer) one ∙ sole_of n o.answer),
      rw (← acts) (ap (λ (o : Outcome Ran State). o.left) one),
    )

-- so what its answer says the step answered, the step did answer
get : Answered → Option Answered → Answered
get b None = b
get b (Some a) = a

module _ (s : State) (cs : List Channel) (x : Step) {t : State} {r : Ran} (l : length s.image ≡ image_length) (ok : list_ok cs ≡ true) (k : Fits s.memory)
    (e : outcome r t ≡ run_of s cs (x ∷ [])) where
  pub answers-alone : (b : Answered) → sole r ≡ Some b → outcome b t ≡ act_of s cs x
  unfolding get
  answers-alone b p =
      let one = step-alone s cs x l ok k e in
      ap₂ outcome (ap (get b) (sym p ∙ one.0)) one.1

  -- and there is one
  pub answer_there : is_some (sole r) ≡ true
  answer_there = ap is_some (step-alone s cs x l ok k e).0

-- what the step that a word stands for does, said of the step as code has it
pub as_decoded : (s : State) (cs : List Channel) {x y : Step} {o : Outcome Answered State} → x ≡ y → o ≡ act_of s cs y → o ≡ act_of s cs x
as_decoded s cs e d = rw e d

-- an outcome is promised by the numbers of its answer and what it leaves
pub promised : {A : Type 0} (tells : A → Flat) {a : A} {after : State} {o : Outcome A State} → outcome a after ≡ o
    → (tells a ≡ tells o.answer) × (after ≡ o.left)
promised {A} tells e = (ap (λ (o : Outcome A State). tells o.answer) e, ap (λ (o : Outcome A State). o.left) e)
