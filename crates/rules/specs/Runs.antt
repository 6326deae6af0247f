-- Document 01, "Runs and the wait report": the history of a list of steps; the run and the wait report are read off it.
-- Assumes nothing.
use Rattle.std.specs.Prelude.{Bool, true, false, cond, not, ◌&&◌, ◌||◌, List, [], ◌∷◌, ◌≡◌, ℕ, ◌+◌, ltb, Option, Some, None, Result, Ok, Err}
use Rattle.rules.specs.declared.Channel.{Channel}
use Rattle.rules.specs.declared.Step.{Step}
use Rattle.rules.specs.declared.Step.TheVariants as step
use Rattle.rules.specs.declared.Refusal.TheVariants as refusal
use Rattle.rules.specs.declared.Answer.{Answer}
use Rattle.rules.specs.declared.Run.{Run}
use Rattle.rules.specs.declared.RunRefusal.{RunRefusal}
use Rattle.rules.specs.declared.RunRefusal.TheVariants as run_refused
use Rattle.rules.specs.declared.WaitEnd.{WaitEnd}
use Rattle.rules.specs.declared.WaitEnd.TheVariants as wait
use Rattle.rules.specs.declared.WaitRefusal.{WaitRefusal}
use Rattle.rules.specs.declared.WaitRefusal.TheVariants as wait_refused
use Rattle.rules.specs.Image.{Image}
use Rattle.rules.specs.Outcomes.{State, Outcome, outcome, refused_unless, Answered, Verdict, accepted, refused_or, is_refused, acknowledges}
use Rattle.rules.specs.Sources.{sources}
use Rattle.rules.specs.Steps.{lent_verdict, step_of}

-- ---- the history

-- a step with the state that it got and what it answered and left
pub record Event : Type 0 where
  pub before : State
  pub step : Step
  pub outcome : Outcome Answered State

-- the event of a step that got s and answered and left o
abbrev pub event_of : State → Step → Outcome Answered State → Event
event_of s x o = record { before = s; step = x; outcome = o }

-- each step gets the state that the one before it left, a refused one too (which leaves what it got)
unfoldable pub history : State → List Channel → List Step → List Event
history s cs [] = []
history s cs (x ∷ xs) = let o = step_of s cs x in event_of s x o ∷ history o.left cs xs

-- the state after the last of some events
unfoldable pub state_after : State → List Event → State
state_after s [] = s
state_after s (e ∷ es) = state_after e.outcome.left es

-- calls made one by one, from the image m on: each gets the image that the one before it left, and the same channel list; the memory may be another for each
abbrev pub Chain : Image → List Channel → List Event → Type 0
Chain m cs [] = Unit {0}
Chain m cs (e ∷ es) = (e.before.image ≡ m) × (e.outcome ≡ step_of e.before cs e.step) × Chain e.outcome.left.image cs es

-- the image after the last of them
unfoldable pub image_after : Image → List Event → Image
image_after m [] = m
image_after m (e ∷ es) = image_after e.outcome.left.image es

-- one of the events passes a test
unfoldable pub any_event : (Event → Bool) → List Event → Bool
any_event test [] = false
any_event test (e ∷ es) = test e || any_event test es

-- 1 where a test is passed, else 0
abbrev pub one_if : Bool → ℕ
one_if passed = cond passed 1 0

-- how many of the events pass a test
unfoldable pub counted : (Event → Bool) → List Event → ℕ
counted test [] = 0
counted test (e ∷ es) = one_if (test e) + counted test es

-- the events up to the first that passes a test, with it; all where none does
unfoldable pub until : (Event → Bool) → List Event → List Event
until test [] = []
until test (e ∷ es) = e ∷ cond (test e) [] (until test es)

-- the event's step was refused
abbrev pub event_refused : Event → Bool
event_refused e = is_refused e.outcome.answer

-- how many steps were done: all but the refused
abbrev pub steps_done : List Event → ℕ
steps_done es = counted (λ e. not (event_refused e)) es

-- the answer of the last event, or the given one, if any, where there is no event
unfoldable pub last_answer : Option Answered → List Event → Option Answered
last_answer answered [] = answered
last_answer answered (e ∷ es) = last_answer (Some e.outcome.answer) es

-- ---- the run

-- a run ends with the first step that is refused
abbrev pub run_events : State → List Channel → List Step → List Event
run_events s cs xs = until event_refused (history s cs xs)

-- what a run answers: the steps done, with the answer of the last one, if any; or the reason for a refusal
abbrev pub Ran : Type 0
Ran = Result Run RunRefusal

abbrev pub ran : ℕ → Option Answer → Run
ran steps last = record { steps = steps; last = last }

-- by the steps done and the last answer, if any; where that is a refusal, the number and its index, which is the number of steps done before it
abbrev pub ran_by : ℕ → Option Answered → Ran
ran_by steps None = Ok (ran steps None)
ran_by steps (Some (Ok answered)) = Ok (ran steps (Some answered))
ran_by steps (Some (Err reason)) = Err (run_refused.At reason steps)

unfoldable pub run_answer : List Event → Ran
run_answer es = ran_by (steps_done es) (last_answer None es)

-- a run: refused before any step with 1, then 2, then 8; else the steps one after another, each with its own refusals (Steps `act_of`)
unfoldable pub run_of : State → List Channel → List Step → Outcome Ran State
run_of s cs xs =
    let es = run_events s cs xs in
    refused_or (lent_verdict s cs) (λ reason. outcome (Err (run_refused.Before reason)) s) (outcome (run_answer es) (state_after s es))

-- its events, a refused last one included; none where it is refused before any step
abbrev pub run_history : State → List Channel → List Step → List Event
run_history s cs xs = refused_or (lent_verdict s cs) (λ reason. []) (run_events s cs xs)

-- ---- the wait report

-- the event's step acknowledged the source
abbrev pub event_acknowledges : ℕ → Event → Bool
event_acknowledges source e = acknowledges source e.outcome.answer

-- the source is acknowledged among the events
abbrev pub acknowledged_in : ℕ → List Event → Bool
acknowledged_in source es = any_event (event_acknowledges source) es

-- an arbitration step
abbrev pub is_arbitration : Step → Bool
is_arbitration (step.Read r) = false
is_arbitration (step.Write r v) = false
is_arbitration (step.Trigger t) = false
is_arbitration step.Arbitrate = true
is_arbitration step.Return = false
is_arbitration step.Reset = false
is_arbitration step.Unknown = false

-- an arbitration that was made: one that isn't refused
abbrev pub made_arbitration : Event → Bool
made_arbitration e = is_arbitration e.step && not (event_refused e)

-- how many arbitrations were made among the events
abbrev pub arbitrations_in : List Event → ℕ
arbitrations_in es = counted made_arbitration es

-- a wait report ends with the first step that acknowledges the source, if the run has one
abbrev pub wait_events : State → List Channel → ℕ → List Step → List Event
wait_events s cs source xs = until (event_acknowledges source) (run_events s cs xs)

-- what a wait report answers
abbrev pub Waited : Type 0
Waited = Result WaitEnd WaitRefusal

-- by the steps done, the arbitrations made and the last answer, if any: a refusal with its number, its index and the arbitrations before it; the source
-- acknowledged; or the list's end; with the arbitrations made, the last included
abbrev pub waited_by : ℕ → ℕ → ℕ → Option Answered → Waited
waited_by source steps arbitrations None = Ok (wait.Ended arbitrations)
waited_by source steps arbitrations (Some (Ok answered)) =
    Ok (cond (acknowledges source (Ok answered)) (wait.Acknowledged arbitrations) (wait.Ended arbitrations))
waited_by source steps arbitrations (Some (Err reason)) = Err (wait_refused.At reason steps arbitrations)

unfoldable pub wait_answer : ℕ → List Event → Waited
wait_answer source es = waited_by source (steps_done es) (arbitrations_in es) (last_answer None es)

-- refused before any step with 1, then 2, then 8, then with 4 where there is no such source
unfoldable pub wait_verdict : State → List Channel → ℕ → Verdict
wait_verdict s cs source =
    refused_or (lent_verdict s cs) (λ reason. Err reason) (refused_unless (ltb source (sources cs)) refusal.Number accepted)

-- the wait report for a source: refused before any step with 1, then 2, then 8, then 4; else the steps, each with its own refusals, until one acknowledges it
unfoldable pub wait_of : State → List Channel → ℕ → List Step → Outcome Waited State
wait_of s cs source xs =
    let es = wait_events s cs source xs in
    refused_or (wait_verdict s cs source) (λ reason. outcome (Err (wait_refused.Before reason)) s) (outcome (wait_answer source es) (state_after s es))

-- its events, a refused last one included; none where it is refused before any step
abbrev pub wait_history : State → List Channel → ℕ → List Step → List Event
wait_history s cs source xs = refused_or (wait_verdict s cs source) (λ reason. []) (wait_events s cs source xs)
