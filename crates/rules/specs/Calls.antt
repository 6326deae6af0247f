-- A list of calls, each a single step, a run or a wait report, each on the image that the call before it left, with the same channel list and a memory of its own.
-- Where they keep their promises, demand 3, Handlers and EnabledHandlers hold of all the steps that they did, after each call. Assumes nothing.
use Rattle.std.specs.Prelude.{◌≡◌, List, [], ◌∷◌, ◌++◌, ℕ, take, Option, Some, None, Err}
use Rattle.rules.specs.declared.Channel.{Channel}
use Rattle.rules.specs.declared.Step.{Step}
use Rattle.rules.specs.declared.RunRefusal.TheVariants as run_refused
use Rattle.rules.specs.declared.WaitRefusal.TheVariants as wait_refused
use Rattle.rules.specs.declared.Flat.{Flat}
use Rattle.rules.specs.Image.{Image, Memory}
use Rattle.rules.specs.Outcomes.{State, state, Answered, refused_or}
use Rattle.rules.specs.Steps.{lent_verdict}
use Rattle.rules.specs.Runs.{Event, history, last_answer, run_answer, run_history, wait_answer, wait_verdict, wait_history}
use Rattle.rules.specs.Claims.{ClaimsOf}
use Rattle.rules.specs.Encodings.{steps_of, tell, told, told_run, told_wait}
use Rattle.rules.specs.Promises.{Does, Runs, Waits, Tells}

-- what was asked of a call: a step, a run of words, or a wait report for a source over words
pub data Asked : Type 0 where
  step : Step → Asked
  run : List ℕ → Asked
  wait : ℕ → List ℕ → Asked

-- a call that was made, the memory that it was lent (none for a call that takes none), the numbers of its answer (a public function's as `told` gives them, an
-- export's as they are), and what it left of the image and the memory, which for a read is what it got. The list of an export's call is the one that its bytes
-- stand for. Views and bounds change nothing and are left out
pub record Made : Type 0 where
  pub asked : Asked
  pub memory : Memory
  pub numbers : Flat
  pub after : State

-- it kept its promise
abbrev pub Keeps : State → List Channel → Asked → Flat → State → Type 0
Keeps before cs (step x) numbers after = Tells told (λ answered. Does before cs x answered after) numbers
Keeps before cs (run words) numbers after = Tells told_run (λ answered. Runs before cs words answered after) numbers
Keeps before cs (wait source words) numbers after = Tells told_wait (λ answered. Waits before cs source words answered after) numbers

-- each of the calls kept its promise, on the image that the one before it left and its own memory
abbrev pub AllKeep : Image → List Channel → List Made → Type 0
AllKeep before cs [] = Unit {0}
AllKeep before cs (call ∷ calls) =
    Keeps (state before call.memory) cs call.asked call.numbers call.after × AllKeep call.after.image cs calls

-- the events of the steps that a call did, and of the refused one
abbrev pub events_of : State → List Channel → Asked → List Event
events_of before cs (step x) = history before cs (x ∷ [])
events_of before cs (run words) = run_history before cs (steps_of words)
events_of before cs (wait source words) = wait_history before cs source (steps_of words)

-- of the answer of the last of some events, if any
abbrev pub told_by : Option Answered → Flat
told_by None = tell 0 0 0 0
told_by (Some answered) = told answered

-- the numbers that its events tell
abbrev pub numbers_of : State → List Channel → Asked → Flat
numbers_of before cs (step x) = told_by (last_answer None (events_of before cs (step x)))
numbers_of before cs (run words) = told_run (refused_or (lent_verdict before cs) (λ reason. Err (run_refused.Before reason)) (run_answer (events_of before cs (run words))))
numbers_of before cs (wait source words) =
    told_wait (refused_or (wait_verdict before cs source) (λ reason. Err (wait_refused.Before reason)) (wait_answer source (events_of before cs (wait source words))))

-- each of the calls answered what its events tell
abbrev pub AllTold : Image → List Channel → List Made → Type 0
AllTold before cs [] = Unit {0}
AllTold before cs (call ∷ calls) =
    (call.numbers ≡ numbers_of (state before call.memory) cs call.asked) × AllTold call.after.image cs calls

-- the events of all the calls
unfoldable pub all_events : Image → List Channel → List Made → List Event
all_events before cs [] = []
all_events before cs (call ∷ calls) = events_of (state before call.memory) cs call.asked ++ all_events call.after.image cs calls

-- the image after the last of the calls
unfoldable pub image_left : Image → List Made → Image
image_left before [] = before
image_left before (call ∷ calls) = image_left call.after.image calls

-- each of the calls answered what its events tell; and for each k the claims hold of all the steps that the first k calls did, and of the image after them
abbrev pub CallsClaimed : Type 0
CallsClaimed =
    (m : Image) (cs : List Channel) (calls : List Made)
    → AllKeep m cs calls
    → AllTold m cs calls × ((k : ℕ) → ClaimsOf m cs (all_events m cs (take k calls)) (image_left m (take k calls)))
