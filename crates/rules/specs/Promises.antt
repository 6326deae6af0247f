-- The public promises by name: what a call answers and leaves of the lent image and memory, in the rules' words, for every image, memory, list and argument.
-- Assumes nothing.
use Rattle.std.specs.Prelude.{◌≡◌, List, ℕ, ◌≤◌}
use Rattle.rules.specs.declared.Channel.{Channel}
use Rattle.rules.specs.declared.Trigger.{Trigger}
use Rattle.rules.specs.declared.Step.{Step}
use Rattle.rules.specs.declared.Step.TheVariants as step
use Rattle.rules.specs.declared.Flat.{Flat}
use Rattle.rules.specs.Image.{Image, Memory, Fits}
use Rattle.rules.specs.Outcomes.{State, state, alone, Answered, Verdict}
use Rattle.rules.specs.Registers.{view_of, view_verdict}
use Rattle.rules.specs.Sources.{pending}
use Rattle.rules.specs.Steps.{step_of}
use Rattle.rules.specs.Runs.{run_of, run_history, wait_of, Ran, Waited}
use Rattle.rules.specs.Claims.{ClaimsOf, WaitClaimsOf}
use Rattle.rules.specs.Bounds.{bound_of, where_bounded, BoundSays, WaitInBound, Bounded}
use Rattle.rules.specs.HandlerBounds.{handler_bound_of, HandlerBoundSays}
use Rattle.rules.specs.Encodings.{decode_of, steps_of, list_in, told, told_verdict, told_run, told_wait, told_bound}

-- ---- one step

-- on what is lent it answers this and leaves `after`. Two answers with the same numbers are one (proofs/Told), here and below
abbrev pub Does : State → List Channel → Step → Answered → State → Type 0
Does before cs x answered after =
    let o = step_of before cs x in
    (told answered ≡ told o.answer) × (after ≡ o.left)

-- a read: the image is lent to be read only, so its type keeps every byte, and the promise has the answer alone
abbrev pub Reads : Image → List Channel → ℕ → Answered → Type 0
Reads lent cs r answered = told answered ≡ told (step_of (alone lent) cs (step.Read r)).answer

-- a write of v to register r. This, a trigger, a return and a reset take no memory
abbrev pub Writes : Image → List Channel → ℕ → ℕ → Answered → Image → Type 0
Writes before cs r v answered after = Does (alone before) cs (step.Write r v) answered (alone after)

-- a trigger
abbrev pub Triggers : Image → List Channel → Trigger → Answered → Image → Type 0
Triggers before cs t answered after = Does (alone before) cs (step.Trigger t) answered (alone after)

-- an arbitration
abbrev pub Arbitrates : State → List Channel → Answered → State → Type 0
Arbitrates before cs answered after = Does before cs step.Arbitrate answered after

-- a return
abbrev pub Returns : Image → List Channel → Answered → Image → Type 0
Returns before cs answered after = Does (alone before) cs step.Return answered (alone after)

-- a reset
abbrev pub Resets : Image → List Channel → Answered → Image → Type 0
Resets before cs answered after = Does (alone before) cs step.Reset answered (alone after)

-- the step that a word stands for
abbrev pub DoesWord : State → List Channel → ℕ → Answered → State → Type 0
DoesWord before cs word answered after = Does before cs (decode_of word) answered after

-- ---- runs and wait reports

-- a run of a list of words
abbrev pub Runs : State → List Channel → List ℕ → Ran → State → Type 0
Runs before cs words answered after =
    let o = run_of before cs (steps_of words) in
    (told_run answered ≡ told_run o.answer) × (after ≡ o.left)

-- that, and what demand 3, Handlers and EnabledHandlers say of the steps that it did
abbrev pub RunClaims : State → List Channel → List ℕ → Ran → State → Type 0
RunClaims before cs words answered after =
    Runs before cs words answered after × ClaimsOf before.image cs (run_history before cs (steps_of words)) after.image

-- a wait report for a source over a list of words
abbrev pub Waits : State → List Channel → ℕ → List ℕ → Waited → State → Type 0
Waits before cs source words answered after =
    let o = wait_of before cs source (steps_of words) in
    (told_wait answered ≡ told_wait o.answer) × (after ≡ o.left)

-- that, and what demand 3, Handlers and EnabledHandlers say of the steps that it did, and the first two of its answer
abbrev pub WaitClaims : State → List Channel → ℕ → List ℕ → Waited → State → Type 0
WaitClaims before cs source words answered after =
    Waits before cs source words answered after × WaitClaimsOf before cs source (steps_of words) answered after.image

-- ---- the bounds; the image is only read, and no memory is lent, since under their premises none matters

-- demand 3's bound for a source over a list of words
abbrev pub Bounds : Image → List Channel → ℕ → List ℕ → Bounded → Type 0
Bounds lent cs source words answered = told_bound answered ≡ told_bound (bound_of lent cs source (steps_of words))

-- that, and that a bound is answered exactly where the premises hold, whatever memory that fits the list of steps gets
abbrev pub BoundClaims : Image → List Channel → ℕ → List ℕ → Bounded → Type 0
BoundClaims lent cs source words answered =
    Bounds lent cs source words answered
    × ((memory : Memory) → Fits memory → BoundSays (state lent memory) cs source (steps_of words) answered)

-- the bound of Handlers for a source over a list of words
abbrev pub HandlerBounds : Image → List Channel → ℕ → List ℕ → Bounded → Type 0
HandlerBounds lent cs source words answered = told_bound answered ≡ told_bound (handler_bound_of lent cs source (steps_of words))

-- that, and that a bound is answered exactly where the premises hold, whatever memory that fits the list of steps gets
abbrev pub HandlerBoundClaims : Image → List Channel → ℕ → List ℕ → Bounded → Type 0
HandlerBoundClaims lent cs source words answered =
    HandlerBounds lent cs source words answered
    × ((memory : Memory) → Fits memory → HandlerBoundSays (state lent memory) cs source (steps_of words) answered)

-- ---- the view

-- the view of a page; that it is a part of the lent image, and no copy, is in its type
abbrev pub Views : Image → ℕ → List ℕ → Type 0
Views lent p part = part ≡ view_of lent p

-- the number of a refused view, 0 for an accepted one
abbrev pub ViewRefuses : Image → ℕ → Verdict → Type 0
ViewRefuses lent p answered = told_verdict answered ≡ told_verdict (view_verdict lent p)

-- ---- the exports for C: each answers in numbers what the public function promises, for the channel list that the bytes stand for

-- the numbers tell an answer that keeps the promise
abbrev pub Tells : {A : Type 0} → (A → Flat) → (A → Type 0) → Flat → Type 0
Tells {A} tells Promise numbers = (answered : A) × (numbers ≡ tells answered) × Promise answered

abbrev pub TellsStep : State → List ℕ → ℕ → Flat → State → Type 0
TellsStep before bytes word numbers after = Tells told (λ answered. DoesWord before (list_in bytes) word answered after) numbers

abbrev pub TellsRun : State → List ℕ → List ℕ → Flat → State → Type 0
TellsRun before bytes words numbers after = Tells told_run (λ answered. RunClaims before (list_in bytes) words answered after) numbers

abbrev pub TellsWait : State → List ℕ → ℕ → List ℕ → Flat → State → Type 0
TellsWait before bytes source words numbers after = Tells told_wait (λ answered. WaitClaims before (list_in bytes) source words answered after) numbers

abbrev pub TellsBound : Image → List ℕ → ℕ → List ℕ → Flat → Type 0
TellsBound lent bytes source words numbers = Tells told_bound (λ answered. BoundClaims lent (list_in bytes) source words answered) numbers

abbrev pub TellsHandlerBound : Image → List ℕ → ℕ → List ℕ → Flat → Type 0
TellsHandlerBound lent bytes source words numbers = Tells told_bound (λ answered. HandlerBoundClaims lent (list_in bytes) source words answered) numbers

-- ---- what the promises of two calls on the same image, list, source and words imply

-- a wait report is within demand 3's bound, with whatever memory that fits
abbrev pub BoundWaits : Type 0
BoundWaits =
    (s : State) (cs : List Channel) (source : ℕ) (words : List ℕ) (b : Bounded) (w : Waited) (after : State)
    → Fits s.memory → Bounds s.image cs source words b → Waits s cs source words w after → WaitInBound b w (pending after.image cs source)

-- and within that of Handlers
abbrev pub HandlerBoundWaits : Type 0
HandlerBoundWaits =
    (s : State) (cs : List Channel) (source : ℕ) (words : List ℕ) (b : Bounded) (w : Waited) (after : State)
    → Fits s.memory → HandlerBounds s.image cs source words b → Waits s cs source words w after → WaitInBound b w (pending after.image cs source)

-- where demand 3's bound is answered that of Handlers is too, with the same H, and it is no larger
abbrev pub HandlerBoundNotAbove : Type 0
HandlerBoundNotAbove =
    (m : Image) (cs : List Channel) (source : ℕ) (words : List ℕ) (b b' : Bounded) → Bounds m cs source words b → HandlerBounds m cs source words b'
    → where_bounded
    (λ outranking triggers bound. where_bounded (λ outranking' triggers' bound'. (outranking' ≡ outranking) × (triggers' ≤ triggers) × (bound' ≤ bound)) ⊥ b')
    (Unit {0}) b
