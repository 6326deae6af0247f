-- Demand 3, Handlers and EnabledHandlers stated of given events, such as a run, a wait report or several calls do; of every run and wait report; and what a wait
-- report then answers. Assumes nothing.
use Rattle.std.specs.Prelude.{◌≡◌, Bool, true, false, List, ℕ, ◌+◌, ◌≤◌, ◌<◌, take, Ok, Err}
use Rattle.rules.specs.declared.Channel.{Channel}
use Rattle.rules.specs.declared.Step.{Step}
use Rattle.rules.specs.declared.WaitEnd.TheVariants as wait
use Rattle.rules.specs.declared.WaitRefusal.TheVariants as wait_refused
use Rattle.rules.specs.Image.{Image, Fits}
use Rattle.rules.specs.Outcomes.{State}
use Rattle.rules.specs.Sources.{pending}
use Rattle.rules.specs.Runs.{Event, acknowledged_in, run_of, run_history, wait_of, wait_history, Waited}
use Rattle.rules.specs.Demand3.{H, E, Start, OnlyCalls, InTime, Kept}
use Rattle.rules.specs.Handlers.{EAndRaised, AllMay, Handles, up_to, InEnabledTime}

-- ours is in time, by one count of arbitrations or another, and kept, after each of the events; and where it is not acknowledged among them, it is pending in
-- the image that they leave
abbrev pub Served : Image → List Channel → ℕ → (List Event → Type 0) → List Event → Image → Type 0
Served m cs ours Timely es after =
    ((n : ℕ) → Timely (take n es) × Kept m cs ours (take n es)) × (acknowledged_in ours es ≡ false → pending after cs ours ≡ true)

-- what demand 3 says of events es, which are to be from m, and the image `after`, which they are to leave
abbrev pub Demand3Of : Image → List Channel → List Event → Image → Type 0
Demand3Of m cs es after =
    (ours : ℕ)
    → Start m cs ours
    → OnlyCalls es
    → Served m cs ours (InTime ours (H m cs ours + E m cs ours es + 1)) es after

-- what Handlers says of them
abbrev pub HandlersOf : Image → List Channel → List Event → Image → Type 0
HandlersOf m cs es after =
    (ours : ℕ)
    → Start m cs ours
    → Handles cs ours (up_to ours es)
    → Served m cs ours (InTime ours (H m cs ours + EAndRaised m cs ours (up_to ours es) + 1)) es after

-- what EnabledHandlers says of them
abbrev pub EnabledHandlersOf : Image → List Channel → List Event → Image → Type 0
EnabledHandlersOf m cs es after =
    (ours : ℕ)
    → Start m cs ours
    → AllMay cs ours (up_to ours es)
    → Served m cs ours (InEnabledTime ours (H m cs ours + EAndRaised m cs ours (up_to ours es) + 1)) es after

-- the three claims
abbrev pub ClaimsOf : Image → List Channel → List Event → Image → Type 0
ClaimsOf m cs es after = Demand3Of m cs es after × HandlersOf m cs es after × EnabledHandlersOf m cs es after

-- ---- a run

-- the claims, of every run that the rules do
abbrev pub RunsClaimed : Type 0
RunsClaimed = (s : State) (cs : List Channel) (xs : List Step) → ClaimsOf s.image cs (run_history s cs xs) (run_of s cs xs).left.image

-- ---- a wait report

-- what it may answer under a bound, with ours pending still after it or not: acknowledged by arbitration `bound` at the latest; ended or refused at a step with
-- fewer, and ours pending; never refused before a step
abbrev pub WaitWithin : ℕ → Waited → Bool → Type 0
WaitWithin bound (Err (wait_refused.Before reason)) still = ⊥
WaitWithin bound (Err (wait_refused.At reason index arbitrations)) still = (arbitrations < bound) × (still ≡ true)
WaitWithin bound (Ok (wait.Ended arbitrations)) still = (arbitrations < bound) × (still ≡ true)
WaitWithin bound (Ok (wait.Acknowledged arbitrations)) still = arbitrations ≤ bound

-- of a wait report for ours over xs that answers w and leaves `after`: the claims, for every source; and, with a memory that isn't refused, what it answers, by
-- demand 3 and by Handlers
abbrev pub WaitClaimsOf : State → List Channel → ℕ → List Step → Waited → Image → Type 0
WaitClaimsOf s cs ours xs w after =
    let m = s.image in
    let es = wait_history s cs ours xs in
    ClaimsOf m cs es after
    × (Fits s.memory → Start m cs ours → OnlyCalls es → WaitWithin (H m cs ours + E m cs ours es + 1) w (pending after cs ours))
    × (Fits s.memory → Start m cs ours → Handles cs ours es → WaitWithin (H m cs ours + EAndRaised m cs ours es + 1) w (pending after cs ours))

-- that, of every wait report that the rules do
abbrev pub WaitsClaimed : Type 0
WaitsClaimed =
    (s : State) (cs : List Channel) (ours : ℕ) (xs : List Step) → let o = wait_of s cs ours xs in WaitClaimsOf s cs ours xs o.answer o.left.image
