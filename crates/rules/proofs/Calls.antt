-- Demand 3 and the handlers' claim of a list of calls, each a single step, a run or a wait report: all the steps that they did are one list of calls. Assumes nothing.
use Rattle.std.specs.Prelude.{Ok, Err}
use mathlib.Core.Path.{◌≡◌, refl, sym, ap, subst, ◌∙◌}
use mathlib.Core.List.{List, [], ◌∷◌, ◌++◌, append_assoc}
use Prim.Native.Nat.{ℕ, zero, suc}
use lib.ListN.{take}
use Rattle.rules.specs.declared.Channel.{Channel}
use Rattle.rules.specs.declared.Step.{Step}
use Rattle.rules.specs.declared.Refusal.{Refusal}
use Rattle.rules.specs.declared.Flat.{Flat}
use Rattle.rules.specs.Image.{Image}
use Rattle.rules.specs.Outcomes.{State, state, alone, outcome, refused_or, Verdict, Answered}
use Rattle.rules.specs.Steps.{lent_verdict, step_of}
use Rattle.rules.specs.Runs.{Event, Chain, image_after, history, last_answer, run_events, run_answer, run_of, wait_verdict, wait_events, wait_answer, wait_of, Ran, Waited}
use Rattle.rules.specs.Demand3.{OnlyCalls}
use Rattle.rules.specs.Encodings.{decode_of, steps_of, list_in, told, told_run, told_wait}
use Rattle.rules.specs.Promises.{Does, Reads, Runs, RunClaims, Waits, WaitClaims, TellsStep, TellsRun, TellsWait}
use Rattle.rules.specs.Calls.{Asked, step, run, wait, Made, Keeps, AllKeep, events_of, numbers_of, AllTold, all_events, image_left, CallsClaimed}
use Rattle.rules.proofs.Verdicts.{verdict_chain}
use Rattle.rules.proofs.Histories.{history_chain, chain_append, image-append}
use Rattle.rules.proofs.StepLaws.{read-leaves}
use Rattle.rules.proofs.RunsAndWaits.{claims, call_leaves, run_chain, wait_chain}
use Rattle.rules.specs.declared.Step.TheVariants as kind

-- ---- one call

-- the steps that it did are a list of calls,
call_chain : (s : State) (cs : List Channel) (asked : Asked) → Chain s.image cs (events_of s cs asked)
call_chain s cs (step x) = history_chain s cs (x ∷ [])
call_chain s cs (run words) = verdict_chain (lent_verdict s cs) s.image cs _ (run_chain s cs (steps_of words))
call_chain s cs (wait source words) = verdict_chain (wait_verdict s cs source) s.image cs _ (wait_chain s cs source (steps_of words))

-- and what it left is the image after them
call_image : (s : State) (cs : List Channel) (asked : Asked) (numbers : Flat) (after : State) → Keeps s cs asked numbers after
    → after.image ≡ image_after s.image (events_of s cs asked)
unfolding history image_after run_of wait_of
call_image s cs (step x) numbers after k = ap (λ (t : State). t.image) k.2.1
call_image s cs (run words) numbers after k =
    ap (λ (t : State). t.image) k.2.1 ∙ call_leaves (lent_verdict s cs) s _ _ (run_events s cs (steps_of words))
call_image s cs (wait source words) numbers after k =
    ap (λ (t : State). t.image) k.2.1 ∙ call_leaves (wait_verdict s cs source) s _ _ (wait_events s cs source (steps_of words))

-- ---- a list of calls

all_chain : (m : Image) (cs : List Channel) (made : List Made) → AllKeep m cs made
    → Chain m cs (all_events m cs made) × (image_left m made ≡ image_after m (all_events m cs made))
unfolding all_events image_left image_after
all_chain m cs [] k = (tt, refl)
all_chain m cs (c ∷ made) k =
    let s = state m c.memory in
    let es = events_of s cs c.asked in
    let fs = all_events c.after.image cs made in
    let left : c.after.image ≡ image_after m es = call_image s cs c.asked c.numbers c.after k.0 in
    let rest = all_chain c.after.image cs made k.1 in (
      chain_append m cs es fs (call_chain s cs c.asked) (subst (λ (i : Image). Chain i cs fs) left rest.0),
      rest.1 ∙ ap (λ (i : Image). image_after i fs) left ∙ sym (image-append m es fs),
    )

-- the first calls of a list keep their promises too
keep_take : (m : Image) (cs : List Channel) (made : List Made) (n : ℕ) → AllKeep m cs made → AllKeep m cs (take n made)
keep_take m cs made zero k = tt
keep_take m cs [] (suc n) k = tt
keep_take m cs (c ∷ made) (suc n) k = (k.0, keep_take c.after.image cs made n k.1)

-- their events are the first of all, so that what demand 3 asks of all is met by them
pub events-first : (m : Image) (cs : List Channel) (made : List Made) (n : ℕ) → (rest : List Event) × (all_events m cs made ≡ all_events m cs (take n made) ++ rest)
unfolding all_events
events-first m cs made zero = (all_events m cs made, refl)
events-first m cs [] (suc n) = ([], refl)
events-first m cs (c ∷ made) (suc n) =
    let later = events-first c.after.image cs made n in
    let es = events_of (state m c.memory) cs c.asked in
    (later.0, ap (λ (fs : List Event). es ++ fs) later.1 ∙ sym (append_assoc es (all_events c.after.image cs (take n made)) later.0))

pub only_first : (us vs : List Event) → OnlyCalls (us ++ vs) → OnlyCalls us
only_first [] vs c = tt
only_first (u ∷ us) vs c = (c.0, c.1, only_first us vs c.2)

-- what a call answers is told by its events
verdict_told : {A : Type 0} (v : Verdict) (s t : State) (f : Refusal → A) (g : List Event → A) (es : List Event)
    → (refused_or v (λ r. outcome (f r) s) (outcome (g es) t)).answer ≡ refused_or v f (g (refused_or v (λ r. []) es))
verdict_told (Ok it) s t f g es = refl
verdict_told (Err r) s t f g es = refl

kept-numbers : (s : State) (cs : List Channel) (asked : Asked) (numbers : Flat) (after : State) → Keeps s cs asked numbers after → numbers ≡ numbers_of s cs asked
unfolding history last_answer run_of wait_of
kept-numbers s cs (step x) numbers after k = k.1 ∙ k.2.0
kept-numbers s cs (run words) numbers after k = k.1 ∙ k.2.0 ∙ ap told_run (verdict_told (lent_verdict s cs) s _ _ run_answer _)
kept-numbers s cs (wait source words) numbers after k =
    k.1 ∙ k.2.0 ∙ ap told_wait (verdict_told (wait_verdict s cs source) s _ _ (wait_answer source) _)

all_told : (m : Image) (cs : List Channel) (made : List Made) → AllKeep m cs made → AllTold m cs made
all_told m cs [] k = tt
all_told m cs (c ∷ made) k =
    (kept-numbers (state m c.memory) cs c.asked c.numbers c.after k.0, all_told c.after.image cs made k.1)

-- so the claims hold of all the steps that they did, after each call
pub calls_claimed : CallsClaimed
calls_claimed m cs made k = (
  all_told m cs made k,
  λ n.
      let some = take n made in
      let h = all_chain m cs some (keep_take m cs made n k) in
      claims m cs (all_events m cs some) h.0 (image_left m some) h.1,
)

-- ---- a promise fixes every byte that is left, of the image and of the memory

module _ (s : State) (cs : List Channel) (after : State) where
  both : {t : State} → after ≡ t → (after.image ≡ t.image) × (after.memory ≡ t.memory)
  both e = (ap (λ (t : State). t.image) e, ap (λ (t : State). t.memory) e)

  pub does_fixes : (x : Step) (a : Answered) → Does s cs x a after
      → (after.image ≡ (step_of s cs x).left.image) × (after.memory ≡ (step_of s cs x).left.memory)
  does_fixes x a d = both d.1

  pub runs_fixes : (words : List ℕ) (a : Ran) → Runs s cs words a after
      → (after.image ≡ (run_of s cs (steps_of words)).left.image) × (after.memory ≡ (run_of s cs (steps_of words)).left.memory)
  runs_fixes words a d = both d.1

  pub waits_fixes : (source : ℕ) (words : List ℕ) (a : Waited) → Waits s cs source words a after
      → (after.image ≡ (wait_of s cs source (steps_of words)).left.image) × (after.memory ≡ (wait_of s cs source (steps_of words)).left.memory)
  waits_fixes source words a d = both d.1

-- ---- what the entries and the exports promise is that a call is kept

-- a step by its answer; a read, whose image is lent to be read only, leaves it
pub step_keeps : (s : State) (cs : List Channel) (x : Step) (a : Answered) (after : State) → Does s cs x a after → Keeps s cs (step x) (told a) after
step_keeps s cs x a after d = (a, refl, d)

pub read_keeps : (m : Image) (cs : List Channel) (r : ℕ) (a : Answered) → Reads m cs r a → Keeps (alone m) cs (step (kind.Read r)) (told a) (alone m)
read_keeps m cs r a d = (a, refl, (d, sym (read-leaves (alone m) cs r)))

pub run_keeps : (s : State) (cs : List Channel) (words : List ℕ) (a : Ran) (after : State) → RunClaims s cs words a after → Keeps s cs (run words) (told_run a) after
run_keeps s cs words a after d = (a, refl, d.0)

pub wait_keeps : (s : State) (cs : List Channel) (source : ℕ) (words : List ℕ) (a : Waited) (after : State) → WaitClaims s cs source words a after
    → Keeps s cs (wait source words) (told_wait a) after
wait_keeps s cs source words a after d = (a, refl, d.0)

-- and the exports by their numbers
pub export_step_keeps : (s : State) (bytes : List ℕ) (word : ℕ) (numbers : Flat) (after : State) → TellsStep s bytes word numbers after
    → Keeps s (list_in bytes) (step (decode_of word)) numbers after
export_step_keeps s bytes word numbers after d = d

pub export_run_keeps : (s : State) (bytes : List ℕ) (words : List ℕ) (numbers : Flat) (after : State) → TellsRun s bytes words numbers after
    → Keeps s (list_in bytes) (run words) numbers after
export_run_keeps s bytes words numbers after d = (d.0, d.1, d.2.0)

pub export_wait_keeps : (s : State) (bytes : List ℕ) (source : ℕ) (words : List ℕ) (numbers : Flat) (after : State) → TellsWait s bytes source words numbers after
    → Keeps s (list_in bytes) (wait source words) numbers after
export_wait_keeps s bytes source words numbers after d = (d.0, d.1, d.2.0)
