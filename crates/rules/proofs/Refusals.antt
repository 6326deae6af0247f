-- Document 01, "Refusal numbers": a refused step changes nothing, refusals 1, 2 and 8 come before any other, and only a refusal is refused.
-- Assumes nothing.
use Rattle.std.specs.Prelude.{Option, Ok, Err, None, Some}
use mathlib.Core.Path.{◌≡◌, refl, sym, ap, subst, ◌∙◌}
use mathlib.Core.Logic.{◌≢◌}
use mathlib.Core.Bool.{Bool, true, false, false≢true, cond, ◌||◌}
use mathlib.Core.List.{List}
use Prim.Native.Nat.{ℕ, ◌%◌, ◌+◌, ◌<◌}
use lib.Dec.{eqb, ltb, leb}
use lib.ListN.{length}
use borrow.Author.Tests.{eq-eqb, ne_eqb, eqb-true, eqb-false, le-leb, lt-leb, leb-true, leb-false}
use Rattle.rules.specs.declared.Channel.{Channel}
use Rattle.rules.specs.declared.Place.{Place}
use Rattle.rules.specs.declared.Step.{Step}
use Rattle.rules.specs.declared.Step.TheVariants as step
use Rattle.rules.specs.declared.Winner.{Winner}
use Rattle.rules.specs.declared.Winner.TheVariants as winner
use Rattle.rules.specs.declared.Answer.TheVariants as answer
use Rattle.rules.specs.declared.Refusal.{Refusal}
use Rattle.rules.specs.declared.Refusal.TheVariants as refusal
use Rattle.rules.specs.declared.Trigger.{Trigger}
use Rattle.rules.specs.Image.{Image, image_length, most_memory, Fits, at, in_service}
use Rattle.rules.specs.Channels.{list_ok, dcpr_byte}
use Rattle.rules.specs.Outcomes.{State, state, Outcome, outcome, changed, is_refused, Verdict, Answered, accepted}
use Rattle.rules.specs.Registers.{write_at, write_of, reset_of, place_of}
use Rattle.rules.specs.Sources.{record_of}
use Rattle.rules.specs.Triggers.{trigger_verdict, selects, selects_top, fired, trigger_of}
use Rattle.rules.specs.Requests.{winner_of}
use Rattle.rules.specs.Transfer.{pair_of, last_register, served, register_transfer, address_pair_of, last_pair, word_at, finished, served_memory, memory_transfer, transfer_of}
use Rattle.rules.specs.Arbitration.{granted, top_level, entered_top, arbitrate_of}
use Rattle.rules.specs.Return.{return_of}
use Rattle.rules.specs.Steps.{lent_verdict, act_of, step_of}
use Rattle.rules.proofs.Verdicts.{verdict_elim}
use Rattle.rules.proofs.Bools.{cond_elim}

-- ---- what is lent

-- refusal 1: the image's length, whatever the list is
pub lent_length : (s : State) (cs : List Channel) → length s.image ≢ image_length → lent_verdict s cs ≡ (Err refusal.Length)
unfolding lent_verdict
lent_length s cs h = rw (ne_eqb (length s.image) image_length h)

-- then refusal 2: the list
pub lent_list : (s : State) (cs : List Channel) → length s.image ≡ image_length → list_ok cs ≡ false → lent_verdict s cs ≡ (Err refusal.List)
unfolding lent_verdict
lent_list s cs h l = rw (eq-eqb (length s.image) image_length h, l)

-- then refusal 8: the memory
pub lent-memory : (s : State) (cs : List Channel) → length s.image ≡ image_length → list_ok cs ≡ true → most_memory < length s.memory
    → lent_verdict s cs ≡ (Err refusal.Memory)
unfolding lent_verdict
lent-memory s cs h l k = rw (eq-eqb (length s.image) image_length h, l, lt-leb (length s.memory) most_memory k)

-- otherwise it is accepted
pub lent-accepted : (s : State) (cs : List Channel) → length s.image ≡ image_length → list_ok cs ≡ true → Fits s.memory → lent_verdict s cs ≡ accepted
unfolding lent_verdict
lent-accepted s cs h l k = rw (eq-eqb (length s.image) image_length h, l, le-leb (length s.memory) most_memory k)

-- what each verdict on what is lent means
abbrev pub Lent : State → List Channel → Verdict → Type 0
Lent s cs (Ok it) = (length s.image ≡ image_length) × (list_ok cs ≡ true) × Fits s.memory
Lent s cs (Err refusal.Length) = length s.image ≢ image_length
Lent s cs (Err refusal.List) = (length s.image ≡ image_length) × (list_ok cs ≡ false)
Lent s cs (Err refusal.Register) = ⊥
Lent s cs (Err refusal.Number) = ⊥
Lent s cs (Err refusal.Address) = ⊥
Lent s cs (Err refusal.Pointer) = ⊥
Lent s cs (Err refusal.Kind) = ⊥
Lent s cs (Err refusal.Memory) = (length s.image ≡ image_length) × (list_ok cs ≡ true) × (most_memory < length s.memory)

-- each is given only then
pub lent_means : (s : State) (cs : List Channel) → Lent s cs (lent_verdict s cs)
unfolding lent_verdict
lent_means s cs = go (eqb (length s.image) image_length) (list_ok cs) (leb (length s.memory) most_memory) refl refl refl
  where
    go : (b l k : Bool) → eqb (length s.image) image_length ≡ b → list_ok cs ≡ l → leb (length s.memory) most_memory ≡ k
        → Lent s cs (cond b (cond l (cond k accepted (Err refusal.Memory)) (Err refusal.List)) (Err refusal.Length))
    go true true true e f g = (eqb-true (length s.image) image_length e, f, leb-true (length s.memory) most_memory g)
    go true true false e f g = (eqb-true (length s.image) image_length e, f, leb-false (length s.memory) most_memory g)
    go true false k e f g = (eqb-true (length s.image) image_length e, f)
    go false l k e f g = eqb-false (length s.image) image_length e

-- what is accepted has the image's length, a list within the rules, and a memory that fits
pub lent_sound : (s : State) (cs : List Channel) → lent_verdict s cs ≡ accepted
    → (length s.image ≡ image_length) × (list_ok cs ≡ true) × Fits s.memory
lent_sound s cs v = subst (Lent s cs) v (lent_means s cs)

-- ---- the rules below: what they refuse changes nothing

-- a change that is refused is none
abbrev Unchanged : {L : Type 0} → L → Outcome Answered L → Type 0
Unchanged m c = is_refused c.answer ≡ true → c.left ≡ m

accepts : {L : Type 0} {m : L} (c : Outcome Answered L) → is_refused c.answer ≡ false → Unchanged m c
accepts c e t = absurd (false≢true (sym e ∙ t))

write_kept : (m : Image) (p : Option Place) (v : ℕ) → Unchanged m (write_at m p v)
unfolding write_at
write_kept m (Some its) v = accepts (write_at m (Some its) v) refl
write_kept m None v = λ t. refl

trigger-kept : (m : Image) (cs : List Channel) (t : Trigger) → Unchanged m (trigger_of m cs t)
unfolding trigger_of fired
trigger-kept m cs t = verdict_elim (Unchanged m) (trigger_verdict cs t) (λ e. accepts (fired m cs (selects m t) (selects_top m t)) refl) (λ r e f. refl)

transfer-kept : (s : State) (c : Channel) (k : ℕ) → Unchanged s (transfer_of s c k)
unfolding transfer_of register_transfer memory_transfer served served_memory finished
transfer-kept s c k =
    let m = s.image in
    let n = pair_of m c in
    let p = address_pair_of m c in
    let a = word_at m p in
    cond_elim (Unchanged s) (eqb (at m (dcpr_byte c) % 2) 0)
    (λ e. cond_elim (Unchanged s) (ltb last_pair n || ltb last_pair p) (λ f t. refl)
    (λ f. cond_elim (Unchanged s) (ltb a (length s.memory)) (λ g. accepts (served_memory s c k p n a (word_at m n)) refl) (λ g t. refl)))
    (λ e. cond_elim (Unchanged s) (ltb last_register n || ltb last_register (at m n)) (λ f t. refl) (λ f. accepts (served s c k n (at m n) (at m (n + 1))) refl))

granted-kept : (s : State) (cs : List Channel) (w : Option Winner) → Unchanged s (granted s cs w)
unfolding granted
granted-kept s cs None = λ t. refl
granted-kept s cs (Some (winner.Dma k)) = transfer-kept s (record_of cs k) k
granted-kept s cs (Some (winner.Interrupt k l)) = accepts (granted s cs (Some (winner.Interrupt k l))) refl

arbitration_kept : (s : State) (cs : List Channel) → Unchanged s (arbitrate_of s cs)
unfolding arbitrate_of
arbitration_kept s cs =
    let m = s.image in
    cond_elim (Unchanged s) (in_service m) (λ e t. refl)
    (λ e. cond_elim (Unchanged s) (top_level m) (λ f. accepts (changed s (outcome (Ok answer.TopLevel) (entered_top m))) refl) (λ f. granted-kept s cs (winner_of m cs)))

of_image : (s : State) (c : Outcome Answered Image) → Unchanged s.image c → is_refused c.answer ≡ true → (changed s c).left ≡ s
of_image s c h e = ap (λ (m : Image). state m s.memory) (h e)

act-kept : (s : State) (cs : List Channel) (x : Step) → is_refused (act_of s cs x).answer ≡ true → (act_of s cs x).left ≡ s
unfolding act_of write_of return_of reset_of
act-kept s cs (step.Read r) = λ e. refl
act-kept s cs (step.Write r v) = of_image s (write_of s.image cs r v) (write_kept s.image (place_of s.image cs r) v)
act-kept s cs (step.Trigger t) =
    of_image s (trigger_of s.image cs t) (trigger-kept s.image cs t)
act-kept s cs step.Arbitrate = arbitration_kept s cs
act-kept s cs step.Return = of_image s (return_of s.image) (accepts (return_of s.image) refl)
act-kept s cs step.Reset = of_image s (reset_of s.image) (accepts (reset_of s.image) refl)
act-kept s cs step.Unknown = λ e. refl

-- ---- a step

-- an answer that counts as a refusal is one, with its number
pub refused-is : (a : Answered) → is_refused a ≡ true → (r : Refusal) × (a ≡ Err r)
refused-is (Ok answered) e = absurd (false≢true e)
refused-is (Err r) e = (r, refl)

-- a refused step changes nothing, whatever the image, the list and the step are
pub refused-same : (s : State) (cs : List Channel) (x : Step) → is_refused (step_of s cs x).answer ≡ true → (step_of s cs x).left ≡ s
unfolding step_of
refused-same s cs x =
    verdict_elim (λ (o : Outcome Answered State). is_refused o.answer ≡ true → o.left ≡ s) (lent_verdict s cs) (λ v. act-kept s cs x) (λ r v e. refl)

-- refusal 1 comes first
pub length-first : (s : State) (cs : List Channel) (x : Step) → length s.image ≢ image_length → step_of s cs x ≡ outcome (Err refusal.Length) s
unfolding step_of
length-first s cs x h = rw (lent_length s cs h)

-- refusal 2 next
pub list_second : (s : State) (cs : List Channel) (x : Step) → length s.image ≡ image_length → list_ok cs ≡ false
    → step_of s cs x ≡ outcome (Err refusal.List) s
unfolding step_of
list_second s cs x h l = rw (lent_list s cs h l)

-- refusal 8 next
pub memory_third : (s : State) (cs : List Channel) (x : Step) → length s.image ≡ image_length → list_ok cs ≡ true → most_memory < length s.memory
    → step_of s cs x ≡ outcome (Err refusal.Memory) s
unfolding step_of
memory_third s cs x h l k = rw (lent-memory s cs h l k)

-- otherwise the step is what its own rules say
pub accepted-acts : (s : State) (cs : List Channel) (x : Step) → length s.image ≡ image_length → list_ok cs ≡ true → Fits s.memory → step_of s cs x ≡ act_of s cs x
unfolding step_of
accepted-acts s cs x h l k = rw (lent-accepted s cs h l k)

-- and so it is where it isn't refused
pub done-acts : (s : State) (cs : List Channel) (x : Step) → is_refused (step_of s cs x).answer ≡ false → step_of s cs x ≡ act_of s cs x
unfolding step_of
done-acts s cs x =
    verdict_elim (λ (o : Outcome Answered State). is_refused o.answer ≡ false → o ≡ act_of s cs x) (lent_verdict s cs) (λ v e. refl)
    (λ r v e. absurd (false≢true (sym e)))

-- a step of unknown kind is then refused with 7
pub unknown-step : (s : State) (cs : List Channel) → length s.image ≡ image_length → list_ok cs ≡ true → Fits s.memory
    → step_of s cs step.Unknown ≡ outcome (Err refusal.Kind) s
unfolding act_of
unknown-step s cs = accepted-acts s cs step.Unknown
