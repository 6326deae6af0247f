-- Document 01, "Refusal numbers", the column "given exactly when": a step is refused with a number where the table says, and only there.
-- Assumes nothing.
use Rattle.std.specs.Prelude.{Option, Ok, Err, None, Result, Some}
use mathlib.Core.Path.{◌≡◌, refl, subst, ◌∙◌}
use mathlib.Core.Logic.{◌≢◌, ◌⊎◌, inl, inr}
use mathlib.Core.Bool.{true, false, ◌||◌}
use mathlib.Core.List.{List}
use Prim.Native.Nat.{ℕ, ◌%◌, ◌≤◌, ◌<◌}
use native.Mathlib.Omega.{arith}
use lib.Dec.{eqb, ltb}
use lib.ListN.{length}
use borrow.Author.Tests.{ltb-true, ltb-false, eqb-true, eqb-false}
use Rattle.rules.specs.declared.Channel.{Channel}
use Rattle.rules.specs.declared.Place.{Place}
use Rattle.rules.specs.declared.Trigger.{Trigger}
use Rattle.rules.specs.declared.Trigger.TheVariants as trigger
use Rattle.rules.specs.declared.Step.{Step}
use Rattle.rules.specs.declared.Step.TheVariants as step
use Rattle.rules.specs.declared.Winner.{Winner}
use Rattle.rules.specs.declared.Winner.TheVariants as winner
use Rattle.rules.specs.declared.Refusal.{Refusal}
use Rattle.rules.specs.declared.Refusal.TheVariants as refusal
use Rattle.rules.specs.Image.{Image, at, in_service}
use Rattle.rules.specs.Channels.{list_ok, dcpr_byte}
use Rattle.rules.specs.Outcomes.{State, Outcome, Answered, accepted}
use Rattle.rules.specs.Registers.{place_of, read_at, read_of, write_at, write_of, reset_of}
use Rattle.rules.specs.Sources.{record_of}
use Rattle.rules.specs.Triggers.{trigger_verdict, fired, trigger_of}
use Rattle.rules.specs.Requests.{winner_of}
use Rattle.rules.specs.Transfer.{pair_of, finished, served, register_transfer, address_pair_of, word_at, served_memory, memory_transfer, transfer_of}
use Rattle.rules.specs.Arbitration.{granted, top_level, arbitrate_of}
use Rattle.rules.specs.Return.{return_of}
use Rattle.rules.specs.Steps.{lent_verdict, act_of, step_of}
use Rattle.rules.proofs.Verdicts.{verdict_elim}
use Rattle.rules.proofs.Bools.{cond_elim, or_cases, or_off, or_off_r}
use Rattle.rules.proofs.WriteLaws.{write-refused, read-refused}
use Rattle.rules.proofs.SelectionLaws.{pin_refused, nmi_verdict, request_verdict, kind_verdict_lem}
use Rattle.rules.proofs.TransferLaws.{with_registers, with-memory, transfer_pointer}
use Rattle.rules.proofs.MemoryTransferLaws.{memory_pointer, memory_address_lem}
use Rattle.rules.proofs.Refusals.{Lent, lent_means, length-first, list_second, memory_third, accepted-acts, unknown-step}

-- ---- the table

-- a step reads or writes register r
abbrev pub Accesses : Step → ℕ → Type 0
Accesses x r = (x ≡ step.Read r) ⊎ ((v : ℕ) × (x ≡ step.Write r v))

-- a pin over 7, a direction over 1, a record that isn't there
abbrev pub BadNumber : List Channel → Trigger → Type 0
BadNumber cs (trigger.Pin k d) = (7 < k) ⊎ (1 < d)
BadNumber cs trigger.Watchdog = ⊥
BadNumber cs (trigger.Nmi d) = 1 < d
BadNumber cs (trigger.Request k) = length cs ≤ k
BadNumber cs trigger.Unknown = ⊥

-- an arbitration that neither the mark nor the top level decides, with source w as its DMA winner
pub record DmaWins (m : Image) (cs : List Channel) (x : Step) (w : ℕ) : Type 0 where
  pub arbitrates : x ≡ step.Arbitrate
  pub idle : in_service m ≡ false
  pub no_top : top_level m ≡ false
  pub wins : winner_of m cs ≡ (Some (winner.Dma w))

-- with the register file a pair or an address over 223, with the memory a pointer over 222
abbrev pub BadPointer : Image → Channel → Type 0
BadPointer m c =
    ((at m (dcpr_byte c) % 2 ≡ 1) × ((223 < pair_of m c) ⊎ (223 < at m (pair_of m c))))
    ⊎ ((at m (dcpr_byte c) % 2 ≡ 0) × ((222 < pair_of m c) ⊎ (222 < address_pair_of m c)))

-- why a step is refused with each number; 3 to 7 only on lent data that are accepted
abbrev pub Cause : State → List Channel → Step → Refusal → Type 0
Cause s cs x refusal.Length = length s.image ≢ 1265
Cause s cs x refusal.List = (length s.image ≡ 1265) × (list_ok cs ≡ false)
Cause s cs x refusal.Register = Lent s cs accepted × (r : ℕ) × Accesses x r × (place_of s.image cs r ≡ None)
Cause s cs x refusal.Number = Lent s cs accepted × (t : Trigger) × (x ≡ step.Trigger t) × BadNumber cs t
Cause s cs x refusal.Address =
    Lent s cs accepted × (w : ℕ) × DmaWins s.image cs x w × (at s.image (dcpr_byte (record_of cs w)) % 2 ≡ 0)
    × (pair_of s.image (record_of cs w) ≤ 222) × (address_pair_of s.image (record_of cs w) ≤ 222)
    × (length s.memory ≤ word_at s.image (address_pair_of s.image (record_of cs w)))
Cause s cs x refusal.Pointer = Lent s cs accepted × (w : ℕ) × DmaWins s.image cs x w × BadPointer s.image (record_of cs w)
Cause s cs x refusal.Kind = Lent s cs accepted × ((x ≡ step.Unknown) ⊎ (x ≡ step.Trigger trigger.Unknown))
Cause s cs x refusal.Memory = (length s.image ≡ 1265) × (list_ok cs ≡ true) × (65536 < length s.memory)

-- ---- only then

-- a verdict on a step has its cause, where it is_refused
abbrev Explained : {A : Type 0} → State → List Channel → Step → Result A Refusal → Type 0
Explained s cs x (Ok it) = Unit {0}
Explained s cs x (Err r) = Cause s cs x r

over : (a b x y : ℕ) → (ltb a x || ltb b y) ≡ true → (a < x) ⊎ (b < y)
over a b x y e = go (or_cases (ltb a x) (ltb b y) e)
  where
    go : (ltb a x ≡ true) ⊎ (ltb b y ≡ true) → (a < x) ⊎ (b < y)
    go (inl t) = inl (ltb-true a x t)
    go (inr t) = inr (ltb-true b y t)

module _ (s : State) (cs : List Channel) (l : Lent s cs accepted) where
  abbrev m : Image
  m = s.image

  read_explained : (r : ℕ) (p : Option Place) → place_of m cs r ≡ p → Explained s cs (step.Read r) (read_at m p)
  read_explained r (Some p) f = tt
  read_explained r None f = (l, r, inl refl, f)

  write_explained : (r v : ℕ) (p : Option Place) → place_of m cs r ≡ p → Explained s cs (step.Write r v) (write_at m p v).answer
  unfolding write_at
  write_explained r v (Some p) f = tt
  write_explained r v None f = (l, r, inr (v, refl), f)

  trigger_explained : (t : Trigger) → Explained s cs (step.Trigger t) (trigger_verdict cs t)
  unfolding trigger_verdict
  trigger_explained (trigger.Pin k d) =
      cond_elim (Explained s cs (step.Trigger (trigger.Pin k d))) (ltb 7 k || ltb 1 d) (λ e. (l, trigger.Pin k d, refl, over 7 1 k d e)) (λ e. tt)
  trigger_explained trigger.Watchdog = tt
  trigger_explained (trigger.Nmi d) =
      cond_elim (Explained s cs (step.Trigger (trigger.Nmi d))) (ltb 1 d) (λ e. (l, trigger.Nmi d, refl, ltb-true 1 d e)) (λ e. tt)
  trigger_explained (trigger.Request k) =
      cond_elim (Explained s cs (step.Trigger (trigger.Request k))) (ltb k (length cs)) (λ e. tt)
      (λ e. (l, trigger.Request k, refl, ltb-false k (length cs) e))
  trigger_explained trigger.Unknown = (l, inr refl)

  fire_explained : (t : Trigger) → Explained s cs (step.Trigger t) (trigger_of m cs t).answer
  unfolding trigger_of fired
  fire_explained t =
      let h = trigger_explained t in
      verdict_elim (λ (o : Outcome Answered Image). Explained s cs (step.Trigger t) o.answer) (trigger_verdict cs t) (λ e. tt) (λ r e. rw e at h)

  -- what an arbitration answers with has its cause
  abbrev Arbitrated : Outcome Answered State → Type 0
  Arbitrated c = Explained s cs step.Arbitrate c.answer

  grant_explained : in_service m ≡ false → top_level m ≡ false → (w : Option Winner) → winner_of m cs ≡ w → Arbitrated (granted s cs w)
  unfolding granted transfer_of register_transfer memory_transfer served served_memory finished
  grant_explained i t None e = tt
  grant_explained i t (Some (winner.Interrupt w k)) e = tt
  grant_explained i t (Some (winner.Dma w)) e =
      let c = record_of cs w in
      let wins : DmaWins m cs step.Arbitrate w = record { arbitrates = refl; idle = i; no_top = t; wins = e } in
      let n = pair_of m c in
      let p = address_pair_of m c in
      let a = word_at m p in
      cond_elim Arbitrated (eqb (at m (dcpr_byte c) % 2) 0)
      (λ z.
      let even = eqb-true (at m (dcpr_byte c) % 2) 0 z in
      cond_elim Arbitrated (ltb 222 n || ltb 222 p) (λ o. (l, w, wins, inr (even, over 222 222 n p o)))
      (λ o. cond_elim Arbitrated (ltb a (length s.memory)) (λ q. tt)
      (λ q. (
        l,
        w,
        wins,
        even,
        ltb-false 222 n (or_off (ltb 222 n) (ltb 222 p) o),
        ltb-false 222 p (or_off_r (ltb 222 n) (ltb 222 p) o),
        ltb-false a (length s.memory) q,
      ))))
      (λ z. cond_elim Arbitrated (ltb 223 n || ltb 223 (at m n))
      (λ o. (l, w, wins, inl (odd (at m (dcpr_byte c)) (eqb-false (at m (dcpr_byte c) % 2) 0 z), over 223 223 n (at m n) o))) (λ o. tt))
    where
      odd : (n : ℕ) → n % 2 ≢ 0 → n % 2 ≡ 1
      odd n d = omega arith

  act_explained : (x : Step) → Explained s cs x (act_of s cs x).answer
  unfolding act_of read_of write_of arbitrate_of return_of reset_of
  act_explained (step.Read r) = read_explained r (place_of m cs r) refl
  act_explained (step.Write r v) = write_explained r v (place_of m cs r) refl
  act_explained (step.Trigger t) = fire_explained t
  act_explained step.Arbitrate =
      cond_elim Arbitrated (in_service m) (λ e. tt)
      (λ i. cond_elim Arbitrated (top_level m) (λ e. tt) (λ t. grant_explained i t (winner_of m cs) refl))
  act_explained step.Return = tt
  act_explained step.Reset = tt
  act_explained step.Unknown = (l, inl refl)

lent_explained : (s : State) (cs : List Channel) (x : Step) (r : Refusal) → Lent s cs (Err r) → Cause s cs x r
lent_explained s cs x refusal.Length h = h
lent_explained s cs x refusal.List h = h
lent_explained s cs x refusal.Register h = absurd h
lent_explained s cs x refusal.Number h = absurd h
lent_explained s cs x refusal.Address h = absurd h
lent_explained s cs x refusal.Pointer h = absurd h
lent_explained s cs x refusal.Kind h = absurd h
lent_explained s cs x refusal.Memory h = h

-- a refusal is given only for its cause, whatever the image, the list and the step are
pub refused_only : (s : State) (cs : List Channel) (x : Step) (r : Refusal) → (step_of s cs x).answer ≡ (Err r) → Cause s cs x r
unfolding step_of
refused_only s cs x r p =
    let h = lent_means s cs in
    subst (Explained s cs x) p
    (verdict_elim (λ (o : Outcome Answered State). Explained s cs x o.answer) (lent_verdict s cs) (λ v. act_explained s cs (rw v at h) x)
    (λ q v. lent_explained s cs x q (rw v at h)))

-- ---- and always then

bad_number : (cs : List Channel) (t : Trigger) → BadNumber cs t → trigger_verdict cs t ≡ (Err refusal.Number)
bad_number cs (trigger.Pin k d) h = pin_refused cs k d h
bad_number cs trigger.Watchdog h = absurd h
bad_number cs (trigger.Nmi d) h = (nmi_verdict cs d).1 h
bad_number cs (trigger.Request k) h = (request_verdict cs k).1 h
bad_number cs trigger.Unknown h = absurd h

module _ (s : State) (cs : List Channel) (x : Step) (l : Lent s cs accepted) where
  acts : (y : Step) → x ≡ y → (a : Answered) → (act_of s cs y).answer ≡ a → (step_of s cs x).answer ≡ a
  acts y e a p = rw (e, accepted-acts s cs y l.0 l.1 l.2) p

  accessed : (r : ℕ) → Accesses x r → place_of s.image cs r ≡ None → (step_of s cs x).answer ≡ (Err refusal.Register)
  unfolding act_of
  accessed r (inl e) f = acts (step.Read r) e _ (read-refused s.image cs r f)
  accessed r (inr (v, e)) f = acts (step.Write r v) e _ (write-refused s.image cs r v f).0

  triggered : (t : Trigger) (r : Refusal) → x ≡ step.Trigger t → trigger_verdict cs t ≡ (Err r) → (step_of s cs x).answer ≡ (Err r)
  unfolding act_of trigger_of
  triggered t r e v = acts (step.Trigger t) e (Err r) (rw v)

  transfers : (w : ℕ) (c : Outcome Answered State) → DmaWins s.image cs x w → transfer_of s (record_of cs w) w ≡ c → (step_of s cs x).answer ≡ c.answer
  unfolding act_of arbitrate_of granted
  transfers w c h p = acts step.Arbitrate h.arbitrates c.answer (rw (h.idle, h.no_top, h.wins, p))

  unknown : (x ≡ step.Unknown) ⊎ (x ≡ step.Trigger trigger.Unknown) → (step_of s cs x).answer ≡ (Err refusal.Kind)
  unknown (inl e) = rw (e, unknown-step s cs l.0 l.1 l.2)
  unknown (inr e) = triggered trigger.Unknown refusal.Kind e (kind_verdict_lem cs).1

-- where there is a cause the step is refused with its number, and by refused-same nothing changes
pub refused_whenever : (s : State) (cs : List Channel) (x : Step) (r : Refusal) → Cause s cs x r → (step_of s cs x).answer ≡ (Err r)
refused_whenever s cs x refusal.Length h = rw (length-first s cs x h)
refused_whenever s cs x refusal.List (h, f) = rw (list_second s cs x h f)
refused_whenever s cs x refusal.Register (l, r, a, f) = accessed s cs x l r a f
refused_whenever s cs x refusal.Number (l, t, e, h) = triggered s cs x l t refusal.Number e (bad_number cs t h)
refused_whenever s cs x refusal.Address (l, w, h, z, n, p, a) = transfers s cs x l w _ h (with-memory s (record_of cs w) w z ∙ memory_address_lem s (record_of cs w) w n p a)
refused_whenever s cs x refusal.Pointer (l, w, h, inl o) = transfers s cs x l w _ h (with_registers s (record_of cs w) w o.0 ∙ transfer_pointer s (record_of cs w) w o.1)
refused_whenever s cs x refusal.Pointer (l, w, h, inr o) = transfers s cs x l w _ h (with-memory s (record_of cs w) w o.0 ∙ memory_pointer s (record_of cs w) w o.1)
refused_whenever s cs x refusal.Kind (l, h) = unknown s cs x l h
refused_whenever s cs x refusal.Memory (h, f, k) = rw (memory_third s cs x h f k)
