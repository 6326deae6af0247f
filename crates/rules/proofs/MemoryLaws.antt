-- Document 02, §1: what a step does to the memory. Only an arbitration that serves a transfer into it changes it, and then one byte. Assumes nothing.
use Rattle.std.specs.Prelude.{Ok, Option, Some, None}
use mathlib.Core.Path.{◌≡◌, refl, sym, ap, ◌∙◌}
use mathlib.Core.Logic.{◌≢◌, ◌⊎◌, inl, inr, ⊎_elim}
use mathlib.Core.List.{List, [], ◌∷◌}
use mathlib.Core.Bool.{Bool, true, false, false≢true, ◌||◌}
use Prim.Native.Nat.{ℕ, ◌%◌, ◌<◌}
use lib.Dec.{eqb, ltb}
use lib.ListN.{length, set, length-set}
use lib.Seq.{get_or-set_other}
use borrow.Author.Tests.{ltb-true, eqb-true}
use Rattle.rules.specs.declared.Channel.{Channel}
use Rattle.rules.specs.declared.Step.{Step}
use Rattle.rules.specs.declared.Step.TheVariants as step
use Rattle.rules.specs.declared.Winner.{Winner}
use Rattle.rules.specs.declared.Winner.TheVariants as winner
use Rattle.rules.specs.declared.Answer.TheVariants as answer
use Rattle.rules.specs.Image.{Image, Memory, at, in_service}
use Rattle.rules.specs.Channels.{dcpr_byte, data_byte}
use Rattle.rules.specs.Outcomes.{State, state, Outcome, alone, Answered}
use Rattle.rules.specs.Sources.{record_of}
use Rattle.rules.specs.Requests.{winner_of}
use Rattle.rules.specs.Transfer.{pair_of, finished, served, register_transfer, address_pair_of, moved_memory, less_one_word, served_memory, memory_transfer, transfer_of}
use Rattle.rules.specs.Arbitration.{granted, top_level, arbitrate_of}
use Rattle.rules.specs.Steps.{lent_verdict, act_of, step_of}
use Rattle.rules.specs.Runs.{is_arbitration}
use Rattle.rules.proofs.Bools.{cond_elim}
use Rattle.rules.proofs.Verdicts.{verdict_elim}
use native.Mathlib.Nat.{suc-ne-zero}
use Rattle.rules.proofs.MemoryTransferLaws.{memory_address, memory_counter}

-- an arbitration that serves a transfer into the memory stores one byte, the data register's, at the address
pub record Fills (s : State) (cs : List Channel) (x : Step) (o : Outcome Answered State) : Type 0 where
  pub source : ℕ
  pub ended : Bool
  pub arbitrates : x ≡ step.Arbitrate
  pub answers : o.answer ≡ (Ok (answer.Transferred source ended))
  pub even : at s.image (dcpr_byte (record_of cs source)) % 2 ≡ 0
  pub inward : (record_of cs source).direction ≡ 0
  pub below : memory_address s.image (record_of cs source) < length s.memory
  pub stores : o.left.memory ≡ set s.memory (memory_address s.image (record_of cs source)) (at s.image (data_byte (record_of cs source)))

module _ (s : State) (cs : List Channel) where
  -- the memory stays, or one byte is stored
  abbrev OneByte : Step → Outcome Answered State → Type 0
  OneByte x o = (o.left.memory ≡ s.memory) ⊎ Fills s cs x o

  transfer_fills : (w : ℕ) → OneByte step.Arbitrate (transfer_of s (record_of cs w) w)
  unfolding transfer_of register_transfer memory_transfer served served_memory finished moved_memory
  transfer_fills w =
      let c = record_of cs w in
      let m = s.image in
      cond_elim (OneByte step.Arbitrate) (eqb (at m (dcpr_byte c) % 2) 0)
      (λ even. cond_elim (OneByte step.Arbitrate) (ltb 222 (pair_of m c) || ltb 222 (address_pair_of m c)) (λ e. inl refl)
      (λ e. cond_elim (OneByte step.Arbitrate) (ltb (memory_address m c) (length s.memory)) (λ below. moved w (eqb c.direction 0) refl even below) (λ f. inl refl)))
      (λ odd. cond_elim (OneByte step.Arbitrate) (ltb 223 (pair_of m c) || ltb 223 (at m (pair_of m c))) (λ e. inl refl) (λ e. inl refl))
    where
      moved : (w : ℕ) (b : Bool) → eqb (record_of cs w).direction 0 ≡ b → eqb (at s.image (dcpr_byte (record_of cs w)) % 2) 0 ≡ true
          → ltb (memory_address s.image (record_of cs w)) (length s.memory) ≡ true
          → OneByte step.Arbitrate (served_memory s (record_of cs w) w (address_pair_of s.image (record_of cs w)) (pair_of s.image (record_of cs w)) (memory_address s.image (record_of cs w)) (memory_counter s.image (record_of cs w)))
      moved w true d even below =
          inr (record {
            source = w;
            ended = eqb (less_one_word (memory_counter s.image (record_of cs w))) 0;
            arbitrates = refl;
            answers = refl;
            even = eqb-true (at s.image (dcpr_byte (record_of cs w)) % 2) 0 even;
            inward = eqb-true (record_of cs w).direction 0 d;
            below = ltb-true (memory_address s.image (record_of cs w)) (length s.memory) below;
            stores = rw d;
          })
      moved w false d even below = inl (rw d)

  grant_fills : (w : Option Winner) → OneByte step.Arbitrate (granted s cs w)
  unfolding granted
  grant_fills None = inl refl
  grant_fills (Some (winner.Dma w)) = transfer_fills w
  grant_fills (Some (winner.Interrupt w l)) = inl refl

  act_fills : (x : Step) → OneByte x (act_of s cs x)
  unfolding act_of arbitrate_of
  act_fills (step.Read r) = inl refl
  act_fills (step.Write r v) = inl refl
  act_fills (step.Trigger t) = inl refl
  act_fills step.Arbitrate =
      cond_elim (OneByte step.Arbitrate) (in_service s.image) (λ e. inl refl)
      (λ e. cond_elim (OneByte step.Arbitrate) (top_level s.image) (λ f. inl refl) (λ f. grant_fills (winner_of s.image cs)))
  act_fills step.Return = inl refl
  act_fills step.Reset = inl refl
  act_fills step.Unknown = inl refl

  -- of every step, refused or not
  pub step_fills : (x : Step) → OneByte x (step_of s cs x)
  unfolding step_of
  step_fills x = verdict_elim (OneByte x) (lent_verdict s cs) (λ v. act_fills x) (λ r v. inl refl)

  -- so it stays but in an arbitration,
  pub memory-stays : (x : Step) → is_arbitration x ≡ false → (step_of s cs x).left.memory ≡ s.memory
  memory-stays x e = ⊎_elim (λ d. d) (λ f. absurd (false≢true (sym e ∙ ap is_arbitration f.arbitrates))) (step_fills x)

  -- it keeps its length, whatever is done,
  pub memory-long : (x : Step) → length (step_of s cs x).left.memory ≡ length s.memory
  memory-long x =
      ⊎_elim (λ e. ap length e)
      (λ f. ap length f.stores ∙ length-set s.memory (memory_address s.image (record_of cs f.source)) (at s.image (data_byte (record_of cs f.source))))
      (step_fills x)

  -- and each byte but one stays
  pub memory-bytes : (x : Step) (j : ℕ) → ((f : Fills s cs x (step_of s cs x)) → j ≢ memory_address s.image (record_of cs f.source))
      → at (step_of s cs x).left.memory j ≡ at s.memory j
  memory-bytes x j d =
      ⊎_elim (λ e. ap (λ (memory : Memory). at memory j) e)
      (λ f. ap (λ (memory : Memory). at memory j) f.stores ∙ get_or-set_other s.memory (memory_address s.image (record_of cs f.source)) j _ 0 (d f))
      (step_fills x)

-- ---- without a memory

-- a memory that has no byte is none,
pub alone-is : (m : Image) (memory : Memory) → length memory ≡ 0 → alone m ≡ state m memory
alone-is m [] e = refl
alone-is m (b ∷ bs) e = absurd (suc-ne-zero (length bs) e)

-- and a step without one leaves none
pub alone-stays : (m : Image) (cs : List Channel) (x : Step) → (step_of (alone m) cs x).left ≡ alone (step_of (alone m) cs x).left.image
alone-stays m cs x = sym (alone-is (step_of (alone m) cs x).left.image (step_of (alone m) cs x).left.memory (memory-long (alone m) cs x))
