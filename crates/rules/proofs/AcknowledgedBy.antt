-- Document 01, "Runs and the wait report": what acknowledges a source, and what counts as an arbitration. Assumes nothing.
use Rattle.std.specs.Prelude.{Option, Ok, Err, None, Some}
use mathlib.Core.Path.{◌≡◌, refl, sym, ap, ◌∙◌}
use mathlib.Core.Bool.{true, false, false≢true, Bool}
use mathlib.Core.List.{List, [], ◌∷◌, map}
use Prim.Native.Nat.{ℕ}
use borrow.Author.Tests.{eqb-true, eq-eqb}
use Rattle.rules.specs.declared.Channel.{Channel}
use Rattle.rules.specs.declared.Place.{Place}
use Rattle.rules.specs.declared.Answer.{Answer}
use Rattle.rules.specs.declared.Refusal.{Refusal}
use Rattle.rules.specs.declared.Step.{Step}
use Rattle.rules.specs.declared.Step.TheVariants as step
use Rattle.rules.specs.declared.AnswerKind.TheVariants as kind
use Rattle.rules.specs.declared.Losses.{Losses}
use Rattle.rules.specs.declared.Effect.{Effect}
use Rattle.rules.specs.declared.Answer.TheVariants as answer
use Rattle.rules.specs.declared.Trigger.{Trigger}
use Rattle.rules.specs.Image.{Image}
use Rattle.rules.specs.Outcomes.{is_refused, State, Outcome, kind_of, answered_kind, acknowledges, Answered}
use Rattle.rules.specs.Registers.{place_of, read_at, read_of, write_at, write_of, reset_of}
use Rattle.rules.specs.Triggers.{trigger_verdict, fired, trigger_of}
use Rattle.rules.specs.Return.{return_of}
use Rattle.rules.specs.Steps.{lent_verdict, act_of, step_of}
use Rattle.rules.specs.Runs.{is_arbitration}
use Rattle.rules.proofs.Verdicts.{verdict_elim}

-- ---- the answer

-- the kinds of all answers, and of a refusal
pub kinds : (b s l v : ℕ) (lost : Losses) (e f : Effect) (ended : Bool) (r : Refusal)
    → (map kind_of (answer.Byte b ∷ answer.Written lost ∷ answer.Triggered e f ∷ answer.Nothing ∷ answer.TopLevel ∷ answer.Interrupt s l v ∷ answer.Transferred s ended ∷ answer.Returned ∷ answer.Reset ∷ [])
    ≡ (kind.Plain ∷ kind.Plain ∷ kind.Triggered e ∷ kind.Plain ∷ kind.Plain ∷ kind.Acknowledged s ∷ kind.Plain ∷ kind.Plain ∷ kind.Plain ∷ []))
    × ((a : Answer) → answered_kind (Ok a) ≡ Ok (kind_of a))
    × (answered_kind (Err r) ≡ Err r)
kinds b s l v lost e f ended r = (refl, λ a. refl, refl)

module _ (s : ℕ) where
  -- only an interrupt answered with the source's number acknowledges it: neither a DMA service of it nor the top level
  pub acknowledges-interrupt : (a : Answered) → acknowledges s a ≡ true → (l : ℕ) × (v : ℕ) × (a ≡ (Ok (answer.Interrupt s l v)))
  acknowledges-interrupt (Ok (answer.Byte b)) e = absurd (false≢true e)
  acknowledges-interrupt (Ok (answer.Written l)) e = absurd (false≢true e)
  acknowledges-interrupt (Ok (answer.Triggered f g)) e = absurd (false≢true e)
  acknowledges-interrupt (Ok answer.Nothing) e = absurd (false≢true e)
  acknowledges-interrupt (Ok answer.TopLevel) e = absurd (false≢true e)
  acknowledges-interrupt (Ok (answer.Interrupt k l v)) e = (l, v, ap (λ (k : ℕ). (Ok (answer.Interrupt k l v))) (eqb-true k s e))
  acknowledges-interrupt (Ok (answer.Transferred k t)) e = absurd (false≢true e)
  acknowledges-interrupt (Ok answer.Returned) e = absurd (false≢true e)
  acknowledges-interrupt (Ok answer.Reset) e = absurd (false≢true e)
  acknowledges-interrupt (Err r) e = absurd (false≢true e)

  -- and every such answer does
  pub interrupt-acknowledges : (l v : ℕ) → acknowledges s (Ok (answer.Interrupt s l v)) ≡ true
  interrupt-acknowledges l v = eq-eqb s s refl

  -- so it is no refusal
  pub acknowledges-accepted : (a : Answered) → acknowledges s a ≡ true → is_refused a ≡ false
  acknowledges-accepted a e = ap is_refused (acknowledges-interrupt a e).2

  -- the last of some answers does
  abbrev pub last_acknowledges : Option Answered → Bool
  last_acknowledges None = false
  last_acknowledges (Some a) = acknowledges s a

-- ---- the step

-- no other step counts as an arbitration,
pub arbitration_is : (x : Step) → is_arbitration x ≡ true → x ≡ step.Arbitrate
arbitration_is (step.Read r) e = absurd (false≢true e)
arbitration_is (step.Write r v) e = absurd (false≢true e)
arbitration_is (step.Trigger t) e = absurd (false≢true e)
arbitration_is step.Arbitrate e = refl
arbitration_is step.Return e = absurd (false≢true e)
arbitration_is step.Reset e = absurd (false≢true e)
arbitration_is step.Unknown e = absurd (false≢true e)

-- and an arbitration does
pub is_arbitration_lem : is_arbitration step.Arbitrate ≡ true
is_arbitration_lem = refl

module _ (s : State) (cs : List Channel) (source : ℕ) where
  read_silent : (p : Option Place) → acknowledges source (read_at s.image p) ≡ false
  read_silent (Some p) = refl
  read_silent None = refl

  write_silent : (p : Option Place) (v : ℕ) → acknowledges source (write_at s.image p v).answer ≡ false
  unfolding write_at
  write_silent (Some p) v = refl
  write_silent None v = refl

  trigger_silent : (t : Trigger) → acknowledges source (trigger_of s.image cs t).answer ≡ false
  unfolding trigger_of fired
  trigger_silent t = verdict_elim (λ (o : Outcome Answered Image). acknowledges source o.answer ≡ false) (trigger_verdict cs t) (λ e. refl) (λ r e. refl)

  act-acknowledges : (x : Step) → acknowledges source (act_of s cs x).answer ≡ true → is_arbitration x ≡ true
  unfolding act_of read_of write_of return_of reset_of
  act-acknowledges (step.Read r) h = sym (read_silent (place_of s.image cs r)) ∙ h
  act-acknowledges (step.Write r v) h = sym (write_silent (place_of s.image cs r) v) ∙ h
  act-acknowledges (step.Trigger t) h = sym (trigger_silent t) ∙ h
  act-acknowledges step.Arbitrate h = refl
  act-acknowledges step.Return h = h
  act-acknowledges step.Reset h = h
  act-acknowledges step.Unknown h = h

  -- a source is acknowledged by an arbitration alone
  pub acknowledged-by_arbitration : (x : Step) → acknowledges source (step_of s cs x).answer ≡ true → x ≡ step.Arbitrate
  unfolding step_of
  acknowledged-by_arbitration x =
      verdict_elim (λ (o : Outcome Answered State). acknowledges source o.answer ≡ true → x ≡ step.Arbitrate) (lent_verdict s cs)
      (λ v h. arbitration_is x (act-acknowledges x h)) (λ r v h. absurd (false≢true h))
