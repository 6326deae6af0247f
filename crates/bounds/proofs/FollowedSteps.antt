-- What the next step does to the steps that a bound follows. Assumes nothing.
use mathlib.Core.Path.{◌≡◌, refl, sym, ap, subst, ◌∙◌}
use mathlib.Core.Bool.{Bool, true, false, cond, not, ◌&&◌, ◌||◌, and-false}
use mathlib.Core.List.{List, []}
use mathlib.Core.Option.{Option, none, some, or_else}
use Rattle.std.specs.Prelude.{Err}
use Rattle.std.specs.declared.option.Option as rust
use Rattle.std.specs.declared.option.Option.TheVariants.{Some, None}
use Prim.Native.Nat.{ℕ, ◌+◌}
use native.Mathlib.Nat.{add-zero, zero-add, add_assoc}
use lib.Dec.{eqb}
use borrow.Author.Tests.{lt-ltb}
use Rattle.rules.specs.declared.Channel.{Channel}
use Rattle.rules.specs.declared.Step.{Step}
use Rattle.rules.specs.declared.Step.TheVariants as step
use Rattle.rules.specs.declared.Trigger.{Trigger}
use Rattle.rules.specs.declared.Trigger.TheVariants as trigger
use Rattle.rules.specs.declared.NoBound.TheVariants as no_bound
use Rattle.rules.specs.Image.{Image, bit_of, has, EITR, IAOS, IEN}
use Rattle.rules.specs.Channels.{list_ok}
use Rattle.rules.specs.Outcomes.{State, alone, Outcome, outcome, Answered, accepted, is_refused}
use Rattle.rules.specs.Sources.{sources, pending}
use Rattle.rules.specs.Triggers.{edge, trigger_verdict, selects, selects_top, effect_on, source_effect, fired, trigger_of}
use Rattle.rules.specs.Steps.{act_of}
use Rattle.rules.specs.Runs.{Event, event_of, history, one_if, counted}
use Rattle.rules.specs.Demand3.{H, rival, within, triggers, triggers_of}
use Rattle.rules.specs.Bounds.{first_from, other_step, disabled_step, bound_in}
use Rattle.rules.proofs.Verdicts.{verdict_elim}
use Rattle.rules.proofs.SelectionLaws.{selected-is, selected-there}
use Rattle.rules.proofs.Bools.{impossible}
use Rattle.bounds.specs.Followed.{selected, selected_in, target_by, target_of, target_among, first_disabled, found, steps_answer, followed_from}
use Rattle.dispatch.proofs.NextSteps.{Next, history_next}

-- ---- the source that a step triggered

abbrev found_in : Option ℕ → rust.Option ℕ
found_in none = None
found_in (some k) = Some k

-- what a trigger selects is its one target
selected_target : (m : Image) (t : Trigger) (k : ℕ) → selects m t ≡ some k → target_by t ≡ Some k
unfolding selects
selected_target m (trigger.Pin k d) s e = ap Some (selected-is (edge d (has m (bit_of EITR k)) && (not (eqb k 0) || has m IAOS)) k s e)
selected_target m trigger.Watchdog s e = ap Some (selected-is (not (has m IAOS)) 0 s e)
selected_target m (trigger.Nmi d) s e = impossible (cc)
selected_target m (trigger.Request k) s e = ap found_in e
selected_target m trigger.Unknown s e = impossible (cc)

module _ (m : Image) (cs : List Channel) (ok : list_ok cs ≡ true) (among : ℕ → Bool) where
  -- by its answer and its target a step is a trigger of a source of the set
  abbrev tells : Step → Answered → Bool
  tells x a = selected_in a && target_among cs among (target_of x)

  -- a step without a target is none
  no_target : (a : Answered) → (not (is_refused a) && false) ≡ (selected_in a && false)
  no_target a = and-false (not (is_refused a)) ∙ sym (and-false (selected_in a))

  -- a trigger that is done is of the source that it selects
  done : (t : Trigger) (o : Option ℕ) → trigger_verdict cs t ≡ accepted → selects m t ≡ o
      → within among o ≡ tells (step.Trigger t) (fired m cs o (selects_top m t)).answer
  unfolding fired source_effect
  done t none e f = refl
  done t (some k) e f =
      rw (selected_target m t k f, lt-ltb k (sources cs) (selected-there m cs t e k f)) (go (pending m cs k))
    where
      go : (b : Bool) → among k ≡ (selected (effect_on b) && among k)
      go true = refl
      go false = refl

  trigger-tells : (t : Trigger) → (not (is_refused (trigger_of m cs t).answer) && within among (selects m t)) ≡ tells (step.Trigger t) (trigger_of m cs t).answer
  unfolding trigger_of fired
  trigger-tells t =
      verdict_elim (λ (o : Outcome Answered Image). (not (is_refused o.answer) && within among (selects m t)) ≡ tells (step.Trigger t) o.answer) (trigger_verdict cs t)
      (λ e. done t (selects m t) e refl) (λ r e. refl)

  triggers-act : (x : Step) → let o = act_of (alone m) cs x in triggers among (event_of (alone m) x (outcome o.answer o.left)) ≡ tells x o.answer
  unfolding act_of
  triggers-act (step.Read r) = no_target (act_of (alone m) cs (step.Read r)).answer
  triggers-act (step.Write r v) = no_target (act_of (alone m) cs (step.Write r v)).answer
  triggers-act (step.Trigger t) = trigger-tells t
  triggers-act step.Arbitrate = no_target (act_of (alone m) cs step.Arbitrate).answer
  triggers-act step.Return = no_target (act_of (alone m) cs step.Return).answer
  triggers-act step.Reset = no_target (act_of (alone m) cs step.Reset).answer
  triggers-act step.Unknown = no_target (act_of (alone m) cs step.Unknown).answer

  -- of a step that was done
  pub triggers-told : (x : Step) (a : Answered) (t : State) → outcome a t ≡ act_of (alone m) cs x → triggers among (event_of (alone m) x (outcome a t)) ≡ tells x a
  triggers-told x a t e =
      subst (λ (o : Outcome Answered State). triggers among (event_of (alone m) x o) ≡ tells x o.answer) (sym e) (triggers-act x)

-- ---- the loop

-- before the first step nothing is found and nothing is counted
pub followed-start : (m : Image) (cs : List Channel) (s : ℕ) (es : List Event) → bound_in m cs s es ≡ followed_from (rival m cs s) (H m cs s) 0 None 0 es
unfolding bound_in followed_from or_else
followed-start m cs s es = rw zero-add

module _ (among : ℕ → Bool) (h : ℕ) (first : rust.Option ℕ) (e : ℕ) where
  -- after the last step: what was found, or the bound
  pub followed_end : (s : State) (cs : List Channel) (n : ℕ) {ys : List Step} → ys ≡ [] → followed_from among h n first e (history s cs ys) ≡ steps_answer none (found first) h e
  unfolding followed_from history first_from counted or_else
  followed_end s cs n q = rw (q, add-zero) (go first)
    where
      go : (first : rust.Option ℕ) → steps_answer none (or_else (found first) none) h e ≡ steps_answer none (found first) h e
      go None = refl
      go (Some i) = refl

  module _ {s t : State} {cs : List Channel} {ys xs : List Step} {x : Step} {a : Answered} (next : Next s t cs ys xs x a) (n : ℕ) where
    -- a step of another kind is answered at once
    pub followed-other : other_step (event_of s x (outcome a t)) ≡ true → followed_from among h n first e (history s cs ys) ≡ Err (no_bound.OtherStep n)
    unfolding followed_from first_from
    followed-other o = rw (history_next next, o)

    -- else the step's index is kept if it is the first arbitration with interrupts disabled, and the step is counted if it is a trigger of the set
    pub followed_on : other_step (event_of s x (outcome a t)) ≡ false
        → followed_from among h n first e (history s cs ys)
        ≡ followed_from among h (n + 1) (first_disabled first n x (has s.image IEN)) (e + one_if (triggers among (event_of s x (outcome a t)))) (history t cs xs)
    unfolding followed_from first_from counted or_else
    followed_on o =
        rw (history_next next, o, add_assoc e (one_if (triggers among (event_of s x (outcome a t)))) (triggers_of among (history t cs xs)))
        (ap (λ (i : Option ℕ). steps_answer (first_from (n + 1) other_step (history t cs xs)) i h (e + (one_if (triggers among (event_of s x (outcome a t))) + triggers_of among (history t cs xs))))
        (go first))
      where
        rest : Option ℕ
        rest = first_from (n + 1) disabled_step (history t cs xs)

        here : (d : Bool) → or_else none (cond d (some n) rest) ≡ or_else (found (cond d (Some n) None)) rest
        here true = refl
        here false = refl

        go : (first : rust.Option ℕ)
            → or_else (found first) (cond (disabled_step (event_of s x (outcome a t))) (some n) rest) ≡ or_else (found (first_disabled first n x (has s.image IEN))) rest
        go (Some i) = refl
        go None = here (disabled_step (event_of s x (outcome a t)))
