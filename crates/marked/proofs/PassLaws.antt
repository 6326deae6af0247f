-- How the code compares, and what a yes means. Assumes nothing.
use mathlib.Core.Path.{◌≡◌, refl, ap, ap₂, ◌∙◌}
use mathlib.Core.Bool.{Bool, true, false, false≢true, ◌&&◌}
use mathlib.Core.List.{List, [], ◌∷◌, map}
use Prim.Native.Nat.{ℕ}
use lib.Dec.{eqb}
use borrow.Author.Tests.{eqb-true}
use Rattle.rules.specs.declared.Channel.{Channel}
use Rattle.rules.specs.declared.Step.{Step}
use Rattle.rules.specs.declared.Flat.{Flat}
use Rattle.rules.specs.Image.{Image}
use Rattle.rules.specs.Outcomes.{State, outcome, alone, Answered}
use Rattle.rules.specs.Steps.{step_of}
use Rattle.rules.specs.Runs.{Event, history}
use Rattle.rules.specs.Encodings.{told}
use Rattle.rules.specs.Promises.{Does}
use Rattle.rules.specs.Examples.{storing, Line, Scenario, does, says, says_from}
use Rattle.rules.proofs.Bools.{and_l, and_r}
use Rattle.rules.proofs.MemoryLaws.{alone-stays}
use Rattle.rules.proofs.Told.{told-injective}
use Rattle.marked.specs.Passes.{same_numbers, same_bytes, holds, lines_hold, scenarios_hold}

-- ---- the derived comparison makes the six tests

six-tests : (a b c d e f : Bool) → (a && (b && (c && (d && (e && f))))) ≡ (a && b && c && d && e && f)
six-tests false b c d e f = refl
six-tests true false c d e f = refl
six-tests true true false d e f = refl
six-tests true true true false e f = refl
six-tests true true true true false f = refl
six-tests true true true true true f = refl

pub derived-same : (f g : Flat)
    → (eqb f.kind g.kind && (eqb f.refusal g.refusal && (eqb f.steps g.steps && (eqb f.first g.first && (eqb f.second g.second && eqb f.third g.third)))))
    ≡ same_numbers f g
unfolding same_numbers
derived-same f g =
    six-tests (eqb f.kind g.kind) (eqb f.refusal g.refusal) (eqb f.steps g.steps) (eqb f.first g.first) (eqb f.second g.second) (eqb f.third g.third)

-- ---- a step that keeps its promise is compared as `holds` says, for the list ds that the code has as cs

pub compared : (cs ds : List Channel) (m : Image) (x : Step) (a b : Answered) (t : State) (after : Image) → cs ≡ ds → Does (alone m) cs x a t
    → (same_numbers (told a) (told b) && same_bytes t.image after) ≡ holds ds m x b after
unfolding holds
compared cs ds m x a b t after same (d, e) = rw (d, e, same)

-- ---- what a yes means

-- each of six tests that all hold
each : (a b c d e f : Bool) → (a && b && c && d && e && f) ≡ true → (a ≡ true) × (b ≡ true) × (c ≡ true) × (d ≡ true) × (e ≡ true) × (f ≡ true)
each a b c d e f h =
    let h5 = and_l ((((a && b) && c) && d) && e) f h in
    let h4 = and_l (((a && b) && c) && d) e h5 in
    let h3 = and_l ((a && b) && c) d h4 in
    let h2 = and_l (a && b) c h3 in (
      and_l a b h2,
      and_r a b h2,
      and_r (a && b) c h3,
      and_r ((a && b) && c) d h4,
      and_r (((a && b) && c) && d) e h5,
      and_r ((((a && b) && c) && d) && e) f h,
    )

pub same-numbers : (f g : Flat) → same_numbers f g ≡ true → f ≡ g
unfolding same_numbers
same-numbers f g e =
    let h = each (eqb f.kind g.kind) (eqb f.refusal g.refusal) (eqb f.steps g.steps) (eqb f.first g.first) (eqb f.second g.second) (eqb f.third g.third) e in
    rw (
      eqb-true f.kind g.kind h.0,
      eqb-true f.refusal g.refusal h.1,
      eqb-true f.steps g.steps h.2,
      eqb-true f.first g.first h.3,
      eqb-true f.second g.second h.4,
      eqb-true f.third g.third h.5,
    )

pub same_bytes_lem : (a b : List ℕ) → same_bytes a b ≡ true → a ≡ b
unfolding same_bytes
same_bytes_lem [] [] e = refl
same_bytes_lem [] (y ∷ ys) e = absurd (false≢true e)
same_bytes_lem (x ∷ xs) [] e = absurd (false≢true e)
same_bytes_lem (x ∷ xs) (y ∷ ys) e =
    ap₂ ◌∷◌ (eqb-true x y (and_l (eqb x y) (same_bytes xs ys) e)) (same_bytes_lem xs ys (and_r (eqb x y) (same_bytes xs ys) e))

-- a step answers this and leaves this
step-held : (cs : List Channel) (m : Image) (x : Step) (b : Answered) (after : Image) → holds cs m x b after ≡ true
    → step_of (alone m) cs x ≡ outcome b (alone after)
unfolding holds
step-held cs m x b after e =
    let o = step_of (alone m) cs x in
    let t = same_numbers (told o.answer) (told b) in
    let l = same_bytes o.left.image after in
    ap₂ outcome (told-injective o.answer b (same-numbers (told o.answer) (told b) (and_l t l e)))
    (alone-stays m cs x ∙ ap alone (same_bytes_lem o.left.image after (and_r t l e)))

lines-held : (cs : List Channel) (m : Image) (ls : List Line) → lines_hold cs m ls ≡ true
    → map (λ (e : Event). e.outcome) (history (alone m) cs (map (λ (l : Line). l.step) ls)) ≡ says_from m ls
unfolding history
lines-held cs m [] e = refl
lines-held cs m (l ∷ ls) e =
    let n = storing m l.leaves in
    let h = holds cs m l.step l.answer n in
    rw (step-held cs m l.step l.answer n (and_l h (lines_hold cs n ls) e), lines-held cs n ls (and_r h (lines_hold cs n ls) e))

-- an example that passes does what the paper says: every answer and every whole image
pub passed : (ss : List Scenario) → scenarios_hold ss ≡ true → map does ss ≡ map says ss
passed [] e = refl
passed (s ∷ ss) e =
    let h = lines_hold s.channels s.start s.lines in
    ap₂ ◌∷◌ (lines-held s.channels s.start s.lines (and_l h (scenarios_hold ss) e)) (passed ss (and_r h (scenarios_hold ss) e))
