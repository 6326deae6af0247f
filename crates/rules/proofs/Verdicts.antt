-- What a verdict leads to. Assumes nothing.
use Rattle.std.specs.Prelude.{Ok, Err}
use mathlib.Core.Path.{◌≡◌, refl}
use mathlib.Core.List.{List, []}
use Rattle.rules.specs.declared.Channel.{Channel}
use Rattle.rules.specs.declared.Refusal.{Refusal}
use Rattle.rules.specs.Image.{Image}
use Rattle.rules.specs.Outcomes.{State, outcome, refused_or, Verdict, accepted}
use Rattle.rules.specs.Runs.{Event, Chain, state_after}

-- what holds of both ways of a verdict, each where it is taken
pub verdict_elim : {A : Type 0} (P : A → Type 0) (v : Verdict) {f : Refusal → A} {x : A}
    → (v ≡ accepted → P x) → ((r : Refusal) → v ≡ (Err r) → P (f r)) → P (refused_or v f x)
verdict_elim P (Ok it) p q = p refl
verdict_elim P (Err r) p q = q r refl

-- two that are led to by one verdict are equal where each way taken is
pub verdict_same : {A : Type 0} (v : Verdict) {f g : Refusal → A} {x y : A}
    → (v ≡ accepted → x ≡ y) → ((r : Refusal) → v ≡ (Err r) → f r ≡ g r) → refused_or v f x ≡ refused_or v g y
verdict_same (Ok it) p q = p refl
verdict_same (Err r) p q = q r refl

-- a call that is refused before any step leaves what its events leave, of which there are none
pub verdict_left : {A : Type 0} (v : Verdict) (s : State) (f : Refusal → A) (a : A) (es : List Event)
    → (refused_or v (λ r. outcome (f r) s) (outcome a (state_after s es))).left ≡ state_after s (refused_or v (λ r. []) es)
unfolding state_after
verdict_left (Ok it) s f a es = refl
verdict_left (Err r) s f a es = refl

-- and these are a list of calls
pub verdict_chain : (v : Verdict) (m : Image) (cs : List Channel) (es : List Event) → Chain m cs es → Chain m cs (refused_or v (λ r. []) es)
verdict_chain (Ok it) m cs es l = l
verdict_chain (Err r) m cs es l = tt
