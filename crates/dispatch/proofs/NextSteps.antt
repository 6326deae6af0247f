-- The steps of a list of words that are left after some: none, or a next one and what it does. Assumes nothing.
use mathlib.Core.Path.{◌≡◌, sym, ◌∙◌}
use mathlib.Core.Bool.{true}
use mathlib.Core.List.{List, [], ◌∷◌}
use Prim.Native.Nat.{ℕ, ◌+◌, ◌≤◌, ◌<◌}
use native.Mathlib.Numerals.{add-one}
use native.Mathlib.Omega.{arith}
use lib.ListN.{length, get_or, drop, drop_of_length-le}
use lib.Seq.{drop-cons}
use Rattle.rules.specs.declared.Channel.{Channel}
use Rattle.rules.specs.declared.Step.{Step}
use Rattle.rules.specs.Image.{Image, image_length, Fits}
use Rattle.rules.specs.Channels.{list_ok}
use Rattle.rules.specs.Outcomes.{State, alone, outcome, Answered}
use Rattle.rules.specs.Steps.{act_of, step_of}
use Rattle.rules.specs.Runs.{event_of, history}
use Rattle.rules.specs.Encodings.{decode_of, steps_of}
use Rattle.rules.proofs.Refusals.{accepted-acts}

-- after all of the words there is none
pub no_word : (ws : List ℕ) (n : ℕ) → length ws ≤ n → steps_of (drop n ws) ≡ []
unfolding steps_of
no_word ws n h = rw (drop_of_length-le ws h)

-- the first of the steps ys is x; from the state s it answers a and leaves t, and the steps xs come after it
pub record Next (s t : State) (cs : List Channel) (ys xs : List Step) (x : Step) (a : Answered) : Type 0 where
  pub first : ys ≡ x ∷ xs
  pub did : outcome a t ≡ step_of s cs x

-- after n words, word n is the next step
pub next_word : {s t : State} {cs : List Channel} (ws : List ℕ) (n : ℕ) {x : Step} {a : Answered}
    → length s.image ≡ image_length → list_ok cs ≡ true → Fits s.memory → n < length ws → x ≡ decode_of (get_or ws n 0) → outcome a t ≡ act_of s cs x
    → Next s t cs (steps_of (drop n ws)) (steps_of (drop (n + 1) ws)) x a
unfolding steps_of
next_word {s} {t} {cs} ws n {x} l ok k h e d = record { first = rw (e, add-one, drop-cons ws n 0 h); did = d ∙ sym (accepted-acts s cs x l ok k) }

-- the same without a memory
pub next_alone : {m m' : Image} {cs : List Channel} (ws : List ℕ) (n : ℕ) {x : Step} {a : Answered}
    → length m ≡ image_length → list_ok cs ≡ true → n < length ws → x ≡ decode_of (get_or ws n 0) → outcome a (alone m') ≡ act_of (alone m) cs x
    → Next (alone m) (alone m') cs (steps_of (drop n ws)) (steps_of (drop (n + 1) ws)) x a
next_alone ws n l ok h e d = next_word ws n l ok (omega arith) h e d

-- the next step's event is the first of the history, and the others go on from what it left
pub history_next : {s t : State} {cs : List Channel} {ys xs : List Step} {x : Step} {a : Answered} → Next s t cs ys xs x a
    → history s cs ys ≡ event_of s x (outcome a t) ∷ history t cs xs
unfolding history
history_next next = rw (next.first, ← next.did)
