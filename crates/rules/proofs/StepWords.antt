-- Document 01, "Runs and the wait report": a word of a list of steps and its fields; each step is said by a word. Assumes nothing.
use mathlib.Core.Path.{◌≡◌, refl, ap}
use mathlib.Core.List.{List, [], ◌∷◌}
use Prim.Native.Nat.{ℕ, zero, suc, ◌+◌, ◌*◌, ◌^◌, ◌<◌}
use native.Mathlib.Omega.{arith}
use native.Mathlib.Nat.{not-suc-le-zero, le_of_suc-le-suc}
use lib.ListN.{length, get_or}
use borrow.Author.Tests.{ne_eqb}
use Rattle.rules.specs.declared.Trigger.{Trigger}
use Rattle.rules.specs.declared.Trigger.TheVariants as trigger
use Rattle.rules.specs.declared.Step.{Step}
use Rattle.rules.specs.declared.Step.TheVariants as step
use Rattle.rules.specs.Encodings.{kind_field, trigger_field, first_field, second_field, trigger_by, step_by, decode_of, steps_of}

-- the word of a kind, a trigger kind, a first and a second field
abbrev pub word : ℕ → ℕ → ℕ → ℕ → ℕ
word k t f v = k * 2 ^ 48 + t * 2 ^ 32 + f * 2 ^ 8 + v

-- its fields are these,
pub word_fields : (k t f v : ℕ) → t < 2 ^ 16 → f < 2 ^ 24 → v < 2 ^ 8
    → (kind_field (word k t f v) ≡ k) × (trigger_field (word k t f v) ≡ t) × (first_field (word k t f v) ≡ f) × (second_field (word k t f v) ≡ v)
word_fields k t f v ht hf hv = omega arith

-- so it says the step of these
pub decode-word : (k t f v : ℕ) → t < 2 ^ 16 → f < 2 ^ 24 → v < 2 ^ 8 → decode_of (word k t f v) ≡ step_by k t f v
unfolding decode_of
decode-word k t f v ht hf hv =
    let e = word_fields k t f v ht hf hv in
    rw (e.0, e.1, e.2, e.3)

-- every word is the word of its fields
pub fields_word : (w : ℕ) → word (kind_field w) (trigger_field w) (first_field w) (second_field w) ≡ w
fields_word w = omega arith

-- and one whose kind fits 16 bits fits 64
pub word_lt : (k t f v : ℕ) → k < 2 ^ 16 → t < 2 ^ 16 → f < 2 ^ 24 → v < 2 ^ 8 → word k t f v < 2 ^ 64
word_lt k t f v hk ht hf hv = omega arith

-- ---- each step is said by a word

-- the numbers in a trigger and in a step fit their fields
abbrev pub TriggerFits : Trigger → Type 0
TriggerFits (trigger.Pin k d) = (k < 2 ^ 24) × (d < 2 ^ 8)
TriggerFits trigger.Watchdog = Unit {0}
TriggerFits (trigger.Nmi d) = d < 2 ^ 8
TriggerFits (trigger.Request k) = k < 2 ^ 24
TriggerFits trigger.Unknown = Unit {0}

abbrev pub Fits : Step → Type 0
Fits (step.Read r) = r < 2 ^ 24
Fits (step.Write r v) = (r < 2 ^ 24) × (v < 2 ^ 8)
Fits (step.Trigger t) = TriggerFits t
Fits step.Arbitrate = Unit {0}
Fits step.Return = Unit {0}
Fits step.Reset = Unit {0}
Fits step.Unknown = Unit {0}

-- a word that says a trigger and a step
abbrev pub trigger_word : Trigger → ℕ
trigger_word (trigger.Pin k d) = word 2 0 k d
trigger_word trigger.Watchdog = word 2 1 0 0
trigger_word (trigger.Nmi d) = word 2 2 0 d
trigger_word (trigger.Request k) = word 2 3 k 0
trigger_word trigger.Unknown = word 2 4 0 0

abbrev pub word_of : Step → ℕ
word_of (step.Read r) = word 0 0 r 0
word_of (step.Write r v) = word 1 0 r v
word_of (step.Trigger t) = trigger_word t
word_of step.Arbitrate = word 3 0 0 0
word_of step.Return = word 4 0 0 0
word_of step.Reset = word 5 0 0 0
word_of step.Unknown = word 6 0 0 0

decode-trigger : (t : Trigger) → TriggerFits t → decode_of (trigger_word t) ≡ step.Trigger t
unfolding decode_of step_by trigger_by
decode-trigger (trigger.Pin k d) h = decode-word 2 0 k d (omega arith) h.0 h.1
decode-trigger trigger.Watchdog h = refl
decode-trigger (trigger.Nmi d) h = decode-word 2 2 0 d (omega arith) (omega arith) h
decode-trigger (trigger.Request k) h = decode-word 2 3 k 0 (omega arith) h (omega arith)
decode-trigger trigger.Unknown h = refl

-- these words say them
pub decode_said : (x : Step) → Fits x → decode_of (word_of x) ≡ x
unfolding decode_of step_by
decode_said (step.Read r) h = decode-word 0 0 r 0 (omega arith) h (omega arith)
decode_said (step.Write r v) h = decode-word 1 0 r v (omega arith) h.0 h.1
decode_said (step.Trigger t) h = decode-trigger t h
decode_said step.Arbitrate h = refl
decode_said step.Return h = refl
decode_said step.Reset h = refl
decode_said step.Unknown h = refl

-- ---- kinds that are none

-- a kind above 5
pub unknown-kind : (k t f v : ℕ) → 5 < k → step_by k t f v ≡ step.Unknown
unfolding step_by
unknown-kind k t f v h =
    rw (ne_eqb k 0 (omega arith), ne_eqb k 1 (omega arith), ne_eqb k 2 (omega arith), ne_eqb k 3 (omega arith), ne_eqb k 4 (omega arith), ne_eqb k 5 (omega arith))

-- a trigger kind above 3
pub unknown-trigger : (t f v : ℕ) → 3 < t → trigger_by t f v ≡ trigger.Unknown
unfolding trigger_by
unknown-trigger t f v h = rw (ne_eqb t 0 (omega arith), ne_eqb t 1 (omega arith), ne_eqb t 2 (omega arith), ne_eqb t 3 (omega arith))

-- ---- a list of words

-- as many steps as words
pub steps-length : (ws : List ℕ) → length (steps_of ws) ≡ length ws
unfolding steps_of
steps-length [] = refl
steps-length (w ∷ ws) = ap suc (steps-length ws)

-- step i is that of word i
pub steps-at : (ws : List ℕ) (i : ℕ) → i < length ws → get_or (steps_of ws) i step.Unknown ≡ decode_of (get_or ws i 0)
unfolding steps_of
steps-at [] i h = absurd (not-suc-le-zero h)
steps-at (w ∷ ws) zero h = refl
steps-at (w ∷ ws) (suc i) h = steps-at ws i (le_of_suc-le-suc h)
