-- What is lent to be changed, what a call answers and leaves of it, and refusals. Assumes nothing.
use Rattle.std.specs.Prelude.{Bool, false, cond, ℕ, eqb, [], Result, Ok, Err, is_err}
use Rattle.rules.specs.declared.Answer.{Answer}
use Rattle.rules.specs.declared.Answer.TheVariants as answer
use Rattle.rules.specs.declared.AnswerKind.{AnswerKind}
use Rattle.rules.specs.declared.AnswerKind.TheVariants as kind
use Rattle.rules.specs.declared.Refusal.{Refusal}
use Rattle.rules.specs.Image.{Image, Memory}

-- all that a caller lends to be changed: the image and the memory
pub record State : Type 0 where
  pub image : Image
  pub memory : Memory

abbrev pub state : Image → Memory → State
state m memory = record { image = m; memory = memory }

-- an image that is lent without a memory
abbrev pub alone : Image → State
alone m = state m []

-- what is answered, and what is left: of the image by a rule that concerns the image alone, of all that is lent by a step, a run and a wait report
pub record Outcome (A L : Type 0) : Type 0 where
  pub answer : A
  pub left : L

abbrev pub outcome : {A L : Type 0} → A → L → Outcome A L
outcome answered left = record { answer = answered; left = left }

-- a step answers, or is refused for a reason
abbrev pub Answered : Type 0
Answered = Result Answer Refusal

-- what a rule of the image alone answers and leaves, as a step on the state s: the memory stays
abbrev pub changed : State → Outcome Answered Image → Outcome Answered State
changed s o = outcome o.answer (state o.left s.memory)

-- ---- refusals

-- what is lent, or what is asked for, is accepted or refused for a reason
abbrev pub Verdict : Type 0
Verdict = Result (Unit {0}) Refusal

abbrev pub accepted : Verdict
accepted = Ok tt

-- a refusal gives its number only, and nothing changes
abbrev pub refuse : {A L : Type 0} → Refusal → L → Outcome (Result A Refusal) L
refuse reason lent = outcome (Err reason) lent

-- refused for this reason unless a rule is kept; else what comes next
abbrev pub refused_unless : Bool → Refusal → Verdict → Verdict
refused_unless kept reason next = cond kept next (Err reason)

-- refused for this reason where a rule is broken; else what comes next
abbrev pub refused_where : Bool → Refusal → Verdict → Verdict
refused_where broken reason next = cond broken (Err reason) next

-- what a verdict leads to: the refusal, or what is done where it accepts
abbrev pub refused_or : {A : Type 0} → Verdict → (Refusal → A) → A → A
refused_or (Ok it) refused done = done
refused_or (Err reason) refused done = refused reason

-- it is a refusal
abbrev pub is_refused : {A : Type 0} → Result A Refusal → Bool
is_refused answered = is_err answered

-- ---- what is asked of an answer

-- by one look at all answers: an acknowledged source, a trigger with what it did to the maskable bit, or neither
abbrev pub kind_of : Answer → AnswerKind
kind_of (answer.Byte byte) = kind.Plain
kind_of (answer.Written lost) = kind.Plain
kind_of (answer.Triggered maskable top) = kind.Triggered maskable
kind_of answer.Nothing = kind.Plain
kind_of answer.TopLevel = kind.Plain
kind_of (answer.Interrupt source level vector) = kind.Acknowledged source
kind_of (answer.Transferred source ended) = kind.Plain
kind_of answer.Returned = kind.Plain
kind_of answer.Reset = kind.Plain

-- of what a step answers: a refusal is its own
abbrev pub answered_kind : Answered → Result AnswerKind Refusal
answered_kind (Ok answered) = Ok (kind_of answered)
answered_kind (Err reason) = Err reason

-- a source is acknowledged by an arbitration that answers it as an interrupt
abbrev pub kind_acknowledges : ℕ → AnswerKind → Bool
kind_acknowledges source kind.Plain = false
kind_acknowledges source (kind.Triggered maskable) = false
kind_acknowledges source (kind.Acknowledged acknowledged) = eqb acknowledged source

abbrev pub acknowledges : ℕ → Answered → Bool
acknowledges source (Ok answered) = kind_acknowledges source (kind_of answered)
acknowledges source (Err reason) = false
