-- A channel list as bytes, steps as words and answers as numbers. They are ours, but for the refusals' numbers and the top level's vector 04h, which document 01
-- gives. Assumes nothing.
use Rattle.rules.specs.Bounds.{Bounded}
use Rattle.rules.specs.Outcomes.{Verdict, Answered}
use Rattle.std.specs.Prelude.{cond, List, [], ◌∷◌, ℕ, zero, suc, ◌/◌, ◌%◌, ◌^◌, eqb, length, get_or, drop, replicate, Option, Some, None, Ok, Err}
use Rattle.rules.specs.declared.Channel.{Channel}
use Rattle.rules.specs.declared.Trigger.{Trigger}
use Rattle.rules.specs.declared.Trigger.TheVariants as trigger
use Rattle.rules.specs.declared.Step.{Step}
use Rattle.rules.specs.declared.Step.TheVariants as step
use Rattle.rules.specs.declared.Refusal.{Refusal}
use Rattle.rules.specs.declared.Refusal.TheVariants as refusal
use Rattle.rules.specs.declared.Effect.{Effect}
use Rattle.rules.specs.declared.Effect.TheVariants as effect
use Rattle.rules.specs.declared.Answer.{Answer}
use Rattle.rules.specs.declared.Answer.TheVariants as answer
use Rattle.rules.specs.declared.RunRefusal.TheVariants as run_refused
use Rattle.rules.specs.declared.WaitEnd.TheVariants as wait
use Rattle.rules.specs.declared.WaitRefusal.TheVariants as wait_refused
use Rattle.rules.specs.declared.Basis.{Basis}
use Rattle.rules.specs.declared.Basis.TheVariants as basis
use Rattle.rules.specs.declared.NoBound.TheVariants as no_bound
use Rattle.rules.specs.declared.Flat.{Flat}
use Rattle.rules.specs.Channels.{most_records, no_channel}
use Rattle.rules.specs.Runs.{one_if, Ran, Waited}

-- ---- a list lent as bytes, as C has it

-- the bytes of a record
abbrev pub record_length : ℕ
record_length = 7

-- a record as seven bytes: page, IDCR, IVR, DCPR, DAPR, data, direction; records one after another
unfoldable pub bytes_of : List Channel → List ℕ
bytes_of [] = []
bytes_of (channel ∷ cs) =
    channel.page ∷ channel.idcr ∷ channel.ivr ∷ channel.dcpr ∷ channel.dapr ∷ channel.io ∷ channel.direction ∷ bytes_of cs

-- the record that the first seven bytes are
abbrev pub record_in : List ℕ → Channel
record_in bytes =
    record {
      page = get_or bytes 0 0;
      idcr = get_or bytes 1 0;
      ivr = get_or bytes 2 0;
      dcpr = get_or bytes 3 0;
      dapr = get_or bytes 4 0;
      io = get_or bytes 5 0;
      direction = get_or bytes 6 0;
    }

-- the n records that they begin with
unfoldable pub records_in : ℕ → List ℕ → List Channel
records_in zero bytes = []
records_in (suc n) bytes = record_in bytes ∷ records_in n (drop record_length bytes)

-- the list that bytes stand for: the one that they are the bytes of; one of thirteen records, which no rule allows, where their number is no multiple of seven
unfoldable pub list_in : List ℕ → List Channel
list_in bytes = cond (eqb (length bytes % record_length) 0) (records_in (length bytes / record_length) bytes) (replicate (suc most_records) no_channel)

-- ---- a step as a word: kind * 2^48 + trigger * 2^32 + first * 2^8 + second. A field that its step doesn't use is not looked at.

-- the kind of step, 16 bits
abbrev pub kind_field : ℕ → ℕ
kind_field word = word / 2 ^ 48

-- the kind of trigger, 16 bits
abbrev pub trigger_field : ℕ → ℕ
trigger_field word = word / 2 ^ 32 % 2 ^ 16

-- a register, a pin or a record, 24 bits
abbrev pub first_field : ℕ → ℕ
first_field word = word / 2 ^ 8 % 2 ^ 24

-- a value or a direction, 8 bits
abbrev pub second_field : ℕ → ℕ
second_field word = word % 2 ^ 8

-- 0 pin edge, 1 watchdog, 2 NMI edge, 3 channel request; any other is unknown
unfoldable pub trigger_by : ℕ → ℕ → ℕ → Trigger
trigger_by kind first second =
    cond (eqb kind 0) (trigger.Pin first second)
    (cond (eqb kind 1) trigger.Watchdog
    (cond (eqb kind 2) (trigger.Nmi second) (cond (eqb kind 3) (trigger.Request first) trigger.Unknown)))

-- 0 read, 1 write, 2 trigger, 3 arbitration, 4 return, 5 reset; any other is unknown
unfoldable pub step_by : ℕ → ℕ → ℕ → ℕ → Step
step_by kind trigger_kind first second =
    cond (eqb kind 0) (step.Read first)
    (cond (eqb kind 1) (step.Write first second)
    (cond (eqb kind 2) (step.Trigger (trigger_by trigger_kind first second))
    (cond (eqb kind 3) step.Arbitrate (cond (eqb kind 4) step.Return (cond (eqb kind 5) step.Reset step.Unknown)))))

-- the step that a word stands for
unfoldable pub decode_of : ℕ → Step
decode_of word = step_by (kind_field word) (trigger_field word) (first_field word) (second_field word)

-- the steps of a list of words
unfoldable pub steps_of : List ℕ → List Step
steps_of [] = []
steps_of (word ∷ words) = decode_of word ∷ steps_of words

-- ---- answers as numbers: a kind for each case, which is ours; document 01's number for a refusal; and the values of the case. Kind 0 is of an empty run, 1 to 10
-- are of a step; 11 is a run, a wait report or a bound refused before any step, 12 a run or a wait report refused at a step; 13 and 14 are of a wait report,
-- 15 to 25 of a bound. Two different answers of a call are told by different numbers (proofs/Told)

-- the refusal numbers
abbrev pub refusal_number : Refusal → ℕ
refusal_number refusal.Length = 1
refusal_number refusal.List = 2
refusal_number refusal.Register = 3
refusal_number refusal.Number = 4
refusal_number refusal.Address = 5
refusal_number refusal.Pointer = 6
refusal_number refusal.Kind = 7
refusal_number refusal.Memory = 8

-- 0 where nothing is refused
abbrev pub told_verdict : Verdict → ℕ
told_verdict (Ok it) = 0
told_verdict (Err reason) = refusal_number reason

-- 0 not selected, 1 raised, 2 merged
abbrev pub effect_number : Effect → ℕ
effect_number effect.NotSelected = 0
effect_number effect.Raised = 1
effect_number effect.Merged = 2

-- a kind, a refusal's number, steps, and three values
abbrev pub flat : ℕ → ℕ → ℕ → ℕ → ℕ → ℕ → Flat
flat kind refusal steps first second third = record { kind = kind; refusal = refusal; steps = steps; first = first; second = second; third = third }

-- an answer of a kind with its values, nothing refused
abbrev pub tell : ℕ → ℕ → ℕ → ℕ → Flat
tell kind first second third = flat kind 0 0 first second third

-- a refusal of a kind
abbrev pub tell_refused : ℕ → Refusal → Flat
tell_refused kind reason = flat kind (refusal_number reason) 0 0 0 0

-- of a step. A byte; the EIPR bits lost; the effects on the maskable bit and on TLIP; the top level's vector 04h; source, level and vector; source and
-- whether the block ended
abbrev pub told_answer : Answer → Flat
told_answer (answer.Byte byte) = tell 1 byte 0 0
told_answer (answer.Written lost) = tell 2 lost.eipr 0 0
told_answer (answer.Triggered maskable top) = tell 3 (effect_number maskable) (effect_number top) 0
told_answer answer.Nothing = tell 4 0 0 0
told_answer answer.TopLevel = tell 5 0 0 0x04
told_answer (answer.Interrupt source level vector) = tell 6 source level vector
told_answer (answer.Transferred source ended) = tell 7 source (one_if ended) 0
told_answer answer.Returned = tell 8 0 0 0
told_answer answer.Reset = tell 9 0 0 0

-- or a refusal
abbrev pub told : Answered → Flat
told (Ok answered) = told_answer answered
told (Err reason) = tell_refused 10 reason

-- the last answer of a run, if any
abbrev pub told_last : Option Answer → Flat
told_last None = tell 0 0 0 0
told_last (Some answered) = told_answer answered

-- of a run: the last answer with the steps done; a refusal has its number alone, or its number and its index
abbrev pub told_run : Ran → Flat
told_run (Err (run_refused.Before reason)) = tell_refused 11 reason
told_run (Err (run_refused.At reason index)) = flat 12 (refusal_number reason) index 0 0 0
told_run (Ok done) = let its = told_last done.last in flat its.kind its.refusal done.steps its.first its.second its.third

-- of a wait report: the arbitrations made; a refusal has its number alone, or its number, its index and the arbitrations before it
abbrev pub told_wait : Waited → Flat
told_wait (Err (wait_refused.Before reason)) = tell_refused 11 reason
told_wait (Err (wait_refused.At reason index arbitrations)) = flat 12 (refusal_number reason) index arbitrations 0 0
told_wait (Ok (wait.Ended arbitrations)) = tell 13 arbitrations 0 0
told_wait (Ok (wait.Acknowledged arbitrations)) = tell 14 arbitrations 0 0

-- what a write changed, by number
abbrev pub basis_number : Basis → ℕ
basis_number basis.Pending = 1
basis_number basis.Mode = 2
basis_number basis.CurrentLevel = 3
basis_number basis.TopLevel = 4
basis_number basis.Mask = 5
basis_number basis.DmaEnable = 6
basis_number basis.Level = 7

-- of a bound: a refusal's number; the index of a step, and what it changed; H, E and the bound
abbrev pub told_bound : Bounded → Flat
told_bound (Err (no_bound.Refused reason)) = tell_refused 11 reason
told_bound (Err no_bound.Nested) = tell 15 0 0 0
told_bound (Err no_bound.DmaEnabled) = tell 16 0 0 0
told_bound (Err no_bound.TopLevelEnabled) = tell 17 0 0 0
told_bound (Err no_bound.TopLevelInService) = tell 18 0 0 0
told_bound (Err no_bound.NotPending) = tell 19 0 0 0
told_bound (Err no_bound.Masked) = tell 20 0 0 0
told_bound (Err no_bound.LevelNotAbove) = tell 21 0 0 0
told_bound (Err (no_bound.OtherStep index)) = flat 22 0 index 0 0 0
told_bound (Err (no_bound.InterruptsDisabled index)) = flat 23 0 index 0 0 0
told_bound (Ok given) = tell 24 given.outranking given.triggers given.bound
told_bound (Err (no_bound.Changed basis index)) = flat 25 0 index (basis_number basis) 0 0
