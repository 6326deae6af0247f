-- Document 01, "Triggers": which bits a trigger selects, what it answers for each, and when it is refused.
-- Assumes nothing.
use Rattle.std.specs.Prelude.{Bool, true, false, cond, not, ◌&&◌, ◌||◌, List, ℕ, ◌+◌, eqb, ltb, length, Ok, Err}
use Rattle.std.proofs.Math.Option.{Option, none, some}
use Rattle.rules.specs.declared.Channel.{Channel}
use Rattle.rules.specs.declared.Trigger.{Trigger}
use Rattle.rules.specs.declared.Trigger.TheVariants as trigger
use Rattle.rules.specs.declared.Effect.{Effect}
use Rattle.rules.specs.declared.Effect.TheVariants as effect
use Rattle.rules.specs.declared.Answer.TheVariants as answer
use Rattle.rules.specs.declared.Refusal.TheVariants as refusal
use Rattle.rules.specs.Image.{Image, bit_of, has, put, EITR, TLIP, TLTEV, TLIS, IAOS}
use Rattle.rules.specs.Outcomes.{Outcome, outcome, Answered, refuse, refused_unless, refused_where, refused_or, Verdict, accepted}
use Rattle.rules.specs.Sources.{pending_bit, pending}

-- 4 for a pin over 7, a direction over 1 or a record that isn't there, 7 for an unknown kind
unfoldable pub trigger_verdict : List Channel → Trigger → Verdict
trigger_verdict cs (trigger.Pin k d) = refused_where (ltb 7 k || ltb 1 d) refusal.Number accepted
trigger_verdict cs trigger.Watchdog = accepted
trigger_verdict cs (trigger.Nmi d) = refused_where (ltb 1 d) refusal.Number accepted
trigger_verdict cs (trigger.Request k) = refused_unless (ltb k (length cs)) refusal.Number accepted
trigger_verdict cs trigger.Unknown = Err refusal.Kind

-- direction d (0 falling, 1 rising) is the one that a bit selects (1 rising)
abbrev pub edge : ℕ → Bool → Bool
edge d rising = eqb d (cond rising 1 0)

-- the source whose EIPR or IP bit the trigger selects. Pin k if the direction matches EITR bit k, pin 0 only with IAOS = 1;
-- the watchdog's end of count bit 0 if IAOS = 0; channel request k IP of record k
unfoldable pub selects : Image → Trigger → Option ℕ
selects m (trigger.Pin k d) = cond (edge d (has m (bit_of EITR k)) && (not (eqb k 0) || has m IAOS)) (some k) none
selects m trigger.Watchdog = cond (not (has m IAOS)) (some 0) none
selects m (trigger.Nmi d) = none
selects m (trigger.Request k) = some (8 + k)
selects m trigger.Unknown = none

-- it selects TLIP: the watchdog if TLIS = 0, an NMI edge if TLIS = 1 and the direction matches TLTEV
unfoldable pub selects_top : Image → Trigger → Bool
selects_top m (trigger.Pin k d) = false
selects_top m trigger.Watchdog = not (has m TLIS)
selects_top m (trigger.Nmi d) = has m TLIS && edge d (has m TLTEV)
selects_top m (trigger.Request k) = false
selects_top m trigger.Unknown = false

-- raised, or merged where the bit is already 1
abbrev pub effect_on : Bool → Effect
effect_on already = cond already effect.Merged effect.Raised

-- what a trigger answers for the maskable bit
unfoldable pub source_effect : Image → List Channel → Option ℕ → Effect
source_effect m cs none = effect.NotSelected
source_effect m cs (some source) = effect_on (pending m cs source)

-- what it does to the maskable bit
unfoldable pub raise_source : Image → List Channel → Option ℕ → Image
raise_source m cs none = m
raise_source m cs (some source) = put m (pending_bit cs source) true

-- what it answers for TLIP
unfoldable pub top_effect : Image → Bool → Effect
top_effect m selected = cond selected (effect_on (has m TLIP)) effect.NotSelected

-- what it does to TLIP
unfoldable pub raise_top : Image → Bool → Image
raise_top m selected = cond selected (put m TLIP true) m

-- the bits that it selects are set, and answered for separately
unfoldable pub fired : Image → List Channel → Option ℕ → Bool → Outcome Answered Image
fired m cs selected top = outcome (Ok (answer.Triggered (source_effect m cs selected) (top_effect m top))) (raise_top (raise_source m cs selected) top)

-- a trigger: refused with 4 or 7, or answered for both bits
unfoldable pub trigger_of : Image → List Channel → Trigger → Outcome Answered Image
trigger_of m cs t = refused_or (trigger_verdict cs t) (λ reason. refuse reason m) (fired m cs (selects m t) (selects_top m t))
