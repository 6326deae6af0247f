-- Reads and writes as steps: a read leaves what it got, and gives back what a write stored. No marked example has a read. Assumes nothing.
use Rattle.std.specs.Prelude.{Ok}
use mathlib.Core.Path.{◌≡◌, refl, ◌∙◌}
use mathlib.Core.Logic.{◌≢◌}
use mathlib.Core.List.{List}
use mathlib.Core.Bool.{true}
use Prim.Native.Nat.{ℕ, ◌<◌}
use lib.ListN.{length}
use Rattle.rules.specs.declared.Channel.{Channel}
use Rattle.rules.specs.declared.Step.TheVariants as step
use Rattle.rules.specs.declared.Answer.TheVariants as answer
use Rattle.rules.specs.Image.{image_length, Fits, at, PPR, NICR}
use Rattle.rules.specs.Channels.{list_ok}
use Rattle.rules.specs.Outcomes.{State, state, Outcome, Answered}
use Rattle.rules.specs.Registers.{At, place_of, write_of}
use Rattle.rules.specs.Steps.{lent_verdict, act_of, step_of}
use Rattle.rules.proofs.Verdicts.{verdict_elim}
use Rattle.rules.proofs.Refusals.{accepted-acts}
use Rattle.rules.proofs.WriteLaws.{write-length, read-written}

-- a read changes nothing, refused or not
pub read-leaves : (s : State) (cs : List Channel) (r : ℕ) → (step_of s cs (step.Read r)).left ≡ s
unfolding step_of act_of
read-leaves s cs r = verdict_elim (λ (o : Outcome Answered State). o.left ≡ s) (lent_verdict s cs) (λ e. refl) (λ q e. refl)

-- a read after a write to a register of eight bits answers what was written, NICR and PPR apart
pub read_back : (s : State) (cs : List Channel) (r i v : ℕ) → length s.image ≡ image_length → list_ok cs ≡ true → Fits s.memory → at s.image PPR < 256
    → place_of s.image cs r ≡ At i 0xff → i ≢ NICR → i ≢ PPR → v < 256
    → (step_of (step_of s cs (step.Write r v)).left cs (step.Read r)).answer ≡ (Ok (answer.Byte v))
unfolding act_of
read_back s cs r i v long ok fits byte placed nicr ppr hv =
    let after = (write_of s.image cs r v).left in
    rw (accepted-acts s cs (step.Write r v) long ok fits, accepted-acts (state after s.memory) cs (step.Read r) (write-length s.image cs r i 0xff v placed ∙ long) ok fits)
    (read-written s.image cs r i 0xff long byte placed v hv refl nicr ppr)
