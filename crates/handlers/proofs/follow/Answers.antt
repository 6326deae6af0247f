-- A write is followed by itself, one of R0 to R239 but CICR without a look at the image; any other step by its answer and by whether it is an
-- arbitration with interrupts disabled.
use mathlib.Core.Path.{◌≡◌, sym, ap, ap₂, ◌∙◌}
use mathlib.Core.Bool.{Bool, not, ◌&&◌}
use native.Mathlib.Omega.{arith}
use lib.ListN.{length}
use Rattle.rules.specs.Image.{image_length}
use Rattle.rules.specs.Runs.{one_if}
use Rattle.rules.proofs.Counting.{byte_one}
use Rattle.runs.proofs.RunSteps.{as_decoded}
use Rattle.handlers.proofs.FollowLaws.{follows_file, follows_call}
use Rattle.handlers.proofs.follow.Goals as goal

pub returns-then-is_file_write : goal.returns-then-is_file_write
returns-then-is_file_write c =
    let x = c.decode-step.ensures in
    let long : length c.args.copy.now ≡ image_length = omega arith in
    rw (← x) (follows_file _ _ _ _ _ _ _ _ (as_decoded _ _ x c.perform_alone-answer.ensures) long c.args.laid.now.places.ok c.requires
    (sym c.is_file_write.ensures ∙ c.if-is_file_write.true))

pub returns : goal.returns
returns c =
    let x = c.decode-step.ensures in
    rw (← x) (follows_call _ _ _ _ _ _ _ _ (as_decoded _ _ x c.perform_alone-answer-2.ensures) c.args.laid.now.places.ok (sym c.is_write.ensures ∙ c.if-is_write.false) _ _ _
    (ap₂ (λ (x y : Bool). x && not y) c.is_arbitration.ensures c.has_bit.ensures) c.broken_call-broken.ensures (c.from-more.ensures ∙ byte_one c.is_rival_trigger.result ∙ ap one_if c.is_rival_trigger.ensures))
