-- A DMA winner is the source of a record.
use Rattle.std.specs.Prelude.{Some}
use mathlib.Core.Path.{sym, ap, ◌∙◌}
use Rattle.rules.specs.Arbitration.{granted, arbitrate_of}
use Rattle.arbiter.proofs.SourceLaws.{dma_winner, interrupt_winner}
use Rattle.arbiter.proofs.arbitrate.Goals as goal

pub transfer-requires : goal.transfer-requires
transfer-requires c =
    let w = dma_winner _ _ _ (sym c.winner_of.ensures ∙ c.in-Some-Dma.is ∙ ap Some c.in-Some-Dma.field-0-is) in (w.1, w.0)

pub acknowledge-requires : goal.acknowledge-requires
acknowledge-requires c =
    interrupt_winner _ _ _ _ (sym c.winner_of.ensures ∙ c.in-Some-Interrupt.is ∙ ap Some c.in-Some-Interrupt.field-0-is)

pub returns-in-Some-Interrupt : goal.returns-in-Some-Interrupt
unfolding granted arbitrate_of
returns-in-Some-Interrupt c =
    simp (
      sym c.in_service.ensures ∙ c.if-in_service.false,
      sym c.top_level.ensures ∙ c.if-top_level.false,
      sym c.winner_of.ensures ∙ c.in-Some-Interrupt.is ∙ ap Some c.in-Some-Interrupt.field-0-is,
      c.acknowledge.ensures c.args.memory.now,
    )
