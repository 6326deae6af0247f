-- The external channels have no DMA enabled, so that the records decide.
use mathlib.Core.Path.{◌≡◌, refl, ◌∙◌}
use Prim.Native.Nat.{◌-◌}
use native.Mathlib.Omega.{arith}
use Rattle.std.specs.List.{list_any, range_with_len}
use Rattle.std.proofs.Common.{rules, tests}
use Rattle.std.proofs.lemmas.Iterator.{YieldsList-from_range}
use Rattle.std.proofs.lemmas.Iterator.Search.{any_from_yields_List}
use Rattle.rules.specs.Sources.{sources, dma_enabled}
use Rattle.rules.proofs.AnyBelow.{any_none}
use Rattle.sources.proofs.SourceReads.{external_without}
use Rattle.sources.proofs.SourceRanges.{any_range}
use Rattle.sources.proofs.any_dma.Goals as goal

pub returns : goal.returns
unfolding sources
returns c =
    let m = c.args.image.now in
    let cs = c.args.places.now.all.now in
    let end = c.source_count.result in
    let e : c.any.result ≡ list_any (dma_enabled m cs) (range_with_len 8 (end - 8))
    = any_from_yields_List (dma_enabled m cs) _ _ _ c.any.ensures.ran (YieldsList-from_range 8 end (end - 8) refl refl) (λ x b q k. search (rules, tests)) in
    e ∙ any_range (dma_enabled m cs) 8 (end - 8) (sources cs) (omega (arith, c.source_count.ensures)) (any_none _ 8 (external_without m cs))
