-- Some number of the range passes the test where some source does.
use mathlib.Core.Path.{◌≡◌, refl, ◌∙◌}
use native.Mathlib.Omega.{arith}
use Rattle.std.specs.List.{list_any, range_with_len}
use Rattle.std.proofs.Common.{rules, tests, zero-add}
use Rattle.std.proofs.lemmas.Iterator.{YieldsList-from_range}
use Rattle.std.proofs.lemmas.Iterator.Search.{any_from_yields_List}
use Rattle.rules.specs.Sources.{sources}
use Rattle.rules.specs.Bounds.{any_below}
use Rattle.sources.proofs.SourceRanges.{any_range}
use Rattle.handlers.specs.Handled.{source_changes}
use Rattle.handlers.proofs.changes.any_changed.Goals as goal

pub returns : goal.returns
unfolding any_below
returns c =
    let cs = c.args.places.now.all.now in
    let test = source_changes cs c.args.before.now c.args.after.now c.args.basis in
    let end = c.source_count.result in
    let e : c.any.result ≡ list_any test (range_with_len 0 end)
    = any_from_yields_List test _ _ _ c.any.ensures.ran (YieldsList-from_range 0 end end refl (omega arith)) (λ x b q k. search (rules, tests)) in
    e ∙ any_range test 0 end (sources cs) (zero-add end ∙ c.source_count.ensures) refl
