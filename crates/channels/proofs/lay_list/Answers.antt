use mathlib.Core.Bool.{false≢true}
use mathlib.Core.Path.{◌≡◌, ◌∙◌, sym, ap, subst}
use lib.ListN.{set}
use Prim.Native.Nat.{ℕ, ◌≤◌}
use native.Mathlib.Omega.{arith}
use Rattle.rules.specs.Channels.{most_records}
use Rattle.rules.proofs.ListLaws.{list_of-long}
use Rattle.rules.proofs.Twelve.{twelve}
use Rattle.channels.proofs.MetLaws.{Checked, checked_none, checked_out, checked_twice, checked_turn, checked_ok, checked_masks}
use Rattle.channels.proofs.FilledLaws.{Filled, filled_none, filled_turn, filled_all}
use Rattle.channels.proofs.lay_list.Goals as goal

pub returns-then-all-gt-MOST_RECORDS : goal.returns-then-all-gt-MOST_RECORDS
returns-then-all-gt-MOST_RECORDS c =
    let all = c.args.all in
    (sym (list_of-long all (twelve all _ c.well_formed.0) (omega (arith, c.if-all-gt-MOST_RECORDS.true))), λ e. absurd (false≢true e))

pub loop-k-init : goal.loop-k-init
loop-k-init c =
    let all = c.args.all in
    let full = twelve all _ c.well_formed.0 in
    let short : all.count ≤ most_records = omega (arith, c.if-all-gt-MOST_RECORDS.false) in
    record {
      short = short;
      full = full;
      checked = rw c.requires.0 (checked_none all full short);
      filled = rw c.requires.1 (filled_none all);
    }

pub returns-then-not-record_ok : goal.returns-then-not-record_ok
returns-then-not-record_ok c =
    let i = c.loop-k.invariant in (
      sym (checked_out _ i.full i.short _ _ i.checked c.loop-k-test.true (sym c.record_ok.ensures ∙ c.if-not-record_ok.true)),
      λ e. absurd (false≢true e),
    )

pub returns-then-not-see_record : goal.returns-then-not-see_record
returns-then-not-see_record c =
    let i = c.loop-k.invariant in (
      sym (checked_twice _ i.full i.short _ _ i.checked c.loop-k-test.true (sym c.record_ok.ensures ∙ c.if-not-record_ok.false) _ c.row_of-row.ensures.0 _ c.row_of-row.ensures.1 _ _
          c.see_record.ensures c.if-not-see_record.true),
      λ e. absurd (false≢true e),
    )

pub loop-k-preserved : goal.loop-k-preserved
loop-k-preserved c =
    let i = c.loop-k.invariant in
    record {
      short = i.short;
      full = i.full;
      checked = checked_turn _ i.full i.short _ _ i.checked c.loop-k-test.true (sym c.record_ok.ensures ∙ c.if-not-record_ok.false) _ c.row_of-row.ensures.0 _ c.row_of-row.ensures.1 _ _
          c.see_record.ensures c.if-not-see_record.false;
      filled = filled_turn _ _ _ _ (omega (arith, c.loop-k-test.true, i.short)) i.filled (ap (set c.loop-k.places c.loop-k.k) c.bytes_of.ensures);
    }

pub returns : goal.returns
returns c =
    let all = c.args.all in
    let i = c.loop-k.invariant in
    let e : c.loop-k.k ≡ all.count = omega (arith, c.loop-k.auto.k-end) in
    let checked = subst (λ (k : ℕ). Checked all k c.loop-k.masks) e i.checked in (
      sym (checked_ok all i.full i.short _ checked),
      λ _. (checked_masks all i.full i.short _ checked, filled_all all i.full i.short _ (subst (Filled all c.loop-k.places) e i.filled)),
    )
