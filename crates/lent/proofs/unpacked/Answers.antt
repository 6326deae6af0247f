use Rattle.std.proofs.Common.{◌≡◌, ◌≢◌, ◌∙◌, sym, ◌%◌, length}
use Rattle.std.proofs.lemmas.Bool.{eqb-true, eqb-false}
use Rattle.rules.specs.Encodings.{record_length}
use Rattle.lent.proofs.CopyLaws.{blank-rest, blank-none, put-chunk, put-chunks}
use Rattle.lent.proofs.unpacked.Goals as goal

pub returns-then-not-is_empty : goal.returns-then-not-is_empty
returns-then-not-is_empty c =
    let rest : length c.args.bytes.now % record_length ≢ 0 =
    λ e. eqb-false _ _ (sym c.is_empty.ensures ∙ c.if-not-is_empty.true) (c.as_chunks.ensures.back_len ∙ e) in
    c.blank.ensures ∙ blank-rest c.args.bytes.now rest

pub returns-then-is_empty : goal.returns-then-is_empty
returns-then-is_empty c =
    let whole : length c.args.bytes.now % record_length ≡ 0 = sym c.as_chunks.ensures.back_len ∙ eqb-true _ _ (sym c.is_empty.ensures ∙ c.if-not-is_empty.false) in
    let none : length c.as_chunks.result.0.now ≡ 0 = eqb-true _ _ (sym c.is_empty-2.ensures ∙ c.if-is_empty.true) in
    c.blank-then-is_empty.ensures ∙ blank-none c.args.bytes.now c.as_chunks.result.0.now whole c.as_chunks.ensures.front none

pub loop-i-preserved : goal.loop-i-preserved
loop-i-preserved c =
    let whole : length c.args.bytes.now % record_length ≡ 0 = sym c.as_chunks.ensures.back_len ∙ eqb-true _ _ (sym c.is_empty.ensures ∙ c.if-not-is_empty.false) in
    rw (c.loop-i.invariant, c.record_of.ensures)
    (put-chunk c.args.bytes.now c.as_chunks.result.0.now whole c.as_chunks.ensures.front c.min-kept.result c.min-kept.ensures c.loop-i.i c.loop-i-test.true)

pub returns : goal.returns
returns c =
    let whole : length c.args.bytes.now % record_length ≡ 0 = sym c.as_chunks.ensures.back_len ∙ eqb-true _ _ (sym c.is_empty.ensures ∙ c.if-not-is_empty.false) in
    rw (c.loop-i.invariant, c.capped.ensures)
    (put-chunks c.args.bytes.now c.as_chunks.result.0.now whole c.as_chunks.ensures.front c.min-kept.result c.min-kept.ensures c.loop-i.i c.loop-i.auto.i-end c.loop-i-test.false)
