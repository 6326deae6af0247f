-- All records at once.
use Rattle.lent.proofs.CopyLaws.{put-all}
use Rattle.lent.proofs.copied.Goals as goal

pub returns : goal.returns
returns c = rw (c.copy_from_slice.ensures.after, c.capped.ensures) (put-all c.args.cs.now c.min-kept.result c.min-kept.ensures)
