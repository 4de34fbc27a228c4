use Rattle.std.proofs.Common.{◌≡◌, ◌+◌, arith, ap, ◌∙◌}
use Rattle.std.specs.Prelude.{slice_range}
use Rattle.commit_journal.proofs.Pieces.{side_by_side}
use Rattle.commit_journal.proofs.judge.payload_and_check.Goals as goal

pub returns : goal.returns
returns c =
    let end : 45 + c.args.size + 32 ≡ 77 + c.args.size = omega arith in
    ap (slice_range c.args.batch.now 45) end ∙ side_by_side c.args.batch.now 45 (45 + c.args.size) (77 + c.args.size) (omega arith) (omega arith)
