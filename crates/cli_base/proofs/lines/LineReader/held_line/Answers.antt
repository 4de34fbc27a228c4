use Rattle.std.proofs.Common.{subst}
use Rattle.cli_base.specs.Lines.{FeedsLine, GivesCut, LineState}
use Rattle.cli_base.proofs.LineLemmas.{held_after, kept_after}
use Rattle.cli_base.proofs.lines.LineReader.held_line.Goals as goal

pub returns-clause-held : goal.returns-clause-held
returns-clause-held c =
    let s : LineState = c.args.self.now in
    let m : LineState = c.feed_line.new.self in
    let cut = subst (λ o. GivesCut o s c.cut_line.new.self) c.in_default.is c.in_ok-next.ensures.cut in
    let feeds : FeedsLine s m = subst (λ x. FeedsLine x m) cut.2 c.in_ok-feed_line.ensures.feeds in
    held_after c.cut_line-2.result s m c.cut_line-2.new.self feeds c.cut_line-2.ensures.cut

pub returns-clause-err : goal.returns-clause-err
returns-clause-err c =
    let s : LineState = c.args.self.now in
    let m : LineState = c.feed_line.new.self in
    let cut = subst (λ o. GivesCut o s c.cut_line.new.self) c.in_default.is c.in_ok-next.ensures.cut in
    let feeds : FeedsLine s m = subst (λ x. FeedsLine x m) cut.2 c.in_ok-feed_line.ensures.feeds in
    kept_after c.cut_line-2.result s m c.cut_line-2.new.self feeds c.cut_line-2.ensures.err
