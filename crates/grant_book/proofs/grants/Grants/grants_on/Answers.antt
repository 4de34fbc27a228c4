use Rattle.grant_book.specs.Granted.{AreOrdered}
use Rattle.grant_book.proofs.Looked.{on_folder}
use Rattle.grant_book.proofs.Ordered.{holders_rise}
use Rattle.grant_book.proofs.grants.Grants.grants_on.Goals as goal

pub returns-clause-grants : goal.returns-clause-grants
returns-clause-grants c =
    let order : AreOrdered c.self.inside.pairs.rows = rw (← c.self.view_is) at c.pairs-pairs.ensures.ordered in
    rw (← c.self.view_is) (on_folder c.self.inside.checks.items c.self.inside.pairs.rows c.self.inside.on_folders.rows c.args.f.0 c.self.invariant order c.new.result c.new-2.result c.rows_between.result.now
    c.new.ensures.grant c.new-2.ensures.grant c.rows_between.ensures.rows c.rows_between.ensures.rising)

pub returns-clause-ascending : goal.returns-clause-ascending
returns-clause-ascending c = holders_rise c.args.self.now.pairs c.args.f.0 c.pairs-pairs.ensures.ordered
