use Rattle.std.proofs.Common.{◌∙◌}
use Rattle.grant_book.proofs.Looked.{of_holder}
use Rattle.grant_book.proofs.Ordered.{folders_rise}
use Rattle.grant_book.proofs.grants.Grants.grants_of.Goals as goal

pub returns-clause-grants : goal.returns-clause-grants
returns-clause-grants c =
    rw (← c.self.view_is) (c.rows_between.ensures.rows
    ∙ of_holder c.self.inside.checks.items c.self.inside.pairs.rows c.self.inside.on_folders.rows c.args.h.0 c.new-first.result c.new-last.result c.self.invariant c.new-first.ensures.grant c.new-last.ensures.grant)

pub returns-clause-ascending : goal.returns-clause-ascending
returns-clause-ascending c = folders_rise c.args.self.now.pairs c.args.h.0 c.pairs-pairs.ensures.ordered
