use Rattle.grant_book.proofs.Counted.{on_files}
use Rattle.grant_book.proofs.grants.Grants.on_files.Goals as goal

pub returns : goal.returns
returns c =
    rw (← c.self.view_is) (on_files c.self.inside.checks.items c.self.inside.pairs.rows c.self.inside.on_folders.rows c.self.invariant c.new.result c.new-2.result c.rows_between.result.now
    c.new.ensures.grant c.new-2.ensures.grant c.rows_between.ensures.rows c.rows_between.ensures.rising c.as_slice-pairs.ensures.rising)
