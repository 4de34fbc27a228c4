use Rattle.folder_nodes.proofs.Digested.{named_without}
use Rattle.folder_nodes.proofs.Titled.{titles_without}
use Rattle.folder_nodes.proofs.book.Book.take.Goals as goal

pub invariant_of-self : goal.invariant_of-self
invariant_of-self c = rw (c.remove.ensures.rows) (named_without c.self.inside.rows.rows c.self.invariant c.args.id)

pub returns-clause-titles : goal.returns-clause-titles
returns-clause-titles c =
    λ k. rw (← c.self.view_is) (titles_without c.self.inside.rows.rows c.remove.new.self.rows c.args.id c.remove.ensures.rows k)
