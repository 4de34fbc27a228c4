use Rattle.folder_nodes.proofs.Digested.{titles_named}
use Rattle.folder_nodes.proofs.book.Book.are_names.Goals as goal

pub returns : goal.returns
returns c = rw (← c.self.view_is) (titles_named c.self.inside.rows.rows c.self.invariant)
