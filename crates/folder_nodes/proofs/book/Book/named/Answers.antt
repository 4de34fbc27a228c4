use Rattle.std.proofs.Common.{map}
use Rattle.folder_nodes.specs.declared.spots.Spot.{Spot}
use Rattle.folder_nodes.proofs.Digested.{titles_grouped}
use Rattle.folder_nodes.proofs.book.Book.named.Goals as goal

pub returns-clause-all : goal.returns-clause-all
returns-clause-all c =
    rw (← c.self.view_is) (titles_grouped c.self.inside.rows.rows c.self.invariant (map (λ (q : Spot). q.id) c.in_group.result) c.args.name.now c.digest_of.result c.digest_of.ensures c.in_group.ensures.all)
