use Rattle.folder_nodes.proofs.Tried.{files_inside, files_named}
use Rattle.folder_nodes.proofs.trying.files_to_try.Goals as goal

pub returns-then-are_at_most-clause-all : goal.returns-then-are_at_most-clause-all
returns-then-are_at_most-clause-all c =
    files_inside c.args.shape.now.tree c.args.names.now c.args.f c.args.name.now c.files_inside-inside.result c.files_inside-inside.ensures.all

pub returns-then-are_fewer-clause-all : goal.returns-then-are_fewer-clause-all
returns-then-are_fewer-clause-all c =
    files_named c.args.shape.now.tree c.args.names.now c.args.f c.args.name.now c.files_named-named.result c.requires c.files_named-named.ensures.all

pub returns-clause-all : goal.returns-clause-all
returns-clause-all c =
    files_inside c.args.shape.now.tree c.args.names.now c.args.f c.args.name.now c.files_inside-inside.result c.files_inside-inside.ensures.all
