use Rattle.folder_nodes.proofs.Tried.{folders_inside, folders_named}
use Rattle.folder_nodes.proofs.trying.folders_to_try.Goals as goal

pub returns-then-are_at_most-clause-all : goal.returns-then-are_at_most-clause-all
returns-then-are_at_most-clause-all c =
    folders_inside c.args.shape.now.tree c.args.names.now c.args.f c.args.name.now c.folders_inside-inside.result c.folders_inside-inside.ensures.all

pub returns-then-are_fewer-clause-all : goal.returns-then-are_fewer-clause-all
returns-then-are_fewer-clause-all c =
    folders_named c.args.shape.now.tree c.args.names.now c.args.f c.args.name.now c.folders_named-named.result c.requires c.folders_named-named.ensures.all

pub returns-clause-all : goal.returns-clause-all
returns-clause-all c =
    folders_inside c.args.shape.now.tree c.args.names.now c.args.f c.args.name.now c.folders_inside-inside.result c.folders_inside-inside.ensures.all
