use Rattle.std.proofs.Common.{◌≡◌, IfOk, subst}
use Rattle.cry_base.specs.Store.{path_of}
use Rattle.cry_base.specs.declared.roles.Node.{Node}
use Rattle.folder_nodes.specs.Titles.{tree_store}
use Rattle.group_book.proofs.Told.{file_is, file_node_told, folder_node_told, no_file}
use Rattle.group_book.proofs.paths.granted_path.Goals as goal

pub returns-in-Some : goal.returns-in-Some
returns-in-Some c =
    subst (λ (node : Node). IfOk c.file_path.result (λ path. path.items ≡ path_of (tree_store c.args.shape.now.tree c.args.names.now) node))
    (file_node_told c.args.number.0 c.in-Some.file.0 (file_is c.args.number.0 c.in-Some.file c.in-Some.ensures.value))
    c.file_path.ensures

pub returns-in-None : goal.returns-in-None
returns-in-None c =
    subst (λ (node : Node). IfOk c.folder_path.result (λ path. path.items ≡ path_of (tree_store c.args.shape.now.tree c.args.names.now) node))
    (folder_node_told c.args.number (no_file c.args.number.0 c.in-None.ensures.value))
    c.folder_path.ensures
