use Rattle.std.proofs.Common.{◌∙◌, ap, sym}
use Rattle.cry_base.specs.Naming.{is_name}
use Rattle.cry_base.specs.Refusing.{holds_name}
use Rattle.folder_nodes.specs.Titles.{tree_store}
use Rattle.folder_nodes.proofs.Located.{name_found}
use Rattle.folder_nodes.proofs.Slashes.{path_parts}
use Rattle.folder_nodes.proofs.place.has_name_of.Goals as goal

pub has_named-requires : goal.has_named-requires
has_named-requires c = ap is_name c.last_piece.ensures ∙ (path_parts c.args.path.now c.requires.form c.requires.other).1

pub returns : goal.returns
returns c =
    c.has_named.ensures
    ∙ ap (holds_name (tree_store c.args.shape.now.tree c.args.names.now) c.args.into.0) (c.last_piece.ensures ∙ sym (name_found c.args.shape.now.tree c.args.names.now c.is_tree.ensures c.args.path.now c.requires.form c.requires.other c.are_names.ensures.folders c.are_names.ensures.files c.requires.found))
