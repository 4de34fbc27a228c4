use Rattle.std.proofs.Common.{sym, ◌∙◌}
use Rattle.cry_base.specs.Store.{folder_names}
use Rattle.folder_nodes.specs.Titles.{tree_store}
use Rattle.folder_nodes.proofs.Slashes.{is_nothing, is_something}
use Rattle.log_visits.proofs.WayDown.{folder_built, root_built}
use Rattle.group_book.proofs.Told.{folder_path_told}
use Rattle.group_book.proofs.paths.folder_path.Goals as goal

pub returns-then-not-is_empty : goal.returns-then-not-is_empty
returns-then-not-is_empty c =
    folder_built (folder_names (tree_store c.args.shape.now.tree c.args.names.now) c.args.f.0) c.new-path.result.items c.add_names.new.text.items
    c.new-path.ensures c.in_ok-add_names.ensures (λ none. is_something c.as_slice.result.now (sym c.if-not-is_empty.true ∙ c.is_empty.ensures) (c.as_slice.ensures ∙ none))
    ∙ folder_path_told c.args.shape.now.tree c.args.names.now c.args.f.0

pub returns : goal.returns
returns c =
    root_built (folder_names (tree_store c.args.shape.now.tree c.args.names.now) c.args.f.0) c.new-path.result.items c.add_names.new.text.items c.append.new.self.items
    c.new-path.ensures c.in_ok-add_names.ensures (sym c.as_slice.ensures ∙ is_nothing c.as_slice.result.now (sym c.if-not-is_empty.false ∙ c.is_empty.ensures)) c.in_ok-append.ensures.items
    ∙ folder_path_told c.args.shape.now.tree c.args.names.now c.args.f.0
