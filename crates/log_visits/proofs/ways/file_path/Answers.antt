use Rattle.cry_base.specs.Store.{folder_names}
use Rattle.folder_nodes.specs.Titles.{tree_store}
use Rattle.log_visits.proofs.WayDown.{file_built}
use Rattle.log_visits.proofs.ways.file_path.Goals as goal

pub returns : goal.returns
returns c =
    file_built (folder_names (tree_store c.args.shape.now.tree c.args.names.now) c.args.folder.0) c.args.name.now c.new-path.result.items c.add_names.new.text.items c.append.new.self.items c.append-2.new.self.items
    c.new-path.ensures c.in_ok-add_names.ensures c.in_ok-append.ensures.items c.in_ok-append-2.ensures.items
