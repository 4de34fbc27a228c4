use Rattle.folder_nodes.specs.Titles.{tree_store}
use Rattle.holder_client.proofs.Sorted.{view_made}
use Rattle.holder_client.proofs.lines.view_lines.Goals as goal

pub returns : goal.returns
returns c =
    view_made (tree_store c.args.shape.now.tree c.args.names.now) c.args.sights.now c.args.files.items c.in_ok-lines.lines.items c.push_files.new.lines.items c.sort.new.lines.items c.to_list.result
    c.in_ok-lines.ensures c.in_ok-push_files.ensures c.in_ok-sort.ensures c.to_list.ensures
