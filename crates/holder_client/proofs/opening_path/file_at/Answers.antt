use Rattle.std.proofs.Common.{List, ◌++◌, map, ap, ◌∙◌}
use Rattle.std.specs.Prelude.{option_map}
use Rattle.cry_base.specs.declared.client.Line.{Line}
use Rattle.folder_nodes.specs.Titles.{tree_store}
use Rattle.log_visits.specs.Asking.{line_at}
use Rattle.holder_client.specs.Lines.{plain_line, read_line}
use Rattle.holder_client.proofs.Besides.{plain_found}
use Rattle.holder_client.proofs.opening_path.file_at.Goals as goal

pub returns : goal.returns
returns c =
    ap (option_map plain_line) c.line_at.ensures
    ∙ plain_found c.args.path.now c.push_files.new.lines.items
    ∙ ap (line_at c.args.path.now)
    (c.in_ok-push_files.ensures ∙ ap (λ (l : List Line). map plain_line l ++ map (read_line (tree_store c.args.shape.now.tree c.args.names.now)) c.args.files.items) c.new-lines.ensures.items)
