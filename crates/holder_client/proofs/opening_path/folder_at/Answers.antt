use Rattle.std.proofs.Common.{ap, ◌∙◌}
use Rattle.std.specs.Prelude.{option_map}
use Rattle.log_visits.specs.Asking.{line_at}
use Rattle.holder_client.specs.Lines.{plain_line}
use Rattle.holder_client.proofs.Besides.{plain_found}
use Rattle.holder_client.proofs.opening_path.folder_at.Goals as goal

pub returns : goal.returns
returns c = ap (option_map plain_line) c.line_at.ensures ∙ plain_found c.args.path.now c.in_ok-lines.lines.items ∙ ap (line_at c.args.path.now) c.in_ok-lines.ensures
