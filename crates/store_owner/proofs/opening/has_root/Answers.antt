use Rattle.std.proofs.Common.{ap, ◌∙◌}
use Rattle.std.specs.Prelude.{is_some}
use Rattle.cry_base.specs.Store.{folder_entry}
use Rattle.store_owner.proofs.OpenedContents.{root_seen}
use Rattle.store_owner.proofs.opening.has_root.Goals as goal

pub returns : goal.returns
returns c = λ at seen. c.has_folder.ensures ∙ ap (λ t. is_some (folder_entry t 1)) c.shape.ensures ∙ root_seen c.args.state.now at seen
