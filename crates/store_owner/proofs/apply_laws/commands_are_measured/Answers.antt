use Rattle.std.specs.Prelude.{not, replicate}
use Rattle.std.proofs.Common.{refl}
use Rattle.folder_nodes.specs.Titles.{tree_store}
use Rattle.store_owner.proofs.Measured.{draws_told, end_told, few_told, fits_told, payload_told, suits_journal}
use Rattle.store_owner.proofs.apply_laws.commands_are_measured.Goals as goal

pub returns-clause-payload : goal.returns-clause-payload
returns-clause-payload c = λ m r o s is fine skeleton.
    payload_told m (not o.journal.has_epoch) r (replicate 32 0) o.file_bytes (tree_store o.state.tree o.names) is.valid is.tree refl fine s skeleton

pub returns-clause-draws : goal.returns-clause-draws
returns-clause-draws c = λ m r o s is fine skeleton. draws_told m (not o.journal.has_epoch) r (replicate 32 0) o.file_bytes fine s skeleton

pub returns-clause-end : goal.returns-clause-end
returns-clause-end c = end_told

pub returns-clause-fits : goal.returns-clause-fits
returns-clause-fits c = λ m d o is bound suits fine not_fit. fits_told m o.journal.has_epoch d o.file_bytes (replicate 32 0) is.valid bound fine (suits_journal m o d is suits) not_fit

pub returns-clause-few : goal.returns-clause-few
returns-clause-few c = λ m d o is bound fine low. few_told m o.journal.has_epoch d o.file_bytes is.valid fine low
