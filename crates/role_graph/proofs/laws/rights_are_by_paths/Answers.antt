use Rattle.std.proofs.Common.{inl}
use Rattle.role_graph.proofs.Granting.{allowed_told, file_allowed_told, named_told, shown_told, open_told}
use Rattle.role_graph.proofs.laws.rights_are_by_paths.Goals as goal

pub returns : goal.returns
returns c = record { allowed_folders = allowed_told; named_folders = named_told; allowed_files = file_allowed_told; shown_nodes = shown_told; open_nodes = open_told; allowed_is_named = λ s h f a. inl a }
