use Rattle.cry_base.proofs.Versions.{file_number, file_of_folder, file_of_number}
use Rattle.cry_base.proofs.laws.clear_numbers_name_files.Goals as goal

pub returns : goal.returns
returns c = record { file = file_of_number; folder = file_of_folder; only = file_number }
