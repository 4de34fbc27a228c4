use Rattle.holder_client.proofs.Shows.{files_of_folders}
use Rattle.holder_client.proofs.file_rows.allowed_files.Goals as goal

pub returns : goal.returns
returns c =
    files_of_folders c.in_ok-folders.folders c.in_ok-numbers.numbers c.args.sights.now c.args.entries.now c.args.files c.files_in.result c.in_ok-folders.ensures c.in_ok-numbers.ensures c.files_in.ensures
