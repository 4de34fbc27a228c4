use Rattle.reader_laws.proofs.ValidReaders.{all_read, files_read, names_read}
use Rattle.reader_laws.proofs.laws.readers_visits_never_fail.Goals as goal

pub returns : goal.returns
returns c = record { names = names_read; files = files_read; all = all_read }
