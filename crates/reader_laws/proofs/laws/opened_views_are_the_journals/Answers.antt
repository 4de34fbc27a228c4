use Rattle.reader_laws.proofs.ValidReaders.{view_read}
use Rattle.reader_laws.proofs.laws.opened_views_are_the_journals.Goals as goal

pub returns : goal.returns
returns c = view_read
