use Rattle.reader_laws.proofs.Published.{may_publish}
use Rattle.reader_laws.proofs.laws.published_journals_are_valid.Goals as goal

pub returns : goal.returns
returns c = λ owner m bytes stands. may_publish owner bytes m stands.valid stands.whole_keys
