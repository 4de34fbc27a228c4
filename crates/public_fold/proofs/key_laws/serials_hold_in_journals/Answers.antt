use Rattle.public_fold.proofs.SerialsKept.{journal_serials, journal_count}
use Rattle.public_fold.proofs.key_laws.serials_hold_in_journals.Goals as goal

pub returns : goal.returns
returns c = record { serials = journal_serials; count = journal_count }
