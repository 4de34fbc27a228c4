use Rattle.secrecy_laws.proofs.Secrets.{journal_holds, journal_below, journal_trails}
use Rattle.secrecy_laws.proofs.journal_laws.keys_are_traced_in_journals.Goals as goal

pub returns : goal.returns
returns c = record { holds = journal_holds; below = journal_below; trails = journal_trails }
