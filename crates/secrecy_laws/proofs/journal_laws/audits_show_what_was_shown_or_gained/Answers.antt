use Rattle.secrecy_laws.proofs.Seeing.{fairly_seen}
use Rattle.secrecy_laws.proofs.journal_laws.audits_show_what_was_shown_or_gained.Goals as goal

pub returns : goal.returns
returns c = fairly_seen
