use Rattle.forgery_laws.proofs.Audits.{answer_audited}
use Rattle.forgery_laws.proofs.Lines.{line_opened, lines_listed}
use Rattle.forgery_laws.proofs.laws.changed_stores_show_what_was_written.Goals as goal

pub returns : goal.returns
returns c = record { listed = lines_listed; opened = line_opened; audited = answer_audited }
