use Rattle.forgery_laws.proofs.Refused.{content_refused, link_refused}
use Rattle.forgery_laws.proofs.laws.changed_records_are_refused.Goals as goal

pub returns : goal.returns
returns c = record { link = link_refused; content = content_refused }
