use Rattle.log_visits.proofs.Lasts.{link_noted}
use Rattle.log_visits.proofs.last_links.note_link.Goals as goal

pub returns : goal.returns
returns c = link_noted c.args.last.now c.insert.new.self c.head_of.result c.args.found c.head_of.ensures c.in_ok-insert.ensures.updates.0
