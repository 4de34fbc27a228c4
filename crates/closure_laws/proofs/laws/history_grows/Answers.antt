use Rattle.closure_laws.proofs.Growing.{history_more, derives_more}
use Rattle.closure_laws.proofs.laws.history_grows.Goals as goal

pub returns : goal.returns
returns c = record { published = history_more; derived = derives_more }
