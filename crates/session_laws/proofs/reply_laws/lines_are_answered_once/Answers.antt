use Rattle.session_laws.proofs.LinesReplied.{answered_on, one_text}
use Rattle.session_laws.proofs.reply_laws.lines_are_answered_once.Goals as goal

pub returns : goal.returns
returns c = record { once = one_text; follow = answered_on }
