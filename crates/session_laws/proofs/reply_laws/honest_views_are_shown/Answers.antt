use Rattle.session_laws.proofs.LinesReplied.{honest_told}
use Rattle.session_laws.proofs.reply_laws.honest_views_are_shown.Goals as goal

pub returns : goal.returns
returns c = honest_told
