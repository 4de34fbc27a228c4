use Rattle.holder_client.proofs.Verdicts.{no_header}
use Rattle.holder_client.proofs.verdict_laws.cut_header_is_no_store.Goals as goal

pub returns : goal.returns
returns c = no_header
