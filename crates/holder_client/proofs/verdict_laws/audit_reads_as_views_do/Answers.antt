use Rattle.holder_client.proofs.Verdicts.{same_reading}
use Rattle.holder_client.proofs.verdict_laws.audit_reads_as_views_do.Goals as goal

pub returns : goal.returns
returns c = same_reading
