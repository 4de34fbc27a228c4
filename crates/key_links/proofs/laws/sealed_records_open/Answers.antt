use Rattle.key_links.proofs.SealedLemmas.{opens_link, opens_content}
use Rattle.key_links.proofs.laws.sealed_records_open.Goals as goal

pub returns : goal.returns
returns c = record { link = opens_link; content = opens_content }
