use Rattle.key_links.proofs.SealedLemmas.{length-sealed_link, length-sealed_content}
use Rattle.key_links.proofs.laws.sealed_records_have_their_sizes.Goals as goal

pub returns : goal.returns
returns c = record { link = length-sealed_link; content = length-sealed_content }
