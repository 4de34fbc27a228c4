use Rattle.key_links.proofs.Ringing.{key_numbered}
use Rattle.key_links.proofs.laws.keys_of_a_ring_have_their_numbers.Goals as goal

pub returns : goal.returns
returns c = key_numbered
