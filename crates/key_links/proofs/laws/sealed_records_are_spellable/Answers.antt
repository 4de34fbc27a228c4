use Rattle.key_links.proofs.SealedLemmas.{link_spellable, content_spellable}
use Rattle.key_links.proofs.laws.sealed_records_are_spellable.Goals as goal

pub returns : goal.returns
returns c = record { link = link_spellable; content = content_spellable }
