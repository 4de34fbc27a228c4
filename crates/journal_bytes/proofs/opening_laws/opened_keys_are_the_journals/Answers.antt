use Rattle.journal_bytes.proofs.OpenedKeys.{holder_drawn, journal_drawn, owner_opens}
use Rattle.journal_bytes.proofs.opening_laws.opened_keys_are_the_journals.Goals as goal

pub returns : goal.returns
returns c = record {
  owner = owner_opens;
  anyone = λ owner m valid whole visits before after drawn done. journal_drawn owner m valid whole visits before after drawn done;
  holder = holder_drawn;
}
