use Rattle.commit_journal.proofs.KeptLemmas.{kept_then}
use Rattle.commit_journal.specs.Standing.{StandsFor}
use Rattle.commit_journal.proofs.keeping.kept_by_two_calls.Goals as goal

pub returns : goal.returns
returns g c owner low high reached a b further first start order goes lower second more kept next =
    kept_then (StandsFor owner) low high reached a b further start first _ _ order goes lower second more kept next
