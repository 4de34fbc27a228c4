use Rattle.log_visits.proofs.IndexKept.{nothing_indexed}
use Rattle.log_visits.proofs.Starts.{no_starts}
use Rattle.log_visits.proofs.index.Index.new.Goals as goal

pub returns-clause-index : goal.returns-clause-index
returns-clause-index c = nothing_indexed _ c.with_hasher.ensures.empty c.with_hasher-2.ensures.empty

pub returns-clause-starts : goal.returns-clause-starts
returns-clause-starts c = no_starts c.with_hasher-2.result c.with_hasher-2.ensures.empty
