use Rattle.std.proofs.Common.{refl}
use Rattle.holder_client.proofs.Adding.{read_nothing}
use Rattle.holder_client.proofs.log_reader.ReaderKeeps.new.Goals as goal

pub returns-clause-read : goal.returns-clause-read
returns-clause-read c = read_nothing _ refl c.new-2.ensures.index c.new-3.ensures.empty c.in_ok-state.ensures
