use Rattle.reader_laws.proofs.SpanEnds.{opened_back, opened_told}
use Rattle.reader_laws.proofs.log_laws.opened_logs_end_behind_their_spans.Goals as goal

pub returns : goal.returns
returns c = λ limit owner bytes log. (opened_told limit owner bytes log, λ told. opened_back limit owner bytes log told.0 told.1 told.2)
