use Rattle.std.proofs.Common.{sym}
use Rattle.reader_laws.proofs.SpanLogs.{answer_is, answer_told, log_for}
use Rattle.reader_laws.proofs.log_laws.bytes_answer_once.Goals as goal

pub returns : goal.returns
returns c = λ who bytes. (log_for who bytes, answer_told who bytes, λ other told. sym (answer_is who bytes other told))
