use Rattle.std.proofs.Common.{◌∙◌, sym}
use Rattle.cry_base.specs.Limits.{most_store_bytes}
use Rattle.commit_journal.proofs.Writers.{opened_as_read}
use Rattle.reader_laws.specs.Spans.{HolderReads, OwnerReads, OwnerWrites}
use Rattle.reader_laws.proofs.SpanLogs.{answer_both}
use Rattle.reader_laws.proofs.log_laws.walks_answer_by_spans.Goals as goal

pub returns : goal.returns
returns c = record {
  owner = λ owner bytes answer. answer_both (OwnerReads owner) bytes answer;
  holder = λ bytes answer. answer_both HolderReads bytes answer;
  writer = λ owner bytes answer.
      let both = answer_both (OwnerWrites owner most_store_bytes) bytes answer in
      (λ is. both.0 (opened_as_read owner bytes ∙ is), λ told. sym (opened_as_read owner bytes) ∙ both.1 told);
  opened = λ limit owner bytes answer. answer_both (OwnerWrites owner limit) bytes answer;
}
