use Rattle.std.proofs.Common.{◌≡◌, Some, sym, ap, subst, ◌∙◌}
use Rattle.chacha_seal.specs.Keys.{KeyParts}
use Rattle.commit_journal.proofs.Stepped.{anybody_reads, owner_reads}
use Rattle.commit_journal.specs.Readers as readers
use Rattle.cry_base.specs.declared.client.Bundle.{Bundle}
use Rattle.log_visits.specs.Answering.{Answers}
use Rattle.log_visits.specs.Judging.{bundle_log}
use Rattle.holder_client.proofs.log_reading.read_log.Goals as goal

pub returns-in-Owner-clause-verdict : goal.returns-in-Owner-clause-verdict
unfolding bundle_log
returns-in-Owner-clause-verdict g c = λ s is.
    let owner : c.owner-owner.result.bytes ≡ c.in-Owner.key = ap (λ (k : KeyParts). k.bytes) c.owner-owner.ensures in
    subst (λ (b : Bundle). Answers (λ read. read.log.given) c.read_batches.result (bundle_log b s)) (sym c.in-Owner.is)
    (subst (Answers (λ read. read.log.given) c.read_batches.result) (ap (λ k. readers.read_log (Some k) s) owner ∙ owner_reads c.in-Owner.key s) (c.read_batches.ensures.verdict s is))

pub returns-in-Holder-clause-verdict : goal.returns-in-Holder-clause-verdict
unfolding bundle_log
returns-in-Holder-clause-verdict g c = λ s is.
    subst (λ (b : Bundle). Answers (λ read. read.log.given) c.read_batches-in-Holder.result (bundle_log b s)) (sym c.in-Holder.is)
    (subst (Answers (λ read. read.log.given) c.read_batches-in-Holder.result) (anybody_reads s) (c.read_batches-in-Holder.ensures.verdict s is))
