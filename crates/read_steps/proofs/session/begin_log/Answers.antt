use Rattle.std.proofs.Common.{◌≡◌, Some, sym, ap, subst, ◌∙◌}
use Rattle.std.proofs.lemmas.Result.{err_from_is_err_and}
use Rattle.chacha_seal.specs.Keys.{KeyParts}
use Rattle.commit_journal.proofs.Stepped.{anybody_reads, owner_reads}
use Rattle.commit_journal.specs.Answering as opening
use Rattle.commit_journal.specs.Readers as readers
use Rattle.cry_base.specs.declared.client.Bundle.{Bundle}
use Rattle.log_visits.specs.Answering.{IsFault, client_fault}
use Rattle.log_visits.specs.Judging.{bundle_log}
use Rattle.read_steps.proofs.NextOnes.{same_fault}
use Rattle.read_steps.proofs.session.begin_log.Goals as goal

pub returns-in_err-begin-in-Owner-clause-failed : goal.returns-in_err-begin-in-Owner-clause-failed
unfolding bundle_log
returns-in_err-begin-in-Owner-clause-failed g c = λ s is.
    let p = err_from_is_err_and c.from_residual.result c.from_residual.ensures.1 in
    let fault = c.in_err-begin-in-Owner.field-0.0 in
    let owner : c.owner-owner.result.bytes ≡ c.in-Owner.key = ap (λ (k : KeyParts). k.bytes) c.owner-owner.ensures in
    let known = subst (opening.IsFault fault) (ap (λ k. readers.read_log (Some k) s) owner ∙ owner_reads c.in-Owner.key s) (c.in_err-begin-in-Owner.ensures.failed s is) in
    rw (p.1, p.2) (subst (λ (b : Bundle). IsFault (client_fault fault) (bundle_log b s)) (sym c.in-Owner.is) (same_fault fault _ known))

pub returns-in_err-begin-in-Holder-clause-failed : goal.returns-in_err-begin-in-Holder-clause-failed
unfolding bundle_log
returns-in_err-begin-in-Holder-clause-failed g c = λ s is.
    let p = err_from_is_err_and c.from_residual-in_err-begin-in-Holder.result c.from_residual-in_err-begin-in-Holder.ensures.1 in
    let fault = c.in_err-begin-in-Holder.field-0.0 in
    let known = subst (opening.IsFault fault) (anybody_reads s) (c.in_err-begin-in-Holder.ensures.failed s is) in
    rw (p.1, p.2) (subst (λ (b : Bundle). IsFault (client_fault fault) (bundle_log b s)) (sym c.in-Holder.is) (same_fault fault _ known))
