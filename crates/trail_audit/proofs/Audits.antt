-- What an audit answers, by how its reading ends.
use Rattle.std.proofs.Common.{◌≡◌, ◌↔◌, ℕ, List, Some, Result, Ok, Err, inl, ⊎_elim, sym, ◌∙◌, subst}
use Rattle.cry_base.specs.declared.client.Bundle.{Bundle}
use Rattle.log_visits.specs.Asking.{ToAudit, audited, failure_of, verdict}
use Rattle.log_visits.specs.Judging.{Failure}
use Rattle.log_visits.specs.Visiting.{Reading}
use Rattle.trail_audit.specs.Auditing.{RecordFault, MayFail, MayPass}

failed_as : (read : Result Reading Failure) (failure : Failure) → failure_of read ≡ Some failure → read ≡ Err failure
unfolding failure_of
failed_as (Ok r) failure is = absurd (cc)
failed_as (Err other) failure is = cc

no_other : (bundle : Bundle) (bytes : List ℕ) (failure other : Failure) → audited bundle bytes ≡ Err failure → MayFail bundle bytes other → other ≡ failure
no_other bundle bytes failure other is may = ⊎_elim
    (λ (e : audited bundle bytes ≡ Err other). cc)
    (λ (w : (r : Reading) × (audited bundle bytes ≡ Ok r) × RecordFault r bundle other). let e = w.1 in absurd (cc)) may

pub reading_fails : (bundle : Bundle) (bytes : List ℕ) (failure : Failure) → verdict (ToAudit bundle) bytes ≡ Some failure → (other : Failure) → MayFail bundle bytes other ↔ (other ≡ failure)
unfolding verdict
reading_fails bundle bytes failure is other =
    let read = failed_as (audited bundle bytes) failure is in
    (no_other bundle bytes failure other read, λ e. inl (rw e read))

same_ok : (a b : Reading) → (let x : Result Reading Failure = Ok a in x) ≡ Ok b → a ≡ b
same_ok a b e = cc

pub passes : (bundle : Bundle) (bytes : List ℕ) (failure : Failure) → MayPass bundle bytes → MayFail bundle bytes failure → ⊥
passes bundle bytes failure pass may = ⊎_elim
    (λ (e : audited bundle bytes ≡ Err failure). let read = pass.1 in absurd (cc))
    (λ (w : (r : Reading) × (audited bundle bytes ≡ Ok r) × RecordFault r bundle failure).
    pass.2 failure (subst (λ z. RecordFault z bundle failure) (same_ok w.0 pass.0 (sym w.1 ∙ pass.1)) w.2)) may
