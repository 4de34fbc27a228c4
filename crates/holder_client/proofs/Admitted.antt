-- Whether a bundle's key may read a log, by the steps one after another.
use Rattle.std.proofs.Common.{◌≡◌, ℕ, List, [], ◌∷◌, Option, None, Some, Result, Ok, Err, ⊎_elim, refl, sym, ap, subst, ◌∙◌}
use Rattle.std.specs.Prelude.{bytes_eq, true, false}
use Rattle.chacha_seal.specs.Sealing.{check_of}
use Rattle.commit_journal.specs.Answering.{Fault, WrongKey, and_then}
use Rattle.commit_journal.specs.Placed.{PlainPlaced}
use Rattle.cry_base.specs.Store.{no_store}
use Rattle.cry_base.specs.declared.client.Bundle.{Bundle}
use Rattle.cry_base.specs.declared.client.Bundle.TheVariants as bundles
use Rattle.cry_base.specs.declared.ids.HolderId.{HolderId}
use Rattle.log_visits.specs.Answering.{IsFailure, IsFault}
use Rattle.log_visits.specs.Folding.{folded}
use Rattle.log_visits.specs.Holding.{IsReadingIn}
use Rattle.log_visits.specs.Judging.{Failure, OfBytes, NoHolder, holder_reads, may_read, of_bytes, published_check, read_through, read_with, then_on}
use Rattle.log_visits.specs.Visiting.{Reading}
use Rattle.log_visits.specs.declared.fault.ClientFault.{ClientFault}
use Rattle.log_visits.specs.declared.fault.ClientFault.TheVariants as faults
use Rattle.log_visits.proofs.FoldedHolds.{first_stand, log_with}
use Rattle.log_visits.proofs.Viewed.{fault_first}
use Rattle.log_visits.proofs.Rights.{folder_below}
use Rattle.public_fold.specs.Journal.{Stand, nothing}
use Rattle.public_fold.specs.Standing.{IsSeenAs, PublicView}
use Rattle.role_graph.specs.PublicStore.{GrantsStand}

-- ---- the key of a holder

pub owner_may : (bundle : Bundle) (key : List ℕ) (r : Reading) → bundle ≡ bundles.Owner key → may_read bundle r ≡ Ok r
unfolding may_read
owner_may bundle key r is = ap (λ b. may_read b r) is

pub holder_is_asked : (bundle : Bundle) (h : HolderId) (key : List ℕ) (r : Reading) → bundle ≡ bundles.Holder h key → holder_reads key r (published_check h.0 r.log) ≡ may_read bundle r
unfolding may_read
holder_is_asked bundle h key r is = sym (ap (λ b. may_read b r) is)

pub no_holder : (key : List ℕ) (r : Reading) (o : Option (List ℕ)) (known : ℕ) → o ≡ None → known ≡ r.stand.store.holders_made → holder_reads key r o ≡ Err (NoHolder known)
unfolding holder_reads
no_holder key r o known none same = ap (holder_reads key r) none ∙ ap (λ n. let x : Result Reading Failure = Err (NoHolder n) in x) (sym same)

pub other_key : (key check : List ℕ) (r : Reading) (o : Option (List ℕ)) → o ≡ Some check → bytes_eq check (check_of key) ≡ false → holder_reads key r o ≡ Err (OfBytes WrongKey)
unfolding holder_reads
other_key key check r o some apart = ap (holder_reads key r) some ∙ rw apart refl

pub own_key : (key check : List ℕ) (r : Reading) (o : Option (List ℕ)) → o ≡ Some check → bytes_eq check (check_of key) ≡ true → holder_reads key r o ≡ Ok r
unfolding holder_reads
own_key key check r o some same = ap (holder_reads key r) some ∙ rw same refl

-- ---- failures

-- a fault of bytes is the failure of whoever reads
pub as_failure : {A : Type 0} (fault : ClientFault) (read : Result A Fault) → IsFault fault read → IsFailure fault (of_bytes read)
unfolding of_bytes
as_failure faults.NotAStore read is = rw is refl
as_failure faults.WrongKey read is = rw is refl
as_failure (faults.Damaged at) read is = rw is refl
as_failure (faults.Tampered batch at) read is = rw is refl
as_failure (faults.NoHolder known) read is = absurd is
as_failure faults.Unseen read is = absurd is
as_failure faults.DiskFault read is = tt
as_failure faults.OutOfMemory read is = tt

-- a failure ends what would follow
pub failure_first : {A B : Type 0} (fault : ClientFault) (read : Result A Failure) (f : A → Result B Failure) → IsFailure fault read → IsFailure fault (then_on read f)
unfolding then_on
failure_first faults.NotAStore read f is = rw is refl
failure_first faults.WrongKey read f is = rw is refl
failure_first (faults.Damaged at) read f is = rw is refl
failure_first (faults.Tampered batch at) read f is = rw is refl
failure_first (faults.NoHolder known) read f is = rw is refl
failure_first faults.Unseen read f is = rw is refl
failure_first faults.DiskFault read f is = tt
failure_first faults.OutOfMemory read f is = tt

pub then_ok : {A B : Type 0} (read : Result A Failure) (f : A → Result B Failure) (x : A) → read ≡ Ok x → then_on read f ≡ f x
unfolding then_on
then_ok read f x is = rw is refl

pub bytes_ok : {A : Type 0} (read : Result A Fault) (x : A) → read ≡ Ok x → of_bytes read ≡ Ok x
unfolding of_bytes
bytes_ok read x is = rw is refl

-- ---- grants are on folders and files that stand

no_grants : GrantsStand nothing.store
unfolding nothing no_store
no_grants = record { granted_stands = λ g i. absurd i; folders_below = λ e i. absurd i }

none_granted : GrantsStand no_store
unfolding no_store
none_granted = record { granted_stands = λ g i. absurd i; folders_below = λ e i. absurd i }

pub grants_stand : (log : List PlainPlaced) (stand : Stand) → folded nothing log ≡ Ok stand → GrantsStand stand.store
grants_stand [] stand f = subst (λ (z : Stand). GrantsStand z.store) (first_stand stand f) no_grants
grants_stand (p ∷ log) stand f = ⊎_elim
    (λ (none : stand.store ≡ no_store). subst GrantsStand (sym none) none_granted)
    (λ rooted. record { granted_stands = rooted.granted_stands; folders_below = λ e i. folder_below stand.store rooted e i })
    (log_with p log stand f).1.store

-- ---- a log that is followed

abbrev pub reading_of : List PlainPlaced → Stand → Reading
reading_of log stand = record { log = log; stand = stand }

folds_on : (log : List PlainPlaced) → read_through (Ok log) ≡ and_then (folded nothing log) (λ (stand : Stand). let r : Result Reading Fault = Ok (reading_of log stand) in r)
unfolding read_through and_then
folds_on log = refl

pub fold_refused : (bundle : Bundle) (log : List PlainPlaced) (fault : ClientFault) → IsFault fault (folded nothing log) → IsFailure fault (read_with bundle (Ok log))
unfolding read_with
fold_refused bundle log fault is =
    failure_first fault (of_bytes (read_through (Ok log))) (may_read bundle)
    (as_failure fault (read_through (Ok log)) (subst (IsFault fault) (sym (folds_on log)) (fault_first fault (folded nothing log) (λ (stand : Stand). let r : Result Reading Fault = Ok (reading_of log stand) in r) is)))

through : (bundle : Bundle) (log : List PlainPlaced) (stand : Stand) → folded nothing log ≡ Ok stand → read_with bundle (Ok log) ≡ may_read bundle (reading_of log stand)
unfolding read_with read_through and_then
through bundle log stand is = then_ok (of_bytes (read_through (Ok log))) (may_read bundle) (reading_of log stand) (bytes_ok (read_through (Ok log)) (reading_of log stand) (rw is refl))

pub refused_key : (bundle : Bundle) (log : List PlainPlaced) (v : PublicView) (fault : ClientFault) → (stand : Stand) × (folded nothing log ≡ Ok stand) × IsSeenAs v stand →
    ((r : Reading) → IsReadingIn v log r → IsFailure fault (may_read bundle r)) → IsFailure fault (read_with bundle (Ok log))
refused_key bundle log v fault folds refused = subst (IsFailure fault) (sym (through bundle log folds.0 folds.1)) (refused (reading_of log folds.0) (refl, folds.2, folds.1))

pub taken_key : (bundle : Bundle) (log : List PlainPlaced) (v : PublicView) → (stand : Stand) × (folded nothing log ≡ Ok stand) × IsSeenAs v stand →
    ((r : Reading) → IsReadingIn v log r → may_read bundle r ≡ Ok r) → (r : Reading) × (read_with bundle (Ok log) ≡ Ok r) × (IsReadingIn v log r × GrantsStand r.stand.store)
taken_key bundle log v folds taken =
    let r = reading_of log folds.0 in
    let told : (x : Reading) × (read_with bundle (Ok log) ≡ Ok x) × (IsReadingIn v log x × GrantsStand x.stand.store) =
    (r, through bundle log folds.0 folds.1 ∙ taken r (refl, folds.2, folds.1), ((refl, folds.2, folds.1), grants_stand log folds.0 folds.1))
    in
    told
