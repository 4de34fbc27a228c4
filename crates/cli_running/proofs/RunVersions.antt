-- Which version a store is of over which a run ends so.
use Rattle.std.proofs.Common.{◌≡◌, ◌≢◌, ℕ, List, Option, refl, sym, subst}
use Rattle.std.proofs.lemmas.Bool.{false≢true}
use Rattle.commit_journal.specs.declared.fault.OpenFault.{OpenFault}
use Rattle.cli_base.specs.declared.status.Status.{Status}
use Rattle.cli_base.specs.declared.status.Status.TheVariants as statuses
use Rattle.cli_running.specs.Running.{HandsInFirst, TellsVersion}
use Rattle.cli_sessions.specs.Opening.{IsOfVersion, open_status}
use Rattle.cli_sessions.proofs.StoreOpening.{each_unopened}
use Rattle.cli_sessions.proofs.Versions.{KeepsVersion, second_told, versions_told}

-- a store that isn't opened needs no upgrade, as far as is told
pub unopened_needs_none : {P : Type 0} (fault : OpenFault) → open_status fault ≡ statuses.NeedsUpgrade → P
unopened_needs_none {P} fault =
    each_unopened (λ s. s ≡ statuses.NeedsUpgrade → P) (λ is. absurd cc) (λ is. absurd cc) (λ at is. absurd cc) (λ batch at is. absurd cc)
    (λ is. absurd cc) (λ is. absurd cc) fault

pub unopened_tells_none : (fault : OpenFault) (status : Status) (typed shown : Option (List ℕ)) → status ≡ open_status fault → TellsVersion status typed shown
unopened_tells_none fault status typed shown is =
    subst (λ s. TellsVersion s typed shown) (sym is)
    (each_unopened (λ s. TellsVersion s typed shown) (λ no. absurd (false≢true no)) (λ no. absurd (false≢true no)) (λ at no. absurd (false≢true no))
    (λ batch at no. absurd (false≢true no)) (λ no. absurd (false≢true no)) (λ no. absurd (false≢true no)) fault)

module _ (typed shown : Option (List ℕ)) (version : ℕ) (keeps : KeepsVersion HandsInFirst typed shown version) where
  seconds : version ≢ 1 → IsOfVersion HandsInFirst 2 typed shown
  seconds other = second_told HandsInFirst typed shown version keeps other

  -- by the owner's version
  told_by : (status : Status) → (status ≡ statuses.NeedsUpgrade → version ≡ 1) → (status ≢ statuses.NeedsUpgrade → version ≢ 1) → TellsVersion status typed shown
  told_by statuses.NeedsUpgrade needs new =
      subst (λ v. IsOfVersion HandsInFirst v typed shown) (needs refl) (versions_told HandsInFirst typed shown version keeps)
  told_by statuses.Done needs new = λ after. seconds (new (λ is. absurd cc))
  told_by statuses.Usage needs new = λ after. seconds (new (λ is. absurd cc))
  told_by (statuses.BadScript line) needs new = λ after. seconds (new (λ is. absurd cc))
  told_by statuses.ReadFault needs new = λ after. seconds (new (λ is. absurd cc))
  told_by statuses.WriteFault needs new = λ after. seconds (new (λ is. absurd cc))
  told_by statuses.DiskFault needs new = λ after. seconds (new (λ is. absurd cc))
  told_by statuses.RandomFault needs new = λ after. seconds (new (λ is. absurd cc))
  told_by (statuses.RandomShort left need) needs new = λ after. seconds (new (λ is. absurd cc))
  told_by statuses.NotAStore needs new = λ after. seconds (new (λ is. absurd cc))
  told_by (statuses.Damaged at) needs new = λ after. seconds (new (λ is. absurd cc))
  told_by statuses.WrongKey needs new = λ after. seconds (new (λ is. absurd cc))
  told_by (statuses.Tampered batch at) needs new = λ after. seconds (new (λ is. absurd cc))
  told_by statuses.OutOfMemory needs new = λ after. seconds (new (λ is. absurd cc))
  told_by statuses.NotBlank needs new = λ after. seconds (new (λ is. absurd cc))
  told_by (statuses.NoHolder known) needs new = λ after. seconds (new (λ is. absurd cc))
  told_by statuses.Unseen needs new = λ after. seconds (new (λ is. absurd cc))
  told_by statuses.AlreadyNew needs new = λ after. seconds (new (λ is. absurd cc))
  told_by (statuses.Behind have want) needs new = λ after. seconds (new (λ is. absurd cc))
  told_by (statuses.Forked batches) needs new = λ after. seconds (new (λ is. absurd cc))
  told_by statuses.BadProof needs new = λ after. seconds (new (λ is. absurd cc))

pub tells_version : (status : Status) (typed shown : Option (List ℕ)) (version : ℕ) → (status ≡ statuses.NeedsUpgrade → version ≡ 1)
    → (status ≢ statuses.NeedsUpgrade → version ≢ 1) → KeepsVersion HandsInFirst typed shown version → TellsVersion status typed shown
tells_version status typed shown version needs new keeps = told_by typed shown version keeps status needs new

pub second_version : (typed shown : Option (List ℕ)) (version : ℕ) → version ≢ 1 → KeepsVersion HandsInFirst typed shown version
    → IsOfVersion HandsInFirst 2 typed shown
second_version typed shown version other keeps = second_told HandsInFirst typed shown version keeps other
