-- The version of a journal, and of the owner who stands for it.
use Rattle.std.proofs.Common.{◌≡◌, ◌≢◌, ⊎_elim, ℕ, List, Option, sym, ap, ◌∙◌}
use Rattle.cry_io.specs.Told.{WhereTold}
use Rattle.cli_sessions.specs.Opening.{IsOfVersion}
use Rattle.journal_bytes.specs.Folds.{public_stand}
use Rattle.journal_bytes.specs.Journals.{ShowsJournal}
use Rattle.public_fold.specs.Journal.{Journal, keys_of}
use Rattle.public_fold.specs.KeyStep.{KeyState}
use Rattle.public_fold.specs.Valid.{IsValid}
use Rattle.public_fold.proofs.Versioned.{journal_version}
use Rattle.store_owner.specs.Owned.{IsOwnerOf, OwnerView}

-- a journal is of version 2 that isn't of version 1
pub is_second : (m : Journal) → IsValid m → (keys_of m).version ≢ 1 → (keys_of m).version ≡ 2
is_second m valid other = ⊎_elim (λ one. absurd (other one)) (λ two. two) (journal_version m valid)

-- the owner keeps its journal's version
pub owners_version : (m : Journal) (o : OwnerView) → IsOwnerOf m o → o.state.keys.version ≡ (keys_of m).version
unfolding public_stand
owners_version m o is = ap (λ (k : KeyState). k.version) (sym is.seen.keys)

-- an owner's version is that of each journal that the disk showed under a key that the input hands in
abbrev pub KeepsVersion : (List ℕ → List ℕ → Type 0) → Option (List ℕ) → Option (List ℕ) → ℕ → Type 0
KeepsVersion HandsIn typed shown version = WhereTold typed (λ bytes. (key : List ℕ) (m : Journal) → HandsIn bytes key → ShowsJournal key m shown
    → IsValid m × (version ≡ (keys_of m).version))

pub versions_told : (HandsIn : List ℕ → List ℕ → Type 0) (typed shown : Option (List ℕ)) (version : ℕ) → KeepsVersion HandsIn typed shown version
    → IsOfVersion HandsIn version typed shown
versions_told HandsIn typed shown version keeps = λ x was key m hands shows. sym (keeps x was key m hands shows).1

pub second_told : (HandsIn : List ℕ → List ℕ → Type 0) (typed shown : Option (List ℕ)) (version : ℕ) → KeepsVersion HandsIn typed shown version
    → version ≢ 1 → IsOfVersion HandsIn 2 typed shown
second_told HandsIn typed shown version keeps other = λ x was key m hands shows.
    let here = keeps x was key m hands shows in is_second m here.0 (λ one. other (here.1 ∙ one))
