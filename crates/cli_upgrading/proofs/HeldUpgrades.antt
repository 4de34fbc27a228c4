-- How an upgrade with a head ends: at its input, at the test of the head, or behind the upgrade proper.
use Rattle.std.proofs.Common.{◌≡◌, ◌⊎◌, ⊎_elim, ℕ, IsTrue, List, Some, inl, inr, refl, subst, sym}
use Rattle.std.proofs.lemmas.Bool.{false≢true}
use Rattle.cli_base.specs.World.{Senses, World}
use Rattle.cli_base.specs.declared.status.Status.{Status}
use Rattle.cli_base.specs.declared.status.Status.TheVariants as statuses
use Rattle.cli_heads.proofs.OtherLogs.{other_log}
use Rattle.cli_heads.specs.Asked.Asked.{TheHead}
use Rattle.cli_heads.specs.Held.{tells_other_log}
use Rattle.cli_heads.specs.Statuses.{is_log_answer, is_test_answer}
use Rattle.cli_heads.specs.Testing.{IsHeld}
use Rattle.cli_upgrading.specs.Promises.HeldUpgrade.{EndsAtHead, EndsAtInput, HeldUpgradeEnds, UpgradesBehind, is_held_upgrade_answer}
use Rattle.cli_upgrading.specs.Upgrading.{is_at_input, is_upgrade_answer}
use Rattle.head_tree.specs.declared.head.Head.{Head}
use Rattle.log_heads.specs.Published.{hashes_in}

-- ---- which answers there are

held_answer : (Is : Status → Type 0) → (Is statuses.Usage → ⊥) → (Is statuses.NotBlank → ⊥) → ((known : ℕ) → Is (statuses.NoHolder known) → ⊥)
    → (Is statuses.Unseen → ⊥) → (Is statuses.NeedsUpgrade → ⊥) → (Is statuses.BadProof → ⊥) → (status : Status) → Is status → IsTrue (is_held_upgrade_answer status)
held_answer Is usage blank holder unseen old proof statuses.Done is = refl
held_answer Is usage blank holder unseen old proof statuses.Usage is = absurd (usage is)
held_answer Is usage blank holder unseen old proof (statuses.BadScript line) is = refl
held_answer Is usage blank holder unseen old proof statuses.ReadFault is = refl
held_answer Is usage blank holder unseen old proof statuses.WriteFault is = refl
held_answer Is usage blank holder unseen old proof statuses.DiskFault is = refl
held_answer Is usage blank holder unseen old proof statuses.RandomFault is = refl
held_answer Is usage blank holder unseen old proof (statuses.RandomShort left need) is = refl
held_answer Is usage blank holder unseen old proof statuses.NotAStore is = refl
held_answer Is usage blank holder unseen old proof (statuses.Damaged at) is = refl
held_answer Is usage blank holder unseen old proof statuses.WrongKey is = refl
held_answer Is usage blank holder unseen old proof (statuses.Tampered batch at) is = refl
held_answer Is usage blank holder unseen old proof statuses.OutOfMemory is = refl
held_answer Is usage blank holder unseen old proof statuses.NotBlank is = absurd (blank is)
held_answer Is usage blank holder unseen old proof (statuses.NoHolder known) is = absurd (holder known is)
held_answer Is usage blank holder unseen old proof statuses.Unseen is = absurd (unseen is)
held_answer Is usage blank holder unseen old proof statuses.NeedsUpgrade is = absurd (old is)
held_answer Is usage blank holder unseen old proof statuses.AlreadyNew is = refl
held_answer Is usage blank holder unseen old proof (statuses.Behind have want) is = refl
held_answer Is usage blank holder unseen old proof (statuses.Forked batches) is = refl
held_answer Is usage blank holder unseen old proof statuses.BadProof is = absurd (proof is)

pub input_is_answer : (status : Status) → IsTrue (is_at_input status) → IsTrue (is_held_upgrade_answer status)
input_is_answer status =
    held_answer (λ s. IsTrue (is_at_input s)) (λ is. false≢true is) (λ is. false≢true is) (λ known is. false≢true is)
    (λ is. false≢true is) (λ is. false≢true is) (λ is. false≢true is) status

pub test_is_answer : (status : Status) → IsTrue (is_test_answer status) → IsTrue (is_held_upgrade_answer status)
test_is_answer status =
    held_answer (λ s. IsTrue (is_test_answer s)) (λ is. false≢true is) (λ is. false≢true is) (λ known is. false≢true is)
    (λ is. false≢true is) (λ is. false≢true is) (λ is. false≢true is) status

pub log_is_answer : (status : Status) → IsTrue (is_log_answer TheHead status) → IsTrue (is_held_upgrade_answer status)
log_is_answer status =
    held_answer (λ s. IsTrue (is_log_answer TheHead s)) (λ is. false≢true is) (λ is. false≢true is) (λ known is. false≢true is)
    (λ is. false≢true is) (λ is. false≢true is) (λ is. false≢true is) status

pub upgrade_is_answer : (status : Status) → IsTrue (is_upgrade_answer status) → IsTrue (is_held_upgrade_answer status)
upgrade_is_answer status =
    held_answer (λ s. IsTrue (is_upgrade_answer s)) (λ is. false≢true is) (λ is. false≢true is) (λ known is. false≢true is)
    (λ is. false≢true is) (λ is. false≢true is) (λ is. false≢true is) status

-- ---- a log that begins otherwise

module _ (head : Head) {S R D W : Type 0} (see : Senses S R D W) (status : Status) (before after : World S R D W) where
  ended_otherwise : {P : Type 0} → UpgradesBehind head see status before after → IsTrue (tells_other_log status) → P
  ended_otherwise held tells =
      ⊎_elim
      (λ early. other_log (λ s. IsTrue (is_upgrade_answer s)) (λ have want is. false≢true is) (λ batches is. false≢true is) status tells
      (subst (λ s. IsTrue (is_upgrade_answer s)) (sym early.1) held.upgrades.answers))
      (λ done. other_log (λ s. IsTrue (is_log_answer TheHead s)) (λ have want is. false≢true is) (λ batches is. false≢true is) status tells
      done.1.answers)
      held.behind

  pub told_by_test : HeldUpgradeEnds head see status before after → IsTrue (tells_other_log status) → EndsAtHead head see status before after
  told_by_test held tells =
      elim held.ends [
        | inl input ↦ other_log (λ s. IsTrue (is_at_input s)) (λ have want is. false≢true is) (λ batches is. false≢true is) status tells input.at_input
        | inr (inl failed) ↦ failed
        | inr (inr behind) ↦ ended_otherwise behind tells
      ]

  pub never_upgraded : (image : List ℕ) → see.disks.shown before.disk ≡ Some image → (IsHeld head (hashes_in image) → ⊥)
      → HeldUpgradeEnds head see status before after → EndsAtInput see status before after ⊎ EndsAtHead head see status before after
  never_upgraded image shown other held =
      elim held.ends [
        | inl input ↦ inl input
        | inr (inl failed) ↦ inr failed
        | inr (inr behind) ↦ absurd (other (behind.held image shown))
      ]
