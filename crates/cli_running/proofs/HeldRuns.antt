-- How a run with a head ends: at its first line, at the test of the head, or behind the run proper.
use Rattle.std.proofs.Common.{◌≡◌, ◌⊎◌, ⊎_elim, ℕ, IsTrue, List, Some, inl, inr, refl, subst, sym}
use Rattle.std.proofs.lemmas.Bool.{false≢true}
use Rattle.cli_base.specs.World.{Senses, World}
use Rattle.cli_base.specs.declared.status.Status.{Status}
use Rattle.cli_base.specs.declared.status.Status.TheVariants as statuses
use Rattle.cli_heads.proofs.OtherLogs.{other_log}
use Rattle.cli_heads.specs.Asked.Asked.{TheHead}
use Rattle.cli_heads.specs.Held.{tells_other_log}
use Rattle.cli_heads.specs.Statuses.{is_log_answer, is_test_answer}
use Rattle.cli_heads.specs.Testing.{IsHeld}
use Rattle.cli_running.specs.Promises.HeldRun.{EndsAtFirst, EndsAtHead, HeldRunEnds, RunsBehind, is_held_run_answer}
use Rattle.head_tree.specs.declared.head.Head.{Head}
use Rattle.log_heads.specs.Published.{hashes_in}
use Rattle.cli_running.specs.Running.{FirstIsBad, is_run_answer}

-- ---- which answers there are

held_answer : (Is : Status → Type 0) → (Is statuses.Usage → ⊥) → (Is statuses.NotBlank → ⊥) → ((known : ℕ) → Is (statuses.NoHolder known) → ⊥)
    → (Is statuses.Unseen → ⊥) → (Is statuses.AlreadyNew → ⊥) → (Is statuses.BadProof → ⊥) → (status : Status) → Is status → IsTrue (is_held_run_answer status)
held_answer Is usage blank holder unseen new proof statuses.Done is = refl
held_answer Is usage blank holder unseen new proof statuses.Usage is = absurd (usage is)
held_answer Is usage blank holder unseen new proof (statuses.BadScript line) is = refl
held_answer Is usage blank holder unseen new proof statuses.ReadFault is = refl
held_answer Is usage blank holder unseen new proof statuses.WriteFault is = refl
held_answer Is usage blank holder unseen new proof statuses.DiskFault is = refl
held_answer Is usage blank holder unseen new proof statuses.RandomFault is = refl
held_answer Is usage blank holder unseen new proof (statuses.RandomShort left need) is = refl
held_answer Is usage blank holder unseen new proof statuses.NotAStore is = refl
held_answer Is usage blank holder unseen new proof (statuses.Damaged at) is = refl
held_answer Is usage blank holder unseen new proof statuses.WrongKey is = refl
held_answer Is usage blank holder unseen new proof (statuses.Tampered batch at) is = refl
held_answer Is usage blank holder unseen new proof statuses.OutOfMemory is = refl
held_answer Is usage blank holder unseen new proof statuses.NotBlank is = absurd (blank is)
held_answer Is usage blank holder unseen new proof (statuses.NoHolder known) is = absurd (holder known is)
held_answer Is usage blank holder unseen new proof statuses.Unseen is = absurd (unseen is)
held_answer Is usage blank holder unseen new proof statuses.NeedsUpgrade is = refl
held_answer Is usage blank holder unseen new proof statuses.AlreadyNew is = absurd (new is)
held_answer Is usage blank holder unseen new proof (statuses.Behind have want) is = refl
held_answer Is usage blank holder unseen new proof (statuses.Forked batches) is = refl
held_answer Is usage blank holder unseen new proof statuses.BadProof is = absurd (proof is)

pub first_is_answer : (status : Status) → FirstIsBad status → IsTrue (is_held_run_answer status)
first_is_answer status = held_answer FirstIsBad (λ is. is) (λ is. is) (λ known is. is) (λ is. is) (λ is. is) (λ is. is) status

pub test_is_answer : (status : Status) → IsTrue (is_test_answer status) → IsTrue (is_held_run_answer status)
test_is_answer status =
    held_answer (λ s. IsTrue (is_test_answer s)) (λ is. false≢true is) (λ is. false≢true is) (λ known is. false≢true is) (λ is. false≢true is)
    (λ is. false≢true is) (λ is. false≢true is) status

pub log_is_answer : (status : Status) → IsTrue (is_log_answer TheHead status) → IsTrue (is_held_run_answer status)
log_is_answer status =
    held_answer (λ s. IsTrue (is_log_answer TheHead s)) (λ is. false≢true is) (λ is. false≢true is) (λ known is. false≢true is)
    (λ is. false≢true is) (λ is. false≢true is) (λ is. false≢true is) status

pub run_is_answer : (status : Status) → IsTrue (is_run_answer status) → IsTrue (is_held_run_answer status)
run_is_answer status =
    held_answer (λ s. IsTrue (is_run_answer s)) (λ is. false≢true is) (λ is. false≢true is) (λ known is. false≢true is)
    (λ is. false≢true is) (λ is. false≢true is) (λ is. false≢true is) status

-- ---- a log that begins otherwise

module _ (head : Head) {S R D W : Type 0} (see : Senses S R D W) (status : Status) (before after : World S R D W) where
  ended_otherwise : {P : Type 0} → RunsBehind head see status before after → IsTrue (tells_other_log status) → P
  ended_otherwise run tells =
      ⊎_elim
      (λ early. other_log (λ s. IsTrue (is_run_answer s)) (λ have want is. false≢true is) (λ batches is. false≢true is) status tells
      (subst (λ s. IsTrue (is_run_answer s)) (sym early.1) run.runs.answers))
      (λ done. other_log (λ s. IsTrue (is_log_answer TheHead s)) (λ have want is. false≢true is) (λ batches is. false≢true is) status tells
      done.1.answers)
      run.behind

  pub told_by_test : HeldRunEnds head see status before after → IsTrue (tells_other_log status) → EndsAtHead head see status before after
  told_by_test run tells =
      elim run.ends [
        | inl first ↦ other_log FirstIsBad (λ have want is. is) (λ batches is. is) status tells first.first
        | inr (inl failed) ↦ failed
        | inr (inr behind) ↦ ended_otherwise behind tells
      ]

  pub never_written : (image : List ℕ) → see.disks.shown before.disk ≡ Some image → (IsHeld head (hashes_in image) → ⊥)
      → HeldRunEnds head see status before after → EndsAtFirst see status before after ⊎ EndsAtHead head see status before after
  never_written image shown other run =
      elim run.ends [
        | inl first ↦ inl first
        | inr (inl failed) ↦ inr failed
        | inr (inr behind) ↦ absurd (other (behind.held image shown))
      ]
