-- What a stop may leave of a run of the program. This project's own, docs/FORMAT.md, "Committing", and docs/PROGRAM.md, "The program".
--
-- Where a run begins, the disk shows a journal m, and holds between two, m1 and m2: what a stop may leave then stands for a journal that
-- begins with m1 and is a prefix of m2. The first line hands in m's owner key. Each command that is accepted adds its entry to m, with
-- `Session` before the first one. At each moment of the run a stop leaves bytes that stand for a journal that begins with m1, and is a
-- prefix of m2 or of the one that the run reached. Behind the opening the disk is settled, at the end of the run, at the journal with all
-- commands that were answered; a fault of the disk leaves it between that one and the one with the next command. A reply was printed in
-- whole only where its command was answered: so what is left begins with each command that was acknowledged.
use Rattle.std.specs.Prelude.{ℕ, List, ◌++◌, Option}
use Rattle.commit_journal.specs.Handing.{Hands, opening_writes}
use Rattle.commit_journal.specs.Holding.{IsPrefix}
use Rattle.cry_base.specs.Limits.{most_store_bytes}
use Rattle.cry_io.specs.Told.{WhereTold}
use Rattle.journal_bytes.specs.Journals.{HoldsBetween, Kept}
use Rattle.public_fold.specs.Journal.{Journal}
use Rattle.store_owner.specs.Stopping.{journal_writes}

-- Whatever two journals the disk held between at the start of a call, around the journal m that it showed: the call kept them up to
-- `reached`. It handed the disk the veil keys of the slots that a stop had left empty, and then the batches by which m becomes `reached`,
-- each as it is staged, opened and published; and nothing else. A fault may have torn the last of these writes.
pub record KeepsUpTo (key : List ℕ) (m : Journal) (was shown : Option (List ℕ)) (could_leave : List ℕ → Type 0) (since : List ℕ → List ℕ
    → Type 0) (reached : Journal) : Type 0 where
  pub kept : (m1 m2 : Journal) → HoldsBetween key m1 m2 was could_leave → IsPrefix m1 m → Kept key m1 m2 reached since
  pub hands : WhereTold was
      (λ x. Hands (opening_writes most_store_bytes key x ++ journal_writes key m reached) (Unit {0}) was shown since)

-- What the lines behind the opening keep, over a disk that is settled at m when they begin: `reached` begins with m, and they kept m up to
-- it. They handed the disk the batches by which m becomes `reached`, and nothing else.
pub record LinesKeepUpTo (key : List ℕ) (m : Journal) (was shown : Option (List ℕ)) (since : List ℕ → List ℕ → Type 0)
    (reached : Journal) : Type 0 where
  pub grown : IsPrefix m reached
  pub kept : Kept key m m reached since
  pub hands : Hands (journal_writes key m reached) (Unit {0}) was shown since
