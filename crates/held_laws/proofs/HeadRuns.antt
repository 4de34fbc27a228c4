-- A run or an upgrade with a head in a list of runs under heads.
use Rattle.std.proofs.Common.{◌≡◌, ◌≤◌, ◌⊎◌, ⊎_elim, inl, inr, ℕ, List, Some, refl, ap, ◌∙◌}
use Rattle.cry_io.specs.Stops.{IsDurable}
use Rattle.cli_base.specs.World.{Senses, World}
use Rattle.cli_base.specs.declared.status.Status.{Status}
use Rattle.cli_heads.specs.Testing.{IsHeld}
use Rattle.cli_running.specs.Promises.HeldRun.{HeldRunEnds}
use Rattle.cli_running.specs.Running.{key_in_lines, lines_in}
use Rattle.cli_upgrading.specs.Promises.HeldUpgrade.{HeldUpgradeEnds}
use Rattle.cli_upgrading.specs.Upgrading.{HandsInAlone}
use Rattle.head_tree.specs.Heads.{IsHeadOf}
use Rattle.head_tree.specs.declared.head.Head.{Head}
use Rattle.log_heads.specs.Published.{hashes_in}
use Rattle.journal_bytes.specs.Journals.{StandsForJournal}
use Rattle.public_fold.specs.Journal.{Journal}
use Rattle.stop_laws.specs.Held.{HeldOver}
use Rattle.stop_laws.specs.Runs.{LeavesStore, RunOver, ServeOver, UpgradeOver}
use Rattle.stop_laws.proofs.HeldCalls.{held_run, held_upgrade, only_read, untouched}
use Rattle.held_laws.specs.Held.{IsRunUnder}

module _ {S R D W : Type 0} (see : Senses S R D W)
    (counted : (d : D) (t : ℕ) (s c : List ℕ) → t ≤ see.disks.moment d → see.disks.shown d ≡ Some s → see.disks.may_leave d c → see.disks.since d t s c)
    (present : (d : D) (s c : List ℕ) → see.disks.since d (see.disks.moment d) s c → (see.disks.shown d ≡ Some s) × see.disks.may_leave d c)
    (may_be_left : (d : D) (s : List ℕ) → see.disks.shown d ≡ Some s → see.disks.may_leave d s) (head : Head) (owner typed : List ℕ) (status : Status) (before after : World S R D W)
    (told : see.inputs.left before.input ≡ Some typed) where
  module _ (image left : List ℕ) (found : Journal) (named : List (List ℕ)) (shows : see.disks.shown before.disk ≡ Some image)
      (calm : IsDurable (see.disks.may_leave before.disk) (see.disks.shown before.disk)) (stands : StandsForJournal owner found image) (names : IsHeadOf head named)
      (leaves : see.disks.may_leave after.disk left) where
    abbrev Under : Type 0
    Under = IsRunUnder see.disks owner head named image left

    -- between two readings of the store
    held_under : (Does : D → D → Type 0) → ((a b : D) → Does a b → RunOver see.disks owner a b ⊎ (ServeOver see.disks owner a b ⊎ UpgradeOver see.disks owner a b))
        → IsHeld head (hashes_in image) → HeldOver see.disks Does before.disk after.disk → Under
    held_under Does as_call held over = (
      record {
        before = over.tested;
        after = over.ran;
        call = as_call over.tested over.ran over.run;
        image = image;
        shows = over.test.shows ∙ shows;
        calm = λ c is. over.test.shows ∙ ⊎_elim (λ early. calm c early) (λ same. same) (over.test.leaves c is);
        found = found;
        stands_for = stands;
        head = head;
        held = held;
        named = named;
        names = names;
        left = left;
        leaves = ⊎_elim (λ early. early) (λ same. may_be_left over.ran left same) (over.last.leaves left leaves);
      },
      refl,
      refl,
      refl,
      refl,
    )

    pub call_is : key_in_lines (lines_in typed) ≡ Some owner → HeldRunEnds head see status before after → LeavesStore see.disks before.disk after.disk ⊎ Under
    call_is hands ends =
        elim ends.ends [
          | inl first ↦ inl (untouched see counted present may_be_left head status before after before.disk after.disk (ap (λ world. world.disk) first.rest_kept))
          | inr (inl failed) ↦ inl (only_read see counted present may_be_left head status before after before.disk after.disk failed.reads)
          | inr (inr behind) ↦ inr (held_under (RunOver see.disks owner) (λ a b run. inl run) (behind.held image shows)
              (held_run see counted present may_be_left head status before after owner typed told hands behind))
        ]

    pub upgrade_is : HandsInAlone typed owner → HeldUpgradeEnds head see status before after → LeavesStore see.disks before.disk after.disk ⊎ Under
    upgrade_is hands ends =
        elim ends.ends [
          | inl input ↦ inl (untouched see counted present may_be_left head status before after before.disk after.disk (ap (λ world. world.disk) input.rest_kept))
          | inr (inl failed) ↦ inl (only_read see counted present may_be_left head status before after before.disk after.disk failed.reads)
          | inr (inr behind) ↦ inr (held_under (UpgradeOver see.disks owner) (λ a b up. inr (inr up)) (behind.held image shows)
              (held_upgrade see counted present may_be_left head status before after owner typed told hands behind))
        ]
