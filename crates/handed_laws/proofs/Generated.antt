-- What `gen` unveils from the moment on at which its store stood.
use Rattle.std.proofs.Common.{◌≡◌, ⊎_elim, inl, inr, ℕ, List, [], ◌∷◌, ◌++◌, Option, Some, arith, refl, sym, ◌∙◌}
use Rattle.batch_log.proofs.InOrder.{on_maps}
use Rattle.commit_journal.specs.Standing.{StandsWhole}
use Rattle.cry_io.specs.declared.disk.Disk as disk
use Rattle.cli_base.specs.declared.status.Status.{Status}
use Rattle.cli_base.specs.declared.status.Status.TheVariants as statuses
use Rattle.cli_making.specs.Generating.{Fills, Generates, script_lines, unheard}
use Rattle.cli_sessions.specs.Sessions.{Seen}
use Rattle.cli_sessions.specs.Stopping.{LinesKeepUpTo}
use Rattle.journal_bytes.specs.Bytes.{batches_of, image_of}
use Rattle.journal_bytes.specs.Journals.{StandsForJournal}
use Rattle.journal_bytes.specs.WorkedBytes.{journal_bytes}
use Rattle.key_links.specs.Fresh.{fresh_image, made_version, piece}
use Rattle.public_fold.specs.Journal.{Journal}
use Rattle.public_fold.specs.Valid.{IsValid}
use Rattle.store_gen.specs.Rule.{requests}
use Rattle.store_owner.specs.Making.{made_with, root_keys}
use Rattle.store_owner.specs.Published.{HasPublished}
use Rattle.store_owner.proofs.MadeOwner.{made_valid}
use Rattle.handed_laws.specs.Unveiled.{KeepsUnveiled, ScriptUnveils}
use Rattle.handed_laws.proofs.Handed.{joins_shown}
use Rattle.handed_laws.proofs.Runs.{Reaches, settled, stopped_by}
use Rattle.handed_laws.proofs.Unmasked.{kept_now}

-- what a script reached
filled_by : (status : Status) (seed count : ℕ) (key : List ℕ) (m : Journal) (seen : Seen) (may_leave : List ℕ → Type 0) (KeepsTo : Journal → Type 0) (before after : Option (List ℕ))
    → IsValid m → Fills status seed count key m seen may_leave KeepsTo before after → Reaches key m KeepsTo
filled_by statuses.Done seed count key m seen may_leave KeepsTo before after valid run =
    settled key m valid (script_lines seed count) seen may_leave KeepsTo (requests seed count) run.session run.leaves run.kept
filled_by statuses.WriteFault seed count key m seen may_leave KeepsTo before after valid run =
    settled key m valid (script_lines seed count) seen may_leave KeepsTo (requests seed count) run.session run.leaves run.kept
filled_by (statuses.RandomShort left need) seed count key m seen may_leave KeepsTo before after valid run =
    stopped_by key m valid (script_lines seed count) seen may_leave KeepsTo (statuses.RandomShort left need) run
filled_by statuses.RandomFault seed count key m seen may_leave KeepsTo before after valid run =
    stopped_by key m valid (script_lines seed count) seen may_leave KeepsTo statuses.RandomFault run
filled_by statuses.DiskFault seed count key m seen may_leave KeepsTo before after valid run =
    stopped_by key m valid (script_lines seed count) seen may_leave KeepsTo statuses.DiskFault run
filled_by statuses.OutOfMemory seed count key m seen may_leave KeepsTo before after valid run =
    stopped_by key m valid (script_lines seed count) seen may_leave KeepsTo statuses.OutOfMemory run
filled_by (statuses.BadScript line) seed count key m seen may_leave KeepsTo before after valid run = absurd run
filled_by statuses.ReadFault seed count key m seen may_leave KeepsTo before after valid run = absurd run
filled_by statuses.Usage seed count key m seen may_leave KeepsTo before after valid run = absurd run
filled_by statuses.NotAStore seed count key m seen may_leave KeepsTo before after valid run = absurd run
filled_by (statuses.Damaged at) seed count key m seen may_leave KeepsTo before after valid run = absurd run
filled_by statuses.WrongKey seed count key m seen may_leave KeepsTo before after valid run = absurd run
filled_by (statuses.Tampered batch at) seed count key m seen may_leave KeepsTo before after valid run = absurd run
filled_by statuses.NotBlank seed count key m seen may_leave KeepsTo before after valid run = absurd run
filled_by (statuses.NoHolder known) seed count key m seen may_leave KeepsTo before after valid run = absurd run
filled_by statuses.Unseen seed count key m seen may_leave KeepsTo before after valid run = absurd run
filled_by statuses.NeedsUpgrade seed count key m seen may_leave KeepsTo before after valid run = absurd run
filled_by statuses.AlreadyNew seed count key m seen may_leave KeepsTo before after valid run = absurd run
filled_by (statuses.Behind have want) seed count key m seen may_leave KeepsTo before after valid run = absurd run
filled_by (statuses.Forked batches) seed count key m seen may_leave KeepsTo before after valid run = absurd run
filled_by statuses.BadProof seed count key m seen may_leave KeepsTo before after valid run = absurd run

-- a fresh store stands for its journal
fresh_is : (drawn : List ℕ) → image_of (piece drawn 0) (made_with (root_keys drawn)) ++ 0 ∷ [] ≡ fresh_image drawn
unfolding journal_bytes
fresh_is drawn = refl

fresh_stands : (drawn x : List ℕ) → x ≡ fresh_image drawn → StandsWhole (piece drawn 0) (batches_of (piece drawn 0) (made_with (root_keys drawn))) x
unfolding image_of
fresh_stands drawn x is = record {
  gate = 0;
  behind = [];
  closed = λ one. (let no : ⊥ = omega (arith, one) in no);
  bytes_are = is ∙ sym (fresh_is drawn);
}

pub script_unveils : {D : Type 0} (disks : disk.Ghosts D) (status : Status) (seed count : ℕ) (left_before left_after : Option (List ℕ)) (before after : D) (written_before written_after : Option (List ℕ))
    (made : Generates disks status seed count left_before left_after before after written_before written_after) (x y : List ℕ) → disks.shown made.start ≡ Some x → disks.shown after ≡ Some y
    → ScriptUnveils disks (piece made.hands.drawn 0) (made_with (root_keys made.hands.drawn)) x made.start after
script_unveils {D} disks status seed count left_before left_after before after written_before written_after made x y is_x is_y =
    let key = piece made.hands.drawn 0 in
    let m = made_with (root_keys made.hands.drawn) in
    let since = disks.since after (disks.moment made.start) in
    let to = filled_by status seed count key m (unheard made.behind left_after (disks.shown after)) (disks.may_leave after)
    (LinesKeepUpTo key m (disks.shown made.start) (disks.shown after) since) written_before written_after (made_valid made_version (root_keys made.hands.drawn) (inr refl) refl) (made.fills y is_y) in
    let whole = fresh_stands made.hands.drawn x (made.stands.shows x is_x) in
    let reached : Journal = to.reached in (
      reached,
      to.longer,
      λ veiled s left at. joins_shown key m reached x s (disks.shown after) whole to.longer to.valid to.whole_keys veiled
          (⊎_elim (λ stage. inl stage) (λ torn. inr (torn.1, torn.2)) (to.kept.hands x is_x s left at)),
      on_maps D disks.moment disks.since (HasPublished key) (KeepsUnveiled key) (λ s c. Unit {0}) (λ s c. (held : Journal) × StandsForJournal key held c) made.start after
          (λ s c t l one stands has. kept_now key s l stands.0 stands.1 has)
          (made.published y is_y).kept
          (λ s c at. tt)
          (λ s c at. let k = to.kept.kept s c at in (k.held, k.stands_for)),
    )
