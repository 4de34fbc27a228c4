-- What an upgrade by the owner reached.
use Rattle.std.proofs.Common.{◌≡◌, ◌≤◌, ⊎_elim, ℕ, false, List, None}
use Rattle.std.specs.Prelude.{nat_lt}
use Rattle.std.proofs.lemmas.Bool.{ltb-false}
use Rattle.commit_journal.proofs.KeptLemmas.{prefix_same}
use Rattle.cry_base.specs.Limits.{most_store_bytes}
use Rattle.cli_base.specs.declared.status.Status.{Status}
use Rattle.cli_base.specs.declared.status.Status.TheVariants as statuses
use Rattle.cli_sessions.specs.Sessions.{Seen, version_limits}
use Rattle.cli_upgrading.specs.Upgrading.{EndsUpgrade, HasAnswered, WasCutShort}
use Rattle.journal_bytes.specs.Keys.{AreWhole, drawn_by}
use Rattle.journal_bytes.specs.Upgrading.{upgrade_answer, upgrade_end, upgraded_then}
use Rattle.journal_bytes.proofs.NextUpgrade.{upgraded_valid}
use Rattle.journal_bytes.proofs.NextValid.{entered_whole}
use Rattle.public_fold.specs.Journal.{Journal}
use Rattle.public_fold.specs.Journal.Entry.{Upgraded}
use Rattle.public_fold.specs.Valid.{IsValid}
use Rattle.store_owner.specs.Drawing.{AreKeys}
use Rattle.stop_laws.proofs.Made.{answered_begins, upgrade_begins}
use Rattle.handed_laws.proofs.Runs.{Reaches, accepted}

-- one that is accepted has room
pub has_room : (m : Journal) → upgrade_answer version_limits m false ≡ None → upgrade_end m false ≤ most_store_bytes
unfolding upgrade_answer
has_room m is = ltb-false most_store_bytes (upgrade_end m false) (accepted None (nat_lt most_store_bytes (upgrade_end m false)) is).1

pub upgraded_whole : (key : List ℕ) (m : Journal) (drawn : List (List ℕ)) → AreWhole key m → AreKeys drawn → AreWhole key (upgraded_then m false drawn)
unfolding drawn_by
upgraded_whole key m drawn whole sizes = entered_whole key m false (Upgraded drawn) whole sizes

module _ (key : List ℕ) (m : Journal) (m_valid : IsValid m) (keys : AreWhole key m) (seen : Seen) (may_leave : List ℕ → Type 0) (KeepsTo : Journal → Type 0) where
  abbrev Reached : Type 0
  Reached = Reaches key m KeepsTo

  answered : HasAnswered key m seen may_leave KeepsTo → Reached
  answered done =
      let whole = done.leaves.settled.shows.2 in
      record { reached = done.now; longer = answered_begins m done.drawn done.reply done.now done.answers; valid = whole.valid; whole_keys = whole.whole_keys; kept = done.kept }

  at_rest : KeepsTo m → Reached
  at_rest kept = record { reached = m; longer = prefix_same m; valid = m_valid; whole_keys = keys; kept = kept }

  cut_short : WasCutShort key m seen may_leave KeepsTo → Reached
  cut_short run = record {
    reached = upgraded_then m false run.drawn;
    longer = upgrade_begins m run.drawn;
    valid = upgraded_valid m false run.drawn m_valid run.first run.drawn_count (has_room m run.is_accepted);
    whole_keys = upgraded_whole key m run.drawn keys run.drawn_sizes;
    kept = run.kept;
  }

  -- by what `upgrade` says of its end
  pub upgrade_reached : (status : Status) → EndsUpgrade status key m seen may_leave KeepsTo → Reached
  upgrade_reached statuses.Done call = answered call.0
  upgrade_reached statuses.WriteFault call = answered call.0
  upgrade_reached statuses.AlreadyNew call = at_rest call.0.kept
  upgrade_reached (statuses.RandomShort left need) call = at_rest call.0.kept
  upgrade_reached statuses.RandomFault call = at_rest call.0.kept
  upgrade_reached statuses.ReadFault call = at_rest call.kept
  upgrade_reached statuses.DiskFault call = ⊎_elim (λ is. at_rest is.kept) (λ run. cut_short run) call
  upgrade_reached statuses.OutOfMemory call = ⊎_elim (λ is. at_rest is.kept) (λ opened. ⊎_elim (λ rest. at_rest rest.0.kept) (λ done. answered done) opened) call
  upgrade_reached (statuses.BadScript line) call = absurd call
  upgrade_reached statuses.NeedsUpgrade call = absurd call
  upgrade_reached statuses.Usage call = absurd call
  upgrade_reached statuses.NotAStore call = absurd call
  upgrade_reached (statuses.Damaged at) call = absurd call
  upgrade_reached statuses.WrongKey call = absurd call
  upgrade_reached (statuses.Tampered batch at) call = absurd call
  upgrade_reached statuses.NotBlank call = absurd call
  upgrade_reached (statuses.NoHolder known) call = absurd call
  upgrade_reached statuses.Unseen call = absurd call
  upgrade_reached (statuses.Behind have want) call = absurd call
  upgrade_reached (statuses.Forked batches) call = absurd call
  upgrade_reached statuses.BadProof call = absurd call
