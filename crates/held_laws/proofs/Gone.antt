-- What a run, a call of `serve` or an upgrade made of the journal that it found, and what may be left of it.
use Rattle.std.proofs.Common.{◌≡◌, ⊎_elim, ◌⊎◌, inl, inr, ℕ, Bool, true, false, List, [], ◌++◌, length, Option, None, append-nil, arith, refl, sym, subst}
use Rattle.commit_journal.specs.Holding.{IsPrefix}
use Rattle.commit_journal.proofs.KeptLemmas.{between_wider, prefix_same}
use Rattle.cry_base.specs.Limits.{most_file_bytes}
use Rattle.cry_base.specs.Requests.{Request}
use Rattle.cli_base.specs.Lines.{InputLine}
use Rattle.cli_base.specs.declared.status.Status.{Status}
use Rattle.cli_base.specs.declared.status.Status.TheVariants as statuses
use Rattle.cli_sessions.specs.Sessions.{Ends, LeavesAt, RanUnwritten, Seen, SessionOver, version_limits}
use Rattle.cli_sessions.proofs.StopLemmas.{settled_holds_journal}
use Rattle.cli_upgrading.specs.Upgrading.{EndsUpgrade, HasAnswered, IsAccepted, IsTooFull, WasCutShort}
use Rattle.public_fold.specs.Journal.{Journal}
use Rattle.public_fold.specs.Valid.{IsValid}
use Rattle.journal_bytes.specs.Journals.{HoldsBetween, StandsForJournal}
use Rattle.journal_bytes.specs.Keys.{AreWhole}
use Rattle.journal_bytes.specs.Script.{answer, draws_of, journal_then, opened}
use Rattle.journal_bytes.specs.Upgrading.{upgraded_then}
use Rattle.journal_bytes.proofs.NextUpgrade.{upgraded_valid}
use Rattle.journal_bytes.proofs.NextValid.{next_valid, next_whole}
use Rattle.store_owner.specs.Drawing.{AreKeys, joined}
use Rattle.handed_laws.proofs.Runs.{front_valid, front_whole, not_refused}
use Rattle.handed_laws.proofs.Upgrades.{has_room, upgraded_whole}
use Rattle.held_laws.proofs.Spending.{IsMade, made_by_script, made_next, made_upgraded}

-- it was made by a session, or an upgrade, up to which the call kept what it found. Where the session began its epoch the disk holds between the two
pub record Gone (key : List ℕ) (m : Journal) (shown : Option (List ℕ)) (may_leave : List ℕ → Type 0) (KeepsTo : Journal → Type 0) : Type 0 where
  pub begun : Bool
  pub reached : Journal
  pub made : IsMade m begun reached
  pub valid : IsValid reached
  pub whole_keys : AreWhole key reached
  pub kept : KeepsTo reached
  pub lasts : (begun ≡ false) ⊎ HoldsBetween key m reached shown may_leave

abbrev none_made : (m : Journal) → IsMade m false m
none_made m = record { entries = []; is = sym (append-nil m); session = refl }

session_made : (m : Journal) (asked : List Request) (session : SessionOver version_limits m asked) → IsMade m session.begun session.now
unfolding opened
session_made m asked session =
    subst (λ g. IsMade m g.begun g.journal) (session.goes []) (made_by_script version_limits m (opened m (joined session.drawn ++ [])) asked (none_made m))

begins : (m : Journal) (b : Bool) (j : Journal) → IsMade m b j → IsPrefix m j
begins m b j made = (made.entries, sym made.is)

module _ (key : List ℕ) (m : Journal) (m_valid : IsValid m) (lines : List InputLine) (seen : Seen) (may_leave : List ℕ → Type 0) (KeepsTo : Journal → Type 0) where
  abbrev Here : Type 0
  Here = Gone key m seen.shown may_leave KeepsTo

  rests_at : (b : Bool) (now : Journal) → IsMade m b now → LeavesAt key m now seen may_leave → KeepsTo now → Here
  rests_at b now made leaves kept =
      let whole = leaves.settled.shows.2 in
      record {
        begun = b;
        reached = now;
        made = made;
        valid = whole.valid;
        whole_keys = whole.whole_keys;
        kept = kept;
        lasts = inr (between_wider (StandsForJournal key) now now m now seen.shown may_leave (begins m b now made) (prefix_same now)
            (settled_holds_journal key now seen.shown may_leave leaves.settled));
      }

  pub settled : (asked : List Request) (session : SessionOver version_limits m asked) → LeavesAt key m session.now seen may_leave → KeepsTo session.now → Here
  settled asked session leaves kept = rests_at session.begun session.now (session_made m asked session) leaves kept

  -- the next command was accepted, and met a fault of the disk
  pub next_gone : (asked : List Request) (session : SessionOver version_limits m asked) (next : Request) → answer version_limits session.now session.begun next ≡ None
      → (last : List (List ℕ)) → length last ≡ draws_of session.now next → AreKeys last
      → HoldsBetween key session.now (journal_then session.now session.begun next last) seen.shown may_leave → KeepsTo (journal_then session.now session.begun next last) → Here
  next_gone asked session next is_accepted last count sizes holds kept =
      let now = session.now in
      let made = session_made m asked session in
      let then = journal_then now session.begun next last in
      let at = holds.shows.2 in
      let valid = front_valid m now at.held m_valid (begins m session.begun now made) at.from at.stands_for.valid in
      let whole = front_whole key now at.held at.from at.stands_for.whole_keys in
      let fine = not_refused now session.begun next is_accepted in
      record {
        begun = true;
        reached = then;
        made = made_next m session.begun now next last made;
        valid = next_valid now session.begun next last most_file_bytes valid (omega arith) fine.0 count sizes fine.1;
        whole_keys = next_whole key now session.begun next last whole sizes;
        kept = kept;
        lasts = inr (between_wider (StandsForJournal key) now then m then seen.shown may_leave (begins m session.begun now made) (prefix_same then) holds);
      }

  unwritten : RanUnwritten version_limits key m lines seen may_leave KeepsTo → Here
  unwritten run =
      next_gone run.ran.asked run.ran.session run.ran.next run.ran.is_accepted run.last run.last_count run.last_sizes run.holds run.kept

  pub unopened : AreWhole key m → KeepsTo m → Here
  unopened keys kept =
      record { begun = false; reached = m; made = none_made m; valid = m_valid; whole_keys = keys; kept = kept; lasts = inl refl }

  pub gone_by : AreWhole key m → (status : Status) (asked : List Request) → Ends status version_limits key m asked lines seen may_leave KeepsTo → Here
  gone_by keys statuses.Done asked (run, is) = settled run.asked run.session run.leaves run.kept
  gone_by keys (statuses.BadScript line) asked all = settled all.2.asked all.2.session all.2.leaves all.2.kept
  gone_by keys statuses.NeedsUpgrade asked all = settled all.1.asked all.1.session all.1.leaves all.1.kept
  gone_by keys statuses.ReadFault asked run =
      ⊎_elim (λ is. unopened keys is.1.kept) (λ all. settled all.1.asked all.1.session all.1.leaves all.1.kept) run
  gone_by keys (statuses.RandomShort left need) asked (run, is) = settled run.ran.asked run.ran.session run.leaves run.kept
  gone_by keys statuses.RandomFault asked (run, is) = settled run.ran.asked run.ran.session run.leaves run.kept
  gone_by keys statuses.WriteFault asked (run, is) = settled run.asked run.session run.leaves run.kept
  gone_by keys statuses.DiskFault asked run = ⊎_elim (λ is. unopened keys is.1.kept) (λ all. unwritten all.0) run
  gone_by keys statuses.OutOfMemory asked run =
      ⊎_elim (λ is. unopened keys is.1.kept) (λ all. settled all.0.asked all.0.session all.0.leaves all.0.kept) run
  gone_by keys statuses.Usage asked run = absurd run
  gone_by keys statuses.NotAStore asked run = absurd run
  gone_by keys (statuses.Damaged at) asked run = absurd run
  gone_by keys statuses.WrongKey asked run = absurd run
  gone_by keys (statuses.Tampered batch at) asked run = absurd run
  gone_by keys statuses.NotBlank asked run = absurd run
  gone_by keys (statuses.NoHolder known) asked run = absurd run
  gone_by keys statuses.Unseen asked run = absurd run
  gone_by keys statuses.AlreadyNew asked run = absurd run
  gone_by keys (statuses.Behind have want) asked run = absurd run
  gone_by keys (statuses.Forked batches) asked run = absurd run
  gone_by keys statuses.BadProof asked run = absurd run

  -- ---- an upgrade

  answered : HasAnswered key m seen may_leave KeepsTo → Here
  answered done =
      ⊎_elim
      (λ (is : IsAccepted m done.drawn done.reply done.now).
      rests_at true done.now (subst (λ j. IsMade m true j) (sym is.3) (made_upgraded m done.drawn)) done.leaves done.kept)
      (λ (full : IsTooFull m done.drawn done.reply done.now).
      rests_at false done.now (subst (λ j. IsMade m false j) (sym full.3) (none_made m)) done.leaves done.kept)
      done.answers

  cut_short : AreWhole key m → WasCutShort key m seen may_leave KeepsTo → Here
  cut_short keys cut =
      let then = upgraded_then m false cut.drawn in
      record {
        begun = true;
        reached = then;
        made = made_upgraded m cut.drawn;
        valid = upgraded_valid m false cut.drawn m_valid cut.first cut.drawn_count (has_room m cut.is_accepted);
        whole_keys = upgraded_whole key m cut.drawn keys cut.drawn_sizes;
        kept = cut.kept;
        lasts = inr cut.holds;
      }

  pub gone_by_upgrade : AreWhole key m → (status : Status) → EndsUpgrade status key m seen may_leave KeepsTo → Here
  gone_by_upgrade keys statuses.Done call = answered call.0
  gone_by_upgrade keys statuses.WriteFault call = answered call.0
  gone_by_upgrade keys statuses.AlreadyNew call = unopened keys call.0.kept
  gone_by_upgrade keys (statuses.RandomShort left need) call = unopened keys call.0.kept
  gone_by_upgrade keys statuses.RandomFault call = unopened keys call.0.kept
  gone_by_upgrade keys statuses.ReadFault call = unopened keys call.kept
  gone_by_upgrade keys statuses.DiskFault call = ⊎_elim (λ is. unopened keys is.kept) (λ cut. cut_short keys cut) call
  gone_by_upgrade keys statuses.OutOfMemory call =
      ⊎_elim (λ is. unopened keys is.kept) (λ behind. ⊎_elim (λ rest. unopened keys rest.0.kept) (λ done. answered done) behind) call
  gone_by_upgrade keys (statuses.BadScript line) call = absurd call
  gone_by_upgrade keys statuses.NeedsUpgrade call = absurd call
  gone_by_upgrade keys statuses.Usage call = absurd call
  gone_by_upgrade keys statuses.NotAStore call = absurd call
  gone_by_upgrade keys (statuses.Damaged at) call = absurd call
  gone_by_upgrade keys statuses.WrongKey call = absurd call
  gone_by_upgrade keys (statuses.Tampered batch at) call = absurd call
  gone_by_upgrade keys statuses.NotBlank call = absurd call
  gone_by_upgrade keys (statuses.NoHolder known) call = absurd call
  gone_by_upgrade keys statuses.Unseen call = absurd call
  gone_by_upgrade keys (statuses.Behind have want) call = absurd call
  gone_by_upgrade keys (statuses.Forked batches) call = absurd call
  gone_by_upgrade keys statuses.BadProof call = absurd call
