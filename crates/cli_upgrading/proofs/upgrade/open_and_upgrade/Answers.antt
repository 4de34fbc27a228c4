use Rattle.std.proofs.Common.{◌≡◌, ⊎_elim, IsTrue, false, inl, inr, ℕ, List, length, None, Some, Ok, arith, refl, sym, ap, subst, ◌∙◌}
use Rattle.std.proofs.lemmas.Bool.{false≢true}
use Rattle.batch_log.specs.Handing.{all_written}
use Rattle.batch_log.specs.Moments.{FromThenOn}
use Rattle.batch_log.proofs.Moments.{goes_on_then}
use Rattle.commit_journal.specs.Handing.{opening_writes}
use Rattle.cry_base.specs.Limits.{most_store_bytes}
use Rattle.cry_base.specs.declared.commands.Reply.TheVariants as replies
use Rattle.cry_io.specs.Told.{WhereBothTold, WhereTold}
use Rattle.journal_bytes.specs.Bytes.{image_of}
use Rattle.journal_bytes.specs.Journals.{StandsForJournal}
use Rattle.log_visits.specs.Asking.{verdict}
use Rattle.log_visits.specs.Asking.Asking.{ToWrite}
use Rattle.public_fold.specs.Journal.{Journal}
use Rattle.cli_base.specs.Input.{InputDecides, owner_answer}
use Rattle.cli_base.specs.World.{senses_of, world_of}
use Rattle.cli_base.specs.declared.status.Status.TheVariants as statuses
use Rattle.cli_sessions.proofs.OpenedPublishing.{opened_publishes}
use Rattle.cli_sessions.proofs.RunEnds.{still_told}
use Rattle.cli_sessions.proofs.StopLemmas.{kept_opened, kept_unopened, time_still, told_stands}
use Rattle.cli_sessions.proofs.StoreOpening.{each_unopened, opened_has_no_verdict, opened_stands, unopened_is_judged, was_opened}
use Rattle.cli_sessions.proofs.Versions.{KeepsVersion, owners_version, versions_told}
use Rattle.cli_sessions.specs.Opening.{IsOfVersion, Judges, open_status}
use Rattle.cli_sessions.specs.Sessions.{KeepsFrom, seen_from}
use Rattle.cli_sessions.specs.Stopping.{KeepsUpTo, LinesKeepUpTo}
use Rattle.cli_upgrading.proofs.UpgradeCases.{behind_cases}
use Rattle.cli_upgrading.proofs.WholeUpgrades.{same_owner, unopened_ends, unopened_is_no_draw, unprinted, upgrade_more}
use Rattle.cli_upgrading.specs.Promises.Upgrade.{UpgradeEnds}
use Rattle.cli_upgrading.specs.Upgrading.{EndsUpgrade, HandsInAlone, PrintsReply, TakesAlone, is_after_opening, is_before_opening, is_upgrade_answer}
use Rattle.store_owner.proofs.SlotsHanded.{opened_shows}
use Rattle.store_owner.specs.Published.{HasPublished, StaysPublished}
use Rattle.cli_upgrading.proofs.upgrade.open_and_upgrade.Goals as goal

-- ---- the store isn't opened

pub returns-in-Err-clause-upgrades : goal.returns-in-Err-clause-upgrades
returns-in-Err-clause-upgrades g c = λ first rest given.
    let D = g.D.Disk in
    let left = g.S.Source.left in
    let disk = c.args.disk.now in
    let next = c.open_store.new.disk in
    let written = g.W.Sink.written c.args.out.now in
    let own = c.args.key in
    let fault = c.in-Err.fault in
    let reads = given.reads in
    let tried = c.in-Err.ensures in
    let handed : (x : List ℕ) → left first ≡ Some x → owner_answer x ≡ Ok own = λ x was.
    let again = still_told (left rest) (left first) x given.told was in (reads x again.0 was again.1).0 in
    subst (λ status. UpgradeEnds (senses_of g.S.Source g.R.Source g.D.Disk g.W.Sink) status
    (world_of first c.args.random.now disk c.args.out.now) (world_of rest c.args.random.now next c.args.out.now)) (sym c.open_status.ensures)
    (record {
      answers = each_unopened (λ s. IsTrue (is_upgrade_answer s)) refl refl (λ at. refl) (λ batch at. refl) refl refl fault;
      decided = λ x was.
          subst (λ answer. InputDecides (open_status fault) answer) (sym (handed x was))
          (each_unopened (λ s. InputDecides s (Ok own)) refl refl (λ at. refl) (λ batch at. refl) refl tt fault);
      judged = λ x was image shown key hands.
          let same = same_owner x own key (handed x was) hands in
          subst (λ k. Judges (open_status fault) (verdict (ToWrite k) image)) same (unopened_is_judged fault own image (tried.largest refl image shown));
      short = λ had need is. unopened_is_no_draw fault had need is;
      takes = λ x y was now.
          let none = (reads x y was now).1 in
          each_unopened (λ s. TakesAlone s x y) none none (λ at. none) (λ batch at. none) none tt fault;
      printed = (
        replies.Done,
        each_unopened (λ s. WhereBothTold written written (PrintsReply s replies.Done))
            (unprinted statuses.NotAStore written replies.Done (λ x y same. same)) (unprinted statuses.WrongKey written replies.Done (λ x y same. same))
            (λ at. unprinted (statuses.Damaged at) written replies.Done (λ x y same. same))
            (λ batch at. unprinted (statuses.Tampered batch at) written replies.Done (λ x y same. same))
            (unprinted statuses.DiskFault written replies.Done (λ x y same. same)) (unprinted statuses.OutOfMemory written replies.Done (λ x y same. same)) fault,
      );
      out_kept = λ is. refl;
      ran = λ x was key m hands shows.
          let same = same_owner x own key (handed x was) hands in
          let stands = subst (λ k. StandsForJournal k m shows.0) (sym same) shows.2 in
          let now = still_told (D.shown next) (D.shown disk) shows.0 tried.told shows.1 in
          let could = D.may_leave disk in
          let since = D.since next (D.moment disk) in
          let Kept : Journal → Type 0 = KeepsUpTo key m (D.shown disk) (D.shown next) could since in
          let kept : Kept m = kept_unopened own key m (D.shown disk) (D.shown next) could since _ same (tried.kept m) tried.hands
          (told_stands own m (D.shown disk) shows.0 shows.1 stands) stands.valid.1 in
          unopened_ends fault (tried.never m shows.0 shows.1 stands stands.valid.1) key m (g.R.Source.left c.args.random.now) (D.shown disk) (D.shown next) written
          (D.may_leave next) Kept (now.0, now.1, subst (λ k. StandsForJournal k m now.0) same (tried.left m shows.0 now.0 shows.1 now.1 stands stands.valid.1)) kept;
      published = λ x was key m hands shows stays.
          let same = same_owner x own key (handed x was) hands in
          let stands = subst (λ k. StandsForJournal k m shows.0) (sym same) shows.2 in
          let up = tried.published m (subst (λ k. StaysPublished k (D.shown disk) (D.may_leave disk)) (sym same) stays) shows.0 shows.1 stands stands.valid.1 in
          subst (λ k. FromThenOn D.moment D.since disk next (HasPublished k)) same up.kept;
      later = tried.later;
      time = tried.time;
      stays = λ is.
          absurd (false≢true (sym (each_unopened (λ s. is_after_opening s ≡ false) refl refl (λ at. refl) (λ batch at. refl) refl refl fault) ∙ is));
      opening = inl (record {
        left = record {
          rest_kept = refl;
          store = inr (
            own,
            handed,
            record {
              size = tried.size;
              throughout = tried.stops;
              left = ⊎_elim (λ failed. inl (ap open_status failed)) (λ leaves. inr leaves) tried.refused;
            },
          );
        };
        early = each_unopened (λ s. is_after_opening s ≡ false) refl refl (λ at. refl) (λ batch at. refl) refl refl fault;
      });
      undrawn = λ is. refl;
      unopened = λ is.
          absurd (false≢true (sym (each_unopened (λ s. is_before_opening s ≡ false) refl refl (λ at. refl) (λ batch at. refl) refl refl fault) ∙ is));
    })

-- ---- behind the opening

pub returns-in-Ok-clause-upgrades : goal.returns-in-Ok-clause-upgrades
returns-in-Ok-clause-upgrades g c = λ first rest given.
    let D = g.D.Disk in
    let left = g.S.Source.left in
    let a = c.args.disk.now in
    let b = c.open_store.new.disk in
    let e = c.upgrade_store.new.disk in
    let own = c.args.key in
    let reads = given.reads in
    let it = c.in-Ok.ensures in
    let owner = c.in-Ok.owner in
    let up = c.upgrade_store in
    let is = up.ensures in
    let handed : (x : List ℕ) → left first ≡ Some x → owner_answer x ≡ Ok own = λ x was.
    let again = still_told (left rest) (left first) x given.told was in (reads x again.0 was again.1).0 in
    let of_journal : KeepsVersion HandsInAlone (left first) (D.shown a) owner.state.keys.version = λ x was key m hands shows.
    let same = same_owner x own key (handed x was) hands in
    let stands = subst (λ k. StandsForJournal k m shows.0) (sym same) shows.2 in
    (stands.valid, owners_version m owner (it.stands m shows.0 shows.1 stands stands.valid.1)) in
    record {
      answers = behind_cases (λ s. IsTrue (is_upgrade_answer s)) refl refl refl (λ had need. refl) refl refl refl up.result is.answers;
      decided = λ x was.
          subst (λ answer. InputDecides up.result answer) (sym (handed x was))
          (behind_cases (λ s. InputDecides s (Ok own)) refl refl refl (λ had need. refl) refl refl tt up.result is.answers);
      judged = λ x was image shown key hands.
          let same = same_owner x own key (handed x was) hands in
          let opens = it.largest refl image shown in
          let none : verdict (ToWrite key) image ≡ None = subst (λ k. verdict (ToWrite k) image ≡ None) same (opened_has_no_verdict own image opens.0 opens.1) in
          behind_cases (λ s. Judges s (verdict (ToWrite key) image)) none none none (λ had need. none) none tt tt up.result is.answers;
      short = is.short;
      takes = λ x y was now.
          let none = (reads x y was now).1 in
          behind_cases (λ s. TakesAlone s x y) none none none (λ had need. none) none none tt up.result is.answers;
      printed = is.printed;
      out_kept = is.out_kept;
      ran = λ x was key m hands shows.
          let same = same_owner x own key (handed x was) hands in
          let stands = subst (λ k. StandsForJournal k m shows.0) (sym same) shows.2 in
          let begins = opened_stands own m owner (D.shown b) (D.may_leave b) (it.stands m shows.0 shows.1 stands stands.valid.1) it.fresh
          (it.settled m shows.0 shows.1 stands stands.valid.1) in
          let keeps : KeepsFrom (length (image_of own m)) (D.shown a) (D.shown b) = λ s t at then.
          let one : shows.0 ≡ s = let both = sym shows.1 ∙ at in cc in
          it.behind m s t at then (subst (λ z. StandsForJournal own m z) one stands) stands.valid.1 in
          let seen = seen_from (g.R.Source.left c.args.random.now) (g.R.Source.left up.new.random) (D.shown a) (D.shown e)
          (g.W.Sink.written c.args.out.now) (g.W.Sink.written up.new.out) in
          let Lines : List ℕ → Journal → Type 0 = λ k. LinesKeepUpTo k m (D.shown b) (D.shown e) (D.since e (D.moment b)) in
          let Kept : Journal → Type 0 = KeepsUpTo key m (D.shown a) (D.shown e) (D.may_leave a) (D.since e (D.moment a)) in
          let slots : WhereTold (D.shown a) (λ s. D.shown b ≡ Some (all_written (opening_writes most_store_bytes own s) s)) = λ s at.
          let one : shows.0 ≡ s = let both = sym shows.1 ∙ at in cc in
          let next = still_told (D.shown b) (D.shown a) s it.told at in
          next.1 ∙ ap Some (opened_shows own m s next.0 (subst (λ z. StandsForJournal own m z) one stands) stands.valid.1 (it.filled s next.0 at next.1)) in
          let more : (reached : Journal) → Lines key reached → Kept reached = kept_opened own key m (D.shown a) (D.shown b) (D.shown e) (D.may_leave a)
          (D.moment a) (D.moment b) (D.since b) (D.since e) _ same (it.kept m) it.hands slots (told_stands own m (D.shown a) shows.0 shows.1 stands) stands.valid.1
          it.later is.time in
          upgrade_more key m seen (D.may_leave e) (Lines key) Kept more up.result is.answers
          (subst (λ k. EndsUpgrade up.result k m seen (D.may_leave e) (Lines k)) same (is.ends own m (D.shown a) begins keeps));
      published = λ x was key m hands shows stays.
          let same = same_owner x own key (handed x was) hands in
          let stands = subst (λ k. StandsForJournal k m shows.0) (sym same) shows.2 in
          let begins = opened_stands own m owner (D.shown b) (D.may_leave b) (it.stands m shows.0 shows.1 stands stands.valid.1) it.fresh
          (it.settled m shows.0 shows.1 stands stands.valid.1) in
          let opens = it.published m (subst (λ k. StaysPublished k (D.shown a) (D.may_leave a)) (sym same) stays) shows.0 shows.1 stands stands.valid.1 in
          subst (λ k. FromThenOn D.moment D.since a e (HasPublished k)) same
          (opened_publishes g.row.D.Denot D.moment D.since own m a b e
          (λ d. time_still (D.moment d) (D.since d) (D.shown d) (D.may_leave d) (λ s l at. g.met.D.Disk.only_now d s l at)
          (λ t s l early shown leaves. g.met.D.Disk.counts_now d t s l early shown leaves))
          opens (is.published own m begins));
      later = let one = it.later in let two = is.later in omega (arith, one, two);
      time = goes_on_then (D.moment a) (D.moment b) (D.since a) (D.since b) (D.since e) it.later it.time is.time;
      stays = λ after. is.calm (λ failed. false≢true (subst (λ s. IsTrue (is_after_opening s)) failed after));
      opening = inr (record {
        opened = record {
          key = own;
          owner = owner;
          opened = b;
          hands_in = handed;
          opening = was_opened D own owner a b it.largest it.log it.fresh it.told it.size it.later it.stops it.filled it.durable;
          unrefused = behind_cases (λ s. Judges s None) refl refl refl (λ had need. refl) refl tt tt up.result is.answers;
          settled = is.calm;
          refused = λ new.
              let kept = is.already new in (
                (λ one. absurd (kept.0 one), λ other. absurd (other refl)),
                ap (λ random. world_of rest random e up.new.out) kept.1
                    ∙ ap (λ disk. world_of rest c.args.random.now disk up.new.out) kept.2
                    ∙ ap (λ out. world_of rest c.args.random.now b out) kept.3,
              );
          taken = λ other. let one = is.upgrades other in (λ same. refl, λ same. one);
          suits = λ other.
              subst (λ v. IsOfVersion HandsInAlone v (left first) (D.shown a)) (is.upgrades other)
              (versions_told HandsInAlone (left first) (D.shown a) owner.state.keys.version of_journal);
        };
        asks = is.asks;
      });
      undrawn = λ new.
          let kept = is.already new in
          ap (λ random. world_of rest random e up.new.out) kept.1 ∙ ap (λ out. world_of rest c.args.random.now e out) kept.3;
      unopened = λ before.
          absurd (false≢true (sym (behind_cases (λ s. is_before_opening s ≡ false) refl refl refl (λ had need. refl) refl refl refl up.result is.answers) ∙ before));
    }
