use Rattle.std.proofs.Common.{◌≡◌, IsTrue, false, inl, arith, refl, sym, subst, ◌∙◌}
use Rattle.std.proofs.lemmas.Bool.{false≢true}
use Rattle.cry_base.specs.declared.commands.Reply.TheVariants as replies
use Rattle.cry_io.specs.Told.{WhereBothTold}
use Rattle.log_visits.specs.Asking.{verdict}
use Rattle.log_visits.specs.Asking.Asking.{ToWrite}
use Rattle.cli_base.specs.World.{senses_of, world_of}
use Rattle.cli_base.specs.declared.status.Status.TheVariants as statuses
use Rattle.cli_sessions.proofs.OpenedPublishing.{unread_publishes}
use Rattle.cli_sessions.proofs.RunEnds.{still_told}
use Rattle.cli_sessions.proofs.StopLemmas.{kept_unread, time_still}
use Rattle.cli_sessions.specs.Stopping.{KeepsUpTo}
use Rattle.cli_upgrading.proofs.AnyUpgrades.{tested_before}
use Rattle.cli_upgrading.proofs.WholeUpgrades.{input_cases, undone_input, unprinted, unread_decides, unread_ends, unread_judges, unread_takes}
use Rattle.cli_upgrading.specs.Promises.Upgrade.{UpgradeEnds}
use Rattle.cli_upgrading.specs.Upgrading.{PrintsReply, is_after_opening, is_upgrade_answer}
use Rattle.cli_upgrading.proofs.upgrade.upgrade.Goals as goal

-- ---- the input hands in no key

pub returns-in-Err-clause-ends : goal.returns-in-Err-clause-ends
returns-in-Err-clause-ends g c =
    let D = g.D.Disk in
    let left = g.S.Source.left in
    let first = c.args.input.now in
    let rest = c.read_owner_line.new.input in
    let disk = c.args.disk.now in
    let written = g.W.Sink.written c.args.out.now in
    let fault = c.in-Err.fault in
    let reads = c.in-Err.ensures.bytes in
    subst (λ status. UpgradeEnds (senses_of g.S.Source g.R.Source g.D.Disk g.W.Sink) status
    (world_of first c.args.random.now disk c.args.out.now) (world_of rest c.args.random.now disk c.args.out.now)) (sym c.input_status.ensures)
    (record {
      answers = input_cases (λ s. IsTrue (is_upgrade_answer s)) (λ line. refl) refl refl fault;
      decided = λ x was.
          let again = still_told (left rest) (left first) x c.in-Err.ensures.told was in
          unread_decides fault x again.0 (reads x again.0 was again.1);
      judged = λ x was image shown key hands.
          let again = still_told (left rest) (left first) x c.in-Err.ensures.told was in
          unread_judges fault x again.0 key (verdict (ToWrite key) image) (reads x again.0 was again.1) hands;
      short = λ had need is. undone_input fault (statuses.RandomShort had need) (λ line e. absurd cc) (λ e. absurd cc) (λ e. absurd cc) is;
      takes = λ x y was now. unread_takes fault x y (reads x y was now);
      printed = (
        replies.Done,
        input_cases (λ s. WhereBothTold written written (PrintsReply s replies.Done))
            (λ line. unprinted (statuses.BadScript line) written replies.Done (λ x y same. same))
            (unprinted statuses.ReadFault written replies.Done (λ x y same. same)) (unprinted statuses.OutOfMemory written replies.Done (λ x y same. same)) fault,
      );
      out_kept = λ is. refl;
      ran = λ x was key m hands shows.
          let again = still_told (left rest) (left first) x c.in-Err.ensures.told was in
          unread_ends fault x again.0 key m (g.R.Source.left c.args.random.now) (D.shown disk) written (D.may_leave disk)
          (KeepsUpTo key m (D.shown disk) (D.shown disk) (D.may_leave disk) (D.since disk (D.moment disk))) (reads x again.0 was again.1) hands shows
          (kept_unread key m (D.shown disk) (D.may_leave disk) (D.since disk (D.moment disk)) (λ s l at. g.met.D.Disk.only_now disk s l at));
      published = λ x was key m hands shows stays.
          unread_publishes g.row.D.Denot D.moment D.since key (D.shown disk) (D.may_leave disk) disk (λ s l at. g.met.D.Disk.only_now disk s l at) stays;
      later = omega arith;
      time = time_still (D.moment disk) (D.since disk) (D.shown disk) (D.may_leave disk) (λ s l at. g.met.D.Disk.only_now disk s l at)
          (λ t s l early shown leaves. g.met.D.Disk.counts_now disk t s l early shown leaves);
      stays = λ is. absurd (false≢true (sym (input_cases (λ s. is_after_opening s ≡ false) (λ line. refl) refl refl fault) ∙ is));
      opening = inl (record {
        left = record { rest_kept = refl; store = inl refl };
        early = input_cases (λ s. is_after_opening s ≡ false) (λ line. refl) refl refl fault;
      });
      undrawn = λ is. refl;
      unopened = λ is. refl;
    })

-- ---- it hands in one

pub returns-in-Ok-clause-ends : goal.returns-in-Ok-clause-ends
returns-in-Ok-clause-ends g c =
    let line = c.in-Ok.ensures in
    c.open_and_upgrade.ensures.upgrades c.args.input.now c.read_owner_line.new.input (record { told = line.told; reads = line.bytes })

pub returns-in-Ok-clause-any : goal.returns-in-Ok-clause-any
returns-in-Ok-clause-any g c =
    let line = c.in-Ok.ensures in
    let rest = c.read_owner_line.new.input in
    let up = c.open_and_upgrade in
    tested_before (senses_of g.S.Source g.R.Source g.D.Disk g.W.Sink) up.result c.args.input.now rest c.args.random.now up.new.random
    c.args.disk.now c.args.disk.now up.new.disk c.args.out.now up.new.out line.told line.counts refl (omega arith) (up.ensures.any rest)
