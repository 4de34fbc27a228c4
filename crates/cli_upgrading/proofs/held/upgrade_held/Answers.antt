use Rattle.std.proofs.Common.{IsTrue, ap, inl, inr, refl, subst, sym}
use Rattle.std.specs.Prelude.{is_some}
use Rattle.commit_journal.proofs.OpenedMoments.{read_throughout}
use Rattle.cli_base.specs.World.{senses_of, world_of}
use Rattle.cli_sessions.proofs.RunEnds.{still_told}
use Rattle.cli_upgrading.proofs.AnyUpgrades.{asked_behind, tested_before}
use Rattle.cli_upgrading.proofs.HeldUpgrades.{input_is_answer, log_is_answer, test_is_answer, upgrade_is_answer}
use Rattle.cli_upgrading.proofs.WholeUpgrades.{input_cases, unread_decides, unread_takes}
use Rattle.cli_upgrading.specs.Promises.HeldUpgrade.{HeldUpgradeEnds}
use Rattle.cli_upgrading.specs.Upgrading.{is_at_input}
use Rattle.cli_upgrading.proofs.held.upgrade_held.Goals as goal

-- ---- the input hands in no key

pub returns-in-Err-clause-ends : goal.returns-in-Err-clause-ends
returns-in-Err-clause-ends g c =
    let left = g.S.Source.left in
    let first = c.args.input.now in
    let rest = c.read_owner_line.new.input in
    let fault = c.in-Err.fault in
    let line = c.in-Err.ensures in
    let at = input_cases (λ s. IsTrue (is_at_input s)) (λ bad. refl) refl refl fault in
    subst (λ status. HeldUpgradeEnds c.args.head.now (senses_of g.S.Source g.R.Source g.D.Disk g.W.Sink) status
    (world_of first c.args.random.now c.args.disk.now c.args.out.now) (world_of rest c.args.random.now c.args.disk.now c.args.out.now))
    (sym c.input_status.ensures)
    (record {
      answers = input_is_answer _ at;
      ends = inl (record {
        at_input = at;
        decided = λ x was.
            let again = still_told (left rest) (left first) x line.told was in
            unread_decides fault x again.0 (line.bytes x again.0 was again.1);
        takes = λ x y was now. unread_takes fault x y (line.bytes x y was now);
        rest_kept = refl;
      });
    })

-- ---- the test of the head fails

pub returns-in-Err-test_head-clause-ends : goal.returns-in-Err-test_head-clause-ends
returns-in-Err-test_head-clause-ends g c =
    let left = g.S.Source.left in
    let line = c.in-Ok.ensures in
    let test = c.in-Err-test_head.ensures in
    record {
      answers = test_is_answer c.in-Err-test_head.status test.answers;
      ends = inr (inl (record {
        answers = test.answers;
        hands_in = λ x was.
            let again = still_told (left c.read_owner_line.new.input) (left c.args.input.now) x line.told was in
            (c.in-Ok.key, (line.bytes x again.0 was again.1).0);
        fails = test.tested;
        takes = λ x y was now. (line.bytes x y was now).1;
        reads = record {
          read_only = test.read_only;
          moments = read_throughout g.D.Disk (λ d s left at. g.met.D.Disk.only_now d s left at)
              (λ d t s left early shows leaves. g.met.D.Disk.counts_now d t s left early shows leaves)
              c.args.disk.now c.test_head.new.disk test.read_only;
        };
        rest_kept = refl;
      }));
    }

-- ---- behind the upgrade proper

pub returns-in-Done-clause-ends : goal.returns-in-Done-clause-ends
returns-in-Done-clause-ends g c =
    let left = g.S.Source.left in
    let line = c.in-Ok.ensures in
    let test = c.in-Ok-test_head.ensures in
    let up = c.open_and_upgrade in
    let ask = c.ask_head in
    let moments = read_throughout g.D.Disk (λ d s left at. g.met.D.Disk.only_now d s left at)
    (λ d t s left early shows leaves. g.met.D.Disk.counts_now d t s left early shows leaves)
    up.new.disk ask.new.disk ask.ensures.read_only in
    record {
      answers = log_is_answer ask.result ask.ensures.answers;
      ends = inr (inr (record {
        held = test.tested;
        hands_in = λ x was.
            let again = still_told (left c.read_owner_line.new.input) (left c.args.input.now) x line.told was in
            (c.in-Ok.key, (line.bytes x again.0 was again.1).0);
        tested = c.test_head.new.disk;
        reads = record {
          read_only = test.read_only;
          moments = read_throughout g.D.Disk (λ d s left at. g.met.D.Disk.only_now d s left at)
              (λ d t s left early shows leaves. g.met.D.Disk.counts_now d t s left early shows leaves)
              c.args.disk.now c.test_head.new.disk test.read_only;
        };
        ended = up.result;
        ran = world_of c.read_owner_line.new.input up.new.random up.new.disk up.new.out;
        upgrades = up.ensures.upgrades c.args.input.now c.read_owner_line.new.input (record { told = line.told; reads = line.bytes });
        behind = inr (
          c.in-Done.is,
          record {
            answers = ask.ensures.answers;
            answered = ask.ensures.answered;
            moments = moments;
            rest_kept = refl;
            out_kept = ask.ensures.out_kept;
          },
          record { read_only = ask.ensures.read_only; moments = moments },
        );
      }));
    }

pub returns-in-Done-clause-any : goal.returns-in-Done-clause-any
returns-in-Done-clause-any g c =
    let line = c.in-Ok.ensures in
    let test = c.in-Ok-test_head.ensures in
    let see = senses_of g.S.Source g.R.Source g.D.Disk g.W.Sink in
    let rest = c.read_owner_line.new.input in
    let up = c.open_and_upgrade in
    let ask = c.ask_head in
    let is = ask.ensures in
    tested_before see ask.result c.args.input.now rest c.args.random.now up.new.random c.args.disk.now c.test_head.new.disk ask.new.disk
    c.args.out.now ask.new.out line.told line.counts (ap is_some test.read_only.same_bytes) test.counts
    (asked_behind see up.result ask.result rest c.args.random.now up.new.random c.test_head.new.disk up.new.disk ask.new.disk
    c.args.out.now up.new.out ask.new.out (up.ensures.any rest) is.answers is.disk_fault is.write_fault (ap is_some is.read_only.same_bytes)
    is.out_told is.disk_counts is.out_counts)

pub returns-in_default : goal.returns-in_default
returns-in_default g c =
    let left = g.S.Source.left in
    let line = c.in-Ok.ensures in
    let test = c.in-Ok-test_head.ensures in
    let up = c.open_and_upgrade in
    let ends = up.ensures.upgrades c.args.input.now c.read_owner_line.new.input (record { told = line.told; reads = line.bytes }) in
    let ran = world_of c.read_owner_line.new.input up.new.random up.new.disk up.new.out in
    record {
      ends = record {
        answers = upgrade_is_answer up.result ends.answers;
        ends = inr (inr (record {
          held = test.tested;
          hands_in = λ x was.
              let again = still_told (left c.read_owner_line.new.input) (left c.args.input.now) x line.told was in
              (c.in-Ok.key, (line.bytes x again.0 was again.1).0);
          tested = c.test_head.new.disk;
          reads = record {
            read_only = test.read_only;
            moments = read_throughout g.D.Disk (λ d s left at. g.met.D.Disk.only_now d s left at)
                (λ d t s left early shows leaves. g.met.D.Disk.counts_now d t s left early shows leaves)
                c.args.disk.now c.test_head.new.disk test.read_only;
          };
          ended = up.result;
          ran = ran;
          upgrades = ends;
          behind = inl (c.in_default.not-Done, refl, refl);
        }));
      };
      any = tested_before (senses_of g.S.Source g.R.Source g.D.Disk g.W.Sink) up.result c.args.input.now c.read_owner_line.new.input c.args.random.now
          up.new.random c.args.disk.now c.test_head.new.disk up.new.disk c.args.out.now up.new.out
          line.told line.counts (ap is_some test.read_only.same_bytes) test.counts (up.ensures.any c.read_owner_line.new.input);
    }
