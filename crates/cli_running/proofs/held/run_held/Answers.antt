use Rattle.std.proofs.Common.{Err, arith, inl, inr, refl, sym, ap, subst, ◌∙◌}
use Rattle.std.specs.Prelude.{is_some}
use Rattle.commit_journal.proofs.OpenedMoments.{read_throughout}
use Rattle.cli_base.proofs.InputLemmas.{fresh_reader}
use Rattle.cli_base.specs.Lines.{lines_ahead}
use Rattle.cli_base.specs.World.{senses_of, world_of}
use Rattle.cli_running.proofs.HeldRuns.{first_is_answer, log_is_answer, run_is_answer, test_is_answer}
use Rattle.cli_running.proofs.LinesRun.{key_taken, unread_taken}
use Rattle.cli_running.proofs.ReadFaults.{cut_first}
use Rattle.cli_running.proofs.RunOpening.{first_alone, first_line_is_bad, gives_first, handed, handed_lines}
use Rattle.cli_running.specs.Promises.HeldRun.{HeldRunEnds}
use Rattle.cli_running.specs.Running.{lines_in, lines_typed}
use Rattle.cli_sessions.proofs.RunEnds.{still_told}
use Rattle.cli_sessions.proofs.Takings.{taken_few}
use Rattle.cli_sessions.specs.Sessions.{script_status}
use Rattle.cli_running.proofs.held.run_held.Goals as goal

pub returns-in-Err-clause-ends : goal.returns-in-Err-clause-ends
returns-in-Err-clause-ends g c =
    let left = g.S.Source.left in
    let typed = c.args.input.now in
    let rest = c.first_owner.new.input in
    let reader = c.first_owner.new.reader in
    let fault = c.in-Err.fault in
    let line = c.in-Err.ensures in
    let first = first_line_is_bad fault line.faults _ _ line.count in
    subst (λ status. HeldRunEnds c.args.head.now (senses_of g.S.Source g.R.Source g.D.Disk g.W.Sink) status
    (world_of typed c.args.random.now c.args.disk.now c.args.out.now) (world_of rest c.args.random.now c.args.disk.now c.args.out.now))
    (sym c.script_status.ensures)
    (record {
      answers = first_is_answer (script_status fault) first;
      ends = inl (record {
        first = first;
        key_line = λ is x was.
            let after = still_told (left rest) (left typed) x line.told was in
            first_alone fault line.faults (lines_in x) (lines_ahead reader after.0)
            (gives_first (Err fault) c.new-reader.result x (lines_ahead reader after.0) c.new-reader.ensures (line.gives x after.0 was after.1)) is;
        takes = unread_taken lines_typed (left typed) (g.W.Sink.written c.args.out.now) (left rest) fault line.faults _ _ line.count
            c.new-reader.result reader c.new-reader.ensures line.takes;
        read_whole_lines = λ is x y was now.
            cut_first fault c.new-reader.result reader x y c.new-reader.ensures (line.takes x y was now) (λ e. line.unended (ap Err e)) is;
        rest_kept = refl;
      });
    })

pub returns-in-Err-clause-answers : goal.returns-in-Err-clause-answers
returns-in-Err-clause-answers g c = (returns-in-Err-clause-ends g c).answers

pub returns-in-Err-test_head-clause-ends : goal.returns-in-Err-test_head-clause-ends
returns-in-Err-test_head-clause-ends g c =
    let took = handed g.S.Source c.in-Ok.key c.new-reader.result c.first_owner.new.reader c.args.input.now c.first_owner.new.input
    c.new-reader.ensures c.in-Ok.ensures.told c.in-Ok.ensures.gives c.in-Ok.ensures.takes in
    let test = c.in-Err-test_head.ensures in
    record {
      answers = test_is_answer c.in-Err-test_head.status test.answers;
      ends = inr (inl (record {
        answers = test.answers;
        hands_in = λ x was.
            let after = handed_lines g.S.Source c.in-Ok.key c.first_owner.new.reader c.args.input.now c.first_owner.new.input took x was in
            (c.in-Ok.key, after.2.0);
        fails = test.tested;
        takes = λ x y was now.
            let one = took.takes x y was now in
            taken_few 1 fresh_reader c.first_owner.new.reader x y (key_taken fresh_reader c.first_owner.new.reader x y refl one.0) one.1;
        reads = record {
          read_only = test.read_only;
          moments = read_throughout g.D.Disk (λ d s left at. g.met.D.Disk.only_now d s left at)
              (λ d t s left early shows leaves. g.met.D.Disk.counts_now d t s left early shows leaves)
              c.args.disk.now c.test_head.new.disk test.read_only;
        };
        rest_kept = refl;
      }));
    }

pub returns-in-Err-test_head-clause-answers : goal.returns-in-Err-test_head-clause-answers
returns-in-Err-test_head-clause-answers g c = (returns-in-Err-test_head-clause-ends g c).answers

pub returns-in-Done-clause-ends : goal.returns-in-Done-clause-ends
returns-in-Done-clause-ends g c =
    let took = handed g.S.Source c.in-Ok.key c.new-reader.result c.first_owner.new.reader c.args.input.now c.first_owner.new.input
    c.new-reader.ensures c.in-Ok.ensures.told c.in-Ok.ensures.gives c.in-Ok.ensures.takes in
    let test = c.in-Ok-test_head.ensures in
    let run = c.open_and_apply in
    let ask = c.ask_head in
    record {
      answers = log_is_answer ask.result ask.ensures.answers;
      ends = inr (inr (record {
        held = test.tested;
        hands_in = λ x was.
            let after = handed_lines g.S.Source c.in-Ok.key c.first_owner.new.reader c.args.input.now c.first_owner.new.input took x was in
            (c.in-Ok.key, after.2.0);
        tested = c.test_head.new.disk;
        reads = record {
          read_only = test.read_only;
          moments = read_throughout g.D.Disk (λ d s left at. g.met.D.Disk.only_now d s left at)
              (λ d t s left early shows leaves. g.met.D.Disk.counts_now d t s left early shows leaves)
              c.args.disk.now c.test_head.new.disk test.read_only;
        };
        ended = run.result;
        ran = world_of run.new.input run.new.random run.new.disk run.new.out;
        runs = run.ensures.runs c.args.input.now took;
        behind = inr (
          c.in-Done.is,
          (let moments = read_throughout g.D.Disk (λ d s left at. g.met.D.Disk.only_now d s left at)
              (λ d t s left early shows leaves. g.met.D.Disk.counts_now d t s left early shows leaves)
              run.new.disk ask.new.disk ask.ensures.read_only in
              record {
                answers = ask.ensures.answers;
                answered = ask.ensures.answered;
                moments = moments;
                rest_kept = refl;
                out_kept = ask.ensures.out_kept;
              }),
          record {
            read_only = ask.ensures.read_only;
            moments = read_throughout g.D.Disk (λ d s left at. g.met.D.Disk.only_now d s left at)
                (λ d t s left early shows leaves. g.met.D.Disk.counts_now d t s left early shows leaves)
                run.new.disk ask.new.disk ask.ensures.read_only;
          },
        );
      }));
    }

pub returns-in-Done-clause-answers : goal.returns-in-Done-clause-answers
returns-in-Done-clause-answers g c = (returns-in-Done-clause-ends g c).answers

pub returns-in_default : goal.returns-in_default
returns-in_default g c =
    let took = handed g.S.Source c.in-Ok.key c.new-reader.result c.first_owner.new.reader c.args.input.now c.first_owner.new.input
    c.new-reader.ensures c.in-Ok.ensures.told c.in-Ok.ensures.gives c.in-Ok.ensures.takes in
    let line = c.in-Ok.ensures in
    let test = c.in-Ok-test_head.ensures in
    let run = c.open_and_apply in
    let ends = run.ensures.runs c.args.input.now took in
    record {
      answers = run_is_answer run.result ends.answers;
      ends = record {
        answers = run_is_answer run.result ends.answers;
        ends = inr (inr (record {
          held = test.tested;
          hands_in = λ x was.
              let after = handed_lines g.S.Source c.in-Ok.key c.first_owner.new.reader c.args.input.now c.first_owner.new.input took x was in
              (c.in-Ok.key, after.2.0);
          tested = c.test_head.new.disk;
          reads = record {
            read_only = test.read_only;
            moments = read_throughout g.D.Disk (λ d s left at. g.met.D.Disk.only_now d s left at)
                (λ d t s left early shows leaves. g.met.D.Disk.counts_now d t s left early shows leaves)
                c.args.disk.now c.test_head.new.disk test.read_only;
          };
          ended = run.result;
          ran = world_of run.new.input run.new.random run.new.disk run.new.out;
          runs = ends;
          behind = inl (c.in_default.not-Done, refl, refl);
        }));
      };
      read_fault = λ is. let two = run.ensures.read_fault is in omega (arith, line.counts, two);
      random_fault = λ is. run.ensures.random_fault is;
      disk_fault = λ is. let two = run.ensures.disk_fault is in omega (arith, test.counts, two);
      write_fault = λ is. run.ensures.write_fault is;
      input_told = run.ensures.input_told ∙ line.told;
      random_told = run.ensures.random_told;
      disk_told = run.ensures.disk_told ∙ ap is_some test.read_only.same_bytes;
      out_told = run.ensures.out_told;
      input_counts = let two = run.ensures.input_counts in omega (arith, line.counts, two);
      random_counts = run.ensures.random_counts;
      disk_counts = let two = run.ensures.disk_counts in omega (arith, test.counts, two);
      out_counts = run.ensures.out_counts;
    }
