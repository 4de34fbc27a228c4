use Rattle.std.proofs.Common.{◌≡◌, ℕ, IsTrue, List, Some, Err, inl, [], arith, refl, sym, ap, subst, ◌∙◌}
use Rattle.std.proofs.lemmas.Bool.{false≢true}
use Rattle.public_fold.specs.Journal.{Journal}
use Rattle.cli_base.specs.Lines.{lines_ahead}
use Rattle.cli_running.proofs.FaultedRuns.{faulted_answers, faulted_needs_none, faulted_undone}
use Rattle.cli_running.proofs.RunOpening.{bad_first_is_unjudged, first_alone, first_is_bad, first_is_early, gives_first, handed, reading_draws_none}
use Rattle.cli_running.specs.Running.{FirstIsBad, GivesOwner, TakesTo, TellsVersion, is_after_opening, is_run_answer, lines_in, lines_typed}
use Rattle.cli_sessions.proofs.OpenedPublishing.{unread_publishes}
use Rattle.cli_sessions.proofs.RunEnds.{still_told}
use Rattle.cli_sessions.proofs.StopLemmas.{kept_unread, time_still}
use Rattle.cli_sessions.proofs.StoreOpening.{seen_unopened}
use Rattle.cli_sessions.specs.Opening.{Judges}
use Rattle.cli_sessions.specs.Sessions.{version_limits}
use Rattle.cli_sessions.specs.Stopping.{KeepsUpTo}
use Rattle.log_visits.specs.Asking.{verdict}
use Rattle.log_visits.specs.Asking.Asking.{ToWrite}
use Rattle.cli_serving.proofs.LinesServed.{bad_is_undone, first_cut, unread_begins, unread_takes, unread_tells_none}
use Rattle.cli_serving.proofs.ServeOpening.{unread_serves}
use Rattle.cli_serving.specs.Lines.{BeginsLines, turn_ended}
use Rattle.cli_serving.specs.Serves.{Serves}
use Rattle.cli_serving.proofs.serve.serve.Goals as goal

pub returns-in-Err-clause-answers : goal.returns-in-Err-clause-answers
returns-in-Err-clause-answers g c = subst (λ status. IsTrue (is_run_answer status)) (sym c.script_status.ensures) (faulted_answers c.in-Err.fault)

-- the first line isn't an owner's, or wasn't read
pub returns-in-Err-clause-ends : goal.returns-in-Err-clause-ends
returns-in-Err-clause-ends g c =
    let left = g.S.Source.left in
    let typed = c.args.input.now in
    let rest = c.first_owner.new.input in
    let reader = c.first_owner.new.reader in
    let fault = c.in-Err.fault in
    let line = c.in-Err.ensures in
    let D = g.D.Disk in
    let a = c.args.disk.now in
    let given : (x : List ℕ) → left typed ≡ Some x → (y : List ℕ) × GivesOwner (Err fault) (lines_in x) (lines_ahead reader y) = λ x was.
    let after = still_told (left rest) (left typed) x line.told was in
    (after.0, gives_first (Err fault) c.new-reader.result x (lines_ahead reader after.0) c.new-reader.ensures (line.gives x after.0 was after.1)) in
    let begins : (x : List ℕ) → BeginsLines c.script_status.result [] (lines_typed x) = λ x.
    subst (λ status. BeginsLines status [] (lines_typed x)) (sym c.script_status.ensures) (unread_begins fault line.faults _ _ line.count (lines_typed x)) in
    record {
      answers = returns-in-Err-clause-answers g c;
      first_line = λ x was none. subst FirstIsBad (sym c.script_status.ensures) (first_is_bad fault line.faults (lines_in x) _ (given x was).1);
      key_line = λ is x was. first_alone fault line.faults (lines_in x) _ (given x was).1 (sym c.script_status.ensures ∙ is);
      version = subst (λ status. TellsVersion status (left typed) (D.shown a)) (sym c.script_status.ensures) (unread_tells_none fault line.faults _ _ line.count (left typed) (D.shown a));
      bad_line = λ x was. bad_is_undone c.script_status.result [] (lines_typed x) (begins x);
      short = λ had need is. reading_draws_none fault had need line.faults (sym c.script_status.ensures ∙ is);
      turns = [];
      asked = [];
      judged = λ x was image shown. inl (λ key hands.
          subst (λ status. Judges status (verdict (ToWrite key) image)) (sym c.script_status.ensures)
          (bad_first_is_unjudged fault line.faults (lines_in x) _ (given x was).1 key hands (verdict (ToWrite key) image)));
      lines = λ x was. begins x;
      takes = λ x y was now.
          subst (λ status. TakesTo (turn_ended status 0) x y) (sym c.script_status.ensures)
          (unread_takes fault line.faults _ _ line.count c.new-reader.result reader c.new-reader.ensures x y (line.takes x y was now));
      read_to_end = λ is. faulted_undone fault (sym c.script_status.ensures ∙ is);
      read_whole_lines = λ is x y was now.
          first_cut fault c.new-reader.result reader x y c.new-reader.ensures (line.takes x y was now) (λ e. line.unended (ap Err e)) (sym c.script_status.ensures ∙ is);
      served = λ x was key m hands shows.
          let here = g.R.Source.left c.args.random.now in
          let shown = D.shown a in
          let written = g.W.Sink.written c.args.out.now in
          let Kept : Journal → Type 0 = KeepsUpTo key m shown shown (D.may_leave a) (D.since a (D.moment a)) in
          let kept : Kept m = kept_unread key m shown (D.may_leave a) (D.since a (D.moment a)) (λ s leaves at. g.met.D.Disk.only_now a s leaves at) in
          subst (λ status. Serves status version_limits key m [] [] (seen_unopened here shown shown written) (D.may_leave a) Kept) (sym c.script_status.ensures)
          (unread_serves version_limits key m here shown shown written (D.may_leave a) Kept shows kept fault line.faults (lines_in x) _ (given x was).1 hands);
      published = λ x was key m hands shows stays.
          unread_publishes g.row.D.Denot D.moment D.since key (D.shown a) (D.may_leave a) a (λ s leaves at. g.met.D.Disk.only_now a s leaves at) stays;
      later = omega arith;
      time = time_still (D.moment a) (D.since a) (D.shown a) (D.may_leave a) (λ s leaves at. g.met.D.Disk.only_now a s leaves at)
          (λ t s leaves early shown may. g.met.D.Disk.counts_now a t s leaves early shown may);
      stays = λ is. absurd (false≢true (sym (ap is_after_opening c.script_status.ensures ∙ first_is_early fault line.faults _ _ line.count) ∙ is));
      opening = inl (
        record { rest_kept = refl; store = inl refl },
        ap is_after_opening c.script_status.ensures ∙ first_is_early fault line.faults _ _ line.count,
        refl,
        refl,
      );
      unasked = λ is. faulted_needs_none fault (sym c.script_status.ensures ∙ is);
      unopened = λ is. refl;
    }

-- behind it
pub returns-clause-ends : goal.returns-clause-ends
returns-clause-ends g c =
    c.open_and_serve.ensures.serves c.args.input.now (handed g.S.Source c.in-Ok.key c.new-reader.result c.first_owner.new.reader c.args.input.now
    c.first_owner.new.input c.new-reader.ensures c.in-Ok.ensures.told c.in-Ok.ensures.gives c.in-Ok.ensures.takes)
