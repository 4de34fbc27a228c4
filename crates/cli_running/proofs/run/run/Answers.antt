use Rattle.std.proofs.Common.{inl, [], Err, refl, sym, ap, subst, ◌∙◌}
use Rattle.cry_io.specs.Told.{WhereBothTold}
use Rattle.cli_base.specs.Lines.{lines_ahead}
use Rattle.cli_base.specs.World.{World}
use Rattle.cli_sessions.specs.Sessions.{Ends, version_limits}
use Rattle.cli_running.specs.Running.{FirstIsBad, RanLines, TakesTo, is_after_opening, line_ended, lines_behind, lines_in, lines_typed}
use Rattle.cli_sessions.specs.Opening.{Judges}
use Rattle.cli_running.proofs.LinesRun.{bad_is_never_done, unread_lines, unread_taken}
use Rattle.cli_sessions.proofs.OpenedPublishing.{unread_publishes}
use Rattle.cli_running.proofs.ReadFaults.{cut_first}
use Rattle.cli_sessions.proofs.RunEnds.{still_told}
use Rattle.cli_sessions.specs.Stopping.{KeepsUpTo}
use Rattle.cli_sessions.proofs.StopLemmas.{kept_unread, time_still}
use Rattle.public_fold.specs.Journal.{Journal}
use Rattle.cli_running.proofs.RunOpening.{handed, bad_first_is_unjudged, first_alone, first_ends, first_is_bad, first_is_early, gives_first, reading_draws_none}
use Rattle.cli_sessions.proofs.StoreOpening.{seen_unopened}
use Rattle.log_visits.specs.Asking.{verdict}
use Rattle.log_visits.specs.Asking.Asking.{ToWrite}
use Rattle.cli_running.proofs.run.run.Goals as goal

pub returns-in-Err-clause-first_line : goal.returns-in-Err-clause-first_line
returns-in-Err-clause-first_line g c = λ x was none.
    let after = still_told (g.S.Source.left c.first_owner.new.input) (g.S.Source.left c.args.input.now) x c.in-Err.ensures.told was in
    subst FirstIsBad (sym c.script_status.ensures)
    (first_is_bad c.in-Err.fault c.in-Err.ensures.faults (lines_in x) (lines_ahead c.first_owner.new.reader after.0)
    (gives_first (Err c.in-Err.fault) c.new-reader.result x (lines_ahead c.first_owner.new.reader after.0) c.new-reader.ensures (c.in-Err.ensures.gives x after.0 was after.1)))

pub returns-in-Err-clause-judged : goal.returns-in-Err-clause-judged
returns-in-Err-clause-judged g c = λ x was image shown key hands.
    let after = still_told (g.S.Source.left c.first_owner.new.input) (g.S.Source.left c.args.input.now) x c.in-Err.ensures.told was in
    subst (λ status. Judges status (verdict (ToWrite key) image)) (sym c.script_status.ensures)
    (bad_first_is_unjudged c.in-Err.fault c.in-Err.ensures.faults (lines_in x) (lines_ahead c.first_owner.new.reader after.0)
    (gives_first (Err c.in-Err.fault) c.new-reader.result x (lines_ahead c.first_owner.new.reader after.0) c.new-reader.ensures (c.in-Err.ensures.gives x after.0 was after.1))
    key hands (verdict (ToWrite key) image))

-- ---- what is published

pub returns-in-Err-clause-published : goal.returns-in-Err-clause-published
returns-in-Err-clause-published g c = λ x was key m hands shows stays.
    let D = g.D.Disk in
    let a = c.args.disk.now in
    unread_publishes g.row.D.Denot D.moment D.since key (D.shown a) (D.may_leave a) a (λ s left at. g.met.D.Disk.only_now a s left at) stays

-- ---- the lines, whatever the disk shows

pub returns-in-Err-clause-lines : goal.returns-in-Err-clause-lines
returns-in-Err-clause-lines g c = (
  [],
  0,
  subst (λ status. RanLines status [] 0 lines_typed (g.S.Source.left c.args.input.now) (g.W.Sink.written c.args.out.now) (g.W.Sink.written c.args.out.now)) (sym c.script_status.ensures)
      (unread_lines lines_typed (g.S.Source.left c.args.input.now) (g.W.Sink.written c.args.out.now) c.in-Err.fault c.in-Err.ensures.faults _ _ c.in-Err.ensures.count),
  subst (λ status. WhereBothTold (g.S.Source.left c.args.input.now) (g.S.Source.left c.first_owner.new.input) (TakesTo (line_ended status 0))) (sym c.script_status.ensures)
      (unread_taken lines_typed (g.S.Source.left c.args.input.now) (g.W.Sink.written c.args.out.now) (g.S.Source.left c.first_owner.new.input) c.in-Err.fault c.in-Err.ensures.faults _ _ c.in-Err.ensures.count
      c.new-reader.result c.first_owner.new.reader c.new-reader.ensures c.in-Err.ensures.takes),
  (λ is x y was now.
      cut_first c.in-Err.fault c.new-reader.result c.first_owner.new.reader x y c.new-reader.ensures (c.in-Err.ensures.takes x y was now)
      (λ e. c.in-Err.ensures.unended (ap Err e)) (sym c.script_status.ensures ∙ is)),
  (λ x was key m hands shows.
      let after = still_told (g.S.Source.left c.first_owner.new.input) (g.S.Source.left c.args.input.now) x c.in-Err.ensures.told was in
      let left = g.R.Source.left c.args.random.now in
      let shown = g.D.Disk.shown c.args.disk.now in
      let written = g.W.Sink.written c.args.out.now in
      let Kept : Journal → Type 0 = KeepsUpTo key m shown shown (g.D.Disk.may_leave c.args.disk.now) (g.D.Disk.since c.args.disk.now (g.D.Disk.moment c.args.disk.now)) in
      let kept : Kept m = kept_unread key m shown (g.D.Disk.may_leave c.args.disk.now) (g.D.Disk.since c.args.disk.now (g.D.Disk.moment c.args.disk.now))
      (λ s left at. g.met.D.Disk.only_now c.args.disk.now s left at) in
      subst (λ status. Ends status version_limits key m [] (lines_behind (lines_in x)) (seen_unopened left shown shown written) (g.D.Disk.may_leave c.args.disk.now) Kept) (sym c.script_status.ensures)
      (first_ends c.in-Err.fault c.in-Err.ensures.faults (lines_in x) (lines_ahead c.first_owner.new.reader after.0)
      (gives_first (Err c.in-Err.fault) c.new-reader.result x (lines_ahead c.first_owner.new.reader after.0) c.new-reader.ensures (c.in-Err.ensures.gives x after.0 was after.1))
      key hands version_limits m (lines_behind (lines_in x)) left shown shown written (g.D.Disk.may_leave c.args.disk.now) Kept shows kept)),
  inl (record {
    left = record { rest_kept = refl; store = inl refl };
    early = ap is_after_opening c.script_status.ensures ∙ first_is_early c.in-Err.fault c.in-Err.ensures.faults _ _ c.in-Err.ensures.count;
    none_asked = refl;
    none_answered = refl;
  }),
)

pub returns-in-Err-clause-bad_line : goal.returns-in-Err-clause-bad_line
returns-in-Err-clause-bad_line g c = bad_is_never_done c.script_status.result (returns-in-Err-clause-lines g c).0 (returns-in-Err-clause-lines g c).1 lines_typed (g.S.Source.left c.args.input.now) _ _
    (returns-in-Err-clause-lines g c).2

pub returns-in-Err-clause-key_line : goal.returns-in-Err-clause-key_line
returns-in-Err-clause-key_line g c = λ is x was.
    let after = still_told (g.S.Source.left c.first_owner.new.input) (g.S.Source.left c.args.input.now) x c.in-Err.ensures.told was in
    first_alone c.in-Err.fault c.in-Err.ensures.faults (lines_in x) (lines_ahead c.first_owner.new.reader after.0)
    (gives_first (Err c.in-Err.fault) c.new-reader.result x (lines_ahead c.first_owner.new.reader after.0) c.new-reader.ensures (c.in-Err.ensures.gives x after.0 was after.1))
    (sym c.script_status.ensures ∙ is)

pub returns-in-Err-clause-short : goal.returns-in-Err-clause-short
returns-in-Err-clause-short g c = λ left need is. reading_draws_none c.in-Err.fault left need c.in-Err.ensures.faults (sym c.script_status.ensures ∙ is)

-- ---- time

pub returns-in-Err-clause-time : goal.returns-in-Err-clause-time
returns-in-Err-clause-time g c =
    time_still (g.D.Disk.moment c.args.disk.now) (g.D.Disk.since c.args.disk.now) (g.D.Disk.shown c.args.disk.now) (g.D.Disk.may_leave c.args.disk.now)
    (λ s left at. g.met.D.Disk.only_now c.args.disk.now s left at) (λ t s left early shown leaves. g.met.D.Disk.counts_now c.args.disk.now t s left early shown leaves)

-- ---- behind the first line

pub returns-clause-answers : goal.returns-clause-answers
returns-clause-answers g c =
    (c.open_and_apply.ensures.runs c.args.input.now (handed g.S.Source c.in-Ok.key c.new-reader.result c.first_owner.new.reader c.args.input.now
    c.first_owner.new.input c.new-reader.ensures c.in-Ok.ensures.told c.in-Ok.ensures.gives c.in-Ok.ensures.takes)).answers

pub returns-clause-first_line : goal.returns-clause-first_line
returns-clause-first_line g c =
    (c.open_and_apply.ensures.runs c.args.input.now (handed g.S.Source c.in-Ok.key c.new-reader.result c.first_owner.new.reader c.args.input.now
    c.first_owner.new.input c.new-reader.ensures c.in-Ok.ensures.told c.in-Ok.ensures.gives c.in-Ok.ensures.takes)).first_line

pub returns-clause-judged : goal.returns-clause-judged
returns-clause-judged g c =
    (c.open_and_apply.ensures.runs c.args.input.now (handed g.S.Source c.in-Ok.key c.new-reader.result c.first_owner.new.reader c.args.input.now
    c.first_owner.new.input c.new-reader.ensures c.in-Ok.ensures.told c.in-Ok.ensures.gives c.in-Ok.ensures.takes)).judged

pub returns-clause-published : goal.returns-clause-published
returns-clause-published g c =
    (c.open_and_apply.ensures.runs c.args.input.now (handed g.S.Source c.in-Ok.key c.new-reader.result c.first_owner.new.reader c.args.input.now
    c.first_owner.new.input c.new-reader.ensures c.in-Ok.ensures.told c.in-Ok.ensures.gives c.in-Ok.ensures.takes)).published

pub returns-clause-later : goal.returns-clause-later
returns-clause-later g c =
    (c.open_and_apply.ensures.runs c.args.input.now (handed g.S.Source c.in-Ok.key c.new-reader.result c.first_owner.new.reader c.args.input.now
    c.first_owner.new.input c.new-reader.ensures c.in-Ok.ensures.told c.in-Ok.ensures.gives c.in-Ok.ensures.takes)).later

pub returns-clause-time : goal.returns-clause-time
returns-clause-time g c =
    (c.open_and_apply.ensures.runs c.args.input.now (handed g.S.Source c.in-Ok.key c.new-reader.result c.first_owner.new.reader c.args.input.now
    c.first_owner.new.input c.new-reader.ensures c.in-Ok.ensures.told c.in-Ok.ensures.gives c.in-Ok.ensures.takes)).time

pub returns-clause-bad_line : goal.returns-clause-bad_line
returns-clause-bad_line g c =
    (c.open_and_apply.ensures.runs c.args.input.now (handed g.S.Source c.in-Ok.key c.new-reader.result c.first_owner.new.reader c.args.input.now
    c.first_owner.new.input c.new-reader.ensures c.in-Ok.ensures.told c.in-Ok.ensures.gives c.in-Ok.ensures.takes)).bad_line

pub returns-clause-short : goal.returns-clause-short
returns-clause-short g c =
    (c.open_and_apply.ensures.runs c.args.input.now (handed g.S.Source c.in-Ok.key c.new-reader.result c.first_owner.new.reader c.args.input.now
    c.first_owner.new.input c.new-reader.ensures c.in-Ok.ensures.told c.in-Ok.ensures.gives c.in-Ok.ensures.takes)).short

pub returns-clause-read_to_end : goal.returns-clause-read_to_end
returns-clause-read_to_end g c =
    (c.open_and_apply.ensures.runs c.args.input.now (handed g.S.Source c.in-Ok.key c.new-reader.result c.first_owner.new.reader c.args.input.now
    c.first_owner.new.input c.new-reader.ensures c.in-Ok.ensures.told c.in-Ok.ensures.gives c.in-Ok.ensures.takes)).read_to_end

pub returns-clause-stays : goal.returns-clause-stays
returns-clause-stays g c =
    (c.open_and_apply.ensures.runs c.args.input.now (handed g.S.Source c.in-Ok.key c.new-reader.result c.first_owner.new.reader c.args.input.now
    c.first_owner.new.input c.new-reader.ensures c.in-Ok.ensures.told c.in-Ok.ensures.gives c.in-Ok.ensures.takes)).stays

pub returns-clause-lines : goal.returns-clause-lines
returns-clause-lines g c =
    let ends = c.open_and_apply.ensures.runs c.args.input.now (handed g.S.Source c.in-Ok.key c.new-reader.result c.first_owner.new.reader
    c.args.input.now c.first_owner.new.input c.new-reader.ensures c.in-Ok.ensures.told c.in-Ok.ensures.gives c.in-Ok.ensures.takes) in
    (ends.asked, ends.answered, ends.lines, ends.takes, ends.read_whole_lines, ends.ran, ends.opening)

pub returns-clause-version : goal.returns-clause-version
returns-clause-version g c =
    (c.open_and_apply.ensures.runs c.args.input.now (handed g.S.Source c.in-Ok.key c.new-reader.result c.first_owner.new.reader c.args.input.now
    c.first_owner.new.input c.new-reader.ensures c.in-Ok.ensures.told c.in-Ok.ensures.gives c.in-Ok.ensures.takes)).version

pub returns-clause-unasked : goal.returns-clause-unasked
returns-clause-unasked g c = λ is.
    let whole =
    (c.open_and_apply.ensures.runs c.args.input.now (handed g.S.Source c.in-Ok.key c.new-reader.result c.first_owner.new.reader c.args.input.now
    c.first_owner.new.input c.new-reader.ensures c.in-Ok.ensures.told c.in-Ok.ensures.gives c.in-Ok.ensures.takes)).unasked is in
    (ap (λ (w : World g.row.S.Denot g.row.R.Denot g.row.D.Denot g.row.W.Denot). w.random) whole, ap (λ (w : World g.row.S.Denot g.row.R.Denot g.row.D.Denot g.row.W.Denot). w.out) whole)
