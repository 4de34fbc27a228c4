use Rattle.std.proofs.Common.{◌≡◌, ⊎_elim, IsTrue, inl, inr, ℕ, List, [], length, None, Some, arith, refl, sym, ap, subst, ◌∙◌}
use Rattle.batch_log.specs.Handing.{all_written}
use Rattle.batch_log.specs.Moments.{FromThenOn}
use Rattle.batch_log.proofs.Moments.{goes_on_then}
use Rattle.commit_journal.specs.Handing.{opening_writes}
use Rattle.cry_base.specs.Limits.{most_store_bytes}
use Rattle.cry_io.specs.Told.{WhereTold}
use Rattle.journal_bytes.specs.Bytes.{image_of}
use Rattle.journal_bytes.specs.Journals.{StandsForJournal}
use Rattle.log_visits.specs.Asking.{verdict}
use Rattle.log_visits.specs.Asking.Asking.{ToWrite}
use Rattle.public_fold.specs.Journal.{Journal}
use Rattle.store_owner.proofs.SlotsHanded.{opened_shows}
use Rattle.store_owner.specs.Published.{HasPublished, StaysPublished}
use Rattle.cli_base.proofs.InputLemmas.{fresh_reader}
use Rattle.cli_base.specs.Lines.{InputLine, lines_ahead}
use Rattle.cli_base.specs.World.{world_of}
use Rattle.cli_running.proofs.LinesRun.{key_taken}
use Rattle.cli_running.proofs.ReadFaults.{unopened_reads_none}
use Rattle.cli_running.proofs.RunOpening.{handed_lines, key_is_given, not_before, not_first, same_key, unopened_answers, unopened_draws_none, unopened_is_early, unopened_is_no_line, unopened_isnt_behind, unopened_isnt_done, unopened_isnt_first}
use Rattle.cli_running.proofs.RunVersions.{second_version, tells_version, unopened_needs_none, unopened_tells_none}
use Rattle.cli_running.specs.Running.{HandsInFirst, TakesTo, is_after_opening, is_before_opening, is_run_answer, lines_in, lines_typed}
use Rattle.cli_sessions.proofs.OpenedPublishing.{opened_publishes}
use Rattle.cli_sessions.proofs.RunEnds.{still_told}
use Rattle.cli_sessions.proofs.StopLemmas.{kept_opened, kept_unopened, time_still, told_stands}
use Rattle.cli_sessions.proofs.StoreOpening.{opened_has_no_verdict, opened_stands, seen_unopened, unopened_is_judged, was_opened}
use Rattle.cli_sessions.proofs.Takings.{taken_few}
use Rattle.cli_sessions.proofs.Versions.{KeepsVersion, owners_version}
use Rattle.cli_sessions.specs.Opening.{Judges, open_status}
use Rattle.cli_sessions.specs.Sessions.{KeepsFrom, Seen, version_limits}
use Rattle.cli_sessions.specs.Stopping.{KeepsUpTo, LinesKeepUpTo}
use Rattle.cli_serving.proofs.LinesServed.{bad_is_undone, behind_cut, unopened_begins, unopened_takes}
use Rattle.cli_serving.proofs.ServeOpening.{unopened_serves}
use Rattle.cli_serving.proofs.ServesKept.{serves_more}
use Rattle.cli_serving.specs.Lines.{BeginsLines, turn_ended}
use Rattle.cli_serving.specs.Serves.{Serves}
use Rattle.cli_serving.proofs.serve.open_and_serve.Goals as goal

pub returns-in-Err-clause-answers : goal.returns-in-Err-clause-answers
returns-in-Err-clause-answers g c = subst (λ status. IsTrue (is_run_answer status)) (sym c.open_status.ensures) (unopened_answers c.in-Err.fault)

pub returns-in-Err-clause-serves : goal.returns-in-Err-clause-serves
returns-in-Err-clause-serves g c = λ input took.
    let handed = handed_lines g.S.Source c.args.key c.args.reader input c.args.input.now took in
    let begins : (x : List ℕ) → BeginsLines c.open_status.result [] (lines_typed x) = λ x.
    subst (λ status. BeginsLines status [] (lines_typed x)) (sym c.open_status.ensures) (unopened_begins c.in-Err.fault (lines_typed x)) in
    record {
      answers = returns-in-Err-clause-answers g c;
      first_line = λ x was none.
          let after = handed x was in
          key_is_given c.args.key (lines_in x) (lines_ahead c.args.reader after.0)
          after.2 none;
      key_line = λ is x was. unopened_is_no_line c.in-Err.fault 1 (sym c.open_status.ensures ∙ is);
      version = unopened_tells_none c.in-Err.fault c.open_status.result (g.S.Source.left input) (g.D.Disk.shown c.args.disk.now) c.open_status.ensures;
      bad_line = λ x was. bad_is_undone c.open_status.result [] (lines_typed x) (begins x);
      short = λ left need is. unopened_draws_none c.in-Err.fault left need (sym c.open_status.ensures ∙ is);
      turns = [];
      asked = [];
      judged = λ x was image shown. inl (λ key hands.
          let after = handed x was in
          let same = same_key c.args.key key (lines_in x) (lines_ahead c.args.reader after.0)
          after.2 hands in
          subst (λ status. Judges status (verdict (ToWrite key) image)) (sym c.open_status.ensures)
          (subst (λ k. Judges (open_status c.in-Err.fault) (verdict (ToWrite k) image)) same
          (unopened_is_judged c.in-Err.fault c.args.key image (c.in-Err.ensures.largest refl image shown))));
      lines = λ x was. begins x;
      takes = λ x y was now.
          let one = took.takes x y was now in
          subst (λ status. TakesTo (turn_ended status 0) x y) (sym c.open_status.ensures)
          (unopened_takes c.in-Err.fault x y (taken_few 1 fresh_reader c.args.reader x y (key_taken fresh_reader c.args.reader x y refl one.0) one.1));
      read_to_end = λ is. unopened_isnt_done c.in-Err.fault (sym c.open_status.ensures ∙ is);
      read_whole_lines = (λ is. unopened_reads_none c.in-Err.fault (sym c.open_status.ensures ∙ is));
      served = λ x was key m hands shows.
          let after = handed x was in
          let same = same_key c.args.key key (lines_in x) (lines_ahead c.args.reader after.0)
          after.2 hands in
          let stands = subst (λ k. StandsForJournal k m shows.0) (sym same) shows.2 in
          let now = still_told (g.D.Disk.shown c.open_store.new.disk) (g.D.Disk.shown c.args.disk.now) shows.0 c.in-Err.ensures.told shows.1 in
          let left = g.R.Source.left c.args.random.now in
          let first = g.D.Disk.shown c.args.disk.now in
          let shown = g.D.Disk.shown c.open_store.new.disk in
          let written = g.W.Sink.written c.args.out.now in
          let could = g.D.Disk.may_leave c.args.disk.now in
          let since = g.D.Disk.since c.open_store.new.disk (g.D.Disk.moment c.args.disk.now) in
          let Kept : Journal → Type 0 = KeepsUpTo key m first shown could since in
          let kept : Kept m = kept_unopened c.args.key key m first shown could since _ same (c.in-Err.ensures.kept m) c.in-Err.ensures.hands (told_stands c.args.key m first shows.0 shows.1 stands) stands.valid.1 in
          subst (λ status. Serves status version_limits key m [] [] (seen_unopened left first shown written) (g.D.Disk.may_leave c.open_store.new.disk) Kept) (sym c.open_status.ensures)
          (unopened_serves version_limits key m left first shown written (g.D.Disk.may_leave c.open_store.new.disk) Kept
          (now.0, now.1, subst (λ k. StandsForJournal k m now.0) same (c.in-Err.ensures.left m shows.0 now.0 shows.1 now.1 stands stands.valid.1)) kept
          c.in-Err.fault (c.in-Err.ensures.never m shows.0 shows.1 stands stands.valid.1));
      published = λ x was key m hands shows stays.
          let D = g.D.Disk in
          let a = c.args.disk.now in
          let after = handed x was in
          let same = same_key c.args.key key (lines_in x) (lines_ahead c.args.reader after.0)
          after.2 hands in
          let stands = subst (λ k. StandsForJournal k m shows.0) (sym same) shows.2 in
          let up = c.in-Err.ensures.published m (subst (λ k. StaysPublished k (D.shown a) (D.may_leave a)) (sym same) stays) shows.0 shows.1 stands stands.valid.1 in
          subst (λ k. FromThenOn D.moment D.since a c.open_store.new.disk (HasPublished k)) same up.kept;
      later = c.in-Err.ensures.later;
      time = c.in-Err.ensures.time;
      stays = λ is. unopened_isnt_behind c.in-Err.fault (subst (λ status. IsTrue (is_after_opening status)) c.open_status.ensures is);
      opening =
          let tried = c.in-Err.ensures in
          inl (
            record {
              rest_kept = refl;
              store = inr (
                c.args.key,
                (λ x was.
                    let after = handed x was in
                    after.2.0),
                record {
                  size = tried.size;
                  throughout = tried.stops;
                  left = ⊎_elim (λ disk. inl (c.open_status.ensures ∙ ap open_status disk)) (λ leaves. inr leaves) tried.refused;
                },
              );
            },
            ap is_after_opening c.open_status.ensures ∙ unopened_is_early c.in-Err.fault,
            refl,
            refl,
          );
      unasked = λ is. unopened_needs_none c.in-Err.fault (sym c.open_status.ensures ∙ is);
      unopened = λ is. unopened_isnt_first c.in-Err.fault (subst (λ status. IsTrue (is_before_opening status)) c.open_status.ensures is);
    }

pub returns-in-Ok-clause-serves : goal.returns-in-Ok-clause-serves
returns-in-Ok-clause-serves g c = λ input took.
    let handed = handed_lines g.S.Source c.args.key c.args.reader input c.args.input.now took in
    let result = c.serve_opened.result in
    let told = c.serve_opened.ensures.lines in
    let begins : (x : List ℕ) → g.S.Source.left input ≡ Some x → BeginsLines result told.0 (lines_typed x) = λ x was.
    let after = handed x was in
    subst (λ (lines : List InputLine). BeginsLines result told.0 lines) after.2.1 (told.2 after.0 after.1) in
    let of_journal : KeepsVersion HandsInFirst (g.S.Source.left input) (g.D.Disk.shown c.args.disk.now) c.in-Ok.owner.state.keys.version =
    λ x was key m hands shows.
    let after = handed x was in
    let same = same_key c.args.key key (lines_in x) (lines_ahead c.args.reader after.0) after.2 hands in
    let stands = subst (λ k. StandsForJournal k m shows.0) (sym same) shows.2 in (
      stands.valid,
      owners_version m c.in-Ok.owner (c.in-Ok.ensures.stands m shows.0 shows.1 stands stands.valid.1),
    ) in
    record {
      answers = c.serve_opened.ensures.answers;
      first_line = λ x was none.
          let after = handed x was in
          key_is_given c.args.key (lines_in x) (lines_ahead c.args.reader after.0)
          after.2 none;
      key_line = λ is x was. not_before result c.serve_opened.ensures.not_first is;
      version = tells_version result (g.S.Source.left input) (g.D.Disk.shown c.args.disk.now) c.in-Ok.owner.state.keys.version
          (λ is. (c.serve_opened.ensures.needs is).0) c.serve_opened.ensures.new of_journal;
      bad_line = λ x was. bad_is_undone result told.0 (lines_typed x) (begins x was);
      short = c.serve_opened.ensures.short;
      turns = told.0;
      asked = told.1;
      judged = λ x was image shown.
          ⊎_elim
          (λ none. inl (λ key hands.
          let after = handed x was in
          let same = same_key c.args.key key (lines_in x) (lines_ahead c.args.reader after.0)
          after.2 hands in
          let opens = c.in-Ok.ensures.largest refl image shown in
          subst (λ v. Judges result v) (sym (subst (λ k. verdict (ToWrite k) image ≡ None) same (opened_has_no_verdict c.args.key image opens.0 opens.1))) none))
          (λ reading. inr reading) told.7;
      lines = begins;
      takes = λ x y was now.
          let after = handed x was in
          let one = took.takes x after.0 was after.1 in
          let first = key_taken fresh_reader c.args.reader x after.0 refl one.0 in
          told.3 one.1 after.0 y after.1 now first.0 x first.1 first.2;
      read_to_end = c.serve_opened.ensures.read_to_end;
      read_whole_lines = λ is x y was now.
          let after = handed x was in
          behind_cut told.0 c.args.reader x after.0 y (key_taken fresh_reader c.args.reader x after.0 refl (took.takes x after.0 was after.1).0)
          after.2.1 (told.4 is after.0 y after.1 now);
      served = λ x was key m hands shows.
          let after = handed x was in
          let gives = after.2 in
          let same = same_key c.args.key key (lines_in x) (lines_ahead c.args.reader after.0) gives hands in
          let stands = subst (λ k. StandsForJournal k m shows.0) (sym same) shows.2 in
          let begins = opened_stands c.args.key m c.in-Ok.owner (g.D.Disk.shown c.open_store.new.disk) (g.D.Disk.may_leave c.open_store.new.disk)
          (c.in-Ok.ensures.stands m shows.0 shows.1 stands stands.valid.1) c.in-Ok.ensures.fresh
          (c.in-Ok.ensures.settled m shows.0 shows.1 stands stands.valid.1) in
          let keeps : KeepsFrom (length (image_of c.args.key m)) (g.D.Disk.shown c.args.disk.now) (g.D.Disk.shown c.open_store.new.disk) = λ a y e f.
          let one : shows.0 ≡ a = let both = sym shows.1 ∙ e in cc in
          c.in-Ok.ensures.behind m a y e f (subst (λ b. StandsForJournal c.args.key m b) one stands) stands.valid.1 in
          let ended : Seen = record {
            left_before = g.R.Source.left c.args.random.now;
            left_after = g.R.Source.left c.serve_opened.new.random;
            was = g.D.Disk.shown c.args.disk.now;
            shown = g.D.Disk.shown c.serve_opened.new.disk;
            written_before = g.W.Sink.written c.args.out.now;
            written_after = g.W.Sink.written c.serve_opened.new.out;
          } in
          let could = g.D.Disk.may_leave c.args.disk.now in
          let first = g.D.Disk.moment c.args.disk.now in
          let middle = g.D.Disk.moment c.open_store.new.disk in
          let past = g.D.Disk.since c.open_store.new.disk in
          let since = g.D.Disk.since c.serve_opened.new.disk in
          let shown_first = g.D.Disk.shown c.args.disk.now in
          let showed = g.D.Disk.shown c.open_store.new.disk in
          let shown = g.D.Disk.shown c.serve_opened.new.disk in
          let Lines : List ℕ → Journal → Type 0 = λ k. LinesKeepUpTo k m showed shown (since middle) in
          let Kept : Journal → Type 0 = KeepsUpTo key m shown_first shown could (since first) in
          let handed : WhereTold shown_first (λ a. showed ≡ Some (all_written (opening_writes most_store_bytes c.args.key a) a)) = λ a e.
          let one : shows.0 ≡ a = let both = sym shows.1 ∙ e in cc in
          let next = still_told showed shown_first a c.in-Ok.ensures.told e in
          next.1 ∙ ap Some (opened_shows c.args.key m a next.0 (subst (λ b. StandsForJournal c.args.key m b) one stands) stands.valid.1 (c.in-Ok.ensures.filled a next.0 e next.1)) in
          let more : (reached : Journal) → Lines key reached → Kept reached = kept_opened c.args.key key m shown_first showed shown could first middle past since _ same
          (c.in-Ok.ensures.kept m) c.in-Ok.ensures.hands handed (told_stands c.args.key m (g.D.Disk.shown c.args.disk.now) shows.0 shows.1 stands) stands.valid.1 c.in-Ok.ensures.later c.serve_opened.ensures.time in
          serves_more version_limits key m ended (g.D.Disk.may_leave c.serve_opened.new.disk) (Lines key) Kept more result told.0 told.1
          (subst (λ k. Serves result version_limits k m told.0 told.1 ended (g.D.Disk.may_leave c.serve_opened.new.disk) (Lines k)) same
          (told.5 c.args.key m (g.D.Disk.shown c.args.disk.now) begins keeps));
      published = λ x was key m hands shows stays.
          let D = g.D.Disk in
          let a = c.args.disk.now in
          let b = c.open_store.new.disk in
          let e = c.serve_opened.new.disk in
          let after = handed x was in
          let same = same_key c.args.key key (lines_in x) (lines_ahead c.args.reader after.0)
          after.2 hands in
          let stands = subst (λ k. StandsForJournal k m shows.0) (sym same) shows.2 in
          let begins = opened_stands c.args.key m c.in-Ok.owner (D.shown b) (D.may_leave b)
          (c.in-Ok.ensures.stands m shows.0 shows.1 stands stands.valid.1) c.in-Ok.ensures.fresh
          (c.in-Ok.ensures.settled m shows.0 shows.1 stands stands.valid.1) in
          let up = c.in-Ok.ensures.published m (subst (λ k. StaysPublished k (D.shown a) (D.may_leave a)) (sym same) stays) shows.0 shows.1 stands stands.valid.1 in
          subst (λ k. FromThenOn D.moment D.since a e (HasPublished k)) same
          (opened_publishes g.row.D.Denot D.moment D.since c.args.key m a b e
          (λ d. time_still (D.moment d) (D.since d) (D.shown d) (D.may_leave d) (λ s left at. g.met.D.Disk.only_now d s left at)
          (λ t s left early is leaves. g.met.D.Disk.counts_now d t s left early is leaves))
          up (c.serve_opened.ensures.published c.args.key m begins));
      later = let one = c.in-Ok.ensures.later in let two = c.serve_opened.ensures.later in omega (arith, one, two);
      time = goes_on_then (g.D.Disk.moment c.args.disk.now) (g.D.Disk.moment c.open_store.new.disk) (g.D.Disk.since c.args.disk.now) (g.D.Disk.since c.open_store.new.disk)
          (g.D.Disk.since c.serve_opened.new.disk) c.in-Ok.ensures.later c.in-Ok.ensures.time c.serve_opened.ensures.time;
      stays = c.serve_opened.ensures.stays;
      opening = inr (record {
        key = c.args.key;
        owner = c.in-Ok.owner;
        opened = c.open_store.new.disk;
        hands_in = λ x was. let after = handed x was in after.2.0;
        opening =
            let it = c.in-Ok.ensures in
            was_opened g.D.Disk c.args.key c.in-Ok.owner c.args.disk.now c.open_store.new.disk it.largest it.log it.fresh it.told it.size it.later it.stops it.filled it.durable;
        settled = c.serve_opened.ensures.calm;
        refused = λ is.
            let kept = c.serve_opened.ensures.needs is in
            let ran = c.serve_opened.new in (
              kept.0,
              ap (λ random. world_of ran.input random ran.disk ran.out) kept.1
                  ∙ ap (λ disk. world_of ran.input c.args.random.now disk ran.out) kept.2
                  ∙ ap (λ out. world_of ran.input c.args.random.now c.open_store.new.disk out) kept.3,
            );
        taken = c.serve_opened.ensures.new;
        suits = λ other. second_version (g.S.Source.left input) (g.D.Disk.shown c.args.disk.now) c.in-Ok.owner.state.keys.version
            (c.serve_opened.ensures.new other) of_journal;
        ran = told.6;
        only_read = told.8;
      });
      unasked = λ is.
          let kept = c.serve_opened.ensures.needs is in
          ap (λ random. world_of c.serve_opened.new.input random c.serve_opened.new.disk c.serve_opened.new.out) kept.1
          ∙ ap (λ out. world_of c.serve_opened.new.input c.args.random.now c.serve_opened.new.disk out) kept.3;
      unopened = λ is. not_first result c.serve_opened.ensures.not_first is;
    }
