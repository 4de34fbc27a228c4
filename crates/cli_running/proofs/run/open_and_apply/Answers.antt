use Rattle.std.proofs.Common.{◌≡◌, ⊎_elim, IsTrue, inl, inr, ℕ, List, [], length, None, Some, arith, refl, sym, ap, subst, ◌∙◌}
use Rattle.batch_log.specs.Moments.{FromThenOn}
use Rattle.batch_log.proofs.Moments.{goes_on_then}
use Rattle.cry_io.specs.Told.{WhereBothTold, WhereTold}
use Rattle.batch_log.specs.Handing.{all_written}
use Rattle.commit_journal.specs.Handing.{opening_writes}
use Rattle.cry_base.specs.Limits.{most_store_bytes}
use Rattle.store_owner.proofs.SlotsHanded.{opened_shows}
use Rattle.journal_bytes.specs.Bytes.{image_of}
use Rattle.journal_bytes.specs.Journals.{StandsForJournal}
use Rattle.cli_base.specs.Lines.{lines_ahead}
use Rattle.cli_sessions.specs.Sessions.{Ends, KeepsFrom, Seen, version_limits}
use Rattle.cli_running.specs.Running.{is_after_opening, is_before_opening, is_run_answer, RanLines, TakesTo, line_ended, lines_behind, lines_in, lines_typed}
use Rattle.cli_sessions.specs.Acting.{place_of}
use Rattle.cli_sessions.specs.Opening.{Judges, open_status}
use Rattle.cli_sessions.proofs.ActedLines.{owner_ran_in}
use Rattle.cli_running.proofs.LinesRun.{bad_is_never_done, key_taken, lines_as_typed, unopened_lines, unopened_taken}
use Rattle.cli_sessions.proofs.OpenedPublishing.{opened_publishes}
use Rattle.cli_running.proofs.ReadFaults.{cut_behind, unopened_reads_none}
use Rattle.cli_sessions.proofs.RunEnds.{still_told}
use Rattle.cli_sessions.specs.Stopping.{KeepsUpTo, LinesKeepUpTo}
use Rattle.cli_running.proofs.EndsMapped.{ends_more}
use Rattle.cli_sessions.proofs.StopLemmas.{kept_opened, kept_unopened, time_still, told_stands}
use Rattle.public_fold.specs.Journal.{Journal}
use Rattle.store_owner.specs.Published.{HasPublished, StaysPublished}
use Rattle.cli_base.specs.World.{world_of}
use Rattle.cli_sessions.proofs.Versions.{KeepsVersion, owners_version}
use Rattle.cli_running.specs.Running.{HandsInFirst}
use Rattle.cli_running.proofs.RunVersions.{second_version, tells_version, unopened_needs_none, unopened_tells_none}
use Rattle.cli_running.proofs.RunOpening.{handed_lines, not_first, unopened_answers, unopened_is_early, unopened_isnt_behind, unopened_isnt_done, unopened_isnt_first, key_is_given, not_before, same_key, unopened_draws_none, unopened_ends, unopened_is_no_line}
use Rattle.cli_sessions.proofs.StoreOpening.{opened_has_no_verdict, opened_stands, seen_unopened, unopened_is_judged, was_opened}
use Rattle.cli_base.proofs.InputLemmas.{fresh_reader}
use Rattle.cli_sessions.proofs.Takings.{taken_few}
use Rattle.log_visits.specs.Asking.{verdict}
use Rattle.log_visits.specs.Asking.Asking.{ToWrite}
use Rattle.cli_running.proofs.run.open_and_apply.Goals as goal

pub returns-in-Err-clause-runs : goal.returns-in-Err-clause-runs
returns-in-Err-clause-runs g c = λ input took.
    let handed = handed_lines g.S.Source c.args.key c.args.reader input c.args.input.now took in
    let written = g.W.Sink.written c.args.out.now in
    let lines : RanLines c.open_status.result [] 0 lines_typed (g.S.Source.left input) written written =
    subst (λ status. RanLines status [] 0 lines_typed (g.S.Source.left input) (g.W.Sink.written c.args.out.now) (g.W.Sink.written c.args.out.now)) (sym c.open_status.ensures)
    (unopened_lines lines_typed (g.S.Source.left input) (g.W.Sink.written c.args.out.now) c.in-Err.fault) in
    record {
      answers = subst (λ status. IsTrue (is_run_answer status)) (sym c.open_status.ensures) (unopened_answers c.in-Err.fault);
      first_line = λ x was none.
          let after = handed x was in
          key_is_given c.args.key (lines_in x) (lines_ahead c.args.reader after.0)
          after.2 none;
      key_line = λ is x was. unopened_is_no_line c.in-Err.fault 1 (sym c.open_status.ensures ∙ is);
      judged = λ x was image shown key hands.
          let after = handed x was in
          let same = same_key c.args.key key (lines_in x) (lines_ahead c.args.reader after.0)
          after.2 hands in
          subst (λ status. Judges status (verdict (ToWrite key) image)) (sym c.open_status.ensures)
          (subst (λ k. Judges (open_status c.in-Err.fault) (verdict (ToWrite k) image)) same
          (unopened_is_judged c.in-Err.fault c.args.key image (c.in-Err.ensures.largest refl image shown)));
      version = unopened_tells_none c.in-Err.fault c.open_status.result (g.S.Source.left input) (g.D.Disk.shown c.args.disk.now) c.open_status.ensures;
      bad_line = bad_is_never_done c.open_status.result [] 0 lines_typed (g.S.Source.left input) _ _ lines;
      short = λ left need is. unopened_draws_none c.in-Err.fault left need (sym c.open_status.ensures ∙ is);
      asked = [];
      answered = 0;
      lines = lines;
      takes = subst (λ status. WhereBothTold (g.S.Source.left input) (g.S.Source.left c.args.input.now) (TakesTo (line_ended status 0))) (sym c.open_status.ensures)
          (unopened_taken lines_typed (g.S.Source.left input) (g.W.Sink.written c.args.out.now) (g.S.Source.left c.args.input.now) c.in-Err.fault
          (λ x y was now.
          let one = took.takes x y was now in
          taken_few 1 fresh_reader c.args.reader x y (key_taken fresh_reader c.args.reader x y refl one.0) one.1));
      read_to_end = λ is. unopened_isnt_done c.in-Err.fault (sym c.open_status.ensures ∙ is);
      read_whole_lines = (λ is. unopened_reads_none c.in-Err.fault (sym c.open_status.ensures ∙ is));
      ran = λ x was key m hands shows.
          let after = handed x was in
          let same = same_key c.args.key key (lines_in x) (lines_ahead c.args.reader after.0)
          after.2 hands in
          let stands = subst (λ k. StandsForJournal k m shows.0) (sym same) shows.2 in
          let now = still_told (g.D.Disk.shown c.open_store.new.disk) (g.D.Disk.shown c.args.disk.now) shows.0 c.in-Err.ensures.told shows.1 in
          let left = g.R.Source.left c.args.random.now in
          let first = g.D.Disk.shown c.args.disk.now in
          let shown = g.D.Disk.shown c.open_store.new.disk in
          let written = g.W.Sink.written c.args.out.now in
          let could = g.D.Disk.may_leave c.args.disk.now in
          let since = g.D.Disk.since c.open_store.new.disk (g.D.Disk.moment c.args.disk.now) in
          let Kept : Journal → Type 0 = KeepsUpTo key m first shown could since in
          let kept : Kept m = kept_unopened c.args.key key m first shown could since _ same (c.in-Err.ensures.kept m) c.in-Err.ensures.hands (told_stands c.args.key m first shows.0 shows.1 stands) stands.valid.1 in
          subst (λ status. Ends status version_limits key m [] (lines_behind (lines_in x)) (seen_unopened left first shown written) (g.D.Disk.may_leave c.open_store.new.disk) Kept) (sym c.open_status.ensures)
          (unopened_ends c.in-Err.fault (c.in-Err.ensures.never m shows.0 shows.1 stands stands.valid.1)
          version_limits key m (lines_behind (lines_in x)) left first shown written (g.D.Disk.may_leave c.open_store.new.disk) Kept
          (now.0, now.1, subst (λ k. StandsForJournal k m now.0) same (c.in-Err.ensures.left m shows.0 now.0 shows.1 now.1 stands stands.valid.1)) kept);
      published = λ x was key m hands shows stays.
          let D = g.D.Disk in
          let a = c.args.disk.now in
          let after = handed x was in
          let same = same_key c.args.key key (lines_in x) (lines_ahead c.args.reader after.0)
          after.2 hands in
          let stands = subst (λ k. StandsForJournal k m shows.0) (sym same) shows.2 in
          let up = c.in-Err.ensures.published m (subst (λ k. StaysPublished k (D.shown a) (D.may_leave a)) (sym same) stays) shows.0 shows.1 stands stands.valid.1 in
          subst (λ k. FromThenOn D.moment D.since a c.open_store.new.disk (HasPublished k)) same up.kept;
      later = c.in-Err.ensures.later;
      time = c.in-Err.ensures.time;
      stays = λ is. unopened_isnt_behind c.in-Err.fault (subst (λ status. IsTrue (is_after_opening status)) c.open_status.ensures is);
      opening =
          let tried = c.in-Err.ensures in
          inl (record {
            left = record {
              rest_kept = refl;
              store = inr (
                c.args.key,
                (λ x was.
                    let after = handed x was in
                    after.2.0),
                record {
                  size = tried.size;
                  throughout = tried.stops;
                  left = ⊎_elim (λ disk. inl (c.open_status.ensures ∙ ap open_status disk)) (λ leaves. inr leaves) tried.refused;
                },
              );
            };
            early = ap is_after_opening c.open_status.ensures ∙ unopened_is_early c.in-Err.fault;
            none_asked = refl;
            none_answered = refl;
          });
      unasked = λ is. unopened_needs_none c.in-Err.fault (sym c.open_status.ensures ∙ is);
      unopened = λ is. unopened_isnt_first c.in-Err.fault (subst (λ status. IsTrue (is_before_opening status)) c.open_status.ensures is);
    }

pub returns-in-Ok-clause-runs : goal.returns-in-Ok-clause-runs
returns-in-Ok-clause-runs g c = λ input took.
    let handed = handed_lines g.S.Source c.args.key c.args.reader input c.args.input.now took in
    let told = c.apply_lines.ensures.lines in
    let lines : RanLines c.apply_lines.result told.0 told.1 lines_typed (g.S.Source.left input) (g.W.Sink.written c.args.out.now)
    (g.W.Sink.written c.apply_lines.new.out) =
    lines_as_typed c.apply_lines.result told.0 told.1 (lines_ahead c.args.reader) lines_typed (g.S.Source.left input) (g.S.Source.left c.args.input.now)
    (g.W.Sink.written c.args.out.now) (g.W.Sink.written c.apply_lines.new.out) took.told
    (λ x y was now. (took.gives x y was now).1)
    told.2 in
    let of_journal : KeepsVersion HandsInFirst (g.S.Source.left input) (g.D.Disk.shown c.args.disk.now) c.in-Ok.owner.state.keys.version =
    λ x was key m hands shows.
    let after = handed x was in
    let same = same_key c.args.key key (lines_in x) (lines_ahead c.args.reader after.0) after.2 hands in
    let stands = subst (λ k. StandsForJournal k m shows.0) (sym same) shows.2 in (
      stands.valid,
      owners_version m c.in-Ok.owner (c.in-Ok.ensures.stands m shows.0 shows.1 stands stands.valid.1),
    ) in
    record {
      answers = c.apply_lines.ensures.answers;
      first_line = λ x was none.
          let after = handed x was in
          key_is_given c.args.key (lines_in x) (lines_ahead c.args.reader after.0)
          after.2 none;
      key_line = λ is x was. not_before c.apply_lines.result c.apply_lines.ensures.not_first is;
      judged = λ x was image shown key hands.
          let after = handed x was in
          let same = same_key c.args.key key (lines_in x) (lines_ahead c.args.reader after.0)
          after.2 hands in
          let opens = c.in-Ok.ensures.largest refl image shown in
          c.apply_lines.ensures.none_of_bytes (verdict (ToWrite key) image)
          (subst (λ k. verdict (ToWrite k) image ≡ None) same (opened_has_no_verdict c.args.key image opens.0 opens.1));
      version = tells_version c.apply_lines.result (g.S.Source.left input) (g.D.Disk.shown c.args.disk.now) c.in-Ok.owner.state.keys.version
          (λ is. (c.apply_lines.ensures.needs is).0) c.apply_lines.ensures.new of_journal;
      bad_line = bad_is_never_done c.apply_lines.result told.0 told.1 lines_typed (g.S.Source.left input) _ _ lines;
      short = c.apply_lines.ensures.short;
      asked = told.0;
      answered = told.1;
      lines = lines;
      takes = λ x y was now.
          let after = handed x was in
          let one = took.takes x after.0 was after.1 in
          let first = key_taken fresh_reader c.args.reader x after.0 refl one.0 in
          told.3 one.1 after.0 y after.1 now first.0 x first.1 first.2;
      read_to_end = c.apply_lines.ensures.read_to_end;
      read_whole_lines = λ is x y was now.
          let after = handed x was in
          let behind = after.2.1 in
          cut_behind told.0 told.1 c.args.reader x after.0 y (key_taken fresh_reader c.args.reader x after.0 refl (took.takes x after.0 was after.1).0)
          behind (told.4 is after.0 y after.1 now);
      ran = λ x was key m hands shows.
          let after = handed x was in
          let gives = after.2 in
          let same = same_key c.args.key key (lines_in x) (lines_ahead c.args.reader after.0) gives hands in
          let stands = subst (λ k. StandsForJournal k m shows.0) (sym same) shows.2 in
          let begins = opened_stands c.args.key m c.in-Ok.owner (g.D.Disk.shown c.open_store.new.disk) (g.D.Disk.may_leave c.open_store.new.disk)
          (c.in-Ok.ensures.stands m shows.0 shows.1 stands stands.valid.1) c.in-Ok.ensures.fresh
          (c.in-Ok.ensures.settled m shows.0 shows.1 stands stands.valid.1) in
          let keeps : KeepsFrom (length (image_of c.args.key m)) (g.D.Disk.shown c.args.disk.now) (g.D.Disk.shown c.open_store.new.disk) = λ a y e f.
          let one : shows.0 ≡ a = let both = sym shows.1 ∙ e in cc in
          c.in-Ok.ensures.behind m a y e f (subst (λ b. StandsForJournal c.args.key m b) one stands) stands.valid.1 in
          let ended : Seen = record {
            left_before = g.R.Source.left c.args.random.now;
            left_after = g.R.Source.left c.apply_lines.new.random;
            was = g.D.Disk.shown c.args.disk.now;
            shown = g.D.Disk.shown c.apply_lines.new.disk;
            written_before = g.W.Sink.written c.args.out.now;
            written_after = g.W.Sink.written c.apply_lines.new.out;
          } in
          let could = g.D.Disk.may_leave c.args.disk.now in
          let first = g.D.Disk.moment c.args.disk.now in
          let middle = g.D.Disk.moment c.open_store.new.disk in
          let past = g.D.Disk.since c.open_store.new.disk in
          let since = g.D.Disk.since c.apply_lines.new.disk in
          let shown_first = g.D.Disk.shown c.args.disk.now in
          let showed = g.D.Disk.shown c.open_store.new.disk in
          let shown = g.D.Disk.shown c.apply_lines.new.disk in
          let Lines : List ℕ → Journal → Type 0 = λ k. LinesKeepUpTo k m showed shown (since middle) in
          let Kept : Journal → Type 0 = KeepsUpTo key m shown_first shown could (since first) in
          let handed : WhereTold shown_first (λ a. showed ≡ Some (all_written (opening_writes most_store_bytes c.args.key a) a)) = λ a e.
          let one : shows.0 ≡ a = let both = sym shows.1 ∙ e in cc in
          let next = still_told showed shown_first a c.in-Ok.ensures.told e in
          next.1 ∙ ap Some (opened_shows c.args.key m a next.0 (subst (λ b. StandsForJournal c.args.key m b) one stands) stands.valid.1 (c.in-Ok.ensures.filled a next.0 e next.1)) in
          let more : (reached : Journal) → Lines key reached → Kept reached = kept_opened c.args.key key m shown_first showed shown could first middle past since _ same
          (c.in-Ok.ensures.kept m) c.in-Ok.ensures.hands handed (told_stands c.args.key m (g.D.Disk.shown c.args.disk.now) shows.0 shows.1 stands) stands.valid.1 c.in-Ok.ensures.later c.apply_lines.ensures.time in
          subst (λ lines. Ends c.apply_lines.result version_limits key m told.0 lines ended (g.D.Disk.may_leave c.apply_lines.new.disk) Kept) gives.1
          (ends_more version_limits key m (lines_ahead c.args.reader after.0) ended (g.D.Disk.may_leave c.apply_lines.new.disk) (Lines key) Kept more c.apply_lines.result told.0
          (subst (λ k. Ends c.apply_lines.result version_limits k m told.0 (lines_ahead c.args.reader after.0) ended (g.D.Disk.may_leave c.apply_lines.new.disk) (Lines k)) same
          (told.5 after.0 after.1 c.args.key m (g.D.Disk.shown c.args.disk.now) begins keeps)));
      published = λ x was key m hands shows stays.
          let D = g.D.Disk in
          let a = c.args.disk.now in
          let b = c.open_store.new.disk in
          let e = c.apply_lines.new.disk in
          let after = handed x was in
          let same = same_key c.args.key key (lines_in x) (lines_ahead c.args.reader after.0)
          after.2 hands in
          let stands = subst (λ k. StandsForJournal k m shows.0) (sym same) shows.2 in
          let begins = opened_stands c.args.key m c.in-Ok.owner (D.shown b) (D.may_leave b)
          (c.in-Ok.ensures.stands m shows.0 shows.1 stands stands.valid.1) c.in-Ok.ensures.fresh
          (c.in-Ok.ensures.settled m shows.0 shows.1 stands stands.valid.1) in
          let up = c.in-Ok.ensures.published m (subst (λ k. StaysPublished k (D.shown a) (D.may_leave a)) (sym same) stays) shows.0 shows.1 stands stands.valid.1 in
          subst (λ k. FromThenOn D.moment D.since a e (HasPublished k)) same
          (opened_publishes g.row.D.Denot D.moment D.since c.args.key m a b e
          (λ d. time_still (D.moment d) (D.since d) (D.shown d) (D.may_leave d) (λ s left at. g.met.D.Disk.only_now d s left at)
          (λ t s left early is leaves. g.met.D.Disk.counts_now d t s left early is leaves))
          up (c.apply_lines.ensures.published c.args.key m begins));
      later = let one = c.in-Ok.ensures.later in let two = c.apply_lines.ensures.later in omega (arith, one, two);
      time = goes_on_then (g.D.Disk.moment c.args.disk.now) (g.D.Disk.moment c.open_store.new.disk) (g.D.Disk.since c.args.disk.now) (g.D.Disk.since c.open_store.new.disk)
          (g.D.Disk.since c.apply_lines.new.disk) c.in-Ok.ensures.later c.in-Ok.ensures.time c.apply_lines.ensures.time;
      stays = c.apply_lines.ensures.stays;
      opening = inr (record {
        opened = record {
          key = c.args.key;
          owner = c.in-Ok.owner;
          opened = c.open_store.new.disk;
          hands_in = λ x was. let after = handed x was in after.2.0;
          opening =
              let it = c.in-Ok.ensures in
              was_opened g.D.Disk c.args.key c.in-Ok.owner c.args.disk.now c.open_store.new.disk it.largest it.log it.fresh it.told it.size it.later it.stops it.filled it.durable;
          unrefused = c.apply_lines.ensures.none_of_bytes None refl;
          settled = c.apply_lines.ensures.calm;
          refused = λ is.
              let kept = c.apply_lines.ensures.needs is in
              let ran = c.apply_lines.new in (
                (λ one same. (let no : ⊥ = omega (arith, same) in no), λ other. kept.0),
                ap (λ random. world_of ran.input random ran.disk ran.out) kept.1
                    ∙ ap (λ disk. world_of ran.input c.args.random.now disk ran.out) kept.2
                    ∙ ap (λ out. world_of ran.input c.args.random.now c.open_store.new.disk out) kept.3,
              );
          taken = λ other.
              let new = c.apply_lines.ensures.new other in
              (λ one. absurd (new one), λ same. (let no : ⊥ = omega (arith, same) in absurd no));
          suits = λ other. second_version (g.S.Source.left input) (g.D.Disk.shown c.args.disk.now) c.in-Ok.owner.state.keys.version
              (c.apply_lines.ensures.new other) of_journal;
        };
        ran = λ other.
            owner_ran_in c.apply_lines.result told.0 told.1 (lines_ahead c.args.reader) lines_typed (g.S.Source.left c.args.input.now) (g.S.Source.left input)
            (place_of c.in-Ok.owner (g.R.Source.left c.args.random.now) (g.D.Disk.shown c.open_store.new.disk))
            (g.R.Source.left c.apply_lines.new.random) (g.D.Disk.shown c.apply_lines.new.disk) (g.W.Sink.written c.args.out.now) (g.W.Sink.written c.apply_lines.new.out)
            (λ x was. let after = handed x was in (after.0, after.1, after.2.1)) (told.6 other);
      });
      unasked = λ is.
          let kept = c.apply_lines.ensures.needs is in
          ap (λ random. world_of c.apply_lines.new.input random c.apply_lines.new.disk c.apply_lines.new.out) kept.1
          ∙ ap (λ out. world_of c.apply_lines.new.input c.args.random.now c.apply_lines.new.disk out) kept.3;
      unopened = λ is. not_first c.apply_lines.result c.apply_lines.ensures.not_first is;
    }
