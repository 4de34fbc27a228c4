-- What calls and stops leave of a store.
use Rattle.std.proofs.Common.{◌≡◌, ◌≤◌, ◌⊎◌, ⊎_elim, inl, inr, ℕ, List, Option, Some, sym, subst, ◌∙◌}
use Rattle.commit_journal.specs.Holding.{IsBetween, IsPrefix}
use Rattle.commit_journal.proofs.KeptLemmas.{prefix_same, prefix_trans}
use Rattle.cry_io.specs.declared.disk.Disk as disk
use Rattle.cli_running.specs.Running.{lines_behind, lines_in}
use Rattle.journal_bytes.specs.Journals.{HoldsBetween, ShowsJournal, StandsForJournal}
use Rattle.public_fold.specs.Journal.{Journal}
use Rattle.stop_laws.specs.Coming.{ComesOf, IsMadeOf, IsOfRuns, IsUpgradeOf}
use Rattle.stop_laws.specs.Runs.{CallOver, HoldsAll, HoldsRun, HoldsTurns, HoldsUpgrade, IsLeft, LeavesStore, Runs}
use Rattle.stop_laws.specs.Runs.CallOver.{ByOther, ByOwner, ByServe, ByUpgrade}
use Rattle.stop_laws.specs.Runs.Runs.{Begun, Ran, StopsBehind, StopsIn}
use Rattle.stop_laws.specs.Turns.{IsServedOf}
use Rattle.stop_laws.proofs.Made.{made_front, upgrade_front}
use Rattle.stop_laws.proofs.LeftByOwner.{Leaves, left_by, upgraded_by}
use Rattle.stop_laws.proofs.LeftByServe.{served_front, served_left, turns_more}

-- ---- all calls

run_more : (key : List ℕ) (was : Option (List ℕ)) (typed : List ℕ) (before after : Option (List ℕ)) (j more : Journal) → IsPrefix j more
    → HoldsRun key was typed before after j → HoldsRun key was typed before after more
run_more key was typed before after j more longer holds =
    ⊎_elim
    (λ none. inl none)
    (λ all. inr (
      all.0,
      all.1,
      record {
        asked = all.2.asked;
        rest = all.2.rest;
        asks = all.2.asks;
        session = all.2.session;
        stood = all.2.stood;
        prints = all.2.prints;
        holds = prefix_trans all.2.session.now j more all.2.holds longer;
      },
    ))
    holds

upgrade_more : (key : List ℕ) (was before after : Option (List ℕ)) (j more : Journal) → IsPrefix j more → HoldsUpgrade key was before after j
    → HoldsUpgrade key was before after more
upgrade_more key was before after j more longer holds =
    ⊎_elim
    (λ none. inl none)
    (λ all. inr (
      all.0,
      all.1,
      record {
        reply = all.2.reply;
        drawn = all.2.drawn;
        drawn_sizes = all.2.drawn_sizes;
        now = all.2.now;
        answers = all.2.answers;
        prints = all.2.prints;
        holds = prefix_trans all.2.now j more all.2.holds longer;
      },
    ))
    holds

module _ {D : Type 0} (disks : disk.Ghosts D)
    (counted : (d : D) (t : ℕ) (s c : List ℕ) → t ≤ disks.moment d → disks.shown d ≡ Some s → disks.may_leave d c → disks.since d t s c) (key : List ℕ) (start : D) where
  abbrev Came : D → Type 0
  Came now = Runs disks key start now

  abbrev HoldsHere : (now : D) → Came now → Journal → Type 0
  HoldsHere now runs j = HoldsAll disks key start now runs j

  all_more : (now : D) (runs : Came now) (j more : Journal) → IsPrefix j more → HoldsHere now runs j → HoldsHere now runs more
  all_more now Begun j more longer holds = tt
  all_more now (Ran {before = before} {after = after} runs (ByOwner run)) j more longer holds = (
    all_more before runs j more longer holds.0,
    run_more key (disks.shown before) run.typed run.written_before run.written_after j more longer holds.1,
  )
  all_more now (Ran {before = before} {after = after} runs (ByServe call)) j more longer holds = (
    all_more before runs j more longer holds.0,
    turns_more key (disks.shown before) call.turns call.written_before call.written_after j more longer holds.1,
  )
  all_more now (Ran {before = before} {after = after} runs (ByUpgrade call)) j more longer holds = (
    all_more before runs j more longer holds.0,
    upgrade_more key (disks.shown before) call.written_before call.written_after j more longer holds.1,
  )
  all_more now (Ran {before = before} {after = after} runs (ByOther call)) j more longer holds = all_more before runs j more longer holds
  all_more now (StopsBehind {before = before} runs left is) j more longer holds = all_more before runs j more longer holds
  all_more now (StopsIn {before = before} runs call left is) j more longer holds = all_more before runs j more longer holds

  -- ---- what a call makes, and what it acknowledges

  abbrev MakesBy : {before after : D} → CallOver disks key before after → Journal → Journal → Type 0
  MakesBy (ByOwner run) m j = IsMadeOf m (lines_behind (lines_in run.typed)) j
  MakesBy (ByServe call) m j = IsServedOf m call.turns j
  MakesBy (ByUpgrade call) m j = IsUpgradeOf m j
  MakesBy (ByOther call) m j = ⊥

  abbrev HoldsBy : {before after : D} → CallOver disks key before after → Journal → Type 0
  HoldsBy {before = before} (ByOwner run) j = HoldsRun key (disks.shown before) run.typed run.written_before run.written_after j
  HoldsBy {before = before} (ByServe call) j = HoldsTurns key (disks.shown before) call.turns call.written_before call.written_after j
  HoldsBy {before = before} (ByUpgrade call) j = HoldsUpgrade key (disks.shown before) call.written_before call.written_after j
  HoldsBy (ByOther call) j = Unit {0}

  -- a call that leaves the store as it is
  call_between : (before after : D) (l h : Journal) → HoldsBetween key l h (disks.shown before) (disks.may_leave before) → LeavesStore disks before after
      → (c : List ℕ) → disks.may_leave before c ⊎ (disks.shown before ≡ Some c) → IsBetween (StandsForJournal key) l h c
  call_between before after l h held call c either =
      ⊎_elim
      (λ left. held.leaves c left)
      (λ is.
      let same : held.shows.0 ≡ c = let both = sym held.shows.1 ∙ is in cc in
      subst (IsBetween (StandsForJournal key) l h) same held.shows.2)
      either

  call_holds : (before after : D) (l h : Journal) → HoldsBetween key l h (disks.shown before) (disks.may_leave before) → LeavesStore disks before after
      → HoldsBetween key l h (disks.shown after) (disks.may_leave after)
  call_holds before after l h held call = record {
    shows = (held.shows.0, call.shows ∙ held.shows.1, held.shows.2);
    leaves = λ c left. call_between before after l h held call c (call.leaves c left);
  }

  abbrev LeftOver : {before after : D} → Journal → Journal → CallOver disks key before after → Type 0
  LeftOver {before = before} {after = after} l h call = Leaves key l h (disks.shown before) (disks.shown after) (MakesBy call) (HoldsBy call)
      (disks.since after (disks.moment before)) (disks.may_leave after)

  pub call_leaves : (before after : D) (l h : Journal) → HoldsBetween key l h (disks.shown before) (disks.may_leave before)
      → (call : CallOver disks key before after) → LeftOver l h call
  call_leaves before after l h held (ByOwner run) =
      let at = held.shows.2 in
      let shows : ShowsJournal key at.held (disks.shown before) = (held.shows.0, held.shows.1, at.stands_for) in
      left_by key l h at.held run.left_before run.left_after (disks.shown before) (disks.shown after) run.written_before run.written_after (disks.may_leave before) (disks.since after (disks.moment before)) (disks.may_leave after)
      held at.from at.to shows (λ s c is left. counted after (disks.moment before) s c run.later is left) run.typed run.status run.asked (run.ran key at.held run.hands_in shows)
  call_leaves before after l h held (ByServe call) =
      let at = held.shows.2 in
      let shows : ShowsJournal key at.held (disks.shown before) = (held.shows.0, held.shows.1, at.stands_for) in
      served_left key l h at.held call.left_before call.left_after (disks.shown before) (disks.shown after) call.written_before call.written_after (disks.may_leave before) (disks.since after (disks.moment before)) (disks.may_leave after)
      held at.from at.to shows (λ s c is left. counted after (disks.moment before) s c call.later is left) call.turns call.status call.asked (call.ran key at.held call.hands_in shows)
  call_leaves before after l h held (ByUpgrade call) =
      let at = held.shows.2 in
      let shows : ShowsJournal key at.held (disks.shown before) = (held.shows.0, held.shows.1, at.stands_for) in
      upgraded_by key l h at.held call.left_before call.left_after (disks.shown before) (disks.shown after) call.written_before call.written_after (disks.may_leave before) (disks.since after (disks.moment before)) (disks.may_leave after)
      held at.from at.to shows (λ s c is left. counted after (disks.moment before) s c call.later is left) call.status call.printed (call.ran key at.held call.hands_in shows)
  call_leaves before after l h held (ByOther call) = record {
    low = l;
    high = h;
    grown = prefix_same l;
    holds = call_holds before after l h held call;
    kept = λ s c at.
        let k = call_between before after l h held call c (call.same s c at).1 in
        record { held = k.held; from = k.from; to = inl k.to; stands_for = k.stands_for };
    made = inl (prefix_same h);
    acknowledged = tt;
  }

  -- what a stop leaves at a moment of a call stands for a journal
  pub call_stands : (before after : D) (l h : Journal) → HoldsBetween key l h (disks.shown before) (disks.may_leave before) → CallOver disks key before after
      → (s c : List ℕ) → disks.since after (disks.moment before) s c → (held : Journal) × StandsForJournal key held c
  call_stands before after l h held call s c at = let k = (call_leaves before after l h held call).kept s c at in (k.held, k.stands_for)

  -- a disk that shows what a stop left, which lay between the two
  pub left_between : (l h : Journal) (bytes : List ℕ) (d : D) → IsBetween (StandsForJournal key) l h bytes → IsLeft disks bytes d → HoldsBetween key l h (disks.shown d) (disks.may_leave d)
  left_between l h bytes d lies is = record {
    shows = (bytes, is.0, lies);
    leaves = λ c left.
        let same : bytes ≡ c = let both = sym is.0 ∙ is.1 c left in cc in
        subst (IsBetween (StandsForJournal key) l h) same lies;
  }

  -- ---- what comes of calls

  abbrev ComesHere : Journal → (now : D) → Came now → Journal → Type 0
  ComesHere m2 now runs j = ComesOf disks key m2 start now runs j

  -- a front of what comes of the runs comes of them
  comes_front : (m2 : Journal) (now : D) (runs : Came now) (j front : Journal) → IsPrefix front j → ComesHere m2 now runs j → ComesHere m2 now runs front
  comes_front m2 now Begun j front shorter comes = prefix_trans front j m2 shorter comes
  comes_front m2 now (Ran {before = before} {after = after} runs (ByOther call)) j front shorter comes = comes_front m2 before runs j front shorter comes
  comes_front m2 now (Ran {before = before} {after = after} runs (ByOwner run)) j front shorter comes =
      ⊎_elim
      (λ old. inl (comes_front m2 before runs j front shorter old))
      (λ new. inr (new.0, new.1, new.2, made_front new.0 (lines_behind (lines_in run.typed)) j front shorter new.3))
      comes
  comes_front m2 now (Ran {before = before} {after = after} runs (ByServe call)) j front shorter comes =
      ⊎_elim
      (λ old. inl (comes_front m2 before runs j front shorter old))
      (λ new. inr (new.0, new.1, new.2, served_front new.0 call.turns j front shorter new.3))
      comes
  comes_front m2 now (Ran {before = before} {after = after} runs (ByUpgrade call)) j front shorter comes =
      ⊎_elim
      (λ old. inl (comes_front m2 before runs j front shorter old))
      (λ new. inr (new.0, new.1, new.2, upgrade_front new.0 j front shorter new.3))
      comes
  comes_front m2 now (StopsBehind {before = before} runs left is) j front shorter comes = comes_front m2 before runs j front shorter comes
  comes_front m2 now (StopsIn {before = before} runs (ByOther call) left is) j front shorter comes = comes_front m2 before runs j front shorter comes
  comes_front m2 now (StopsIn {before = before} runs (ByOwner run) left is) j front shorter comes =
      ⊎_elim
      (λ old. inl (comes_front m2 before runs j front shorter old))
      (λ new. inr (new.0, new.1, new.2, made_front new.0 (lines_behind (lines_in run.typed)) j front shorter new.3))
      comes
  comes_front m2 now (StopsIn {before = before} runs (ByServe call) left is) j front shorter comes =
      ⊎_elim
      (λ old. inl (comes_front m2 before runs j front shorter old))
      (λ new. inr (new.0, new.1, new.2, served_front new.0 call.turns j front shorter new.3))
      comes
  comes_front m2 now (StopsIn {before = before} runs (ByUpgrade call) left is) j front shorter comes =
      ⊎_elim
      (λ old. inl (comes_front m2 before runs j front shorter old))
      (λ new. inr (new.0, new.1, new.2, upgrade_front new.0 j front shorter new.3))
      comes

  -- what one more call reaches
  abbrev ReachesBy : Journal → (before : D) → Came before → (Journal → Journal → Type 0) → Journal → Type 0
  ReachesBy m2 before runs Makes j = ComesHere m2 before runs j ⊎ ((m : Journal) × ComesHere m2 before runs m × ShowsJournal key m (disks.shown before) × Makes m j)

  reaches : (m2 : Journal) (before : D) (runs : Came before) (Makes : Journal → Journal → Type 0) (h high : Journal) → ComesHere m2 before runs h
      → IsPrefix high h ⊎ ((m : Journal) × IsPrefix m h × ShowsJournal key m (disks.shown before) × Makes m high)
      → ReachesBy m2 before runs Makes high
  reaches m2 before runs Makes h high comes made =
      ⊎_elim
      (λ shorter. inl (comes_front m2 before runs h high shorter comes))
      (λ new. inr (new.0, comes_front m2 before runs h new.0 new.1 comes, new.2, new.3))
      made

  -- ---- what is left

  abbrev LeftAt : (m1 m2 : Journal) (now : D) → Came now → Type 0
  LeftAt m1 m2 now runs = (low high : Journal) × IsPrefix m1 low × HoldsBetween key low high (disks.shown now) (disks.may_leave now) × HoldsHere now runs low × ComesHere m2 now runs high

  module _ (m1 m2 : Journal) (before after : D) (runs : Came before) (so_far : LeftAt m1 m2 before runs) (call : CallOver disks key before after) where
    abbrev left : LeftOver so_far.0 so_far.1 call
    left = call_leaves before after so_far.0 so_far.1 so_far.3 call

    -- behind one more call
    behind_call : (low high : Journal) × IsPrefix m1 low × HoldsBetween key low high (disks.shown after) (disks.may_leave after)
        × (HoldsHere before runs low × HoldsBy call low) × ReachesBy m2 before runs (MakesBy call) high
    behind_call = (
      left.low,
      left.high,
      prefix_trans m1 so_far.0 left.low so_far.2 left.grown,
      left.holds,
      (all_more before runs so_far.0 left.low left.grown so_far.4, left.acknowledged),
      reaches m2 before runs (MakesBy call) so_far.1 left.high so_far.5 left.made,
    )

    -- behind a stop in it
    abbrev BehindStop : D → Type 0
    BehindStop now = (low high : Journal) × IsPrefix m1 low × HoldsBetween key low high (disks.shown now) (disks.may_leave now)
        × HoldsHere before runs low × ReachesBy m2 before runs (MakesBy call) high

    behind_stop : (now : D) (there bytes : List ℕ) → disks.since after (disks.moment before) there bytes → IsLeft disks bytes now → BehindStop now
    behind_stop now there bytes at is =
        let k = left.kept there bytes at in
        let to : (high : Journal) → IsPrefix k.held high → ReachesBy m2 before runs (MakesBy call) high → BehindStop now = λ high p comes. (
          so_far.0,
          high,
          so_far.2,
          left_between so_far.0 high bytes now (record { held = k.held; from = k.from; to = p; stands_for = k.stands_for }) is,
          so_far.4,
          comes,
        ) in
        ⊎_elim
        (λ p. to so_far.1 p (inl so_far.5))
        (λ p. to left.high p (reaches m2 before runs (MakesBy call) so_far.1 left.high so_far.5 left.made))
        k.to

  pub all_left : (m1 m2 : Journal) → HoldsBetween key m1 m2 (disks.shown start) (disks.may_leave start) → (now : D) (runs : Came now) → LeftAt m1 m2 now runs
  all_left m1 m2 first now Begun = (m1, m2, prefix_same m1, first, tt, prefix_same m2)
  all_left m1 m2 first now (Ran {before = before} {after = after} runs (ByOwner run)) = behind_call m1 m2 before now runs (all_left m1 m2 first before runs) (ByOwner run)
  all_left m1 m2 first now (Ran {before = before} {after = after} runs (ByServe call)) = behind_call m1 m2 before now runs (all_left m1 m2 first before runs) (ByServe call)
  all_left m1 m2 first now (Ran {before = before} {after = after} runs (ByUpgrade call)) = behind_call m1 m2 before now runs (all_left m1 m2 first before runs) (ByUpgrade call)
  all_left m1 m2 first now (Ran {before = before} {after = after} runs (ByOther call)) =
      let so_far = all_left m1 m2 first before runs in
      (so_far.0, so_far.1, so_far.2, call_holds before now so_far.0 so_far.1 so_far.3 call, so_far.4, so_far.5)
  all_left m1 m2 first now (StopsBehind {before = before} {after = after} {bytes = bytes} runs could is) =
      let so_far = all_left m1 m2 first before runs in
      (so_far.0, so_far.1, so_far.2, left_between so_far.0 so_far.1 bytes now (so_far.3.leaves bytes could) is, so_far.4, so_far.5)
  all_left m1 m2 first now (StopsIn {before = before} {after = after} {next = next} {there = there} {bytes = bytes} runs (ByOwner run) at is) =
      behind_stop m1 m2 before after runs (all_left m1 m2 first before runs) (ByOwner run) now there bytes at is
  all_left m1 m2 first now (StopsIn {before = before} {after = after} {next = next} {there = there} {bytes = bytes} runs (ByServe call) at is) =
      behind_stop m1 m2 before after runs (all_left m1 m2 first before runs) (ByServe call) now there bytes at is
  all_left m1 m2 first now (StopsIn {before = before} {after = after} {next = next} {there = there} {bytes = bytes} runs (ByUpgrade call) at is) =
      behind_stop m1 m2 before after runs (all_left m1 m2 first before runs) (ByUpgrade call) now there bytes at is
  all_left m1 m2 first now (StopsIn {before = before} {after = after} {next = next} {there = there} {bytes = bytes} runs (ByOther call) at is) =
      let so_far = all_left m1 m2 first before runs in
      let lies = call_between before after so_far.0 so_far.1 so_far.3 call bytes (call.same there bytes at).1 in
      (so_far.0, so_far.1, so_far.2, left_between so_far.0 so_far.1 bytes now lies is, so_far.4, so_far.5)

  -- whatever is left behind the runs is theirs
  pub left_of_runs : (m1 m2 : Journal) → HoldsBetween key m1 m2 (disks.shown start) (disks.may_leave start) → (now : D) (runs : Came now) (bytes : List ℕ) → disks.may_leave now bytes
      → IsOfRuns disks key m1 m2 start now runs bytes
  left_of_runs m1 m2 first now runs bytes left =
      let all = all_left m1 m2 first now runs in
      let here = all.3.leaves bytes left in
      record {
        journal = here.held;
        stands_for = here.stands_for;
        begins = prefix_trans m1 all.0 here.held all.2 here.from;
        acknowledged = all_more now runs all.0 here.held here.from all.4;
        comes = comes_front m2 now runs all.1 here.held here.to all.5;
      }
