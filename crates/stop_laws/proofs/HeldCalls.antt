-- A run or an upgrade with a head in a list of calls: a call that only reads, the run or the upgrade, and a call that only reads.
use Rattle.std.proofs.Common.{◌≡◌, ◌≤◌, ◌⊎◌, ⊎_elim, inl, inr, ℕ, List, Some, arith, sym, ap, ◌∙◌}
use Rattle.std.specs.Prelude.{is_some}
use Rattle.batch_log.proofs.Moments.{goes_on_then, in_both}
use Rattle.cli_base.specs.World.{Senses, World}
use Rattle.cli_base.specs.declared.status.Status.{Status}
use Rattle.cli_heads.specs.Held.{EndsBehind, ReadsDisk}
use Rattle.cli_running.specs.Promises.HeldRun.{HeldRunEnds, RunsBehind}
use Rattle.cli_running.specs.Running.{key_in_lines, lines_in}
use Rattle.cli_upgrading.specs.Promises.HeldUpgrade.{HeldUpgradeEnds, UpgradesBehind}
use Rattle.cli_upgrading.specs.Upgrading.{HandsInAlone}
use Rattle.commit_journal.specs.Holding.{GoesOn}
use Rattle.cry_io.specs.declared.disk.Disk as disk
use Rattle.head_tree.specs.declared.head.Head.{Head}
use Rattle.journal_bytes.specs.Journals.{ShowsJournal}
use Rattle.public_fold.specs.Journal.{Journal}
use Rattle.stop_laws.specs.Held.{HeldCallOver, HeldOver, HeldRunOver, HeldUpgradeCallOver, HeldUpgradeOver}
use Rattle.stop_laws.specs.Others.{IsByOther, IsUpgradeByOther}
use Rattle.stop_laws.specs.Runs.{CallOver, IsLeft, LeavesStore, RunOver, Runs, UpgradeOver}
use Rattle.stop_laws.specs.Runs.CallOver.{ByOther, ByOwner, ByUpgrade}
use Rattle.stop_laws.specs.Runs.Runs.{Ran, StopsIn}
use Rattle.stop_laws.proofs.CallLemmas.{owner_run, owner_upgrade, read_leaves, run_leaves_store, untouched_leaves, upgrade_leaves_store}

-- ---- calls, one behind the other

module _ {D : Type 0} (disks : disk.Ghosts D) where
  abbrev Same : D → List ℕ → List ℕ → Type 0
  Same before s c = (disks.shown before ≡ Some s) × (disks.may_leave before c ⊎ (disks.shown before ≡ Some c))

  -- two that leave the store as it is
  pub leave_both : (a b e : D) → LeavesStore disks a b → LeavesStore disks b e → LeavesStore disks a e
  leave_both a b e one two =
      let first = one.later in
      let second = two.later in
      let left : (c : List ℕ) → disks.may_leave b c ⊎ (disks.shown b ≡ Some c) → disks.may_leave a c ⊎ (disks.shown a ≡ Some c) = λ c is.
      ⊎_elim (λ leaves. one.leaves c leaves) (λ shows. inr (sym one.shows ∙ shows)) is in
      record {
        later = omega (arith, first, second);
        time = goes_on_then (disks.moment a) (disks.moment b) (disks.since a) (disks.since b) (disks.since e) one.later one.time two.time;
        shows = two.shows ∙ one.shows;
        leaves = λ c is. left c (two.leaves c is);
        same = in_both (disks.moment a) (disks.moment b) (disks.since b) (disks.since e) (Same a) one.later two.time one.same
            (λ s c at. let now = two.same s c at in (sym one.shows ∙ now.0, left c now.1));
      }

  -- a call that is one of the list's between the two readings, and takes its time
  module _ (key : List ℕ) (Does : D → D → Type 0) (as_call : (a b : D) → Does a b → CallOver disks key a b)
      (takes_time : (a b : D) → Does a b → disks.moment a ≤ disks.moment b) (start before after next : D) (runs : Runs disks key start before) where
    abbrev Called : Type 0
    Called = LeavesStore disks before after ⊎ HeldOver disks Does before after

    does_on : Called → Runs disks key start after
    does_on call =
        ⊎_elim
        (λ leaves. Ran runs (ByOther leaves))
        (λ held. Ran (Ran (Ran runs (ByOther held.test)) (as_call held.tested held.ran held.run)) (ByOther held.last))
        call

    -- with a stop at a moment of it
    does_stop : Called → (s c : List ℕ) → disks.since after (disks.moment before) s c → IsLeft disks c next → Runs disks key start next
    does_stop call =
        ⊎_elim
        (λ leaves s c at left. StopsIn runs (ByOther leaves) at left)
        (λ held.
        let middle = as_call held.tested held.ran held.run in
        let tested = Ran runs (ByOther held.test) in
        let ran = Ran tested middle in
        let one = held.test.later in
        let two = takes_time held.tested held.ran held.run in
        let Stops : List ℕ → List ℕ → Type 0 = λ s c. IsLeft disks c next → Runs disks key start next in
        in_both (disks.moment before) (disks.moment held.ran) (disks.since held.ran) (disks.since after) Stops (omega (arith, one, two)) held.last.time
        (in_both (disks.moment before) (disks.moment held.tested) (disks.since held.tested) (disks.since held.ran) Stops one held.time
        (λ s c at left. StopsIn runs (ByOther held.test) at left) (λ s c at left. StopsIn tested middle at left))
        (λ s c at left. StopsIn ran (ByOther held.last) at left))
        call

  module _ (key : List ℕ) (start before after next : D) (runs : Runs disks key start before) where
    pub runs_on : HeldCallOver disks key before after → Runs disks key start after
    runs_on call = does_on key (RunOver disks key) (λ a b run. ByOwner run) (λ a b run. run.later) start before after next runs call

    pub stops_on : HeldCallOver disks key before after → (s c : List ℕ) → disks.since after (disks.moment before) s c → IsLeft disks c next
        → Runs disks key start next
    stops_on call = does_stop key (RunOver disks key) (λ a b run. ByOwner run) (λ a b run. run.later) start before after next runs call

    pub upgrades_on : HeldUpgradeCallOver disks key before after → Runs disks key start after
    upgrades_on call = does_on key (UpgradeOver disks key) (λ a b up. ByUpgrade up) (λ a b up. up.later) start before after next runs call

    pub upgrade_stops_on : HeldUpgradeCallOver disks key before after → (s c : List ℕ) → disks.since after (disks.moment before) s c → IsLeft disks c next
        → Runs disks key start next
    upgrade_stops_on call = does_stop key (UpgradeOver disks key) (λ a b up. ByUpgrade up) (λ a b up. up.later) start before after next runs call

-- ---- such a call between two worlds

module _ {S R D W : Type 0} (see : Senses S R D W)
    (counted : (d : D) (t : ℕ) (s c : List ℕ) → t ≤ see.disks.moment d → see.disks.shown d ≡ Some s → see.disks.may_leave d c → see.disks.since d t s c)
    (present : (d : D) (s c : List ℕ) → see.disks.since d (see.disks.moment d) s c → (see.disks.shown d ≡ Some s) × see.disks.may_leave d c)
    (may_be_left : (d : D) (s : List ℕ) → see.disks.shown d ≡ Some s → see.disks.may_leave d s) (head : Head) (status : Status) (before after : World S R D W) where
  abbrev Leaves : D → D → Type 0
  Leaves a b = LeavesStore see.disks a b

  pub untouched : (a b : D) → b ≡ a → Leaves a b
  untouched a b is = untouched_leaves see.disks counted present may_be_left a b is

  pub only_read : (a b : D) → ReadsDisk see a b → Leaves a b
  only_read a b read = read_leaves see.disks counted present may_be_left a b read.read_only read.moments

  -- what follows the call proper only reads
  behind_leaves : (ended : Status) (ran : World S R D W) → EndsBehind see ended status ran after → Leaves ran.disk after.disk
  behind_leaves ended ran behind =
      ⊎_elim
      (λ early. untouched ran.disk after.disk (ap (λ world. world.disk) early.2))
      (λ done. only_read ran.disk after.disk done.2)
      behind

  held_over : (Does : D → D → Type 0) (tested : D) (ended : Status) (ran : World S R D W) → ReadsDisk see before.disk tested → Does tested ran.disk
      → GoesOn (see.disks.moment tested) (see.disks.since tested) (see.disks.since ran.disk) → EndsBehind see ended status ran after
      → HeldOver see.disks Does before.disk after.disk
  held_over Does tested ended ran reads does time behind = record {
    tested = tested;
    ran = ran.disk;
    test = only_read before.disk tested reads;
    run = does;
    time = time;
    last = behind_leaves ended ran behind;
  }

  pub held_run : (owner typed : List ℕ) → see.inputs.left before.input ≡ Some typed → key_in_lines (lines_in typed) ≡ Some owner
      → RunsBehind head see status before after → HeldRunOver see.disks owner before.disk after.disk
  held_run owner typed told hands run =
      let held : World S R D W = record before { disk = run.tested } in
      held_over (RunOver see.disks owner) run.tested run.ended run.ran run.reads
      (owner_run see counted present may_be_left run.ended held run.ran owner typed told hands run.runs) run.runs.time run.behind

  pub held_call : (owner typed : List ℕ) → see.inputs.left before.input ≡ Some typed → key_in_lines (lines_in typed) ≡ Some owner
      → HeldRunEnds head see status before after → HeldCallOver see.disks owner before.disk after.disk
  held_call owner typed told hands run =
      elim run.ends [
        | inl first ↦ inl (untouched before.disk after.disk (ap (λ world. world.disk) first.rest_kept))
        | inr (inl failed) ↦ inl (only_read before.disk after.disk failed.reads)
        | inr (inr behind) ↦ inr (held_run owner typed told hands behind)
      ]

  pub held_upgrade : (owner typed : List ℕ) → see.inputs.left before.input ≡ Some typed → HandsInAlone typed owner
      → UpgradesBehind head see status before after → HeldUpgradeOver see.disks owner before.disk after.disk
  held_upgrade owner typed told hands up =
      let held : World S R D W = record before { disk = up.tested } in
      held_over (UpgradeOver see.disks owner) up.tested up.ended up.ran up.reads
      (owner_upgrade see counted present may_be_left up.ended held up.ran owner typed told hands up.upgrades) up.upgrades.time up.behind

  pub held_upgrade_call : (owner typed : List ℕ) → see.inputs.left before.input ≡ Some typed → HandsInAlone typed owner
      → HeldUpgradeEnds head see status before after → HeldUpgradeCallOver see.disks owner before.disk after.disk
  held_upgrade_call owner typed told hands up =
      elim up.ends [
        | inl input ↦ inl (untouched before.disk after.disk (ap (λ world. world.disk) input.rest_kept))
        | inr (inl failed) ↦ inl (only_read before.disk after.disk failed.reads)
        | inr (inr behind) ↦ inr (held_upgrade owner typed told hands behind)
      ]

  -- one whose input hands in no key, or one of another
  module _ (owner : List ℕ) (m : Journal) (typed : List ℕ) (told : see.inputs.left before.input ≡ Some typed)
      (shows : ShowsJournal owner m (see.disks.shown before.disk))
      (stays_told : is_some (see.disks.shown after.disk) ≡ is_some (see.disks.shown before.disk)) where
    others_call : (tested : D) (ended : Status) (ran : World S R D W) → ReadsDisk see before.disk tested → EndsBehind see ended status ran after
        → (ShowsJournal owner m (see.disks.shown tested) → is_some (see.disks.shown ran.disk) ≡ is_some (see.disks.shown tested) → Leaves tested ran.disk)
        → Leaves before.disk after.disk
    others_call tested ended ran reads behind middle =
        let test = only_read before.disk tested reads in
        let last = behind_leaves ended ran behind in
        leave_both see.disks before.disk tested after.disk test
        (leave_both see.disks tested ran.disk after.disk
        (middle (shows.0, test.shows ∙ shows.1, shows.2) (ap is_some (sym last.shows) ∙ (stays_told ∙ ap is_some (sym test.shows)))) last)

    pub held_run_leaves_store : IsByOther owner typed → HeldRunEnds head see status before after → Leaves before.disk after.disk
    held_run_leaves_store other run =
        elim run.ends [
          | inl first ↦ untouched before.disk after.disk (ap (λ world. world.disk) first.rest_kept)
          | inr (inl failed) ↦ only_read before.disk after.disk failed.reads
          | inr (inr behind) ↦
              others_call behind.tested behind.ended behind.ran behind.reads behind.behind
              (λ shown still. run_leaves_store see counted present may_be_left behind.ended (record before { disk = behind.tested }) behind.ran owner m typed told
              shown other behind.runs still)
        ]

    pub held_upgrade_leaves_store : IsUpgradeByOther owner typed → HeldUpgradeEnds head see status before after → Leaves before.disk after.disk
    held_upgrade_leaves_store other up =
        elim up.ends [
          | inl input ↦ untouched before.disk after.disk (ap (λ world. world.disk) input.rest_kept)
          | inr (inl failed) ↦ only_read before.disk after.disk failed.reads
          | inr (inr behind) ↦
              others_call behind.tested behind.ended behind.ran behind.reads behind.behind
              (λ shown still. upgrade_leaves_store see counted present may_be_left behind.ended (record before { disk = behind.tested }) behind.ran owner m typed told
              shown other behind.upgrades still)
        ]
