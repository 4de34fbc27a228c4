-- What a journal is made of behind calls and stops: the commands and upgrades that these accepted, in their order, and nothing else. This
-- project's own, docs/MODEL.md.
--
-- A run over a disk that shows a journal m adds an entry to m for each command that it accepts, with `Session` before the first one, and
-- adds no other; so does a call of `serve`. An upgrade that is accepted adds `Session` and its own entry. A stop may leave a front of what
-- it made: then the next call goes on from that front.
use Rattle.std.specs.Prelude.{◌≡◌, ◌⊎◌, ℕ, Bool, true, false, List, ◌++◌, length, None}
use Rattle.commit_journal.specs.Holding.{IsPrefix}
use Rattle.cry_base.specs.Requests.{Request}
use Rattle.cry_io.specs.declared.disk.Disk as disk
use Rattle.cli_base.specs.Lines.{InputLine}
use Rattle.cli_running.specs.Running.{lines_behind, lines_in}
use Rattle.cli_sessions.specs.Sessions.{Stood, version_limits}
use Rattle.cli_sessions.specs.Script.{Asks}
use Rattle.journal_bytes.specs.Journals.{ShowsJournal, StandsForJournal}
use Rattle.journal_bytes.specs.Script.{opened, script_going}
use Rattle.journal_bytes.specs.Upgrading.{upgrade_answer, upgrade_draws, upgraded_then}
use Rattle.public_fold.specs.Journal.{Journal, keys_of}
use Rattle.store_owner.specs.Drawing.{AreKeys, joined}
use Rattle.stop_laws.specs.Runs.{HoldsAll, Runs}
use Rattle.stop_laws.specs.Runs.CallOver.{ByOther, ByOwner, ByServe, ByUpgrade}
use Rattle.stop_laws.specs.Runs.Runs.{Begun, Ran, StopsBehind, StopsIn}
use Rattle.stop_laws.specs.Turns.{IsServedOf}

-- The journal is what the first of these lines made of m, or a front of it: a session over m was asked their commands, one after another,
-- and drew these keys, 32 bytes each, for those that it accepted. Each line's commands are those that it stood for where it came, the last
-- one's maybe the first of these alone.
pub record IsMadeOf (m : Journal) (lines : List InputLine) (j : Journal) : Type 0 where
  pub asked : List Request
  pub rest : List InputLine
  pub asks : Asks asked lines rest
  pub drawn : List (List ℕ)
  pub drawn_sizes : AreKeys drawn
  pub stood : Stood true version_limits m drawn asks
  pub now : Journal
  pub begun : Bool
  pub goes : (draws : List ℕ) → script_going version_limits (opened m (joined drawn ++ draws)) asked
      ≡ record { journal = now; begun = begun; draws = draws }
  pub front : IsPrefix j now

-- The journal is what an upgrade made of m, or a front of it: m is of version 1, and the upgrade was accepted and drew these keys, 32 bytes
-- each.
pub record IsUpgradeOf (m j : Journal) : Type 0 where
  pub first : (keys_of m).version ≡ 1
  pub is_accepted : upgrade_answer version_limits m false ≡ None
  pub drawn : List (List ℕ)
  pub drawn_count : length drawn ≡ upgrade_draws m
  pub drawn_sizes : AreKeys drawn
  pub front : IsPrefix j (upgraded_then m false drawn)

-- The journal comes of a first one by these runs: it is a front of the first one; or some run, call of `serve` or upgrade, over a disk that
-- showed a journal which comes of the calls before it, made it of that journal.
abbrev pub ComesOf : {D : Type 0} (disks : disk.Ghosts D) (key : List ℕ) (first : Journal) (start now : D) → Runs disks key start now
    → Journal → Type 0
ComesOf disks key first start now Begun j = IsPrefix j first
ComesOf disks key first start now (Ran {before = before} {after = after} runs (ByOwner run)) j =
    ComesOf disks key first start before runs j
    ⊎ ((m : Journal) × ComesOf disks key first start before runs m × ShowsJournal key m (disks.shown before)
    × IsMadeOf m (lines_behind (lines_in run.typed)) j)
ComesOf disks key first start now (Ran {before = before} {after = after} runs (ByServe call)) j =
    ComesOf disks key first start before runs j
    ⊎ ((m : Journal) × ComesOf disks key first start before runs m × ShowsJournal key m (disks.shown before)
    × IsServedOf m call.turns j)
ComesOf disks key first start now (Ran {before = before} {after = after} runs (ByUpgrade call)) j =
    ComesOf disks key first start before runs j
    ⊎ ((m : Journal) × ComesOf disks key first start before runs m × ShowsJournal key m (disks.shown before) × IsUpgradeOf m j)
ComesOf disks key first start now (Ran {before = before} {after = after} runs (ByOther call)) j =
    ComesOf disks key first start before runs j
ComesOf disks key first start now (StopsBehind {before = before} runs left is) j =
    ComesOf disks key first start before runs j
ComesOf disks key first start now (StopsIn {before = before} runs (ByOther call) left is) j =
    ComesOf disks key first start before runs j
ComesOf disks key first start now (StopsIn {before = before} runs (ByOwner run) left is) j =
    ComesOf disks key first start before runs j
    ⊎ ((m : Journal) × ComesOf disks key first start before runs m × ShowsJournal key m (disks.shown before)
    × IsMadeOf m (lines_behind (lines_in run.typed)) j)
ComesOf disks key first start now (StopsIn {before = before} runs (ByServe call) left is) j =
    ComesOf disks key first start before runs j
    ⊎ ((m : Journal) × ComesOf disks key first start before runs m × ShowsJournal key m (disks.shown before)
    × IsServedOf m call.turns j)
ComesOf disks key first start now (StopsIn {before = before} runs (ByUpgrade call) left is) j =
    ComesOf disks key first start before runs j
    ⊎ ((m : Journal) × ComesOf disks key first start before runs m × ShowsJournal key m (disks.shown before) × IsUpgradeOf m j)

-- What is said of bytes that are left behind the runs: they stand for a journal that begins with the lower one, has each command that any
-- of the runs acknowledged, and each upgrade that was, and comes of the higher one by the calls.
pub record IsOfRuns {D : Type 0} (disks : disk.Ghosts D) (key : List ℕ) (low high : Journal) (start now : D)
    (runs : Runs disks key start now) (bytes : List ℕ) : Type 0 where
  pub journal : Journal
  pub stands_for : StandsForJournal key journal bytes
  pub begins : IsPrefix low journal
  pub acknowledged : HoldsAll disks key start now runs journal
  pub comes : ComesOf disks key high start now runs journal
