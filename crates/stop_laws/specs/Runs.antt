-- Calls of the program over one store, one after another, with stops in and between them. This project's own, docs/MODEL.md.
--
-- A call is a run whose first line hands in the store's key, told by what `top` promises of it (`ran`, `published` and `later` of
-- `RunEnds`); or a call of `serve` whose first line does, told so too (`lines`, `served`, `published` and `later` of `ServeEnds`); or an
-- upgrade whose one line does (`ran`, `printed`, `published` and `later` of `UpgradeEnds`); or it leaves the store as it is, as other calls
-- of the program do: laws say so of each. A call is over a disk as the call before left it, or as a stop left it. A stop comes behind a
-- call, or at any moment in one. It leaves bytes that the disk might leave then; the disk shows these, and nothing is pending. A command or
-- an upgrade was acknowledged where its whole reply line was taken. A run that met a stop at a moment in it is told like one that met a
-- fault of the disk then: the clause of its exit says what it had acknowledged.
use Rattle.std.specs.Prelude.{◌≡◌, ◌≤◌, ◌⊎◌, ℕ, true, List, Option, Some}
use Rattle.batch_log.specs.Moments.{FromThenOn}
use Rattle.commit_journal.specs.Holding.{GoesOn, IsPrefix}
use Rattle.cry_base.specs.Requests.{Request}
use Rattle.cry_base.specs.declared.commands.Reply.{Reply}
use Rattle.cry_io.specs.Stops.{IsDurable}
use Rattle.cry_io.specs.Told.{WhereBothTold}
use Rattle.cry_io.specs.declared.disk.Disk as disk
use Rattle.cli_base.specs.Lines.{InputLine}
use Rattle.cli_base.specs.Outside.{PrintsFront}
use Rattle.cli_running.specs.Published.{PublishesTyped}
use Rattle.cli_running.specs.Running.{EndsTyped, key_in_lines, lines_behind, lines_in, lines_typed}
use Rattle.cli_serving.specs.Lines.{BeginsLines}
use Rattle.cli_serving.specs.Serves.{ServesTyped}
use Rattle.cli_sessions.specs.Published.{PublishesFor}
use Rattle.cli_sessions.specs.Sessions.{SessionOver, Stood, seen_from, version_limits}
use Rattle.cli_sessions.specs.Script.{Asks, PrintsCut}
use Rattle.cli_upgrading.specs.Upgrading.{HandsInAlone, IsAccepted, IsTooFull, PrintsReply, UpgradesTyped}
use Rattle.cli_base.specs.declared.status.Status.{Status}
use Rattle.journal_bytes.specs.Journals.{ShowsJournal}
use Rattle.public_fold.specs.Journal.{Journal}
use Rattle.script_text.specs.Printing.{spell_reply}
use Rattle.script_text.specs.Seats.{Turn}
use Rattle.stop_laws.specs.Turns.{AnsweredTurns}
use Rattle.store_owner.specs.Drawing.{AreKeys}

-- a run over a disk, from what it was before to what it was after, whose first line hands in this owner's key
pub record RunOver {D : Type 0} (disks : disk.Ghosts D) (key : List ℕ) (before after : D) : Type 0 where
  pub status : Status
  pub typed : List ℕ
  pub asked : List Request
  pub left_before : Option (List ℕ)
  pub left_after : Option (List ℕ)
  pub written_before : Option (List ℕ)
  pub written_after : Option (List ℕ)
  pub hands_in : key_in_lines (lines_in typed) ≡ Some key
  pub later : disks.moment before ≤ disks.moment after
  pub ran : EndsTyped status asked typed
      (seen_from left_before left_after (disks.shown before) (disks.shown after) written_before written_after)
      (disks.may_leave before) (disks.since after (disks.moment before)) (disks.may_leave after)
  pub published : PublishesTyped typed (disks.shown before) (disks.may_leave before) (FromThenOn disks.moment disks.since before after)

-- a call of `serve` over a disk, whose first line hands in this owner's key, and of whose other lines these were begun
pub record ServeOver {D : Type 0} (disks : disk.Ghosts D) (key : List ℕ) (before after : D) : Type 0 where
  pub status : Status
  pub typed : List ℕ
  pub turns : List Turn
  pub asked : List Request
  pub left_before : Option (List ℕ)
  pub left_after : Option (List ℕ)
  pub written_before : Option (List ℕ)
  pub written_after : Option (List ℕ)
  pub hands_in : key_in_lines (lines_in typed) ≡ Some key
  pub lines : BeginsLines status turns (lines_typed typed)
  pub later : disks.moment before ≤ disks.moment after
  pub ran : ServesTyped status turns asked typed
      (seen_from left_before left_after (disks.shown before) (disks.shown after) written_before written_after)
      (disks.may_leave before) (disks.since after (disks.moment before)) (disks.may_leave after)
  pub published : PublishesTyped typed (disks.shown before) (disks.may_leave before) (FromThenOn disks.moment disks.since before after)

-- an upgrade over a disk, whose whole input is the line of this owner's key
pub record UpgradeOver {D : Type 0} (disks : disk.Ghosts D) (key : List ℕ) (before after : D) : Type 0 where
  pub status : Status
  pub typed : List ℕ
  pub left_before : Option (List ℕ)
  pub left_after : Option (List ℕ)
  pub written_before : Option (List ℕ)
  pub written_after : Option (List ℕ)
  pub hands_in : HandsInAlone typed key
  pub later : disks.moment before ≤ disks.moment after
  pub ran : UpgradesTyped status typed
      (seen_from left_before left_after (disks.shown before) (disks.shown after) written_before written_after)
      (disks.may_leave before) (disks.since after (disks.moment before)) (disks.may_leave after)
  pub printed : (reply : Reply) × WhereBothTold written_before written_after (PrintsReply status reply)
  pub published : PublishesFor HandsInAlone typed (disks.shown before) (disks.may_leave before)
      (FromThenOn disks.moment disks.since before after)

-- a call that leaves the store as it is: behind it and at each moment of it the disk shows what it showed before, and a stop leaves what it
-- could leave before, or what is shown
pub record LeavesStore {D : Type 0} (disks : disk.Ghosts D) (before after : D) : Type 0 where
  pub later : disks.moment before ≤ disks.moment after
  pub time : GoesOn (disks.moment before) (disks.since before) (disks.since after)
  pub shows : disks.shown after ≡ disks.shown before
  pub leaves : (c : List ℕ) → disks.may_leave after c → disks.may_leave before c ⊎ (disks.shown before ≡ Some c)
  pub same : (s c : List ℕ) → disks.since after (disks.moment before) s c
      → (disks.shown before ≡ Some s) × (disks.may_leave before c ⊎ (disks.shown before ≡ Some c))

-- a call of the program over a disk
pub data CallOver {D : Type 0} (disks : disk.Ghosts D) (key : List ℕ) (before after : D) : Type 0 where
  ByOwner : RunOver disks key before after → CallOver disks key before after
  ByServe : ServeOver disks key before after → CallOver disks key before after
  ByUpgrade : UpgradeOver disks key before after → CallOver disks key before after
  ByOther : LeavesStore disks before after → CallOver disks key before after

-- behind a stop a disk shows what was left, and nothing is pending
abbrev pub IsLeft : {D : Type 0} → disk.Ghosts D → List ℕ → D → Type 0
IsLeft disks bytes d = (disks.shown d ≡ Some bytes) × IsDurable (disks.may_leave d) (disks.shown d)

-- from a first disk to one behind some calls and stops
pub data Runs {D : Type 0} (disks : disk.Ghosts D) (key : List ℕ) (start : D) : D → Type 0 where
  Begun : Runs disks key start start
  Ran : {before after : D} → Runs disks key start before → CallOver disks key before after → Runs disks key start after
  StopsBehind : {before after : D} {bytes : List ℕ} → Runs disks key start before → disks.may_leave before bytes
      → IsLeft disks bytes after → Runs disks key start after
  StopsIn : {before after next : D} {there bytes : List ℕ} → Runs disks key start before → CallOver disks key before after
      → disks.since after (disks.moment before) there bytes → IsLeft disks bytes next → Runs disks key start next

-- The lines that were asked over m, each for the commands that it stood for where it came, the last one maybe for the first of these alone,
-- and the replies to them: all that was printed is these, but for some of the last; and the journal begins with all that these lines made
-- of m.
pub record Answered (m : Journal) (lines : List InputLine) (written_before written_after : Option (List ℕ)) (j : Journal) : Type 0 where
  pub asked : List Request
  pub rest : List InputLine
  pub asks : Asks asked lines rest
  pub session : SessionOver version_limits m asked
  pub stood : Stood true version_limits m session.drawn asks
  pub prints : WhereBothTold written_before written_after (PrintsCut session.replies)
  pub holds : IsPrefix session.now j

-- a run that printed this acknowledged no command; or the journal has each that it acknowledged
abbrev pub HoldsRun : List ℕ → Option (List ℕ) → List ℕ → Option (List ℕ) → Option (List ℕ) → Journal → Type 0
HoldsRun key was typed written_before written_after j =
    (written_after ≡ written_before) ⊎ ((m : Journal) × ShowsJournal key m was
    × Answered m (lines_behind (lines_in typed)) written_before written_after j)

-- a call of `serve` that printed this acknowledged no command; or the journal has each that it acknowledged
abbrev pub HoldsTurns : List ℕ → Option (List ℕ) → List Turn → Option (List ℕ) → Option (List ℕ) → Journal → Type 0
HoldsTurns key was turns written_before written_after j =
    (written_after ≡ written_before) ⊎ ((m : Journal) × ShowsJournal key m was
    × AnsweredTurns key m turns written_before written_after j)

-- The reply to an upgrade of m: all that was printed is this, or a front of it; and the journal begins with what the upgrade made of m. It
-- was accepted and drew these keys, or the store was too full for it.
pub record AnsweredUpgrade (m : Journal) (written_before written_after : Option (List ℕ)) (j : Journal) : Type 0 where
  pub reply : Reply
  pub drawn : List (List ℕ)
  pub drawn_sizes : AreKeys drawn
  pub now : Journal
  pub answers : IsAccepted m drawn reply now ⊎ IsTooFull m drawn reply now
  pub prints : WhereBothTold written_before written_after (PrintsFront (spell_reply reply))
  pub holds : IsPrefix now j

-- an upgrade that printed nothing wasn't acknowledged; or the journal has it, where it was
abbrev pub HoldsUpgrade : List ℕ → Option (List ℕ) → Option (List ℕ) → Option (List ℕ) → Journal → Type 0
HoldsUpgrade key was written_before written_after j =
    WhereBothTold written_before written_after (λ before after. after ≡ before) ⊎ ((m : Journal) × ShowsJournal key m was
    × AnsweredUpgrade m written_before written_after j)

-- and so for all runs, calls of `serve` and upgrades of the owner's that came to their end
abbrev pub HoldsAll : {D : Type 0} (disks : disk.Ghosts D) (key : List ℕ) (start now : D) → Runs disks key start now → Journal → Type 0
HoldsAll disks key start now Begun j = Unit {0}
HoldsAll disks key start now (Ran {before = before} {after = after} runs (ByOwner run)) j =
    HoldsAll disks key start before runs j
    × HoldsRun key (disks.shown before) run.typed run.written_before run.written_after j
HoldsAll disks key start now (Ran {before = before} {after = after} runs (ByServe call)) j =
    HoldsAll disks key start before runs j
    × HoldsTurns key (disks.shown before) call.turns call.written_before call.written_after j
HoldsAll disks key start now (Ran {before = before} {after = after} runs (ByUpgrade call)) j =
    HoldsAll disks key start before runs j
    × HoldsUpgrade key (disks.shown before) call.written_before call.written_after j
HoldsAll disks key start now (Ran {before = before} {after = after} runs (ByOther call)) j =
    HoldsAll disks key start before runs j
HoldsAll disks key start now (StopsBehind {before = before} runs left is) j =
    HoldsAll disks key start before runs j
HoldsAll disks key start now (StopsIn {before = before} runs call left is) j =
    HoldsAll disks key start before runs j

-- These bytes were shown at a moment of the calls that came to their end, or behind them or a stop. What was shown in a call before a stop
-- in it is spoken of by the order of that call's moments.
abbrev pub WasShown : {D : Type 0} (disks : disk.Ghosts D) (key : List ℕ) (start now : D) → Runs disks key start now → List ℕ → Type 0
WasShown disks key start now Begun s = disks.shown start ≡ Some s
WasShown disks key start now (Ran {before = before} {after = after} runs call) s =
    WasShown disks key start before runs s ⊎ ((c : List ℕ) × disks.since after (disks.moment before) s c)
WasShown disks key start now (StopsBehind {before = before} runs left is) s =
    WasShown disks key start before runs s ⊎ (disks.shown now ≡ Some s)
WasShown disks key start now (StopsIn {before = before} runs call left is) s =
    WasShown disks key start before runs s ⊎ (disks.shown now ≡ Some s)
