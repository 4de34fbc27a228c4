-- What `gen` leaves and prints. This project's own, docs/PROGRAM.md, "Generated scripts" and "The program".
use Rattle.std.specs.Prelude.{◌≡◌, ◌≤◌, ◌⊎◌, ℕ, ◌+◌, List, [], ◌++◌, length, map, Option, None, Result, Ok, Err, is_some}
use Rattle.batch_log.specs.Moments.{FromThenOn}
use Rattle.commit_journal.specs.Holding.{GoesOn}
use Rattle.cry_base.specs.Requests.{Request}
use Rattle.cry_io.specs.Told.{WhereBothTold, WhereTold}
use Rattle.cry_io.specs.declared.disk.Disk as disk
use Rattle.journal_bytes.specs.Script.{opened}
use Rattle.key_links.specs.Fresh.{fresh_draw_len, piece}
use Rattle.public_fold.specs.Journal.{Journal}
use Rattle.script_text.specs.Printing.{owner_line}
use Rattle.store_gen.specs.Rule.{requests, script_of}
use Rattle.store_gen.specs.Spelling.{spelled}
use Rattle.store_owner.specs.Making.{HandsFresh, made_with, root_keys}
use Rattle.store_owner.specs.Owned.{OwnerView}
use Rattle.store_owner.specs.Sessions.{StandsAt}
use Rattle.store_owner.specs.Tallied.{counted_in, tally_of}
use Rattle.store_owner.specs.declared.tally.Tally.{Tally}
use Rattle.cli_making.specs.Figures.{spell_figures}
use Rattle.cli_base.specs.Lines.{InputLine}
use Rattle.cli_base.specs.Lines.InputLine.{Whole}
use Rattle.cli_sessions.specs.Sessions.{DrawsNext, LeavesAt, RanDry, Seen, SessionOver, seen_from, version_limits, HasApplied}
use Rattle.cli_sessions.specs.Sessions.{StopsApplying}
use Rattle.cli_making.specs.Making.{IsShort, StandsMade}
use Rattle.cli_base.specs.Outside.{PrintsAll, PrintsFront}
use Rattle.cli_sessions.specs.Published.{LinesPublish}
use Rattle.cli_sessions.specs.Stopping.{LinesKeepUpTo}
use Rattle.cli_base.specs.declared.status.Status.{Status}
use Rattle.cli_base.specs.declared.status.Status.TheVariants as statuses

-- this is a script that may be asked for
abbrev pub IsScript : List ℕ → Type 0
IsScript text = (seed : ℕ) × (count : ℕ) × (count ≤ 50000) × (text ≡ script_of seed count)

-- its lines
abbrev pub script_lines : ℕ → ℕ → List InputLine
script_lines seed count = map Whole (map spelled (requests seed count))

-- what is told of the random bytes and of the disk: the replies are printed nowhere
abbrev pub unheard : Option (List ℕ) → Option (List ℕ) → Option (List ℕ) → Seen
unheard left_before left_after shown = seen_from left_before left_after None shown None None

-- the owner of a fresh store applied a script: to its end, or to where it stopped
abbrev pub Applies : Result (Unit {0}) Status → ℕ → ℕ → List ℕ → Journal → OwnerView → Seen → (List ℕ → Type 0)
    → (Journal → Type 0) → Type 0
Applies (Ok _) seed count key m o seen may_leave KeepsTo =
    HasApplied version_limits key m (requests seed count) o seen may_leave KeepsTo
Applies (Err status) seed count key m o seen may_leave KeepsTo =
    StopsApplying status version_limits key m (script_lines seed count) seen may_leave KeepsTo

-- a text was printed, or a front of it; without memory nothing
abbrev pub Tells : Status → List ℕ → Option (List ℕ) → Option (List ℕ) → Type 0
Tells statuses.Done text before after = WhereBothTold before after (PrintsAll text)
Tells statuses.WriteFault text before after = WhereBothTold before after (PrintsFront text)
Tells statuses.OutOfMemory text before after = Unit {0}
Tells _ text before after = ⊥

-- an owner and a disk that stand where a session over m begins, of which all is counted
pub record Begins (key : List ℕ) (m : Journal) (o : OwnerView) (shown : Option (List ℕ)) : Type 0 where
  pub stands : StandsAt version_limits key (opened m []) o shown
  pub counted : o.tally ≡ counted_in m

-- The disk is settled at the journal of a session over m that was asked all of a script, and the owner's line and that journal's figures
-- were printed as `Prints` says.
pub record HasFilled (Prints : List ℕ → List ℕ → List ℕ → Type 0) (key : List ℕ) (m : Journal) (asked : List Request) (seen : Seen)
    (may_leave : List ℕ → Type 0) (KeepsTo : Journal → Type 0) (written_before written_after : Option (List ℕ)) : Type 0 where
  pub session : SessionOver version_limits m asked
  pub draws : DrawsNext session.drawn seen
  pub leaves : LeavesAt key m session.now seen may_leave
  pub kept : KeepsTo session.now
  pub printed : WhereBothTold written_before written_after (Prints (owner_line key ++ spell_figures (tally_of session.now)))

-- how a script ends over a fresh store: all of it was applied, and then told; or it stopped, and nothing was printed
abbrev pub Fills : Status → ℕ → ℕ → List ℕ → Journal → Seen → (List ℕ → Type 0) → (Journal → Type 0) → Option (List ℕ) → Option (List ℕ)
    → Type 0
Fills statuses.Done seed count key m seen may_leave KeepsTo before after =
    HasFilled PrintsAll key m (requests seed count) seen may_leave KeepsTo before after
Fills statuses.WriteFault seed count key m seen may_leave KeepsTo before after =
    HasFilled PrintsFront key m (requests seed count) seen may_leave KeepsTo before after
Fills status seed count key m seen may_leave KeepsTo before after =
    StopsApplying status version_limits key m (script_lines seed count) seen may_leave KeepsTo

-- The owner's line and some five figures were printed, or a front of them. So it is whether or not the disk tells; which figures, says
-- `Fills`.
abbrev pub Announces : Status → List ℕ → Option (List ℕ) → Option (List ℕ) → Type 0
Announces statuses.Done key before after =
    (figures : Tally) × WhereBothTold before after (PrintsAll (owner_line key ++ spell_figures figures))
Announces statuses.WriteFault key before after =
    (figures : Tally) × WhereBothTold before after (PrintsFront (owner_line key ++ spell_figures figures))
Announces _ key before after = Unit {0}

-- The next 192 bytes of the random source were drawn, and at the moment of `start` the store stood that `make` makes of them. From that
-- moment on the lines of the script were applied, as one session over its journal, with the random bytes behind these. Up to then the disk
-- was handed the writes of that store, and from then on those of the session's batches, and nothing else. No stop since then takes back
-- what was published when it comes, or at an earlier one of these moments. All that is said of the store speaks of the same drawn bytes.
pub record Generates {D : Type 0} (disks : disk.Ghosts D) (status : Status) (seed count : ℕ) (left_before left_after : Option (List ℕ))
    (disk_old disk_new : D) (written_before written_after : Option (List ℕ)) : Type 0 where
  pub behind : Option (List ℕ)
  pub behind_told : is_some behind ≡ is_some left_before
  pub start : D
  pub hands : HandsFresh (Unit {0}) left_before behind (disks.shown disk_old) (disks.shown start)
      (disks.since start (disks.moment disk_old))
  pub stands : StandsMade disks hands.drawn disk_old start
  pub later : disks.moment start ≤ disks.moment disk_new
  pub time : GoesOn (disks.moment start) (disks.since start) (disks.since disk_new)
  pub fills : WhereTold (disks.shown disk_new) (λ s. Fills status seed count (piece hands.drawn 0) (made_with (root_keys hands.drawn))
      (unheard behind left_after (disks.shown disk_new)) (disks.may_leave disk_new)
      (LinesKeepUpTo (piece hands.drawn 0) (made_with (root_keys hands.drawn)) (disks.shown start) (disks.shown disk_new)
      (disks.since disk_new (disks.moment start))) written_before written_after)
  pub published : WhereTold (disks.shown disk_new) (λ s. LinesPublish (piece hands.drawn 0) (made_with (root_keys hands.drawn))
      (disks.since disk_new (disks.moment start)) (FromThenOn disks.moment disks.since start disk_new))
  pub announced : Announces status (piece hands.drawn 0) written_before written_after

-- no store was made: for want of memory, before anything was drawn; or the random source failed or ended in the draw for it, and
-- nothing was written; or the disk failed behind that draw, and was handed the first of the writes of the store and no other
abbrev pub IsUnmade : {R D : Type 0} → (R → Option (List ℕ)) → disk.Ghosts D → Status → R → R → D → D → Type 0
IsUnmade left disks statuses.OutOfMemory random_old random_new disk_old disk_new = (random_new ≡ random_old) × (disk_new ≡ disk_old)
IsUnmade left disks statuses.RandomFault random_old random_new disk_old disk_new = disk_new ≡ disk_old
IsUnmade left disks (statuses.RandomShort had need) random_old random_new disk_old disk_new =
    IsShort had need (left random_old) (left random_new) × (disk_new ≡ disk_old)
IsUnmade left disks statuses.DiskFault random_old random_new disk_old disk_new =
    WhereBothTold (left random_old) (left random_new) (λ before after. length before ≡ fresh_draw_len + length after)
    × HandsFresh ⊥ (left random_old) (left random_new) (disks.shown disk_old) (disks.shown disk_new)
    (disks.since disk_new (disks.moment disk_old))
IsUnmade left disks _ random_old random_new disk_old disk_new = ⊥

-- the random source ended in the draw that makes the store, or behind it in a command's
abbrev pub EndsDry : ℕ → ℕ → Option (List ℕ) → Option (List ℕ) → Type 0
EndsDry left need before after = IsShort left need before after
    ⊎ ((middle : Option (List ℕ))
    × WhereBothTold before middle (λ x y. (drawn : List ℕ) × (length drawn ≡ fresh_draw_len) × (x ≡ drawn ++ y))
    × RanDry left need middle after)
