-- What a session over a journal leaves and prints, and how the program ends where its lines do. This project's own, docs/PROGRAM.md,
-- "The program".
use Rattle.std.specs.Prelude.{◌≡◌, ◌<◌, ◌⊎◌, ℕ, ◌+◌, ◌*◌, Bool, true, false, List, [], ◌∷◌, ◌++◌, drop, length, Option}
use Rattle.std.specs.Prelude.{None, Result, Ok, Err}
use Rattle.cry_base.specs.Limits.{most_file_bytes, most_store_bytes}
use Rattle.cry_base.specs.Requests.{Request}
use Rattle.cry_base.specs.declared.commands.Reply.{Reply}
use Rattle.cry_base.specs.declared.limits.Limits.{Limits}
use Rattle.cry_io.specs.Stops.{IsDurable}
use Rattle.cry_io.specs.Told.{WhereTold, WhereBothTold}
use Rattle.group_book.specs.Asked.{StoodFor}
use Rattle.public_fold.specs.Journal.{Journal}
use Rattle.journal_bytes.specs.Bytes.{image_of}
use Rattle.journal_bytes.specs.Journals.{HoldsBetween, IsSettled, ShowsJournal}
use Rattle.journal_bytes.specs.Script.{answer, draws_of, journal_then, opened, script_going, script_replies}
use Rattle.store_owner.specs.Drawing.{AreKeys, joined}
use Rattle.cli_base.specs.Lines.{InputLine}
use Rattle.cli_base.specs.World.{Senses, World}
use Rattle.cli_sessions.specs.Script.{Asks, IsBadFirst, PrintsCut, spell_replies}
use Rattle.store_owner.specs.declared.apply_fault.ApplyFault.{ApplyFault}
use Rattle.store_owner.specs.declared.apply_fault.ApplyFault.TheVariants as applying
use Rattle.cli_sessions.specs.declared.script.ScriptFault.{ScriptFault}
use Rattle.cli_sessions.specs.declared.script.ScriptFault.TheVariants as script
use Rattle.cli_base.specs.declared.status.Status.{Status}
use Rattle.cli_base.specs.declared.status.Status.TheVariants as statuses
use Rattle.store_owner.specs.Owned.{OwnerView}
use Rattle.store_owner.specs.Tallied.{tally_in, tally_of}

-- from this place on the disk shows what it showed
abbrev pub KeepsFrom : ℕ → Option (List ℕ) → Option (List ℕ) → Type 0
KeepsFrom place was shown = WhereBothTold was shown (λ x y. drop place y ≡ drop place x)

-- Behind the gate that ends the log the disk shows what it showed there; and that gate too is as it was, where no command made the
-- journal longer.
pub record KeepsBehind (key : List ℕ) (m now : Journal) (was shown : Option (List ℕ)) : Type 0 where
  pub behind : KeepsFrom (length (image_of key now) + 1) was shown
  pub unchanged : now ≡ m → KeepsFrom (length (image_of key m)) was shown

-- What is told of the objects of a call, before and after: the random bytes that are left, what the disk shows, what was written.
pub record Seen : Type 0 where
  pub left_before : Option (List ℕ)
  pub left_after : Option (List ℕ)
  pub was : Option (List ℕ)
  pub shown : Option (List ℕ)
  pub written_before : Option (List ℕ)
  pub written_after : Option (List ℕ)

abbrev pub seen_from : Option (List ℕ) → Option (List ℕ) → Option (List ℕ) → Option (List ℕ) → Option (List ℕ) → Option (List ℕ) → Seen
seen_from left_before left_after was shown written_before written_after = record {
  left_before = left_before;
  left_after = left_after;
  was = was;
  shown = shown;
  written_before = written_before;
  written_after = written_after;
}

-- so between two worlds
abbrev pub seen_between : {S R D W : Type 0} → Senses S R D W → World S R D W → World S R D W → Seen
seen_between see before after = seen_from (see.randoms.left before.random) (see.randoms.left after.random) (see.disks.shown before.disk)
    (see.disks.shown after.disk) (see.outs.written before.out) (see.outs.written after.out)

-- A session over a journal that was asked this: the keys that were drawn for its accepted commands, 32 bytes each; its replies; the
-- journal where it stands now, and whether it has begun an epoch. With these keys before whatever other bytes it replies so, and goes so
-- far, and these others are left.
pub record SessionOver (limits : Limits) (m : Journal) (asked : List Request) : Type 0 where
  pub drawn : List (List ℕ)
  pub drawn_sizes : AreKeys drawn
  pub replies : List Reply
  pub now : Journal
  pub begun : Bool
  pub goes : (rest : List ℕ) → script_going limits (opened m (joined drawn ++ rest)) asked
      ≡ record { journal = now; begun = begun; draws = rest }
  pub replied : (rest : List ℕ) → script_replies limits (opened m (joined drawn ++ rest)) asked ≡ replies

-- each of these lines was asked for the commands that it stood for in a session over m where these keys were drawn, and where `cut` is true
-- the last one maybe for the first of them alone
abbrev pub Stood : {asked : List Request} {before after : List InputLine} → Bool → Limits → Journal → List (List ℕ)
    → Asks asked before after → Type 0
Stood cut limits m drawn asks = (rest : List ℕ) → StoodFor cut limits (opened m (joined drawn ++ rest)) asks.tasks asks.blocks

-- these keys were the next random bytes, where the source tells
abbrev pub DrawsNext : List (List ℕ) → Seen → Type 0
DrawsNext drawn seen = WhereBothTold seen.left_before seen.left_after (λ x y. x ≡ joined drawn ++ y)

-- The disk is settled at the journal that a session made of m: it shows the whole of it, with each batch published, and a stop leaves that
-- and nothing else.
pub record LeavesAt (key : List ℕ) (m now : Journal) (seen : Seen) (may_leave : List ℕ → Type 0) : Type 0 where
  pub settled : IsSettled key now seen.shown may_leave
  pub none_pending : IsDurable may_leave seen.shown
  pub keeps : KeepsBehind key m now seen.was seen.shown

-- all these replies were printed, each a line
abbrev pub PrintsThese : List Reply → Seen → Type 0
PrintsThese replies seen = WhereBothTold seen.written_before seen.written_after (λ b a. a ≡ b ++ spell_replies replies)

-- The first lines were asked, each for the commands that it stood for where it came, and all of them answered: what was replied is printed,
-- and the disk is where the session stands. That is the journal up to which the run kept what it found; so it is in the records behind this
-- one.
pub record HasRun (limits : Limits) (key : List ℕ) (m : Journal) (lines rest : List InputLine) (seen : Seen) (may_leave : List ℕ
    → Type 0) (KeepsTo : Journal → Type 0) : Type 0 where
  pub asked : List Request
  pub asks : Asks asked lines rest
  pub session : SessionOver limits m asked
  pub stood : Stood false limits m session.drawn asks
  pub draws : DrawsNext session.drawn seen
  pub leaves : LeavesAt key m session.now seen may_leave
  pub kept : KeepsTo session.now
  pub prints : PrintsThese session.replies seen

-- The first lines were asked and answered, the last one maybe for the first of its commands alone, and what was replied is printed but for
-- some of the last reply.
pub record RanCut (limits : Limits) (key : List ℕ) (m : Journal) (lines : List InputLine) (seen : Seen) (may_leave : List ℕ
    → Type 0) (KeepsTo : Journal → Type 0) : Type 0 where
  pub asked : List Request
  pub rest : List InputLine
  pub asks : Asks asked lines rest
  pub session : SessionOver limits m asked
  pub stood : Stood true limits m session.drawn asks
  pub draws : DrawsNext session.drawn seen
  pub leaves : LeavesAt key m session.now seen may_leave
  pub kept : KeepsTo session.now
  pub prints : WhereBothTold seen.written_before seen.written_after (PrintsCut session.replies)

-- The first lines were asked and answered, and what was replied is printed; and then one was asked that is accepted where the session
-- stands.
pub record RanTo (limits : Limits) (m : Journal) (lines : List InputLine) (seen : Seen) : Type 0 where
  pub asked : List Request
  pub next : Request
  pub rest : List InputLine
  pub asks : Asks (asked ++ next ∷ []) lines rest
  pub session : SessionOver limits m asked
  pub stood : Stood true limits m session.drawn asks
  pub is_accepted : answer limits session.now session.begun next ≡ None
  pub prints : PrintsThese session.replies seen

-- For that one random bytes were wanting: so many were left of those that it draws. The disk is where the session stood before it.
pub record RanShort (limits : Limits) (key : List ℕ) (m : Journal) (lines : List InputLine) (left need : ℕ) (seen : Seen)
    (may_leave : List ℕ → Type 0) (KeepsTo : Journal → Type 0) : Type 0 where
  pub ran : RanTo limits m lines seen
  pub is_need : need ≡ 32 * draws_of ran.session.now ran.next
  pub is_short : left < need
  pub were_left : WhereTold seen.left_before (λ x. (last : List ℕ) × (x ≡ joined ran.session.drawn ++ last) × (length last ≡ left))
  pub nothing_left : WhereTold seen.left_after (λ y. y ≡ [])
  pub leaves : LeavesAt key m ran.session.now seen may_leave
  pub kept : KeepsTo ran.session.now

-- Or the random source failed in it. The disk is where the session stood before it.
pub record RanUndrawn (limits : Limits) (key : List ℕ) (m : Journal) (lines : List InputLine) (seen : Seen) (may_leave : List ℕ
    → Type 0) (KeepsTo : Journal → Type 0) : Type 0 where
  pub ran : RanTo limits m lines seen
  pub drew : WhereTold seen.left_before (λ x. (more : List ℕ) × (x ≡ joined ran.session.drawn ++ more))
  pub leaves : LeavesAt key m ran.session.now seen may_leave
  pub kept : KeepsTo ran.session.now

-- Or it drew its keys and met a fault of the disk: what that shows, and whatever a stop may leave, stands for the journal as it was before,
-- or with the session begun, or with the command too.
pub record RanUnwritten (limits : Limits) (key : List ℕ) (m : Journal) (lines : List InputLine) (seen : Seen) (may_leave : List ℕ
    → Type 0) (KeepsTo : Journal → Type 0) : Type 0 where
  pub ran : RanTo limits m lines seen
  pub last : List (List ℕ)
  pub last_count : length last ≡ draws_of ran.session.now ran.next
  pub last_sizes : AreKeys last
  pub draws : DrawsNext (ran.session.drawn ++ last) seen
  pub holds : HoldsBetween key ran.session.now (journal_then ran.session.now ran.session.begun ran.next last) seen.shown may_leave
  pub kept : KeepsTo (journal_then ran.session.now ran.session.begun ran.next last)

-- The store wasn't opened: nothing was drawn or printed, and the disk shows the journal still.
pub record IsUnopened (key : List ℕ) (m : Journal) (seen : Seen) (KeepsTo : Journal → Type 0) : Type 0 where
  pub undrawn : seen.left_after ≡ seen.left_before
  pub shows_still : ShowsJournal key m seen.shown
  pub unprinted : seen.written_after ≡ seen.written_before
  pub kept : KeepsTo m

-- How `run` ends on a disk that shows a journal, where the input tells and these commands were asked: at Done all lines were, before a bad
-- line those before it; where the store needs an upgrade none was, as in a session that was asked nothing. What the bytes of a store answer
-- comes on no such disk.
abbrev pub Ends : Status → Limits → List ℕ → Journal → List Request → List InputLine → Seen → (List ℕ → Type 0) → (Journal → Type 0)
    → Type 0
Ends statuses.Done limits key m asked lines seen may_leave KeepsTo =
    (run : HasRun limits key m lines [] seen may_leave KeepsTo) × (run.asked ≡ asked)
Ends (statuses.BadScript line) limits key m asked lines seen may_leave KeepsTo =
    (rest : List InputLine) × IsBadFirst rest × (run : HasRun limits key m lines rest seen may_leave KeepsTo)
    × (line ≡ length run.asks.lines + 2) × (run.asked ≡ asked)
Ends statuses.NeedsUpgrade limits key m asked lines seen may_leave KeepsTo =
    (asked ≡ []) × (run : HasRun limits key m lines lines seen may_leave KeepsTo) × (run.asked ≡ [])
Ends statuses.ReadFault limits key m asked lines seen may_leave KeepsTo = (asked ≡ []) × IsUnopened key m seen KeepsTo
    ⊎ ((rest : List InputLine) × (run : HasRun limits key m lines rest seen may_leave KeepsTo) × (run.asked ≡ asked))
Ends (statuses.RandomShort left need) limits key m asked lines seen may_leave KeepsTo =
    (run : RanShort limits key m lines left need seen may_leave KeepsTo) × (run.ran.asked ≡ asked)
Ends statuses.RandomFault limits key m asked lines seen may_leave KeepsTo =
    (run : RanUndrawn limits key m lines seen may_leave KeepsTo) × (run.ran.asked ≡ asked)
Ends statuses.WriteFault limits key m asked lines seen may_leave KeepsTo =
    (run : RanCut limits key m lines seen may_leave KeepsTo) × (run.asked ≡ asked)
Ends statuses.DiskFault limits key m asked lines seen may_leave KeepsTo = (asked ≡ []) × IsUnopened key m seen KeepsTo
    ⊎ ((run : RanUnwritten limits key m lines seen may_leave KeepsTo) × (run.ran.asked ≡ asked))
Ends statuses.OutOfMemory limits key m asked lines seen may_leave KeepsTo = (asked ≡ []) × IsUnopened key m seen KeepsTo
    ⊎ ((run : RanCut limits key m lines seen may_leave KeepsTo) × (run.asked ≡ asked))
Ends _ limits key m asked lines seen may_leave KeepsTo = ⊥

-- how the program ends where its lines do
abbrev pub apply_status : ApplyFault → Status
apply_status applying.RandomFault = statuses.RandomFault
apply_status (applying.RandomShort left need) = statuses.RandomShort left need
apply_status applying.DiskFault = statuses.DiskFault
apply_status applying.Closed = statuses.DiskFault
apply_status applying.OutOfMemory = statuses.OutOfMemory

abbrev pub script_status : ScriptFault → Status
script_status (script.BadLine line) = statuses.BadScript line
script_status script.ReadFault = statuses.ReadFault
script_status script.WriteFault = statuses.WriteFault
script_status script.OutOfMemory = statuses.OutOfMemory
script_status (script.Applying fault) = apply_status fault

abbrev pub ended_status : Result (Unit {0}) ScriptFault → Status
ended_status (Ok _) = statuses.Done
ended_status (Err fault) = script_status fault

-- the sizes of the version of stores that is written
abbrev pub version_limits : Limits
version_limits = record { store_bytes = most_store_bytes; file_bytes = most_file_bytes }

-- The random source ended in a command's draw of so many keys, 32 bytes each: the commands before it drew whole keys, fewer bytes
-- than it needs were left behind these, and they are gone too.
pub record RanDry (left need : ℕ) (left_before left_after : Option (List ℕ)) : Type 0 where
  pub drawn : List (List ℕ)
  pub drawn_sizes : AreKeys drawn
  pub keys : ℕ
  pub is_need : need ≡ 32 * keys
  pub is_short : left < need
  pub were_left : WhereTold left_before (λ before. (last : List ℕ) × (before ≡ joined drawn ++ last) × (length last ≡ left))
  pub nothing_left : WhereTold left_after (λ after. after ≡ [])

-- All of this was asked of a session over m: the disk is settled at the journal where it ends, up to which the lines kept what they found,
-- and these are that journal's figures.
pub record HasApplied (limits : Limits) (key : List ℕ) (m : Journal) (asked : List Request) (o : OwnerView) (seen : Seen)
    (may_leave : List ℕ → Type 0) (KeepsTo : Journal → Type 0) : Type 0 where
  pub session : SessionOver limits m asked
  pub draws : DrawsNext session.drawn seen
  pub leaves : LeavesAt key m session.now seen may_leave
  pub kept : KeepsTo session.now
  pub same_key : o.key ≡ key
  pub figures : tally_in o ≡ tally_of session.now

-- how lines stop that aren't answered to their end, as those of `run` do
abbrev pub StopsApplying : Status → Limits → List ℕ → Journal → List InputLine → Seen → (List ℕ → Type 0) → (Journal → Type 0) → Type 0
StopsApplying (statuses.RandomShort left need) limits key m lines seen may_leave KeepsTo =
    RanShort limits key m lines left need seen may_leave KeepsTo
StopsApplying statuses.RandomFault limits key m lines seen may_leave KeepsTo = RanUndrawn limits key m lines seen may_leave KeepsTo
StopsApplying statuses.DiskFault limits key m lines seen may_leave KeepsTo = RanUnwritten limits key m lines seen may_leave KeepsTo
StopsApplying statuses.OutOfMemory limits key m lines seen may_leave KeepsTo = RanCut limits key m lines seen may_leave KeepsTo
StopsApplying _ limits key m lines seen may_leave KeepsTo = ⊥

abbrev pub IsStop : Status → Type 0
IsStop (statuses.RandomShort left need) = Unit {0}
IsStop statuses.RandomFault = Unit {0}
IsStop statuses.DiskFault = Unit {0}
IsStop statuses.OutOfMemory = Unit {0}
IsStop _ = ⊥
