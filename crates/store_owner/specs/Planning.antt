-- What a command seals and changes, planned with all its memory before its keys are drawn. This project's own, docs/FORMAT.md,
-- "The key step".
use Rattle.std.specs.Prelude.{◌≡◌, ◌≤◌, ◌<◌, ◌+◌, ◌*◌, ◌^◌, ℕ, true, false, not, cond, Option, List, [], ◌++◌, length, replicate, Some}
use Rattle.std.specs.Prelude.{None, Result, Ok, Err}
use Rattle.chacha_seal.specs.Sealing.{check_of}
use Rattle.chacha_seal.specs.Serials.{Counting}
use Rattle.commit_journal.specs.Journals.{JournalState, Joins, end_with, next_epoch}
use Rattle.cry_base.specs.Layout.{batch_len}
use Rattle.cry_base.specs.Requests.Request.{AddHolder}
use Rattle.cry_base.specs.Store.{Store}
use Rattle.cry_base.specs.declared.commands.Refusal.{Refusal}
use Rattle.cry_base.specs.declared.commands.Refusal.TheVariants.{Full}
use Rattle.cry_base.specs.declared.commands.Reply.{Reply}
use Rattle.cry_base.specs.declared.commands.Reply.TheVariants as replies
use Rattle.folder_nodes.specs.Titles.{tree_store}
use Rattle.record_format.specs.Told.{told_note}
use Rattle.record_format.specs.declared.note.Note.{Note}
use Rattle.record_format.specs.declared.note.Note.TheVariants as notes
use Rattle.public_fold.specs.Fitted.{told_stand, told_step}
use Rattle.public_fold.specs.Heads.{IsSkeleton}
use Rattle.public_fold.specs.Journal.{Journal, Stand, first_key}
use Rattle.public_fold.specs.Preparing.{CanSettle, HasRoomFor, begun, settled, with_check}
use Rattle.public_fold.specs.StandFits.{note_fits}
use Rattle.public_fold.specs.Standing.{IsSeenAs, PublicView}
use Rattle.journal_bytes.specs.Owning.{IsStoreOf}
use Rattle.journal_bytes.specs.Sealing.{IsSpaceFor, Space, skeleton_size}
use Rattle.store_owner.specs.Acting.{HasAnswer}
use Rattle.store_owner.specs.Deeds.{Deed, deed_answer, deed_draws, deed_key, deed_note, deed_text, IsDeedChange}
use Rattle.store_owner.specs.Deeds.Deed.{Commanded}
use Rattle.store_owner.specs.Owned.{IsOwnerOf, OwnerView, limits_in}
use Rattle.store_owner.specs.Sound.{granted_in}
use Rattle.store_owner.specs.declared.change.Change.{Change}
use Rattle.store_owner.specs.declared.owner.Verdict.{Verdict}
use Rattle.store_owner.specs.declared.owner.Verdict.TheVariants as verdicts

-- the key that a note takes: that of a new holder
abbrev pub holder_key : Note → List (List ℕ) → List ℕ
holder_key (notes.NewHolder holder check) drawn = first_key drawn
holder_key note drawn = []

-- what the command of a note is answered once it is done
abbrev pub reply_for : Note → List (List ℕ) → Reply
reply_for (notes.NewHolder holder check) drawn = replies.Made holder (first_key drawn)
reply_for note drawn = replies.Done

-- the change with the new holder's key, where its note makes a holder
pub record IsKeyed (drawn : List (List ℕ)) (old new : Change) : Type 0 where
  pub note : new.note ≡ with_check old.note (check_of (first_key drawn))
  pub skeleton : new.ready.skeleton ≡ old.ready.skeleton
  pub can : (v : PublicView) → CanSettle v old.ready → CanSettle v new.ready
  pub seen : (v : PublicView) (at : Stand) → IsSeenAs (settled v old.ready) at → IsSeenAs (settled v new.ready) at
  pub text : new.text.items ≡ old.text.items ++ holder_key old.note drawn
  pub titles : new.titles ≡ old.titles

-- the bytes of its payload
abbrev pub planned_size : Deed → Change → ℕ
planned_size d p = skeleton_size (told_note p.note) p.ready.skeleton (length (p.text.items ++ deed_key d (replicate 32 0)))

-- The change of a command, in whatever store and stand the owner keeps: its note, with no check yet; the skeleton and the state
-- of its step; its text but for a key; its names
pub record IsDrafted (d : Deed) (o : OwnerView) (p : Change) : Type 0 where
  pub told : (s : Store) → IsStoreOf o.state.tree o.names (granted_in o) s → told_note p.note ≡ deed_note s d (replicate 32 0)
  pub same_note : p.ready.note ≡ p.note
  pub is_skeleton : (at : Stand) → IsSeenAs o.state at
      → IsSkeleton (told_step (begun (not o.journal.has_epoch) at) (told_note p.note)) p.ready.skeleton
  pub can_settle : CanSettle o.state p.ready
  pub seen_then : (at : Stand) → IsSeenAs o.state at
      → IsSeenAs (settled o.state p.ready) (told_stand (begun (not o.journal.has_epoch) at) (told_note p.note))
  pub fits : (at : Stand) → IsSeenAs o.state at
      → note_fits (begun (not o.journal.has_epoch) at) (told_note p.note)
      (told_step (begun (not o.journal.has_epoch) at) (told_note p.note)) ≡ true
  pub text_is : p.text.items ≡ deed_text (tree_store o.state.tree o.names) d
  pub text_room : d ≡ Commanded AddHolder → 32 ≤ p.text.spare
  pub titles_are : IsDeedChange (tree_store o.state.tree o.names) d o.names p.titles

-- there is room for the change, and its batches end within the store limit
pub record IsFurnished (d : Deed) (o : OwnerView) (p : Change) (space : Space) : Type 0 where
  pub records_room : IsSpaceFor space p.ready.skeleton
  pub state_room : HasRoomFor o.state p.ready
  pub ring_room : length p.ready.skeleton.keys.items ≤ o.ring.spare
  pub names_room : 1 ≤ o.names.spare
  pub journal_room : planned_size d p ≤ o.journal.room
  pub ends_within : end_with o.journal (planned_size d p) ≤ o.journal.limit

-- in every store and stand that an owner keeps the note of the command does not fit
abbrev pub IsUnfit : Deed → OwnerView → Type 0
IsUnfit d o = (at : Stand) (s : Store) → IsSeenAs o.state at → IsStoreOf o.state.tree o.names (granted_in o) s
    → note_fits (begun (not o.journal.has_epoch) at) (deed_note s d (replicate 32 0))
    (told_step (begun (not o.journal.has_epoch) at) (deed_note s d (replicate 32 0))) ≡ false

-- the answer of an owner to a command, for every journal that it stands for
abbrev pub IsAnswered : Deed → OwnerView → Option Refusal → Type 0
IsAnswered d o why = (m : Journal) → IsOwnerOf m o → deed_answer (limits_in o) m o.journal.has_epoch d ≡ why

-- A command is planned, and accepted, also by each owner of a journal, who draws that many keys; or the store is too full for it
abbrev pub AnswersPlan : {E : Type 0} → Result Verdict E → Deed → OwnerView → OwnerView → Type 0
AnswersPlan (Ok (verdicts.Planned change room)) d old new =
    IsDrafted d new change × IsFurnished d new change room × IsAnswered d old None × HasAnswer None d old
    × ((m : Journal) → IsOwnerOf m old → (length change.ready.skeleton.keys.items ≡ deed_draws m d) × (32 * deed_draws m d < 2 ^ 32))
AnswersPlan (Ok verdicts.Full) d old new = (new ≡ old) × IsAnswered d old (Some Full) × HasAnswer (Some Full) d old
AnswersPlan (Err _) d old new = Unit {0}

-- The session has its epoch, begun now where the journal had none, and the counter of that epoch
pub record HasBegun (old new : JournalState) (counter : Option Counting) (starts : Counting) (was shows : Option (List ℕ)) : Type 0 where
  pub begins : cond old.has_epoch ((new ≡ old) × (shows ≡ was)) (Joins (next_epoch old) old new was shows × (new.owner ≡ old.owner))
  pub starts_as : cond old.has_epoch (counter ≡ Some starts) (starts ≡ record { epoch = new.epoch; count = 0 })
  pub has_begun : new.has_epoch ≡ true
  pub open_still : new.is_closed ≡ old.is_closed
  pub room : new.room ≡ old.room
  pub owner : new.owner ≡ old.owner
  pub limit : new.limit ≡ old.limit
  pub end : new.end ≡ old.end + cond old.has_epoch 0 batch_len
  pub batches : new.batches ≡ old.batches + cond old.has_epoch 0 1
  pub epoch : new.epoch ≡ old.epoch + cond old.has_epoch 0 1
