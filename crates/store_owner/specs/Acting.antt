-- What is answered of a command or an upgrade, and what is done of it, on whatever bytes its owner was opened. This project's own,
-- docs/FORMAT.md, "The key step".
--
-- The owner's memory decides alone: the store that it keeps, the public state, and where its log ends. Whatever stand that state is seen
-- as, the answer is the same.
use Rattle.std.specs.Prelude.{◌≡◌, ℕ, ◌+◌, ◌*◌, Bool, not, ◌||◌, nat_lt, List, [], ◌∷◌, ◌++◌, length, replicate, Option, Some, None}
use Rattle.std.specs.Prelude.{Result, Ok, Err, IsTrue}
use Rattle.commit_journal.specs.Journals.{end_with}
use Rattle.cry_base.specs.declared.commands.Refusal.{Refusal}
use Rattle.cry_base.specs.declared.commands.Reply.{Reply}
use Rattle.cry_base.specs.declared.commands.Reply.TheVariants as replies
use Rattle.cry_io.specs.Told.{WhereBothTold}
use Rattle.record_format.specs.Noted.{Note}
use Rattle.record_format.specs.Noted.Note.{NewHolder}
use Rattle.public_fold.specs.Fitted.{told_step}
use Rattle.public_fold.specs.Journal.{Stand, first_key}
use Rattle.public_fold.specs.KeyStep.{Stepped, is_strict}
use Rattle.public_fold.specs.Lengths.{note_len}
use Rattle.public_fold.specs.Preparing.{begun}
use Rattle.public_fold.specs.StandFits.{note_fits}
use Rattle.public_fold.specs.Standing.{IsSeenAs}
use Rattle.journal_bytes.specs.Script.{answer_with}
use Rattle.store_owner.specs.Applying.{IsCarriedOut, IsInterrupted, sealed_text}
use Rattle.store_owner.specs.Deeds.{Deed, deed_note, deed_refusal}
use Rattle.store_owner.specs.Drawing.{AreKeys, joined}
use Rattle.store_owner.specs.Owned.{OwnerView}
use Rattle.store_owner.specs.Sound.{own_store}
use Rattle.store_owner.specs.Taking.{FallsShort, keys_planned}
use Rattle.store_owner.specs.declared.apply_fault.ApplyFault.{ApplyFault}
use Rattle.store_owner.specs.declared.apply_fault.ApplyFault.TheVariants as faults

-- ---- by what its owner keeps, seen as this stand

-- its note, with no check yet; and its step, in the session's epoch
abbrev pub own_note : OwnerView → Deed → Note
own_note o d = deed_note (own_store o) d (replicate 32 0)

abbrev pub own_stand : OwnerView → Stand → Stand
own_stand o at = begun (not o.journal.has_epoch) at

abbrev pub own_step : OwnerView → Stand → Deed → Stepped
own_step o at d = told_step (own_stand o at) (own_note o d)

-- the bytes of its payload
unfoldable pub own_payload : OwnerView → Stand → Deed → ℕ
own_payload o at d =
    note_len (own_note o d) + 8 + 98 * length (own_step o at d).links
    + (58 + length (sealed_text o d (replicate 32 0 ∷ []))) * length (own_step o at d).contents

-- the store is too full for it: its note doesn't fit, or its batch would go past the store limit, with an epoch's before it where the
-- session has begun none
unfoldable pub is_full_for : OwnerView → Stand → Deed → Bool
is_full_for o at d =
    not (note_fits (own_stand o at) (own_note o d) (own_step o at d)) || nat_lt o.journal.limit (end_with o.journal (own_payload o at d))

-- why it is refused, if it is
unfoldable pub own_answer : OwnerView → Stand → Deed → Option Refusal
own_answer o at d = answer_with (deed_refusal (is_strict o.state.keys) (own_store o) d o.file_bytes) (is_full_for o at d)

-- the reply to a command with this note once it is done
abbrev pub note_reply : Note → List (List ℕ) → Reply
note_reply (NewHolder holder check) drawn = replies.Made (record { 0 = holder }) (first_key drawn)
note_reply note drawn = replies.Done

-- ---- whatever stand that is

pub record HasAnswer (why : Option Refusal) (d : Deed) (o : OwnerView) : Type 0 where
  pub at : Stand
  pub seen : IsSeenAs o.state at
  pub is_answer : (other : Stand) → IsSeenAs o.state other → own_answer o other d ≡ why

-- It was accepted, and done: its keys were the next random bytes, the reply has them in their places, and with them it was carried out.
pub record WasDone (d : Deed) (reply : Reply) (old new : OwnerView) (left_before left_after was shows : Option (List ℕ)) : Type 0 where
  pub accepted : HasAnswer None d old
  pub drawn : List (List ℕ)
  pub next_bytes : WhereBothTold left_before left_after (λ before after. before ≡ joined drawn ++ after)
  pub reply_is : reply ≡ note_reply (own_note old d) drawn
  pub carried_out : IsCarriedOut d drawn old new was shows

-- It was accepted, and drew the keys of its plan, and then the disk failed.
pub record WasInterrupted (d : Deed) (old : OwnerView) (left_before left_after was shows : Option (List ℕ)) : Type 0 where
  pub accepted : HasAnswer None d old
  pub drawn : List (List ℕ)
  pub drawn_count : (other : Stand) → IsSeenAs old.state other → length drawn ≡ keys_planned old other d
  pub drawn_sizes : AreKeys drawn
  pub next_bytes : WhereBothTold left_before left_after (λ before after. before ≡ joined drawn ++ after)
  pub interrupted : IsInterrupted d drawn old was shows

-- What is done at each answer. Where memory is wanting, nothing is said of what the answer would have been.
abbrev pub Acts : Result Reply ApplyFault → Deed → OwnerView → OwnerView → Option (List ℕ) → Option (List ℕ) → Option (List ℕ)
    → Option (List ℕ) → Type 0
Acts (Ok (replies.Refused why)) d old new left_before left_after was shows = HasAnswer (Some why) d old × (new ≡ old)
Acts (Ok reply) d old new left_before left_after was shows = WasDone d reply old new left_before left_after was shows
Acts (Err (faults.RandomShort left need)) d old new left_before left_after was shows =
    HasAnswer None d old × FallsShort old d left need left_before left_after
Acts (Err faults.RandomFault) d old new left_before left_after was shows = HasAnswer None d old
Acts (Err faults.DiskFault) d old new left_before left_after was shows = WasInterrupted d old left_before left_after was shows
Acts (Err faults.Closed) d old new left_before left_after was shows = IsTrue old.journal.is_closed
Acts (Err faults.OutOfMemory) d old new left_before left_after was shows = Unit {0}
