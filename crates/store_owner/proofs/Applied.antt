-- What an owner who stands for a journal answers once a command was carried out, or its keys weren't drawn.
use Rattle.std.proofs.Common.{◌≡◌, ℕ, ◌*◌, ◌^◌, ◌<◌, false, List, Option, None, Result, Ok, Err, refl, sym, ap, subst, ◌∙◌}
use Rattle.std.specs.Prelude.{IfErr, IfOk, OnErr, OnOk, IsTrue, is_some}
use Rattle.std.proofs.lemmas.Bool.{false≢true}
use Rattle.cry_base.specs.Listed.{Listed}
use Rattle.cry_base.specs.Requests.{Request}
use Rattle.cry_base.specs.Requests.Request.{AddHolder, MakeFolder, WriteFile, Remove, Rename, Relocate, Grant, Revoke}
use Rattle.cry_base.specs.Store.{node_at}
use Rattle.cry_base.specs.declared.commands.Reply.{Reply}
use Rattle.cry_base.specs.declared.commands.Reply.TheVariants as replies
use Rattle.cry_io.specs.Told.{WhereBothTold}
use Rattle.cry_io.proofs.ToldLemmas.{told_again}
use Rattle.move_plan.specs.Noting.{note_of}
use Rattle.record_format.specs.Noted.{Note}
use Rattle.record_format.specs.Noted.Note.{Root, NewHolder, NewFolder, NewFile, Rewrite, NameFile, NameFolder, DropFile, DropFolder, ShiftFile, ShiftFolder, Give, Take, StrictRoot, Upgrade}
use Rattle.record_format.specs.Told.{told_note}
use Rattle.record_format.specs.declared.note.Note.{Note as Declared}
use Rattle.record_format.specs.declared.note.Note.TheVariants as declared
use Rattle.public_fold.specs.Journal.{Journal, store_of}
use Rattle.journal_bytes.specs.Script.{done_reply}
use Rattle.store_owner.specs.Deeds.{Deed, deed_answer, deed_draws, deed_note, deed_reply}
use Rattle.store_owner.specs.Acting.{note_reply}
use Rattle.store_owner.specs.Applying.{Answers, HasOtherRoom, IsCutShort, IsDone}
use Rattle.store_owner.specs.Deeds.Deed.{Commanded, Upgrading}
use Rattle.store_owner.specs.Drawing.{DrawsKeys, IsFillFault}
use Rattle.store_owner.specs.Owned.{OwnerView, limits_in}
use Rattle.store_owner.specs.Planning.{reply_for}
use Rattle.store_owner.specs.Stopping.{ComesToRest}
use Rattle.store_owner.specs.declared.apply_fault.ApplyFault.{ApplyFault}
use Rattle.store_owner.specs.declared.apply_fault.ApplyFault.TheVariants as faults
use Rattle.store_owner.proofs.NotesKeyed.{is_holder, move_no_holder, remove_no_holder, rename_no_holder, write_no_holder}

-- ---- the reply

pub reply_told : (note : Declared) (drawn : List (List ℕ)) → reply_for note drawn ≡ note_reply (told_note note) drawn
unfolding told_note
reply_told declared.Root drawn = refl
reply_told (declared.NewHolder h check) drawn = refl
reply_told (declared.NewFolder f p) drawn = refl
reply_told (declared.NewFile x f) drawn = refl
reply_told (declared.Rewrite x) drawn = refl
reply_told (declared.NameFile x) drawn = refl
reply_told (declared.NameFolder f) drawn = refl
reply_told (declared.DropFile x) drawn = refl
reply_told (declared.DropFolder f) drawn = refl
reply_told (declared.ShiftFile x g) drawn = refl
reply_told (declared.ShiftFolder g q) drawn = refl
reply_told (declared.Give h f) drawn = refl
reply_told (declared.Take h f) drawn = refl
reply_told declared.StrictRoot drawn = refl
reply_told declared.Upgrade drawn = refl

no_reply : (note : Note) (drawn : List (List ℕ)) → is_holder note ≡ false → note_reply note drawn ≡ replies.Done
no_reply Root drawn f = refl
no_reply (NewHolder h check) drawn f = absurd (false≢true (sym f))
no_reply (NewFolder e p) drawn f = refl
no_reply (NewFile x e) drawn f = refl
no_reply (Rewrite x) drawn f = refl
no_reply (NameFile x) drawn f = refl
no_reply (NameFolder e) drawn f = refl
no_reply (DropFile x) drawn f = refl
no_reply (DropFolder e) drawn f = refl
no_reply (ShiftFile x g) drawn f = refl
no_reply (ShiftFolder g q) drawn f = refl
no_reply (Give h e) drawn f = refl
no_reply (Take h e) drawn f = refl
no_reply StrictRoot drawn f = refl
no_reply Upgrade drawn f = refl

reply_asked : (m : Journal) (r : Request) (check : List ℕ) (drawn : List (List ℕ)) → note_reply (note_of (store_of m) r check) drawn ≡ done_reply m r drawn
unfolding note_of done_reply store_of
reply_asked m AddHolder check drawn = refl
reply_asked m (MakeFolder path) check drawn = refl
reply_asked m (WriteFile path bytes) check drawn = no_reply _ drawn (write_no_holder (store_of m) (node_at (store_of m) path) _)
reply_asked m (Remove path) check drawn = no_reply _ drawn (remove_no_holder (node_at (store_of m) path))
reply_asked m (Rename path name) check drawn = no_reply _ drawn (rename_no_holder (node_at (store_of m) path))
reply_asked m (Relocate path into) check drawn = no_reply _ drawn (move_no_holder (node_at (store_of m) path) _)
reply_asked m (Grant h path) check drawn = refl
reply_asked m (Revoke h path) check drawn = refl

deed_replied : (m : Journal) (d : Deed) (check : List ℕ) (drawn : List (List ℕ)) → note_reply (deed_note (store_of m) d check) drawn ≡ deed_reply m d drawn
deed_replied m (Commanded r) check drawn = reply_asked m r check drawn
deed_replied m Upgrading check drawn = refl

pub reply_due : (m : Journal) (d : Deed) (note : Declared) (check : List ℕ) (drawn : List (List ℕ)) → told_note note ≡ deed_note (store_of m) d check → reply_for note drawn ≡ deed_reply m d drawn
reply_due m d note check drawn told = reply_told note drawn ∙ ap (λ n. note_reply n drawn) told ∙ deed_replied m d check drawn

-- ---- the answer

done_answer : (note : Declared) (drawn : List (List ℕ)) (m : Journal) (r : Deed) (old new : OwnerView) (left_before left_after was shows : Option (List ℕ))
    (might may : List ℕ → Type 0) (since : List ℕ → List ℕ → Type 0)
    → IsDone m r (reply_for note drawn) old new left_before left_after was shows might may since
    → Answers (Ok (reply_for note drawn)) m r old new left_before left_after was shows might may since
done_answer declared.Root drawn m r old new left_before left_after was shows might may since d = d
done_answer (declared.NewHolder h check) drawn m r old new left_before left_after was shows might may since d = d
done_answer (declared.NewFolder f p) drawn m r old new left_before left_after was shows might may since d = d
done_answer (declared.NewFile x f) drawn m r old new left_before left_after was shows might may since d = d
done_answer (declared.Rewrite x) drawn m r old new left_before left_after was shows might may since d = d
done_answer (declared.NameFile x) drawn m r old new left_before left_after was shows might may since d = d
done_answer (declared.NameFolder f) drawn m r old new left_before left_after was shows might may since d = d
done_answer (declared.DropFile x) drawn m r old new left_before left_after was shows might may since d = d
done_answer (declared.DropFolder f) drawn m r old new left_before left_after was shows might may since d = d
done_answer (declared.ShiftFile x g) drawn m r old new left_before left_after was shows might may since d = d
done_answer (declared.ShiftFolder g q) drawn m r old new left_before left_after was shows might may since d = d
done_answer (declared.Give h f) drawn m r old new left_before left_after was shows might may since d = d
done_answer (declared.Take h f) drawn m r old new left_before left_after was shows might may since d = d
done_answer declared.StrictRoot drawn m r old new left_before left_after was shows might may since d = d
done_answer declared.Upgrade drawn m r old new left_before left_after was shows might may since d = d

pub all_ok : (result : Result Reply ApplyFault) (A B C : Type 0) → OnOk result A → OnOk result B → OnOk result C → OnOk result (A × B × C)
all_ok (Ok reply) A B C a b c = (a, b, c)
all_ok (Err fault) A B C a b c = tt

pub carried_answer : (result : Result Reply ApplyFault) (note : Declared) (drawn : List (List ℕ)) (m : Journal) (r : Deed) (old new : OwnerView) (left_before left_after was shows : Option (List ℕ))
    (might may : List ℕ → Type 0) (since : List ℕ → List ℕ → Type 0) (C : Type 0)
    → deed_answer (limits_in old) m old.journal.has_epoch r ≡ None → IfErr result (λ fault. fault ≡ faults.DiskFault) → OnErr result (IsTrue new.journal.is_closed)
    → OnErr result (IsCutShort m r old left_before left_after was shows might may since) → IfOk result (λ reply. reply ≡ reply_for note drawn) → OnOk result C
    → (C → IsDone m r (reply_for note drawn) old new left_before left_after was shows might may since) → Answers result m r old new left_before left_after was shows might may since
carried_answer (Ok reply) note drawn m r old new left_before left_after was shows might may since C accepted fault closed left is carried done =
    subst (λ (x : Reply). Answers (Ok x) m r old new left_before left_after was shows might may since) (sym is)
    (done_answer note drawn m r old new left_before left_after was shows might may since (done carried))
carried_answer (Err why) note drawn m r old new left_before left_after was shows might may since C accepted fault closed left is carried done =
    subst (λ (x : ApplyFault). Answers (Err x) m r old new left_before left_after was shows might may since) (sym fault) (accepted, closed, left)

pub undrawn_answer : (fault : ApplyFault) (keys : ℕ) (m : Journal) (r : Deed) (old new : OwnerView) (left_before left_after was shows : Option (List ℕ))
    (might may : List ℕ → Type 0) (since : List ℕ → List ℕ → Type 0)
    → deed_answer (limits_in old) m old.journal.has_epoch r ≡ None → HasOtherRoom old new → keys ≡ deed_draws m r → 32 * deed_draws m r < 2 ^ 32 → IsFillFault {T = Listed (List ℕ)} keys (Err fault)
    → WhereBothTold left_before left_after (DrawsKeys keys (Err fault)) → is_some left_after ≡ is_some left_before → ComesToRest old.key m m was shows might may since
    → Answers (Err fault) m r old new left_before left_after was shows might may since
undrawn_answer faults.RandomFault keys m r old new left_before left_after was shows might may since accepted room count few fault bytes tells rests = (accepted, room, rests)
undrawn_answer (faults.RandomShort left need) keys m r old new left_before left_after was shows might may since accepted room count few fault bytes tells rests =
    let small : 32 * keys < 2 ^ 32 = subst (λ n. 32 * n < 2 ^ 32) (sym count) few in
    let f = fault small in (
      accepted,
      room,
      f.0 ∙ ap (λ n. 32 * n) count,
      f.1,
      λ x is. let y = told_again left_before left_after x tells is in (bytes x y.0 is y.1).0 small,
      λ y is. let x = told_again left_after left_before y (sym tells) is in (bytes x.0 y x.1 is).1,
      rests,
    )
undrawn_answer faults.DiskFault keys m r old new left_before left_after was shows might may since accepted room count few fault bytes tells rests = absurd fault
undrawn_answer faults.Closed keys m r old new left_before left_after was shows might may since accepted room count few fault bytes tells rests = absurd fault
undrawn_answer faults.OutOfMemory keys m r old new left_before left_after was shows might may since accepted room count few fault bytes tells rests = absurd fault
