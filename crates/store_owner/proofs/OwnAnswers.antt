-- What an owner answers by what it keeps alone, and what was done of it.
use Rattle.std.proofs.Common.{◌≡◌, ℕ, ◌+◌, ◌*◌, ◌≤◌, ◌<◌, Bool, true, false, not, ◌||◌, nat_lt, List, ◌++◌, length, replicate, Option, Some, None, Result, Ok, Err, refl, sym, ap, subst, ◌∙◌}
use Rattle.std.specs.Prelude.{IfErr, IfOk, OnErr, OnOk}
use Rattle.std.proofs.lemmas.Bool.{le-ltb, lt-ltb}
use Rattle.std.proofs.lemmas.List.{length-map}
use Rattle.commit_journal.specs.Journals.{end_with}
use Rattle.cry_base.specs.Listed.{Listed}
use Rattle.cry_base.specs.declared.commands.Refusal.{Refusal}
use Rattle.cry_base.specs.declared.ids.HolderId.{HolderId}
use Rattle.cry_base.specs.declared.commands.Refusal.TheVariants.{Full}
use Rattle.cry_base.specs.declared.commands.Reply.{Reply}
use Rattle.cry_base.specs.declared.commands.Reply.TheVariants as replies
use Rattle.cry_io.specs.Told.{WhereBothTold}
use Rattle.folder_nodes.specs.Titles.{tree_store}
use Rattle.record_format.specs.Noted.{Note}
use Rattle.record_format.specs.Told.{told_note}
use Rattle.record_format.specs.declared.note.Note.{Note as Declared}
use Rattle.record_format.specs.declared.note.Note.TheVariants as declared
use Rattle.public_fold.specs.Fitted.{told_step}
use Rattle.public_fold.specs.Heads.{IsSkeleton, content_head}
use Rattle.public_fold.specs.Journal.{Stand, first_key}
use Rattle.public_fold.specs.KeyStep.{is_strict}
use Rattle.public_fold.specs.Lengths.{note_len}
use Rattle.public_fold.specs.StandFits.{note_fits}
use Rattle.public_fold.specs.Standing.{IsSeenAs}
use Rattle.journal_bytes.specs.Owning.{IsStoreOf}
use Rattle.journal_bytes.specs.Script.{answer_with}
use Rattle.journal_bytes.specs.Sealing.{skeleton_size}
use Rattle.store_owner.specs.Acting.{Acts, HasAnswer, WasDone, is_full_for, note_reply, own_answer, own_note, own_payload, own_stand, own_step}
use Rattle.store_owner.specs.Applying.{IsCarriedOut, IsInterrupted}
use Rattle.store_owner.specs.Deeds.{Deed, deed_key, deed_refusal, deed_text}
use Rattle.store_owner.specs.Drawing.{AreKeys, IsFillFault, joined}
use Rattle.store_owner.specs.Owned.{OwnerView}
use Rattle.store_owner.specs.Planning.{IsDrafted, IsUnfit, planned_size, reply_for}
use Rattle.store_owner.specs.Sound.{IsSound, granted_in, own_store}
use Rattle.store_owner.specs.Taking.{FallsShort, keys_planned}
use Rattle.store_owner.specs.declared.apply_fault.ApplyFault.{ApplyFault}
use Rattle.store_owner.specs.declared.apply_fault.ApplyFault.TheVariants as faults
use Rattle.store_owner.specs.declared.change.Change.{Change}
use Rattle.store_owner.proofs.Applied.{reply_told}

-- ---- the answer

or_true : (b : Bool) → (b || true) ≡ true
or_true true = refl
or_true false = refl

module _ (o : OwnerView) (d : Deed) (sound : IsSound o) where
  -- the store itself refuses it
  pub store_refuses : (why : Refusal) → deed_refusal (is_strict o.state.keys) (own_store o) d o.file_bytes ≡ Some why → HasAnswer (Some why) d o
  unfolding own_answer answer_with
  store_refuses why is = record {
    at = sound.at;
    seen = sound.seen;
    is_answer = λ other seen. ap (λ w. answer_with w (is_full_for o other d)) is;
  }

  module _ (accepted : deed_refusal (is_strict o.state.keys) (own_store o) d o.file_bytes ≡ None) where
    by_room : (full : Bool) → ((at : Stand) → IsSeenAs o.state at → is_full_for o at d ≡ full) → HasAnswer (answer_with None full) d o
    unfolding own_answer
    by_room full is = record {
      at = sound.at;
      seen = sound.seen;
      is_answer = λ other seen. ap (λ w. answer_with w (is_full_for o other d)) accepted ∙ ap (answer_with None) (is other seen);
    }

    -- its note doesn't fit
    pub unfit_is_full : IsStoreOf o.state.tree o.names (granted_in o) (own_store o) → IsUnfit d o → HasAnswer (Some Full) d o
    unfolding is_full_for answer_with
    unfit_is_full store unfit =
        by_room true (λ at seen. ap (λ fits. not fits || nat_lt o.journal.limit (end_with o.journal (own_payload o at d))) (unfit at (own_store o) seen store))

    -- or it was drafted
    module _ (p : Change) (drafted : IsDrafted d o p) (store : IsStoreOf o.state.tree o.names (granted_in o) (own_store o)) where
      told : told_note p.note ≡ own_note o d
      told = drafted.told (own_store o) store

      size_planned : (at : Stand) → IsSeenAs o.state at → planned_size d p ≡ own_payload o at d
      unfolding own_payload first_key
      size_planned at seen =
          let is : IsSkeleton (own_step o at d) p.ready.skeleton =
          subst (λ (n : Note). IsSkeleton (told_step (own_stand o at) n) p.ready.skeleton) told (drafted.is_skeleton at seen) in
          let text : p.text.items ++ deed_key d (replicate 32 0) ≡ deed_text (tree_store o.state.tree o.names) d ++ deed_key d (replicate 32 0) =
          ap (λ (t : List ℕ). t ++ deed_key d (replicate 32 0)) drafted.text_is in
          ap (λ (n : Note). skeleton_size n p.ready.skeleton (length (p.text.items ++ deed_key d (replicate 32 0)))) told
          ∙ ap (λ (t : List ℕ). skeleton_size (own_note o d) p.ready.skeleton (length t)) text
          ∙ ap (λ n. note_len (own_note o d) + 8 + 98 * n + (58 + length (deed_text (tree_store o.state.tree o.names) d ++ deed_key d (replicate 32 0))) * length p.ready.skeleton.contents.items) (ap length is.links)
          ∙ ap (λ n. note_len (own_note o d) + 8 + 98 * length (own_step o at d).links + (58 + length (deed_text (tree_store o.state.tree o.names) d ++ deed_key d (replicate 32 0))) * n)
          (ap length is.contents ∙ length-map (own_step o at d).contents content_head)

      pub past_is_full : o.journal.limit < end_with o.journal (planned_size d p) → HasAnswer (Some Full) d o
      unfolding is_full_for answer_with
      past_is_full past =
          by_room true
          (λ at seen.
          let far = lt-ltb o.journal.limit (end_with o.journal (own_payload o at d)) (subst (λ n. o.journal.limit < end_with o.journal n) (size_planned at seen) past) in
          ap (λ b. not (note_fits (own_stand o at) (own_note o d) (own_step o at d)) || b) far ∙ or_true (not (note_fits (own_stand o at) (own_note o d) (own_step o at d))))

      pub within_is_accepted : end_with o.journal (planned_size d p) ≤ o.journal.limit → HasAnswer None d o
      unfolding is_full_for answer_with
      within_is_accepted within =
          by_room false
          (λ at seen.
          let near = le-ltb o.journal.limit (end_with o.journal (own_payload o at d)) (subst (λ n. end_with o.journal n ≤ o.journal.limit) (size_planned at seen) within) in
          let fits = subst (λ (n : Note). note_fits (own_stand o at) n (told_step (own_stand o at) n) ≡ true) told (drafted.fits at seen) in
          ap (λ b. not (note_fits (own_stand o at) (own_note o d) (own_step o at d)) || b) near ∙ ap (λ b. not b || false) fits)

-- ---- what was done

reply_cases : (P : Reply → Type 0) → P replies.Done → ((holder : HolderId) (key : List ℕ) → P (replies.Made holder key)) → (note : Declared) (drawn : List (List ℕ)) → P (reply_for note drawn)
reply_cases P done made declared.Root drawn = done
reply_cases P done made (declared.NewHolder h check) drawn = made h (first_key drawn)
reply_cases P done made (declared.NewFolder f p) drawn = done
reply_cases P done made (declared.NewFile x f) drawn = done
reply_cases P done made (declared.Rewrite x) drawn = done
reply_cases P done made (declared.NameFile x) drawn = done
reply_cases P done made (declared.NameFolder f) drawn = done
reply_cases P done made (declared.DropFile x) drawn = done
reply_cases P done made (declared.DropFolder f) drawn = done
reply_cases P done made (declared.ShiftFile x g) drawn = done
reply_cases P done made (declared.ShiftFolder g q) drawn = done
reply_cases P done made (declared.Give h f) drawn = done
reply_cases P done made (declared.Take h f) drawn = done
reply_cases P done made declared.StrictRoot drawn = done
reply_cases P done made declared.Upgrade drawn = done

module _ (d : Deed) (old new : OwnerView) (before after was shows : Option (List ℕ)) where
  pub carried_acts : (result : Result Reply ApplyFault) (note : Declared) (drawn : List (List ℕ)) (carried : Type 0) → HasAnswer None d old → told_note note ≡ own_note old d
      → ((other : Stand) → IsSeenAs old.state other → length drawn ≡ keys_planned old other d) → AreKeys drawn → WhereBothTold before after (λ x y. x ≡ joined drawn ++ y) → IfErr result (λ fault. fault ≡ faults.DiskFault) → OnErr result (IsInterrupted d drawn old was shows)
      → IfOk result (λ reply. reply ≡ reply_for note drawn) → OnOk result carried → (carried → IsCarriedOut d drawn old new was shows) → Acts result d old new before after was shows
  carried_acts (Ok reply) note drawn carried accepted noted counted sizes next fault left is done so =
      let as_noted : reply_for note drawn ≡ note_reply (own_note old d) drawn = reply_told note drawn ∙ ap (λ (n : Note). note_reply n drawn) noted in
      subst (λ (r : Reply). Acts (Ok r) d old new before after was shows) (sym is)
      (reply_cases (λ r. WasDone d r old new before after was shows → Acts (Ok r) d old new before after was shows) (λ w. w) (λ holder key w. w) note drawn
      (record { accepted = accepted; drawn = drawn; next_bytes = next; reply_is = as_noted; carried_out = so done }))
  carried_acts (Err why) note drawn carried accepted noted counted sizes next fault left is done so =
      subst (λ (f : ApplyFault). Acts (Err f) d old new before after was shows) (sym fault)
      (record { accepted = accepted; drawn = drawn; drawn_count = counted; drawn_sizes = sizes; next_bytes = next; interrupted = left })

  pub undrawn_acts : (fault : ApplyFault) (keys : ℕ) → HasAnswer None d old → IsFillFault {T = Listed (List ℕ)} keys (Err fault)
      → ((left need : ℕ) → fault ≡ faults.RandomShort left need → FallsShort old d left need before after) → Acts (Err fault) d old new before after was shows
  undrawn_acts faults.RandomFault keys accepted filled short = accepted
  undrawn_acts (faults.RandomShort left need) keys accepted filled short = (accepted, short left need refl)
  undrawn_acts faults.DiskFault keys accepted filled short = absurd filled
  undrawn_acts faults.Closed keys accepted filled short = absurd filled
  undrawn_acts faults.OutOfMemory keys accepted filled short = absurd filled
