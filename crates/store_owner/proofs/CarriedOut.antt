-- What the calls that carry out a planned command leave.
use Rattle.std.proofs.Common.{◌≡◌, ℕ, ◌+◌, ◌≤◌, Bool, true, false, not, cond, List, ◌++◌, length, replicate, Option, Some, arith, refl, sym, ap, subst, ◌∙◌, length-append}
use Rattle.std.specs.Prelude.{is_some}
use Rattle.chacha_seal.specs.Keys.{KeyParts}
use Rattle.chacha_seal.specs.Sealing.{check_of}
use Rattle.chacha_seal.specs.Serials.{Counting}
use Rattle.commit_journal.specs.Journals.{IsBehind, JournalState, Joins, next_command}
use Rattle.cry_base.specs.Layout.{batch_len}
use Rattle.cry_base.specs.Store.{Store}
use Rattle.folder_nodes.specs.Titles.{tree_store}
use Rattle.record_format.specs.Noted.{Note}
use Rattle.record_format.specs.Plain.{PlainPayload}
use Rattle.record_format.specs.Spelling.{spell_payload}
use Rattle.record_format.specs.Told.{told_note}
use Rattle.public_fold.specs.Fitted.{told_stand, told_step}
use Rattle.public_fold.specs.Heads.{IsSkeleton}
use Rattle.public_fold.specs.Journal.{Stand, first_key, note_step}
use Rattle.public_fold.specs.Preparing.{begun, settled}
use Rattle.public_fold.specs.StandFits.{note_fits}
use Rattle.public_fold.specs.Standing.{IsSeenAs, with_room_of}
use Rattle.public_fold.specs.declared.heads.Skeleton.{Skeleton}
use Rattle.journal_bytes.specs.Bytes.{step_payload}
use Rattle.journal_bytes.specs.Owning.{IsStoreOf, IsTreeOf}
use Rattle.journal_bytes.specs.Sealing.{HoldsKeys, IsSealable, IsTold, keys_with, skeleton_size}
use Rattle.store_owner.specs.Deeds.{AreDeedTitles, Deed, deed_key, deed_note, deed_text}
use Rattle.store_owner.specs.Applying.{IsCarriedOut, IsSealed, sealed_text}
use Rattle.store_owner.specs.Drawing.{AreKeys}
use Rattle.store_owner.specs.Owned.{OwnerView}
use Rattle.store_owner.specs.Planning.{HasBegun, IsDrafted, IsKeyed, holder_key, planned_size}
use Rattle.store_owner.specs.Sound.{granted_in, own_store}
use Rattle.store_owner.specs.declared.change.Change.{Change}
use Rattle.store_owner.proofs.NotesKeyed.{holder_key_due, key_long, keyed_note, keyed_size}

-- ---- numbers once the session has its epoch

-- the counter, by the journal's epoch before
pub starts_for : (has : Bool) (kept : Option Counting) (starts : Counting) (now old : ℕ) → now ≡ old + cond has 0 1 → cond has (kept ≡ Some starts) (starts ≡ record { epoch = now; count = 0 })
    → cond has (kept ≡ Some starts) (starts ≡ record { epoch = old + 1; count = 0 })
starts_for true kept starts now old at h = h
starts_for false kept starts now old at h = h ∙ ap (λ (e : ℕ). record { epoch = e; count = 0 }) at

pub batches_for : (has : Bool) (new between old : ℕ) → new ≡ between + 1 → between ≡ old + cond has 0 1 → new ≡ old + cond has 1 2
batches_for true new between old a b = omega arith
batches_for false new between old a b = omega arith

pub ends_for : (has : Bool) (end between limit now size due : ℕ) → between ≡ end + cond has 0 batch_len → now ≡ limit → due ≡ size → end + (batch_len + size) + cond has 0 batch_len ≤ limit → between + (batch_len + due) ≤ now
ends_for true end between limit now size due a b c d = omega arith
ends_for false end between limit now size due a b c d = omega arith

-- ---- the change with its key

module _ (r : Deed) (drawn : List (List ℕ)) (old : OwnerView) (before after : Change) (at : Stand)
    (drafted : IsDrafted r old before) (keyed : IsKeyed drawn before after) (long : length drawn ≡ length before.ready.skeleton.keys.items) (sizes : AreKeys drawn)
    (own : IsStoreOf old.state.tree old.names (granted_in old) (own_store old)) (seen : IsSeenAs old.state at) where
  told : told_note before.note ≡ deed_note (own_store old) r (replicate 32 0)
  told = drafted.told (own_store old) own

  pub skeleton_for : (x : Stand) (s : Store) → IsSeenAs old.state x → IsStoreOf old.state.tree old.names (granted_in old) s
      → IsSkeleton (told_step (begun (not old.journal.has_epoch) x) (deed_note s r (replicate 32 0))) before.ready.skeleton
  skeleton_for x s saw is = subst (λ (n : Note). IsSkeleton (told_step (begun (not old.journal.has_epoch) x) n) before.ready.skeleton) (drafted.told s is) (drafted.is_skeleton x saw)

  pub fits_for : (x : Stand) → IsSeenAs old.state x
      → note_fits (begun (not old.journal.has_epoch) x) (deed_note (own_store old) r (replicate 32 0)) (told_step (begun (not old.journal.has_epoch) x) (deed_note (own_store old) r (replicate 32 0))) ≡ true
  fits_for x saw = subst (λ (n : Note). note_fits (begun (not old.journal.has_epoch) x) n (told_step (begun (not old.journal.has_epoch) x) n) ≡ true) told (drafted.fits x saw)

  pub text_for : after.text.items ≡ sealed_text old r drawn
  text_for =
      keyed.text
      ∙ ap (λ z. z ++ holder_key before.note drawn) drafted.text_is
      ∙ ap (λ z. deed_text (tree_store old.state.tree old.names) r ++ z) (holder_key_due before.note (own_store old) r (replicate 32 0) drawn told)

  text_long : length after.text.items ≡ length (before.text.items ++ deed_key r (replicate 32 0))
  text_long =
      ap length (keyed.text ∙ ap (λ z. before.text.items ++ z) (holder_key_due before.note (own_store old) r (replicate 32 0) drawn told))
      ∙ length-append before.text.items (deed_key r (first_key drawn))
      ∙ ap (λ n. length before.text.items + n)
      (key_long (begun (not old.journal.has_epoch) at) before.note before.ready.skeleton (own_store old) r (replicate 32 0) drawn (drafted.is_skeleton at seen) long sizes told)
      ∙ sym (length-append before.text.items (deed_key r (replicate 32 0)))

  pub size_for : (sealed : Skeleton) → sealed ≡ after.ready.skeleton → skeleton_size (told_note after.note) sealed (length after.text.items) ≡ planned_size r before
  size_for sealed is =
      ap (λ s. skeleton_size (told_note after.note) s (length after.text.items)) (is ∙ keyed.skeleton)
      ∙ keyed_size before.note after.note (check_of (first_key drawn)) before.ready.skeleton (length after.text.items) (length (before.text.items ++ deed_key r (replicate 32 0))) keyed.note text_long

  unfoldable pub sealed_for : (was showed : Option (List ℕ)) (between : JournalState) (starts : Counting) (sealed : Skeleton) (payload : PlainPayload)
      → HasBegun old.journal between old.counter starts was showed → is_some showed ≡ is_some was → sealed ≡ after.ready.skeleton
      → ((keys : List KeyParts) (x : Stand) (other : Note) (later : Store) → HoldsKeys keys x.keys old.ring starts → IsTold (note_step x other later) sealed after.text.items
      → payload ≡ step_payload (keys_with keys (note_step x other later) drawn) after.note (note_step x other later))
      → IsSealed r drawn old was
  sealed_for was showed between starts sealed payload has tells sealed_is seals = record {
    note = after.note;
    skeleton = before.ready.skeleton;
    payload = payload;
    ready = old.journal;
    between = between;
    showed = showed;
    starts = starts;
    drawn_count = long;
    drawn_sizes = sizes;
    told = λ s is. keyed_note before.note after.note s r (replicate 32 0) (check_of (first_key drawn)) keyed.note (drafted.told s is);
    is_skeleton = skeleton_for;
    has_room = refl;
    begins = has.begins;
    stays_told = tells;
    starts_as = has.starts_as;
    payload_is = λ keys x other later held is.
        seals keys x other later held
        (subst (λ (t : List ℕ). IsTold (note_step x other later) sealed t) (sym text_for)
        (subst (λ (s : Skeleton). IsTold (note_step x other later) s (sealed_text old r drawn)) (sym (sealed_is ∙ keyed.skeleton)) is));
  }

  pub carried : (new : OwnerView) (was showed shows : Option (List ℕ)) (between : JournalState) (starts ends : Counting) (sealed : Skeleton) (payload : PlainPayload)
      → HasBegun old.journal between old.counter starts was showed → is_some showed ≡ is_some was → new.key ≡ old.key → new.file_bytes ≡ old.file_bytes → new.state ≡ with_room_of (settled old.state after.ready) new.state → sealed ≡ after.ready.skeleton
      → ((keys : List KeyParts) (x : Stand) (other : Note) (later : Store) → HoldsKeys keys x.keys old.ring starts → IsTold (note_step x other later) sealed after.text.items
      → payload ≡ step_payload (keys_with keys (note_step x other later) drawn) after.note (note_step x other later))
      → ((keys : List KeyParts) (x : Stand) (other : Note) (later : Store) → HoldsKeys keys x.keys old.ring starts → IsSealable (note_step x other later) → IsSkeleton (note_step x other later) sealed
      → HoldsKeys (keys_with keys (note_step x other later) drawn) (note_step x other later).after new.ring ends)
      → new.counter ≡ Some ends → Joins (next_command between (spell_payload payload)) between new.journal showed shows → IsBehind (next_command between (spell_payload payload)) between new.journal
      → new.journal.has_epoch ≡ between.has_epoch → ((s : Store) → IsTreeOf (tree_store old.state.tree old.names) s → AreDeedTitles s r old.names new.names) → IsCarriedOut r drawn old new was shows
  unfolding sealed_for
  carried new was showed shows between starts ends sealed payload has tells same_key same_bound state_is sealed_is seals holds counter_is joins behind begun_still titles = record {
    sealed = sealed_for was showed between starts sealed payload has tells sealed_is seals;
    ends = ends;
    same_key = same_key;
    same_bound = same_bound;
    seen_then = λ x s saw is.
        subst (λ (v : _). IsSeenAs v (told_stand (begun (not old.journal.has_epoch) x) (deed_note s r (replicate 32 0)))) (sym state_is)
        (subst (λ (n : Note). IsSeenAs (settled old.state after.ready) (told_stand (begun (not old.journal.has_epoch) x) n)) (drafted.told s is) (keyed.seen old.state _ (drafted.seen_then x saw)));
    keys_then = λ keys x other later held can is. holds keys x other later held can (subst (λ (s : Skeleton). IsSkeleton (note_step x other later) s) (sym (sealed_is ∙ keyed.skeleton)) is);
    ends_as = counter_is;
    commits = joins;
    same_owner = behind.owner;
    same_epoch = behind.epoch;
    has_begun = begun_still ∙ has.has_begun;
    same_limit = behind.limit ∙ has.limit;
    titles_then = titles;
  }
