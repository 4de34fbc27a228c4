-- The owner of a fresh store stands for its journal, and is sound.
use Rattle.std.proofs.Common.{◌≡◌, inl, inr, ℕ, ◌≤◌, true, cond, List, [], ◌∷◌, length, map, Some, None, All, arith, refl, sym, ap, subst, ◌∙◌}
use Rattle.std.proofs.lemmas.List.Elements.{All-cons, All-nil}
use Rattle.key_links.specs.Fresh.{made_version}
use Rattle.commit_journal.specs.Image.{Batch}
use Rattle.commit_journal.specs.Journals.{IsJournalOf}
use Rattle.cry_base.specs.Limits.{most_file_bytes}
use Rattle.cry_base.specs.Sets.{In}
use Rattle.cry_base.specs.Store.{FileEntry, FolderEntry, Store, no_store, root_store}
use Rattle.folder_nodes.specs.Titles.{bytes_in, name_in, title_at, tree_store}
use Rattle.move_plan.specs.Fitting.{fits, public_of}
use Rattle.public_fold.specs.Fitted.{told_stand, told_step}
use Rattle.public_fold.specs.Journal.{Entry, Stand, entry_step, entry_store, keys_of, nothing, root_note, stand_after, stand_then, store_of}
use Rattle.public_fold.specs.Journal.Entry.{Made, Session}
use Rattle.public_fold.specs.KeyStep.{KeyState}
use Rattle.public_fold.specs.Preparing.{begun_keys}
use Rattle.public_fold.specs.Standing.{IsSeenAs, public_store_of}
use Rattle.public_fold.specs.Told.{told_store}
use Rattle.public_fold.specs.Turns.{turn_fits, turn_stand, turns_fit, turns_links, turns_stand}
use Rattle.public_fold.specs.Turns.Turn.{Began, Noted}
use Rattle.public_fold.specs.Valid.{IsValid, IsVersion}
use Rattle.public_fold.proofs.TurnsHold.{log_holds}
use Rattle.journal_bytes.specs.Bytes.{batches_of, bodies_from, bodies_of, entry_body, keys_then, step_payload}
use Rattle.journal_bytes.specs.Folds.{public_stand}
use Rattle.journal_bytes.specs.Keys.{AreWhole, all_keys, drawn_by, entry_keys, with_bytes}
use Rattle.journal_bytes.specs.Notes.{declared_note}
use Rattle.journal_bytes.specs.Owning.{IsTreeOf}
use Rattle.journal_bytes.specs.Sealing.{HoldsKeys}
use Rattle.journal_bytes.specs.WorkedBytes.{journal_bytes}
use Rattle.store_owner.specs.Drawing.{AreKeys}
use Rattle.store_owner.specs.Making.{IsMadeJournal, first_stand, made_batches, made_note, made_with, root_payload, root_step}
use Rattle.store_owner.specs.Owned.{IsOwnerOf, OwnerView, counting}
use Rattle.store_owner.specs.Sound.{IsSound, own_store}
use Rattle.store_owner.proofs.RootSealed.{keys_are}
use Rattle.store_owner.proofs.SoundStores.{numbers_from_nothing}

-- ---- the journal

lazy_valid : (drawn : List (List ℕ)) → length drawn ≡ 5 → IsValid (Session ∷ Made 1 drawn ∷ [])
unfolding journal_bytes
lazy_valid drawn five = ((five, tt, inl refl), omega arith)

strict_valid : (drawn : List (List ℕ)) → length drawn ≡ 5 → IsValid (Session ∷ Made 2 drawn ∷ [])
unfolding journal_bytes
strict_valid drawn five = ((five, tt, inr refl), omega arith)

-- the journal that makes a store, of either version
pub made_valid : (version : ℕ) (drawn : List (List ℕ)) → IsVersion version → length drawn ≡ 5 → IsValid (Session ∷ Made version drawn ∷ [])
made_valid version drawn (inl one) five = subst (λ v. IsValid (Session ∷ Made v drawn ∷ [])) (sym one) (lazy_valid drawn five)
made_valid version drawn (inr two) five = subst (λ v. IsValid (Session ∷ Made v drawn ∷ [])) (sym two) (strict_valid drawn five)

made_whole : (owner : List ℕ) (drawn : List (List ℕ)) → length owner ≡ 32 → AreKeys drawn → AreWhole owner (made_with drawn)
unfolding drawn_by
made_whole owner drawn long sizes = record {
  owner_size = long;
  drawn_sizes = All-cons (λ (entry : Entry). All (λ (key : List ℕ). length key ≡ 32) (drawn_by entry)) Session (Made made_version drawn ∷ []) (All-nil (λ (key : List ℕ). length key ≡ 32)) (All-cons (λ (entry : Entry). All (λ (key : List ℕ). length key ≡ 32) (drawn_by entry)) (Made made_version drawn) [] sizes (All-nil (λ (entry : Entry). All (λ (key : List ℕ). length key ≡ 32) (drawn_by entry))));
}

pub batches_are : (owner : List ℕ) (drawn : List (List ℕ)) → made_batches (root_payload owner drawn) ≡ batches_of owner (made_with drawn)
unfolding batches_of bodies_of bodies_from entry_body keys_then entry_keys drawn_by with_bytes stand_then entry_step entry_store begun_keys nothing
batches_are owner drawn = ap (λ keys. made_batches (step_payload keys (declared_note made_note) root_step)) (sym (keys_are owner drawn))

stand_is : (drawn : List (List ℕ)) → told_stand first_stand made_note ≡ public_stand (made_with drawn)
unfolding journal_bytes public_stand told_stand told_step told_store begun_keys public_of
stand_is drawn = refl

store_is : (drawn : List (List ℕ)) → store_of (made_with drawn) ≡ root_store
unfolding store_of stand_after stand_then entry_store
store_is drawn = refl

told_is : (told_stand first_stand made_note).store ≡ root_store
unfolding told_stand told_store begun_keys nothing root_note root_store no_store
told_is = refl

turns_are : turns_stand nothing (Began ∷ Noted made_note ∷ []) ≡ told_stand first_stand made_note
unfolding turns_stand turn_stand begun_keys
turns_are = refl

turns_do_fit : turns_fit nothing (Began ∷ Noted made_note ∷ []) ≡ true
unfolding journal_bytes turns_fit turn_fits turn_stand told_step told_store fits
turns_do_fit = refl

epoch_is : (drawn : List (List ℕ)) → (keys_of (made_with drawn)).epoch ≡ 1
unfolding journal_bytes
epoch_is drawn = refl

-- ---- the tree

module _ (o : OwnerView) (root : title_at o.names.folders 1 ≡ Some (record { id = 1; name = []; bytes = [] })) (seen : IsSeenAs o.state (told_stand first_stand made_note)) where
  store_seen : root_store ≡ record (public_store_of o.state) { grants = (told_stand first_stand made_note).store.grants }
  store_seen = sym told_is ∙ seen.store

  folders_seen : o.state.tree.folders ≡ record { id = 1; parent = 0; name = [] } ∷ []
  unfolding root_store no_store
  folders_seen = sym (ap (λ (s : Store). s.folders) store_seen)

  files_seen : (public_store_of o.state).files ≡ []
  unfolding root_store no_store
  files_seen = sym (ap (λ (s : Store). s.files) store_seen)

  tree_files : o.state.tree.files ≡ []
  unfolding root_store no_store
  tree_files = sym (ap (λ (s : Store). s.files) store_seen)

  root_tree : IsTreeOf (tree_store o.state.tree o.names) root_store
  unfolding tree_store root_store no_store
  root_tree = record {
    folders = ap (map (λ (e : FolderEntry). record e { name = name_in (title_at o.names.folders e.id) })) folders_seen
        ∙ ap (λ t. record { id = 1; parent = 0; name = name_in t } ∷ []) root;
    files = ap (map (λ (e : FileEntry). record e { name = name_in (title_at o.names.files e.id); bytes = bytes_in (title_at o.names.files e.id) })) tree_files;
    folders_made = sym (ap (λ (s : Store). s.folders_made) store_seen);
    files_made = sym (ap (λ (s : Store). s.files_made) store_seen);
  }

  no_files : (x : FileEntry) → In x (own_store o).files → length x.bytes ≤ most_file_bytes
  unfolding tree_store
  no_files x i =
      let none = ap (map (λ (e : FileEntry). record e { name = name_in (title_at o.names.files e.id); bytes = bytes_in (title_at o.names.files e.id) })) files_seen in
      absurd (subst (λ (fs : List FileEntry). In x fs) none i)

-- ---- the owner

module _ (o : OwnerView) (owner : List ℕ) (drawn : List (List ℕ)) (limit : ℕ) (long : length owner ≡ 32) (five : length drawn ≡ 5) (sizes : AreKeys drawn) (same_key : o.key ≡ owner)
    (state : IsMadeJournal owner limit o.journal) (stands : IsJournalOf (made_batches (root_payload owner drawn)) o.journal)
    (root : title_at o.names.folders 1 ≡ Some (record { id = 1; name = []; bytes = [] })) (seen : IsSeenAs o.state (told_stand first_stand made_note))
    (held : HoldsKeys (all_keys owner (made_with drawn)) (keys_of (made_with drawn)) o.ring (counting (keys_of (made_with drawn)))) (none : o.counter ≡ None) (bounded : o.file_bytes ≤ most_file_bytes) where
  counts_are : (k : KeyState) → o.counter ≡ cond o.journal.has_epoch (Some (counting k)) None
  counts_are k = none ∙ ap (λ b. cond b (Some (counting k)) None) (sym state.not_begun)

  pub made_owner : IsOwnerOf (made_with drawn) o
  made_owner =
      let back = sym same_key in
      record {
        valid = made_valid made_version drawn (inr refl) five;
        whole_keys = subst (λ key. AreWhole key (made_with drawn)) back (made_whole owner drawn long sizes);
        same_key = state.has_owner ∙ back;
        stands = subst (λ key. IsJournalOf (batches_of key (made_with drawn)) o.journal) back (subst (λ (bs : List Batch). IsJournalOf bs o.journal) (batches_are owner drawn) stands);
        seen = subst (IsSeenAs o.state) (stand_is drawn) seen;
        tree = subst (IsTreeOf (tree_store o.state.tree o.names)) (sym (store_is drawn)) (root_tree o root seen);
        holds = subst (λ key. HoldsKeys (all_keys key (made_with drawn)) (keys_of (made_with drawn)) o.ring (counting (keys_of (made_with drawn)))) back held;
        counts = counts_are (keys_of (made_with drawn));
      }

  stand_same : turns_stand nothing (Began ∷ Noted made_note ∷ []) ≡ public_stand (made_with drawn)
  stand_same = turns_are ∙ stand_is drawn

  keys_same : keys_of (made_with drawn) ≡ (turns_stand nothing (Began ∷ Noted made_note ∷ [])).keys
  unfolding public_stand
  keys_same = sym (ap (λ (a : Stand). a.keys) stand_same)

  pub made_sound : IsSound o
  made_sound = record {
    at = turns_stand nothing (Began ∷ Noted made_note ∷ []);
    keys = all_keys owner (made_with drawn);
    goes_on = record {
      links = turns_links nothing (Began ∷ Noted made_note ∷ []);
      holds = log_holds Began (Noted made_note ∷ []) turns_do_fit;
      numbers = numbers_from_nothing o.journal.batches (Began ∷ Noted made_note ∷ []) (let two = state.two_batches in omega (arith, two));
    };
    seen = subst (IsSeenAs o.state) (sym turns_are) seen;
    same_epoch = state.first_epoch ∙ sym (epoch_is drawn) ∙ ap (λ (k : KeyState). k.epoch) keys_same;
    held = subst (λ (k : KeyState). HoldsKeys (all_keys owner (made_with drawn)) k o.ring (counting k)) keys_same held;
    counts = counts_are (turns_stand nothing (Began ∷ Noted made_note ∷ [])).keys;
    sized = no_files o root seen;
    bounded = bounded;
  }
