-- Journals that bytes may publish, the first session alone among them, can be read to their end.
use Rattle.std.proofs.Common.{◌≡◌, ⊎_elim, inl, ℕ, true, List, [], ◌∷◌, Some, Ok, refl, sym, subst}
use Rattle.std.specs.Prelude.{is_some, option_map}
use Rattle.std.specs.List.{list_all}
use Rattle.chacha_seal.specs.Keys.{KeyParts}
use Rattle.chacha_seal.specs.Sealing.{check_of}
use Rattle.commit_journal.specs.Answering.{and_then}
use Rattle.commit_journal.specs.Placed.{PlainPlaced}
use Rattle.cry_base.specs.Sets.{In}
use Rattle.cry_base.specs.Naming.{is_name}
use Rattle.cry_base.specs.Store.{FileEntry, HolderEntry, file_names, holder_entry, no_store}
use Rattle.cry_base.specs.declared.roles.Edge.{Edge}
use Rattle.cry_base.specs.declared.roles.Role.TheVariants.{Owner}
use Rattle.closure_laws.proofs.OwnNames.{own_names}
use Rattle.log_visits.specs.Folding.{folded, stand_behind}
use Rattle.log_visits.specs.Judging.{body_check, published_check}
use Rattle.log_visits.specs.OwnPaths.{HasOwnNames}
use Rattle.log_visits.specs.Placing.{body_contents, body_links, link_for, log_contents, log_links}
use Rattle.log_visits.specs.Visiting.{key_of}
use Rattle.log_visits.proofs.FoldedHolds.{each_edge_found, log_with}
use Rattle.move_plan.specs.Fitting.{public_of}
use Rattle.role_graph.specs.Edges.{IsEdge}
use Rattle.role_graph.specs.Roles.{holder_role, role_id, same_role, variant_of}
use Rattle.role_graph.proofs.Edging.{edges_told}
use Rattle.public_fold.specs.Journal.{Journal, Stand, entry_step, entry_store, keys_of, nothing, stand_after, stand_then, store_of}
use Rattle.public_fold.specs.Journal.Entry.{Session}
use Rattle.public_fold.specs.KeyStep.{KeyState, newest, next_epoch, no_keys}
use Rattle.public_fold.specs.Rooted.{MayStand}
use Rattle.public_fold.specs.Tree.{AreNumbered}
use Rattle.public_fold.specs.Valid.{IsValid}
use Rattle.public_fold.proofs.Keeping.{journal_tree}
use Rattle.public_fold.proofs.Treeing.{file_is_named}
use Rattle.journal_bytes.specs.Bytes.{bodies_from, bodies_of, entry_body}
use Rattle.journal_bytes.specs.Folds.{fold_of, log_of, public_stand}
use Rattle.journal_bytes.specs.Keys.{AreWhole, all_keys, bytes_in, bytes_of, owner_parts}
use Rattle.journal_bytes.specs.Opening.{AreDrawn, reading_of}
use Rattle.journal_bytes.proofs.Followed.{journal_followed}
use Rattle.journal_bytes.proofs.LogsWalked.{journal_walked}
use Rattle.journal_bytes.proofs.OpenedKeys.{holder_drawn, more_drawn, owner_drawn}
use Rattle.journal_bytes.proofs.PlainTexts.{file_form, folder_form, journal_plain}
use Rattle.reader_laws.proofs.Checks.{journal_checked}
use Rattle.reader_laws.proofs.Openable.{IsOpenable}
use Rattle.reader_laws.proofs.Published.{MayPublish}
use Rattle.log_visits.proofs.Rights.{HasShape, shape_of}

-- the payloads can be followed, the checks are those of the holders, the records are as they are due, and the keys are the
-- journal's
pub record IsReadable (owner : List ℕ) (m : Journal) : Type 0 where
  pub followed : fold_of owner m ≡ Ok (public_stand m)
  pub checked : (h : ℕ) → published_check h (log_of owner m) ≡ option_map (λ (e : HolderEntry). check_of e.key) (holder_entry (store_of m) h)
  pub openable : IsOpenable (all_keys owner m) (store_of m) (reading_of owner m)
  pub owner_key : AreDrawn (all_keys owner m) (keys_of m) ((Owner, owner) ∷ [])
  pub holder_keys : (e : HolderEntry) → In e (store_of m).holders → AreDrawn (all_keys owner m) (keys_of m) ((holder_role e.number, e.key) ∷ [])
  pub numbered : AreNumbered (store_of m).folders
  pub own_names : HasOwnNames (store_of m)
  pub named_files : (e : FileEntry) → In e (store_of m).files → list_all is_name (file_names (store_of m) e) ≡ true

-- what a log folds to may stand, so it has the shape that visits need
pub fold_stands : (log : List PlainPlaced) (stand : Stand) → folded nothing log ≡ Ok stand → MayStand stand.store
unfolding folded nothing
fold_stands [] stand e =
    let first : nothing ≡ stand = cc in
    subst (λ (z : Stand). MayStand z.store) first (inl refl)
fold_stands (p ∷ log) stand e = (log_with p log stand e).1.store

pub fold_shape : (log : List PlainPlaced) (stand : Stand) → folded nothing log ≡ Ok stand → HasShape stand.store
fold_shape log stand e = shape_of stand.store (fold_stands log stand e)

linked_edges : (owner : List ℕ) (m : Journal) → fold_of owner m ≡ Ok (public_stand m) → (e : Edge) → IsEdge (public_of (store_of m)) e → is_some (link_for (keys_of m) (log_of owner m) e) ≡ true
unfolding fold_of public_stand
linked_edges owner m followed e stands =
    each_edge_found (log_of owner m) (public_stand m) followed e ((edges_told (public_of (store_of m)) e).1 stands)

-- ---- valid journals

valid_openable : (owner : List ℕ) (m : Journal) → IsValid m → AreWhole owner m → IsOpenable (all_keys owner m) (store_of m) (reading_of owner m)
unfolding public_stand
valid_openable owner m valid whole =
    let walked = journal_walked owner m valid whole in
    let tree = journal_tree m valid in
    let plain = journal_plain owner m valid whole in record {
      right = walked.each_link;
      last = walked.contents_present;
      linked = linked_edges owner m (journal_followed owner m valid whole);
      folder_forms = folder_form (store_of m) tree plain;
      file_forms = file_form (store_of m) tree plain;
    }

pub valid_readable : (owner : List ℕ) (m : Journal) → IsValid m → AreWhole owner m → IsReadable owner m
valid_readable owner m valid whole = record {
  followed = journal_followed owner m valid whole;
  checked = λ h. journal_checked owner m h valid;
  openable = valid_openable owner m valid whole;
  owner_key = owner_drawn owner m valid whole;
  holder_keys = holder_drawn owner m valid whole;
  numbered = (journal_tree m valid).numbered;
  own_names = own_names m valid;
  named_files = λ e i. file_is_named (store_of m) e (journal_tree m valid) i;
}

-- ---- the first session alone

abbrev pub begun : Journal
begun = Session ∷ []

begun_followed : (owner : List ℕ) → fold_of owner begun ≡ Ok (public_stand begun)
unfolding fold_of log_of bodies_of bodies_from entry_body folded stand_behind and_then public_stand public_of store_of keys_of stand_after stand_then entry_store entry_step nothing no_store
begun_followed owner = refl

begun_checked : (owner : List ℕ) (h : ℕ) → published_check h (log_of owner begun) ≡ option_map (λ (e : HolderEntry). check_of e.key) (holder_entry (store_of begun) h)
unfolding log_of bodies_of bodies_from entry_body published_check body_check holder_entry store_of stand_after stand_then entry_store nothing no_store
begun_checked owner h = refl

begun_openable : (owner : List ℕ) → IsOpenable (all_keys owner begun) (store_of begun) (reading_of owner begun)
unfolding log_of bodies_of bodies_from entry_body log_links log_contents body_links body_contents public_stand store_of keys_of stand_after stand_then entry_store nothing no_store
begun_openable owner = record {
  right = λ p i. absurd i;
  last = record { folders = λ e i. absurd i; files = λ e i. absurd i; holders = λ e i. absurd i };
  linked = linked_edges owner begun (begun_followed owner);
  folder_forms = λ e i. absurd i;
  file_forms = λ e i. absurd i;
}

none_drawn : (keys : List KeyParts) (k : KeyState) → AreDrawn keys k []
unfolding key_of
none_drawn keys k role bytes e = absurd cc

begun_owner : (owner : List ℕ) → newest (keys_of begun).keys Owner ≡ Some 0
unfolding keys_of stand_after stand_then entry_step nothing next_epoch no_keys newest same_role variant_of role_id
begun_owner owner = refl

owner_bytes : (owner : List ℕ) (m : Journal) → bytes_in (all_keys owner m) 0 ≡ owner
unfolding all_keys owner_parts bytes_in bytes_of
owner_bytes owner m = refl

begun_key : (owner : List ℕ) → AreDrawn (all_keys owner begun) (keys_of begun) ((Owner, owner) ∷ [])
begun_key owner =
    let keys = all_keys owner begun in
    let k = keys_of begun in
    subst (λ b. AreDrawn keys k ((Owner, b) ∷ [])) (owner_bytes owner begun) (more_drawn keys k [] Owner 0 (begun_owner owner) (none_drawn keys k))

begun_readable : (owner : List ℕ) → IsReadable owner begun
unfolding store_of stand_after stand_then entry_store nothing no_store
begun_readable owner = record {
  followed = begun_followed owner;
  checked = begun_checked owner;
  openable = begun_openable owner;
  owner_key = begun_key owner;
  holder_keys = λ e i. absurd i;
  numbered = record { own = λ a b i j q. absurd i; no_zero = λ e i. absurd i; one_root = λ e i q. absurd i };
  own_names = record {
    two_folders = λ a b i j p n. absurd i;
    two_files = λ a b i j p n. absurd i;
    folder_and_file = λ a b i j p n. absurd i;
    folder_name = λ a i p. absurd i;
    file_name = λ b i. absurd i;
    one_root = λ a i p. absurd i;
    folder_way = λ a i. absurd i;
    file_way = λ b i. absurd i;
  };
  named_files = λ e i. absurd i;
}

pub readable : (owner : List ℕ) (m : Journal) → MayPublish owner m → IsReadable owner m
readable owner m may = ⊎_elim
    (λ v. valid_readable owner m v.0 v.1)
    (λ q. subst (IsReadable owner) (sym q) (begun_readable owner))
    may
