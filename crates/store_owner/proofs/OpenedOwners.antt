-- An owner who opened a valid journal stands for it.
use Rattle.std.proofs.Common.{◌≡◌, ℕ, cond, false, List, map, Some, None, Ok, refl, sym, ap, subst, ◌∙◌}
use Rattle.std.specs.Prelude.{IsTrue}
use Rattle.chacha_seal.specs.Keys.{KeyParts}
use Rattle.commit_journal.specs.Journals.{IsJournalOf}
use Rattle.cry_base.specs.Sets.{In}
use Rattle.cry_base.specs.Store.{Store, FolderEntry, FileEntry, HolderEntry}
use Rattle.cry_base.specs.declared.roles.Role.{Role}
use Rattle.cry_base.specs.declared.roles.Role.TheVariants.{Owner, Holder, Clear, Sub, Back, Files, Data, File}
use Rattle.folder_nodes.specs.Titles.{Titles, bytes_in, name_in, title_at, tree_store}
use Rattle.log_visits.specs.Opening.{is_no_holders}
use Rattle.log_visits.specs.Visiting.{Opened, visit_all}
use Rattle.key_links.specs.Ringed.{Ringed, key_of}
use Rattle.role_graph.specs.Roles.{holder_role, role_id}
use Rattle.public_fold.specs.Journal.{Journal, keys_of, store_of}
use Rattle.public_fold.specs.Keyed.{HasRole}
use Rattle.public_fold.specs.KeyStep.{newest}
use Rattle.public_fold.specs.Standing.{IsSeenAs, PublicView}
use Rattle.public_fold.specs.Valid.{IsValid}
use Rattle.public_fold.proofs.KeyMoves.{journal_holds}
use Rattle.public_fold.proofs.SerialsKept.{journal_serials}
use Rattle.journal_bytes.specs.Bytes.{batches_of}
use Rattle.journal_bytes.specs.Folds.{public_stand}
use Rattle.journal_bytes.specs.Keys as keyed
use Rattle.journal_bytes.specs.Keys.{AreWhole, all_keys}
use Rattle.journal_bytes.specs.Opening.{owner_starts, owner_visits, reading_of}
use Rattle.journal_bytes.specs.Owning.{IsTreeOf}
use Rattle.journal_bytes.specs.Sealing.{HoldsKeys}
use Rattle.journal_bytes.proofs.Ascending.{all_below}
use Rattle.journal_bytes.proofs.LogsWalked.{journal_holder}
use Rattle.journal_bytes.proofs.OwnerVisits.{owner_keys, owner_seen}
use Rattle.store_owner.specs.Opened.{IsKept}
use Rattle.store_owner.specs.Owned.{IsOwnerOf, OwnerView, counting}
use Rattle.store_owner.proofs.OpenedRings.{is_other, present_serial, with_these}

module _ (owner : List ℕ) (m : Journal) (valid : IsValid m) (whole : AreWhole owner m) (after : Opened) (ring : Ringed) (names : Titles)
    (done : visit_all (reading_of owner m) (owner_visits m) (owner_starts owner m) ≡ Ok after) (kept : IsKept (public_stand m) after ring names) where
  drawn : ℕ → List ℕ
  drawn n = keyed.bytes_in (all_keys owner m) n

  -- a key with these bytes is the present one of its role
  is_present : (r : Role) (n : ℕ) → newest (keys_of m).keys r ≡ Some n → (key : KeyParts) → key_of ring r ≡ Some key → key.bytes ≡ drawn n
      → key_of ring r ≡ Some (record { id = role_id r; serial = n; bytes = drawn n })
  unfolding public_stand
  is_present r n newer key is bytes =
      let own = kept.present r key is in
      let serial = own.1 ∙ present_serial (keys_of m).keys r n newer in
      is ∙ (λ i. Some (record { id = own.0 i; serial = serial i; bytes = bytes i }))

  has_opened : (r : Role) (n : ℕ) → IsTrue (is_no_holders r) → newest (keys_of m).keys r ≡ Some n → key_of ring r ≡ Some (record { id = role_id r; serial = n; bytes = drawn n })
  unfolding drawn
  has_opened r n told newer =
      let key = with_these (key_of ring r) (drawn n) (sym (kept.opened r told) ∙ owner_keys owner m valid whole after done r n newer (is_other r told)) in
      is_present r n newer key.0 key.1 key.2

  has_holder : (h n : ℕ) → newest (keys_of m).keys (holder_role h) ≡ Some n → HasRole (store_of m) (holder_role h) → key_of ring (holder_role h) ≡ Some (record { id = role_id (holder_role h); serial = n; bytes = drawn n })
  unfolding holder_role drawn
  has_holder h n newer has =
      let e : HolderEntry = has.0 in
      let there : In e after.store.holders = subst (λ (s : Store). In e s.holders) (sym (owner_seen owner m valid whole after done)) has.1 in
      let key = with_these (key_of ring (holder_role e.number)) e.key (kept.holders e there) in
      let own = journal_holder owner m valid whole e has.1 in
      let same : newest (keys_of m).keys (holder_role e.number) ≡ Some n = ap (λ x. newest (keys_of m).keys (holder_role x)) has.2 ∙ newer in
      let number : Some own.0 ≡ Some n = sym own.1 ∙ same in
      let one : own.0 ≡ n = cc in
      is_present (holder_role h) n newer key.0 (subst (λ x. key_of ring (holder_role x) ≡ Some key.0) has.2 key.1) (key.2 ∙ own.2 ∙ ap drawn one)

  has_present : (r : Role) (n : ℕ) → newest (keys_of m).keys r ≡ Some n → key_of ring r ≡ Some (record { id = role_id r; serial = n; bytes = drawn n })
  unfolding holder_role
  has_present Owner n newer = has_opened Owner n refl newer
  has_present (Holder h) n newer = has_holder h.0 n newer (((journal_holds m valid).keyed (Holder h)).1 (n, newer))
  has_present (Clear f) n newer = has_opened (Clear f) n refl newer
  has_present (Sub f) n newer = has_opened (Sub f) n refl newer
  has_present (Back f) n newer = has_opened (Back f) n refl newer
  has_present (Files f) n newer = has_opened (Files f) n refl newer
  has_present (Data f) n newer = has_opened (Data f) n refl newer
  has_present (File x) n newer = has_opened (File x) n refl newer

  pub journal_held : HoldsKeys (all_keys owner m) (keys_of m) ring (counting (keys_of m))
  unfolding drawn
  journal_held = record {
    has_present = has_present;
    drawn_below = all_below owner m valid;
    present_below = (journal_serials m valid).below;
    is_counted = refl;
  }

  -- the names and bytes are those of the store
  pub journal_tree : (v : PublicView) → IsSeenAs v (public_stand m) → IsTreeOf (tree_store v.tree names) (store_of m)
  unfolding tree_store
  journal_tree v seen =
      let bare = (public_stand m).store in
      let seen_all = sym kept.titled ∙ owner_seen owner m valid whole after done in
      record {
        folders = ap (λ (s : Store). map (λ (e : FolderEntry). let d : FolderEntry = record e { name = name_in (title_at names.folders e.id) } in d) s.folders) (sym seen.store)
            ∙ ap (λ (s : Store). s.folders) seen_all;
        files = ap (λ (s : Store). map (λ (e : FileEntry). let d : FileEntry = record e { name = name_in (title_at names.files e.id); bytes = bytes_in (title_at names.files e.id) } in d) s.files) (sym seen.store)
            ∙ ap (λ (s : Store). s.files) seen_all;
        folders_made = ap (λ (s : Store). s.folders_made) (sym seen.store) ∙ ap (λ (s : Store). s.folders_made) seen_all;
        files_made = ap (λ (s : Store). s.files_made) (sym seen.store) ∙ ap (λ (s : Store). s.files_made) seen_all;
      }

pub opened_owner : (m : Journal) (o : OwnerView) (after : Opened) → IsValid m → AreWhole o.key m → o.journal.owner ≡ o.key → IsJournalOf (batches_of o.key m) o.journal
    → IsSeenAs o.state (public_stand m) → visit_all (reading_of o.key m) (owner_visits m) (owner_starts o.key m) ≡ Ok after → IsKept (public_stand m) after o.ring o.names
    → o.journal.has_epoch ≡ false → o.counter ≡ None → IsOwnerOf m o
opened_owner m o after valid whole same stands seen done kept not_begun not_counted = record {
  valid = valid;
  whole_keys = whole;
  same_key = same;
  stands = stands;
  seen = seen;
  tree = journal_tree o.key m valid whole after o.ring o.names done kept o.state seen;
  holds = journal_held o.key m valid whole after o.ring o.names done kept;
  counts = not_counted ∙ ap (λ b. cond b (Some (counting (keys_of m))) None) (sym not_begun);
}
