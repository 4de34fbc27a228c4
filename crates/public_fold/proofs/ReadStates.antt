-- States that sound rows tell, and those that are read from the rows of a log's state.
use Rattle.std.proofs.Common.{◌≡◌, ◌≢◌, ℕ, ◌^◌, ◌<◌, ◌⊎◌, List, map, inl, inr, ⊎_elim, refl, sym, ap, ◌∙◌, subst, arith}
use Rattle.std.specs.List.{range_with_len}
use Rattle.std.specs.Prelude.{Option, Some, None, length}
use Rattle.std.proofs.lemmas.Bool.{cases_Bool, false≢true}
use Rattle.cry_base.specs.Store.{Store, FileEntry, FolderEntry}
use Rattle.cry_base.specs.declared.roles.Role.{Role}
use Rattle.cry_base.specs.declared.roles.Role.TheVariants.{Owner}
use Rattle.cry_base.proofs.Members.{In-map}
use Rattle.index_format.specs.Plain.{PlainState}
use Rattle.index_format.specs.declared.rows.FileRow.{FileRow}
use Rattle.index_format.specs.declared.rows.FolderRow.{FolderRow}
use Rattle.index_format.specs.declared.rows.KeyRow.{KeyRow}
use Rattle.move_plan.specs.Seen.{keyless}
use Rattle.role_graph.specs.Roles.{variant_of, role_id, same_role}
use Rattle.role_graph.proofs.Comparing.{same_role_tells}
use Rattle.public_fold.specs.Journal.{Stand}
use Rattle.public_fold.specs.KeyStep.{KeyState, newest}
use Rattle.public_fold.specs.Records.{Link}
use Rattle.public_fold.specs.Standing.{AreSameGrants, IsSeenAs, PublicView, public_store_of}
use Rattle.public_fold.specs.StateLaws.{IsFolded}
use Rattle.public_fold.specs.States.{AreKeyRows, IsReadFrom, IsSoundState, IsStateOf, Spells, entry_of_file, entry_of_folder, key_row, key_state_of, keys_of_rows, marked_of, role_at, stand_of_rows, state_store, with_key_order}
use Rattle.public_fold.specs.Turns.{StandHolds}
use Rattle.public_fold.proofs.RowRoles.{role_back}
use Rattle.public_fold.proofs.SoundRows.{made_up_links, rows_keys_hold, rows_serials_hold, rows_spell, rows_stand}
use Rattle.public_fold.proofs.SpelledOnce.{checks_told, marks_told, pairs_told, store_told}

-- ---- what sound rows tell

pub rows_hold : (s : PlainState) → IsSoundState s → (links : List Link) × StandHolds (stand_of_rows s) links
rows_hold s ok =
    let count : s.numbers.count < 2 ^ 30 = ok.small.count in
    let holds : StandHolds (stand_of_rows s) (made_up_links s) = record {
      store = rows_stand s ok;
      keys = rows_keys_hold s ok;
      serials = rows_serials_hold s ok;
      count = omega arith;
    } in
    (made_up_links s, holds)

owner_is_first : (s : PlainState) → newest (keys_of_rows s) Owner ≡ Some 0
unfolding newest same_role variant_of role_id
owner_is_first s = refl

pub rows_folded : (s : PlainState) → IsSoundState s → IsFolded (stand_of_rows s)
rows_folded s ok = record {
  bare = record {
    folders = λ e i. let w = (In-map FolderRow FolderEntry entry_of_folder e s.folders).0 i in ap (λ (z : FolderEntry). z.name) w.2;
    files = λ e i.
        let w = (In-map FileRow FileEntry entry_of_file e s.files).0 i in (ap (λ (z : FileEntry). z.name) w.2, ap (λ (z : FileEntry). z.bytes) w.2);
  };
  owner = owner_is_first s;
  known = ok.version.known;
  unmade = ok.version.unmade;
}

-- ---- the same rows, the same newest keys

some_alike : (k l : List (Role × ℕ)) (rows : List KeyRow) → AreKeyRows k rows → AreKeyRows l rows → (r : Role) → r ≢ Owner → (n : ℕ) → newest k r ≡ Some n → newest l r ≡ Some n
some_alike k l rows p q r other n e = ⊎_elim
    (λ o. absurd (other o))
    (λ i.
    let w = q.each (key_row r n) i in
    let same : w.0 ≡ r = sym (role_back w.0) ∙ (λ j. role_at ((sym w.2 j).place) ((sym w.2 j).id)) ∙ role_back r in
    ap (newest l) (sym same) ∙ w.3)
    (p.all r n e)

both_alike : (a b : Option ℕ) → ((n : ℕ) → a ≡ Some n → b ≡ Some n) → ((n : ℕ) → b ≡ Some n → a ≡ Some n) → a ≡ b
both_alike None None there back = refl
both_alike None (Some n) there back = back n refl
both_alike (Some n) b there back = sym (there n refl)

alike_by_rows : (k l : List (Role × ℕ)) (rows : List KeyRow) → AreKeyRows k rows → AreKeyRows l rows → (r : Role) → r ≢ Owner → newest k r ≡ newest l r
alike_by_rows k l rows p q r other = both_alike (newest k r) (newest l r) (some_alike k l rows p q r other) (some_alike l k rows q p r other)

owner_or : (r : Role) → (r ≡ Owner) ⊎ (r ≢ Owner)
owner_or r = ⊎_elim (λ t. inl ((same_role_tells r Owner).0 t)) (λ f. inr (λ e. false≢true (sym f ∙ (same_role_tells r Owner).1 e))) (cases_Bool (same_role r Owner))

-- ---- a state that was read from the rows of a log's state

pub read_alike : (checks : List (List ℕ)) (at : Stand) (s : PlainState) (v : PublicView) → IsStateOf checks at s → IsReadFrom v s → (r : Role) → newest at.keys.keys r ≡ newest v.keys.keys r
read_alike checks at s v of from r =
    let was : PublicView = of.0 in
    let seen : newest at.keys.keys r ≡ newest was.keys.keys r = ap (λ (k : KeyState). newest k.keys r) of.1.keys in
    let read : newest v.keys.keys r ≡ newest (keys_of_rows s) r = ap (λ (k : KeyState). newest k.keys r) from.keys in
    let told : newest was.keys.keys r ≡ newest (keys_of_rows s) r = ⊎_elim
    (λ (e : r ≡ Owner). ap (newest was.keys.keys) e ∙ of.4 ∙ sym (owner_is_first s) ∙ ap (newest (keys_of_rows s)) (sym e))
    (λ other. alike_by_rows was.keys.keys (keys_of_rows s) s.keys of.5.keys (rows_spell s from.sound).keys r other)
    (owner_or r) in
    seen ∙ told ∙ sym read

pub read_checks : (checks : List (List ℕ)) (at : Stand) (s : PlainState) (v : PublicView) → IsStateOf checks at s → IsReadFrom v s → v.checks ≡ checks
read_checks checks at s v of from = from.checks ∙ checks_told of.0 s of.5 ∙ of.2

-- what is read has the store that the rows tell
read_store : (s : PlainState) (v : PublicView) → IsReadFrom v s → public_store_of v ≡ state_store s
read_store s v from =
    let tree = from.tree in
    let checks = from.checks in
    let pairs = from.pairs in
    λ i. record {
      folders = (tree i).folders;
      files = (tree i).files;
      holders = map keyless (range_with_len 1 (length (checks i)));
      grants = pairs i;
      folders_made = (tree i).folders_made;
      files_made = (tree i).files_made;
      holders_made = length (checks i);
    }

key_state_told : (s : PlainState) (v was : PublicView) → Spells was s → v.keys ≡ key_state_of s → (keys : List (Role × ℕ)) → record was.keys { keys = keys } ≡ record v.keys { keys = keys }
key_state_told s v was p e keys =
    let numbers = sym p.numbers in
    let marks : was.keys.dirty ≡ marked_of s = sym (marks_told was s p) in
    let from : record was.keys { keys = keys } ≡ record (key_state_of s) { keys = keys } = λ i. record {
      keys = keys;
      dirty = marks i;
      epoch = (numbers i).epoch;
      count = (numbers i).count;
      version = (numbers i).version;
    } in
    from ∙ ap (λ (k : KeyState). record k { keys = keys }) (sym e)

pub read_seen : (checks : List (List ℕ)) (at : Stand) (s : PlainState) (v : PublicView) → IsStateOf checks at s → IsReadFrom v s → IsSeenAs (with_key_order v at.keys.keys) at
read_seen checks at s v of from =
    let was : PublicView = of.0 in
    let stores : public_store_of was ≡ public_store_of v = sym (store_told was s of.3 of.5) ∙ sym (read_store s v from) in
    let pairs : was.pairs ≡ v.pairs = sym (from.pairs ∙ pairs_told was s of.5) in
    let own : record was.keys { keys = at.keys.keys } ≡ was.keys = ap (λ (k : KeyState). record was.keys { keys = k.keys }) of.1.keys in record {
      store = of.1.store ∙ ap (λ (z : Store). record z { grants = at.store.grants }) stores;
      grants = subst (λ gs. AreSameGrants gs at.store.grants) pairs of.1.grants;
      keys = of.1.keys ∙ sym own ∙ key_state_told s v was of.5 from.keys at.keys.keys;
    }
