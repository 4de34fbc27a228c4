-- Which children are tried: all in the folder, or all with the name.
use Rattle.std.proofs.Common.{◌≡◌, ℕ, Bool, true, false, not, ◌==◌, ◌&&◌, List, map, find, Option, Some, None, refl, sym, ap, ◌∙◌, subst}
use Rattle.std.specs.Prelude.{bytes_eq}
use Rattle.std.specs.List.{list_any}
use Rattle.std.specs.Option.{option_map}
use Rattle.std.proofs.lemmas.Bool.{and_parts, eqb-true, false≢true}
use Rattle.cry_base.specs.Naming.{is_name}
use Rattle.cry_base.specs.Sets.{In}
use Rattle.cry_base.specs.Store.{Store, FolderEntry, FileEntry, folder_entry, file_entry}
use Rattle.cry_base.proofs.Members.{In-any, In-map}
use Rattle.sorted_table.proofs.Found.{find-None, find-Some}
use Rattle.folder_nodes.specs.Spelling.{is_folder_in, is_file_in}
use Rattle.folder_nodes.specs.Titles.{Titles, title_at, name_in, tree_store}
use Rattle.folder_nodes.specs.declared.spots.Spot.{Spot}
use Rattle.folder_nodes.proofs.Downward.{bytes_told, entry_id, entry_in, file_id}
use Rattle.folder_nodes.proofs.Leading.{same_truth}
use Rattle.folder_nodes.proofs.Located.{HasAll, title_listed, file_in}
use Rattle.folder_nodes.proofs.Taken.{HasTried, folder_row, file_row, no_folder_in, no_file_in}

-- what is in the folder and has the name stands there, and has it
pub folder_here : (s : Store) (n : Titles) (f k : ℕ) (name : List ℕ) → is_folder_in f name (folder_entry (tree_store s n) k) ≡ true → (e : FolderEntry) × In e s.folders × (e.id ≡ k) × (e.parent ≡ f) × (name_in (title_at n.folders k) ≡ name)
folder_here s n f k name t =
    (elim (folder_entry s k) as (λ o. folder_entry s k ≡ o → (e : FolderEntry) × In e s.folders × (e.id ≡ k) × (e.parent ≡ f) × (name_in (title_at n.folders k) ≡ name)) [
      | None ↦ λ p. absurd (false≢true (no_folder_in s n k f name p ∙ t))
      | Some e ↦ λ p.
          let both = and_parts (e.parent == f) (bytes_eq (name_in (title_at n.folders k)) name) (sym (folder_row s n k f name e p) ∙ t) in
          (e, entry_in s k e p, entry_id s k e p, eqb-true e.parent f both.0, bytes_told (name_in (title_at n.folders k)) name both.1)
    ]) refl

pub file_here : (s : Store) (n : Titles) (f k : ℕ) (name : List ℕ) → is_file_in f name (file_entry (tree_store s n) k) ≡ true → (e : FileEntry) × In e s.files × (e.id ≡ k) × (e.folder ≡ f) × (name_in (title_at n.files k) ≡ name)
file_here s n f k name t =
    (elim (file_entry s k) as (λ o. file_entry s k ≡ o → (e : FileEntry) × In e s.files × (e.id ≡ k) × (e.folder ≡ f) × (name_in (title_at n.files k) ≡ name)) [
      | None ↦ λ p. absurd (false≢true (no_file_in s n k f name p ∙ t))
      | Some e ↦ λ p.
          let both = and_parts (e.folder == f) (bytes_eq (name_in (title_at n.files k)) name) (sym (file_row s n k f name e p) ∙ t) in
          (e, file_in s k e p, file_id s k e p, eqb-true e.folder f both.0, bytes_told (name_in (title_at n.files k)) name both.1)
    ]) refl

module _ (s : Store) (n : Titles) (f : ℕ) (name : List ℕ) (spots : List Spot) where
  pub folders_inside : ((e : FolderEntry) → In e s.folders → e.parent ≡ f → In e.id (map (λ (q : Spot). q.id) spots)) → HasTried (λ k. is_folder_in f name (folder_entry (tree_store s n) k)) spots
  folders_inside all k t = let w = folder_here s n f k name t in subst (λ z. In z (map (λ (q : Spot). q.id) spots)) w.2 (all w.0 w.1 w.3)

  pub files_inside : ((e : FileEntry) → In e s.files → e.folder ≡ f → In e.id (map (λ (q : Spot). q.id) spots)) → HasTried (λ k. is_file_in f name (file_entry (tree_store s n) k)) spots
  files_inside all k t = let w = file_here s n f k name t in subst (λ z. In z (map (λ (q : Spot). q.id) spots)) w.2 (all w.0 w.1 w.3)

  pub folders_named : is_name name ≡ true → HasAll n.folders name (map (λ (q : Spot). q.id) spots) → HasTried (λ k. is_folder_in f name (folder_entry (tree_store s n) k)) spots
  folders_named is all k t = let w = folder_here s n f k name t in title_listed n.folders name (map (λ (q : Spot). q.id) spots) all is k w.4

  pub files_named : is_name name ≡ true → HasAll n.files name (map (λ (q : Spot). q.id) spots) → HasTried (λ k. is_file_in f name (file_entry (tree_store s n) k)) spots
  files_named is all k t = let w = file_here s n f k name t in title_listed n.files name (map (λ (q : Spot). q.id) spots) all is k w.4

-- what is told of the first that passes, and of another
module _ (test : ℕ → Bool) (spots : List Spot) (all : HasTried test spots) where
  abbrev first : Option ℕ
  first = option_map (λ (q : Spot). q.id) (find (λ q. test q.id) spots)

  first_found : (k : ℕ) → Some k ≡ first → test k ≡ true
  first_found k e =
      (elim (find (λ (q : Spot). test q.id) spots) as (λ o. find (λ (q : Spot). test q.id) spots ≡ o → Some k ≡ option_map (λ (q : Spot). q.id) o → test k ≡ true) [
        | None ↦ λ p found. absurd (cc)
        | Some q ↦ λ p found. let same : k ≡ q.id = cc in ap test same ∙ (find-Some Spot (λ q. test q.id) q spots p).1
      ]) refl e

  pub none_passes : None ≡ first → (k : ℕ) → test k ≡ false
  none_passes e k =
      (elim (test k) as (λ b. test k ≡ b → b ≡ false) [
        | false ↦ λ t. refl
        | true ↦ λ t.
            let there = (In-map Spot ℕ (λ q. q.id) k spots).0 (all k t) in
            (elim (find (λ (q : Spot). test q.id) spots) as (λ o. find (λ (q : Spot). test q.id) spots ≡ o → None ≡ option_map (λ (q : Spot). q.id) o → true ≡ false) [
              | None ↦ λ p found. sym (sym (find-None Spot (λ q. test q.id) spots p there.0 there.1) ∙ ap test (sym there.2) ∙ t)
              | Some q ↦ λ p found. absurd (cc)
            ]) refl e
      ]) refl

  pub one_passes : (one : ℕ) → Some one ≡ first → false ≡ list_any (λ (q : Spot). not (q.id == one) && test q.id) spots → (k : ℕ) → test k ≡ (k == one)
  one_passes one e none k =
      same_truth (test k) (k == one)
      (λ t.
      (elim (k == one) as (λ b. k == one ≡ b → b ≡ true) [
        | true ↦ λ u. refl
        | false ↦ λ u.
            let there = (In-map Spot ℕ (λ q. q.id) k spots).0 (all k t) in
            let passes : (not (there.0.id == one) && test there.0.id) ≡ true = ap (λ z. not (z == one) && test z) (sym there.2) ∙ ap (λ b. not b && test k) u ∙ t in
            absurd (false≢true (none ∙ (In-any Spot (λ q. not (q.id == one) && test q.id) (λ q. (not (q.id == one) && test q.id) ≡ true) (λ q. (λ z. z, λ z. z)) spots).1 (there.0, there.1, passes)))
      ]) refl)
      (λ t. ap test (eqb-true k one t) ∙ first_found one e)
