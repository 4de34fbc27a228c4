-- The numbers of what is in a folder are those of its group that pass.
use Rattle.std.proofs.Common.{◌≡◌, ℕ, suc, ◌<◌, Bool, true, List, [], ◌∷◌, map, filter, Some, None, AllPairs, refl, sym, subst, arith}
use Rattle.std.specs.List.{All}
use Rattle.std.proofs.lemmas.Bool.{eqb-true, false≢true}
use Rattle.std.proofs.lemmas.List.Kept.{AllPairs-cons, AllPairs-filter}
use Rattle.std.proofs.lemmas.List.Elements.{All-map}
use Rattle.cry_base.specs.Sets.{In}
use Rattle.cry_base.specs.Store.{Store, FolderEntry, FileEntry, folder_entry, file_entry}
use Rattle.cry_base.proofs.Members.{In-map, In-filter, filter-In}
use Rattle.sorted_table.specs.Rows.{IsRising}
use Rattle.folder_nodes.specs.Inside.{AreListed, is_child_of, is_file_of}
use Rattle.folder_nodes.specs.declared.spots.Spot.{Spot}
use Rattle.folder_nodes.proofs.Downward.{entry_id, entry_in, file_id}
use Rattle.folder_nodes.proofs.Located.{file_in}

rising_ids : (qs : List Spot) → IsRising (λ (q : Spot). q.id) qs → AllPairs (λ (a b : ℕ). a < b) (map (λ (q : Spot). q.id) qs)
rising_ids [] up = λ i j d lt within. absurd (omega arith)
rising_ids (q ∷ qs) up =
    let head : All (λ (x : Spot). q.id < x.id) qs = λ k d within. up 0 (suc k) d (omega arith) (omega arith) in
    AllPairs-cons (λ (a b : ℕ). a < b) q.id (map (λ (x : Spot). x.id) qs)
    (All-map (λ (b : ℕ). q.id < b) (λ (x : Spot). x.id) qs head)
    (rising_ids qs (λ i j d lt within. up (suc i) (suc j) d (omega arith) (omega arith)))

-- where each number that passes is among those of the spots, those that pass are listed
pub listed : (test : ℕ → Bool) (spots : List Spot) (ids : List ℕ) → IsRising (λ (q : Spot). q.id) spots
    → ((g : ℕ) → test g ≡ true → In g (map (λ (q : Spot). q.id) spots))
    → ids ≡ map (λ (q : Spot). q.id) (filter (λ q. test q.id) spots) → AreListed test ids
listed test spots ids up all same = subst (AreListed test) (sym same) (record {
  told = λ g. (
    λ i.
        let w = (In-map Spot ℕ (λ (q : Spot). q.id) g (filter (λ q. test q.id) spots)).0 i in
        subst (λ z. test z ≡ true) (sym w.2) (In-filter Spot (λ q. test q.id) w.0 spots w.1).1,
    λ t.
        let w = (In-map Spot ℕ (λ (q : Spot). q.id) g spots).0 (all g t) in
        (In-map Spot ℕ (λ (q : Spot). q.id) g (filter (λ q. test q.id) spots)).1
        (w.0, filter-In Spot (λ q. test q.id) w.0 spots w.1 (subst (λ z. test z ≡ true) w.2 t), w.2),
  );
  rising = rising_ids (filter (λ q. test q.id) spots) (AllPairs-filter (λ (x y : Spot). x.id < y.id) (λ q. test q.id) spots up);
})

-- what passes stands in the folder
pub child_among : (s : Store) (f : ℕ) (ids : List ℕ) → ((e : FolderEntry) → In e s.folders → e.parent ≡ f → In e.id ids)
    → (g : ℕ) → is_child_of f (folder_entry s g) ≡ true → In g ids
child_among s f ids all g t =
    (elim (folder_entry s g) as (λ o. folder_entry s g ≡ o → is_child_of f o ≡ true → In g ids) [
      | None ↦ λ p n. absurd (false≢true n)
      | Some e ↦ λ p h. subst (λ z. In z ids) (entry_id s g e p) (all e (entry_in s g e p) (eqb-true e.parent f h))
    ]) refl t

pub file_among : (s : Store) (f : ℕ) (ids : List ℕ) → ((e : FileEntry) → In e s.files → e.folder ≡ f → In e.id ids)
    → (x : ℕ) → is_file_of f (file_entry s x) ≡ true → In x ids
file_among s f ids all x t =
    (elim (file_entry s x) as (λ o. file_entry s x ≡ o → is_file_of f o ≡ true → In x ids) [
      | None ↦ λ p n. absurd (false≢true n)
      | Some e ↦ λ p h. subst (λ z. In z ids) (file_id s x e p) (all e (file_in s x e p) (eqb-true e.folder f h))
    ]) refl t
