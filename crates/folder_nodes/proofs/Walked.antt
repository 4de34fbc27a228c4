-- Steps down the tree along the names of a path.
use Rattle.std.proofs.Common.{cond, inl, ◌≡◌, ◌≢◌, ℕ, Bool, true, false, ◌==◌, ◌&&◌, List, [], ◌∷◌, ◌++◌, drop, find, Option, Some, None, refl, sym, ap, ◌∙◌, arith, append_assoc, append-nil}
use Rattle.std.specs.Prelude.{bytes_eq, codes, is_some}
use Rattle.std.specs.List.{list_all}
use Rattle.std.specs.Option.{option_map}
use Rattle.std.proofs.lemmas.Bool.{and_parts, eqb-true, eq-eqb, false≢true, ne_eqb}
use Rattle.cry_base.specs.Naming.{is_name, is_path, is_root_path, names_behind, names_of, spell_path, split_at_slashes, last_name, front, parent_path}
use Rattle.cry_base.specs.Store.{Store, FolderEntry, FileEntry, folder_entry, file_entry, folder_names, node_at}
use Rattle.cry_base.specs.declared.roles.Node.TheVariants.{Folder}
use Rattle.cry_base.proofs.Paths.{path_told}
use Rattle.sorted_table.specs.Rows.{IsRising}
use Rattle.folder_nodes.specs.Spelling.{joined, leads_to_folder, leads_to_file, is_folder_in, is_file_in, as_file}
use Rattle.folder_nodes.specs.Titles.{Titles, title_at, name_in, tree_store}
use Rattle.folder_nodes.specs.Trees.{IsTree}
use Rattle.folder_nodes.specs.Ways.{IsWay}
use Rattle.folder_nodes.specs.declared.spots.Spot.{Spot}
use Rattle.folder_nodes.specs.declared.walking.Way.{Way}
use Rattle.folder_nodes.specs.declared.walking.Way.TheVariants.{Nowhere, At, Several}
use Rattle.folder_nodes.proofs.Added.{parent_cases, nothing_at_zero}
use Rattle.folder_nodes.proofs.Downward.{bytes_told, told_bytes, entry_id, file_id, names_root, tree_named}
use Rattle.folder_nodes.proofs.Lookups.{find_alike}
use Rattle.folder_nodes.proofs.Leading.{entry_named, lead_step, lead_none, lead_file, lead_file_apart, leads_told, leads_nowhere, no_file_leads, names_here}
use Rattle.folder_nodes.proofs.Located.{AreNames, title_free, root_stands, root_told, folder_told, file_told}
use Rattle.folder_nodes.proofs.Named.{named_folder, named_file, folder_named, file_named}
use Rattle.folder_nodes.proofs.Slashes.{free, name_free, joined_nothing, joined_push, spelled_joined, same_last, path_parts, names_all, names_apart, no_names}
use Rattle.folder_nodes.proofs.Taken.{HasTried}

-- whether the folder's parent passes, and it has the name
abbrev is_below : (ℕ → Bool) → List ℕ → Option FolderEntry → Bool
is_below test name None = false
is_below test name (Some e) = test e.parent && bytes_eq e.name name

abbrev is_file_below : (ℕ → Bool) → List ℕ → Option FileEntry → Bool
is_file_below test name None = false
is_file_below test name (Some e) = test e.folder && bytes_eq e.name name

-- bytes that end in a slash and a name aren't none
none_short : (xs name : List ℕ) → bytes_eq [] (xs ++ 47 ∷ name) ≡ false
none_short [] name = refl
none_short (x ∷ xs) name = refl

some_long : (xs name : List ℕ) → bytes_eq (xs ++ 47 ∷ name) [] ≡ false
some_long [] name = refl
some_long (x ∷ xs) name = refl

and_true : (b : Bool) → (b && true) ≡ b
and_true true = refl
and_true false = refl

and_false : (b : Bool) → (b && false) ≡ false
and_false true = refl
and_false false = refl

below_one : (f : ℕ) (name : List ℕ) (o : Option FolderEntry) → is_below (λ k. k == f) name o ≡ is_folder_in f name o
below_one f name None = refl
below_one f name (Some e) = refl

below_none : (name : List ℕ) (o : Option FolderEntry) → is_below (λ k. false) name o ≡ false
below_none name None = refl
below_none name (Some e) = refl

file_below_one : (f : ℕ) (name : List ℕ) (o : Option FileEntry) → is_file_below (λ k. k == f) name o ≡ is_file_in f name o
file_below_one f name None = refl
file_below_one f name (Some e) = refl

file_below_none : (name : List ℕ) (o : Option FileEntry) → is_file_below (λ k. false) name o ≡ false
file_below_none name None = refl
file_below_none name (Some e) = refl

pub none_of : (o : Option FolderEntry) → is_some o ≡ false → o ≡ None
none_of None e = refl
none_of (Some x) e = absurd (false≢true (sym e))

-- names of a path
all_at : (xs : List (List ℕ)) (x : List ℕ) (ys : List (List ℕ)) → list_all is_name (xs ++ x ∷ ys) ≡ true → (is_name x ≡ true) × (list_all is_name ys ≡ true)
all_at [] x ys all = let both = and_parts (is_name x) (list_all is_name ys) all in (both.0, both.1)
all_at (z ∷ xs) x ys all = all_at xs x ys (and_parts (is_name z) (list_all is_name (xs ++ x ∷ ys)) all).1

all_front : (xs : List (List ℕ)) → list_all is_name xs ≡ true → list_all is_name (front xs) ≡ true
unfolding front
all_front [] all = refl
all_front (x ∷ []) all = refl
all_front (x ∷ y ∷ ys) all =
    let both = and_parts (is_name x) (list_all is_name (y ∷ ys)) all in
    ap (λ b. b && list_all is_name (front (y ∷ ys))) both.0 ∙ all_front (y ∷ ys) both.1

front_push : (xs : List (List ℕ)) (x : List ℕ) → front (xs ++ x ∷ []) ≡ xs
unfolding front
front_push [] x = refl
front_push (y ∷ []) x = refl
front_push (y ∷ z ∷ xs) x = ap (λ l. y ∷ l) (front_push (z ∷ xs) x)

front_on : (xs : List (List ℕ)) (x y : List ℕ) (ys : List (List ℕ)) → front (xs ++ x ∷ y ∷ ys) ≡ (xs ++ x ∷ []) ++ front (y ∷ ys)
unfolding front
front_on [] x y ys = refl
front_on (z ∷ []) x y ys = refl
front_on (z ∷ w ∷ xs) x y ys = ap (λ l. z ∷ l) (front_on (w ∷ xs) x y ys)

pub names_split : (path : List ℕ) → is_path path ≡ true → is_root_path path ≡ false → names_of path ≡ split_at_slashes (drop 1 path)
unfolding is_path is_root_path names_of names_behind
names_split [] form other = absurd (false≢true form)
names_split (slash ∷ []) form other =
    let both = and_parts (slash == 47) true form in
    absurd (false≢true (sym other ∙ told_bytes (slash ∷ []) (codes "/") (ap (λ b. b ∷ []) (eqb-true slash 47 both.0))))
names_split (slash ∷ b ∷ bytes) form other = refl

-- the walk has come along names that lead to this folder alone, and has the name and the rest before it
abbrev pub Walked : Store → Titles → List ℕ → ℕ → List ℕ → List (List ℕ) → Type 0
Walked s n path here name rest = (done : List (List ℕ)) × (names_of path ≡ done ++ name ∷ rest) × ((k : ℕ) → leads_to_folder (tree_store s n) k (joined done) ≡ (k == here))

module _ (s : Store) (n : Titles) (tree : IsTree s) (names : AreNames n.folders) (files : AreNames n.files) where
  abbrev t : Store
  t = tree_store s n

  abbrev leads : ℕ → List (List ℕ) → Bool
  leads k ns = leads_to_folder t k (joined ns)

  zero_off : (ns : List (List ℕ)) → leads 0 ns ≡ false
  zero_off ns = leads_nowhere t 0 (joined ns) (folder_named s n 0 ∙ ap (option_map (named_folder n)) (nothing_at_zero s tree))

  root_names : (k : ℕ) (e : FolderEntry) → folder_entry s k ≡ Some e → k ≡ 1 → folder_names t k ≡ []
  root_names k e p one =
      ap (folder_names t) one ∙ names_root t (tree_named s n tree) (named_folder n e) (ap (folder_entry t) (sym one) ∙ entry_named s n k e p)

  -- without names one gets to the root alone
  pub from_root : (r : FolderEntry) → folder_entry s 1 ≡ Some r → (k : ℕ) → leads k [] ≡ (k == 1)
  from_root r root k =
      (elim (folder_entry s k) as (λ o. folder_entry s k ≡ o → leads k [] ≡ (k == 1)) [
        | None ↦ λ p.
            leads_nowhere t k (joined []) (folder_named s n k ∙ ap (option_map (named_folder n)) p)
            ∙ sym (ne_eqb k 1 (λ one. let same : folder_entry s 1 ≡ None = ap (folder_entry s) (sym one) ∙ p in absurd (cc)))
        | Some e ↦ λ p.
            leads_told t k (named_folder n e) (joined []) (entry_named s n k e p)
            ∙ (elim (k == 1) as (λ b. k == 1 ≡ b → bytes_eq (joined (folder_names t k)) (joined []) ≡ b) [
              | true ↦ λ u. told_bytes (joined (folder_names t k)) (joined []) (ap joined (root_names k e p (eqb-true k 1 u)))
              | false ↦ λ u.
                  let up = (parent_cases s tree k e p).1 (λ one. false≢true (sym u ∙ eq-eqb k 1 one)) in
                  let own = name_in (title_at n.folders k) in
                  ap (λ l. bytes_eq l (joined [])) (ap joined (names_here s n tree k e up.0 p up.1) ∙ joined_push (folder_names t e.parent) own)
                  ∙ ap (bytes_eq (joined (folder_names t e.parent) ++ 47 ∷ own)) joined_nothing
                  ∙ some_long (joined (folder_names t e.parent)) own
            ]) refl
      ]) refl

  -- where no root stands one gets nowhere
  pub from_nothing : folder_entry s 1 ≡ None → (k : ℕ) (bytes : List ℕ) → leads_to_folder t k bytes ≡ false
  from_nothing none k bytes =
      (elim (folder_entry s k) as (λ o. folder_entry s k ≡ o → leads_to_folder t k bytes ≡ false) [
        | None ↦ λ p. leads_nowhere t k bytes (folder_named s n k ∙ ap (option_map (named_folder n)) p)
        | Some e ↦ λ p. let r = root_stands s tree k e p in absurd (cc)
      ]) refl

  -- the one folder that names lead to has the path that they spell
  one_told : (names : List (List ℕ)) → list_all is_name names ≡ true → (f : ℕ) → ((k : ℕ) → leads k names ≡ (k == f)) → Some (Folder (record { 0 = f })) ≡ node_at t (spell_path names)
  one_told [] all f alone =
      let here : leads f [] ≡ true = alone f ∙ eq-eqb f f refl in
      (elim (folder_entry s 1) as (λ o. folder_entry s 1 ≡ o → Some (Folder (record { 0 = f })) ≡ node_at t (spell_path [])) [
        | None ↦ λ p. absurd (false≢true (sym (from_nothing p f (joined [])) ∙ here))
        | Some r ↦ λ p.
            let one : f ≡ 1 = eqb-true f 1 (sym (from_root r p f) ∙ here) in
            let stands : is_some (folder_entry s 1) ≡ true = ap (λ (o : Option FolderEntry). is_some o) p in
            ap (λ k. Some (Folder (record { 0 = k }))) one
            ∙ sym (ap (λ b. cond b (Some (Folder (record { 0 = 1 }))) None) stands)
            ∙ root_told s n tree (spell_path []) no_names
      ]) refl
  one_told (x ∷ xs) all f alone =
      let path : List ℕ = spell_path (x ∷ xs) in
      let form : is_path path ≡ true = (path_told path).1 (x ∷ xs, all, refl) in
      let spelled : path ≡ joined (x ∷ xs) = spelled_joined (x ∷ xs) (λ none. absurd (cc)) in
      let leads_here : (k : ℕ) → leads_to_folder t k path ≡ (k == f) = λ k. ap (leads_to_folder t k) spelled ∙ alone k in
      let spot : Spot = record { group = 0; id = f } in
      let rising : IsRising (λ (q : Spot). q.id) (spot ∷ []) = λ i j d lt within. absurd (omega (arith, lt, within)) in
      folder_told s n tree path form (names_apart x xs all) (spot ∷ []) rising
      (λ k passes. inl (eqb-true k f (sym (leads_here k) ∙ passes)))
      f (sym (ap (λ b. option_map (λ (q : Spot). q.id) (cond b (Some spot) None)) (leads_here f ∙ eq-eqb f f refl)))

  row_below : (test : ℕ → Bool) (name : List ℕ) (k : ℕ) (e : FolderEntry) → folder_entry s k ≡ Some e → is_below test name (folder_entry t k) ≡ (test e.parent && bytes_eq (name_in (title_at n.folders k)) name)
  row_below test name k e p =
      ap (is_below test name) (folder_named s n k ∙ ap (option_map (named_folder n)) p)
      ∙ ap (λ j. test e.parent && bytes_eq (name_in (title_at n.folders j)) name) (entry_id s k e p)

  file_row_below : (test : ℕ → Bool) (name : List ℕ) (k : ℕ) (e : FileEntry) → file_entry s k ≡ Some e → is_file_below test name (file_entry t k) ≡ (test e.folder && bytes_eq (name_in (title_at n.files k)) name)
  file_row_below test name k e p =
      ap (is_file_below test name) (file_named s n k ∙ ap (option_map (named_file n)) p)
      ∙ ap (λ j. test e.folder && bytes_eq (name_in (title_at n.files j)) name) (file_id s k e p)

  -- another name than the own one ends other bytes
  apart : (ns : List (List ℕ)) (name own : List ℕ) → is_name name ≡ true → free own ≡ true → bytes_eq own name ≡ false → (rest : List ℕ) → joined ns ++ 47 ∷ name ≢ rest ++ 47 ∷ own
  apart ns name own is clear other rest e =
      let same : name ≡ own = same_last (joined ns) name rest own (name_free name is) clear e in
      false≢true (sym other ∙ told_bytes own name (sym same))

  -- one name more
  pub one_down : (ns : List (List ℕ)) (test : ℕ → Bool) → ((k : ℕ) → leads k ns ≡ test k) → (name : List ℕ) → is_name name ≡ true → (k : ℕ) → leads k (ns ++ name ∷ []) ≡ is_below test name (folder_entry t k)
  one_down ns test at name is k =
      let left : List ℕ = joined ns ++ 47 ∷ name in
      let own : List ℕ = name_in (title_at n.folders k) in
      ap (leads_to_folder t k) (joined_push ns name)
      ∙ (elim (folder_entry s k) as (λ o. folder_entry s k ≡ o → leads_to_folder t k left ≡ is_below test name (folder_entry t k)) [
        | None ↦ λ p.
            let none : folder_entry t k ≡ None = folder_named s n k ∙ ap (option_map (named_folder n)) p in
            leads_nowhere t k left none ∙ ap (is_below test name) (sym none)
        | Some e ↦ λ p.
            (elim (k == 1) as (λ b. k == 1 ≡ b → leads_to_folder t k left ≡ (test e.parent && bytes_eq own name)) [
              | true ↦ λ u.
                  let one : k ≡ 1 = eqb-true k 1 u in
                  let above : test e.parent ≡ false = ap test ((parent_cases s tree k e p).0 one) ∙ sym (at 0) ∙ zero_off ns in
                  leads_told t k (named_folder n e) left (entry_named s n k e p)
                  ∙ ap (λ l. bytes_eq l left) (ap joined (root_names k e p one) ∙ joined_nothing)
                  ∙ none_short (joined ns) name
                  ∙ sym (ap (λ b. b && bytes_eq own name) above)
              | false ↦ λ u.
                  let up = (parent_cases s tree k e p).1 (λ one. false≢true (sym u ∙ eq-eqb k 1 one)) in
                  (elim (bytes_eq own name) as (λ b. bytes_eq own name ≡ b → leads_to_folder t k left ≡ (test e.parent && b)) [
                    | true ↦ λ w.
                        let cut : left ≡ joined ns ++ 47 ∷ own = ap (λ l. joined ns ++ 47 ∷ l) (sym (bytes_told own name w)) in
                        lead_step s n tree k e up.0 left (joined ns) p up.1 cut ∙ at e.parent ∙ sym (and_true (test e.parent))
                    | false ↦ λ w.
                        lead_none s n tree k e up.0 left p up.1 (apart ns name own is (title_free n.folders names k) w) ∙ sym (and_false (test e.parent))
                  ]) refl
            ]) refl
            ∙ sym (row_below test name k e p)
      ]) refl

  pub one_file_down : (ns : List (List ℕ)) (test : ℕ → Bool) → ((k : ℕ) → leads k ns ≡ test k) → (name : List ℕ) → is_name name ≡ true → (k : ℕ) → leads_to_file t k (joined (ns ++ name ∷ [])) ≡ is_file_below test name (file_entry t k)
  one_file_down ns test at name is k =
      let left : List ℕ = joined ns ++ 47 ∷ name in
      let own : List ℕ = name_in (title_at n.files k) in
      ap (leads_to_file t k) (joined_push ns name)
      ∙ (elim (file_entry s k) as (λ o. file_entry s k ≡ o → leads_to_file t k left ≡ is_file_below test name (file_entry t k)) [
        | None ↦ λ p. sym (no_file_leads s n k left p) ∙ ap (is_file_below test name) (sym (file_named s n k ∙ ap (option_map (named_file n)) p))
        | Some e ↦ λ p.
            (elim (bytes_eq own name) as (λ b. bytes_eq own name ≡ b → leads_to_file t k left ≡ (test e.folder && b)) [
              | true ↦ λ w.
                  let cut : left ≡ joined ns ++ 47 ∷ own = ap (λ l. joined ns ++ 47 ∷ l) (sym (bytes_told own name w)) in
                  sym (lead_file s n tree k e left (joined ns) p cut) ∙ at e.folder ∙ sym (and_true (test e.folder))
              | false ↦ λ w.
                  sym (lead_file_apart s n k e left p (apart ns name own is (title_free n.files files k) w)) ∙ sym (and_false (test e.folder))
            ]) refl
            ∙ sym (file_row_below test name k e p)
      ]) refl

  -- from nowhere one gets nowhere
  none_down : (ns : List (List ℕ)) → ((k : ℕ) → leads k ns ≡ false) → (xs : List (List ℕ)) → list_all is_name xs ≡ true → (k : ℕ) → leads k (ns ++ xs) ≡ false
  none_down ns none [] all k = ap (leads k) (append-nil ns) ∙ none k
  none_down ns none (x ∷ xs) all k =
      let both = and_parts (is_name x) (list_all is_name xs) all in
      ap (leads k) (sym (append_assoc ns (x ∷ []) xs))
      ∙ none_down (ns ++ x ∷ []) (λ j. one_down ns (λ _. false) none x both.0 j ∙ below_none x (folder_entry t j)) xs both.1 k

  module _ (path : List ℕ) (form : is_path path ≡ true) (other : is_root_path path ≡ false) where
    abbrev above : ℕ → Bool
    above k = leads k (front (names_of path))

    abbrev last : List ℕ
    last = last_name (names_of path)

    whole : path ≡ joined (front (names_of path) ++ last ∷ [])
    whole = (path_parts path form other).0 ∙ sym (joined_push (front (names_of path)) last)

    pub walk_start : (r : FolderEntry) → folder_entry s 1 ≡ Some r → (name : List ℕ) (rest : List (List ℕ)) → split_at_slashes (drop 1 path) ≡ name ∷ rest → Walked s n path 1 name rest
    walk_start r root name rest e = ([], names_split path form other ∙ e, from_root r root)

    pub walk_named : (here : ℕ) (name : List ℕ) (rest : List (List ℕ)) → Walked s n path here name rest → is_name name ≡ true
    walk_named here name rest w = (all_at w.0 name rest (ap (list_all is_name) (sym w.1) ∙ (names_all path form).0)).0

    pub walk_on : (here next : ℕ) (name piece : List ℕ) (rest : List (List ℕ)) → Walked s n path here name (piece ∷ rest) → IsWay (λ k. is_folder_in here name (folder_entry t k)) (At next) → Walked s n path next piece rest
    walk_on here next name piece rest w way = (
      w.0 ++ name ∷ [],
      w.1 ∙ sym (append_assoc w.0 (name ∷ []) (piece ∷ rest)),
      λ k. one_down w.0 (λ j. j == here) w.2 name (walk_named here name (piece ∷ rest) w) k ∙ below_one here name (folder_entry t k) ∙ way k,
    )

    pub walk_stops : (here : ℕ) (name piece : List ℕ) (rest : List (List ℕ)) (way : Way) → Walked s n path here name (piece ∷ rest) → IsWay (λ k. is_folder_in here name (folder_entry t k)) way → ((f : ℕ) → way ≡ At f → ⊥) → IsWay above way
    walk_stops here name piece rest Nowhere w none not_at = λ k.
        let off : (j : ℕ) → leads j (w.0 ++ name ∷ []) ≡ false = λ j. one_down w.0 (λ j. j == here) w.2 name (walk_named here name (piece ∷ rest) w) j ∙ below_one here name (folder_entry t j) ∙ none j in
        let all = (all_at w.0 name (piece ∷ rest) (ap (list_all is_name) (sym w.1) ∙ (names_all path form).0)).1 in
        ap (leads k) (ap front w.1 ∙ front_on w.0 name piece rest) ∙ none_down (w.0 ++ name ∷ []) off (front (piece ∷ rest)) (all_front (piece ∷ rest) all) k
    walk_stops here name piece rest (At f) w way not_at = absurd (not_at f refl)
    walk_stops here name piece rest Several w way not_at = tt

    pub walk_ends : (here : ℕ) (name : List ℕ) → Walked s n path here name [] → IsWay above (At here)
    walk_ends here name w = λ k. ap (leads k) (ap front w.1 ∙ front_push w.0 name) ∙ w.2 k

    -- the folder that alone has the names before the last has the path without it
    pub place_told : (f : ℕ) → IsWay above (At f) → Some (Folder (record { 0 = f })) ≡ node_at t (parent_path path)
    unfolding parent_path
    place_told f way = one_told (front (names_of path)) (all_front (names_of path) (names_all path form).0) f way

    -- in the folder that alone has the names before it, what has the last name has the path
    module _ (f : ℕ) (way : IsWay above (At f)) (name : List ℕ) (same : name ≡ last) where
      child_leads : (k : ℕ) → leads_to_folder t k path ≡ is_folder_in f name (folder_entry t k)
      child_leads k =
          ap (leads_to_folder t k) whole ∙ one_down (front (names_of path)) (λ j. j == f) way last (path_parts path form other).1 k ∙ below_one f last (folder_entry t k)
          ∙ ap (λ l. is_folder_in f l (folder_entry t k)) (sym same)

      file_leads : (k : ℕ) → leads_to_file t k path ≡ is_file_in f name (file_entry t k)
      file_leads k =
          ap (leads_to_file t k) whole ∙ one_file_down (front (names_of path)) (λ j. j == f) way last (path_parts path form other).1 k ∙ file_below_one f last (file_entry t k)
          ∙ ap (λ l. is_file_in f l (file_entry t k)) (sym same)

      folders_first : (spots : List Spot) → option_map (λ (q : Spot). q.id) (find (λ q. is_folder_in f name (folder_entry t q.id)) spots) ≡ option_map (λ (q : Spot). q.id) (find (λ q. leads_to_folder t q.id path) spots)
      folders_first spots = ap (option_map (λ (q : Spot). q.id)) (sym (find_alike Spot (λ q. leads_to_folder t q.id path) (λ q. is_folder_in f name (folder_entry t q.id)) (λ q. child_leads q.id) spots))

      pub child_told : (spots : List Spot) → IsRising (λ q. q.id) spots → HasTried (λ k. is_folder_in f name (folder_entry t k)) spots → (child : ℕ) → Some child ≡ option_map (λ (q : Spot). q.id) (find (λ q. is_folder_in f name (folder_entry t q.id)) spots) → Some (Folder (record { 0 = child })) ≡ node_at t path
      child_told spots rising all child found =
          folder_told s n tree path form other spots rising (λ k passes. all k (sym (child_leads k) ∙ passes)) child (found ∙ folders_first spots)

      pub file_child_told : (spots others : List Spot) → IsRising (λ q. q.id) spots → IsRising (λ q. q.id) others → HasTried (λ k. is_folder_in f name (folder_entry t k)) spots → HasTried (λ k. is_file_in f name (file_entry t k)) others
          → None ≡ option_map (λ (q : Spot). q.id) (find (λ q. is_folder_in f name (folder_entry t q.id)) spots) → (o : Option ℕ) → o ≡ option_map (λ (q : Spot). q.id) (find (λ q. is_file_in f name (file_entry t q.id)) others) → option_map as_file o ≡ node_at t path
      file_child_told spots others rising others_rising all others_all none o found =
          file_told s n tree path form other spots others rising others_rising
          (λ k passes. all k (sym (child_leads k) ∙ passes)) (λ k passes. others_all k (sym (file_leads k) ∙ passes))
          (none ∙ folders_first spots)
          o
          (found ∙ ap (option_map (λ (q : Spot). q.id)) (sym (find_alike Spot (λ q. leads_to_file t q.id path) (λ q. is_file_in f name (file_entry t q.id)) (λ q. file_leads q.id) others)))

    -- below no folder nothing has the path
    pub nothing_told : IsWay above Nowhere → None ≡ node_at t path
    nothing_told none =
        let at : (k : ℕ) → above k ≡ false = none in
        let is = (path_parts path form other).1 in
        let nothing : IsRising (λ (q : Spot). q.id) [] = λ i j d lt within. absurd (omega arith) in
        file_told s n tree path form other [] [] nothing nothing
        (λ k passes. absurd (false≢true (sym (ap (leads_to_folder t k) whole ∙ one_down (front (names_of path)) (λ _. false) at last is k ∙ below_none last (folder_entry t k)) ∙ passes)))
        (λ k passes. absurd (false≢true (sym (ap (leads_to_file t k) whole ∙ one_file_down (front (names_of path)) (λ _. false) at last is k ∙ file_below_none last (file_entry t k)) ∙ passes)))
        refl None refl
