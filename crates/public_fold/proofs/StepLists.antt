-- Lists of roles, keys and links, built item by item.
use Rattle.std.proofs.Common.{◌≡◌, ℕ, ◌+◌, ◌<◌, ◌≤◌, true, false, cond, not, ◌&&◌, ◌||◌, List, [], ◌∷◌, ◌++◌, length, get_or, drop, map, Some, None, refl, sym, ap, ◌∙◌, arith}
use Rattle.std.specs.List.{list_any}
use Rattle.std.proofs.lemmas.List.{append_assoc, append-nil, at_drop_more, at_drop_all}
use Rattle.cry_base.specs.Sets.{has}
use Rattle.cry_base.specs.declared.roles.Edge.{Edge}
use Rattle.cry_base.specs.declared.roles.Role.{Role}
use Rattle.folder_nodes.proofs.Joined.{eq_turned}
use Rattle.role_graph.specs.Ascending.{without_role}
use Rattle.role_graph.specs.Roles.{variant_of, role_id, same_role}
use Rattle.rekey_walk.specs.Dirty.{mark, mark_all}
use Rattle.public_fold.specs.KeyStep.{link_of, links_from, newest, numbered, without}
use Rattle.public_fold.specs.Records.{Link}

same_turned : (a b : Role) → same_role a b ≡ same_role b a
unfolding same_role
same_turned a b = λ i. eq_turned (variant_of a) (variant_of b) i && eq_turned (role_id a) (role_id b) i

-- the roles that are left without one, and then without the others
cleaned : (r : Role) (rs dirty : List Role) → without same_role (r ∷ rs) dirty ≡ without same_role rs (without_role r dirty)
unfolding without without_role has
cleaned r rs [] = refl
cleaned r rs (q ∷ qs) =
    ap (λ t. cond (not (t || list_any (same_role q) rs)) (q ∷ without same_role (r ∷ rs) qs) (without same_role (r ∷ rs) qs)) (same_turned q r)
    ∙ (elim (same_role r q) as (λ b. cond (not (b || list_any (same_role q) rs)) (q ∷ without same_role (r ∷ rs) qs) (without same_role (r ∷ rs) qs) ≡ without same_role rs (cond (not b) (q ∷ without_role r qs) (without_role r qs))) [
      | true ↦ cleaned r rs qs
      | false ↦ ap (λ l. cond (not (list_any (same_role q) rs)) (q ∷ l) l) (cleaned r rs qs)
    ])

pub cleaned_all : (dirty : List Role) → without same_role [] dirty ≡ dirty
unfolding without has
cleaned_all [] = refl
cleaned_all (q ∷ qs) = ap (λ l. q ∷ l) (cleaned_all qs)

pub cleaned_more : (roles dirty : List Role) (i : ℕ) (d : Role) → i < length roles → without same_role (drop (i + 1) roles) (without_role (get_or roles i d) dirty) ≡ without same_role (drop i roles) dirty
cleaned_more roles dirty i d h =
    sym (cleaned (get_or roles i d) (drop (i + 1) roles) dirty) ∙ sym (at_drop_more (λ l. without same_role l dirty) roles i d h)

-- all behind one removed edge, and then all behind the others
pub marked_more : (dirty : List Role) (before removed : List Edge) (i : ℕ) (d : Edge) → i < length removed
    → mark_all (mark dirty before (get_or removed i d).to) before (map (λ (e : Edge). e.to) (drop (i + 1) removed)) ≡ mark_all dirty before (map (λ (e : Edge). e.to) (drop i removed))
unfolding mark_all
marked_more dirty before removed i d h = sym (at_drop_more (λ (l : List Edge). mark_all dirty before (map (λ (e : Edge). e.to) l)) removed i d h)

pub marked_all : (dirty : List Role) (before removed : List Edge) (i : ℕ) → length removed ≤ i → mark_all dirty before (map (λ (e : Edge). e.to) (drop i removed)) ≡ dirty
unfolding mark_all
marked_all dirty before removed i h = at_drop_all (λ (l : List Edge). mark_all dirty before (map (λ (e : Edge). e.to) l)) removed i h

-- what is numbered, and the next one behind it
pub numbered_more : (X : Type 0) (done : List (X × ℕ)) (xs : List X) (n i : ℕ) (d : X) → i < length xs
    → (done ++ (get_or xs i d, n) ∷ []) ++ numbered (n + 1) (drop (i + 1) xs) ≡ done ++ numbered n (drop i xs)
unfolding numbered
numbered_more X done xs n i d h =
    append_assoc done ((get_or xs i d, n) ∷ []) (numbered (n + 1) (drop (i + 1) xs)) ∙ ap (λ l. done ++ l) (sym (at_drop_more (λ (l : List X). numbered n l) xs i d h))

pub numbered_all : (X : Type 0) (done : List (X × ℕ)) (xs : List X) (n i : ℕ) → length xs ≤ i → done ++ numbered n (drop i xs) ≡ done
unfolding numbered
numbered_all X done xs n i h = ap (λ l. done ++ l) (at_drop_all (λ (l : List X). numbered n l) xs i h) ∙ append-nil done

-- what is numbered in two parts, of which the other one goes on behind the one
pub numbered_apart : (X : Type 0) (n : ℕ) (xs ys : List X) → numbered n (xs ++ ys) ≡ numbered n xs ++ numbered (n + length xs) ys
unfolding numbered
numbered_apart X n [] ys = let e : n ≡ n + 0 = omega arith in ap (λ m. numbered m ys) e
numbered_apart X n (x ∷ xs) ys =
    let e : n + 1 + length xs ≡ n + length (x ∷ xs) = omega arith in
    ap (λ l. (x, n) ∷ l) (numbered_apart X (n + 1) xs ys ∙ ap (λ m. numbered (n + 1) xs ++ numbered m ys) e)

pub linked_more : (keys : List (Role × ℕ)) (done : List Link) (es : List Edge) (n i : ℕ) (d : Edge) → i < length es
    → (done ++ link_of keys (get_or es i d, n) ∷ []) ++ links_from keys (n + 1) (drop (i + 1) es) ≡ done ++ links_from keys n (drop i es)
unfolding links_from numbered
linked_more keys done es n i d h =
    append_assoc done (link_of keys (get_or es i d, n) ∷ []) (links_from keys (n + 1) (drop (i + 1) es)) ∙ ap (λ l. done ++ l) (sym (at_drop_more (λ (l : List Edge). links_from keys n l) es i d h))

pub linked_all : (keys : List (Role × ℕ)) (done : List Link) (es : List Edge) (n i : ℕ) → length es ≤ i → done ++ links_from keys n (drop i es) ≡ done
unfolding links_from numbered
linked_all keys done es n i h = ap (λ l. done ++ l) (at_drop_all (λ (l : List Edge). links_from keys n l) es i h) ∙ append-nil done

-- the newest serial among the keys that are left
pub newest_more : (keys : List (Role × ℕ)) (r : Role) (i : ℕ) (d : Role × ℕ) → i < length keys → same_role (get_or keys i d).0 r ≡ false → newest (drop (i + 1) keys) r ≡ newest (drop i keys) r
unfolding newest
newest_more keys r i d h other =
    sym (at_drop_more (λ (l : List (Role × ℕ)). newest l r) keys i d h
    ∙ (λ j. cond (other j) (Some (get_or keys i d).1) (newest (drop (i + 1) keys) r)))

pub newest_here : (keys : List (Role × ℕ)) (r : Role) (i : ℕ) (d : Role × ℕ) → i < length keys → same_role (get_or keys i d).0 r ≡ true → newest (drop i keys) r ≡ Some (get_or keys i d).1
unfolding newest
newest_here keys r i d h same =
    at_drop_more (λ (l : List (Role × ℕ)). newest l r) keys i d h
    ∙ (λ j. cond (same j) (Some (get_or keys i d).1) (newest (drop (i + 1) keys) r))

pub newest_none : (keys : List (Role × ℕ)) (r : Role) (i : ℕ) → length keys ≤ i → newest (drop i keys) r ≡ None
unfolding newest
newest_none keys r i h = at_drop_all (λ (l : List (Role × ℕ)). newest l r) keys i h

-- nothing is left to clean
pub cleaned_end : (roles dirty : List Role) (i : ℕ) → length roles ≤ i → without same_role (drop i roles) dirty ≡ dirty
cleaned_end roles dirty i h = at_drop_all (λ l. without same_role l dirty) roles i h ∙ cleaned_all dirty

-- a key at its place among the others, by what is read of it
pub newest_read : (keys : List (Role × ℕ)) (r : Role) (i : ℕ) (key : Role × ℕ) (role : Role) (n : ℕ) → i < length keys → key ≡ get_or keys i key → (role, n) ≡ key
    → same_role role r ≡ true → newest (drop i keys) r ≡ newest keys r → Some n ≡ newest keys r
newest_read keys r i key role n h at view same so_far =
    let here : (role, n) ≡ get_or keys i key = view ∙ at in
    ap (λ (k : Role × ℕ). Some k.1) here
    ∙ sym (newest_here keys r i key h (sym (ap (λ (k : Role × ℕ). same_role k.0 r) here) ∙ same))
    ∙ so_far

pub newest_past : (keys : List (Role × ℕ)) (r : Role) (i : ℕ) (key : Role × ℕ) (role : Role) (n : ℕ) → i < length keys → key ≡ get_or keys i key → (role, n) ≡ key
    → same_role role r ≡ false → newest (drop i keys) r ≡ newest keys r → newest (drop (i + 1) keys) r ≡ newest keys r
newest_past keys r i key role n h at view other so_far =
    let here : (role, n) ≡ get_or keys i key = view ∙ at in
    newest_more keys r i key h (sym (ap (λ (k : Role × ℕ). same_role k.0 r) here) ∙ other) ∙ so_far
