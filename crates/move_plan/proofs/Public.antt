-- No edge and no change hangs on a name, a file's bytes or a holder's key.
use Rattle.std.proofs.Common.{◌≡◌, ℕ, Bool, true, false, cond, ◌==◌, List, [], ◌∷◌, ◌++◌, map, flat_map, Option, Some, None, refl, ap}
use Rattle.std.specs.List.{find, filter}
use Rattle.std.specs.Prelude.{◌||◌}
use Rattle.cry_base.specs.Clearances.{clear_number, file_of}
use Rattle.cry_base.specs.Sets.{has}
use Rattle.cry_base.specs.Stepping.{without_grant}
use Rattle.role_graph.specs.Roles.{same_role, folder_roles, clear_of, files_of, sub_of, back_of}
use Rattle.cry_base.specs.Store.{Store, FolderEntry, FileEntry, GrantEntry, folder_entry, file_entry}
use Rattle.cry_base.specs.declared.roles.Edge.{Edge}
use Rattle.cry_base.specs.declared.roles.Role.{Role}
use Rattle.role_graph.specs.Edges.{edge_before, in_order, folder_edges, parent_edges, grant_edge, file_edge, clearance_edges, has_grants, edges}
use Rattle.rekey_walk.specs.Strict.{strict_roles}
use Rattle.record_format.specs.Noted.{Note}
use Rattle.record_format.specs.Noted.Note.{Root, NewHolder, NewFolder, NewFile, Rewrite, NameFile, NameFolder, DropFile, DropFolder, ShiftFile, ShiftFolder, Give, Take, StrictRoot, Upgrade}
use Rattle.move_plan.specs.Change.{no_change, change_of, row_change, inner_roles, is_upgrade, strict_of, edges_at, folder_of_file, parent_of_folder}
use Rattle.move_plan.specs.Change.{clearance_in, edges_of_first, edges_with_file, given_on, roles_of_file, taken_from, without_roles}
use Rattle.move_plan.specs.Fitting.{public_of}

flat-map : (X Y : Type 0) (f : X → X) (g : X → List Y) → ((x : X) → g (f x) ≡ g x) → (xs : List X) → flat_map g (map f xs) ≡ flat_map g xs
flat-map X Y f g same [] = refl
flat-map X Y f g same (x ∷ xs) = λ i. same x i ++ flat-map X Y f g same xs i

map-map : (X Y : Type 0) (f : X → X) (g : X → Y) → ((x : X) → g (f x) ≡ g x) → (xs : List X) → map g (map f xs) ≡ map g xs
map-map X Y f g same [] = refl
map-map X Y f g same (x ∷ xs) = λ i. same x i ∷ map-map X Y f g same xs i

pub edges_public : (s : Store) → edges (public_of s) ≡ edges s
unfolding edges public_of has_grants
edges_public s =
    let own = flat-map FolderEntry Edge (λ e. record e { name = [] }) (λ e. folder_edges e.id) (λ e. refl) s.folders in
    let parents = flat-map FolderEntry Edge (λ e. record e { name = [] }) (λ e. cond (e.parent == 0) [] (parent_edges e.id e.parent)) (λ e. refl) s.folders in
    let files = map-map FileEntry Edge (λ e. record e { name = []; bytes = [] }) (λ e. file_edge e.folder e.id) (λ e. refl) s.files in
    let clear = flat-map FileEntry Edge (λ e. record e { name = []; bytes = [] }) (λ e. cond (has_grants s (clear_number e.id)) (clearance_edges e.folder e.id) []) (λ e. refl) s.files in
    λ i. in_order edge_before ((((own i ++ parents i) ++ map (λ (g : GrantEntry). grant_edge g.holder g.folder) s.grants) ++ files i) ++ clear i)

-- a folder's parent and a file's folder
parent_found : (f : ℕ) (xs : List FolderEntry) → elim (find (λ e. e.id == f) (map (λ (e : FolderEntry). record e { name = [] }) xs)) as (λ o. ℕ) [ None ↦ 0 | Some e ↦ e.parent ] ≡ elim (find (λ e. e.id == f) xs) as (λ o. ℕ) [ None ↦ 0 | Some e ↦ e.parent ]
parent_found f [] = refl
parent_found f (x ∷ xs) =
    elim (x.id == f) as (λ b. elim (cond b (Some (record x { name = [] })) (find (λ e. e.id == f) (map (λ (e : FolderEntry). record e { name = [] }) xs))) as (λ o. ℕ) [ None ↦ 0 | Some e ↦ e.parent ] ≡ elim (cond b (Some x) (find (λ e. e.id == f) xs)) as (λ o. ℕ) [ None ↦ 0 | Some e ↦ e.parent ]) [
      | true ↦ refl
      | false ↦ parent_found f xs
    ]

folder_found : (x : ℕ) (xs : List FileEntry) → elim (find (λ e. e.id == x) (map (λ (e : FileEntry). record e { name = []; bytes = [] }) xs)) as (λ o. ℕ) [ None ↦ 0 | Some e ↦ e.folder ] ≡ elim (find (λ e. e.id == x) xs) as (λ o. ℕ) [ None ↦ 0 | Some e ↦ e.folder ]
folder_found x [] = refl
folder_found x (y ∷ ys) =
    elim (y.id == x) as (λ b. elim (cond b (Some (record y { name = []; bytes = [] })) (find (λ e. e.id == x) (map (λ (e : FileEntry). record e { name = []; bytes = [] }) ys))) as (λ o. ℕ) [ None ↦ 0 | Some e ↦ e.folder ] ≡ elim (cond b (Some y) (find (λ e. e.id == x) ys)) as (λ o. ℕ) [ None ↦ 0 | Some e ↦ e.folder ]) [
      | true ↦ refl
      | false ↦ folder_found x ys
    ]

parent_public : (s : Store) (f : ℕ) → parent_of_folder (public_of s) f ≡ parent_of_folder s f
unfolding parent_of_folder folder_entry public_of
parent_public s f = parent_found f s.folders

folder_public : (s : Store) (x : ℕ) → folder_of_file (public_of s) x ≡ folder_of_file s x
unfolding folder_of_file file_entry public_of
folder_public s x = folder_found x s.files

at_public : (s : Store) (roles : List Role) → edges_at (public_of s) roles ≡ edges_at s roles
unfolding edges_at
at_public s roles = ap (λ (es : List Edge). filter (λ e. has same_role roles e.from || has same_role roles e.to) es) (edges_public s)

gone_public : (s : Store) (roles : List Role) → without_roles (public_of s) roles ≡ without_roles s roles
unfolding without_roles no_change
gone_public s roles = ap (λ es. record no_change { removed = es; gone = roles }) (at_public s roles)

given_public : (s : Store) (h f : ℕ) (file : Option ℕ) → given_on (public_of s) h f file ≡ given_on s h f file
unfolding given_on edges_of_first has_grants public_of no_change
given_public s h f None = refl
given_public s h f (Some x) =
    ap (λ q. cond (has_grants s f) (record no_change { added = grant_edge h f ∷ [] })
    (record no_change { fresh = clear_of f ∷ []; added = in_order edge_before (grant_edge h (clear_number x) ∷ clearance_edges q x) })) (folder_public s x)

taken_public : (s : Store) (h f : ℕ) (file : Option ℕ) → taken_from (public_of s) h f file ≡ taken_from s h f file
unfolding taken_from has_grants without_grant public_of
taken_public s h f None = refl
taken_public s h f (Some x) =
    ap (λ c. cond (has_grants (without_grant s h f) f) (record no_change { removed = grant_edge h f ∷ []; wanted = clear_of f ∷ [] }) c)
    (gone_public s (clear_of f ∷ []))

inner_public : (s : Store) → inner_roles (public_of s) ≡ inner_roles s
unfolding inner_roles clearance_in has_grants public_of
inner_public s =
    let clear = flat-map FileEntry Role (λ e. record e { name = []; bytes = [] }) (λ e. clearance_in s e.id) (λ e. refl) s.files in
    let each = λ (role : ℕ → Role). map-map FolderEntry Role (λ e. record e { name = [] }) (λ e. role e.id) (λ e. refl) s.folders in
    λ i. each clear_of i ++ (clear i ++ (each sub_of i ++ (each back_of i ++ each files_of i)))

row_public : (s : Store) (note : Note) → row_change (public_of s) note ≡ row_change s note
unfolding row_change no_change roles_of_file clearance_in edges_with_file has_grants public_of
row_public s Root = refl
row_public s (NewHolder h check) = refl
row_public s (NewFolder f p) = refl
row_public s (NewFile x f) = refl
row_public s (Rewrite x) = refl
row_public s (NameFile x) = refl
row_public s (NameFolder f) = refl
row_public s (DropFile x) = gone_public s (roles_of_file s x)
row_public s (DropFolder f) = gone_public s (folder_roles f)
row_public s (ShiftFile x g) =
    ap (λ f. record no_change { removed = edges_with_file s f x; wanted = files_of g ∷ clearance_in s x; added = edges_with_file s g x }) (folder_public s x)
row_public s (ShiftFolder g q) = ap (λ p. record no_change { removed = parent_edges g p; wanted = sub_of q ∷ back_of g ∷ []; added = parent_edges g q }) (parent_public s g)
row_public s (Give h f) = given_public s h f (file_of f)
row_public s (Take h f) = taken_public s h f (file_of f)
row_public s StrictRoot = refl
row_public s Upgrade = refl

pub change_public : (strict : Bool) (s : Store) (note : Note) → change_of strict (public_of s) note ≡ change_of strict s note
unfolding change_of strict_of
change_public strict s note =
    let row = row_public s note in
    λ i. record (row i) {
      strict = cond (is_upgrade note) (inner_public s i) (cond strict (strict_roles (edges_public s i) (row i).removed (row i).gone) []);
    }
