-- Which key leads to which. This project's own, docs/FORMAT.md, "Kinds of links".
use Rattle.std.specs.Prelude.{◌≡◌, ◌≢◌, ◌⊎◌, ℕ, Bool, cond, ◌&&◌, ◌||◌, nat_lt, ◌==◌, List, [], ◌∷◌, ◌++◌, map, flat_map, IsTrue}
use Rattle.std.specs.List.{list_any}
use Rattle.cry_base.specs.Clearances.{clear_number}
use Rattle.cry_base.specs.Sets.{In, Path, reach}
use Rattle.cry_base.specs.Store.{Store, FolderEntry, FileEntry, GrantEntry}
use Rattle.cry_base.specs.declared.roles.Edge.{Edge}
use Rattle.cry_base.specs.declared.roles.Role.{Role}
use Rattle.cry_base.specs.declared.roles.Role.TheVariants.{Owner}
use Rattle.role_graph.specs.Roles.{holder_role, clear_of, sub_of, back_of, files_of, data_of, file_role, role_id, same_role}

-- an edge of a kind
unfoldable pub edge : ℕ → Role → Role → Edge
edge kind from to = record { kind = kind; from = from; to = to }

-- whether a stands before b: by kind, then by the number that it is from, then by the number that it leads to
unfoldable pub edge_before : Edge → Edge → Bool
edge_before a b =
    nat_lt a.kind b.kind
    || (a.kind == b.kind && (nat_lt (role_id a.from) (role_id b.from)
    || (role_id a.from == role_id b.from && nat_lt (role_id a.to) (role_id b.to))))

-- the item at its place in a list that is in order, and a list put in order
unfoldable pub put_in_order : {X : Type 0} → (X → X → Bool) → X → List X → List X
put_in_order before x [] = x ∷ []
put_in_order before x (y ∷ ys) = cond (before y x) (y ∷ put_in_order before x ys) (x ∷ y ∷ ys)

unfoldable pub in_order : {X : Type 0} → (X → X → Bool) → List X → List X
in_order before [] = []
in_order before (x ∷ xs) = put_in_order before x (in_order before xs)

-- the edges of a folder within itself, and of a folder and its parent
unfoldable pub folder_edges : ℕ → List Edge
folder_edges f =
    edge 1 Owner (clear_of f)
    ∷ edge 3 (clear_of f) (sub_of f)
    ∷ edge 4 (sub_of f) (back_of f)
    ∷ edge 5 (sub_of f) (files_of f)
    ∷ edge 7 (back_of f) (data_of f)
    ∷ []

unfoldable pub parent_edges : ℕ → ℕ → List Edge
parent_edges f p = edge 6 (sub_of p) (sub_of f) ∷ edge 8 (back_of f) (back_of p) ∷ []

-- the edge of a grant, and of a file
unfoldable pub grant_edge : ℕ → ℕ → Edge
grant_edge h f = edge 2 (holder_role h) (clear_of f)

unfoldable pub file_edge : ℕ → ℕ → Edge
file_edge f x = edge 9 (files_of f) (file_role x)

-- the edges of file x's clearance key, where the file is in folder f
unfoldable pub clearance_edges : ℕ → ℕ → List Edge
clearance_edges f x =
    edge 1 Owner (clear_of (clear_number x))
    ∷ edge 10 (clear_of (clear_number x)) (file_role x)
    ∷ edge 11 (clear_of (clear_number x)) (back_of f)
    ∷ []

-- whether anybody has a grant on the number: a folder's, or a file's clearance number
unfoldable pub has_grants : Store → ℕ → Bool
has_grants s c = list_any (λ g. g.folder == c) s.grants

-- the edges of the eleven kinds, in their order. The root alone has no parent, and a file without a grant no clearance key
unfoldable pub edges : Store → List Edge
edges s = in_order edge_before (
    flat_map (λ e. folder_edges e.id) s.folders
    ++ flat_map (λ e. cond (e.parent == 0) [] (parent_edges e.id e.parent)) s.folders
    ++ map (λ g. grant_edge g.holder g.folder) s.grants
    ++ map (λ e. file_edge e.folder e.id) s.files
    ++ flat_map (λ e. cond (has_grants s (clear_number e.id)) (clearance_edges e.folder e.id) []) s.files)

-- the same, as the folders, the grants and the files come
unfoldable pub unordered : Store → List Edge
unordered s =
    flat_map (λ e. folder_edges e.id) s.folders
    ++ flat_map (λ e. cond (e.parent == 0) [] (parent_edges e.id e.parent)) s.folders
    ++ map (λ g. grant_edge g.holder g.folder) s.grants
    ++ map (λ e. file_edge e.folder e.id) s.files
    ++ flat_map (λ e. cond (has_grants s (clear_number e.id)) (clearance_edges e.folder e.id) []) s.files

-- the pairs of roles that edges join
unfoldable pub pairs_of : List Edge → List (Role × Role)
pairs_of es = map (λ e. (e.from, e.to)) es

-- a path of edges leads from the one role to the other
abbrev pub Reaches : List Edge → Role → Role → Type 0
Reaches es a b = Path (pairs_of es) a b

-- the roles that edges lead to from any of the roles, these included
unfoldable pub reach_along : List Edge → List Role → List Role
reach_along es roles = reach same_role (pairs_of es) roles

-- whether two edges are one
unfoldable pub same_edge : Edge → Edge → Bool
same_edge a b = a.kind == b.kind && same_role a.from b.from && same_role a.to b.to

-- the edge stands: within a folder, between a folder and its parent, for a grant, into a file from its folder, or at the
-- clearance key of a file with a grant
abbrev pub IsOwnEdge : Store → Edge → Type 0
IsOwnEdge s e = (f : FolderEntry) × In f s.folders × In e (folder_edges f.id)

abbrev pub IsParentEdge : Store → Edge → Type 0
IsParentEdge s e = (f : FolderEntry) × In f s.folders × (f.parent ≢ 0) × In e (parent_edges f.id f.parent)

abbrev pub IsGrantEdge : Store → Edge → Type 0
IsGrantEdge s e = (g : GrantEntry) × In g s.grants × (e ≡ grant_edge g.holder g.folder)

abbrev pub IsFileEdge : Store → Edge → Type 0
IsFileEdge s e = (x : FileEntry) × In x s.files × (e ≡ file_edge x.folder x.id)

abbrev pub IsClearanceEdge : Store → Edge → Type 0
IsClearanceEdge s e = (x : FileEntry) × In x s.files × IsTrue (has_grants s (clear_number x.id)) × In e (clearance_edges x.folder x.id)

abbrev pub IsEdge : Store → Edge → Type 0
IsEdge s e = IsOwnEdge s e ⊎ (IsParentEdge s e ⊎ (IsGrantEdge s e ⊎ (IsFileEdge s e ⊎ IsClearanceEdge s e)))
