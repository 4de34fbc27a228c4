-- The kinds of edges are the rows of the table.
use Rattle.std.proofs.Common.{◌≡◌, ℕ, true, [], ◌∷◌, inl, inr, ⊎_elim, refl, sym, subst}
use Rattle.cry_base.specs.Clearances.{clear_number}
use Rattle.cry_base.specs.Sets.{In}
use Rattle.cry_base.specs.Store.{Store, FolderEntry, FileEntry, GrantEntry, root_store}
use Rattle.cry_base.specs.declared.roles.Edge.{Edge}
use Rattle.cry_base.specs.declared.roles.Role.{Role}
use Rattle.cry_base.specs.declared.roles.Role.TheVariants.{Owner}
use Rattle.kind_table.specs.Kinds.{kind_of}
use Rattle.kind_table.specs.Rows.{kinds_row}
use Rattle.kind_table.specs.declared.kinds.RoleKind.TheVariants as kind
use Rattle.kind_table.specs.declared.eleven.TheConstants.{ELEVEN}
use Rattle.kind_table.specs.declared.table.Row.{Row}
use Rattle.role_graph.specs.Edges.{edge, folder_edges, parent_edges, grant_edge, file_edge, clearance_edges, has_grants, edges}
use Rattle.role_graph.specs.Edges.{IsOwnEdge, IsParentEdge, IsGrantEdge, IsFileEdge, IsClearanceEdge, IsEdge}
use Rattle.role_graph.specs.Roles.{holder_role, clear_of, sub_of, back_of, files_of, data_of, file_role}
use Rattle.role_graph.specs.Tabled.{row_of}
use Rattle.role_graph.proofs.Edging.{edges_told}

-- ---- each edge has a row

abbrev HasRow : Edge → Type 0
HasRow e = In (row_of e) ELEVEN.rows

own_row : (f : ℕ) (e : Edge) → In e (folder_edges f) → HasRow e
unfolding row_of folder_edges edge kind_of clear_of sub_of back_of files_of data_of
own_row f e i = ⊎_elim
    (λ s. subst HasRow (sym s) (inl refl))
    (λ a. ⊎_elim (λ s. subst HasRow (sym s) (inr (inr (inl refl))))
    (λ b. ⊎_elim (λ s. subst HasRow (sym s) (inr (inr (inr (inl refl)))))
    (λ c. ⊎_elim (λ s. subst HasRow (sym s) (inr (inr (inr (inr (inl refl))))))
    (λ d. ⊎_elim (λ s. subst HasRow (sym s) (inr (inr (inr (inr (inr (inr (inl refl)))))))) (λ n. absurd n) d) c) b) a) i

parent_row : (f p : ℕ) (e : Edge) → In e (parent_edges f p) → HasRow e
unfolding row_of parent_edges edge kind_of sub_of back_of
parent_row f p e i = ⊎_elim
    (λ s. subst HasRow (sym s) (inr (inr (inr (inr (inr (inl refl)))))))
    (λ a. ⊎_elim (λ s. subst HasRow (sym s) (inr (inr (inr (inr (inr (inr (inr (inl refl))))))))) (λ n. absurd n) a) i

grant_row : (h f : ℕ) → HasRow (grant_edge h f)
unfolding row_of grant_edge edge kind_of holder_role clear_of
grant_row h f = inr (inl refl)

file_row : (f x : ℕ) → HasRow (file_edge f x)
unfolding row_of file_edge edge kind_of files_of file_role
file_row f x = inr (inr (inr (inr (inr (inr (inr (inr (inl refl))))))))

clearance_row : (f x : ℕ) (e : Edge) → In e (clearance_edges f x) → HasRow e
unfolding row_of clearance_edges edge kind_of clear_of back_of file_role
clearance_row f x e i = ⊎_elim
    (λ s. subst HasRow (sym s) (inl refl))
    (λ a. ⊎_elim (λ s. subst HasRow (sym s) (inr (inr (inr (inr (inr (inr (inr (inr (inr (inl refl)))))))))))
    (λ b. ⊎_elim (λ s. subst HasRow (sym s) (inr (inr (inr (inr (inr (inr (inr (inr (inr (inr (inl refl)))))))))))) (λ n. absurd n) b) a) i

pub each_edge : (s : Store) (e : Edge) → In e (edges s) → In (row_of e) ELEVEN.rows
each_edge s e i = ⊎_elim
    (λ (o : IsOwnEdge s e). own_row o.0.id e o.2)
    (λ v. ⊎_elim
    (λ (p : IsParentEdge s e). parent_row p.0.id p.0.parent e p.3)
    (λ u. ⊎_elim
    (λ (g : IsGrantEdge s e). subst HasRow (sym g.2) (grant_row g.0.holder g.0.folder))
    (λ t. ⊎_elim
    (λ (x : IsFileEdge s e). subst HasRow (sym x.2) (file_row x.0.folder x.0.id))
    (λ (x : IsClearanceEdge s e). clearance_row x.0.folder x.0.id e x.3) t) u) v)
    ((edges_told s e).0 i)

-- ---- each row has an edge

-- a folder in the root with a file in it, and a grant on either
top : FolderEntry
top = record { id = 1; parent = 0; name = [] }

child : FolderEntry
child = record { id = 2; parent = 1; name = [] }

given : GrantEntry
given = record { holder = 1; folder = 2 }

only_file : GrantEntry
only_file = record { holder = 2; folder = clear_number 1 }

leaf : FileEntry
leaf = record { id = 1; folder = 2; name = []; bytes = [] }

small : Store
small = record root_store { folders = top ∷ child ∷ []; grants = given ∷ only_file ∷ []; files = leaf ∷ [] }

abbrev HasEdge : Row → Type 0
HasEdge r = (s : Store) × (e : Edge) × In e (edges s) × (row_of e ≡ r)

has_edge : (e : Edge) → IsEdge small e → HasEdge (row_of e)
has_edge e stands = (small, e, (edges_told small e).1 stands, refl)

one_is_no_zero : ◌≡◌ {A = ℕ} 1 0 → ⊥
one_is_no_zero e = cc

own_edge : (number : ℕ) (a b : Role) → In (edge number a b) (folder_edges 1) → HasEdge (kinds_row number (kind_of a) (kind_of b))
unfolding small top row_of edge
own_edge number a b place = has_edge (edge number a b) (inl (top, inl refl, place))

parent_edge : (number : ℕ) (a b : Role) → In (edge number a b) (parent_edges 2 1) → HasEdge (kinds_row number (kind_of a) (kind_of b))
unfolding small child row_of edge
parent_edge number a b place = has_edge (edge number a b) (inr (inl (child, inr (inl refl), one_is_no_zero, place)))

grants_edge : HasEdge (kinds_row 2 kind.Holder kind.Clear)
unfolding small given row_of grant_edge edge kind_of holder_role clear_of
grants_edge = has_edge (grant_edge 1 2) (inr (inr (inl (given, inl refl, refl))))

files_edge : HasEdge (kinds_row 9 kind.Files kind.File)
unfolding small leaf row_of file_edge edge kind_of files_of file_role
files_edge = has_edge (file_edge 2 1) (inr (inr (inr (inl (leaf, inl refl, refl)))))

is_granted : has_grants small (clear_number 1) ≡ true
unfolding has_grants small given only_file
is_granted = refl

clearance_edge : (number : ℕ) (a b : Role) → In (edge number a b) (clearance_edges 2 1) → HasEdge (kinds_row number (kind_of a) (kind_of b))
unfolding small leaf row_of edge
clearance_edge number a b place = has_edge (edge number a b) (inr (inr (inr (inr (leaf, inl refl, is_granted, place)))))

pub each_row : (r : Row) → In r ELEVEN.rows → HasEdge r
unfolding folder_edges parent_edges clearance_edges kind_of clear_of sub_of back_of files_of data_of file_role
each_row r here =
    let is : (q : Row) → HasEdge q → r ≡ q → HasEdge r = λ q stands e. subst HasEdge (sym e) stands in
    ⊎_elim (is _ (own_edge 1 Owner (clear_of 1) (inl refl)))
    (λ a. ⊎_elim (is _ grants_edge)
    (λ b. ⊎_elim (is _ (own_edge 3 (clear_of 1) (sub_of 1) (inr (inl refl))))
    (λ c. ⊎_elim (is _ (own_edge 4 (sub_of 1) (back_of 1) (inr (inr (inl refl)))))
    (λ d. ⊎_elim (is _ (own_edge 5 (sub_of 1) (files_of 1) (inr (inr (inr (inl refl))))))
    (λ f. ⊎_elim (is _ (parent_edge 6 (sub_of 1) (sub_of 2) (inl refl)))
    (λ g. ⊎_elim (is _ (own_edge 7 (back_of 1) (data_of 1) (inr (inr (inr (inr (inl refl)))))))
    (λ h. ⊎_elim (is _ (parent_edge 8 (back_of 2) (back_of 1) (inr (inl refl))))
    (λ i. ⊎_elim (is _ files_edge)
    (λ j. ⊎_elim (is _ (clearance_edge 10 (clear_of (clear_number 1)) (file_role 1) (inr (inl refl))))
    (λ k. ⊎_elim (is _ (clearance_edge 11 (clear_of (clear_number 1)) (back_of 2) (inr (inr (inl refl))))) (λ n. absurd n) k) j) i) h) g) f) d) c) b) a) here
