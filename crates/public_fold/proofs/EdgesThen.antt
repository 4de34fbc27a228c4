-- The edges of a step are those of the store after its command.
use Rattle.std.proofs.Common.{◌≡◌, ℕ, Bool, true, false, cond, not, ◌==◌, ◌||◌, ◌⊎◌, ◌↔◌, List, ◌++◌, inl, inr, ⊎_elim, refl, sym, ap, ◌∙◌, subst}
use Rattle.std.proofs.lemmas.Bool.{eqb-true, eq-eqb, or_cases, or_left, or_right, not-true, not_from_false, false≢true, cases_Bool}
use Rattle.cry_base.specs.Clearances.{clear_number}
use Rattle.cry_base.specs.Sets.{In, has}
use Rattle.cry_base.specs.Store.{Store, FolderEntry, FileEntry, GrantEntry}
use Rattle.cry_base.specs.declared.roles.Edge.{Edge}
use Rattle.cry_base.specs.declared.roles.Role.{Role}
use Rattle.cry_base.proofs.Members.{In-any, In-append, In-filter, filter-In}
use Rattle.cry_base.proofs.Reaching.{has-in, in-has}
use Rattle.role_graph.specs.Roles.{same_role, role_id, holder_role, clear_of, sub_of, back_of, file_role, folder_roles}
use Rattle.role_graph.specs.Edges.{edge, same_edge, edge_before, folder_edges, parent_edges, grant_edge, file_edge, clearance_edges, has_grants, edges}
use Rattle.role_graph.specs.Edges.{IsOwnEdge, IsParentEdge, IsGrantEdge, IsFileEdge, IsClearanceEdge, IsEdge}
use Rattle.role_graph.proofs.AtEnds.{same_edge_tells}
use Rattle.role_graph.proofs.Comparing.{same_role_tells}
use Rattle.role_graph.proofs.Edging.{In-order, edges_told}
use Rattle.move_plan.specs.Change.{Change, edges_at}
use Rattle.public_fold.specs.KeyStep.{without, edges_left, edges_then}

-- what is left, and what comes
abbrev pub IsThen : Store → Change → Edge → Type 0
IsThen s c e = (IsEdge s e × (In e c.removed → ⊥)) ⊎ In e c.added

pub left_told : (before : List Edge) (c : Change) (e : Edge) → In e (edges_left before c) ↔ (In e before × (In e c.removed → ⊥))
unfolding edges_left without
left_told before c e = (
  λ i. let w = In-filter Edge (λ x. not (has same_edge c.removed x)) e before i in
      (w.0, λ r. false≢true (sym (not-true (has same_edge c.removed e) w.1) ∙ in-has Edge same_edge same_edge_tells c.removed e r)),
  λ w. filter-In Edge (λ x. not (has same_edge c.removed x)) e before w.0 (⊎_elim
      (λ t. absurd (w.1 (has-in Edge same_edge same_edge_tells c.removed e t)))
      (λ t. not_from_false (has same_edge c.removed e) t)
      (cases_Bool (has same_edge c.removed e))),
)

pub then_told : (s : Store) (c : Change) (e : Edge) → In e (edges_then (edges s) c) ↔ IsThen s c e
unfolding edges_then
then_told s c e =
    let sorted = In-order Edge edge_before e (edges_left (edges s) c ++ c.added) in
    let both = In-append Edge e (edges_left (edges s) c) c.added in
    let left = left_told (edges s) c e in (
      λ i. ⊎_elim (λ a. let w = left.0 a in inl ((edges_told s e).0 w.0, w.1)) (λ b. inr b) (both.0 (sorted.0 i)),
      λ w. sorted.1 (both.1 (⊎_elim (λ a. inl (left.1 ((edges_told s e).1 a.0, a.1))) (λ b. inr b) w)),
    )

-- an edge by what it is of
pub edge_cases : (P : Type 0) (s : Store) (e : Edge) → (IsOwnEdge s e → P) → (IsParentEdge s e → P) → (IsGrantEdge s e → P) → (IsFileEdge s e → P)
    → (IsClearanceEdge s e → P) → IsEdge s e → P
edge_cases P s e own parent grant file clear w = ⊎_elim own (λ v. ⊎_elim parent (λ u. ⊎_elim grant (λ t. ⊎_elim file clear t) u) v) w

pub own_is : (s : Store) (e : Edge) → IsOwnEdge s e → IsEdge s e
own_is s e w = inl w

pub parent_is : (s : Store) (e : Edge) → IsParentEdge s e → IsEdge s e
parent_is s e w = inr (inl w)

pub grant_is : (s : Store) (e : Edge) → IsGrantEdge s e → IsEdge s e
grant_is s e w = inr (inr (inl w))

pub file_is : (s : Store) (e : Edge) → IsFileEdge s e → IsEdge s e
file_is s e w = inr (inr (inr (inl w)))

pub clear_is : (s : Store) (e : Edge) → IsClearanceEdge s e → IsEdge s e
clear_is s e w = inr (inr (inr (inr w)))

-- a number has grants where one of them is on it
pub grants_told : (s : Store) (c : ℕ) → (has_grants s c ≡ true) ↔ ((g : GrantEntry) × In g s.grants × (g.folder ≡ c))
unfolding has_grants
grants_told s c = In-any GrantEntry (λ g. g.folder == c) (λ g. g.folder ≡ c) (λ g. (λ t. eqb-true g.folder c t, λ e. eq-eqb g.folder c e)) s.grants

pub grants_on : (s t : Store) (c : ℕ) → ((g : GrantEntry) → In g s.grants → In g t.grants) → has_grants s c ≡ true → has_grants t c ≡ true
grants_on s t c more has = let w = (grants_told s c).0 has in (grants_told t c).1 (w.0, more w.0 w.1, w.2)

-- rows that tell the same edges
pub edges_along : (s t : Store) → ((f : FolderEntry) → In f s.folders → (g : FolderEntry) × In g t.folders × (g.id ≡ f.id) × (g.parent ≡ f.parent)) → ((g : GrantEntry) → In g s.grants → In g t.grants)
    → ((x : FileEntry) → In x s.files → (y : FileEntry) × In y t.files × (y.id ≡ x.id) × (y.folder ≡ x.folder)) → (e : Edge) → IsEdge s e → IsEdge t e
edges_along s t folders grants files e w = edge_cases (IsEdge t e) s e
    (λ o. let g = folders o.0 o.1 in own_is t e (g.0, g.1, subst (λ n. In e (folder_edges n)) (sym g.2) o.2))
    (λ p. let g = folders p.0 p.1 in
    parent_is t e (g.0, g.1, (λ z. p.2 (sym g.3 ∙ z)), subst (λ n. In e (parent_edges n g.0.parent)) (sym g.2) (subst (λ n. In e (parent_edges p.0.id n)) (sym g.3) p.3)))
    (λ g. grant_is t e (g.0, grants g.0 g.1, g.2))
    (λ x. let y = files x.0 x.1 in file_is t e (y.0, y.1, x.2 ∙ ap (λ n. file_edge n x.0.id) (sym y.3) ∙ ap (file_edge y.0.folder) (sym y.2)))
    (λ x. let y = files x.0 x.1 in clear_is t e (
      y.0,
      y.1,
      subst (λ n. has_grants t (clear_number n) ≡ true) (sym y.2) (grants_on s t (clear_number x.0.id) grants x.2),
      subst (λ n. In e (clearance_edges n y.0.id)) (sym y.3) (subst (λ n. In e (clearance_edges x.0.folder n)) (sym y.2) x.3),
    ))
    w

-- kinds: whether an edge is a folder's own, one between a folder and its parent, a grant's, a file's
unfoldable pub is_kind : ℕ → Edge → Bool
is_kind k e = e.kind == k

pub is_parent_kind : Edge → Bool
is_parent_kind e = e.kind == 6 || e.kind == 8

pub own_no_file : (f : ℕ) (e : Edge) → In e (folder_edges f) → is_kind 9 e ≡ false
unfolding folder_edges edge is_kind
own_no_file f e i = ⊎_elim (λ s. ap (is_kind 9) s)
    (λ a. ⊎_elim (λ s. ap (is_kind 9) s)
    (λ b. ⊎_elim (λ s. ap (is_kind 9) s)
    (λ c. ⊎_elim (λ s. ap (is_kind 9) s)
    (λ d. ⊎_elim (λ s. ap (is_kind 9) s) (λ n. absurd n) d) c) b) a) i

pub own_no_grant : (f : ℕ) (e : Edge) → In e (folder_edges f) → is_kind 2 e ≡ false
unfolding folder_edges edge is_kind
own_no_grant f e i = ⊎_elim (λ s. ap (is_kind 2) s)
    (λ a. ⊎_elim (λ s. ap (is_kind 2) s)
    (λ b. ⊎_elim (λ s. ap (is_kind 2) s)
    (λ c. ⊎_elim (λ s. ap (is_kind 2) s)
    (λ d. ⊎_elim (λ s. ap (is_kind 2) s) (λ n. absurd n) d) c) b) a) i

pub own_no_parent : (f : ℕ) (e : Edge) → In e (folder_edges f) → is_parent_kind e ≡ false
unfolding folder_edges edge is_parent_kind
own_no_parent f e i = ⊎_elim (λ s. ap is_parent_kind s)
    (λ a. ⊎_elim (λ s. ap is_parent_kind s)
    (λ b. ⊎_elim (λ s. ap is_parent_kind s)
    (λ c. ⊎_elim (λ s. ap is_parent_kind s)
    (λ d. ⊎_elim (λ s. ap is_parent_kind s) (λ n. absurd n) d) c) b) a) i

pub parent_kind : (f p : ℕ) (e : Edge) → In e (parent_edges f p) → is_parent_kind e ≡ true
unfolding parent_edges edge is_parent_kind
parent_kind f p e i = ⊎_elim (λ s. ap is_parent_kind s) (λ a. ⊎_elim (λ s. ap is_parent_kind s) (λ n. absurd n) a) i

pub parent_no_file : (f p : ℕ) (e : Edge) → In e (parent_edges f p) → is_kind 9 e ≡ false
unfolding parent_edges edge is_kind
parent_no_file f p e i = ⊎_elim (λ s. ap (is_kind 9) s) (λ a. ⊎_elim (λ s. ap (is_kind 9) s) (λ n. absurd n) a) i

pub parent_no_grant : (f p : ℕ) (e : Edge) → In e (parent_edges f p) → is_kind 2 e ≡ false
unfolding parent_edges edge is_kind
parent_no_grant f p e i = ⊎_elim (λ s. ap (is_kind 2) s) (λ a. ⊎_elim (λ s. ap (is_kind 2) s) (λ n. absurd n) a) i

pub file_kind : (f x : ℕ) (e : Edge) → e ≡ file_edge f x → (is_kind 9 e ≡ true) × (is_kind 2 e ≡ false) × (is_parent_kind e ≡ false)
unfolding file_edge edge is_kind is_parent_kind
file_kind f x e s = (ap (is_kind 9) s, ap (is_kind 2) s, ap is_parent_kind s)

pub grant_kind : (h f : ℕ) (e : Edge) → e ≡ grant_edge h f → (is_kind 2 e ≡ true) × (is_kind 9 e ≡ false) × (is_parent_kind e ≡ false)
unfolding grant_edge edge is_kind is_parent_kind
grant_kind h f e s = (ap (is_kind 2) s, ap (is_kind 9) s, ap is_parent_kind s)

pub clear_kind : (f x : ℕ) (e : Edge) → In e (clearance_edges f x) → (is_kind 9 e ≡ false) × (is_kind 2 e ≡ false) × (is_parent_kind e ≡ false)
unfolding clearance_edges edge is_kind is_parent_kind
clear_kind f x e i = ⊎_elim (λ s. (ap (is_kind 9) s, ap (is_kind 2) s, ap is_parent_kind s))
    (λ a. ⊎_elim (λ s. (ap (is_kind 9) s, ap (is_kind 2) s, ap is_parent_kind s))
    (λ b. ⊎_elim (λ s. (ap (is_kind 9) s, ap (is_kind 2) s, ap is_parent_kind s)) (λ n. absurd n) b) a) i

pub apart : (t : Bool) → t ≡ false → t ≡ true → ⊥
apart t a b = false≢true (sym a ∙ b)

-- the numbers that an edge names
pub file_edge-id : (f g x y : ℕ) → file_edge f x ≡ file_edge g y → x ≡ y
unfolding file_edge edge file_role role_id
file_edge-id f g x y e = ap (λ (z : Edge). role_id z.to) e

pub grant_edge-ids : (h k f g : ℕ) → grant_edge h f ≡ grant_edge k g → (h ≡ k) × (f ≡ g)
unfolding grant_edge edge holder_role clear_of role_id
grant_edge-ids h k f g e = (ap (λ (z : Edge). role_id z.from) e, ap (λ (z : Edge). role_id z.to) e)

pub child : Edge → ℕ
child e = cond (e.kind == 6) (role_id e.to) (role_id e.from)

pub parent_child : (f p : ℕ) (e : Edge) → In e (parent_edges f p) → child e ≡ f
unfolding parent_edges edge child sub_of back_of role_id
parent_child f p e i = ⊎_elim (λ s. ap child s) (λ a. ⊎_elim (λ s. ap child s) (λ n. absurd n) a) i

-- the edge has one of the roles at an end
abbrev pub Touches : List Role → Edge → Type 0
Touches roles e = In e.from roles ⊎ In e.to roles

pub at_told : (s : Store) (roles : List Role) (e : Edge) → In e (edges_at s roles) ↔ (In e (edges s) × Touches roles e)
unfolding edges_at
at_told s roles e =
    let test : Edge → Bool = λ x. has same_role roles x.from || has same_role roles x.to in (
      λ i. let w = In-filter Edge test e (edges s) i in (
        w.0,
        ⊎_elim
            (λ t. inl (has-in Role same_role same_role_tells roles e.from t))
            (λ t. inr (has-in Role same_role same_role_tells roles e.to t))
            (or_cases (has same_role roles e.from) (has same_role roles e.to) w.1),
      ),
      λ w. filter-In Edge test e (edges s) w.0 (⊎_elim
          (λ i. or_left (has same_role roles e.from) (has same_role roles e.to) (in-has Role same_role same_role_tells roles e.from i))
          (λ i. or_right (has same_role roles e.from) (has same_role roles e.to) (in-has Role same_role same_role_tells roles e.to i)) w.1),
    )

-- each edge of a folder touches it
pub own_touches : (f : ℕ) (e : Edge) → In e (folder_edges f) → Touches (folder_roles f) e
unfolding folder_edges edge folder_roles
own_touches f e i =
    let P : Edge → Type 0 = λ x. Touches (folder_roles f) x in ⊎_elim
    (λ s. subst P (sym s) (inr (inl refl)))
    (λ a. ⊎_elim (λ s. subst P (sym s) (inl (inl refl)))
    (λ b. ⊎_elim (λ s. subst P (sym s) (inl (inr (inl refl))))
    (λ c. ⊎_elim (λ s. subst P (sym s) (inl (inr (inl refl))))
    (λ d. ⊎_elim (λ s. subst P (sym s) (inl (inr (inr (inl refl))))) (λ n. absurd n) d) c) b) a) i

pub parent_touches : (f p : ℕ) (e : Edge) → In e (parent_edges f p) → Touches (folder_roles f) e
unfolding parent_edges edge folder_roles
parent_touches f p e i =
    let P : Edge → Type 0 = λ x. Touches (folder_roles f) x in ⊎_elim
    (λ s. subst P (sym s) (inr (inr (inl refl))))
    (λ a. ⊎_elim (λ s. subst P (sym s) (inl (inr (inr (inl refl))))) (λ n. absurd n) a) i

pub grant_touches : (h f : ℕ) (e : Edge) → e ≡ grant_edge h f → Touches (folder_roles f) e
unfolding grant_edge edge folder_roles
grant_touches h f e s = subst (Touches (folder_roles f)) (sym s) (inr (inl refl))

pub clear_touches : (f x : ℕ) (e : Edge) → In e (clearance_edges f x) → (e.from ≡ clear_of (clear_number x)) ⊎ (e.to ≡ clear_of (clear_number x))
unfolding clearance_edges edge
clear_touches f x e i = ⊎_elim (λ s. inr (ap (λ (z : Edge). z.to) s))
    (λ a. ⊎_elim (λ s. inl (ap (λ (z : Edge). z.from) s))
    (λ b. ⊎_elim (λ s. inl (ap (λ (z : Edge). z.from) s)) (λ n. absurd n) b) a) i

pub grant_end : (h f : ℕ) (e : Edge) → e ≡ grant_edge h f → e.to ≡ clear_of f
unfolding grant_edge edge
grant_end h f e s = ap (λ (z : Edge). z.to) s

pub file_end : (f x : ℕ) (e : Edge) → e ≡ file_edge f x → e.to ≡ file_role x
unfolding file_edge edge
file_end f x e s = ap (λ (z : Edge). z.to) s
