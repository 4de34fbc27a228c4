-- All is marked that edges lead to from what is, told role by role.
use Rattle.std.proofs.Common.{◌≡◌, ℕ, zero, suc, ◌+◌, ◌<◌, ◌≤◌, Bool, true, ◌⊎◌, ◌↔◌, List, [], ◌∷◌, ◌++◌, map, filter, take, length, get_or, inl, inr, ⊎_elim, refl, sym, ap, ◌∙◌, subst, arith}
use Rattle.std.specs.Prelude.{IsTrue}
use Rattle.std.specs.List.{list_all}
use Rattle.std.proofs.lemmas.List.{take_more}
use Rattle.cry_base.specs.Sets.{In, has}
use Rattle.cry_base.specs.Store.{Store}
use Rattle.cry_base.specs.declared.roles.Edge.{Edge}
use Rattle.cry_base.specs.declared.roles.Role.{Role}
use Rattle.cry_base.proofs.Members.{In-append, In-filter, filter-In}
use Rattle.grant_book.specs.Granted.{Granted}
use Rattle.move_plan.specs.Seen.{seen_store}
use Rattle.role_graph.specs.Adjacent.{out_of}
use Rattle.role_graph.specs.Edges.{edge_before, edges, has_grants, unordered}
use Rattle.role_graph.specs.PublicStore.{public_store}
use Rattle.role_graph.specs.Roles.{same_role}
use Rattle.role_graph.proofs.Comparing.{same_role_tells}
use Rattle.role_graph.proofs.Edging.{In-order}
use Rattle.public_fold.specs.States.{IsClosed}
use Rattle.public_fold.proofs.OwnSerials.{get_in, take_in}
use Rattle.public_fold.proofs.RowTested.{all_tell, has_told}

-- each edge out of the first so many roles of the set leads into it
abbrev pub AreClosed : List Edge → List Role → ℕ → Type 0
AreClosed es marked i = (e : Edge) → In e es → In e.from (take i marked) → In e.to marked

-- the edges of a store in their order and as they come
pub closed_told : (t : Store) (g : Granted) (marked : List Role) → IsClosed (seen_store t g) marked ↔ ((e : Edge) → In e (unordered (public_store t g.pairs)) → In e.from marked → In e.to marked)
unfolding edges unordered has_grants
closed_told t g marked =
    let es : List Edge = unordered (public_store t g.pairs) in (
      λ closed e i from. closed e ((In-order Edge edge_before e es).1 i) from,
      λ each e i from. each e ((In-order Edge edge_before e es).0 i) from,
    )

-- what the edges out of one role tell
pub role_closed : (es : List Edge) (marked : List Role) (r : Role) → IsTrue (list_all (λ (e : Edge). has same_role marked e.to) (out_of es r)) ↔ ((e : Edge) → In e es → e.from ≡ r → In e.to marked)
unfolding out_of
role_closed es marked r =
    let from = λ (e : Edge). same_role e.from r in
    let told = all_tell Edge (λ e. has same_role marked e.to) (λ e. In e.to marked) (filter from es) (λ e. has_told marked e.to) in (
      λ t e i is. told.0 t e (filter-In Edge from e es i ((same_role_tells e.from r).1 is)),
      λ each. told.1 (λ e i. (let w = In-filter Edge from e es i in each e w.0 ((same_role_tells e.from r).0 w.1))),
    )

pub none_closed : (es : List Edge) (marked : List Role) → AreClosed es marked 0
none_closed es marked e i from = absurd from

-- one role more
pub one_closed : (es : List Edge) (marked : List Role) (i : ℕ) (d r : Role) → i < length marked → r ≡ get_or marked i d → ((e : Edge) → In e es → e.from ≡ r → In e.to marked) → AreClosed es marked i → AreClosed es marked (i + 1)
one_closed es marked i d r within is here before e j from =
    ⊎_elim
    (λ old. before e j old)
    (λ last. ⊎_elim (λ (same : e.from ≡ get_or marked i d). here e j (same ∙ sym is)) (λ none. absurd none) last)
    ((In-append Role e.from (take i marked) (get_or marked i d ∷ [])).0 (subst (In e.from) (take_more marked i d within) from))

-- a role of the set whose edges lead out of it
pub not_closed : (es : List Edge) (marked : List Role) (i : ℕ) (d r : Role) → i < length marked → r ≡ get_or marked i d → ((e : Edge) → In e es → In e.from marked → In e.to marked) → (e : Edge) → In e es → e.from ≡ r → In e.to marked
not_closed es marked i d r within is closed e j same =
    closed e j (subst (λ x. In x marked) (sym (same ∙ is)) (get_in Role marked i d within))
