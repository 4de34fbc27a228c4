-- Which edge has links of a head.
use Rattle.std.proofs.Common.{◌≡◌, ◌==◌, ◌&&◌, ◌↔◌, ℕ, Bool, true, false, IsTrue, Option, None, Some, ⊎_elim, refl, sym, ap, subst, ◌∙◌, arith}
use Rattle.std.specs.List.{find}
use Rattle.std.specs.Option.{option_map_or}
use Rattle.std.proofs.lemmas.Bool.{and_from, and_parts, eq-eqb, eqb-true, false≢true}
use Rattle.cry_base.proofs.Finding.{find-found}
use Rattle.cry_base.proofs.Members.{In-any}
use Rattle.cry_base.specs.Sets.{In}
use Rattle.cry_base.specs.Store.{Store}
use Rattle.cry_base.specs.declared.roles.Edge.{Edge}
use Rattle.key_links.specs.Ended.{kind_from, kind_to, row_numbered}
use Rattle.key_links.proofs.Ends.{kind_of_with}
use Rattle.kind_table.specs.Kinds.{kind_of, same_kind}
use Rattle.kind_table.specs.Rows.{joins, kinds_row}
use Rattle.kind_table.specs.declared.kinds.RoleKind.{RoleKind}
use Rattle.kind_table.specs.declared.kinds.RoleKind.TheVariants.{Owner, Holder, Clear, Sub, Back, Files, Data, File}
use Rattle.kind_table.specs.declared.eleven.TheConstants.{ELEVEN}
use Rattle.kind_table.specs.declared.table.Row.{Row}
use Rattle.role_graph.specs.Edges.{edges}
use Rattle.role_graph.specs.Joined as graph
use Rattle.role_graph.specs.Roles.{role_id}
use Rattle.role_graph.specs.Tabled.{row_of}
use Rattle.role_graph.proofs.Edging.{edges_told}
use Rattle.role_graph.proofs.RowsOfEdges.{each_edge}
use Rattle.log_visits.specs.Found.{head_of_edge}
use Rattle.log_visits.specs.Indexed.{HasEdge, edge_of_head, same_link_heads, stands}
use Rattle.log_visits.specs.declared.last_links.LinkHead.{LinkHead}
use Rattle.log_visits.proofs.NewestLinks.{edge_kind}

-- ---- heads are the same to the maps where they are one

one_head : (q k : LinkHead) → q.kind ≡ k.kind → q.from_id ≡ k.from_id → q.to_id ≡ k.to_id → q ≡ k
one_head q k kind from to = λ i. record { kind = kind i; from_id = from i; to_id = to i }

pub same_links : (q k : LinkHead) → same_link_heads q k ≡ true → q ≡ k
same_links q k t =
    let a = and_parts (q.kind == k.kind) ((q.from_id == k.from_id) && (q.to_id == k.to_id)) t in
    let b = and_parts (q.from_id == k.from_id) (q.to_id == k.to_id) a.1 in
    one_head q k (eqb-true q.kind k.kind a.0) (eqb-true q.from_id k.from_id b.0) (eqb-true q.to_id k.to_id b.1)

pub own_link : (q : LinkHead) → same_link_heads q q ≡ true
own_link q =
    and_from (q.kind == q.kind) ((q.from_id == q.from_id) && (q.to_id == q.to_id)) (eq-eqb q.kind q.kind refl)
    (and_from (q.from_id == q.from_id) (q.to_id == q.to_id) (eq-eqb q.from_id q.from_id refl) (eq-eqb q.to_id q.to_id refl))

-- what is computed over all edges is whether one of them has the head
pub head_stands : (s : Store) (q : LinkHead) → IsTrue (stands s q) ↔ HasEdge s q
head_stands s q = In-any Edge (λ e. same_link_heads (head_of_edge e) q) (λ e. head_of_edge e ≡ q)
    (λ e. (same_links (head_of_edge e) q, λ is. subst (λ k. same_link_heads (head_of_edge e) k ≡ true) is (own_link (head_of_edge e)))) (edges s)

-- ---- a kind of links is told by the kinds of keys at its ends

number_between : RoleKind → RoleKind → ℕ
number_between a b = option_map_or (λ (r : Row). r.number) (find (joins a b) ELEVEN.rows) 0

numbered_so : (r : Row) → In r ELEVEN.rows → number_between r.from r.to ≡ r.number
unfolding number_between joins same_kind
numbered_so r i =
    let is : (d : Row) → number_between d.from d.to ≡ d.number → r ≡ d → number_between r.from r.to ≡ r.number =
    λ d t e. subst (λ (x : Row). number_between x.from x.to ≡ x.number) (sym e) t
    in
    ⊎_elim (is (kinds_row 1 Owner Clear) refl)
    (λ a. ⊎_elim (is (kinds_row 2 Holder Clear) refl)
    (λ b. ⊎_elim (is (kinds_row 3 Clear Sub) refl)
    (λ c. ⊎_elim (is (kinds_row 4 Sub Back) refl)
    (λ d. ⊎_elim (is (kinds_row 5 Sub Files) refl)
    (λ e. ⊎_elim (is (kinds_row 6 Sub Sub) refl)
    (λ f. ⊎_elim (is (kinds_row 7 Back Data) refl)
    (λ g. ⊎_elim (is (kinds_row 8 Back Back) refl)
    (λ h. ⊎_elim (is (kinds_row 9 Files File) refl)
    (λ j. ⊎_elim (is (kinds_row 10 Clear File) refl)
    (λ k. ⊎_elim (is (kinds_row 11 Clear Back) refl) (λ n. absurd n) k) j) h) g) f) e) d) c) b) a) i

-- no edge leads from the owner's key to itself
none_to_itself : number_between Owner Owner ≡ 0
unfolding number_between joins same_kind
none_to_itself = refl

-- an edge between the roles of a head is of the head's kind
module _ (s : Store) (q : LinkHead) (e : Edge) (there : In e (edges s)) (from : e.from ≡ (edge_of_head q).from) (to : e.to ≡ (edge_of_head q).to) where
  own_number : number_between (kind_of e.from) (kind_of e.to) ≡ e.kind
  unfolding row_of
  own_number = numbered_so (row_of e) (each_edge s e there)

  by_kind : number_between (kind_from q.kind) (kind_to q.kind) ≡ e.kind
  by_kind =
      ap (λ k. number_between k (kind_to q.kind)) (sym (ap kind_of from ∙ kind_of_with (kind_from q.kind) q.from_id))
      ∙ ap (number_between (kind_of e.from)) (sym (ap kind_of to ∙ kind_of_with (kind_to q.kind) q.to_id))
      ∙ own_number

  by_row : (o : Option Row) → row_numbered q.kind ≡ o → e.kind ≡ q.kind
  unfolding kind_from kind_to row_numbered
  by_row (Some r) is =
      let found = find-found Row (λ x. x.number == q.kind) ELEVEN.rows r is in
      sym by_kind
      ∙ ap (λ o. number_between (option_map_or (λ (x : Row). x.from) o Owner) (option_map_or (λ (x : Row). x.to) o Owner)) is
      ∙ numbered_so r found.0 ∙ eqb-true r.number q.kind found.1
  by_row None is =
      let none : 0 ≡ e.kind =
      sym none_to_itself
      ∙ ap (λ o. number_between (option_map_or (λ (x : Row). x.from) o Owner) (option_map_or (λ (x : Row). x.to) o Owner)) (sym is)
      ∙ by_kind
      in
      let one = (edge_kind s e ((edges_told s e).0 there)).from_one in
      absurd (omega (arith, none, one))

  pub same_kind_as : e.kind ≡ q.kind
  same_kind_as = by_row (row_numbered q.kind) refl

-- ---- a head is an edge's exactly where the edge between its roles is looked up

pub found_stands : (s : Store) (q : LinkHead) → head_of_edge (edge_of_head q) ≡ q →
    graph.HasEdge s (edge_of_head q).from (edge_of_head q).to → HasEdge s q
found_stands s q own has =
    let e = has.0 in (
      e,
      has.1,
      one_head (head_of_edge e) q (same_kind_as s q e has.1 has.2 has.3)
          (ap role_id has.2 ∙ ap (λ (k : LinkHead). k.from_id) own)
          (ap role_id has.3 ∙ ap (λ (k : LinkHead). k.to_id) own),
    )

pub stands_found : (s : Store) (q : LinkHead) → HasEdge s q →
    (head_of_edge (edge_of_head q) ≡ q) × graph.HasEdge s (edge_of_head q).from (edge_of_head q).to
stands_found s q has =
    let e = has.0 in
    let kind = edge_kind s e ((edges_told s e).0 has.1) in
    subst (λ (k : LinkHead). (head_of_edge (edge_of_head k) ≡ k) × graph.HasEdge s (edge_of_head k).from (edge_of_head k).to) has.2 (
      one_head (head_of_edge (edge_of_head (head_of_edge e))) (head_of_edge e) refl (ap role_id kind.source) (ap role_id kind.target),
      (e, has.1, sym kind.source, sym kind.target),
    )

same_truth : (a b : Bool) → (a ≡ true → b ≡ true) → (b ≡ true → a ≡ true) → a ≡ b
same_truth true b f g = sym (f refl)
same_truth false true f g = g refl
same_truth false false f g = refl

-- what the look-up of the edge between a head's roles tells, where it has this head, and where it has another one
module _ (s : Store) (q head : LinkHead) (edge : Edge) (is : edge ≡ edge_of_head q) (of : head ≡ head_of_edge edge) where
  its_head : head ≡ head_of_edge (edge_of_head q)
  its_head = of ∙ ap head_of_edge is

  pub looked_up : (found : Bool) → same_link_heads head q ≡ true → IsTrue found ↔ graph.HasEdge s edge.from edge.to → found ≡ stands s q
  looked_up found same told = same_truth found (stands s q)
      (λ t. (head_stands s q).1 (found_stands s q (sym its_head ∙ same_links head q same)
      (subst (λ (e : Edge). graph.HasEdge s e.from e.to) is (told.0 t))))
      (λ t. told.1 (subst (λ (e : Edge). graph.HasEdge s e.from e.to) (sym is) (stands_found s q ((head_stands s q).0 t)).1))

  pub of_no_edge : (same : Bool) → same_link_heads head q ≡ same → same ≡ false → same ≡ stands s q
  of_no_edge same so none = same_truth same (stands s q)
      (λ t. absurd (false≢true (sym none ∙ t)))
      (λ t. sym so ∙ subst (λ (k : LinkHead). same_link_heads k q ≡ true) (sym (its_head ∙ (stands_found s q ((head_stands s q).0 t)).0)) (own_link q))
