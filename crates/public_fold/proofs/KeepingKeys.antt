-- What holds of the keys holds after each step.
use Rattle.std.proofs.Common.{◌≡◌, ℕ, ◌+◌, true, false, cond, not, ◌||◌, ◌⊎◌, ◌↔◌, List, [], ◌∷◌, ◌++◌, map, filter, length, Some, None, inl, inr, ⊎_elim, refl, sym, ap, ◌∙◌, subst}
use Rattle.std.specs.Prelude.{unwrap_or}
use Rattle.std.proofs.lemmas.Bool.{or_parts, not-true, not_from_false, false≢true, cases_Bool, cond-false, false_from_ne_true}
use Rattle.cry_base.specs.Sets.{In, Path, has}
use Rattle.cry_base.specs.Sets.Path.{Here, On}
use Rattle.cry_base.specs.Store.{Store}
use Rattle.cry_base.specs.declared.roles.Edge.{Edge}
use Rattle.cry_base.specs.declared.roles.Role.{Role}
use Rattle.cry_base.proofs.Members.{In-append, In-map, In-filter, filter-In}
use Rattle.cry_base.proofs.Reaching.{has-in, in-has, Path-on}
use Rattle.role_graph.specs.Roles.{same_role, is_root_role, is_sealing_role}
use Rattle.role_graph.specs.Edges.{Reaches, edges, pairs_of, same_edge, IsEdge}
use Rattle.role_graph.proofs.Comparing.{same_role_tells}
use Rattle.role_graph.proofs.Edging.{edges_told}
use Rattle.role_graph.proofs.Rising.{ascending_told}
use Rattle.role_graph.proofs.Typing.{typed}
use Rattle.rekey_walk.specs.Dirty.{mark_all}
use Rattle.rekey_walk.proofs.Marking.{mark_all_told, plan_told}
use Rattle.move_plan.specs.Change.{Change}
use Rattle.public_fold.specs.Keyed.{HasRole, KeysHold}
use Rattle.public_fold.specs.Records.{Link, Piece}
use Rattle.public_fold.specs.KeyStep.{KeyState, without, keys_without, edges_left, dirty_left, planned, renewed, next_serial, numbered, given, keys_then, newest, present, edges_then, is_published, published_edges, link_of, links_from, published, step_with, key_step}
use Rattle.public_fold.proofs.EdgesThen.{IsThen, left_told, then_told}
use Rattle.role_graph.proofs.AtEnds.{same_edge_tells}

-- the newest key in joined lists, in numbered ones, and where some were taken out
pub newest-later : (xs ys : List (Role × ℕ)) (r : Role) → newest xs r ≡ None → newest (xs ++ ys) r ≡ newest ys r
unfolding newest
newest-later [] ys r = λ e. refl
newest-later (x ∷ xs) ys r =
    elim (same_role x.0 r) as (λ b. cond b (Some x.1) (newest xs r) ≡ None → cond b (Some x.1) (newest (xs ++ ys) r) ≡ newest ys r) [
      | true ↦ λ e. absurd cc
      | false ↦ λ e. newest-later xs ys r e
    ]

pub newest-first : (xs ys : List (Role × ℕ)) (r : Role) (n : ℕ) → newest xs r ≡ Some n → newest (xs ++ ys) r ≡ Some n
unfolding newest
newest-first [] ys r n = λ e. absurd cc
newest-first (x ∷ xs) ys r n =
    elim (same_role x.0 r) as (λ b. cond b (Some x.1) (newest xs r) ≡ Some n → cond b (Some x.1) (newest (xs ++ ys) r) ≡ Some n) [
      | true ↦ λ e. e
      | false ↦ λ e. newest-first xs ys r n e
    ]

pub other_role : (a r : Role) → (r ≡ a → ⊥) → same_role a r ≡ false
other_role a r n = false_from_ne_true (same_role a r) (λ t. n (sym ((same_role_tells a r).0 t)))

pub numbered-none : (n : ℕ) (rs : List Role) (r : Role) → (In r rs → ⊥) → newest (numbered n rs) r ≡ None
unfolding newest numbered
numbered-none n [] r out = refl
numbered-none n (x ∷ xs) r out =
    cond-false (same_role x r) (Some n) (newest (numbered (n + 1) xs) r) (other_role x r (λ e. out (inl e))) ∙ numbered-none (n + 1) xs r (λ i. out (inr i))

pub numbered-some : (n : ℕ) (rs : List Role) (r : Role) → In r rs → (m : ℕ) × (newest (numbered n rs) r ≡ Some m)
unfolding newest numbered
numbered-some n [] r = λ i. absurd i
numbered-some n (x ∷ xs) r =
    (elim (same_role x r) as (λ b. same_role x r ≡ b → In r (x ∷ xs) → (m : ℕ) × (cond b (Some n) (newest (numbered (n + 1) xs) r) ≡ Some m)) [
      | true ↦ λ t i. (n, refl)
      | false ↦ λ t i. ⊎_elim
          (λ (e : r ≡ x). absurd (false≢true (sym t ∙ (same_role_tells x r).1 (sym e))))
          (λ u. numbered-some (n + 1) xs r u) i
    ]) refl

pub without-gone : (gone : List Role) (keys : List (Role × ℕ)) (r : Role) → In r gone → newest (keys_without gone keys) r ≡ None
unfolding newest keys_without
without-gone gone [] r = λ i. refl
without-gone gone (x ∷ xs) r = λ i.
    (elim (has same_role gone x.0) as (λ b. has same_role gone x.0 ≡ b → newest (cond (not b) (x ∷ filter (λ key. not (has same_role gone key.0)) xs) (filter (λ key. not (has same_role gone key.0)) xs)) r ≡ None) [
      | true ↦ λ t. without-gone gone xs r i
      | false ↦ λ t. cond-false (same_role x.0 r) (Some x.1) (newest (filter (λ key. not (has same_role gone key.0)) xs) r)
          (other_role x.0 r (λ e. false≢true (sym t ∙ in-has Role same_role same_role_tells gone x.0 (subst (λ z. In z gone) e i)))) ∙ without-gone gone xs r i
    ]) refl

pub without-kept : (gone : List Role) (keys : List (Role × ℕ)) (r : Role) → (In r gone → ⊥) → newest (keys_without gone keys) r ≡ newest keys r
unfolding newest keys_without
without-kept gone [] r out = refl
without-kept gone (x ∷ xs) r out =
    (elim (has same_role gone x.0) as (λ b. has same_role gone x.0 ≡ b → newest (cond (not b) (x ∷ filter (λ key. not (has same_role gone key.0)) xs) (filter (λ key. not (has same_role gone key.0)) xs)) r ≡ cond (same_role x.0 r) (Some x.1) (newest xs r)) [
      | true ↦ λ t. without-kept gone xs r out
          ∙ sym (cond-false (same_role x.0 r) (Some x.1) (newest xs r) (other_role x.0 r (λ e. out (subst (λ z. In z gone) (sym e) (has-in Role same_role same_role_tells gone x.0 t)))))
      | false ↦ λ t. ap (λ o. cond (same_role x.0 r) (Some x.1) o) (without-kept gone xs r out)
    ]) refl

-- what has a number among the numbered
numbered-in : (n : ℕ) (es : List Edge) (e : Edge) → In e es → (q : Edge × ℕ) × In q (numbered n es) × (q.0 ≡ e)
unfolding numbered
numbered-in n [] e i = absurd i
numbered-in n (x ∷ xs) e i = ⊎_elim
    (λ s. let told : (q : Edge × ℕ) × In q ((x, n) ∷ numbered (n + 1) xs) × (q.0 ≡ e) = ((x, n), inl refl, sym s) in told)
    (λ r. let w = numbered-in (n + 1) xs e r in let told : (q : Edge × ℕ) × In q ((x, n) ∷ numbered (n + 1) xs) × (q.0 ≡ e) = (w.0, inr w.1, w.2) in told) i

-- what holds of a way's start and of the end of each pair holds of its end
path_end : {X : Type 0} {pairs : List (X × X)} {a c : X} (P : X → Type 0) → P a → ((q : X × X) → In q pairs → P q.1) → Path pairs a c → P c
path_end P p step Here = p
path_end P p step (On {b = b} {c = c} way i) = step (b, c) i

reach_end : (es : List Edge) (a r : Role) (P : Role → Type 0) → P a → ((e : Edge) → In e es → P e.to) → Reaches es a r → P r
unfolding pairs_of
reach_end es a r P p step way = path_end P p (λ q i. let w = (In-map Edge (Role × Role) (λ e. (e.from, e.to)) q es).0 i in subst P (sym (ap (λ (z : Role × Role). z.1) w.2)) (step w.0 w.1)) way

edge_pair : (es : List Edge) (e : Edge) → In e es → In {X = Role × Role} (e.from, e.to) (pairs_of es)
unfolding pairs_of
edge_pair es e i = (In-map Edge (Role × Role) (λ e. (e.from, e.to)) (e.from, e.to) es).1 (e, i, refl)

pub without_told : (gone rs : List Role) (r : Role) → In r (without same_role gone rs) ↔ (In r rs × (In r gone → ⊥))
unfolding without
without_told gone rs r = (
  λ i. let w = In-filter Role (λ x. not (has same_role gone x)) r rs i in (w.0, λ g. false≢true (sym (not-true (has same_role gone r) w.1) ∙ in-has Role same_role same_role_tells gone r g)),
  λ w. filter-In Role (λ x. not (has same_role gone x)) r rs w.0 (⊎_elim
      (λ t. absurd (w.1 (has-in Role same_role same_role_tells gone r t)))
      (λ t. not_from_false (has same_role gone r) t)
      (cases_Bool (has same_role gone r))),
)

-- what a command's change does to edges and roles
pub record IsMove (s : Store) (c : Change) (t : Store) : Type 0 where
  pub leads : (e : Edge) → IsThen s c e ↔ IsEdge t e
  pub roles : (r : Role) → HasRole t r ↔ ((HasRole s r × (In r c.gone → ⊥)) ⊎ In r c.fresh)
  pub removed_stand : (e : Edge) → In e c.removed → IsEdge s e
  pub fresh_is_new : (r : Role) → In r c.fresh → HasRole s r → ⊥
  pub fresh_stays : (r : Role) → In r c.fresh → In r c.gone → ⊥
  pub sources : (e : Edge) → In e c.added → (is_root_role e.from ≡ true) ⊎ (In e.from c.wanted ⊎ In e.from c.fresh)
  pub ends_before : (e : Edge) → IsEdge s e → HasRole s e.from × HasRole s e.to
  pub ends_after : (e : Edge) → IsEdge t e → HasRole t e.from × HasRole t e.to
  pub strict_stand : (r : Role) → In r c.strict → HasRole s r × ((In r c.gone → ⊥) × (is_root_role r ≡ false))
  pub strict_seals_none : (r : Role) → In r c.strict → is_sealing_role r ≡ false
  pub strict_back : (e : Edge) → IsEdge s e → In e.to c.strict → is_root_role e.from ≡ false → (In e.from c.gone → ⊥) → In e.from c.strict

module _ (s t : Store) (k : KeyState) (c : Change) (links : List Link) (mv : IsMove s c t) (ok : KeysHold s k links) where
  -- what stands after isn't gone
  not_gone : (r : Role) → HasRole t r → In r c.gone → ⊥
  not_gone r h g = ⊎_elim (λ w. w.1 g) (λ f. mv.fresh_stays r f g) ((mv.roles r).0 h)

  pub marked_told : (r : Role) → In r (dirty_left k (edges s) c) ↔ ((In r k.dirty ⊎ ((w : Role) × In w (map (λ (e : Edge). e.to) c.removed) × Reaches (edges s) w r)) × (In r c.gone → ⊥))
  unfolding dirty_left
  marked_told r =
      let out = without_told c.gone (mark_all k.dirty (edges s) (map (λ (e : Edge). e.to) c.removed)) r in
      let all = mark_all_told k.dirty (edges s) (map (λ (e : Edge). e.to) c.removed) r in (
        λ i. let w = out.0 i in (all.0 w.0, w.1),
        λ w. out.1 (all.1 w.0, w.1),
      )

  -- what holds of the dirty roles and of each edge's target holds of what is marked
  marked_each : (P : Role → Type 0) → ((r : Role) → In r k.dirty → P r) → ((e : Edge) → In e (edges s) → P e.to) → (r : Role) → In r (dirty_left k (edges s) c) → P r
  marked_each P old to r i = ⊎_elim (λ d. old r d)
      (λ w. let u = (In-map Edge Role (λ e. e.to) w.0 c.removed).0 w.1 in
      reach_end (edges s) w.0 r P (subst P (sym u.2) (to u.0 ((edges_told s u.0).1 (mv.removed_stand u.0 u.1)))) to w.2)
      ((marked_told r).0 i).0

  pub marked_stands : (r : Role) → In r (dirty_left k (edges s) c) → HasRole s r
  marked_stands r i = marked_each (HasRole s) ok.dirty_stands (λ e j. (mv.ends_before e ((edges_told s e).0 j)).1) r i

  pub marked_no_root : (r : Role) → In r (dirty_left k (edges s) c) → is_root_role r ≡ false
  marked_no_root r i = marked_each (λ x. is_root_role x ≡ false) ok.no_root (λ e j. (typed s e j).0) r i

  pub planned_told : (r : Role) → In r (planned k (edges s) c) ↔ (In r (dirty_left k (edges s) c) × ((w : Role) × In w c.wanted × Reaches (edges_left (edges s) c) r w))
  unfolding planned
  planned_told r = plan_told (dirty_left k (edges s) c) (edges_left (edges s) c) c.wanted r

  -- what is renewed is strict or in the plan, and so stands, stays and is no root
  pub renewed_told : (r : Role) → In r (renewed k (edges s) c) ↔ (In r c.strict ⊎ In r (planned k (edges s) c))
  unfolding renewed
  renewed_told r =
      let listed = ascending_told r (c.strict ++ planned k (edges s) c) in
      let joined = In-append Role r c.strict (planned k (edges s) c) in
      (λ i. joined.0 (listed.0 i), λ w. listed.1 (joined.1 w))

  pub renewed_stands : (r : Role) → In r (renewed k (edges s) c) → HasRole s r × ((In r c.gone → ⊥) × (is_root_role r ≡ false))
  renewed_stands r i = ⊎_elim
      (λ u. mv.strict_stand r u)
      (λ p. let d = ((planned_told r).0 p).0 in (marked_stands r d, (((marked_told r).0 d).1, marked_no_root r d)))
      ((renewed_told r).0 i)

  -- a dirty role that an edge which stays leads from to a renewed one is renewed, and so is a dirty one that is wanted
  pub renewed_back : (e : Edge) → In e (edges_left (edges s) c) → In e.from (dirty_left k (edges s) c) → In e.to (renewed k (edges s) c) → In e.from (renewed k (edges s) c)
  renewed_back e i from to = (renewed_told e.from).1 (⊎_elim
      (λ u. inl (mv.strict_back e ((edges_told s e).0 ((left_told (edges s) c e).0 i).0) u (marked_no_root e.from from) ((marked_told e.from).0 from).1))
      (λ p. let q = (planned_told e.to).0 p in
      inr ((planned_told e.from).1 (from, (q.1.0, q.1.1, Path-on (On Here (edge_pair (edges_left (edges s) c) e i)) q.1.2))))
      ((renewed_told e.to).0 to))

  pub renewed_wanted : (r : Role) → In r (dirty_left k (edges s) c) → In r c.wanted → In r (renewed k (edges s) c)
  renewed_wanted r d w = (renewed_told r).1 (inr ((planned_told r).1 (d, (r, w, Here))))

  -- before what is renewed is clean, edges that stay lead from dirty roles to dirty ones
  pub closed_before : (e : Edge) → In e (edges_left (edges s) c) → In e.from (dirty_left k (edges s) c) → In e.to (dirty_left k (edges s) c)
  closed_before e i from =
      let there = (left_told (edges s) c e).0 i in
      let stays = (mv.leads e).0 (inl ((edges_told s e).0 there.0, there.1)) in
      (marked_told e.to).1 (
        ⊎_elim (λ d. inl (ok.closed e there.0 d)) (λ p. inr (p.0, p.1, On p.2 (edge_pair (edges s) e there.0))) ((marked_told e.from).0 from).0,
        not_gone e.to (mv.ends_after e stays).1,
      )

  -- a dirty role's edges lead to dirty ones
  pub closed_then : (e : Edge) → IsEdge t e → In e.from (dirty_left k (edges s) c) → (In e.from (renewed k (edges s) c) → ⊥) → In e.to (dirty_left k (edges s) c) × (In e.to (renewed k (edges s) c) → ⊥)
  closed_then e w i out = ⊎_elim
      (λ u. let there = (edges_told s e).1 u.0 in (
        (marked_told e.to).1 (
          ⊎_elim (λ d. inl (ok.closed e there d))
              (λ p. inr (p.0, p.1, On p.2 (edge_pair (edges s) e there)))
              ((marked_told e.from).0 i).0,
          not_gone e.to (mv.ends_after e w).1,
        ),
        λ p. out (renewed_back e ((left_told (edges s) c e).1 (there, u.1)) i p),
      ))
      (λ a. ⊎_elim
      (λ root. absurd (false≢true (sym (marked_no_root e.from i) ∙ root)))
      (λ v. ⊎_elim
      (λ wanted. absurd (out (renewed_wanted e.from i wanted)))
      (λ fresh. absurd (mv.fresh_is_new e.from fresh (marked_stands e.from i))) v)
      (mv.sources e a))
      ((mv.leads e).1 w)

  -- a role that gets no key keeps the one that it has
  pub same_key : (r : Role) → (In r (renewed k (edges s) c ++ c.fresh) → ⊥) → (In r c.gone → ⊥) → newest (keys_then k c (renewed k (edges s) c)) r ≡ newest k.keys r
  unfolding keys_then given
  same_key r out stays =
      let p = renewed k (edges s) c in
      newest-later (numbered (next_serial k) (p ++ c.fresh)) (keys_without (p ++ c.gone) k.keys) r (numbered-none (next_serial k) (p ++ c.fresh) r out)
      ∙ without-kept (p ++ c.gone) k.keys r (λ i. ⊎_elim (λ a. out ((In-append Role r p c.fresh).1 (inl a))) stays ((In-append Role r p c.gone).0 i))

  new_key : (r : Role) → In r (renewed k (edges s) c ++ c.fresh) → (n : ℕ) × (newest (keys_then k c (renewed k (edges s) c)) r ≡ Some n)
  unfolding keys_then given
  new_key r i =
      let p = renewed k (edges s) c in
      let w = numbered-some (next_serial k) (p ++ c.fresh) r i in
      (w.0, newest-first (numbered (next_serial k) (p ++ c.fresh)) (keys_without (p ++ c.gone) k.keys) r w.0 w.1)

  pub no_key : (r : Role) → (In r (renewed k (edges s) c ++ c.fresh) → ⊥) → In r c.gone → newest (keys_then k c (renewed k (edges s) c)) r ≡ None
  unfolding keys_then given
  no_key r out g =
      let p = renewed k (edges s) c in
      newest-later (numbered (next_serial k) (p ++ c.fresh)) (keys_without (p ++ c.gone) k.keys) r (numbered-none (next_serial k) (p ++ c.fresh) r out)
      ∙ without-gone (p ++ c.gone) k.keys r ((In-append Role r p c.gone).1 (inr g))

  -- whether a role stands in a list
  pub in_or : (r : Role) (rs : List Role) → In r rs ⊎ (In r rs → ⊥)
  in_or r rs = ⊎_elim
      (λ t. inl (has-in Role same_role same_role_tells rs r t))
      (λ f. inr (λ i. false≢true (sym f ∙ in-has Role same_role same_role_tells rs r i)))
      (cases_Bool (has same_role rs r))

  keyed_then : (r : Role) → HasRole t r ↔ ((n : ℕ) × (newest (keys_then k c (renewed k (edges s) c)) r ≡ Some n))
  keyed_then r =
      let p = renewed k (edges s) c in (
        λ h. ⊎_elim
            (λ i. new_key r i)
            (λ out. ⊎_elim
            (λ w. let old = (ok.keyed r).0 w.0 in let told : (n : ℕ) × (newest (keys_then k c p) r ≡ Some n) = (old.0, same_key r out w.1 ∙ old.1) in told)
            (λ f. absurd (out ((In-append Role r p c.fresh).1 (inr f))))
            ((mv.roles r).0 h))
            (in_or r (p ++ c.fresh)),
        λ w. ⊎_elim
            (λ i. ⊎_elim
            (λ a. let told = renewed_stands r a in (mv.roles r).1 (inl (told.0, told.1.0)))
            (λ f. (mv.roles r).1 (inr f))
            ((In-append Role r p c.fresh).0 i))
            (λ out. ⊎_elim
            (λ g. let none : newest (keys_then k c p) r ≡ None = no_key r out g in let some : newest (keys_then k c p) r ≡ Some w.0 = w.1 in absurd cc)
            (λ stays. (mv.roles r).1 (inl ((ok.keyed r).1 (w.0, sym (same_key r out stays) ∙ w.1), stays)))
            (in_or r c.gone))
            (in_or r (p ++ c.fresh)),
      )

  -- an edge that is published has its link, and another has its old one
  linked_then : (n : ℕ) (e : Edge) → IsEdge t e → (l : Link) × In l (links ++ links_from (keys_then k c (renewed k (edges s) c)) n (published_edges (edges s) c (renewed k (edges s) c))) × (l.edge ≡ e)
      × (l.from_serial ≡ present (keys_then k c (renewed k (edges s) c)) e.from) × (l.to_serial ≡ present (keys_then k c (renewed k (edges s) c)) e.to)
  unfolding published_edges is_published links_from link_of present
  linked_then n e w =
      let p = renewed k (edges s) c in
      let keys = keys_then k c p in
      let es = published_edges (edges s) c p in
      let new = links_from keys n es in
      ⊎_elim
      (λ b. let i : In e es = filter-In Edge (is_published c p) e (edges_then (edges s) c) ((then_told s c e).1 ((mv.leads e).1 w)) b in
      let q = numbered-in n es e i in
      let l : Link = link_of keys q.0 in
      let there : In l new = (In-map (Edge × ℕ) Link (link_of keys) l (numbered n es)).1 (q.0, q.1, refl) in
      (l, (In-append Link l links new).1 (inr there), q.2, ap (λ (x : Edge). unwrap_or (newest keys x.from) 0) q.2, ap (λ (x : Edge). unwrap_or (newest keys x.to) 0) q.2))
      (λ b. let halves = or_parts (has same_edge c.added e || has same_role (p ++ c.fresh) e.from) (has same_role (p ++ c.fresh) e.to) b in
      let first = or_parts (has same_edge c.added e) (has same_role (p ++ c.fresh) e.from) halves.0 in
      let ends = mv.ends_after e w in
      let from = same_key e.from (λ i. false≢true (sym first.1 ∙ in-has Role same_role same_role_tells (p ++ c.fresh) e.from i)) (not_gone e.from ends.0) in
      let to = same_key e.to (λ i. false≢true (sym halves.1 ∙ in-has Role same_role same_role_tells (p ++ c.fresh) e.to i)) (not_gone e.to ends.1) in
      ⊎_elim
      (λ u. let l = ok.linked e ((edges_told s e).1 u.0) in
      (l.0, (In-append Link l.0 links new).1 (inl l.1), l.2, l.3 ∙ ap (λ o. unwrap_or o 0) (sym from), l.4 ∙ ap (λ o. unwrap_or o 0) (sym to)))
      (λ a. absurd (false≢true (sym first.0 ∙ in-has Edge same_edge same_edge_tells c.added e a)))
      ((mv.leads e).1 w))
      (cases_Bool (is_published c p e))

  pub keys_after : (pieces : List Piece) → KeysHold t (key_step k (edges s) c pieces).after (links ++ (key_step k (edges s) c pieces).links)
  unfolding key_step step_with published
  keys_after pieces =
      let p = renewed k (edges s) c in
      let d = dirty_left k (edges s) c in record {
        closed = λ e i f.
            let u = (without_told p d e.from).0 f in
            (without_told p d e.to).1 (closed_then e ((edges_told t e).0 i) u.0 u.1);
        no_root = λ r i. marked_no_root r ((without_told p d r).0 i).0;
        dirty_stands = λ r i. let u = (without_told p d r).0 i in (mv.roles r).1 (inl (marked_stands r u.0, ((marked_told r).0 u.0).1));
        linked = λ e i. linked_then (next_serial k + length (given k c p)) e ((edges_told t e).0 i);
        keyed = keyed_then;
      }
