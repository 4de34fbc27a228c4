-- The key step of a store is a step of the laws over any roles.
use Rattle.std.proofs.Common.{◌≡◌, ℕ, ◌+◌, ◌*◌, ◌^◌, ◌<◌, ◌≤◌, true, false, cond, ◌||◌, ◌⊎◌, ◌↔◌, List, [], ◌∷◌, ◌++◌, map, filter, length, Option, Some, None, inl, inr, ⊎_elim, refl, sym, ap, ◌∙◌, subst, arith}
use Rattle.std.specs.Prelude.{unwrap_or}
use Rattle.std.proofs.lemmas.Bool.{or_cases, or_left, or_right, false≢true}
use Rattle.cry_base.specs.Sets.{In, Path, has}
use Rattle.cry_base.specs.Store.{Store}
use Rattle.cry_base.specs.declared.roles.Edge.{Edge}
use Rattle.cry_base.specs.declared.roles.Role.{Role}
use Rattle.cry_base.proofs.Members.{In-append, In-map, In-filter, filter-In}
use Rattle.cry_base.proofs.Reaching.{has-in, in-has}
use Rattle.role_graph.specs.Roles.{same_role, is_root_role}
use Rattle.role_graph.specs.Edges.{Reaches, edges, pairs_of, same_edge, IsEdge}
use Rattle.role_graph.proofs.Comparing.{same_role_tells}
use Rattle.role_graph.proofs.Edging.{edges_told}
use Rattle.role_graph.proofs.Typing.{typed}
use Rattle.rekey_walk.proofs.Marking.{mark_all_told}
use Rattle.move_plan.specs.Change.{Change}
use Rattle.public_fold.specs.Keyed.{HasRole, KeysHold}
use Rattle.public_fold.specs.KeyStep.{KeyState, Stepped, without, edges_left, dirty_left, renewed, next_serial, numbered, given, keys_then, keys_without, newest, present, edges_then, is_published, published_edges, link_of, links_from, published, step_with, key_step}
use Rattle.public_fold.specs.Records.{Link, Piece}
use Rattle.public_fold.proofs.EdgesThen.{left_told, then_told}
use Rattle.role_graph.proofs.AtEnds.{same_edge_tells}
use Rattle.public_fold.proofs.KeepingKeys.{IsMove, newest-first, numbered-some, without_told, marked_told, marked_stands, marked_no_root, renewed_back, renewed_stands, renewed_wanted, same_key, no_key, keys_after}
use Rattle.public_fold.proofs.Serials.{numbered-between, keys_between}
use Rattle.secrecy_laws.specs.States.{State, Move, IsStep, Fits}
use Rattle.secrecy_laws.specs.Pasts.{Past, marks_of, serials_of, past_then, ends_of, state_of, move_of}
use Rattle.secrecy_laws.proofs.Steps.{member}

-- pairs and their edges
pub pair_told : (es : List Edge) (q : Role × Role) → In q (pairs_of es) ↔ ((e : Edge) × In e es × (q ≡ (e.from, e.to)))
unfolding pairs_of
pair_told es q = In-map Edge (Role × Role) (λ e. (e.from, e.to)) q es

pub pair_in : (es : List Edge) (e : Edge) → In e es → In {X = Role × Role} (e.from, e.to) (pairs_of es)
pair_in es e i = (pair_told es (e.from, e.to)).1 (e, i, refl)

pub source_is : (q : Role × Role) (e : Edge) → q ≡ (e.from, e.to) → q.0 ≡ e.from
source_is q e s = ap (λ (z : Role × Role). z.0) s

target_is : (q : Role × Role) (e : Edge) → q ≡ (e.from, e.to) → q.1 ≡ e.to
target_is q e s = ap (λ (z : Role × Role). z.1) s

-- numbered items
numbered-of : (n : ℕ) (es : List Edge) (q : Edge × ℕ) → In q (numbered n es) → In q.0 es
unfolding numbered
numbered-of n [] q i = i
numbered-of n (x ∷ xs) q i = ⊎_elim (λ s. inl (ap (λ (z : Edge × ℕ). z.0) s)) (λ r. inr (numbered-of (n + 1) xs q r)) i

numbered-in : (n : ℕ) (es : List Edge) (e : Edge) → In e es → (q : Edge × ℕ) × In q (numbered n es) × (q.0 ≡ e)
unfolding numbered
numbered-in n [] e i = absurd i
numbered-in n (x ∷ xs) e i = ⊎_elim
    (λ s. let told : (q : Edge × ℕ) × In q ((x, n) ∷ numbered (n + 1) xs) × (q.0 ≡ e) = ((x, n), inl refl, sym s) in told)
    (λ r. let w = numbered-in (n + 1) xs e r in let told : (q : Edge × ℕ) × In q ((x, n) ∷ numbered (n + 1) xs) × (q.0 ≡ e) = (w.0, inr w.1, w.2) in told) i

numbered-own : (n : ℕ) (rs : List Role) (a b : Role) (k : ℕ) → In {X = Role × ℕ} (a, k) (numbered n rs) → In {X = Role × ℕ} (b, k) (numbered n rs) → a ≡ b
unfolding numbered
numbered-own n [] a b k i j = absurd i
numbered-own n (x ∷ xs) a b k i j = ⊎_elim
    (λ (s : (a, k) ≡ (x, n)). ⊎_elim
    (λ (t : (b, k) ≡ (x, n)). ap (λ (z : Role × ℕ). z.0) s ∙ sym (ap (λ (z : Role × ℕ). z.0) t))
    (λ u. let e : k ≡ n = ap (λ (z : Role × ℕ). z.1) s in let low : n + 1 ≤ k = (numbered-between Role (n + 1) xs (b, k) u).0 in absurd (omega arith)) j)
    (λ v. ⊎_elim
    (λ (t : (b, k) ≡ (x, n)). let e : k ≡ n = ap (λ (z : Role × ℕ). z.1) t in let low : n + 1 ≤ k = (numbered-between Role (n + 1) xs (a, k) v).0 in absurd (omega arith))
    (λ u. numbered-own (n + 1) xs a b k v u) j) i

newest_in : (xs : List (Role × ℕ)) (r : Role) (n : ℕ) → newest xs r ≡ Some n → In {X = Role × ℕ} (r, n) xs
unfolding newest
newest_in [] r n = λ e. absurd cc
newest_in (x ∷ xs) r n =
    (elim (same_role x.0 r) as (λ b. same_role x.0 r ≡ b → cond b (Some x.1) (newest xs r) ≡ Some n → In {X = Role × ℕ} (r, n) (x ∷ xs)) [
      | true ↦ λ t e. let a : x.0 ≡ r = (same_role_tells x.0 r).0 t in let b : x.1 ≡ n = cc in inl (λ i. (sym a i, sym b i))
      | false ↦ λ t e. inr (newest_in xs r n e)
    ]) refl

none_if : (o : Option ℕ) → ((n : ℕ) → o ≡ Some n → ⊥) → o ≡ None
none_if None never = refl
none_if (Some n) never = absurd (never n refl)

-- the serials of the keys of some roles
serials_told : (made : List (Role × ℕ)) (roles : List Role) (k : ℕ) → In k (serials_of made roles) ↔ ((r : Role) × In {X = Role × ℕ} (r, k) made × In r roles)
unfolding serials_of
serials_told made roles k = (
  λ i. let w = (In-map (Role × ℕ) ℕ (λ key. key.1) k (filter (λ key. has same_role roles key.0) made)).0 i in
      let v = In-filter (Role × ℕ) (λ key. has same_role roles key.0) w.0 made w.1 in
      (w.0.0, subst (λ z. In {X = Role × ℕ} (w.0.0, z) made) (sym w.2) v.0, has-in Role same_role same_role_tells roles w.0.0 v.1),
  λ w. (In-map (Role × ℕ) ℕ (λ key. key.1) k (filter (λ key. has same_role roles key.0) made)).1
      ((w.0, k), filter-In (Role × ℕ) (λ key. has same_role roles key.0) (w.0, k) made w.1 (in-has Role same_role same_role_tells roles w.0 w.2), refl),
)

-- links as pairs of serials, some and more
ends_append : (xs ys : List Link) (l : ℕ × ℕ) → In l (map ends_of (xs ++ ys)) ↔ (In l (map ends_of xs) ⊎ In l (map ends_of ys))
ends_append xs ys l = (
  λ i. let w = (In-map Link (ℕ × ℕ) ends_of l (xs ++ ys)).0 i in ⊎_elim
      (λ a. inl ((In-map Link (ℕ × ℕ) ends_of l xs).1 (w.0, a, w.2)))
      (λ b. inr ((In-map Link (ℕ × ℕ) ends_of l ys).1 (w.0, b, w.2)))
      ((In-append Link w.0 xs ys).0 w.1),
  λ e. ⊎_elim
      (λ a. let w = (In-map Link (ℕ × ℕ) ends_of l xs).0 a in (In-map Link (ℕ × ℕ) ends_of l (xs ++ ys)).1 (w.0, (In-append Link w.0 xs ys).1 (inl w.1), w.2))
      (λ b. let w = (In-map Link (ℕ × ℕ) ends_of l ys).0 b in (In-map Link (ℕ × ℕ) ends_of l (xs ++ ys)).1 (w.0, (In-append Link w.0 xs ys).1 (inr w.1), w.2)) e,
)

marks_told : (before : List Edge) (c : Change) (r : Role) → In r (marks_of before c) ↔ ((w : Role) × In w (map (λ (e : Edge). e.to) c.removed) × Reaches before w r)
unfolding marks_of
marks_told before c r =
    let all = mark_all_told [] before (map (λ (e : Edge). e.to) c.removed) r in
    (λ i. ⊎_elim (λ n. absurd n) (λ w. w) (all.0 i), λ w. all.1 (inr w))

module _ (s t : Store) (k : KeyState) (c : Change) (p : Past) (pieces : List Piece) (mv : IsMove s c t) (ok : KeysHold s k p.links) (below : (key : Role × ℕ) → In key p.made → key.1 < next_serial k) where
  abbrev pub step : Stepped
  step = key_step k (edges s) c pieces

  abbrev pub old : State Role
  old = state_of (record { store = s; keys = k }) p

  abbrev pub new : State Role
  new = state_of (record { store = t; keys = step.after }) (past_then p (edges s) c step)

  abbrev pub move : Move Role
  move = move_of (edges s) c step

  not_gone : (r : Role) → HasRole t r → In r c.gone → ⊥
  not_gone r h g = ⊎_elim (λ w. w.1 g) (λ f. mv.fresh_stays r f g) ((mv.roles r).0 h)

  -- the edges of the store after the step
  left_after : (e : Edge) → In e (edges_left (edges s) c) → IsEdge t e
  left_after e i = let w = (left_told (edges s) c e).0 i in (mv.leads e).0 (inl ((edges_told s e).0 w.0, w.1))

  added_after : (e : Edge) → In e c.added → IsEdge t e
  added_after e a = (mv.leads e).0 (inr a)

  pub removed_stood : (q : Role × Role) → In q (pairs_of c.removed) → In q (pairs_of (edges s))
  removed_stood q i = let w = (pair_told c.removed q).0 i in (pair_told (edges s) q).1 (w.0, (edges_told s w.0).1 (mv.removed_stand w.0 w.1), w.2)

  left_stood : (q : Role × Role) → In q (pairs_of (edges_left (edges s) c)) → In q (pairs_of (edges s))
  left_stood q i = let w = (pair_told (edges_left (edges s) c) q).0 i in (pair_told (edges s) q).1 (w.0, ((left_told (edges s) c w.0).0 w.1).0, w.2)

  parted : (q : Role × Role) → In q (pairs_of (edges s)) → In q (pairs_of (edges_left (edges s) c)) ⊎ In q (pairs_of c.removed)
  parted q i = let w = (pair_told (edges s) q).0 i in ⊎_elim
      (λ r. inr ((pair_told c.removed q).1 (w.0, r, w.2)))
      (λ out. inl ((pair_told (edges_left (edges s) c) q).1 (w.0, (left_told (edges s) c w.0).1 (w.1, out), w.2)))
      (member same_edge same_edge_tells w.0 c.removed)

  edges_are : (q : Role × Role) → In q (pairs_of (edges t)) ↔ (In q (pairs_of (edges_left (edges s) c)) ⊎ In q (pairs_of c.added))
  edges_are q = (
    λ i. let w = (pair_told (edges t) q).0 i in ⊎_elim
        (λ u. inl ((pair_told (edges_left (edges s) c) q).1 (w.0, (left_told (edges s) c w.0).1 ((edges_told s w.0).1 u.0, u.1), w.2)))
        (λ a. inr ((pair_told c.added q).1 (w.0, a, w.2)))
        ((mv.leads w.0).1 ((edges_told t w.0).0 w.1)),
    λ e. ⊎_elim
        (λ l. let w = (pair_told (edges_left (edges s) c) q).0 l in (pair_told (edges t) q).1 (w.0, (edges_told t w.0).1 (left_after w.0 w.1), w.2))
        (λ a. let w = (pair_told c.added q).0 a in (pair_told (edges t) q).1 (w.0, (edges_told t w.0).1 (added_after w.0 w.1), w.2)) e,
  )

  marked_are : (r : Role) → In r (marks_of (edges s) c) ↔ ((q : Role × Role) × In q (pairs_of c.removed) × Path (pairs_of (edges s)) q.1 r)
  marked_are r = (
    λ i. let w = (marks_told (edges s) c r).0 i in
        let u = (In-map Edge Role (λ (e : Edge). e.to) w.0 c.removed).0 w.1 in
        ((u.0.from, u.0.to), pair_in c.removed u.0 u.1, subst (λ z. Path (pairs_of (edges s)) z r) u.2 w.2),
    λ w. let u = (pair_told c.removed w.0).0 w.1 in
        (marks_told (edges s) c r).1 (u.0.to, (In-map Edge Role (λ (e : Edge). e.to) u.0.to c.removed).1 (u.0, u.1, refl), subst (λ z. Path (pairs_of (edges s)) z r) (target_is w.0 u.0 u.2) w.2),
  )

  dirty_told : (r : Role) → In r (dirty_left k (edges s) c) ↔ ((In r k.dirty ⊎ In r (marks_of (edges s) c)) × (In r c.gone → ⊥))
  dirty_told r =
      let told = marked_told s t k c p.links mv ok r in
      let marks = marks_told (edges s) c r in (
        λ i. let w = told.0 i in (⊎_elim (λ d. inl d) (λ u. inr (marks.1 u)) w.0, w.1),
        λ w. told.1 (⊎_elim (λ d. inl d) (λ u. inr (marks.0 u)) w.0, w.1),
      )

  dirty_are : (r : Role) → In r (without same_role (renewed k (edges s) c) (dirty_left k (edges s) c)) ↔ ((In r k.dirty ⊎ In r (marks_of (edges s) c)) × (In r c.gone → ⊥) × (In r (renewed k (edges s) c) ⊎ In r c.fresh → ⊥))
  dirty_are r =
      let out = without_told (renewed k (edges s) c) (dirty_left k (edges s) c) r in (
        λ i. let u = out.0 i in
            let v = (dirty_told r).0 u.0 in
            (v.0, v.1, λ touched. ⊎_elim u.1 (λ f. mv.fresh_is_new r f (marked_stands s t k c p.links mv ok r u.0)) touched),
        λ w. out.1 ((dirty_told r).1 (w.0, w.1), λ i. w.2 (inl i)),
      )

  touched : (r : Role) → In r (renewed k (edges s) c) ⊎ In r c.fresh → In r (renewed k (edges s) c ++ c.fresh)
  touched r e = (In-append Role r (renewed k (edges s) c) c.fresh).1 e

  new_key : (r : Role) → In r (renewed k (edges s) c) ⊎ In r c.fresh → (n : ℕ) × (newest (keys_then k c (renewed k (edges s) c)) r ≡ Some n) × In {X = Role × ℕ} (r, n) (given k c (renewed k (edges s) c))
  unfolding keys_then given
  new_key r e =
      let w = numbered-some (next_serial k) (renewed k (edges s) c ++ c.fresh) r (touched r e) in (
        w.0,
        newest-first (numbered (next_serial k) (renewed k (edges s) c ++ c.fresh)) (keys_without (renewed k (edges s) c ++ c.gone) k.keys) r w.0 w.1,
        newest_in (numbered (next_serial k) (renewed k (edges s) c ++ c.fresh)) r w.0 w.1,
      )

  untouched : (r : Role) → (In r (renewed k (edges s) c) ⊎ In r c.fresh → ⊥) → In r (renewed k (edges s) c ++ c.fresh) → ⊥
  untouched r out i = out ((In-append Role r (renewed k (edges s) c) c.fresh).0 i)

  -- a role that stands after the step has the key that links speak of
  keyed : (r : Role) → HasRole t r → (n : ℕ) × (newest (keys_then k c (renewed k (edges s) c)) r ≡ Some n)
  unfolding key_step step_with published
  keyed r h = ((keys_after s t k c p.links mv ok pieces).keyed r).0 h

  pub keyed_present : (r : Role) → HasRole t r → newest (keys_then k c (renewed k (edges s) c)) r ≡ Some (present (keys_then k c (renewed k (edges s) c)) r)
  unfolding present
  keyed_present r h = let w = keyed r h in w.1 ∙ ap (λ n. Some n) (sym (ap (λ o. unwrap_or o 0) w.1))

  present_is : (r : Role) (n : ℕ) → newest (keys_then k c (renewed k (edges s) c)) r ≡ Some n → present (keys_then k c (renewed k (edges s) c)) r ≡ n
  unfolding present
  present_is r n e = ap (λ o. unwrap_or o 0) e

  -- which edges are published
  published_is : (e : Edge) → In e (published_edges (edges s) c (renewed k (edges s) c)) → IsEdge t e × (In e c.added ⊎ (In e.from (renewed k (edges s) c ++ c.fresh) ⊎ In e.to (renewed k (edges s) c ++ c.fresh)))
  unfolding published_edges is_published
  published_is e i =
      let rs = renewed k (edges s) c ++ c.fresh in
      let w = In-filter Edge (is_published c (renewed k (edges s) c)) e (edges_then (edges s) c) i in (
        (mv.leads e).0 ((then_told s c e).0 w.0),
        ⊎_elim
            (λ a. ⊎_elim
            (λ b. inl (has-in Edge same_edge same_edge_tells c.added e b))
            (λ b. inr (inl (has-in Role same_role same_role_tells rs e.from b)))
            (or_cases (has same_edge c.added e) (has same_role rs e.from) a))
            (λ b. inr (inr (has-in Role same_role same_role_tells rs e.to b)))
            (or_cases (has same_edge c.added e || has same_role rs e.from) (has same_role rs e.to) w.1),
      )

  is_shown : (e : Edge) → IsEdge t e → In e c.added ⊎ (In e.from (renewed k (edges s) c ++ c.fresh) ⊎ In e.to (renewed k (edges s) c ++ c.fresh)) → In e (published_edges (edges s) c (renewed k (edges s) c))
  unfolding published_edges is_published
  is_shown e w why =
      let rs = renewed k (edges s) c ++ c.fresh in
      let a = has same_edge c.added e in
      let b = has same_role rs e.from in
      let d = has same_role rs e.to in
      filter-In Edge (is_published c (renewed k (edges s) c)) e (edges_then (edges s) c) ((then_told s c e).1 ((mv.leads e).1 w))
      (⊎_elim
      (λ i. or_left (a || b) d (or_left a b (in-has Edge same_edge same_edge_tells c.added e i)))
      (λ u. ⊎_elim
      (λ i. or_left (a || b) d (or_right a b (in-has Role same_role same_role_tells rs e.from i)))
      (λ i. or_right (a || b) d (in-has Role same_role same_role_tells rs e.to i)) u)
      why)

  -- the link of a published edge
  link_for : (n : ℕ) (e : Edge) (l : ℕ × ℕ) → In e (published_edges (edges s) c (renewed k (edges s) c))
      → newest (keys_then k c (renewed k (edges s) c)) e.from ≡ Some l.0 → newest (keys_then k c (renewed k (edges s) c)) e.to ≡ Some l.1
      → In l (map ends_of (links_from (keys_then k c (renewed k (edges s) c)) n (published_edges (edges s) c (renewed k (edges s) c))))
  unfolding links_from link_of
  link_for n e l i a b =
      let ks = keys_then k c (renewed k (edges s) c) in
      let es = published_edges (edges s) c (renewed k (edges s) c) in
      let q = numbered-in n es e i in
      let x : Link = link_of ks q.0 in
      let from : l.0 ≡ present ks q.0.0.from = sym (present_is e.from l.0 a) ∙ ap (λ (y : Edge). present ks y.from) (sym q.2) in
      let to : l.1 ≡ present ks q.0.0.to = sym (present_is e.to l.1 b) ∙ ap (λ (y : Edge). present ks y.to) (sym q.2) in
      (In-map Link (ℕ × ℕ) ends_of l (map (link_of ks) (numbered n es))).1
      (x, (In-map (Edge × ℕ) Link (link_of ks) x (numbered n es)).1 (q.0, q.1, refl), λ j. (from j, to j))

  link_of_edge : (n : ℕ) (l : ℕ × ℕ) → In l (map ends_of (links_from (keys_then k c (renewed k (edges s) c)) n (published_edges (edges s) c (renewed k (edges s) c))))
      → (e : Edge) × In e (published_edges (edges s) c (renewed k (edges s) c)) × (l.0 ≡ present (keys_then k c (renewed k (edges s) c)) e.from) × (l.1 ≡ present (keys_then k c (renewed k (edges s) c)) e.to)
  unfolding links_from link_of
  link_of_edge n l i =
      let ks = keys_then k c (renewed k (edges s) c) in
      let es = published_edges (edges s) c (renewed k (edges s) c) in
      let w = (In-map Link (ℕ × ℕ) ends_of l (map (link_of ks) (numbered n es))).0 i in
      let u = (In-map (Edge × ℕ) Link (link_of ks) w.0 (numbered n es)).0 w.1 in
      let from : l.0 ≡ w.0.from_serial = ap (λ (z : ℕ × ℕ). z.0) w.2 in
      let to : l.1 ≡ w.0.to_serial = ap (λ (z : ℕ × ℕ). z.1) w.2 in
      (u.0.0, numbered-of n es u.0 u.1, from ∙ ap (λ (x : Link). x.from_serial) u.2, to ∙ ap (λ (x : Link). x.to_serial) u.2)

  -- the links that the step publishes are those of the laws
  abbrev IsShownLink : ℕ × ℕ → Type 0
  IsShownLink l = (q : Role × Role) × In q (pairs_of (edges t)) × (newest (keys_then k c (renewed k (edges s) c)) q.0 ≡ Some l.0) × (newest (keys_then k c (renewed k (edges s) c)) q.1 ≡ Some l.1)
      × (In q (pairs_of c.added) ⊎ ((In q.0 (renewed k (edges s) c) ⊎ In q.0 c.fresh) ⊎ (In q.1 (renewed k (edges s) c) ⊎ In q.1 c.fresh)))

  parts_of : (r : Role) → In r (renewed k (edges s) c ++ c.fresh) → In r (renewed k (edges s) c) ⊎ In r c.fresh
  parts_of r i = (In-append Role r (renewed k (edges s) c) c.fresh).0 i

  links_are : (n : ℕ) (l : ℕ × ℕ) → In l (map ends_of (links_from (keys_then k c (renewed k (edges s) c)) n (published_edges (edges s) c (renewed k (edges s) c)))) ↔ IsShownLink l
  links_are n l =
      let ks = keys_then k c (renewed k (edges s) c) in (
        λ i. let w = link_of_edge n l i in
            let e = w.0 in
            let v = published_is e w.1 in
            let ends = mv.ends_after e v.0 in (
              (e.from, e.to),
              pair_in (edges t) e ((edges_told t e).1 v.0),
              keyed_present e.from ends.0 ∙ ap (λ n. Some n) (sym w.2),
              keyed_present e.to ends.1 ∙ ap (λ n. Some n) (sym w.3),
              ⊎_elim (λ a. inl (pair_in c.added e a)) (λ u. ⊎_elim (λ a. inr (inl (parts_of e.from a))) (λ a. inr (inr (parts_of e.to a))) u) v.1,
            ),
        λ w. let at = (pair_told (edges t) w.0).0 w.1 in
            let one = λ (e : Edge) (same : w.0 ≡ (e.from, e.to)) (i : In e (published_edges (edges s) c (renewed k (edges s) c))).
            link_for n e l i (ap (newest ks) (sym (source_is w.0 e same)) ∙ w.2) (ap (newest ks) (sym (target_is w.0 e same)) ∙ w.3) in
            ⊎_elim
            (λ a. let u = (pair_told c.added w.0).0 a in one u.0 u.2 (is_shown u.0 (added_after u.0 u.1) (inl u.1)))
            (λ v. one at.0 at.2 (is_shown at.0 ((edges_told t at.0).0 at.1) (inr (⊎_elim
            (λ a. inl (subst (λ r. In r (renewed k (edges s) c ++ c.fresh)) (source_is w.0 at.0 at.2) (touched w.0.0 a)))
            (λ a. inr (subst (λ r. In r (renewed k (edges s) c ++ c.fresh)) (target_is w.0 at.0 at.2) (touched w.0.1 a))) v))))
            w.4,
      )

  pub is_step : IsStep old move new
  unfolding key_step step_with published past_then
  is_step = record {
    removed_stood = removed_stood;
    left_stood = left_stood;
    parted = parted;
    edges = edges_are;
    marked = marked_are;
    dirty = dirty_are;
    new_key = new_key;
    same_key = λ r out stays. same_key s t k c p.links mv ok r (untouched r out) stays;
    no_key = λ r out g. no_key s t k c p.links mv ok r (untouched r out) g;
    made = λ key. In-append (Role × ℕ) key p.made (given k c (renewed k (edges s) c));
    tainted = λ j.
        let both = In-append ℕ j p.tainted (serials_of p.made (marks_of (edges s) c)) in
        let told = serials_told p.made (marks_of (edges s) c) j in
        (λ i. ⊎_elim (λ a. inl a) (λ b. inr (told.0 b)) (both.0 i), λ e. both.1 (⊎_elim (λ a. inl a) (λ b. inr (told.1 b)) e));
    shown = λ l. links_are (next_serial k + length (given k c (renewed k (edges s) c))) l;
    links = λ l. ends_append p.links (links_from (keys_then k c (renewed k (edges s) c)) (next_serial k + length (given k c (renewed k (edges s) c))) (published_edges (edges s) c (renewed k (edges s) c))) l;
  }

  left_ends : (q : Role × Role) → In q (pairs_of (edges_left (edges s) c)) → (In q.0 c.gone → ⊥) × (In q.1 c.gone → ⊥)
  left_ends q i =
      let w = (pair_told (edges_left (edges s) c) q).0 i in
      let ends = mv.ends_after w.0 (left_after w.0 w.1) in (
        λ g. not_gone w.0.from ends.0 (subst (λ r. In r c.gone) (source_is q w.0 w.2) g),
        λ g. not_gone w.0.to ends.1 (subst (λ r. In r c.gone) (target_is q w.0 w.2) g),
      )

  renews_back : (q : Role × Role) → In q (pairs_of (edges_left (edges s) c)) → In q.0 k.dirty ⊎ In q.0 (marks_of (edges s) c) → In q.1 (renewed k (edges s) c) → In q.0 (renewed k (edges s) c)
  renews_back q i d rn =
      let w = (pair_told (edges_left (edges s) c) q).0 i in
      let dirty = (dirty_told q.0).1 (d, (left_ends q i).0) in
      subst (λ r. In r (renewed k (edges s) c)) (sym (source_is q w.0 w.2)) (renewed_back s t k c p.links mv ok w.0 w.1
      (subst (λ r. In r (dirty_left k (edges s) c)) (source_is q w.0 w.2) dirty)
      (subst (λ r. In r (renewed k (edges s) c)) (target_is q w.0 w.2) rn))

  -- a root, a wanted role and a new one are clean after the step
  pub source_clean : (r : Role) → (is_root_role r ≡ true) ⊎ (In r c.wanted ⊎ In r c.fresh) → In r (without same_role (renewed k (edges s) c) (dirty_left k (edges s) c)) → ⊥
  source_clean r due d =
      let u = (without_told (renewed k (edges s) c) (dirty_left k (edges s) c) r).0 d in
      ⊎_elim
      (λ root. false≢true (sym (marked_no_root s t k c p.links mv ok r u.0) ∙ root))
      (λ v. ⊎_elim
      (λ wanted. u.1 (renewed_wanted s t k c p.links mv ok r u.0 wanted))
      (λ fresh. mv.fresh_is_new r fresh (marked_stands s t k c p.links mv ok r u.0)) v)
      due

  adds_clean : (q : Role × Role) → In q (pairs_of c.added) → In q.0 (without same_role (renewed k (edges s) c) (dirty_left k (edges s) c)) → ⊥
  adds_clean q a d =
      let w = (pair_told c.added q).0 a in
      source_clean w.0.from (mv.sources w.0 w.1) (subst (λ r. In r (without same_role (renewed k (edges s) c) (dirty_left k (edges s) c))) (source_is q w.0 w.2) d)

  adds_keyed : (q : Role × Role) → In q (pairs_of c.added) → ((n : ℕ) × (newest (keys_then k c (renewed k (edges s) c)) q.0 ≡ Some n)) × ((n : ℕ) × (newest (keys_then k c (renewed k (edges s) c)) q.1 ≡ Some n))
  adds_keyed q a =
      let ks = keys_then k c (renewed k (edges s) c) in
      let w = (pair_told c.added q).0 a in
      let ends = mv.ends_after w.0 (added_after w.0 w.1) in
      let from = keyed w.0.from ends.0 in
      let to = keyed w.0.to ends.1 in
      ((from.0, ap (newest ks) (source_is q w.0 w.2) ∙ from.1), (to.0, ap (newest ks) (target_is q w.0 w.2) ∙ to.1))

  fresh_had_none : (r : Role) → In r c.fresh → newest k.keys r ≡ None
  fresh_had_none r f = none_if (newest k.keys r) (λ n e. mv.fresh_is_new r f ((ok.keyed r).1 (n, e)))

  serials_new : (r q : Role) (j : ℕ) → In {X = Role × ℕ} (r, j) (key_step k (edges s) c pieces).given → In {X = Role × ℕ} (q, j) p.made → ⊥
  serials_new r q j g i =
      let low : next_serial k ≤ j = (keys_between k (edges s) c pieces (r, j) g).0 in
      let high : j < next_serial k = below (q, j) i in omega arith

  serials_differ : (r q : Role) (j : ℕ) → In {X = Role × ℕ} (r, j) (given k c (renewed k (edges s) c)) → In {X = Role × ℕ} (q, j) (given k c (renewed k (edges s) c)) → r ≡ q
  unfolding given
  serials_differ r q j a b = numbered-own (next_serial k) (renewed k (edges s) c ++ c.fresh) r q j a b

  roots_stay : (r : Role) → In r (renewed k (edges s) c) → is_root_role r ≡ true → ⊥
  roots_stay r i root = false≢true (sym (renewed_stands s t k c p.links mv ok r i).1.1 ∙ root)

  none_into : (q : Role × Role) → In q (pairs_of (edges t)) → is_root_role q.1 ≡ true → ⊥
  none_into q i root =
      let w = (pair_told (edges t) q).0 i in
      false≢true (sym (typed t w.0 w.1).0 ∙ subst (λ r. is_root_role r ≡ true) (target_is q w.0 w.2) root)

  pub fits_step : Fits is_root_role old move new
  unfolding key_step step_with published past_then
  fits_step = record {
    renews_back = renews_back;
    adds_clean = adds_clean;
    adds_keyed = adds_keyed;
    left_stays = left_ends;
    fresh_had_none = fresh_had_none;
    serials_new = serials_new;
    serials_differ = serials_differ;
    roots_stay = roots_stay;
    none_into_roots = none_into;
  }

  counter_grows : next_serial k ≤ next_serial (key_step k (edges s) c pieces).after
  unfolding next_serial key_step step_with published
  counter_grows = grows (k.epoch * 2 ^ 32) k.count (length (given k c (renewed k (edges s) c))) (length (published_edges (edges s) c (renewed k (edges s) c))) (length pieces)
    where
      grows : (n a b d e : ℕ) → n + a ≤ n + (a + b + d + e)
      grows n a b d e = omega arith

  pub below_after : (key : Role × ℕ) → In key (past_then p (edges s) c (key_step k (edges s) c pieces)).made → key.1 < next_serial (key_step k (edges s) c pieces).after
  unfolding past_then
  below_after key i = ⊎_elim
      (λ a. let low : key.1 < next_serial k = below key a in let more : next_serial k ≤ next_serial (key_step k (edges s) c pieces).after = counter_grows in omega arith)
      (λ b. (keys_between k (edges s) c pieces key b).1)
      ((In-append (Role × ℕ) key p.made (key_step k (edges s) c pieces).given).0 i)
