-- A pass over the edges: what one step adds to a set, and what a set that no edge leads out of holds.
use Rattle.std.proofs.Common.{◌≡◌, ℕ, suc, ◌+◌, ◌≤◌, ◌<◌, Bool, true, false, cond, not, ◌&&◌, ◌↔◌, List, [], ◌∷◌, ◌++◌, filter, length, get_or, take, inl, inr, ⊎_elim, refl, sym, ap, ◌∙◌, subst, arith}
use Rattle.std.proofs.lemmas.Bool.{false≢true, cases_Bool, and_parts, and_cases, not-false}
use Rattle.std.proofs.lemmas.List.{take_more}
use Rattle.cry_base.specs.Sets.{In, has}
use Rattle.cry_base.specs.Sets.Path.{Here, On}
use Rattle.cry_base.specs.declared.roles.Edge.{Edge}
use Rattle.cry_base.specs.declared.roles.Role.{Role}
use Rattle.cry_base.proofs.Members.{In-append, In-map}
use Rattle.cry_base.proofs.Reaching.{has-in, in-has, Closed-path, Path-on}
use Rattle.role_graph.specs.Roles.{same_role}
use Rattle.role_graph.specs.Edges.{pairs_of, Reaches, edge}
use Rattle.role_graph.specs.Ascending.{with_role}
use Rattle.role_graph.specs.Closing.{IsReached, IsLeading, IsClosed, count_outside, turned}
use Rattle.role_graph.proofs.Comparing.{same_role_tells}
use Rattle.role_graph.proofs.Rising.{with_role-in, in-with_role}

-- an edge is among the pairs, and a pair is an edge's
pub edge_pair : (es : List Edge) (e : Edge) → In e es → In {X = Role × Role} (e.from, e.to) (pairs_of es)
unfolding pairs_of
edge_pair es e i = (In-map Edge (Role × Role) (λ (x : Edge). (x.from, x.to)) (e.from, e.to) es).1 (e, i, refl)

pub pair_edge : (es : List Edge) (q : Role × Role) → In q (pairs_of es) → (e : Edge) × In e es × (q ≡ (e.from, e.to))
unfolding pairs_of
pair_edge es q i = (In-map Edge (Role × Role) (λ (x : Edge). (x.from, x.to)) q es).0 i

-- a set that no edge leads out of has all that paths from it lead to
pub closed_holds : (es : List Edge) (rs : List Role) → IsClosed es rs → (a r : Role) → In a rs → Reaches es a r → In r rs
closed_holds es rs closed a r i way = Closed-path Role rs pairs_closed i way
  where
    pairs_closed : (q : Role × Role) → In q (pairs_of es) → In q.0 rs → In q.1 rs
    pairs_closed q j from =
        let w = pair_edge es q j in
        subst (λ (p : Role × Role). In p.1 rs) (sym w.2) (closed w.0 w.1 (subst (λ (p : Role × Role). In p.0 rs) w.2 from))

-- whether the edge leads out of the set
abbrev pub leads : Edge → List Role → Bool
leads e rs = has same_role rs e.from && not (has same_role rs e.to)

-- the set after a step along the edge
abbrev pub stepped : Bool → Edge → List Role → List Role
stepped grew e rs = cond grew (with_role e.to rs) rs

pub step_keeps : (grew : Bool) (e : Edge) (rs : List Role) (r : Role) → In r rs → In r (stepped grew e rs)
step_keeps true e rs r i = in-with_role e.to r rs (inr i)
step_keeps false e rs r i = i

pub step_sound : (es : List Edge) (start : List Role) (e : Edge) → In e es → (rs : List Role) → ((r : Role) → In r rs → IsReached es start r) → (grew : Bool) → grew ≡ leads e rs → (r : Role) → In r (stepped grew e rs) → IsReached es start r
step_sound es start e i rs sound false told r j = sound r j
step_sound es start e i rs sound true told r j = ⊎_elim
    (λ (same : r ≡ e.to).
    let before = sound e.from (has-in Role same_role same_role_tells rs e.from (and_parts _ _ (sym told)).0) in
    (before.0, before.1, subst (λ z. Reaches es before.0 z) (sym same) (On before.2 (edge_pair es e i))))
    (λ u. sound r u) (with_role-in e.to r rs j)

-- an edge that doesn't lead out leads from the set into it
pub stays_in : (e : Edge) (rs : List Role) → false ≡ leads e rs → In e.from rs → In e.to rs
stays_in e rs told i = ⊎_elim
    (λ n. absurd (false≢true (sym n ∙ in-has Role same_role same_role_tells rs e.from i)))
    (λ n. has-in Role same_role same_role_tells rs e.to (not-false _ n))
    (and_cases (has same_role rs e.from) (not (has same_role rs e.to)) (sym told))

-- no edge leads to fewer roles outside a larger set
abbrev pub Within : List Role → List Role → Type 0
Within rs ss = (r : Role) → In r rs → In r ss

has_more : (rs ss : List Role) → Within rs ss → (r : Role) → has same_role ss r ≡ false → has same_role rs r ≡ false
has_more rs ss within r n = ⊎_elim
    (λ h. absurd (false≢true (sym n ∙ in-has Role same_role same_role_tells ss r (within r (has-in Role same_role same_role_tells rs r h)))))
    (λ f. f) (cases_Bool (has same_role rs r))

outside-cons : (e : Edge) (es : List Edge) (rs : List Role) → count_outside (e ∷ es) rs ≡ cond (has same_role rs e.to) (count_outside es rs) (suc (count_outside es rs))
unfolding count_outside
outside-cons e es rs =
    let others : List Edge = filter (λ x. not (has same_role rs x.to)) es in
    elim (has same_role rs e.to) as (λ b. length (cond (not b) (e ∷ others) others) ≡ cond b (length others) (suc (length others))) [ true ↦ refl | false ↦ refl ]

count_falls : (a b : Bool) (m n : ℕ) → m ≤ n → (a ≡ false → b ≡ false) → cond a m (suc m) ≤ cond b n (suc n)
count_falls true true m n h k = h
count_falls true false m n h k = omega arith
count_falls false true m n h k = absurd (false≢true (sym (k refl)))
count_falls false false m n h k = omega arith

count_fewer : (a b : Bool) (m n : ℕ) → m < n → (a ≡ false → b ≡ false) → cond a m (suc m) < cond b n (suc n)
count_fewer true true m n h k = h
count_fewer true false m n h k = omega arith
count_fewer false true m n h k = absurd (false≢true (sym (k refl)))
count_fewer false false m n h k = omega arith

count_one_fewer : (a b : Bool) (m n : ℕ) → m ≤ n → a ≡ true → b ≡ false → cond a m (suc m) < cond b n (suc n)
count_one_fewer true false m n h s t = omega arith
count_one_fewer true true m n h s t = absurd (false≢true (sym t))
count_one_fewer false b m n h s t = absurd (false≢true s)

pub outside_falls : (es : List Edge) (rs ss : List Role) → Within rs ss → count_outside es ss ≤ count_outside es rs
outside_falls [] rs ss within = unfold count_outside in omega arith
outside_falls (e ∷ es) rs ss within =
    rw (outside-cons e es ss, outside-cons e es rs) (count_falls _ _ _ _ (outside_falls es rs ss within) (has_more rs ss within e.to))

outside_fewer : (es : List Edge) (rs ss : List Role) → Within rs ss → (e : Edge) → In e es → has same_role rs e.to ≡ false → has same_role ss e.to ≡ true → count_outside es ss < count_outside es rs
outside_fewer [] rs ss within e i n y = absurd i
outside_fewer (x ∷ es) rs ss within e i n y = rw (outside-cons x es ss, outside-cons x es rs) (⊎_elim
    (λ (s : e ≡ x). count_one_fewer _ _ _ _ (outside_falls es rs ss within) (subst (λ (z : Edge). has same_role ss z.to ≡ true) s y) (subst (λ (z : Edge). has same_role rs z.to ≡ false) s n))
    (λ u. count_fewer _ _ _ _ (outside_fewer es rs ss within e u n y) (has_more rs ss within x.to)) i)

-- a step that grew the set lessens the edges that lead outside
pub step_fewer : (es : List Edge) (e : Edge) → In e es → (rs : List Role) → true ≡ leads e rs → count_outside es (with_role e.to rs) < count_outside es rs
step_fewer es e i rs told = outside_fewer es rs (with_role e.to rs) (λ r j. in-with_role e.to r rs (inr j)) e i
    (not-true _ (and_parts (has same_role rs e.from) (not (has same_role rs e.to)) (sym told)).1)
    (in-has Role same_role same_role_tells (with_role e.to rs) e.to (in-with_role e.to e.to rs (inl refl)))
  where
    not-true : (b : Bool) → not b ≡ true → b ≡ false
    not-true true h = absurd (false≢true h)
    not-true false h = refl

-- the edges so far, and one more
pub closed_more : (done : List Edge) (e : Edge) (rs : List Role) → IsClosed done rs → (In e.from rs → In e.to rs) → IsClosed (done ++ e ∷ []) rs
closed_more done e rs closed one x i from = ⊎_elim
    (λ d. closed x d from)
    (λ l. ⊎_elim (λ (s : x ≡ e). subst (λ (z : Edge). In z.to rs) (sym s) (one (subst (λ (z : Edge). In z.from rs) s from))) (λ n. absurd n) l)
    ((In-append Edge x done (e ∷ [])).0 i)

pub closed_step : (es : List Edge) (i : ℕ) (d : Edge) → i < length es → (rs new : List Role) → new ≡ rs → false ≡ leads (get_or es i d) rs → IsClosed (take i es) rs → IsClosed (take (i + 1) es) new
closed_step es i d p rs new same told closed =
    subst (IsClosed (take (i + 1) es)) (sym same) (subst (λ z. IsClosed z rs) (sym (take_more es i d p)) (closed_more (take i es) (get_or es i d) rs closed (stays_in (get_or es i d) rs told)))

pub fewer_step : (es : List Edge) (e : Edge) → In e es → (start rs new : List Role) → Within start rs → new ≡ with_role e.to rs → true ≡ leads e rs → count_outside es new < count_outside es start
fewer_step es e i start rs new within same told =
    let less = step_fewer es e i rs told in let falls = outside_falls es start rs within in
    subst (λ z. count_outside es z < count_outside es start) (sym same) (omega arith)

-- what paths lead to from what is reached is reached
pub reached_on : (es : List Edge) (start rs : List Role) → ((r : Role) → In r rs → IsReached es start r) → (r : Role) → IsReached es rs r → IsReached es start r
reached_on es start rs sound r told = let w = sound told.0 told.1 in (w.0, w.1, Path-on w.2 told.2)

pub reached_start : (es : List Edge) (rs : List Role) (r : Role) → In r rs → IsReached es rs r
reached_start es rs r i = (r, i, Here)

-- from a set that holds the same roles, the same is reached
pub reached_same : (es : List Edge) (rs ss : List Role) → ((r : Role) → In r rs ↔ In r ss) → (r : Role) → IsReached es rs r ↔ IsReached es ss r
reached_same es rs ss same r = (λ w. (w.0, (same w.0).0 w.1, w.2), λ w. (w.0, (same w.0).1 w.1, w.2))

-- a path along the edges that are turned is one along the edges, the other way round
both_ends : (x y a b : Role) (qs : List (Role × Role)) → x ≡ a → y ≡ b → In {X = Role × Role} (x, y) qs → In {X = Role × Role} (a, b) qs
both_ends x y a b qs e f i = subst (λ z. In {X = Role × Role} (a, z) qs) f (subst (λ z. In {X = Role × Role} (z, y) qs) e i)

turned_pair : (es : List Edge) (a b : Role) → In {X = Role × Role} (a, b) (pairs_of (turned es)) → In {X = Role × Role} (b, a) (pairs_of es)
unfolding turned edge
turned_pair es a b i =
    let w = pair_edge (turned es) (a, b) i in
    let v = (In-map Edge Edge (λ (x : Edge). edge x.kind x.to x.from) w.0 es).0 w.1 in
    let from : a ≡ v.0.to = ap (λ (p : Role × Role). p.0) w.2 ∙ ap (λ (x : Edge). x.from) v.2 in
    let to : b ≡ v.0.from = ap (λ (p : Role × Role). p.1) w.2 ∙ ap (λ (x : Edge). x.to) v.2 in
    both_ends v.0.from v.0.to b a (pairs_of es) (sym to) (sym from) (edge_pair es v.0 v.1)

pair_turned : (es : List Edge) (a b : Role) → In {X = Role × Role} (b, a) (pairs_of es) → In {X = Role × Role} (a, b) (pairs_of (turned es))
unfolding turned edge
pair_turned es a b i =
    let w = pair_edge es (b, a) i in
    let j = (In-map Edge Edge (λ (x : Edge). edge x.kind x.to x.from) (edge w.0.kind w.0.to w.0.from) es).1 (w.0, w.1, refl) in
    let from : a ≡ w.0.to = ap (λ (p : Role × Role). p.1) w.2 in
    let to : b ≡ w.0.from = ap (λ (p : Role × Role). p.0) w.2 in
    both_ends w.0.to w.0.from a b (pairs_of (turned es)) (sym from) (sym to) (edge_pair (turned es) (edge w.0.kind w.0.to w.0.from) j)

pub turned_back : (es : List Edge) (a b : Role) → Reaches (turned es) a b → Reaches es b a
turned_back es a _ Here = Here
turned_back es a _ (On {b = b} {c = c} way step) = Path-on (On Here (turned_pair es b c step)) (turned_back es a b way)

pub turned_on : (es : List Edge) (a b : Role) → Reaches es a b → Reaches (turned es) b a
turned_on es a _ Here = Here
turned_on es a _ (On {b = b} {c = c} way step) = Path-on (On Here (pair_turned es c b step)) (turned_on es a b way)

pub turned_told : (es : List Edge) (targets : List Role) (r : Role) → IsReached (turned es) targets r ↔ IsLeading es targets r
turned_told es targets r = (λ w. (w.0, w.1, turned_back es w.0 r w.2), λ w. (w.0, w.1, turned_on es r w.0 w.2))

pub one_reached : (es : List Edge) (a r : Role) → IsReached es (a ∷ []) r ↔ Reaches es a r
one_reached es a r = (
  λ w. ⊎_elim (λ (e : w.0 ≡ a). subst (λ z. Reaches es z r) e w.2) (λ n. absurd n) w.1,
  λ way. (a, inl refl, way),
)

pub turned-append : (xs : List Edge) (e : Edge) → turned (xs ++ e ∷ []) ≡ turned xs ++ edge e.kind e.to e.from ∷ []
unfolding turned
turned-append [] e = refl
turned-append (x ∷ xs) e = ap (λ zs. edge x.kind x.to x.from ∷ zs) (turned-append xs e)
