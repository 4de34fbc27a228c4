-- Edges are put in one order, however those of the grants come.
use Rattle.std.proofs.Common.{◌≡◌, ℕ, Bool, true, false, cond, not, ◌==◌, ◌&&◌, ◌||◌, List, [], ◌∷◌, ◌++◌, map, filter, inl, inr, ⊎_elim, refl, sym, ap, ◌∙◌, subst, arith}
use Rattle.std.specs.Prelude.{nat_lt}
use Rattle.std.specs.List.{list_any}
use Rattle.std.specs.Cmp.{IsStrictWeakOrder, IsTotalOrder, nat_cmp_total, then_total, on_total}
use Rattle.std.specs.List.Sorted.{ties}
use Rattle.std.specs.Ordering.{is_lt}
use Rattle.std.proofs.lemmas.Bool.{false≢true, and_parts, not-true, cases_Bool}
use Rattle.std.proofs.lemmas.Bool.Decides.{nat_tests}
use Rattle.std.proofs.lemmas.List.Elements.{filter-append}
use Rattle.std.proofs.lemmas.List.Sorted.{ranks_by}
use Rattle.cry_base.specs.Sets.{In}
use Rattle.cry_base.specs.Store.{GrantEntry}
use Rattle.cry_base.specs.declared.roles.Edge.{Edge}
use Rattle.cry_base.proofs.Members.{In-filter, In-any}
use Rattle.role_graph.specs.Edges.{put_in_order, in_order, edge_before, edge, grant_edge}
use Rattle.role_graph.specs.Roles.{role_id, holder_role, clear_of}
use Rattle.role_graph.proofs.Edging.{put-in}
use Rattle.role_graph.proofs.Sorting.{key_of, key_cmp, before_by_key}
use Rattle.public_fold.specs.Standing.{AreOnce, AreSameGrants}

-- ---- two lists that ascend, and agree on what ties with each, are one (as role_graph's Ordered.antt has it)

without_first : (X : Type 0) (b : Bool) (x : X) (xs ys : List X) → cond b (x ∷ xs) xs ≡ cond b (x ∷ ys) ys → xs ≡ ys
without_first X true x xs ys e = cc
without_first X false x xs ys e = e

-- two that aren't both kept may change places
turned : (X : Type 0) (p q : Bool) (x y : X) (l : List X) → (p ≡ true → q ≡ true → ⊥) → cond p (y ∷ cond q (x ∷ l) l) (cond q (x ∷ l) l) ≡ cond q (x ∷ cond p (y ∷ l) l) (cond p (y ∷ l) l)
turned X true true x y l never = absurd (never refl refl)
turned X true false x y l never = refl
turned X false true x y l never = refl
turned X false false x y l never = refl

-- none of them is less than x
abbrev NoneBelow : (X : Type 0) → (X → X → Bool) → X → List X → Type 0
NoneBelow X lt x xs = (y : X) → In y xs → lt y x ≡ false

-- none is less than one before it
abbrev Rises : (X : Type 0) → (X → X → Bool) → List X → Type 0
Rises X lt [] = Unit {0}
Rises X lt (x ∷ xs) = NoneBelow X lt x xs × Rises X lt xs

not_itself : (X : Type 0) (lt : X → X → Bool) → IsStrictWeakOrder lt → (x : X) → lt x x ≡ false
not_itself X lt o x = (elim (lt x x) as (λ b. lt x x ≡ b → lt x x ≡ false) [
  | true ↦ λ e. o.one_way x x e
  | false ↦ λ e. e
]) refl

tied : (X : Type 0) (lt : X → X → Bool) (x y : X) → lt x y ≡ false → lt y x ≡ false → ties lt x y ≡ true
tied X lt x y a b = rw (a, b) refl

tie_parts : (X : Type 0) (lt : X → X → Bool) (x y : X) → ties lt x y ≡ true → (lt x y ≡ false) × (lt y x ≡ false)
tie_parts X lt x y t = let both = and_parts (not (lt x y)) (not (lt y x)) t in (not-true (lt x y) both.0, not-true (lt y x) both.1)

self_tie : (X : Type 0) (lt : X → X → Bool) → IsStrictWeakOrder lt → (x : X) → ties lt x x ≡ true
self_tie X lt o x = let e = not_itself X lt o x in tied X lt x x e e

-- what ties with one thing is not less than one another
tie_chain : (X : Type 0) (lt : X → X → Bool) → IsStrictWeakOrder lt → (w x y : X) → ties lt w y ≡ true → ties lt w x ≡ true → lt y x ≡ false
tie_chain X lt o w x y p q = o.chain y w x (tie_parts X lt w y p).1 (tie_parts X lt w x q).0

put_rises : (X : Type 0) (lt : X → X → Bool) → IsStrictWeakOrder lt → (x : X) (ys : List X) → Rises X lt ys → Rises X lt (put_in_order lt x ys)
unfolding put_in_order
put_rises X lt o x [] r = (λ y i. absurd i, tt)
put_rises X lt o x (y ∷ ys) r = (elim (lt y x) as (λ b. lt y x ≡ b → Rises X lt (cond b (y ∷ put_in_order lt x ys) (x ∷ y ∷ ys))) [
  | true ↦ λ e. (
    λ z i. ⊎_elim (λ (s : z ≡ x). subst (λ u. lt u y ≡ false) (sym s) (o.one_way y x e)) (λ u. r.0 z u) ((put-in X lt x z ys).0 i),
    put_rises X lt o x ys r.1,
  )
  | false ↦ λ e. (
    λ z i. ⊎_elim (λ (s : z ≡ y). subst (λ u. lt u x ≡ false) (sym s) e) (λ u. o.chain z y x (r.0 z u) e) i,
    r,
  )
]) refl

put_keeps : (X : Type 0) (lt : X → X → Bool) → IsStrictWeakOrder lt → (w x : X) (ys : List X) → filter (ties lt w) (put_in_order lt x ys) ≡ filter (ties lt w) (x ∷ ys)
unfolding put_in_order
put_keeps X lt o w x [] = refl
put_keeps X lt o w x (y ∷ ys) = (elim (lt y x) as (λ b. lt y x ≡ b → filter (ties lt w) (cond b (y ∷ put_in_order lt x ys) (x ∷ y ∷ ys)) ≡ filter (ties lt w) (x ∷ y ∷ ys)) [
  | true ↦ λ e.
      ap (λ (l : List X). cond (ties lt w y) (y ∷ l) l) (put_keeps X lt o w x ys)
      ∙ turned X (ties lt w y) (ties lt w x) x y (filter (ties lt w) ys) (λ p q. false≢true (sym (tie_chain X lt o w x y p q) ∙ e))
  | false ↦ λ e. refl
]) refl

order_rises : (X : Type 0) (lt : X → X → Bool) → IsStrictWeakOrder lt → (xs : List X) → Rises X lt (in_order lt xs)
unfolding in_order
order_rises X lt o [] = tt
order_rises X lt o (x ∷ xs) = put_rises X lt o x (in_order lt xs) (order_rises X lt o xs)

order_keeps : (X : Type 0) (lt : X → X → Bool) → IsStrictWeakOrder lt → (w : X) (xs : List X) → filter (ties lt w) (in_order lt xs) ≡ filter (ties lt w) xs
unfolding in_order
order_keeps X lt o w [] = refl
order_keeps X lt o w (x ∷ xs) = put_keeps X lt o w x (in_order lt xs) ∙ ap (λ (l : List X). cond (ties lt w x) (x ∷ l) l) (order_keeps X lt o w xs)

-- the first of one list isn't less than the first of the other
first_stands : (X : Type 0) (lt : X → X → Bool) → IsStrictWeakOrder lt → (a : X) (xs ys : List X) → ((w : X) → filter (ties lt w) (a ∷ xs) ≡ filter (ties lt w) ys) → In a ys
first_stands X lt o a xs ys same =
    let here : In a (cond (ties lt a a) (a ∷ filter (ties lt a) xs) (filter (ties lt a) xs)) = subst (λ b. In a (cond b (a ∷ filter (ties lt a) xs) (filter (ties lt a) xs))) (sym (self_tie X lt o a)) (inl refl) in
    (In-filter X (ties lt a) a ys (subst (λ l. In a l) (same a) here)).0

not_less : (X : Type 0) (lt : X → X → Bool) → IsStrictWeakOrder lt → (a b : X) (ys : List X) → NoneBelow X lt b ys → In a (b ∷ ys) → lt a b ≡ false
not_less X lt o a b ys none i = ⊎_elim (λ (e : a ≡ b). subst (λ z. lt z b ≡ false) (sym e) (not_itself X lt o b)) (λ u. none a u) i

first_same : (X : Type 0) (a b : X) (p q : Bool) (xs ys : List X) → p ≡ true → q ≡ true → cond p (a ∷ xs) xs ≡ cond q (b ∷ ys) ys → a ≡ b
first_same X a b true true xs ys s t e = cc
first_same X a b true false xs ys s t e = absurd (false≢true t)
first_same X a b false q xs ys s t e = absurd (false≢true s)

one_order : (X : Type 0) (lt : X → X → Bool) → IsStrictWeakOrder lt → (xs ys : List X) → Rises X lt xs → Rises X lt ys → ((w : X) → filter (ties lt w) xs ≡ filter (ties lt w) ys) → xs ≡ ys
one_order X lt o [] [] r s same = refl
one_order X lt o [] (b ∷ ys) r s same = absurd (first_stands X lt o b ys [] (λ w. sym (same w)))
one_order X lt o (a ∷ xs) [] r s same = absurd (first_stands X lt o a xs [] same)
one_order X lt o (a ∷ xs) (b ∷ ys) r s same =
    let up : lt a b ≡ false = not_less X lt o a b ys s.0 (first_stands X lt o a xs (b ∷ ys) same) in
    let down : lt b a ≡ false = not_less X lt o b a xs r.0 (first_stands X lt o b ys (a ∷ xs) (λ w. sym (same w))) in
    let first : a ≡ b = first_same X a b (ties lt a a) (ties lt a b) (filter (ties lt a) xs) (filter (ties lt a) ys) (self_tie X lt o a) (tied X lt a b up down) (same a) in
    let again : (w : X) → filter (ties lt w) (a ∷ xs) ≡ filter (ties lt w) (a ∷ ys) = λ w. same w ∙ ap (λ (z : X). filter (ties lt w) (z ∷ ys)) (sym first) in
    let rest : xs ≡ ys = one_order X lt o xs ys r.1 s.1 (λ w. without_first X (ties lt w a) a (filter (ties lt w) xs) (filter (ties lt w) ys) (again w)) in
    ap (λ (z : X). z ∷ xs) first ∙ ap (λ (l : List X). b ∷ l) rest

key_total : IsTotalOrder key_cmp
key_total = then_total (then_total (on_total (λ (k : ℕ × ℕ × ℕ). k.0) nat_cmp_total) (on_total (λ (k : ℕ × ℕ × ℕ). k.1) nat_cmp_total)) (on_total (λ (k : ℕ × ℕ × ℕ). k.2) nat_cmp_total)

edge_order : IsStrictWeakOrder edge_before
edge_order =
    let by : Edge → Edge → Bool = λ a b. is_lt (key_cmp (key_of a) (key_of b)) in
    let same : by ≡ edge_before = λ i a b. before_by_key a b i in
    subst (λ (lt : Edge → Edge → Bool). IsStrictWeakOrder lt) same (ranks_by key_total key_of)

one_edge_order : (xs ys : List Edge) → ((w : Edge) → filter (ties edge_before w) xs ≡ filter (ties edge_before w) ys) → in_order edge_before xs ≡ in_order edge_before ys
one_edge_order xs ys same =
    one_order Edge edge_before edge_order (in_order edge_before xs) (in_order edge_before ys) (order_rises Edge edge_before edge_order xs) (order_rises Edge edge_before edge_order ys)
    (λ w. order_keeps Edge edge_before edge_order w xs ∙ same w ∙ sym (order_keeps Edge edge_before edge_order w ys))

-- ---- a test that at most one grant passes

none_passes : (p : GrantEntry → Bool) (gs : List GrantEntry) → ((g : GrantEntry) → In g gs → p g ≡ false) → filter p gs ≡ []
none_passes p [] none = refl
none_passes p (g ∷ gs) none = ap (λ b. cond b (g ∷ filter p gs) (filter p gs)) (none g (inl refl)) ∙ none_passes p gs (λ x i. none x (inr i))

one_passes : (p : GrantEntry → Bool) → ((g h : GrantEntry) → p g ≡ true → p h ≡ true → g ≡ h) → (gs : List GrantEntry) (x : GrantEntry) → AreOnce gs → In x gs → p x ≡ true → filter p gs ≡ x ∷ []
one_passes p one [] x once i t = absurd i
one_passes p one (g ∷ gs) x once i t = ⊎_elim
    (λ (e : x ≡ g).
    ap (λ b. cond b (g ∷ filter p gs) (filter p gs)) (subst (λ z. p z ≡ true) e t)
    ∙ (λ j. sym e j ∷ none_passes p gs (λ y u. false_of (p y) (λ v. once.0 (subst (λ z. In z gs) (one y g v (subst (λ z. p z ≡ true) e t)) u))) j))
    (λ u. ap (λ b. cond b (g ∷ filter p gs) (filter p gs)) (false_of (p g) (λ v. once.0 (subst (λ z. In z gs) (one x g t v) u))) ∙ one_passes p one gs x once.1 u t) i
  where
    false_of : (b : Bool) → (b ≡ true → ⊥) → b ≡ false
    false_of true never = absurd (never refl)
    false_of false never = refl

same_passes : (p : GrantEntry → Bool) → ((g h : GrantEntry) → p g ≡ true → p h ≡ true → g ≡ h) → (gs hs : List GrantEntry) → AreSameGrants gs hs → filter p gs ≡ filter p hs
same_passes p one gs hs are = ⊎_elim
    (λ t. let w = (In-any GrantEntry p (λ g. p g ≡ true) (λ g. (λ v. v, λ v. v)) gs).0 t in
    one_passes p one gs w.0 are.once w.1 w.2 ∙ sym (one_passes p one hs w.0 are.other_once ((are.same w.0).0 w.1) w.2))
    (λ f. let none : (g : GrantEntry) → In g gs → p g ≡ false = λ g i. false_at (p g) (λ v. false≢true (sym f ∙ (In-any GrantEntry p (λ x. p x ≡ true) (λ x. (λ z. z, λ z. z)) gs).1 (g, i, v))) in
    none_passes p gs none ∙ sym (none_passes p hs (λ g i. none g ((are.same g).1 i))))
    (cases_Bool (list_any p gs))
  where
    false_at : (b : Bool) → (b ≡ true → ⊥) → b ≡ false
    false_at true never = absurd (never refl)
    false_at false never = refl

-- ---- grants' edges

pub filter_made : (p : Edge → Bool) (f : GrantEntry → Edge) (gs : List GrantEntry) → filter p (map f gs) ≡ map f (filter (λ g. p (f g)) gs)
filter_made p f [] = refl
filter_made p f (g ∷ gs) = elim (p (f g)) as (λ b. cond b (f g ∷ filter p (map f gs)) (filter p (map f gs)) ≡ map f (cond b (g ∷ filter (λ x. p (f x)) gs) (filter (λ x. p (f x)) gs))) [
  | true ↦ ap (λ l. f g ∷ l) (filter_made p f gs)
  | false ↦ filter_made p f gs
]

abbrev pub edge_of_grant : GrantEntry → Edge
edge_of_grant g = grant_edge g.holder g.folder

tied_holder : (k m n h f : ℕ) → (not (nat_lt k 2 || (k == 2 && (nat_lt m h || (m == h && nat_lt n f)))) && not (nat_lt 2 k || (2 == k && (nat_lt h m || (h == m && nat_lt f n))))) ≡ true → m ≡ h
tied_holder k m n h f t = grind (arith, nat_tests)

tied_folder : (k m n h f : ℕ) → (not (nat_lt k 2 || (k == 2 && (nat_lt m h || (m == h && nat_lt n f)))) && not (nat_lt 2 k || (2 == k && (nat_lt h m || (h == m && nat_lt f n))))) ≡ true → n ≡ f
tied_folder k m n h f t = grind (arith, nat_tests)

one_ties : (w : Edge) (g h : GrantEntry) → ties edge_before w (edge_of_grant g) ≡ true → ties edge_before w (edge_of_grant h) ≡ true → g ≡ h
unfolding edge_before grant_edge edge holder_role clear_of role_id
one_ties w g h s t =
    let holder : g.holder ≡ h.holder = sym (tied_holder w.kind (role_id w.from) (role_id w.to) g.holder g.folder s) ∙ tied_holder w.kind (role_id w.from) (role_id w.to) h.holder h.folder t in
    let folder : g.folder ≡ h.folder = sym (tied_folder w.kind (role_id w.from) (role_id w.to) g.holder g.folder s) ∙ tied_folder w.kind (role_id w.from) (role_id w.to) h.holder h.folder t in
    λ i. record { holder = holder i; folder = folder i }

same_ties : (w : Edge) (gs hs : List GrantEntry) → AreSameGrants gs hs → filter (ties edge_before w) (map edge_of_grant gs) ≡ filter (ties edge_before w) (map edge_of_grant hs)
same_ties w gs hs are =
    filter_made (ties edge_before w) edge_of_grant gs
    ∙ ap (λ (l : List GrantEntry). map edge_of_grant l) (same_passes (λ g. ties edge_before w (edge_of_grant g)) (one_ties w) gs hs are)
    ∙ sym (filter_made (ties edge_before w) edge_of_grant hs)

-- edges before those of the grants, and edges behind them
pub same_order : (before behind : List Edge) (gs hs : List GrantEntry) → AreSameGrants gs hs
    → in_order edge_before ((before ++ map edge_of_grant gs) ++ behind) ≡ in_order edge_before ((before ++ map edge_of_grant hs) ++ behind)
same_order before behind gs hs are = one_edge_order ((before ++ map edge_of_grant gs) ++ behind) ((before ++ map edge_of_grant hs) ++ behind) (λ w.
    split w gs ∙ (λ i. (filter (ties edge_before w) before ++ same_ties w gs hs are i) ++ filter (ties edge_before w) behind) ∙ sym (split w hs))
  where
    split : (w : Edge) (l : List GrantEntry) → filter (ties edge_before w) ((before ++ map edge_of_grant l) ++ behind) ≡ (filter (ties edge_before w) before ++ filter (ties edge_before w) (map edge_of_grant l)) ++ filter (ties edge_before w) behind
    split w l =
        filter-append (ties edge_before w) (before ++ map edge_of_grant l) behind
        ∙ ap (λ (z : List Edge). z ++ filter (ties edge_before w) behind) (filter-append (ties edge_before w) before (map edge_of_grant l))
