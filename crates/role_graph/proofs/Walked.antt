-- A walk that asks for the edges of each role once comes to all that paths lead to, in so many steps.
use Rattle.std.proofs.Common.{◌≡◌, ℕ, zero, suc, ◌+◌, ◌*◌, ◌≤◌, ◌<◌, Bool, true, false, cond, not, ◌||◌, ◌⊎◌, ◌↔◌, List, [], ◌∷◌, ◌++◌, map, filter, length, get_or, take, Option, Some, None, inl, inr, ⊎_elim, refl, sym, ap, ◌∙◌, subst, arith}
use Rattle.std.specs.List.{list_any}
use Rattle.std.proofs.lemmas.Bool.{false≢true}
use Rattle.std.proofs.lemmas.List.{take_more, take_all, take-append-le, length-append, length-map, append-nil, append_assoc}
use Rattle.cry_base.specs.Sets.{In, has}
use Rattle.cry_base.specs.Sets.Path.{Here, On}
use Rattle.cry_base.specs.declared.roles.Edge.{Edge}
use Rattle.cry_base.specs.declared.roles.Role.{Role}
use Rattle.cry_base.proofs.Members.{In-append, In-map, In-filter, filter-In}
use Rattle.cry_base.proofs.Reaching.{has-in, in-has}
use Rattle.role_graph.specs.Adjacent.{HaveSame, as_walked, count_from, edges_but, ending_in, ends_from, grown_by, into, out_of, roles_in, with_new}
use Rattle.role_graph.specs.Closing.{IsReached, IsClosed, turned}
use Rattle.role_graph.specs.Edges.{Reaches, edge, reach_along, same_edge}
use Rattle.role_graph.specs.Roles.{same_role}
use Rattle.role_graph.specs.declared.way.Way.{Way}
use Rattle.role_graph.specs.declared.way.Way.TheVariants.{Along, Against}
use Rattle.folder_nodes.proofs.Lookups.{filter-map}
use Rattle.role_graph.proofs.Adding.{map_map}
use Rattle.role_graph.proofs.Sifting.{filters_turn}
use Rattle.role_graph.proofs.Comparing.{reach_along_told, same_role_tells}
use Rattle.role_graph.proofs.Growing.{closed_holds, edge_pair}
use Rattle.role_graph.specs.Ascending.{with_role}
use Rattle.role_graph.proofs.Rising.{get_or-In, with_role-in, in-with_role}

-- no role stands twice
abbrev pub AreOnce : List Role → Type 0
AreOnce [] = Unit {0}
AreOnce (r ∷ rs) = (In r rs → ⊥) × AreOnce rs

-- ---- sets that have the same roles

same_truth : (a b : Bool) → (a ≡ true → b ≡ true) → (b ≡ true → a ≡ true) → a ≡ b
same_truth true b on back = sym (on refl)
same_truth false true on back = back refl
same_truth false false on back = refl

pub has_same : (fs rs : List Role) → HaveSame fs rs → (r : Role) → has same_role fs r ≡ has same_role rs r
has_same fs rs same r = same_truth (has same_role fs r) (has same_role rs r)
    (λ t. in-has Role same_role same_role_tells rs r ((same r).0 (has-in Role same_role same_role_tells fs r t)))
    (λ t. in-has Role same_role same_role_tells fs r ((same r).1 (has-in Role same_role same_role_tells rs r t)))

same_kept : (p q : Edge → Bool) → ((e : Edge) → p e ≡ q e) → (es : List Edge) → filter p es ≡ filter q es
same_kept p q same [] = refl
same_kept p q same (e ∷ es) = (λ i. cond (same e i) (e ∷ same_kept p q same es i) (same_kept p q same es i))

pub count_same : (es : List Edge) (fs rs : List Role) → HaveSame fs rs → count_from es fs ≡ count_from es rs
unfolding count_from
count_same es fs rs same = ap (λ (l : List Edge). length l) (same_kept (λ e. has same_role fs e.from) (λ e. has same_role rs e.from) (λ e. has_same fs rs same e.from) es)

-- ---- roles that are added one after another

grown-in : (fs : List Role) (r q : Role) → In q (grown_by fs r) → (q ≡ r) ⊎ In q fs
unfolding grown_by
grown-in fs r q = elim (has same_role fs r) as (λ b. In q (cond b fs (fs ++ r ∷ [])) → (q ≡ r) ⊎ In q fs) [
  | true ↦ λ i. inr i
  | false ↦ λ i. ⊎_elim (λ a. inr a) (λ b. ⊎_elim (λ e. inl e) (λ n. absurd n) b) ((In-append Role q fs (r ∷ [])).0 i)
]

in-grown : (fs : List Role) (r q : Role) → (q ≡ r) ⊎ In q fs → In q (grown_by fs r)
unfolding grown_by
in-grown fs r q w = (elim (has same_role fs r) as (λ b. has same_role fs r ≡ b → In q (cond b fs (fs ++ r ∷ []))) [
  | true ↦ λ t. ⊎_elim (λ (e : q ≡ r). subst (λ z. In z fs) (sym e) (has-in Role same_role same_role_tells fs r t)) (λ i. i) w
  | false ↦ λ t. (In-append Role q fs (r ∷ [])).1 (⊎_elim (λ e. inr (inl e)) (λ i. inl i) w)
]) refl

pub new-in : (fs rs : List Role) (q : Role) → In q (with_new fs rs) → In q fs ⊎ In q rs
unfolding with_new
new-in fs [] q i = inl i
new-in fs (r ∷ rs) q i = ⊎_elim
    (λ a. ⊎_elim (λ e. inr (inl e)) (λ b. inl b) (grown-in fs r q a))
    (λ b. inr (inr b)) (new-in (grown_by fs r) rs q i)

pub in-new : (fs rs : List Role) (q : Role) → In q fs ⊎ In q rs → In q (with_new fs rs)
unfolding with_new
in-new fs [] q w = ⊎_elim (λ i. i) (λ n. absurd n) w
in-new fs (r ∷ rs) q w = in-new (grown_by fs r) rs q (⊎_elim
    (λ i. inl (in-grown fs r q (inr i)))
    (λ j. ⊎_elim (λ e. inl (in-grown fs r q (inl e))) (λ k. inr k) j) w)

once_more : (fs : List Role) (r : Role) → AreOnce fs → (In r fs → ⊥) → AreOnce (fs ++ r ∷ [])
once_more [] r once out = (λ i. i, tt)
once_more (x ∷ xs) r once out = (
  λ i. ⊎_elim (λ u. once.0 u) (λ (w : (x ≡ r) ⊎ ⊥). ⊎_elim (λ s. out (inl (sym s))) (λ n. n) w) ((In-append Role x xs (r ∷ [])).0 i),
  once_more xs r once.1 (λ i. out (inr i)),
)

grown_once : (fs : List Role) (r : Role) → AreOnce fs → AreOnce (grown_by fs r)
unfolding grown_by
grown_once fs r once = (elim (has same_role fs r) as (λ b. has same_role fs r ≡ b → AreOnce (cond b fs (fs ++ r ∷ []))) [
  | true ↦ λ t. once
  | false ↦ λ t. once_more fs r once (λ i. false≢true (sym t ∙ in-has Role same_role same_role_tells fs r i))
]) refl

pub new_once : (fs rs : List Role) → AreOnce fs → AreOnce (with_new fs rs)
unfolding with_new
new_once fs [] once = once
new_once fs (r ∷ rs) once = new_once (grown_by fs r) rs (grown_once fs r once)

-- what was there stays in front, and no more come than are added
abbrev pub Longer : List Role → ℕ → List Role → Type 0
Longer fs n gs = (more : List Role) × (gs ≡ fs ++ more) × (length more ≤ n)

grown_longer : (fs : List Role) (r : Role) → Longer fs 1 (grown_by fs r)
unfolding grown_by
grown_longer fs r = elim (has same_role fs r) as (λ b. Longer fs 1 (cond b fs (fs ++ r ∷ []))) [
  | true ↦ ([], sym (append-nil fs), omega arith)
  | false ↦ (r ∷ [], refl, omega arith)
]

pub new_longer : (fs rs : List Role) → Longer fs (length rs) (with_new fs rs)
unfolding with_new
new_longer fs [] = ([], sym (append-nil fs), omega arith)
new_longer fs (r ∷ rs) =
    let one = grown_longer fs r in
    let rest = new_longer (grown_by fs r) rs in
    let long = length-append one.0 rest.0 in
    (one.0 ++ rest.0, rest.1 ∙ ap (λ l. l ++ rest.0) one.1 ∙ append_assoc fs one.0 rest.0, omega (arith, long, one.2, rest.2))

pub add_there : (fs rs : List Role) (r : Role) → has same_role rs r ≡ true → HaveSame fs rs → fs ≡ grown_by fs r
unfolding grown_by
add_there fs rs r there same = ap (λ b. cond b fs (fs ++ r ∷ [])) (sym (has_same fs rs same r ∙ there))

pub add_new : (fs rs : List Role) (r : Role) → has same_role rs r ≡ false → HaveSame fs rs → fs ++ r ∷ [] ≡ grown_by fs r
unfolding grown_by
add_new fs rs r out same = ap (λ b. cond b fs (fs ++ r ∷ [])) (sym (has_same fs rs same r ∙ out))

pub add_set : (fs rs : List Role) (r : Role) → HaveSame fs rs → HaveSame (fs ++ r ∷ []) (with_role r rs)
add_set fs rs r same q = (
  λ i. ⊎_elim (λ a. in-with_role r q rs (inr ((same q).0 a))) (λ b. ⊎_elim (λ e. in-with_role r q rs (inl e)) (λ n. absurd n) b) ((In-append Role q fs (r ∷ [])).0 i),
  λ j. (In-append Role q fs (r ∷ [])).1 (⊎_elim (λ e. inr (inl e)) (λ k. inl ((same q).1 k)) (with_role-in r q rs j)),
)

-- ---- how many edges lead out of one role more

has_more : (ds : List Role) (r x : Role) → has same_role (ds ++ r ∷ []) x ≡ has same_role ds x || same_role x r
unfolding has
has_more [] r x = or_none (same_role x r)
  where
    or_none : (b : Bool) → (b || false) ≡ b
    or_none true = refl
    or_none false = refl
has_more (d ∷ ds) r x = ap (λ b. same_role x d || b) (has_more ds r x) ∙ or_joins (same_role x d) (list_any (same_role x) ds) (same_role x r)
  where
    or_joins : (a b c : Bool) → a || (b || c) ≡ (a || b) || c
    or_joins true b c = refl
    or_joins false b c = refl

counted_once : (a b : Bool) (k m n : ℕ) → (a ≡ true → b ≡ true → ⊥) → k ≡ m + n → cond (a || b) (suc k) k ≡ cond a (suc m) m + cond b (suc n) n
counted_once true true k m n never e = absurd (never refl refl)
counted_once true false k m n never e = omega (arith, e)
counted_once false true k m n never e = omega (arith, e)
counted_once false false k m n never e = e

length_kept : (b : Bool) (e : Edge) (es : List Edge) → length (cond b (e ∷ es) es) ≡ cond b (suc (length es)) (length es)
length_kept true e es = refl
length_kept false e es = refl

pub count_more : (es : List Edge) (ds : List Role) (r : Role) → (In r ds → ⊥) → count_from es (ds ++ r ∷ []) ≡ count_from es ds + length (out_of es r)
unfolding count_from out_of
count_more [] ds r out = refl
count_more (e ∷ es) ds r out =
    length_kept (has same_role (ds ++ r ∷ []) e.from) e (filter (λ x. has same_role (ds ++ r ∷ []) x.from) es)
    ∙ ap (λ b. cond b (suc (count_from es (ds ++ r ∷ []))) (count_from es (ds ++ r ∷ []))) (has_more ds r e.from)
    ∙ counted_once (has same_role ds e.from) (same_role e.from r) (count_from es (ds ++ r ∷ [])) (count_from es ds) (length (out_of es r))
    (λ a b. out (subst (λ z. In z ds) ((same_role_tells e.from r).0 b) (has-in Role same_role same_role_tells ds e.from a))) (count_more es ds r out)
    ∙ (λ i. sym (length_kept (has same_role ds e.from) e (filter (λ x. has same_role ds x.from) es)) i + sym (length_kept (same_role e.from r) e (filter (λ x. same_role x.from r) es)) i)

-- of more roles, more edges lead out
count_of_more : (es : List Edge) (fs rs : List Role) → ((r : Role) → In r fs → In r rs) → count_from es fs ≤ count_from es rs
unfolding count_from
count_of_more [] fs rs all = omega arith
count_of_more (e ∷ es) fs rs all =
    let some = filter (λ x. has same_role fs x.from) es in
    let more = filter (λ x. has same_role rs x.from) es in
    let rest = count_of_more es fs rs all in
    (elim (has same_role fs e.from) as (λ b. has same_role fs e.from ≡ b → length (cond b (e ∷ some) some) ≤ length (cond (has same_role rs e.from) (e ∷ more) more)) [
      | true ↦ λ t. subst (λ b. suc (length some) ≤ length (cond b (e ∷ more) more))
          (sym (in-has Role same_role same_role_tells rs e.from (all e.from (has-in Role same_role same_role_tells fs e.from t)))) (omega (arith, rest))
      | false ↦ λ t. elim (has same_role rs e.from) as (λ b. length some ≤ length (cond b (e ∷ more) more)) [
        | true ↦ omega (arith, rest)
        | false ↦ rest
      ]
    ]) refl

pub count_within : (es : List Edge) (rs : List Role) → count_from es rs ≤ length es
unfolding count_from
count_within [] rs = omega arith
count_within (e ∷ es) rs = let rest = count_within es rs in
    elim (has same_role rs e.from) as (λ b. length (cond b (e ∷ filter (λ x. has same_role rs x.from) es) (filter (λ x. has same_role rs x.from) es)) ≤ suc (length es)) [
      | true ↦ omega (arith, rest)
      | false ↦ omega (arith, rest)
    ]

-- ---- what is left of a role's edges, and the same the other way round

pub shorter : (X : Type 0) (p : X → Bool) (xs : List X) → length (filter p xs) ≤ length xs
shorter X p [] = omega arith
shorter X p (x ∷ xs) = let rest = shorter X p xs in elim (p x) as (λ b. length (cond b (x ∷ filter p xs) (filter p xs)) ≤ suc (length xs)) [
  | true ↦ omega (arith, rest)
  | false ↦ omega (arith, rest)
]

pub along_ends : (removed es : List Edge) (r : Role) → map (λ (e : Edge). e.to) (edges_but removed (out_of es r)) ≡ ends_from (edges_but removed es) r
unfolding ends_from out_of edges_but
along_ends removed es r = ap (map (λ (e : Edge). e.to)) (filters_turn Edge (λ e. not (has same_edge removed e)) (λ e. same_role e.from r) es)

turned_out : (es : List Edge) (r : Role) → out_of (turned es) r ≡ map (λ (e : Edge). edge e.kind e.to e.from) (into es r)
unfolding out_of turned into edge
turned_out es r = filter-map Edge Edge (λ e. edge e.kind e.to e.from) (λ e. same_role e.from r) es

pub against_ends : (removed es : List Edge) (r : Role) → map (λ (e : Edge). e.from) (edges_but removed (into es r)) ≡ ends_from (turned (edges_but removed es)) r
unfolding ends_from edge into edges_but
against_ends removed es r = turned_round ∙ sym (told (edges_but removed es))
  where
    told : (xs : List Edge) → ends_from (turned xs) r ≡ map (λ (e : Edge). e.from) (into xs r)
    told xs = ap (map (λ (e : Edge). e.to)) (turned_out xs r) ∙ map_map Edge Edge Role (λ e. e.to) (λ e. edge e.kind e.to e.from) (into xs r)

    turned_round : map (λ (e : Edge). e.from) (edges_but removed (into es r)) ≡ map (λ (e : Edge). e.from) (into (edges_but removed es) r)
    turned_round = ap (map (λ (e : Edge). e.from)) (filters_turn Edge (λ e. not (has same_edge removed e)) (λ e. same_role e.to r) es)

pub against_length : (es : List Edge) (r : Role) → length (into es r) ≡ length (out_of (turned es) r)
against_length es r = sym (ap (λ (l : List Edge). length l) (turned_out es r) ∙ length-map (into es r) (λ (e : Edge). edge e.kind e.to e.from))

fewer_left : (removed es : List Edge) (r : Role) → length (ends_from (edges_but removed es) r) ≤ length (out_of es r)
unfolding edges_but
fewer_left removed es r = subst (λ n. n ≤ length (out_of es r)) (ap (λ (l : List Role). length l) (along_ends removed es r)) (few (out_of es r))
  where
    few : (fs : List Edge) → length (map (λ (e : Edge). e.to) (edges_but removed fs)) ≤ length fs
    few fs = let same = length-map (filter (λ e. not (has same_edge removed e)) fs) (λ (e : Edge). e.to) in let less = shorter Edge (λ e. not (has same_edge removed e)) fs in omega (arith, same, less)

fewer_turned : (removed es : List Edge) (r : Role) → length (ends_from (turned (edges_but removed es)) r) ≤ length (out_of (turned es) r)
unfolding edges_but
fewer_turned removed es r = subst (λ n. length (ends_from (turned (edges_but removed es)) r) ≤ n) (against_length es r)
    (subst (λ n. n ≤ length (into es r)) (ap (λ (l : List Role). length l) (against_ends removed es r)) (few (into es r)))
  where
    few : (fs : List Edge) → length (map (λ (e : Edge). e.from) (edges_but removed fs)) ≤ length fs
    few fs = let same = length-map (filter (λ e. not (has same_edge removed e)) fs) (λ (e : Edge). e.from) in let less = shorter Edge (λ e. not (has same_edge removed e)) fs in omega (arith, same, less)

pub fewer_ends : (way : Way) (removed es : List Edge) (r : Role) → length (ends_from (as_walked way (edges_but removed es)) r) ≤ length (out_of (as_walked way es) r)
fewer_ends Along removed es r = fewer_left removed es r
fewer_ends Against removed es r = fewer_turned removed es r

-- ---- ends that are in a set

pub ends_in : (set : Option (List Role)) (es : List Edge) (r : Role) → roles_in set (ends_from es r) ≡ ends_from (ending_in set es) r
unfolding roles_in ending_in ends_from out_of
ends_in None es r = refl
ends_in (Some set) es r =
    filter-map Edge Role (λ e. e.to) (has same_role set) (filter (λ e. same_role e.from r) es)
    ∙ ap (map (λ (e : Edge). e.to)) (filters_turn Edge (λ e. has same_role set e.to) (λ e. same_role e.from r) es)

pub fewer_in : (set : Option (List Role)) (es : List Edge) (r : Role) → length (ends_from (ending_in set es) r) ≤ length (ends_from es r)
unfolding roles_in
fewer_in set es r = subst (λ (l : List Role). length l ≤ length (ends_from es r)) (ends_in set es r) (few set (ends_from es r))
  where
    few : (set : Option (List Role)) (rs : List Role) → length (roles_in set rs) ≤ length rs
    few None rs = omega arith
    few (Some set) rs = shorter Role (has same_role set) rs

-- ---- the walk

-- so far: `all` are the edges that are asked for, `left` those that are followed, `found` the roles that were found, of
-- which `done` were asked
pub record Walking (all left : List Edge) (from found : List Role) (done before now : ℕ) : Type 0 where
  pub sound : (r : Role) → In r found → IsReached left from r
  pub start : (r : Role) → In r from → In r found
  pub closed : (r q : Role) → In r (take done found) → In q (ends_from left r) → In q found
  pub once : AreOnce found
  pub within : done ≤ length found
  pub size : length found ≤ length from + count_from all (take done found)
  pub steps : now ≤ before + count_from all (take done found) + done

pub walk_begins : (all left : List Edge) (from found : List Role) (now : ℕ) → found ≡ with_new [] from → Walking all left from found 0 now now
walk_begins all left from found now same =
    let long = new_longer [] from in
    let size : length found ≤ length from = subst (λ (l : List Role). length l ≤ length from) (sym (same ∙ long.1)) long.2 in record {
      sound = λ r i. (r, ⊎_elim (λ n. absurd n) (λ u. u) (new-in [] from r (subst (λ l. In r l) same i)), Here);
      start = λ r i. subst (λ l. In r l) (sym same) (in-new [] from r (inr i));
      closed = λ r q n. absurd n;
      once = subst AreOnce (sym same) (new_once [] from tt);
      within = omega arith;
      size = omega (arith, size);
      steps = omega arith;
    }

not_before : (fs : List Role) (d : ℕ) (r : Role) → AreOnce (take d fs ++ r ∷ []) → In r (take d fs) → ⊥
not_before fs d r once = apart (take d fs) once
  where
    apart : (ds : List Role) → AreOnce (ds ++ r ∷ []) → In r ds → ⊥
    apart [] w i = i
    apart (x ∷ xs) w i = ⊎_elim (λ (e : r ≡ x). w.0 (subst (λ z. In z (xs ++ r ∷ [])) e ((In-append Role r xs (r ∷ [])).1 (inr (inl refl))))) (λ u. apart xs w.1 u) i

taken_in : (n : ℕ) (xs : List Role) (x : Role) → In x (take n xs) → In x xs
taken_in zero xs x i = absurd i
taken_in (suc n) [] x i = absurd i
taken_in (suc n) (y ∷ ys) x i = ⊎_elim (λ e. inl e) (λ u. inr (taken_in n ys x u)) i

once_taken : (n : ℕ) (fs : List Role) → AreOnce fs → AreOnce (take n fs)
once_taken zero fs once = tt
once_taken (suc n) [] once = tt
once_taken (suc n) (x ∷ xs) once = (λ i. once.0 (taken_in n xs x i), once_taken n xs once.1)

-- where the role leads to is reached where the role is
leads_on : (left : List Edge) (from : List Role) (r q : Role) → IsReached left from r → In q (ends_from left r) → IsReached left from q
unfolding ends_from out_of
leads_on left from r q w i =
    let e = (In-map Edge Role (λ (x : Edge). x.to) q (filter (λ x. same_role x.from r) left)).0 i in
    let both = In-filter Edge (λ x. same_role x.from r) e.0 left e.1 in
    let way : Reaches left w.0 e.0.from = subst (λ z. Reaches left w.0 z) (sym ((same_role_tells e.0.from r).0 both.1)) w.2 in
    (w.0, w.1, subst (λ z. Reaches left w.0 z) (sym e.2) (On way (edge_pair left e.0 both.0)))

pub walk_goes_on : (all left : List Edge) (from found more : List Role) (done before now then' : ℕ) (d : Role) → Walking all left from found done before now
    → done < length found
    → length (ends_from left (get_or found done d)) ≤ length (out_of all (get_or found done d))
    → more ≡ with_new found (ends_from left (get_or found done d))
    → then' ≡ now + length (out_of all (get_or found done d)) + 1
    → Walking all left from more (done + 1) before then'
walk_goes_on all left from found more done before now then' d w less few same taken =
    let r : Role = get_or found done d in
    let here : In r found = get_or-In Role found done d less in
    let long = new_longer found (ends_from left r) in
    let front : take (done + 1) more ≡ take done found ++ r ∷ [] =
    ap (take (done + 1)) (same ∙ long.1) ∙ take-append-le (done + 1) found long.0 (omega arith) ∙ take_more found done d less in
    let fresh : In r (take done found) → ⊥ = not_before found done r (subst AreOnce (take_more found done d less) (once_taken (done + 1) found w.once)) in
    let count : count_from all (take (done + 1) more) ≡ count_from all (take done found) + length (out_of all r) =
    ap (count_from all) front ∙ count_more all (take done found) r fresh in
    let total : length more ≡ length found + length long.0 = ap (λ (l : List Role). length l) (same ∙ long.1) ∙ length-append found long.0 in
    let size = w.size in
    let steps = w.steps in
    let added = long.2 in record {
      sound = λ q i. ⊎_elim (λ a. w.sound q a) (λ b. leads_on left from r q (w.sound r here) b) (new-in found (ends_from left r) q (subst (λ l. In q l) same i));
      start = λ q i. subst (λ l. In q l) (sym same) (in-new found (ends_from left r) q (inl (w.start q i)));
      closed = λ p q i j. subst (λ l. In q l) (sym same) (in-new found (ends_from left r) q (⊎_elim
          (λ a. inl (w.closed p q a j))
          (λ b. ⊎_elim (λ (e : p ≡ r). inr (subst (λ z. In q (ends_from left z)) e j)) (λ n. absurd n) b)
          ((In-append Role p (take done found) (r ∷ [])).0 (subst (λ l. In p l) front i))));
      once = subst AreOnce (sym same) (new_once found (ends_from left r) w.once);
      within = omega (arith, less, total);
      size = omega (arith, size, added, few, total, count);
      steps = omega (arith, steps, taken, count);
    }

-- all were asked
pub walk_ends : (all left : List Edge) (from found : List Role) (done before now : ℕ) → Walking all left from found done before now → length found ≤ done
    → (r : Role) → In r found ↔ IsReached left from r
unfolding ends_from out_of
walk_ends all left from found done before now w end r = (
  λ i. w.sound r i,
  λ told. closed_holds left found closed told.0 r (w.start told.0 told.1) told.2,
)
  where
    closed : IsClosed left found
    closed e i from' = w.closed e.from e.to (subst (λ l. In e.from l) (sym (take_all done found end)) from')
        ((In-map Edge Role (λ (x : Edge). x.to) e.to (filter (λ x. same_role x.from e.from) left)).1
        (e, filter-In Edge (λ x. same_role x.from e.from) e left i ((same_role_tells e.from e.from).1 refl), refl))

-- what was counted so far is within the bound of the whole walk; and so is what asking one role more may count
pub walk_costs : (all left : List Edge) (from found : List Role) (done before now : ℕ) → Walking all left from found done before now
    → now ≤ before + 2 * count_from all (reach_along left from) + length from
walk_costs all left from found done before now w =
    let some = count_of_more all (take done found) (reach_along left from) (λ r i. (reach_along_told left from r).1 (w.sound r (taken_in done found r i))) in
    let size = w.size in
    let steps = w.steps in
    let within = w.within in
    omega (arith, some, size, steps, within)

pub look_costs : (all left : List Edge) (from found : List Role) (done before now then' : ℕ) (d : Role) → Walking all left from found done before now
    → done < length found → then' ≤ now + length (out_of all (get_or found done d)) + 1
    → then' ≤ before + 2 * count_from all (reach_along left from) + length from
look_costs all left from found done before now then' d w less few =
    let r : Role = get_or found done d in
    let here : In r found = get_or-In Role found done d less in
    let fresh : In r (take done found) → ⊥ = not_before found done r (subst AreOnce (take_more found done d less) (once_taken (done + 1) found w.once)) in
    let count = count_more all (take done found) r fresh in
    let some = count_of_more all (take done found ++ r ∷ []) (reach_along left from) (λ q i. (reach_along_told left from q).1 (w.sound q (⊎_elim
    (λ a. taken_in done found q a)
    (λ b. ⊎_elim (λ (e : q ≡ r). subst (λ z. In z found) (sym e) here) (λ n. absurd n) b)
    ((In-append Role q (take done found) (r ∷ [])).0 i)))) in
    let size = w.size in
    let steps = w.steps in
    omega (arith, some, count, size, steps, few, less)

-- the roles yet to be asked are no more than the edges and the roles at the beginning
pub walk_bounded : (all left : List Edge) (from found : List Role) (done before now : ℕ) → Walking all left from found done before now → length found ≤ length from + length all
walk_bounded all left from found done before now w = let few = count_within all (take done found) in let size = w.size in omega (arith, few, size)
