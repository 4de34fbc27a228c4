-- Serials that are put into a set one after another, to see whether two keys have one.
use Rattle.std.proofs.Common.{◌≡◌, ℕ, zero, suc, ◌+◌, ◌<◌, ◌≤◌, Bool, true, false, not, ◌==◌, ◌⊎◌, ◌↔◌, List, [], ◌∷◌, ◌++◌, map, take, length, get_or, inl, inr, ⊎_elim, refl, sym, ap, ◌∙◌, subst, arith, Ordering, Less, Equal, Greater}
use Rattle.std.specs.Prelude.{IsTrue}
use Rattle.std.specs.List.{list_any}
use Rattle.std.specs.BTreeMap.{is_at}
use Rattle.std.specs.BTreeSet.{insert_key}
use Rattle.std.specs.Cmp.{ranks, unsigned_tied}
use Rattle.std.specs.Ordering.{MatchOrdering, match_ordering, nat_cmp}
use Rattle.std.proofs.lemmas.Bool.{eqb-true, eq-eqb}
use Rattle.std.proofs.lemmas.List.{take_more, map-append}
use Rattle.cry_base.specs.Sets.{In}
use Rattle.cry_base.specs.declared.roles.Role.{Role}
use Rattle.cry_base.proofs.Members.{In-any, In-append, In-map}
use Rattle.role_graph.specs.Ascending.{IsAscending}
use Rattle.role_graph.proofs.Rising.{Before, before_self}
use Rattle.public_fold.specs.AtKeys.{roles_of}
use Rattle.public_fold.specs.States.{HaveOwnSerials}

abbrev pub serials_of : List (Role × ℕ) → List ℕ
serials_of keys = map (λ key. key.1) keys

-- these numbers are those of the first keys, which all differ
pub record AreSeen (keys : List (Role × ℕ)) (i : ℕ) (seen : List ℕ) : Type 0 where
  pub same : (n : ℕ) → In n seen ↔ In n (serials_of (take i keys))
  pub own : HaveOwnSerials (take i keys)

pub get_in : (X : Type 0) (xs : List X) (i : ℕ) (d : X) → i < length xs → In (get_or xs i d) xs
get_in X [] i d within = absurd (omega arith)
get_in X (x ∷ xs) zero d within = inl refl
get_in X (x ∷ xs) (suc i) d within = inr (get_in X xs i d (omega arith))

-- a role stands in no key before its own
apart : (keys : List (Role × ℕ)) (i : ℕ) (d : Role × ℕ) → i < length keys → IsAscending (roles_of keys) → (a : Role × ℕ) → In {X = Role × ℕ} a (take i keys) → a ≡ get_or keys i d → ⊥
apart [] i d within up a j e = absurd (omega arith)
apart (x ∷ xs) zero d within up a j e = absurd j
apart (x ∷ xs) (suc i) d within up a j e =
    let inside : i < length xs = omega arith in
    ⊎_elim
    (λ (here : a ≡ x).
    let role : x.0 ≡ (get_or xs i d).0 = ap (λ (k : Role × ℕ). k.0) (sym here ∙ e) in
    let later : In (get_or xs i d).0 (roles_of xs) = (In-map (Role × ℕ) Role (λ key. key.0) (get_or xs i d).0 xs).1 (get_or xs i d, get_in (Role × ℕ) xs i d inside, refl) in
    before_self x.0 (subst (λ r. Before x.0 r) (sym role) (up.0 (get_or xs i d).0 later)))
    (λ later. apart xs i d inside up.1 a later e)
    j

pub none_seen : (keys : List (Role × ℕ)) (seen : List ℕ) → seen ≡ [] → AreSeen keys 0 seen
none_seen keys seen none = record {
  same = λ n. (λ i. subst (In n) none i, λ i. absurd i);
  own = λ a b i j e. absurd i;
}

-- one key more, of a serial that is new
pub one_seen : (keys : List (Role × ℕ)) (i : ℕ) (d : Role × ℕ) (seen after : List ℕ) (number : ℕ) → i < length keys → number ≡ (get_or keys i d).1 → (In number seen → ⊥)
    → ((n : ℕ) → In n after ↔ ((n ≡ number) ⊎ In n seen)) → AreSeen keys i seen → AreSeen keys (i + 1) after
one_seen keys i d seen after number within is new all are =
    let key = get_or keys i d in
    let more : take (i + 1) keys ≡ take i keys ++ key ∷ [] = take_more keys i d within in
    let serials : serials_of (take (i + 1) keys) ≡ serials_of (take i keys) ++ key.1 ∷ [] = ap serials_of more ∙ map-append (λ (k : Role × ℕ). k.1) (take i keys) (key ∷ []) in
    let either : (k : Role × ℕ) → In {X = Role × ℕ} k (take (i + 1) keys) → (In {X = Role × ℕ} k (take i keys)) ⊎ (k ≡ key) =
    λ k j. ⊎_elim (λ old. inl old) (λ last. ⊎_elim (λ e. inr e) (λ none. absurd none) last) ((In-append (Role × ℕ) k (take i keys) (key ∷ [])).0 (subst (λ l. In {X = Role × ℕ} k l) more j)) in
    let old : (k : Role × ℕ) → In {X = Role × ℕ} k (take i keys) → k.1 ≡ key.1 → ⊥ =
    λ k j e. new (subst (λ n. In n seen) (e ∙ sym is) ((are.same k.1).1 ((In-map (Role × ℕ) ℕ (λ key. key.1) k.1 (take i keys)).1 (k, j, refl)))) in
    record {
      same = λ n. (
        λ j. subst (In n) (sym serials) ((In-append ℕ n (serials_of (take i keys)) (key.1 ∷ [])).1 (⊎_elim (λ e. inr (inl (e ∙ is))) (λ before. inl ((are.same n).0 before)) ((all n).0 j))),
        λ j. (all n).1 (⊎_elim (λ before. inr ((are.same n).1 before)) (λ last. ⊎_elim (λ e. inl (e ∙ sym is)) (λ none. absurd none) last) ((In-append ℕ n (serials_of (take i keys)) (key.1 ∷ [])).0 (subst (In n) serials j))),
      );
      own = λ a b j k e. ⊎_elim
          (λ first. ⊎_elim (λ second. are.own a b first second e) (λ last. absurd (old a first (e ∙ ap (λ (k : Role × ℕ). k.1) last))) (either b k))
          (λ last. ⊎_elim (λ second. absurd (old b second (sym e ∙ ap (λ (k : Role × ℕ). k.1) last))) (λ other. last ∙ sym other) (either b k))
          (either a j);
    }

pub take_in : (X : Type 0) (xs : List X) (i : ℕ) (x : X) → In x (take i xs) → In x xs
take_in X [] zero x j = absurd j
take_in X [] (suc i) x j = absurd j
take_in X (y ∷ ys) zero x j = absurd j
take_in X (y ∷ ys) (suc i) x j = ⊎_elim (λ e. inl e) (λ r. inr (take_in X ys i x r)) j

-- a key of a serial that was seen has it beside an earlier one
pub seen_twice : (keys : List (Role × ℕ)) (i : ℕ) (d : Role × ℕ) (seen : List ℕ) (number : ℕ) → i < length keys → number ≡ (get_or keys i d).1 → IsAscending (roles_of keys) → AreSeen keys i seen → In number seen → HaveOwnSerials keys → ⊥
seen_twice keys i d seen number within is up are there own =
    let w = (In-map (Role × ℕ) ℕ (λ key. key.1) number (take i keys)).0 ((are.same number).0 there) in
    apart keys i d within up w.0 w.1 (own w.0 (get_or keys i d) (take_in (Role × ℕ) keys i w.0 w.1) (get_in (Role × ℕ) keys i d within) (sym w.2 ∙ is))

-- numbers in a set that compares them
pub any_seen : (seen : List ℕ) (n : ℕ) → IsTrue (list_any (is_at (nat_cmp n)) seen) ↔ In n seen
any_seen seen n =
    let told = In-any ℕ (is_at (nat_cmp n)) (λ k. n ≡ k) (λ k. (λ t. eqb-true n k (sym (unsigned_tied n k) ∙ t), λ e. unsigned_tied n k ∙ eq-eqb n k e)) seen in (
      λ t. (let w = told.0 t in subst (λ k. In k seen) (sym w.2) w.1),
      λ i. told.1 (n, i, refl),
    )

pub put_in : (n k : ℕ) (xs : List ℕ) → In n (insert_key nat_cmp xs k) ↔ ((n ≡ k) ⊎ In n xs)
put_in n k [] = (λ i. i, λ u. u)
put_in n k (x ∷ xs) =
    (elim (nat_cmp k x) as (λ o. MatchOrdering o (k < x) (k ≡ x) (x < k) → In n (match_ordering o (k ∷ x ∷ xs) (x ∷ xs) (x ∷ insert_key nat_cmp xs k)) ↔ ((n ≡ k) ⊎ In n (x ∷ xs))) [
      | Less ↦ λ h. (λ i. i, λ u. u)
      | Equal ↦ λ h. (λ i. inr i, λ u. ⊎_elim (λ (e : n ≡ k). inl (e ∙ h)) (λ i. i) u)
      | Greater ↦ λ h. (
        λ i. ⊎_elim (λ (e : n ≡ x). inr (inl e)) (λ j. ⊎_elim (λ e. inl e) (λ l. inr (inr l)) ((put_in n k xs).0 j)) i,
        λ u. ⊎_elim (λ (e : n ≡ k). inr ((put_in n k xs).1 (inl e))) (λ j. ⊎_elim (λ (e : n ≡ x). inl e) (λ l. inr ((put_in n k xs).1 (inr l))) j) u,
      )
    ]) (ranks k x)
