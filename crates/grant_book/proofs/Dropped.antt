-- A folder's grants go one by one.
use Rattle.std.proofs.Common.{◌≡◌, ℕ, suc, ◌<◌, ◌≤◌, Bool, true, false, not, cond, ◌&&◌, ◌||◌, ◌==◌, List, [], ◌∷◌, filter, length, Some, None, refl, sym, ap, ◌∙◌, inl, ⊎_elim, arith}
use Rattle.std.specs.List.{list_any}
use Rattle.std.specs.Prelude.{slice_get}
use Rattle.std.proofs.lemmas.Bool.{eqb-true, ne_eqb}
use Rattle.cry_base.specs.Sets.{In}
use Rattle.cry_base.specs.Store.{GrantEntry}
use Rattle.cry_base.proofs.Members.{In-filter}
use Rattle.grant_book.specs.Granted.{grant_of, is_grant, without_pair, without_pairs_on}
use Rattle.grant_book.proofs.Ordered.{is_grant_told}

first_in : (X : Type 0) (xs : List X) (x : X) → slice_get xs 0 ≡ Some x → In x xs
first_in X [] x e = absurd (cc)
first_in X (y ∷ xs) x e = inl (let same : y ≡ x = cc in sym same)

-- where nothing passes a test, all pass its opposite
none_passes : (X : Type 0) (p : X → Bool) (xs : List X) → slice_get (filter p xs) 0 ≡ None → filter (λ x. not (p x)) xs ≡ xs
none_passes X p [] none = refl
none_passes X p (x ∷ xs) none =
    (elim (p x) as (λ b. slice_get (cond b (x ∷ filter p xs) (filter p xs)) 0 ≡ None → cond (not b) (x ∷ filter (λ z. not (p z)) xs) (filter (λ z. not (p z)) xs) ≡ x ∷ xs) [
      | true ↦ λ e. absurd (cc)
      | false ↦ λ e. ap (λ l. x ∷ l) (none_passes X p xs e)
    ]) none

pub none_on : (pairs : List GrantEntry) (f : ℕ) → slice_get (filter (λ e. e.folder == f) pairs) 0 ≡ None → without_pairs_on pairs f ≡ pairs
none_on pairs f none = none_passes GrantEntry (λ e. e.folder == f) pairs none

pub some_on : (pairs : List GrantEntry) (f : ℕ) (e : GrantEntry) → slice_get (filter (λ e. e.folder == f) pairs) 0 ≡ Some e → In e pairs × (e.folder ≡ f)
some_on pairs f e first =
    let told = In-filter GrantEntry (λ e. e.folder == f) e pairs (first_in GrantEntry (filter (λ e. e.folder == f) pairs) e first) in
    (told.0, eqb-true _ _ told.1)

-- what a test takes out needn't pass another one that takes out more
filter_after : (X : Type 0) (p q : X → Bool) → ((x : X) → q x ≡ true → p x ≡ true) → (xs : List X) → filter q (filter p xs) ≡ filter q xs
filter_after X p q more [] = refl
filter_after X p q more (x ∷ xs) =
    (elim (p x) as (λ b. p x ≡ b → filter q (cond b (x ∷ filter p xs) (filter p xs)) ≡ cond (q x) (x ∷ filter q xs) (filter q xs)) [
      | true ↦ λ t. ap (λ l. cond (q x) (x ∷ l) l) (filter_after X p q more xs)
      | false ↦ λ t. filter_after X p q more xs ∙ sym (ap (λ b. cond b (x ∷ filter q xs) (filter q xs)) (fails t))
    ]) refl
  where
    fails : p x ≡ false → q x ≡ false
    fails t =
        (elim (q x) as (λ b. q x ≡ b → b ≡ false) [
          | true ↦ λ e. absurd (let u : p x ≡ true = more x e in cc)
          | false ↦ λ e. refl
        ]) refl

pub dropped_one : (pairs : List GrantEntry) (h f : ℕ) → without_pairs_on (without_pair pairs h f) f ≡ without_pairs_on pairs f
dropped_one pairs h f = filter_after GrantEntry (λ e. not (is_grant h f e)) (λ e. not (e.folder == f)) (λ e t. other (e.holder == h) (e.folder == f) t) pairs
  where
    other : (a b : Bool) → not b ≡ true → not (a && b) ≡ true
    other true b t = t
    other false b t = refl

filter_short : (X : Type 0) (p : X → Bool) (xs : List X) → length (filter p xs) ≤ length xs
filter_short X p [] = omega arith
filter_short X p (x ∷ xs) =
    let rest = filter_short X p xs in
    elim (p x) as (λ b. length (cond b (x ∷ filter p xs) (filter p xs)) ≤ suc (length xs)) [
      | true ↦ omega (arith, rest)
      | false ↦ omega (arith, rest)
    ]

pub filter_shorter : (X : Type 0) (p : X → Bool) (x : X) (xs : List X) → In x xs → p x ≡ false → length (filter p xs) < length xs
filter_shorter X p x [] i fails = absurd i
filter_shorter X p x (y ∷ xs) i fails =
    (elim (p y) as (λ b. p y ≡ b → length (cond b (y ∷ filter p xs) (filter p xs)) < suc (length xs)) [
      | true ↦ λ t. ⊎_elim
          (λ (here : x ≡ y). absurd (let u : p x ≡ true = ap p here ∙ t in cc))
          (λ rest. let less = filter_shorter X p x xs rest fails in omega (arith, less)) i
      | false ↦ λ t. let short = filter_short X p xs in omega (arith, short)
    ]) refl

pub one_less : (pairs : List GrantEntry) (h f : ℕ) → In (grant_of h f) pairs → length (without_pair pairs h f) < length pairs
one_less pairs h f i =
    filter_shorter GrantEntry (λ e. not (is_grant h f e)) (grant_of h f) pairs i (ap not ((is_grant_told h f (grant_of h f)).1 refl))

-- who else has a grant on the folder has one still where one of its grants is taken back
pub others_stay : (pairs : List GrantEntry) (h f : ℕ) → list_any (λ e. not (e.holder == h)) (filter (λ e. e.folder == f) pairs) ≡ list_any (λ e. e.folder == f) (without_pair pairs h f)
others_stay [] h f = refl
others_stay (e ∷ pairs) h f = other_first (e.holder == h) (e.folder == f) refl refl (others_stay pairs h f)
  where
    other_first : (a b : Bool) → e.holder == h ≡ a → e.folder == f ≡ b
        → list_any (λ e. not (e.holder == h)) (filter (λ e. e.folder == f) pairs) ≡ list_any (λ e. e.folder == f) (without_pair pairs h f)
        → list_any (λ e. not (e.holder == h)) (cond b (e ∷ filter (λ e. e.folder == f) pairs) (filter (λ e. e.folder == f) pairs))
        ≡ list_any (λ e. e.folder == f) (cond (not (a && b)) (e ∷ without_pair pairs h f) (without_pair pairs h f))
    other_first true true s t rest = ap (λ c. not c || list_any (λ e. not (e.holder == h)) (filter (λ e. e.folder == f) pairs)) s ∙ rest
    other_first true false s t rest = rest ∙ ap (λ c. c || list_any (λ e. e.folder == f) (without_pair pairs h f)) (sym t)
    other_first false true s t rest =
        ap (λ c. not c || list_any (λ e. not (e.holder == h)) (filter (λ e. e.folder == f) pairs)) s
        ∙ ap (λ c. c || list_any (λ e. e.folder == f) (without_pair pairs h f)) (sym t)
    other_first false false s t rest = rest ∙ ap (λ c. c || list_any (λ e. e.folder == f) (without_pair pairs h f)) (sym t)

-- something passes a test just where what passes isn't nothing
pub some_passes : (X : Type 0) (p : X → Bool) (xs : List X) → not (length (filter p xs) == 0) ≡ list_any p xs
some_passes X p [] = refl
some_passes X p (x ∷ xs) =
    (elim (p x) as (λ b. p x ≡ b → not (length (cond b (x ∷ filter p xs) (filter p xs)) == 0) ≡ (p x || list_any p xs)) [
      | true ↦ λ t. ap not (ne_eqb (suc (length (filter p xs))) 0 (λ none. omega (arith, none))) ∙ ap (λ b. b || list_any p xs) (sym t)
      | false ↦ λ t. some_passes X p xs ∙ ap (λ b. b || list_any p xs) (sym t)
    ]) refl
