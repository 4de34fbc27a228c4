-- Lists of holders and grants that come from outside.
use Rattle.std.proofs.Common.{◌≡◌, ℕ, ◌<◌, ◌^◌, Bool, true, ◌&&◌, nat_le, List, [], ◌∷◌, ◌++◌, length, refl, sym, subst, inl, inr, ⊎_elim}
use Rattle.std.specs.List.{All, list_all}
use Rattle.std.specs.List.Sorted.{IsPermutation}
use Rattle.std.proofs.lemmas.Bool.{and_parts, and_from, le-leb, leb-true}
use Rattle.std.proofs.lemmas.List.Elements.{All-nil, All-cons, All-head, All-tail}
use Rattle.std.proofs.lemmas.List.Sorted.{All-permutation, IsPermutation-sym}
use Rattle.cry_base.specs.Sets.{In}
use Rattle.cry_base.specs.Store.{GrantEntry}
use Rattle.grant_book.specs.Fitting.{CanStand, Fits}
use Rattle.grant_book.specs.Granted.{IsHolder}

pub All-In : (X : Type 0) (P : X → Type 0) (xs : List X) → All P xs → (x : X) → In x xs → P x
All-In X P [] all x i = absurd i
All-In X P (y ∷ ys) all x i =
    ⊎_elim (λ (same : x ≡ y). subst P (sym same) (All-head P y ys all)) (λ rest. All-In X P ys (All-tail P y ys all) x rest) i

In-All : (X : Type 0) (P : X → Type 0) (xs : List X) → ((x : X) → In x xs → P x) → All P xs
In-All X P [] each = All-nil P
In-All X P (x ∷ xs) each = All-cons P x xs (each x (inl refl)) (In-All X P xs (λ y i. each y (inr i)))

pub All-more : (X : Type 0) (P : X → Type 0) (xs : List X) (x : X) → All P xs → P x → All P (xs ++ x ∷ [])
All-more X P [] x all one = All-cons P x [] one (All-nil P)
All-more X P (y ∷ ys) x all one = All-cons P y (ys ++ x ∷ []) (All-head P y ys all) (All-more X P ys x (All-tail P y ys all) one)

-- each passes just where all do
all_pass : (X : Type 0) (p : X → Bool) (xs : List X) → list_all p xs ≡ true → (x : X) → In x xs → p x ≡ true
all_pass X p [] told x i = absurd i
all_pass X p (y ∷ ys) told x i =
    let both = and_parts (p y) (list_all p ys) told in
    ⊎_elim (λ (same : x ≡ y). subst (λ z. p z ≡ true) (sym same) both.0) (λ rest. all_pass X p ys both.1 x rest) i

passes_all : (X : Type 0) (p : X → Bool) (xs : List X) → ((x : X) → In x xs → p x ≡ true) → list_all p xs ≡ true
passes_all X p [] each = refl
passes_all X p (x ∷ xs) each = and_from (p x) (list_all p xs) (each x (inl refl)) (passes_all X p xs (λ y i. each y (inr i)))

abbrev pub has_holder : ℕ → GrantEntry → Bool
has_holder count e = nat_le 1 e.holder && nat_le e.holder count

pub holders_made : (checks : List (List ℕ)) (pairs : List GrantEntry) → list_all (has_holder (length checks)) pairs ≡ true → (e : GrantEntry) → In e pairs → IsHolder checks e.holder
holders_made checks pairs told e i =
    let both = and_parts _ _ (all_pass GrantEntry (has_holder (length checks)) pairs told e i) in
    (leb-true _ _ both.0, leb-true _ _ both.1)

pub made_holders : (checks : List (List ℕ)) (pairs : List GrantEntry) → ((e : GrantEntry) → In e pairs → IsHolder checks e.holder) → list_all (has_holder (length checks)) pairs ≡ true
made_holders checks pairs made =
    passes_all GrantEntry (has_holder (length checks)) pairs (λ e i. let known = made e i in and_from _ _ (le-leb _ _ known.0) (le-leb _ _ known.1))

-- what holds of such lists, whatever order the other has
pub Fits-restored : (checks : List (List ℕ)) (pairs others : List GrantEntry) → length checks < 2 ^ 32 → All (λ (e : GrantEntry). e.folder < 2 ^ 32) pairs → CanStand checks pairs → IsPermutation pairs others → Fits checks pairs others
Fits-restored checks pairs others counted numbered stand moved =
    let back : All (λ e. In e others) pairs = All-permutation (λ e. In e others) others pairs (IsPermutation-sym pairs others moved) (In-All GrantEntry (λ e. In e others) others (λ e i. i)) in
    let forth : All (λ e. In e pairs) others = All-permutation (λ e. In e pairs) pairs others moved (In-All GrantEntry (λ e. In e pairs) pairs (λ e i. i)) in
    record {
      counted = counted;
      made = stand.made;
      numbered = All-In GrantEntry (λ (e : GrantEntry). e.folder < 2 ^ 32) pairs numbered;
      same = λ e. (All-In GrantEntry (λ e. In e pairs) others forth e, All-In GrantEntry (λ e. In e others) pairs back e);
    }
