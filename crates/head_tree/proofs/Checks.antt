-- What a proof leads to, taken in two like the tree.
use Rattle.std.proofs.Common.{◌≡◌, ℕ, zero, suc, ◌-◌, ◌^◌, ◌<◌, ◌≤◌, ◌≢◌, Bool, true, false, ◌==◌, List, [], ◌∷◌, ◌++◌, length}
use Rattle.std.proofs.Common.{Option, Some, None, option_map, slice_index_or, refl, sym, ap, subst, ◌∙◌, ⊎_elim, arith}
use Rattle.std.proofs.Math.Nat.{two-pow-succ}
use Rattle.std.proofs.lemmas.List.{length_push, get_or_push, take_at}
use Rattle.std.proofs.lemmas.Bool.{cases_lt}
use Rattle.std.proofs.lemmas.Bool.Decides.{Decides-eqb, eqb_tells}
use Rattle.head_tree.specs.Hashing.{IsSplit, node_hash}
use Rattle.head_tree.specs.Checking.{Roots, same_roots, settled, with_left, with_right, last_of, front_of, shown, roots_at, proof_check}
use Rattle.head_tree.proofs.Depths.{is_within, is_more, are_apart, are_one, fits, steady, halves}

pub roots_at-same : (d n : ℕ) (root : List ℕ) (proof : List (List ℕ)) (whole : Bool) → roots_at d root n n proof whole ≡ settled root proof whole
unfolding roots_at
roots_at-same zero n root proof whole = rw (are_one n n refl, roots_at) refl
roots_at-same (suc d) n root proof whole = rw (are_one n n refl, roots_at) refl

pub roots_at-within : (d m n : ℕ) (root : List ℕ) (proof : List (List ℕ)) (whole : Bool) → m < n → n ≤ 2 ^ d
    → roots_at (suc d) root m n proof whole ≡ roots_at d root m n proof whole
unfolding roots_at
roots_at-within d m n root proof whole less h = rw (are_apart m n less, is_within n (2 ^ d) h, roots_at) refl

-- at any depth it is what the check says
pub roots_at-any : (d m n : ℕ) (root : List ℕ) (proof : List (List ℕ)) (whole : Bool) → m ≤ n → n ≤ 2 ^ d
    → roots_at d root m n proof whole ≡ proof_check root m n proof whole
unfolding proof_check
roots_at-any d m n root proof whole le h = ⊎_elim
    (λ (less : m < n). steady (λ e. roots_at e root m n proof whole) n (λ e room. roots_at-within e m n root proof whole less room) d n h (fits n))
    (λ (more : n ≤ m). let same : m ≡ n = omega arith in
    rw (same, roots_at-same d n root proof whole) (sym (roots_at-same n n root proof whole)))
    (cases_lt m n)

-- what is left where both numbers are one
pub settled-whole : (root : List ℕ) (proof : List (List ℕ)) → length proof ≡ 0 → settled root proof true ≡ Some (same_roots root)
unfolding settled
settled-whole root [] none = refl
settled-whole root (h ∷ proof) none = absurd (omega arith)

pub settled-too_long : (root : List ℕ) (proof : List (List ℕ)) → 0 < length proof → settled root proof true ≡ None
unfolding settled
settled-too_long root [] some = absurd (omega arith)
settled-too_long root (h ∷ []) some = refl
settled-too_long root (h ∷ (g ∷ proof)) some = refl

pub settled-only : (root : List ℕ) (proof : List (List ℕ)) → length proof ≡ 1
    → settled root proof false ≡ Some (same_roots (slice_index_or proof 0 []))
unfolding settled
settled-only root [] one = absurd (omega arith)
settled-only root (h ∷ []) one = refl
settled-only root (h ∷ (g ∷ proof)) one = absurd (omega arith)

pub settled-not_one : (root : List ℕ) (proof : List (List ℕ)) → length proof ≢ 1 → settled root proof false ≡ None
unfolding settled
settled-not_one root [] other = refl
settled-not_one root (h ∷ []) other = absurd (other refl)
settled-not_one root (h ∷ (g ∷ proof)) other = refl

pub proof_check-same : (root : List ℕ) (n : ℕ) (proof : List (List ℕ)) (whole : Bool) → proof_check root n n proof whole ≡ settled root proof whole
unfolding proof_check
proof_check-same root n proof whole = roots_at-same n n root proof whole

pub roots_at-lacking : (d m n : ℕ) (root : List ℕ) (proof : List (List ℕ)) (whole : Bool) → m < n → length proof ≡ 0 → roots_at d root m n proof whole ≡ None
unfolding roots_at
roots_at-lacking zero m n root proof whole less lacks = rw (are_apart m n less, roots_at) refl
roots_at-lacking (suc d) m n root proof whole less lacks = ⊎_elim
    (λ (over : 2 ^ d < n). rw (are_apart m n less, is_more n (2 ^ d) over, are_one (length proof) 0 lacks, roots_at) refl)
    (λ (fit : n ≤ 2 ^ d). rw (are_apart m n less, is_within n (2 ^ d) fit, roots_at) (roots_at-lacking d m n root proof whole less lacks))
    (cases_lt (2 ^ d) n)

pub proof_check-lacking : (root : List ℕ) (m n : ℕ) (proof : List (List ℕ)) (whole : Bool) → m < n → length proof ≡ 0 → proof_check root m n proof whole ≡ None
unfolding proof_check
proof_check-lacking root m n proof whole less lacks = roots_at-lacking n m n root proof whole less lacks

has_last : (proof : List (List ℕ)) → 0 < length proof → (length proof == 0) ≡ false
has_last proof some = grind (arith, eqb_tells (length proof) 0)

pub roots_at-left : (d m n : ℕ) (root : List ℕ) (proof : List (List ℕ)) (whole : Bool) → 0 < length proof → m ≤ 2 ^ d → 2 ^ d < n
    → roots_at (suc d) root m n proof whole ≡ option_map (with_right (last_of proof)) (roots_at d root m (2 ^ d) (front_of proof) whole)
unfolding roots_at
roots_at-left d m n root proof whole some le more =
    let less : m < n = omega arith in
    rw (are_apart m n less, is_more n (2 ^ d) more, has_last proof some, is_within m (2 ^ d) le, roots_at) refl

pub roots_at-right : (d m n : ℕ) (root : List ℕ) (proof : List (List ℕ)) (whole : Bool) → 0 < length proof → 2 ^ d < m → m < n
    → roots_at (suc d) root m n proof whole
    ≡ option_map (with_left (last_of proof)) (roots_at d root (m - 2 ^ d) (n - 2 ^ d) (front_of proof) false)
unfolding roots_at
roots_at-right d m n root proof whole some over less =
    let more : 2 ^ d < n = omega arith in
    rw (are_apart m n less, is_more n (2 ^ d) more, has_last proof some, is_more m (2 ^ d) over, roots_at) refl

pub proof_check-left : (k m n : ℕ) (root : List ℕ) (proof : List (List ℕ)) (whole : Bool) → IsSplit k n → 0 < length proof → m ≤ k
    → proof_check root m n proof whole ≡ option_map (with_right (last_of proof)) (proof_check root m k (front_of proof) whole)
proof_check-left k m n root proof whole split some le =
    let two = halves k n split in
    let d = two.depth in
    let below : 2 ^ d < n = two.below in
    let room : n ≤ 2 ^ suc d = two.room in
    let short : m ≤ 2 ^ d = subst (λ z. m ≤ z) two.power le in
    let within : m ≤ n = omega arith in
    let full : 2 ^ d ≤ 2 ^ d = omega arith in
    rw two.power (sym (roots_at-any (suc d) m n root proof whole within room) ∙ roots_at-left d m n root proof whole some short below
    ∙ ap (option_map (with_right (last_of proof))) (roots_at-any d m (2 ^ d) root (front_of proof) whole short full))

pub proof_check-right : (k m n : ℕ) (root : List ℕ) (proof : List (List ℕ)) (whole : Bool) → IsSplit k n → 0 < length proof → k < m → m < n
    → proof_check root m n proof whole ≡ option_map (with_left (last_of proof)) (proof_check root (m - k) (n - k) (front_of proof) false)
proof_check-right k m n root proof whole split some over less =
    let two = halves k n split in
    let d = two.depth in
    let room : n ≤ 2 ^ suc d = two.room in
    let long : 2 ^ d < m = subst (λ z. z < m) two.power over in
    let within : m ≤ n = omega arith in
    let part : m - 2 ^ d ≤ n - 2 ^ d = omega arith in
    let full : n - 2 ^ d ≤ 2 ^ d = omega (arith, two-pow-succ d) in
    rw two.power (sym (roots_at-any (suc d) m n root proof whole within room) ∙ roots_at-right d m n root proof whole some long less
    ∙ ap (option_map (with_left (last_of proof))) (roots_at-any d (m - 2 ^ d) (n - 2 ^ d) root (front_of proof) false part full))

-- a proof with a hash behind it
pub last_of-push : (proof : List (List ℕ)) (hash : List ℕ) → last_of (proof ++ hash ∷ []) ≡ hash
unfolding last_of
last_of-push proof hash = get_or_push proof hash [] (length (proof ++ hash ∷ []) - 1) (omega (arith, length_push proof hash))

pub front_of-push : (proof : List (List ℕ)) (hash : List ℕ) → front_of (proof ++ hash ∷ []) ≡ proof
unfolding front_of
front_of-push proof hash = take_at proof (hash ∷ []) (length (proof ++ hash ∷ []) - 1) (omega (arith, length_push proof hash))

pub check-left : (root hash : List ℕ) (k m n : ℕ) (proof : List (List ℕ)) (whole : Bool) → IsSplit k n → m ≤ k
    → proof_check root m n (proof ++ hash ∷ []) whole ≡ option_map (with_right hash) (proof_check root m k proof whole)
check-left root hash k m n proof whole split le =
    let some : 0 < length (proof ++ hash ∷ []) = omega (arith, length_push proof hash) in
    proof_check-left k m n root (proof ++ hash ∷ []) whole split some le ∙ rw (last_of-push proof hash, front_of-push proof hash) refl

pub check-right : (root hash : List ℕ) (k m n : ℕ) (proof : List (List ℕ)) (whole : Bool) → IsSplit k n → k < m → m < n
    → proof_check root m n (proof ++ hash ∷ []) whole ≡ option_map (with_left hash) (proof_check root (m - k) (n - k) proof false)
check-right root hash k m n proof whole split over less =
    let some : 0 < length (proof ++ hash ∷ []) = omega (arith, length_push proof hash) in
    proof_check-right k m n root (proof ++ hash ∷ []) whole split some over less ∙ rw (last_of-push proof hash, front_of-push proof hash) refl

shown-right_of : (hash : List ℕ) (roots : Option Roots)
    → option_map shown (option_map (with_right hash) roots)
    ≡ option_map (λ (pair : List ℕ × List ℕ). (pair.0, node_hash pair.1 hash)) (option_map shown roots)
unfolding with_right
shown-right_of hash None = refl
shown-right_of hash (Some roots) = refl

shown-left_of : (hash : List ℕ) (roots : Option Roots)
    → option_map shown (option_map (with_left hash) roots)
    ≡ option_map (λ (pair : List ℕ × List ℕ). (node_hash hash pair.0, node_hash hash pair.1)) (option_map shown roots)
unfolding with_left
shown-left_of hash None = refl
shown-left_of hash (Some roots) = refl

-- the two roots alone, from those that the rest of the proof leads to
pub shown-left : (k m n : ℕ) (root : List ℕ) (proof : List (List ℕ)) (whole : Bool) → IsSplit k n → 0 < length proof → m ≤ k
    → (roots : Option (List ℕ × List ℕ)) → roots ≡ option_map shown (proof_check root m k (front_of proof) whole)
    → option_map shown (proof_check root m n proof whole) ≡ option_map (λ (pair : List ℕ × List ℕ). (pair.0, node_hash pair.1 (last_of proof))) roots
shown-left k m n root proof whole split some le roots told =
    ap (option_map shown) (proof_check-left k m n root proof whole split some le)
    ∙ shown-right_of (last_of proof) (proof_check root m k (front_of proof) whole)
    ∙ ap (option_map (λ (pair : List ℕ × List ℕ). (pair.0, node_hash pair.1 (last_of proof)))) (sym told)

pub shown-right : (k m n : ℕ) (root : List ℕ) (proof : List (List ℕ)) (whole : Bool) → IsSplit k n → 0 < length proof → k < m → m < n
    → (roots : Option (List ℕ × List ℕ)) → roots ≡ option_map shown (proof_check root (m - k) (n - k) (front_of proof) false)
    → option_map shown (proof_check root m n proof whole)
    ≡ option_map (λ (pair : List ℕ × List ℕ). (node_hash (last_of proof) pair.0, node_hash (last_of proof) pair.1)) roots
shown-right k m n root proof whole split some over less roots told =
    ap (option_map shown) (proof_check-right k m n root proof whole split some over less)
    ∙ shown-left_of (last_of proof) (proof_check root (m - k) (n - k) (front_of proof) false)
    ∙ ap (option_map (λ (pair : List ℕ × List ℕ). (node_hash (last_of proof) pair.0, node_hash (last_of proof) pair.1))) (sym told)

pub check-same : (root : List ℕ) (m n : ℕ) (proof : List (List ℕ)) (whole : Bool) → m ≡ n
    → proof_check root m n proof whole ≡ settled root proof whole
check-same root m n proof whole one = rw one (proof_check-same root n proof whole)

-- what the code's test for an empty proof says
pub is_nothing : (proof : List (List ℕ)) (test : Bool) → test ≡ (length proof == 0) → test ≡ true → length proof ≡ 0
is_nothing proof test is t = (Decides-eqb (length proof) 0).0 (sym is ∙ t)

pub is_something : (proof : List (List ℕ)) (test : Bool) → test ≡ (length proof == 0) → test ≡ false → 0 < length proof
is_something proof test is f = grind (arith, eqb_tells (length proof) 0)
