-- After a step each present key has the bytes that were drawn for its serial.
use Rattle.std.proofs.Common.{◌≡◌, ◌⊎◌, ⊎_elim, inl, inr, ℕ, ◌+◌, ◌≤◌, ◌<◌, true, false, cond, eqb, List, [], ◌∷◌, ◌++◌, length, Option, Some, None, arith, refl, sym, ap, subst, ◌∙◌}
use Rattle.std.specs.Prelude.{find, map}
use Rattle.std.proofs.lemmas.Bool.{cases_Bool, eq-eqb, ne_eqb, false≢true}
use Rattle.chacha_seal.specs.Keys.{KeyParts}
use Rattle.cry_base.specs.Sets.{In, has}
use Rattle.cry_base.specs.declared.roles.Role.{Role}
use Rattle.cry_base.proofs.Reaching.{has-in, in-has}
use Rattle.role_graph.specs.Roles.{same_role}
use Rattle.role_graph.proofs.Comparing.{same_role_tells}
use Rattle.public_fold.specs.KeyStep.{numbered, keys_without, newest}
use Rattle.public_fold.proofs.KeepingKeys.{numbered-none, without-gone, without-kept}
use Rattle.public_fold.proofs.Serials.{numbered-between}
use Rattle.journal_bytes.specs.Keys.{with_bytes, bytes_of, bytes_in}
use Rattle.journal_bytes.specs.Ringing.{key_after, key_for}
use Rattle.journal_bytes.specs.Sealing.{EachOnce}
use Rattle.journal_bytes.proofs.Ascending.{given_above}

-- ---- the newest keys

pub newest-in : (keys : List (Role × ℕ)) (r : Role) (n : ℕ) → newest keys r ≡ Some n → (q : Role × ℕ) × In q keys × (q.1 ≡ n)
unfolding newest
newest-in [] r n = λ e. absurd cc
newest-in (x ∷ xs) r n =
    elim (same_role x.0 r) as (λ b. cond b (Some x.1) (newest xs r) ≡ Some n → (q : Role × ℕ) × In q (x ∷ xs) × (q.1 ≡ n)) [
      | true ↦ λ e. let h : x.1 ≡ n = cc in (x, inl refl, h)
      | false ↦ λ e. let w = newest-in xs r n e in (w.0, inr w.1, w.2)
    ]

pub newest-split : (xs ys : List (Role × ℕ)) (r : Role) (n : ℕ) → newest (xs ++ ys) r ≡ Some n → (newest xs r ≡ Some n) ⊎ ((newest xs r ≡ None) × (newest ys r ≡ Some n))
unfolding newest
newest-split [] ys r n = λ e. inr (refl, e)
newest-split (x ∷ xs) ys r n =
    elim (same_role x.0 r) as (λ b. cond b (Some x.1) (newest (xs ++ ys) r) ≡ Some n → (cond b (Some x.1) (newest xs r) ≡ Some n) ⊎ ((cond b (Some x.1) (newest xs r) ≡ None) × (newest ys r ≡ Some n))) [
      | true ↦ λ e. inl e
      | false ↦ λ e. newest-split xs ys r n e
    ]

pub newest-kept : (gone : List Role) (keys : List (Role × ℕ)) (r : Role) (n : ℕ) → newest (keys_without gone keys) r ≡ Some n → newest keys r ≡ Some n
newest-kept gone keys r n e =
    ⊎_elim
    (λ (t : has same_role gone r ≡ true). let none : newest (keys_without gone keys) r ≡ None = without-gone gone keys r (has-in Role same_role same_role_tells gone r t) in absurd cc)
    (λ (f : has same_role gone r ≡ false). sym (without-kept gone keys r (λ i. false≢true (sym f ∙ in-has Role same_role same_role_tells gone r i))) ∙ e)
    (cases_Bool (has same_role gone r))

numbered-low : (n : ℕ) (roles : List Role) (r : Role) (m : ℕ) → newest (numbered n roles) r ≡ Some m → n ≤ m
numbered-low n roles r m e =
    let w = newest-in (numbered n roles) r m e in
    let low : n ≤ w.0.1 = (numbered-between Role n roles w.0 w.1).0 in
    let same : w.0.1 ≡ m = w.2 in omega arith

-- ---- the bytes of serials

none_in : (keys : List KeyParts) (n : ℕ) → ((key : KeyParts) → In key keys → n < key.serial) → bytes_in keys n ≡ []
unfolding bytes_in bytes_of
none_in [] n above = refl
none_in (k ∷ keys) n above =
    let high : n < k.serial = above k (inl refl) in
    ap (λ t. bytes_of (cond t (Some k) (find (λ key. eqb key.serial n) keys))) (ne_eqb k.serial n (λ e. omega arith))
    ∙ none_in keys n (λ key i. above key (inr i))

bytes_old : (keys more : List KeyParts) (n : ℕ) → ((key : KeyParts) → In key more → n < key.serial) → bytes_in (keys ++ more) n ≡ bytes_in keys n
unfolding bytes_in bytes_of
bytes_old [] more n above = none_in more n above
bytes_old (k ∷ keys) more n above =
    elim (eqb k.serial n) as (λ t. bytes_of (cond t (Some k) (find (λ key. eqb key.serial n) (keys ++ more))) ≡ bytes_of (cond t (Some k) (find (λ key. eqb key.serial n) keys))) [
      | true ↦ refl
      | false ↦ bytes_old keys more n above
    ]

bytes_new : (keys more : List KeyParts) (n : ℕ) → ((key : KeyParts) → In key keys → key.serial < n) → bytes_in (keys ++ more) n ≡ bytes_in more n
unfolding bytes_in bytes_of
bytes_new [] more n below = refl
bytes_new (k ∷ keys) more n below =
    let low : k.serial < n = below k (inl refl) in
    ap (λ t. bytes_of (cond t (Some k) (find (λ key. eqb key.serial n) (keys ++ more)))) (ne_eqb k.serial n (λ e. omega arith))
    ∙ bytes_new keys more n (λ key i. below key (inr i))

-- ---- keys given in turn

after_none : (key : Option KeyParts) (n m : ℕ) (roles : List Role) (drawn : List (List ℕ)) (r : Role) → newest (numbered m roles) r ≡ None → key_after key n (numbered m roles) drawn r ≡ key
unfolding key_after newest numbered
after_none key n m [] drawn r = λ e. refl
after_none key n m (x ∷ xs) [] r = λ e. refl
after_none key n m (x ∷ xs) (b ∷ drawn) r =
    elim (same_role x r) as (λ t. cond t (Some m) (newest (numbered (m + 1) xs) r) ≡ None → key_after (cond t (Some (key_for x n b)) key) (n + 1) (numbered (m + 1) xs) drawn r ≡ key) [
      | true ↦ λ e. absurd cc
      | false ↦ λ e. after_none key (n + 1) (m + 1) xs drawn r e
    ]

after_some : (key : Option KeyParts) (n : ℕ) (roles : List Role) (drawn : List (List ℕ)) (r : Role) (m : ℕ) → length drawn ≡ length roles → EachOnce roles → newest (numbered n roles) r ≡ Some m
    → key_after key n (numbered n roles) drawn r ≡ Some (key_for r m (bytes_in (with_bytes (numbered n roles) drawn) m))
unfolding key_after newest numbered with_bytes bytes_in bytes_of
after_some key n [] drawn r m long once = λ e. absurd cc
after_some key n (x ∷ xs) [] r m long once = λ e. absurd (omega arith)
after_some key n (x ∷ xs) (b ∷ drawn) r m long once =
    let others : List KeyParts = with_bytes (numbered (n + 1) xs) drawn in
    (elim (same_role x r) as (λ t. same_role x r ≡ t → cond t (Some n) (newest (numbered (n + 1) xs) r) ≡ Some m → key_after (cond t (Some (key_for x n b)) key) (n + 1) (numbered (n + 1) xs) drawn r
    ≡ Some (key_for r m (bytes_of (cond (eqb n m) (Some (key_for x n b)) (find (λ key. eqb key.serial m) others))))) [
      | true ↦ λ t e.
          let same : x ≡ r = (same_role_tells x r).0 t in
          let at : n ≡ m = cc in
          after_none (Some (key_for x n b)) (n + 1) (n + 1) xs drawn r (numbered-none (n + 1) xs r (λ i. once.0 (subst (λ z. In z xs) (sym same) i)))
          ∙ ap (λ z. Some (key_for z n b)) same
          ∙ ap (λ z. Some (key_for r z b)) at
          ∙ ap (λ t. Some (key_for r m (bytes_of (cond t (Some (key_for x n b)) (find (λ key. eqb key.serial m) others))))) (sym (eq-eqb n m at))
      | false ↦ λ t e.
          let low : n + 1 ≤ m = numbered-low (n + 1) xs r m e in
          after_some key (n + 1) xs drawn r m (omega arith) once.1 e
          ∙ ap (λ t. Some (key_for r m (bytes_of (cond t (Some (key_for x n b)) (find (λ key. eqb key.serial m) others))))) (sym (ne_eqb n m (λ at. omega arith)))
    ]) refl

pub numbered-roles : (n : ℕ) (roles : List Role) → map (λ (key : Role × ℕ). key.0) (numbered n roles) ≡ roles
unfolding numbered
numbered-roles n [] = refl
numbered-roles n (r ∷ roles) = ap (λ rs. r ∷ rs) (numbered-roles (n + 1) roles)

-- the present keys after a step
pub key_then : (keys : List KeyParts) (old : Role → Option KeyParts) (before : List (Role × ℕ)) (n : ℕ) (roles gone : List Role) (drawn : List (List ℕ))
    → ((r : Role) (m : ℕ) → newest before r ≡ Some m → old r ≡ Some (key_for r m (bytes_in keys m)))
    → ((key : KeyParts) → In key keys → key.serial < n) → ((r : Role) (m : ℕ) → newest before r ≡ Some m → m < n)
    → length drawn ≡ length roles → EachOnce (map (λ (key : Role × ℕ). key.0) (numbered n roles))
    → (r : Role) (m : ℕ) → newest (numbered n roles ++ keys_without gone before) r ≡ Some m
    → key_after (old r) n (numbered n roles) drawn r ≡ Some (key_for r m (bytes_in (keys ++ with_bytes (numbered n roles) drawn) m))
key_then keys old before n roles gone drawn has_present drawn_below present_below long once r m e =
    let more = with_bytes (numbered n roles) drawn in
    ⊎_elim
    (λ (here : newest (numbered n roles) r ≡ Some m).
    let low = numbered-low n roles r m here in
    after_some (old r) n roles drawn r m long (subst EachOnce (numbered-roles n roles) once) here
    ∙ ap (λ b. Some (key_for r m b)) (sym (bytes_new keys more m (λ key i. let below = drawn_below key i in omega arith))))
    (λ there. let kept = newest-kept gone before r m there.1 in
    let small = present_below r m kept in
    after_none (old r) n n roles drawn r there.0
    ∙ has_present r m kept
    ∙ ap (λ b. Some (key_for r m b)) (sym (bytes_old keys more m (λ key i. let above = given_above n roles drawn key i in omega arith))))
    (newest-split (numbered n roles) (keys_without gone before) r m e)
