-- Roles and keys from rows, and the newest keys of lists in which each role has one.
use Rattle.std.proofs.Common.{◌≡◌, ◌≢◌, ℕ, zero, suc, ◌<◌, ◌≤◌, Bool, true, false, cond, ◌↔◌, List, [], ◌∷◌, map, Some, None, inl, inr, ⊎_elim, refl, sym, ap, ◌∙◌, subst, arith}
use Rattle.std.specs.Prelude.{Option, nat_lt}
use Rattle.std.proofs.lemmas.Bool.{false≢true, le-ltb}
use Rattle.cry_base.specs.Sets.{In}
use Rattle.cry_base.specs.declared.roles.Role.{Role}
use Rattle.cry_base.specs.declared.roles.Role.TheVariants.{Owner, Holder, Clear, Sub, Back, Files, Data, File}
use Rattle.cry_base.proofs.Members.{In-map}
use Rattle.role_graph.specs.Ascending.{IsAscending}
use Rattle.role_graph.specs.Roles.{variant_of, role_id, is_root_role, same_role, holder_role, clear_of, sub_of, back_of, files_of, data_of, file_role}
use Rattle.role_graph.proofs.Comparing.{same_role_tells}
use Rattle.role_graph.proofs.Rising.{Before, before_self, other_than}
use Rattle.public_fold.specs.AtKeys.{roles_of}
use Rattle.public_fold.specs.KeyStep.{newest}
use Rattle.public_fold.specs.States.{role_at}

-- a role's place and number tell it
pub variant_at : (p i : ℕ) → 1 ≤ p → p ≤ 7 → variant_of (role_at p i) ≡ p
unfolding role_at variant_of holder_role clear_of sub_of back_of files_of data_of file_role
variant_at zero i low high = absurd (omega arith)
variant_at (suc zero) i low high = refl
variant_at (suc (suc zero)) i low high = refl
variant_at (suc (suc (suc zero))) i low high = refl
variant_at (suc (suc (suc (suc zero)))) i low high = refl
variant_at (suc (suc (suc (suc (suc zero))))) i low high = refl
variant_at (suc (suc (suc (suc (suc (suc zero)))))) i low high = refl
variant_at (suc (suc (suc (suc (suc (suc (suc zero))))))) i low high = refl
variant_at (suc (suc (suc (suc (suc (suc (suc (suc n)))))))) i low high = absurd (omega arith)

pub id_at : (p i : ℕ) → 1 ≤ p → p ≤ 7 → role_id (role_at p i) ≡ i
unfolding role_at role_id holder_role clear_of sub_of back_of files_of data_of file_role
id_at zero i low high = absurd (omega arith)
id_at (suc zero) i low high = refl
id_at (suc (suc zero)) i low high = refl
id_at (suc (suc (suc zero))) i low high = refl
id_at (suc (suc (suc (suc zero)))) i low high = refl
id_at (suc (suc (suc (suc (suc zero))))) i low high = refl
id_at (suc (suc (suc (suc (suc (suc zero)))))) i low high = refl
id_at (suc (suc (suc (suc (suc (suc (suc zero))))))) i low high = refl
id_at (suc (suc (suc (suc (suc (suc (suc (suc n)))))))) i low high = absurd (omega arith)

pub role_back : (r : Role) → role_at (variant_of r) (role_id r) ≡ r
unfolding role_at variant_of role_id holder_role clear_of sub_of back_of files_of data_of file_role
role_back Owner = refl
role_back (Holder h) = refl
role_back (Clear f) = refl
role_back (Sub f) = refl
role_back (Back f) = refl
role_back (Files f) = refl
role_back (Data f) = refl
role_back (File x) = refl

pub not_owner : (p i : ℕ) → 1 ≤ p → p ≤ 7 → role_at p i ≢ Owner
unfolding variant_of
not_owner p i low high e =
    let is : variant_of (role_at p i) ≡ p = variant_at p i low high in
    let zero : variant_of (role_at p i) ≡ 0 = ap variant_of e in
    absurd (omega (arith, is, zero, low))

pub no_root : (p i : ℕ) → 2 ≤ p → p ≤ 7 → is_root_role (role_at p i) ≡ false
unfolding is_root_role
no_root p i low high =
    let is : variant_of (role_at p i) ≡ p = variant_at p i (omega (arith, low)) high in
    ap (λ v. nat_lt v 2) is ∙ le-ltb p 2 low

-- a key that is the newest stands in the list
pub newest_in : (keys : List (Role × ℕ)) (r : Role) (n : ℕ) → newest keys r ≡ Some n → In {X = Role × ℕ} (r, n) keys
unfolding newest
newest_in [] r n = λ e. absurd (cc)
newest_in (key ∷ keys) r n =
    (elim (same_role key.0 r) as (λ b. same_role key.0 r ≡ b → cond b (Some key.1) (newest keys r) ≡ Some n → In {X = Role × ℕ} (r, n) (key ∷ keys)) [
      | true ↦ λ t e. let is : key.0 ≡ r = (same_role_tells key.0 r).0 t in let number : key.1 ≡ n = cc in inl (λ k. (sym is k, sym number k))
      | false ↦ λ t e. inr (newest_in keys r n e)
    ]) refl

role_in : (keys : List (Role × ℕ)) (r : Role) (n : ℕ) → In {X = Role × ℕ} (r, n) keys → In r (roles_of keys)
role_in keys r n i = (In-map (Role × ℕ) Role (λ key. key.0) r keys).1 ((r, n), i, refl)

-- where each role stands once, what stands in the list is the newest
pub in_newest : (keys : List (Role × ℕ)) (r : Role) (n : ℕ) → IsAscending (roles_of keys) → In {X = Role × ℕ} (r, n) keys → newest keys r ≡ Some n
unfolding newest
in_newest [] r n up i = absurd i
in_newest (key ∷ keys) r n up i = ⊎_elim
    (λ (here : (r, n) ≡ key).
    let role : key.0 ≡ r = λ k. (sym here k).0 in
    let number : key.1 ≡ n = λ k. (sym here k).1 in
    ap (λ b. cond b (Some key.1) (newest keys r)) ((same_role_tells key.0 r).1 role) ∙ ap (λ m. Some m) number)
    (λ later.
    let before : Before key.0 r = up.0 r (role_in keys r n later) in
    ap (λ b. cond b (Some key.1) (newest keys r)) (other_than key.0 r (λ e. before_self r (subst (λ x. Before x r) e before))) ∙ in_newest keys r n up.1 later)
    i

some_newest : (keys : List (Role × ℕ)) (r : Role) → In r (roles_of keys) → (n : ℕ) × (newest keys r ≡ Some n)
unfolding newest
some_newest [] r = λ i. absurd i
some_newest (key ∷ keys) r =
    (elim (same_role key.0 r) as (λ b. same_role key.0 r ≡ b → In r (roles_of (key ∷ keys)) → (n : ℕ) × (cond b (Some key.1) (newest keys r) ≡ Some n)) [
      | true ↦ λ t i. (key.1, refl)
      | false ↦ λ t i. ⊎_elim
          (λ (e : r ≡ key.0). absurd (false≢true (sym t ∙ (same_role_tells key.0 r).1 (sym e))))
          (λ later. some_newest keys r later) i
    ]) refl

-- the roles of a list are those that have a newest key
pub has_newest : (keys : List (Role × ℕ)) (r : Role) → In r (roles_of keys) ↔ ((n : ℕ) × (newest keys r ≡ Some n))
has_newest keys r = (some_newest keys r, λ w. role_in keys r w.0 (newest_in keys r w.0 w.1))
