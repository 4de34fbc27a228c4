-- Keys in another order, of which each role has the same newest one.
use Rattle.std.proofs.Common.{◌≡◌, ℕ, Bool, true, false, cond, ◌==◌, ◌⊎◌, List, [], ◌∷◌, ◌++◌, Some, None, inl, inr, ⊎_elim, refl, sym, ap, ◌∙◌, subst}
use Rattle.std.specs.Prelude.{Option, unwrap_or}
use Rattle.std.specs.List.{list_all}
use Rattle.std.proofs.lemmas.Bool.{cases_Bool, eqb-true, eq-eqb, false≢true}
use Rattle.cry_base.specs.Sets.{In, has}
use Rattle.cry_base.specs.Store.{Store}
use Rattle.cry_base.specs.declared.roles.Edge.{Edge}
use Rattle.cry_base.specs.declared.roles.Role.{Role}
use Rattle.cry_base.proofs.Members.{In-append}
use Rattle.cry_base.proofs.Reaching.{has-in, in-has}
use Rattle.role_graph.specs.Edges.{edges}
use Rattle.role_graph.specs.Roles.{same_role}
use Rattle.role_graph.proofs.Comparing.{same_role_tells}
use Rattle.public_fold.specs.AtKeys.{roles_of}
use Rattle.public_fold.specs.Keyed.{HasRole, IsKept, KeysHold}
use Rattle.public_fold.specs.KeyOrders.{agree, agreed_order, same_serial}
use Rattle.public_fold.specs.KeyStep.{KeyState, newest, present}
use Rattle.public_fold.proofs.RowRoles.{has_newest}
use Rattle.public_fold.proofs.RowTested.{all_pass, passes_all}

-- each role has the same newest key in both
abbrev pub AreAlike : List (Role × ℕ) → List (Role × ℕ) → Type 0
AreAlike keys others = (r : Role) → newest others r ≡ newest keys r

same_told : (a b : Option ℕ) → same_serial a b ≡ true → b ≡ a
unfolding same_serial
same_told None None t = refl
same_told None (Some m) t = absurd (false≢true t)
same_told (Some n) None t = absurd (false≢true t)
same_told (Some n) (Some m) t = ap (λ k. Some k) (sym (eqb-true n m t))

told_same : (a b : Option ℕ) → b ≡ a → same_serial a b ≡ true
unfolding same_serial
told_same None None e = refl
told_same None (Some m) e = absurd (cc)
told_same (Some n) None e = absurd (cc)
told_same (Some n) (Some m) e = eq-eqb n m (let same : n ≡ m = cc in same)

none_of : (keys : List (Role × ℕ)) (r : Role) → (In r (roles_of keys) → ⊥) → newest keys r ≡ None
none_of keys r out = (elim (newest keys r) as (λ o. newest keys r ≡ o → o ≡ None) [
  | None ↦ λ e. refl
  | Some n ↦ λ e. absurd (out ((has_newest keys r).1 (n, e)))
]) refl

-- a test of the roles of both tells of all roles
pub agree_told : (keys others : List (Role × ℕ)) → agree (roles_of keys ++ roles_of others) keys others ≡ true → AreAlike keys others
unfolding agree
agree_told keys others t r =
    let all : List Role = roles_of keys ++ roles_of others in
    ⊎_elim
    (λ (there : has same_role all r ≡ true).
    same_told (newest keys r) (newest others r) (all_pass Role (λ q. same_serial (newest keys q) (newest others q)) all t r (has-in Role same_role same_role_tells all r there)))
    (λ (out : has same_role all r ≡ false).
    let lacks : In r all → ⊥ = λ i. false≢true (sym out ∙ in-has Role same_role same_role_tells all r i) in
    none_of others r (λ i. lacks ((In-append Role r (roles_of keys) (roles_of others)).1 (inr i))) ∙ sym (none_of keys r (λ i. lacks ((In-append Role r (roles_of keys) (roles_of others)).1 (inl i)))))
    (cases_Bool (has same_role all r))

pub alike_agree : (keys others : List (Role × ℕ)) → AreAlike keys others → agree (roles_of keys ++ roles_of others) keys others ≡ true
unfolding agree
alike_agree keys others alike =
    passes_all Role (λ q. same_serial (newest keys q) (newest others q)) (roles_of keys ++ roles_of others) (λ r i. told_same (newest keys r) (newest others r) (alike r))

-- the agreed order is alike, and the other one where that is alike
pub agreed_alike : (keys others : List (Role × ℕ)) → AreAlike keys (agreed_order keys others)
unfolding agreed_order
agreed_alike keys others = (elim (agree (roles_of keys ++ roles_of others) keys others) as (λ b. agree (roles_of keys ++ roles_of others) keys others ≡ b → AreAlike keys (cond b others keys)) [
  | true ↦ λ t. agree_told keys others t
  | false ↦ λ t r. refl
]) refl

pub agreed_other : (keys others : List (Role × ℕ)) → AreAlike keys others → agreed_order keys others ≡ others
unfolding agreed_order
agreed_other keys others alike = ap (λ b. cond b others keys) (alike_agree keys others alike)

-- what is kept hangs on no order
pub alike_kept : (s : Store) (keys others : List (Role × ℕ)) (dirty : List Role) → AreAlike keys others → IsKept s keys dirty → IsKept s others dirty
unfolding present
alike_kept s keys others dirty alike kept =
    let ok = kept.hold in
    let now : (r : Role) → present keys r ≡ present others r = λ r. ap (λ o. unwrap_or o 0) (sym (alike r)) in
    record {
      stands = kept.stands;
      links = kept.links;
      hold = record {
        closed = ok.closed;
        no_root = ok.no_root;
        dirty_stands = ok.dirty_stands;
        linked = λ e i. (let w = ok.linked e i in (w.0, w.1, w.2, w.3 ∙ now e.from, w.4 ∙ now e.to));
        keyed = λ r. (
          λ stands. (let w = (ok.keyed r).0 stands in (w.0, alike r ∙ w.1)),
          λ has. (ok.keyed r).1 (has.0, sym (alike r) ∙ has.1),
        );
      };
    }
