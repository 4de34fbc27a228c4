-- Grants that differ in their order alone, before and after a note.
use Rattle.std.proofs.Common.{◌≡◌, ℕ, suc, ◌<◌, Bool, true, false, cond, ◌⊎◌, List, [], ◌∷◌, ◌++◌, filter, get_or, length, inl, inr, ⊎_elim, refl, sym, subst, arith}
use Rattle.std.proofs.lemmas.Bool.Decides.{nat_tests}
use Rattle.cry_base.specs.Sets.{In}
use Rattle.cry_base.specs.Store.{GrantEntry}
use Rattle.cry_base.proofs.Members.{In-append, In-filter}
use Rattle.grant_book.specs.Granted.{AreOrdered, is_before, with_pair}
use Rattle.grant_book.proofs.Matched.{granted_less, granted_more}
use Rattle.public_fold.specs.Standing.{AreOnce, AreSameGrants, IsSeenAs, PublicView, stand_of}

at_place : (gs : List GrantEntry) (g : GrantEntry) → In g gs → (k : ℕ) × (k < length gs) × ((d : GrantEntry) → get_or gs k d ≡ g)
at_place [] g i = absurd i
at_place (x ∷ xs) g i = ⊎_elim
    (λ s. (0, omega arith, λ d. sym s))
    (λ u. let w = at_place xs g u in (suc w.0, omega (arith, w.1), w.2)) i

not_before_itself : (g : GrantEntry) → is_before g g ≡ true → ⊥
not_before_itself g t = grind (arith, nat_tests)

-- grants in their order stand once each
pub ordered_once : (gs : List GrantEntry) → AreOrdered gs → AreOnce gs
ordered_once [] order = tt
ordered_once (g ∷ gs) order = (
  λ i. let w = at_place gs g i in not_before_itself g (subst (λ z. is_before g z ≡ true) (w.2 g) (order 0 (suc w.0) g (omega arith) (omega (arith, w.1)))),
  ordered_once gs (λ i j d lt within. order (suc i) (suc j) d (omega arith) (omega arith)),
)

pub seen_itself : (v : PublicView) → AreOrdered v.pairs → IsSeenAs v (stand_of v)
seen_itself v order = let once = ordered_once v.pairs order in record {
  store = refl;
  grants = record { same = λ g. (λ i. i, λ i. i); once = once; other_once = once };
  keys = refl;
}

filter_once : (p : GrantEntry → Bool) (gs : List GrantEntry) → AreOnce gs → AreOnce (filter p gs)
filter_once p [] once = tt
filter_once p (g ∷ gs) once = elim (p g) as (λ b. AreOnce (cond b (g ∷ filter p gs) (filter p gs))) [
  | true ↦ (λ i. once.0 (In-filter GrantEntry p g gs i).0, filter_once p gs once.1)
  | false ↦ filter_once p gs once.1
]

more_once : (gs : List GrantEntry) (g : GrantEntry) → AreOnce gs → (In g gs → ⊥) → AreOnce (gs ++ g ∷ [])
more_once [] g once new = (λ i. i, tt)
more_once (x ∷ xs) g once new = (
  λ i. ⊎_elim (λ u. once.0 u) (λ (w : (x ≡ g) ⊎ ⊥). ⊎_elim (λ s. new (inl (sym s))) (λ n. n) w) ((In-append GrantEntry x xs (g ∷ [])).0 i),
  more_once xs g once.1 (λ i. new (inr i)),
)

-- the same test on both
pub less_same : (gs hs : List GrantEntry) (p : GrantEntry → Bool) → AreSameGrants gs hs → AreSameGrants (filter p gs) (filter p hs)
less_same gs hs p are = record {
  same = granted_less gs hs p are.same;
  once = filter_once p gs are.once;
  other_once = filter_once p hs are.other_once;
}

both_once : (gs hs : List GrantEntry) → AreOnce gs → AreOnce hs → ((e : GrantEntry) → In e gs → In e hs → ⊥) → AreOnce (gs ++ hs)
both_once [] hs once more apart = more
both_once (g ∷ gs) hs once more apart = (
  λ i. ⊎_elim (λ u. once.0 u) (λ u. apart g (inl refl) u) ((In-append GrantEntry g gs hs).0 i),
  both_once gs hs once.1 more (λ e i. apart e (inr i)),
)

not_before_and_behind : (e g : GrantEntry) → is_before e g ≡ true → is_before g e ≡ true → ⊥
not_before_and_behind e g t u = grind (arith, nat_tests)

with_once : (gs : List GrantEntry) (g : GrantEntry) → AreOnce gs → (In g gs → ⊥) → AreOnce (with_pair gs g)
with_once gs g once new = both_once
    (filter (λ e. is_before e g) gs) (g ∷ filter (λ e. is_before g e) gs)
    (filter_once (λ e. is_before e g) gs once)
    (λ i. new (In-filter GrantEntry (λ e. is_before g e) g gs i).0, filter_once (λ e. is_before g e) gs once)
    (λ e i j.
    let w = In-filter GrantEntry (λ x. is_before x g) e gs i in ⊎_elim
    (λ (same : e ≡ g). new (subst (λ z. In z gs) same w.0))
    (λ u. not_before_and_behind e g w.1 (In-filter GrantEntry (λ x. is_before g x) e gs u).1) j)

-- a new grant in its place in the one, and at the end of the other
pub more_same : (gs hs : List GrantEntry) (g : GrantEntry) → AreSameGrants gs hs → (In g gs → ⊥) → AreSameGrants (with_pair gs g) (hs ++ g ∷ [])
more_same gs hs g are new = record {
  same = granted_more gs hs g are.same;
  once = with_once gs g are.once new;
  other_once = more_once hs g are.other_once (λ i. new ((are.same g).1 i));
}
