-- Visits in an order in which each has its key: it was open before, or a visit before leads to it.
use Rattle.std.proofs.Common.{◌≡◌, ⊎_elim, inl, inr, ◌⊎◌, ℕ, Bool, true, false, cond, List, [], ◌∷◌, ◌++◌, refl, sym, subst}
use Rattle.std.specs.List.{flat_map}
use Rattle.cry_base.specs.Sets.{In}
use Rattle.cry_base.specs.Store.{Store, FileEntry, HolderEntry}
use Rattle.cry_base.specs.declared.roles.Edge.{Edge}
use Rattle.cry_base.specs.declared.roles.Role.{Role}
use Rattle.cry_base.specs.declared.roles.Role.TheVariants.{Owner}
use Rattle.log_visits.specs.Visits.{Visit}
use Rattle.log_visits.specs.Visits.Visit.{ToKey, ToName, ToFile, ToHolder}
use Rattle.role_graph.specs.Edges.{IsEdge, in_order, put_in_order}
use Rattle.role_graph.specs.RightsByReach.{HasFolder}
use Rattle.role_graph.specs.Roles.{data_of, file_role}
use Rattle.role_graph.proofs.Edging.{put-in}

-- the visit is to something that stands, and has its key
abbrev pub CanVisit : Store → (Role → Type 0) → Visit → Type 0
CanVisit s is_open (ToKey e) = IsEdge s e × is_open e.from
CanVisit s is_open (ToName f) = HasFolder s f × is_open (data_of f)
CanVisit s is_open (ToFile x) = ((e : FileEntry) × In e s.files × (e.id ≡ x)) × is_open (file_role x)
CanVisit s is_open (ToHolder h) = ((e : HolderEntry) × In e s.holders × (e.number ≡ h)) × is_open Owner

-- the visit leads to the role's key
abbrev pub LeadsTo : Visit → Role → Type 0
LeadsTo (ToKey e) role = role ≡ e.to
LeadsTo (ToName f) role = ⊥
LeadsTo (ToFile x) role = ⊥
LeadsTo (ToHolder h) role = ⊥

-- so does one of these
abbrev pub OneLeadsTo : List Visit → Role → Type 0
OneLeadsTo vs role = (e : Edge) × In (ToKey e) vs × (e.to ≡ role)

-- each visit can be made once those before it are
abbrev pub AreOrdered : Store → (Role → Type 0) → List Visit → Type 0
AreOrdered s is_open [] = Unit {0}
AreOrdered s is_open (v ∷ vs) = CanVisit s is_open v × AreOrdered s (λ role. is_open role ⊎ LeadsTo v role) vs

pub can_more : (s : Store) (is_open more : Role → Type 0) → ((role : Role) → is_open role → more role) → (v : Visit) → CanVisit s is_open v → CanVisit s more v
can_more s is_open more grow (ToKey e) can = (can.0, grow e.from can.1)
can_more s is_open more grow (ToName f) can = (can.0, grow (data_of f) can.1)
can_more s is_open more grow (ToFile x) can = (can.0, grow (file_role x) can.1)
can_more s is_open more grow (ToHolder h) can = (can.0, grow Owner can.1)

-- more keys do no harm
pub ordered_more : (s : Store) (is_open more : Role → Type 0) → ((role : Role) → is_open role → more role) → (vs : List Visit) → AreOrdered s is_open vs → AreOrdered s more vs
ordered_more s is_open more grow [] o = tt
ordered_more s is_open more grow (v ∷ vs) o =
    (can_more s is_open more grow v o.0, ordered_more s (λ role. is_open role ⊎ LeadsTo v role) (λ role. more role ⊎ LeadsTo v role) (λ role. ⊎_elim (λ a. inl (grow role a)) (λ b. inr b)) vs o.1)

first_leads : (v : Visit) (vs : List Visit) (role : Role) → OneLeadsTo (v ∷ vs) role → LeadsTo v role ⊎ OneLeadsTo vs role
first_leads v vs role w = ⊎_elim
    (λ (q : ToKey w.0 ≡ v). inl (subst (λ z. LeadsTo z role) q (sym w.2)))
    (λ i. inr (w.0, i, w.2))
    w.1

-- visits one after the other
pub ordered_both : (s : Store) (is_open : Role → Type 0) (xs ys : List Visit) → AreOrdered s is_open xs → AreOrdered s (λ role. is_open role ⊎ OneLeadsTo xs role) ys → AreOrdered s is_open (xs ++ ys)
ordered_both s is_open [] ys first rest =
    ordered_more s (λ role. is_open role ⊎ OneLeadsTo [] role) is_open (λ role. ⊎_elim (λ a. a) (λ w. absurd w.1)) ys rest
ordered_both s is_open (v ∷ xs) ys first rest =
    let now : Role → Type 0 = λ role. is_open role ⊎ LeadsTo v role in (
      first.0,
      ordered_both s now xs ys first.1
          (ordered_more s (λ role. is_open role ⊎ OneLeadsTo (v ∷ xs) role) (λ role. now role ⊎ OneLeadsTo xs role)
          (λ role. ⊎_elim (λ a. inl (inl a)) (λ w. ⊎_elim (λ l. inl (inr l)) (λ o. inr o) (first_leads v xs role w))) ys rest),
    )

-- groups of visits, each of which has its keys from before
pub ordered_each : (s : Store) (is_open : Role → Type 0) (visits : ℕ → List Visit) (fs : List ℕ) → ((f : ℕ) → In f fs → AreOrdered s is_open (visits f)) → AreOrdered s is_open (flat_map visits fs)
ordered_each s is_open visits [] each = tt
ordered_each s is_open visits (f ∷ fs) each =
    ordered_both s is_open (visits f) (flat_map visits fs) (each f (inl refl))
    (ordered_more s is_open (λ role. is_open role ⊎ OneLeadsTo (visits f) role) (λ role a. inl a) (flat_map visits fs) (ordered_each s is_open visits fs (λ g i. each g (inr i))))

-- ---- groups that need one another

-- no number stands behind one that must come after it
abbrev pub AreSorted : (ℕ → ℕ → Type 0) → List ℕ → Type 0
AreSorted le [] = Unit {0}
AreSorted le (f ∷ fs) = ((g : ℕ) → In g fs → le f g) × AreSorted le fs

module _ (before : ℕ → ℕ → Bool) (le : ℕ → ℕ → Type 0) (on : (a b c : ℕ) → le a b → le b c → le a c) (told : (a b : ℕ) → before a b ≡ true → le a b) (other : (a b : ℕ) → before a b ≡ false → le b a) where
  put_sorted : (f : ℕ) (fs : List ℕ) → AreSorted le fs → AreSorted le (put_in_order before f fs)
  unfolding put_in_order
  put_sorted f [] sorted = (λ g i. absurd i, tt)
  put_sorted f (g ∷ fs) sorted =
      (elim (before g f) as (λ b. before g f ≡ b → AreSorted le (cond b (g ∷ put_in_order before f fs) (f ∷ g ∷ fs))) [
        | true ↦ λ t. (
          λ h i. ⊎_elim (λ (q : h ≡ f). subst (le g) (sym q) (told g f t)) (λ j. sorted.0 h j) ((put-in ℕ before f h fs).0 i),
          put_sorted f fs sorted.1,
        )
        | false ↦ λ t. (
          λ h i. ⊎_elim (λ (q : h ≡ g). subst (le f) (sym q) (other g f t)) (λ j. on f g h (other g f t) (sorted.0 h j)) i,
          sorted,
        )
      ]) refl

  pub order_sorted : (fs : List ℕ) → AreSorted le (in_order before fs)
  unfolding in_order
  order_sorted [] = tt
  order_sorted (f ∷ fs) = put_sorted f (in_order before fs) (order_sorted fs)

-- the role's key is open at first, or led to by the visits of one that must come before
abbrev pub OpenBefore : (ℕ → ℕ → Type 0) → (Role → Type 0) → (ℕ → List Visit) → List ℕ → ℕ → Role → Type 0
OpenBefore less is_open visits all f role = is_open role ⊎ ((g : ℕ) × In g all × less g f × OneLeadsTo (visits g) role)

module _ (s : Store) (less le : ℕ → ℕ → Type 0) (clash : (a b : ℕ) → less a b → le b a → ⊥) (self : (a : ℕ) → le a a) (is_open : Role → Type 0) (visits : ℕ → List Visit) (all : List ℕ) (each : (f : ℕ) → In f all → AreOrdered s (OpenBefore less is_open visits all f) (visits f)) where
  rest_ordered : (fs : List ℕ) (now : Role → Type 0) → AreSorted le fs → ((f : ℕ) → In f fs → In f all) → ((role : Role) → is_open role → now role) → ((g : ℕ) → In g all → In g fs ⊎ ((role : Role) → OneLeadsTo (visits g) role → now role)) → AreOrdered s now (flat_map visits fs)
  rest_ordered [] now sorted within first done = tt
  rest_ordered (f ∷ fs) now sorted within first done =
      let given : (role : Role) → OpenBefore less is_open visits all f role → now role = λ role. ⊎_elim
      (λ a. first role a)
      (λ w. ⊎_elim
      (λ (i : In w.0 (f ∷ fs)). absurd (⊎_elim
      (λ (q : w.0 ≡ f). clash w.0 f w.2 (subst (λ z. le f z) (sym q) (self f)))
      (λ j. clash w.0 f w.2 (sorted.0 w.0 j)) i))
      (λ (o : (role : Role) → OneLeadsTo (visits w.0) role → now role). o role w.3)
      (done w.0 w.1)) in
      let here : AreOrdered s now (visits f) = ordered_more s (OpenBefore less is_open visits all f) now given (visits f) (each f (within f (inl refl))) in
      let later : Role → Type 0 = λ role. now role ⊎ OneLeadsTo (visits f) role in
      ordered_both s now (visits f) (flat_map visits fs) here
      (rest_ordered fs later sorted.1 (λ g i. within g (inr i)) (λ role a. inl (first role a)) (λ g i. ⊎_elim
      (λ (j : In g (f ∷ fs)). ⊎_elim
      (λ (q : g ≡ f). let all_lead : (role : Role) → OneLeadsTo (visits g) role → later role = λ role o. inr (subst (λ z. OneLeadsTo (visits z) role) q o) in inr all_lead)
      (λ u. inl u) j)
      (λ (o : (role : Role) → OneLeadsTo (visits g) role → now role). let all_lead : (role : Role) → OneLeadsTo (visits g) role → later role = λ role w. inl (o role w) in inr all_lead)
      (done g i)))

  pub ordered_in_order : AreSorted le all → AreOrdered s is_open (flat_map visits all)
  ordered_in_order sorted = rest_ordered all is_open sorted (λ f i. i) (λ role a. a) (λ g i. inl i)
