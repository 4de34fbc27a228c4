-- What a walk along the rows of a table keeps, and where it ends.
use Rattle.std.proofs.Common.{◌≡◌, ℕ, zero, suc, ◌+◌, ◌<◌, ◌≤◌, Bool, true, false, ◌⊎◌, ◌↔◌, List, [], ◌∷◌, length, take, get_or, set, refl, sym, ap, ◌∙◌, subst, inl, inr, ⊎_elim, arith, ◌==◌}
use Rattle.std.proofs.lemmas.Bool.{false≢true, eqb-true, eqb-false}
use Rattle.std.proofs.lemmas.List.{take_more, take_all, get_or-set_other, length-set}
use Rattle.cry_base.specs.Sets.{In, Path}
use Rattle.cry_base.specs.Sets.Path.{Here, On}
use Rattle.cry_base.proofs.Members.{In-append, In-map}
use Rattle.kind_table.specs.Kinds.{place_of}
use Rattle.kind_table.specs.Reached.{Begins, Holds, IsClosed, IsLedTo, holds, size, with_kind}
use Rattle.kind_table.specs.Rows.{Leads, pairs_of}
use Rattle.kind_table.specs.declared.kinds.RoleKind.{RoleKind}
use Rattle.kind_table.specs.declared.table.Row.{Row}
use Rattle.kind_table.proofs.Joining.{place_of-below, same_place}

-- what a set with one kind more holds
holds_with : (set : List Bool) (more kind : RoleKind) → Holds (with_kind set more) kind → (kind ≡ more) ⊎ Holds set kind
holds_with set more kind h =
    (elim (place_of kind == place_of more) as (λ b. place_of kind == place_of more ≡ b → (kind ≡ more) ⊎ Holds set kind) [
      | true ↦ λ t. inl (same_place kind more (eqb-true (place_of kind) (place_of more) t))
      | false ↦ λ t. inr (sym (get_or-set_other set (place_of more) (place_of kind) true false (eqb-false (place_of kind) (place_of more) t)) ∙ h)
    ]) refl

size-set : (bits : List Bool) (i : ℕ) → i < length bits → get_or bits i false ≡ false → size (set bits i true) ≡ size bits + 1
unfolding size
size-set [] i within new = omega arith
size-set (true ∷ bits) zero within new = absurd (false≢true (sym new))
size-set (false ∷ bits) zero within new = refl
size-set (true ∷ bits) (suc i) within new = ap (λ n. n + 1) (size-set bits i (omega arith) new)
size-set (false ∷ bits) (suc i) within new = size-set bits i (omega arith) new

size_with : (set : List Bool) (more : RoleKind) → place_of more < length set → holds set more ≡ false → size (with_kind set more) ≡ size set + 1
size_with set more within new = size-set set (place_of more) within new

pub size-le-length : (bits : List Bool) → size bits ≤ length bits
unfolding size
size-le-length [] = omega arith
size-le-length (true ∷ bits) = omega (arith, size-le-length bits)
size-le-length (false ∷ bits) = omega (arith, size-le-length bits)

-- a row goes on from where a walk has come
led_on : (rows : List Row) (a : RoleKind) (set : List Bool) (r : Row) → IsLedTo rows a set → In r rows → Begins a set r → Leads rows a r.to
unfolding pairs_of
led_on rows a set r led here begins = ⊎_elim
    (λ (e : r.from ≡ a). (r, here, subst (λ c. Path (pairs_of rows) a c) (sym e) Here, refl))
    (λ h.
    let last = led r.from h in
    let pair : In {X = RoleKind × RoleKind} (last.0.from, last.0.to) (pairs_of rows) =
    (In-map Row (RoleKind × RoleKind) (λ q. (q.from, q.to)) (last.0.from, last.0.to) rows).1 (last.0, last.1, refl)
    in
    (r, here, subst (λ c. Path (pairs_of rows) a c) last.3 (On last.2 pair), refl))
    begins

pub led_with : (rows : List Row) (a : RoleKind) (set : List Bool) (r : Row) → IsLedTo rows a set → In r rows → Begins a set r → IsLedTo rows a (with_kind set r.to)
led_with rows a set r led here begins kind h = ⊎_elim
    (λ (e : kind ≡ r.to). subst (λ c. Leads rows a c) (sym e) (led_on rows a set r led here begins))
    (λ old. led kind old)
    (holds_with set r.to kind h)

-- where no row leads on, all that rows lead to is reached
came : (rows : List Row) (a : RoleKind) (set : List Bool) → IsClosed rows a set → (c : RoleKind) → Path (pairs_of rows) a c → (c ≡ a) ⊎ Holds set c
unfolding pairs_of
came rows a set closed _ Here = inl refl
came rows a set closed _ (On {b = b} {c = c} way step) =
    let w = (In-map Row (RoleKind × RoleKind) (λ q. (q.from, q.to)) (b, c) rows).0 step in
    let from : w.0.from ≡ b = ap (λ (q : RoleKind × RoleKind). q.0) (sym w.2) in
    let to : w.0.to ≡ c = ap (λ (q : RoleKind × RoleKind). q.1) (sym w.2) in
    let before : Begins a set w.0 = ⊎_elim (λ (e : b ≡ a). inl (from ∙ e)) (λ h. inr (subst (Holds set) (sym from) h)) (came rows a set closed b way) in
    inr (subst (Holds set) to (closed w.0 w.1 before))

pub closed_holds : (rows : List Row) (a : RoleKind) (set : List Bool) → IsClosed rows a set → (b : RoleKind) → Leads rows a b → Holds set b
closed_holds rows a set closed b led = subst (Holds set) led.3 (closed led.0 led.1 (came rows a set closed led.0.from led.2))

pub leads_told : (rows : List Row) (a : RoleKind) (set : List Bool) → IsLedTo rows a set → IsClosed rows a set → (b : RoleKind) → Holds set b ↔ Leads rows a b
leads_told rows a set led closed b = (led b, closed_holds rows a set closed b)

-- what a pass over the rows has done before row i
pub record Walked (rows : List Row) (a : RoleKind) (i : ℕ) (old now : List Bool) (grew : Bool) : Type 0 where
  pub long : length now ≡ 8
  pub led_to : IsLedTo rows a old → IsLedTo rows a now
  pub same : grew ≡ false → now ≡ old
  pub done : grew ≡ false → (r : Row) → In r (take i rows) → Begins a old r → Holds old r.to
  pub grown : grew ≡ true → size old < size now

pub walked_none : (rows : List Row) (a : RoleKind) (set : List Bool) → length set ≡ 8 → Walked rows a 0 set set false
walked_none rows a set long = record {
  long = long;
  led_to = λ led. led;
  same = λ _. refl;
  done = λ _ r here. absurd here;
  grown = λ t. absurd (false≢true t);
}

In-take : (X : Type 0) (n : ℕ) (xs : List X) (x : X) → In x (take n xs) → In x xs
In-take X zero xs x here = absurd here
In-take X (suc n) [] x here = absurd here
In-take X (suc n) (y ∷ ys) x here = ⊎_elim (λ e. inl e) (λ others. inr (In-take X n ys x others)) here

In-get_or : (X : Type 0) (xs : List X) (i : ℕ) (d : X) → i < length xs → In (get_or xs i d) xs
In-get_or X xs i d within =
    let here = (In-append X (get_or xs i d) (take i xs) (get_or xs i d ∷ [])).1 (inr (inl refl)) in
    In-take X (i + 1) xs (get_or xs i d) (subst (λ ys. In (get_or xs i d) ys) (sym (take_more xs i d within)) here)

in_more : (rows : List Row) (i : ℕ) (d r : Row) → i < length rows → In r (take (i + 1) rows) → In r (take i rows) ⊎ (r ≡ get_or rows i d)
in_more rows i d r within here =
    ⊎_elim (λ before. inl before) (λ last. ⊎_elim (λ e. inr e) (λ none. absurd none) last)
    ((In-append Row r (take i rows) (get_or rows i d ∷ [])).0 (subst (λ ys. In r ys) (take_more rows i d within) here))

-- a row that adds nothing
pub walked_kept : (rows : List Row) (a : RoleKind) (i : ℕ) (old now next : List Bool) (grew : Bool) (d : Row) → Walked rows a i old now grew → i < length rows → next ≡ now → (Begins a now (get_or rows i d) → Holds now (get_or rows i d).to) → Walked rows a (i + 1) old next grew
walked_kept rows a i old now next grew d walked within kept passed = record {
  long = ap length kept ∙ walked.long;
  led_to = λ led. subst (IsLedTo rows a) (sym kept) (walked.led_to led);
  same = λ t. kept ∙ walked.same t;
  done = λ t q here. ⊎_elim
      (λ before. walked.done t q before)
      (λ (e : q ≡ get_or rows i d).
      subst (λ (z : Row). Begins a old z → Holds old z.to) (sym e)
      (subst (λ z. Begins a z (get_or rows i d) → Holds z (get_or rows i d).to) (walked.same t) passed))
      (in_more rows i d q within here);
  grown = λ t. subst (λ z. size old < size z) (sym kept) (walked.grown t);
}

-- a row that adds its end
pub walked_more : (rows : List Row) (a : RoleKind) (i : ℕ) (old now next : List Bool) (grew : Bool) (d : Row) → Walked rows a i old now grew → i < length rows → next ≡ with_kind now (get_or rows i d).to → Begins a now (get_or rows i d) → holds now (get_or rows i d).to ≡ false → Walked rows a (i + 1) old next true
walked_more rows a i old now next grew d walked within added begins new =
    let r : Row = get_or rows i d in
    let within_set : place_of r.to < length now = omega (arith, walked.long, place_of-below r.to) in
    let more : size next ≡ size now + 1 = ap size added ∙ size_with now r.to within_set new in
    record {
      long = ap length added ∙ (length-set now (place_of r.to) true ∙ walked.long);
      led_to = λ led. subst (IsLedTo rows a) (sym added) (led_with rows a now r (walked.led_to led) (In-get_or Row rows i d within) begins);
      same = λ t. absurd (false≢true (sym t));
      done = λ t. absurd (false≢true (sym t));
      grown = λ _. (elim grew as (λ g. grew ≡ g → size old < size next) [
        | true ↦ λ t. omega (arith, more, walked.grown t)
        | false ↦ λ t. omega (arith, more, ap size (walked.same t))
      ]) refl;
    }

pub walked_all : (rows : List Row) (a : RoleKind) (i : ℕ) (old now : List Bool) → Walked rows a i old now false → length rows ≤ i → IsClosed rows a now
walked_all rows a i old now walked all r here begins =
    subst (λ z. Holds z r.to) (sym (walked.same refl))
    (walked.done refl r (subst (λ ys. In r ys) (sym (take_all i rows all)) here) (subst (λ z. Begins a z r) (walked.same refl) begins))
