-- The way up from a folder: how long it is, and that no more folders are on it than there are.
use Rattle.std.proofs.Common.{◌≡◌, ◌≢◌, ℕ, zero, suc, ◌<◌, ◌≤◌, Bool, true, false, cond, not, ◌==◌, List, [], ◌∷◌, length, filter, find, Option, Some, None, refl, sym, ap, ◌∙◌, subst, arith}
use Rattle.std.proofs.lemmas.Bool.{eqb-true, ne_eqb}
use Rattle.cry_base.specs.Store.{FolderEntry, and_above, way_up}

-- the folder with the number
abbrev pub at : List FolderEntry → ℕ → Option FolderEntry
at xs f = find (λ e. e.id == f) xs

-- the way up from f has exactly n folders
abbrev pub Rises : List FolderEntry → ℕ → ℕ → Type 0
Rises xs zero f = at xs f ≡ None
Rises xs (suc n) f = (e : FolderEntry) × (at xs f ≡ Some e) × Rises xs n e.parent

-- what is found has the number
pub at_id : (xs : List FolderEntry) (f : ℕ) (e : FolderEntry) → at xs f ≡ Some e → e.id ≡ f
at_id [] f e p = absurd (cc)
at_id (x ∷ xs) f e p =
    (elim (x.id == f) as (λ t. x.id == f ≡ t → cond t (Some x) (at xs f) ≡ Some e → e.id ≡ f) [
      | true ↦ λ t q. let same : x ≡ e = cc in ap (λ (z : FolderEntry). z.id) (sym same) ∙ eqb-true x.id f t
      | false ↦ λ t q. at_id xs f e q
    ]) refl p

pub way_none : (xs : List FolderEntry) (k f : ℕ) → at xs f ≡ None → way_up k xs f ≡ []
unfolding way_up and_above
way_none xs zero f p = refl
way_none xs (suc k) f p = ap (λ (o : Option FolderEntry). and_above o (λ e. way_up k xs e.parent)) p

pub way_some : (xs : List FolderEntry) (k f : ℕ) (e : FolderEntry) → at xs f ≡ Some e → way_up (suc k) xs f ≡ e ∷ way_up k xs e.parent
unfolding way_up and_above
way_some xs k f e p = ap (λ (o : Option FolderEntry). and_above o (λ e. way_up k xs e.parent)) p

pub rises_same : (xs : List FolderEntry) (n m f : ℕ) → Rises xs n f → Rises xs m f → n ≡ m
rises_same xs zero zero f a b = refl
rises_same xs zero (suc m) f a b = absurd (cc)
rises_same xs (suc n) zero f a b = absurd (cc)
rises_same xs (suc n) (suc m) f a b =
    let same : b.0 ≡ a.0 = cc in
    ap (λ k. suc k) (rises_same xs n m a.0.parent a.2 (subst (λ (z : FolderEntry). Rises xs m z.parent) same b.2))

-- with fuel enough the way is whole
pub rises_way : (xs : List FolderEntry) (n k f : ℕ) → Rises xs n f → n ≤ k → length (way_up k xs f) ≡ n
rises_way xs zero k f r h = ap length (way_none xs k f r)
rises_way xs (suc n) zero f r h = absurd (omega arith)
rises_way xs (suc n) (suc k) f r h =
    let le : n ≤ k = omega (arith, h) in
    ap length (way_some xs k f r.0 r.1) ∙ ap (λ j. suc j) (rises_way xs n k r.0.parent r.2 le)

-- and more fuel changes nothing
pub rises_fuel : (xs : List FolderEntry) (n k j f : ℕ) → Rises xs n f → n ≤ k → n ≤ j → way_up k xs f ≡ way_up j xs f
rises_fuel xs zero k j f r h i = way_none xs k f r ∙ sym (way_none xs j f r)
rises_fuel xs (suc n) zero j f r h i = absurd (omega (arith, h))
rises_fuel xs (suc n) (suc k) zero f r h i = absurd (omega (arith, i))
rises_fuel xs (suc n) (suc k) (suc j) f r h i =
    let le : n ≤ k = omega (arith, h) in
    let li : n ≤ j = omega (arith, i) in
    way_some xs k f r.0 r.1 ∙ ap (λ l. r.0 ∷ l) (rises_fuel xs n k j r.0.parent r.2 le li) ∙ sym (way_some xs j f r.0 r.1)

-- a way that leaves fuel is whole
pub way_rises : (xs : List FolderEntry) (k f : ℕ) → length (way_up (suc k) xs f) ≤ k → (n : ℕ) × (n ≤ k) × Rises xs n f
way_rises xs zero f h =
    (elim (at xs f) as (λ o. at xs f ≡ o → (n : ℕ) × (n ≤ 0) × Rises xs n f) [
      | None ↦ λ p. (0, omega arith, p)
      | Some e ↦ λ p. absurd (let long : length (e ∷ way_up 0 xs e.parent) ≤ 0 = subst (λ l. length l ≤ 0) (way_some xs 0 f e p) h in omega (arith, long))
    ]) refl
way_rises xs (suc k) f h =
    (elim (at xs f) as (λ o. at xs f ≡ o → (n : ℕ) × (n ≤ suc k) × Rises xs n f) [
      | None ↦ λ p. (0, omega arith, p)
      | Some e ↦ λ p.
          let long : length (e ∷ way_up (suc k) xs e.parent) ≤ suc k = subst (λ l. length l ≤ suc k) (way_some xs (suc k) f e p) h in
          let less : length (way_up (suc k) xs e.parent) ≤ k = omega (arith, long) in
          let w = way_rises xs k e.parent less in
          (suc w.0, omega (arith, w.1), (e, p, w.2))
    ]) refl

-- the folders but the one
abbrev pub others : List FolderEntry → ℕ → List FolderEntry
others xs f = filter (λ e. not (e.id == f)) xs

pub at_others : (xs : List FolderEntry) (f g : ℕ) → g ≢ f → at (others xs f) g ≡ at xs g
at_others [] f g ne = refl
at_others (x ∷ xs) f g ne =
    (elim (x.id == f) as (λ t. x.id == f ≡ t → at (cond (not t) (x ∷ others xs f) (others xs f)) g ≡ cond (x.id == g) (Some x) (at xs g)) [
      | true ↦ λ t.
          let apart : x.id == g ≡ false = ne_eqb x.id g (λ e. ne (sym e ∙ eqb-true x.id f t)) in
          at_others xs f g ne ∙ sym (ap (λ (b : Bool). cond b (Some x) (at xs g)) apart)
      | false ↦ λ t. ap (λ (o : Option FolderEntry). cond (x.id == g) (Some x) o) (at_others xs f g ne)
    ]) refl

pub at_itself : (xs : List FolderEntry) (f : ℕ) → at (others xs f) f ≡ None
at_itself [] f = refl
at_itself (x ∷ xs) f =
    (elim (x.id == f) as (λ t. x.id == f ≡ t → at (cond (not t) (x ∷ others xs f) (others xs f)) f ≡ None) [
      | true ↦ λ t. at_itself xs f
      | false ↦ λ t. ap (λ (b : Bool). cond b (Some x) (at (others xs f) f)) t ∙ at_itself xs f
    ]) refl

others_fewer : (xs : List FolderEntry) (f : ℕ) → length (others xs f) ≤ length xs
others_fewer [] f = omega arith
others_fewer (x ∷ xs) f =
    elim (x.id == f) as (λ t. length (cond (not t) (x ∷ others xs f) (others xs f)) ≤ length (x ∷ xs)) [
      | true ↦ omega (arith, others_fewer xs f)
      | false ↦ omega (arith, others_fewer xs f)
    ]

others_less : (xs : List FolderEntry) (f : ℕ) (e : FolderEntry) → at xs f ≡ Some e → length (others xs f) < length xs
others_less [] f e p = absurd (cc)
others_less (x ∷ xs) f e p =
    (elim (x.id == f) as (λ t. cond t (Some x) (at xs f) ≡ Some e → length (cond (not t) (x ∷ others xs f) (others xs f)) < length (x ∷ xs)) [
      | true ↦ λ q. omega (arith, others_fewer xs f)
      | false ↦ λ q. omega (arith, others_less xs f e q)
    ]) p

-- a way that is shorter than that of f begins elsewhere, and doesn't meet f
apart_below : (xs : List FolderEntry) (n f : ℕ) → Rises xs n f → (m g : ℕ) → m < n → Rises xs m g → g ≢ f
apart_below xs n f r m g h s = λ e. let same : m ≡ n = rises_same xs m n f (subst (λ z. Rises xs m z) e s) r in omega (arith, h, same)

rises_others : (xs : List FolderEntry) (n f : ℕ) → Rises xs n f → (m g : ℕ) → m < n → Rises xs m g → Rises (others xs f) m g
rises_others xs n f r zero g h s = at_others xs f g (apart_below xs n f r zero g h s) ∙ s
rises_others xs n f r (suc m) g h s = (s.0, at_others xs f g (apart_below xs n f r (suc m) g h s) ∙ s.1, rises_others xs n f r m s.0.parent (omega (arith, h)) s.2)

-- a way has at most as many folders as there are
pub rises_few : (n : ℕ) (xs : List FolderEntry) (f : ℕ) → Rises xs n f → n ≤ length xs
rises_few zero xs f r = omega arith
rises_few (suc n) xs f r =
    let less : length (others xs f) < length xs = others_less xs f r.0 r.1 in
    let le : n ≤ length (others xs f) = rises_few n (others xs f) r.0.parent (rises_others xs (suc n) f r n r.0.parent (omega arith) r.2) in
    omega (arith, less, le)

-- where two lists agree on all that the way meets, it is the same in both
pub rises_like : (xs ys : List FolderEntry) (P : ℕ → Type 0) → ((g : ℕ) → P g → at ys g ≡ at xs g) → ((g : ℕ) (e : FolderEntry) → P g → at xs g ≡ Some e → P e.parent) → (n f : ℕ) → P f → Rises xs n f → Rises ys n f
rises_like xs ys P same on zero f p r = same f p ∙ r
rises_like xs ys P same on (suc n) f p r = (r.0, same f p ∙ r.1, rises_like xs ys P same on n r.0.parent (on f r.0 p r.1) r.2)
