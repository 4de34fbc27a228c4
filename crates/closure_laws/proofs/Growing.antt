-- What a longer journal published begins with what a shorter one did.
use Rattle.std.proofs.Common.{◌≡◌, ◌≢◌, ℕ, ◌+◌, Bool, not, ◌&&◌, ◌==◌, ◌↔◌, List, [], ◌∷◌, ◌++◌, map, filter, Option, Some, None, IsTrue, inl, refl, sym, ap, ◌∙◌, subst}
use Rattle.std.proofs.lemmas.Bool.{and_parts, and_from, not-true, not_from_false, eqb-false, ne_eqb}
use Rattle.cry_base.specs.Sets.{In, Path, has}
use Rattle.cry_base.specs.Sets.Path.{Here, On}
use Rattle.cry_base.proofs.Members.{In-append, In-map, In-flat_map, In-filter, filter-In}
use Rattle.cry_base.proofs.Reaching.{has-in, in-has}
use Rattle.role_graph.specs.Rights.{Who}
use Rattle.role_graph.proofs.Granting.{nat_tells}
use Rattle.public_fold.specs.KeyStep.{Stepped}
use Rattle.public_fold.specs.Records.{Content}
use Rattle.public_fold.specs.Journal.{Journal, nothing, stand_after, steps_from, steps_of}
use Rattle.public_fold.proofs.Prefixes.{steps_grow}
use Rattle.closure_laws.specs.History.{Published, published_from, history, trails, Derives, derived, own_serial}
use Rattle.closure_laws.specs.Seen.{Sight, sight_of, sights_in, sights_from, seen, IsSeen}
use Rattle.closure_laws.proofs.Gaining.{derived_told}

published-append : (n : ℕ) (xs ys : List Stepped) → (rest : List Published) × (published_from n (xs ++ ys) ≡ published_from n xs ++ rest)
unfolding published_from
published-append n [] ys = (published_from n ys, refl)
published-append n (x ∷ xs) ys =
    let told = published-append (n + 1) xs ys in
    (told.0, ap (λ l. record { batch = n; links = x.links; contents = x.contents } ∷ l) told.1)

pub history_more : (m more : Journal) → (rest : List Published) × (history (m ++ more) ≡ history m ++ rest)
unfolding history
history_more m more =
    let told = published-append 1 (steps_of m) (steps_from (stand_after nothing m) more) in
    (told.0, ap (published_from 1) (steps_grow m more) ∙ told.1)

-- links of batches are links of more batches
trails_more : (h rest : List Published) (q : ℕ × ℕ) → In q (trails h) → In q (trails (h ++ rest))
unfolding trails
trails_more h rest q i =
    let f : Published → List (ℕ × ℕ) = λ p. map (λ l. (l.from_serial, l.to_serial)) p.links in
    let w = (In-flat_map Published (ℕ × ℕ) f q h).0 i in
    (In-flat_map Published (ℕ × ℕ) f q (h ++ rest)).1 (w.0, (In-append Published w.0 h rest).1 (inl w.1), w.2)

path_more : (h rest : List Published) {a b : ℕ} → Path (trails h) a b → Path (trails (h ++ rest)) a b
path_more h rest Here = Here
path_more h rest (On {b = b} {c = c} way step) = On (path_more h rest way) (trails_more h rest (b, c) step)

pub derives_more : (m more : Journal) (a b : ℕ) → Derives (history m) a b → Derives (history (m ++ more)) a b
derives_more m more a b way =
    let told = history_more m more in subst (λ h. Derives h a b) (sym told.1) (path_more (history m) told.0 way)

-- the test on a content
passes : (h : List Published) (a : ℕ) (c : Content) → IsTrue (not (c.piece.kind == 3) && has ◌==◌ (derived h a) c.key_serial) ↔ ((c.piece.kind ≢ 3) × Derives h a c.key_serial)
passes h a c = (
  λ t. let both = and_parts (not (c.piece.kind == 3)) (has ◌==◌ (derived h a) c.key_serial) t in
      (eqb-false c.piece.kind 3 (not-true (c.piece.kind == 3) both.0), (derived_told h a c.key_serial).0 (has-in ℕ ◌==◌ nat_tells (derived h a) c.key_serial both.1)),
  λ w. and_from (not (c.piece.kind == 3)) (has ◌==◌ (derived h a) c.key_serial) (not_from_false (c.piece.kind == 3) (ne_eqb c.piece.kind 3 w.0))
      (in-has ℕ ◌==◌ nat_tells (derived h a) c.key_serial ((derived_told h a c.key_serial).1 w.1)),
)

sights_told : (h : List Published) (a : ℕ) (x : Sight) → In x (sights_from h (Some a)) ↔ ((p : Published) × In p h × ((c : Content) × In c p.contents × (x ≡ sight_of p.batch c) × (c.piece.kind ≢ 3) × Derives h a c.key_serial))
unfolding sights_from sights_in
sights_told h a x =
    let test : Content → Bool = λ c. not (c.piece.kind == 3) && has ◌==◌ (derived h a) c.key_serial in
    let each = In-flat_map Published Sight (sights_in (derived h a)) x h in (
      λ i. let w = each.0 i in
          let v = (In-map Content Sight (sight_of w.0.batch) x (filter test w.0.contents)).0 w.2 in
          let u = In-filter Content test v.0 w.0.contents v.1 in
          let t = (passes h a v.0).0 u.1 in
          (w.0, w.1, (v.0, u.0, v.2, t.0, t.1)),
      λ w. let c = w.2.0 in each.1 (
        w.0,
        w.1,
        (In-map Content Sight (sight_of w.0.batch) x (filter test w.0.contents)).1
            (c, filter-In Content test c w.0.contents w.2.1 ((passes h a c).1 (w.2.3, w.2.4)), w.2.2),
      ),
    )

seen_by : (m : Journal) (who : Who) (o : Option ℕ) → own_serial m who ≡ o → (x : Sight) → In x (sights_from (history m) o) ↔ IsSeen m who x
seen_by m who None e x = (
  λ i. absurd (unfold sights_from in i),
  λ w. let own = w.2.4 in let s : own_serial m who ≡ Some own.0 = own.1 in absurd cc,
)
seen_by m who (Some a) e x = (
  λ i. let w = (sights_told (history m) a x).0 i in (w.0, w.1, (w.2.0, w.2.1, w.2.2, w.2.3, (a, e, w.2.4))),
  λ w. let own = w.2.4 in let s : own_serial m who ≡ Some own.0 = own.1 in let same : own.0 ≡ a = cc in
      (sights_told (history m) a x).1 (w.0, w.1, (w.2.0, w.2.1, w.2.2, w.2.3, subst (λ z. Derives (history m) z w.2.0.key_serial) same own.2)),
)

pub seen_told : (m : Journal) (who : Who) (x : Sight) → In x (seen m who) ↔ IsSeen m who x
unfolding seen
seen_told m who x = seen_by m who (own_serial m who) refl x
