-- What is computed of the gains that open a content is what is said of them.
use Rattle.std.proofs.Common.{◌≡◌, ℕ, Bool, not, ◌&&◌, ◌==◌, ◌↔◌, List, [], ◌∷◌, ◌++◌, Option, Some, None, IsTrue, inl, inr, ⊎_elim, refl, sym, ◌∙◌}
use Rattle.std.specs.Prelude.{is_some}
use Rattle.std.specs.List.{list_any}
use Rattle.std.proofs.lemmas.Bool.{or_cases, or_left, or_right, and_parts, and_from, false≢true, not-true, not_from_false, false_from_ne_true}
use Rattle.cry_base.specs.Sets.{In, has, Tells}
use Rattle.cry_base.specs.declared.roles.Role.{Role}
use Rattle.cry_base.proofs.Members.{In-any}
use Rattle.cry_base.proofs.Reaching.{has-in, in-has}
use Rattle.role_graph.specs.Edges.{Reaches, edges, reach_along}
use Rattle.role_graph.specs.Rights.Who.{TheHolder}
use Rattle.role_graph.specs.Roles.{holder_role, same_role}
use Rattle.role_graph.proofs.Comparing.{reach_one, same_role_tells}
use Rattle.role_graph.proofs.Granting.{nat_tells}
use Rattle.public_fold.specs.Journal.{Entry, Journal, nothing, keys_of, stand_after, store_of}
use Rattle.public_fold.specs.KeyStep.{newest}
use Rattle.public_fold.specs.Records.{Content}
use Rattle.closure_laws.specs.Gains.{gains}
use Rattle.closure_laws.specs.History.{Derives, history, own_serial}
use Rattle.closure_laws.specs.Secrecy.{known_to}
use Rattle.closure_laws.proofs.Gaining.{gains_told}
use Rattle.secrecy_laws.specs.Revocation.{IsBrought, OpensContent, GainOpens, brings_role, opens_content, gain_opens}
use Rattle.secrecy_laws.proofs.Computed.{known_told}

-- both tests, and one that doesn't pass
both_say : (a b : Bool) (P Q : Type 0) → IsTrue a ↔ P → IsTrue b ↔ Q → IsTrue (a && b) ↔ (P × Q)
both_say a b P Q p q = (
  λ t. let w = and_parts a b t in (p.0 w.0, q.0 w.1),
  λ w. and_from a b (p.1 w.0) (q.1 w.1),
)

not_says : (a : Bool) (P : Type 0) → IsTrue a ↔ P → IsTrue (not a) ↔ (P → ⊥)
not_says a P p = (
  λ t h. false≢true (sym (not-true a t) ∙ p.1 h),
  λ n. not_from_false a (false_from_ne_true a (λ t. n (p.0 t))),
)

has_says : {X : Type 0} (same : X → X → Bool) → Tells same → (xs : List X) (x : X) → IsTrue (has same xs x) ↔ In x xs
has_says {X} same tells xs x = (has-in X same tells xs x, in-has X same tells xs x)

some_says : (o : Option ℕ) → IsTrue (is_some o) ↔ ((j : ℕ) × (o ≡ Some j))
some_says None = (λ t. absurd (false≢true t), λ w. let none : None ≡ Some w.0 = w.1 in absurd cc)
some_says (Some j) = (λ t. (j, refl), λ w. refl)

then_says : (b : Bool) (P Q : Type 0) → IsTrue b ↔ P → P ↔ Q → IsTrue b ↔ Q
then_says b P Q p q = (λ t. q.0 (p.0 t), λ w. p.1 (q.1 w))

known_says : (m : Journal) (k : ℕ) (o : Option ℕ) → IsTrue (has ◌==◌ (known_to m o) k) ↔ ((a : ℕ) × (o ≡ Some a) × Derives (history m) a k)
known_says m k o = then_says _ _ _ (has_says ◌==◌ nat_tells (known_to m o) k) (known_told m k o)

reached_says : (m : Journal) (h : ℕ) (r : Role) → IsTrue (has same_role (reach_along (edges (store_of m)) (holder_role h ∷ [])) r) ↔ Reaches (edges (store_of m)) (holder_role h) r
reached_says m h r = then_says _ _ _ (has_says same_role same_role_tells (reach_along (edges (store_of m)) (holder_role h ∷ [])) r) (reach_one (edges (store_of m)) (holder_role h) r)

-- which role is brought
abbrev LeadsOut : Journal → Journal → ℕ → ℕ → Role → Type 0
LeadsOut before after h k r = (((j : ℕ) × (newest (keys_of before).keys r ≡ Some j)) × (Reaches (edges (store_of before)) (holder_role h) r → ⊥))
    × ((j : ℕ) × (newest (keys_of after).keys r ≡ Some j) × Derives (history after) j k)

role_says : (before after : Journal) (h k : ℕ) (r : Role) → IsTrue (brings_role before after h k r) ↔ LeadsOut before after h k r
unfolding brings_role
role_says before after h k r =
    both_say _ _ _ _
    (both_say _ _ _ _ (some_says (newest (keys_of before).keys r)) (not_says _ _ (reached_says before h r)))
    (known_says after k (newest (keys_of after).keys r))

brought_says : (before after : Journal) (h k : ℕ) → IsTrue (list_any (brings_role before after h k) (reach_along (edges (store_of after)) (holder_role h ∷ []))) ↔ ((r : Role) × IsBrought before after h k r)
brought_says before after h k =
    let reached = reach_along (edges (store_of after)) (holder_role h ∷ []) in
    then_says _ _ _ (In-any Role (brings_role before after h k) (LeadsOut before after h k) (role_says before after h k) reached) (
      λ w. (w.0, record { stood = w.2.0.0; was_out = w.2.0.1; reached = (reach_one (edges (store_of after)) (holder_role h) w.0).0 w.1; leads = w.2.1 }),
      λ w. let b = w.1 in (w.0, (reach_one (edges (store_of after)) (holder_role h) w.0).1 b.reached, ((b.stood, b.was_out), b.leads)),
    )

-- whether an entry opens a content, and whether one of some does
content_says : (before : Journal) (entry : Entry) (h : ℕ) (c : Content)
    → IsTrue (opens_content before (before ++ entry ∷ []) (gains (stand_after nothing before) entry h) h c.key_serial) ↔ OpensContent before entry h c
unfolding opens_content
content_says before entry h c =
    let after = before ++ entry ∷ [] in
    let told = both_say _ _ _ _
    (both_say _ _ _ _
    (both_say _ _ _ _ (gains_told (stand_after nothing before) entry h) (not_says _ _ (known_says before c.key_serial (own_serial before (TheHolder h)))))
    (known_says after c.key_serial (own_serial after (TheHolder h))))
    (brought_says before after h c.key_serial) in (
      λ t. let w = told.0 t in record { gain = w.0.0.0; not_before = w.0.0.1; after = w.0.1; brought = w.1 },
      λ w. told.1 (((w.gain, w.not_before), w.after), w.brought),
    )

pub opening_told : (entries : List Entry) (before : Journal) (h : ℕ) (c : Content) → IsTrue (gain_opens before entries h c) ↔ GainOpens before entries h c
unfolding gain_opens
opening_told [] before h c = (λ t. false≢true t, λ n. absurd n)
opening_told (entry ∷ entries) before h c =
    let after = before ++ entry ∷ [] in
    let one = content_says before entry h c in
    let rest = opening_told entries after h c in
    let a = opens_content before after (gains (stand_after nothing before) entry h) h c.key_serial in
    let b = gain_opens after entries h c in (
      λ t. ⊎_elim (λ u. inl (one.0 u)) (λ u. inr (rest.0 u)) (or_cases a b t),
      λ g. ⊎_elim (λ u. or_left a b (one.1 u)) (λ u. or_right a b (rest.1 u)) g,
    )
