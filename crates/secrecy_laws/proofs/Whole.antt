-- From one step to any number.
use Rattle.std.proofs.Common.{◌≡◌, ℕ, Bool, true, ◌==◌, List, [], ◌∷◌, Option, Some, None, refl, subst, ◌⊎◌, inl, inr, ⊎_elim}
use Rattle.cry_base.specs.Sets.{In, Path, Tells}
use Rattle.cry_base.specs.Sets.Path.{Here, On}
use Rattle.secrecy_laws.specs.States.{State}
use Rattle.role_graph.proofs.Granting.{nat_tells}
use Rattle.secrecy_laws.specs.Holding.{Holds, Opens}
use Rattle.secrecy_laws.specs.Runs.{Turn, state_after, AreSteps, IsOpened, AreOpenedByGain, BringNothing}
use Rattle.secrecy_laws.proofs.Steps.{stays_held, opened_or, reaches, one_value, no_value}

pub all_hold : {R : Type 0} (same : R → R → Bool) → Tells same → (root : R → Bool) (s : State R) (turns : List (Turn R)) → Holds root s → AreSteps root s turns → Holds root (state_after s turns)
unfolding state_after
all_hold same tells root s [] was steps = was
all_hold same tells root s (x ∷ xs) was steps = all_hold same tells root x.after xs (stays_held same tells root s x.move x.after was steps.0 steps.1) steps.2

-- a clean role's present key is opened only where the role is in reach
pub unread : {R : Type 0} (root : R → Bool) (s : State R) → Holds root s → (h r : R) (k : ℕ) → s.key r ≡ Some k → (In r s.dirty → ⊥) → Opens s h k → Path s.edges h r
unread {R} root s was h r k e clean d = go k d.2 (λ t. clean ((was.marked.tainted r k e).0 t)) r (was.once.present r k e)
  where
    go : (k : ℕ) → Path s.links d.0 k → (In k s.tainted → ⊥) → (r : R) → In {X = R × ℕ} (r, k) s.made → Path s.edges h r
    go k Here c r i = subst (λ z. Path s.edges h z) (was.once.own h r d.0 (was.once.present h d.0 d.1) i) Here
    go k (On {b = j} {c = z} way l) c r i =
        let w = was.traced (j, z) l c in
        subst (λ q. Path s.edges h q) (was.once.own w.1.0.1 r z w.1.3 i) (On (go j way w.0 w.1.0.0 w.1.2) w.1.1)

-- whether h opens k is decided
opens_or : {R : Type 0} (s : State R) (h : R) (k : ℕ) → Opens s h k ⊎ (Opens s h k → ⊥)
opens_or {R} s h k = by_key (s.key h) refl
  where
    by_key : (o : Option ℕ) → s.key h ≡ o → Opens s h k ⊎ (Opens s h k → ⊥)
    by_key None e = inr (λ d. no_value (s.key h) d.0 e d.1)
    by_key (Some own) e = ⊎_elim
        (λ way. inl (own, e, way))
        (λ out. inr (λ d. out (subst (λ z. Path s.links z k) (one_value (s.key h) d.0 own d.1 e) d.2)))
        (reaches ◌==◌ nat_tells s.links own k)

-- what h doesn't open at first, and does in the end, it comes to open at some turn
opened : {R : Type 0} (same : R → R → Bool) → Tells same → (root : R → Bool) (s : State R) (turns : List (Turn R)) → Holds root s → AreSteps root s turns
    → (h : R) → root h ≡ true → (r : R) (k : ℕ) → In {X = R × ℕ} (r, k) s.made → (Opens s h k → ⊥) → Opens (state_after s turns) h k → IsOpened h k s turns
unfolding state_after
opened same tells root s [] was steps h t r k i not_yet d = absurd (not_yet d)
opened same tells root s (x ∷ xs) was steps h t r k i not_yet d = ⊎_elim
    (λ now. inl (record {
      not_before = not_yet;
      after = now;
      brought = ⊎_elim (λ a. absurd (not_yet a)) (λ g. g) (opened_or same tells root s x.move x.after was steps.0 steps.1 h t r k i now);
    }))
    (λ still. inr (opened same tells root x.after xs (stays_held same tells root s x.move x.after was steps.0 steps.1) steps.2 h t r k ((steps.0.made (r, k)).1 (inl i)) still d))
    (opens_or x.after h k)

pub opens_by_gain : {R : Type 0} (same : R → R → Bool) → Tells same → (root : R → Bool) (s : State R) (turns : List (Turn R)) → Holds root s → AreSteps root s turns → AreOpenedByGain root s turns
opens_by_gain same tells root s turns was steps h r k t e clean out d =
    opened same tells root s turns was steps h t r k (was.once.present r k e) (λ a. out (unread root s was h r k e clean a)) d

none_opened : {R : Type 0} (h : R) (k : ℕ) (s : State R) (turns : List (Turn R)) → BringNothing h s turns → IsOpened h k s turns → ⊥
none_opened h k s [] none g = g
none_opened h k s (x ∷ xs) none g = ⊎_elim (λ w. none.0 w.brought.0 w.brought.1) (λ u. none_opened h k x.after xs none.1 u) g

pub stays_secret : {R : Type 0} (same : R → R → Bool) → Tells same → (root : R → Bool) (s : State R) (turns : List (Turn R)) → Holds root s → AreSteps root s turns
    → (h r : R) (k : ℕ) → root h ≡ true → s.key r ≡ Some k → (In r s.dirty → ⊥) → (Path s.edges h r → ⊥) → BringNothing h s turns → Opens (state_after s turns) h k → ⊥
stays_secret same tells root s turns was steps h r k t e clean out none d =
    none_opened h k s turns none (opens_by_gain same tells root s turns was steps h r k t e clean out d)
