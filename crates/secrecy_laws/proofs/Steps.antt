-- Each step keeps what holds of keys, and opens no older key but by a role that it brings into reach.
use Rattle.std.proofs.Common.{◌≡◌, ℕ, Bool, true, List, [], ◌∷◌, Option, Some, None, refl, sym, ap, ◌∙◌, subst, ◌⊎◌, inl, inr, ⊎_elim, ◌↔◌}
use Rattle.std.proofs.lemmas.Bool.{false≢true, cases_Bool}
use Rattle.cry_base.specs.Sets.{In, Path, Tells, has, reach}
use Rattle.cry_base.specs.Sets.Path.{Here, On}
use Rattle.cry_base.proofs.Reaching.{has-in, in-has, Path-on, reach_told}
use Rattle.secrecy_laws.specs.States.{State, Move, IsTouched, IsPublished, IsStep, Fits}
use Rattle.secrecy_laws.specs.Holding.{AreMarked, AreMadeOnce, AreTraced, AreLinked, Holds, Opens, Brings}

-- whether x is among them is decided
pub member : {X : Type 0} (same : X → X → Bool) → Tells same → (x : X) (xs : List X) → In x xs ⊎ (In x xs → ⊥)
member {X} same tells x xs = ⊎_elim
    (λ t. inl (has-in X same tells xs x t))
    (λ f. inr (λ i. false≢true (sym f ∙ in-has X same tells xs x i)))
    (cases_Bool (has same xs x))

-- and so is whether there is a way
pub reaches : {X : Type 0} (same : X → X → Bool) → Tells same → (pairs : List (X × X)) (a b : X) → Path pairs a b ⊎ (Path pairs a b → ⊥)
reaches {X} same tells pairs a b =
    let told = reach_told X same tells pairs (a ∷ []) b in ⊎_elim
    (λ i. let w = told.0 i in inl (⊎_elim (λ e. subst (λ z. Path pairs z b) e w.2) (λ n. absurd n) w.1))
    (λ out. inr (λ way. out (told.1 (a, inl refl, way))))
    (member same tells b (reach same pairs (a ∷ [])))

-- a way is empty, or has a first pair
pub first_pair : {X : Type 0} {pairs : List (X × X)} {a b : X} → Path pairs a b → (b ≡ a) ⊎ ((z : X) × In {X = X × X} (a, z) pairs)
first_pair Here = inl refl
first_pair {X} {pairs} {a} (On {b = b} {c = c} way i) = ⊎_elim
    (λ e. inr (c, subst (λ z. In {X = X × X} (z, c) pairs) e i))
    (λ w. inr w)
    (first_pair way)

-- an option has one value
pub one_value : (o : Option ℕ) (j k : ℕ) → o ≡ Some j → o ≡ Some k → j ≡ k
one_value o j k a b = cc

pub no_value : (o : Option ℕ) (k : ℕ) → o ≡ None → o ≡ Some k → ⊥
no_value o k a b = absurd cc

module _ {R : Type 0} (same : R → R → Bool) (tells : Tells same) (root : R → Bool) (old : State R) (m : Move R) (new : State R) (was : Holds root old) (step : IsStep old m new) (fits : Fits root old m new) where
  touched_or : (r : R) → IsTouched m r ⊎ (IsTouched m r → ⊥)
  touched_or r = ⊎_elim
      (λ i. inl (inl i))
      (λ n. ⊎_elim (λ i. inl (inr i)) (λ k. inr (λ t. ⊎_elim n k t)) (member same tells r m.fresh))
      (member same tells r m.renewed)

  -- a present key was given now, or was there
  pub key_from : (r : R) (k : ℕ) → new.key r ≡ Some k → (IsTouched m r × In {X = R × ℕ} (r, k) m.given) ⊎ ((old.key r ≡ Some k) × (In r m.gone → ⊥) × (IsTouched m r → ⊥))
  key_from r k e = ⊎_elim
      (λ t. let w = step.new_key r t in inl (t, subst (λ z. In {X = R × ℕ} (r, z) m.given) (one_value (new.key r) w.0 k w.1 e) w.2))
      (λ out. ⊎_elim
      (λ g. absurd (no_value (new.key r) k (step.no_key r out g) e))
      (λ stays. inr (sym (step.same_key r out stays) ∙ e, stays, out))
      (member same tells r m.gone))
      (touched_or r)

  fresh_had : (r : R) (k : ℕ) → In r m.fresh → old.key r ≡ Some k → ⊥
  fresh_had r k f e = no_value (old.key r) k (fits.fresh_had_none r f) e

  target_marked : (e : R × R) → In e m.removed → In e.1 m.marked
  target_marked e h = (step.marked e.1).1 (e, h, Here)

  marked_on : (e : R × R) → In e old.edges → In e.0 m.marked → In e.1 m.marked
  marked_on e i h = let w = (step.marked e.0).0 h in (step.marked e.1).1 (w.0, w.1, On w.2 i)

  ends_no_root : (a r : R) → Path old.edges a r → (root a ≡ true → ⊥) → root r ≡ true → ⊥
  ends_no_root a r Here first = first
  ends_no_root a r (On {b = b} {c = c} way i) first = λ t. was.marked.none_into_roots (b, c) i t

  no_root_marked : (r : R) → In r m.marked → root r ≡ true → ⊥
  no_root_marked r h t = let w = (step.marked r).0 h in ends_no_root w.0.1 r w.2 (λ u. was.marked.none_into_roots w.0 (step.removed_stood w.0 w.1) u) t

  target_old : (e : R × R) → In e m.left → In e.1 m.fresh → ⊥
  target_old e l f = let w = was.linked e (step.left_stood e l) in fresh_had e.1 w.0.1 f w.3

  dirty_on : (e : R × R) → In e old.edges → In e.0 old.dirty ⊎ In e.0 m.marked → In e.1 old.dirty ⊎ In e.1 m.marked
  dirty_on e i d = ⊎_elim (λ o. inl (was.marked.closed e i o)) (λ k. inr (marked_on e i k)) d

  new_closed : (e : R × R) → In e new.edges → In e.0 new.dirty → In e.1 new.dirty
  new_closed e i d = ⊎_elim
      (λ l. let w = (step.dirty e.0).0 d in
      (step.dirty e.1).1 (
        dirty_on e (step.left_stood e l) w.0,
        (fits.left_stays e l).1,
        λ t. ⊎_elim (λ rn. w.2 (inl (fits.renews_back e l w.0 rn))) (λ f. target_old e l f) t,
      ))
      (λ a. absurd (fits.adds_clean e a d))
      ((step.edges e).0 i)

  new_roots_clean : (r : R) → In r new.dirty → root r ≡ true → ⊥
  new_roots_clean r d t = ⊎_elim (λ o. was.marked.roots_clean r o t) (λ k. no_root_marked r k t) ((step.dirty r).0 d).0

  untainted : (r : R) (k : ℕ) → In {X = R × ℕ} (r, k) m.given → In k new.tainted → ⊥
  untainted r k g t = ⊎_elim
      (λ o. let w = was.once.tainted k o in fits.serials_new r w.0 k g w.1)
      (λ w. fits.serials_new r w.0 k g w.1)
      ((step.tainted k).0 t)

  pub new_tainted : (r : R) (k : ℕ) → new.key r ≡ Some k → In k new.tainted ↔ In r new.dirty
  new_tainted r k e = ⊎_elim
      (λ g. (λ t. absurd (untainted r k g.1 t), λ d. absurd (((step.dirty r).0 d).2 g.0)))
      (λ o. (
        λ t. (step.dirty r).1 (
          ⊎_elim
              (λ u. inl ((was.marked.tainted r k o.0).0 u))
              (λ w. inr (subst (λ z. In z m.marked) (was.once.own w.0 r k w.1 (was.once.present r k o.0)) w.2))
              ((step.tainted k).0 t),
          o.1,
          o.2,
        ),
        λ d. (step.tainted k).1 (⊎_elim
            (λ u. inl ((was.marked.tainted r k o.0).1 u))
            (λ i. inr (r, was.once.present r k o.0, i))
            ((step.dirty r).0 d).0),
      ))
      (key_from r k e)

  pub stays_marked : AreMarked root new
  stays_marked = record { none_into_roots = fits.none_into_roots; closed = new_closed; roots_clean = new_roots_clean; tainted = new_tainted }

  new_present : (r : R) (k : ℕ) → new.key r ≡ Some k → In {X = R × ℕ} (r, k) new.made
  new_present r k e = ⊎_elim (λ g. (step.made (r, k)).1 (inr g.1)) (λ o. (step.made (r, k)).1 (inl (was.once.present r k o.0))) (key_from r k e)

  new_own : (q r : R) (k : ℕ) → In {X = R × ℕ} (q, k) new.made → In {X = R × ℕ} (r, k) new.made → q ≡ r
  new_own q r k a b = ⊎_elim
      (λ o. ⊎_elim (λ p. was.once.own q r k o p) (λ g. absurd (fits.serials_new r q k g o)) ((step.made (r, k)).0 b))
      (λ g. ⊎_elim (λ p. absurd (fits.serials_new q r k g p)) (λ h. fits.serials_differ q r k g h) ((step.made (r, k)).0 b))
      ((step.made (q, k)).0 a)

  still_made : (k : ℕ) → ((r : R) × In {X = R × ℕ} (r, k) old.made) → (r : R) × In {X = R × ℕ} (r, k) new.made
  still_made k w = (w.0, (step.made (w.0, k)).1 (inl w.1))

  new_tainted_made : (k : ℕ) → In k new.tainted → (r : R) × In {X = R × ℕ} (r, k) new.made
  new_tainted_made k t = still_made k (⊎_elim (λ o. was.once.tainted k o) (λ w. let told : (r : R) × In {X = R × ℕ} (r, k) old.made = (w.0, w.1) in told) ((step.tainted k).0 t))

  new_linked_made : (l : ℕ × ℕ) → In l new.links → ((r : R) × In {X = R × ℕ} (r, l.0) new.made) × ((r : R) × In {X = R × ℕ} (r, l.1) new.made)
  new_linked_made l i = ⊎_elim
      (λ o. let w = was.once.linked l o in (still_made l.0 w.0, still_made l.1 w.1))
      (λ s. let w = (step.shown l).0 s in ((w.0.0, new_present w.0.0 l.0 w.2), (w.0.1, new_present w.0.1 l.1 w.3)))
      ((step.links l).0 i)

  pub stays_once : AreMadeOnce new
  stays_once = record { own = new_own; present = new_present; tainted = new_tainted_made; linked = new_linked_made }

  -- a link of the step leaves a clean role
  source_clean : (l : ℕ × ℕ) → (w : IsPublished m new l) → In w.0.0 new.dirty → ⊥
  source_clean l w d =
      let e = w.0 in
      let u = (step.dirty e.0).0 d in
      ⊎_elim
      (λ a. fits.adds_clean e a d)
      (λ t. ⊎_elim u.2
      (λ to. ⊎_elim
      (λ f. ⊎_elim (λ rn. u.2 (inl (fits.renews_back e f u.0 rn))) (λ fr. target_old e f fr) to)
      (λ a. fits.adds_clean e a d)
      ((step.edges e).0 w.1)) t)
      w.4

  old_traced : (l : ℕ × ℕ) → In l old.links → (In l.1 new.tainted → ⊥)
      → (In l.0 new.tainted → ⊥) × ((e : R × R) × In e new.edges × In {X = R × ℕ} (e.0, l.0) new.made × In {X = R × ℕ} (e.1, l.1) new.made)
  old_traced l o clean =
      let w = was.traced l o (λ t. clean ((step.tainted l.1).1 (inl t))) in
      let e = w.1.0 in
      let unmarked : In e.1 m.marked → ⊥ = λ i. clean ((step.tainted l.1).1 (inr (e.1, w.1.3, i))) in (
        λ t. ⊎_elim w.0
            (λ q. unmarked (marked_on e w.1.1 (subst (λ z. In z m.marked) (was.once.own q.0 e.0 l.0 q.1 w.1.2) q.2)))
            ((step.tainted l.0).0 t),
        (
          e,
          (step.edges e).1 (⊎_elim (λ i. inl i) (λ i. absurd (unmarked (target_marked e i))) (step.parted e w.1.1)),
          (step.made (e.0, l.0)).1 (inl w.1.2),
          (step.made (e.1, l.1)).1 (inl w.1.3),
        ),
      )

  pub stays_traced : AreTraced new
  stays_traced l i clean = ⊎_elim
      (λ o. old_traced l o clean)
      (λ s. let w = (step.shown l).0 s in
      (λ t. source_clean l w ((new_tainted w.0.0 l.0 w.2).0 t), (w.0, w.1, new_present w.0.0 l.0 w.2, new_present w.0.1 l.1 w.3)))
      ((step.links l).0 i)

  shows : (e : R × R) (j k : ℕ) → In e new.edges → new.key e.0 ≡ Some j → new.key e.1 ≡ Some k → In e m.added ⊎ (IsTouched m e.0 ⊎ IsTouched m e.1) → (l : ℕ × ℕ) × In l new.links × (new.key e.0 ≡ Some l.0) × (new.key e.1 ≡ Some l.1)
  shows e j k i a b why = ((j, k), (step.links (j, k)).1 (inr ((step.shown (j, k)).1 (e, i, a, b, why))), a, b)

  -- the key of an end that stays, new or as it was
  end_key : (r : R) (k : ℕ) → old.key r ≡ Some k → (In r m.gone → ⊥) → (j : ℕ) × (new.key r ≡ Some j)
  end_key r k e stays = ⊎_elim
      (λ t. let w = step.new_key r t in let told : (j : ℕ) × (new.key r ≡ Some j) = (w.0, w.1) in told)
      (λ out. let told : (j : ℕ) × (new.key r ≡ Some j) = (k, step.same_key r out stays ∙ e) in told)
      (touched_or r)

  pub stays_linked : AreLinked new
  stays_linked e i = ⊎_elim
      (λ f. let w = was.linked e (step.left_stood e f) in
      let stays = fits.left_stays e f in
      let a = end_key e.0 w.0.0 w.2 stays.0 in
      let b = end_key e.1 w.0.1 w.3 stays.1 in
      ⊎_elim
      (λ t. shows e a.0 b.0 i a.1 b.1 (inr (inl t)))
      (λ from. ⊎_elim
      (λ t. shows e a.0 b.0 i a.1 b.1 (inr (inr t)))
      (λ to. (w.0, (step.links w.0).1 (inl w.1), step.same_key e.0 from stays.0 ∙ w.2, step.same_key e.1 to stays.1 ∙ w.3))
      (touched_or e.1))
      (touched_or e.0))
      (λ a. let w = fits.adds_keyed e a in shows e w.0.0 w.1.0 i w.0.1 w.1.1 (inl a))
      ((step.edges e).0 i)

  pub stays_held : Holds root new
  stays_held = record { marked = stays_marked; once = stays_once; traced = stays_traced; linked = stays_linked }

  -- an untainted key that h opens is of a role in its reach
  in_reach : (h : R) (own : ℕ) → new.key h ≡ Some own → (k : ℕ) → Path new.links own k → (In k new.tainted → ⊥) → (r : R) → In {X = R × ℕ} (r, k) new.made → Path new.edges h r
  in_reach h own e k Here clean r i = subst (λ z. Path new.edges h z) (new_own h r own (new_present h own e) i) Here
  in_reach h own e k (On {b = j} {c = c} way l) clean r i =
      let w = stays_traced (j, c) l clean in
      subst (λ z. Path new.edges h z) (new_own w.1.0.1 r c w.1.3 i) (On (in_reach h own e j way w.0 w.1.0.0 w.1.2) w.1.1)

  -- a trail is old, or goes on along old links from its last new one
  last_new : (own k : ℕ) → Path new.links own k → Path old.links own k ⊎ ((l : ℕ × ℕ) × In l m.shown × Path new.links own l.0 × Path old.links l.1 k)
  last_new own k Here = inl Here
  last_new own k (On {b = j} {c = c} way i) = ⊎_elim
      (λ o. ⊎_elim (λ q. inl (On q o)) (λ w. inr (w.0, w.1, w.2, On w.3 o)) (last_new own j way))
      (λ s. inr ((j, c), s, way, Here))
      ((step.links (j, c)).0 i)

  -- along edges lead trails from present key to present key
  linked_way : (h : R) (own : ℕ) → old.key h ≡ Some own → (r : R) → Path old.edges h r → (k : ℕ) → old.key r ≡ Some k → Path old.links own k
  linked_way h own e r Here k f = subst (λ z. Path old.links own z) (one_value (old.key r) own k e f) Here
  linked_way h own e r (On {b = q} {c = c} way i) k f =
      let w = was.linked (q, c) i in
      subst (λ z. Path old.links own z) (one_value (old.key c) w.0.1 k w.3 f) (On (linked_way h own e q way w.0.0 w.2) w.1)

  -- nothing old leads on from a serial that the step gives
  leads_nowhere : (r q : R) (j k : ℕ) → In {X = R × ℕ} (r, j) m.given → In {X = R × ℕ} (q, k) old.made → Path old.links j k → ⊥
  leads_nowhere r q j k g i way = ⊎_elim
      (λ e. fits.serials_new r q j g (subst (λ z. In {X = R × ℕ} (q, z) old.made) e i))
      (λ w. let o = (was.once.linked (j, w.0) w.1).0 in fits.serials_new r o.0 j g o.1)
      (first_pair way)

  had_key : (h r : R) (k : ℕ) → Path old.edges h r → old.key r ≡ Some k → (j : ℕ) × (old.key h ≡ Some j)
  had_key h r k way e = ⊎_elim
      (λ s. let told : (j : ℕ) × (old.key h ≡ Some j) = (k, ap old.key (sym s) ∙ e) in told)
      (λ w. let x = was.linked (h, w.0) w.1 in let told : (j : ℕ) × (old.key h ≡ Some j) = (x.0.0, x.2) in told)
      (first_pair way)

  -- a root's key is the one that it had
  root_key : (h : R) (own : ℕ) → root h ≡ true → new.key h ≡ Some own → (j : ℕ) → old.key h ≡ Some j → old.key h ≡ Some own
  root_key h own t e j o = ⊎_elim
      (λ g. absurd (⊎_elim (λ rn. fits.roots_stay h rn t) (λ f. fresh_had h j f o) g.0))
      (λ w. w.0)
      (key_from h own e)

  still_leads : (j k : ℕ) → Path old.links j k → Path new.links j k
  still_leads j k Here = Here
  still_leads j k (On {b = i} {c = c} way l) = On (still_leads j i way) ((step.links (i, c)).1 (inl l))

  -- an older key was opened before, or a role comes into reach whose present key leads to it
  pub opened_or : (h : R) → root h ≡ true → (q : R) (k : ℕ) → In {X = R × ℕ} (q, k) old.made → Opens new h k
      → Opens old h k ⊎ ((r : R) × Brings old new h r × ((j : ℕ) × (new.key r ≡ Some j) × Path new.links j k))
  opened_or h t q k i d = ⊎_elim
      (λ way. ⊎_elim
      (λ g. absurd (leads_nowhere h q d.0 k g.1 i way))
      (λ o. inl (d.0, o.0, way))
      (key_from h d.0 d.1))
      (λ w. let l = w.0 in
      let x = (step.shown l).0 w.1 in
      let e = x.0 in
      let near = in_reach h d.0 d.1 l.0 w.2 (λ u. source_clean l x ((new_tainted e.0 l.0 x.2).0 u)) e.0 (new_present e.0 l.0 x.2) in
      ⊎_elim
      (λ g. absurd (leads_nowhere e.1 q l.1 k g.1 i w.3))
      (λ o. ⊎_elim
      (λ way. let j = had_key h e.1 l.1 way o.0 in
      let own = root_key h d.0 t d.1 j.0 j.1 in
      inl (d.0, own, Path-on (linked_way h d.0 own e.1 way l.1 o.0) w.3))
      (λ out. inr (e.1, ((l.1, o.0), On near x.1, out), (l.1, x.3, still_leads l.1 k w.3)))
      (reaches same tells old.edges h e.1))
      (key_from e.1 l.1 x.3))
      (last_new d.0 k d.2)
