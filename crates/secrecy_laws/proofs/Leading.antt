-- Where all that led through a removed edge gets a new key, present keys lead along edges alone.
use Rattle.std.proofs.Common.{◌≡◌, ℕ, Bool, true, false, List, Some, ◌⊎◌, inl, inr, ⊎_elim, refl, sym, ap, ◌∙◌, subst}
use Rattle.std.proofs.lemmas.Bool.{false_from_ne_true}
use Rattle.cry_base.specs.Sets.{In, Path, Tells}
use Rattle.cry_base.specs.Sets.Path.{Here, On}
use Rattle.cry_base.proofs.Reaching.{Path-on}
use Rattle.secrecy_laws.specs.States.{State, Move, IsTouched, IsStep, Fits}
use Rattle.secrecy_laws.specs.Holding.{Holds, AreMadeOnce, Opens, Brings}
use Rattle.secrecy_laws.specs.Departures.{LeadAlongEdges, RenewsWhatLed, RenewsAllThatLead}
use Rattle.secrecy_laws.proofs.Steps.{first_pair, key_from, opened_or, stays_held}

-- what trails lead to is their start, or was made before
trail_end : {R : Type 0} (s : State R) → AreMadeOnce s → (j k : ℕ) → Path s.links j k → (k ≡ j) ⊎ ((r : R) × In {X = R × ℕ} (r, k) s.made)
trail_end s once j k Here = inl refl
trail_end s once j k (On {b = x} {c = c} way l) = inr (once.linked (x, c) l).1

-- a way is empty, or has a last pair
last_pair : {X : Type 0} {pairs : List (X × X)} {a b : X} → Path pairs a b → (b ≡ a) ⊎ ((z : X) × In {X = X × X} (z, b) pairs)
last_pair Here = inl refl
last_pair (On {b = z} {c = c} way i) = inr (z, i)

-- what is brought is no root, and so leads along edges
brought_leads : {R : Type 0} (root : R → Bool) (old new : State R) → Holds root new → LeadAlongEdges root new → (h q r : R) (k : ℕ) → Brings old new h q
    → (j : ℕ) × (new.key q ≡ Some j) × Path new.links j k → In {X = R × ℕ} (r, k) new.made → Path new.edges h r
brought_leads root old new now leads h q r k b w i =
    let no_root : root q ≡ false = ⊎_elim
    (λ s. absurd (b.2 (subst (λ z. Path old.edges h z) (sym s) Here)))
    (λ e. false_from_ne_true (root q) (λ t. now.marked.none_into_roots (e.0, q) e.1 t))
    (last_pair b.1) in
    Path-on b.1 (leads q r w.0 k no_root w.1 i w.2)

-- no link begins at a key of a role that seals
abbrev pub BeginInside : {R : Type 0} → (R → Bool) → State R → Type 0
BeginInside {R} seals s = (l : ℕ × ℕ) → In l s.links → (r : R) → In {X = R × ℕ} (r, l.0) s.made → seals r ≡ false

module _ {R : Type 0} (same : R → R → Bool) (tells : Tells same) (root : R → Bool) (old : State R) (m : Move R) (new : State R) (was : Holds root old) (step : IsStep old m new) (fits : Fits root old m new) where
  -- a present key that the step leaves leads, by what was published before, along edges alone
  abbrev KeepsLeads : Type 0
  KeepsLeads = (a r : R) (j k : ℕ) → root a ≡ false → (IsTouched m a → ⊥) → (In a m.gone → ⊥) → old.key a ≡ Some j → In {X = R × ℕ} (r, k) old.made
      → Path old.links j k → Path new.edges a r

  now : Holds root new
  now = stays_held same tells root old m new was step fits

  -- the key that a trail ends with is that of its start's role
  at_start : (a r : R) (j k : ℕ) → new.key a ≡ Some j → In {X = R × ℕ} (r, k) new.made → k ≡ j → Path new.edges a r
  at_start a r j k e i s = subst (λ z. Path new.edges a z) (now.once.own a r j (now.once.present a j e) (subst (λ z. In {X = R × ℕ} (r, z) new.made) s i)) Here

  old_trail : KeepsLeads → (a r : R) (j k : ℕ) → root a ≡ false → new.key a ≡ Some j → In {X = R × ℕ} (r, k) new.made → Path old.links j k → Path new.edges a r
  old_trail keeps a r j k no_root e i way = ⊎_elim
      (λ g. ⊎_elim
      (λ s. at_start a r j k e i s)
      (λ w. let o = (was.once.linked (j, w.0) w.1).0 in absurd (fits.serials_new a o.0 j g.1 o.1))
      (first_pair way))
      (λ o. ⊎_elim
      (λ made. keeps a r j k no_root o.2 o.1 o.0 made way)
      (λ given. ⊎_elim
      (λ s. at_start a r j k e i s)
      (λ w. absurd (fits.serials_new r w.0 k given w.1))
      (trail_end old was.once j k way))
      ((step.made (r, k)).0 i))
      (key_from same tells root old m new was step fits a j e)

  -- a trail goes on from the present key of a role in reach by what was published before
  abbrev GoesOn : R → ℕ → Type 0
  GoesOn a k = (b : R) × ((q : ℕ) × (root b ≡ false) × (new.key b ≡ Some q) × Path new.edges a b × Path old.links q k)

  goes_on : KeepsLeads → (a : R) (j k : ℕ) → root a ≡ false → new.key a ≡ Some j → Path new.links j k → GoesOn a k
  goes_on keeps a j k no_root e Here = (a, (j, no_root, e, Here, Here))
  goes_on keeps a j k no_root e (On {b = x} {c = c} way l) =
      let w = goes_on keeps a j x no_root e way in
      let b = w.0 in
      let u = w.1 in ⊎_elim
      (λ o. (b, (u.0, u.1, u.2, u.3, On u.4 o)))
      (λ s. let v = (step.shown (x, c)).0 s in
      let edge = v.0 in
      let near = old_trail keeps b edge.0 u.0 x u.1 u.2 (now.once.present edge.0 x v.2) u.4 in
      (edge.1, (c, false_from_ne_true (root edge.1) (λ t. fits.none_into_roots edge v.1 t), v.3, On (Path-on u.3 near) v.1, Here)))
      ((step.links (x, c)).0 l)

  leads_on : KeepsLeads → LeadAlongEdges root new
  leads_on keeps a r j k no_root e i way =
      let w = goes_on keeps a j k no_root e way in
      let u = w.1 in
      Path-on u.3 (old_trail keeps w.0 r u.0 k u.1 u.2 i u.4)

  -- a way of edges stays where its start keeps its key
  way_stays : RenewsWhatLed root old m → (a r : R) → root a ≡ false → (IsTouched m a → ⊥) → (In a m.gone → ⊥) → Path old.edges a r → Path new.edges a r
  way_stays renews a r no_root kept stays Here = Here
  way_stays renews a r no_root kept stays (On {b = b} {c = c} way i) = On
      (way_stays renews a b no_root kept stays way)
      ((step.edges (b, c)).1 (inl (⊎_elim
      (λ l. l)
      (λ gone. absurd (kept (inl (renews (b, c) gone a way no_root stays))))
      (step.parted (b, c) i))))

  pub strict_step_leads : LeadAlongEdges root old → RenewsWhatLed root old m → LeadAlongEdges root new
  strict_step_leads before renews = leads_on (λ a r j k no_root kept stays e i way. way_stays renews a r no_root kept stays (before a r j k no_root e i way))

  pub whole_step_leads : RenewsAllThatLead root old m → LeadAlongEdges root new
  whole_step_leads renews = leads_on (λ a r j k no_root kept stays e i way. ⊎_elim
      (λ t. absurd (kept t))
      (λ none. ⊎_elim
      (λ s. at_start a r j k (step.same_key a kept stays ∙ e) ((step.made (r, k)).1 (inl i)) s)
      (λ w. absurd (none w.0 w.1))
      (first_pair way))
      (renews a j no_root e))

  -- links begin where edges do
  pub stays_inside : (seals : R → Bool) → BeginInside seals old → ((e : R × R) → In e new.edges → seals e.0 ≡ false) → BeginInside seals new
  stays_inside seals before begins l i r made = ⊎_elim
      (λ o. let w = (was.once.linked l o).0 in
      ap seals (now.once.own r w.0 l.0 made ((step.made (w.0, l.0)).1 (inl w.1))) ∙ before l o w.0 w.1)
      (λ s. let v = (step.shown l).0 s in
      ap seals (now.once.own r v.0.0 l.0 made (now.once.present v.0.0 l.0 v.2)) ∙ begins v.0 v.1)
      ((step.links l).0 i)

  -- an older key that a root opens it opened before, or the key's role is in reach now
  pub opens_or_reaches : LeadAlongEdges root new → (h r : R) (k : ℕ) → root h ≡ true → In {X = R × ℕ} (r, k) old.made → Opens new h k → Opens old h k ⊎ Path new.edges h r
  opens_or_reaches leads h r k t i d = ⊎_elim
      (λ o. inl o)
      (λ g. inr (brought_leads root old new now leads h g.0 r k g.1 g.2 ((step.made (r, k)).1 (inl i))))
      (opened_or same tells root old m new was step fits h t r k i d)
