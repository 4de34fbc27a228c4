-- In a log whose payloads fit, no link of an edge follows the one that leads from present key to present key.
use Rattle.std.proofs.Common.{◌≡◌, ◌≢◌, ℕ, ◌+◌, ◌*◌, ◌^◌, ◌<◌, ◌≤◌, Bool, true, false, cond, ◌==◌, ◌&&◌, ◌⊎◌, List, [], ◌∷◌, ◌++◌, length, Option, Some, None, Ok, inl, inr, ⊎_elim, refl, sym, ap, ◌∙◌, subst, arith}
use Rattle.std.specs.Prelude.{nat_lt, unwrap_or}
use Rattle.std.proofs.lemmas.Bool.{and_from, and_parts, eq-eqb, eqb-true, false_from_ne_true, false≢true, ltb-true}
use Rattle.commit_journal.specs.Placed.{Commands, PlainPlaced}
use Rattle.commit_journal.specs.Places.{link_offset}
use Rattle.cry_base.specs.Clearances.{clear_number}
use Rattle.cry_base.specs.Sets.{In}
use Rattle.cry_base.specs.Store.{Store}
use Rattle.cry_base.specs.declared.roles.Edge.{Edge}
use Rattle.cry_base.specs.declared.roles.Role.{Role}
use Rattle.cry_base.specs.declared.roles.Role.TheVariants.{Owner}
use Rattle.cry_base.proofs.Members.{In-append, In-filter, In-map}
use Rattle.log_visits.specs.Folding.{folded}
use Rattle.log_visits.specs.Found.{has_present_serials, head_of_edge, is_sought, newest_for, only_if}
use Rattle.log_visits.specs.Holding.{HasKind, IsReadingIn}
use Rattle.log_visits.specs.Placing.{PlacedLink, body_links, is_for_edge, last_one, link_for, links_at, log_links}
use Rattle.log_visits.specs.Visiting.{Reading}
use Rattle.log_visits.proofs.FoldedHolds.{for_edge, log_each}
use Rattle.log_visits.proofs.Following.{IsLinkOf, head_of, last_passes, source_is, target_is}
use Rattle.key_links.specs.Ended.{kind_from, kind_to, role_with, row_numbered, source_role, target_role}
use Rattle.move_plan.specs.Change.{Change, change_of}
use Rattle.move_plan.specs.Fitting.{fits}
use Rattle.public_fold.specs.Fitted.{are_due, fits_step, has_content_head, has_heads, has_link_head, payload_fits, told_stand, told_step}
use Rattle.public_fold.specs.Journal.{Stand, note_step, nothing}
use Rattle.public_fold.specs.Keyed.{HasRole, KeysHold}
use Rattle.public_fold.specs.KeyStep.{KeyState, edges_then, given, is_published, is_strict, key_step, keys_then, keys_without, link_of, links_from, newest, next_epoch, next_serial, no_keys, numbered, present, published, published_edges, renewed, step_with}
use Rattle.public_fold.specs.Records.{Link, pieces_of}
use Rattle.public_fold.specs.StandFits.{has_count, note_fits}
use Rattle.public_fold.specs.Standing.{PublicView}
use Rattle.public_fold.specs.Told.{told_store}
use Rattle.public_fold.specs.Turns.{StandHolds}
use Rattle.public_fold.proofs.EdgesThen.{then_told}
use Rattle.public_fold.proofs.KeepingKeys.{IsMove, in_or, newest-first, no_key, numbered-some, same_key}
use Rattle.public_fold.proofs.NoteMoves.{note_moves}
use Rattle.public_fold.proofs.TurnsHold.{epoch_stands, first_stands, fit_told, note_keys, payload_holds}
use Rattle.record_format.specs.Noted.{Note}
use Rattle.record_format.specs.Plain.{PlainPayload}
use Rattle.record_format.specs.Told.{told_note}
use Rattle.record_format.specs.declared.link.LinkRecord.{LinkRecord}
use Rattle.role_graph.specs.Edges.{IsClearanceEdge, IsEdge, IsFileEdge, IsGrantEdge, IsOwnEdge, IsParentEdge, clearance_edges, edge, edges, file_edge, folder_edges, grant_edge, parent_edges}
use Rattle.role_graph.specs.Roles.{back_of, clear_of, data_of, file_role, files_of, holder_role, is_root_role, role_id, same_role, sub_of, variant_of}
use Rattle.role_graph.proofs.Comparing.{same_role_tells}
use Rattle.role_graph.proofs.Edging.{edges_told}
use Rattle.role_graph.proofs.Typing.{typed}

-- ---- the last one that passes

-- of two lists it is the second's, where that has one
abbrev pub later_or : {X : Type 0} → Option X → Option X → Option X
later_or o before = elim o [ Some y ↦ Some y | None ↦ before ]

or_nothing : {X : Type 0} (o : Option X) → o ≡ later_or o None
or_nothing (Some y) = refl
or_nothing None = refl

or_twice : {X : Type 0} (o before first : Option X) → later_or (later_or o before) first ≡ later_or o (later_or before first)
or_twice (Some y) before first = refl
or_twice None before first = refl

pub last_of_both : {X : Type 0} (test : X → Bool) (xs ys : List X) → last_one test (xs ++ ys) ≡ later_or (last_one test ys) (last_one test xs)
unfolding last_one
last_of_both test [] ys = or_nothing (last_one test ys)
last_of_both test (x ∷ xs) ys = ap (λ o. later_or o (cond (test x) (Some x) None)) (last_of_both test xs ys) ∙ or_twice (last_one test ys) (last_one test xs) (cond (test x) (Some x) None)

last_in : {X : Type 0} (test : X → Bool) (xs : List X) (y : X) → last_one test xs ≡ Some y → In y xs
unfolding last_one
last_in test [] y e = absurd cc
last_in test (x ∷ xs) y e =
    (elim (last_one test xs) as (λ o. last_one test xs ≡ o → elim o [ Some z ↦ Some z | None ↦ cond (test x) (Some x) None ] ≡ Some y → In y (x ∷ xs)) [
      | Some z ↦ λ q f. inr (last_in test xs y (q ∙ f))
      | None ↦ λ q f. (elim (test x) as (λ b. cond b (Some x) None ≡ Some y → In y (x ∷ xs)) [ true ↦ λ g. let same : x ≡ y = cc in inl (sym same) | false ↦ λ g. absurd cc ]) f
    ]) refl e

none_passes : {X : Type 0} (test : X → Bool) (xs : List X) → ((x : X) → In x xs → test x ≡ true → ⊥) → last_one test xs ≡ None
none_passes test xs never =
    (elim (last_one test xs) as (λ o. last_one test xs ≡ o → o ≡ None) [
      | Some y ↦ λ is. absurd (never y (last_in test xs y is) (last_passes test xs y is))
      | None ↦ λ is. refl
    ]) refl

same_last : {X : Type 0} (f g : X → Bool) (xs : List X) → ((x : X) → In x xs → f x ≡ g x) → last_one f xs ≡ last_one g xs
unfolding last_one
same_last f g [] same = refl
same_last f g (x ∷ xs) same =
    ap (λ o. elim o [ Some z ↦ Some z | None ↦ cond (f x) (Some x) None ]) (same_last f g xs (λ y i. same y (inr i)))
    ∙ ap (λ b. elim (last_one g xs) [ Some z ↦ Some z | None ↦ cond b (Some x) None ]) (same x (inl refl))

-- ---- what an edge's link tells

all_of_four : (a b c s : Bool) → (a && (b && c)) ≡ true → (a && (b && (c && s))) ≡ s
all_of_four a b c s t =
    let one = and_parts a (b && c) t in
    let two = and_parts b c one.1 in
    rw (one.0, two.0, two.1) refl

first_of_four : (a b c s : Bool) → (a && (b && (c && s))) ≡ true → (a && (b && c)) ≡ true
first_of_four a b c s t =
    let one = and_parts a (b && (c && s)) t in
    let two = and_parts b (c && s) one.1 in
    let three = and_parts c s two.1 in
    rw (one.0, two.0, three.0) refl

-- a link of the edge is one from present key to present key where its serials are
pub for_present : (k : KeyState) (e : Edge) (p : PlacedLink) → is_sought (head_of_edge e) p ≡ true → is_for_edge k e p ≡ has_present_serials k e p.link
unfolding is_for_edge
for_present k e p t = all_of_four (p.link.kind == e.kind) (p.link.from_id == role_id e.from) (p.link.to_id == role_id e.to) (has_present_serials k e p.link) t

pub sought_for : (k : KeyState) (e : Edge) (p : PlacedLink) → is_for_edge k e p ≡ true → is_sought (head_of_edge e) p ≡ true
unfolding is_for_edge
sought_for k e p t = first_of_four (p.link.kind == e.kind) (p.link.from_id == role_id e.from) (p.link.to_id == role_id e.to) (has_present_serials k e p.link) t

link_of_edge : (k : KeyState) (e : Edge) (p : PlacedLink) → is_for_edge k e p ≡ true → IsLinkOf k e p.link
unfolding is_for_edge
link_of_edge k e p t = head_of k e p.batch p.at p.link (unfold is_for_edge in t)

-- the roles of a link that is sought for an edge are the edge's
sought_ends : (e : Edge) (p : PlacedLink) → HasKind e → is_sought (head_of_edge e) p ≡ true → (source_role p.link ≡ e.from) × (target_role p.link ≡ e.to)
sought_ends e p kind t =
    let l = p.link in
    let one = and_parts (l.kind == e.kind) ((l.from_id == role_id e.from) && (l.to_id == role_id e.to)) t in
    let two = and_parts (l.from_id == role_id e.from) (l.to_id == role_id e.to) one.1 in
    let same = eqb-true l.kind e.kind one.0 in (
      ap (λ n. role_with (kind_from n) l.from_id) same ∙ ap (role_with (kind_from e.kind)) (eqb-true l.from_id (role_id e.from) two.0) ∙ kind.source,
      ap (λ n. role_with (kind_to n) l.to_id) same ∙ ap (role_with (kind_to e.kind)) (eqb-true l.to_id (role_id e.to) two.1) ∙ kind.target,
    )

-- ---- what holds of the links of a log

-- the last link of an edge is the last one from present key to present key, or there is none of these
abbrev LeadsOn : KeyState → List PlacedLink → Edge → Type 0
LeadsOn k placed e = only_if (is_for_edge k e) (last_one (is_sought (head_of_edge e)) placed) ≡ last_one (is_for_edge k e) placed

-- serials are below the counter, and 0 is the owner's alone
record AreSpent (k : KeyState) (placed : List PlacedLink) : Type 0 where
  pub below : (p : PlacedLink) → In p placed → (p.link.from_serial.0 < next_serial k) × (p.link.to_serial.0 < next_serial k)
  pub from_owner : (p : PlacedLink) → In p placed → p.link.from_serial.0 ≡ 0 → source_role p.link ≡ Owner
  pub to_other : (p : PlacedLink) → In p placed → p.link.to_serial.0 ≡ 0 → ⊥

-- the link was just published: for an edge between roles with keys, from present key to present key
record IsFresh (k : KeyState) (p : PlacedLink) : Type 0 where
  pub of : Edge
  pub kind : HasKind of
  pub leads : is_for_edge k of p ≡ true
  pub from_key : (n : ℕ) × (newest k.keys of.from ≡ Some n)
  pub to_key : (n : ℕ) × (newest k.keys of.to ≡ Some n)
  pub to_other : of.to ≢ Owner

-- a role's key is the one before, or one that the counter gave, or there is none
abbrev GoesTo : KeyState → KeyState → Role → Type 0
GoesTo old new r = (newest new.keys r ≡ newest old.keys r) ⊎ (((n : ℕ) × (newest new.keys r ≡ Some n) × (next_serial old ≤ n)) ⊎ (newest new.keys r ≡ None))

abbrev ZeroIsOwners : KeyState → Type 0
ZeroIsOwners k = (r : Role) → newest k.keys r ≡ Some 0 → r ≡ Owner

present_some : (k : KeyState) (r : Role) (n : ℕ) → newest k.keys r ≡ Some n → present k.keys r ≡ n
unfolding present
present_some k r n is = ap (λ o. unwrap_or o 0) is

present_none : (k : KeyState) (r : Role) → newest k.keys r ≡ None → present k.keys r ≡ 0
unfolding present
present_none k r is = ap (λ o. unwrap_or o 0) is

present_same : (old new : KeyState) (r : Role) → newest new.keys r ≡ newest old.keys r → present old.keys r ≡ present new.keys r
unfolding present
present_same old new r is = ap (λ o. unwrap_or o 0) (sym is)

-- ---- the links that stood

-- where none of them is one from present key to present key
none_leads : (k : KeyState) (placed : List PlacedLink) (e : Edge) → ((p : PlacedLink) → In p placed → is_for_edge k e p ≡ true → ⊥) → LeadsOn k placed e
none_leads k placed e never =
    (elim (last_one (is_sought (head_of_edge e)) placed) as (λ o. last_one (is_sought (head_of_edge e)) placed ≡ o → only_if (is_for_edge k e) o ≡ None) [
      | Some q ↦ λ is. ap (λ b. cond b (Some q) None) (false_from_ne_true (is_for_edge k e q) (never q (last_in (is_sought (head_of_edge e)) placed q is)))
      | None ↦ λ is. refl
    ]) refl
    ∙ sym (none_passes (is_for_edge k e) placed never)

-- the test with the serials in hand
abbrev tests : Edge → ℕ → ℕ → PlacedLink → Bool
tests e a b l =
    (l.link.kind == e.kind)
    && ((l.link.from_id == role_id e.from)
    && ((l.link.to_id == role_id e.to)
    && ((l.link.from_serial.0 == a) && (l.link.to_serial.0 == b))))

same_serials : (old new : KeyState) (placed : List PlacedLink) (e : Edge) → present old.keys e.from ≡ present new.keys e.from → present old.keys e.to ≡ present new.keys e.to →
    LeadsOn old placed e → LeadsOn new placed e
unfolding is_for_edge
same_serials old new placed e from to leads =
    let s = last_one (is_sought (head_of_edge e)) placed in
    let P : ℕ → ℕ → Type 0 = λ a b. only_if (tests e a b) s ≡ last_one (tests e a b) placed in
    subst (λ b. P (present new.keys e.from) b) to (subst (λ a. P a (present old.keys e.to)) from leads)

module _ (old new : KeyState) (placed : List PlacedLink) (spent : AreSpent old placed) (goes : (r : Role) → GoesTo old new r) (owned : newest new.keys Owner ≡ None → ⊥) where
  new_source : (e : Edge) (n : ℕ) → newest new.keys e.from ≡ Some n → next_serial old ≤ n → LeadsOn new placed e
  new_source e n is high = none_leads new placed e (λ p i t.
      let own : p.link.from_serial.0 ≡ n = (link_of_edge new e p t).from_serial ∙ present_some new e.from n is in
      let low : p.link.from_serial.0 < next_serial old = (spent.below p i).0 in absurd (omega (arith, own, low, high)))

  new_target : (e : Edge) (n : ℕ) → newest new.keys e.to ≡ Some n → next_serial old ≤ n → LeadsOn new placed e
  new_target e n is high = none_leads new placed e (λ p i t.
      let own : p.link.to_serial.0 ≡ n = (link_of_edge new e p t).to_serial ∙ present_some new e.to n is in
      let low : p.link.to_serial.0 < next_serial old = (spent.below p i).1 in absurd (omega (arith, own, low, high)))

  no_source : (e : Edge) → HasKind e → newest new.keys e.from ≡ None → LeadsOn new placed e
  no_source e kind is = none_leads new placed e (λ p i t.
      let head = link_of_edge new e p t in
      let zero : p.link.from_serial.0 ≡ 0 = head.from_serial ∙ present_none new e.from is in
      let owners : e.from ≡ Owner = sym (source_is new e p.link kind head) ∙ spent.from_owner p i zero in
      owned (subst (λ r. newest new.keys r ≡ None) owners is))

  no_target : (e : Edge) → newest new.keys e.to ≡ None → LeadsOn new placed e
  no_target e is = none_leads new placed e (λ p i t. spent.to_other p i ((link_of_edge new e p t).to_serial ∙ present_none new e.to is))

  stood_lead : (e : Edge) → HasKind e → LeadsOn old placed e → LeadsOn new placed e
  stood_lead e kind leads = ⊎_elim
      (λ from. ⊎_elim
      (λ to. same_serials old new placed e (present_same old new e.from from) (present_same old new e.to to) leads)
      (λ v. ⊎_elim (λ w. new_target e w.0 w.1 w.2) (λ none. no_target e none) v)
      (goes e.to))
      (λ u. ⊎_elim (λ w. new_source e w.0 w.1 w.2) (λ none. no_source e kind none) u)
      (goes e.from)

-- ---- the links that come

-- a link that comes is one of an edge where it is one from its present key to its present key
fresh_same : (k : KeyState) (e : Edge) (p : PlacedLink) → HasKind e → IsFresh k p → is_sought (head_of_edge e) p ≡ is_for_edge k e p
fresh_same k e p kind fresh =
    (elim (is_sought (head_of_edge e) p) as (λ b. is_sought (head_of_edge e) p ≡ b → b ≡ is_for_edge k e p) [
      | true ↦ λ t.
          let head = link_of_edge k fresh.of p fresh.leads in
          let ends = sought_ends e p kind t in
          let from : p.link.from_serial.0 ≡ present k.keys e.from = head.from_serial ∙ ap (present k.keys) (sym (source_is k fresh.of p.link fresh.kind head) ∙ ends.0) in
          let to : p.link.to_serial.0 ≡ present k.keys e.to = head.to_serial ∙ ap (present k.keys) (sym (target_is k fresh.of p.link fresh.kind head) ∙ ends.1) in
          sym (for_present k e p t
          ∙ and_from (p.link.from_serial.0 == present k.keys e.from) (p.link.to_serial.0 == present k.keys e.to)
          (eq-eqb p.link.from_serial.0 (present k.keys e.from) from) (eq-eqb p.link.to_serial.0 (present k.keys e.to) to))
      | false ↦ λ t. sym (false_from_ne_true (is_for_edge k e p) (λ passes. false≢true (sym t ∙ sought_for k e p passes)))
    ]) refl

more_lead : (k : KeyState) (placed more : List PlacedLink) (e : Edge) → HasKind e → ((p : PlacedLink) → In p more → IsFresh k p) → LeadsOn k placed e → LeadsOn k (placed ++ more) e
more_lead k placed more e kind fresh leads =
    let test = is_for_edge k e in
    let sought = is_sought (head_of_edge e) in
    let behind = last_one test placed in
    ap (only_if test) (last_of_both sought placed more ∙ ap (λ o. later_or o (last_one sought placed)) (same_last sought test more (λ p i. fresh_same k e p kind (fresh p i))))
    ∙ (elim (last_one test more) as (λ o. last_one test more ≡ o → only_if test (later_or o (last_one sought placed)) ≡ later_or o behind) [
      | Some q ↦ λ is. ap (λ b. cond b (Some q) None) (last_passes test more q is)
      | None ↦ λ is. leads
    ]) refl
    ∙ sym (last_of_both test placed more)

fresh_spent : (k : KeyState) (p : PlacedLink) → ((r : Role) (n : ℕ) → newest k.keys r ≡ Some n → n < next_serial k) → ZeroIsOwners k → IsFresh k p →
    (p.link.from_serial.0 < next_serial k) × (p.link.to_serial.0 < next_serial k) × (p.link.from_serial.0 ≡ 0 → source_role p.link ≡ Owner) × (p.link.to_serial.0 ≡ 0 → ⊥)
fresh_spent k p low zero fresh =
    let e = fresh.of in
    let head = link_of_edge k e p fresh.leads in
    let from : p.link.from_serial.0 ≡ fresh.from_key.0 = head.from_serial ∙ present_some k e.from fresh.from_key.0 fresh.from_key.1 in
    let to : p.link.to_serial.0 ≡ fresh.to_key.0 = head.to_serial ∙ present_some k e.to fresh.to_key.0 fresh.to_key.1 in (
      subst (λ n. n < next_serial k) (sym from) (low e.from fresh.from_key.0 fresh.from_key.1),
      subst (λ n. n < next_serial k) (sym to) (low e.to fresh.to_key.0 fresh.to_key.1),
      λ none. source_is k e p.link fresh.kind head ∙ zero e.from (fresh.from_key.1 ∙ ap Some (sym from ∙ none)),
      λ none. fresh.to_other (zero e.to (fresh.to_key.1 ∙ ap Some (sym to ∙ none))),
    )

spent_on : (old new : KeyState) (placed more : List PlacedLink) → AreSpent old placed → next_serial old ≤ next_serial new → ((r : Role) (n : ℕ) → newest new.keys r ≡ Some n → n < next_serial new) → ZeroIsOwners new →
    ((p : PlacedLink) → In p more → IsFresh new p) → AreSpent new (placed ++ more)
spent_on old new placed more spent grows low zero fresh = record {
  below = λ p i. ⊎_elim
      (λ a. let both = spent.below p a in let from : p.link.from_serial.0 < next_serial old = both.0 in let to : p.link.to_serial.0 < next_serial old = both.1 in (omega (arith, grows, from), omega (arith, grows, to)))
      (λ b. let told = fresh_spent new p low zero (fresh p b) in (told.0, told.1))
      ((In-append PlacedLink p placed more).0 i);
  from_owner = λ p i none. ⊎_elim (λ a. spent.from_owner p a none) (λ b. (fresh_spent new p low zero (fresh p b)).2 none) ((In-append PlacedLink p placed more).0 i);
  to_other = λ p i none. ⊎_elim (λ a. spent.to_other p a none) (λ b. (fresh_spent new p low zero (fresh p b)).3 none) ((In-append PlacedLink p placed more).0 i);
}

-- ---- a step of the keys

numbered_low : (k : ℕ) (rs : List Role) (r : Role) (n : ℕ) → newest (numbered k rs) r ≡ Some n → k ≤ n
unfolding newest numbered
numbered_low k [] r n = λ e. absurd cc
numbered_low k (x ∷ xs) r n =
    elim (same_role x r) as (λ b. cond b (Some k) (newest (numbered (k + 1) xs) r) ≡ Some n → k ≤ n) [
      | true ↦ λ e. let same : k ≡ n = cc in omega (arith, same)
      | false ↦ λ e. let low : k + 1 ≤ n = numbered_low (k + 1) xs r n e in omega (arith, low)
    ]

numbered_of : (n : ℕ) (es : List Edge) (q : Edge × ℕ) → In q (numbered n es) → In q.0 es
unfolding numbered
numbered_of n [] q i = i
numbered_of n (x ∷ xs) q i = ⊎_elim (λ s. inl (ap (λ (z : Edge × ℕ). z.0) s)) (λ r. inr (numbered_of (n + 1) xs q r)) i

module _ (s t : Store) (k : KeyState) (c : Change) (links : List Link) (mv : IsMove s c t) (ok : KeysHold s k links) where
  abbrev keys : List (Role × ℕ)
  keys = keys_then k c (renewed k (edges s) c)

  key_goes : (r : Role) → (newest keys r ≡ newest k.keys r) ⊎ (((n : ℕ) × (newest keys r ≡ Some n) × (next_serial k ≤ n)) ⊎ (newest keys r ≡ None))
  unfolding keys_then given
  key_goes r =
      let p = renewed k (edges s) c in
      let came = numbered (next_serial k) (p ++ c.fresh) in
      ⊎_elim
      (λ i. let w = numbered-some (next_serial k) (p ++ c.fresh) r i in
      inr (inl (w.0, newest-first came (keys_without (p ++ c.gone) k.keys) r w.0 w.1, numbered_low (next_serial k) (p ++ c.fresh) r w.0 w.1)))
      (λ out. ⊎_elim
      (λ g. inr (inr (no_key s t k c links mv ok r out g)))
      (λ stays. inl (same_key s t k c links mv ok r out stays))
      (in_or s t k c links mv ok r c.gone))
      (in_or s t k c links mv ok r (p ++ c.fresh))

  -- a link that the step publishes is one for an edge that stands then
  link_stands : (n : ℕ) (l : Link) → In l (links_from keys n (published_edges (edges s) c (renewed k (edges s) c))) →
      (e : Edge) × IsEdge t e × (l.edge ≡ e) × (l.from_serial ≡ present keys e.from) × (l.to_serial ≡ present keys e.to)
  unfolding links_from link_of published_edges
  link_stands n l i =
      let es = published_edges (edges s) c (renewed k (edges s) c) in
      let w = (In-map (Edge × ℕ) Link (link_of keys) l (numbered n es)).0 i in
      let e = w.0.0 in
      let there = In-filter Edge (is_published c (renewed k (edges s) c)) e (edges_then (edges s) c) (numbered_of n es w.0 w.1) in
      (e, (mv.leads e).0 ((then_told s c e).0 there.0), ap (λ (x : Link). x.edge) w.2, ap (λ (x : Link). x.from_serial) w.2, ap (λ (x : Link). x.to_serial) w.2)

-- ---- an edge that stands is of one of the eleven kinds

kinded : (kind : ℕ) (a b : Role) → 1 ≤ kind → kind ≤ 11 → role_with (kind_from kind) (role_id a) ≡ a → role_with (kind_to kind) (role_id b) ≡ b → HasKind (edge kind a b)
unfolding edge
kinded kind a b low high source target = record { from_one = low; to_eleven = high; source = source; target = target }

own_kind : (f : ℕ) (e : Edge) → In e (folder_edges f) → HasKind e
unfolding folder_edges role_with kind_from kind_to row_numbered role_id clear_of sub_of back_of files_of data_of
own_kind f e i =
    let is : (d : Edge) → HasKind d → e ≡ d → HasKind e = λ d kind s. subst HasKind (sym s) kind in
    ⊎_elim (is (edge 1 Owner (clear_of f)) (kinded 1 Owner (clear_of f) (omega arith) (omega arith) refl refl))
    (λ a. ⊎_elim (is (edge 3 (clear_of f) (sub_of f)) (kinded 3 (clear_of f) (sub_of f) (omega arith) (omega arith) refl refl))
    (λ b. ⊎_elim (is (edge 4 (sub_of f) (back_of f)) (kinded 4 (sub_of f) (back_of f) (omega arith) (omega arith) refl refl))
    (λ c. ⊎_elim (is (edge 5 (sub_of f) (files_of f)) (kinded 5 (sub_of f) (files_of f) (omega arith) (omega arith) refl refl))
    (λ d. ⊎_elim (is (edge 7 (back_of f) (data_of f)) (kinded 7 (back_of f) (data_of f) (omega arith) (omega arith) refl refl)) (λ n. absurd n) d) c) b) a) i

parent_kind : (f p : ℕ) (e : Edge) → In e (parent_edges f p) → HasKind e
unfolding parent_edges role_with kind_from kind_to row_numbered role_id sub_of back_of
parent_kind f p e i =
    let is : (d : Edge) → HasKind d → e ≡ d → HasKind e = λ d kind s. subst HasKind (sym s) kind in
    ⊎_elim (is (edge 6 (sub_of p) (sub_of f)) (kinded 6 (sub_of p) (sub_of f) (omega arith) (omega arith) refl refl))
    (λ a. ⊎_elim (is (edge 8 (back_of f) (back_of p)) (kinded 8 (back_of f) (back_of p) (omega arith) (omega arith) refl refl)) (λ n. absurd n) a) i

grant_kind : (h f : ℕ) → HasKind (grant_edge h f)
unfolding grant_edge role_with kind_from kind_to row_numbered role_id holder_role clear_of
grant_kind h f = kinded 2 (holder_role h) (clear_of f) (omega arith) (omega arith) refl refl

file_kind : (f x : ℕ) → HasKind (file_edge f x)
unfolding file_edge role_with kind_from kind_to row_numbered role_id files_of file_role
file_kind f x = kinded 9 (files_of f) (file_role x) (omega arith) (omega arith) refl refl

clearance_kind : (f x : ℕ) (e : Edge) → In e (clearance_edges f x) → HasKind e
unfolding clearance_edges role_with kind_from kind_to row_numbered role_id clear_of back_of file_role
clearance_kind f x e i =
    let is : (d : Edge) → HasKind d → e ≡ d → HasKind e = λ d kind s. subst HasKind (sym s) kind in
    let c = clear_of (clear_number x) in
    ⊎_elim (is (edge 1 Owner c) (kinded 1 Owner c (omega arith) (omega arith) refl refl))
    (λ a. ⊎_elim (is (edge 10 c (file_role x)) (kinded 10 c (file_role x) (omega arith) (omega arith) refl refl))
    (λ b. ⊎_elim (is (edge 11 c (back_of f)) (kinded 11 c (back_of f) (omega arith) (omega arith) refl refl)) (λ n. absurd n) b) a) i

pub edge_kind : (s : Store) (e : Edge) → IsEdge s e → HasKind e
edge_kind s e w = ⊎_elim
    (λ (o : IsOwnEdge s e). own_kind o.0.id e o.2)
    (λ v. ⊎_elim
    (λ (p : IsParentEdge s e). parent_kind p.0.id p.0.parent e p.3)
    (λ u. ⊎_elim
    (λ (g : IsGrantEdge s e). subst HasKind (sym g.2) (grant_kind g.0.holder g.0.folder))
    (λ y. ⊎_elim
    (λ (x : IsFileEdge s e). subst HasKind (sym x.2) (file_kind x.0.folder x.0.id))
    (λ (c : IsClearanceEdge s e). clearance_kind c.0.folder c.0.id e c.3) y) u) v) w

-- ---- the links of a payload that fits

owner_is_root : is_root_role Owner ≡ true
unfolding is_root_role variant_of
owner_is_root = refl

note_goes : (at : Stand) (note : Note) (links : List Link) → fits (is_strict at.keys) at.store note ≡ true → StandHolds at links → (r : Role) → GoesTo at.keys (told_stand at note).keys r
unfolding told_stand told_step note_step key_step step_with published
note_goes at note links t ok r = key_goes at.store (told_store at.store note) at.keys (change_of (is_strict at.keys) at.store note) links (note_moves (is_strict at.keys) at.store note t ok.store) ok.keys r

note_stands : (at : Stand) (note : Note) (links : List Link) → fits (is_strict at.keys) at.store note ≡ true → StandHolds at links → (l : Link) → In l (told_step at note).links →
    (e : Edge) × IsEdge (told_stand at note).store e × (l.edge ≡ e) × (l.from_serial ≡ present (told_stand at note).keys.keys e.from) × (l.to_serial ≡ present (told_stand at note).keys.keys e.to)
unfolding told_stand told_step note_step key_step step_with published
note_stands at note links t ok l i =
    let c = change_of (is_strict at.keys) at.store note in
    link_stands at.store (told_store at.store note) at.keys c links (note_moves (is_strict at.keys) at.store note t ok.store) ok.keys (next_serial at.keys + length (given at.keys c (renewed at.keys (edges at.store) c))) l i

note_ends : (at : Stand) (note : Note) (links : List Link) → fits (is_strict at.keys) at.store note ≡ true → StandHolds at links → (e : Edge) → IsEdge (told_stand at note).store e → HasRole (told_stand at note).store e.from × HasRole (told_stand at note).store e.to
unfolding told_stand
note_ends at note links t ok e stands = (note_moves (is_strict at.keys) at.store note t ok.store).ends_after e stands

note_fresh : (at : Stand) (note : Note) (links : List Link) → fits (is_strict at.keys) at.store note ≡ true → StandHolds at links → (l : Link) → In l (told_step at note).links → (p : PlacedLink) → has_link_head l p.link ≡ true →
    IsFresh (told_stand at note).keys p
note_fresh at note links t ok l i p head =
    let after = told_stand at note in
    let keys = note_keys at note links t ok.store ok.keys in
    let w = note_stands at note links t ok l i in
    let e = w.0 in
    let ends = note_ends at note links t ok e w.1 in
    record {
      of = e;
      kind = edge_kind after.store e w.1;
      leads = for_edge after.keys e l p head w.2 w.3 w.4;
      from_key = (keys.keyed e.from).0 ends.0;
      to_key = (keys.keyed e.to).0 ends.1;
      to_other = λ is. false≢true (sym (typed after.store e ((edges_told after.store e).1 w.1)).0 ∙ ap is_root_role is ∙ owner_is_root);
    }

due_of : {X Y : Type 0} (is_due : X → Y → Bool) (xs : List X) (ys : List Y) (y : Y) → are_due is_due xs ys ≡ true → In y ys → (x : X) × In x xs × (is_due x y ≡ true)
unfolding are_due
due_of is_due [] [] y t i = absurd i
due_of is_due [] (b ∷ ys) y t i = absurd (false≢true t)
due_of is_due (a ∷ xs) [] y t i = absurd i
due_of {X} is_due (a ∷ xs) (b ∷ ys) y t i =
    let both = and_parts (is_due a b) (are_due is_due xs ys) t in ⊎_elim
    (λ (q : y ≡ b). let told : (x : X) × In x (a ∷ xs) × (is_due x y ≡ true) = (a, inl refl, ap (is_due a) q ∙ both.0) in told)
    (λ u. let w = due_of is_due xs ys y both.1 u in let told : (x : X) × In x (a ∷ xs) × (is_due x y ≡ true) = (w.0, inr w.1, w.2) in told) i

record_of : (batch at : ℕ) (links : List LinkRecord) (p : PlacedLink) → In p (links_at batch at links) → In p.link links
unfolding links_at
record_of batch at [] p i = absurd i
record_of batch at (l ∷ links) p i = ⊎_elim (λ (e : p ≡ record { batch = batch; at = at; link = l }). inl (ap (λ (q : PlacedLink). q.link) e)) (λ j. inr (record_of batch (at + 98) links p j)) i

payload_note : (at : Stand) (q : PlainPayload) → payload_fits at q ≡ true → note_fits at (told_note q.note) (told_step at (told_note q.note)) ≡ true
unfolding payload_fits fits_step
payload_note at q t =
    let step = told_step at (told_note q.note) in
    (and_parts (note_fits at (told_note q.note) step) (has_heads step q) t).0

payload_fresh : (at : Stand) (q : PlainPayload) (links : List Link) (batch place : ℕ) → payload_fits at q ≡ true → StandHolds at links → (p : PlacedLink) → In p (body_links batch place (Commands q)) →
    IsFresh (told_stand at (told_note q.note)).keys p
unfolding payload_fits fits_step has_heads body_links
payload_fresh at q links batch place t ok p i =
    let note = told_note q.note in
    let step = told_step at note in
    let fit = and_parts (note_fits at note step) (are_due has_link_head step.links q.links && are_due has_content_head step.contents q.contents) t in
    let heads = and_parts (are_due has_link_head step.links q.links) (are_due has_content_head step.contents q.contents) fit.1 in
    let d = due_of has_link_head step.links q.links p.link heads.0 (record_of batch (place + link_offset q 0) q.links p i) in
    note_fresh at note links (fit_told at note fit.0).0 ok d.0 d.1 p d.2

-- ---- the counter

grown : (a c g e p : ℕ) → a + c ≤ a + (c + g + e + p)
grown a c g e p = omega arith

note_grows : (at : Stand) (note : Note) → next_serial at.keys ≤ next_serial (told_stand at note).keys
unfolding told_stand told_step note_step key_step step_with published next_serial
note_grows at note =
    let c = change_of (is_strict at.keys) at.store note in
    let p = renewed at.keys (edges at.store) c in
    grown (at.keys.epoch * 2 ^ 32) at.keys.count (length (given at.keys c p)) (length (published_edges (edges at.store) c p)) (length (pieces_of note (told_store at.store note)))

note_begun : (at : Stand) (note : Note) → note_fits at note (told_step at note) ≡ true → 0 < next_serial at.keys
unfolding note_fits next_serial
note_begun at note t =
    let some : 0 < at.keys.epoch = ltb-true 0 at.keys.epoch (and_parts (nat_lt 0 at.keys.epoch) (fits (is_strict at.keys) at.store note && has_count (told_step at note)) t).0 in
    omega (arith, some)

zero_stays : (old new : KeyState) → 0 < next_serial old → ((r : Role) → GoesTo old new r) → ZeroIsOwners old → ZeroIsOwners new
zero_stays old new some goes zero = λ r is. ⊎_elim
    (λ same. zero r (sym same ∙ is))
    (λ v. ⊎_elim
    (λ w. let given : newest new.keys r ≡ Some w.0 = w.1 in let none : w.0 ≡ 0 = cc in let low : next_serial old ≤ w.0 = w.2 in absurd (omega (arith, some, none, low)))
    (λ none. absurd cc) v)
    (goes r)

-- ---- a log

record Lasts (at : Stand) (placed : List PlacedLink) : Type 0 where
  pub holds : (links : List Link) × StandHolds at links
  pub spent : AreSpent at.keys placed
  pub zero : ZeroIsOwners at.keys
  pub leads : (e : Edge) → HasKind e → LeadsOn at.keys placed e

payload_lasts : (at : Stand) (q : PlainPayload) (batch place : ℕ) (before : List PlacedLink) → payload_fits at q ≡ true → Lasts at before → Lasts (told_stand at (told_note q.note)) (before ++ body_links batch place (Commands q))
payload_lasts at q batch place before t lasts =
    let note = told_note q.note in
    let links = lasts.holds.0 in
    let ok = lasts.holds.1 in
    let more = body_links batch place (Commands q) in
    let new = (told_stand at note).keys in
    let fit = payload_note at q t in
    let after = payload_holds at q links t ok in
    let goes = note_goes at note links (fit_told at note fit).0 ok in
    let fresh = payload_fresh at q links batch place t ok in
    let zero = zero_stays at.keys new (note_begun at note fit) goes lasts.zero in
    record {
      holds = (links ++ (told_step at note).links, after);
      spent = spent_on at.keys new before more lasts.spent (note_grows at note) after.serials.below zero fresh;
      zero = zero;
      leads = λ e kind. more_lead new before more e kind fresh
          (stood_lead at.keys new before lasts.spent goes (λ none. let some = (after.keys.keyed Owner).0 tt in let is : newest new.keys Owner ≡ Some some.0 = some.1 in cc) e kind (lasts.leads e kind));
    }

epoch_lasts : (at : Stand) (before : List PlacedLink) → Lasts at before → Lasts (record at { keys = next_epoch at.keys }) before
unfolding next_epoch next_serial is_for_edge
epoch_lasts at before lasts =
    let low : at.keys.count < 2 ^ 32 = lasts.holds.1.count in
    record {
      holds = (lasts.holds.0, unfold next_epoch in epoch_stands at lasts.holds.0 lasts.holds.1);
      spent = record {
        below = λ p i. let both = lasts.spent.below p i in
            let from : p.link.from_serial.0 < at.keys.epoch * 2 ^ 32 + at.keys.count = both.0 in
            let to : p.link.to_serial.0 < at.keys.epoch * 2 ^ 32 + at.keys.count = both.1 in
            (omega (arith, low, from), omega (arith, low, to));
        from_owner = lasts.spent.from_owner;
        to_other = lasts.spent.to_other;
      };
      zero = lasts.zero;
      leads = lasts.leads;
    }

owner_first : (r : Role) → newest ((Owner, 0) ∷ []) r ≡ Some 0 → r ≡ Owner
unfolding newest
owner_first r is = passed (same_role Owner r) (λ t. sym ((same_role_tells Owner r).0 t)) is
  where
    passed : (b : Bool) → (b ≡ true → r ≡ Owner) → cond b (let n : Option ℕ = Some 0 in n) None ≡ Some 0 → r ≡ Owner
    passed true so e = so refl
    passed false so e = absurd cc

first_lasts : Lasts (record nothing { keys = next_epoch nothing.keys }) []
unfolding last_one
first_lasts = record {
  holds = ([], first_stands);
  spent = record { below = λ p i. absurd i; from_owner = λ p i. absurd i; to_other = λ p i. absurd i };
  zero = unfold nothing no_keys next_epoch in owner_first;
  leads = λ e kind. refl;
}

-- behind the payloads of a log that fit, the last link of an edge is the one to follow, or there is none
pub newest_is_last : (log : List PlainPlaced) (stand : Stand) (e : Edge) → folded nothing log ≡ Ok stand → HasKind e → newest_for stand.keys log e ≡ link_for stand.keys log e
unfolding newest_for link_for log_links last_one
newest_is_last [] stand e folds kind = refl
newest_is_last (p ∷ log) stand e folds kind = (log_each Lasts payload_lasts epoch_lasts first_lasts p log stand folds).leads e kind

-- so a link that was found in a log is the one that a reading of it finds
pub link_told : (state : PublicView) (log : List PlainPlaced) (r : Reading) (e : Edge) (found : Option PlacedLink) → IsReadingIn state log r → HasKind e → found ≡ newest_for state.keys log e →
    found ≡ link_for r.stand.keys r.log e
link_told state log r e found of_log kind is =
    is
    ∙ ap (λ (k : KeyState). newest_for k log e) (sym of_log.1.keys)
    ∙ newest_is_last log r.stand e of_log.2 kind
    ∙ ap (λ ps. link_for r.stand.keys ps e) (sym of_log.0)
