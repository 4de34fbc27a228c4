-- What a grant publishes, and which keys that seal names and files are renewed.
use Rattle.std.proofs.Common.{◌≡◌, ℕ, suc, ◌-◌, Bool, true, false, cond, not, ◌&&◌, ◌||◌, Some, None, List, [], ◌∷◌, ◌++◌, filter, length, inl, inr, ⊎_elim, refl, sym, ap, ◌∙◌, subst}
use Rattle.std.proofs.lemmas.Bool.{and_parts, false≢true, not-true}
use Rattle.std.proofs.lemmas.List.{length-map}
use Rattle.std.proofs.lemmas.List.Elements.{filter-append}
use Rattle.cry_base.specs.Clearances.{clear_base, is_clear_number}
use Rattle.cry_base.specs.Sets.{In, has}
use Rattle.cry_base.specs.Sets.Path.{Here, On}
use Rattle.cry_base.specs.Store.{Store, GrantEntry, has_grant}
use Rattle.cry_base.specs.declared.roles.Edge.{Edge}
use Rattle.cry_base.specs.declared.roles.Role.{Role}
use Rattle.cry_base.proofs.Members.{In-append, In-map}
use Rattle.grant_book.proofs.Ordered.{any_grant_told}
use Rattle.role_graph.specs.Ascending.{ascending}
use Rattle.role_graph.specs.Edges.{Reaches, edge_before, edges, grant_edge, has_grants, in_order, pairs_of, put_in_order, same_edge}
use Rattle.role_graph.specs.Roles.{clear_of, is_sealing_role}
use Rattle.role_graph.proofs.Edging.{edges_told}
use Rattle.role_graph.proofs.Rising.{ascending_told}
use Rattle.role_graph.proofs.Typing.{typed}
use Rattle.rekey_walk.specs.Dirty.{leads_to_any, plan}
use Rattle.rekey_walk.specs.Strict.{strict_roles}
use Rattle.rekey_walk.proofs.Marking.{plan_told}
use Rattle.rekey_walk.proofs.Sources.{strict_told}
use Rattle.record_format.specs.Noted.{Note}
use Rattle.record_format.specs.Noted.Note.{Give}
use Rattle.move_plan.specs.Change.{Change, change_of, edges_of_first, given_on, inner_roles, is_first_grant, is_upgrade, no_change, row_change, strict_of}
use Rattle.move_plan.specs.Fitting.{fits, folder_stands, needs_root, row_fits}
use Rattle.public_fold.specs.Fitted.{told_step}
use Rattle.public_fold.specs.Journal.{Stand, note_step}
use Rattle.public_fold.specs.KeyStep.{KeyState, contents_from, dirty_left, edges_left, is_strict, planned, edges_then, given, is_published, key_step, link_of, links_from, next_serial, numbered, published, published_edges, renewed, step_with}
use Rattle.public_fold.specs.Records.{pieces_of}
use Rattle.public_fold.proofs.EdgesThen.{apart, clear_kind, edge_cases, file_kind, grant_edge-ids, grant_kind, is_kind, left_told, own_no_grant, parent_no_grant}
use Rattle.role_graph.proofs.AtEnds.{same_edge_tells}
use Rattle.public_fold.proofs.Serials.{numbered-length}

-- ---- keys that seal are renewed only where they are wanted

no_way : (s : Store) (es : List Edge) → ((e : Edge) → In e es → In e (edges s)) → (r w : Role) → is_sealing_role r ≡ true → Reaches es r w → r ≡ w
unfolding pairs_of
no_way s es sub r _ t Here = refl
no_way s es sub r _ t (On {b = b} {c = c} way step) =
    let same : r ≡ b = no_way s es sub r b t way in
    let w = (In-map Edge (Role × Role) (λ e. (e.from, e.to)) (b, c) es).0 step in
    absurd (false≢true (sym (typed s w.0 (sub w.0 w.1)).1 ∙ subst (λ z. is_sealing_role z ≡ true) (same ∙ ap (λ (p : Role × Role). p.0) w.2) t))

in_wanted : (r w : Role) (wanted : List Role) → r ≡ w → In w wanted → In r wanted
in_wanted r w wanted same i = subst (λ z. In z wanted) (sym same) i

pub sealing_wanted : (s : Store) (k : KeyState) (c : Change) (r : Role) → is_sealing_role r ≡ true → (In r c.strict → ⊥) → In r (renewed k (edges s) c) → In r c.wanted
unfolding renewed planned
sealing_wanted s k c r t lazy i = ⊎_elim
    (λ u. absurd (lazy u))
    (λ p. let told = (plan_told _ (edges_left (edges s) c) c.wanted r).0 p in
    in_wanted r told.1.0 c.wanted (no_way s (edges_left (edges s) c) (λ e j. ((left_told (edges s) c e).0 j).0) r told.1.0 t told.1.2) told.1.1)
    ((In-append Role r c.strict _).0 ((ascending_told r _).0 i))

pub no_roles : (rs : List Role) → ((r : Role) → In r rs → ⊥) → rs ≡ []
no_roles [] none = refl
no_roles (r ∷ rs) none = absurd (none r (inl refl))

-- ---- a grant

none_lead : (es : List Edge) (dirty : List Role) → plan dirty es [] ≡ []
unfolding plan leads_to_any ascending
none_lead es [] = refl
none_lead es (r ∷ rs) = none_lead es rs

put_counts : (X : Type 0) (lt : X → X → Bool) (p : X → Bool) (x : X) (xs : List X) → length (filter p (put_in_order lt x xs)) ≡ length (filter p (x ∷ xs))
unfolding put_in_order
put_counts X lt p x [] = refl
put_counts X lt p x (y ∷ ys) = elim (lt y x) as (λ b. length (filter p (cond b (y ∷ put_in_order lt x ys) (x ∷ y ∷ ys))) ≡ length (filter p (x ∷ y ∷ ys))) [
  | true ↦ longer (p y) (p x) (put_counts X lt p x ys)
  | false ↦ refl
]
  where
    longer : (a b : Bool) → length (filter p (put_in_order lt x ys)) ≡ length (cond b (x ∷ filter p ys) (filter p ys))
        → length (cond a (y ∷ filter p (put_in_order lt x ys)) (filter p (put_in_order lt x ys))) ≡ length (cond b (x ∷ cond a (y ∷ filter p ys) (filter p ys)) (cond a (y ∷ filter p ys) (filter p ys)))
    longer true true e = ap suc e
    longer true false e = ap suc e
    longer false true e = e
    longer false false e = e

pub order_counts : (X : Type 0) (lt : X → X → Bool) (p : X → Bool) (xs : List X) → length (filter p (in_order lt xs)) ≡ length (filter p xs)
unfolding in_order
order_counts X lt p [] = refl
order_counts X lt p (x ∷ xs) = put_counts X lt p x (in_order lt xs) ∙ more (p x) (order_counts X lt p xs)
  where
    more : (b : Bool) → length (filter p (in_order lt xs)) ≡ length (filter p xs) → length (cond b (x ∷ filter p (in_order lt xs)) (filter p (in_order lt xs))) ≡ length (cond b (x ∷ filter p xs) (filter p xs))
    more true e = ap suc e
    more false e = e

pub no_one : (X : Type 0) (p : X → Bool) (xs : List X) → ((x : X) → In x xs → p x ≡ true → ⊥) → filter p xs ≡ []
no_one X p [] never = refl
no_one X p (x ∷ xs) never = elim (p x) as (λ b. p x ≡ b → cond b (x ∷ filter p xs) (filter p xs) ≡ []) [
  | true ↦ λ t. absurd (never x (inl refl) t)
  | false ↦ λ t. no_one X p xs (λ y i. never y (inr i))
] refl

-- the edge of a grant that doesn't stand is none of the store's
pub not_granted : (s : Store) (h f : ℕ) → has_grant s h f ≡ false → In (grant_edge h f) (edges s) → ⊥
unfolding has_grant
not_granted s h f none i =
    let kind = grant_kind h f (grant_edge h f) refl in edge_cases ⊥ s (grant_edge h f)
    (λ o. apart (is_kind 2 (grant_edge h f)) (own_no_grant o.0.id (grant_edge h f) o.2) kind.0)
    (λ p. apart (is_kind 2 (grant_edge h f)) (parent_no_grant p.0.id p.0.parent (grant_edge h f) p.3) kind.0)
    (λ g.
    let ids = grant_edge-ids h g.0.holder f g.0.folder g.2 in
    false≢true (sym none ∙ (any_grant_told h f s.grants).1 (subst (λ (z : GrantEntry). In z s.grants) (λ j. record { holder = sym ids.0 j; folder = sym ids.1 j }) g.1)))
    (λ x. apart (is_kind 2 (grant_edge h f)) (file_kind x.0.folder x.0.id (grant_edge h f) x.2).1 kind.0)
    (λ x. apart (is_kind 2 (grant_edge h f)) (clear_kind x.0.folder x.0.id (grant_edge h f) x.3).1 kind.0)
    ((edges_told s (grant_edge h f)).0 i)

-- a grant that makes no clearance
abbrev plain_give : ℕ → ℕ → Change
plain_give h f = record no_change { added = grant_edge h f ∷ [] }

not_false : (b : Bool) → not b ≡ false → b ≡ true
not_false true t = refl
not_false false t = absurd (false≢true (sym t))

give_is : (s : Store) (h f : ℕ) → is_first_grant s f ≡ false → row_change s (Give h f) ≡ plain_give h f
unfolding row_change given_on is_first_grant
give_is s h f t =
    (elim (is_clear_number f) as (λ b. (b && not (has_grants s f)) ≡ false → given_on s h f (cond b (Some (f - clear_base)) None) ≡ plain_give h f) [
      | true ↦ λ u. ap (λ b. cond b (plain_give h f) (record no_change { fresh = clear_of f ∷ []; added = edges_of_first s h (f - clear_base) })) (not_false (has_grants s f) u)
      | false ↦ λ u. refl
    ]) t

is_one : (b : Bool) → (b || false || false || false) ≡ true → b ≡ true
is_one true t = refl
is_one false t = t

-- of the edges then, the new grant's alone is published
new_alone : (s : Store) (h f : ℕ) → has_grant s h f ≡ false → (e : Edge) → In e (edges_left (edges s) (plain_give h f)) → is_published (plain_give h f) [] e ≡ true → ⊥
unfolding is_published has no_change
new_alone s h f none e i t =
    let same : e ≡ grant_edge h f = (same_edge_tells e (grant_edge h f)).0 (is_one (same_edge e (grant_edge h f)) t) in
    not_granted s h f none (subst (λ z. In z (edges s)) same ((left_told (edges s) (plain_give h f) e).0 i).0)

new_itself : (h f : ℕ) → filter (is_published (plain_give h f) []) (grant_edge h f ∷ []) ≡ grant_edge h f ∷ []
unfolding is_published has no_change
new_itself h f = ap (λ (b : Bool). cond (b || false || false || false) (grant_edge h f ∷ []) []) ((same_edge_tells (grant_edge h f) (grant_edge h f)).1 refl)

one_edge : (s : Store) (h f : ℕ) → has_grant s h f ≡ false → length (published_edges (edges s) (plain_give h f) []) ≡ 1
unfolding published_edges edges_then no_change
one_edge s h f none =
    let c = plain_give h f in
    let left = edges_left (edges s) c in
    order_counts Edge edge_before (is_published c []) (left ++ grant_edge h f ∷ [])
    ∙ ap length (filter-append (is_published c []) left (grant_edge h f ∷ []) ∙ (λ j. no_one Edge (is_published c []) left (new_alone s h f none) j ++ new_itself h f j))

-- no role is strict where no edge goes
pub none_strict : (strict : Bool) (s : Store) (note : Note) (row : Change) → is_upgrade note ≡ false → row.removed ≡ [] → row.gone ≡ [] → strict_of strict s note row ≡ []
unfolding strict_of
none_strict strict s note row other removed gone =
    (λ i. cond (other i) (inner_roles s) (cond strict (strict_roles (edges s) (removed i) (gone i)) [])) ∙ lazy strict
  where
    lazy : (b : Bool) → cond b (strict_roles (edges s) [] []) [] ≡ []
    lazy true = no_roles (strict_roles (edges s) [] []) (λ r i. ((strict_told (edges s) [] [] r).0 i).0.1)
    lazy false = refl

give_no_upgrade : (h f : ℕ) → is_upgrade (Give h f) ≡ false
unfolding is_upgrade
give_no_upgrade h f = refl

plain_removed : (h f : ℕ) → ((plain_give h f).removed ≡ []) × ((plain_give h f).gone ≡ []) × ((plain_give h f).strict ≡ []) × ((plain_give h f).wanted ≡ []) × ((plain_give h f).fresh ≡ [])
unfolding no_change
plain_removed h f = (refl, refl, refl, refl, refl)

give_change : (strict : Bool) (s : Store) (h f : ℕ) → is_first_grant s f ≡ false → change_of strict s (Give h f) ≡ plain_give h f
unfolding change_of no_change
give_change strict s h f t =
    let row = give_is s h f t in
    let told = plain_removed h f in
    let none : strict_of strict s (Give h f) (row_change s (Give h f)) ≡ [] = ap (strict_of strict s (Give h f)) row ∙ none_strict strict s (Give h f) (plain_give h f) (give_no_upgrade h f) told.0 told.1 in
    λ i. record (row i) { strict = none i }

-- nothing is renewed where nothing is strict or wanted
pub none_renewed : (k : KeyState) (es : List Edge) (c : Change) → c.strict ≡ [] → c.wanted ≡ [] → renewed k es c ≡ []
unfolding renewed planned ascending
none_renewed k es c strict wanted =
    (λ i. ascending (strict i ++ plan (dirty_left k es c) (edges_left es c) (wanted i))) ∙ ap ascending (none_lead (edges_left es c) (dirty_left k es c))

pub not_given_yet : (strict : Bool) (s : Store) (h f : ℕ) → fits strict s (Give h f) ≡ true → has_grant s h f ≡ false
unfolding fits row_fits
not_given_yet strict s h f t = not-true (has_grant s h f) (and_parts _ (not (has_grant s h f)) (and_parts _ (not (needs_root (Give h f)) || folder_stands s 1) t).0).1

pub as_many_links : (keys : List (Role × ℕ)) (n : ℕ) (es : List Edge) → length (links_from keys n es) ≡ length es
unfolding links_from
as_many_links keys n es = length-map (numbered n es) (link_of keys) ∙ numbered-length Edge n es

-- whatever stands, a grant that fits and makes no clearance publishes its one link, and gives no key
plain_step : (s : Store) (k : KeyState) (h f : ℕ) → has_grant s h f ≡ false
    → (length (key_step k (edges s) (plain_give h f) []).links ≡ 1) × ((key_step k (edges s) (plain_give h f) []).given ≡ [])
unfolding key_step step_with published given numbered
plain_step s k h f new =
    let c = plain_give h f in
    let told = plain_removed h f in
    let none = none_renewed k (edges s) c told.2 told.3 in (
      as_many_links _ _ (published_edges (edges s) c (renewed k (edges s) c))
          ∙ ap (λ (l : List Role). length (published_edges (edges s) c l)) none
          ∙ one_edge s h f new,
      (λ i. numbered (next_serial k) (none i ++ told.4 i)),
    )

pub grant_step : (at : Stand) (h f : ℕ) → fits (is_strict at.keys) at.store (Give h f) ≡ true → is_first_grant at.store f ≡ false → (length (told_step at (Give h f)).links ≡ 1) × ((told_step at (Give h f)).given ≡ [])
unfolding told_step note_step pieces_of
grant_step at h f fit later =
    let s = at.store in
    let strict = is_strict at.keys in
    let same = give_change strict s h f later in
    let told = plain_step s at.keys h f (not_given_yet strict s h f fit) in (
      ap (λ c. length (key_step at.keys (edges s) c []).links) same ∙ told.0,
      ap (λ c. (key_step at.keys (edges s) c []).given) same ∙ told.1,
    )

-- no grant publishes a content
pub grant_contents : (at : Stand) (h f : ℕ) → (told_step at (Give h f)).contents ≡ []
unfolding told_step note_step key_step step_with published pieces_of contents_from numbered
grant_contents at h f = refl
