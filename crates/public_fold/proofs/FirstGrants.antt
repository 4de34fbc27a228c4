-- What the first grant on a file publishes.
use Rattle.std.proofs.Common.{◌≡◌, ℕ, ◌-◌, Bool, true, false, cond, not, ◌&&◌, Some, None, [], ◌∷◌, ◌++◌, filter, length, refl, sym, ap, ◌∙◌}
use Rattle.std.proofs.lemmas.Bool.{false≢true, not-true}
use Rattle.std.proofs.lemmas.List.Elements.{filter-append}
use Rattle.cry_base.specs.Clearances.{clear_base, clear_number, is_clear_number}
use Rattle.cry_base.specs.Sets.{has}
use Rattle.cry_base.specs.Store.{Store}
use Rattle.cry_base.specs.declared.roles.Edge.{Edge}
use Rattle.role_graph.specs.Edges.{clearance_edges, edge, edge_before, edges, grant_edge, has_grants, in_order, put_in_order}
use Rattle.role_graph.specs.Roles.{clear_of}
use Rattle.role_graph.proofs.AtEnds.{touches}
use Rattle.record_format.specs.Noted.Note.{Give}
use Rattle.move_plan.specs.Change.{Change, change_of, edges_of_first, folder_of_file, given_on, is_first_grant, is_upgrade, no_change, row_change, strict_of}
use Rattle.move_plan.specs.Fitting.{fits}
use Rattle.public_fold.specs.Fitted.{told_step}
use Rattle.public_fold.specs.Journal.{Stand, note_step}
use Rattle.public_fold.specs.KeyStep.{KeyState, edges_left, edges_then, given, is_published, is_strict, key_step, next_serial, numbered, published, published_edges, renewed, step_with}
use Rattle.public_fold.specs.Records.{pieces_of}
use Rattle.public_fold.specs.Rooted.{MayStand}
use Rattle.public_fold.proofs.FoundEdges.{added_published, left_touches}
use Rattle.public_fold.proofs.GrantLaws.{as_many_links, no_one, none_renewed, none_strict, order_counts}

-- a file's first grant, with its clearance
abbrev first_give : Store → ℕ → ℕ → Change
first_give s h f = record no_change { fresh = clear_of f ∷ []; added = edges_of_first s h (f - clear_base) }

first_is : (s : Store) (h f : ℕ) → is_first_grant s f ≡ true → row_change s (Give h f) ≡ first_give s h f
unfolding row_change given_on is_first_grant
first_is s h f t =
    (elim (is_clear_number f) as (λ b. (b && not (has_grants s f)) ≡ true → given_on s h f (cond b (Some (f - clear_base)) None) ≡ first_give s h f) [
      | true ↦ λ u. ap (λ b. cond b (record no_change { added = grant_edge h f ∷ [] }) (first_give s h f)) (not-true (has_grants s f) u)
      | false ↦ λ u. absurd (false≢true u)
    ]) t

first_parts : (s : Store) (h f : ℕ) → ((first_give s h f).removed ≡ []) × ((first_give s h f).gone ≡ []) × ((first_give s h f).strict ≡ []) × ((first_give s h f).wanted ≡ [])
unfolding no_change
first_parts s h f = (refl, refl, refl, refl)

no_upgrade : (h f : ℕ) → is_upgrade (Give h f) ≡ false
unfolding is_upgrade
no_upgrade h f = refl

first_change : (strict : Bool) (s : Store) (h f : ℕ) → is_first_grant s f ≡ true → change_of strict s (Give h f) ≡ first_give s h f
unfolding change_of no_change
first_change strict s h f t =
    let row = first_is s h f t in
    let told = first_parts s h f in
    let none : strict_of strict s (Give h f) (row_change s (Give h f)) ≡ [] = ap (strict_of strict s (Give h f)) row ∙ none_strict strict s (Give h f) (first_give s h f) (no_upgrade h f) told.0 told.1 in
    λ i. record (row i) { strict = none i }

-- four edges come
four_edges : (h q x : ℕ) → length (in_order edge_before (grant_edge h (clear_number x) ∷ clearance_edges q x)) ≡ 4
unfolding in_order put_in_order edge_before grant_edge clearance_edges edge
four_edges h q x = refl

four_come : (s : Store) (h f : ℕ) → length (first_give s h f).added ≡ 4
unfolding no_change edges_of_first
four_come s h f = four_edges h (folder_of_file s (f - clear_base)) (f - clear_base)

never_touched : (e : Edge) → touches [] e ≡ false
unfolding has
never_touched e = refl

-- and these alone are published
first_edges : (strict : Bool) (s : Store) (h f : ℕ) → fits strict s (Give h f) ≡ true → MayStand s → length (published_edges (edges s) (change_of strict s (Give h f)) []) ≡ length (change_of strict s (Give h f)).added
unfolding published_edges edges_then
first_edges strict s h f fit stands =
    let c = change_of strict s (Give h f) in
    let left = edges_left (edges s) c in
    let none : filter (is_published c []) left ≡ [] = no_one Edge (is_published c []) left (λ e i t.
    false≢true (sym (never_touched e) ∙ sym (left_touches strict s (Give h f) fit stands [] e i) ∙ t)) in
    order_counts Edge edge_before (is_published c []) (left ++ c.added)
    ∙ ap length (filter-append (is_published c []) left c.added ∙ (λ i. none i ++ added_published c [] i))

first_taken : (s : Store) (k : KeyState) (h f n : ℕ) → length (published_edges (edges s) (first_give s h f) []) ≡ n
    → (length (key_step k (edges s) (first_give s h f) []).links ≡ n) × ((key_step k (edges s) (first_give s h f) []).given ≡ (clear_of f, next_serial k) ∷ [])
unfolding key_step step_with published given numbered
first_taken s k h f n many =
    let c = first_give s h f in
    let told = first_parts s h f in
    let none = none_renewed k (edges s) c told.2 told.3 in (
      as_many_links _ _ (published_edges (edges s) c (renewed k (edges s) c)) ∙ ap (λ l. length (published_edges (edges s) c l)) none ∙ many,
      unfold no_change in ap (λ l. numbered (next_serial k) (l ++ clear_of f ∷ [])) none,
    )

-- the first grant on a file publishes four links, and gives the file's clearance key
pub first_step : (at : Stand) (h f : ℕ) → fits (is_strict at.keys) at.store (Give h f) ≡ true → MayStand at.store → is_first_grant at.store f ≡ true
    → (length (told_step at (Give h f)).links ≡ 4) × ((told_step at (Give h f)).given ≡ (clear_of f, next_serial at.keys) ∷ [])
unfolding told_step note_step pieces_of
first_step at h f fit stands first =
    let s = at.store in
    let strict = is_strict at.keys in
    let same = first_change strict s h f first in
    let four = sym (ap (λ (c : Change). length (published_edges (edges s) c [])) same) ∙ first_edges strict s h f fit stands ∙ ap (λ (c : Change). length c.added) same ∙ four_come s h f in
    let told = first_taken s at.keys h f 4 four in (
      ap (λ c. length (key_step at.keys (edges s) c []).links) same ∙ told.0,
      ap (λ c. (key_step at.keys (edges s) c []).given) same ∙ told.1,
    )
