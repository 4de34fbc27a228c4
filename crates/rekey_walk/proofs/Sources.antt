-- A role is strict where edges lead from it to where a removed edge begins; a walk against the edges finds these roles, in so many steps.
use Rattle.std.proofs.Common.{◌≡◌, ◌+◌, ◌*◌, ◌≤◌, ℕ, true, false, not, ◌↔◌, List, [], map, length, refl, sym, ◌∙◌, subst, arith}
use Rattle.std.proofs.lemmas.Bool.{and_parts, false≢true, not-true}
use Rattle.std.proofs.lemmas.List.{length-map}
use Rattle.cry_base.specs.Sets.{In, has}
use Rattle.cry_base.specs.Sets.Path.{Here, On}
use Rattle.cry_base.specs.Store.{Store}
use Rattle.cry_base.specs.declared.roles.Edge.{Edge}
use Rattle.cry_base.specs.declared.roles.Role.{Role}
use Rattle.cry_base.proofs.Members.{In-filter, In-map, filter-In}
use Rattle.cry_base.proofs.Reaching.{Path-on, has-in, in-has}
use Rattle.role_graph.specs.Adjacent.{HaveSame, count_from, count_into, edges_but}
use Rattle.role_graph.specs.Ascending.{IsAscending, ascending}
use Rattle.role_graph.specs.Closing.{IsReached, turned}
use Rattle.role_graph.specs.Edges.{Reaches, edges, reach_along, unordered}
use Rattle.role_graph.specs.Roles.{is_root_role, same_role}
use Rattle.role_graph.proofs.Comparing.{reach_along_told, same_role_tells}
use Rattle.role_graph.proofs.Growing.{edge_pair, turned_told}
use Rattle.role_graph.proofs.Rising.{ascending_ascends, ascending_told, same_list}
use Rattle.rekey_walk.specs.Strict.{may_renew, sources_of, strict_look_ups, strict_roles}
use Rattle.rekey_walk.proofs.ByWalks.{none_but, plan_walked, same_leading}
use Rattle.rekey_walk.proofs.Planning.{filter_ascends}

-- ---- by paths

not_there : (gone : List Role) (r : Role) → (In r gone → ⊥) → has same_role gone r ≡ false
not_there gone r none = elim (has same_role gone r) as (λ b. has same_role gone r ≡ b → b ≡ false) [
  | true ↦ λ e. absurd (none (has-in Role same_role same_role_tells gone r e))
  | false ↦ λ e. refl
] refl

pub may_renew_told : (gone : List Role) (r : Role) → may_renew gone r ≡ true ↔ ((is_root_role r ≡ false) × (In r gone → ⊥))
unfolding may_renew
may_renew_told gone r = (
  λ h. let both = and_parts (not (is_root_role r)) (not (has same_role gone r)) h in
      (not-true (is_root_role r) both.0, λ i. false≢true (sym (not-true (has same_role gone r) both.1) ∙ in-has Role same_role same_role_tells gone r i)),
  λ w. rw (w.0, not_there gone r w.1) refl,
)

module _ (es removed : List Edge) (gone : List Role) where
  pub strict_told : (r : Role) → In r (strict_roles es removed gone)
      ↔ (((e : Edge) × In e removed × Reaches es r e.from) × ((is_root_role r ≡ false) × (In r gone → ⊥)))
  unfolding strict_roles sources_of
  strict_told r = (
    λ i. let both = In-filter Role (may_renew gone) r (ascending (reach_along (turned es) (map (λ (e : Edge). e.from) removed))) i in
        let reached = (reach_along_told (turned es) (map (λ (e : Edge). e.from) removed) r).0 ((ascending_told r (reach_along (turned es) (map (λ (e : Edge). e.from) removed))).0 both.0) in
        let lead = (turned_told es (map (λ (e : Edge). e.from) removed) r).0 reached in
        let w = (In-map Edge Role (λ (e : Edge). e.from) lead.0 removed).0 lead.1 in
        ((w.0, w.1, subst (λ x. Reaches es r x) w.2 lead.2), (may_renew_told gone r).0 both.1),
    λ w. let lead = (turned_told es (map (λ (e : Edge). e.from) removed) r).1
        (w.0.0.from, (In-map Edge Role (λ (e : Edge). e.from) w.0.0.from removed).1 (w.0.0, w.0.1, refl), w.0.2) in
        filter-In Role (may_renew gone) r (ascending (reach_along (turned es) (map (λ (e : Edge). e.from) removed)))
        ((ascending_told r (reach_along (turned es) (map (λ (e : Edge). e.from) removed))).1 ((reach_along_told (turned es) (map (λ (e : Edge). e.from) removed) r).1 lead))
        ((may_renew_told gone r).1 w.1),
  )

  pub strict_ascends : IsAscending (strict_roles es removed gone)
  unfolding strict_roles
  strict_ascends = filter_ascends (may_renew gone) (ascending (reach_along (turned es) (sources_of removed))) (ascending_ascends (reach_along (turned es) (sources_of removed)))

  -- what an edge leads from to a strict role is strict, but for roots and what goes
  pub strict_back : (e : Edge) → In e es → In e.to (strict_roles es removed gone) → is_root_role e.from ≡ false → (In e.from gone → ⊥)
      → In e.from (strict_roles es removed gone)
  strict_back e i to no_root stays =
      let w = (strict_told e.to).0 to in
      (strict_told e.from).1 ((w.0.0, w.0.1, Path-on (On Here (edge_pair es e i)) w.0.2), (no_root, stays))

-- ---- by a walk

module _ (s : Store) (removed : List Edge) where
  abbrev there : List Role
  there = reach_along (turned (edges s)) (sources_of removed)

  same_there : (set : List Role) → ((r : Role) → In r set ↔ IsReached (turned (edges_but [] (unordered s))) (sources_of removed) r) → HaveSame set there
  same_there set told =
      subst (λ (l : List Edge). HaveSame set (reach_along (turned l) (sources_of removed))) (none_but (edges s))
      (same_leading s [] (sources_of removed) set told)

  pub sources_walked : (set : List Role) → IsAscending set → ((r : Role) → In r set ↔ IsReached (turned (edges_but [] (unordered s))) (sources_of removed) r)
      → set ≡ ascending there
  sources_walked set up told =
      let same = same_there set told in
      same_list set (ascending there) up (ascending_ascends there) (λ r i. (ascending_told r there).1 ((same r).0 i)) (λ r i. (same r).1 ((ascending_told r there).0 i))

  pub sources_cost : (before now : ℕ)
      → now ≤ before + 2 * count_from (turned (unordered s)) (reach_along (turned (edges_but [] (unordered s))) (sources_of removed)) + length (sources_of removed)
      → now ≤ before + strict_look_ups (edges s) removed
  unfolding strict_look_ups sources_of
  sources_cost before now few =
      let all = plan_walked s [] (sources_of removed) before now few in
      let most = subst (λ (l : List Edge). now ≤ before + 2 * count_into (edges s) (reach_along (turned l) (sources_of removed)) + length (sources_of removed)) (none_but (edges s)) all in
      omega (arith, most, length-map removed (λ (e : Edge). e.from))
