use Rattle.std.proofs.Common.{◌≡◌, true, false, cond, Some, sym, ap, ◌∙◌}
use Rattle.std.specs.Prelude.{is_some}
use Rattle.std.specs.HashMap.{get}
use Rattle.cry_base.specs.declared.roles.Edge.{Edge}
use Rattle.log_visits.specs.Sights.{same_number}
use Rattle.log_visits.proofs.ListedVisits.{firsts_has, has_firsts, later_one, next_one}
use Rattle.role_graph.specs.Roles.{role_id}
use Rattle.log_visits.proofs.visit_list.note_way.Goals as goal

pub returns-then-contains_key : goal.returns-then-contains_key
returns-then-contains_key c = λ so_far are.
    let first = c.args.first.now in
    let there : is_some (get same_number first (role_id c.args.edge.to)) ≡ true =
    ap (λ n. is_some (get same_number first n)) c.requires ∙ sym c.contains_key.ensures ∙ c.if-contains_key.true
    in
    has_firsts first _ (later_one (λ (e : Edge). role_id e.to) (λ e. e) first so_far c.args.edge there (firsts_has first so_far are))

pub returns : goal.returns
returns c = λ so_far are.
    let first = c.args.first.now in
    let none : is_some (get same_number first (role_id c.args.edge.to)) ≡ false =
    ap (λ n. is_some (get same_number first n)) c.requires ∙ sym c.contains_key.ensures ∙ c.if-contains_key.false
    in
    has_firsts c.insert.new.self _ (next_one (λ (e : Edge). role_id e.to) (λ e. e) first c.insert.new.self so_far c.args.edge none
    (λ q. c.in_ok-insert.ensures.updates.0 q ∙ ap (λ n. cond (same_number n q) (Some c.args.edge) (get same_number first q)) (sym c.requires)) (firsts_has first so_far are))
