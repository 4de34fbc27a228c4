use Rattle.std.proofs.Common.{◌==◌, List, [], ◌∷◌, ◌++◌, sym, ap, ◌∙◌}
use Rattle.std.specs.List.{list_any}
use Rattle.cry_base.specs.Clearances.{clear_number}
use Rattle.cry_base.specs.Store.{GrantEntry}
use Rattle.cry_base.specs.declared.roles.Edge.{Edge}
use Rattle.log_visits.specs.declared.visit_list.Visit.{Visit}
use Rattle.log_visits.specs.declared.visit_list.Visit.TheVariants.{Link}
use Rattle.log_visits.proofs.OwnerVisits.{clearance_listed, clearance_none}
use Rattle.log_visits.proofs.visit_list.push_clearance.Goals as goal
use Rattle.role_graph.specs.Roles.{clear_of}

pub returns-in_ok-push-in-Some : goal.returns-in_ok-push-in-Some
unfolding clear_of
returns-in_ok-push-in-Some c =
    let before = c.args.visits.now.items in
    let x = c.args.row.now.id.0 in
    c.in_ok-push-in-Some.ensures.items
    ∙ ap (λ (v : Visit). before ++ v ∷ []) (c.link.ensures ∙ ap (λ (e : Edge). Link e) c.owner_to_clear.ensures)
    ∙ ap (λ (l : List Visit). before ++ l) (clearance_listed (list_any (λ (g : GrantEntry). g.folder == clear_number x) c.args.grants.now.pairs) (record { 0 = clear_number x }) c.in-Some.clearance
    (sym c.clearance_of.ensures.value ∙ c.in-Some.is))

pub returns-in-None : goal.returns-in-None
returns-in-None c =
    let x = c.args.row.now.id.0 in
    clearance_none (list_any (λ (g : GrantEntry). g.folder == clear_number x) c.args.grants.now.pairs) (record { 0 = clear_number x }) c.args.visits.now.items (sym c.clearance_of.ensures.value ∙ c.in-None.is)
