use Rattle.std.proofs.Common.{[], ◌∷◌, ◌++◌, ap, subst, ◌∙◌}
use Rattle.cry_base.specs.declared.roles.Edge.{Edge}
use Rattle.log_visits.specs.Listing.{AreFirst}
use Rattle.log_visits.proofs.ListedVisits.{entry_is}
use Rattle.log_visits.proofs.visit_list.note_entry.Goals as goal
use Rattle.role_graph.specs.Edges.{edge}
use Rattle.role_graph.specs.Roles.{back_of, role_id}

pub note_way-requires : goal.note_way-requires
unfolding role_id edge back_of
note_way-requires c = ap (λ (e : Edge). role_id e.to) c.clearance_to_back-edge.ensures

pub returns : goal.returns
returns c = λ so_far are.
    subst (λ (e : Edge). AreFirst c.note_way.new.first (so_far ++ e ∷ [])) (c.clearance_to_back-edge.ensures ∙ entry_is c.args.entry.now) (c.in_ok-note_way.ensures so_far are)
