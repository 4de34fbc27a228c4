use Rattle.std.proofs.Common.{◌++◌, List, ap, subst}
use Rattle.cry_base.specs.declared.roles.Edge.{Edge}
use Rattle.log_visits.specs.Listing.{AreFirst}
use Rattle.log_visits.proofs.ListedVisits.{child_up, no_child}
use Rattle.log_visits.proofs.visit_list.note_child.Goals as goal
use Rattle.role_graph.specs.Edges.{edge}
use Rattle.role_graph.specs.Roles.{back_of, role_id}

pub returns-then-not-is_named : goal.returns-then-not-is_named
returns-then-not-is_named c = λ so_far are. subst (AreFirst c.args.first.now) (no_child c.args.sight.now so_far c.if-not-is_named.true) are

pub note_way-requires : goal.note_way-requires
unfolding role_id edge back_of
note_way-requires c = ap (λ (e : Edge). role_id e.to) c.back_to_back-edge.ensures

pub returns : goal.returns
returns c = λ so_far are.
    subst (λ (l : List Edge). AreFirst c.note_way.new.first (so_far ++ l)) (child_up c.args.sight.now c.back_to_back-edge.result c.if-not-is_named.false c.back_to_back-edge.ensures) (c.in_ok-note_way.ensures so_far are)
