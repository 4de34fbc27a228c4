use Rattle.std.proofs.Common.{refl, sym, ap, subst, ◌∙◌}
use Rattle.std.proofs.lemmas.Result.{err_from_is_err_and}
use Rattle.cry_base.specs.declared.roles.Edge.{Edge}
use Rattle.log_visits.specs.Answering.{IsFault}
use Rattle.holder_client.specs.Filed.{everyone, file_stops}
use Rattle.log_visits.specs.Found.{plain_link}
use Rattle.log_visits.specs.Holding.{HasKind}
use Rattle.log_visits.specs.Placing.{content_for}
use Rattle.log_visits.specs.Visiting.{visit, visit_all}
use Rattle.log_visits.proofs.Following.{free_fault}
use Rattle.log_visits.proofs.NewestLinks.{link_told}
use Rattle.log_visits.specs.Visits.Visit.{ToKey}
use Rattle.holder_client.proofs.FiledReads.{file_edge_stands, file_stands, into_kind, looked_into, link_fails, text_fails, text_read}
use Rattle.role_graph.specs.Edges.{IsEdge}
use Rattle.holder_client.proofs.reading.read_file.Goals as goal

pub visit_link-requires-clause-kind : goal.visit_link-requires-clause-kind
visit_link-requires-clause-kind g c = subst HasKind (sym c.edge_into-edge.ensures) (into_kind c.args.row.now _)

pub returns-in_err-visit_link-clause-answer : goal.returns-in_err-visit_link-clause-answer
returns-in_err-visit_link-clause-answer g c = λ shown r o entries of_log come stand holds.
    let p = err_from_is_err_and c.from_residual.result c.from_residual.ensures.1 in
    rw (p.1, p.2)
    (link_fails entries r o c.args.row.now c.in_err-visit_link.field-0.0
    (subst (λ (e : Edge). IsFault c.in_err-visit_link.field-0.0 (visit r (ToKey e) o)) (c.edge_into-edge.ensures ∙ looked_into c.args.clearances.now entries c.args.row.now come) (c.in_err-visit_link.ensures.answer everyone r o (link_told c.args.state.now (g.R.Records.log c.args.records.now) r c.edge_into-edge.result (plain_link c.link_for.result) of_log (subst HasKind (sym c.edge_into-edge.ensures) (into_kind c.args.row.now _)) (c.link_for.ensures.found r.stand of_log.2 (subst (IsEdge r.stand.store) (sym (c.edge_into-edge.ensures ∙ looked_into c.args.clearances.now entries c.args.row.now come)) (file_edge_stands r.stand.store entries c.args.row.now stand)))) refl holds)))

pub returns-in_err-text-clause-answer : goal.returns-in_err-text-clause-answer
returns-in_err-text-clause-answer g c = λ shown r o entries of_log come stand holds.
    let p = err_from_is_err_and c.from_residual-in_err-text.result c.from_residual-in_err-text.ensures.1 in
    rw (p.1, p.2) (free_fault c.in_err-text.field-0.0 (visit_all r (file_stops entries c.args.row.now) o) (c.in_err-text.ensures.found shown r.stand of_log.2 (file_stands r.stand.store entries c.args.row.now stand)))

pub returns-in_err-name-clause-answer : goal.returns-in_err-name-clause-answer
returns-in_err-name-clause-answer g c = λ shown r o entries of_log come stand holds.
    let p = err_from_is_err_and c.from_residual-in_err-name.result c.from_residual-in_err-name.ensures.1 in
    let so = c.in_ok-visit_link.ensures.answer everyone r o (link_told c.args.state.now (g.R.Records.log c.args.records.now) r c.edge_into-edge.result (plain_link c.link_for.result) of_log (subst HasKind (sym c.edge_into-edge.ensures) (into_kind c.args.row.now _)) (c.link_for.ensures.found r.stand of_log.2 (subst (IsEdge r.stand.store) (sym (c.edge_into-edge.ensures ∙ looked_into c.args.clearances.now entries c.args.row.now come)) (file_edge_stands r.stand.store entries c.args.row.now stand)))) refl holds in
    rw (p.1, p.2)
    (text_fails entries r o so.0 c.args.row.now c.in_err-name.field-0.0 (ap (λ (e : Edge). visit r (ToKey e) o) (sym (c.edge_into-edge.ensures ∙ looked_into c.args.clearances.now entries c.args.row.now come)) ∙ so.1) (c.in_err-name.ensures.answer everyone r so.0 (c.in_ok-text.ensures.found shown r.stand of_log.2 (file_stands r.stand.store entries c.args.row.now stand) ∙ ap (λ l. content_for l 2 c.args.row.now.id.0) (sym of_log.0)) refl so.2.0))

pub returns-clause-answer : goal.returns-clause-answer
returns-clause-answer g c = λ shown r o entries of_log come stand holds.
    let so = c.in_ok-visit_link.ensures.answer everyone r o (link_told c.args.state.now (g.R.Records.log c.args.records.now) r c.edge_into-edge.result (plain_link c.link_for.result) of_log (subst HasKind (sym c.edge_into-edge.ensures) (into_kind c.args.row.now _)) (c.link_for.ensures.found r.stand of_log.2 (subst (IsEdge r.stand.store) (sym (c.edge_into-edge.ensures ∙ looked_into c.args.clearances.now entries c.args.row.now come)) (file_edge_stands r.stand.store entries c.args.row.now stand)))) refl holds in
    text_read entries c.visit_link.new.ring r o so.0 c.args.row.now _ c.in_ok-name.field-0 (ap (λ (e : Edge). visit r (ToKey e) o) (sym (c.edge_into-edge.ensures ∙ looked_into c.args.clearances.now entries c.args.row.now come)) ∙ so.1) so.2.0 so.2.1
    (c.in_ok-name.ensures.answer everyone r so.0 (c.in_ok-text.ensures.found shown r.stand of_log.2 (file_stands r.stand.store entries c.args.row.now stand) ∙ ap (λ l. content_for l 2 c.args.row.now.id.0) (sym of_log.0)) refl so.2.0) refl refl refl
