use Rattle.std.proofs.Common.{◌≡◌, List, None, Some, ap, false, map, sym, true, ◌∙◌}
use Rattle.commit_journal.specs.Placed.{plain_placed}
use Rattle.commit_journal.specs.declared.placed.Placed.{Placed}
use Rattle.log_visits.specs.Found.{head_of_edge, is_sought, link_here, newest_for, plain_link}
use Rattle.log_visits.specs.Placing.{last_one, log_links}
use Rattle.log_visits.specs.Spotted.{link_spot, placed_links}
use Rattle.log_visits.proofs.Following.{last_passes}
use Rattle.log_visits.proofs.IndexKept.{last_present, last_wanting}
use Rattle.log_visits.proofs.NewestLinks.{for_present}
use Rattle.log_visits.proofs.Spotted.{spot_found}
use Rattle.log_visits.proofs.indexed_log.IndexedLogRecordsUnit.link_for.Goals as goal

pub returns-in_err-get-clause-found : goal.returns-in_err-get-clause-found
returns-in_err-get-clause-found c = λ at folds stands.
    let log = map plain_placed c.self.inside.log.now in
    let links = c.self.inside.links in
    let e = c.args.edge.now in
    let head = head_of_edge e in
    let got : link_spot links head ≡ None = ap (link_spot links) (sym c.head_sought.ensures) ∙ sym c.in_err-get.ensures in
    let last = spot_found is_sought placed_links log (link_spot links) head (log_links log) None (c.self.invariant.0.last_link head) got in
    ap plain_link c.from_residual.ensures
    ∙ sym (last_wanting c.args.state.now.keys log e last)
    ∙ ap (λ (l : List Placed). newest_for c.args.state.now.keys (map plain_placed l) e) c.self.view_is

pub returns-then-not-is_present-clause-found : goal.returns-then-not-is_present-clause-found
returns-then-not-is_present-clause-found c = λ at folds stands.
    let log = map plain_placed c.self.inside.log.now in
    let links = c.self.inside.links in
    let e = c.args.edge.now in
    let head = head_of_edge e in
    let spot = c.in_ok-get.field-0 in
    let got : link_spot links head ≡ Some spot = ap (link_spot links) (sym c.head_sought.ensures) ∙ sym c.in_ok-get.ensures in
    let last = spot_found is_sought placed_links log (link_spot links) head (log_links log) (Some spot) (c.self.invariant.0.last_link head) got in
    let here = link_here c.link_at-found.result.batch c.link_at-found.result.at c.link_at-found.result.link in
    let is : last_one (is_sought head) (log_links log) ≡ Some here = last.2 ∙ ap Some (sym (c.link_at-found.ensures last.0 last.1)) in
    sym (last_present c.args.state.now.keys log e here false is c.if-not-is_present.ensures)
    ∙ ap (λ (l : List Placed). newest_for c.args.state.now.keys (map plain_placed l) e) c.self.view_is

pub returns-clause-found : goal.returns-clause-found
returns-clause-found c = λ at folds stands.
    let log = map plain_placed c.self.inside.log.now in
    let links = c.self.inside.links in
    let e = c.args.edge.now in
    let head = head_of_edge e in
    let spot = c.in_ok-get.field-0 in
    let got : link_spot links head ≡ Some spot = ap (link_spot links) (sym c.head_sought.ensures) ∙ sym c.in_ok-get.ensures in
    let last = spot_found is_sought placed_links log (link_spot links) head (log_links log) (Some spot) (c.self.invariant.0.last_link head) got in
    let here = link_here c.link_at-found.result.batch c.link_at-found.result.at c.link_at-found.result.link in
    let is : last_one (is_sought head) (log_links log) ≡ Some here = last.2 ∙ ap Some (sym (c.link_at-found.ensures last.0 last.1)) in
    sym (last_present c.args.state.now.keys log e here true is c.if-not-is_present.ensures)
    ∙ ap (λ (l : List Placed). newest_for c.args.state.now.keys (map plain_placed l) e) c.self.view_is

pub returns-clause-form : goal.returns-clause-form
returns-clause-form c =
    let log = map plain_placed c.self.inside.log.now in
    let links = c.self.inside.links in
    let e = c.args.edge.now in
    let head = head_of_edge e in
    let spot = c.in_ok-get.field-0 in
    let got : link_spot links head ≡ Some spot = ap (link_spot links) (sym c.head_sought.ensures) ∙ sym c.in_ok-get.ensures in
    let last = spot_found is_sought placed_links log (link_spot links) head (log_links log) (Some spot) (c.self.invariant.0.last_link head) got in
    let here = link_here c.link_at-found.result.batch c.link_at-found.result.at c.link_at-found.result.link in
    let is : last_one (is_sought head) (log_links log) ≡ Some here = last.2 ∙ ap Some (sym (c.link_at-found.ensures last.0 last.1)) in
    for_present c.args.state.now.keys e here (last_passes (is_sought head) (log_links log) here is) ∙ sym c.if-not-is_present.ensures
