use Rattle.std.proofs.Common.{◌≡◌, Some, sym, ap, ◌∙◌}
use Rattle.std.specs.HashMap.{get}
use Rattle.log_visits.specs.Found.{head_of_edge, plain_link}
use Rattle.log_visits.specs.Indexed.{same_link_heads}
use Rattle.log_visits.proofs.IndexKept.{link_form, link_stands, newest_present, newest_wanting}
use Rattle.log_visits.proofs.index.Index.link_for.Goals as goal

pub returns-in_err-found-clause-found : goal.returns-in_err-found-clause-found
returns-in_err-found-clause-found c = λ log at is folds stands.
    let links = c.args.self.now.links in
    ap plain_link c.from_residual.ensures
    ∙ sym (newest_wanting links c.args.state.now.keys log c.args.edge.now (link_stands c.args.self.now log at c.args.edge.now is folds stands)
    (ap (get same_link_heads links) (sym c.head_sought.ensures) ∙ sym (c.copied.ensures ∙ c.get.ensures.value) ∙ c.in_err-found.was))

pub returns-then-not-is_present-clause-found : goal.returns-then-not-is_present-clause-found
returns-then-not-is_present-clause-found c = λ log at is folds stands.
    let links = c.args.self.now.links in
    sym (newest_present links c.args.state.now.keys log c.args.edge.now c.in_ok-found.found _ (link_stands c.args.self.now log at c.args.edge.now is folds stands)
    (ap (get same_link_heads links) (sym c.head_sought.ensures) ∙ sym (c.copied.ensures ∙ c.get.ensures.value) ∙ c.in_ok-found.was) c.if-not-is_present.ensures)

pub returns-clause-found : goal.returns-clause-found
returns-clause-found c = λ log at is folds stands.
    let links = c.args.self.now.links in
    sym (newest_present links c.args.state.now.keys log c.args.edge.now c.in_ok-found.found _ (link_stands c.args.self.now log at c.args.edge.now is folds stands)
    (ap (get same_link_heads links) (sym c.head_sought.ensures) ∙ sym (c.copied.ensures ∙ c.get.ensures.value) ∙ c.in_ok-found.was) c.if-not-is_present.ensures)

pub returns-clause-form : goal.returns-clause-form
returns-clause-form c = λ log is.
    let links = c.args.self.now.links in
    let there : get same_link_heads links (head_of_edge c.args.edge.now) ≡ Some c.in_ok-found.found =
    ap (get same_link_heads links) (sym c.head_sought.ensures) ∙ sym (c.copied.ensures ∙ c.get.ensures.value) ∙ c.in_ok-found.was
    in
    link_form c.args.self.now c.args.state.now.keys log c.args.edge.now c.in_ok-found.found is there (sym c.if-not-is_present.ensures)
