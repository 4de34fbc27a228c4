use Rattle.std.proofs.Common.{◌≡◌, Bool, List, None, Some, ap, map, sym, ◌∙◌}
use Rattle.std.proofs.lemmas.Bool.{and_parts, eqb-true}
use Rattle.commit_journal.specs.Placed.{plain_placed}
use Rattle.commit_journal.specs.declared.placed.Placed.{Placed}
use Rattle.log_visits.specs.declared.last_contents.ContentHead.{ContentHead}
use Rattle.log_visits.specs.Found.{is_of, plain_content_found}
use Rattle.log_visits.specs.Placing.{PlacedContent, content_for, log_contents}
use Rattle.log_visits.specs.Spotted.{content_spot, placed_contents}
use Rattle.log_visits.proofs.Following.{last_passes}
use Rattle.log_visits.proofs.Spotted.{spot_found}
use Rattle.log_visits.proofs.indexed_log.IndexedLogRecordsUnit.content_for.Goals as goal

pub returns-in_default-clause-found : goal.returns-in_default-clause-found
unfolding content_for
returns-in_default-clause-found c = λ shown at folds object.
    let log = map plain_placed c.self.inside.log.now in
    let contents = c.self.inside.contents in
    let head : ContentHead = record { kind = c.args.kind; object = c.args.object } in
    let test : ContentHead → PlacedContent → Bool = λ h. is_of h.kind h.object in
    let last = spot_found test placed_contents log (content_spot contents) head (log_contents log) None (c.self.invariant.0.last_content head) (sym c.in_default.ensures) in
    sym last ∙ ap (λ (l : List Placed). content_for (map plain_placed l) c.args.kind c.args.object) c.self.view_is

pub returns-clause-found : goal.returns-clause-found
unfolding content_for
returns-clause-found c = λ shown at folds object.
    let log = map plain_placed c.self.inside.log.now in
    let contents = c.self.inside.contents in
    let head : ContentHead = record { kind = c.args.kind; object = c.args.object } in
    let test : ContentHead → PlacedContent → Bool = λ h. is_of h.kind h.object in
    let spot = c.in-Some.spot in
    let last = spot_found test placed_contents log (content_spot contents) head (log_contents log) (Some spot) (c.self.invariant.0.last_content head) (sym c.in-Some.ensures) in
    let is : plain_content_found c.in_ok-content_at.field-0 ≡ last.0 = c.in_ok-content_at.ensures.content last.0 last.1 in
    ap Some is ∙ sym last.2 ∙ ap (λ (l : List Placed). content_for (map plain_placed l) c.args.kind c.args.object) c.self.view_is

pub returns-clause-form : goal.returns-clause-form
returns-clause-form c =
    let log = map plain_placed c.self.inside.log.now in
    let contents = c.self.inside.contents in
    let head : ContentHead = record { kind = c.args.kind; object = c.args.object } in
    let test : ContentHead → PlacedContent → Bool = λ h. is_of h.kind h.object in
    let spot = c.in-Some.spot in
    let last = spot_found test placed_contents log (content_spot contents) head (log_contents log) (Some spot) (c.self.invariant.0.last_content head) (sym c.in-Some.ensures) in
    let is : plain_content_found c.in_ok-content_at.field-0 ≡ last.0 = c.in_ok-content_at.ensures.content last.0 last.1 in
    let x = last.0 in
    let both = and_parts _ _ (last_passes (test head) (log_contents log) x last.2) in
    record {
      form = c.in_ok-content_at.ensures.form;
      kind_is = ap (λ (y : PlacedContent). y.content.kind) is ∙ eqb-true x.content.kind c.args.kind both.0;
      object_is = ap (λ (y : PlacedContent). y.content.object) is ∙ eqb-true x.content.object c.args.object both.1;
    }
