use Rattle.std.proofs.Common.{◌≡◌, Option, Ok, Err, IfSome, ap, sym, subst, ◌∙◌}
use Rattle.std.proofs.lemmas.Result.{err_from_is_err_and}
use Rattle.commit_journal.specs.Streaming.{LogState, ShowsGiven}
use Rattle.log_visits.specs.Folding.{folded}
use Rattle.log_visits.specs.Indexed.{IsLastAt, StartsAt}
use Rattle.log_visits.specs.Placing.{content_for}
use Rattle.log_visits.specs.Spots.{IsAt}
use Rattle.holder_client.proofs.Adding.{free_again, reread}
use Rattle.public_fold.specs.Journal.{nothing}
use Rattle.log_visits.proofs.Lasts.{finds_at}
use Rattle.log_visits.proofs.Starts.{reread_from}
use Rattle.log_visits.specs.declared.last_contents.ContentSpot.{ContentSpot}
use Rattle.holder_client.proofs.streamed_log.StreamedLogRecords.content_for.Goals as goal

pub returns-in_err-placed-clause-found : goal.returns-in_err-placed-clause-found
returns-in_err-placed-clause-found g c = λ shown at folds object.
    let p = err_from_is_err_and c.from_residual.result c.from_residual.ensures.1 in
    let log = c.self.inside.log.now in
    let spot = c.in-Some.spot in
    let last = subst (λ o. IsLastAt log.given o (content_for log.given c.args.kind c.args.object)) c.in-Some.is (c.spot_for.ensures.found log.given at c.self.invariant.0 (subst (λ (l : LogState). folded nothing l.given ≡ Ok at) (sym c.self.view_is) folds) object) in
    let start = spot.start in
    let from = subst (λ (o : Option ContentSpot). IfSome o (λ x. StartsAt log.starts x.position x.start)) c.in-Some.is (c.spot_for.ensures.starts log.starts c.self.invariant.1) in
    let again = reread_from log shown.0 start spot.position last.1.0 from.0 (reread log shown.0 spot.position last.1.0 last.1.1 (subst (λ (l : LogState). ShowsGiven l shown.0) (sym c.self.view_is) shown.2)) in
    rw (p.1, p.2) (free_again c.in_err-placed.field-0.0 (c.in_err-placed.ensures.same shown.0 shown.1 last.1.0 again))

pub returns-in_err-take_content-clause-found : goal.returns-in_err-take_content-clause-found
returns-in_err-take_content-clause-found g c = λ shown at folds object.
    let p = err_from_is_err_and c.from_residual-in_err-take_content.result c.from_residual-in_err-take_content.ensures.1 in
    let log = c.self.inside.log.now in
    let spot = c.in-Some.spot in
    let last = subst (λ o. IsLastAt log.given o (content_for log.given c.args.kind c.args.object)) c.in-Some.is (c.spot_for.ensures.found log.given at c.self.invariant.0 (subst (λ (l : LogState). folded nothing l.given ≡ Ok at) (sym c.self.view_is) folds) object) in
    let start = spot.start in
    let from = subst (λ (o : Option ContentSpot). IfSome o (λ x. StartsAt log.starts x.position x.start)) c.in-Some.is (c.spot_for.ensures.starts log.starts c.self.invariant.1) in
    let again = reread_from log shown.0 start spot.position last.1.0 from.0 (reread log shown.0 spot.position last.1.0 last.1.1 (subst (λ (l : LogState). ShowsGiven l shown.0) (sym c.self.view_is) shown.2)) in
    let here = subst (IsAt log.given spot.position) (sym (c.in_ok-placed.ensures.same shown.0 shown.1 last.1.0 again)) last.1.1 in
    rw (p.1, p.2) (finds_at log.given c.args.kind c.args.object spot c.in_ok-placed.placed (Err c.in_err-take_content.field-0.0) last here c.in_err-take_content.ensures.found)

pub returns-clause-found : goal.returns-clause-found
returns-clause-found g c = λ shown at folds object.
    let log = c.self.inside.log.now in
    let spot = c.in-Some.spot in
    let last = subst (λ o. IsLastAt log.given o (content_for log.given c.args.kind c.args.object)) c.in-Some.is (c.spot_for.ensures.found log.given at c.self.invariant.0 (subst (λ (l : LogState). folded nothing l.given ≡ Ok at) (sym c.self.view_is) folds) object) in
    let start = spot.start in
    let from = subst (λ (o : Option ContentSpot). IfSome o (λ x. StartsAt log.starts x.position x.start)) c.in-Some.is (c.spot_for.ensures.starts log.starts c.self.invariant.1) in
    let again = reread_from log shown.0 start spot.position last.1.0 from.0 (reread log shown.0 spot.position last.1.0 last.1.1 (subst (λ (l : LogState). ShowsGiven l shown.0) (sym c.self.view_is) shown.2)) in
    let here = subst (IsAt log.given spot.position) (sym (c.in_ok-placed.ensures.same shown.0 shown.1 last.1.0 again)) last.1.1 in
    finds_at log.given c.args.kind c.args.object spot c.in_ok-placed.placed (Ok c.in_ok-take_content.field-0) last here c.in_ok-take_content.ensures.found
    ∙ ap (λ (l : LogState). content_for l.given c.args.kind c.args.object) c.self.view_is
