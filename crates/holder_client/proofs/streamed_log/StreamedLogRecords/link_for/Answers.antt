use Rattle.std.proofs.Common.{◌≡◌, Ok, sym, subst}
use Rattle.commit_journal.specs.Streaming.{LogState}
use Rattle.log_visits.specs.Folding.{folded}
use Rattle.log_visits.specs.Found.{newest_for, plain_link}
use Rattle.public_fold.specs.Journal.{nothing}
use Rattle.holder_client.proofs.streamed_log.StreamedLogRecords.link_for.Goals as goal

pub returns-clause-found : goal.returns-clause-found
returns-clause-found g c = λ at folds stands.
    let log = c.self.inside.log.now in
    subst (λ (l : LogState). plain_link c.link_for.result ≡ newest_for c.args.state.now.keys l.given c.args.edge.now) c.self.view_is
    (c.link_for.ensures.found log.given at c.self.invariant.0 (subst (λ (l : LogState). folded nothing l.given ≡ Ok at) (sym c.self.view_is) folds) stands)

pub returns-clause-form : goal.returns-clause-form
returns-clause-form g c = c.link_for.ensures.form _ c.self.invariant.0
