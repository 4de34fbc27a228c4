use Rattle.std.proofs.Common.{sym, subst, ◌∙◌}
use Rattle.log_visits.specs.Found.{is_of}
use Rattle.log_visits.specs.Indexed.{IsLastAt}
use Rattle.log_visits.specs.Placing.{content_for, last_one, log_contents}
use Rattle.log_visits.proofs.IndexKept.{content_stands}
use Rattle.log_visits.proofs.Starts.{start_found}
use Rattle.log_visits.proofs.index.Index.spot_for.Goals as goal

pub returns-clause-found : goal.returns-clause-found
unfolding content_for
returns-clause-found c = λ log at is folds object.
    subst (λ o. IsLastAt log o (last_one (is_of c.args.kind c.args.object) (log_contents log))) (sym (c.copied.ensures ∙ c.get.ensures.value))
    (content_stands c.args.self.now log at (record { kind = c.args.kind; object = c.args.object }) is folds object).found

pub returns-clause-starts : goal.returns-clause-starts
returns-clause-starts c = λ starts have.
    start_found c.args.self.now.contents starts (record { kind = c.args.kind; object = c.args.object }) c.copied.result have (sym (c.copied.ensures ∙ c.get.ensures.value))
