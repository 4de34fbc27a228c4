use Rattle.log_visits.proofs.IndexKept.{forgotten, standing_alone}
use Rattle.log_visits.proofs.index.Index.forget.Goals as goal

pub returns-clause-kept : goal.returns-clause-kept
returns-clause-kept c = λ log at has folds seen.
    forgotten c.args.self.now (record { links = c.keep_links.new.last; contents = c.keep_contents.new.last }) c.args.state.now log at has folds seen c.keep_links.ensures c.keep_contents.ensures.kept

pub returns-clause-alone : goal.returns-clause-alone
returns-clause-alone c =
    standing_alone c.args.self.now (record { links = c.keep_links.new.last; contents = c.keep_contents.new.last }) c.args.state.now c.keep_links.ensures c.keep_contents.ensures.kept
