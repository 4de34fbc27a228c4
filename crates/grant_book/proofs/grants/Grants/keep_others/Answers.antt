use Rattle.std.proofs.Common.{not, ◌==◌, rules}
use Rattle.std.proofs.lemmas.Fn.{filter_same}
use Rattle.grant_book.proofs.Fitted.{Fits-others}
use Rattle.grant_book.proofs.grants.Grants.keep_others.Goals as goal

pub invariant_of-self : goal.invariant_of-self
invariant_of-self c =
    let rows = filter_same _ (λ e. not (e.folder == c.args.f.0)) _ (λ x b f called. search rules) c.self.inside.pairs.rows c.retain.new.self.rows c.retain.ensures.rows in
    let others = filter_same _ (λ e. not (e.folder == c.args.f.0)) _ (λ x b f called. search rules) c.self.inside.on_folders.rows c.retain-2.new.self.rows c.retain-2.ensures.rows in
    rw (rows, others) (Fits-others c.self.inside.checks.items c.self.inside.pairs.rows c.self.inside.on_folders.rows c.args.f.0 c.self.invariant)

pub returns-clause-pairs : goal.returns-clause-pairs
returns-clause-pairs c =
    rw (← c.self.view_is) (filter_same _ (λ e. not (e.folder == c.args.f.0)) _ (λ x b f called. search rules) c.self.inside.pairs.rows c.retain.new.self.rows c.retain.ensures.rows)
