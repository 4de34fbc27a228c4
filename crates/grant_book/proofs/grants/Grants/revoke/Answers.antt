use Rattle.std.proofs.Common.{◌∙◌, ap}
use Rattle.sorted_table.specs.Rows.{without}
use Rattle.grant_book.specs.Granted.{grant_of}
use Rattle.grant_book.specs.Ranks.{rank_of}
use Rattle.grant_book.proofs.Fitted.{Fits-revoke, holder_small}
use Rattle.grant_book.proofs.Ordered.{without_is}
use Rattle.grant_book.proofs.grants.Grants.revoke.Goals as goal

pub invariant_of-self : goal.invariant_of-self
invariant_of-self c =
    let granted = rw (← c.self.view_is) at c.requires in
    let small = holder_small c.self.inside.checks.items c.self.inside.pairs.rows c.self.inside.on_folders.rows c.args.h.0 c.self.invariant (c.self.invariant.made (grant_of c.args.h.0 c.args.f.0) granted) in
    rw (c.remove.ensures.rows, c.remove-2.ensures.rows, c.new-grant.ensures.grant) (Fits-revoke c.self.inside.checks.items c.self.inside.pairs.rows c.self.inside.on_folders.rows c.args.h.0 c.args.f.0 c.self.invariant small c.new-grant.ensures.numbered)

pub returns-clause-pairs : goal.returns-clause-pairs
returns-clause-pairs c =
    let rows = c.self.inside.pairs.rows in
    rw (← c.self.view_is) (c.remove.ensures.rows ∙ ap (λ g. without rank_of rows (rank_of g)) c.new-grant.ensures.grant ∙ without_is rows c.self.invariant.numbered c.args.h.0 c.args.f.0 c.new-grant.ensures.numbered)
