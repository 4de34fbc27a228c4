use Rattle.std.proofs.Common.{subst}
use Rattle.grant_book.specs.Granted.{Granted, AreOrdered}
use Rattle.grant_book.proofs.Ordered.{ordered}
use Rattle.grant_book.proofs.grants.Grants.pairs.Goals as goal

pub returns-clause-ordered : goal.returns-clause-ordered
returns-clause-ordered c =
    subst (λ (g : Granted). AreOrdered g.pairs) c.self.view_is (ordered c.self.inside.pairs.rows c.self.invariant.numbered c.as_slice.ensures.rising)

pub returns-clause-made : goal.returns-clause-made
returns-clause-made c = rw (← c.self.view_is) c.self.invariant.made

pub returns-clause-numbered : goal.returns-clause-numbered
returns-clause-numbered c = rw (← c.self.view_is) c.self.invariant.numbered
