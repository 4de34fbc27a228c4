use Rattle.std.proofs.Common.{◌↔◌, IsTrue, subst, sym}
use Rattle.closure_laws.specs.Keeping.{Leads}
use Rattle.closure_laws.proofs.Searching.{told_by}
use Rattle.closure_laws.proofs.keeping.History.derives.Goals as goal

pub returns : goal.returns
returns c =
    subst (λ t. IsTrue t ↔ Leads c.args.self.now.links c.args.from.0 c.args.to.0) (sym c.is_some.ensures)
    (told_by c.args.self.now.links c.args.from.0 c.args.to.0 c.in_ok-trail.trail c.in_ok-trail.ensures.trail c.in_ok-trail.ensures.none)
