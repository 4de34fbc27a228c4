use Rattle.std.proofs.Common.{subst}
use Rattle.grant_book.specs.Granted.{AreOrdered}
use Rattle.public_fold.specs.Standing.{PublicView}
use Rattle.public_fold.proofs.SameGrants.{seen_itself}
use Rattle.public_fold.proofs.state.PublicState.is_seen.Goals as goal

pub returns : goal.returns
returns c = seen_itself c.args.self.now (subst (λ (v : PublicView). AreOrdered v.pairs) c.self.view_is c.pairs-pairs.ensures.ordered)
