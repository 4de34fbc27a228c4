use Rattle.grant_book.proofs.Fitted.{Fits-holder}
use Rattle.grant_book.proofs.grants.Grants.add_holder.Goals as goal

pub invariant_of-self : goal.invariant_of-self
invariant_of-self c =
    let counted = rw (← c.self.view_is) at c.requires.counted in
    rw c.push_reserved.ensures.items (Fits-holder c.self.inside.checks.items c.self.inside.pairs.rows c.self.inside.on_folders.rows c.args.check c.self.invariant counted)
