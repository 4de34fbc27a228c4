use Rattle.std.proofs.Common.{append_assoc}
use Rattle.store_gen.proofs.Lines.{one_digit}
use Rattle.store_gen.proofs.change.put_grant.Goals as goal

pub returns-clause-items : goal.returns-clause-items
returns-clause-items c =
    let digit = one_digit c.args.who c.requires.small.0 in
    simp (c.put-2.ensures.items, c.put_all-2.ensures.items, c.put.ensures.items, c.put_all.ensures.items, digit, append_assoc)
