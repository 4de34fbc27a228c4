use Rattle.std.proofs.Common.{sym, subst}
use Rattle.journal_bytes.specs.Ringing.{IsHeld}
use Rattle.store_owner.proofs.RingRecords.{held, link_range}
use Rattle.store_owner.proofs.records.seal_link.Goals as goal

pub returns-clause-from_one : goal.returns-clause-from_one
returns-clause-from_one c =
    let has = subst (IsHeld c.args.ring.now) (sym c.head.view_is) c.requires.held in
    let is = c.publish.ensures _ _ (held c.args.ring.now c.head.inside.edge.from has.source) (held c.args.ring.now c.head.inside.edge.to has.target) in
    (link_range c.head.inside.edge c.publish.result _ _ _ has.is_tabled is).0

pub returns-clause-to_eleven : goal.returns-clause-to_eleven
returns-clause-to_eleven c =
    let has = subst (IsHeld c.args.ring.now) (sym c.head.view_is) c.requires.held in
    let is = c.publish.ensures _ _ (held c.args.ring.now c.head.inside.edge.from has.source) (held c.args.ring.now c.head.inside.edge.to has.target) in
    (link_range c.head.inside.edge c.publish.result _ _ _ has.is_tabled is).1
