use Rattle.std.proofs.Common.{ap, sym, refl, arith}
use Rattle.public_fold.specs.KeyTables.{KeyRows}
use Rattle.public_fold.proofs.InKinds.{gone_from, room_kept}
use Rattle.public_fold.proofs.by_kind.KeysByKind.remove.Goals as goal

pub returns-clause-serials : goal.returns-clause-serials
returns-clause-serials c =
    gone_from (λ t. t.rows) c.self.inside.tables c.kind_of.result c.index-self-kind_of.result _ c.args.self.now _
    (sym (ap (λ (t : KeyRows). t.tables) c.self.view_is)) refl (omega (arith, c.kind_of.ensures.within, c.self.invariant))
    c.args.gone c.kind_of.ensures.kind c.remove_row.ensures.serials

pub returns-clause-spare : goal.returns-clause-spare
returns-clause-spare c =
    rw (← c.self.view_is) (room_kept (λ t. t.spare) c.self.inside.tables c.kind_of.result c.index-self-kind_of.result _
    (omega (arith, c.kind_of.ensures.within, c.self.invariant)) _ (omega arith) c.remove_row.ensures.spare)
