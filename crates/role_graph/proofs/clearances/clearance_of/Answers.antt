use Rattle.std.proofs.Common.{Option, cond, Some, None, arith, sym, ap}
use Rattle.cry_base.specs.Clearances.{clear_number}
use Rattle.cry_base.specs.declared.ids.FolderId.{FolderId}
use Rattle.role_graph.proofs.AtClearances.{far_none}
use Rattle.role_graph.proofs.clearances.clearance_of.Goals as goal

pub returns-then-x-ge-CLEAR_BASE-clause-value : goal.returns-then-x-ge-CLEAR_BASE-clause-value
returns-then-x-ge-CLEAR_BASE-clause-value c =
    let far = c.if-x-ge-CLEAR_BASE.true in
    ap (λ b. cond {A = Option FolderId} b (Some (record { 0 = clear_number c.args.x.0 })) None)
    (sym (far_none c.args.grants.now.pairs c.args.x.0 c.pairs-pairs.ensures.numbered (omega (arith, far))))
