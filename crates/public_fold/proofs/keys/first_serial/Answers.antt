use Rattle.std.proofs.Common.{sym, ◌∙◌}
use Rattle.public_fold.proofs.StepLists.{newest_none, newest_past, newest_read}
use Rattle.public_fold.proofs.keys.first_serial.Goals as goal

pub returns-then-is_same_role : goal.returns-then-is_same_role
returns-then-is_same_role c =
    newest_read c.args.keys.now c.args.role c.loop-key.key-index c.key-item.result c.key.inside.role c.key.inside.serial.0
    c.loop-key-test.true c.key-item.is c.key.view_is (sym c.is_same_role.ensures ∙ c.if-is_same_role.true) c.loop-key.invariant

pub loop-key-preserved : goal.loop-key-preserved
loop-key-preserved c =
    newest_past c.args.keys.now c.args.role c.loop-key.key-index c.key-item.result c.key.inside.role c.key.inside.serial.0
    c.loop-key-test.true c.key-item.is c.key.view_is (sym c.is_same_role.ensures ∙ c.if-is_same_role.false) c.loop-key.invariant

pub returns : goal.returns
returns c = sym (sym c.loop-key.invariant ∙ newest_none c.args.keys.now c.args.role c.loop-key.key-index c.loop-key-test.false)
