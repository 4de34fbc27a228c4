use Rattle.std.proofs.Common.{◌∙◌, sym}
use Rattle.kind_table.proofs.Walking.{leads_told}
use Rattle.kind_table.proofs.table.Table.leads.Goals as goal

pub returns : goal.returns
returns g c =
    let led = c.extend.ensures.led_to c.loop-a.invariant in
    let closed = c.extend.ensures.closed c.loop-a-test.false in
    let told = leads_told c.args.self.now.rows c.args.a c.extend.new.reached.has led closed c.args.b in
    (λ t. told.0 (sym c.contains.ensures ∙ t), λ w. c.contains.ensures ∙ told.1 w)
