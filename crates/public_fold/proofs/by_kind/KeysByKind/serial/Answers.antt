use Rattle.std.proofs.Common.{◌<◌, [], length, get_or, ap, sym, ◌∙◌, arith}
use Rattle.std.proofs.lemmas.List.{get_or-map}
use Rattle.public_fold.specs.KeyTables.{KeyRows, serial_at, serial_in}
use Rattle.public_fold.proofs.by_kind.KeysByKind.serial.Goals as goal

pub returns : goal.returns
unfolding serial_in
returns c =
    let within : c.kind_of.result < length c.self.inside.tables = omega (arith, c.kind_of.ensures.within, c.self.invariant) in
    c.serial_among.ensures
    ∙ ap (λ l. serial_at l c.args.role) (sym (get_or-map (λ t. t.rows) c.self.inside.tables c.kind_of.result c.index-self-kind_of.result [] within))
    ∙ ap (λ (t : KeyRows). serial_at (get_or t.tables c.kind_of.result []) c.args.role) c.self.view_is
    ∙ ap (λ k. serial_at (get_or c.args.self.now.tables k []) c.args.role) c.kind_of.ensures.kind
