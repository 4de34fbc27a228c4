use Rattle.std.proofs.Common.{ap, ◌∙◌}
use Rattle.sorted_table.specs.Rows.{without}
use Rattle.public_fold.specs.KeyTables.{row_place, serial_at}
use Rattle.public_fold.proofs.KeyTabled.{serial-without}
use Rattle.public_fold.proofs.key_rows.remove_row.Goals as goal

pub returns-clause-serials : goal.returns-clause-serials
returns-clause-serials c = λ role.
    ap (λ rows. serial_at rows role) c.remove.ensures.rows
    ∙ ap (λ rank. serial_at (without row_place c.args.rows.now.rows rank) role) c.of.ensures
    ∙ serial-without c.args.rows.now.rows c.args.gone role
