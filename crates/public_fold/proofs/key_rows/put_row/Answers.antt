use Rattle.std.proofs.Common.{ap, sym, ◌∙◌}
use Rattle.std.specs.Prelude.{is_some, IsSome}
use Rattle.grant_book.proofs.Lists.{is_some-copied}
use Rattle.sorted_table.specs.Rows.{row_at}
use Rattle.public_fold.specs.KeyTables.{row_place, serial_at}
use Rattle.public_fold.proofs.KeyTabled.{serial-replaced, serial-with}
use Rattle.public_fold.proofs.key_rows.put_row.Goals as goal

pub returns-then-is_some-clause-serials : goal.returns-then-is_some-clause-serials
returns-then-is_some-clause-serials c = λ role.
    let there : IsSome (row_at row_place c.args.rows.now.rows c.of-row.result.place) =
    sym (ap is_some c.find.ensures.row)
    ∙ is_some-copied _ c.find.result
    ∙ sym c.is_some.ensures
    ∙ c.if-is_some.true in
    ap (λ rows. serial_at rows role) c.replace.ensures.rows
    ∙ serial-replaced c.args.rows.now.rows c.args.key c.of-row.result role c.of-row.ensures.place c.of-row.ensures.serial there

pub returns-else-is_some-clause-serials : goal.returns-else-is_some-clause-serials
returns-else-is_some-clause-serials c = λ role.
    ap (λ rows. serial_at rows role) c.insert.ensures.rows
    ∙ serial-with c.args.rows.now.rows c.args.key c.of-row.result role c.of-row.ensures.place c.of-row.ensures.serial
