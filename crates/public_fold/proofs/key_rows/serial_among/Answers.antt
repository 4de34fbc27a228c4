use Rattle.std.proofs.Common.{ap, ◌∙◌}
use Rattle.std.specs.Option.{option_map}
use Rattle.sorted_table.specs.Rows.{row_at}
use Rattle.public_fold.specs.KeyTables.{row_place, serial_at}
use Rattle.public_fold.specs.declared.key_rows.KeyRow.{KeyRow}
use Rattle.public_fold.proofs.key_rows.serial_among.Goals as goal

pub returns-in-Some : goal.returns-in-Some
unfolding serial_at
returns-in-Some c =
    ap (option_map (λ (row : KeyRow). row.serial.0)) c.in-Some.ensures.row
    ∙ ap (λ rank. option_map (λ (row : KeyRow). row.serial.0) (row_at row_place c.args.rows.now.rows rank)) c.of.ensures

pub returns-in-None : goal.returns-in-None
unfolding serial_at
returns-in-None c =
    ap (option_map (λ (row : KeyRow). row.serial.0)) c.in-None.ensures.row
    ∙ ap (λ rank. option_map (λ (row : KeyRow). row.serial.0) (row_at row_place c.args.rows.now.rows rank)) c.of.ensures
