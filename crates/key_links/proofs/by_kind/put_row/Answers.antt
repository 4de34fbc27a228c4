use Rattle.std.proofs.Common.{sym, ap, ◌∙◌}
use Rattle.std.specs.Prelude.{is_some, IsSome}
use Rattle.sorted_table.specs.Rows.{row_at}
use Rattle.key_links.specs.Ringed.{key_rank}
use Rattle.key_links.proofs.BesideKeys.{here, in_place, some_copied}
use Rattle.key_links.proofs.by_kind.put_row.Goals as goal

pub returns-then-is_some-clause-rows : goal.returns-then-is_some-clause-rows
returns-then-is_some-clause-rows c =
    let rows = c.args.rows.now.rows in
    let there : IsSome (row_at key_rank rows (key_rank c.args.key)) =
    ap (λ rank. is_some (row_at key_rank rows rank)) (sym c.place.ensures)
    ∙ sym (ap is_some c.find.ensures.row)
    ∙ some_copied c.find.result
    ∙ sym c.is_some.ensures
    ∙ c.if-is_some.true in
    in_place c.args.key rows c.replace.new.self.rows there c.replace.ensures.rows

pub returns-else-is_some-clause-rows : goal.returns-else-is_some-clause-rows
returns-else-is_some-clause-rows c = here c.args.key c.args.rows.now.rows c.insert.new.self.rows c.insert.ensures.rows
