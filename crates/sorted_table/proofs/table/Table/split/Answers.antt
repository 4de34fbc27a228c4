use Rattle.std.proofs.Common.{◌≤◌, ◌++◌, length, sym, subst, refl, ap, ◌∙◌, arith}
use Rattle.std.proofs.lemmas.Bool.{leb-true, leb-false}
use Rattle.std.proofs.lemmas.List.{length-append}
use Rattle.sorted_table.specs.Rows.{IsRising, row_at, with_row}
use Rattle.sorted_table.proofs.Halves.{row_at-upper, with_row-upper, lower_below, row_at-lower, with_row-lower}
use Rattle.sorted_table.proofs.table.Table.split.Goals as goal

pub insert-requires-clause-absent : goal.insert-requires-clause-absent
insert-requires-clause-absent g c =
    let rank = g.T.Ranked.rank in
    let lower = c.move_tail.new.self.rows in
    let upper = c.move_tail.new.tail.rows in
    let told = c.move_tail.ensures.rows in
    let rising : IsRising rank (lower ++ upper) = subst (IsRising rank) told c.as_slice-rows.ensures.rising in
    let size = length-append lower upper in
    let rows_told = ap (λ l. length l) told in
    let all = ap (λ l. length l) c.as_slice-rows.ensures.rows in
    let some : 1 ≤ length upper = omega (arith, all, size, rows_told, c.move_tail.ensures.count, c.requires.full) in
    let low = lower_below _ rank lower upper (rank c.args.row) rising some (leb-true _ _ (sym c.if-starts_by.ensures)) in
    sym (row_at-upper _ rank lower upper (rank c.args.row) rising low) ∙ ap (λ l. row_at rank l (rank c.args.row)) (sym told) ∙ c.requires.absent

pub insert-requires-else-starts_by-clause-absent : goal.insert-requires-else-starts_by-clause-absent
insert-requires-else-starts_by-clause-absent g c =
    let rank = g.T.Ranked.rank in
    let lower = c.move_tail.new.self.rows in
    let upper = c.move_tail.new.tail.rows in
    let told = c.move_tail.ensures.rows in
    let rising : IsRising rank (lower ++ upper) = subst (IsRising rank) told c.as_slice-rows.ensures.rising in
    sym (row_at-lower _ rank lower upper (rank c.args.row) rising (leb-false _ _ (sym c.if-starts_by.ensures)))
    ∙ ap (λ l. row_at rank l (rank c.args.row)) (sym told) ∙ c.requires.absent

pub returns-else-starts_by-clause-rows : goal.returns-else-starts_by-clause-rows
returns-else-starts_by-clause-rows g c =
    let rank = g.T.Ranked.rank in
    let lower = c.move_tail.new.self.rows in
    let upper = c.move_tail.new.tail.rows in
    let told = c.move_tail.ensures.rows in
    let rising : IsRising rank (lower ++ upper) = subst (IsRising rank) told c.as_slice-rows.ensures.rising in
    ap (λ l. l ++ upper) c.insert-else-starts_by.ensures.rows
    ∙ sym (with_row-lower _ rank lower upper (rank c.args.row) rising (leb-false _ _ (sym c.if-starts_by.ensures)) c.args.row refl)
    ∙ ap (λ l. with_row rank l c.args.row) (sym told)

pub returns-then-starts_by-clause-rows : goal.returns-then-starts_by-clause-rows
returns-then-starts_by-clause-rows g c =
    let rank = g.T.Ranked.rank in
    let lower = c.move_tail.new.self.rows in
    let upper = c.move_tail.new.tail.rows in
    let told = c.move_tail.ensures.rows in
    let rising : IsRising rank (lower ++ upper) = subst (IsRising rank) told c.as_slice-rows.ensures.rising in
    let size = length-append lower upper in
    let rows_told = ap (λ l. length l) told in
    let all = ap (λ l. length l) c.as_slice-rows.ensures.rows in
    let some : 1 ≤ length upper = omega (arith, all, size, rows_told, c.move_tail.ensures.count, c.requires.full) in
    let low = lower_below _ rank lower upper (rank c.args.row) rising some (leb-true _ _ (sym c.if-starts_by.ensures)) in
    ap (λ l. lower ++ l) c.insert.ensures.rows
    ∙ sym (with_row-upper _ rank lower upper (rank c.args.row) rising low c.args.row refl)
    ∙ ap (λ l. with_row rank l c.args.row) (sym told)
