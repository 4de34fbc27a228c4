use Rattle.std.proofs.Common.{◌∙◌, ap, sym}
use Rattle.folder_nodes.specs.Digests.{name_digest}
use Rattle.folder_nodes.proofs.Downward.{bytes_told}
use Rattle.folder_nodes.proofs.Titled.{rank}
use Rattle.folder_nodes.specs.declared.titles.NameRow.{NameRow}
use Rattle.sorted_table.proofs.Found.{row_at-Some}
use Rattle.folder_nodes.proofs.book.Book.digest_for.Goals as goal

pub returns-then-eq : goal.returns-then-eq
returns-then-eq c =
    let there = row_at-Some NameRow rank c.self.inside.rows.rows c.args.id c.in-Some.row.now (sym c.in-Some.ensures.row) in
    (c.self.invariant c.in-Some.row.now there.0).1 ∙ ap name_digest (sym c.as_slice.ensures ∙ bytes_told c.as_slice.result.now c.args.name.now (sym c.if-eq.ensures))
