use Rattle.std.proofs.Common.{rules, ◌≡◌, ◌∙◌, true, ap}
use Rattle.std.specs.Prelude.{is_some}
use Rattle.sorted_table.specs.Rows.{row_at}
use Rattle.folder_nodes.specs.Digests.{name_digest}
use Rattle.folder_nodes.specs.Titling.{IsNamed}
use Rattle.folder_nodes.specs.declared.titles.NameRow.{NameRow}
use Rattle.folder_nodes.proofs.Digested.{named_replaced, named_with}
use Rattle.folder_nodes.proofs.Titled.{rank, titles_replaced, titles_with}
use Rattle.folder_nodes.proofs.name_rows.NameRows.put.Goals as goal

pub invariant_of-self : goal.invariant_of-self
invariant_of-self c =
    let row : NameRow = record { id = c.args.id; digest = c.digest_of-digest.result; name = c.args.name; bytes = c.args.bytes } in
    let is : IsNamed row = (c.requires.name, c.digest_of-digest.ensures ∙ ap name_digest c.as_slice.ensures) in
    rw (c.replace.ensures.rows) (named_replaced c.self.inside.rows.rows c.self.invariant row is)

pub returns-then-is_some-clause-titles : goal.returns-then-is_some-clause-titles
returns-then-is_some-clause-titles c =
    let row : NameRow = record { id = c.args.id; digest = c.digest_of-digest.result; name = c.args.name; bytes = c.args.bytes } in
    let there : is_some (row_at rank c.self.inside.rows.rows c.args.id) ≡ true = search rules in
    λ k. rw (← c.self.view_is) (titles_replaced c.self.inside.rows.rows c.replace.new.self.rows row there c.replace.ensures.rows k)

pub invariant_of-self-2 : goal.invariant_of-self-2
invariant_of-self-2 c =
    let row : NameRow = record { id = c.args.id; digest = c.digest_of-digest.result; name = c.args.name; bytes = c.args.bytes } in
    let is : IsNamed row = (c.requires.name, c.digest_of-digest.ensures ∙ ap name_digest c.as_slice.ensures) in
    rw (c.insert.ensures.rows) (named_with c.self.inside.rows.rows c.self.invariant row is)

pub returns-clause-titles : goal.returns-clause-titles
returns-clause-titles c =
    let row : NameRow = record { id = c.args.id; digest = c.digest_of-digest.result; name = c.args.name; bytes = c.args.bytes } in
    λ k. rw (← c.self.view_is) (titles_with c.self.inside.rows.rows c.insert.new.self.rows row c.insert.ensures.rows k)
