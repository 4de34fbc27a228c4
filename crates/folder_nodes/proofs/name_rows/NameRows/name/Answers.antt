use Rattle.std.proofs.Common.{◌∙◌, ap}
use Rattle.std.specs.Option.{option_map}
use Rattle.folder_nodes.specs.declared.titles.NameRow.{NameRow}
use Rattle.folder_nodes.proofs.Titled.{name_row}
use Rattle.folder_nodes.proofs.name_rows.NameRows.name.Goals as goal

pub returns-in-Some : goal.returns-in-Some
returns-in-Some c =
    rw (← c.self.view_is, c.as_slice.ensures) (ap (option_map (λ (r : NameRow). r.name.items)) c.in-Some.ensures.row ∙ name_row c.self.inside.rows.rows c.args.id)

pub returns-in-None : goal.returns-in-None
returns-in-None c =
    rw (← c.self.view_is) (ap (option_map (λ (r : NameRow). r.name.items)) c.in-None.ensures.row ∙ name_row c.self.inside.rows.rows c.args.id)
