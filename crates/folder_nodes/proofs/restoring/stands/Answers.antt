use Rattle.folder_nodes.proofs.Restored.{row_stands, no_row_stands}
use Rattle.folder_nodes.proofs.restoring.stands.Goals as goal

pub returns-in-Some : goal.returns-in-Some
returns-in-Some c = row_stands c.args.folders.now.rows c.args.f c.in-Some.field-0.now c.in-Some.ensures.row

pub returns-in-None : goal.returns-in-None
returns-in-None c = no_row_stands c.args.folders.now.rows c.args.f c.in-None.ensures.row
