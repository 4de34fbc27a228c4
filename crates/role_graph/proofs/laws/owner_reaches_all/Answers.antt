use Rattle.role_graph.proofs.Typing.{folder_reached, file_reached, clearance_reached}
use Rattle.role_graph.proofs.laws.owner_reaches_all.Goals as goal

pub returns : goal.returns
returns c = record { folders = folder_reached; files = file_reached; clearances = clearance_reached }
