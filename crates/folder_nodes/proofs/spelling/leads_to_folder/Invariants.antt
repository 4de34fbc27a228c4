use Rattle.folder_nodes.proofs.Leading.{Leads}
use Rattle.folder_nodes.proofs.spelling.leads_to_folder.Given as goal

abbrev pub invariant-loop-climbed : goal.invariant-loop-climbed
invariant-loop-climbed l = Leads l.shape.tree l.names l.f l.bytes l.here l.left l._climbed
