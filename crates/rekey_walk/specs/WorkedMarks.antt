-- Opens the words of marks and plans, and those below them, to a computation.
use Rattle.role_graph.specs.WorkedGraph.{graph}
use Rattle.role_graph.specs.Closing.{turned}
use Rattle.rekey_walk.specs.Dirty.{mark, mark_all, leads_to_any, plan}
use Rattle.rekey_walk.specs.Strict.{sources_of, may_renew, strict_roles}

-- every word of marks, plans and strict roles
unfoldable pub marks : Unit {0}
unfolding graph turned mark mark_all leads_to_any plan sources_of may_renew strict_roles
marks = tt
