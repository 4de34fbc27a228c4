-- How many look-ups of edges a note's change takes at most.
use Rattle.std.specs.Prelude.{ℕ, ◌+◌, ◌*◌, Bool, cond, length}
use Rattle.cry_base.specs.Store.{Store}
use Rattle.role_graph.specs.Adjacent.{at_roles}
use Rattle.role_graph.specs.Edges.{edges}
use Rattle.rekey_walk.specs.Strict.{strict_look_ups}
use Rattle.record_format.specs.Noted.{Note}
use Rattle.move_plan.specs.Change.{row_change}

-- for roles that go, one for each edge at them, and two for each of them
abbrev pub row_look_ups : Store → Note → ℕ
row_look_ups s note = length (at_roles (edges s) (row_change s note).gone) + 2 * length (row_change s note).gone

-- and in a strict store as many more as the strict roles take
abbrev pub change_look_ups : Bool → Store → Note → ℕ
change_look_ups strict s note = row_look_ups s note + cond strict (strict_look_ups (edges s) (row_change s note).removed) 0
