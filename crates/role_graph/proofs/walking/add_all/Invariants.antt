use Rattle.std.proofs.Common.{◌≡◌, drop}
use Rattle.role_graph.specs.Adjacent.{HaveSame, with_new}
use Rattle.role_graph.proofs.walking.add_all.Given as goal

abbrev pub invariant-loop-role : goal.invariant-loop-role
invariant-loop-role l = HaveSame l.initial.found.items l.initial.seen.keys
    → (with_new l.found.items (drop l.role-index l.roles) ≡ with_new l.initial.found.items l.roles) × HaveSame l.found.items l.seen.keys
