use Rattle.std.proofs.Common.{◌≡◌, ◌≤◌, length}
use Rattle.grant_book.specs.Granted.{without_pairs_on}
use Rattle.grant_book.proofs.grants.Grants.drop_on.Given as goal

abbrev pub invariant-loop-grant : goal.invariant-loop-grant
invariant-loop-grant l =
    (l.self.checks ≡ l.initial.self.checks) × (without_pairs_on l.self.pairs l.fn.f.0 ≡ without_pairs_on l.initial.self.pairs l.fn.f.0) × (l.initial.self.spare ≤ l.self.spare)

abbrev pub decreases-loop-grant : goal.decreases-loop-grant
decreases-loop-grant l = length l.self.pairs
