use Rattle.std.proofs.Common.{◌≡◌, drop}
use Rattle.public_fold.specs.Fitted.{are_due, has_link_head}
use Rattle.public_fold.proofs.fitting.are_links.Given as goal

abbrev pub invariant-loop-i : goal.invariant-loop-i
invariant-loop-i l = are_due has_link_head (drop l.i l.heads) (drop l.i l.records) ≡ are_due has_link_head l.heads l.records
