use Rattle.std.proofs.Common.{◌≡◌, ◌++◌, map}
use Rattle.std.specs.List.{range_with_len}
use Rattle.log_index.specs.Objects.{holder_object}
use Rattle.log_index.proofs.objects.add_holders.Given as goal

abbrev pub invariant-loop-before : goal.invariant-loop-before
invariant-loop-before l = l.all.items ≡ l.initial.all.items ++ map holder_object (range_with_len 1 l.before)
