use Rattle.std.proofs.Common.{◌≡◌, ◌≤◌, false, length}
use Rattle.cry_io.specs.Leaving.{shown_of}
use Rattle.owner_tests.proofs.script.replies.Given as goal

abbrev pub invariant-loop-line : goal.invariant-loop-line
invariant-loop-line l = l.store.owner.journal.is_closed ≡ false → l.store.owner.journal.end ≤ length (shown_of l.store.disk.events)
