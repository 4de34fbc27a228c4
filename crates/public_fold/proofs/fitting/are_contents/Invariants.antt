use Rattle.std.proofs.Common.{◌≡◌, drop, map}
use Rattle.record_format.specs.Plain.{plain_content}
use Rattle.public_fold.specs.Fitted.{are_due}
use Rattle.public_fold.specs.Heads.{is_content_of}
use Rattle.public_fold.proofs.fitting.are_contents.Given as goal

abbrev pub invariant-loop-i : goal.invariant-loop-i
invariant-loop-i l = are_due is_content_of (drop l.i l.heads) (map plain_content (drop l.i l.records)) ≡ are_due is_content_of l.heads (map plain_content l.records)
