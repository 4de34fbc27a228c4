use Rattle.std.proofs.Common.{List, subst}
use Rattle.cry_base.specs.Sets.{In}
use Rattle.trail_audit.specs.Auditing.{bundle_key}
use Rattle.trail_audit.specs.Derived.{PlainSeen}
use Rattle.trail_audit.proofs.Disclosed.{shown_is_seen}
use Rattle.journal_bytes.specs.Opening.{reading_of}
use Rattle.trail_audit.proofs.laws.audits_show_what_is_derived.Goals as goal

pub returns : goal.returns
returns c = λ owner m valid whole who bundle answer serial drawn audit s i.
    shown_is_seen owner m valid whole who (bundle_key bundle (reading_of owner m)) audit.keys serial drawn (λ key there. (audit.right.right key).0 there) s (subst (λ (l : List PlainSeen). In s l) audit.seen i)
