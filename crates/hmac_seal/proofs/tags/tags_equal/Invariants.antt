use Rattle.std.proofs.Common.{◌≡◌, ◌↔◌, take}
use Rattle.hmac_seal.proofs.tags.tags_equal.Given as goal

-- no bit is set exactly where the bytes so far agree
abbrev pub invariant-loop-i : goal.invariant-loop-i
invariant-loop-i l = (l.difference ≡ 0) ↔ (take l.i l.a ≡ take l.i l.b)
