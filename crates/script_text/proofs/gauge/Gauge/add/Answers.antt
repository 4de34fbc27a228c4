use Rattle.std.proofs.Common.{◌+◌, ◌-◌, ◌≡◌, ◌<◌, ◌++◌, arith, ap, ◌∙◌, length, take, length-append, List, ℕ, nat_lt, true}
use Rattle.std.specs.List.{count_by}
use Rattle.std.proofs.lemmas.Bool.Decides.{nat_tests}
use Rattle.script_text.specs.Cutting.{is_newline}
use Rattle.script_text.proofs.Gauges.{counts_on}
use Rattle.script_text.proofs.gauge.Gauge.add.Goals as goal

pub invariant_of-self-else-len-self : goal.invariant_of-self-else-len-self
invariant_of-self-else-len-self c =
    let limit : ℕ = c.self.inside.limit in
    let fed : List ℕ = c.self.inside.fed.bytes in
    let piece : List ℕ = c.args.piece.now in
    let new : List ℕ = c.with-self-inside.result.bytes in
    let both : length new ≡ length fed + length piece = ap length c.with-self-inside.ensures ∙ length-append fed piece in
    let room : c.self.inside.room ≡ limit - length fed = c.self.invariant.1 in
    let past : limit < length new = omega (arith, both, room, c.if-len-self.false) in
    let counted : c.self.inside.newlines + c.count_newlines-else-len-self.result ≡ count_by is_newline (take limit new) =
    let now : c.self.inside.newlines ≡ count_by is_newline (take limit fed) = c.self.invariant.2 in
    let more : count_by is_newline (take limit (fed ++ piece)) ≡ count_by is_newline (take limit fed) + count_by is_newline (take c.self.inside.room piece) =
    counts_on limit c.self.inside.room fed piece room in
    let all : count_by is_newline (take limit new) ≡ count_by is_newline (take limit (fed ++ piece)) =
    ap (λ bytes. count_by is_newline (take limit bytes)) c.with-self-inside.ensures in
    omega (arith, now, more, all, c.count_newlines-else-len-self.ensures)
    in
    let over : true ≡ nat_lt limit (length new) = grind (arith, nat_tests, past) in (
      c.self.invariant.0,
      omega (arith, past),
      counted,
      over,
    )
