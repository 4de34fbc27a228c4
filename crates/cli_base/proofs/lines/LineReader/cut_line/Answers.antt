use Rattle.std.proofs.Common.{◌≡◌, ◌≢◌, ◌+◌, ◌-◌, ◌<◌, ◌≤◌, ◌∷◌, [], ℕ, List, length, arith, ap, inl, refl, subst, sym, ◌∙◌, length-append}
use Rattle.std.specs.Prelude.{is_some}
use Rattle.std.proofs.lemmas.List.Elements.{All-nil}
use Rattle.script_text.specs.Cutting.{IsOneLine, CutterState, TakesLine}
use Rattle.cli_base.specs.Lines.{LineState, GivesFrom, input_limit}
use Rattle.cli_base.specs.declared.lines.Next.TheVariants.{Line, PastLimit}
use Rattle.cli_base.proofs.LineLemmas.{fed_past, fed_within, line_cut, nothing_behind, past_limit}
use Rattle.cli_base.proofs.lines.LineReader.cut_line.Goals as goal

pub returns-then-is_some-clause-cut : goal.returns-then-is_some-clause-cut
returns-then-is_some-clause-cut c =
    let inside = c.self.inside in
    let cutter : CutterState = inside.cutter in
    let s : LineState = record { line = cutter.held; piece = inside.piece; room = (input_limit + length cutter.held) - length cutter.fed; given = inside.given } in
    let past : cutter.limit < length cutter.fed =
    fed_past cutter.limit cutter.fed (ap is_some (sym c.over.ensures) ∙ sym c.is_some.ensures ∙ c.if-is_some.true) in
    subst (λ x. GivesFrom (PastLimit (inside.given + 1)) x x) c.self.view_is
    (past_limit s c.self.invariant.0 (omega (arith, past, c.self.invariant.1, c.self.invariant.2, c.self.invariant.3)) (omega (arith, c.self.invariant.4)))

pub invariant_of-self-2 : goal.invariant_of-self-2
invariant_of-self-2 c =
    let old : CutterState = c.self.inside.cutter in
    let new : CutterState = c.line.new.self in
    let takes = subst (λ line. TakesLine old new line) c.in-Some.is c.in_ok-bytes.ensures.takes in
    let none : new.held ≡ [] = nothing_behind old.held c.in-Some.bytes.items new.held c.self.invariant.0 takes.0 takes.1 in
    let within : length old.fed ≤ old.limit =
    fed_within old.limit old.fed (ap is_some (sym c.over.ensures) ∙ sym c.is_some.ensures ∙ c.if-is_some.false) in
    let fed : length new.fed ≡ length old.fed = ap (λ (x : CutterState). length x.fed) takes.2 in
    let held : length old.held ≡ length c.in-Some.bytes.items + (length new.held + 1) =
    omega (arith, ap length takes.1, length-append c.in-Some.bytes.items (10 ∷ new.held)) in (
      inl (subst IsOneLine (sym none) (All-nil (λ byte. byte ≢ 10))),
      omega (arith, held, fed, c.self.invariant.1),
      omega (arith, held, fed, within, c.self.invariant.3),
      ap (λ (x : CutterState). x.limit) takes.2 ∙ c.self.invariant.3,
      c.self.invariant.4,
    )

pub returns-clause-cut : goal.returns-clause-cut
returns-clause-cut c =
    let inside = c.self.inside in
    let old : CutterState = c.self.inside.cutter in
    let new : CutterState = c.line.new.self in
    let s : LineState = record { line = old.held; piece = inside.piece; room = (input_limit + length old.held) - length old.fed; given = inside.given } in
    let n : LineState = record { line = new.held; piece = inside.piece; room = (input_limit + length new.held) - length new.fed; given = inside.given + 1 } in
    let line : List ℕ = c.in-Some.bytes.items in
    let takes = subst (λ line. TakesLine old new line) c.in-Some.is c.in_ok-bytes.ensures.takes in
    let within : length old.fed ≤ old.limit =
    fed_within old.limit old.fed (ap is_some (sym c.over.ensures) ∙ sym c.is_some.ensures ∙ c.if-is_some.false) in
    let fed : length new.fed ≡ length old.fed = ap (λ (x : CutterState). length x.fed) takes.2 in
    let held : length old.held ≡ length line + (length new.held + 1) = omega (arith, ap length takes.1, length-append line (10 ∷ new.held)) in
    subst (λ x. GivesFrom (Line (inside.given + 1) c.in-Some.bytes) x n) c.self.view_is
    (line_cut s n c.in-Some.bytes c.self.invariant.0 takes.0 takes.1
    (omega (arith, held, fed, within, c.self.invariant.3)) refl refl (omega (arith, c.self.invariant.4)))
