use Rattle.std.proofs.Common.{Some, ◌≡◌, ◌+◌, ◌-◌, ◌≤◌, ◌++◌, [], ℕ, List, length, arith, ap, refl, subst, sym, ◌∙◌}
use Rattle.std.proofs.lemmas.List.{append-nil}
use Rattle.cry_base.specs.Listed.{Listed}
use Rattle.script_text.specs.Cutting.{CutterState, IsOneLine, TakesRest}
use Rattle.cli_base.specs.Lines.{Gives, IsUnended, LineState, Takes, bytes_ahead, input_limit, lines_ahead}
use Rattle.cli_base.specs.declared.lines.Next.TheVariants.{Line, End}
use Rattle.cli_base.proofs.LineLemmas.{GivesLast, ends_without_line, line_at_end, no_line_ends, same_state, some_bytes, takes_no_line}
use Rattle.cli_base.proofs.lines.LineReader.last_line.Goals as goal

abbrev seen : CutterState → List ℕ → ℕ → LineState
seen cutter piece given = record { line = cutter.held; piece = piece; room = (input_limit + length cutter.held) - length cutter.fed; given = given }

pub returns-in_default-clause-gives : goal.returns-in_default-clause-gives
returns-in_default-clause-gives c =
    let s : LineState = c.args.self.now in
    let old : CutterState = c.self.inside.cutter in
    let takes = subst (λ rest. TakesRest old c.rest.new.self rest) c.in_default.is c.rest.ensures in
    let held : old.held ≡ s.line = ap (λ (x : LineState). x.line) c.self.view_is in
    let one : IsOneLine (old.held ++ []) = subst IsOneLine (sym held ∙ sym (append-nil old.held)) c.requires.one in
    let none : s.line ≡ [] = sym held ∙ no_line_ends old.held [] one takes.0 in
    let same = ap (λ (x : CutterState). seen x c.self.inside.piece c.self.inside.given) takes.1 ∙ c.self.view_is in
    subst (λ x. Gives End (lines_ahead s []) (lines_ahead x [])) (sym same) (ends_without_line s c.requires none)

pub returns-in_default-clause-takes : goal.returns-in_default-clause-takes
returns-in_default-clause-takes c =
    let s : LineState = c.args.self.now in
    let old : CutterState = c.self.inside.cutter in
    let takes = subst (λ rest. TakesRest old c.rest.new.self rest) c.in_default.is c.rest.ensures in
    let held : old.held ≡ s.line = ap (λ (x : LineState). x.line) c.self.view_is in
    let one : IsOneLine (old.held ++ []) = subst IsOneLine (sym held ∙ sym (append-nil old.held)) c.requires.one in
    let none : s.line ≡ [] = sym held ∙ no_line_ends old.held [] one takes.0 in
    let same = ap (λ (x : CutterState). seen x c.self.inside.piece c.self.inside.given) takes.1 ∙ c.self.view_is in
    subst (λ x. Takes End s x (bytes_ahead s []) (bytes_ahead x [])) (sym same) (takes_no_line s c.requires none)

-- the line that was begun is all that is held
last_given : (old new : CutterState) (piece : List ℕ) (given : ℕ) (bytes : Listed ℕ) → TakesRest old new (Some bytes) → IsUnended (seen old piece given)
    → GivesLast (Line (given + 1) bytes) (seen old piece given) (seen new piece (given + 1))
last_given old new piece given bytes takes unended =
    let one : IsOneLine (new.held ++ bytes.items) = subst IsOneLine takes.3 unended.one in
    let none : new.held ≡ [] = no_line_ends new.held bytes.items one takes.2 in
    let all : bytes.items ≡ old.held = sym (takes.3 ∙ ap (λ front. front ++ bytes.items) none) in
    let fed : length new.fed ≡ length old.fed = ap (λ (x : CutterState). length x.fed) takes.4 in
    let some : 1 ≤ length old.held = omega (arith, some_bytes bytes.items takes.1, ap length all) in
    let room : (input_limit + length new.held) - length new.fed ≡ ((input_limit + length old.held) - length old.fed) - length old.held =
    omega (arith, fed, ap length none) in
    line_at_end (seen old piece given) (seen new piece (given + 1)) bytes unended some all
    (same_state new.held [] piece piece _ _ (given + 1) (given + 1) none refl room refl)

pub returns-clause-gives : goal.returns-clause-gives
returns-clause-gives c =
    let inside = c.self.inside in
    let takes = subst (λ rest. TakesRest inside.cutter c.rest.new.self rest) c.in-Some.is c.rest.ensures in
    let n : LineState = seen c.rest.new.self inside.piece (inside.given + 1) in
    (subst (λ x. GivesLast (Line (inside.given + 1) c.in-Some.bytes) x n) c.self.view_is
    (last_given inside.cutter c.rest.new.self inside.piece inside.given c.in-Some.bytes takes (subst IsUnended (sym c.self.view_is) c.requires))).gives

pub returns-clause-takes : goal.returns-clause-takes
returns-clause-takes c =
    let inside = c.self.inside in
    let takes = subst (λ rest. TakesRest inside.cutter c.rest.new.self rest) c.in-Some.is c.rest.ensures in
    let n : LineState = seen c.rest.new.self inside.piece (inside.given + 1) in
    (subst (λ x. GivesLast (Line (inside.given + 1) c.in-Some.bytes) x n) c.self.view_is
    (last_given inside.cutter c.rest.new.self inside.piece inside.given c.in-Some.bytes takes (subst IsUnended (sym c.self.view_is) c.requires))).takes
