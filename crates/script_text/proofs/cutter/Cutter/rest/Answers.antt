use Rattle.std.proofs.Common.{Some, ◌≡◌, ◌≤◌, ◌++◌, [], ℕ, List, length, drop, arith, ap, refl, subst, sym, ◌∙◌}
use Rattle.std.proofs.lemmas.Bool.Decides.{nat_tests}
use Rattle.std.proofs.lemmas.List.{append-nil}
use Rattle.script_text.specs.Cutting.{CutterState, EndsLine, IsOneLine, TakesRest, with_newline}
use Rattle.script_text.proofs.LineEnds.{lines_end, no_bytes}
use Rattle.script_text.proofs.cutter.Cutter.rest.Goals as goal

pub returns-then-is_empty : goal.returns-then-is_empty
returns-then-is_empty c =
    let inside = c.self.inside in
    let lines : List ℕ = drop inside.at inside.whole.items in
    let test = sym c.is_empty.ensures ∙ c.if-is_empty.true in
    let empty : length c.as_slice.result.now ≡ 0 = grind (arith, nat_tests) in
    let none : inside.rest.items ≡ [] = sym c.as_slice.ensures ∙ no_bytes c.as_slice.result.now empty in (
      subst (λ (x : CutterState). EndsLine x.held) c.self.view_is
          (subst (λ (rest : List ℕ). EndsLine (with_newline inside.has_whole lines ++ rest)) (sym none) (lines_end inside.has_whole lines)),
      refl,
    )

pub returns : goal.returns
returns c =
    let inside = c.self.inside in
    let lines : List ℕ = with_newline inside.has_whole (drop inside.at inside.whole.items) in
    let test = sym c.is_empty.ensures ∙ c.if-is_empty.false in
    let some : 1 ≤ length c.as_slice.result.now = grind (arith, nat_tests) in
    let was : c.replace.result.items ≡ inside.rest.items = ap (λ r. r.items) c.replace.ensures.value in
    let none : c.replace.new.dest.items ≡ [] = ap (λ r. r.items) c.replace.ensures.after ∙ c.new.ensures in
    let n : CutterState = record { fed = inside.gauge.fed; held = lines ++ c.replace.new.dest.items; limit = inside.gauge.limit } in
    subst (λ (x : CutterState). TakesRest x n (Some c.replace.result)) c.self.view_is (
      subst IsOneLine (sym was) c.self.invariant.1,
      λ is. absurd (omega (arith, some, ap length c.as_slice.ensures, ap length was, ap length is)),
      subst (λ (rest : List ℕ). EndsLine (lines ++ rest)) (sym none) (lines_end inside.has_whole (drop inside.at inside.whole.items)),
      ap (λ (rest : List ℕ). lines ++ rest) (sym was)
          ∙ ap (λ (front : List ℕ). front ++ c.replace.result.items) (sym (append-nil lines) ∙ ap (λ (rest : List ℕ). lines ++ rest) (sym none)),
      refl,
    )
