use Rattle.std.proofs.Common.{◌≡◌, ◌+◌, ◌-◌, ◌++◌, ℕ, List, length, take, arith, ap, refl, subst, sym, ◌∙◌, length-append, length-drop}
use Rattle.std.proofs.lemmas.List.{drop_all, take-append-drop}
use Rattle.script_text.specs.Cutting.{CutterState, IsOneLine}
use Rattle.cli_base.specs.Lines.{AreOfLines, FeedsLine, LineState, input_limit}
use Rattle.cli_base.proofs.TakenLines.{of_lines_begun}
use Rattle.cli_base.proofs.lines.LineReader.feed_line.Goals as goal

abbrev fed_with : CutterState → List ℕ → CutterState
fed_with cutter front = record { fed = cutter.fed ++ front; held = cutter.held ++ front; limit = cutter.limit }

pub invariant_of-self-2 : goal.invariant_of-self-2
invariant_of-self-2 c =
    let inside = c.self.inside in
    let old : CutterState = inside.cutter in
    let new : CutterState = c.feed.new.self in
    let count : ℕ = c.line_len-count.result in
    let front : List ℕ = take count inside.piece in
    let is : new ≡ fed_with old front = c.in_ok-feed.ensures.fed ∙ ap (λ (p : List ℕ). fed_with old (take count p)) c.as_slice-2.ensures in
    let one : IsOneLine old.held = subst (λ x. IsOneLine x.line) (sym c.self.view_is) c.requires in
    let of : AreOfLines 1 front = subst (λ p. AreOfLines 1 (take count p)) c.as_slice.ensures c.line_len-count.ensures.line in
    let held : length new.held ≡ length old.held + length front = ap (λ (x : CutterState). length x.held) is ∙ length-append old.held front in
    let fed : length new.fed ≡ length old.fed + length front = ap (λ (x : CutterState). length x.fed) is ∙ length-append old.fed front in (
      subst (λ (x : CutterState). AreOfLines 1 x.held) (sym is) (of_lines_begun 1 0 old.held front (omega arith) one of),
      omega (arith, held, fed, c.self.invariant.1),
      omega (arith, held, fed, c.self.invariant.2),
      ap (λ (x : CutterState). x.limit) is ∙ c.self.invariant.3,
      omega (arith, c.self.invariant.4, ap length c.skip.ensures, length-drop count inside.piece),
    )

pub returns-clause-feeds : goal.returns-clause-feeds
returns-clause-feeds c =
    let inside = c.self.inside in
    let old : CutterState = inside.cutter in
    let new : CutterState = c.feed.new.self in
    let count : ℕ = c.line_len-count.result in
    let front : List ℕ = take count inside.piece in
    let is : new ≡ fed_with old front = c.in_ok-feed.ensures.fed ∙ ap (λ (p : List ℕ). fed_with old (take count p)) c.as_slice-2.ensures in
    let held : length new.held ≡ length old.held + length front = ap (λ (x : CutterState). length x.held) is ∙ length-append old.held front in
    let fed : length new.fed ≡ length old.fed + length front = ap (λ (x : CutterState). length x.fed) is ∙ length-append old.fed front in
    let whole : IsOneLine front → count ≡ length inside.piece =
    subst (λ (p : List ℕ). IsOneLine (take count p) → count ≡ length p) c.as_slice.ensures c.line_len-count.ensures.whole in
    let n : LineState = record { line = new.held; piece = c.skip.new.self; room = (input_limit + length new.held) - length new.fed; given = inside.given } in
    subst (λ x. FeedsLine x n) c.self.view_is (record {
      front = front;
      line = ap (λ (x : CutterState). x.held) is;
      piece = sym (take-append-drop count inside.piece) ∙ ap (λ p. front ++ p) (sym c.skip.ensures);
      whole = λ one. c.skip.ensures ∙ drop_all count inside.piece (omega (arith, whole one));
      room = omega (arith, held, fed);
      given = refl;
    })
