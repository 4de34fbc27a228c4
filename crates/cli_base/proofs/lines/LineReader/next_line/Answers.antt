use Rattle.std.proofs.Common.{◌≡◌, [], Ok, arith, sym, ap, subst, ◌∙◌, length}
use Rattle.cry_io.proofs.ToldLemmas.{told_again}
use Rattle.cli_base.specs.declared.lines.Next.TheVariants.{End}
use Rattle.cli_base.specs.Lines.{LineState, GivesHeld, GivesFrom, Gives, Takes, lines_of, lines_ahead, bytes_ahead}
use Rattle.cli_base.proofs.LineLemmas.{held_is_no_end, read_on, nothing_read, takes_same_room}
use Rattle.cli_base.proofs.lines.LineReader.next_line.Goals as goal

pub returns-in-Some-clause-to_end : goal.returns-in-Some-clause-to_end
returns-in-Some-clause-to_end g c = λ ended x now.
    let l : LineState = c.loop-held.self in
    let h : LineState = c.held_line.new.self in
    let gives : GivesFrom c.in-Some.next l h = subst (λ o. GivesHeld o l h) c.in-Some.is c.in-Ok.ensures.held in
    let is : c.in-Some.next ≡ End = cc in
    absurd (held_is_no_end l h (subst (λ next. GivesFrom next l h) is gives))

pub returns-in_default-read_piece-clause-lines : goal.returns-in_default-read_piece-clause-lines
returns-in_default-read_piece-clause-lines g c = λ x y was now.
    let left = g.S.Source.left in
    let loop = c.loop-held.invariant in
    let l : LineState = c.loop-held.self in
    let h : LineState = c.held_line.new.self in
    let r : LineState = c.read_piece.new.self in
    let kept = subst (λ o. GivesHeld o l h) c.in_default-held.is c.in-Ok.ensures.held in
    let again = told_again (left c.args.input.now) (left c.loop-held.input) x loop.told was in
    let bytes = read_on l h r again.0 y kept.1 c.read_piece.ensures.rest (c.read_piece.ensures.bytes again.0 y again.1 now) in
    let room : r.room ≡ c.args.self.now.room = ap (λ s. s.room) c.read_piece.ensures.rest ∙ ap (λ s. s.room) kept.1 ∙ loop.room in
    ap (λ b. lines_of r.room b) (sym bytes ∙ sym (loop.bytes x again.0 was again.1)) ∙ ap (λ n. lines_of n (bytes_ahead c.args.self.now x)) room

pub returns-then-count-eq0-clause-lines : goal.returns-then-count-eq0-clause-lines
returns-then-count-eq0-clause-lines g c = λ x y was now.
    let left = g.S.Source.left in
    let loop = c.loop-held.invariant in
    let l : LineState = c.loop-held.self in
    let h : LineState = c.held_line.new.self in
    let r : LineState = c.read_piece.new.self in
    let n : LineState = c.last_line.new.self in
    let kept = subst (λ o. GivesHeld o l h) c.in_default-held.is c.in-Ok.ensures.held in
    let again = told_again (left c.args.input.now) (left c.loop-held.input) x loop.told was in
    let given = c.read_piece.ensures.bytes again.0 y again.1 now in
    let bytes = read_on l h r again.0 y kept.1 c.read_piece.ensures.rest given in
    let room : r.room ≡ c.args.self.now.room = ap (λ s. s.room) c.read_piece.ensures.rest ∙ ap (λ s. s.room) kept.1 ∙ loop.room in
    let empty : length r.piece ≡ 0 = sym c.in-Ok-read_piece.ensures.count ∙ c.if-count-eq0.true in
    let at_end = c.in-Ok-read_piece.ensures.at_end (ap (λ k. Ok k) c.if-count-eq0.true) again.0 again.1 in
    let gone : y ≡ [] = nothing_read r.piece again.0 y empty at_end given in
    let same : lines_ahead r y ≡ lines_ahead c.args.self.now x =
    ap (λ b. lines_of r.room b) (sym bytes ∙ sym (loop.bytes x again.0 was again.1)) ∙ ap (λ m. lines_of m (bytes_ahead c.args.self.now x)) room
    in
    subst (λ before. Gives c.last_line.result before (lines_ahead n y)) same
    (subst (λ z. Gives c.last_line.result (lines_ahead r z) (lines_ahead n z)) (sym gone) c.last_line.ensures.gives)

pub returns-then-count-eq0-clause-to_end : goal.returns-then-count-eq0-clause-to_end
returns-then-count-eq0-clause-to_end g c = λ ended y now.
    let left = g.S.Source.left in
    let r : LineState = c.read_piece.new.self in
    let again = told_again (left c.read_piece.new.input) (left c.loop-held.input) y (sym c.read_piece.ensures.told) now in
    let empty : length r.piece ≡ 0 = sym c.in-Ok-read_piece.ensures.count ∙ c.if-count-eq0.true in
    let at_end = c.in-Ok-read_piece.ensures.at_end (ap (λ k. Ok k) c.if-count-eq0.true) again.0 again.1 in
    nothing_read r.piece again.0 y empty at_end (c.read_piece.ensures.bytes again.0 y again.1 now)

pub loop-held-preserved : goal.loop-held-preserved
loop-held-preserved g c =
    let left = g.S.Source.left in
    let loop = c.loop-held.invariant in
    let l : LineState = c.loop-held.self in
    let h : LineState = c.held_line.new.self in
    let r : LineState = c.read_piece.new.self in
    let kept = subst (λ o. GivesHeld o l h) c.in_default-held.is c.in-Ok.ensures.held in
    record {
      told = c.read_piece.ensures.told ∙ loop.told;
      bytes = λ x y was now.
          let again = told_again (left c.args.input.now) (left c.loop-held.input) x loop.told was in
          loop.bytes x again.0 was again.1
          ∙ read_on l h r again.0 y kept.1 c.read_piece.ensures.rest (c.read_piece.ensures.bytes again.0 y again.1 now);
      room = ap (λ s. s.room) c.read_piece.ensures.rest ∙ ap (λ s. s.room) kept.1 ∙ loop.room;
      given = ap (λ s. s.given) c.read_piece.ensures.rest ∙ ap (λ s. s.given) kept.1 ∙ loop.given;
      counts = omega (arith, loop.counts, c.in-Ok-read_piece.ensures.counts);
    }

pub returns-in_default-read_piece-clause-bytes : goal.returns-in_default-read_piece-clause-bytes
returns-in_default-read_piece-clause-bytes g c = λ x y was now.
    let left = g.S.Source.left in
    let loop = c.loop-held.invariant in
    let l : LineState = c.loop-held.self in
    let h : LineState = c.held_line.new.self in
    let r : LineState = c.read_piece.new.self in
    let kept = subst (λ o. GivesHeld o l h) c.in_default-held.is c.in-Ok.ensures.held in
    let again = told_again (left c.args.input.now) (left c.loop-held.input) x loop.told was in
    let bytes = read_on l h r again.0 y kept.1 c.read_piece.ensures.rest (c.read_piece.ensures.bytes again.0 y again.1 now) in
    (sym bytes ∙ sym (loop.bytes x again.0 was again.1), ap (λ s. s.room) c.read_piece.ensures.rest ∙ ap (λ s. s.room) kept.1 ∙ loop.room)

pub returns-then-count-eq0-clause-bytes : goal.returns-then-count-eq0-clause-bytes
returns-then-count-eq0-clause-bytes g c = λ x y was now.
    let left = g.S.Source.left in
    let loop = c.loop-held.invariant in
    let l : LineState = c.loop-held.self in
    let h : LineState = c.held_line.new.self in
    let r : LineState = c.read_piece.new.self in
    let n : LineState = c.last_line.new.self in
    let kept = subst (λ o. GivesHeld o l h) c.in_default-held.is c.in-Ok.ensures.held in
    let again = told_again (left c.args.input.now) (left c.loop-held.input) x loop.told was in
    let given = c.read_piece.ensures.bytes again.0 y again.1 now in
    let bytes = read_on l h r again.0 y kept.1 c.read_piece.ensures.rest given in
    let room : r.room ≡ c.args.self.now.room = ap (λ s. s.room) c.read_piece.ensures.rest ∙ ap (λ s. s.room) kept.1 ∙ loop.room in
    let empty : length r.piece ≡ 0 = sym c.in-Ok-read_piece.ensures.count ∙ c.if-count-eq0.true in
    let at_end = c.in-Ok-read_piece.ensures.at_end (ap (λ k. Ok k) c.if-count-eq0.true) again.0 again.1 in
    let gone : y ≡ [] = nothing_read r.piece again.0 y empty at_end given in
    let same : bytes_ahead r y ≡ bytes_ahead c.args.self.now x = sym bytes ∙ sym (loop.bytes x again.0 was again.1) in
    takes_same_room c.last_line.result r c.args.self.now n (bytes_ahead c.args.self.now x) (bytes_ahead n y) room
    (subst (λ before. Takes c.last_line.result r n before (bytes_ahead n y)) same
    (subst (λ z. Takes c.last_line.result r n (bytes_ahead r z) (bytes_ahead n z)) (sym gone) c.last_line.ensures.takes))
