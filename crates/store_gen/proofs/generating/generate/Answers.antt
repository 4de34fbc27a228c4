use Rattle.std.proofs.Common.{◌≡◌, List, ◌++◌, ℕ, ap, sym, ◌∙◌}
use Rattle.cry_base.specs.Texts.{ended_lines, hex_of, hex_digit}
use Rattle.store_gen.specs.Rule.{opening, first, drawn_requests}
use Rattle.store_gen.specs.declared.generator.Generator.{Generator}
use Rattle.store_gen.proofs.Lines.{lines_of, script_parts}
use Rattle.store_gen.proofs.generating.generate.Goals as goal

pub returns : goal.returns
unfolding opening ended_lines hex_of hex_digit
returns c =
    let begun : c.append.new.self.items ≡ c.new-text.result.items ++ lines_of opening = c.in_ok-append.ensures.items in
    let items : c.append.new.self.items ≡ lines_of opening = begun ∙ ap (λ (xs : List ℕ). xs ++ lines_of opening) c.new-text.ensures in
    c.in_ok-put_drawn.ensures
    ∙ ap (λ (g : Generator). c.append.new.self.items ++ lines_of (drawn_requests c.args.count g)) c.new-generator.ensures.start
    ∙ ap (λ (xs : List ℕ). xs ++ lines_of (drawn_requests c.args.count (first c.args.seed))) items
    ∙ sym (script_parts c.args.seed c.args.count)
