use Rattle.std.proofs.Common.{◌≡◌, ◌++◌, List, length, map, arith, sym, ap, ◌∙◌}
use Rattle.cry_base.specs.declared.roles.Edge.{Edge}
use Rattle.role_graph.specs.Adjacent.{as_walked, edges_but, ends_from, into, out_of}
use Rattle.role_graph.specs.Edges.{unordered}
use Rattle.role_graph.specs.declared.way.Way.{Way}
use Rattle.role_graph.proofs.Walked.{against_ends, against_length, along_ends}
use Rattle.role_graph.proofs.walking.Ahead.look.Goals as goal

pub returns-in_ok-put_ends-in-Along-clause-ends : goal.returns-in_ok-put_ends-in-Along-clause-ends
returns-in_ok-put_ends-in-Along-clause-ends g c =
    let es = unordered (g.R.Adjacent.store c.args.roles.now) in
    let removed = c.args.removed.now in
    let role = c.args.role in
    let listed : c.push_from.new.found.items ≡ out_of es role =
    c.in_ok-push_from-in-Along.ensures.edges ∙ ap (λ (l : List Edge). l ++ out_of es role) c.clear.ensures.items in
    c.in_ok-put_ends-in-Along.ensures ∙ ap (λ (l : List Edge). map (λ (e : Edge). e.to) (edges_but removed l)) (c.deref.ensures.value ∙ listed)
    ∙ along_ends removed es role ∙ ap (λ (w : Way). ends_from (as_walked w (edges_but removed es)) role) (sym c.in-Along.is)

pub returns-in_ok-put_starts-in-Against-clause-ends : goal.returns-in_ok-put_starts-in-Against-clause-ends
returns-in_ok-put_starts-in-Against-clause-ends g c =
    let es = unordered (g.R.Adjacent.store c.args.roles.now) in
    let removed = c.args.removed.now in
    let role = c.args.role in
    let listed : c.push_into.new.found.items ≡ into es role =
    c.in_ok-push_into-in-Against.ensures.edges ∙ ap (λ (l : List Edge). l ++ into es role) c.clear.ensures.items in
    c.in_ok-put_starts-in-Against.ensures ∙ ap (λ (l : List Edge). map (λ (e : Edge). e.from) (edges_but removed l)) (c.deref-in-Against.ensures.value ∙ listed)
    ∙ against_ends removed es role ∙ ap (λ (w : Way). ends_from (as_walked w (edges_but removed es)) role) (sym c.in-Against.is)

pub returns-in_ok-put_starts-in-Against-clause-steps : goal.returns-in_ok-put_starts-in-Against-clause-steps
returns-in_ok-put_starts-in-Against-clause-steps g c =
    let es = unordered (g.R.Adjacent.store c.args.roles.now) in
    let role = c.args.role in
    let none : length c.clear.new.self.items ≡ 0 = ap (λ (l : List Edge). length l) c.clear.ensures.items in
    let listed : length c.push_into.new.found.items ≡ length (out_of (as_walked c.args.way es) role) =
    ap (λ (l : List Edge). length l) (c.in_ok-push_into-in-Against.ensures.edges ∙ ap (λ (l : List Edge). l ++ into es role) c.clear.ensures.items)
    ∙ against_length es role ∙ ap (λ (w : Way). length (out_of (as_walked w es) role)) (sym c.in-Against.is) in
    omega (arith, none, listed, c.in_ok-push_into-in-Against.ensures.steps)

pub returns-in_ok-put_starts-in-Against-clause-most : goal.returns-in_ok-put_starts-in-Against-clause-most
returns-in_ok-put_starts-in-Against-clause-most g c =
    let es = unordered (g.R.Adjacent.store c.args.roles.now) in
    let role = c.args.role in
    let none : length c.clear.new.self.items ≡ 0 = ap (λ (l : List Edge). length l) c.clear.ensures.items in
    let listed : length c.push_into.new.found.items ≡ length (out_of (as_walked c.args.way es) role) =
    ap (λ (l : List Edge). length l) (c.in_ok-push_into-in-Against.ensures.edges ∙ ap (λ (l : List Edge). l ++ into es role) c.clear.ensures.items)
    ∙ against_length es role ∙ ap (λ (w : Way). length (out_of (as_walked w es) role)) (sym c.in-Against.is) in
    omega (arith, none, listed, c.in_ok-push_into-in-Against.ensures.steps)

pub returns-in_err-put_starts-in-Against-clause-most : goal.returns-in_err-put_starts-in-Against-clause-most
returns-in_err-put_starts-in-Against-clause-most g c =
    let es = unordered (g.R.Adjacent.store c.args.roles.now) in
    let role = c.args.role in
    let none : length c.clear.new.self.items ≡ 0 = ap (λ (l : List Edge). length l) c.clear.ensures.items in
    let listed : length c.push_into.new.found.items ≡ length (out_of (as_walked c.args.way es) role) =
    ap (λ (l : List Edge). length l) (c.in_ok-push_into-in-Against.ensures.edges ∙ ap (λ (l : List Edge). l ++ into es role) c.clear.ensures.items)
    ∙ against_length es role ∙ ap (λ (w : Way). length (out_of (as_walked w es) role)) (sym c.in-Against.is) in
    omega (arith, none, listed, c.in_ok-push_into-in-Against.ensures.steps)
