use Rattle.std.proofs.Common.{◌≡◌, List, ◌++◌, sym, ap, ◌∙◌}
use Rattle.std.specs.List.{list_all}
use Rattle.cry_base.specs.Sets.{has}
use Rattle.cry_base.specs.declared.roles.Edge.{Edge}
use Rattle.role_graph.specs.Adjacent.{out_of}
use Rattle.role_graph.specs.Edges.{unordered}
use Rattle.role_graph.specs.Roles.{same_role}
use Rattle.public_fold.proofs.MarksClosed.{role_closed}
use Rattle.public_fold.proofs.sound_marks.is_closed_at.Goals as goal

pub returns-clause-closed : goal.returns-clause-closed
returns-clause-closed c =
    let es : List Edge = unordered c.args.roles.now.store in
    let out : List Edge = out_of es c.args.role in
    let found : c.deref.result.now ≡ out = c.deref.ensures.value ∙ c.in_ok-push_from.ensures.edges ∙ ap (λ (l : List Edge). l ++ out) c.clear.ensures.items in
    let test = λ (e : Edge). has same_role c.args.dirty.now e.to in
    let is : c.are_marked.result ≡ list_all test out = c.are_marked.ensures ∙ ap (list_all test) found in
    let told = role_closed es c.args.dirty.now c.args.role in
    (λ t. told.0 (sym is ∙ t), λ each. is ∙ told.1 each)
