use Rattle.std.proofs.Common.{rules, sym, ap, ◌∙◌}
use Rattle.std.specs.Prelude.{option_copied}
use Rattle.std.proofs.lemmas.Fn.{filter_same}
use Rattle.cry_base.specs.Sets.{has}
use Rattle.role_graph.specs.Adjacent.{roles_in}
use Rattle.role_graph.specs.Roles.{same_role}
use Rattle.role_graph.proofs.walking.Ahead.keep.Goals as goal

pub returns-in-Some : goal.returns-in-Some
unfolding roles_in
returns-in-Some c =
    let set = c.in-Some.set.now in
    let ends = c.args.self.now.ends.items in
    let kept = filter_same _ (has same_role set) _ (λ x b f called. search rules) ends c.retain.new.self.items c.retain.ensures.filtered in
    kept ∙ ap (λ o. roles_in o ends) (sym (ap option_copied c.in-Some.is))
