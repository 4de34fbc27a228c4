use Rattle.std.proofs.Common.{◌≡◌, true, false, sym, ◌∙◌, subst}
use Rattle.std.proofs.lemmas.Bool.{not-true, not-false}
use Rattle.cry_base.specs.Sets.{In, has}
use Rattle.role_graph.specs.Adjacent.{HaveSame}
use Rattle.role_graph.specs.Ascending.{with_role}
use Rattle.role_graph.specs.Roles.{same_role}
use Rattle.role_graph.proofs.Seeing.{seen_has, seen_with}
use Rattle.role_graph.proofs.Walked.{add_new, add_set, add_there}
use Rattle.role_graph.proofs.walking.add.Goals as goal

pub returns-in_ok-push-clause-found : goal.returns-in_ok-push-clause-found
returns-in_ok-push-clause-found c = λ same.
    let keys = c.args.seen.now.keys in
    let out : has same_role keys c.args.role ≡ false = sym (seen_has keys c.args.role) ∙ not-true _ (sym c.in_ok-insert.ensures.added ∙ c.if-branch.true) in
    c.in_ok-push.ensures.items ∙ add_new c.args.found.now.items keys c.args.role out same

pub returns-in_ok-push-clause-seen : goal.returns-in_ok-push-clause-seen
returns-in_ok-push-clause-seen c = λ same.
    let keys = c.args.seen.now.keys in
    let all = add_set c.args.found.now.items keys c.args.role same in
    let now : c.insert.new.self.keys ≡ with_role c.args.role keys = c.in_ok-insert.ensures.keys ∙ seen_with keys c.args.role in
    λ r. (
      λ i. subst (In r) (sym now) ((all r).0 (subst (In r) c.in_ok-push.ensures.items i)),
      λ j. subst (In r) (sym c.in_ok-push.ensures.items) ((all r).1 (subst (In r) now j)),
    )

pub returns-else-branch-clause-found : goal.returns-else-branch-clause-found
returns-else-branch-clause-found c = λ same.
    let keys = c.args.seen.now.keys in
    let there : has same_role keys c.args.role ≡ true = sym (seen_has keys c.args.role) ∙ not-false _ (sym c.in_ok-insert.ensures.added ∙ c.if-branch.false) in
    add_there c.args.found.now.items keys c.args.role there same

pub returns-else-branch-clause-seen : goal.returns-else-branch-clause-seen
returns-else-branch-clause-seen c = λ same. subst (HaveSame c.args.found.now.items) (sym (rw c.if-branch.false at c.in_ok-insert.ensures.unchanged)) same
