use Rattle.std.proofs.Common.{◌≡◌, ◌≤◌, ◌+◌, ◌*◌, ◌==◌, List, length, ap, ◌∙◌, subst}
use Rattle.std.specs.List.{list_any}
use Rattle.std.specs.Prelude.{IfOk}
use Rattle.cry_base.specs.Clearances.{clear_number}
use Rattle.cry_base.specs.Store.{Store, GrantEntry}
use Rattle.cry_base.specs.declared.roles.Role.{Role}
use Rattle.role_graph.specs.Adjacent.{at_roles}
use Rattle.role_graph.specs.Edges.{edges, has_grants}
use Rattle.role_graph.specs.Roles.{file_role}
use Rattle.move_plan.specs.Change.{row_change, without_roles}
use Rattle.move_plan.specs.Seen.{plain_row}
use Rattle.move_plan.proofs.Cleared.{clear_none, clear_some, roles_alone, roles_granted}
use Rattle.move_plan.proofs.dropping.drop_file.Goals as goal

pub returns-in-Some-clause-change : goal.returns-in-Some-clause-change
unfolding row_change has_grants file_role
returns-in-Some-clause-change g c =
    let s : Store = g.R.Adjacent.store c.args.roles.now in
    let x = c.args.file.0 in
    let told = clear_some (list_any (λ e. e.folder == clear_number x) c.args.grants.now.pairs) (clear_number x) c.in-Some.clear c.in-Some.ensures.value in
    let has = ap (λ (l : List GrantEntry). list_any (λ e. e.folder == clear_number x) l) c.requires ∙ told.0 in
    subst (λ (l : List Role). IfOk c.drop_roles.result (λ r. plain_row r ≡ without_roles s l)) (roles_granted s x c.in-Some.clear has told.1) c.drop_roles.ensures.change

pub returns-in-Some-clause-steps : goal.returns-in-Some-clause-steps
unfolding row_change without_roles has_grants file_role
returns-in-Some-clause-steps g c =
    let s : Store = g.R.Adjacent.store c.args.roles.now in
    let x = c.args.file.0 in
    let told = clear_some (list_any (λ e. e.folder == clear_number x) c.args.grants.now.pairs) (clear_number x) c.in-Some.clear c.in-Some.ensures.value in
    let has = ap (λ (l : List GrantEntry). list_any (λ e. e.folder == clear_number x) l) c.requires ∙ told.0 in
    subst (λ (l : List Role). g.R.Adjacent.steps c.drop_roles.new.roles ≤ g.R.Adjacent.steps c.args.roles.now + (length (at_roles (edges s) l) + 2 * length l)) (roles_granted s x c.in-Some.clear has told.1) c.drop_roles.ensures.steps

pub returns-in-None-clause-change : goal.returns-in-None-clause-change
unfolding row_change has_grants file_role
returns-in-None-clause-change g c =
    let s : Store = g.R.Adjacent.store c.args.roles.now in
    let x = c.args.file.0 in
    let none = clear_none (list_any (λ e. e.folder == clear_number x) c.args.grants.now.pairs) (clear_number x) c.in-None.ensures.value in
    let has = ap (λ (l : List GrantEntry). list_any (λ e. e.folder == clear_number x) l) c.requires ∙ none in
    subst (λ (l : List Role). IfOk c.drop_roles-in-None.result (λ r. plain_row r ≡ without_roles s l)) (roles_alone s x has) c.drop_roles-in-None.ensures.change

pub returns-in-None-clause-steps : goal.returns-in-None-clause-steps
unfolding row_change without_roles has_grants file_role
returns-in-None-clause-steps g c =
    let s : Store = g.R.Adjacent.store c.args.roles.now in
    let x = c.args.file.0 in
    let none = clear_none (list_any (λ e. e.folder == clear_number x) c.args.grants.now.pairs) (clear_number x) c.in-None.ensures.value in
    let has = ap (λ (l : List GrantEntry). list_any (λ e. e.folder == clear_number x) l) c.requires ∙ none in
    subst (λ (l : List Role). g.R.Adjacent.steps c.drop_roles-in-None.new.roles ≤ g.R.Adjacent.steps c.args.roles.now + (length (at_roles (edges s) l) + 2 * length l)) (roles_alone s x has) c.drop_roles-in-None.ensures.steps
