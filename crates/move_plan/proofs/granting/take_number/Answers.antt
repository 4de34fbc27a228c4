use Rattle.std.proofs.Common.{◌≡◌, ◌≤◌, ◌+◌, ◌*◌, ◌==◌, ◌&&◌, not, List, [], ◌∷◌, filter, length, sym, ap, ◌∙◌, subst}
use Rattle.std.specs.List.{list_any}
use Rattle.cry_base.specs.Clearances.{file_of}
use Rattle.cry_base.specs.Stepping.{without_grant}
use Rattle.cry_base.specs.Store.{Store, GrantEntry}
use Rattle.record_format.specs.Noted.Note.{Take}
use Rattle.role_graph.specs.Adjacent.{at_roles}
use Rattle.role_graph.specs.Edges.{edges, grant_edge, has_grants}
use Rattle.role_graph.specs.Roles.{clear_of}
use Rattle.move_plan.specs.Change.{Change, no_change, row_change, without_roles}
use Rattle.move_plan.proofs.Cleared.{named_file, named_folder, take_folder, take_last, take_others}
use Rattle.move_plan.proofs.Noting.{as_change}
use Rattle.move_plan.proofs.granting.take_number.Goals as goal

pub returns-in_default-clause-change : goal.returns-in_default-clause-change
returns-in_default-clause-change g c =
    let s : Store = g.R.Adjacent.store c.args.roles.now in
    let h = c.args.holder.0 in
    let f = c.args.number.0 in
    as_change c.take.result (record no_change { removed = grant_edge h f ∷ []; wanted = clear_of f ∷ [] }) (row_change s (Take h f)) (take_folder s h f (named_folder (file_of f) c.in_default.ensures.value)) c.take.ensures

pub returns-then-has_others_on-clause-change : goal.returns-then-has_others_on-clause-change
unfolding has_grants without_grant
returns-then-has_others_on-clause-change g c =
    let s : Store = g.R.Adjacent.store c.args.roles.now in
    let h = c.args.holder.0 in
    let f = c.args.number.0 in
    let left = ap (λ (l : List GrantEntry). list_any (λ e. e.folder == f) (filter (λ e. not (e.holder == h && e.folder == f)) l)) c.requires in
    as_change c.take-then-has_others_on.result (record no_change { removed = grant_edge h f ∷ []; wanted = clear_of f ∷ [] }) (row_change s (Take h f))
    (take_others s h f c.in-Some._file.0 (named_file (file_of f) c.in-Some._file c.in-Some.ensures.value) (left ∙ sym c.has_others_on.ensures ∙ c.if-has_others_on.true)) c.take-then-has_others_on.ensures

pub returns-clause-change : goal.returns-clause-change
unfolding has_grants without_grant clear_of
returns-clause-change g c =
    let s : Store = g.R.Adjacent.store c.args.roles.now in
    let h = c.args.holder.0 in
    let f = c.args.number.0 in
    let left = ap (λ (l : List GrantEntry). list_any (λ e. e.folder == f) (filter (λ e. not (e.holder == h && e.folder == f)) l)) c.requires in
    as_change c.drop_roles.result (without_roles s (clear_of f ∷ [])) (row_change s (Take h f))
    (take_last s h f c.in-Some._file.0 (named_file (file_of f) c.in-Some._file c.in-Some.ensures.value) (left ∙ sym c.has_others_on.ensures ∙ c.if-has_others_on.false)) c.drop_roles.ensures.change

pub returns-clause-steps : goal.returns-clause-steps
unfolding has_grants without_grant clear_of without_roles no_change
returns-clause-steps g c =
    let s : Store = g.R.Adjacent.store c.args.roles.now in
    let h = c.args.holder.0 in
    let f = c.args.number.0 in
    let left = ap (λ (l : List GrantEntry). list_any (λ e. e.folder == f) (filter (λ e. not (e.holder == h && e.folder == f)) l)) c.requires in
    let row : without_roles s (clear_of f ∷ []) ≡ row_change s (Take h f) =
    take_last s h f c.in-Some._file.0 (named_file (file_of f) c.in-Some._file c.in-Some.ensures.value) (left ∙ sym c.has_others_on.ensures ∙ c.if-has_others_on.false) in
    subst (λ (x : Change). g.R.Adjacent.steps c.drop_roles.new.roles ≤ g.R.Adjacent.steps c.args.roles.now + (length (at_roles (edges s) x.gone) + 2 * length x.gone)) row c.drop_roles.ensures.steps
