use Rattle.std.proofs.Common.{◌≡◌, ℕ, ◌≤◌, List, true, false, length, sym, ap, ◌∙◌, subst}
use Rattle.std.specs.Prelude.{IsTrue}
use Rattle.std.specs.List.{list_all}
use Rattle.std.proofs.lemmas.Bool.{false≢true}
use Rattle.cry_base.specs.Sets.{In, has}
use Rattle.cry_base.specs.declared.roles.Role.{Role}
use Rattle.index_format.specs.Plain.{plain_state}
use Rattle.index_format.specs.declared.rows.FileRow.{FileRow}
use Rattle.index_format.specs.declared.rows.FolderRow.{FolderRow}
use Rattle.index_format.specs.declared.rows.GrantRow.{GrantRow}
use Rattle.move_plan.specs.Seen.{seen_store}
use Rattle.role_graph.specs.Roles.{clear_of, file_role, holder_role, same_role}
use Rattle.public_fold.specs.Keyed.{HasRole}
use Rattle.public_fold.specs.RowTests.{has_folder_roles, stands_beside}
use Rattle.public_fold.proofs.RowTested.{all_stand, files_told, folders_told, grants_told, has_told}
use Rattle.public_fold.proofs.RowsKeyed.{are_keyed, keyed_rows}
use Rattle.public_fold.proofs.sound_keys.are_keyed.Goals as goal

pub returns-then-not-do_stand : goal.returns-then-not-do_stand
returns-then-not-do_stand c =
    let s = plain_state c.args.rows.now in
    let tree = c.args.shape.now.tree in
    let g = c.args.grants.now in
    let keyed : List Role = c.args.keyed.now in (
      λ t. absurd (false≢true t),
      λ are. sym c.if-not-do_stand.true ∙ (c.do_stand.ensures ∙ ap (list_all (λ (r : Role). stands_beside tree g.pairs (length g.checks) r)) c.as_slice.ensures.roles) ∙ (all_stand tree g keyed).1 (λ r i. (are r).1 i),
    )

pub returns-then-not-have_folders : goal.returns-then-not-have_folders
returns-then-not-have_folders c =
    let s = plain_state c.args.rows.now in
    let tree = c.args.shape.now.tree in
    let g = c.args.grants.now in
    let keyed : List Role = c.args.keyed.now in (
      λ t. absurd (false≢true t),
      λ are. sym c.if-not-have_folders.true ∙ (c.have_folders.ensures ∙ ap (list_all (λ (row : FolderRow). has_folder_roles keyed row.id)) c.as_slice-2.ensures) ∙ (folders_told keyed s.folders).1 (keyed_rows s tree g keyed c.requires.tree c.requires.pairs c.requires.granted are).folders,
    )

pub returns-then-not-have_files : goal.returns-then-not-have_files
returns-then-not-have_files c =
    let s = plain_state c.args.rows.now in
    let tree = c.args.shape.now.tree in
    let g = c.args.grants.now in
    let keyed : List Role = c.args.keyed.now in (
      λ t. absurd (false≢true t),
      λ are. sym c.if-not-have_files.true ∙ (c.have_files.ensures ∙ ap (list_all (λ (row : FileRow). has same_role keyed (file_role row.id))) c.as_slice-3.ensures) ∙ (files_told keyed s.files).1 (keyed_rows s tree g keyed c.requires.tree c.requires.pairs c.requires.granted are).files,
    )

pub returns-then-not-have_grants : goal.returns-then-not-have_grants
returns-then-not-have_grants c =
    let s = plain_state c.args.rows.now in
    let tree = c.args.shape.now.tree in
    let g = c.args.grants.now in
    let keyed : List Role = c.args.keyed.now in (
      λ t. absurd (false≢true t),
      λ are. sym c.if-not-have_grants.true ∙ (c.have_grants.ensures ∙ ap (list_all (λ (row : GrantRow). has same_role keyed (clear_of row.folder))) c.as_slice-4.ensures) ∙ (grants_told keyed s.grants).1 (keyed_rows s tree g keyed c.requires.tree c.requires.pairs c.requires.granted are).grants,
    )

pub returns : goal.returns
returns c =
    let s = plain_state c.args.rows.now in
    let tree = c.args.shape.now.tree in
    let g = c.args.grants.now in
    let keyed : List Role = c.args.keyed.now in
    let stand : (r : Role) → In r keyed → HasRole (seen_store tree g) r = (all_stand tree g keyed).0 (sym (c.do_stand.ensures ∙ ap (list_all (λ (r : Role). stands_beside tree g.pairs (length g.checks) r)) c.as_slice.ensures.roles) ∙ c.if-not-do_stand.false) in
    let holders = c.have_holders.ensures in
    let count : c.holders.result ≡ length g.checks = c.holders.ensures in (
      λ t. are_keyed s tree g keyed c.requires.tree c.requires.pairs c.requires.owner stand (record {
        folders = (folders_told keyed s.folders).0 (sym (c.have_folders.ensures ∙ ap (list_all (λ (row : FolderRow). has_folder_roles keyed row.id)) c.as_slice-2.ensures) ∙ c.if-not-have_folders.false);
        files = (files_told keyed s.files).0 (sym (c.have_files.ensures ∙ ap (list_all (λ (row : FileRow). has same_role keyed (file_role row.id))) c.as_slice-3.ensures) ∙ c.if-not-have_files.false);
        grants = (grants_told keyed s.grants).0 (sym (c.have_grants.ensures ∙ ap (list_all (λ (row : GrantRow). has same_role keyed (clear_of row.folder))) c.as_slice-4.ensures) ∙ c.if-not-have_grants.false);
        holders = λ h low high. (has_told keyed (holder_role h)).0 (holders.0 t h low (subst (λ (n : ℕ). h ≤ n) (sym count) high));
      }),
      λ are. holders.1 (λ h low high. (has_told keyed (holder_role h)).1 ((keyed_rows s tree g keyed c.requires.tree c.requires.pairs c.requires.granted are).holders h low (subst (λ (n : ℕ). h ≤ n) count high))),
    )
