use Rattle.std.proofs.Common.{◌≡◌, ◌∙◌, true, false, map, ap, sym}
use Rattle.std.specs.List.{list_all}
use Rattle.folder_nodes.specs.Bare.{bare_store, folder_of_row}
use Rattle.folder_nodes.specs.Restoring.{is_numbered, is_placed, is_file_placed}
use Rattle.folder_nodes.specs.Trees.{IsTree}
use Rattle.folder_nodes.specs.declared.rows.FolderRow.{FolderRow}
use Rattle.folder_nodes.specs.declared.rows.FileRow.{FileRow}
use Rattle.folder_nodes.proofs.Restored.{tree_tested, tested_tree, refuted}
use Rattle.folder_nodes.proofs.restoring.are_tree.Goals as goal

pub returns-then-not-are_numbered : goal.returns-then-not-are_numbered
returns-then-not-are_numbered c =
    let failed : c.are_numbered.result ≡ false = cc in
    refuted (IsTree (bare_store c.args.folders.now.rows c.args.files.now.rows c.args.folders_made c.args.files_made)) c.are_numbered.result failed
    (λ tree. c.are_numbered.ensures ∙ ap (list_all (λ (r : FolderRow). is_numbered c.args.folders_made r.id.0)) c.as_slice-folder_rows.ensures.rows ∙ (tree_tested c.args.folders.now.rows c.args.files.now.rows c.args.folders_made c.args.files_made tree).numbers)

pub returns-then-not-are_files_numbered : goal.returns-then-not-are_files_numbered
returns-then-not-are_files_numbered c =
    let failed : c.are_files_numbered.result ≡ false = cc in
    refuted (IsTree (bare_store c.args.folders.now.rows c.args.files.now.rows c.args.folders_made c.args.files_made)) c.are_files_numbered.result failed
    (λ tree. c.are_files_numbered.ensures ∙ ap (list_all (λ (r : FileRow). is_numbered c.args.files_made r.id.0)) c.as_slice-file_rows.ensures.rows ∙ (tree_tested c.args.folders.now.rows c.args.files.now.rows c.args.folders_made c.args.files_made tree).file_numbers)

pub returns-then-not-has_root : goal.returns-then-not-has_root
returns-then-not-has_root c =
    let failed : c.has_root.result ≡ false = cc in
    refuted (IsTree (bare_store c.args.folders.now.rows c.args.files.now.rows c.args.folders_made c.args.files_made)) c.has_root.result failed (λ tree. c.has_root.ensures ∙ (tree_tested c.args.folders.now.rows c.args.files.now.rows c.args.folders_made c.args.files_made tree).root)

pub returns-then-not-are_placed : goal.returns-then-not-are_placed
returns-then-not-are_placed c =
    let failed : c.are_placed.result ≡ false = cc in
    refuted (IsTree (bare_store c.args.folders.now.rows c.args.files.now.rows c.args.folders_made c.args.files_made)) c.are_placed.result failed
    (λ tree. c.are_placed.ensures ∙ ap (list_all (λ (r : FolderRow). is_placed (map folder_of_row c.args.folders.now.rows) (folder_of_row r))) c.as_slice-folder_rows.ensures.rows ∙ (tree_tested c.args.folders.now.rows c.args.files.now.rows c.args.folders_made c.args.files_made tree).places)

pub returns : goal.returns
returns c =
    let numbers : c.are_numbered.result ≡ true = cc in
    let file_numbers : c.are_files_numbered.result ≡ true = cc in
    let root : c.has_root.result ≡ true = cc in
    let places : c.are_placed.result ≡ true = cc in
    let told = c.are_files_placed.ensures ∙ ap (list_all (λ (r : FileRow). is_file_placed (map folder_of_row c.args.folders.now.rows) r.folder.0)) c.as_slice-file_rows.ensures.rows in (
      λ t. tested_tree c.args.folders.now.rows c.args.files.now.rows c.args.folders_made c.args.files_made c.as_slice-folder_rows.ensures.rising c.as_slice-file_rows.ensures.rising (record {
        numbers = sym (c.are_numbered.ensures ∙ ap (list_all (λ (r : FolderRow). is_numbered c.args.folders_made r.id.0)) c.as_slice-folder_rows.ensures.rows) ∙ numbers;
        file_numbers = sym (c.are_files_numbered.ensures ∙ ap (list_all (λ (r : FileRow). is_numbered c.args.files_made r.id.0)) c.as_slice-file_rows.ensures.rows) ∙ file_numbers;
        root = sym c.has_root.ensures ∙ root;
        places = sym (c.are_placed.ensures ∙ ap (list_all (λ (r : FolderRow). is_placed (map folder_of_row c.args.folders.now.rows) (folder_of_row r))) c.as_slice-folder_rows.ensures.rows) ∙ places;
        file_places = sym told ∙ t;
      }),
      λ tree. told ∙ (tree_tested c.args.folders.now.rows c.args.files.now.rows c.args.folders_made c.args.files_made tree).file_places,
    )
