-- Worked rows of the plain store.
use Rattle.std.specs.Prelude.{ℕ, zero, suc, ◌+◌, List, [], ◌∷◌, ◌++◌, replicate, Result, Ok, Err, codes}
use Rattle.cry_base.specs.Refusals.{word_of}
use Rattle.cry_base.specs.declared.commands.Refusal.{Refusal}
use Rattle.cry_base.specs.Requests.{Request, paths_of}
use Rattle.cry_base.specs.Requests.Request.{AddHolder, MakeFolder, WriteFile, Grant}
use Rattle.cry_base.specs.Naming.{is_between, is_name_byte, is_name, spell_path, onto_first, split_at_slashes, names_behind, names_of}
use Rattle.cry_base.specs.Naming.{is_path, front, last_name, parent_path, is_root_path}
use Rattle.cry_base.specs.Store.{Store, FolderEntry, root_store, no_store, folder_node, file_node, folder_entry, file_entry, holder_entry}
use Rattle.cry_base.specs.Store.{has_grant, and_above, way_up, way_to_root, backwards, folder_names, file_names, node_names, path_of}
use Rattle.cry_base.specs.Store.{depth_of, nodes_of, node_at, is_within}
use Rattle.cry_base.specs.Refusing.{is_folder, is_file, id_of, granted_id, has_bad_name, has_no_place, finds_no_path, changes_root}
use Rattle.cry_base.specs.Refusing.{needs_folder, writes_folder, holds_name, parent_of, name_of}
use Rattle.cry_base.specs.Refusing.{finds_name_taken, has_child, removes_children}
use Rattle.cry_base.specs.Refusing.{moves_into_itself, is_node_within, deepest, height_of, depth_at, goes_too_deep, finds_no_holder}
use Rattle.cry_base.specs.Refusing.{grants_on_file, grants_again, revokes_nothing, is_too_long, causes, refusal_of, causes_in, refusal_in}
use Rattle.cry_base.specs.Stepping.{with_new_holder, with_new_folder, with_new_file, with_folder, with_file, without_folder, without_file}
use Rattle.cry_base.specs.Stepping.{without_grant, with_bytes_at, without_node, with_name, moved, effect, accepted, step}
use Rattle.cry_base.specs.Sets.{has, leads_out, grown, reach}
use Rattle.cry_base.specs.Texts.{hex_digit, hex_of, ended_lines, bytes_before}

-- the word of a reply, and the store behind it. Files have at most 1,048,576 bytes, and a new holder the empty key
unfoldable pub reply_word : Result Store Refusal → List ℕ
reply_word (Ok s) = codes "ok"
reply_word (Err why) = word_of why

unfoldable pub store_then : Store → Result Store Refusal → Store
store_then s (Ok t) = t
store_then s (Err why) = s

-- the replies' words to requests, one after another
unfoldable pub replies : Store → List Request → List (List ℕ)
replies s [] = []
replies s (r ∷ rs) = reply_word (step s r [] 1048576) ∷ replies (store_then s (step s r [] 1048576)) rs

-- the store after them
unfoldable pub store_after : Store → List Request → Store
store_after s [] = s
store_after s (r ∷ rs) = store_after (store_then s (step s r [] 1048576)) rs

-- the store of the row "grant": mkdir /a, write /a/x 00ff, holder, grant 1 /a
unfoldable pub granted : Store
granted = store_after root_store (MakeFolder (codes "/a") ∷ WriteFile (codes "/a/x") (0 ∷ 255 ∷ []) ∷ AddHolder ∷ Grant 1 (codes "/a") ∷ [])

-- n folders, each in the one before, all named "d", below the root
unfoldable pub nested : ℕ → List FolderEntry
nested zero = record { id = 1; parent = 0; name = [] } ∷ []
nested (suc n) = nested n ++ record { id = n + 2; parent = n + 1; name = codes "d" } ∷ []

unfoldable pub deep_store : ℕ → Store
deep_store n = record root_store { folders = nested n; folders_made = n + 1 }

-- the path with n such names
unfoldable pub deep_path : ℕ → List ℕ
deep_path n = spell_path (replicate n (codes "d"))

-- opens every word of the plain store to a computation
unfoldable pub plain_store : Unit {0}
unfolding hex_digit hex_of ended_lines bytes_before has leads_out grown reach is_between is_name_byte is_name spell_path onto_first
    split_at_slashes names_behind names_of is_path front last_name parent_path is_root_path root_store no_store folder_node file_node
    folder_entry file_entry holder_entry has_grant and_above way_up way_to_root backwards folder_names file_names node_names path_of
    depth_of nodes_of node_at is_within is_folder is_file id_of granted_id has_bad_name has_no_place finds_no_path changes_root
    needs_folder writes_folder holds_name parent_of name_of finds_name_taken has_child removes_children moves_into_itself is_node_within
    deepest height_of depth_at goes_too_deep finds_no_holder grants_on_file grants_again revokes_nothing is_too_long causes refusal_of
    causes_in refusal_in with_new_holder with_new_folder with_new_file with_folder with_file without_folder without_file without_grant
    with_bytes_at without_node with_name moved effect accepted step paths_of reply_word store_then replies store_after granted nested
    deep_store deep_path
plain_store = tt
