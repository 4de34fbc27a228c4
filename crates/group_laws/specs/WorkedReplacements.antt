-- Worked replacements, and the words that open them to a computation.
use Rattle.std.specs.Prelude.{[], ◌∷◌, codes}
use Rattle.cry_base.specs.Clearances.{clear_number}
use Rattle.cry_base.specs.Naming.{spell_path}
use Rattle.cry_base.specs.Store.{Store, and_above, backwards, file_entry, file_names, file_node, folder_names, folder_node, holder_entry}
use Rattle.cry_base.specs.Store.{no_store, node_names, path_of, way_to_root, way_up}
use Rattle.group_book.specs.Replacing.{ascending, granted_node, granted_paths, node_by, put_number, replacement, stands_for}
use Rattle.group_book.specs.Replacing.{stands_for_entry}
use Rattle.role_graph.specs.Rights.{granted_to}

-- Folders /a and /a/b, and a file /a/x. Holder 1 has grants on the file, on /a/b and on /a, which came in that order; holder 2 one on
-- /a, and holder 3 none.
unfoldable pub shared_store : Store
shared_store = record {
  folders = record { id = 1; parent = 0; name = [] }
      ∷ record { id = 2; parent = 1; name = codes "a" }
      ∷ record { id = 3; parent = 2; name = codes "b" }
      ∷ [];
  files = record { id = 1; folder = 2; name = codes "x"; bytes = [] } ∷ [];
  holders = record { number = 1; key = [] } ∷ record { number = 2; key = [] } ∷ record { number = 3; key = [] } ∷ [];
  grants = record { holder = 1; folder = clear_number 1 }
      ∷ record { holder = 2; folder = 2 }
      ∷ record { holder = 1; folder = 3 }
      ∷ record { holder = 1; folder = 2 }
      ∷ [];
  folders_made = 3;
  files_made = 1;
  holders_made = 3;
}

-- opens every word of a replacement to a computation
unfoldable pub replacements : Unit {0}
unfolding shared_store stands_for stands_for_entry replacement granted_paths ascending put_number granted_node node_by granted_to
    holder_entry path_of node_names folder_names file_names file_entry way_to_root way_up and_above backwards folder_node file_node
    spell_path no_store
replacements = tt
