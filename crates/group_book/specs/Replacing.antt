-- The commands that the replacement of a holder stands for. This project's own, docs/PROGRAM.md, "Lines".
use Rattle.std.specs.Prelude.{ℕ, ◌+◌, ◌==◌, nat_lt, codes, List, [], ◌∷◌, ◌++◌, map, Option, Some, None, if◌then◌else◌}
use Rattle.cry_base.specs.Clearances.{file_of}
use Rattle.cry_base.specs.Requests.{Request}
use Rattle.cry_base.specs.Requests.Request.{AddHolder, Grant, Revoke}
use Rattle.cry_base.specs.Store.{Store, HolderEntry, file_node, folder_node, holder_entry, path_of}
use Rattle.cry_base.specs.declared.roles.Node.{Node}
use Rattle.role_graph.specs.Rights.{granted_to}

-- a number put into an ascending list, once
unfoldable pub put_number : ℕ → List ℕ → List ℕ
put_number n [] = n ∷ []
put_number n (x ∷ xs) = if n == x then x ∷ xs else (if nat_lt n x then n ∷ x ∷ xs else x ∷ put_number n xs)

-- the numbers in ascending order, each once
unfoldable pub ascending : List ℕ → List ℕ
ascending [] = []
ascending (n ∷ ns) = put_number n (ascending ns)

-- what a grant's number names: a folder, or a file by its clearance number
unfoldable pub node_by : ℕ → Option ℕ → Node
node_by g None = folder_node g
node_by g (Some x) = file_node x

unfoldable pub granted_node : ℕ → Node
granted_node g = node_by g (file_of g)

-- a new holder, these grants for it, and the same taken back from the old one
unfoldable pub replacement : ℕ → ℕ → List (List ℕ) → List Request
replacement new old paths = AddHolder ∷ (map (Grant new) paths ++ map (Revoke old) paths)

-- the paths of what the holder has grants on: folders by number, and then files by number
unfoldable pub granted_paths : Store → ℕ → List (List ℕ)
granted_paths s n = map (λ g. path_of s (granted_node g)) (ascending (granted_to s n))

-- The commands that the replacement of a holder stands for. Of a number that no holder has it is one command, which is
-- refused for that.
unfoldable pub stands_for_entry : Store → ℕ → Option HolderEntry → List Request
stands_for_entry s n None = Revoke n (codes "/") ∷ []
stands_for_entry s n (Some e) = replacement (s.holders_made + 1) n (granted_paths s n)

unfoldable pub stands_for : Store → ℕ → List Request
stands_for s n = stands_for_entry s n (holder_entry s n)
