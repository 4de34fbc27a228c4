-- Why a command is refused in the store that a tree, its names and the grants tell of: the tree's causes, and then those of grants.
use Rattle.std.proofs.Common.{◌≡◌, ℕ, Bool, true, false, not, ◌&&◌, ◌||◌, List, [], ◌∷◌, Option, Some, None, Ok, Err, refl, sym, ap, ◌∙◌}
use Rattle.std.specs.Prelude.{find, option_map}
use Rattle.cry_base.specs.Refusing.{granted_id, grants_on_file, has_bad_name, has_no_place, finds_no_path, changes_root, needs_folder, writes_folder, holds_name, parent_of, name_of, finds_name_taken, has_child, removes_children, moves_into_itself, is_node_within, deepest, height_of, depth_at, goes_too_deep, finds_no_holder, grants_again, revokes_nothing, is_too_long, causes_in, refusal_in}
use Rattle.cry_base.specs.Requests.{Request, paths_of}
use Rattle.cry_base.specs.Requests.Request.{AddHolder, MakeFolder, WriteFile, Remove, Rename, Relocate, Grant, Revoke}
use Rattle.cry_base.specs.Store.{Store, FolderEntry, FileEntry, GrantEntry, no_store, folder_entry, file_entry, folder_names, file_names, node_names, path_of, depth_of, nodes_of, node_at, way_to_root, is_within, folder_node, file_node}
use Rattle.cry_base.specs.declared.commands.Refusal.{Refusal}
use Rattle.cry_base.specs.declared.commands.Refusal.TheVariants.{BadName, NoPath, IsRoot, NotFolder, IsFolder, Exists, NotEmpty, InsideItself, TooDeep, NoHolder, HasGrant, NoGrant, TooLong}
use Rattle.folder_nodes.specs.Checking as checking
use Rattle.folder_nodes.specs.Checking.{is_of_grants, tree_refusal}
use Rattle.grant_book.specs.Granted.{Granted}
use Rattle.grant_book.specs.Matching.{AreGrantsOf, grant_request}
use Rattle.grant_book.specs.Refused.{first_cause, refusal_of_grant}
use Rattle.journal_bytes.specs.Owning.{IsTreeOf, refusal_for_grants}

-- the folders and files of a store, and nothing else of it
abbrev tree_only : List FolderEntry → List FileEntry → Store
tree_only folders files = record no_store { folders = folders; files = files }

-- what a path finds hangs on them alone
found_only : (s : Store) (path : List ℕ) → node_at s path ≡ node_at (tree_only s.folders s.files) path
unfolding node_at path_of nodes_of node_names folder_names file_names way_to_root file_entry no_store
found_only s path = refl

pub found_same : (t s : Store) (path : List ℕ) → IsTreeOf t s → node_at t path ≡ node_at s path
found_same t s path is = found_only t path ∙ (λ i. node_at (tree_only (is.folders i) (is.files i)) path) ∙ sym (found_only s path)

-- the tree's causes hang on them alone
tree_causes : (strict : Bool) (s : Store) (r : Request) (file_bytes : ℕ) → tree_refusal strict s r file_bytes ≡ tree_refusal strict (tree_only s.folders s.files) r file_bytes
unfolding tree_refusal causes_in grants_on_file is_of_grants has_bad_name has_no_place finds_no_path changes_root needs_folder writes_folder holds_name parent_of name_of finds_name_taken has_child removes_children moves_into_itself is_node_within deepest height_of depth_at goes_too_deep finds_no_holder grants_again revokes_nothing is_too_long paths_of folder_entry file_entry folder_names file_names node_names path_of depth_of nodes_of node_at way_to_root is_within folder_node file_node no_store
tree_causes strict s AddHolder file_bytes = refl
tree_causes strict s (MakeFolder path) file_bytes = refl
tree_causes strict s (WriteFile path bytes) file_bytes = refl
tree_causes strict s (Remove path) file_bytes = refl
tree_causes strict s (Rename path name) file_bytes = refl
tree_causes strict s (Relocate path into) file_bytes = refl
tree_causes strict s (Grant h path) file_bytes = refl
tree_causes strict s (Revoke h path) file_bytes = refl

tree_same : (strict : Bool) (t s : Store) (r : Request) (file_bytes : ℕ) → IsTreeOf t s → tree_refusal strict t r file_bytes ≡ tree_refusal strict s r file_bytes
tree_same strict t s r file_bytes is = tree_causes strict t r file_bytes ∙ (λ i. tree_refusal strict (tree_only (is.folders i) (is.files i)) r file_bytes) ∙ sym (tree_causes strict s r file_bytes)

-- one cause, or else another
abbrev or_else : Option Refusal → Option Refusal → Option Refusal
or_else (Some why) other = Some why
or_else None other = other

-- the causes that grants alone decide about
abbrev grant_causes : Store → Request → Option Refusal
grant_causes s r = first_cause ((finds_no_holder s r, NoHolder) ∷ (grants_again s r, HasGrant) ∷ (revokes_nothing s r, NoGrant) ∷ [])

three_first : (a b c : Bool) (rest : List (Bool × Refusal)) → first_cause ((a, BadName) ∷ (b, NoPath) ∷ (c, NotFolder) ∷ rest) ≡ or_else (first_cause ((a, BadName) ∷ (b, NoPath) ∷ (c, NotFolder) ∷ [])) (first_cause rest)
three_first true b c rest = refl
three_first false true c rest = refl
three_first false false true rest = refl
three_first false false false rest = refl

-- a grant's causes end with one that never applies to it
last_not : (a b c : Bool) → option_map (λ (cause : Bool × Refusal). cause.1) (find (λ (cause : Bool × Refusal). cause.0) ((a, NoHolder) ∷ (b, HasGrant) ∷ (c, NoGrant) ∷ (false, TooLong) ∷ [])) ≡ first_cause ((a, NoHolder) ∷ (b, HasGrant) ∷ (c, NoGrant) ∷ [])
last_not true b c = refl
last_not false true c = refl
last_not false false true = refl
last_not false false false = refl

-- whether the fourth cause applies in a store of the version
abbrev lacks_folder : Bool → Store → Request → Bool
lacks_folder strict s r = (grants_on_file s r && not strict) || needs_folder s r

-- a grant's causes: the tree's, and then its own
split : (strict : Bool) (s : Store) (give : Bool) (h : ℕ) (path : List ℕ) (file_bytes : ℕ)
    → refusal_in strict s (grant_request give h path) file_bytes ≡ or_else (tree_refusal strict s (grant_request give h path) file_bytes) (grant_causes s (grant_request give h path))
unfolding refusal_in tree_refusal causes_in is_of_grants has_bad_name finds_no_path changes_root writes_folder finds_name_taken removes_children moves_into_itself goes_too_deep finds_no_holder grants_again revokes_nothing is_too_long
split strict s true h path file_bytes =
    let a = finds_no_holder s (Grant h path) in let b = grants_again s (Grant h path) in let c = revokes_nothing s (Grant h path) in
    let first = first_cause ((has_bad_name (Grant h path), BadName) ∷ (finds_no_path s (Grant h path), NoPath) ∷ (lacks_folder strict s (Grant h path), NotFolder) ∷ []) in
    three_first (has_bad_name (Grant h path)) (finds_no_path s (Grant h path)) (lacks_folder strict s (Grant h path)) ((a, NoHolder) ∷ (b, HasGrant) ∷ (c, NoGrant) ∷ (false, TooLong) ∷ [])
    ∙ ap (or_else first) (last_not a b c)
split strict s false h path file_bytes =
    let a = finds_no_holder s (Revoke h path) in let b = grants_again s (Revoke h path) in let c = revokes_nothing s (Revoke h path) in
    let first = first_cause ((has_bad_name (Revoke h path), BadName) ∷ (finds_no_path s (Revoke h path), NoPath) ∷ (lacks_folder strict s (Revoke h path), NotFolder) ∷ []) in
    three_first (has_bad_name (Revoke h path)) (finds_no_path s (Revoke h path)) (lacks_folder strict s (Revoke h path)) ((a, NoHolder) ∷ (b, HasGrant) ∷ (c, NoGrant) ∷ (false, TooLong) ∷ [])
    ∙ ap (or_else first) (last_not a b c)

-- a cause of the tree's is the first
pub tree_first : (strict : Bool) (s : Store) (r : Request) (file_bytes : ℕ) (why : Refusal) → tree_refusal strict s r file_bytes ≡ Some why → refusal_in strict s r file_bytes ≡ Some why
unfolding refusal_in tree_refusal causes_in is_of_grants finds_no_holder grants_again revokes_nothing
tree_first strict s AddHolder file_bytes why e = e
tree_first strict s (MakeFolder path) file_bytes why e = e
tree_first strict s (WriteFile path bytes) file_bytes why e = e
tree_first strict s (Remove path) file_bytes why e = e
tree_first strict s (Rename path name) file_bytes why e = e
tree_first strict s (Relocate path into) file_bytes why e = e
tree_first strict s (Grant h path) file_bytes why e = split strict s true h path file_bytes ∙ ap (λ o. or_else o (grant_causes s (Grant h path))) e
tree_first strict s (Revoke h path) file_bytes why e = split strict s false h path file_bytes ∙ ap (λ o. or_else o (grant_causes s (Revoke h path))) e

-- where the tree has none, a grant's own come
grants_then : (strict : Bool) (s : Store) (give : Bool) (h : ℕ) (path : List ℕ) (file_bytes : ℕ) → tree_refusal strict s (grant_request give h path) file_bytes ≡ None → refusal_in strict s (grant_request give h path) file_bytes ≡ grant_causes s (grant_request give h path)
grants_then strict s give h path file_bytes e = split strict s give h path file_bytes ∙ ap (λ o. or_else o (grant_causes s (grant_request give h path))) e

-- each grant is refused for the cause that the grants tell
abbrev pub AreTold : Type 0
AreTold = (checks : List (List ℕ)) (pairs : List GrantEntry) (s : Store) (give : Bool) (h : ℕ) (path : List ℕ) → AreGrantsOf checks pairs s
    → refusal_of_grant checks pairs give h (granted_id (node_at s path)) ≡ first_cause ((finds_no_holder s (grant_request give h path), NoHolder) ∷ (grants_again s (grant_request give h path), HasGrant) ∷ (revokes_nothing s (grant_request give h path), NoGrant) ∷ [])

-- what a test of the tree answers
told_none : (o : Option Refusal) → Ok tt ≡ checking.refused_by o → o ≡ None
told_none None e = refl
told_none (Some why) e = absurd (cc)

told_some : (o : Option Refusal) (why : Refusal) → Err why ≡ checking.refused_by o → o ≡ Some why
told_some None why e = absurd (cc)
told_some (Some other) why e = cc

pub refused_by_tree : (strict : Bool) (t s : Store) (r : Request) (file_bytes : ℕ) (why : Refusal) → IsTreeOf t s → Err why ≡ checking.refused_by (tree_refusal strict t r file_bytes) → Some why ≡ refusal_in strict s r file_bytes
refused_by_tree strict t s r file_bytes why is e = sym (tree_first strict s r file_bytes why (sym (tree_same strict t s r file_bytes is) ∙ told_some (tree_refusal strict t r file_bytes) why e))

tree_accepts : (strict : Bool) (t s : Store) (r : Request) (file_bytes : ℕ) → IsTreeOf t s → Ok tt ≡ checking.refused_by (tree_refusal strict t r file_bytes) → tree_refusal strict s r file_bytes ≡ None
tree_accepts strict t s r file_bytes is e = sym (tree_same strict t s r file_bytes is) ∙ told_none (tree_refusal strict t r file_bytes) e

by_grants : (strict : Bool) (t s : Store) (g : Granted) (give : Bool) (h : ℕ) (path : List ℕ) (file_bytes : ℕ) → AreTold → IsTreeOf t s → AreGrantsOf g.checks g.pairs s → Ok tt ≡ checking.refused_by (tree_refusal strict t (grant_request give h path) file_bytes)
    → refusal_of_grant g.checks g.pairs give h (granted_id (node_at t path)) ≡ refusal_in strict s (grant_request give h path) file_bytes
by_grants strict t s g give h path file_bytes told is are e =
    ap (λ o. refusal_of_grant g.checks g.pairs give h (granted_id o)) (found_same t s path is)
    ∙ told g.checks g.pairs s give h path are
    ∙ sym (grants_then strict s give h path file_bytes (tree_accepts strict t s (grant_request give h path) file_bytes is e))

-- where the tree accepts a command, the grants' causes are all that are left
pub refused_by_grants : (strict : Bool) (t s : Store) (g : Granted) (r : Request) (file_bytes : ℕ) → AreTold → IsTreeOf t s → AreGrantsOf g.checks g.pairs s → Ok tt ≡ checking.refused_by (tree_refusal strict t r file_bytes)
    → refusal_for_grants t g r ≡ refusal_in strict s r file_bytes
unfolding refusal_in causes_in is_of_grants finds_no_holder grants_again revokes_nothing tree_refusal
refused_by_grants strict t s g AddHolder file_bytes told is are e = sym (tree_accepts strict t s AddHolder file_bytes is e)
refused_by_grants strict t s g (MakeFolder path) file_bytes told is are e = sym (tree_accepts strict t s (MakeFolder path) file_bytes is e)
refused_by_grants strict t s g (WriteFile path bytes) file_bytes told is are e = sym (tree_accepts strict t s (WriteFile path bytes) file_bytes is e)
refused_by_grants strict t s g (Remove path) file_bytes told is are e = sym (tree_accepts strict t s (Remove path) file_bytes is e)
refused_by_grants strict t s g (Rename path name) file_bytes told is are e = sym (tree_accepts strict t s (Rename path name) file_bytes is e)
refused_by_grants strict t s g (Relocate path into) file_bytes told is are e = sym (tree_accepts strict t s (Relocate path into) file_bytes is e)
refused_by_grants strict t s g (Grant h path) file_bytes told is are e = by_grants strict t s g true h path file_bytes told is are e
refused_by_grants strict t s g (Revoke h path) file_bytes told is are e = by_grants strict t s g false h path file_bytes told is are e

-- a command that isn't refused has its paths in form
first_is_false : (b : Bool) (causes : List (Bool × Refusal)) → first_cause ((b, BadName) ∷ causes) ≡ None → b ≡ false
first_is_false false causes e = refl
first_is_false true causes e = absurd (cc)

pub form_told : (strict : Bool) (s : Store) (r : Request) (file_bytes : ℕ) → tree_refusal strict s r file_bytes ≡ None → has_bad_name r ≡ false
unfolding tree_refusal causes_in is_of_grants
form_told strict s r file_bytes e =
    first_is_false (has_bad_name r)
    ((finds_no_path s r, NoPath) ∷ (changes_root r, IsRoot) ∷ (lacks_folder strict s r, NotFolder) ∷ (writes_folder s r, IsFolder) ∷ (finds_name_taken s r, Exists) ∷ (removes_children s r, NotEmpty)
    ∷ (moves_into_itself s r, InsideItself) ∷ (goes_too_deep s r, TooDeep) ∷ (is_too_long file_bytes r, TooLong) ∷ []) e

pub told_form : (strict : Bool) (s : Store) (r : Request) (file_bytes : ℕ) → Ok tt ≡ checking.refused_by (tree_refusal strict s r file_bytes) → has_bad_name r ≡ false
told_form strict s r file_bytes e = form_told strict s r file_bytes (told_none (tree_refusal strict s r file_bytes) e)
