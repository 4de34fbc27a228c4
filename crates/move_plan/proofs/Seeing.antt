-- What is looked up in the tree and the grants is what the store that they tell of has.
use Rattle.std.proofs.Common.{◌≡◌, ℕ, zero, suc, ◌+◌, Bool, true, false, cond, ◌&&◌, ◌||◌, ◌==◌, nat_lt, nat_le, List, [], ◌∷◌, map, length, Option, Some, None, refl, ap, ◌∙◌, arith}
use Rattle.std.specs.Prelude.{is_some, IsSome}
use Rattle.std.specs.List.{list_any, filter, range_with_len}
use Rattle.std.proofs.lemmas.Bool.{eq-eqb, or_left}
use Rattle.std.proofs.lemmas.Bool.Decides.{nat_tests}
use Rattle.cry_base.specs.Clearances.{file_of}
use Rattle.cry_base.specs.Stepping.{without_grant}
use Rattle.cry_base.specs.declared.roles.Role.{Role}
use Rattle.cry_base.specs.Refusing.{deepest, has_child, height_of, is_node_within}
use Rattle.cry_base.specs.Store.{Store, FolderEntry, HolderEntry, depth_of, file_entry, file_names, folder_entry, folder_names, folder_node, has_grant, holder_entry, is_within, node_names, nodes_of, way_to_root}
use Rattle.folder_nodes.specs.Trees.{IsTree}
use Rattle.folder_nodes.proofs.Rowed.{some_of}
use Rattle.folder_nodes.proofs.Treed.{within_on}
use Rattle.folder_nodes.proofs.Upward.{at_id}
use Rattle.grant_book.specs.Granted.{Granted, is_grant}
use Rattle.grant_book.specs.Refused.{is_holder}
use Rattle.grant_book.proofs.Lists.{is_some-find}
use Rattle.role_graph.specs.Edges.{edges, grant_edge, has_grants}
use Rattle.role_graph.specs.PublicStore.{public_store}
use Rattle.role_graph.specs.Roles.{clear_of, folder_roles}
use Rattle.role_graph.proofs.AtEnds.{touches}
use Rattle.move_plan.specs.Change.{row_change, edges_at, folder_of_file, no_change, parent_of_folder, given_on, taken_from}
use Rattle.move_plan.specs.Change.{clearance_in, edges_of_first, edges_with_file, roles_of_file, without_roles}
use Rattle.move_plan.specs.Fitting.{clear_stands, file_stands, folder_stands, has_depth_left, is_file_there, is_other_folder, may_be_granted, may_go_into}
use Rattle.move_plan.specs.Seen.{keyless, seen_store}
use Rattle.record_format.specs.Noted.{Note}
use Rattle.record_format.specs.Noted.Note.{Root, NewHolder, NewFolder, NewFile, Rewrite, NameFile, NameFolder, DropFile, DropFolder}
use Rattle.record_format.specs.Noted.Note.{ShiftFile, ShiftFolder, Give, Take, StrictRoot, Upgrade}

pub edges_seen : (t : Store) (g : Granted) → edges (public_store t g.pairs) ≡ edges (seen_store t g)
unfolding edges has_grants
edges_seen t g = refl

gone_seen : (t : Store) (g : Granted) (roles : List Role) → without_roles (public_store t g.pairs) roles ≡ without_roles (seen_store t g) roles
unfolding without_roles edges_at
gone_seen t g roles = ap (λ es. record no_change { removed = filter (touches roles) es; gone = roles }) (edges_seen t g)

given_seen : (t : Store) (g : Granted) (h f : ℕ) (file : Option ℕ) → given_on (public_store t g.pairs) h f file ≡ given_on (seen_store t g) h f file
unfolding given_on edges_of_first has_grants folder_of_file file_entry
given_seen t g h f None = refl
given_seen t g h f (Some x) = refl

taken_seen : (t : Store) (g : Granted) (h f : ℕ) (file : Option ℕ) → taken_from (public_store t g.pairs) h f file ≡ taken_from (seen_store t g) h f file
unfolding taken_from has_grants without_grant
taken_seen t g h f None = refl
taken_seen t g h f (Some x) =
    ap (λ c. cond (has_grants (without_grant (seen_store t g) h f) f) (record no_change { removed = grant_edge h f ∷ []; wanted = clear_of f ∷ [] }) c)
    (gone_seen t g (clear_of f ∷ []))

-- no row hangs on the holders
pub row_seen : (t : Store) (g : Granted) (note : Note) → row_change (public_store t g.pairs) note ≡ row_change (seen_store t g) note
unfolding row_change roles_of_file clearance_in edges_with_file has_grants folder_of_file file_entry parent_of_folder folder_entry
row_seen t g Root = refl
row_seen t g (NewHolder h check) = refl
row_seen t g (NewFolder f p) = refl
row_seen t g (NewFile x f) = refl
row_seen t g (Rewrite x) = refl
row_seen t g (NameFile x) = refl
row_seen t g (NameFolder f) = refl
row_seen t g (DropFile x) = gone_seen t g (roles_of_file (seen_store t g) x)
row_seen t g (DropFolder f) = gone_seen t g (folder_roles f)
row_seen t g (ShiftFile x q) = refl
row_seen t g (ShiftFolder f q) = refl
row_seen t g (Give h f) = given_seen t g h f (file_of f)
row_seen t g (Take h f) = taken_seen t g h f (file_of f)
row_seen t g StrictRoot = refl
row_seen t g Upgrade = refl

any_of_map : (X Y : Type 0) (f : X → Y) (p : Y → Bool) (xs : List X) → list_any p (map f xs) ≡ list_any (λ x. p (f x)) xs
any_of_map X Y f p [] = refl
any_of_map X Y f p (x ∷ xs) = ap (λ b. p (f x) || b) (any_of_map X Y f p xs)

any_in_range : (h a n : ℕ) → list_any (λ k. k == h) (range_with_len a n) ≡ (nat_le a h && nat_lt h (a + n))
any_in_range h a zero = grind (arith, nat_tests)
any_in_range h a (suc n) = let rest = any_in_range h (a + 1) n in grind (arith, nat_tests)

-- a holder's number is one of those from 1 up
pub holder_seen : (t : Store) (g : Granted) (h : ℕ) → is_some (holder_entry (seen_store t g) h) ≡ is_holder g.checks h
unfolding holder_entry
holder_seen t g h =
    is_some-find HolderEntry (λ e. e.number == h) (map keyless (range_with_len 1 (length g.checks)))
    ∙ any_of_map ℕ HolderEntry keyless (λ e. e.number == h) (range_with_len 1 (length g.checks))
    ∙ any_in_range h 1 (length g.checks) ∙ counted
  where
    counted : (nat_le 1 h && nat_lt h (1 + length g.checks)) ≡ is_holder g.checks h
    counted = grind (arith, nat_tests)

-- the words of a fit speak of the tree alone
pub depth_seen : (t : Store) (g : Granted) (f : ℕ) → has_depth_left (seen_store t g) f ≡ has_depth_left t f
unfolding has_depth_left folder_stands folder_entry folder_node depth_of node_names folder_names way_to_root
depth_seen t g f = refl

pub file_seen : (t : Store) (g : Granted) (x : ℕ) → file_stands (seen_store t g) x ≡ file_stands t x
unfolding file_stands file_entry
file_seen t g x = refl

pub other_seen : (t : Store) (g : Granted) (f : ℕ) → is_other_folder (seen_store t g) f ≡ is_other_folder t f
unfolding is_other_folder folder_stands folder_entry
other_seen t g f = refl

pub child_seen : (t : Store) (g : Granted) (f : ℕ) → has_child (seen_store t g) f ≡ has_child t f
unfolding has_child
child_seen t g f = refl

pub folder_seen : (t : Store) (g : Granted) (x : ℕ) → folder_of_file (seen_store t g) x ≡ folder_of_file t x
unfolding folder_of_file file_entry
folder_seen t g x = refl

pub parent_seen : (t : Store) (g : Granted) (f : ℕ) → parent_of_folder (seen_store t g) f ≡ parent_of_folder t f
unfolding parent_of_folder folder_entry
parent_seen t g f = refl

there_seen : (t : Store) (g : Granted) (file : Option ℕ) → is_file_there (seen_store t g) file ≡ is_file_there t file
unfolding is_file_there file_stands file_entry
there_seen t g None = refl
there_seen t g (Some x) = refl

pub granted_seen : (strict : Bool) (t : Store) (g : Granted) (f : ℕ) → may_be_granted strict (seen_store t g) f ≡ may_be_granted strict t f
unfolding may_be_granted clear_stands folder_stands folder_entry
granted_seen strict t g f = ap (λ b. is_some (folder_entry t f) || (strict && b)) (there_seen t g (file_of f))

pub grant_seen : (t : Store) (g : Granted) (h f : ℕ) → has_grant (seen_store t g) h f ≡ list_any (is_grant h f) g.pairs
unfolding has_grant
grant_seen t g h f = refl

pub into_seen : (t : Store) (g : Granted) (f q : ℕ) → may_go_into (seen_store t g) f q ≡ may_go_into t f q
unfolding may_go_into is_other_folder folder_stands folder_entry folder_node parent_of_folder is_within depth_of node_names folder_names file_names way_to_root height_of deepest is_node_within nodes_of file_entry
into_seen t g f q = refl

-- the tests of a move, grouped otherwise
pub regrouped : (a b c d e : Bool) → (a && (b && (c && d && e))) ≡ (a && b && c && d && e)
regrouped true true c d e = refl
regrouped true false c d e = refl
regrouped false b c d e = refl

-- a folder that stands is within itself
pub within_itself : (s : Store) → IsTree s → (f : ℕ) → IsSome (folder_entry s f) → is_within s f f ≡ true
unfolding folder_entry
within_itself s tree f stands =
    let found = some_of FolderEntry (folder_entry s f) stands in
    within_on s tree f f found.0 found.1
    ∙ or_left (found.0.id == f) (is_within s found.0.parent f) (eq-eqb found.0.id f (at_id s.folders f found.0 found.1))
