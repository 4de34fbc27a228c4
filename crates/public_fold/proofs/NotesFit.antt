-- The note of a command that isn't refused fits.
use Rattle.std.proofs.Common.{◌≡◌, ℕ, suc, ◌+◌, ◌<◌, ◌≤◌, Bool, true, false, not, ◌==◌, ◌&&◌, ◌||◌, List, [], Option, Some, None, inl, inr, refl, sym, ap, ◌∙◌, subst, arith}
use Rattle.std.specs.Prelude.{is_none, is_some, nat_lt, nat_le}
use Rattle.std.proofs.lemmas.Bool.{and_from, or_left, or_right, or_parts, false≢true, not-false, not_from_false, ne_eqb, eq-eqb, lt-ltb, le-leb, ltb-false}
use Rattle.cry_base.specs.Clearances.{clear_base, clear_number, file_of}
use Rattle.cry_base.specs.Naming.{parent_path, is_root_path}
use Rattle.cry_base.specs.declared.commands.Refusal.TheVariants.{NotFolder}
use Rattle.cry_base.proofs.Versions.{accepted_in, file_of_number}
use Rattle.cry_base.specs.Requests.{Request, paths_of}
use Rattle.cry_base.specs.Requests.Request.{AddHolder, MakeFolder, WriteFile, Remove, Rename, Relocate, Grant, Revoke}
use Rattle.cry_base.specs.Store.{Store, holder_entry, has_grant, is_within, depth_of, node_at, folder_node, file_entry, folder_entry}
use Rattle.cry_base.specs.Refusing.{id_of, is_folder, name_of, holds_name, has_child, finds_no_path, changes_root, needs_folder, writes_folder, finds_name_taken, removes_children, moves_into_itself, depth_at, height_of, goes_too_deep, finds_no_holder, grants_again, revokes_nothing, granted_id, grants_on_file, is_file, causes_in, refusal_in}
use Rattle.cry_base.specs.declared.roles.Node.{Node}
use Rattle.cry_base.specs.declared.roles.Node.TheVariants.{Folder, File}
use Rattle.cry_base.proofs.Finding.{node_found}
use Rattle.move_plan.specs.Change.{folder_of_file, parent_of_folder}
use Rattle.move_plan.specs.Fitting.{clear_stands, folder_stands, has_depth_left, file_stands, is_file_there, is_next_below, is_other_folder, may_be_granted, may_go_into, row_fits, needs_root, fits}
use Rattle.record_format.specs.Noted.{Note}
use Rattle.move_plan.specs.Noting.{write_note, remove_note, rename_note, move_note, note_of}
use Rattle.public_fold.proofs.Causes.{no_cause_in}
use Rattle.public_fold.proofs.Numbers.{HasNumbers, journal_numbers}
use Rattle.public_fold.specs.Journal.{Journal, store_of}
use Rattle.public_fold.specs.Valid.{IsValid}
use Rattle.public_fold.specs.Tree.{AtLevel}
use Rattle.public_fold.proofs.Levels.{level_stands}
use Rattle.public_fold.proofs.Treeing.{folder_own, file_own, node_stands}
use Rattle.public_fold.proofs.Accepting.{IsAccepted, accepted, folder_free, file_free, other_than_root}
use Rattle.public_fold.proofs.Keeping.{HasTree, journal_tree, folder_depth, made_place, written_place, into_level}

some_is : {X : Type 0} (o : Option X) (x : X) → o ≡ Some x → is_some o ≡ true
some_is o x e = ap is_some e

stands_at : (s : Store) (n f : ℕ) → HasTree s → AtLevel n s.folders f → folder_stands s f ≡ true
unfolding folder_stands
stands_at s n f ok l = let w = level_stands n s.folders f l in some_is (folder_entry s f) w.0 (folder_own s w.0 f ok w.1 w.2)

depth_left : (s : Store) (n f : ℕ) → HasTree s → AtLevel n s.folders f → suc n ≤ 64 → has_depth_left s f ≡ true
unfolding has_depth_left
depth_left s n f ok l h =
    let depth : depth_of s (folder_node f) ≡ n = folder_depth s f n ok.numbered l in
    and_from (folder_stands s f) (nat_lt (depth_of s (folder_node f)) 64) (stands_at s n f ok l) (lt-ltb (depth_of s (folder_node f)) 64 (omega arith))

-- where its row does, the root stands, and so the note fits
pub rest_fits : (strict : Bool) (s : Store) (note : Note) → HasTree s → row_fits strict s note ≡ true → fits strict s note ≡ true
unfolding fits
rest_fits strict s note ok t =
    and_from (row_fits strict s note) (not (needs_root note) || folder_stands s 1) t
    (or_right (not (needs_root note)) (folder_stands s 1) (stands_at s 0 1 ok ok.root_stands))

file_there : (s : Store) (path : List ℕ) (x : ℕ) (o : Option Node) → HasTree s → node_at s path ≡ o → o ≡ Some (File (record { 0 = x })) → file_stands s x ≡ true
unfolding file_stands
file_there s path x o ok e q =
    let w = node_stands s (File (record { 0 = x })) (node_found s path (File (record { 0 = x })) (e ∙ q)).0 in
    some_is (file_entry s x) w.0 (file_own s w.0 x ok w.1 w.2)

other_folder : (s : Store) (path : List ℕ) (f : ℕ) → HasTree s → node_at s path ≡ Some (folder_node f) → is_root_path path ≡ false → is_other_folder s f ≡ true
unfolding is_other_folder folder_node folder_stands
other_folder s path f ok e r =
    let w = node_stands s (folder_node f) (node_found s path (folder_node f) e).0 in
    and_from (is_some (folder_entry s f)) (not (f == 1)) (some_is (folder_entry s f) w.0 (folder_own s w.0 f ok w.1 w.2))
    (not_from_false (f == 1) (ne_eqb f 1 (other_than_root s path f ok (unfold folder_node in e) r)))

-- a file is found where the version knows grants on files
not_false : (strict : Bool) → (true && not strict) ≡ false → strict ≡ true
not_false true t = refl
not_false false t = absurd (false≢true (sym t))

-- the next number is no clearance number
next_fits : (made : ℕ) → made + 1 < clear_base → is_next_below (made + 1) made ≡ true
unfolding is_next_below
next_fits made few = and_from (made + 1 == made + 1) (nat_lt (made + 1) clear_base) (eq-eqb (made + 1) (made + 1) refl) (lt-ltb (made + 1) clear_base few)

written_fits : (strict : Bool) (s : Store) (path bytes : List ℕ) (o : Option Node) → HasNumbers s → HasTree s → IsAccepted s (WriteFile path bytes) → node_at s path ≡ o → is_folder o ≡ false → row_fits strict s (write_note s o (id_of (node_at s (parent_path path)))) ≡ true
unfolding write_note row_fits is_folder
written_fits strict s path bytes None few ok a e t =
    let w = written_place s path bytes ok a e in
    and_from (is_next_below (s.files_made + 1) s.files_made) (has_depth_left s (id_of (node_at s (parent_path path)))) (next_fits s.files_made few.1)
    (depth_left s w.level (id_of (node_at s (parent_path path))) ok w.stands w.below)
written_fits strict s path bytes (Some (Folder f)) few ok a e t = absurd (false≢true (sym t))
written_fits strict s path bytes (Some (File x)) few ok a e t = file_there s path x.0 (Some (File x)) ok e refl

removed_fits : (strict : Bool) (s : Store) (path : List ℕ) (o : Option Node) → HasTree s → node_at s path ≡ o → is_none o ≡ false → is_root_path path ≡ false → (is_folder o && has_child s (id_of o)) ≡ false → row_fits strict s (remove_note o) ≡ true
unfolding remove_note row_fits is_folder id_of folder_node
removed_fits strict s path None ok e some r t = absurd (false≢true (sym some))
removed_fits strict s path (Some (Folder f)) ok e some r t =
    and_from (is_other_folder s f.0) (not (has_child s f.0)) (other_folder s path f.0 ok e r) (not_from_false (has_child s f.0) t)
removed_fits strict s path (Some (File x)) ok e some r t = file_there s path x.0 (Some (File x)) ok e refl

renamed_fits : (strict : Bool) (s : Store) (path : List ℕ) (o : Option Node) → HasTree s → node_at s path ≡ o → is_none o ≡ false → is_root_path path ≡ false → row_fits strict s (rename_note o) ≡ true
unfolding rename_note row_fits folder_node
renamed_fits strict s path None ok e some r = absurd (false≢true (sym some))
renamed_fits strict s path (Some (Folder f)) ok e some r = other_folder s path f.0 ok e r
renamed_fits strict s path (Some (File x)) ok e some r = file_there s path x.0 (Some (File x)) ok e refl

-- what is moved isn't in the folder already, since the name is free there
moved_fits : (strict : Bool) (s : Store) (path : List ℕ) (o : Option Node) (q k : ℕ) → HasTree s → node_at s path ≡ o → is_none o ≡ false → is_root_path path ≡ false → AtLevel k s.folders q → holds_name s q (name_of s o) ≡ false → (is_folder o && is_within s q (id_of o)) ≡ false → k + 1 + height_of s o ≤ 64 → row_fits strict s (move_note o q) ≡ true
unfolding move_note row_fits may_go_into name_of is_folder id_of folder_node folder_of_file parent_of_folder
moved_fits strict s path None q k ok e some r at t outside limit = absurd (false≢true (sym some))
moved_fits strict s path (Some (Folder f)) q k ok e some r at t outside limit =
    let w = node_stands s (Folder f) (node_found s path (Folder f) e).0 in
    let entry = folder_own s w.0 f.0 ok w.1 w.2 in
    let parent : elim (folder_entry s f.0) [ None ↦ 0 | Some e ↦ e.parent ] ≡ w.0.parent = ap (λ o. elim o as (λ z. ℕ) [ None ↦ 0 | Some e ↦ e.parent ]) entry in
    let name : name_of s (Some (Folder f)) ≡ w.0.name = ap (λ o. elim o as (λ z. List ℕ) [ None ↦ [] | Some e ↦ e.name ]) entry in
    let other : (parent_of_folder s f.0 == q) ≡ false = ne_eqb (parent_of_folder s f.0) q (λ h. folder_free s q (name_of s (Some (Folder f))) t w.0 w.1 (sym parent ∙ h) (sym name)) in
    let depth : depth_of s (folder_node q) ≡ k = folder_depth s q k ok.numbered at in
    let low : k + 1 + height_of s (Some (Folder f)) ≤ 64 = limit in
    and_from (is_other_folder s f.0 && folder_stands s q && not (parent_of_folder s f.0 == q) && not (is_within s q f.0)) (nat_le (depth_of s (folder_node q) + 1 + height_of s (Some (folder_node f.0))) 64)
    (and_from (is_other_folder s f.0 && folder_stands s q && not (parent_of_folder s f.0 == q)) (not (is_within s q f.0))
    (and_from (is_other_folder s f.0 && folder_stands s q) (not (parent_of_folder s f.0 == q))
    (and_from (is_other_folder s f.0) (folder_stands s q) (other_folder s path f.0 ok e r) (stands_at s k q ok at))
    (not_from_false (parent_of_folder s f.0 == q) other))
    (not_from_false (is_within s q f.0) outside))
    (le-leb (depth_of s (folder_node q) + 1 + height_of s (Some (folder_node f.0))) 64 (subst (λ d. d + 1 + height_of s (Some (folder_node f.0)) ≤ 64) (sym depth) low))
moved_fits strict s path (Some (File x)) q k ok e some r at t outside limit =
    let w = node_stands s (File x) (node_found s path (File x) e).0 in
    let entry = file_own s w.0 x.0 ok w.1 w.2 in
    let folder : folder_of_file s x.0 ≡ w.0.folder = ap (λ o. elim o as (λ z. ℕ) [ None ↦ 0 | Some e ↦ e.folder ]) entry in
    let name : name_of s (Some (File x)) ≡ w.0.name = ap (λ o. elim o as (λ z. List ℕ) [ None ↦ [] | Some e ↦ e.name ]) entry in
    let other : (folder_of_file s x.0 == q) ≡ false = ne_eqb (folder_of_file s x.0) q (λ h. file_free s q (name_of s (Some (File x))) t w.0 w.1 (sym folder ∙ h) (sym name)) in
    let low : k + 1 + height_of s (Some (File x)) ≤ 64 = limit in
    and_from (file_stands s x.0 && has_depth_left s q) (not (folder_of_file s x.0 == q))
    (and_from (file_stands s x.0) (has_depth_left s q) (file_there s path x.0 (Some (File x)) ok e refl) (depth_left s k q ok at (omega arith)))
    (not_from_false (folder_of_file s x.0 == q) other)

some_from : {X : Type 0} (o : Option X) → is_none o ≡ false → is_some o ≡ true
some_from None t = absurd (false≢true (sym t))
some_from (Some x) t = refl

-- whether a store of the version knows the grant: one of version 1 knows none on a file
abbrev pub IsKnown : Bool → Store → Request → Type 0
IsKnown strict s (Grant h path) = (is_file (node_at s path) && not strict) ≡ false
IsKnown strict s r = Unit {0}

-- what a grant is on
found_granted : (strict : Bool) (s : Store) (path : List ℕ) (o : Option Node) → HasTree s → node_at s path ≡ o → is_none o ≡ false → (is_file o && not strict) ≡ false → may_be_granted strict s (granted_id o) ≡ true
unfolding granted_id is_file may_be_granted clear_stands
found_granted strict s path None ok e some known = absurd (false≢true (sym some))
found_granted strict s path (Some (Folder f)) ok e some known =
    let w = node_stands s (Folder f) (node_found s path (Folder f) e).0 in
    or_left (folder_stands s f.0) (strict && is_file_there s (file_of f.0)) (unfold folder_stands in some_is (folder_entry s f.0) w.0 (folder_own s w.0 f.0 ok w.1 w.2))
found_granted strict s path (Some (File x)) ok e some known =
    or_right (folder_stands s (clear_number x.0)) (strict && is_file_there s (file_of (clear_number x.0)))
    (and_from strict (is_file_there s (file_of (clear_number x.0))) (not_false strict known)
    (ap (λ o. is_file_there s o) (file_of_number x.0) ∙ (unfold is_file_there in file_there s path x.0 (Some (File x)) ok e refl)))

pub note_fits : (strict : Bool) (s : Store) (r : Request) (check : List ℕ) → HasNumbers s → HasTree s → IsAccepted s r → IsKnown strict s r → row_fits strict s (note_of s r check) ≡ true
unfolding note_of row_fits finds_no_path changes_root needs_folder writes_folder finds_name_taken removes_children moves_into_itself goes_too_deep depth_at finds_no_holder grants_again revokes_nothing paths_of
note_fits strict s AddHolder check few ok a known = eq-eqb (s.holders_made + 1) (s.holders_made + 1) refl
note_fits strict s (MakeFolder path) check few ok a known =
    let w = made_place s path ok a in
    and_from (is_next_below (s.folders_made + 1) s.folders_made) (has_depth_left s (id_of (node_at s (parent_path path)))) (next_fits s.folders_made few.0)
    (depth_left s w.level (id_of (node_at s (parent_path path))) ok w.stands w.below)
note_fits strict s (WriteFile path bytes) check few ok a known = written_fits strict s path bytes (node_at s path) few ok a refl a.writes_file
note_fits strict s (Remove path) check few ok a known = removed_fits strict s path (node_at s path) ok refl (or_parts (is_none (node_at s path)) false a.finds_path).0 a.other_root a.childless
note_fits strict s (Rename path name) check few ok a known = renamed_fits strict s path (node_at s path) ok refl (or_parts (is_none (node_at s path)) false a.finds_path).0 a.other_root
note_fits strict s (Relocate path into) check few ok a known =
    let finds = or_parts (is_none (node_at s path)) (is_none (node_at s into) || false) a.finds_path in
    let w = into_level s into (node_at s into) ok refl (or_parts (is_none (node_at s into)) false finds.1).0 a.in_folder in
    let deep : depth_at s into + 1 + height_of s (node_at s path) ≤ 64 = ltb-false 64 (depth_at s into + 1 + height_of s (node_at s path)) a.not_deep in
    let level : depth_at s into ≡ w.0 = w.2 in
    moved_fits strict s path (node_at s path) (id_of (node_at s into)) w.0 ok refl finds.0 a.other_root w.1 a.finds_free a.outside (omega arith)
note_fits strict s (Grant h path) check few ok a known =
    let f = granted_id (node_at s path) in
    let there = found_granted strict s path (node_at s path) ok refl (or_parts (is_none (node_at s path)) false a.finds_path).0 known in
    and_from (is_some (holder_entry s h) && may_be_granted strict s f) (not (has_grant s h f))
    (and_from (is_some (holder_entry s h)) (may_be_granted strict s f) (some_from (holder_entry s h) a.holder) there)
    (not_from_false (has_grant s h f) a.new_grant)
note_fits strict s (Revoke h path) check few ok a known = not-false (has_grant s h (granted_id (node_at s path))) a.old_grant

-- a store of the version knows the command
known_in : (strict : Bool) (s : Store) (r : Request) (n : ℕ) → refusal_in strict s r n ≡ None → IsKnown strict s r
unfolding grants_on_file causes_in
known_in strict s AddHolder n e = tt
known_in strict s (MakeFolder path) n e = tt
known_in strict s (WriteFile path bytes) n e = tt
known_in strict s (Remove path) n e = tt
known_in strict s (Rename path name) n e = tt
known_in strict s (Relocate path into) n e = tt
known_in strict s (Grant h path) n e =
    let t = no_cause_in strict s (Grant h path) n ((is_file (node_at s path) && not strict) || needs_folder s (Grant h path)) NotFolder e (inr (inr (inr (inl refl)))) in
    (or_parts (is_file (node_at s path) && not strict) (needs_folder s (Grant h path)) t).0
known_in strict s (Revoke h path) n e = tt

pub accepted_fits : (strict : Bool) (s : Store) (r : Request) (check : List ℕ) (n : ℕ) → refusal_in strict s r n ≡ None → HasNumbers s → HasTree s → fits strict s (note_of s r check) ≡ true
accepted_fits strict s r check n e few ok =
    rest_fits strict s (note_of s r check) ok (note_fits strict s r check few ok (accepted s r n (accepted_in strict s r n e)) (known_in strict s r n e))

pub journal_fits : (strict : Bool) (m : Journal) → IsValid m → (r : Request) (check : List ℕ) (n : ℕ) → refusal_in strict (store_of m) r n ≡ None → fits strict (store_of m) (note_of (store_of m) r check) ≡ true
journal_fits strict m v r check n e = accepted_fits strict (store_of m) r check n e (journal_numbers m v) (journal_tree m v)
