-- The version of a journal: 1 or 2, as it was made, and 2 from an upgrade on.
use Rattle.std.proofs.Common.{◌≡◌, ℕ, Bool, true, false, cond, ◌||◌, List, [], ◌∷◌, Option, Some, None, inl, inr, ⊎_elim, refl, sym, ap, subst}
use Rattle.std.specs.Prelude.{is_none, unwrap_or}
use Rattle.std.proofs.lemmas.Bool.{false≢true, or_parts}
use Rattle.cry_base.specs.Clearances.{file_of}
use Rattle.cry_base.specs.Limits.{most_file_bytes}
use Rattle.cry_base.specs.Naming.{parent_path}
use Rattle.cry_base.specs.Requests.{Request, paths_of}
use Rattle.cry_base.specs.Requests.Request.{AddHolder, MakeFolder, WriteFile, Remove, Rename, Relocate, Grant, Revoke}
use Rattle.cry_base.specs.Refusing.{finds_no_path, granted_id, id_of, is_folder, refusal_in, writes_folder}
use Rattle.cry_base.specs.Stepping.{without_grant}
use Rattle.cry_base.specs.Store.{Store, node_at}
use Rattle.cry_base.specs.declared.roles.Node.{Node}
use Rattle.cry_base.specs.declared.roles.Node.TheVariants as node
use Rattle.cry_base.proofs.Versions.{accepted_in}
use Rattle.role_graph.specs.Edges.{grant_edge, has_grants}
use Rattle.role_graph.specs.Roles.{clear_of}
use Rattle.move_plan.specs.Change.{change_of, edges_at, edges_of_first, given_on, no_change, row_change, taken_from, without_roles}
use Rattle.move_plan.specs.Noting.{move_note, note_of, remove_note, rename_note, write_note}
use Rattle.public_fold.specs.Journal.{Entry, Journal, Stand, entry_step, keys_of, note_step, nothing, root_note, stand_after, stand_then}
use Rattle.public_fold.specs.Journal.Entry.{Session, Made, Did, Upgraded}
use Rattle.public_fold.specs.KeyStep.{is_strict, key_step, next_epoch, published, step_with, version_then}
use Rattle.public_fold.specs.Valid.{BeginsWell, FollowOn, IsValid, IsVersion}
use Rattle.public_fold.proofs.Accepting.{IsAccepted, accepted}

-- a grant says no version
pub given_version : (s : Store) (h f : ℕ) (o : Option ℕ) → (given_on s h f o).version ≡ None
unfolding given_on no_change
given_version s h f None = refl
given_version s h f (Some x) = by (has_grants s f)
  where
    by : (b : Bool) → (cond b (record no_change { added = grant_edge h f ∷ [] }) (record no_change { fresh = clear_of f ∷ []; added = edges_of_first s h x })).version ≡ None
    by true = refl
    by false = refl

pub taken_version : (s : Store) (h f : ℕ) (o : Option ℕ) → (taken_from s h f o).version ≡ None
unfolding taken_from without_roles no_change
taken_version s h f None = refl
taken_version s h f (Some x) = by (has_grants (without_grant s h f) f)
  where
    by : (b : Bool) → (cond b (record no_change { removed = grant_edge h f ∷ []; wanted = clear_of f ∷ [] }) (record no_change { removed = edges_at s (clear_of f ∷ []); gone = clear_of f ∷ [] })).version ≡ None
    by true = refl
    by false = refl

-- nor does the note of any command
written_version : (s : Store) (q : ℕ) (o : Option Node) → is_folder o ≡ false → (row_change s (write_note s o q)).version ≡ None
unfolding write_note row_change no_change is_folder
written_version s q None t = refl
written_version s q (Some (node.Folder g)) t = absurd (false≢true (sym t))
written_version s q (Some (node.File x)) t = refl

removed_version : (s : Store) (o : Option Node) → is_none o ≡ false → (row_change s (remove_note o)).version ≡ None
unfolding remove_note row_change without_roles no_change
removed_version s None t = absurd (false≢true (sym t))
removed_version s (Some (node.Folder g)) t = refl
removed_version s (Some (node.File x)) t = refl

renamed_version : (s : Store) (o : Option Node) → is_none o ≡ false → (row_change s (rename_note o)).version ≡ None
unfolding rename_note row_change no_change
renamed_version s None t = absurd (false≢true (sym t))
renamed_version s (Some (node.Folder g)) t = refl
renamed_version s (Some (node.File x)) t = refl

moved_version : (s : Store) (q : ℕ) (o : Option Node) → is_none o ≡ false → (row_change s (move_note o q)).version ≡ None
unfolding move_note row_change no_change
moved_version s q None t = absurd (false≢true (sym t))
moved_version s q (Some (node.Folder g)) t = refl
moved_version s q (Some (node.File x)) t = refl

pub command_version : (s : Store) (r : Request) → IsAccepted s r → (row_change s (note_of s r [])).version ≡ None
unfolding note_of row_change no_change finds_no_path writes_folder paths_of
command_version s AddHolder a = refl
command_version s (MakeFolder path) a = refl
command_version s (WriteFile path bytes) a = written_version s (id_of (node_at s (parent_path path))) (node_at s path) a.writes_file
command_version s (Remove path) a = removed_version s (node_at s path) (or_parts (is_none (node_at s path)) false a.finds_path).0
command_version s (Rename path name) a = renamed_version s (node_at s path) (or_parts (is_none (node_at s path)) false a.finds_path).0
command_version s (Relocate path into) a = moved_version s (id_of (node_at s into)) (node_at s path) (or_parts (is_none (node_at s path)) (is_none (node_at s into) || false) a.finds_path).0
command_version s (Grant holder path) a = given_version s holder (granted_id (node_at s path)) (file_of (granted_id (node_at s path)))
command_version s (Revoke holder path) a = taken_version s holder (granted_id (node_at s path)) (file_of (granted_id (node_at s path)))

-- the versions after entries
pub session_version : (at : Stand) → (stand_then at Session).keys.version ≡ at.keys.version
unfolding stand_then entry_step next_epoch
session_version at = refl

pub did_version : (at : Stand) (request : Request) (keys : List (List ℕ)) → refusal_in (is_strict at.keys) at.store request most_file_bytes ≡ None → (stand_then at (Did request keys)).keys.version ≡ at.keys.version
unfolding stand_then entry_step note_step key_step step_with published version_then change_of
did_version at request keys e =
    ap (λ o. unwrap_or o at.keys.version)
    (command_version at.store request (accepted at.store request most_file_bytes (accepted_in (is_strict at.keys) at.store request most_file_bytes e)))

pub upgraded_version : (at : Stand) (keys : List (List ℕ)) → (stand_then at (Upgraded keys)).keys.version ≡ 2
unfolding stand_then entry_step note_step key_step step_with published version_then change_of row_change no_change
upgraded_version at keys = refl

after_version : (entries : List Entry) (at : Stand) → FollowOn at entries → IsVersion at.keys.version → IsVersion (stand_after at entries).keys.version
unfolding stand_after
after_version [] at f is = is
after_version (Session ∷ entries) at f is = after_version entries (stand_then at Session) f.1 (subst IsVersion (sym (session_version at)) is)
after_version (Made version keys ∷ entries) at f is = absurd f.0
after_version (Did request keys ∷ entries) at f is =
    after_version entries (stand_then at (Did request keys)) f.1 (subst IsVersion (sym (did_version at request keys f.0.0)) is)
after_version (Upgraded keys ∷ entries) at f is = after_version entries (stand_then at (Upgraded keys)) f.1 (inr (upgraded_version at keys))

abbrev made_at : ℕ → List (List ℕ) → Stand
made_at version keys = stand_then (stand_then nothing Session) (Made version keys)

made_first : (keys : List (List ℕ)) → (made_at 1 keys).keys.version ≡ 1
unfolding stand_then entry_step note_step key_step step_with published version_then change_of row_change no_change root_note
made_first keys = refl

made_second : (keys : List (List ℕ)) → (made_at 2 keys).keys.version ≡ 2
unfolding stand_then entry_step note_step key_step step_with published version_then change_of row_change no_change root_note
made_second keys = refl

made_version : (version : ℕ) (keys : List (List ℕ)) → IsVersion version → IsVersion (made_at version keys).keys.version
made_version version keys is = ⊎_elim
    (λ one. inl (subst (λ v. (made_at v keys).keys.version ≡ 1) (sym one) (made_first keys)))
    (λ two. inr (subst (λ v. (made_at v keys).keys.version ≡ 2) (sym two) (made_second keys)))
    is

begun_version : (m : Journal) → BeginsWell m → IsVersion (stand_after nothing m).keys.version
unfolding stand_after
begun_version [] b = absurd b
begun_version (Session ∷ []) b = absurd b
begun_version (Session ∷ Session ∷ entries) b = absurd b
begun_version (Session ∷ Made version keys ∷ entries) b = after_version entries (made_at version keys) b.1 (made_version version keys b.2)
begun_version (Session ∷ Did request keys ∷ entries) b = absurd b
begun_version (Session ∷ Upgraded keys ∷ entries) b = absurd b
begun_version (Made version keys ∷ entries) b = absurd b
begun_version (Did request keys ∷ entries) b = absurd b
begun_version (Upgraded keys ∷ entries) b = absurd b

pub journal_version : (m : Journal) → IsValid m → IsVersion (keys_of m).version
unfolding keys_of
journal_version m v = begun_version m v.0
