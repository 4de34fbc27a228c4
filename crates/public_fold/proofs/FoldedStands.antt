-- Stands that payloads leave have no names, the owner's key of serial 0, and a version that goes with their folders.
use Rattle.std.proofs.Common.{◌≡◌, ◌≢◌, ℕ, ◌+◌, ◌≤◌, Bool, true, false, cond, not, ◌==◌, ◌⊎◌, List, [], ◌∷◌, ◌++◌, map, Some, None, inl, inr, ⊎_elim, refl, sym, ap, ◌∙◌, subst, arith}
use Rattle.std.specs.Prelude.{unwrap_or}
use Rattle.std.proofs.lemmas.Bool.{and_parts, true≢false}
use Rattle.cry_base.specs.Clearances.{file_of}
use Rattle.cry_base.specs.Sets.{In}
use Rattle.cry_base.specs.Stepping.{with_new_holder, with_new_folder, with_new_file, with_folder, with_file, without_folder, without_file, without_grant}
use Rattle.cry_base.specs.Store.{Store, FileEntry, FolderEntry, no_store, root_store}
use Rattle.cry_base.specs.declared.roles.Role.{Role}
use Rattle.cry_base.specs.declared.roles.Role.TheVariants.{Owner}
use Rattle.cry_base.proofs.Members.{In-append, In-filter, In-map}
use Rattle.move_plan.specs.Change.{Change, change_of, no_change, row_change, without_roles}
use Rattle.move_plan.specs.Fitting.{fits}
use Rattle.record_format.specs.Noted.{Note}
use Rattle.record_format.specs.Noted.Note.{Root, NewHolder, NewFolder, NewFile, Rewrite, NameFile, NameFolder, DropFile, DropFolder, ShiftFile, ShiftFolder, Give, Take, StrictRoot, Upgrade}
use Rattle.role_graph.specs.Edges.{edges}
use Rattle.role_graph.specs.Roles.{is_root_role, role_id, same_role, variant_of}
use Rattle.public_fold.specs.Fitted.{told_stand, told_step}
use Rattle.public_fold.specs.Journal.{Stand, note_step, nothing}
use Rattle.public_fold.specs.Keyed.{KeysHold}
use Rattle.public_fold.specs.KeyStep.{KeyState, is_strict, key_step, newest, next_epoch, no_keys, published, renewed, step_with, version_then}
use Rattle.public_fold.specs.Records.{Link, Piece, pieces_of}
use Rattle.public_fold.specs.Rooted.{MayStand}
use Rattle.public_fold.specs.StandFits.{note_fits}
use Rattle.public_fold.specs.StateLaws.{IsFolded}
use Rattle.public_fold.specs.States.{IsBare}
use Rattle.public_fold.specs.Told.{told_store}
use Rattle.public_fold.specs.Turns.{StandHolds, Turn, turn_fits, turn_stand, turns_fit, turns_stand}
use Rattle.public_fold.specs.Turns.Turn.{Began, Noted}
use Rattle.public_fold.proofs.KeepingKeys.{IsMove, renewed_stands, same_key}
use Rattle.public_fold.proofs.Levels.{last_or}
use Rattle.public_fold.proofs.NoteMoves.{first_is_root, note_moves, note_rooted}
use Rattle.public_fold.proofs.TurnsHold.{epoch_stands, first_note, first_stands, fit_told, note_holds}
use Rattle.public_fold.proofs.Versioned.{given_version, taken_version}

-- ---- without names

bare_folder : (fs : List FolderEntry) (x : FolderEntry) → ((e : FolderEntry) → In e fs → e.name ≡ []) → x.name ≡ [] → (e : FolderEntry) → In e (fs ++ x ∷ []) → e.name ≡ []
bare_folder fs x old new e i = ⊎_elim (λ u. old e u) (λ (s : e ≡ x). ap (λ (z : FolderEntry). z.name) s ∙ new) (last_or FolderEntry e x fs i)

bare_file : (fs : List FileEntry) (x : FileEntry) → ((e : FileEntry) → In e fs → (e.name ≡ []) × (e.bytes ≡ [])) → x.name ≡ [] → x.bytes ≡ [] → (e : FileEntry) → In e (fs ++ x ∷ []) → (e.name ≡ []) × (e.bytes ≡ [])
bare_file fs x old name bytes e i = ⊎_elim
    (λ u. old e u)
    (λ (s : e ≡ x). (ap (λ (z : FileEntry). z.name) s ∙ name, ap (λ (z : FileEntry). z.bytes) s ∙ bytes))
    (last_or FileEntry e x fs i)

either_name : (b : Bool) (x y : FolderEntry) → x.name ≡ [] → y.name ≡ [] → (cond b x y).name ≡ []
either_name true x y p q = p
either_name false x y p q = q

moved_folder : (fs : List FolderEntry) (test : FolderEntry → Bool) (p : ℕ) → ((e : FolderEntry) → In e fs → e.name ≡ []) → (e : FolderEntry) → In e (map (λ x. cond (test x) (record x { parent = p }) x) fs) → e.name ≡ []
moved_folder fs test p old e i =
    let w = (In-map FolderEntry FolderEntry (λ x. cond (test x) (record x { parent = p }) x) e fs).0 i in
    ap (λ (z : FolderEntry). z.name) w.2 ∙ either_name (test w.0) (record w.0 { parent = p }) w.0 (old w.0 w.1) (old w.0 w.1)

either_file : (b : Bool) (x y : FileEntry) → (x.name ≡ []) × (x.bytes ≡ []) → (y.name ≡ []) × (y.bytes ≡ []) → ((cond b x y).name ≡ []) × ((cond b x y).bytes ≡ [])
either_file true x y p q = p
either_file false x y p q = q

moved_file : (fs : List FileEntry) (test : FileEntry → Bool) (g : ℕ) → ((e : FileEntry) → In e fs → (e.name ≡ []) × (e.bytes ≡ [])) → (e : FileEntry) → In e (map (λ x. cond (test x) (record x { folder = g }) x) fs) → (e.name ≡ []) × (e.bytes ≡ [])
moved_file fs test g old e i =
    let w = (In-map FileEntry FileEntry (λ x. cond (test x) (record x { folder = g }) x) e fs).0 i in
    subst (λ (z : FileEntry). (z.name ≡ []) × (z.bytes ≡ [])) (sym w.2) (either_file (test w.0) (record w.0 { folder = g }) w.0 (old w.0 w.1) (old w.0 w.1))

root_bare : IsBare root_store
unfolding root_store no_store
root_bare = record {
  folders = λ e i. ⊎_elim (λ (s : e ≡ record { id = 1; parent = 0; name = [] }). ap (λ (z : FolderEntry). z.name) s) (λ n. absurd n) i;
  files = λ e i. absurd i;
}

note_bare : (s : Store) (note : Note) → IsBare s → IsBare (told_store s note)
unfolding told_store with_new_holder with_new_folder with_new_file with_folder with_file without_folder without_file without_grant
note_bare s Root ok = root_bare
note_bare s (NewHolder h check) ok = record { folders = ok.folders; files = ok.files }
note_bare s (NewFolder f p) ok = record { folders = bare_folder s.folders (record { id = s.folders_made + 1; parent = p; name = [] }) ok.folders refl; files = ok.files }
note_bare s (NewFile x f) ok = record { folders = ok.folders; files = bare_file s.files (record { id = s.files_made + 1; folder = f; name = []; bytes = [] }) ok.files refl refl }
note_bare s (Rewrite x) ok = ok
note_bare s (NameFile x) ok = ok
note_bare s (NameFolder f) ok = ok
note_bare s (DropFile x) ok = record { folders = ok.folders; files = λ e i. ok.files e (In-filter FileEntry (λ y. not (y.id == x)) e s.files i).0 }
note_bare s (DropFolder f) ok = record { folders = λ e i. ok.folders e (In-filter FolderEntry (λ y. not (y.id == f)) e s.folders i).0; files = ok.files }
note_bare s (ShiftFile x g) ok = record { folders = ok.folders; files = moved_file s.files (λ e. e.id == x) g ok.files }
note_bare s (ShiftFolder g q) ok = record { folders = moved_folder s.folders (λ e. e.id == g) q ok.folders; files = ok.files }
note_bare s (Give h f) ok = record { folders = ok.folders; files = ok.files }
note_bare s (Take h f) ok = record { folders = ok.folders; files = ok.files }
note_bare s StrictRoot ok = root_bare
note_bare s Upgrade ok = ok

-- ---- the owner's key

owner_stays : (s t : Store) (k : KeyState) (c : Change) (links : List Link) → IsMove s c t → KeysHold s k links → (pieces : List Piece)
    → newest (key_step k (edges s) c pieces).after.keys Owner ≡ newest k.keys Owner
unfolding key_step step_with published is_root_role variant_of
owner_stays s t k c links mv ok pieces =
    same_key s t k c links mv ok Owner
    (λ i. ⊎_elim
    (λ u. true≢false (renewed_stands s t k c links mv ok Owner u).1.1)
    (λ u. mv.fresh_is_new Owner u tt)
    ((In-append Role Owner (renewed k (edges s) c) c.fresh).0 i))
    (λ g. ⊎_elim (λ w. w.1 g) (λ u. mv.fresh_is_new Owner u tt) ((mv.roles Owner).0 tt))

-- ---- the version

-- a note that says a version says 1 or 2
says_version : (s : Store) (note : Note) → ((row_change s note).version ≡ None) ⊎ ((n : ℕ) × ((row_change s note).version ≡ Some n) × (1 ≤ n) × (n ≤ 2))
unfolding row_change no_change without_roles
says_version s Root = inr (1, refl, omega arith, omega arith)
says_version s (NewHolder h check) = inl refl
says_version s (NewFolder f p) = inl refl
says_version s (NewFile x f) = inl refl
says_version s (Rewrite x) = inl refl
says_version s (NameFile x) = inl refl
says_version s (NameFolder f) = inl refl
says_version s (DropFile x) = inl refl
says_version s (DropFolder f) = inl refl
says_version s (ShiftFile x g) = inl refl
says_version s (ShiftFolder g q) = inl refl
says_version s (Give h f) = inl (given_version s h f (file_of f))
says_version s (Take h f) = inl (taken_version s h f (file_of f))
says_version s StrictRoot = inr (2, refl, omega arith, omega arith)
says_version s Upgrade = inr (2, refl, omega arith, omega arith)

-- the notes that make the root do
root_says : (s : Store) (note : Note) → (note ≡ Root) ⊎ (note ≡ StrictRoot) → (row_change s note).version ≡ None → ⊥
unfolding row_change no_change
root_says s note which none = ⊎_elim
    (λ (e : note ≡ Root). some_none 1 (sym (ap (λ n. (row_change s n).version) (sym e) ∙ none)))
    (λ (e : note ≡ StrictRoot). some_none 2 (sym (ap (λ n. (row_change s n).version) (sym e) ∙ none))) which
  where
    some_none : (n : ℕ) → None ≡ Some n → ⊥
    some_none n e = cc

-- a store with a root has made folders
rooted_made : (s : Store) → MayStand s → (s ≡ no_store → ⊥) → 1 ≤ s.folders_made
rooted_made s ok made = ⊎_elim
    (λ e. absurd (made e))
    (λ r.
    let root = r.root_stands in
    let one : root.0.id ≡ 1 = root.2 in
    let low : root.0.id ≤ s.folders_made = r.counted.each_folder root.0 root.1 in omega arith) ok

told_made : (strict : Bool) (s : Store) (note : Note) → fits strict s note ≡ true → MayStand s → 1 ≤ (told_store s note).folders_made
told_made strict s note t ok =
    let r = note_rooted strict s note t ok in
    let root = r.root_stands in
    let one : root.0.id ≡ 1 = root.2 in
    let low : root.0.id ≤ (told_store s note).folders_made = r.counted.each_folder root.0 root.1 in omega arith

-- it is 1 or 2 after a note that fits
note_version : (at : Stand) (note : Note) → fits (is_strict at.keys) at.store note ≡ true → MayStand at.store → IsFolded at
    → (1 ≤ (told_stand at note).keys.version) × ((told_stand at note).keys.version ≤ 2)
unfolding told_stand told_step note_step key_step step_with published version_then change_of
note_version at note t ok folded = ⊎_elim
    (λ (none : (row_change at.store note).version ≡ None).
    let same : unwrap_or (row_change at.store note).version at.keys.version ≡ at.keys.version = ap (λ o. unwrap_or o at.keys.version) none in
    let made : 1 ≤ at.store.folders_made = rooted_made at.store ok (λ e. root_says at.store note (first_is_root (is_strict at.keys) at.store note t e) none) in
    let known : at.keys.version ≤ 2 = folded.known in
    let some : at.keys.version ≢ 0 = λ z. (let no : at.store.folders_made ≡ 0 = folded.unmade.0 z in absurd (omega arith)) in
    (omega arith, omega arith))
    (λ (w : (n : ℕ) × ((row_change at.store note).version ≡ Some n) × (1 ≤ n) × (n ≤ 2)).
    let same : unwrap_or (row_change at.store note).version at.keys.version ≡ w.0 = ap (λ o. unwrap_or o at.keys.version) w.1 in
    let low : 1 ≤ w.0 = w.2 in
    let high : w.0 ≤ 2 = w.3 in
    (omega arith, omega arith))
    (says_version at.store note)

-- ---- after turns

told_owner : (at : Stand) (note : Note) (links : List Link) → fits (is_strict at.keys) at.store note ≡ true → StandHolds at links → newest (told_stand at note).keys.keys Owner ≡ newest at.keys.keys Owner
unfolding told_stand told_step note_step
told_owner at note links t ok =
    owner_stays at.store (told_store at.store note) at.keys (change_of (is_strict at.keys) at.store note) links (note_moves (is_strict at.keys) at.store note t ok.store) ok.keys
    (pieces_of note (told_store at.store note))

told_bare : (at : Stand) (note : Note) → IsBare at.store → IsBare (told_stand at note).store
unfolding told_stand
told_bare at note ok = note_bare at.store note ok

told_some : (at : Stand) (note : Note) → fits (is_strict at.keys) at.store note ≡ true → MayStand at.store → 1 ≤ (told_stand at note).store.folders_made
unfolding told_stand
told_some at note t ok = told_made (is_strict at.keys) at.store note t ok

note_folded : (at : Stand) (note : Note) (links : List Link) → note_fits at note (told_step at note) ≡ true → StandHolds at links → IsFolded at → IsFolded (told_stand at note)
note_folded at note links t ok folded =
    let fit = (fit_told at note t).0 in
    let version = note_version at note fit ok.store folded in
    let some : 1 ≤ (told_stand at note).keys.version = version.0 in
    let made : 1 ≤ (told_stand at note).store.folders_made = told_some at note fit ok.store in record {
      bare = told_bare at note folded.bare;
      owner = told_owner at note links fit ok ∙ folded.owner;
      known = version.1;
      unmade = (λ z. absurd (omega arith), λ z. absurd (omega arith));
    }

epoch_folded : (at : Stand) → IsFolded at → IsFolded (record at { keys = next_epoch at.keys })
unfolding next_epoch
epoch_folded at folded = record { bare = folded.bare; owner = folded.owner; known = folded.known; unmade = folded.unmade }

pub turns_folded : (turns : List Turn) (at : Stand) (links : List Link) → StandHolds at links → IsFolded at → turns_fit at turns ≡ true → IsFolded (turns_stand at turns)
unfolding turns_fit turns_stand turn_fits turn_stand
turns_folded [] at links ok folded t = folded
turns_folded (Began ∷ turns) at links ok folded t =
    let next = turn_stand at Began in
    turns_folded turns next links (epoch_stands at links ok) (epoch_folded at folded) (and_parts true (turns_fit next turns) t).1
turns_folded (Noted note ∷ turns) at links ok folded t =
    let next = told_stand at note in
    let step = told_step at note in
    let both = and_parts (note_fits at note step) (turns_fit next turns) t in
    turns_folded turns next (links ++ step.links) (note_holds at note links both.0 ok) (note_folded at note links both.0 ok folded) both.1

pub nothing_folded : IsFolded nothing
unfolding nothing no_store no_keys newest same_role variant_of role_id
nothing_folded = record {
  bare = record { folders = λ e i. absurd i; files = λ e i. absurd i };
  owner = refl;
  known = omega arith;
  unmade = (λ z. refl, λ z. refl);
}

pub log_folded : (first : Turn) (turns : List Turn) → turns_fit nothing (first ∷ turns) ≡ true → IsFolded (turns_stand nothing (first ∷ turns))
unfolding turns_fit turns_stand turn_fits turn_stand
log_folded Began turns t =
    let next = turn_stand nothing Began in
    turns_folded turns next [] first_stands (epoch_folded nothing nothing_folded) (and_parts true (turns_fit next turns) t).1
log_folded (Noted note) turns t =
    absurd (first_note note (and_parts (note_fits nothing note (told_step nothing note)) (turns_fit (told_stand nothing note) turns) t).0)
