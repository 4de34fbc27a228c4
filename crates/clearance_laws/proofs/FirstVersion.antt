-- While a store is of version 1 each grant is on a number that a folder was given.
use Rattle.std.proofs.Common.{◌≡◌, ℕ, ◌+◌, ◌<◌, ◌≤◌, true, false, not, ◌&&◌, ◌==◌, List, [], ◌∷◌, ◌++◌, Option, Some, None, ⊎_elim, refl, sym, ap, ◌∙◌, subst, arith}
use Rattle.std.specs.Prelude.{is_none}
use Rattle.std.specs.List.{list_all}
use Rattle.std.proofs.lemmas.Bool.{cases_Bool, false≢true, ne_eqb, not-false, or_parts}
use Rattle.cry_base.specs.Clearances.{clear_base, clear_number}
use Rattle.cry_base.specs.Limits.{most_file_bytes}
use Rattle.cry_base.specs.Naming.{is_path, last_name, names_of, parent_path}
use Rattle.cry_base.specs.Refusing.{finds_no_path, granted_id, grants_on_file, has_bad_name, id_of, is_file, refusal_in}
use Rattle.cry_base.specs.Requests.{Request, paths_of}
use Rattle.cry_base.specs.Requests.Request.{AddHolder, MakeFolder, WriteFile, Remove, Rename, Relocate, Grant, Revoke}
use Rattle.cry_base.specs.Sets.{In}
use Rattle.cry_base.specs.Stepping.{effect, moved, with_bytes_at, with_file, with_folder, with_name, with_new_file, with_new_folder, with_new_holder, without_file, without_folder, without_grant, without_node}
use Rattle.cry_base.specs.Store.{GrantEntry, Store, no_store, node_at, root_store}
use Rattle.cry_base.specs.declared.roles.Node.{Node}
use Rattle.cry_base.specs.declared.roles.Node.TheVariants.{Folder, File}
use Rattle.cry_base.proofs.Finding.{node_found}
use Rattle.cry_base.proofs.Members.{In-append, In-filter}
use Rattle.cry_base.proofs.Versions.{accepted_in, refused_in_first}
use Rattle.public_fold.specs.Counted.{AreCounted}
use Rattle.public_fold.specs.Journal.{Entry, Journal, Stand, entry_store, first_key, keys_of, nothing, stand_after, stand_then, store_of}
use Rattle.public_fold.specs.Journal.Entry.{Session, Made, Did, Upgraded}
use Rattle.public_fold.specs.KeyStep.{is_strict}
use Rattle.public_fold.specs.Valid.{BeginsWell, FollowOn, IsValid}
use Rattle.public_fold.proofs.Accepting.{IsAccepted, accepted}
use Rattle.public_fold.proofs.Counting.{effect_counted, root_counted}
use Rattle.public_fold.proofs.Numbers.{journal_numbers}
use Rattle.public_fold.proofs.Treeing.{node_stands}
use Rattle.public_fold.proofs.Versioned.{did_version, session_version, upgraded_version}

-- each grant is on a number that a folder was given
abbrev AreOnFolders : Store → Type 0
AreOnFolders s = (g : GrantEntry) → In g s.grants → g.folder ≤ s.folders_made

-- fewer grants, and no fewer folders made
abbrev IsFewer : Store → Store → Type 0
IsFewer s t = ((g : GrantEntry) → In g t.grants → In g s.grants) × (s.folders_made ≤ t.folders_made)

fewer_low : (s t : Store) → IsFewer s t → AreOnFolders s → AreOnFolders t
fewer_low s t w low g i = let at : g.folder ≤ s.folders_made = low g (w.0 g i) in let more = w.1 in omega (arith, at, more)

written_fewer : (s : Store) (o : Option Node) (path bytes : List ℕ) → IsFewer s (with_bytes_at s o path bytes)
unfolding with_bytes_at with_new_file with_file
written_fewer s None path bytes = (λ g i. i, omega arith)
written_fewer s (Some (Folder f)) path bytes = (λ g i. i, omega arith)
written_fewer s (Some (File x)) path bytes = (λ g i. i, omega arith)

removed_fewer : (s : Store) (o : Option Node) → IsFewer s (without_node s o)
unfolding without_node without_folder without_file
removed_fewer s None = (λ g i. i, omega arith)
removed_fewer s (Some (Folder f)) = (λ g i. (In-filter GrantEntry (λ y. not (y.folder == f.0)) g s.grants i).0, omega arith)
removed_fewer s (Some (File x)) = (λ g i. (In-filter GrantEntry (λ y. not (y.folder == clear_number x.0)) g s.grants i).0, omega arith)

renamed_fewer : (s : Store) (o : Option Node) (name : List ℕ) → IsFewer s (with_name s o name)
unfolding with_name with_folder with_file
renamed_fewer s None name = (λ g i. i, omega arith)
renamed_fewer s (Some (Folder f)) name = (λ g i. i, omega arith)
renamed_fewer s (Some (File x)) name = (λ g i. i, omega arith)

moved_fewer : (s : Store) (o : Option Node) (q : ℕ) → IsFewer s (moved s o q)
unfolding moved with_folder with_file
moved_fewer s None q = (λ g i. i, omega arith)
moved_fewer s (Some (Folder f)) q = (λ g i. i, omega arith)
moved_fewer s (Some (File x)) q = (λ g i. i, omega arith)

taken_fewer : (s : Store) (h f : ℕ) → IsFewer s (without_grant s h f)
unfolding without_grant
taken_fewer s h f = (λ g i. (In-filter GrantEntry (λ y. not (y.holder == h && y.folder == f)) g s.grants i).0, omega arith)

holder_fewer : (s : Store) (key : List ℕ) → IsFewer s (with_new_holder s key)
unfolding with_new_holder
holder_fewer s key = (λ g i. i, omega arith)

folder_fewer : (s : Store) (p : ℕ) (name : List ℕ) → IsFewer s (with_new_folder s p name)
unfolding with_new_folder
folder_fewer s p name = (λ g i. i, omega arith)

-- what an accepted grant in a store of version 1 is on
found_low : (s : Store) (path : List ℕ) (o : Option Node) → node_at s path ≡ o → is_none o ≡ false → is_file o ≡ false → AreCounted s → granted_id o ≤ s.folders_made
unfolding is_file granted_id
found_low s path None e some folder counted = absurd (false≢true (sym some))
found_low s path (Some (File x)) e some folder counted = absurd (false≢true (sym folder))
found_low s path (Some (Folder f)) e some folder counted =
    let w = node_stands s (Folder f) (node_found s path (Folder f) e).0 in
    subst (λ n. n ≤ s.folders_made) w.2 (counted.each_folder w.0 w.1)

on_no_file : (s : Store) (h : ℕ) (path : List ℕ) → IsAccepted s (Grant h path) → refusal_in false s (Grant h path) most_file_bytes ≡ None → is_file (node_at s path) ≡ false
unfolding has_bad_name grants_on_file
on_no_file s h path a e = ⊎_elim
    (λ (t : is_file (node_at s path) ≡ true).
    let refused = refused_in_first s (Grant h path) most_file_bytes (not-false (list_all is_path (paths_of (Grant h path))) a.good_name) t in absurd cc)
    (λ f. f)
    (cases_Bool (is_file (node_at s path)))

granted_low : (s : Store) (h : ℕ) (path : List ℕ) → refusal_in false s (Grant h path) most_file_bytes ≡ None → AreCounted s → granted_id (node_at s path) ≤ s.folders_made
unfolding finds_no_path paths_of
granted_low s h path e counted =
    let a = accepted s (Grant h path) most_file_bytes (accepted_in false s (Grant h path) most_file_bytes e) in
    found_low s path (node_at s path) refl (or_parts (is_none (node_at s path)) false a.finds_path).0 (on_no_file s h path a e) counted

given_low : (s : Store) (h f : ℕ) → f ≤ s.folders_made → AreOnFolders s → AreOnFolders (record s { grants = s.grants ++ record { holder = h; folder = f } ∷ [] })
given_low s h f below low g i =
    let n : GrantEntry = record { holder = h; folder = f } in ⊎_elim
    (λ a. low g a)
    (λ b. ⊎_elim (λ (q : g ≡ n). subst (λ k. k ≤ s.folders_made) (sym (ap (λ (y : GrantEntry). y.folder) q)) below) (λ z. absurd z) b)
    ((In-append GrantEntry g s.grants (n ∷ [])).0 i)

effect_low : (s : Store) (r : Request) (key : List ℕ) → refusal_in false s r most_file_bytes ≡ None → AreCounted s → AreOnFolders s → AreOnFolders (effect s r key)
unfolding effect
effect_low s AddHolder key e counted low = fewer_low s (with_new_holder s key) (holder_fewer s key) low
effect_low s (MakeFolder path) key e counted low =
    let p = id_of (node_at s (parent_path path)) in
    let name = last_name (names_of path) in
    fewer_low s (with_new_folder s p name) (folder_fewer s p name) low
effect_low s (WriteFile path bytes) key e counted low = fewer_low s (with_bytes_at s (node_at s path) path bytes) (written_fewer s (node_at s path) path bytes) low
effect_low s (Remove path) key e counted low = fewer_low s (without_node s (node_at s path)) (removed_fewer s (node_at s path)) low
effect_low s (Rename path name) key e counted low = fewer_low s (with_name s (node_at s path) name) (renamed_fewer s (node_at s path) name) low
effect_low s (Relocate path into) key e counted low =
    let q = id_of (node_at s into) in
    fewer_low s (moved s (node_at s path) q) (moved_fewer s (node_at s path) q) low
effect_low s (Grant holder path) key e counted low = given_low s holder (granted_id (node_at s path)) (granted_low s holder path e counted) low
effect_low s (Revoke holder path) key e counted low =
    let f = granted_id (node_at s path) in
    fewer_low s (without_grant s holder f) (taken_fewer s holder f) low

-- a store of version 2 stays one
stays_second : (entries : List Entry) (at : Stand) → FollowOn at entries → at.keys.version ≡ 2 → (stand_after at entries).keys.version ≡ 2
unfolding stand_after
stays_second [] at f two = two
stays_second (Session ∷ entries) at f two = stays_second entries (stand_then at Session) f.1 (session_version at ∙ two)
stays_second (Made version keys ∷ entries) at f two = absurd f.0
stays_second (Did request keys ∷ entries) at f two = stays_second entries (stand_then at (Did request keys)) f.1 (did_version at request keys f.0.0 ∙ two)
stays_second (Upgraded keys ∷ entries) at f two = stays_second entries (stand_then at (Upgraded keys)) f.1 (upgraded_version at keys)

not_second : (entries : List Entry) (at : Stand) → FollowOn at entries → (stand_after at entries).keys.version ≡ 1 → is_strict at.keys ≡ false
unfolding is_strict
not_second entries at f one = ne_eqb at.keys.version 2 (λ two.
    let last : (stand_after at entries).keys.version ≡ 2 = stays_second entries at f two in
    let no : 1 ≡ 2 = sym one ∙ last in omega (arith, no))

did_low : (at : Stand) (request : Request) (keys : List (List ℕ)) → is_strict at.keys ≡ false → refusal_in (is_strict at.keys) at.store request most_file_bytes ≡ None → AreCounted at.store → AreOnFolders at.store
    → AreCounted (stand_then at (Did request keys)).store × AreOnFolders (stand_then at (Did request keys)).store
unfolding stand_then entry_store
did_low at request keys first e counted low = (
  effect_counted at.store request (first_key keys) counted,
  effect_low at.store request (first_key keys) (subst (λ b. refusal_in b at.store request most_file_bytes ≡ None) first e) counted low,
)

after_low : (entries : List Entry) (at : Stand) → FollowOn at entries → (stand_after at entries).keys.version ≡ 1 → AreCounted at.store → AreOnFolders at.store → AreOnFolders (stand_after at entries).store
unfolding stand_after stand_then entry_store
after_low [] at f one counted low = low
after_low (Session ∷ entries) at f one counted low = after_low entries (stand_then at Session) f.1 one counted low
after_low (Made version keys ∷ entries) at f one counted low = absurd f.0
after_low (Did request keys ∷ entries) at f one counted low =
    let then = did_low at request keys (not_second (Did request keys ∷ entries) at f one) f.0.0 counted low in
    after_low entries (stand_then at (Did request keys)) f.1 one then.0 then.1
after_low (Upgraded keys ∷ entries) at f one counted low = after_low entries (stand_then at (Upgraded keys)) f.1 one counted low

begun_low : (m : Journal) → BeginsWell m → (stand_after nothing m).keys.version ≡ 1 → AreOnFolders (stand_after nothing m).store
unfolding stand_after stand_then entry_store root_store no_store
begun_low [] b one = absurd b
begun_low (Session ∷ []) b one = absurd b
begun_low (Session ∷ Session ∷ entries) b one = absurd b
begun_low (Session ∷ Made version keys ∷ entries) b one = after_low entries (stand_then (stand_then nothing Session) (Made version keys)) b.1 one root_counted (λ g i. absurd i)
begun_low (Session ∷ Did request keys ∷ entries) b one = absurd b
begun_low (Session ∷ Upgraded keys ∷ entries) b one = absurd b
begun_low (Made version keys ∷ entries) b one = absurd b
begun_low (Did request keys ∷ entries) b one = absurd b
begun_low (Upgraded keys ∷ entries) b one = absurd b

pub journal_below : (m : Journal) → IsValid m → (keys_of m).version ≡ 1 → (g : GrantEntry) → In g (store_of m).grants → g.folder < clear_base
unfolding store_of keys_of
journal_below m v one g i =
    let at : g.folder ≤ (stand_after nothing m).store.folders_made = begun_low m v.0 one g i in
    let few : (stand_after nothing m).store.folders_made + 1 < clear_base = (journal_numbers m v).0 in omega (arith, at, few)
