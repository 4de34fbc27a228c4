-- What a command that isn't refused seals.
use Rattle.std.proofs.Common.{◌≡◌, ℕ, ◌+◌, false, ◌||◌, List, [], ◌∷◌, ◌++◌, Option, Some, None, ⊎_elim, refl, sym, ap, ◌∙◌, subst, append-nil}
use Rattle.std.specs.Prelude.{◌==◌, find, is_none, option_map}
use Rattle.std.proofs.lemmas.Bool.{false≢true, or_parts}
use Rattle.cry_base.specs.Naming.{last_name, names_of, parent_path}
use Rattle.cry_base.specs.Refusing.{finds_no_path, id_of, is_folder, writes_folder}
use Rattle.cry_base.specs.Requests.{Request, paths_of}
use Rattle.cry_base.specs.Requests.Request.{AddHolder, MakeFolder, WriteFile, Remove, Rename, Relocate, Grant, Revoke}
use Rattle.cry_base.specs.Sets.{In}
use Rattle.cry_base.specs.Stepping.{effect, with_bytes_at, with_file, with_folder, with_name, with_new_file, with_new_folder, with_new_holder, without_node, moved}
use Rattle.cry_base.specs.Store.{Store, FolderEntry, FileEntry, HolderEntry, file_entry, folder_entry, holder_entry, node_at}
use Rattle.cry_base.specs.declared.roles.Node.{Node}
use Rattle.cry_base.specs.declared.roles.Node.TheVariants.{Folder, File}
use Rattle.move_plan.specs.Noting.{move_note, note_of, remove_note, rename_note, write_note}
use Rattle.public_fold.specs.Counted.{AreCounted}
use Rattle.public_fold.specs.Records.{Piece, file_piece, folder_piece, holder_piece, pieces_of, text_of}
use Rattle.public_fold.proofs.Accepting.{IsAccepted}
use Rattle.public_fold.proofs.Treeing.{IsTree}
use Rattle.journal_bytes.specs.Owning.{IsTreeOf}
use Rattle.journal_bytes.specs.Texting.{bytes_of_file, due_key, due_text, file_text, name_at, renamed_text}
use Rattle.journal_bytes.proofs.Found.{file_name_found, found_changed, found_new}
use Rattle.journal_bytes.proofs.Refused.{found_same}

only : (p q : Piece) → In p (q ∷ []) → p ≡ q
only p q i = ⊎_elim (λ (e : p ≡ q). e) (λ z. absurd z) i

abbrev folder_in : ℕ → Option FolderEntry → List Piece
folder_in f o = elim o [ None ↦ [] | Some e ↦ record { kind = 1; object = f; name = e.name; bytes = [] } ∷ [] ]

abbrev file_in : ℕ → Option FileEntry → List Piece
file_in x o = elim o [ None ↦ [] | Some e ↦ record { kind = 2; object = x; name = e.name; bytes = e.bytes } ∷ [] ]

abbrev holder_in : ℕ → Option HolderEntry → List Piece
holder_in h o = elim o [ None ↦ [] | Some e ↦ record { kind = 3; object = h; name = []; bytes = e.key } ∷ [] ]

holder_text : (s : Store) (key : List ℕ) (p : Piece) → AreCounted s → In p (holder_piece (with_new_holder s key) (s.holders_made + 1)) → text_of p ≡ key
unfolding holder_piece holder_entry with_new_holder text_of
holder_text s key p c i =
    let new : HolderEntry = record { number = s.holders_made + 1; key = key } in
    let found = found_new HolderEntry (λ e. e.number) s.holders_made s.holders new c.each_holder refl in
    ap text_of (only p _ (subst (λ o. In p (holder_in (s.holders_made + 1) o)) found i))

folder_text : (s : Store) (parent : ℕ) (name : List ℕ) (p : Piece) → AreCounted s → In p (folder_piece (with_new_folder s parent name) (s.folders_made + 1)) → text_of p ≡ name
unfolding folder_piece folder_entry with_new_folder text_of
folder_text s parent name p c i =
    let new : FolderEntry = record { id = s.folders_made + 1; parent = parent; name = name } in
    let found = found_new FolderEntry (λ e. e.id) s.folders_made s.folders new c.each_folder refl in
    ap text_of (only p _ (subst (λ o. In p (folder_in (s.folders_made + 1) o)) found i))

new_text : (s : Store) (folder : ℕ) (name bytes : List ℕ) (p : Piece) → AreCounted s → In p (file_piece (with_new_file s folder name bytes) (s.files_made + 1)) → text_of p ≡ file_text name bytes
unfolding file_piece file_entry with_new_file text_of
new_text s folder name bytes p c i =
    let new : FileEntry = record { id = s.files_made + 1; folder = folder; name = name; bytes = bytes } in
    let found = found_new FileEntry (λ e. e.id) s.files_made s.files new c.each_file refl in
    ap text_of (only p _ (subst (λ o. In p (file_in (s.files_made + 1) o)) found i))

renamed_folder : (s : Store) (f : ℕ) (name : List ℕ) (p : Piece) → In p (folder_piece (with_folder s f (λ e. record e { name = name })) f) → text_of p ≡ name
unfolding folder_piece folder_entry with_folder text_of
renamed_folder s f name p i =
    (elim (folder_entry s f) as (λ o. In p (folder_in f (option_map (λ (e : FolderEntry). record e { name = name }) o)) → text_of p ≡ name) [
      | None ↦ λ j. absurd j
      | Some e ↦ λ j. ap text_of (only p _ j)
    ]) (subst (λ o. In p (folder_in f o)) (found_changed FolderEntry (λ e. e.id) f (λ e. record e { name = name }) (λ e. refl) s.folders) i)

changed_file : (s : Store) (x : ℕ) (change : FileEntry → FileEntry) (p : Piece) → ((e : FileEntry) → (change e).id ≡ e.id) → In p (file_piece (with_file s x change) x)
    → (e : FileEntry) × (file_entry s x ≡ Some e) × (text_of p ≡ file_text (change e).name (change e).bytes)
unfolding file_piece file_entry with_file text_of
changed_file s x change p keeps i =
    (elim (file_entry s x) as (λ o. file_entry s x ≡ o → In p (file_in x (option_map change o)) → (e : FileEntry) × (file_entry s x ≡ Some e) × (text_of p ≡ file_text (change e).name (change e).bytes)) [
      | None ↦ λ q j. absurd j
      | Some e ↦ λ q j. (e, q, ap text_of (only p _ j))
    ]) refl (subst (λ o. In p (file_in x o)) (found_changed FileEntry (λ e. e.id) x change keeps s.files) i)

written_text : (s : Store) (path bytes : List ℕ) (o : Option Node) (p : Piece) → IsTree s.folders s.files → AreCounted s → node_at s path ≡ o → is_folder o ≡ false
    → In p (pieces_of (write_note s o (id_of (node_at s (parent_path path)))) (with_bytes_at s o path bytes)) → text_of p ≡ file_text (name_at path) bytes
unfolding write_note pieces_of with_bytes_at is_folder
written_text s path bytes None p ok c e file i = new_text s (id_of (node_at s (parent_path path))) (last_name (names_of path)) bytes p c i
written_text s path bytes (Some (Folder f)) p ok c e file i = absurd (false≢true (sym file))
written_text s path bytes (Some (File x)) p ok c e file i =
    let w = changed_file s x.0 (λ e. record e { bytes = bytes }) p (λ e. refl) i in
    w.2 ∙ ap (λ n. file_text n bytes) (file_name_found s path x w.0 ok e w.1)

renamed : (s : Store) (path name : List ℕ) (o : Option Node) (p : Piece) → is_none o ≡ false → In p (pieces_of (rename_note o) (with_name s o name)) → text_of p ≡ renamed_text s o name
unfolding rename_note pieces_of with_name renamed_text
renamed s path name None p some i = absurd (false≢true (sym some))
renamed s path name (Some (Folder f)) p some i = renamed_folder s f.0 name p i
renamed s path name (Some (File x)) p some i =
    let w = changed_file s x.0 (λ e. record e { name = name }) p (λ e. refl) i in
    w.2 ∙ ap (λ (o : Option FileEntry). file_text name (elim o as (λ z. List ℕ) [ None ↦ [] | Some e ↦ e.bytes ])) (sym w.1)

removed : (s after : Store) (o : Option Node) (p : Piece) → is_none o ≡ false → In p (pieces_of (remove_note o) after) → ⊥
unfolding remove_note pieces_of
removed s after None p some i = false≢true (sym some)
removed s after (Some (Folder f)) p some i = i
removed s after (Some (File x)) p some i = i

shifted : (s after : Store) (o : Option Node) (into : ℕ) (p : Piece) → is_none o ≡ false → In p (pieces_of (move_note o into) after) → ⊥
unfolding move_note pieces_of
shifted s after None into p some i = false≢true (sym some)
shifted s after (Some (Folder f)) into p some i = i
shifted s after (Some (File x)) into p some i = i

-- each piece that is sealed has the due text
pub sealed : (s : Store) (r : Request) (key check : List ℕ) → IsAccepted s r → AreCounted s → IsTree s.folders s.files
    → (p : Piece) → In p (pieces_of (note_of s r check) (effect s r key)) → text_of p ≡ due_text s r ++ due_key r key
unfolding note_of effect pieces_of due_text due_key finds_no_path writes_folder paths_of
sealed s AddHolder key check a c ok p i = holder_text s key p c i
sealed s (MakeFolder path) key check a c ok p i = folder_text s (id_of (node_at s (parent_path path))) (last_name (names_of path)) p c i ∙ sym (append-nil (name_at path))
sealed s (WriteFile path bytes) key check a c ok p i = written_text s path bytes (node_at s path) p ok c refl a.writes_file i ∙ sym (append-nil (file_text (name_at path) bytes))
sealed s (Remove path) key check a c ok p i = absurd (removed s (without_node s (node_at s path)) (node_at s path) p (or_parts (is_none (node_at s path)) false a.finds_path).0 i)
sealed s (Rename path name) key check a c ok p i =
    renamed s path name (node_at s path) p (or_parts (is_none (node_at s path)) false a.finds_path).0 i ∙ sym (append-nil (renamed_text s (node_at s path) name))
sealed s (Relocate path into) key check a c ok p i =
    absurd (shifted s (moved s (node_at s path) (id_of (node_at s into))) (node_at s path) (id_of (node_at s into)) p (or_parts (is_none (node_at s path)) (is_none (node_at s into) || false) a.finds_path).0 i)
sealed s (Grant h path) key check a c ok p i = absurd i
sealed s (Revoke h path) key check a c ok p i = absurd i

file_same : (t s : Store) (x : ℕ) → IsTreeOf t s → bytes_of_file t x ≡ bytes_of_file s x
unfolding file_entry
file_same t s x is = ap (λ files. elim (find (λ (e : FileEntry). e.id == x) files) as (λ o. List ℕ) [ None ↦ [] | Some e ↦ e.bytes ]) is.files

renamed_same : (t s : Store) (o : Option Node) (name : List ℕ) → IsTreeOf t s → renamed_text t o name ≡ renamed_text s o name
unfolding renamed_text
renamed_same t s None name is = refl
renamed_same t s (Some (Folder f)) name is = refl
renamed_same t s (Some (File x)) name is = ap (file_text name) (file_same t s x.0 is)

-- the tree alone tells the due text
pub due_same : (t s : Store) (r : Request) → IsTreeOf t s → due_text t r ≡ due_text s r
unfolding due_text
due_same t s AddHolder is = refl
due_same t s (MakeFolder path) is = refl
due_same t s (WriteFile path bytes) is = refl
due_same t s (Remove path) is = refl
due_same t s (Rename path name) is = renamed_same t s (node_at t path) name is ∙ ap (λ o. renamed_text s o name) (found_same t s path is)
due_same t s (Relocate path into) is = refl
due_same t s (Grant h path) is = refl
due_same t s (Revoke h path) is = refl
