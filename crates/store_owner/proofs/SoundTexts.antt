-- The text that a command seals has a length in its kind's range, in whatever store the command isn't refused.
use Rattle.std.proofs.Common.{◌≡◌, ℕ, ◌+◌, ◌≤◌, true, false, ◌||◌, List, [], ◌∷◌, ◌++◌, length, Option, Some, None, inl, inr, ⊎_elim, refl, sym, ap, ◌∙◌, subst, arith, append-nil, length-append}
use Rattle.std.specs.Prelude.{◌==◌, is_none}
use Rattle.std.proofs.lemmas.Bool.{false≢true, or_parts, ltb-false}
use Rattle.cry_base.specs.Limits.{most_file_bytes}
use Rattle.cry_base.specs.Naming.{is_name, parent_path}
use Rattle.cry_base.specs.Refusing.{causes, changes_root, finds_no_path, has_bad_name, id_of, is_folder, is_too_long, refusal_of, writes_folder}
use Rattle.cry_base.specs.Requests.{Request, paths_of}
use Rattle.cry_base.specs.Requests.Request.{AddHolder, MakeFolder, WriteFile, Remove, Rename, Relocate, Grant, Revoke}
use Rattle.cry_base.specs.Sets.{In}
use Rattle.cry_base.specs.Store.{Store, FolderEntry, FileEntry, HolderEntry, file_entry, folder_entry, holder_entry, node_at}
use Rattle.cry_base.specs.declared.commands.Refusal.TheVariants.{TooLong}
use Rattle.cry_base.specs.declared.roles.Node.{Node}
use Rattle.cry_base.specs.declared.roles.Node.TheVariants.{Folder, File}
use Rattle.cry_base.proofs.Finding.{find-found}
use Rattle.folder_nodes.proofs.Slashes.{path_parts}
use Rattle.move_plan.specs.Noting.{move_note, note_of, remove_note, rename_note, write_note}
use Rattle.record_format.specs.Spellable.{longest_text, shortest_text}
use Rattle.public_fold.specs.Records.{Piece, file_piece, folder_piece, holder_piece, pieces_of}
use Rattle.public_fold.proofs.Accepting.{accepted}
use Rattle.public_fold.proofs.Settling.{no_cause}
use Rattle.journal_bytes.specs.Texting.{bytes_of_file, due_key, due_text, file_text, name_at, renamed_text}
use Rattle.command_plan.proofs.Forms.{bytes_form, folder_form, last_named, name_form, name_size, short}

-- ---- the kinds of what is due

only_kind : (k : ℕ) (p q : Piece) → q.kind ≡ k → In p (q ∷ []) → p.kind ≡ k
only_kind k p q is i = ⊎_elim (λ (e : p ≡ q). ap (λ (x : Piece). x.kind) e ∙ is) (λ n. absurd n) i

folder_kind : (t : Store) (f : ℕ) (p : Piece) → In p (folder_piece t f) → p.kind ≡ 1
unfolding folder_piece
folder_kind t f p =
    elim (folder_entry t f) as (λ (o : Option FolderEntry). In p (elim o [ None ↦ [] | Some e ↦ record { kind = 1; object = f; name = e.name; bytes = [] } ∷ [] ]) → p.kind ≡ 1) [
      | None ↦ λ i. absurd i
      | Some e ↦ λ i. only_kind 1 p (record { kind = 1; object = f; name = e.name; bytes = [] }) refl i
    ]

file_kind : (t : Store) (x : ℕ) (p : Piece) → In p (file_piece t x) → p.kind ≡ 2
unfolding file_piece
file_kind t x p =
    elim (file_entry t x) as (λ (o : Option FileEntry). In p (elim o [ None ↦ [] | Some e ↦ record { kind = 2; object = x; name = e.name; bytes = e.bytes } ∷ [] ]) → p.kind ≡ 2) [
      | None ↦ λ i. absurd i
      | Some e ↦ λ i. only_kind 2 p (record { kind = 2; object = x; name = e.name; bytes = e.bytes }) refl i
    ]

holder_kind : (t : Store) (h : ℕ) (p : Piece) → In p (holder_piece t h) → p.kind ≡ 3
unfolding holder_piece
holder_kind t h p =
    elim (holder_entry t h) as (λ (o : Option HolderEntry). In p (elim o [ None ↦ [] | Some e ↦ record { kind = 3; object = h; name = []; bytes = e.key } ∷ [] ]) → p.kind ≡ 3) [
      | None ↦ λ i. absurd i
      | Some e ↦ λ i. only_kind 3 p (record { kind = 3; object = h; name = []; bytes = e.key }) refl i
    ]

-- ---- lengths

-- the text has a length in the kind's range
abbrev pub IsOf : ℕ → List ℕ → Type 0
IsOf kind text = (shortest_text kind ≤ length text) × (length text ≤ longest_text kind)

name_fits : (p : Piece) (name : List ℕ) → p.kind ≡ 1 → length name ≤ 64 → IsOf p.kind name
name_fits p name is low = subst (λ k. IsOf k name) (sym is) (omega arith, low)

file_fits : (p : Piece) (name bytes : List ℕ) → p.kind ≡ 2 → is_name name ≡ true → length bytes ≤ most_file_bytes → IsOf p.kind (file_text name bytes)
file_fits p name bytes is named low =
    let size = name_size name named in
    let from : 1 ≤ length name = size.0 in
    let to : length name ≤ 64 = size.1 in
    let long : length (name ++ bytes) ≡ length name + length bytes = length-append name bytes in
    subst (λ k. IsOf k (file_text name bytes)) (sym is) (omega (arith, from, long), omega (arith, to, low, long))

key_fits : (p : Piece) (key : List ℕ) → p.kind ≡ 3 → length key ≡ 32 → IsOf p.kind key
key_fits p key is size = subst (λ k. IsOf k key) (sym is) (omega (arith, size), omega (arith, size))

-- ---- each command

-- a new holder's key has 32 bytes
abbrev pub IsKeyFor : Request → List ℕ → Type 0
IsKeyFor AddHolder key = length key ≡ 32
IsKeyFor (MakeFolder path) key = Unit {0}
IsKeyFor (WriteFile path bytes) key = Unit {0}
IsKeyFor (Remove path) key = Unit {0}
IsKeyFor (Rename path name) key = Unit {0}
IsKeyFor (Relocate path into) key = Unit {0}
IsKeyFor (Grant h path) key = Unit {0}
IsKeyFor (Revoke h path) key = Unit {0}

-- no file of the store has more bytes than a file may have
abbrev pub IsSized : Store → Type 0
IsSized s = (x : ℕ) → length (bytes_of_file s x) ≤ most_file_bytes

written : (s t : Store) (path bytes : List ℕ) (o : Option Node) (f : ℕ) (p : Piece) → is_folder o ≡ false → is_name (name_at path) ≡ true → length bytes ≤ most_file_bytes
    → In p (pieces_of (write_note s o f) t) → IsOf p.kind (file_text (name_at path) bytes)
unfolding write_note pieces_of is_folder
written s t path bytes None f p e named low i = file_fits p (name_at path) bytes (file_kind t (s.files_made + 1) p i) named low
written s t path bytes (Some (Folder g)) f p e named low i = absurd (false≢true (sym e))
written s t path bytes (Some (File x)) f p e named low i = file_fits p (name_at path) bytes (file_kind t x.0 p i) named low

renamed : (s t : Store) (name : List ℕ) (o : Option Node) (p : Piece) → is_none o ≡ false → is_name name ≡ true → IsSized s → In p (pieces_of (rename_note o) t) → IsOf p.kind (renamed_text s o name)
unfolding rename_note pieces_of renamed_text
renamed s t name None p some named sized i = absurd (false≢true (sym some))
renamed s t name (Some (Folder f)) p some named sized i = name_fits p name (folder_kind t f.0 p i) (name_size name named).1
renamed s t name (Some (File x)) p some named sized i = file_fits p name (bytes_of_file s x.0) (file_kind t x.0 p i) named (sized x.0)

removed : (t : Store) (o : Option Node) (p : Piece) → is_none o ≡ false → In p (pieces_of (remove_note o) t) → ⊥
unfolding remove_note pieces_of
removed t None p some i = false≢true (sym some)
removed t (Some (Folder f)) p some i = i
removed t (Some (File x)) p some i = i

shifted : (t : Store) (o : Option Node) (into : ℕ) (p : Piece) → is_none o ≡ false → In p (pieces_of (move_note o into) t) → ⊥
unfolding move_note pieces_of
shifted t None into p some i = false≢true (sym some)
shifted t (Some (Folder f)) into p some i = i
shifted t (Some (File x)) into p some i = i

pub not_long : (s : Store) (r : Request) (n : ℕ) → refusal_of s r n ≡ None → is_too_long n r ≡ false
unfolding causes
not_long s r n e = no_cause s r n (is_too_long n r) TooLong e (inr (inr (inr (inr (inr (inr (inr (inr (inr (inr (inr (inr (inl refl)))))))))))))

pub few_bytes : (s : Store) (path bytes : List ℕ) (n : ℕ) → n ≤ most_file_bytes → refusal_of s (WriteFile path bytes) n ≡ None → length bytes ≤ most_file_bytes
unfolding is_too_long
few_bytes s path bytes n small none =
    let low : length bytes ≤ n = ltb-false n (length bytes) (unfold is_too_long in (not_long s (WriteFile path bytes) n none)) in omega arith

unended : (kind : ℕ) (text : List ℕ) → IsOf kind text → IsOf kind (text ++ [])
unended kind text fits = subst (IsOf kind) (sym (append-nil text)) fits

-- each piece that is due in the store before, with the kind that the store after tells
pub due_fits : (s t : Store) (r : Request) (key check : List ℕ) (n : ℕ) → n ≤ most_file_bytes → has_bad_name r ≡ false → refusal_of s r n ≡ None → IsSized s → IsKeyFor r key
    → (p : Piece) → In p (pieces_of (note_of s r check) t) → IsOf p.kind (due_text s r ++ due_key r key)
unfolding note_of pieces_of due_text due_key finds_no_path writes_folder paths_of changes_root
due_fits s t AddHolder key check n small good none sized keyed p i = key_fits p key (holder_kind t (s.holders_made + 1) p i) keyed
due_fits s t (MakeFolder path) key check n small good none sized keyed p i =
    unended p.kind (name_at path) (name_fits p (name_at path) (folder_kind t (s.folders_made + 1) p i) (short (name_at path) (last_named path (folder_form path good))))
due_fits s t (WriteFile path bytes) key check n small good none sized keyed p i =
    let a = accepted s (WriteFile path bytes) n none in
    unended p.kind (file_text (name_at path) bytes)
    (written s t path bytes (node_at s path) (id_of (node_at s (parent_path path))) p a.writes_file (path_parts path (bytes_form path bytes good) a.other_root).1 (few_bytes s path bytes n small none) i)
due_fits s t (Remove path) key check n small good none sized keyed p i =
    let a = accepted s (Remove path) n none in
    absurd (removed t (node_at s path) p (or_parts (is_none (node_at s path)) false a.finds_path).0 i)
due_fits s t (Rename path name) key check n small good none sized keyed p i =
    let a = accepted s (Rename path name) n none in
    unended p.kind (renamed_text s (node_at s path) name)
    (renamed s t name (node_at s path) p (or_parts (is_none (node_at s path)) false a.finds_path).0 (name_form path name good).1 sized i)
due_fits s t (Relocate path into) key check n small good none sized keyed p i =
    let a = accepted s (Relocate path into) n none in
    absurd (shifted t (node_at s path) (id_of (node_at s into)) p (or_parts (is_none (node_at s path)) (is_none (node_at s into) || false) a.finds_path).0 i)
due_fits s t (Grant h path) key check n small good none sized keyed p i = absurd i
due_fits s t (Revoke h path) key check n small good none sized keyed p i = absurd i

-- ---- the bytes of files

abbrev bytes_then : Option FileEntry → List ℕ
bytes_then o = elim o [ None ↦ [] | Some e ↦ e.bytes ]

pub files_sized : (s : Store) → ((x : FileEntry) → In x s.files → length x.bytes ≤ most_file_bytes) → IsSized s
unfolding file_entry
files_sized s sized x =
    (elim (file_entry s x) as (λ (o : Option FileEntry). file_entry s x ≡ o → length (bytes_then o) ≤ most_file_bytes) [
      | None ↦ λ is. omega arith
      | Some e ↦ λ is. sized e (find-found FileEntry (λ y. y.id == x) s.files e is).0
    ]) refl
