-- The texts that accepted commands seal have lengths in the ranges of their kinds.
use Rattle.std.proofs.Common.{◌≡◌, ◌≢◌, ⊎_elim, inl, inr, ℕ, ◌+◌, ◌≤◌, Bool, true, false, cond, not, ◌==◌, ◌&&◌, ◌||◌, List, [], ◌∷◌, ◌++◌, length, Option, Some, None, arith, refl, sym, ap, subst, ◌∙◌, append-nil, length-append}
use Rattle.std.specs.Prelude.{if◌then◌else◌, is_none, nat_le, nat_lt}
use Rattle.std.proofs.lemmas.Bool.{and_from, and_parts, false≢true, le-leb, leb-true, ltb-false, ne_eqb, not-false, or_parts}
use Rattle.cry_base.specs.Limits.{most_file_bytes}
use Rattle.cry_base.specs.Naming.{is_between, is_name, is_path, is_root_path, last_name, names_of, parent_path}
use Rattle.cry_base.specs.Refusing.{causes, changes_root, finds_no_path, has_bad_name, id_of, is_folder, is_too_long, refusal_of, writes_folder}
use Rattle.cry_base.specs.Requests.{Request, paths_of}
use Rattle.cry_base.specs.Requests.Request.{AddHolder, MakeFolder, WriteFile, Remove, Rename, Relocate, Grant, Revoke}
use Rattle.cry_base.specs.Sets.{In}
use Rattle.cry_base.specs.Stepping.{effect, with_bytes_at, with_file, with_folder, with_name, with_new_file, with_new_folder, with_new_holder, without_folder, without_file, without_grant, without_node, moved}
use Rattle.cry_base.specs.Store.{Store, FolderEntry, FileEntry, HolderEntry, file_entry, folder_entry, folder_node, holder_entry, node_at, root_store, no_store}
use Rattle.cry_base.specs.declared.commands.Refusal.TheVariants.{TooLong}
use Rattle.cry_base.specs.declared.ids.FileId.{FileId}
use Rattle.cry_base.specs.declared.roles.Node.{Node}
use Rattle.cry_base.specs.declared.roles.Node.TheVariants.{Folder, File}
use Rattle.cry_base.proofs.Finding.{find-found, node_found}
use Rattle.cry_base.proofs.Members.{In-append, In-filter, In-map}
use Rattle.move_plan.specs.Noting.{move_note, note_of, remove_note, rename_note, write_note}
use Rattle.record_format.specs.Noted.Note.{Root}
use Rattle.record_format.specs.Spellable.{longest_text, shortest_text}
use Rattle.public_fold.specs.Records.{Piece, file_piece, folder_piece, holder_piece, pieces_of, text_of}
use Rattle.public_fold.proofs.Accepting.{IsAccepted, accepted, other_than_root}
use Rattle.public_fold.proofs.Keeping.{HasTree, made_place, written_place}
use Rattle.public_fold.proofs.KeyMoves.{IsSound}
use Rattle.public_fold.proofs.Settling.{no_cause}
use Rattle.public_fold.proofs.Treeing.{file_own, node_stands}
use Rattle.journal_bytes.specs.Texting.{bytes_of_file, due_key, due_text, file_text, name_at, renamed_text}
use Rattle.journal_bytes.proofs.DueTexts.{sealed}
use Rattle.journal_bytes.proofs.Found.{file_name_found}

-- ---- lengths in range

-- a length in the range of the kind; the root's name is empty, and no other text is
abbrev pub is_length : ℕ → ℕ → ℕ → Bool
is_length kind object n =
    (nat_le (shortest_text kind) n && nat_le n (longest_text kind))
    && (if (kind == 1) && (object == 1) then n == 0 else nat_le 1 n)

abbrev pub IsSized : Piece → Type 0
IsSized p = is_length p.kind p.object (length (text_of p)) ≡ true

sized_as : (p : Piece) (kind object n : ℕ) → p.kind ≡ kind → p.object ≡ object → length (text_of p) ≡ n → is_length kind object n ≡ true → IsSized p
sized_as p kind object n k o l t = (λ i. is_length (k i) (o i) (l i)) ∙ t

folder_size : (f n : ℕ) → f ≢ 1 → 1 ≤ n → n ≤ 64 → is_length 1 f n ≡ true
folder_size f n other low high =
    and_from (nat_le 0 n && nat_le n 64) (if f == 1 then n == 0 else nat_le 1 n)
    (and_from (nat_le 0 n) (nat_le n 64) (le-leb 0 n (omega arith)) (le-leb n 64 high))
    (ap (λ b. if b then n == 0 else nat_le 1 n) (ne_eqb f 1 other) ∙ le-leb 1 n low)

file_size : (x n : ℕ) → 2 ≤ n → n ≤ 1048641 → is_length 2 x n ≡ true
file_size x n low high =
    and_from (nat_le 2 n && nat_le n 1048641) (nat_le 1 n)
    (and_from (nat_le 2 n) (nat_le n 1048641) (le-leb 2 n low) (le-leb n 1048641 high))
    (le-leb 1 n (omega arith))

holder_size : (h n : ℕ) → n ≡ 32 → is_length 3 h n ≡ true
holder_size h n is = ap (is_length 3 h) is

-- a name has 1 to 64 bytes
name_size : (name : List ℕ) → is_name name ≡ true → (1 ≤ length name) × (length name ≤ 64)
unfolding is_name is_between
name_size name t =
    let three = and_parts _ _ t in
    let two = and_parts _ _ three.0 in
    let one = and_parts _ _ two.0 in
    let ends = and_parts (nat_le 1 (length name)) (nat_le (length name) 64) one.0 in
    (leb-true 1 (length name) ends.0, leb-true (length name) 64 ends.1)

-- ---- which pieces there are

only : (p q : Piece) → In p (q ∷ []) → p ≡ q
only p q i = ⊎_elim (λ (e : p ≡ q). e) (λ z. absurd z) i

abbrev IsOf : Piece → ℕ → ℕ → Type 0
IsOf p kind object = (p.kind ≡ kind) × (p.object ≡ object)

same_of : (p q : Piece) → p ≡ q → IsOf p q.kind q.object
same_of p q e = (ap (λ (z : Piece). z.kind) e, ap (λ (z : Piece). z.object) e)

pub folder_of : (t : Store) (f : ℕ) (p : Piece) → In p (folder_piece t f) → IsOf p 1 f
unfolding folder_piece
folder_of t f p i =
    (elim (folder_entry t f) as (λ (o : Option FolderEntry). In p (elim o as (λ z. List Piece) [ None ↦ [] | Some e ↦ record { kind = 1; object = f; name = e.name; bytes = [] } ∷ [] ]) → IsOf p 1 f) [
      | None ↦ λ j. absurd j
      | Some e ↦ λ j. same_of p (record { kind = 1; object = f; name = e.name; bytes = [] }) (only p _ j)
    ]) i

pub file_of : (t : Store) (x : ℕ) (p : Piece) → In p (file_piece t x) → IsOf p 2 x
unfolding file_piece
file_of t x p i =
    (elim (file_entry t x) as (λ (o : Option FileEntry). In p (elim o as (λ z. List Piece) [ None ↦ [] | Some e ↦ record { kind = 2; object = x; name = e.name; bytes = e.bytes } ∷ [] ]) → IsOf p 2 x) [
      | None ↦ λ j. absurd j
      | Some e ↦ λ j. same_of p (record { kind = 2; object = x; name = e.name; bytes = e.bytes }) (only p _ j)
    ]) i

pub holder_of : (t : Store) (h : ℕ) (p : Piece) → In p (holder_piece t h) → IsOf p 3 h
unfolding holder_piece
holder_of t h p i =
    (elim (holder_entry t h) as (λ (o : Option HolderEntry). In p (elim o as (λ z. List Piece) [ None ↦ [] | Some e ↦ record { kind = 3; object = h; name = []; bytes = e.key } ∷ [] ]) → IsOf p 3 h) [
      | None ↦ λ j. absurd j
      | Some e ↦ λ j. same_of p (record { kind = 3; object = h; name = []; bytes = e.key }) (only p _ j)
    ]) i

-- ---- no file has more bytes than a file may have

abbrev pub AreShort : Store → Type 0
AreShort s = (e : FileEntry) → In e s.files → length e.bytes ≤ most_file_bytes

more_short : (s : Store) (folder : ℕ) (name bytes : List ℕ) → length bytes ≤ most_file_bytes → AreShort s → AreShort (with_new_file s folder name bytes)
unfolding with_new_file
more_short s folder name bytes low short e i =
    let new : FileEntry = record { id = s.files_made + 1; folder = folder; name = name; bytes = bytes } in ⊎_elim
    (λ u. short e u)
    (λ v. ⊎_elim (λ (q : e ≡ new). let same : length e.bytes ≡ length bytes = ap (λ (z : FileEntry). length z.bytes) q in omega (arith, same, low)) (λ n. absurd n) v)
    ((In-append FileEntry e s.files (new ∷ [])).0 i)

changed_short : (s : Store) (x : ℕ) (change : FileEntry → FileEntry) → ((e : FileEntry) → length e.bytes ≤ most_file_bytes → length (change e).bytes ≤ most_file_bytes) → AreShort s → AreShort (with_file s x change)
unfolding with_file
changed_short s x change keeps short e i =
    let w = (In-map FileEntry FileEntry (λ e. cond (e.id == x) (change e) e) e s.files).0 i in
    subst (λ (z : FileEntry). length z.bytes ≤ most_file_bytes) (sym w.2)
    (elim (w.0.id == x) as (λ b. length (cond b (change w.0) w.0).bytes ≤ most_file_bytes) [ true ↦ keeps w.0 (short w.0 w.1) | false ↦ short w.0 w.1 ])

less_short : (s : Store) (x : ℕ) → AreShort s → AreShort (without_file s x)
unfolding without_file
less_short s x short e i = short e (In-filter FileEntry (λ e. not (e.id == x)) e s.files i).0

not_long : (s : Store) (path bytes : List ℕ) → refusal_of s (WriteFile path bytes) most_file_bytes ≡ None → length bytes ≤ most_file_bytes
unfolding causes is_too_long
not_long s path bytes none =
    ltb-false most_file_bytes (length bytes)
    (no_cause s (WriteFile path bytes) most_file_bytes (nat_lt most_file_bytes (length bytes)) TooLong none (inr (inr (inr (inr (inr (inr (inr (inr (inr (inr (inr (inr (inl refl))))))))))))))

bytes_short : (s : Store) (o : Option Node) (path bytes : List ℕ) → length bytes ≤ most_file_bytes → AreShort s → AreShort (with_bytes_at s o path bytes)
unfolding with_bytes_at
bytes_short s None path bytes low short = more_short s (id_of (node_at s (parent_path path))) (last_name (names_of path)) bytes low short
bytes_short s (Some (Folder f)) path bytes low short = short
bytes_short s (Some (File x)) path bytes low short = changed_short s x.0 (λ e. record e { bytes = bytes }) (λ e h. low) short

removed_short : (s : Store) (o : Option Node) → AreShort s → AreShort (without_node s o)
unfolding without_node without_folder
removed_short s None short = short
removed_short s (Some (Folder f)) short = short
removed_short s (Some (File x)) short = less_short s x.0 short

named_short : (s : Store) (o : Option Node) (name : List ℕ) → AreShort s → AreShort (with_name s o name)
unfolding with_name with_folder
named_short s None name short = short
named_short s (Some (Folder f)) name short = short
named_short s (Some (File x)) name short = changed_short s x.0 (λ e. record e { name = name }) (λ e h. h) short

moved_short : (s : Store) (o : Option Node) (into : ℕ) → AreShort s → AreShort (moved s o into)
unfolding moved with_folder
moved_short s None into short = short
moved_short s (Some (Folder f)) into short = short
moved_short s (Some (File x)) into short = changed_short s x.0 (λ e. record e { folder = into }) (λ e h. h) short

pub effect_short : (s : Store) (r : Request) (key : List ℕ) → refusal_of s r most_file_bytes ≡ None → AreShort s → AreShort (effect s r key)
unfolding effect with_new_holder with_new_folder without_grant
effect_short s AddHolder key none short = short
effect_short s (MakeFolder path) key none short = short
effect_short s (WriteFile path bytes) key none short = bytes_short s (node_at s path) path bytes (not_long s path bytes none) short
effect_short s (Remove path) key none short = removed_short s (node_at s path) short
effect_short s (Rename path name) key none short = named_short s (node_at s path) name short
effect_short s (Relocate path into) key none short = moved_short s (node_at s path) (id_of (node_at s into)) short
effect_short s (Grant h path) key none short = short
effect_short s (Revoke h path) key none short = short

pub root_short : AreShort root_store
unfolding root_store no_store
root_short e i = absurd i

-- ---- each text has its size

found_short : (s : Store) (x : ℕ) → AreShort s → length (bytes_of_file s x) ≤ most_file_bytes
unfolding file_entry
found_short s x short =
    (elim (file_entry s x) as (λ (o : Option FileEntry). file_entry s x ≡ o → length (elim o as (λ z. List ℕ) [ None ↦ [] | Some e ↦ e.bytes ]) ≤ most_file_bytes) [
      | None ↦ λ q. omega arith
      | Some e ↦ λ q. short e (find-found FileEntry (λ y. y.id == x) s.files e q).0
    ]) refl

text_long : (name bytes : List ℕ) → length (file_text name bytes) ≡ 1 + length name + length bytes
text_long name bytes = let both = length-append name bytes in omega (arith, both)

-- a file's text
text_sized : (p : Piece) (x : ℕ) (name bytes : List ℕ) → IsOf p 2 x → text_of p ≡ file_text name bytes → is_name name ≡ true → length bytes ≤ most_file_bytes → IsSized p
text_sized p x name bytes of is named low =
    let n = name_size name named in
    let first = n.0 in let last = n.1 in
    let long = text_long name bytes in
    sized_as p 2 x (length (file_text name bytes)) of.0 of.1 (ap length is) (file_size x (length (file_text name bytes)) (omega (arith, long, first)) (omega (arith, long, last, low)))

-- a folder's name
named_sized : (p : Piece) (f : ℕ) (name : List ℕ) → IsOf p 1 f → text_of p ≡ name → is_name name ≡ true → f ≢ 1 → IsSized p
named_sized p f name of is named other = let n = name_size name named in sized_as p 1 f (length name) of.0 of.1 (ap length is) (folder_size f (length name) other n.0 n.1)

made_other : (s : Store) → IsSound s → s.folders_made + 1 ≢ 1
made_other s sound e =
    let root = sound.tree.root_stands in
    let low : root.0.id ≤ s.folders_made = sound.rooted.counted.each_folder root.0 root.1 in
    let one : root.0.id ≡ 1 = root.2 in
    absurd (omega (arith, low, one, e))

found_named : (s : Store) (path : List ℕ) (x : FileId) → node_at s path ≡ Some (File x) → HasTree s → is_name (name_at path) ≡ true
found_named s path x e tree =
    let w = node_stands s (File x) (node_found s path (File x) e).0 in
    let there = file_own s w.0 x.0 tree w.1 w.2 in
    ap is_name (sym (file_name_found s path x w.0 tree e there)) ∙ tree.file_name w.0 w.1

written_sized : (s : Store) (path bytes : List ℕ) (o : Option Node) (p : Piece) → IsSound s → IsAccepted s (WriteFile path bytes) → length bytes ≤ most_file_bytes → node_at s path ≡ o → is_folder o ≡ false
    → In p (pieces_of (write_note s o (id_of (node_at s (parent_path path)))) (with_bytes_at s o path bytes)) → text_of p ≡ file_text (name_at path) bytes → IsSized p
unfolding write_note pieces_of with_bytes_at is_folder
written_sized s path bytes None p sound a low e file i is =
    text_sized p (s.files_made + 1) (name_at path) bytes (file_of (with_new_file s (id_of (node_at s (parent_path path))) (last_name (names_of path)) bytes) (s.files_made + 1) p i) is (written_place s path bytes sound.tree a e).named low
written_sized s path bytes (Some (Folder f)) p sound a low e file i is = absurd (false≢true (sym file))
written_sized s path bytes (Some (File x)) p sound a low e file i is =
    text_sized p x.0 (name_at path) bytes (file_of (with_file s x.0 (λ e. record e { bytes = bytes })) x.0 p i) is (found_named s path x e sound.tree) low

renamed_sized : (s : Store) (path name : List ℕ) (o : Option Node) (p : Piece) → HasTree s → AreShort s → node_at s path ≡ o → is_none o ≡ false → is_root_path path ≡ false → is_name name ≡ true
    → In p (pieces_of (rename_note o) (with_name s o name)) → text_of p ≡ renamed_text s o name → IsSized p
unfolding rename_note pieces_of with_name renamed_text
renamed_sized s path name None p tree short e some other named i is = absurd (false≢true (sym some))
renamed_sized s path name (Some (Folder f)) p tree short e some other named i is =
    named_sized p f.0 name (folder_of (with_folder s f.0 (λ e. record e { name = name })) f.0 p i) is named (other_than_root s path f.0 tree (unfold folder_node in e) other)
renamed_sized s path name (Some (File x)) p tree short e some other named i is =
    text_sized p x.0 name (bytes_of_file s x.0) (file_of (with_file s x.0 (λ e. record e { name = name })) x.0 p i) is named (found_short s x.0 short)

none_removed : (s after : Store) (o : Option Node) (p : Piece) → is_none o ≡ false → In p (pieces_of (remove_note o) after) → ⊥
unfolding remove_note pieces_of
none_removed s after None p some i = false≢true (sym some)
none_removed s after (Some (Folder f)) p some i = i
none_removed s after (Some (File x)) p some i = i

none_moved : (s after : Store) (o : Option Node) (into : ℕ) (p : Piece) → is_none o ≡ false → In p (pieces_of (move_note o into) after) → ⊥
unfolding move_note pieces_of
none_moved s after None into p some i = false≢true (sym some)
none_moved s after (Some (Folder f)) into p some i = i
none_moved s after (Some (File x)) into p some i = i

-- a new holder's key has 32 bytes
abbrev pub HasKeySize : Request → List ℕ → Type 0
HasKeySize AddHolder key = length key ≡ 32
HasKeySize (MakeFolder path) key = Unit {0}
HasKeySize (WriteFile path bytes) key = Unit {0}
HasKeySize (Remove path) key = Unit {0}
HasKeySize (Rename path name) key = Unit {0}
HasKeySize (Relocate path into) key = Unit {0}
HasKeySize (Grant h path) key = Unit {0}
HasKeySize (Revoke h path) key = Unit {0}

sized : (s : Store) (r : Request) (key check : List ℕ) → IsSound s → AreShort s → refusal_of s r most_file_bytes ≡ None → IsAccepted s r → HasKeySize r key
    → (p : Piece) → In p (pieces_of (note_of s r check) (effect s r key)) → text_of p ≡ due_text s r ++ due_key r key → IsSized p
unfolding note_of effect pieces_of due_text due_key finds_no_path writes_folder paths_of has_bad_name changes_root
sized s AddHolder key check sound short none a size p i is =
    let of = holder_of (with_new_holder s key) (s.holders_made + 1) p i in
    sized_as p 3 (s.holders_made + 1) (length key) of.0 of.1 (ap length is) (holder_size (s.holders_made + 1) (length key) size)
sized s (MakeFolder path) key check sound short none a size p i is =
    let place = made_place s path sound.tree a in
    named_sized p (s.folders_made + 1) (name_at path) (folder_of (with_new_folder s (id_of (node_at s (parent_path path))) (last_name (names_of path))) (s.folders_made + 1) p i)
    (is ∙ append-nil (name_at path)) place.named (made_other s sound)
sized s (WriteFile path bytes) key check sound short none a size p i is =
    written_sized s path bytes (node_at s path) p sound a (not_long s path bytes none) refl a.writes_file i (is ∙ append-nil (file_text (name_at path) bytes))
sized s (Remove path) key check sound short none a size p i is =
    absurd (none_removed s (without_node s (node_at s path)) (node_at s path) p (or_parts (is_none (node_at s path)) false a.finds_path).0 i)
sized s (Rename path name) key check sound short none a size p i is =
    let both = and_parts (is_path path) (is_name name) (not-false (is_path path && is_name name) a.good_name) in
    renamed_sized s path name (node_at s path) p sound.tree short refl (or_parts (is_none (node_at s path)) false a.finds_path).0 a.other_root both.1 i
    (is ∙ append-nil (renamed_text s (node_at s path) name))
sized s (Relocate path into) key check sound short none a size p i is =
    absurd (none_moved s (moved s (node_at s path) (id_of (node_at s into))) (node_at s path) (id_of (node_at s into)) p (or_parts (is_none (node_at s path)) (is_none (node_at s into) || false) a.finds_path).0 i)
sized s (Grant h path) key check sound short none a size p i is = absurd i
sized s (Revoke h path) key check sound short none a size p i is = absurd i

-- each text that an accepted command seals has a length of its kind
pub command_sized : (s : Store) (r : Request) (key check : List ℕ) → IsSound s → AreShort s → refusal_of s r most_file_bytes ≡ None → HasKeySize r key
    → (p : Piece) → In p (pieces_of (note_of s r check) (effect s r key)) → IsSized p
command_sized s r key check sound short none size p i =
    let a = accepted s r most_file_bytes none in
    sized s r key check sound short none a size p i (sealed s r key check a sound.rooted.counted sound.tree p i)

-- the root's name is empty
pub root_sized : (p : Piece) → In p (pieces_of Root root_store) → IsSized p
unfolding pieces_of folder_piece folder_entry root_store no_store text_of
root_sized p i = sized_as p 1 1 0 (ap (λ (z : Piece). z.kind) (only p _ i)) (ap (λ (z : Piece). z.object) (only p _ i)) (ap (λ (z : Piece). length (text_of z)) (only p _ i)) refl
