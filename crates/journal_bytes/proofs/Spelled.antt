-- Each payload of a valid journal has a spelling.
use Rattle.std.proofs.Common.{◌≡◌, ⊎_elim, inl, inr, ℕ, ◌+◌, ◌≤◌, ◌<◌, Bool, true, not, ◌==◌, ◌&&◌, List, [], ◌∷◌, ◌++◌, length, All, Option, Some, None, Ok, arith, refl, ap, subst, false}
use Rattle.std.specs.Prelude.{◌-◌, ◌^◌, find, is_some, nat_le, nat_lt}
use Rattle.std.proofs.lemmas.Bool.{and_parts, eqb-true, false≢true, leb-true, ltb-true}
use Rattle.std.proofs.lemmas.List.{length-map}
use Rattle.std.proofs.lemmas.List.Elements.{All-cons, All-map, All-nil}
use Rattle.std.proofs.lemmas.List.Sums.{sum_by-cons}
use Rattle.chacha_seal.specs.Keys.{KeyParts}
use Rattle.chacha_seal.specs.Sealing.{check_of}
use Rattle.chacha_seal.proofs.SealingLemmas.{length-check_of}
use Rattle.commit_journal.specs.Laws.{AreBodies}
use Rattle.commit_journal.specs.Log.{log_verdict}
use Rattle.commit_journal.specs.Logs.{holder_log, writer_log}
use Rattle.commit_journal.specs.Placed.{PlainBody}
use Rattle.cry_base.specs.Layout.{batch_len}
use Rattle.cry_base.specs.Limits.{most_file_bytes, most_store_bytes}
use Rattle.cry_base.specs.Refusing.{id_of, refusal_in}
use Rattle.cry_base.proofs.Versions.{accepted_in}
use Rattle.cry_base.specs.Clearances.{clear_base}
use Rattle.cry_base.specs.Requests.{Request}
use Rattle.cry_base.specs.Requests.Request.{AddHolder, MakeFolder, WriteFile, Remove, Rename, Relocate, Grant, Revoke}
use Rattle.cry_base.specs.Sets.{In}
use Rattle.cry_base.specs.Stepping.{effect, moved, with_bytes_at, with_file, with_folder, with_name, with_new_file, with_new_folder, with_new_holder, without_file, without_folder, without_grant, without_node}
use Rattle.cry_base.specs.Store.{Store, FolderEntry, FileEntry, HolderEntry, GrantEntry, file_entry, folder_entry, has_grant, holder_entry, no_store, node_at, root_store}
use Rattle.cry_base.specs.declared.roles.Edge.{Edge}
use Rattle.cry_base.specs.declared.roles.Node.{Node}
use Rattle.cry_base.specs.declared.roles.Node.TheVariants as node
use Rattle.cry_base.specs.declared.roles.Role.{Role}
use Rattle.cry_base.specs.declared.roles.Role.TheVariants.{Owner, Holder, Clear, Sub, Back, Files, Data, File}
use Rattle.cry_base.proofs.Finding.{find-found}
use Rattle.cry_base.proofs.Members.{In-any}
use Rattle.key_links.proofs.SealedLemmas.{content_spellable, link_spellable}
use Rattle.kind_table.specs.declared.eleven.TheConstants.{ELEVEN}
use Rattle.kind_table.specs.declared.table.Row.{Row}
use Rattle.move_plan.specs.Change.{Change, change_of}
use Rattle.move_plan.specs.Fitting.{file_stands, fits, folder_stands, has_depth_left, is_next_below, is_other_folder, may_be_granted, may_go_into, row_fits}
use Rattle.move_plan.specs.Noting.{note_of}
use Rattle.record_format.specs.Noted.{Note}
use Rattle.record_format.specs.Noted.Note.{Root, NewHolder, NewFolder, NewFile, Rewrite, NameFile, NameFolder, DropFile, DropFolder, ShiftFile, ShiftFolder, Give, Take, StrictRoot, Upgrade}
use Rattle.record_format.specs.Spellable.{IsContent, IsLink, IsNote, IsSpellable, longest_text, shortest_text}
use Rattle.record_format.specs.declared.note.Note.{Note as Declared}
use Rattle.role_graph.specs.Edges.{edges}
use Rattle.role_graph.specs.RightsByReach.{HasClearNumber, HasFolder, IsClearance, MayBeGranted}
use Rattle.role_graph.specs.Roles.{clear_of, role_id}
use Rattle.role_graph.specs.Tabled.{row_of}
use Rattle.public_fold.specs.Counted.{AreCounted}
use Rattle.public_fold.specs.Journal.{Entry, Journal, Stand, nothing, first_key, note_step, entry_step, entry_store, stand_then, root_note}
use Rattle.public_fold.specs.Journal.Entry.{Session, Made, Did, Upgraded}
use Rattle.public_fold.specs.Keyed.{HasRole, KeysHold}
use Rattle.public_fold.specs.KeyStep.{KeyState, Stepped, given, key_step, keys_then, newest, next_epoch, link_of, links_from, next_serial, no_keys, numbered, published, published_edges, renewed, step_with, is_strict}
use Rattle.public_fold.specs.Lengths.{end_of, entry_payload, payloads_from}
use Rattle.public_fold.specs.Records.{Content, Link, Piece, file_piece, folder_piece, holder_piece, pieces_of, sealing_role, text_of}
use Rattle.public_fold.specs.StandFits.{all_fit, entry_fits, has_count, note_fits}
use Rattle.public_fold.specs.Valid.{BeginsWell, FollowOn, IsValid}
use Rattle.public_fold.proofs.AllFit.{journal_all_fit}
use Rattle.public_fold.proofs.KeepingKeys.{IsMove, keys_after}
use Rattle.public_fold.proofs.KeyMoves.{IsSound, command_moves, effect_sound, epoch_holds, nothing_holds, root_moves, root_sound, upgrade_moves}
use Rattle.public_fold.proofs.NotesFit as notes
use Rattle.public_fold.proofs.Numbers.{HasNumbers}
use Rattle.public_fold.proofs.Rooting.{granted_there}
use Rattle.public_fold.proofs.Serials.{contents_between, keys_between, links_between, numbered-length}
use Rattle.public_fold.proofs.SerialsKept.{spent}
use Rattle.journal_bytes.specs.Bytes as bytes
use Rattle.journal_bytes.specs.Bytes.{bodies_from, bodies_of, content_record, entry_body, link_record, step_payload}
use Rattle.journal_bytes.specs.Folds.{log_of}
use Rattle.journal_bytes.specs.Journals.{IsHonestFor, StandsForJournal, published_journal}
use Rattle.journal_bytes.specs.Keys.{AreWhole, bytes_in, drawn_by, owner_parts}
use Rattle.journal_bytes.specs.Notes.{declared_note}
use Rattle.journal_bytes.specs.Sealing.{EachOnce, IsSealable}
use Rattle.journal_bytes.proofs.Ascending.{session_rises, step_rises}
use Rattle.journal_bytes.proofs.Counted as having
use Rattle.journal_bytes.proofs.Counted.{HaveKeys, IsFed, found, have_at_first, have_then}
use Rattle.journal_bytes.proofs.Followed.{command_contents, key_sized, made_contents, upgraded_contents}
use Rattle.journal_bytes.proofs.Followings.{holder_reads, writer_reads}
use Rattle.journal_bytes.proofs.Published.{journal_read}
use Rattle.journal_bytes.proofs.RootNotes.{of_root}
use Rattle.journal_bytes.proofs.Sealable.{ArePieces, content_from, fresh_once, pieces_due, step_sealable}
use Rattle.journal_bytes.proofs.TextSizes.{AreShort, IsSized, effect_short, root_short}
use Rattle.journal_bytes.proofs.Walked.{In-list_all, newest_of, newest_serial}
use Rattle.journal_bytes.proofs.Weighed.{AreFed, HasCheck, begins_fed, note_of_weighs}

-- ---- numbers

-- how many folders, files and holders were ever made
abbrev made : Store → ℕ
made s = s.folders_made + s.files_made + s.holders_made

bytes_made : (s : Store) (o : Option Node) (path written : List ℕ) → made (with_bytes_at s o path written) ≤ made s + 1
unfolding with_bytes_at with_new_file with_file
bytes_made s None path written = omega arith
bytes_made s (Some (node.Folder f)) path written = omega arith
bytes_made s (Some (node.File x)) path written = omega arith

less_made : (s : Store) (o : Option Node) → made (without_node s o) ≤ made s + 1
unfolding without_node without_folder without_file
less_made s None = omega arith
less_made s (Some (node.Folder f)) = omega arith
less_made s (Some (node.File x)) = omega arith

named_made : (s : Store) (o : Option Node) (name : List ℕ) → made (with_name s o name) ≤ made s + 1
unfolding with_name with_folder with_file
named_made s None name = omega arith
named_made s (Some (node.Folder f)) name = omega arith
named_made s (Some (node.File x)) name = omega arith

moved_made : (s : Store) (o : Option Node) (into : ℕ) → made (moved s o into) ≤ made s + 1
unfolding moved with_folder with_file
moved_made s None into = omega arith
moved_made s (Some (node.Folder f)) into = omega arith
moved_made s (Some (node.File x)) into = omega arith

effect_made : (s : Store) (r : Request) (key : List ℕ) → made (effect s r key) ≤ made s + 1
unfolding effect with_new_holder with_new_folder without_grant
effect_made s AddHolder key = omega arith
effect_made s (MakeFolder path) key = omega arith
effect_made s (WriteFile path written) key = bytes_made s (node_at s path) path written
effect_made s (Remove path) key = less_made s (node_at s path)
effect_made s (Rename path name) key = named_made s (node_at s path) name
effect_made s (Relocate path into) key = moved_made s (node_at s path) (id_of (node_at s into))
effect_made s (Grant h path) key = omega arith
effect_made s (Revoke h path) key = omega arith

folder_small : (s : Store) (f : ℕ) → AreCounted s → HasFolder s f → f ≤ made s
folder_small s f c w = let low = c.each_folder w.0 w.1 in let same = w.2 in omega (arith, low, same)

clear_small : (s : Store) (f : ℕ) → AreCounted s → HasRole s (clear_of f) → f ≤ clear_base + made s
unfolding clear_of
clear_small s f c w = ⊎_elim
    (λ (folder : HasFolder s f). let low = folder_small s f c folder in omega (arith, low))
    (λ (file : IsClearance s f). let low = c.each_file file.0.0 file.0.1 in let same = file.0.2 in omega (arith, low, same))
    w

role_small : (s : Store) (r : Role) → AreCounted s → HasRole s r → role_id r ≤ clear_base + made s
unfolding role_id clear_of
role_small s Owner c w = omega arith
role_small s (Holder h) c w = let low = c.each_holder w.0 w.1 in let same = w.2 in omega (arith, low, same)
role_small s (Clear f) c w = clear_small s f.0 c w
role_small s (Sub f) c w = let low = folder_small s f.0 c w in omega (arith, low)
role_small s (Back f) c w = let low = folder_small s f.0 c w in omega (arith, low)
role_small s (Files f) c w = let low = folder_small s f.0 c w in omega (arith, low)
role_small s (Data f) c w = let low = folder_small s f.0 c w in omega (arith, low)
role_small s (File x) c w = let low = c.each_file w.0 w.1 in let same = w.2 in omega (arith, low, same)

-- ---- notes

some_found : (X : Type 0) (p : X → Bool) (xs : List X) → is_some (find p xs) ≡ true → (x : X) × In x xs × (p x ≡ true)
some_found X p xs t =
    (elim (find p xs) as (λ o. find p xs ≡ o → is_some o ≡ true → (x : X) × In x xs × (p x ≡ true)) [
      | None ↦ λ q f. absurd (false≢true f)
      | Some x ↦ λ q f. let w = find-found X p xs x q in (x, w.0, w.1)
    ]) refl t

folder_there : (s : Store) (f : ℕ) → AreCounted s → folder_stands s f ≡ true → f ≤ made s
unfolding folder_stands folder_entry
folder_there s f c t = let w = some_found FolderEntry (λ e. e.id == f) s.folders t in folder_small s f c (w.0, w.1, eqb-true w.0.id f w.2)

file_there : (s : Store) (x : ℕ) → AreCounted s → file_stands s x ≡ true → x ≤ made s
unfolding file_stands file_entry
file_there s x c t =
    let w = some_found FileEntry (λ e. e.id == x) s.files t in
    let low = c.each_file w.0 w.1 in let same = eqb-true w.0.id x w.2 in omega (arith, low, same)

holder_there : (s : Store) (h : ℕ) → AreCounted s → is_some (holder_entry s h) ≡ true → h ≤ made s
unfolding holder_entry
holder_there s h c t =
    let w = some_found HolderEntry (λ e. e.number == h) s.holders t in
    let low = c.each_holder w.0 w.1 in let same = eqb-true w.0.number h w.2 in omega (arith, low, same)

left_there : (s : Store) (f : ℕ) → AreCounted s → has_depth_left s f ≡ true → f ≤ made s
unfolding has_depth_left
left_there s f c t = folder_there s f c (and_parts (folder_stands s f) _ t).0

other_there : (s : Store) (f : ℕ) → AreCounted s → is_other_folder s f ≡ true → f ≤ made s
unfolding is_other_folder
other_there s f c t = folder_there s f c (and_parts (folder_stands s f) (not (f == 1)) t).0

-- what may be granted has a number of a folder, or a file's clearance number
granted_small : (s : Store) (f : ℕ) → AreCounted s → MayBeGranted s f → f ≤ clear_base + made s
granted_small s f c w = ⊎_elim
    (λ (folder : HasFolder s f). let low = folder_small s f c folder in omega (arith, low))
    (λ (file : HasClearNumber s f). let low = c.each_file file.0 file.1 in let same = file.2 in omega (arith, low, same))
    w

grant_there : (s : Store) (h f : ℕ) → IsSound s → has_grant s h f ≡ true → (h ≤ made s) × (f ≤ clear_base + made s)
unfolding has_grant
grant_there s h f sound t =
    let w = (In-any GrantEntry (λ g. g.holder == h && g.folder == f) (λ g. (g.holder == h && g.folder == f) ≡ true) (λ g. (λ u. u, λ u. u)) s.grants).0 t in
    let both = and_parts (w.0.holder == h) (w.0.folder == f) w.2 in
    let holder = eqb-true w.0.holder h both.0 in
    let folder = eqb-true w.0.folder f both.1 in
    let own = sound.rooted.held w.0 w.1 in
    let low = sound.rooted.counted.each_holder own.0 own.1 in
    let same = own.2 in
    (omega (arith, low, same, holder), granted_small s f sound.rooted.counted (subst (MayBeGranted s) folder (sound.rooted.granted_stands w.0 w.1)))

into_there : (s : Store) (g q : ℕ) → AreCounted s → may_go_into s g q ≡ true → (g ≤ made s) × (q ≤ made s)
unfolding may_go_into
into_there s g q c t =
    let four = and_parts _ _ t in
    let three = and_parts _ _ four.0 in
    let two = and_parts _ _ three.0 in
    let one = and_parts (is_other_folder s g) (folder_stands s q) two.0 in
    (other_there s g c one.0, folder_there s q c one.1)

note_small : (strict : Bool) (s : Store) (note : Note) → IsSound s → row_fits strict s note ≡ true → made s + 1 < clear_base → HasCheck note → IsNote (declared_note note)
unfolding row_fits is_next_below declared_note
note_small strict s Root sound t small check = tt
note_small strict s (NewHolder h c) sound t small check = let new = eqb-true h (s.holders_made + 1) t in (omega (arith, new, small), check)
note_small strict s (NewFolder f p) sound t small check =
    let both = and_parts (is_next_below f s.folders_made) (has_depth_left s p) t in
    let new = eqb-true f (s.folders_made + 1) (and_parts (f == s.folders_made + 1) (nat_lt f clear_base) both.0).0 in
    let low = left_there s p sound.rooted.counted both.1 in (omega (arith, new, small), omega (arith, low, small))
note_small strict s (NewFile x f) sound t small check =
    let both = and_parts (is_next_below x s.files_made) (has_depth_left s f) t in
    let new = eqb-true x (s.files_made + 1) (and_parts (x == s.files_made + 1) (nat_lt x clear_base) both.0).0 in
    let low = left_there s f sound.rooted.counted both.1 in (omega (arith, new, small), omega (arith, low, small))
note_small strict s (Rewrite x) sound t small check = let low = file_there s x sound.rooted.counted t in omega (arith, low, small)
note_small strict s (NameFile x) sound t small check = let low = file_there s x sound.rooted.counted t in omega (arith, low, small)
note_small strict s (NameFolder f) sound t small check = let low = other_there s f sound.rooted.counted t in omega (arith, low, small)
note_small strict s (DropFile x) sound t small check = let low = file_there s x sound.rooted.counted t in omega (arith, low, small)
note_small strict s (DropFolder f) sound t small check = let low = other_there s f sound.rooted.counted (and_parts (is_other_folder s f) _ t).0 in omega (arith, low, small)
note_small strict s (ShiftFile x g) sound t small check =
    let two = and_parts _ _ t in
    let one = and_parts (file_stands s x) (has_depth_left s g) two.0 in
    let first = file_there s x sound.rooted.counted one.0 in
    let second = left_there s g sound.rooted.counted one.1 in (omega (arith, first, small), omega (arith, second, small))
note_small strict s (ShiftFolder g q) sound t small check =
    let both = into_there s g q sound.rooted.counted t in
    let first = both.0 in let second = both.1 in (omega (arith, first, small), omega (arith, second, small))
note_small strict s (Give h f) sound t small check =
    let two = and_parts _ _ t in
    let one = and_parts (is_some (holder_entry s h)) (may_be_granted strict s f) two.0 in
    let first = holder_there s h sound.rooted.counted one.0 in
    let second = granted_small s f sound.rooted.counted (granted_there strict s f one.1) in (omega (arith, first, small), omega (arith, second, small))
note_small strict s (Take h f) sound t small check =
    let both = grant_there s h f sound t in
    let first = both.0 in let second = both.1 in (omega (arith, first, small), omega (arith, second, small))
note_small strict s StrictRoot sound t small check = tt
note_small strict s Upgrade sound t small check = tt

-- ---- pieces

folder_object : (t : Store) (f : ℕ) (p : Piece) → AreCounted t → In p (folder_piece t f) → p.object ≤ made t
unfolding folder_piece folder_entry
folder_object t f p c i =
    (elim (find (λ (e : FolderEntry). e.id == f) t.folders) as (λ (o : Option FolderEntry). find (λ (e : FolderEntry). e.id == f) t.folders ≡ o → In p (elim o as (λ z. List Piece) [ None ↦ [] | Some e ↦ record { kind = 1; object = f; name = e.name; bytes = [] } ∷ [] ]) → p.object ≤ made t) [
      | None ↦ λ q j. absurd j
      | Some e ↦ λ q j. let w = find-found FolderEntry (λ d. d.id == f) t.folders e q in
          let low = folder_small t f c (e, w.0, eqb-true e.id f w.1) in
          ⊎_elim (λ (is : p ≡ record { kind = 1; object = f; name = e.name; bytes = [] }). let same : p.object ≡ f = ap (λ (z : Piece). z.object) is in omega (arith, low, same)) (λ n. absurd n) j
    ]) refl i

file_object : (t : Store) (x : ℕ) (p : Piece) → AreCounted t → In p (file_piece t x) → p.object ≤ made t
unfolding file_piece file_entry
file_object t x p c i =
    (elim (find (λ (e : FileEntry). e.id == x) t.files) as (λ (o : Option FileEntry). find (λ (e : FileEntry). e.id == x) t.files ≡ o → In p (elim o as (λ z. List Piece) [ None ↦ [] | Some e ↦ record { kind = 2; object = x; name = e.name; bytes = e.bytes } ∷ [] ]) → p.object ≤ made t) [
      | None ↦ λ q j. absurd j
      | Some e ↦ λ q j. let w = find-found FileEntry (λ d. d.id == x) t.files e q in
          let low = c.each_file e w.0 in let id = eqb-true e.id x w.1 in
          ⊎_elim (λ (is : p ≡ record { kind = 2; object = x; name = e.name; bytes = e.bytes }). let same : p.object ≡ x = ap (λ (z : Piece). z.object) is in omega (arith, low, id, same)) (λ n. absurd n) j
    ]) refl i

holder_object : (t : Store) (h : ℕ) (p : Piece) → AreCounted t → In p (holder_piece t h) → p.object ≤ made t
unfolding holder_piece holder_entry
holder_object t h p c i =
    (elim (find (λ (e : HolderEntry). e.number == h) t.holders) as (λ (o : Option HolderEntry). find (λ (e : HolderEntry). e.number == h) t.holders ≡ o → In p (elim o as (λ z. List Piece) [ None ↦ [] | Some e ↦ record { kind = 3; object = h; name = []; bytes = e.key } ∷ [] ]) → p.object ≤ made t) [
      | None ↦ λ q j. absurd j
      | Some e ↦ λ q j. let w = find-found HolderEntry (λ d. d.number == h) t.holders e q in
          let low = c.each_holder e w.0 in let id = eqb-true e.number h w.1 in
          ⊎_elim (λ (is : p ≡ record { kind = 3; object = h; name = []; bytes = e.key }). let same : p.object ≡ h = ap (λ (z : Piece). z.object) is in omega (arith, low, id, same)) (λ n. absurd n) j
    ]) refl i

piece_small : (note : Note) (t : Store) (p : Piece) → AreCounted t → In p (pieces_of note t) → p.object ≤ made t
unfolding pieces_of
piece_small Root t p c i = folder_object t 1 p c i
piece_small (NewHolder h check) t p c i = holder_object t h p c i
piece_small (NewFolder f q) t p c i = folder_object t f p c i
piece_small (NewFile x f) t p c i = file_object t x p c i
piece_small (Rewrite x) t p c i = file_object t x p c i
piece_small (NameFile x) t p c i = file_object t x p c i
piece_small (NameFolder f) t p c i = folder_object t f p c i
piece_small (DropFile x) t p c i = absurd i
piece_small (DropFolder f) t p c i = absurd i
piece_small (ShiftFile x g) t p c i = absurd i
piece_small (ShiftFolder g q) t p c i = absurd i
piece_small (Give h f) t p c i = absurd i
piece_small (Take h f) t p c i = absurd i
piece_small StrictRoot t p c i = folder_object t 1 p c i
piece_small Upgrade t p c i = absurd i

-- ---- records

row_range : (r : Row) → In r ELEVEN.rows → (1 ≤ r.number) × (r.number ≤ 11)
row_range r i =
    let both = and_parts (nat_le 1 r.number) (nat_le r.number 11) (In-list_all Row (λ q. nat_le 1 q.number && nat_le q.number 11) ELEVEN.rows r refl i) in
    (leb-true 1 r.number both.0, leb-true r.number 11 both.1)

kind_range : (e : Edge) → In (row_of e) ELEVEN.rows → (1 ≤ e.kind) × (e.kind ≤ 11)
unfolding row_of
kind_range e i = row_range (row_of e) i

all_of_members : (X : Type 0) (P : X → Type 0) (xs : List X) → ((x : X) → In x xs → P x) → All P xs
all_of_members X P [] each = All-nil P
all_of_members X P (x ∷ xs) each = All-cons P x xs (each x (inl refl)) (all_of_members X P xs (λ y i. each y (inr i)))

-- the numbers of a step are those of the format
record AreSmall (keys : List KeyParts) (t : Store) (k : KeyState) : Type 0 where
  counted : AreCounted t
  few : made t < clear_base
  keyed : (r : Role) (n : ℕ) → newest k.keys r ≡ Some n → HasRole t r
  have : HaveKeys keys k
  below : (q : Role × ℕ) → In q k.keys → q.1 < next_serial k
  room : next_serial k < 18446744073709551616

key_small : (keys : List KeyParts) (t : Store) (k : KeyState) (r : Role) (n : ℕ) → AreSmall keys t k → newest k.keys r ≡ Some n → (role_id r < 4294967296) × (n < 18446744073709551616)
key_small keys t k r n small newer =
    let low = role_small t r small.counted (small.keyed r n newer) in
    let few = small.few in
    let w = newest_of k.keys r n newer in
    let under = small.below w.0 w.1 in
    let same = w.3 in
    let room = small.room in (omega (arith, low, few), omega (arith, under, same, room))

link_spelled : (keys : List KeyParts) (t : Store) (step : Stepped) (l : Link) → AreSmall keys t step.after → IsSealable step → l.nonce < next_serial step.after → In l step.links → IsLink (link_record keys l)
unfolding link_record
link_spelled keys t step l small seal nonce i =
    let kinds = kind_range l.edge (seal.tabled l i) in
    let from = key_small keys t step.after l.edge.from l.from_serial small (seal.sources l i) in
    let to = key_small keys t step.after l.edge.to l.to_serial small (seal.targets l i) in
    let room = small.room in
    let size = found keys l.to_serial small.have.long (newest_serial keys step.after l.edge.to l.to_serial small.have (seal.targets l i)) in
    link_spellable l.edge.kind
    (record { id = role_id l.edge.from; serial = l.from_serial; bytes = bytes_in keys l.from_serial })
    (record { id = role_id l.edge.to; serial = l.to_serial; bytes = bytes_in keys l.to_serial })
    l.nonce kinds.0 kinds.1 from.0 to.0 from.1 to.1 (omega (arith, nonce, room)) size

text_range : (p : Piece) → IsSized p → (shortest_text p.kind ≤ length (text_of p)) × (length (text_of p) ≤ longest_text p.kind)
text_range p size =
    let n = length (text_of p) in
    let both = and_parts (nat_le (shortest_text p.kind) n && nat_le n (longest_text p.kind)) _ size in
    let ends = and_parts (nat_le (shortest_text p.kind) n) (nat_le n (longest_text p.kind)) both.0 in
    (leb-true (shortest_text p.kind) n ends.0, leb-true n (longest_text p.kind) ends.1)

content_spelled : (keys : List KeyParts) (t : Store) (step : Stepped) (c : Content) → AreSmall keys t step.after → IsSealable step → c.nonce < next_serial step.after → c.piece.object ≤ made t → IsSized c.piece → In c step.contents
    → IsContent (content_record keys c)
unfolding content_record
content_spelled keys t step c small seal nonce object size i =
    let kinds = seal.kinds c i in
    let key = key_small keys t step.after (sealing_role c.piece) c.key_serial small (seal.sealing c i) in
    let room = small.room in
    let few = small.few in
    let text = text_range c.piece size in
    content_spellable c.piece.kind (record { id = role_id (sealing_role c.piece); serial = c.key_serial; bytes = bytes_in keys c.key_serial }) c.piece.object c.nonce (text_of c.piece)
    kinds.0 kinds.1 (omega (arith, object, few)) key.1 (omega (arith, nonce, room)) text.0 text.1

-- ---- a step

links_counted : (k : KeyState) (before : List Edge) (c : Change) (ps : List Piece) → length (key_step k before c ps).links ≤ (key_step k before c ps).after.count
unfolding key_step step_with published links_from
links_counted k before c ps =
    let plan_of = renewed k before c in
    let es = published_edges before c plan_of in
    let n = next_serial k + length (given k c plan_of) in
    let long = length-map (numbered n es) (link_of (keys_then k c plan_of)) in
    let many = numbered-length Edge n es in
    omega (arith, long, many)

serial_room : (k : KeyState) → k.epoch < 4294967296 → k.count < 4294967296 → next_serial k < 18446744073709551616
unfolding next_serial
serial_room k epoch count = omega (arith, epoch, count)

module _ (keys : List KeyParts) (s t : Store) (k : KeyState) (c : Change) (links : List Link) (ps : List Piece) (mv : IsMove s c t) (ok : KeysHold s k links) (once : EachOnce c.fresh) (due : ArePieces t ps) where
  step_below : ((q : Role × ℕ) → In q k.keys → q.1 < next_serial k) → (q : Role × ℕ) → In q (key_step k (edges s) c ps).after.keys → q.1 < next_serial (key_step k (edges s) c ps).after
  step_below below q i = ⊎_elim
      (λ new. (keys_between k (edges s) c ps q new).1)
      (λ old. let low = below q old in let rises = step_rises k (edges s) c ps in omega (arith, low, rises))
      (having.keys_after k (edges s) c ps q i)

  step_small : AreCounted t → made t < clear_base → HaveKeys keys (key_step k (edges s) c ps).after → ((q : Role × ℕ) → In q k.keys → q.1 < next_serial k)
      → (key_step k (edges s) c ps).after.epoch < 4294967296 → (key_step k (edges s) c ps).after.count < 4294967296 → AreSmall keys t (key_step k (edges s) c ps).after
  step_small counted few have below epoch count = record {
    counted = counted;
    few = few;
    keyed = λ r n e. ((keys_after s t k c links mv ok ps).keyed r).1 (n, e);
    have = have;
    below = step_below below;
    room = serial_room (key_step k (edges s) c ps).after epoch count;
  }

  object_small : ((p : Piece) → In p ps → p.object ≤ made t) → (x : Content) → In x (key_step k (edges s) c ps).contents → x.piece.object ≤ made t
  unfolding key_step step_with published
  object_small each x i =
      let plan_of = renewed k (edges s) c in
      each x.piece (content_from (keys_then k c plan_of) (next_serial k + length (given k c plan_of) + length (published_edges (edges s) c plan_of)) ps x i).0

  step_spelled : (note : Declared) → IsNote note → AreSmall keys t (key_step k (edges s) c ps).after → (key_step k (edges s) c ps).after.count < 4294967296 → ((p : Piece) → In p ps → p.object ≤ made t)
      → ((x : Content) → In x (key_step k (edges s) c ps).contents → IsSized x.piece) → IsSpellable (step_payload keys note (key_step k (edges s) c ps))
  unfolding step_payload
  step_spelled note is small count objects sizes =
      let step = key_step k (edges s) c ps in
      let seal = step_sealable s t k c links ps mv ok once due in
      let few = links_counted k (edges s) c ps in
      let one = seal.one_content in
      let long = length-map step.links (link_record keys) in
      let texts = length-map step.contents (content_record keys) in
      record {
        note = is;
        link_count = omega (arith, few, count, long);
        content_count = omega (arith, one, texts);
        links = All-map IsLink (link_record keys) step.links (all_of_members Link (λ l. IsLink (link_record keys l)) step.links
            (λ l i. link_spelled keys t step l small seal (links_between k (edges s) c ps l i).1 i));
        contents = All-map IsContent (content_record keys) step.contents (all_of_members Content (λ x. IsContent (content_record keys x)) step.contents
            (λ x i. content_spelled keys t step x small seal (contents_between k (edges s) c ps x i).1 (object_small objects x i) (sizes x i) i));
      }

-- ---- entries

-- what holds while a journal goes on
record IsReady (keys : List KeyParts) (at : Stand) (links : List Link) : Type 0 where
  sound : IsSound at.store
  short : AreShort at.store
  ok : KeysHold at.store at.keys links
  have : HaveKeys keys at.keys
  below : (q : Role × ℕ) → In q at.keys.keys → q.1 < next_serial at.keys
  epoch : at.keys.epoch < 4294967296
  count : at.keys.count < 4294967296

fit_told : (at : Stand) (note : Note) (step : Stepped) → note_fits at note step ≡ true → (1 ≤ at.keys.epoch) × (step.after.count < 4294967296)
unfolding note_fits has_count
fit_told at note step fit =
    let one = and_parts (nat_lt 0 at.keys.epoch) (fits (is_strict at.keys) at.store note && nat_lt step.after.count (2 ^ 32 - 1)) fit in
    let two = and_parts (fits (is_strict at.keys) at.store note) (nat_lt step.after.count (2 ^ 32 - 1)) one.1 in
    let low : step.after.count < 4294967295 = ltb-true step.after.count (2 ^ 32 - 1) two.1 in
    (ltb-true 0 at.keys.epoch one.0, omega (arith, low))

same_epoch : (k : KeyState) (before : List Edge) (c : Change) (ps : List Piece) → (key_step k before c ps).after.epoch ≡ k.epoch
unfolding key_step step_with published
same_epoch k before c ps = refl

session_ready : (keys : List KeyParts) (at : Stand) (links : List Link) → IsReady keys at links → entry_fits at Session ≡ true → IsFed at Session → IsReady (bytes.keys_then keys at Session) (stand_then at Session) links
unfolding stand_then entry_store entry_step entry_fits next_epoch
session_ready keys at links is fit fed =
    let small = is.count in
    let rises = session_rises at.keys (omega (arith, small)) in
    let low : at.keys.epoch < 4294967295 = ltb-true at.keys.epoch (2 ^ 32 - 1) fit in
    record {
      sound = is.sound;
      short = is.short;
      ok = epoch_holds at.store at.keys links is.ok;
      have = have_then keys at Session is.have fed;
      below = λ q i. let old = is.below q i in omega (arith, old, rises);
      epoch = omega (arith, low);
      count = omega arith;
    }

did_ready : (keys : List KeyParts) (at : Stand) (links : List Link) (r : Request) (drawn : List (List ℕ)) → IsReady keys at links → HasNumbers at.store → refusal_in (is_strict at.keys) at.store r most_file_bytes ≡ None → entry_fits at (Did r drawn) ≡ true → IsFed at (Did r drawn)
    → IsReady (bytes.keys_then keys at (Did r drawn)) (stand_then at (Did r drawn)) (links ++ (entry_step at (Did r drawn)).links)
unfolding stand_then entry_store entry_step note_step entry_fits
did_ready keys at links r drawn is few none fit fed =
    let s = at.store in
    let note = note_of s r [] in
    let t = effect s r (first_key drawn) in
    let strict = is_strict at.keys in
    let c = change_of strict s note in
    let ps = pieces_of note t in
    let mv = command_moves strict s r (first_key drawn) [] most_file_bytes none few is.sound in
    let told = fit_told at note (entry_step at (Did r drawn)) fit in
    let same = same_epoch at.keys (edges s) c ps in
    let low = is.epoch in
    record {
      sound = effect_sound strict s r (first_key drawn) most_file_bytes none few is.sound;
      short = effect_short s r (first_key drawn) (accepted_in strict s r most_file_bytes none) is.short;
      ok = keys_after s t at.keys c links mv is.ok ps;
      have = have_then keys at (Did r drawn) is.have fed;
      below = step_below keys s t at.keys c links ps mv is.ok (fresh_once strict s note) (pieces_due note t) is.below;
      epoch = omega (arith, same, low);
      count = told.1;
    }

command_note : (strict : Bool) (s : Store) (r : Request) (key : List ℕ) → IsSound s → HasNumbers s → refusal_in strict s r most_file_bytes ≡ None → made s + 1 < clear_base → IsNote (declared_note (note_of s r (check_of key)))
unfolding fits
command_note strict s r key sound few none low =
    let check = check_of key in
    let fit = and_parts (row_fits strict s (note_of s r check)) _ (notes.accepted_fits strict s r check most_file_bytes none few sound.tree) in
    note_small strict s (note_of s r check) sound fit.0 low (note_of_weighs s r check (length-check_of key)).0

did_spelled : (keys : List KeyParts) (at : Stand) (links : List Link) (r : Request) (drawn : List (List ℕ)) → IsReady keys at links → HasNumbers at.store → refusal_in (is_strict at.keys) at.store r most_file_bytes ≡ None → entry_fits at (Did r drawn) ≡ true → IsFed at (Did r drawn) → made at.store + 1 < clear_base
    → IsSpellable (step_payload (bytes.keys_then keys at (Did r drawn)) (declared_note (note_of at.store r (check_of (first_key drawn)))) (entry_step at (Did r drawn)))
unfolding entry_step note_step entry_fits drawn_by
did_spelled keys at links r drawn is few none fit fed low_made =
    let s = at.store in
    let note = note_of s r [] in
    let t = effect s r (first_key drawn) in
    let strict = is_strict at.keys in
    let c = change_of strict s note in
    let ps = pieces_of note t in
    let mv = command_moves strict s r (first_key drawn) [] most_file_bytes none few is.sound in
    let told = fit_told at note (entry_step at (Did r drawn)) fit in
    let same = same_epoch at.keys (edges s) c ps in
    let low = is.epoch in
    let sound_after = effect_sound strict s r (first_key drawn) most_file_bytes none few is.sound in
    let more = effect_made s r (first_key drawn) in
    let later = bytes.keys_then keys at (Did r drawn) in
    let small = step_small later s t at.keys c links ps mv is.ok (fresh_once strict s note) (pieces_due note t) sound_after.rooted.counted (omega (arith, more, low_made)) (have_then keys at (Did r drawn) is.have fed) is.below (omega (arith, same, low)) told.1 in
    step_spelled later s t at.keys c links ps mv is.ok (fresh_once strict s note) (pieces_due note t) (declared_note (note_of s r (check_of (first_key drawn))))
    (command_note strict s r (first_key drawn) is.sound few none low_made) small told.1 (λ p i. piece_small note t p sound_after.rooted.counted i)
    (command_contents at r drawn is.sound is.short (accepted_in strict s r most_file_bytes none) (key_sized at r drawn fed.many fed.sizes))

upgraded_ready : (keys : List KeyParts) (at : Stand) (links : List Link) (drawn : List (List ℕ)) → IsReady keys at links → entry_fits at (Upgraded drawn) ≡ true → IsFed at (Upgraded drawn)
    → IsReady (bytes.keys_then keys at (Upgraded drawn)) (stand_then at (Upgraded drawn)) (links ++ (entry_step at (Upgraded drawn)).links)
unfolding stand_then entry_store entry_step note_step entry_fits
upgraded_ready keys at links drawn is fit fed =
    let s = at.store in
    let strict = is_strict at.keys in
    let c = change_of strict s Upgrade in
    let ps = pieces_of Upgrade s in
    let mv = upgrade_moves strict s is.sound in
    let told = fit_told at Upgrade (entry_step at (Upgraded drawn)) fit in
    let same = same_epoch at.keys (edges s) c ps in
    let low = is.epoch in
    record {
      sound = is.sound;
      short = is.short;
      ok = keys_after s s at.keys c links mv is.ok ps;
      have = have_then keys at (Upgraded drawn) is.have fed;
      below = step_below keys s s at.keys c links ps mv is.ok (fresh_once strict s Upgrade) (pieces_due Upgrade s) is.below;
      epoch = omega (arith, same, low);
      count = told.1;
    }

upgraded_spelled : (keys : List KeyParts) (at : Stand) (links : List Link) (drawn : List (List ℕ)) → IsReady keys at links → entry_fits at (Upgraded drawn) ≡ true → IsFed at (Upgraded drawn) → made at.store + 1 < clear_base
    → IsSpellable (step_payload (bytes.keys_then keys at (Upgraded drawn)) (declared_note Upgrade) (entry_step at (Upgraded drawn)))
unfolding entry_step note_step entry_fits drawn_by declared_note
upgraded_spelled keys at links drawn is fit fed few =
    let s = at.store in
    let strict = is_strict at.keys in
    let c = change_of strict s Upgrade in
    let ps = pieces_of Upgrade s in
    let mv = upgrade_moves strict s is.sound in
    let told = fit_told at Upgrade (entry_step at (Upgraded drawn)) fit in
    let same = same_epoch at.keys (edges s) c ps in
    let low = is.epoch in
    let later = bytes.keys_then keys at (Upgraded drawn) in
    let small = step_small later s s at.keys c links ps mv is.ok (fresh_once strict s Upgrade) (pieces_due Upgrade s) is.sound.rooted.counted (omega (arith, few)) (have_then keys at (Upgraded drawn) is.have fed) is.below (omega (arith, same, low)) told.1 in
    step_spelled later s s at.keys c links ps mv is.ok (fresh_once strict s Upgrade) (pieces_due Upgrade s) (declared_note Upgrade)
    tt small told.1 (λ p i. piece_small Upgrade s p is.sound.rooted.counted i) (upgraded_contents at drawn)

-- a batch of an epoch, and one of a command
session_bodies : (keys : List KeyParts) (at : Stand) (rest : List PlainBody) → AreBodies (stand_then at Session).keys.epoch rest → AreBodies at.keys.epoch (entry_body keys at Session ∷ rest)
unfolding entry_body stand_then entry_step next_epoch
session_bodies keys at rest more = more

did_bodies : (keys : List KeyParts) (at : Stand) (r : Request) (drawn : List (List ℕ)) (rest : List PlainBody) → 1 ≤ at.keys.epoch
    → IsSpellable (step_payload keys (declared_note (note_of at.store r (check_of (first_key drawn)))) (entry_step at (Did r drawn)))
    → AreBodies (stand_then at (Did r drawn)).keys.epoch rest → AreBodies at.keys.epoch (entry_body keys at (Did r drawn) ∷ rest)
unfolding entry_body stand_then entry_step note_step
did_bodies keys at r drawn rest begun spelled more =
    let note = note_of at.store r [] in
    let same = same_epoch at.keys (edges at.store) (change_of (is_strict at.keys) at.store note) (pieces_of note (effect at.store r (first_key drawn))) in
    (begun, spelled, subst (λ n. AreBodies n rest) same more)

upgraded_bodies : (keys : List KeyParts) (at : Stand) (drawn : List (List ℕ)) (rest : List PlainBody) → 1 ≤ at.keys.epoch
    → IsSpellable (step_payload keys (declared_note Upgrade) (entry_step at (Upgraded drawn)))
    → AreBodies (stand_then at (Upgraded drawn)).keys.epoch rest → AreBodies at.keys.epoch (entry_body keys at (Upgraded drawn) ∷ rest)
unfolding entry_body stand_then entry_step note_step
upgraded_bodies keys at drawn rest begun spelled more =
    let same = same_epoch at.keys (edges at.store) (change_of (is_strict at.keys) at.store Upgrade) (pieces_of Upgrade at.store) in
    (begun, spelled, subst (λ n. AreBodies n rest) same more)

upgraded_begun : (at : Stand) (drawn : List (List ℕ)) → entry_fits at (Upgraded drawn) ≡ true → 1 ≤ at.keys.epoch
unfolding entry_fits
upgraded_begun at drawn fit = (fit_told at Upgrade (entry_step at (Upgraded drawn)) fit).0

upgraded_made : (at : Stand) (drawn : List (List ℕ)) → made (stand_then at (Upgraded drawn)).store ≡ made at.store
unfolding stand_then entry_store
upgraded_made at drawn = refl

did_begun : (at : Stand) (r : Request) (drawn : List (List ℕ)) → entry_fits at (Did r drawn) ≡ true → 1 ≤ at.keys.epoch
unfolding entry_fits
did_begun at r drawn fit = (fit_told at (note_of at.store r []) (entry_step at (Did r drawn)) fit).0

session_made : (at : Stand) → made (stand_then at Session).store ≡ made at.store
unfolding stand_then entry_store
session_made at = refl

did_made : (at : Stand) (r : Request) (drawn : List (List ℕ)) → made (stand_then at (Did r drawn)).store ≤ made at.store + 1
unfolding stand_then entry_store
did_made at r drawn = effect_made at.store r (first_key drawn)

spell : (entries : List Entry) (keys : List KeyParts) (at : Stand) (links : List Link) → IsReady keys at links → made at.store + spent (payloads_from at entries) ≤ most_store_bytes → FollowOn at entries → all_fit at entries ≡ true → AreFed at entries
    → AreBodies at.keys.epoch (bodies_from keys at entries)
unfolding bodies_from payloads_from all_fit
spell [] keys at links is low follow fit fed = tt
spell (Session ∷ entries) keys at links is low follow fit fed =
    let later = bytes.keys_then keys at Session in
    let next = stand_then at Session in
    let both = and_parts (entry_fits at Session) (all_fit next entries) fit in
    let sum = sum_by-cons (λ len. batch_len + len) (entry_payload at Session) (payloads_from next entries) in
    let same = session_made at in
    session_bodies later at (bodies_from later next entries)
    (spell entries later next links (session_ready keys at links is both.0 fed.0) (omega (arith, low, sum, same)) follow.1 both.1 fed.1)
spell (Made version drawn ∷ entries) keys at links is low follow fit fed = absurd follow.0
spell (Did r drawn ∷ entries) keys at links is low follow fit fed =
    let later = bytes.keys_then keys at (Did r drawn) in
    let next = stand_then at (Did r drawn) in
    let both = and_parts (entry_fits at (Did r drawn)) (all_fit next entries) fit in
    let sum = sum_by-cons (λ len. batch_len + len) (entry_payload at (Did r drawn)) (payloads_from next entries) in
    let more = did_made at r drawn in
    let left : HasNumbers at.store = (omega (arith, low, sum), omega (arith, low, sum)) in
    did_bodies later at r drawn (bodies_from later next entries) (did_begun at r drawn both.0)
    (did_spelled keys at links r drawn is left follow.0.0 both.0 fed.0 (omega (arith, low, sum)))
    (spell entries later next (links ++ (entry_step at (Did r drawn)).links) (did_ready keys at links r drawn is left follow.0.0 both.0 fed.0) (omega (arith, low, sum, more)) follow.1 both.1 fed.1)
spell (Upgraded drawn ∷ entries) keys at links is low follow fit fed =
    let later = bytes.keys_then keys at (Upgraded drawn) in
    let next = stand_then at (Upgraded drawn) in
    let both = and_parts (entry_fits at (Upgraded drawn)) (all_fit next entries) fit in
    let sum = sum_by-cons (λ len. batch_len + len) (entry_payload at (Upgraded drawn)) (payloads_from next entries) in
    let more = upgraded_made at drawn in
    upgraded_bodies later at drawn (bodies_from later next entries) (upgraded_begun at drawn both.0)
    (upgraded_spelled keys at links drawn is both.0 fed.0 (omega (arith, low, sum)))
    (spell entries later next (links ++ (entry_step at (Upgraded drawn)).links) (upgraded_ready keys at links drawn is both.0 fed.0) (omega (arith, low, sum, more)) follow.1 both.1 fed.1)

-- ---- journals

-- before the root is made
abbrev begun : Stand
begun = stand_then nothing Session

begun_have : (owner : List ℕ) → length owner ≡ 32 → IsFed nothing Session → HaveKeys (bytes.keys_then (owner_parts owner ∷ []) nothing Session) begun.keys
unfolding stand_then
begun_have owner size fed = have_then (owner_parts owner ∷ []) nothing Session (have_at_first owner size) fed

first_below : (q : Role × ℕ) → In q begun.keys.keys → q.1 < next_serial begun.keys
unfolding stand_then entry_step nothing next_epoch no_keys next_serial
first_below q i = ⊎_elim (λ (e : q ≡ (Owner, 0)). let zero : q.1 ≡ 0 = ap (λ (x : Role × ℕ). x.1) e in omega (arith, zero)) (λ n. absurd n) i

begun_numbers : (begun.keys.epoch ≡ 1) × (begun.keys.count ≡ 0)
unfolding stand_then entry_step nothing next_epoch no_keys
begun_numbers = (refl, refl)

root_is_note : (version : ℕ) → IsNote (declared_note (root_note version))
unfolding declared_note
root_is_note version = of_root (λ note. IsNote (declared_note note)) tt tt version

root_ready : (keys : List KeyParts) (version : ℕ) (drawn : List (List ℕ)) → HaveKeys keys begun.keys → entry_fits begun (Made version drawn) ≡ true → IsFed begun (Made version drawn)
    → IsReady (bytes.keys_then keys begun (Made version drawn)) (stand_then begun (Made version drawn)) (entry_step begun (Made version drawn)).links
unfolding stand_then entry_store entry_step note_step entry_fits nothing is_strict next_epoch no_keys
root_ready keys version drawn have fit fed =
    let k = next_epoch no_keys in
    let c = change_of false no_store (root_note version) in
    let ps = pieces_of (root_note version) root_store in
    let told = fit_told begun (root_note version) (entry_step begun (Made version drawn)) fit in
    let same = same_epoch k (edges no_store) c ps in
    let numbers = begun_numbers in
    let one = numbers.0 in
    record {
      sound = root_sound;
      short = root_short;
      ok = keys_after no_store root_store k c [] (root_moves version) nothing_holds ps;
      have = have_then keys begun (Made version drawn) have fed;
      below = step_below keys no_store root_store k c [] ps (root_moves version) nothing_holds (fresh_once false no_store (root_note version)) (pieces_due (root_note version) root_store) first_below;
      epoch = omega (arith, same, one);
      count = told.1;
    }

root_made : made root_store ≡ 1
unfolding root_store no_store
root_made = refl

root_spelled : (keys : List KeyParts) (version : ℕ) (drawn : List (List ℕ)) → HaveKeys keys begun.keys → entry_fits begun (Made version drawn) ≡ true → IsFed begun (Made version drawn)
    → IsSpellable (step_payload (bytes.keys_then keys begun (Made version drawn)) (declared_note (root_note version)) (entry_step begun (Made version drawn)))
unfolding stand_then entry_store entry_step note_step entry_fits nothing declared_note is_strict next_epoch no_keys
root_spelled keys version drawn have fit fed =
    let k = next_epoch no_keys in
    let c = change_of false no_store (root_note version) in
    let ps = pieces_of (root_note version) root_store in
    let told = fit_told begun (root_note version) (entry_step begun (Made version drawn)) fit in
    let same = same_epoch k (edges no_store) c ps in
    let numbers = begun_numbers in
    let one = numbers.0 in
    let later = bytes.keys_then keys begun (Made version drawn) in
    let few = root_made in
    let small = step_small later no_store root_store k c [] ps (root_moves version) nothing_holds (fresh_once false no_store (root_note version)) (pieces_due (root_note version) root_store) root_sound.rooted.counted (omega (arith, few)) (have_then keys begun (Made version drawn) have fed) first_below (omega (arith, same, one)) told.1 in
    step_spelled later no_store root_store k c [] ps (root_moves version) nothing_holds (fresh_once false no_store (root_note version)) (pieces_due (root_note version) root_store) (declared_note (root_note version))
    (root_is_note version) small told.1 (λ p i. piece_small (root_note version) root_store p root_sound.rooted.counted i) (made_contents version drawn)

root_bodies : (keys : List KeyParts) (version : ℕ) (drawn : List (List ℕ)) (rest : List PlainBody) → IsSpellable (step_payload keys (declared_note (root_note version)) (entry_step begun (Made version drawn)))
    → AreBodies (stand_then begun (Made version drawn)).keys.epoch rest → AreBodies begun.keys.epoch (entry_body keys begun (Made version drawn) ∷ rest)
unfolding entry_body stand_then entry_store entry_step note_step declared_note nothing next_epoch no_keys is_strict
root_bodies keys version drawn rest spelled more =
    let same = same_epoch (next_epoch no_keys) (edges no_store) (change_of false no_store (root_note version)) (pieces_of (root_note version) root_store) in
    (omega arith, spelled, subst (λ n. AreBodies n rest) same more)

next_made : (version : ℕ) (drawn : List (List ℕ)) → made (stand_then begun (Made version drawn)).store ≡ 1
unfolding stand_then entry_store
next_made version drawn = root_made

begins : (owner : List ℕ) (m : Journal) → length owner ≡ 32 → BeginsWell m → end_of m ≤ most_store_bytes → all_fit nothing m ≡ true → AreFed nothing m → AreBodies nothing.keys.epoch (bodies_from (owner_parts owner ∷ []) nothing m)
unfolding bodies_from payloads_from all_fit end_of
begins owner [] size b low fit fed = absurd b
begins owner (Session ∷ []) size b low fit fed = absurd b
begins owner (Session ∷ Session ∷ es) size b low fit fed = absurd b
begins owner (Session ∷ Made version drawn ∷ es) size b low fit fed =
    let keys = owner_parts owner ∷ [] in
    let first = bytes.keys_then keys nothing Session in
    let later = bytes.keys_then first begun (Made version drawn) in
    let next = stand_then begun (Made version drawn) in
    let outer = and_parts (entry_fits nothing Session) (entry_fits begun (Made version drawn) && all_fit next es) fit in
    let inner = and_parts (entry_fits begun (Made version drawn)) (all_fit next es) outer.1 in
    let have = begun_have owner size fed.0 in
    let sum = sum_by-cons (λ len. batch_len + len) (entry_payload nothing Session) (entry_payload begun (Made version drawn) ∷ payloads_from next es) in
    let others = sum_by-cons (λ len. batch_len + len) (entry_payload begun (Made version drawn)) (payloads_from next es) in
    let one = next_made version drawn in
    session_bodies first nothing (entry_body later begun (Made version drawn) ∷ bodies_from later next es)
    (root_bodies later version drawn (bodies_from later next es) (root_spelled first version drawn have inner.0 fed.1.0)
    (spell es later next (entry_step begun (Made version drawn)).links (root_ready first version drawn have inner.0 fed.1.0) (omega (arith, low, sum, others, one)) b.1 inner.1 fed.1.1))
begins owner (Session ∷ Did r drawn ∷ es) size b low fit fed = absurd b
begins owner (Session ∷ Upgraded drawn ∷ es) size b low fit fed = absurd b
begins owner (Made version drawn ∷ es) size b low fit fed = absurd b
begins owner (Did r drawn ∷ es) size b low fit fed = absurd b
begins owner (Upgraded drawn ∷ es) size b low fit fed = absurd b

first_epoch : nothing.keys.epoch ≡ 0
unfolding nothing no_keys
first_epoch = refl

-- each payload of a valid journal has a spelling
pub journal_spelled : (owner : List ℕ) (m : Journal) → IsValid m → AreWhole owner m → AreBodies 0 (bodies_of owner m)
unfolding bodies_of
journal_spelled owner m valid whole =
    subst (λ n. AreBodies n (bodies_from (owner_parts owner ∷ []) nothing m)) first_epoch
    (begins owner m whole.owner_size valid.0 valid.1 (journal_all_fit m valid) (begins_fed m valid.0 whole.drawn_sizes))

-- ---- so bytes that stand for a journal are read

pub owner_reads_on : (owner : List ℕ) (m : Journal) (standing : List ℕ) → StandsForJournal owner m standing → IsHonestFor owner standing m → log_verdict owner standing ≡ Ok (log_of owner (published_journal owner standing m))
unfolding log_of
owner_reads_on owner m standing stands honest = journal_read owner m standing stands (journal_spelled owner m stands.valid stands.whole_keys) honest

pub holder_reads_on : (owner : List ℕ) (m : Journal) (standing : List ℕ) → StandsForJournal owner m standing → IsHonestFor owner standing m → holder_log standing ≡ Ok (log_of owner (published_journal owner standing m))
holder_reads_on owner m standing stands honest = holder_reads owner m standing stands (journal_spelled owner m stands.valid stands.whole_keys) honest

pub writer_reads_on : (owner : List ℕ) (m : Journal) (standing : List ℕ) → StandsForJournal owner m standing → writer_log owner standing ≡ Ok (log_of owner m)
writer_reads_on owner m standing stands = writer_reads owner m standing stands (journal_spelled owner m stands.valid stands.whole_keys)
