-- What a command leaves as it stood, and what it seals, of the names, files and holders that stand after it.
use Rattle.std.proofs.Common.{◌≡◌, ◌⊎◌, ⊎_elim, inl, inr, ℕ, ◌+◌, ◌≤◌, Bool, true, false, cond, not, ◌==◌, ◌||◌, List, [], ◌∷◌, ◌++◌, Option, Some, None, arith, refl, sym, ap, subst, ◌∙◌}
use Rattle.std.specs.Prelude.{is_none}
use Rattle.std.proofs.lemmas.Bool.{eq-eqb, eqb-true, false≢true, or_parts}
use Rattle.cry_base.specs.Clearances.{clear_number}
use Rattle.cry_base.specs.Clearances as clearances
use Rattle.cry_base.specs.Naming.{last_name, names_of, parent_path}
use Rattle.cry_base.specs.Refusing.{finds_no_path, granted_id, id_of, is_folder, writes_folder}
use Rattle.cry_base.specs.Requests.{Request, paths_of}
use Rattle.cry_base.specs.Requests.Request.{AddHolder, MakeFolder, WriteFile, Remove, Rename, Relocate, Grant, Revoke}
use Rattle.cry_base.specs.Sets.{In}
use Rattle.cry_base.specs.Stepping.{effect, moved, with_bytes_at, with_file, with_folder, with_name, with_new_file, with_new_folder, with_new_holder, without_file, without_folder, without_grant, without_node}
use Rattle.cry_base.specs.Store.{Store, FolderEntry, FileEntry, HolderEntry, file_entry, folder_entry, holder_entry, no_store, node_at, root_store}
use Rattle.cry_base.specs.declared.roles.Node.{Node}
use Rattle.cry_base.specs.declared.roles.Node.TheVariants.{Folder, File}
use Rattle.cry_base.specs.declared.roles.Role.{Role}
use Rattle.cry_base.proofs.Members.{In-append, In-filter, In-map}
use Rattle.move_plan.specs.Change.{Change, change_of, clearance_in, edges_of_first, given_on, no_change, root_change, row_change, taken_from, without_roles}
use Rattle.move_plan.specs.Noting.{move_note, note_of, remove_note, rename_note, write_note}
use Rattle.record_format.specs.Noted.Note.{Root, NewHolder, NewFolder, NewFile, Give, Take, Upgrade}
use Rattle.role_graph.specs.Edges.{grant_edge, has_grants}
use Rattle.role_graph.specs.Roles.{back_of, clear_of, data_of, file_role, files_of, role_id, sub_of, variant_of}
use Rattle.public_fold.specs.Counted.{AreCounted}
use Rattle.public_fold.specs.Records.{Piece, file_piece, folder_piece, holder_piece, pieces_of, text_of}
use Rattle.public_fold.proofs.Accepting.{IsAccepted}
use Rattle.public_fold.proofs.Keeping.{HasTree}
use Rattle.public_fold.proofs.Treeing.{file_own, folder_own}
use Rattle.journal_bytes.specs.Texting.{file_text}
use Rattle.journal_bytes.proofs.Found.{found_new}
use Rattle.journal_bytes.proofs.RootNotes.{of_root}
use Rattle.journal_bytes.proofs.TextSizes.{file_of, folder_of, holder_of}
use Rattle.public_fold.specs.Journal.{root_note}

-- a text of the kind for the object is the one that is sealed
abbrev pub IsNow : List Piece → ℕ → ℕ → List ℕ → Type 0
IsNow ps kind object text = (p : Piece) × (ps ≡ p ∷ []) × (p.kind ≡ kind) × (p.object ≡ object) × (text_of p ≡ text)

-- none is
abbrev pub IsNotNow : List Piece → ℕ → ℕ → Type 0
IsNotNow ps kind object = (p : Piece) → In p ps → p.kind ≡ kind → p.object ≡ object → ⊥

-- none is, and the key of its role isn't wanted
abbrev pub IsLeft : List Piece → List Role → Role → ℕ → ℕ → Type 0
IsLeft ps wanted role kind object = IsNotNow ps kind object × (In role wanted → ⊥)

-- it stood before under the same name, and with the same bytes
abbrev pub FolderWas : Store → FolderEntry → Type 0
FolderWas s e = (d : FolderEntry) × In d s.folders × (d.id ≡ e.id) × (d.name ≡ e.name)

abbrev pub FileWas : Store → FileEntry → Type 0
FileWas s e = (d : FileEntry) × In d s.files × (d.id ≡ e.id) × (d.name ≡ e.name) × (d.bytes ≡ e.bytes)

abbrev FolderKept : Store → List Role → List Piece → FolderEntry → Type 0
FolderKept s wanted ps e = IsNow ps 1 e.id e.name ⊎ (IsLeft ps wanted (data_of e.id) 1 e.id × FolderWas s e)

abbrev FileKept : Store → List Role → List Piece → FileEntry → Type 0
FileKept s wanted ps e = IsNow ps 2 e.id (file_text e.name e.bytes) ⊎ (IsLeft ps wanted (file_role e.id) 2 e.id × FileWas s e)

abbrev HolderKept : Store → List Piece → HolderEntry → Type 0
HolderKept s ps e = IsNow ps 3 e.number e.key ⊎ (IsNotNow ps 3 e.number × In e s.holders)

-- each of what stands after it is sealed now or was so before
pub record IsKept (s t : Store) (wanted : List Role) (ps : List Piece) : Type 0 where
  pub folders : (e : FolderEntry) → In e t.folders → FolderKept s wanted ps e
  pub files : (e : FileEntry) → In e t.files → FileKept s wanted ps e
  pub holders : (e : HolderEntry) → In e t.holders → HolderKept s ps e

-- ---- pieces

abbrev folder_in : ℕ → Option FolderEntry → List Piece
folder_in f o = elim o [ None ↦ [] | Some e ↦ record { kind = 1; object = f; name = e.name; bytes = [] } ∷ [] ]

abbrev file_in : ℕ → Option FileEntry → List Piece
file_in x o = elim o [ None ↦ [] | Some e ↦ record { kind = 2; object = x; name = e.name; bytes = e.bytes } ∷ [] ]

abbrev holder_in : ℕ → Option HolderEntry → List Piece
holder_in h o = elim o [ None ↦ [] | Some e ↦ record { kind = 3; object = h; name = []; bytes = e.key } ∷ [] ]

folder_now : (t : Store) (e : FolderEntry) → folder_entry t e.id ≡ Some e → IsNow (folder_piece t e.id) 1 e.id e.name
unfolding folder_piece text_of
folder_now t e found = (record { kind = 1; object = e.id; name = e.name; bytes = [] }, ap (folder_in e.id) found, refl, refl, refl)

file_now : (t : Store) (e : FileEntry) → file_entry t e.id ≡ Some e → IsNow (file_piece t e.id) 2 e.id (file_text e.name e.bytes)
unfolding file_piece text_of
file_now t e found = (record { kind = 2; object = e.id; name = e.name; bytes = e.bytes }, ap (file_in e.id) found, refl, refl, refl)

holder_now : (t : Store) (e : HolderEntry) → holder_entry t e.number ≡ Some e → IsNow (holder_piece t e.number) 3 e.number e.key
unfolding holder_piece text_of
holder_now t e found = (record { kind = 3; object = e.number; name = []; bytes = e.key }, ap (holder_in e.number) found, refl, refl, refl)

none_now : (kind object : ℕ) → IsNotNow [] kind object
none_now kind object p i k o = i

folder_not : (t : Store) (f kind object : ℕ) → (1 ≡ kind → f ≡ object → ⊥) → IsNotNow (folder_piece t f) kind object
folder_not t f kind object n p i k o = let of = folder_of t f p i in n (sym of.0 ∙ k) (sym of.1 ∙ o)

file_not : (t : Store) (x kind object : ℕ) → (2 ≡ kind → x ≡ object → ⊥) → IsNotNow (file_piece t x) kind object
file_not t x kind object n p i k o = let of = file_of t x p i in n (sym of.0 ∙ k) (sym of.1 ∙ o)

holder_not : (t : Store) (h kind object : ℕ) → (3 ≡ kind → h ≡ object → ⊥) → IsNotNow (holder_piece t h) kind object
holder_not t h kind object n p i k o = let of = holder_of t h p i in n (sym of.0 ∙ k) (sym of.1 ∙ o)

-- ---- roles that are wanted

only_role : (a b : Role) → In a (b ∷ []) → a ≡ b
only_role a b i = ⊎_elim (λ (e : a ≡ b). e) (λ n. absurd n) i

apart : (a b : Role) → (variant_of a == variant_of b) ≡ false → In a (b ∷ []) → ⊥
apart a b t i = false≢true (sym t ∙ eq-eqb (variant_of a) (variant_of b) (ap variant_of (only_role a b i)))

other_data : (f g : ℕ) → (f ≡ g → ⊥) → In (data_of f) (data_of g ∷ []) → ⊥
unfolding data_of role_id
other_data f g n i = n (ap role_id (only_role (data_of f) (data_of g) i))

other_file : (x y : ℕ) → (x ≡ y → ⊥) → In (file_role x) (file_role y ∷ []) → ⊥
unfolding file_role role_id
other_file x y n i = n (ap role_id (only_role (file_role x) (file_role y) i))

none_wanted : (role : Role) → In role [] → ⊥
none_wanted role i = i

-- ---- what stays

folder_left : (s : Store) (wanted : List Role) (ps : List Piece) (e : FolderEntry) → In e s.folders → IsNotNow ps 1 e.id → (In (data_of e.id) wanted → ⊥) → FolderKept s wanted ps e
folder_left s wanted ps e i none unwanted = inr ((none, unwanted), (e, i, refl, refl))

file_left : (s : Store) (wanted : List Role) (ps : List Piece) (e : FileEntry) → In e s.files → IsNotNow ps 2 e.id → (In (file_role e.id) wanted → ⊥) → FileKept s wanted ps e
file_left s wanted ps e i none unwanted = inr ((none, unwanted), (e, i, refl, refl, refl))

holder_left : (s : Store) (ps : List Piece) (e : HolderEntry) → In e s.holders → IsNotNow ps 3 e.number → HolderKept s ps e
holder_left s ps e i none = inr (none, i)

-- an entry that was changed, or another
folder_changed : (s : Store) (f : ℕ) (change : FolderEntry → FolderEntry) → ((e : FolderEntry) → (change e).id ≡ e.id) → (e : FolderEntry) → In e (with_folder s f change).folders → (e.id ≡ f) ⊎ (In e s.folders × (f ≡ e.id → ⊥))
unfolding with_folder
folder_changed s f change keeps e i =
    let w = (In-map FolderEntry FolderEntry (λ e. cond (e.id == f) (change e) e) e s.folders).0 i in
    (elim (w.0.id == f) as (λ b. w.0.id == f ≡ b → e ≡ cond b (change w.0) w.0 → (e.id ≡ f) ⊎ (In e s.folders × (f ≡ e.id → ⊥))) [
      | true ↦ λ t q. inl (ap (λ (z : FolderEntry). z.id) q ∙ keeps w.0 ∙ eqb-true w.0.id f t)
      | false ↦ λ t q. inr (subst (λ z. In z s.folders) (sym q) w.1, λ h. false≢true (sym t ∙ eq-eqb w.0.id f (ap (λ (z : FolderEntry). z.id) (sym q) ∙ sym h)))
    ]) refl w.2

file_changed : (s : Store) (x : ℕ) (change : FileEntry → FileEntry) → ((e : FileEntry) → (change e).id ≡ e.id) → (e : FileEntry) → In e (with_file s x change).files → (e.id ≡ x) ⊎ (In e s.files × (x ≡ e.id → ⊥))
unfolding with_file
file_changed s x change keeps e i =
    let w = (In-map FileEntry FileEntry (λ e. cond (e.id == x) (change e) e) e s.files).0 i in
    (elim (w.0.id == x) as (λ b. w.0.id == x ≡ b → e ≡ cond b (change w.0) w.0 → (e.id ≡ x) ⊎ (In e s.files × (x ≡ e.id → ⊥))) [
      | true ↦ λ t q. inl (ap (λ (z : FileEntry). z.id) q ∙ keeps w.0 ∙ eqb-true w.0.id x t)
      | false ↦ λ t q. inr (subst (λ z. In z s.files) (sym q) w.1, λ h. false≢true (sym t ∙ eq-eqb w.0.id x (ap (λ (z : FileEntry). z.id) (sym q) ∙ sym h)))
    ]) refl w.2

-- a move changes no name
folder_shifted : (s : Store) (f into : ℕ) (e : FolderEntry) → In e (with_folder s f (λ d. record d { parent = into })).folders → FolderWas s e
unfolding with_folder
folder_shifted s f into e i =
    let w = (In-map FolderEntry FolderEntry (λ e. cond (e.id == f) (record e { parent = into }) e) e s.folders).0 i in
    let same : (b : Bool) → ((cond b (record w.0 { parent = into }) w.0).id ≡ w.0.id) × ((cond b (record w.0 { parent = into }) w.0).name ≡ w.0.name) =
    λ b. elim b as (λ b. ((cond b (record w.0 { parent = into }) w.0).id ≡ w.0.id) × ((cond b (record w.0 { parent = into }) w.0).name ≡ w.0.name)) [ true ↦ (refl, refl) | false ↦ (refl, refl) ] in
    let at = same (w.0.id == f) in
    (w.0, w.1, sym (ap (λ (z : FolderEntry). z.id) w.2 ∙ at.0), sym (ap (λ (z : FolderEntry). z.name) w.2 ∙ at.1))

file_shifted : (s : Store) (x into : ℕ) (e : FileEntry) → In e (with_file s x (λ d. record d { folder = into })).files → FileWas s e
unfolding with_file
file_shifted s x into e i =
    let w = (In-map FileEntry FileEntry (λ e. cond (e.id == x) (record e { folder = into }) e) e s.files).0 i in
    let same : (b : Bool) → ((cond b (record w.0 { folder = into }) w.0).id ≡ w.0.id) × ((cond b (record w.0 { folder = into }) w.0).name ≡ w.0.name) × ((cond b (record w.0 { folder = into }) w.0).bytes ≡ w.0.bytes) =
    λ b. elim b as (λ b. ((cond b (record w.0 { folder = into }) w.0).id ≡ w.0.id) × ((cond b (record w.0 { folder = into }) w.0).name ≡ w.0.name) × ((cond b (record w.0 { folder = into }) w.0).bytes ≡ w.0.bytes)) [ true ↦ (refl, refl, refl) | false ↦ (refl, refl, refl) ] in
    let at = same (w.0.id == x) in
    (w.0, w.1, sym (ap (λ (z : FileEntry). z.id) w.2 ∙ at.0), sym (ap (λ (z : FileEntry). z.name) w.2 ∙ at.1), sym (ap (λ (z : FileEntry). z.bytes) w.2 ∙ at.2))

-- ---- commands

holder_made : (s : Store) (key check : List ℕ) → AreCounted s → IsKept s (with_new_holder s key) (row_change s (NewHolder (s.holders_made + 1) check)).wanted (holder_piece (with_new_holder s key) (s.holders_made + 1))
unfolding with_new_holder row_change no_change holder_entry
holder_made s key check counted =
    let t = with_new_holder s key in
    let h = s.holders_made + 1 in
    let new : HolderEntry = record { number = h; key = key } in
    let found : holder_entry t h ≡ Some new = found_new HolderEntry (λ e. e.number) s.holders_made s.holders new counted.each_holder refl in
    record {
      folders = λ e i. folder_left s [] (holder_piece t h) e i (holder_not t h 1 e.id (λ k o. absurd (omega (arith, k)))) (none_wanted (data_of e.id));
      files = λ e i. file_left s [] (holder_piece t h) e i (holder_not t h 2 e.id (λ k o. absurd (omega (arith, k)))) (none_wanted (file_role e.id));
      holders = λ e i. ⊎_elim
          (λ old. let low : e.number ≤ s.holders_made = counted.each_holder e old in holder_left s (holder_piece t h) e old (holder_not t h 3 e.number (λ k o. absurd (omega (arith, o, low)))))
          (λ last. ⊎_elim (λ (q : e ≡ new). inl (subst (λ (z : HolderEntry). IsNow (holder_piece t h) 3 z.number z.key) (sym q) (holder_now t new found))) (λ n. absurd n) last)
          ((In-append HolderEntry e s.holders (new ∷ [])).0 i);
    }

folder_made : (s : Store) (parent p : ℕ) (name : List ℕ) → AreCounted s → IsKept s (with_new_folder s parent name) (row_change s (NewFolder (s.folders_made + 1) p)).wanted (folder_piece (with_new_folder s parent name) (s.folders_made + 1))
unfolding with_new_folder row_change no_change folder_entry data_of sub_of file_role variant_of
folder_made s parent p name counted =
    let t = with_new_folder s parent name in
    let f = s.folders_made + 1 in
    let new : FolderEntry = record { id = f; parent = parent; name = name } in
    let found : folder_entry t f ≡ Some new = found_new FolderEntry (λ e. e.id) s.folders_made s.folders new counted.each_folder refl in
    let wanted = sub_of p ∷ [] in
    record {
      folders = λ e i. ⊎_elim
          (λ old. let low : e.id ≤ s.folders_made = counted.each_folder e old in folder_left s wanted (folder_piece t f) e old (folder_not t f 1 e.id (λ k o. absurd (omega (arith, o, low)))) (apart (data_of e.id) (sub_of p) refl))
          (λ last. ⊎_elim (λ (q : e ≡ new). inl (subst (λ (z : FolderEntry). IsNow (folder_piece t f) 1 z.id z.name) (sym q) (folder_now t new found))) (λ n. absurd n) last)
          ((In-append FolderEntry e s.folders (new ∷ [])).0 i);
      files = λ e i. file_left s wanted (folder_piece t f) e i (folder_not t f 2 e.id (λ k o. absurd (omega (arith, k)))) (apart (file_role e.id) (sub_of p) refl);
      holders = λ e i. holder_left s (folder_piece t f) e i (folder_not t f 3 e.number (λ k o. absurd (omega (arith, k))));
    }

file_made : (s : Store) (folder g : ℕ) (name bytes : List ℕ) → AreCounted s → IsKept s (with_new_file s folder name bytes) (row_change s (NewFile (s.files_made + 1) g)).wanted (file_piece (with_new_file s folder name bytes) (s.files_made + 1))
unfolding with_new_file row_change no_change file_entry data_of files_of file_role variant_of
file_made s folder g name bytes counted =
    let t = with_new_file s folder name bytes in
    let x = s.files_made + 1 in
    let new : FileEntry = record { id = x; folder = folder; name = name; bytes = bytes } in
    let found : file_entry t x ≡ Some new = found_new FileEntry (λ e. e.id) s.files_made s.files new counted.each_file refl in
    let wanted = files_of g ∷ [] in
    record {
      folders = λ e i. folder_left s wanted (file_piece t x) e i (file_not t x 1 e.id (λ k o. absurd (omega (arith, k)))) (apart (data_of e.id) (files_of g) refl);
      files = λ e i. ⊎_elim
          (λ old. let low : e.id ≤ s.files_made = counted.each_file e old in file_left s wanted (file_piece t x) e old (file_not t x 2 e.id (λ k o. absurd (omega (arith, o, low)))) (apart (file_role e.id) (files_of g) refl))
          (λ last. ⊎_elim (λ (q : e ≡ new). inl (subst (λ (z : FileEntry). IsNow (file_piece t x) 2 z.id (file_text z.name z.bytes)) (sym q) (file_now t new found))) (λ n. absurd n) last)
          ((In-append FileEntry e s.files (new ∷ [])).0 i);
      holders = λ e i. holder_left s (file_piece t x) e i (file_not t x 3 e.number (λ k o. absurd (omega (arith, k))));
    }

old_folder : (s : Store) (x : ℕ) (change : FileEntry → FileEntry) (e : FolderEntry) → In e (with_file s x change).folders → In e s.folders
unfolding with_file
old_folder s x change e i = i

old_holder : (s : Store) (x : ℕ) (change : FileEntry → FileEntry) (e : HolderEntry) → In e (with_file s x change).holders → In e s.holders
unfolding with_file
old_holder s x change e i = i

not_data : (f x : ℕ) → In (data_of f) (file_role x ∷ []) → ⊥
unfolding data_of file_role variant_of
not_data f x = apart (data_of f) (file_role x) refl

-- a file's name or bytes
file_set : (s : Store) (x : ℕ) (change : FileEntry → FileEntry) → ((e : FileEntry) → (change e).id ≡ e.id) → HasTree (with_file s x change) → IsKept s (with_file s x change) (file_role x ∷ []) (file_piece (with_file s x change) x)
file_set s x change keeps tree = record {
  folders = λ e i. folder_left s (file_role x ∷ []) (file_piece (with_file s x change) x) e (old_folder s x change e i) (file_not (with_file s x change) x 1 e.id (λ k o. absurd (omega (arith, k)))) (not_data e.id x);
  files = λ e i. ⊎_elim
      (λ same. inl (subst (λ (n : ℕ). IsNow (file_piece (with_file s x change) n) 2 e.id (file_text e.name e.bytes)) same (file_now (with_file s x change) e (file_own (with_file s x change) e e.id tree i refl))))
      (λ other. file_left s (file_role x ∷ []) (file_piece (with_file s x change) x) e other.0 (file_not (with_file s x change) x 2 e.id (λ k o. other.1 o)) (other_file e.id x (λ h. other.1 (sym h))))
      (file_changed s x change keeps e i);
  holders = λ e i. holder_left s (file_piece (with_file s x change) x) e (old_holder s x change e i) (file_not (with_file s x change) x 3 e.number (λ k o. absurd (omega (arith, k))));
}

old_file : (s : Store) (f : ℕ) (change : FolderEntry → FolderEntry) (e : FileEntry) → In e (with_folder s f change).files → In e s.files
unfolding with_folder
old_file s f change e i = i

same_holder : (s : Store) (f : ℕ) (change : FolderEntry → FolderEntry) (e : HolderEntry) → In e (with_folder s f change).holders → In e s.holders
unfolding with_folder
same_holder s f change e i = i

not_file : (x f : ℕ) → In (file_role x) (data_of f ∷ []) → ⊥
unfolding data_of file_role variant_of
not_file x f = apart (file_role x) (data_of f) refl

-- a folder's name
folder_set : (s : Store) (f : ℕ) (change : FolderEntry → FolderEntry) → ((e : FolderEntry) → (change e).id ≡ e.id) → HasTree (with_folder s f change) → IsKept s (with_folder s f change) (data_of f ∷ []) (folder_piece (with_folder s f change) f)
folder_set s f change keeps tree = record {
  folders = λ e i. ⊎_elim
      (λ same. inl (subst (λ (n : ℕ). IsNow (folder_piece (with_folder s f change) n) 1 e.id e.name) same (folder_now (with_folder s f change) e (folder_own (with_folder s f change) e e.id tree i refl))))
      (λ other. folder_left s (data_of f ∷ []) (folder_piece (with_folder s f change) f) e other.0 (folder_not (with_folder s f change) f 1 e.id (λ k o. other.1 o)) (other_data e.id f (λ h. other.1 (sym h))))
      (folder_changed s f change keeps e i);
  files = λ e i. file_left s (data_of f ∷ []) (folder_piece (with_folder s f change) f) e (old_file s f change e i) (folder_not (with_folder s f change) f 2 e.id (λ k o. absurd (omega (arith, k)))) (not_file e.id f);
  holders = λ e i. holder_left s (folder_piece (with_folder s f change) f) e (same_holder s f change e i) (folder_not (with_folder s f change) f 3 e.number (λ k o. absurd (omega (arith, k))));
}

-- nothing is sealed, and no sealing key is wanted
unsealed : (s t : Store) (wanted : List Role) → ((f : ℕ) → In (data_of f) wanted → ⊥) → ((x : ℕ) → In (file_role x) wanted → ⊥)
    → ((e : FolderEntry) → In e t.folders → FolderWas s e) → ((e : FileEntry) → In e t.files → FileWas s e) → ((e : HolderEntry) → In e t.holders → In e s.holders) → IsKept s t wanted []
unsealed s t wanted no_data no_file folders files holders = record {
  folders = λ e i. inr ((none_now 1 e.id, no_data e.id), folders e i);
  files = λ e i. inr ((none_now 2 e.id, no_file e.id), files e i);
  holders = λ e i. inr (none_now 3 e.number, holders e i);
}

folder_same : (s : Store) (e : FolderEntry) → In e s.folders → FolderWas s e
folder_same s e i = (e, i, refl, refl)

file_same : (s : Store) (e : FileEntry) → In e s.files → FileWas s e
file_same s e i = (e, i, refl, refl, refl)

written : (s : Store) (path bytes : List ℕ) (o : Option Node) (f : ℕ) → AreCounted s → is_folder o ≡ false → HasTree (with_bytes_at s o path bytes)
    → IsKept s (with_bytes_at s o path bytes) (row_change s (write_note s o f)).wanted (pieces_of (write_note s o f) (with_bytes_at s o path bytes))
unfolding write_note pieces_of with_bytes_at is_folder row_change no_change
written s path bytes None f counted file tree = file_made s (id_of (node_at s (parent_path path))) f (last_name (names_of path)) bytes counted
written s path bytes (Some (Folder g)) f counted file tree = absurd (false≢true (sym file))
written s path bytes (Some (File x)) f counted file tree = file_set s x.0 (λ e. record e { bytes = bytes }) (λ e. refl) tree

removed : (s : Store) (o : Option Node) → is_none o ≡ false → IsKept s (without_node s o) (row_change s (remove_note o)).wanted (pieces_of (remove_note o) (without_node s o))
unfolding remove_note pieces_of without_node row_change without_roles no_change without_folder without_file
removed s None some = absurd (false≢true (sym some))
removed s (Some (Folder f)) some =
    unsealed s (without_folder s f.0) [] (λ g. none_wanted (data_of g)) (λ x. none_wanted (file_role x))
    (λ e i. folder_same s e (In-filter FolderEntry (λ e. not (e.id == f.0)) e s.folders i).0) (file_same s) (λ e i. i)
removed s (Some (File x)) some =
    unsealed s (without_file s x.0) [] (λ g. none_wanted (data_of g)) (λ y. none_wanted (file_role y))
    (folder_same s) (λ e i. file_same s e (In-filter FileEntry (λ e. not (e.id == x.0)) e s.files i).0) (λ e i. i)

renamed : (s : Store) (o : Option Node) (name : List ℕ) → is_none o ≡ false → HasTree (with_name s o name) → IsKept s (with_name s o name) (row_change s (rename_note o)).wanted (pieces_of (rename_note o) (with_name s o name))
unfolding rename_note pieces_of with_name row_change no_change
renamed s None name some tree = absurd (false≢true (sym some))
renamed s (Some (Folder f)) name some tree = folder_set s f.0 (λ e. record e { name = name }) (λ e. refl) tree
renamed s (Some (File x)) name some tree = file_set s x.0 (λ e. record e { name = name }) (λ e. refl) tree

two_apart : (a b c : Role) → (variant_of a == variant_of b) ≡ false → (variant_of a == variant_of c) ≡ false → In a (b ∷ c ∷ []) → ⊥
two_apart a b c t u i = ⊎_elim (λ (e : a ≡ b). apart a b t (inl e)) (λ j. apart a c u j) i

-- neither a file's clearance nor the files of a folder is a sealing key's role
cond_apart : (a : Role) (b : Bool) (xs ys : List Role) → (In a xs → ⊥) → (In a ys → ⊥) → In a (cond b xs ys) → ⊥
cond_apart a true xs ys first second i = first i
cond_apart a false xs ys first second i = second i

move_apart : (s : Store) (x into : ℕ) (a : Role) → (variant_of a == variant_of (files_of into)) ≡ false → (variant_of a == variant_of (clear_of (clear_number x))) ≡ false
    → In a (files_of into ∷ clearance_in s x) → ⊥
unfolding clearance_in
move_apart s x into a t u i = ⊎_elim
    (λ (e : a ≡ files_of into). apart a (files_of into) t (inl e))
    (λ j. cond_apart a (has_grants s (clear_number x)) (clear_of (clear_number x) ∷ []) [] (apart a (clear_of (clear_number x)) u) (none_wanted a) j)
    i

change_apart : (a : Role) (b : Bool) (c d : Change) → (In a c.wanted → ⊥) → (In a d.wanted → ⊥) → In a (cond b c d).wanted → ⊥
change_apart a true c d first second i = first i
change_apart a false c d first second i = second i

given_apart : (s : Store) (h f : ℕ) (a : Role) (file : Option ℕ) → In a (given_on s h f file).wanted → ⊥
unfolding given_on no_change
given_apart s h f a None i = i
given_apart s h f a (Some x) i =
    change_apart a (has_grants s f) (record no_change { added = grant_edge h f ∷ [] }) (record no_change { fresh = clear_of f ∷ []; added = edges_of_first s h x }) (none_wanted a) (none_wanted a) i

taken_apart : (s : Store) (h f : ℕ) (a : Role) → (variant_of a == variant_of (clear_of f)) ≡ false → (file : Option ℕ) → In a (taken_from s h f file).wanted → ⊥
unfolding taken_from without_roles no_change
taken_apart s h f a t None i = apart a (clear_of f) t i
taken_apart s h f a t (Some x) i =
    change_apart a (has_grants (without_grant s h f) f) (record no_change { removed = grant_edge h f ∷ []; wanted = clear_of f ∷ [] }) (without_roles s (clear_of f ∷ [])) (apart a (clear_of f) t) (none_wanted a) i

shifted : (s : Store) (o : Option Node) (into : ℕ) → is_none o ≡ false → IsKept s (moved s o into) (row_change s (move_note o into)).wanted (pieces_of (move_note o into) (moved s o into))
unfolding move_note pieces_of moved row_change no_change data_of file_role files_of sub_of back_of clear_of variant_of
shifted s None into some = absurd (false≢true (sym some))
shifted s (Some (Folder g)) into some =
    unsealed s (with_folder s g.0 (λ e. record e { parent = into })) (sub_of into ∷ back_of g.0 ∷ [])
    (λ f. two_apart (data_of f) (sub_of into) (back_of g.0) refl refl) (λ x. two_apart (file_role x) (sub_of into) (back_of g.0) refl refl)
    (folder_shifted s g.0 into) (λ e i. file_same s e (unfold with_folder in i)) (λ e i. unfold with_folder in i)
shifted s (Some (File x)) into some =
    unsealed s (with_file s x.0 (λ e. record e { folder = into })) (files_of into ∷ clearance_in s x.0)
    (λ f. move_apart s x.0 into (data_of f) refl refl) (λ y. move_apart s x.0 into (file_role y) refl refl)
    (λ e i. folder_same s e (unfold with_file in i)) (file_shifted s x.0 into) (λ e i. unfold with_file in i)

granted : (s : Store) (h f : ℕ) → IsKept s (record s { grants = s.grants ++ record { holder = h; folder = f } ∷ [] }) (row_change s (Give h f)).wanted []
unfolding row_change
granted s h f =
    unsealed s (record s { grants = s.grants ++ record { holder = h; folder = f } ∷ [] }) (given_on s h f (clearances.file_of f)).wanted
    (λ g. given_apart s h f (data_of g) (clearances.file_of f)) (λ x. given_apart s h f (file_role x) (clearances.file_of f)) (folder_same s) (file_same s) (λ e i. i)

revoked : (s : Store) (h f : ℕ) → IsKept s (without_grant s h f) (row_change s (Take h f)).wanted []
unfolding row_change without_grant data_of file_role clear_of variant_of
revoked s h f =
    unsealed s (without_grant s h f) (taken_from s h f (clearances.file_of f)).wanted
    (λ g. taken_apart s h f (data_of g) refl (clearances.file_of f)) (λ x. taken_apart s h f (file_role x) refl (clearances.file_of f)) (folder_same s) (file_same s) (λ e i. i)

-- an upgrade changes none of it
pub upgrade_kept : (strict : Bool) (s : Store) → IsKept s s (change_of strict s Upgrade).wanted (pieces_of Upgrade s)
unfolding change_of row_change no_change pieces_of
upgrade_kept strict s = unsealed s s [] (λ g. none_wanted (data_of g)) (λ x. none_wanted (file_role x)) (folder_same s) (file_same s) (λ e i. i)

-- each command keeps or seals all that stands after it
pub command_kept : (s : Store) (r : Request) (key : List ℕ) → IsAccepted s r → AreCounted s → HasTree (effect s r key)
    → IsKept s (effect s r key) (row_change s (note_of s r [])).wanted (pieces_of (note_of s r []) (effect s r key))
unfolding note_of effect pieces_of finds_no_path writes_folder paths_of
command_kept s AddHolder key a counted tree = holder_made s key [] counted
command_kept s (MakeFolder path) key a counted tree =
    folder_made s (id_of (node_at s (parent_path path))) (id_of (node_at s (parent_path path))) (last_name (names_of path)) counted
command_kept s (WriteFile path bytes) key a counted tree = written s path bytes (node_at s path) (id_of (node_at s (parent_path path))) counted a.writes_file tree
command_kept s (Remove path) key a counted tree = removed s (node_at s path) (or_parts (is_none (node_at s path)) false a.finds_path).0
command_kept s (Rename path name) key a counted tree = renamed s (node_at s path) name (or_parts (is_none (node_at s path)) false a.finds_path).0 tree
command_kept s (Relocate path into) key a counted tree =
    shifted s (node_at s path) (id_of (node_at s into)) (or_parts (is_none (node_at s path)) (is_none (node_at s into) || false) a.finds_path).0
command_kept s (Grant h path) key a counted tree = granted s h (granted_id (node_at s path))
command_kept s (Revoke h path) key a counted tree = revoked s h (granted_id (node_at s path))

-- a holder that stands after a command stood before it, or is made by it
abbrev pub HolderStood : Store → Request → List ℕ → HolderEntry → Type 0
HolderStood s r key e = In e s.holders ⊎ ((r ≡ AddHolder) × (e.number ≡ s.holders_made + 1) × (e.key ≡ key))

bytes_holders : (s : Store) (o : Option Node) (path bytes : List ℕ) → (with_bytes_at s o path bytes).holders ≡ s.holders
unfolding with_bytes_at with_new_file with_file
bytes_holders s None path bytes = refl
bytes_holders s (Some (Folder f)) path bytes = refl
bytes_holders s (Some (File x)) path bytes = refl

less_holders : (s : Store) (o : Option Node) → (without_node s o).holders ≡ s.holders
unfolding without_node without_folder without_file
less_holders s None = refl
less_holders s (Some (Folder f)) = refl
less_holders s (Some (File x)) = refl

named_holders : (s : Store) (o : Option Node) (name : List ℕ) → (with_name s o name).holders ≡ s.holders
unfolding with_name with_folder with_file
named_holders s None name = refl
named_holders s (Some (Folder f)) name = refl
named_holders s (Some (File x)) name = refl

moved_holders : (s : Store) (o : Option Node) (into : ℕ) → (moved s o into).holders ≡ s.holders
unfolding moved with_folder with_file
moved_holders s None into = refl
moved_holders s (Some (Folder f)) into = refl
moved_holders s (Some (File x)) into = refl

pub command_holders : (s : Store) (r : Request) (key : List ℕ) (e : HolderEntry) → In e (effect s r key).holders → HolderStood s r key e
unfolding effect with_new_holder with_new_folder without_grant
command_holders s AddHolder key e i = ⊎_elim
    (λ old. inl old)
    (λ last. ⊎_elim (λ (q : e ≡ record { number = s.holders_made + 1; key = key }). inr (refl, ap (λ (z : HolderEntry). z.number) q, ap (λ (z : HolderEntry). z.key) q)) (λ n. absurd n) last)
    ((In-append HolderEntry e s.holders (record { number = s.holders_made + 1; key = key } ∷ [])).0 i)
command_holders s (MakeFolder path) key e i = inl i
command_holders s (WriteFile path bytes) key e i = inl (subst (λ (hs : List HolderEntry). In e hs) (bytes_holders s (node_at s path) path bytes) i)
command_holders s (Remove path) key e i = inl (subst (λ (hs : List HolderEntry). In e hs) (less_holders s (node_at s path)) i)
command_holders s (Rename path name) key e i = inl (subst (λ (hs : List HolderEntry). In e hs) (named_holders s (node_at s path) name) i)
command_holders s (Relocate path into) key e i = inl (subst (λ (hs : List HolderEntry). In e hs) (moved_holders s (node_at s path) (id_of (node_at s into))) i)
command_holders s (Grant h path) key e i = inl i
command_holders s (Revoke h path) key e i = inl i

-- so does the making of the root
root_kept : IsKept no_store root_store (root_change 1).wanted (pieces_of Root root_store)
unfolding pieces_of row_change no_change folder_piece folder_entry root_store no_store text_of
root_kept = record {
  folders = λ e i. ⊎_elim
      (λ (q : e ≡ record { id = 1; parent = 0; name = [] }). inl (subst (λ (z : FolderEntry). IsNow (record { kind = 1; object = 1; name = []; bytes = [] } ∷ []) 1 z.id z.name) (sym q) (record { kind = 1; object = 1; name = []; bytes = [] }, refl, refl, refl, refl)))
      (λ n. absurd n)
      i;
  files = λ e i. absurd i;
  holders = λ e i. absurd i;
}

-- either note that makes the root seals its name
pub either_kept : (version : ℕ) → IsKept no_store root_store (change_of false no_store (root_note version)).wanted (pieces_of (root_note version) root_store)
unfolding change_of row_change no_change pieces_of
either_kept version = of_root (λ note. IsKept no_store root_store (row_change no_store note).wanted (pieces_of note root_store)) root_kept root_kept version
