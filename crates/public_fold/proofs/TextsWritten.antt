-- Each folder, file and holder that comes has a content in the step of its note.
use Rattle.std.proofs.Common.{◌≡◌, true, ℕ, ◌+◌, ◌≤◌, false, ◌==◌, List, [], ◌∷◌, ◌++◌, length, Some, None, inl, inr, ⊎_elim, refl, sym, ap, ◌∙◌, subst, arith}
use Rattle.std.proofs.lemmas.Bool.{eq-eqb, false≢true}
use Rattle.cry_base.specs.Clearances.{file_of}
use Rattle.cry_base.specs.Sets.{In}
use Rattle.cry_base.specs.Store.{Store, FolderEntry, FileEntry, HolderEntry, folder_entry, file_entry, holder_entry}
use Rattle.cry_base.specs.declared.roles.Role.{Role}
use Rattle.cry_base.proofs.Finding.{found-find}
use Rattle.cry_base.proofs.Members.{In-append}
use Rattle.role_graph.specs.Edges.{edges}
use Rattle.role_graph.specs.RightsByReach.{HasFolder}
use Rattle.role_graph.specs.Roles.{holder_role, clear_of, sub_of, back_of, files_of, data_of, file_role, folder_roles, variant_of, role_id}
use Rattle.move_plan.specs.Change.{no_change, row_change, change_of, without_roles}
use Rattle.move_plan.specs.Fitting.{fits}
use Rattle.record_format.specs.Noted.{Note}
use Rattle.record_format.specs.Noted.Note.{Root, NewHolder, NewFolder, NewFile, Rewrite, NameFile, NameFolder, DropFile, DropFolder, ShiftFile, ShiftFolder, Give, Take, StrictRoot, Upgrade}
use Rattle.public_fold.specs.Fitted.{told_stand, told_step}
use Rattle.public_fold.specs.Journal.{Stand, note_step}
use Rattle.public_fold.specs.KeyStep.{is_strict, next_serial, numbered, present, renewed, given, keys_then, published_edges, content_of, contents_from, published, step_with, key_step}
use Rattle.public_fold.specs.Records.{Piece, Content, folder_piece, file_piece, holder_piece, pieces_of, sealing_role}
use Rattle.public_fold.specs.Rooted.{MayStand}
use Rattle.public_fold.specs.Texts.{HasContent, AreWritten}
use Rattle.public_fold.specs.Told.{told_store}
use Rattle.public_fold.proofs.KeepingKeys.{IsMove}
use Rattle.public_fold.proofs.NoteMoves.{note_moves}
use Rattle.public_fold.proofs.RolesAfter.{HasHolder, HasFile}
use Rattle.public_fold.proofs.RowEnds.{given_fresh, taken_fresh}

-- what is sealed of something that stands
abbrev IsPiece : List Piece → ℕ → ℕ → Type 0
IsPiece pieces kind object = (p : Piece) × (pieces ≡ p ∷ []) × (p.kind ≡ kind) × (p.object ≡ object)

folder_text : (t : Store) (f : ℕ) → HasFolder t f → IsPiece (folder_piece t f) 1 f
unfolding folder_piece folder_entry
folder_text t f w =
    let u = found-find FolderEntry (λ e. e.id == f) w.0 t.folders w.1 (eq-eqb w.0.id f w.2) in
    let p : Piece = record { kind = 1; object = f; name = u.0.name; bytes = [] } in
    (p, ap (λ o. elim o as (λ z. List Piece) [ None ↦ [] | Some e ↦ record { kind = 1; object = f; name = e.name; bytes = [] } ∷ [] ]) u.1, refl, refl)

file_text : (t : Store) (x : ℕ) → HasFile t x → IsPiece (file_piece t x) 2 x
unfolding file_piece file_entry
file_text t x w =
    let u = found-find FileEntry (λ e. e.id == x) w.0 t.files w.1 (eq-eqb w.0.id x w.2) in
    let p : Piece = record { kind = 2; object = x; name = u.0.name; bytes = u.0.bytes } in
    (p, ap (λ o. elim o as (λ z. List Piece) [ None ↦ [] | Some e ↦ record { kind = 2; object = x; name = e.name; bytes = e.bytes } ∷ [] ]) u.1, refl, refl)

holder_text : (t : Store) (h : ℕ) → HasHolder t h → IsPiece (holder_piece t h) 3 h
unfolding holder_piece holder_entry
holder_text t h w =
    let u = found-find HolderEntry (λ e. e.number == h) w.0 t.holders w.1 (eq-eqb w.0.number h w.2) in
    let p : Piece = record { kind = 3; object = h; name = []; bytes = u.0.key } in
    (p, ap (λ o. elim o as (λ z. List Piece) [ None ↦ [] | Some e ↦ record { kind = 3; object = h; name = []; bytes = e.key } ∷ [] ]) u.1, refl, refl)

-- the roles of a folder are of its number, and neither a holder's nor a file's
folder_role : (n : ℕ) (r : Role) → In r (folder_roles n) → (role_id r ≡ n) × (2 ≤ variant_of r) × (variant_of r ≤ 6)
unfolding folder_roles clear_of sub_of back_of files_of data_of role_id variant_of
folder_role n r i =
    let P : Role → Type 0 = λ r. (role_id r ≡ n) × (2 ≤ variant_of r) × (variant_of r ≤ 6) in ⊎_elim
    (λ q. subst P (sym q) (refl, omega arith, omega arith))
    (λ a. ⊎_elim (λ q. subst P (sym q) (refl, omega arith, omega arith))
    (λ b. ⊎_elim (λ q. subst P (sym q) (refl, omega arith, omega arith))
    (λ c. ⊎_elim (λ q. subst P (sym q) (refl, omega arith, omega arith))
    (λ d. ⊎_elim (λ q. subst P (sym q) (refl, omega arith, omega arith)) (λ z. absurd z) d) c) b) a) i

data_in : (n f : ℕ) → In (data_of f) (folder_roles n) → f ≡ n
unfolding data_of role_id
data_in n f i = (folder_role n (data_of f) i).0

file_out : (n x : ℕ) → In (file_role x) (folder_roles n) → ⊥
unfolding file_role variant_of
file_out n x i = let low : 7 ≤ 6 = (folder_role n (file_role x) i).2 in omega arith

holder_out : (n h : ℕ) → In (holder_role h) (folder_roles n) → ⊥
unfolding holder_role variant_of
holder_out n h i = let low : 2 ≤ 1 = (folder_role n (holder_role h) i).1 in omega arith

one_role : (a b : Role) → In a (b ∷ []) → (variant_of a ≡ variant_of b) × (role_id a ≡ role_id b)
one_role a b i = ⊎_elim (λ q. (ap variant_of q, ap role_id q)) (λ z. absurd z) i

other_role : (a b : Role) → (variant_of a == variant_of b) ≡ false → In a (b ∷ []) → ⊥
other_role a b t i = false≢true (sym t ∙ eq-eqb (variant_of a) (variant_of b) (one_role a b i).0)

-- what comes is sealed
fresh_folder : (s t : Store) (note : Note) (f : ℕ) → In (data_of f) (row_change s note).fresh → pieces_of note t ≡ folder_piece t f
unfolding row_change without_roles no_change pieces_of data_of clear_of holder_role file_role variant_of
fresh_folder s t Root f i = ap (folder_piece t) (sym (data_in 1 f i))
fresh_folder s t (NewHolder h check) f i = absurd (other_role (data_of f) (holder_role h) refl i)
fresh_folder s t (NewFolder n p) f i = ap (folder_piece t) (sym (data_in n f i))
fresh_folder s t (NewFile x g) f i = absurd (other_role (data_of f) (file_role x) refl i)
fresh_folder s t (Rewrite x) f i = absurd i
fresh_folder s t (NameFile x) f i = absurd i
fresh_folder s t (NameFolder g) f i = absurd i
fresh_folder s t (DropFile x) f i = absurd i
fresh_folder s t (DropFolder g) f i = absurd i
fresh_folder s t (ShiftFile x g) f i = absurd i
fresh_folder s t (ShiftFolder g q) f i = absurd i
fresh_folder s t (Give h g) f i = absurd (other_role (data_of f) (clear_of g) refl (inl (given_fresh s h g (file_of g) (data_of f) i)))
fresh_folder s t (Take h g) f i = absurd (taken_fresh s h g (file_of g) (data_of f) i)
fresh_folder s t StrictRoot f i = ap (folder_piece t) (sym (data_in 1 f i))
fresh_folder s t Upgrade f i = absurd i

fresh_file : (s t : Store) (note : Note) (x : ℕ) → In (file_role x) (row_change s note).fresh → pieces_of note t ≡ file_piece t x
unfolding row_change without_roles no_change pieces_of clear_of holder_role file_role variant_of role_id
fresh_file s t Root x i = absurd (file_out 1 x i)
fresh_file s t (NewHolder h check) x i = absurd (other_role (file_role x) (holder_role h) refl i)
fresh_file s t (NewFolder n p) x i = absurd (file_out n x i)
fresh_file s t (NewFile y g) x i = ap (file_piece t) (sym (one_role (file_role x) (file_role y) i).1)
fresh_file s t (Rewrite y) x i = absurd i
fresh_file s t (NameFile y) x i = absurd i
fresh_file s t (NameFolder g) x i = absurd i
fresh_file s t (DropFile y) x i = absurd i
fresh_file s t (DropFolder g) x i = absurd i
fresh_file s t (ShiftFile y g) x i = absurd i
fresh_file s t (ShiftFolder g q) x i = absurd i
fresh_file s t (Give h g) x i = absurd (other_role (file_role x) (clear_of g) refl (inl (given_fresh s h g (file_of g) (file_role x) i)))
fresh_file s t (Take h g) x i = absurd (taken_fresh s h g (file_of g) (file_role x) i)
fresh_file s t StrictRoot x i = absurd (file_out 1 x i)
fresh_file s t Upgrade x i = absurd i

fresh_holder : (s t : Store) (note : Note) (h : ℕ) → In (holder_role h) (row_change s note).fresh → pieces_of note t ≡ holder_piece t h
unfolding row_change without_roles no_change pieces_of clear_of holder_role file_role variant_of role_id
fresh_holder s t Root h i = absurd (holder_out 1 h i)
fresh_holder s t (NewHolder k check) h i = ap (holder_piece t) (sym (one_role (holder_role h) (holder_role k) i).1)
fresh_holder s t (NewFolder n p) h i = absurd (holder_out n h i)
fresh_holder s t (NewFile y g) h i = absurd (other_role (holder_role h) (file_role y) refl i)
fresh_holder s t (Rewrite y) h i = absurd i
fresh_holder s t (NameFile y) h i = absurd i
fresh_holder s t (NameFolder g) h i = absurd i
fresh_holder s t (DropFile y) h i = absurd i
fresh_holder s t (DropFolder g) h i = absurd i
fresh_holder s t (ShiftFile y g) h i = absurd i
fresh_holder s t (ShiftFolder g q) h i = absurd i
fresh_holder s t (Give k g) h i = absurd (other_role (holder_role h) (clear_of g) refl (inl (given_fresh s k g (file_of g) (holder_role h) i)))
fresh_holder s t (Take k g) h i = absurd (taken_fresh s k g (file_of g) (holder_role h) i)
fresh_holder s t StrictRoot h i = absurd (holder_out 1 h i)
fresh_holder s t Upgrade h i = absurd i

-- a piece that is due has its content
piece_content : (keys : List (Role × ℕ)) (n : ℕ) (pieces : List Piece) (kind object : ℕ) → IsPiece pieces kind object → HasContent (contents_from keys n pieces) kind object
unfolding contents_from content_of numbered
piece_content keys n pieces kind object w =
    let c : Content = record { piece = w.0; key_serial = present keys (sealing_role w.0); nonce = n } in
    (c, subst (λ ps. In c (contents_from keys n ps)) (sym w.1) (inl refl), w.2, w.3)

step_content : (at : Stand) (note : Note) (kind object : ℕ) → IsPiece (pieces_of note (told_store at.store note)) kind object → HasContent (told_step at note).contents kind object
unfolding told_step note_step key_step step_with published
step_content at note kind object w =
    let c = change_of (is_strict at.keys) at.store note in
    let p = renewed at.keys (edges at.store) c in
    piece_content (keys_then at.keys c p) (next_serial at.keys + length (given at.keys c p) + length (published_edges (edges at.store) c p)) (pieces_of note (told_store at.store note)) kind object w

earlier_content : (xs ys : List Content) (kind object : ℕ) → HasContent xs kind object → HasContent (xs ++ ys) kind object
earlier_content xs ys kind object w = (w.0, (In-append Content w.0 xs ys).1 (inl w.1), w.2, w.3)

later_content : (xs ys : List Content) (kind object : ℕ) → HasContent ys kind object → HasContent (xs ++ ys) kind object
later_content xs ys kind object w = (w.0, (In-append Content w.0 xs ys).1 (inr w.1), w.2, w.3)

module _ (at : Stand) (note : Note) (contents : List Content) (mv : IsMove at.store (change_of (is_strict at.keys) at.store note) (told_store at.store note)) (ok : AreWritten at.store contents) where
  folder_written : (f : ℕ) → HasFolder (told_store at.store note) f → HasContent (contents ++ (told_step at note).contents) 1 f
  unfolding data_of change_of
  folder_written f w = ⊎_elim
      (λ u. let old : HasFolder at.store f = u.0 in
      earlier_content contents (told_step at note).contents 1 f (subst (HasContent contents 1) old.2 (ok.folders old.0 old.1)))
      (λ i. later_content contents (told_step at note).contents 1 f (step_content at note 1 f
      (subst (λ ps. IsPiece ps 1 f) (sym (fresh_folder at.store (told_store at.store note) note f i)) (folder_text (told_store at.store note) f w))))
      ((mv.roles (data_of f)).0 w)

  file_written : (x : ℕ) → HasFile (told_store at.store note) x → HasContent (contents ++ (told_step at note).contents) 2 x
  unfolding file_role change_of
  file_written x w = ⊎_elim
      (λ u. let old : HasFile at.store x = u.0 in
      earlier_content contents (told_step at note).contents 2 x (subst (HasContent contents 2) old.2 (ok.files old.0 old.1)))
      (λ i. later_content contents (told_step at note).contents 2 x (step_content at note 2 x
      (subst (λ ps. IsPiece ps 2 x) (sym (fresh_file at.store (told_store at.store note) note x i)) (file_text (told_store at.store note) x w))))
      ((mv.roles (file_role x)).0 w)

  holder_written : (h : ℕ) → HasHolder (told_store at.store note) h → HasContent (contents ++ (told_step at note).contents) 3 h
  unfolding holder_role change_of
  holder_written h w = ⊎_elim
      (λ u. let old : HasHolder at.store h = u.0 in
      earlier_content contents (told_step at note).contents 3 h (subst (HasContent contents 3) old.2 (ok.holders old.0 old.1)))
      (λ i. later_content contents (told_step at note).contents 3 h (step_content at note 3 h
      (subst (λ ps. IsPiece ps 3 h) (sym (fresh_holder at.store (told_store at.store note) note h i)) (holder_text (told_store at.store note) h w))))
      ((mv.roles (holder_role h)).0 w)

  all_written : AreWritten (told_store at.store note) (contents ++ (told_step at note).contents)
  all_written = record {
    folders = λ e i. folder_written e.id (e, i, refl);
    files = λ x i. file_written x.id (x, i, refl);
    holders = λ h i. holder_written h.number (h, i, refl);
  }

pub note_written : (at : Stand) (note : Note) (contents : List Content) → fits (is_strict at.keys) at.store note ≡ true → MayStand at.store → AreWritten at.store contents → AreWritten (told_stand at note).store (contents ++ (told_step at note).contents)
unfolding told_stand
note_written at note contents t ok written = all_written at note contents (note_moves (is_strict at.keys) at.store note t ok) written
