-- What a note seals is sealed under the present key of a clean role, which a holder reaches only where it is shown.
use Rattle.std.proofs.Common.{◌≡◌, ℕ, ◌+◌, Bool, true, List, [], ◌∷◌, Some, None, inl, inr, ◌⊎◌, ⊎_elim, refl, sym, ap, ◌∙◌, subst}
use Rattle.std.proofs.lemmas.Bool.{false≢true}
use Rattle.cry_base.specs.Sets.{In}
use Rattle.cry_base.specs.Store.{Store, FolderEntry, FileEntry, HolderEntry, folder_node, file_node, folder_entry, file_entry, holder_entry}
use Rattle.cry_base.specs.declared.roles.Edge.{Edge}
use Rattle.cry_base.specs.declared.roles.Role.{Role}
use Rattle.cry_base.specs.declared.roles.Role.TheVariants.{Owner}
use Rattle.cry_base.proofs.Members.{In-map}
use Rattle.role_graph.specs.Edges.{IsEdge, Reaches, edges}
use Rattle.role_graph.specs.RightsByReach.{HasFolder, IsRightful}
use Rattle.role_graph.specs.Roles.{holder_role, data_of, file_role, folder_roles, is_sealing_role, variant_of}
use Rattle.role_graph.proofs.Rightful.{rights_by_reach}
use Rattle.move_plan.specs.Change.{Change, no_change, row_change, change_of}
use Rattle.record_format.specs.Noted.{Note}
use Rattle.record_format.specs.Noted.Note.{Root, NewHolder, NewFolder, NewFile, Rewrite, NameFile, NameFolder, DropFile, DropFolder, ShiftFile, ShiftFolder, Give, Take, StrictRoot, Upgrade}
use Rattle.public_fold.specs.Keyed.{HasRole}
use Rattle.public_fold.specs.KeyStep.{numbered, present, content_of, contents_from}
use Rattle.public_fold.specs.Records.{Content, Piece, folder_piece, file_piece, holder_piece, pieces_of, sealing_role}
use Rattle.public_fold.proofs.KeyMoves.{IsSound}
use Rattle.public_fold.proofs.Settling.{rooted_settled}
use Rattle.public_fold.proofs.Treeing.{file_own, folder_own}
use Rattle.closure_laws.specs.Secrecy.{IsShownNode, node_of_piece}
use Rattle.secrecy_laws.proofs.Bringing.{reached_end, standing, found_file, found_folder}

-- a folder's name, a file, a holder's key
pub record IsFolderPiece (t : Store) (piece : Piece) (f : ℕ) : Type 0 where
  pub entry : FolderEntry
  pub stands : folder_entry t f ≡ Some entry
  pub role : sealing_role piece ≡ data_of f
  pub node : node_of_piece piece ≡ Some (folder_node f)

pub record IsFilePiece (t : Store) (piece : Piece) (x : ℕ) : Type 0 where
  pub entry : FileEntry
  pub stands : file_entry t x ≡ Some entry
  pub role : sealing_role piece ≡ file_role x
  pub node : node_of_piece piece ≡ Some (file_node x)

abbrev pub IsSealedPiece : Store → Piece → Type 0
IsSealedPiece t piece = ((f : ℕ) × IsFolderPiece t piece f) ⊎ (((x : ℕ) × IsFilePiece t piece x) ⊎ (sealing_role piece ≡ Owner))

folder_made : (t : Store) (piece : Piece) (f : ℕ) (e : FolderEntry) → folder_entry t f ≡ Some e → piece ≡ record { kind = 1; object = f; name = e.name; bytes = [] } → IsFolderPiece t piece f
unfolding sealing_role node_of_piece
folder_made t piece f e there q = record { entry = e; stands = there; role = ap sealing_role q; node = ap node_of_piece q }

folder_sealed : (t : Store) (piece : Piece) (f : ℕ) → In piece (folder_piece t f) → IsFolderPiece t piece f
unfolding folder_piece
folder_sealed t piece f =
    (elim (folder_entry t f) as (λ o. folder_entry t f ≡ o → In piece (elim o as (λ z. List Piece) [ None ↦ [] | Some e ↦ record { kind = 1; object = f; name = e.name; bytes = [] } ∷ [] ]) → IsFolderPiece t piece f) [
      | None ↦ λ there i. absurd i
      | Some e ↦ λ there i. ⊎_elim (λ q. folder_made t piece f e there q) (λ n. absurd n) i
    ]) refl

file_made : (t : Store) (piece : Piece) (x : ℕ) (e : FileEntry) → file_entry t x ≡ Some e → piece ≡ record { kind = 2; object = x; name = e.name; bytes = e.bytes } → IsFilePiece t piece x
unfolding sealing_role node_of_piece
file_made t piece x e there q = record { entry = e; stands = there; role = ap sealing_role q; node = ap node_of_piece q }

file_sealed : (t : Store) (piece : Piece) (x : ℕ) → In piece (file_piece t x) → IsFilePiece t piece x
unfolding file_piece
file_sealed t piece x =
    (elim (file_entry t x) as (λ o. file_entry t x ≡ o → In piece (elim o as (λ z. List Piece) [ None ↦ [] | Some e ↦ record { kind = 2; object = x; name = e.name; bytes = e.bytes } ∷ [] ]) → IsFilePiece t piece x) [
      | None ↦ λ there i. absurd i
      | Some e ↦ λ there i. ⊎_elim (λ q. file_made t piece x e there q) (λ n. absurd n) i
    ]) refl

holder_made : (piece : Piece) (h : ℕ) (e : HolderEntry) → piece ≡ record { kind = 3; object = h; name = []; bytes = e.key } → sealing_role piece ≡ Owner
unfolding sealing_role
holder_made piece h e q = ap sealing_role q

holder_sealed : (t : Store) (piece : Piece) (h : ℕ) → In piece (holder_piece t h) → sealing_role piece ≡ Owner
unfolding holder_piece
holder_sealed t piece h =
    elim (holder_entry t h) as (λ o. In piece (elim o as (λ z. List Piece) [ None ↦ [] | Some e ↦ record { kind = 3; object = h; name = []; bytes = e.key } ∷ [] ]) → sealing_role piece ≡ Owner) [
      | None ↦ λ i. absurd i
      | Some e ↦ λ i. ⊎_elim (λ q. holder_made piece h e q) (λ n. absurd n) i
    ]

pub pieces_sealed : (t : Store) (note : Note) (piece : Piece) → In piece (pieces_of note t) → IsSealedPiece t piece
unfolding pieces_of
pieces_sealed t Root piece i = inl (1, folder_sealed t piece 1 i)
pieces_sealed t (NewHolder h check) piece i = inr (inr (holder_sealed t piece h i))
pieces_sealed t (NewFolder f p) piece i = inl (f, folder_sealed t piece f i)
pieces_sealed t (NewFile x f) piece i = inr (inl (x, file_sealed t piece x i))
pieces_sealed t (Rewrite x) piece i = inr (inl (x, file_sealed t piece x i))
pieces_sealed t (NameFile x) piece i = inr (inl (x, file_sealed t piece x i))
pieces_sealed t (NameFolder f) piece i = inl (f, folder_sealed t piece f i)
pieces_sealed t (DropFile x) piece i = absurd i
pieces_sealed t (DropFolder f) piece i = absurd i
pieces_sealed t (ShiftFile x g) piece i = absurd i
pieces_sealed t (ShiftFolder g q) piece i = absurd i
pieces_sealed t (Give h f) piece i = absurd i
pieces_sealed t (Take h f) piece i = absurd i
pieces_sealed t StrictRoot piece i = inl (1, folder_sealed t piece 1 i)
pieces_sealed t Upgrade piece i = absurd i

-- the sealing role is the owner's, or is wanted or new
abbrev pub IsDueRole : Change → Role → Type 0
IsDueRole c r = (r ≡ Owner) ⊎ (In r c.wanted ⊎ In r c.fresh)

data_is_new : (r : Role) (f : ℕ) → r ≡ data_of f → In r (folder_roles f)
unfolding folder_roles
data_is_new r f q = inr (inr (inr (inr (inl q))))

row_due : (s t : Store) (note : Note) (piece : Piece) → In piece (pieces_of note t) → IsDueRole (row_change s note) (sealing_role piece)
unfolding pieces_of row_change no_change
row_due s t Root piece i = inr (inr (data_is_new (sealing_role piece) 1 (folder_sealed t piece 1 i).role))
row_due s t (NewHolder h check) piece i = inl (holder_sealed t piece h i)
row_due s t (NewFolder f p) piece i = inr (inr (data_is_new (sealing_role piece) f (folder_sealed t piece f i).role))
row_due s t (NewFile x f) piece i = inr (inr (inl (file_sealed t piece x i).role))
row_due s t (Rewrite x) piece i = inr (inl (inl (file_sealed t piece x i).role))
row_due s t (NameFile x) piece i = inr (inl (inl (file_sealed t piece x i).role))
row_due s t (NameFolder f) piece i = inr (inl (inl (folder_sealed t piece f i).role))
row_due s t (DropFile x) piece i = absurd i
row_due s t (DropFolder f) piece i = absurd i
row_due s t (ShiftFile x g) piece i = absurd i
row_due s t (ShiftFolder g q) piece i = absurd i
row_due s t (Give h f) piece i = absurd i
row_due s t (Take h f) piece i = absurd i
row_due s t StrictRoot piece i = inr (inr (data_is_new (sealing_role piece) 1 (folder_sealed t piece 1 i).role))
row_due s t Upgrade piece i = absurd i

pub sealed_due : (strict : Bool) (s t : Store) (note : Note) (piece : Piece) → In piece (pieces_of note t) → IsDueRole (change_of strict s note) (sealing_role piece)
unfolding change_of
sealed_due strict s t note piece i = row_due s t note piece i

-- it stands
pub sealed_stands : (t : Store) (piece : Piece) → IsSealedPiece t piece → HasRole t (sealing_role piece)
unfolding data_of file_role
sealed_stands t piece w = ⊎_elim
    (λ u. let e = found_folder t u.0 u.1.entry u.1.stands in subst (HasRole t) (sym u.1.role) (u.1.entry, e.0, e.1))
    (λ v. ⊎_elim
    (λ u. let e = found_file t u.0 u.1.entry u.1.stands in subst (HasRole t) (sym u.1.role) (u.1.entry, e.0, e.1))
    (λ q. subst (HasRole t) (sym q) tt) v) w

-- and is in reach only where the piece is shown
pub reached_shown : (t : Store) (h : ℕ) (piece : Piece) → IsSound t → IsSealedPiece t piece → Reaches (edges t) (holder_role h) (sealing_role piece) → IsShownNode t h (node_of_piece piece)
unfolding data_of file_role folder_node file_node
reached_shown t h piece ok w way =
    let right = (rights_by_reach t (rooted_settled t ok.rooted) h (sealing_role piece) (standing t (sealing_role piece) (sealed_stands t piece w))).0 way in ⊎_elim
    (λ u. let named = subst (IsRightful t h) u.1.role right in
    subst (IsShownNode t h) (sym u.1.node) (u.1.entry, u.1.stands, named))
    (λ v. ⊎_elim
    (λ u. let allowed = subst (IsRightful t h) u.1.role right in
    subst (IsShownNode t h) (sym u.1.node) (allowed.0, file_own t allowed.0 u.0 ok.tree allowed.1 allowed.2, allowed.3))
    (λ q. absurd (subst (IsRightful t h) q right)) v) w

-- a role that seals stands where a holder reaches it
seals_standing : (t : Store) (h : ℕ) (r : Role) → ((e : Edge) → IsEdge t e → HasRole t e.from × HasRole t e.to) → is_sealing_role r ≡ true → Reaches (edges t) (holder_role h) r → HasRole t r
unfolding holder_role is_sealing_role variant_of
seals_standing t h r ends seals way = ⊎_elim
    (λ (e : r ≡ holder_role h). absurd (false≢true (sym (ap is_sealing_role e) ∙ seals)))
    (λ stands. stands)
    (reached_end t ends (holder_role h) r way)

-- so a piece that was sealed in one store is one of a store where its role is in reach
pub sealed_later : (s t : Store) (h : ℕ) (piece : Piece) → IsSound t → ((e : Edge) → IsEdge t e → HasRole t e.from × HasRole t e.to) → IsSealedPiece s piece
    → Reaches (edges t) (holder_role h) (sealing_role piece) → IsSealedPiece t piece
unfolding data_of file_role is_sealing_role variant_of
sealed_later s t h piece ok ends w way = ⊎_elim
    (λ u. let has : HasFolder t u.0 = subst (HasRole t) u.1.role (seals_standing t h (sealing_role piece) ends (ap is_sealing_role u.1.role) way) in
    inl (u.0, record { entry = has.0; stands = folder_own t has.0 u.0 ok.tree has.1 has.2; role = u.1.role; node = u.1.node }))
    (λ v. inr (⊎_elim
    (λ u. let has : (e : FileEntry) × In e t.files × (e.id ≡ u.0) = subst (HasRole t) u.1.role (seals_standing t h (sealing_role piece) ends (ap is_sealing_role u.1.role) way) in
    inl (u.0, record { entry = has.0; stands = file_own t has.0 u.0 ok.tree has.1 has.2; role = u.1.role; node = u.1.node }))
    (λ q. inr q) v)) w

-- a content is of a piece, under the present key of its role
pieces_numbered : (n : ℕ) (ps : List Piece) (q : Piece × ℕ) → In q (numbered n ps) → In q.0 ps
unfolding numbered
pieces_numbered n [] q i = i
pieces_numbered n (x ∷ xs) q i = ⊎_elim (λ s. inl (ap (λ (z : Piece × ℕ). z.0) s)) (λ r. inr (pieces_numbered (n + 1) xs q r)) i

pub content_told : (keys : List (Role × ℕ)) (n : ℕ) (ps : List Piece) (c : Content) → In c (contents_from keys n ps) → In c.piece ps × (c.key_serial ≡ present keys (sealing_role c.piece))
unfolding contents_from content_of
content_told keys n ps c i =
    let w = (In-map (Piece × ℕ) Content (content_of keys) c (numbered n ps)).0 i in
    let same : c.piece ≡ w.0.0 = ap (λ (x : Content). x.piece) w.2 in
    (subst (λ z. In z ps) (sym same) (pieces_numbered n ps w.0 w.1), ap (λ (x : Content). x.key_serial) w.2 ∙ ap (λ z. present keys (sealing_role z)) (sym same))
