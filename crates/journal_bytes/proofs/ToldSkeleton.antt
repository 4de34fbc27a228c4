-- The skeleton of what everyone may see of a command is that of the command.
use Rattle.std.proofs.Common.{◌≡◌, ℕ, ◌+◌, Bool, true, false, cond, ◌==◌, List, [], ◌∷◌, length, map, Some, None, refl, sym, ap, subst, ◌∙◌}
use Rattle.std.specs.Prelude.{find}
use Rattle.std.proofs.lemmas.List.{length-map}
use Rattle.cry_base.specs.Refusing.{refusal_of}
use Rattle.cry_base.specs.Requests.{Request}
use Rattle.cry_base.specs.Requests.Request.{AddHolder, MakeFolder, WriteFile, Remove, Rename, Relocate, Grant, Revoke}
use Rattle.cry_base.specs.Stepping.{effect}
use Rattle.cry_base.specs.Store.{Store, FolderEntry, FileEntry, HolderEntry, folder_entry, file_entry, holder_entry}
use Rattle.cry_base.specs.declared.roles.Edge.{Edge}
use Rattle.cry_base.specs.declared.roles.Role.{Role}
use Rattle.role_graph.specs.Edges.{edges}
use Rattle.move_plan.specs.Change.{Change, change_of, row_change, strict_of, is_upgrade}
use Rattle.move_plan.specs.Fitting.{public_of}
use Rattle.move_plan.specs.Noting.{note_of}
use Rattle.move_plan.proofs.Public.{change_public, edges_public}
use Rattle.log_visits.proofs.ToldLemmas.{accepted_told}
use Rattle.record_format.specs.Noted.{Note}
use Rattle.record_format.specs.Noted.Note.{Root, NewHolder, NewFolder, NewFile, Rewrite, NameFile, NameFolder, DropFile, DropFolder, ShiftFile, ShiftFolder, Give, Take, StrictRoot, Upgrade}
use Rattle.public_fold.specs.Fitted.{told_step}
use Rattle.public_fold.specs.Heads.{IsSkeleton, content_head}
use Rattle.public_fold.specs.Journal.{Journal, Stand, nothing, first_key, note_step, entry_step, stand_after, store_of, keys_of}
use Rattle.public_fold.specs.Journal.Entry.{Did}
use Rattle.public_fold.specs.KeyStep.{KeyState, content_of, contents_from, given, key_step, keys_then, next_serial, numbered, published, published_edges, renewed, step_with, is_strict}
use Rattle.public_fold.specs.Records.{Piece, file_piece, folder_piece, holder_piece, pieces_of, sealing_role}
use Rattle.public_fold.specs.Told.{told_store}
use Rattle.public_fold.specs.declared.heads.Skeleton.{Skeleton}
use Rattle.journal_bytes.specs.Folds.{public_stand}

-- ---- pieces without their texts

abbrev pub bare : Piece → Piece
bare p = record { kind = p.kind; object = p.object; name = []; bytes = [] }

found_bare : (X : Type 0) (test : X → Bool) (f : X → X) (g : X → Piece) → ((x : X) → test (f x) ≡ test x) → ((x : X) → bare (g (f x)) ≡ bare (g x)) → (xs : List X)
    → map bare (elim (find test (map f xs)) as (λ o. List Piece) [ None ↦ [] | Some e ↦ g e ∷ [] ]) ≡ map bare (elim (find test xs) as (λ o. List Piece) [ None ↦ [] | Some e ↦ g e ∷ [] ])
found_bare X test f g same alike [] = refl
found_bare X test f g same alike (x ∷ xs) =
    ap (λ t. map bare (elim (cond t (Some (f x)) (find test (map f xs))) as (λ o. List Piece) [ None ↦ [] | Some e ↦ g e ∷ [] ])) (same x)
    ∙ elim (test x) as (λ t. map bare (elim (cond t (Some (f x)) (find test (map f xs))) as (λ o. List Piece) [ None ↦ [] | Some e ↦ g e ∷ [] ])
    ≡ map bare (elim (cond t (Some x) (find test xs)) as (λ o. List Piece) [ None ↦ [] | Some e ↦ g e ∷ [] ])) [
      | true ↦ ap (λ p. p ∷ []) (alike x)
      | false ↦ found_bare X test f g same alike xs
    ]

folder_bare : (t : Store) (f : ℕ) → map bare (folder_piece (public_of t) f) ≡ map bare (folder_piece t f)
unfolding folder_piece folder_entry public_of
folder_bare t f =
    found_bare FolderEntry (λ e. e.id == f) (λ e. record e { name = [] }) (λ e. record { kind = 1; object = f; name = e.name; bytes = [] }) (λ e. refl) (λ e. refl) t.folders

file_bare : (t : Store) (x : ℕ) → map bare (file_piece (public_of t) x) ≡ map bare (file_piece t x)
unfolding file_piece file_entry public_of
file_bare t x =
    found_bare FileEntry (λ e. e.id == x) (λ e. record e { name = []; bytes = [] }) (λ e. record { kind = 2; object = x; name = e.name; bytes = e.bytes }) (λ e. refl) (λ e. refl) t.files

holder_bare : (t : Store) (h : ℕ) → map bare (holder_piece (public_of t) h) ≡ map bare (holder_piece t h)
unfolding holder_piece holder_entry public_of
holder_bare t h =
    found_bare HolderEntry (λ e. e.number == h) (λ e. record e { key = [] }) (λ e. record { kind = 3; object = h; name = []; bytes = e.key }) (λ e. refl) (λ e. refl) t.holders

pub pieces_bare : (note : Note) (t : Store) → map bare (pieces_of note (public_of t)) ≡ map bare (pieces_of note t)
unfolding pieces_of
pieces_bare Root t = folder_bare t 1
pieces_bare (NewHolder h check) t = holder_bare t h
pieces_bare (NewFolder f p) t = folder_bare t f
pieces_bare (NewFile x f) t = file_bare t x
pieces_bare (Rewrite x) t = file_bare t x
pieces_bare (NameFile x) t = file_bare t x
pieces_bare (NameFolder f) t = folder_bare t f
pieces_bare (DropFile x) t = refl
pieces_bare (DropFolder f) t = refl
pieces_bare (ShiftFile x g) t = refl
pieces_bare (ShiftFolder g q) t = refl
pieces_bare (Give h f) t = refl
pieces_bare (Take h f) t = refl
pieces_bare StrictRoot t = folder_bare t 1
pieces_bare Upgrade t = refl

-- ---- a holder's check changes no key

pub same_pieces : (s : Store) (r : Request) (check : List ℕ) (t : Store) → pieces_of (note_of s r check) t ≡ pieces_of (note_of s r []) t
unfolding note_of pieces_of
same_pieces s AddHolder check t = refl
same_pieces s (MakeFolder path) check t = refl
same_pieces s (WriteFile path bytes) check t = refl
same_pieces s (Remove path) check t = refl
same_pieces s (Rename path name) check t = refl
same_pieces s (Relocate path into) check t = refl
same_pieces s (Grant h path) check t = refl
same_pieces s (Revoke h path) check t = refl

pub same_change : (strict : Bool) (s : Store) (r : Request) (check : List ℕ) → change_of strict s (note_of s r check) ≡ change_of strict s (note_of s r [])
unfolding note_of change_of row_change strict_of is_upgrade
same_change strict s AddHolder check = refl
same_change strict s (MakeFolder path) check = refl
same_change strict s (WriteFile path bytes) check = refl
same_change strict s (Remove path) check = refl
same_change strict s (Rename path name) check = refl
same_change strict s (Relocate path into) check = refl
same_change strict s (Grant h path) check = refl
same_change strict s (Revoke h path) check = refl

-- ---- steps that differ in their texts alone

heads_bare : (keys : List (Role × ℕ)) (n : ℕ) (ps : List Piece) → map content_head (contents_from keys n ps) ≡ map content_head (contents_from keys n (map bare ps))
unfolding contents_from numbered content_of sealing_role
heads_bare keys n [] = refl
heads_bare keys n (p ∷ ps) = ap (λ l. content_head (content_of keys (p, n)) ∷ l) (heads_bare keys (n + 1) ps)

pub same_heads : (keys : List (Role × ℕ)) (n : ℕ) (ps qs : List Piece) → map bare ps ≡ map bare qs → map content_head (contents_from keys n ps) ≡ map content_head (contents_from keys n qs)
same_heads keys n ps qs same = heads_bare keys n ps ∙ ap (λ z. map content_head (contents_from keys n z)) same ∙ sym (heads_bare keys n qs)

other_texts : (k : KeyState) (before : List Edge) (c : Change) (ps qs : List Piece) (s : Skeleton) → map bare ps ≡ map bare qs → IsSkeleton (key_step k before c ps) s → IsSkeleton (key_step k before c qs) s
unfolding key_step step_with published
other_texts k before c ps qs s same is = record {
  keys = is.keys;
  links = is.links;
  contents = is.contents
      ∙ same_heads (keys_then k c (renewed k before c)) (next_serial k + length (given k c (renewed k before c)) + length (published_edges before c (renewed k before c))) ps qs same;
}

same_steps : (k : KeyState) (before edges_before : List Edge) (c d : Change) (ps qs : List Piece) (s : Skeleton) → before ≡ edges_before → c ≡ d → map bare ps ≡ map bare qs
    → IsSkeleton (key_step k before c ps) s → IsSkeleton (key_step k edges_before d qs) s
same_steps k before edges_before c d ps qs s same_edges same same_texts is =
    other_texts k edges_before d ps qs s same_texts
    (subst (λ (x : Change). IsSkeleton (key_step k edges_before x ps) s) same (subst (λ (es : List Edge). IsSkeleton (key_step k es c ps) s) same_edges is))

-- from what everyone may see of a stand
pub told_at : (at : Stand) (request : Request) (check : List ℕ) (drawn : List (List ℕ)) (file_bytes : ℕ) → refusal_of at.store request file_bytes ≡ None
    → (s : Skeleton) → IsSkeleton (told_step (record { store = public_of at.store; keys = at.keys }) (note_of at.store request check)) s → IsSkeleton (entry_step at (Did request drawn)) s
unfolding told_step note_step entry_step
told_at at request check drawn file_bytes none s is =
    let note = note_of at.store request check in
    let plain = note_of at.store request [] in
    let t = effect at.store request (first_key drawn) in
    same_steps at.keys (edges (public_of at.store)) (edges at.store) (change_of (is_strict at.keys) (public_of at.store) note) (change_of (is_strict at.keys) at.store plain) (pieces_of note (told_store (public_of at.store) note)) (pieces_of plain t) s
    (edges_public at.store)
    (change_public (is_strict at.keys) at.store note ∙ same_change (is_strict at.keys) at.store request check)
    (ap (λ z. map bare (pieces_of note z)) (sym (accepted_told at.store request (first_key drawn) check file_bytes none))
    ∙ pieces_bare note t
    ∙ ap (map bare) (same_pieces at.store request check t))
    is

pub told_skeleton : (m : Journal) (request : Request) (check : List ℕ) (drawn : List (List ℕ)) (file_bytes : ℕ) → refusal_of (store_of m) request file_bytes ≡ None
    → (s : Skeleton) → IsSkeleton (told_step (public_stand m) (note_of (store_of m) request check)) s → IsSkeleton (entry_step (stand_after nothing m) (Did request drawn)) s
unfolding public_stand store_of keys_of
told_skeleton m request check drawn file_bytes none s is = told_at (stand_after nothing m) request check drawn file_bytes none s is

-- as many pieces are due, whatever key a holder gets
pub same_many : (s : Store) (request : Request) (key other : List ℕ) (file_bytes : ℕ) → refusal_of s request file_bytes ≡ None
    → length (pieces_of (note_of s request []) (effect s request key)) ≡ length (pieces_of (note_of s request []) (effect s request other))
same_many s request key other file_bytes none =
    let note = note_of s request [] in
    let many : (t : Store) → length (pieces_of note t) ≡ length (map bare (pieces_of note (public_of t))) = λ t. sym (length-map (pieces_of note t) bare) ∙ ap length (sym (pieces_bare note t)) in
    many (effect s request key)
    ∙ ap (λ t. length (map bare (pieces_of note t))) (accepted_told s request key [] file_bytes none ∙ sym (accepted_told s request other [] file_bytes none))
    ∙ sym (many (effect s request other))

-- ---- the keys that everyone may see

after_same : (k : KeyState) (before : List Edge) (c : Change) (ps qs : List Piece) → length ps ≡ length qs → (key_step k before c ps).after ≡ (key_step k before c qs).after
unfolding key_step step_with published
after_same k before c ps qs same =
    let plan = renewed k before c in
    ap (λ n. record (key_step k before c ps).after { count = k.count + length (given k c plan) + length (published_edges before c plan) + n }) same

after_alike : (k : KeyState) (before edges_before : List Edge) (c d : Change) (ps qs : List Piece) → before ≡ edges_before → c ≡ d → length ps ≡ length qs
    → (key_step k before c ps).after ≡ (key_step k edges_before d qs).after
after_alike k before edges_before c d ps qs same_edges same many =
    ap (λ (es : List Edge). (key_step k es c ps).after) same_edges
    ∙ ap (λ (x : Change). (key_step k edges_before x ps).after) same
    ∙ after_same k edges_before d ps qs many

pub told_keys : (at : Stand) (request : Request) (check : List ℕ) (drawn : List (List ℕ)) (file_bytes : ℕ) → refusal_of at.store request file_bytes ≡ None
    → (told_step (record { store = public_of at.store; keys = at.keys }) (note_of at.store request check)).after ≡ (entry_step at (Did request drawn)).after
unfolding told_step note_step entry_step
told_keys at request check drawn file_bytes none =
    let note = note_of at.store request check in
    let plain = note_of at.store request [] in
    let t = effect at.store request (first_key drawn) in
    after_alike at.keys (edges (public_of at.store)) (edges at.store) (change_of (is_strict at.keys) (public_of at.store) note) (change_of (is_strict at.keys) at.store plain) (pieces_of note (told_store (public_of at.store) note)) (pieces_of plain t)
    (edges_public at.store)
    (change_public (is_strict at.keys) at.store note ∙ same_change (is_strict at.keys) at.store request check)
    (ap (λ z. length (pieces_of note z)) (sym (accepted_told at.store request (first_key drawn) check file_bytes none))
    ∙ sym (length-map (pieces_of note (public_of t)) bare)
    ∙ ap length (pieces_bare note t)
    ∙ length-map (pieces_of note t) bare
    ∙ ap length (same_pieces at.store request check t))
