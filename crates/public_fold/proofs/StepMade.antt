-- The step that the code makes is that of the definitions.
use Rattle.std.proofs.Common.{◌≡◌, ℕ, suc, ◌+◌, Bool, true, false, not, ◌==◌, List, [], ◌∷◌, ◌++◌, map, length, Option, Some, None, refl, sym, ap, ◌∙◌}
use Rattle.std.specs.Prelude.{is_some, find, unwrap_or}
use Rattle.std.specs.List.{list_any}
use Rattle.std.proofs.lemmas.Bool.{and_parts, eqb-true, eq-eqb, false≢true, or_left, or_right}
use Rattle.cry_base.specs.Store.{Store, FolderEntry, FileEntry, HolderEntry, no_store, root_store, folder_entry, file_entry, holder_entry}
use Rattle.cry_base.specs.Stepping.{with_new_holder, with_new_folder, with_new_file}
use Rattle.cry_base.specs.declared.roles.Edge.{Edge}
use Rattle.cry_base.specs.declared.roles.Role.{Role}
use Rattle.grant_book.proofs.Lists.{is_some-find}
use Rattle.record_format.specs.Noted.{Note}
use Rattle.record_format.specs.Noted.Note.{Root, NewHolder, NewFolder, NewFile, Rewrite, NameFile, NameFolder, DropFile, DropFolder, ShiftFile, ShiftFolder, Give, Take, StrictRoot, Upgrade}
use Rattle.move_plan.specs.Change.{Change}
use Rattle.move_plan.specs.Fitting.{file_stands, fits, folder_stands, has_depth_left, is_next_below, is_other_folder, row_fits}
use Rattle.public_fold.specs.Heads.{content_head, due_of, textless}
use Rattle.public_fold.specs.KeyStep.{KeyState, content_of, contents_from, given, key_step, keys_then, keys_without, links_from, next_serial, numbered, published, published_edges, renewed, step_with, version_then}
use Rattle.public_fold.specs.Records.{Piece, file_piece, folder_piece, holder_piece, pieces_of, sealing_role}
use Rattle.public_fold.specs.Stepping.{IsDue, IsNumbered, IsStep, counted, keyed_of, keys_left}
use Rattle.public_fold.specs.Told.{told_store}
use Rattle.public_fold.specs.declared.step.Due.{Due}
use Rattle.public_fold.specs.declared.step.Step.{Step}
use Rattle.public_fold.proofs.MayChange.{next}
use Rattle.public_fold.proofs.Serials.{numbered-length}

-- ---- what is due to be sealed

abbrev bare : Piece → Piece
bare p = record { kind = p.kind; object = p.object; name = []; bytes = [] }

folder_due : (o : Option FolderEntry) (f : ℕ) → is_some o ≡ true → map bare (elim o as (λ o. List Piece) [ None ↦ [] | Some e ↦ record { kind = 1; object = f; name = e.name; bytes = [] } ∷ [] ]) ≡ textless 1 f ∷ []
folder_due None f some = absurd (false≢true some)
folder_due (Some e) f some = refl

file_due : (o : Option FileEntry) (x : ℕ) → is_some o ≡ true → map bare (elim o as (λ o. List Piece) [ None ↦ [] | Some e ↦ record { kind = 2; object = x; name = e.name; bytes = e.bytes } ∷ [] ]) ≡ textless 2 x ∷ []
file_due None x some = absurd (false≢true some)
file_due (Some e) x some = refl

holder_due : (o : Option HolderEntry) (h : ℕ) → is_some o ≡ true → map bare (elim o as (λ o. List Piece) [ None ↦ [] | Some e ↦ record { kind = 3; object = h; name = []; bytes = e.key } ∷ [] ]) ≡ textless 3 h ∷ []
holder_due None h some = absurd (false≢true some)
holder_due (Some e) h some = refl

any_behind : (X : Type 0) (p : X → Bool) (xs : List X) (x : X) → p x ≡ true → list_any p (xs ++ x ∷ []) ≡ true
any_behind X p [] x t = or_left (p x) false t
any_behind X p (y ∷ ys) x t = or_right (p y) (list_any p (ys ++ x ∷ [])) (any_behind X p ys x t)

-- what comes last is found
found_behind : (X : Type 0) (p : X → Bool) (xs : List X) (x : X) → p x ≡ true → is_some (find p (xs ++ x ∷ [])) ≡ true
found_behind X p xs x t = is_some-find X p (xs ++ x ∷ []) ∙ any_behind X p xs x t

turned : (a b : ℕ) → (a == b) ≡ true → (b == a) ≡ true
turned a b t = eq-eqb b a (sym (eqb-true a b t))

row_due : (strict : Bool) (s : Store) (note : Note) → row_fits strict s note ≡ true → map bare (pieces_of note (told_store s note)) ≡ due_of note
unfolding row_fits pieces_of told_store due_of folder_piece file_piece holder_piece folder_entry file_entry holder_entry folder_stands file_stands is_other_folder with_new_holder with_new_folder with_new_file root_store no_store
row_due strict s Root t = refl
row_due strict s (NewHolder h check) t = holder_due (find (λ e. e.number == h) (s.holders ++ record { number = s.holders_made + 1; key = [] } ∷ [])) h
    (found_behind HolderEntry (λ e. e.number == h) s.holders (record { number = s.holders_made + 1; key = [] }) (turned h (s.holders_made + 1) t))
row_due strict s (NewFolder f p) t = folder_due (find (λ e. e.id == f) (s.folders ++ record { id = s.folders_made + 1; parent = p; name = [] } ∷ [])) f
    (found_behind FolderEntry (λ e. e.id == f) s.folders (record { id = s.folders_made + 1; parent = p; name = [] }) (eq-eqb (s.folders_made + 1) f (sym (next f s.folders_made (and_parts (is_next_below f s.folders_made) (has_depth_left s p) t).0))))
row_due strict s (NewFile x f) t = file_due (find (λ e. e.id == x) (s.files ++ record { id = s.files_made + 1; folder = f; name = []; bytes = [] } ∷ [])) x
    (found_behind FileEntry (λ e. e.id == x) s.files (record { id = s.files_made + 1; folder = f; name = []; bytes = [] }) (eq-eqb (s.files_made + 1) x (sym (next x s.files_made (and_parts (is_next_below x s.files_made) (has_depth_left s f) t).0))))
row_due strict s (Rewrite x) t = file_due (find (λ e. e.id == x) s.files) x t
row_due strict s (NameFile x) t = file_due (find (λ e. e.id == x) s.files) x t
row_due strict s (NameFolder f) t = folder_due (find (λ e. e.id == f) s.folders) f (and_parts (is_some (find (λ e. e.id == f) s.folders)) (not (f == 1)) t).0
row_due strict s (DropFile x) t = refl
row_due strict s (DropFolder f) t = refl
row_due strict s (ShiftFile x g) t = refl
row_due strict s (ShiftFolder g q) t = refl
row_due strict s (Give h f) t = refl
row_due strict s (Take h f) t = refl
row_due strict s StrictRoot t = refl
row_due strict s Upgrade t = refl

pub pieces_due : (strict : Bool) (s : Store) (note : Note) → fits strict s note ≡ true → map bare (pieces_of note (told_store s note)) ≡ due_of note
unfolding fits
pieces_due strict s note t = row_due strict s note (and_parts (row_fits strict s note) _ t).0

-- heads hang on no text
heads_bare : (keys : List (Role × ℕ)) (n : ℕ) (ps : List Piece) → map content_head (contents_from keys n ps) ≡ map content_head (contents_from keys n (map bare ps))
unfolding contents_from numbered content_of sealing_role
heads_bare keys n [] = refl
heads_bare keys n (p ∷ ps) = ap (λ l. content_head (content_of keys (p, n)) ∷ l) (heads_bare keys (n + 1) ps)

as_many : (ps : List Piece) → length (map bare ps) ≡ length ps
as_many [] = refl
as_many (p ∷ ps) = ap suc (as_many ps)

-- ---- the step

module _ (k : KeyState) (before : List Edge) (c : Change) (note : Note) (pieces : List Piece) (d : Due) (due : map bare pieces ≡ due_of note) (is : IsDue k before c d) where
  keyed_len : length (keyed_of d) ≡ length (given k c (renewed k before c))
  unfolding given
  keyed_len = ap length is.keyed ∙ sym (numbered-length Role (next_serial k) (renewed k before c ++ c.fresh))

  pub step_count : (key_step k before c pieces).after.count ≡ counted k note d
  unfolding key_step step_with published
  step_count = λ i. k.count + sym keyed_len i + length (sym is.edges i) + (sym (as_many pieces) ∙ ap length due) i

  module _ (s : Step) (n : IsNumbered k note d s) where
    new_keys : keys_left k.keys s ≡ keys_then k c (renewed k before c)
    unfolding keys_then given
    new_keys = λ i. (n.given ∙ ap (numbered (next_serial k)) is.keyed) i ++ keys_without ((n.gone ∙ is.gone) i) k.keys

    new_contents : s.skeleton.contents.items ≡ map content_head (contents_from (keys_then k c (renewed k before c)) (next_serial k + length (given k c (renewed k before c)) + length (published_edges before c (renewed k before c))) pieces)
    new_contents =
        n.contents
        ∙ (λ i. map content_head (contents_from (new_keys i) (next_serial k + keyed_len i + length (is.edges i)) (sym due i)))
        ∙ sym (heads_bare (keys_then k c (renewed k before c)) (next_serial k + length (given k c (renewed k before c)) + length (published_edges before c (renewed k before c))) pieces)

    pub is_step : IsStep k (key_step k before c pieces) s
    unfolding key_step step_with published given version_then
    is_step = record {
      skeleton = record {
        keys = n.given ∙ ap (numbered (next_serial k)) is.keyed;
        links = n.links ∙ (λ i. links_from (new_keys i) (next_serial k + keyed_len i) (is.edges i));
        contents = new_contents;
      };
      keys = new_keys;
      dirty = n.dirty ∙ is.dirty;
      version = ap (λ o. unwrap_or o k.version) (n.version ∙ is.version);
      epoch = n.epoch;
      count = n.count ∙ sym step_count;
    }
