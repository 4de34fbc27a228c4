-- Each entry of a valid journal seals its records under present keys, and texts of the forms that a reader tests.
use Rattle.std.proofs.Common.{◌≡◌, ⊎_elim, ℕ, ◌≤◌, true, false, ◌==◌, List, [], ◌∷◌, ◌++◌, length, All, Option, None, Some, arith, append_assoc, length-append, refl, sym, ap, subst, ◌∙◌}
use Rattle.std.proofs.lemmas.Bool.{eqb-true}
use Rattle.std.proofs.lemmas.List.Elements.{All-cons, All-head, All-nil, All-tail}
use Rattle.cry_base.specs.Limits.{most_file_bytes}
use Rattle.cry_base.specs.Refusing.{refusal_in}
use Rattle.cry_base.specs.Requests.{Request}
use Rattle.cry_base.specs.Sets.{In}
use Rattle.cry_base.specs.Stepping.{effect}
use Rattle.cry_base.specs.Store.{FileEntry, FolderEntry, HolderEntry, Store, file_entry, folder_entry, holder_entry, no_store, root_store}
use Rattle.cry_base.proofs.Finding.{find-found}
use Rattle.log_visits.specs.Visiting.{is_file_text, is_folder_text}
use Rattle.move_plan.specs.Change.{change_of}
use Rattle.move_plan.specs.Noting.{note_of}
use Rattle.record_format.specs.Noted.{Note}
use Rattle.record_format.specs.Noted.Note.{Root, NewHolder, NewFolder, NewFile, Rewrite, NameFile, NameFolder, DropFile, DropFolder, ShiftFile, ShiftFolder, Give, Take, StrictRoot, Upgrade}
use Rattle.public_fold.specs.Journal.{Entry, Journal, Stand, entry_step, entry_store, first_key, note_step, nothing, root_note, keys_of, stand_after, stand_then, steps_of, store_of}
use Rattle.public_fold.specs.Journal.Entry.{Session, Made, Did, Upgraded}
use Rattle.public_fold.specs.KeyStep.{is_strict, key_step, next_epoch, no_keys, published, step_with}
use Rattle.public_fold.specs.Keyed.{links_of}
use Rattle.public_fold.specs.Records.{Content, Piece, file_piece, folder_piece, holder_piece, pieces_of}
use Rattle.public_fold.specs.Valid.{FollowOn, IsNext, IsValid}
use Rattle.public_fold.proofs.Keeping.{HasTree, journal_tree}
use Rattle.public_fold.proofs.KeyMoves.{journal_holds, journal_sound, nothing_holds, root_moves, upgrade_moves}
use Rattle.public_fold.proofs.Prefixes.{prefix_valid, stand_after-append}
use Rattle.journal_bytes.specs.Keys.{AreWhole, drawn_by}
use Rattle.journal_bytes.specs.Sealing.{IsSealable}
use Rattle.journal_bytes.proofs.PlainTexts.{IsPlain, file_form, folder_form, journal_plain}
use Rattle.journal_bytes.proofs.Sealable.{command_sealable, content_from, fresh_once, pieces_due, step_sealable}

-- ---- the forms of texts

-- the text of a piece has the form of its kind: the name of a folder, or the name and the bytes of a file
pub record HasForm (p : Piece) : Type 0 where
  pub folder : p.kind ≡ 1 → is_folder_text p.object p.name ≡ true
  pub file : p.kind ≡ 2 → is_file_text (length p.name ∷ (p.name ++ p.bytes)) ≡ true

alone : (p q : Piece) → In p (q ∷ []) → HasForm q → HasForm p
alone p q i form = subst HasForm (sym (⊎_elim (λ (e : p ≡ q). e) (λ n. absurd n) i)) form

folder_has_form : (t : Store) → HasTree t → IsPlain t → (f : ℕ) (p : Piece) → In p (folder_piece t f) → HasForm p
unfolding folder_piece folder_entry
folder_has_form t tree plain f p i =
    (elim (folder_entry t f) as (λ (o : Option FolderEntry). folder_entry t f ≡ o → In p (elim o as (λ z. List Piece) [ None ↦ [] | Some e ↦ record { kind = 1; object = f; name = e.name; bytes = [] } ∷ [] ]) → HasForm p) [
      | None ↦ λ is j. absurd j
      | Some e ↦ λ is j.
          let there = find-found FolderEntry (λ x. x.id == f) t.folders e is in
          alone p (record { kind = 1; object = f; name = e.name; bytes = [] }) j
          (record {
            folder = λ k. subst (λ n. is_folder_text n e.name ≡ true) (eqb-true e.id f there.1) (folder_form t tree plain e there.0);
            file = λ (k : 1 ≡ 2). absurd (omega (arith, k));
          })
    ]) refl i

file_has_form : (t : Store) → HasTree t → IsPlain t → (x : ℕ) (p : Piece) → In p (file_piece t x) → HasForm p
unfolding file_piece file_entry
file_has_form t tree plain x p i =
    (elim (file_entry t x) as (λ (o : Option FileEntry). file_entry t x ≡ o → In p (elim o as (λ z. List Piece) [ None ↦ [] | Some e ↦ record { kind = 2; object = x; name = e.name; bytes = e.bytes } ∷ [] ]) → HasForm p) [
      | None ↦ λ is j. absurd j
      | Some e ↦ λ is j.
          let there = find-found FileEntry (λ y. y.id == x) t.files e is in
          alone p (record { kind = 2; object = x; name = e.name; bytes = e.bytes }) j
          (record {
            folder = λ (k : 2 ≡ 1). absurd (omega (arith, k));
            file = λ k. file_form t tree plain e there.0;
          })
    ]) refl i

holder_has_form : (t : Store) (h : ℕ) (p : Piece) → In p (holder_piece t h) → HasForm p
unfolding holder_piece
holder_has_form t h p i =
    (elim (holder_entry t h) as (λ (o : Option HolderEntry). In p (elim o as (λ z. List Piece) [ None ↦ [] | Some e ↦ record { kind = 3; object = h; name = []; bytes = e.key } ∷ [] ]) → HasForm p) [
      | None ↦ λ j. absurd j
      | Some e ↦ λ j.
          alone p (record { kind = 3; object = h; name = []; bytes = e.key }) j
          (record { folder = λ (k : 3 ≡ 1). absurd (omega (arith, k)); file = λ (k : 3 ≡ 2). absurd (omega (arith, k)) })
    ]) i

pieces_have_form : (note : Note) (t : Store) → HasTree t → IsPlain t → (p : Piece) → In p (pieces_of note t) → HasForm p
unfolding pieces_of
pieces_have_form Root t tree plain p i = folder_has_form t tree plain 1 p i
pieces_have_form (NewHolder h check) t tree plain p i = holder_has_form t h p i
pieces_have_form (NewFolder f q) t tree plain p i = folder_has_form t tree plain f p i
pieces_have_form (NewFile x f) t tree plain p i = file_has_form t tree plain x p i
pieces_have_form (Rewrite x) t tree plain p i = file_has_form t tree plain x p i
pieces_have_form (NameFile x) t tree plain p i = file_has_form t tree plain x p i
pieces_have_form (NameFolder f) t tree plain p i = folder_has_form t tree plain f p i
pieces_have_form (DropFile x) t tree plain p i = absurd i
pieces_have_form (DropFolder f) t tree plain p i = absurd i
pieces_have_form (ShiftFile x g) t tree plain p i = absurd i
pieces_have_form (ShiftFolder g q) t tree plain p i = absurd i
pieces_have_form (Give h f) t tree plain p i = absurd i
pieces_have_form (Take h f) t tree plain p i = absurd i
pieces_have_form StrictRoot t tree plain p i = folder_has_form t tree plain 1 p i
pieces_have_form Upgrade t tree plain p i = absurd i

-- ---- one entry

-- the step of the entry can be sealed, and its texts have their forms
pub record IsWell (at : Stand) (entry : Entry) : Type 0 where
  pub sealable : IsSealable (entry_step at entry)
  pub forms : (x : Content) → In x (entry_step at entry).contents → HasForm x.piece

session_well : (at : Stand) → IsWell at Session
unfolding entry_step
session_well at = record {
  sealable = record {
    given_once = tt;
    no_owner = λ key i. absurd i;
    tabled = λ l i. absurd i;
    sources = λ l i. absurd i;
    targets = λ l i. absurd i;
    one_content = omega arith;
    kinds = λ c i. absurd i;
    sealing = λ c i. absurd i;
  };
  forms = λ x i. absurd i;
}

step_forms : (at : Stand) (note : Note) (t : Store) → HasTree t → IsPlain t → (x : Content) → In x (note_step at note t).contents → HasForm x.piece
unfolding note_step key_step step_with published
step_forms at note t tree plain x i = pieces_have_form note t tree plain x.piece (content_from _ _ _ x i).0

-- the store once a command was done
one_done : (at : Stand) (r : Request) (drawn : List (List ℕ)) → (stand_after at (Did r drawn ∷ [])).store ≡ effect at.store r (first_key drawn)
unfolding stand_after stand_then entry_store
one_done at r drawn = refl

did_store : (before : Journal) (r : Request) (drawn : List (List ℕ)) → store_of (before ++ Did r drawn ∷ []) ≡ effect (stand_after nothing before).store r (first_key drawn)
unfolding store_of
did_store before r drawn = ap (λ (z : Stand). z.store) (stand_after-append nothing before (Did r drawn ∷ [])) ∙ one_done (stand_after nothing before) r drawn

did_well : (owner : List ℕ) (before : Journal) (r : Request) (drawn : List (List ℕ)) → IsValid before → IsValid (before ++ Did r drawn ∷ []) → AreWhole owner (before ++ Did r drawn ∷ [])
    → refusal_in (is_strict (stand_after nothing before).keys) (stand_after nothing before).store r most_file_bytes ≡ None → IsWell (stand_after nothing before) (Did r drawn)
unfolding entry_step
did_well owner before r drawn valid more whole none =
    let at = stand_after nothing before in
    let m : Journal = before ++ Did r drawn ∷ [] in
    let t = effect at.store r (first_key drawn) in
    let tree : HasTree t = subst HasTree (did_store before r drawn) (journal_tree m more) in
    let plain : IsPlain t = subst IsPlain (did_store before r drawn) (journal_plain owner m more whole) in record {
      sealable = command_sealable before valid r drawn most_file_bytes (unfold store_of keys_of in none);
      forms = step_forms at (note_of at.store r []) t tree plain;
    }

-- an upgrade leaves the store as it is
upgraded_store : (before : Journal) (drawn : List (List ℕ)) → store_of (before ++ Upgraded drawn ∷ []) ≡ (stand_after nothing before).store
unfolding store_of
upgraded_store before drawn = ap (λ (z : Stand). z.store) (stand_after-append nothing before (Upgraded drawn ∷ [])) ∙ one_upgraded (stand_after nothing before) drawn
  where
    one_upgraded : (at : Stand) (drawn : List (List ℕ)) → (stand_after at (Upgraded drawn ∷ [])).store ≡ at.store
    one_upgraded at drawn = unfold stand_after stand_then entry_store in refl

upgraded_well : (owner : List ℕ) (before : Journal) (drawn : List (List ℕ)) → IsValid before → IsValid (before ++ Upgraded drawn ∷ []) → AreWhole owner (before ++ Upgraded drawn ∷ [])
    → IsWell (stand_after nothing before) (Upgraded drawn)
unfolding entry_step note_step
upgraded_well owner before drawn valid more whole =
    let at = stand_after nothing before in
    let strict = is_strict at.keys in
    let m : Journal = before ++ Upgraded drawn ∷ [] in
    let tree : HasTree at.store = subst HasTree (upgraded_store before drawn) (journal_tree m more) in
    let plain : IsPlain at.store = subst IsPlain (upgraded_store before drawn) (journal_plain owner m more whole) in record {
      sealable = step_sealable at.store at.store at.keys (change_of strict at.store Upgrade) (links_of (steps_of before)) (pieces_of Upgrade at.store)
          (upgrade_moves strict at.store (unfold store_of in journal_sound before valid)) (unfold store_of keys_of in journal_holds before valid) (fresh_once strict at.store Upgrade) (pieces_due Upgrade at.store);
      forms = step_forms at Upgrade at.store tree plain;
    }

abbrev pub begun : Stand
begun = stand_then nothing Session

root_after : (version : ℕ) (drawn : List (List ℕ)) → store_of (Session ∷ Made version drawn ∷ []) ≡ root_store
unfolding store_of stand_after stand_then entry_store
root_after version drawn = refl

made_well : (owner : List ℕ) (version : ℕ) (drawn : List (List ℕ)) → IsValid (Session ∷ Made version drawn ∷ []) → AreWhole owner (Session ∷ Made version drawn ∷ []) → IsWell begun (Made version drawn)
unfolding entry_step note_step stand_then entry_store nothing is_strict next_epoch no_keys
made_well owner version drawn valid whole =
    let m : Journal = Session ∷ Made version drawn ∷ [] in
    let note = root_note version in
    let tree : HasTree root_store = subst HasTree (root_after version drawn) (journal_tree m valid) in
    let plain : IsPlain root_store = subst IsPlain (root_after version drawn) (journal_plain owner m valid whole) in record {
      sealable = step_sealable no_store root_store (next_epoch no_keys) (change_of false no_store note) [] (pieces_of note root_store) (root_moves version) nothing_holds (fresh_once false no_store note) (pieces_due note root_store);
      forms = step_forms begun note root_store tree plain;
    }

-- ---- entries

-- all of them, one after another
abbrev pub AreWell : Stand → List Entry → Type 0
AreWell at [] = Unit {0}
AreWell at (entry ∷ entries) = IsWell at entry × AreWell (stand_then at entry) entries

all_first : (X : Type 0) (P : X → Type 0) (xs ys : List X) → All P (xs ++ ys) → All P xs
all_first X P [] ys all = All-nil P
all_first X P (x ∷ xs) ys all = All-cons P x xs (All-head P x (xs ++ ys) all) (all_first X P xs ys (All-tail P x (xs ++ ys) all))

pub whole_first : (owner : List ℕ) (before later : Journal) → AreWhole owner (before ++ later) → AreWhole owner before
whole_first owner before later whole = record {
  owner_size = whole.owner_size;
  drawn_sizes = all_first Entry (λ entry. All (λ (key : List ℕ). length key ≡ 32) (drawn_by entry)) before later whole.drawn_sizes;
}

-- a journal and the entry behind its first ones
pub one_more : (before later : Journal) (entry : Entry) → before ++ entry ∷ later ≡ (before ++ entry ∷ []) ++ later
one_more before later entry = sym (append_assoc before (entry ∷ []) later)

pub longer : (before : Journal) (entry : Entry) → 2 ≤ length before → 2 ≤ length (before ++ entry ∷ [])
longer before entry two = let many = length-append before (entry ∷ []) in omega (arith, many, two)

after_one : (at : Stand) (entry : Entry) → stand_then at entry ≡ stand_after at (entry ∷ [])
unfolding stand_after
after_one at entry = refl

pub then_after : (before : Journal) (entry : Entry) → stand_then (stand_after nothing before) entry ≡ stand_after nothing (before ++ entry ∷ [])
then_after before entry = after_one (stand_after nothing before) entry ∙ sym (stand_after-append nothing before (entry ∷ []))

entry_well : (owner : List ℕ) (before : Journal) (entry : Entry) → IsValid before → IsValid (before ++ entry ∷ []) → AreWhole owner (before ++ entry ∷ []) → IsNext (stand_after nothing before) entry → IsWell (stand_after nothing before) entry
entry_well owner before Session valid more whole next = session_well (stand_after nothing before)
entry_well owner before (Made version drawn) valid more whole next = absurd next
entry_well owner before (Did r drawn) valid more whole next = did_well owner before r drawn valid more whole next.0
entry_well owner before (Upgraded drawn) valid more whole next = upgraded_well owner before drawn valid more whole

well_on : (owner : List ℕ) (before entries : Journal) → IsValid (before ++ entries) → AreWhole owner (before ++ entries) → 2 ≤ length before → FollowOn (stand_after nothing before) entries → AreWell (stand_after nothing before) entries
well_on owner before [] valid whole two follow = tt
well_on owner before (entry ∷ entries) valid whole two follow =
    let with : Journal = before ++ entry ∷ [] in
    let all_valid : IsValid (with ++ entries) = subst IsValid (one_more before entries entry) valid in
    let all_whole : AreWhole owner (with ++ entries) = subst (AreWhole owner) (one_more before entries entry) whole in
    let now = then_after before entry in (
      entry_well owner before entry (prefix_valid before (entry ∷ entries) two valid) (prefix_valid with entries (longer before entry two) all_valid) (whole_first owner with entries all_whole) follow.0,
      subst (λ z. AreWell z entries) (sym now)
          (well_on owner with entries all_valid all_whole (longer before entry two) (subst (λ z. FollowOn z entries) now follow.1)),
    )

two_after : (version : ℕ) (drawn : List (List ℕ)) → stand_after nothing (Session ∷ Made version drawn ∷ []) ≡ stand_then begun (Made version drawn)
unfolding stand_after
two_after version drawn = refl

pub journal_well : (owner : List ℕ) (m : Journal) → IsValid m → AreWhole owner m → AreWell nothing m
journal_well owner [] valid whole = absurd valid.0
journal_well owner (Session ∷ []) valid whole = absurd valid.0
journal_well owner (Session ∷ Session ∷ es) valid whole = absurd valid.0
journal_well owner (Session ∷ Made version drawn ∷ es) valid whole =
    let first : Journal = Session ∷ Made version drawn ∷ [] in
    let two : 2 ≤ length first = omega arith in (
      session_well nothing,
      (
        made_well owner version drawn (prefix_valid first es two valid) (whole_first owner first es whole),
        subst (λ z. AreWell z es) (two_after version drawn) (well_on owner first es valid whole two (subst (λ z. FollowOn z es) (sym (two_after version drawn)) valid.0.1)),
      ),
    )
journal_well owner (Session ∷ Did r drawn ∷ es) valid whole = absurd valid.0
journal_well owner (Session ∷ Upgraded drawn ∷ es) valid whole = absurd valid.0
journal_well owner (Made version drawn ∷ es) valid whole = absurd valid.0
journal_well owner (Did r drawn ∷ es) valid whole = absurd valid.0
journal_well owner (Upgraded drawn ∷ es) valid whole = absurd valid.0
