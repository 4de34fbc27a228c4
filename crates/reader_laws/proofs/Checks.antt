-- A journal's log publishes the check of each holder that the journal made, and of no other.
use Rattle.std.proofs.Common.{◌≡◌, ℕ, ◌+◌, cond, ◌==◌, List, [], ◌∷◌, ◌++◌, length, Option, Some, None, refl, ap, ◌∙◌}
use Rattle.std.specs.Prelude.{true, false, find, if◌then◌else◌, option_map}
use Rattle.chacha_seal.specs.Keys.{KeyParts}
use Rattle.chacha_seal.specs.Sealing.{check_of}
use Rattle.commit_journal.specs.Laws.{batch_of, placed_from}
use Rattle.commit_journal.specs.Placed.{NewEpoch}
use Rattle.cry_base.specs.Layout.{batch_len, header_len}
use Rattle.cry_base.specs.Naming.{parent_path}
use Rattle.cry_base.specs.Refusing.{id_of}
use Rattle.cry_base.specs.Requests.{Request}
use Rattle.cry_base.specs.Requests.Request.{AddHolder, MakeFolder, WriteFile, Remove, Rename, Relocate, Grant, Revoke}
use Rattle.cry_base.specs.Stepping.{effect, moved, with_bytes_at, with_file, with_folder, with_name, with_new_file, with_new_folder, with_new_holder, without_file, without_folder, without_grant, without_node}
use Rattle.cry_base.specs.Store.{HolderEntry, Store, holder_entry, no_store, node_at, root_store}
use Rattle.cry_base.specs.declared.roles.Node.{Node}
use Rattle.cry_base.specs.declared.roles.Node.TheVariants.{Folder, File}
use Rattle.log_visits.specs.Judging.{body_check, check_in, published_check}
use Rattle.move_plan.specs.Noting.{move_note, note_of, remove_note, rename_note, write_note}
use Rattle.record_format.specs.Noted.{Note}
use Rattle.record_format.specs.Noted.Note.{Root, NewHolder, NewFolder, NewFile, Rewrite, NameFile, NameFolder, DropFile, DropFolder, ShiftFile, ShiftFolder, Give, Take, StrictRoot, Upgrade}
use Rattle.record_format.specs.Told.{told_note}
use Rattle.public_fold.specs.Journal.{Entry, Journal, Stand, entry_store, first_key, nothing, stand_after, stand_then, store_of}
use Rattle.public_fold.specs.Journal.Entry.{Session, Made, Did, Upgraded}
use Rattle.public_fold.specs.Valid.{BeginsWell, FollowOn, IsValid}
use Rattle.journal_bytes.specs.Bytes as bytes
use Rattle.journal_bytes.specs.Bytes.{bodies_from, bodies_of, entry_body, step_payload}
use Rattle.journal_bytes.specs.Folds.{log_of}
use Rattle.journal_bytes.specs.Keys.{owner_parts}
use Rattle.journal_bytes.specs.Notes.{declared_note}
use Rattle.journal_bytes.proofs.RootNotes.{of_root}

-- the first of two that is there
abbrev pub first_of : {X : Type 0} → Option X → Option X → Option X
first_of a b = elim a [ Some x ↦ Some x | None ↦ b ]

first_none : (X : Type 0) (a : Option X) → first_of a None ≡ a
first_none X None = refl
first_none X (Some x) = refl

first_on : (X : Type 0) (a b c : Option X) → first_of a (first_of b c) ≡ first_of (first_of a b) c
first_on X None b c = refl
first_on X (Some x) b c = refl

-- the check of the key that an entry has
abbrev pub entry_check : HolderEntry → List ℕ
entry_check e = check_of e.key

abbrev pub holder_check : Store → ℕ → Option (List ℕ)
holder_check s h = option_map entry_check (holder_entry s h)

-- one holder more
last_checked : (h : ℕ) (new : HolderEntry) (hs : List HolderEntry)
    → first_of (option_map entry_check (find (λ e. e.number == h) hs)) (if new.number == h then Some (check_of new.key) else None) ≡ option_map entry_check (find (λ e. e.number == h) (hs ++ new ∷ []))
last_checked h new [] = elim (new.number == h) as (λ b. (if b then Some (check_of new.key) else None) ≡ option_map entry_check (cond b (Some new) None)) [ true ↦ refl | false ↦ refl ]
last_checked h new (e ∷ hs) =
    elim (e.number == h) as (λ b. first_of (option_map entry_check (cond b (Some e) (find (λ d. d.number == h) hs))) (if new.number == h then Some (check_of new.key) else None) ≡ option_map entry_check (cond b (Some e) (find (λ d. d.number == h) (hs ++ new ∷ [])))) [
      | true ↦ refl
      | false ↦ last_checked h new hs
    ]

-- a note that publishes no check
no_check : (s : Store) (h : ℕ) → first_of (holder_check s h) None ≡ holder_check s h
no_check s h = first_none (List ℕ) (holder_check s h)

written_checked : (s : Store) (o : Option Node) (h f : ℕ) (path bs : List ℕ) → first_of (holder_check s h) (check_in h (write_note s o f)) ≡ holder_check (with_bytes_at s o path bs) h
unfolding write_note with_bytes_at with_new_file with_file check_in holder_entry
written_checked s None h f path bs = no_check s h
written_checked s (Some (Folder g)) h f path bs = no_check s h
written_checked s (Some (File x)) h f path bs = no_check s h

removed_checked : (s : Store) (o : Option Node) (h : ℕ) → first_of (holder_check s h) (check_in h (remove_note o)) ≡ holder_check (without_node s o) h
unfolding remove_note without_node without_folder without_file check_in holder_entry
removed_checked s None h = no_check s h
removed_checked s (Some (Folder g)) h = no_check s h
removed_checked s (Some (File x)) h = no_check s h

renamed_checked : (s : Store) (o : Option Node) (h : ℕ) (name : List ℕ) → first_of (holder_check s h) (check_in h (rename_note o)) ≡ holder_check (with_name s o name) h
unfolding rename_note with_name with_folder with_file check_in holder_entry
renamed_checked s None h name = no_check s h
renamed_checked s (Some (Folder g)) h name = no_check s h
renamed_checked s (Some (File x)) h name = no_check s h

moved_checked : (s : Store) (o : Option Node) (h into : ℕ) → first_of (holder_check s h) (check_in h (move_note o into)) ≡ holder_check (moved s o into) h
unfolding move_note moved with_folder with_file check_in holder_entry
moved_checked s None h into = no_check s h
moved_checked s (Some (Folder g)) h into = no_check s h
moved_checked s (Some (File x)) h into = no_check s h

command_checked : (s : Store) (r : Request) (key : List ℕ) (h : ℕ) → first_of (holder_check s h) (check_in h (note_of s r (check_of key))) ≡ holder_check (effect s r key) h
unfolding note_of effect with_new_holder with_new_folder without_grant check_in holder_entry
command_checked s AddHolder key h = last_checked h (record { number = s.holders_made + 1; key = key }) s.holders
command_checked s (MakeFolder path) key h = no_check s h
command_checked s (WriteFile path bs) key h = written_checked s (node_at s path) h (id_of (node_at s (parent_path path))) path bs
command_checked s (Remove path) key h = removed_checked s (node_at s path) h
command_checked s (Rename path name) key h = renamed_checked s (node_at s path) h name
command_checked s (Relocate path into) key h = moved_checked s (node_at s path) h (id_of (node_at s into))
command_checked s (Grant k path) key h = no_check s h
command_checked s (Revoke k path) key h = no_check s h

-- a note is told from its record
told_declared : (note : Note) → told_note (declared_note note) ≡ note
unfolding told_note declared_note
told_declared Root = refl
told_declared (NewHolder holder check) = refl
told_declared (NewFolder folder parent) = refl
told_declared (NewFile file folder) = refl
told_declared (Rewrite file) = refl
told_declared (NameFile file) = refl
told_declared (NameFolder folder) = refl
told_declared (DropFile file) = refl
told_declared (DropFolder folder) = refl
told_declared (ShiftFile file into) = refl
told_declared (ShiftFolder folder into) = refl
told_declared (Give holder folder) = refl
told_declared (Take holder folder) = refl
told_declared StrictRoot = refl
told_declared Upgrade = refl

-- neither a session nor what makes the root publishes a check, and there is no holder yet
session_checked : (keys : List KeyParts) (at : Stand) (h : ℕ) → body_check h (entry_body keys at Session) ≡ None
unfolding entry_body body_check
session_checked keys at h = refl

made_checked : (keys : List KeyParts) (at : Stand) (version : ℕ) (drawn : List (List ℕ)) (h : ℕ)
    → body_check h (entry_body keys at (Made version drawn)) ≡ holder_check (stand_then at (Made version drawn)).store h
unfolding entry_body body_check step_payload told_note declared_note check_in stand_then entry_store root_store holder_entry no_store
made_checked keys at version drawn h = of_root (λ note. check_in h (told_note (declared_note note)) ≡ None) refl refl version

did_checked : (keys : List KeyParts) (at : Stand) (r : Request) (drawn : List (List ℕ)) (h : ℕ)
    → first_of (holder_check at.store h) (body_check h (entry_body (bytes.keys_then keys at (Did r drawn)) at (Did r drawn))) ≡ holder_check (stand_then at (Did r drawn)).store h
unfolding entry_body body_check step_payload stand_then entry_store
did_checked keys at r drawn h =
    ap (λ note. first_of (holder_check at.store h) (check_in h note)) (told_declared (note_of at.store r (check_of (first_key drawn))))
    ∙ command_checked at.store r (first_key drawn) h

upgraded_checked : (keys : List KeyParts) (at : Stand) (drawn : List (List ℕ)) (h : ℕ)
    → first_of (holder_check at.store h) (body_check h (entry_body keys at (Upgraded drawn))) ≡ holder_check (stand_then at (Upgraded drawn)).store h
unfolding entry_body body_check step_payload told_note declared_note check_in stand_then entry_store
upgraded_checked keys at drawn h = no_check at.store h

-- some entries
after_checked : (entries : List Entry) (keys : List KeyParts) (at : Stand) (place number epoch h : ℕ) → FollowOn at entries
    → first_of (holder_check at.store h) (published_check h (placed_from place number epoch (bodies_from keys at entries))) ≡ holder_check (stand_after at entries).store h
unfolding published_check bodies_from stand_after entry_body body_check stand_then entry_store
after_checked [] keys at place number epoch h follow = no_check at.store h
after_checked (Session ∷ entries) keys at place number epoch h follow =
    let later = bytes.keys_then keys at Session in
    let batch = batch_of number epoch NewEpoch in
    after_checked entries later (stand_then at Session) (place + (batch_len + length batch.payload)) batch.number batch.epoch h follow.1
after_checked (Made version drawn ∷ entries) keys at place number epoch h follow = absurd follow.0
after_checked (Did r drawn ∷ entries) keys at place number epoch h follow =
    let later = bytes.keys_then keys at (Did r drawn) in
    let body = entry_body later at (Did r drawn) in
    let batch = batch_of number epoch body in
    let next = stand_then at (Did r drawn) in
    let rest : Option (List ℕ) = published_check h (placed_from (place + (batch_len + length batch.payload)) batch.number batch.epoch (bodies_from later next entries)) in
    first_on (List ℕ) (holder_check at.store h) (body_check h body) rest
    ∙ ap (λ o. first_of o rest) (did_checked keys at r drawn h)
    ∙ after_checked entries later next (place + (batch_len + length batch.payload)) batch.number batch.epoch h follow.1
after_checked (Upgraded drawn ∷ entries) keys at place number epoch h follow =
    let later = bytes.keys_then keys at (Upgraded drawn) in
    let body = entry_body later at (Upgraded drawn) in
    let batch = batch_of number epoch body in
    let next = stand_then at (Upgraded drawn) in
    let rest : Option (List ℕ) = published_check h (placed_from (place + (batch_len + length batch.payload)) batch.number batch.epoch (bodies_from later next entries)) in
    first_on (List ℕ) (holder_check at.store h) (body_check h body) rest
    ∙ ap (λ o. first_of o rest) (upgraded_checked later at drawn h)
    ∙ after_checked entries later next (place + (batch_len + length batch.payload)) batch.number batch.epoch h follow.1

begun_checked : (owner : List ℕ) (m : Journal) (h : ℕ) → BeginsWell m → published_check h (placed_from header_len 0 0 (bodies_from (owner_parts owner ∷ []) nothing m)) ≡ holder_check (stand_after nothing m).store h
unfolding published_check bodies_from stand_after no_store
begun_checked owner [] h begins = absurd begins
begun_checked owner (Session ∷ []) h begins = absurd begins
begun_checked owner (Session ∷ Session ∷ es) h begins = absurd begins
begun_checked owner (Session ∷ Made version drawn ∷ es) h begins =
    let begun = stand_then nothing Session in
    let first = bytes.keys_then (owner_parts owner ∷ []) nothing Session in
    let later = bytes.keys_then first begun (Made version drawn) in
    let one = batch_of 0 0 (entry_body first nothing Session) in
    let two = batch_of one.number one.epoch (entry_body later begun (Made version drawn)) in
    let rest : Option (List ℕ) =
    published_check h (placed_from (header_len + (batch_len + length one.payload) + (batch_len + length two.payload)) two.number two.epoch (bodies_from later (stand_then begun (Made version drawn)) es)) in
    ap (λ (o : Option (List ℕ)). first_of o (first_of (body_check h (entry_body later begun (Made version drawn))) rest)) (session_checked first nothing h)
    ∙ ap (λ (o : Option (List ℕ)). first_of o rest) (made_checked later begun version drawn h)
    ∙ after_checked es later (stand_then begun (Made version drawn)) (header_len + (batch_len + length one.payload) + (batch_len + length two.payload)) two.number two.epoch h begins.1
begun_checked owner (Session ∷ Did r drawn ∷ es) h begins = absurd begins
begun_checked owner (Session ∷ Upgraded drawn ∷ es) h begins = absurd begins
begun_checked owner (Made version drawn ∷ es) h begins = absurd begins
begun_checked owner (Did r drawn ∷ es) h begins = absurd begins
begun_checked owner (Upgraded drawn ∷ es) h begins = absurd begins

-- the check that a journal publishes is that of the holder's key
pub journal_checked : (owner : List ℕ) (m : Journal) (h : ℕ) → IsValid m → published_check h (log_of owner m) ≡ option_map (λ (e : HolderEntry). check_of e.key) (holder_entry (store_of m) h)
unfolding log_of bodies_of store_of
journal_checked owner m h valid = begun_checked owner m h valid.0
