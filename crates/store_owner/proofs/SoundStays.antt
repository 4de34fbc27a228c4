-- An owner stays sound who carries out a command that isn't refused, and whose note fits.
use Rattle.std.proofs.Common.{◌≡◌, ℕ, ◌+◌, ◌≤◌, Bool, true, false, cond, not, ◌⊎◌, List, [], ◌∷◌, ◌++◌, length, replicate, Option, Some, None, inl, inr, ⊎_elim, refl, sym, ap, ◌∙◌, subst, arith}
use Rattle.std.specs.Prelude.{◌==◌}
use Rattle.std.proofs.lemmas.Bool.{eq-eqb, eqb-true}
use Rattle.chacha_seal.specs.Keys.{KeyParts}
use Rattle.chacha_seal.specs.Serials.{Counting}
use Rattle.cry_base.specs.Limits.{most_file_bytes}
use Rattle.cry_base.proofs.Versions.{accepted_in}
use Rattle.cry_base.specs.Refusing.{id_of, refusal_of}
use Rattle.cry_base.specs.Requests.{Request}
use Rattle.cry_base.specs.Requests.Request.{AddHolder, MakeFolder, WriteFile, Remove, Rename, Relocate, Grant, Revoke}
use Rattle.cry_base.specs.Naming.{parent_path}
use Rattle.cry_base.specs.Sets.{In}
use Rattle.cry_base.specs.Stepping.{with_file, with_folder, with_new_file, with_new_folder, with_new_holder, without_file, without_folder, without_grant}
use Rattle.cry_base.specs.Store.{Store, FileEntry, no_store, node_at, root_store}
use Rattle.cry_base.specs.declared.roles.Node.{Node}
use Rattle.cry_base.specs.declared.roles.Node.TheVariants.{Folder, File}
use Rattle.cry_base.proofs.Members.{In-append, In-filter, In-map}
use Rattle.folder_nodes.specs.Joining.{IsSet}
use Rattle.folder_nodes.specs.Titles.{Title, Titles, bytes_in, is_node, new_title, title_at, tree_store}
use Rattle.folder_nodes.proofs.Named.{named_file}
use Rattle.move_plan.specs.Noting.{move_note, note_of, remove_note, rename_note, write_note}
use Rattle.record_format.specs.Noted.{Note}
use Rattle.record_format.specs.Noted.Note.{Root, NewHolder, NewFolder, NewFile, Rewrite, NameFile, NameFolder, DropFile, DropFolder, ShiftFile, ShiftFolder, Give, Take, StrictRoot, Upgrade}
use Rattle.public_fold.specs.Fitted.{told_stand, told_step}
use Rattle.public_fold.specs.Heads.{IsSkeleton}
use Rattle.public_fold.specs.Journal.{Stand, note_step}
use Rattle.public_fold.specs.KeyStep.{is_strict, key_step, next_epoch, published, step_with}
use Rattle.public_fold.specs.Preparing.{begun, begun_keys}
use Rattle.public_fold.specs.StandFits.{note_fits}
use Rattle.public_fold.specs.Standing.{IsSeenAs}
use Rattle.public_fold.specs.Told.{told_store}
use Rattle.public_fold.proofs.TurnsHold.{note_holds}
use Rattle.journal_bytes.specs.Sealing.{HoldsKeys, IsSealable, keys_with}
use Rattle.journal_bytes.specs.Texting.{AreKept, AreTitlesAfter, IsRemoved, IsRenamed, IsWritten, name_at}
use Rattle.journal_bytes.proofs.SoundSteps.{begun_stands, holding_sealable}
use Rattle.store_owner.specs.Deeds.{AreDeedTitles, Deed, deed_note, deed_refusal, IsWellNamed}
use Rattle.store_owner.specs.Applying.{IsCarriedOut}
use Rattle.store_owner.specs.Deeds.Deed.{Commanded, Upgrading}
use Rattle.store_owner.specs.Owned.{OwnerView, counting}
use Rattle.store_owner.specs.Sound.{IsSound, own_store}
use Rattle.store_owner.proofs.SoundSeals.{count_low, held_then}
use Rattle.store_owner.proofs.SoundStores.{numbers_after, own_kept}
use Rattle.store_owner.proofs.SoundTexts.{few_bytes}

-- ---- the epoch of the session

session_epoch : (has : Bool) (at : Stand) (note : Note) → (told_stand (begun (not has) at) note).keys.epoch ≡ at.keys.epoch + cond has 0 1
unfolding told_stand told_step note_step key_step step_with published begun_keys next_epoch
session_epoch true at note = omega arith
session_epoch false at note = refl

-- ---- the bytes of files

-- what stands beside the number has no more bytes than a file may have
abbrev IsSizedAt : Titles → ℕ → Type 0
IsSizedAt n x = length (bytes_in (title_at n.files x)) ≤ most_file_bytes

same_sized : (old new : Titles) (x : ℕ) → title_at new.files x ≡ title_at old.files x → IsSizedAt old x → IsSizedAt new x
same_sized old new x same sized = subst (λ (o : Option Title). length (bytes_in o) ≤ most_file_bytes) (sym same) sized

kept_sized : (old new : Titles) (x : ℕ) → AreKept old new → IsSizedAt old x → IsSizedAt new x
kept_sized old new x are = same_sized old new x (ap (λ ts. title_at ts x) are.files)

-- a title with so many bytes stands where another one stood, or may have stood
one_sized : (b : Bool) (t : Title) (o : Option Title) → (b ≡ true → length t.bytes ≤ most_file_bytes) → length (bytes_in o) ≤ most_file_bytes → length (bytes_in (cond b (Some t) o)) ≤ most_file_bytes
one_sized true t o new old = new refl
one_sized false t o new old = old

file_sized : (old new : Titles) (y x : ℕ) (name bytes : List ℕ) → IsSet old new (File (record { 0 = y })) name bytes → (y ≡ x → length bytes ≤ most_file_bytes) → IsSizedAt old x → IsSizedAt new x
file_sized old new y x name bytes set low sized =
    subst (λ (o : Option Title). length (bytes_in o) ≤ most_file_bytes) (sym (set (File (record { 0 = x }))))
    (one_sized (y == x) (record { id = y; name = name; bytes = bytes }) (title_at old.files x) (λ t. low (eqb-true y x t)) sized)

-- the file that is made has the bytes that it is given
made_sized : (old new : Titles) (y : ℕ) (name bytes : List ℕ) → IsSet old new (File (record { 0 = y })) name bytes → length bytes ≤ most_file_bytes → IsSizedAt new y
made_sized old new y name bytes set low =
    subst (λ (o : Option Title). length (bytes_in o) ≤ most_file_bytes)
    (sym (set (File (record { 0 = y })) ∙ ap (λ b. cond b (Some (new_title (File (record { 0 = y })) name bytes)) (title_at old.files y)) (eq-eqb y y refl))) low

gone_sized : (b : Bool) (o : Option Title) → length (bytes_in o) ≤ most_file_bytes → length (bytes_in (cond b None o)) ≤ most_file_bytes
gone_sized true o old = omega arith
gone_sized false o old = old

written_sized : (made : ℕ) (old new : Titles) (x : ℕ) (o : Option Node) (name bytes : List ℕ) → IsWritten made old new o name bytes → length bytes ≤ most_file_bytes → IsSizedAt old x → IsSizedAt new x
written_sized made old new x None name bytes set low sized = file_sized old new (made + 1) x name bytes set (λ e. low) sized
written_sized made old new x (Some (Folder f)) name bytes are low sized = kept_sized old new x are sized
written_sized made old new x (Some (File y)) name bytes set low sized = file_sized old new y.0 x name bytes set (λ e. low) sized

removed_sized : (old new : Titles) (x : ℕ) (o : Option Node) → IsRemoved old new o → IsSizedAt old x → IsSizedAt new x
removed_sized old new x None are sized = kept_sized old new x are sized
removed_sized old new x (Some node) gone sized =
    subst (λ (o : Option Title). length (bytes_in o) ≤ most_file_bytes) (sym (gone (File (record { 0 = x }))))
    (gone_sized (is_node node (File (record { 0 = x }))) (title_at old.files x) sized)

renamed_sized : (old new : Titles) (x : ℕ) (o : Option Node) (name : List ℕ) → IsRenamed old new o name → IsSizedAt old x → IsSizedAt new x
renamed_sized old new x None name are sized = kept_sized old new x are sized
renamed_sized old new x (Some (Folder f)) name set sized = same_sized old new x (set (File (record { 0 = x }))) sized
renamed_sized old new x (Some (File y)) name set sized =
    file_sized old new y.0 x name (bytes_in (title_at old.files y.0)) set (λ e. subst (IsSizedAt old) (sym e) sized) sized

titles_stay : (s : Store) (r : Request) (n : ℕ) (old new : Titles) (x : ℕ) → n ≤ most_file_bytes → refusal_of s r n ≡ None → AreTitlesAfter s r old new → IsSizedAt old x → IsSizedAt new x
titles_stay s AddHolder n old new x small none are sized = kept_sized old new x are sized
titles_stay s (MakeFolder path) n old new x small none set sized = same_sized old new x (set (File (record { 0 = x }))) sized
titles_stay s (WriteFile path bytes) n old new x small none set sized = written_sized s.files_made old new x (node_at s path) (name_at path) bytes set (few_bytes s path bytes n small none) sized
titles_stay s (Remove path) n old new x small none gone sized = removed_sized old new x (node_at s path) gone sized
titles_stay s (Rename path name) n old new x small none set sized = renamed_sized old new x (node_at s path) name set sized
titles_stay s (Relocate path into) n old new x small none are sized = kept_sized old new x are sized
titles_stay s (Grant h path) n old new x small none are sized = kept_sized old new x are sized
titles_stay s (Revoke h path) n old new x small none are sized = kept_sized old new x are sized

-- ---- the files after a note

-- whether the note makes a file
abbrev MakesFile : Note → Type 0
MakesFile Root = ⊥
MakesFile (NewHolder h check) = ⊥
MakesFile (NewFolder f p) = ⊥
MakesFile (NewFile x f) = Unit {0}
MakesFile (Rewrite x) = ⊥
MakesFile (NameFile x) = ⊥
MakesFile (NameFolder f) = ⊥
MakesFile (DropFile x) = ⊥
MakesFile (DropFolder f) = ⊥
MakesFile (ShiftFile x g) = ⊥
MakesFile (ShiftFolder g q) = ⊥
MakesFile (Give h f) = ⊥
MakesFile (Take h f) = ⊥
MakesFile StrictRoot = ⊥
MakesFile Upgrade = ⊥

-- a file with the number stood before, or the note has made it
abbrev StoodOrMade : Store → Note → FileEntry → Type 0
StoodOrMade s note x = ((y : FileEntry) × In y s.files × (y.id ≡ x.id)) ⊎ (MakesFile note × (x.id ≡ s.files_made + 1))

stood : (s : Store) (note : Note) (x : FileEntry) → In x s.files → StoodOrMade s note x
stood s note x i = inl (x, i, refl)

shifted_id : (x g : ℕ) (e : FileEntry) → (cond (e.id == x) (record e { folder = g }) e).id ≡ e.id
shifted_id x g e = elim (e.id == x) as (λ b. (cond b (record e { folder = g }) e).id ≡ e.id) [ true ↦ refl | false ↦ refl ]

files_after : (s : Store) (note : Note) (x : FileEntry) → In x (told_store s note).files → StoodOrMade s note x
unfolding told_store with_new_holder with_new_folder with_new_file with_folder with_file without_folder without_file without_grant root_store no_store
files_after s Root x i = absurd i
files_after s (NewHolder h check) x i = stood s (NewHolder h check) x i
files_after s (NewFolder f p) x i = stood s (NewFolder f p) x i
files_after s (NewFile n f) x i =
    let new : FileEntry = record { id = s.files_made + 1; folder = f; name = []; bytes = [] } in
    ⊎_elim (λ u. stood s (NewFile n f) x u) (λ v. ⊎_elim (λ (e : x ≡ new). inr (tt, ap (λ (z : FileEntry). z.id) e)) (λ none. absurd none) v) ((In-append FileEntry x s.files (new ∷ [])).0 i)
files_after s (Rewrite n) x i = stood s (Rewrite n) x i
files_after s (NameFile n) x i = stood s (NameFile n) x i
files_after s (NameFolder f) x i = stood s (NameFolder f) x i
files_after s (DropFile n) x i = stood s (DropFile n) x (In-filter FileEntry (λ e. not (e.id == n)) x s.files i).0
files_after s (DropFolder f) x i = stood s (DropFolder f) x i
files_after s (ShiftFile n g) x i =
    let w = (In-map FileEntry FileEntry (λ e. cond (e.id == n) (record e { folder = g }) e) x s.files).0 i in
    inl (w.0, w.1, sym (ap (λ (z : FileEntry). z.id) w.2 ∙ shifted_id n g w.0))
files_after s (ShiftFolder g q) x i = stood s (ShiftFolder g q) x i
files_after s (Give h f) x i = stood s (Give h f) x i
files_after s (Take h f) x i = stood s (Take h f) x i
files_after s StrictRoot x i = absurd i
files_after s Upgrade x i = stood s Upgrade x i

written_makes : (s : Store) (o : Option Node) (f : ℕ) (old new : Titles) (name bytes : List ℕ) → MakesFile (write_note s o f) → IsWritten s.files_made old new o name bytes → length bytes ≤ most_file_bytes → IsSizedAt new (s.files_made + 1)
unfolding write_note
written_makes s None f old new name bytes makes set low = made_sized old new (s.files_made + 1) name bytes set low
written_makes s (Some (Folder g)) f old new name bytes makes set low = absurd makes
written_makes s (Some (File x)) f old new name bytes makes set low = absurd makes

removes_none : (o : Option Node) → MakesFile (remove_note o) → ⊥
unfolding remove_note
removes_none None makes = makes
removes_none (Some (Folder f)) makes = makes
removes_none (Some (File x)) makes = makes

renames_none : (o : Option Node) → MakesFile (rename_note o) → ⊥
unfolding rename_note
renames_none None makes = makes
renames_none (Some (Folder f)) makes = makes
renames_none (Some (File x)) makes = makes

shifts_none : (o : Option Node) (into : ℕ) → MakesFile (move_note o into) → ⊥
unfolding move_note
shifts_none None into makes = makes
shifts_none (Some (Folder f)) into makes = makes
shifts_none (Some (File x)) into makes = makes

-- a file that a command makes has no more bytes than a file may have
made_stays : (s : Store) (r : Request) (check : List ℕ) (n : ℕ) (old new : Titles) → n ≤ most_file_bytes → refusal_of s r n ≡ None → AreTitlesAfter s r old new → MakesFile (note_of s r check) → IsSizedAt new (s.files_made + 1)
unfolding note_of
made_stays s AddHolder check n old new small none are makes = absurd makes
made_stays s (MakeFolder path) check n old new small none set makes = absurd makes
made_stays s (WriteFile path bytes) check n old new small none set makes =
    written_makes s (node_at s path) (id_of (node_at s (parent_path path))) old new (name_at path) bytes makes set (few_bytes s path bytes n small none)
made_stays s (Remove path) check n old new small none gone makes = absurd (removes_none (node_at s path) makes)
made_stays s (Rename path name) check n old new small none set makes = absurd (renames_none (node_at s path) makes)
made_stays s (Relocate path into) check n old new small none are makes = absurd (shifts_none (node_at s path) (id_of (node_at s into)) makes)
made_stays s (Grant h path) check n old new small none are makes = absurd makes
made_stays s (Revoke h path) check n old new small none are makes = absurd makes

-- the files of an owner's store have the bytes beside their numbers
own_file : (o : OwnerView) (x : FileEntry) → In x (own_store o).files → (y : FileEntry) × In y o.state.tree.files × (x.bytes ≡ bytes_in (title_at o.names.files y.id))
unfolding tree_store
own_file o x i =
    let w = (In-map FileEntry FileEntry (named_file o.names) x o.state.tree.files).0 i in (w.0, w.1, ap (λ (z : FileEntry). z.bytes) w.2)

file_owned : (o : OwnerView) (y : FileEntry) → In y o.state.tree.files → In (named_file o.names y) (own_store o).files
unfolding tree_store
file_owned o y i = (In-map FileEntry FileEntry (named_file o.names) (named_file o.names y) o.state.tree.files).1 (y, i, refl)

made_same : (o : OwnerView) → (own_store o).files_made ≡ o.state.tree.files_made
unfolding tree_store
made_same o = refl

told_files : (at : Stand) (note : Note) → (told_stand at note).store.files ≡ (told_store at.store note).files
unfolding told_stand
told_files at note = refl

-- of what is asked
deed_titles_stay : (strict : Bool) (s : Store) (d : Deed) (n : ℕ) (old new : Titles) (x : ℕ) → n ≤ most_file_bytes → deed_refusal strict s d n ≡ None → AreDeedTitles s d old new → IsSizedAt old x → IsSizedAt new x
deed_titles_stay strict s (Commanded r) n old new x small none titles sized = titles_stay s r n old new x small (accepted_in strict s r n none) titles sized
deed_titles_stay strict s Upgrading n old new x small none are sized = kept_sized old new x are sized

deed_made_stays : (strict : Bool) (s : Store) (d : Deed) (check : List ℕ) (n : ℕ) (old new : Titles) → n ≤ most_file_bytes → deed_refusal strict s d n ≡ None → AreDeedTitles s d old new → MakesFile (deed_note s d check)
    → IsSizedAt new (s.files_made + 1)
deed_made_stays strict s (Commanded r) check n old new small none titles makes = made_stays s r check n old new small (accepted_in strict s r n none) titles makes
deed_made_stays strict s Upgrading check n old new small none are makes = absurd makes

-- so of all files behind a command
files_stay : (r : Deed) (old new : OwnerView) (begins : Bool) (at : Stand) → IsSeenAs old.state at → IsSeenAs new.state (told_stand (begun begins at) (deed_note (own_store old) r (replicate 32 0)))
    → old.file_bytes ≤ most_file_bytes → deed_refusal (is_strict old.state.keys) (own_store old) r old.file_bytes ≡ None → AreDeedTitles (own_store old) r old.names new.names
    → ((x : FileEntry) → In x (own_store old).files → length x.bytes ≤ most_file_bytes) → (x : FileEntry) → In x (own_store new).files → length x.bytes ≤ most_file_bytes
files_stay r old new begins at seen after small none titles sized x i =
    let note = deed_note (own_store old) r (replicate 32 0) in
    let own = own_file new x i in
    let there = subst (λ fs. In own.0 fs) (ap (λ (s : Store). s.files) (sym after.store) ∙ told_files (begun begins at) note) own.1 in
    subst (λ (b : List ℕ). length b ≤ most_file_bytes) (sym own.2)
    (⊎_elim
    (λ (w : (y : FileEntry) × In y at.store.files × (y.id ≡ own.0.id)).
    let old_one = subst (λ fs. In w.0 fs) (ap (λ (s : Store). s.files) seen.store) w.1 in
    subst (IsSizedAt new.names) w.2 (deed_titles_stay (is_strict old.state.keys) (own_store old) r old.file_bytes old.names new.names w.0.id small none titles (sized (named_file old.names w.0) (file_owned old w.0 old_one))))
    (λ (w : MakesFile note × (own.0.id ≡ at.store.files_made + 1)).
    let number : (own_store old).files_made + 1 ≡ own.0.id = ap (λ n. n + 1) (made_same old ∙ sym (ap (λ (s : Store). s.files_made) seen.store)) ∙ sym w.1 in
    subst (IsSizedAt new.names) number (deed_made_stays (is_strict old.state.keys) (own_store old) r (replicate 32 0) old.file_bytes old.names new.names small none titles w.0))
    (files_after at.store note own.0 there))

-- ---- the whole

-- the keys before the command, by the counter of the session's epoch
held_on : (has : Bool) (keys : List KeyParts) (at : Stand) (old : OwnerView) (starts : Counting) (between new : ℕ) → HoldsKeys keys at.keys old.ring (counting at.keys) → at.keys.count ≤ 4294967296
    → old.journal.epoch ≡ at.keys.epoch → old.counter ≡ cond has (Some (counting at.keys)) None → cond has (old.counter ≡ Some starts) (starts ≡ record { epoch = between; count = 0 })
    → new ≡ old.journal.epoch + cond has 0 1 → new ≡ between → HoldsKeys keys (begun_keys (not has) at.keys) old.ring starts
held_on true keys at old starts between new held low same was is more joined = held_then true keys at.keys old.ring old.ring old.counter starts (at.keys.epoch + 1) held refl low refl was is
held_on false keys at old starts between new held low same was is more joined =
    held_then false keys at.keys old.ring old.ring old.counter starts between held refl low (omega (arith, more, joined, same)) was is

-- the keys behind the command, by the counter that the owner then has
keys_on : (r : Deed) (drawn : List (List ℕ)) (old new : OwnerView) (was shows : Option (List ℕ)) (out : IsCarriedOut r drawn old new was shows) (keys : List KeyParts) (at : Stand) (note : Note)
    → HoldsKeys keys at.keys old.ring out.sealed.starts → IsSealable (told_step at note) → IsSkeleton (told_step at note) out.sealed.skeleton
    → HoldsKeys (keys_with keys (told_step at note) drawn) (told_stand at note).keys new.ring out.ends
unfolding told_step told_stand
keys_on r drawn old new was shows out keys at note held can skeleton = out.keys_then keys at note (told_store at.store note) held can skeleton

pub stays_sound : (r : Deed) (drawn : List (List ℕ)) (old new : OwnerView) (was shows : Option (List ℕ)) → IsSound old → IsWellNamed r
    → deed_refusal (is_strict old.state.keys) (own_store old) r old.file_bytes ≡ None
    → ((at : Stand) → IsSeenAs old.state at → note_fits (begun (not old.journal.has_epoch) at) (deed_note (own_store old) r (replicate 32 0))
    (told_step (begun (not old.journal.has_epoch) at) (deed_note (own_store old) r (replicate 32 0))) ≡ true)
    → IsCarriedOut r drawn old new was shows
    → new.journal.batches ≡ old.journal.batches + cond old.journal.has_epoch 1 2 → new.journal.epoch ≡ old.journal.epoch + cond old.journal.has_epoch 0 1
    → IsSound new
stays_sound r drawn old new was shows sound good none fits out batches epoch =
    let has = old.journal.has_epoch in
    let note = deed_note (own_store old) r (replicate 32 0) in
    let at = begun (not has) sound.at in
    let fit = fits sound.at sound.seen in
    let links = sound.goes_on.links in
    let stands = begun_stands (not has) sound.at links sound.goes_on.holds in
    let seen = out.seen_then sound.at (own_store old) sound.seen (own_kept old) in
    let low = count_low sound.at links sound.goes_on.holds in
    let held = held_on has sound.keys sound.at old out.sealed.starts out.sealed.between.epoch new.journal.epoch sound.held low sound.same_epoch sound.counts out.sealed.starts_as epoch out.same_epoch in
    let can = holding_sealable at links note stands fit in
    let holds = keys_on r drawn old new was shows out sound.keys at note held can (out.sealed.is_skeleton sound.at (own_store old) sound.seen (own_kept old)) in
    record {
      at = told_stand at note;
      keys = keys_with sound.keys (told_step at note) drawn;
      goes_on = record {
        links = links ++ (told_step at note).links;
        holds = note_holds at note links fit stands;
        numbers = numbers_after has sound.at note old.journal.batches new.journal.batches sound.goes_on.numbers batches;
      };
      seen = seen;
      same_epoch = epoch ∙ ap (λ n. n + cond has 0 1) sound.same_epoch ∙ sym (session_epoch has sound.at note);
      held = subst (HoldsKeys (keys_with sound.keys (told_step at note) drawn) (told_stand at note).keys new.ring) holds.is_counted holds;
      counts = out.ends_as ∙ ap Some holds.is_counted ∙ ap (λ b. cond b (Some (counting (told_stand at note).keys)) None) (sym out.has_begun);
      sized = files_stay r old new (not has) sound.at sound.seen seen sound.bounded none (out.titles_then (own_store old) (own_kept old).tree) sound.sized;
      bounded = subst (λ n. n ≤ most_file_bytes) (sym out.same_bound) sound.bounded;
    }
