-- The note of a command with the check of the new holder's key in place of zeros, and what hangs on it.
use Rattle.std.proofs.Common.{◌≡◌, ℕ, ◌+◌, ◌*◌, ◌≤◌, Bool, true, false, cond, List, [], ◌∷◌, ◌++◌, length, replicate, Option, Some, None, arith, refl, sym, ap, ◌∙◌, length-append}
use Rattle.std.proofs.lemmas.Bool.{false≢true}
use Rattle.std.proofs.lemmas.List.Elements.{All-head}
use Rattle.cry_base.specs.Requests.{Request}
use Rattle.cry_base.specs.Requests.Request.{AddHolder, MakeFolder, WriteFile, Remove, Rename, Relocate, Grant, Revoke}
use Rattle.cry_base.specs.Store.{Store, node_at}
use Rattle.cry_base.specs.declared.roles.Node.{Node}
use Rattle.cry_base.specs.declared.roles.Node.TheVariants.{Folder, File}
use Rattle.move_plan.specs.Change.{change_of, no_change, row_change}
use Rattle.move_plan.specs.Noting.{note_of, write_note, remove_note, rename_note, move_note}
use Rattle.record_format.specs.Noted.{Note}
use Rattle.record_format.specs.Noted.Note.{Root, NewHolder, NewFolder, NewFile, Rewrite, NameFile, NameFolder, DropFile, DropFolder, ShiftFile, ShiftFolder, Give, Take, StrictRoot, Upgrade}
use Rattle.record_format.specs.Told.{told_note}
use Rattle.record_format.specs.declared.note.Note.{Note as Declared}
use Rattle.record_format.specs.declared.note.Note.TheVariants as declared
use Rattle.role_graph.specs.Roles.{holder_role}
use Rattle.public_fold.specs.Fitted.{told_step}
use Rattle.public_fold.specs.Heads.{IsSkeleton}
use Rattle.public_fold.specs.Journal.{Stand, first_key, note_step}
use Rattle.public_fold.specs.KeyStep.{given, is_strict, key_step, next_serial, published, renewed, step_with}
use Rattle.public_fold.specs.Lengths.{note_len}
use Rattle.public_fold.specs.Preparing.{is_new_holder, with_check}
use Rattle.public_fold.specs.declared.heads.Skeleton.{Skeleton}
use Rattle.public_fold.proofs.Serials.{numbered-length}
use Rattle.role_graph.specs.Edges.{edges}
use Rattle.journal_bytes.specs.Sealing.{skeleton_size}
use Rattle.journal_bytes.specs.Texting.{due_key}
use Rattle.store_owner.specs.Deeds.{Deed, deed_key, deed_note}
use Rattle.store_owner.specs.Deeds.Deed.{Commanded, Upgrading}
use Rattle.store_owner.specs.Drawing.{AreKeys}
use Rattle.store_owner.specs.Planning.{holder_key}

-- ---- whether a holder is made

abbrev pub is_holder : Note → Bool
is_holder (NewHolder h check) = true
is_holder note = false

abbrev is_adding : Request → Bool
is_adding AddHolder = true
is_adding r = false

holder_told : (note : Declared) → is_new_holder note ≡ is_holder (told_note note)
unfolding told_note
holder_told declared.Root = refl
holder_told (declared.NewHolder h check) = refl
holder_told (declared.NewFolder f p) = refl
holder_told (declared.NewFile x f) = refl
holder_told (declared.Rewrite x) = refl
holder_told (declared.NameFile x) = refl
holder_told (declared.NameFolder f) = refl
holder_told (declared.DropFile x) = refl
holder_told (declared.DropFolder f) = refl
holder_told (declared.ShiftFile x g) = refl
holder_told (declared.ShiftFolder g q) = refl
holder_told (declared.Give h f) = refl
holder_told (declared.Take h f) = refl
holder_told declared.StrictRoot = refl
holder_told declared.Upgrade = refl

pub write_no_holder : (s : Store) (found : Option Node) (n : ℕ) → is_holder (write_note s found n) ≡ false
unfolding write_note
write_no_holder s None n = refl
write_no_holder s (Some (Folder f)) n = refl
write_no_holder s (Some (File x)) n = refl

pub remove_no_holder : (found : Option Node) → is_holder (remove_note found) ≡ false
unfolding remove_note
remove_no_holder None = refl
remove_no_holder (Some (Folder f)) = refl
remove_no_holder (Some (File x)) = refl

pub rename_no_holder : (found : Option Node) → is_holder (rename_note found) ≡ false
unfolding rename_note
rename_no_holder None = refl
rename_no_holder (Some (Folder f)) = refl
rename_no_holder (Some (File x)) = refl

pub move_no_holder : (found : Option Node) (n : ℕ) → is_holder (move_note found n) ≡ false
unfolding move_note
move_no_holder None n = refl
move_no_holder (Some (Folder f)) n = refl
move_no_holder (Some (File x)) n = refl

holder_asked : (s : Store) (r : Request) (check : List ℕ) → is_holder (note_of s r check) ≡ is_adding r
unfolding note_of
holder_asked s AddHolder check = refl
holder_asked s (MakeFolder path) check = refl
holder_asked s (WriteFile path bytes) check = write_no_holder s (node_at s path) _
holder_asked s (Remove path) check = remove_no_holder (node_at s path)
holder_asked s (Rename path name) check = rename_no_holder (node_at s path)
holder_asked s (Relocate path into) check = move_no_holder (node_at s path) _
holder_asked s (Grant h path) check = refl
holder_asked s (Revoke h path) check = refl

adding_is : (r : Request) → is_adding r ≡ true → r ≡ AddHolder
adding_is AddHolder t = refl
adding_is (MakeFolder path) t = absurd (false≢true t)
adding_is (WriteFile path bytes) t = absurd (false≢true t)
adding_is (Remove path) t = absurd (false≢true t)
adding_is (Rename path name) t = absurd (false≢true t)
adding_is (Relocate path into) t = absurd (false≢true t)
adding_is (Grant h path) t = absurd (false≢true t)
adding_is (Revoke h path) t = absurd (false≢true t)

-- of what is asked
abbrev makes_holder : Deed → Bool
makes_holder (Commanded r) = is_adding r
makes_holder Upgrading = false

holder_noted : (s : Store) (d : Deed) (check : List ℕ) → is_holder (deed_note s d check) ≡ makes_holder d
holder_noted s (Commanded r) check = holder_asked s r check
holder_noted s Upgrading check = refl

making_is : (d : Deed) → makes_holder d ≡ true → d ≡ Commanded AddHolder
making_is (Commanded r) t = ap Commanded (adding_is r t)
making_is Upgrading t = absurd (false≢true t)

asked : (note : Declared) (s : Store) (d : Deed) (check : List ℕ) → told_note note ≡ deed_note s d check → is_new_holder note ≡ makes_holder d
asked note s d check told = holder_told note ∙ ap is_holder told ∙ holder_noted s d check

pub adds_holder : (note : Declared) (s : Store) (d : Deed) (check : List ℕ) → told_note note ≡ deed_note s d check → is_new_holder note ≡ true → d ≡ Commanded AddHolder
adds_holder note s d check told is = making_is d (sym (asked note s d check told) ∙ is)

-- ---- the note with the check

abbrev checked : Note → List ℕ → Note
checked (NewHolder h old) check = NewHolder h check
checked note check = note

checked_told : (note : Declared) (check : List ℕ) → told_note (with_check note check) ≡ checked (told_note note) check
unfolding told_note
checked_told declared.Root check = refl
checked_told (declared.NewHolder h old) check = refl
checked_told (declared.NewFolder f p) check = refl
checked_told (declared.NewFile x f) check = refl
checked_told (declared.Rewrite x) check = refl
checked_told (declared.NameFile x) check = refl
checked_told (declared.NameFolder f) check = refl
checked_told (declared.DropFile x) check = refl
checked_told (declared.DropFolder f) check = refl
checked_told (declared.ShiftFile x g) check = refl
checked_told (declared.ShiftFolder g q) check = refl
checked_told (declared.Give h f) check = refl
checked_told (declared.Take h f) check = refl
checked_told declared.StrictRoot check = refl
checked_told declared.Upgrade check = refl

unchecked : (note : Note) (check : List ℕ) → is_holder note ≡ false → checked note check ≡ note
unchecked Root check f = refl
unchecked (NewHolder h old) check f = absurd (false≢true (sym f))
unchecked (NewFolder f p) check e = refl
unchecked (NewFile x f) check e = refl
unchecked (Rewrite x) check e = refl
unchecked (NameFile x) check e = refl
unchecked (NameFolder f) check e = refl
unchecked (DropFile x) check e = refl
unchecked (DropFolder f) check e = refl
unchecked (ShiftFile x g) check e = refl
unchecked (ShiftFolder g q) check e = refl
unchecked (Give h f) check e = refl
unchecked (Take h f) check e = refl
unchecked StrictRoot check f = refl
unchecked Upgrade check e = refl

checked_asked : (s : Store) (r : Request) (old check : List ℕ) → checked (note_of s r old) check ≡ note_of s r check
unfolding note_of
checked_asked s AddHolder old check = refl
checked_asked s (MakeFolder path) old check = refl
checked_asked s (WriteFile path bytes) old check = unchecked _ check (write_no_holder s (node_at s path) _)
checked_asked s (Remove path) old check = unchecked _ check (remove_no_holder (node_at s path))
checked_asked s (Rename path name) old check = unchecked _ check (rename_no_holder (node_at s path))
checked_asked s (Relocate path into) old check = unchecked _ check (move_no_holder (node_at s path) _)
checked_asked s (Grant h path) old check = refl
checked_asked s (Revoke h path) old check = refl

checked_noted : (s : Store) (d : Deed) (old check : List ℕ) → checked (deed_note s d old) check ≡ deed_note s d check
checked_noted s (Commanded r) old check = checked_asked s r old check
checked_noted s Upgrading old check = refl

pub keyed_note : (note new : Declared) (s : Store) (d : Deed) (old check : List ℕ) → new ≡ with_check note check → told_note note ≡ deed_note s d old → told_note new ≡ deed_note s d check
keyed_note note new s d old check is told = ap told_note is ∙ checked_told note check ∙ ap (λ n. checked n check) told ∙ checked_noted s d old check

-- ---- its key, and its length

holder_key_is : (note : Declared) (drawn : List (List ℕ)) → holder_key note drawn ≡ cond (is_new_holder note) (first_key drawn) []
holder_key_is declared.Root drawn = refl
holder_key_is (declared.NewHolder h old) drawn = refl
holder_key_is (declared.NewFolder f p) drawn = refl
holder_key_is (declared.NewFile x f) drawn = refl
holder_key_is (declared.Rewrite x) drawn = refl
holder_key_is (declared.NameFile x) drawn = refl
holder_key_is (declared.NameFolder f) drawn = refl
holder_key_is (declared.DropFile x) drawn = refl
holder_key_is (declared.DropFolder f) drawn = refl
holder_key_is (declared.ShiftFile x g) drawn = refl
holder_key_is (declared.ShiftFolder g q) drawn = refl
holder_key_is (declared.Give h f) drawn = refl
holder_key_is (declared.Take h f) drawn = refl
holder_key_is declared.StrictRoot drawn = refl
holder_key_is declared.Upgrade drawn = refl

due_key_is : (r : Request) (key : List ℕ) → due_key r key ≡ cond (is_adding r) key []
unfolding due_key
due_key_is AddHolder key = refl
due_key_is (MakeFolder path) key = refl
due_key_is (WriteFile path bytes) key = refl
due_key_is (Remove path) key = refl
due_key_is (Rename path name) key = refl
due_key_is (Relocate path into) key = refl
due_key_is (Grant h path) key = refl
due_key_is (Revoke h path) key = refl

deed_key_is : (d : Deed) (key : List ℕ) → deed_key d key ≡ cond (makes_holder d) key []
deed_key_is (Commanded r) key = due_key_is r key
deed_key_is Upgrading key = refl

pub holder_key_due : (note : Declared) (s : Store) (d : Deed) (check : List ℕ) (drawn : List (List ℕ)) → told_note note ≡ deed_note s d check → holder_key note drawn ≡ deed_key d (first_key drawn)
holder_key_due note s d check drawn told = holder_key_is note drawn ∙ ap (λ b. cond b (first_key drawn) []) (asked note s d check told) ∙ sym (deed_key_is d (first_key drawn))

first_long : (drawn : List (List ℕ)) → AreKeys drawn → 1 ≤ length drawn → length (first_key drawn) ≡ 32
unfolding first_key
first_long [] sizes some = absurd (omega arith)
first_long (key ∷ drawn) sizes some = All-head (λ (k : List ℕ). length k ≡ 32) key drawn sizes

same_long : (b : Bool) (key zeros : List ℕ) → (b ≡ true → length key ≡ length zeros) → length (cond b key []) ≡ length (cond b zeros [])
same_long true key zeros h = h refl
same_long false key zeros h = refl

-- the step of a new holder's note gives a key
gives : (at : Stand) (note : Note) → is_holder note ≡ true → 1 ≤ length (told_step at note).given
unfolding told_step note_step key_step step_with published given change_of row_change no_change
gives at (NewHolder h check) t =
    let k = at.keys in
    let c = change_of (is_strict k) at.store (NewHolder h check) in
    let plan = renewed k (edges at.store) c in
    let long = numbered-length _ (next_serial k) (plan ++ holder_role h ∷ []) in
    let sum = length-append plan (holder_role h ∷ []) in omega (arith, long, sum)
gives at Root t = absurd (false≢true t)
gives at (NewFolder f p) t = absurd (false≢true t)
gives at (NewFile x f) t = absurd (false≢true t)
gives at (Rewrite x) t = absurd (false≢true t)
gives at (NameFile x) t = absurd (false≢true t)
gives at (NameFolder f) t = absurd (false≢true t)
gives at (DropFile x) t = absurd (false≢true t)
gives at (DropFolder f) t = absurd (false≢true t)
gives at (ShiftFile x g) t = absurd (false≢true t)
gives at (ShiftFolder g q) t = absurd (false≢true t)
gives at (Give h f) t = absurd (false≢true t)
gives at (Take h f) t = absurd (false≢true t)
gives at StrictRoot t = absurd (false≢true t)
gives at Upgrade t = absurd (false≢true t)

pub holder_drawn : (at : Stand) (note : Declared) (s : Skeleton) (drawn : List (List ℕ)) → IsSkeleton (told_step at (told_note note)) s → length drawn ≡ length s.keys.items → is_new_holder note ≡ true → 1 ≤ length drawn
holder_drawn at note s drawn skeleton long is =
    let some = gives at (told_note note) (sym (holder_told note) ∙ is) in
    let same = ap length skeleton.keys in omega (arith, some, same, long)

pub key_long : (at : Stand) (note : Declared) (s : Skeleton) (store : Store) (d : Deed) (check : List ℕ) (drawn : List (List ℕ)) → IsSkeleton (told_step at (told_note note)) s → length drawn ≡ length s.keys.items → AreKeys drawn
    → told_note note ≡ deed_note store d check → length (deed_key d (first_key drawn)) ≡ length (deed_key d (replicate 32 0))
key_long at note s store d check drawn skeleton long sizes told =
    ap length (deed_key_is d (first_key drawn))
    ∙ same_long (makes_holder d) (first_key drawn) (replicate 32 0) (λ t. first_long drawn sizes (holder_drawn at note s drawn skeleton long (asked note store d check told ∙ t)))
    ∙ sym (ap length (deed_key_is d (replicate 32 0)))

checked_len : (note : Note) (check : List ℕ) → note_len (checked note check) ≡ note_len note
unfolding note_len
checked_len Root check = refl
checked_len (NewHolder h old) check = refl
checked_len (NewFolder f p) check = refl
checked_len (NewFile x f) check = refl
checked_len (Rewrite x) check = refl
checked_len (NameFile x) check = refl
checked_len (NameFolder f) check = refl
checked_len (DropFile x) check = refl
checked_len (DropFolder f) check = refl
checked_len (ShiftFile x g) check = refl
checked_len (ShiftFolder g q) check = refl
checked_len (Give h f) check = refl
checked_len (Take h f) check = refl
checked_len StrictRoot check = refl
checked_len Upgrade check = refl

pub keyed_size : (note new : Declared) (check : List ℕ) (s : Skeleton) (n m : ℕ) → new ≡ with_check note check → n ≡ m → skeleton_size (told_note new) s n ≡ skeleton_size (told_note note) s m
keyed_size note new check s n m is same =
    ap (λ k. skeleton_size (told_note new) s k) same
    ∙ ap (λ l. l + 8 + 98 * length s.links.items + (58 + m) * length s.contents.items) (ap (λ x. note_len (told_note x)) is ∙ ap note_len (checked_told note check) ∙ checked_len (told_note note) check)
