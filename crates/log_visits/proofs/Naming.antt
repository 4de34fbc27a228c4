-- A store that gets a name, or bytes, seen by the names that it has then.
use Rattle.std.proofs.Common.{◌≡◌, ℕ, Bool, true, false, cond, eqb, ◌==◌, List, [], ◌∷◌, ◌++◌, length, drop, map, Some, Result, Ok, Err, inl, inr, refl, sym, ap, subst, ◌∙◌, arith}
use Rattle.std.specs.Prelude.{if◌then◌else◌}
use Rattle.std.proofs.Math.Seq.{take-append_seam, drop-append_seam}
use Rattle.std.proofs.lemmas.Bool.{eqb-true, eq-eqb, false_from_ne_true, false≢true}
use Rattle.commit_journal.specs.Answering.{Fault, Damaged}
use Rattle.cry_base.specs.Naming.{is_name}
use Rattle.cry_base.specs.Sets.{In}
use Rattle.cry_base.specs.Stepping.{with_folder, with_file}
use Rattle.cry_base.specs.Store.{Store, FolderEntry, FileEntry, HolderEntry}
use Rattle.cry_base.specs.declared.roles.Node.{Node}
use Rattle.cry_base.specs.declared.roles.Node.TheVariants.{Folder, File}
use Rattle.folder_nodes.specs.Titles.{MayBeNamed, Title, Titles, title_at, title_of, name_in, bytes_in, tree_store, is_node, new_title}
use Rattle.log_visits.specs.Holding.{HasNames, HasParts, IsTitledBy}
use Rattle.log_visits.specs.Opening.{IsNameless}
use Rattle.log_visits.specs.Visiting.{Opened, is_folder_text, is_file_text, with_name_at, with_parts, with_text_at}

-- the names then are those before, but for one node's
abbrev pub IsNamed : Node → List ℕ → List ℕ → Titles → Titles → Type 0
IsNamed node name bytes new old = (other : Node) → title_of new other ≡ cond (is_node node other) (Some (new_title node name bytes)) (title_of old other)

-- whether the folder is the one that is named
folder_at : (f : ℕ) (name bytes : List ℕ) (new old : Titles) (e : FolderEntry) → IsNamed (Folder (record { 0 = f })) name bytes new old → (b : Bool) → eqb e.id f ≡ b →
    cond b (record e { name = name }) (record e { name = name_in (title_at old.folders e.id) }) ≡ record e { name = name_in (title_at new.folders e.id) }
folder_at f name bytes new old e named true is =
    let same : eqb f e.id ≡ true = eq-eqb f e.id (sym (eqb-true e.id f is)) in
    let title = named (Folder (record { 0 = e.id })) ∙ ap (λ b. cond b (Some (new_title (Folder (record { 0 = f })) name bytes)) (title_at old.folders e.id)) same in
    ap (λ t. let x : FolderEntry = record e { name = name_in t } in x) (sym title)
folder_at f name bytes new old e named false is =
    let other : eqb f e.id ≡ false = false_from_ne_true (eqb f e.id) (λ t. false≢true (sym is ∙ eq-eqb e.id f (sym (eqb-true f e.id t)))) in
    let title = named (Folder (record { 0 = e.id })) ∙ ap (λ b. cond b (Some (new_title (Folder (record { 0 = f })) name bytes)) (title_at old.folders e.id)) other in
    ap (λ t. let x : FolderEntry = record e { name = name_in t } in x) (sym title)

folders_at : (f : ℕ) (name bytes : List ℕ) (new old : Titles) (es : List FolderEntry) → IsNamed (Folder (record { 0 = f })) name bytes new old →
    map (λ (e : FolderEntry). cond (eqb e.id f) (record e { name = name }) e) (map (λ (e : FolderEntry). record e { name = name_in (title_at old.folders e.id) }) es)
    ≡ map (λ (e : FolderEntry). record e { name = name_in (title_at new.folders e.id) }) es
folders_at f name bytes new old [] named = refl
folders_at f name bytes new old (e ∷ es) named =
    ap (λ x. x ∷ map (λ (e : FolderEntry). cond (eqb e.id f) (record e { name = name }) e) (map (λ (e : FolderEntry). record e { name = name_in (title_at old.folders e.id) }) es))
    (folder_at f name bytes new old e named (eqb e.id f) refl)
    ∙ ap (λ xs. (let x : FolderEntry = record e { name = name_in (title_at new.folders e.id) } in x) ∷ xs) (folders_at f name bytes new old es named)

-- the files have the names and bytes that they had
files_at : (f : ℕ) (name bytes : List ℕ) (new old : Titles) (es : List FileEntry) → IsNamed (Folder (record { 0 = f })) name bytes new old →
    map (λ (e : FileEntry). record e { name = name_in (title_at old.files e.id); bytes = bytes_in (title_at old.files e.id) }) es
    ≡ map (λ (e : FileEntry). record e { name = name_in (title_at new.files e.id); bytes = bytes_in (title_at new.files e.id) }) es
files_at f name bytes new old [] named = refl
files_at f name bytes new old (e ∷ es) named =
    ap (λ t. (let x : FileEntry = record e { name = name_in t; bytes = bytes_in t } in x)
    ∷ map (λ (e : FileEntry). record e { name = name_in (title_at old.files e.id); bytes = bytes_in (title_at old.files e.id) }) es)
    (sym (named (File (record { 0 = e.id }))))
    ∙ ap (λ xs. (let x : FileEntry = record e { name = name_in (title_at new.files e.id); bytes = bytes_in (title_at new.files e.id) } in x) ∷ xs) (files_at f name bytes new old es named)

pub folder_named : (bare : Store) (f : ℕ) (name bytes : List ℕ) (new old : Titles) (s : Store) → IsNamed (Folder (record { 0 = f })) name bytes new old → HasNames bare old s →
    HasNames bare new (with_folder s f (λ e. record e { name = name }))
unfolding with_folder tree_store
folder_named bare f name bytes new old s named has =
    let folders = ap (λ (x : Store). map (λ (e : FolderEntry). cond (eqb e.id f) (record e { name = name }) e) x.folders) has ∙ folders_at f name bytes new old bare.folders named in
    let files = ap (λ (x : Store). x.files) has ∙ files_at f name bytes new old bare.files named in
    let grants = ap (λ (x : Store). x.grants) has in
    let folders_made = ap (λ (x : Store). x.folders_made) has in
    let files_made = ap (λ (x : Store). x.files_made) has in
    let holders_made = ap (λ (x : Store). x.holders_made) has in
    rw (folders, files, grants, folders_made, files_made, holders_made) refl

-- ---- a file's

file_at : (x : ℕ) (name bytes : List ℕ) (new old : Titles) (e : FileEntry) → IsNamed (File (record { 0 = x })) name bytes new old → (b : Bool) → eqb e.id x ≡ b →
    cond b (record e { name = name; bytes = bytes }) (record e { name = name_in (title_at old.files e.id); bytes = bytes_in (title_at old.files e.id) })
    ≡ record e { name = name_in (title_at new.files e.id); bytes = bytes_in (title_at new.files e.id) }
file_at x name bytes new old e named true is =
    let same : eqb x e.id ≡ true = eq-eqb x e.id (sym (eqb-true e.id x is)) in
    let title = named (File (record { 0 = e.id })) ∙ ap (λ b. cond b (Some (new_title (File (record { 0 = x })) name bytes)) (title_at old.files e.id)) same in
    ap (λ t. let y : FileEntry = record e { name = name_in t; bytes = bytes_in t } in y) (sym title)
file_at x name bytes new old e named false is =
    let other : eqb x e.id ≡ false = false_from_ne_true (eqb x e.id) (λ t. false≢true (sym is ∙ eq-eqb e.id x (sym (eqb-true x e.id t)))) in
    let title = named (File (record { 0 = e.id })) ∙ ap (λ b. cond b (Some (new_title (File (record { 0 = x })) name bytes)) (title_at old.files e.id)) other in
    ap (λ t. let y : FileEntry = record e { name = name_in t; bytes = bytes_in t } in y) (sym title)

files_named : (x : ℕ) (name bytes : List ℕ) (new old : Titles) (es : List FileEntry) → IsNamed (File (record { 0 = x })) name bytes new old →
    map (λ (e : FileEntry). cond (eqb e.id x) (record e { name = name; bytes = bytes }) e) (map (λ (e : FileEntry). record e { name = name_in (title_at old.files e.id); bytes = bytes_in (title_at old.files e.id) }) es)
    ≡ map (λ (e : FileEntry). record e { name = name_in (title_at new.files e.id); bytes = bytes_in (title_at new.files e.id) }) es
files_named x name bytes new old [] named = refl
files_named x name bytes new old (e ∷ es) named =
    ap (λ y. y ∷ map (λ (e : FileEntry). cond (eqb e.id x) (record e { name = name; bytes = bytes }) e) (map (λ (e : FileEntry). record e { name = name_in (title_at old.files e.id); bytes = bytes_in (title_at old.files e.id) }) es))
    (file_at x name bytes new old e named (eqb e.id x) refl)
    ∙ ap (λ xs. (let y : FileEntry = record e { name = name_in (title_at new.files e.id); bytes = bytes_in (title_at new.files e.id) } in y) ∷ xs) (files_named x name bytes new old es named)

-- the folders have the names that they had
folders_kept : (x : ℕ) (name bytes : List ℕ) (new old : Titles) (es : List FolderEntry) → IsNamed (File (record { 0 = x })) name bytes new old →
    map (λ (e : FolderEntry). record e { name = name_in (title_at old.folders e.id) }) es ≡ map (λ (e : FolderEntry). record e { name = name_in (title_at new.folders e.id) }) es
folders_kept x name bytes new old [] named = refl
folders_kept x name bytes new old (e ∷ es) named =
    ap (λ t. (let y : FolderEntry = record e { name = name_in t } in y) ∷ map (λ (e : FolderEntry). record e { name = name_in (title_at old.folders e.id) }) es)
    (sym (named (Folder (record { 0 = e.id }))))
    ∙ ap (λ xs. (let y : FolderEntry = record e { name = name_in (title_at new.folders e.id) } in y) ∷ xs) (folders_kept x name bytes new old es named)

pub file_named : (bare : Store) (x : ℕ) (name bytes : List ℕ) (new old : Titles) (s : Store) → IsNamed (File (record { 0 = x })) name bytes new old → HasNames bare old s →
    HasNames bare new (with_file s x (λ e. record e { name = name; bytes = bytes }))
unfolding with_file tree_store
file_named bare x name bytes new old s named has =
    let files = ap (λ (y : Store). map (λ (e : FileEntry). cond (eqb e.id x) (record e { name = name; bytes = bytes }) e) y.files) has ∙ files_named x name bytes new old bare.files named in
    let folders = ap (λ (y : Store). y.folders) has ∙ folders_kept x name bytes new old bare.folders named in
    let grants = ap (λ (y : Store). y.grants) has in
    let folders_made = ap (λ (y : Store). y.folders_made) has in
    let files_made = ap (λ (y : Store). y.files_made) has in
    let holders_made = ap (λ (y : Store). y.holders_made) has in
    rw (folders, files, grants, folders_made, files_made, holders_made) refl

-- ---- the holders', which no name is among

pub holders_named : (bare : Store) (names : Titles) (s : Store) (holders : List HolderEntry) → HasNames bare names s → HasNames bare names (record s { holders = holders })
unfolding tree_store
holders_named bare names s holders has = ap (λ (y : Store). let z : Store = record y { holders = holders } in z) has

-- ---- none yet

-- entries without names, and those of a tree in which nothing is named
folders_unnamed : (es : List FolderEntry) → ((e : FolderEntry) → In e es → e.name ≡ []) → es ≡ map (λ (e : FolderEntry). record e { name = [] }) es
folders_unnamed [] none = refl
folders_unnamed (e ∷ es) none =
    ap (λ n. (let y : FolderEntry = record e { name = n } in y) ∷ es) (none e (inl refl))
    ∙ ap (λ xs. (let y : FolderEntry = record e { name = [] } in y) ∷ xs) (folders_unnamed es (λ d i. none d (inr i)))

files_unnamed : (es : List FileEntry) → ((e : FileEntry) → In e es → (e.name ≡ []) × (e.bytes ≡ [])) → es ≡ map (λ (e : FileEntry). record e { name = []; bytes = [] }) es
files_unnamed [] none = refl
files_unnamed (e ∷ es) none =
    ap (λ n. (let y : FileEntry = record e { name = n } in y) ∷ es) (none e (inl refl)).0
    ∙ ap (λ n. (let y : FileEntry = record e { name = []; bytes = n } in y) ∷ es) (none e (inl refl)).1
    ∙ ap (λ xs. (let y : FileEntry = record e { name = []; bytes = [] } in y) ∷ xs) (files_unnamed es (λ d i. none d (inr i)))

pub nothing_named : (bare : Store) (names : Titles) → IsNameless bare → names.folders ≡ [] → names.files ≡ [] → HasNames bare names bare
unfolding tree_store
nothing_named bare names less no_folders no_files =
    let folders : bare.folders ≡ map (λ (e : FolderEntry). record e { name = name_in (title_at names.folders e.id) }) bare.folders =
    folders_unnamed bare.folders less.folders
    ∙ ap (λ (ts : List Title). map (λ (e : FolderEntry). let y : FolderEntry = record e { name = name_in (title_at ts e.id) } in y) bare.folders) (sym no_folders)
    in
    let files : bare.files ≡ map (λ (e : FileEntry). record e { name = name_in (title_at names.files e.id); bytes = bytes_in (title_at names.files e.id) }) bare.files =
    files_unnamed bare.files less.files
    ∙ ap (λ (ts : List Title). map (λ (e : FileEntry). let y : FileEntry = record e { name = name_in (title_at ts e.id); bytes = bytes_in (title_at ts e.id) } in y) bare.files) (sym no_files)
    in
    ap (λ (fs : List FolderEntry). let y : Store = record bare { folders = fs } in y) folders
    ∙ ap (λ (fs : List FileEntry). let y : Store = record bare { folders = map (λ (e : FolderEntry). record e { name = name_in (title_at names.folders e.id) }) bare.folders; files = fs } in y) files

-- ---- the text of a content

-- the same names, whatever room there is beside them
pub same_names : (bare : Store) (new old : Titles) (s : Store) → new.folders ≡ old.folders → new.files ≡ old.files → HasNames bare old s → HasNames bare new s
unfolding tree_store
same_names bare new old s folders files has = rw (folders, files) has

pub name_refused : (o : Opened) (f at : ℕ) (text : List ℕ) → is_folder_text f text ≡ false → with_name_at o f at text ≡ Err (Damaged at)
unfolding with_name_at
name_refused o f at text is = rw is refl

pub name_taken : (bare : Store) (o : Opened) (f at : ℕ) (text bytes : List ℕ) (new given old : Titles) → is_folder_text f text ≡ true → IsNamed (Folder (record { 0 = f })) text bytes new given →
    given.folders ≡ old.folders → given.files ≡ old.files → HasNames bare old o.store → (y : Opened) × (with_name_at o f at text ≡ Ok y) × IsTitledBy bare new o y
unfolding with_name_at with_folder
name_taken bare o f at text bytes new given old is named folders files has = (
  record o { store = with_folder o.store f (λ e. record e { name = text }) },
  rw is refl,
  (refl, refl, folder_named bare f text bytes new given o.store named (same_names bare given old o.store folders files has)),
)

name_or : (text : List ℕ) (b : Bool) → (if b then length text == 0 else is_name text) ≡ true → MayBeNamed text
name_or [] true t = inl refl
name_or (x ∷ xs) true t = absurd (let none : length (x ∷ xs) ≡ 0 = eqb-true (length (x ∷ xs)) 0 t in omega (arith, none))
name_or text false t = inr t

-- what a folder may have for its text may be a name
pub may_be_named : (f : ℕ) (text : List ℕ) → is_folder_text f text ≡ true → MayBeNamed text
unfolding is_folder_text
may_be_named f text t = name_or text (f == 1) t

pub text_refused : (o : Opened) (x at : ℕ) (text : List ℕ) → is_file_text text ≡ false → with_text_at o x at text ≡ Err (Damaged at)
unfolding with_text_at
text_refused o x at text is = rw is refl

parts_of_it : (o : Opened) (x : ℕ) (text name bytes : List ℕ) → text ≡ length name ∷ (name ++ bytes) →
    with_parts o x text ≡ record o { store = with_file o.store x (λ e. record e { name = name; bytes = bytes }) }
unfolding with_parts
parts_of_it o x text name bytes is =
    ap (with_parts o x) is
    ∙ ap (λ n. let y : Opened = record o { store = with_file o.store x (λ e. record e { name = n; bytes = drop (length name) (name ++ bytes) }) } in y) (take-append_seam name bytes)
    ∙ ap (λ b. let y : Opened = record o { store = with_file o.store x (λ e. record e { name = name; bytes = b }) } in y) (drop-append_seam name bytes)

-- the text is the name and the bytes
pub file_opened : (o : Opened) (x at : ℕ) (text name bytes : List ℕ) → HasParts text name bytes →
    with_text_at o x at text ≡ Ok (record o { store = with_file o.store x (λ e. record e { name = name; bytes = bytes }) })
unfolding with_text_at
file_opened o x at text name bytes parts = rw parts.0 (ap (λ y. let z : Result Opened Fault = Ok y in z) (parts_of_it o x text name bytes parts.1))

-- the file's entry has this name and these bytes
pub file_titled : (bare : Store) (o behind : Opened) (x : ℕ) (name bytes : List ℕ) (new given old : Titles) → behind ≡ record o { store = with_file o.store x (λ e. record e { name = name; bytes = bytes }) } →
    IsNamed (File (record { 0 = x })) name bytes new given → given.folders ≡ old.folders → given.files ≡ old.files → HasNames bare old o.store → IsTitledBy bare new o behind
unfolding with_file
file_titled bare o behind x name bytes new given old is named folders files has =
    subst (IsTitledBy bare new o) (sym is) (refl, refl, file_named bare x name bytes new given o.store named (same_names bare given old o.store folders files has))
