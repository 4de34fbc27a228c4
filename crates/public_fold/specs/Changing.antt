-- What a note makes of the tree and of the grants that the code keeps. This project's own, docs/FORMAT.md, "The key step".
use Rattle.std.specs.Prelude.{◌≡◌, ◌≢◌, ℕ, ◌+◌, false, List, [], ◌∷◌, ◌++◌, length, IsSome}
use Rattle.cry_base.specs.Clearances.{clear_number}
use Rattle.cry_base.specs.Refusing.{has_child}
use Rattle.cry_base.specs.Sets.{In}
use Rattle.cry_base.specs.Store.{Store, GrantEntry, file_entry, folder_entry, root_store}
use Rattle.cry_base.specs.Stepping.{with_new_folder, with_new_file, with_folder, with_file, without_folder, without_file}
use Rattle.folder_nodes.specs.Changing.{CanShift, HasPlace}
use Rattle.grant_book.specs.Granted.{IsHolder, grant_of, with_pair, without_pair, without_pairs_on}
use Rattle.record_format.specs.Noted.{Note}
use Rattle.record_format.specs.Noted.Note.{Root, NewHolder, NewFolder, NewFile, Rewrite, NameFile, NameFolder, DropFile, DropFolder}
use Rattle.record_format.specs.Noted.Note.{ShiftFile, ShiftFolder, Give, Take, StrictRoot, Upgrade}

-- the tree after a note
unfoldable pub tree_then : Store → Note → Store
tree_then t Root = root_store
tree_then t (NewHolder h check) = t
tree_then t (NewFolder f p) = with_new_folder t p []
tree_then t (NewFile x f) = with_new_file t f [] []
tree_then t (Rewrite x) = t
tree_then t (NameFile x) = t
tree_then t (NameFolder f) = t
tree_then t (DropFile x) = without_file t x
tree_then t (DropFolder f) = without_folder t f
tree_then t (ShiftFile x g) = with_file t x (λ e. record e { folder = g })
tree_then t (ShiftFolder g q) = with_folder t g (λ e. record e { parent = q })
tree_then t (Give h f) = t
tree_then t (Take h f) = t
tree_then t StrictRoot = root_store
tree_then t Upgrade = t

-- the grants after a note, by holder and then by folder
unfoldable pub pairs_then : List GrantEntry → Note → List GrantEntry
pairs_then pairs Root = []
pairs_then pairs (NewHolder h check) = pairs
pairs_then pairs (NewFolder f p) = pairs
pairs_then pairs (NewFile x f) = pairs
pairs_then pairs (Rewrite x) = pairs
pairs_then pairs (NameFile x) = pairs
pairs_then pairs (NameFolder f) = pairs
pairs_then pairs (DropFile x) = without_pairs_on pairs (clear_number x)
pairs_then pairs (DropFolder f) = without_pairs_on pairs f
pairs_then pairs (ShiftFile x g) = pairs
pairs_then pairs (ShiftFolder g q) = pairs
pairs_then pairs (Give h f) = with_pair pairs (grant_of h f)
pairs_then pairs (Take h f) = without_pair pairs h f
pairs_then pairs StrictRoot = []
pairs_then pairs Upgrade = pairs

-- the checks after a note: a new holder's comes behind the others
unfoldable pub checks_then : List (List ℕ) → Note → List (List ℕ)
checks_then checks Root = []
checks_then checks StrictRoot = []
checks_then checks (NewHolder h check) = checks ++ check ∷ []
checks_then checks note = checks

-- the tree lets a note change it: what goes or moves stands, and there is a place for what comes
abbrev pub CanChangeTree : Store → Note → Type 0
CanChangeTree t Root = ⊥
CanChangeTree t StrictRoot = ⊥
CanChangeTree t (NewFolder f p) = (f ≡ t.folders_made + 1) × HasPlace t p
CanChangeTree t (NewFile x f) = (x ≡ t.files_made + 1) × HasPlace t f
CanChangeTree t (DropFile x) = IsSome (file_entry t x)
CanChangeTree t (DropFolder f) = IsSome (folder_entry t f) × (f ≢ 1) × (has_child t f ≡ false)
CanChangeTree t (ShiftFile x g) = IsSome (file_entry t x) × HasPlace t g
CanChangeTree t (ShiftFolder g q) = CanShift t g q
CanChangeTree t note = Unit {0}

-- so do the holders and the grants: a holder is the next one, a grant is one that isn't given yet, or one that was given
abbrev pub CanChangeGrants : List (List ℕ) → List GrantEntry → Note → Type 0
CanChangeGrants checks pairs Root = ⊥
CanChangeGrants checks pairs StrictRoot = ⊥
CanChangeGrants checks pairs (NewHolder h check) = h ≡ length checks + 1
CanChangeGrants checks pairs (Give h f) = IsHolder checks h × ¬ In (grant_of h f) pairs
CanChangeGrants checks pairs (Take h f) = In (grant_of h f) pairs
CanChangeGrants checks pairs note = Unit {0}
