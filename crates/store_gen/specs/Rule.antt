-- The script of a generated store: what its lines ask for, by a rule from a number. This project's own, docs/PROGRAM.md,
-- "Generated scripts".
use Rattle.std.specs.Prelude.{◌≡◌, ℕ, zero, suc, ◌+◌, ◌*◌, ◌/◌, ◌%◌, ◌^◌, ◌<◌, Bool, true, false, nat_lt, ◌==◌, List, [], ◌∷◌, ◌++◌, length}
use Rattle.std.specs.Prelude.{map, replicate, slice_index_or, slice_set, if◌then◌else◌}
use Rattle.cry_base.specs.Requests.{Request}
use Rattle.cry_base.specs.Requests.Request.{AddHolder, MakeFolder, WriteFile, Relocate, Grant, Revoke}
use Rattle.cry_base.specs.Texts.{ended_lines}
use Rattle.store_gen.specs.Spelling.{spelled}
use Rattle.store_gen.specs.declared.change.Change.{Change}
use Rattle.store_gen.specs.declared.change.Change.TheVariants as change
use Rattle.store_gen.specs.declared.generator.Generator.{Generator}

-- /dN
abbrev pub folder_path : ℕ → List ℕ
folder_path n = 47 ∷ 100 ∷ (48 + n) ∷ []

-- /dF/fN, a file that is written
abbrev pub written_path : ℕ → ℕ → List ℕ
written_path folder n = folder_path folder ++ 47 ∷ 102 ∷ (48 + n) ∷ []

-- /dF/tN, a file that is moved
abbrev pub moved_path : ℕ → ℕ → List ℕ
moved_path folder n = folder_path folder ++ 47 ∷ 116 ∷ (48 + n) ∷ []

-- what a change asks for. A holder's number is from 1
abbrev pub asks : Change → Request
asks (change.Write folder file byte) = WriteFile (written_path folder file) (byte ∷ [])
asks (change.Grant who folder) = Grant (who + 1) (folder_path folder)
asks (change.Revoke who folder) = Revoke (who + 1) (folder_path folder)
asks (change.Move file from into) = Relocate (moved_path from file) (folder_path into)

-- its numbers are those of what the opening makes
abbrev pub IsSmall : Change → Type 0
IsSmall (change.Write folder file byte) = (folder < 8) × (file < 8) × (byte < 256)
IsSmall (change.Grant who folder) = (who < 4) × (folder < 8)
IsSmall (change.Revoke who folder) = (who < 4) × (folder < 8)
IsSmall (change.Move file from into) = (file < 8) × (from < 8) × (into < 8)

-- the numbers from 0 to 7
abbrev pub eight : List ℕ
eight = 0 ∷ 1 ∷ 2 ∷ 3 ∷ 4 ∷ 5 ∷ 6 ∷ 7 ∷ []

-- the first 20 lines: eight folders, a file in each, four holders
unfoldable pub opening : List Request
opening = map (λ n. MakeFolder (folder_path n)) eight ++ map (λ n. WriteFile (moved_path n n) (0 ∷ [])) eight ++ replicate 4 AddHolder

-- the generator's number is the seed, each file tN is in the folder dN, and no grant stands
unfoldable pub first : ℕ → Generator
first seed = record { number = seed; homes = eight; grants = replicate 32 false }

-- each of the eight files is in one of the folders
pub record IsReady (g : Generator) : Type 0 where
  pub files : length g.homes ≡ 8
  pub grants : length g.grants ≡ 32
  pub within : (n : ℕ) → n < 8 → slice_index_or g.homes n 0 < 8

-- the number before each line
abbrev pub next_number : ℕ → ℕ
next_number x = (x * 6364136223846793005 + 1442695040888963407) % 2 ^ 64

-- what the number's upper half says, in fields from its end
abbrev pub kind_in : ℕ → ℕ
kind_in x = x / 2 ^ 32 % 4

abbrev pub folder_in : ℕ → ℕ
folder_in x = x / 2 ^ 32 / 4 % 8

abbrev pub other_in : ℕ → ℕ
other_in x = x / 2 ^ 32 / 32 % 8

abbrev pub who_in : ℕ → ℕ
who_in x = x / 2 ^ 32 / 256 % 4

abbrev pub byte_in : ℕ → ℕ
byte_in x = x / 2 ^ 32 / 1024 % 256

-- the folder that the file tN is in
abbrev pub home_of : Generator → ℕ → ℕ
home_of g n = slice_index_or g.homes n 0

-- whether the holder's grant on the folder stands
abbrev pub grant_place : ℕ → ℕ → ℕ
grant_place who folder = who * 8 + folder

abbrev pub has_granted : Generator → ℕ → ℕ → Bool
has_granted g who folder = slice_index_or g.grants (grant_place who folder) false

-- another folder than this one
abbrev pub other_folder : ℕ → ℕ → ℕ
other_folder from other = (from + 1 + other % 7) % 8

-- of a grant: it is taken back where it stands
abbrev pub grant_change : Bool → ℕ → ℕ → Change
grant_change stands who folder = if stands then change.Revoke who folder else change.Grant who folder

abbrev pub drawn_grant : Generator → ℕ → ℕ → Change
drawn_grant g who folder = grant_change (has_granted g who folder) who folder

abbrev pub move_change : ℕ → ℕ → ℕ → Change
move_change file from other = change.Move file from (other_folder from other)

-- by the kind: half of the changes write, a quarter is of grants, a quarter moves
unfoldable pub change_of : Generator → Change
change_of g =
    if nat_lt (kind_in g.number) 2 then change.Write (folder_in g.number) (other_in g.number) (byte_in g.number) else
    if kind_in g.number == 2 then drawn_grant g (who_in g.number) (folder_in g.number) else
    move_change (folder_in g.number) (home_of g (folder_in g.number)) (other_in g.number)

abbrev pub advanced : Generator → Generator
advanced g = record g { number = next_number g.number }

-- a grant stands or not, a file is in another folder
abbrev pub with_grant : Generator → ℕ → ℕ → Bool → Generator
with_grant g who folder stands = record g { grants = slice_set g.grants (grant_place who folder) stands }

abbrev pub with_home : Generator → ℕ → ℕ → Generator
with_home g file into = record g { homes = slice_set g.homes file into }

abbrev pub changed : Generator → Change → Generator
changed g (change.Write folder file byte) = g
changed g (change.Grant who folder) = with_grant g who folder true
changed g (change.Revoke who folder) = with_grant g who folder false
changed g (change.Move file from into) = with_home g file into

-- after one line more
abbrev pub drawn : Generator → Generator
drawn g = changed (advanced g) (change_of (advanced g))

-- what the next lines ask for
unfoldable pub drawn_requests : ℕ → Generator → List Request
drawn_requests zero g = []
drawn_requests (suc n) g = asks (change_of (advanced g)) ∷ drawn_requests n (drawn g)

-- after so many lines
unfoldable pub drawn_after : ℕ → Generator → Generator
drawn_after zero g = g
drawn_after (suc n) g = drawn_after n (drawn g)

-- what a script's lines ask for
unfoldable pub requests : ℕ → ℕ → List Request
requests seed count = opening ++ drawn_requests count (first seed)

-- the script: each line ends with the byte 0x0a
unfoldable pub script_of : ℕ → ℕ → List ℕ
script_of seed count = ended_lines (map spelled (requests seed count))
