-- This project's own, docs/FORMAT.md: names and paths.
use Rattle.std.specs.Prelude.{◌≡◌, ℕ, Bool, false, not, ◌&&◌, ◌||◌, nat_le, ◌==◌, List, [], ◌∷◌, length, flat_map, IsTrue, if◌then◌else◌}
use Rattle.std.specs.Prelude.{bytes_eq, codes}
use Rattle.std.specs.List.{list_all}
use Rattle.cry_base.specs.Limits.{most_name_bytes}

-- from the one number up to the other
unfoldable pub is_between : ℕ → ℕ → ℕ → Bool
is_between low high b = nat_le low b && nat_le b high

-- a letter, a digit, '.', '_' or '-'
unfoldable pub is_name_byte : ℕ → Bool
is_name_byte b = is_between 65 90 b || is_between 97 122 b || is_between 48 57 b || b == 46 || b == 95 || b == 45

-- 1 to 64 such bytes, and neither "." nor ".."
unfoldable pub is_name : List ℕ → Bool
is_name name = is_between 1 most_name_bytes (length name) && list_all is_name_byte name && not (bytes_eq name (codes "."))
    && not (bytes_eq name (codes ".."))

-- a slash before each name, and a slash alone where there is no name
unfoldable pub spell_path : List (List ℕ) → List ℕ
spell_path [] = 47 ∷ []
spell_path (name ∷ names) = flat_map (λ n. 47 ∷ n) (name ∷ names)

-- what names spell
abbrev pub IsPath : List ℕ → Type 0
IsPath path = (names : List (List ℕ)) × IsTrue (list_all is_name names) × (path ≡ spell_path names)

-- the byte before the first of the pieces
unfoldable pub onto_first : ℕ → List (List ℕ) → List (List ℕ)
onto_first b [] = (b ∷ []) ∷ []
onto_first b (piece ∷ pieces) = (b ∷ piece) ∷ pieces

-- the pieces between slashes
unfoldable pub split_at_slashes : List ℕ → List (List ℕ)
split_at_slashes [] = [] ∷ []
split_at_slashes (b ∷ bytes) = if b == 47 then [] ∷ split_at_slashes bytes else onto_first b (split_at_slashes bytes)

-- the names behind a path's first slash: none behind the root's
unfoldable pub names_behind : List ℕ → List (List ℕ)
names_behind [] = []
names_behind (b ∷ bytes) = split_at_slashes (b ∷ bytes)

-- the names of a path
unfoldable pub names_of : List ℕ → List (List ℕ)
names_of [] = []
names_of (slash ∷ bytes) = names_behind bytes

-- whether names spell it: a slash, and names between slashes
unfoldable pub is_path : List ℕ → Bool
is_path [] = false
is_path (slash ∷ bytes) = slash == 47 && list_all is_name (names_behind bytes)

-- all but the last
unfoldable pub front : {X : Type 0} → List X → List X
front [] = []
front (x ∷ []) = []
front (x ∷ y ∷ ys) = x ∷ front (y ∷ ys)

-- the last name, or the root's empty one
unfoldable pub last_name : List (List ℕ) → List ℕ
last_name [] = []
last_name (x ∷ []) = x
last_name (x ∷ y ∷ ys) = last_name (y ∷ ys)

-- the path without its last name
unfoldable pub parent_path : List ℕ → List ℕ
parent_path path = spell_path (front (names_of path))

-- the path of the root
unfoldable pub is_root_path : List ℕ → Bool
is_root_path path = bytes_eq path (codes "/")
