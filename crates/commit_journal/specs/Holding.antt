-- What a disk holds, and what a call kept at each moment, by what its bytes stand for: batches here, journals in the
-- crates above. This project's own, docs/FORMAT.md, "Committing".
pub use Rattle.batch_log.specs.Moments.{GoesOn}
use Rattle.std.specs.Prelude.{◌≡◌, ◌⊎◌, ℕ, List, ◌++◌, Option, Some}

-- the one list begins the other, or is the other
abbrev pub IsPrefix : {X : Type 0} → List X → List X → Type 0
IsPrefix {X} front whole = (more : List X) × (front ++ more ≡ whole)

-- the bytes stand for a list that begins with the lower one and is a prefix of the higher one
pub record IsBetween {X : Type 0} (stands : List X → List ℕ → Type 0) (low high : List X) (bytes : List ℕ) : Type 0 where
  pub held : List X
  pub from : IsPrefix low held
  pub to : IsPrefix held high
  pub stands_for : stands held bytes

-- the disk shows bytes that stand for the list
abbrev pub Shows : {X : Type 0} → (List X → List ℕ → Type 0) → List X → Option (List ℕ) → Type 0
Shows stands held shown = (s : List ℕ) × (shown ≡ Some s) × stands held s

-- what the disk shows, and whatever a stop may leave, lies between the two
pub record HoldsBetween {X : Type 0} (stands : List X → List ℕ → Type 0) (low high : List X) (shown : Option (List ℕ)) (may_leave : List ℕ
    → Type 0) : Type 0 where
  pub shows : (s : List ℕ) × (shown ≡ Some s) × IsBetween stands low high s
  pub leaves : (c : List ℕ) → may_leave c → IsBetween stands low high c

-- what the disk shows, and whatever a stop may leave, stands for the list as a whole: the last slot holds its veil key
pub record IsSettled {X : Type 0} (stands_whole : List X → List ℕ → Type 0) (held : List X) (shown : Option (List ℕ)) (may_leave : List ℕ
    → Type 0) : Type 0 where
  pub shows : Shows stands_whole held shown
  pub leaves : (c : List ℕ) → may_leave c → stands_whole held c

-- the bytes stand for a list that begins with the lower one, and is a prefix of the higher one or of what the call reached
pub record IsKept {X : Type 0} (stands : List X → List ℕ → Type 0) (low high reached : List X) (bytes : List ℕ) : Type 0 where
  pub held : List X
  pub from : IsPrefix low held
  pub to : IsPrefix held high ⊎ IsPrefix held reached
  pub stands_for : stands held bytes

-- a call kept the two up to what it reached: so it was with whatever a stop might have left at each moment since its start
abbrev pub Kept : {X : Type 0} → (List X → List ℕ → Type 0) → List X → List X → List X → (List ℕ → List ℕ → Type 0) → Type 0
Kept stands low high reached since = (s c : List ℕ) → since s c → IsKept stands low high reached c
