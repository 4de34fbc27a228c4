-- What is said of each moment of a call. This project's own, docs/FORMAT.md, "Committing".
use Rattle.std.specs.Prelude.{◌≡◌, ◌≤◌, ◌⊎◌, ◌↔◌, ℕ, List}
use Rattle.cry_io.specs.Stops.{Torn}

-- so it was at each of these moments, of what was shown and of what a stop might have left
abbrev pub Throughout : (List ℕ → List ℕ → Type 0) → (List ℕ → List ℕ → Type 0) → Type 0
Throughout P since = (s c : List ℕ) → since s c → P s c

-- the moments since an earlier one are those that were past where a call starts, and those since its start
abbrev pub GoesOn : ℕ → (ℕ → List ℕ → List ℕ → Type 0) → (ℕ → List ℕ → List ℕ → Type 0) → Type 0
GoesOn start past since = (t : ℕ) (s c : List ℕ) → t ≤ start → since t s c ↔ (past t s c ⊎ since start s c)

-- what is shown, and what a stop leaves, is the old bytes with a write at this place that was done in part: not at all, or in whole, too
abbrev pub TornInto : ℕ → ℕ → List ℕ → List ℕ → List ℕ → Type 0
TornInto place n old s c = Torn place n old s × Torn place n old c

-- of what was shown at a moment of the first ones, and of what a stop might have left at a moment of the second ones, R holds
abbrev pub HoldsAcross : (List ℕ → List ℕ → Type 0) → (List ℕ → List ℕ → Type 0) → (List ℕ → List ℕ → Type 0) → Type 0
HoldsAcross R earlier later = (s c t e : List ℕ) → earlier s c → later t e → R s e

-- The way from one disk to another, in steps. Of what was shown at a moment up to the end of a step, and of what a stop might have left at
-- a moment of that step, R holds.
pub data InSteps {D : Type 0} (moment : D → ℕ) (since : D → ℕ → List ℕ → List ℕ → Type 0) (R : List ℕ → List ℕ → Type 0) (start : D) : D
    → Type 0 where
  Begins : Throughout R (since start (moment start)) → InSteps moment since R start start
  Then : {before after : D} → InSteps moment since R start before → moment before ≤ moment after
      → GoesOn (moment before) (since before) (since after)
      → HoldsAcross R (since after (moment start)) (since after (moment before)) → InSteps moment since R start after

-- From then on: R holds of what was shown at any moment of a call and of what a stop might have left then, or at any later moment of it.
-- Each moment lies in some step, and those before it lie before that step's end.
abbrev pub FromThenOn : {D : Type 0} → (D → ℕ) → (D → ℕ → List ℕ → List ℕ → Type 0) → D → D → (List ℕ → List ℕ → Type 0) → Type 0
FromThenOn moment since start now R = InSteps moment since R start now
