-- What is kept of a log, batch by batch, by a word that says of which batches, or of which starts, it is kept. This project's own,
-- docs/FORMAT.md, "Reading".
use Rattle.std.specs.Prelude.{◌≡◌, ◌+◌, List, [], ◌∷◌, ◌++◌, length}
use Rattle.commit_journal.specs.Logs.{AreInEpochs}
use Rattle.commit_journal.specs.Placed.{PlainPlaced, plain_placed}
use Rattle.commit_journal.specs.declared.past.Past.{Past}
use Rattle.commit_journal.specs.declared.placed.Placed.{Placed}

-- the batch comes next behind those of which this is kept
abbrev pub ComesNext : {K : Type 0} → (K → List PlainPlaced → Type 0) → K → Placed → Type 0
ComesNext has kept p = (log : List PlainPlaced) × has kept log × AreInEpochs 0 (log ++ plain_placed p ∷ []) × (p.batch ≡ length log + 1)

-- whichever batches it comes next behind, this is kept of them and of it
abbrev pub ReadsOn : {K : Type 0} → (K → List PlainPlaced → Type 0) → K → Placed → K → Type 0
ReadsOn has old p new =
    (log : List PlainPlaced) → has old log → AreInEpochs 0 (log ++ plain_placed p ∷ []) → p.batch ≡ length log + 1
    → has new (log ++ plain_placed p ∷ [])

-- and so of what was known before each of them, and before it
abbrev pub StartsOn : {K : Type 0} → (K → List Past → Type 0) → K → Placed → Past → K → Type 0
StartsOn has old p start new =
    (starts : List Past) → has old starts → start.number ≡ length starts → p.batch ≡ length starts + 1 → has new (starts ++ start ∷ [])
