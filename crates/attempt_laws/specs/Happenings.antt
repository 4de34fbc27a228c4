-- What can happen to a store, and when.
use Rattle.std.specs.Prelude.{◌≡◌, ℕ, false, List, [], ◌∷◌, length, None, Some, All}
use Rattle.cry_base.specs.declared.commands.Refusal.{Refusal}
use Rattle.cry_base.specs.declared.limits.Limits.{Limits}
use Rattle.public_fold.specs.Journal.{keys_of}
use Rattle.journal_bytes.specs.Attempts.{Course}
use Rattle.journal_bytes.specs.Attempts.Event.{IsRefused, Enters, IsAbandoned, LosesEpoch, Ends, Reopens}
use Rattle.store_owner.specs.Deeds.{Deed, Suits, deed_answer, deed_draws}
use Rattle.store_owner.specs.Deeds.Deed.{Commanded, Upgrading}
use Rattle.attempt_laws.specs.Trials.{Happening, Befalls, BeginsEpoch, UpgradeEnters, UpgradeIsAbandoned, UpgradeIsRefused, course_behind}

-- a command, or an upgrade of a store of version 1, is refused there
abbrev pub IsTurnedDown : Limits → Course → Deed → Type 0
IsTurnedDown limits c d = Suits (keys_of c.journal) d × ((why : Refusal) × (deed_answer limits c.journal c.begun d ≡ Some why))

-- it is accepted there
abbrev pub IsAccepted : Limits → Course → Deed → Type 0
IsAccepted limits c d = Suits (keys_of c.journal) d × (deed_answer limits c.journal c.begun d ≡ None)

-- and draws these keys
abbrev pub IsDrawnFor : Limits → Course → Deed → List (List ℕ) → Type 0
IsDrawnFor limits c d keys =
    IsAccepted limits c d × (length keys ≡ deed_draws c.journal d) × All (λ (key : List ℕ). length key ≡ 32) keys

-- the session has begun no epoch, and what it begins one for is accepted
abbrev pub IsBegunFor : Limits → Course → Type 0
IsBegunFor limits c = (c.begun ≡ false) × ((d : Deed) × IsAccepted limits c d)

-- it can happen there
abbrev pub CanHappen : Limits → Course → Happening → Type 0
CanHappen limits c (Befalls (IsRefused r)) = IsTurnedDown limits c (Commanded r)
CanHappen limits c (Befalls (Enters r keys)) = IsDrawnFor limits c (Commanded r) keys
CanHappen limits c (Befalls (IsAbandoned r keys)) = IsDrawnFor limits c (Commanded r) keys
CanHappen limits c (Befalls LosesEpoch) = IsBegunFor limits c
CanHappen limits c (Befalls Ends) = Unit {0}
CanHappen limits c (Befalls Reopens) = Unit {0}
CanHappen limits c BeginsEpoch = IsBegunFor limits c
CanHappen limits c UpgradeIsRefused = IsTurnedDown limits c Upgrading
CanHappen limits c (UpgradeEnters keys) = IsDrawnFor limits c Upgrading keys
CanHappen limits c (UpgradeIsAbandoned keys) = IsDrawnFor limits c Upgrading keys

-- each can happen where it does
abbrev pub IsCourse : Limits → Course → List Happening → Type 0
IsCourse limits c [] = Unit {0}
IsCourse limits c (now ∷ later) = CanHappen limits c now × IsCourse limits (course_behind c now) later
