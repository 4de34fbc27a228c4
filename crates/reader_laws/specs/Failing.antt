-- What a visit may fail at. This project's own, docs/FORMAT.md, "Reading".
use Rattle.std.specs.Prelude.{◌≡◌, ◌⊎◌, List}
use Rattle.commit_journal.specs.Answering.{Fault, Damaged, Tampered}
use Rattle.commit_journal.specs.Placed.{PlainPlaced}
use Rattle.cry_base.specs.Sets.{In}
use Rattle.log_visits.specs.Placing.{PlacedContent, PlacedLink, log_contents, log_links}

-- the fault is of a record that the log holds: its tag is wrong, or its text has another form than its kind
abbrev pub IsOfRecord : List PlainPlaced → Fault → Type 0
IsOfRecord log fault =
    ((l : PlacedLink) × In l (log_links log) × (fault ≡ Tampered l.batch l.at))
    ⊎ ((c : PlacedContent) × In c (log_contents log) × ((fault ≡ Tampered c.batch c.at) ⊎ (fault ≡ Damaged c.at)))
