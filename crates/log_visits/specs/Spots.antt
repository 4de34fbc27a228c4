-- Where records stand in a log.
use Rattle.std.specs.Prelude.{◌≡◌, ℕ, List, [], Some}
use Rattle.std.specs.List.{slice_get}
use Rattle.commit_journal.specs.Placed.{PlainBody, Commands, NewEpoch}
use Rattle.record_format.specs.Plain.{PlainContent}
use Rattle.record_format.specs.declared.link.LinkRecord.{LinkRecord}

-- the list has this at a position
abbrev pub IsAt : {X : Type 0} → List X → ℕ → X → Type 0
IsAt xs i x = slice_get xs i ≡ Some x

-- the contents that a batch carries
abbrev pub contents_in : PlainBody → List PlainContent
contents_in (Commands p) = p.contents
contents_in NewEpoch = []

-- the links that a batch carries
abbrev pub links_in : PlainBody → List LinkRecord
links_in (Commands p) = p.links
links_in NewEpoch = []
