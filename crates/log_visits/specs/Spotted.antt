-- Tables of the spots of the last records in a log that is in memory, by their heads. X is a link or a content, H its head.
use Rattle.std.specs.Prelude.{◌≡◌, ◌++◌, Bool, List, Option, None, Some}
use Rattle.commit_journal.specs.Placed.{PlainPlaced}
use Rattle.log_visits.specs.declared.last_contents.ContentHead.{ContentHead}
use Rattle.log_visits.specs.declared.last_links.LinkHead.{LinkHead}
use Rattle.log_visits.specs.declared.spot_table.RecordSpot.{RecordSpot}
use Rattle.log_visits.specs.declared.spot_table.SpotTable.{SpotTable}
use Rattle.log_visits.specs.Found.{is_of, is_sought}
use Rattle.log_visits.specs.Hashing.{content_row, link_row}
use Rattle.log_visits.specs.Indexed.{same_content_heads, same_link_heads}
use Rattle.log_visits.specs.Placing.{PlacedContent, PlacedLink, body_contents, body_links, last_one, log_contents, log_links}
use Rattle.log_visits.specs.Spots.{IsAt}
use Rattle.log_visits.specs.SpotRows.{spot_of}

-- the links, and the contents, of a batch
abbrev pub placed_links : PlainPlaced → List PlacedLink
placed_links p = body_links p.batch p.place p.body

abbrev pub placed_contents : PlainPlaced → List PlacedContent
placed_contents p = body_contents p.batch p.place p.body

-- this record stands at the spot of a log
abbrev pub HasRecordAt : {X : Type 0} → (PlainPlaced → List X) → List PlainPlaced → RecordSpot → X → Type 0
HasRecordAt records log spot x = (p : PlainPlaced) × IsAt log spot.position p × IsAt (records p) spot.index x

-- the spot is that of the record that is wanted, and there is none where none is
abbrev pub IsSpotOf : {X : Type 0} → (PlainPlaced → List X) → List PlainPlaced → Option RecordSpot → Option X → Type 0
IsSpotOf records log None wanted = wanted ≡ None
IsSpotOf {X} records log (Some spot) wanted = (x : X) × HasRecordAt records log spot x × (wanted ≡ Some x)

-- this is the spot of the last record of a head
pub record HasSpot {H X : Type 0} (spot : H → Option RecordSpot) (test : H → X → Bool) (records : PlainPlaced → List X)
    (log : List PlainPlaced) (head : H) (so_far : List X) : Type 0 where
  pub found : IsSpotOf records log (spot head) (last_one (test head) so_far)

-- the spots that a table has
abbrev pub link_spot : SpotTable LinkHead → LinkHead → Option RecordSpot
link_spot = spot_of same_link_heads link_row

abbrev pub content_spot : SpotTable ContentHead → ContentHead → Option RecordSpot
content_spot = spot_of same_content_heads content_row

abbrev pub HasLinkSpot : List PlainPlaced → SpotTable LinkHead → LinkHead → List PlacedLink → Type 0
HasLinkSpot log spots head so_far = HasSpot (link_spot spots) is_sought placed_links log head so_far

abbrev pub HasContentSpot : List PlainPlaced → SpotTable ContentHead → ContentHead → List PlacedContent → Type 0
HasContentSpot log spots head so_far = HasSpot (content_spot spots) (λ h. is_of h.kind h.object) placed_contents log head so_far

-- these were noted: whatever last record of a head the table had, it has the last one with these behind
abbrev pub LinksAreSpotted : List PlainPlaced → (old new : SpotTable LinkHead) → List PlacedLink → Type 0
LinksAreSpotted log old new more =
    (head : LinkHead) (so_far : List PlacedLink) → HasLinkSpot log old head so_far → HasLinkSpot log new head (so_far ++ more)

abbrev pub ContentsAreSpotted : List PlainPlaced → (old new : SpotTable ContentHead) → List PlacedContent → Type 0
ContentsAreSpotted log old new more =
    (head : ContentHead) (so_far : List PlacedContent) → HasContentSpot log old head so_far → HasContentSpot log new head (so_far ++ more)

-- the tables have the spot of each last record of a log
pub record AreSpotsOf (links : SpotTable LinkHead) (contents : SpotTable ContentHead) (log : List PlainPlaced) : Type 0 where
  pub last_link : (head : LinkHead) → HasLinkSpot log links head (log_links log)
  pub last_content : (head : ContentHead) → HasContentSpot log contents head (log_contents log)
