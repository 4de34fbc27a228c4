-- Maps from the heads of records to where the last record of each head stands in a log. A link's head is its edge's.
use Rattle.std.specs.Prelude.{◌≡◌, ◌≤◌, ◌⊎◌, ◌+◌, ◌*◌, ◌++◌, ℕ, Bool, IfSome, IsSome, List, Option, None, Some, Ok, filter, length}
use Rattle.std.specs.HashMap.{HashMap, get, hash_map_len}
use Rattle.std.specs.List.{list_any}
use Rattle.commit_journal.specs.Placed.{PlainPlaced}
use Rattle.commit_journal.specs.declared.past.Past.{Past}
use Rattle.cry_base.specs.Clearances.{is_clear_number}
use Rattle.cry_base.specs.Sets.{In}
use Rattle.cry_base.specs.Store.{Store}
use Rattle.cry_base.specs.declared.roles.Edge.{Edge}
use Rattle.key_links.specs.Ended.{kind_from, kind_to, role_with, sealing_role}
use Rattle.public_fold.specs.Journal.{Stand, nothing}
use Rattle.public_fold.specs.KeyStep.{KeyState, newest}
use Rattle.record_format.specs.Plain.{PlainContent}
use Rattle.record_format.specs.declared.content.ContentRecord.{ContentRecord}
use Rattle.record_format.specs.declared.link.LinkRecord.{LinkRecord}
use Rattle.log_visits.specs.contracts.last_contents.ContentHeadPartialEq.TheImpl as content_heads
use Rattle.log_visits.specs.contracts.last_links.LinkHeadPartialEq.TheImpl as link_heads
use Rattle.log_visits.specs.declared.last_contents.ContentHead.{ContentHead}
use Rattle.log_visits.specs.declared.index.Index.{Index}
use Rattle.log_visits.specs.declared.last_contents.ContentSpot.{ContentSpot}
use Rattle.log_visits.specs.declared.last_links.FoundLink.{FoundLink}
use Rattle.log_visits.specs.declared.last_links.LinkHead.{LinkHead}
use Rattle.public_fold.specs.Standing.{PublicView}
use Rattle.role_graph.specs.Edges.{IsEdge, edges}
use Rattle.role_graph.specs.PublicStore.{public_store}
use Rattle.log_visits.specs.Folding.{folded}
use Rattle.log_visits.specs.Found.{HasObject, content_here, head_of_edge, is_of, is_sought, plain_link}
use Rattle.log_visits.specs.Placing.{PlacedLink, PlacedContent, last_one, log_links, log_contents}
use Rattle.log_visits.specs.Spots.{IsAt, contents_in}

-- what a link is looked for by
abbrev pub head_of_link : LinkRecord → LinkHead
head_of_link l = record {
  kind = l.kind;
  from_id = l.from_id;
  to_id = l.to_id;
}

-- what a content is looked for by
abbrev pub head_of_content : ContentRecord → ContentHead
head_of_content c = record { kind = c.kind; object = c.object }

-- two heads are the same to the maps
abbrev pub same_link_heads : LinkHead → LinkHead → Bool
same_link_heads = (link_heads.ghosts).eq

abbrev pub same_content_heads : ContentHead → ContentHead → Bool
same_content_heads = (content_heads.ghosts).eq

-- the map has the last link of a head
pub record HasLastLink {S : Type 0} (last : HashMap LinkHead FoundLink S) (head : LinkHead) (links : List PlacedLink) : Type 0 where
  pub found : plain_link (get same_link_heads last head) ≡ last_one (is_sought head) links

-- these links were noted: whatever last link of a head the map had, it has the last one with these behind
abbrev pub LinksAreNoted : {S : Type 0} → (old new : HashMap LinkHead FoundLink S) → List PlacedLink → Type 0
LinksAreNoted old new more =
    (head : LinkHead) (so_far : List PlacedLink) → HasLastLink old head so_far → HasLastLink new head (so_far ++ more)

-- this content stands at the spot in a log
abbrev pub IsContentAt : List PlainPlaced → ContentSpot → PlainContent → Type 0
IsContentAt log spot c = (p : PlainPlaced) × IsAt log spot.position p × IsAt (contents_in p.body) spot.index c

-- the spot is that of the content that is wanted, and there is none where none is
abbrev pub IsLastAt : List PlainPlaced → Option ContentSpot → Option PlacedContent → Type 0
IsLastAt log None wanted = wanted ≡ None
IsLastAt log (Some spot) wanted = (c : PlainContent) × IsContentAt log spot c × (wanted ≡ Some (content_here spot.batch spot.at c))

-- the map has the spot in a log of the last content of a head
pub record HasLastContent {S : Type 0} (log : List PlainPlaced) (last : HashMap ContentHead ContentSpot S) (head : ContentHead)
    (contents : List PlacedContent) : Type 0 where
  pub found : IsLastAt log (get same_content_heads last head) (last_one (is_of head.kind head.object) contents)

-- these contents of a log were noted: whatever last content of a head the map had, it has the last one with these behind
abbrev pub ContentsAreNoted : {S : Type 0} → List PlainPlaced → (old new : HashMap ContentHead ContentSpot S) → List PlacedContent → Type 0
ContentsAreNoted log old new more =
    (head : ContentHead) (so_far : List PlacedContent) → HasLastContent log old head so_far → HasLastContent log new head (so_far ++ more)

-- this was known before the batch at a position of a log
abbrev pub StartsAt : List Past → ℕ → Past → Type 0
StartsAt starts position start = (start.number ≡ position) × IsAt starts position start

-- each spot of the map has what was known before its batch
pub record HaveStarts {S : Type 0} (last : HashMap ContentHead ContentSpot S) (starts : List Past) : Type 0 where
  pub found : (head : ContentHead) → IfSome (get same_content_heads last head) (λ spot. StartsAt starts spot.position spot.start)

-- behind the batches of a log, where all of them fit, no edge that stands has links of this head
abbrev pub IsLeft : List PlainPlaced → LinkHead → Type 0
IsLeft log head = (at : Stand) (e : Edge) → folded nothing log ≡ Ok at → IsEdge at.store e → head_of_edge e ≡ head → ⊥

-- and nothing that stands has contents of this kind for this object
abbrev pub IsGone : List PlainPlaced → ContentHead → Type 0
IsGone log head = (at : Stand) → folded nothing log ≡ Ok at → HasObject at.store head.kind head.object → ⊥

-- the maps have the last ones of a log, but that they may lack those of edges and objects that don't stand behind it
pub record IsIndexOf (index : Index) (log : List PlainPlaced) : Type 0 where
  pub last_link : (head : LinkHead) → HasLastLink index.links head (log_links log)
      ⊎ ((get same_link_heads index.links head ≡ None) × IsLeft log head)
  pub last_content : (head : ContentHead) → HasLastContent log index.contents head (log_contents log)
      ⊎ ((get same_content_heads index.contents head ≡ None) × IsGone log head)

-- the head is that of an edge that stands in the store
abbrev pub HasEdge : Store → LinkHead → Type 0
HasEdge s head = (e : Edge) × In e (edges s) × (head_of_edge e ≡ head)

-- the edge that leads between the roles of a head
abbrev pub edge_of_head : LinkHead → Edge
edge_of_head head = record {
  kind = head.kind;
  from = role_with (kind_from head.kind) head.from_id;
  to = role_with (kind_to head.kind) head.to_id;
}

-- whether it is, by a look at each edge
abbrev pub stands : Store → LinkHead → Bool
stands s head = list_any (λ e. same_link_heads (head_of_edge e) head) (edges s)

-- of the heads of edges in the store a map has what it had, and of others nothing
abbrev pub LinksAreKept : {S : Type 0} → Store → (old new : HashMap LinkHead FoundLink S) → Type 0
LinksAreKept s old new = (head : LinkHead) → ((get same_link_heads new head ≡ get same_link_heads old head) × HasEdge s head)
    ⊎ ((get same_link_heads new head ≡ None) × (HasEdge s head → ⊥))

-- the role that seals contents of this head has a key
abbrev pub IsKeyed : KeyState → ContentHead → Type 0
IsKeyed k head = IsSome (newest k.keys (sealing_role head.kind head.object))

-- of the heads whose role has a key a map has what it had, and of others nothing
abbrev pub ContentsAreKept : {S : Type 0} → KeyState → (old new : HashMap ContentHead ContentSpot S) → Type 0
ContentsAreKept k old new = (head : ContentHead) → ((get same_content_heads new head ≡ get same_content_heads old head) × IsKeyed k head)
    ⊎ ((get same_content_heads new head ≡ None) × (newest k.keys (sealing_role head.kind head.object) ≡ None))

-- an index has links of edges that stand alone, and contents alone whose role has a key
pub record HasStandingAlone (index : Index) (v : PublicView) : Type 0 where
  pub links : (head : LinkHead) → IsSome (get same_link_heads index.links head) → HasEdge (public_store v.tree v.pairs) head
  pub contents : (head : ContentHead) → IsSome (get same_content_heads index.contents head) → IsKeyed v.keys head

-- how many links and contents an index keeps
abbrev pub rows_of : Index → ℕ
rows_of index = hash_map_len index.links + hash_map_len index.contents

-- at least as many links as the edges that stand have: of a folder five within it and two with its parent, of a file one, of a grant one,
-- and three where it is on a file
abbrev pub most_links : PublicView → ℕ
most_links v = 7 * length v.tree.folders + length v.tree.files + length v.pairs
    + 3 * length (filter (λ g. is_clear_number g.folder) v.pairs)

-- as many contents as what stands has: the name of a folder, the text of a file, the key of a holder
abbrev pub most_contents : PublicView → ℕ
most_contents v = length v.tree.folders + length v.tree.files + length v.checks

-- twice as many as both, and a few more
abbrev pub most_rows : PublicView → ℕ
most_rows v = 2 * (most_links v + most_contents v) + 64

-- an index is small beside what stands, or has nothing else
abbrev pub IsTidy : Index → PublicView → Type 0
IsTidy index v = (rows_of index ≤ most_rows v) ⊎ HasStandingAlone index v
