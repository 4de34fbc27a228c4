-- Which record of a log is opened for an edge or a text, and where it stands. This project's own, docs/FORMAT.md,
-- "Reading".
use Rattle.std.specs.Prelude.{ℕ, ◌+◌, Bool, ◌&&◌, ◌==◌, if◌then◌else◌, List, [], ◌∷◌, Option, None, Some}
use Rattle.std.specs.List.{flat_map}
use Rattle.cry_base.specs.declared.roles.Edge.{Edge}
use Rattle.record_format.specs.declared.link.LinkRecord.{LinkRecord}
use Rattle.record_format.specs.Plain.{PlainContent}
use Rattle.record_format.specs.Sizes.{content_size}
use Rattle.commit_journal.specs.Placed.{PlainBody, Commands, NewEpoch, PlainPlaced}
use Rattle.commit_journal.specs.Places.{link_offset, content_offset}
use Rattle.role_graph.specs.Roles.{role_id}
use Rattle.public_fold.specs.KeyStep.{KeyState, present}

-- a record with its batch's number and the place of its first byte
pub record PlacedLink : Type 0 where
  pub batch : ℕ
  pub at : ℕ
  pub link : LinkRecord

pub record PlacedContent : Type 0 where
  pub batch : ℕ
  pub at : ℕ
  pub content : PlainContent

-- the links, and the contents, of which the first stands at a place
unfoldable pub links_at : ℕ → ℕ → List LinkRecord → List PlacedLink
links_at batch at [] = []
links_at batch at (l ∷ links) = record { batch = batch; at = at; link = l } ∷ links_at batch (at + 98) links

unfoldable pub contents_at : ℕ → ℕ → List PlainContent → List PlacedContent
contents_at batch at [] = []
contents_at batch at (c ∷ contents) = record { batch = batch; at = at; content = c } ∷ contents_at batch (at + content_size c) contents

-- those of a batch
unfoldable pub body_links : ℕ → ℕ → PlainBody → List PlacedLink
body_links batch place (Commands p) = links_at batch (place + link_offset p 0) p.links
body_links batch place NewEpoch = []

unfoldable pub body_contents : ℕ → ℕ → PlainBody → List PlacedContent
body_contents batch place (Commands p) = contents_at batch (place + content_offset p 0) p.contents
body_contents batch place NewEpoch = []

-- those of a log
unfoldable pub log_links : List PlainPlaced → List PlacedLink
log_links log = flat_map (λ p. body_links p.batch p.place p.body) log

unfoldable pub log_contents : List PlainPlaced → List PlacedContent
log_contents log = flat_map (λ p. body_contents p.batch p.place p.body) log

-- the last one that passes
unfoldable pub last_one : {X : Type 0} → (X → Bool) → List X → Option X
last_one test [] = None
last_one test (x ∷ xs) = elim (last_one test xs) [ Some y ↦ Some y | None ↦ if test x then Some x else None ]

-- the link is one for the edge, from the present key of its source to the present key of its target
unfoldable pub is_for_edge : KeyState → Edge → PlacedLink → Bool
is_for_edge k e l =
    (l.link.kind == e.kind)
    && ((l.link.from_id == role_id e.from)
    && ((l.link.to_id == role_id e.to)
    && ((l.link.from_serial.0 == present k.keys e.from) && (l.link.to_serial.0 == present k.keys e.to))))

-- the last link published for an edge, and the last content of a kind for an object
unfoldable pub link_for : KeyState → List PlainPlaced → Edge → Option PlacedLink
link_for k log e = last_one (is_for_edge k e) (log_links log)

unfoldable pub content_for : List PlainPlaced → ℕ → ℕ → Option PlacedContent
content_for log kind object = last_one (λ c. (c.content.kind == kind) && (c.content.object == object)) (log_contents log)
