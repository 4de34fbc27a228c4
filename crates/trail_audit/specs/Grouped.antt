-- Items in groups by a number and a serial, as a map holds them.
use Rattle.std.specs.Prelude.{◌≡◌, Bool, List, [], filter, Option, None, Some, Vec}
use Rattle.std.specs.HashMap.{HashMap, get}
use Rattle.chacha_seal.specs.Keys.{KeyParts}
use Rattle.log_visits.specs.Placing.{PlacedLink}
use Rattle.record_format.specs.declared.link.LinkRecord.{LinkRecord}
use Rattle.record_format.specs.Plain.{PlainContent}
use Rattle.trail_audit.specs.Auditing.{sealing_id}
use Rattle.trail_audit.specs.contracts.grouped.SourcePartialEq.TheImpl as sources
use Rattle.trail_audit.specs.declared.grouped.Source.{Source}

-- two sources are the same to a map
abbrev pub same_sources : Source → Source → Bool
same_sources = (sources.ghosts).eq

-- the items of a group, none where there is no group
abbrev pub items_of : {T A : Type 0} → Option (Vec T A) → List T
items_of None = []
items_of (Some group) = group.items

-- where a link begins, what a content is sealed under, and what a key is looked for by
abbrev pub link_source : LinkRecord → Source
link_source l = record { id = l.from_id; serial = l.from_serial.0 }

abbrev pub content_source : PlainContent → Source
content_source c = record { id = sealing_id c; serial = c.key_serial.0 }

abbrev pub key_source : KeyParts → Source
key_source key = record { id = key.id; serial = key.serial }

abbrev pub source_of_link : PlacedLink → Source
source_of_link l = link_source l.link

-- the group of each source has the items of that source, in their order
pub record HasGroups {T A S : Type 0} (source : T → Source) (groups : HashMap Source (Vec T A) S) (items : List T) : Type 0 where
  pub found : (s : Source) → items_of (get same_sources groups s) ≡ filter (λ x. same_sources s (source x)) items
