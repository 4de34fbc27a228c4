-- The last record of a log for an edge or a text, as it is looked for.
use Rattle.std.specs.Prelude.{◌≡◌, ℕ, Bool, ◌&&◌, ◌==◌, IsTrue, List, Option, None, Some, Result, Ok, Err, MatchResult, cond}
use Rattle.commit_journal.specs.Placed.{PlainPlaced, plain_body}
use Rattle.commit_journal.specs.declared.placed.Placed.{Placed}
use Rattle.cry_base.specs.Store.{Store}
use Rattle.cry_base.specs.declared.roles.Edge.{Edge}
use Rattle.key_links.specs.Ended.{sealing_role}
use Rattle.public_fold.specs.Keyed.{HasRole}
use Rattle.public_fold.specs.KeyStep.{KeyState, present}
use Rattle.record_format.specs.Plain.{PlainContent, plain_content}
use Rattle.record_format.specs.Spellable.{IsContent}
use Rattle.record_format.specs.declared.link.LinkRecord.{LinkRecord}
use Rattle.role_graph.specs.Roles.{role_id}
use Rattle.log_visits.specs.declared.fault.ClientFault.{ClientFault}
use Rattle.log_visits.specs.declared.fault.ClientFault.TheVariants as faults
use Rattle.log_visits.specs.declared.last_contents.ContentSpot.{ContentSpot}
use Rattle.log_visits.specs.declared.last_links.FoundLink.{FoundLink}
use Rattle.log_visits.specs.declared.last_links.LinkHead.{LinkHead}
use Rattle.log_visits.specs.declared.records.FoundContent.{FoundContent}
use Rattle.log_visits.specs.Placing.{PlacedLink, PlacedContent, is_for_edge, last_one, log_links}
use Rattle.log_visits.specs.Spots.{IsAt, contents_in}

-- the link is one of the edge that is sought
abbrev pub is_sought : LinkHead → PlacedLink → Bool
is_sought s l = (l.link.kind == s.kind) && ((l.link.from_id == s.from_id) && (l.link.to_id == s.to_id))

-- what an edge's links are looked for by
abbrev pub head_of_edge : Edge → LinkHead
head_of_edge e = record { kind = e.kind; from_id = role_id e.from; to_id = role_id e.to }

-- the link leads from the present key of the edge's source to that of its target
abbrev pub has_present_serials : KeyState → Edge → LinkRecord → Bool
has_present_serials k e l = (l.from_serial.0 == present k.keys e.from) && (l.to_serial.0 == present k.keys e.to)

-- what passes
abbrev pub only_if : {X : Type 0} → (X → Bool) → Option X → Option X
only_if test None = None
only_if test (Some x) = cond (test x) (Some x) None

-- the last link of an edge, where it is one from present key to present key
unfoldable pub newest_for : KeyState → List PlainPlaced → Edge → Option PlacedLink
newest_for k log e = only_if (is_for_edge k e) (last_one (is_sought (head_of_edge e)) (log_links log))

-- the link at a place of a batch
abbrev pub link_here : ℕ → ℕ → LinkRecord → PlacedLink
link_here batch at link = record { batch = batch; at = at; link = link }

-- what was found
abbrev pub plain_link : Option FoundLink → Option PlacedLink
plain_link None = None
plain_link (Some l) = Some (link_here l.batch l.at l.link)

-- it is a link for the edge, from the present key of its source to that of its target
abbrev pub IsLinkFor : KeyState → Edge → FoundLink → Type 0
IsLinkFor k e l = IsTrue (is_for_edge k e (link_here l.batch l.at l.link))

-- the content is one of this kind for this folder, file or holder
abbrev pub is_of : ℕ → ℕ → PlacedContent → Bool
is_of kind object c = (c.content.kind == kind) && (c.content.object == object)

-- the content at a place of a batch
abbrev pub content_here : ℕ → ℕ → PlainContent → PlacedContent
content_here batch at content = record { batch = batch; at = at; content = content }

-- what was found
abbrev pub plain_content_found : FoundContent → PlacedContent
plain_content_found c = content_here c.batch c.at (plain_content c.content)

abbrev pub plain_found : Option FoundContent → Option PlacedContent
plain_found None = None
plain_found (Some c) = Some (plain_content_found c)

-- what has contents of this kind for this object stands
abbrev pub HasObject : Store → ℕ → ℕ → Type 0
HasObject s kind object = HasRole s (sealing_role kind object)

-- it has the format's form, and is one of this kind for this folder, file or holder
pub record IsContentFor (kind object : ℕ) (c : FoundContent) : Type 0 where
  pub form : IsContent (plain_content c.content)
  pub kind_is : c.content.kind ≡ kind
  pub object_is : c.content.object ≡ object

-- a fault that may come at any time: a disk that fails, and want of memory
abbrev pub IsFree : ClientFault → Type 0
IsFree faults.NotAStore = ⊥
IsFree faults.WrongKey = ⊥
IsFree (faults.Damaged at) = ⊥
IsFree (faults.Tampered batch at) = ⊥
IsFree (faults.NoHolder known) = ⊥
IsFree faults.Unseen = ⊥
IsFree faults.DiskFault = Unit {0}
IsFree faults.OutOfMemory = Unit {0}

-- what is wanted was found, or such a fault came
abbrev pub Finds : Result (Option FoundContent) ClientFault → Option PlacedContent → Type 0
Finds (Ok found) wanted = plain_found found ≡ wanted
Finds (Err fault) wanted = IsFree fault

-- the same where a batch has a content of this kind for this object at the spot
abbrev pub FindsAt : ℕ → ℕ → Placed → ContentSpot → Result FoundContent ClientFault → Type 0
FindsAt kind object placed spot result =
    (c : PlainContent) → IsAt (contents_in (plain_body placed.body)) spot.index c → c.kind ≡ kind → c.object ≡ object →
    MatchResult result (λ found. plain_content_found found ≡ content_here spot.batch spot.at c) IsFree
