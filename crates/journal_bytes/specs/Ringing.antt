-- What keys and records a ring makes in turn, with the serials from one on. This project's own, docs/FORMAT.md, "Records".
use Rattle.std.specs.Prelude.{ℕ, ◌+◌, ◌≤◌, cond, List, [], ◌∷◌, length, Option, Some, IsSome, unwrap_or}
use Rattle.chacha_seal.specs.Keys.{KeyParts}
use Rattle.cry_base.specs.Sets.{In}
use Rattle.cry_base.specs.declared.roles.Role.{Role}
use Rattle.kind_table.specs.declared.eleven.TheConstants.{ELEVEN}
use Rattle.key_links.specs.Ringed.{Ringed, key_of}
use Rattle.key_links.specs.Ended as ended
use Rattle.key_links.specs.Sealed.{sealed_content, sealed_link}
use Rattle.record_format.specs.Plain.{PlainContent}
use Rattle.record_format.specs.Spellable.{longest_text, shortest_text}
use Rattle.record_format.specs.declared.link.LinkRecord.{LinkRecord}
use Rattle.role_graph.specs.Roles.{role_id, same_role}
use Rattle.role_graph.specs.Tabled.{row_of}
use Rattle.public_fold.specs.Records.{Link}
use Rattle.public_fold.specs.declared.heads.ContentHead.{ContentHead}

-- the key of a role that got one with this serial
abbrev pub key_for : Role → ℕ → List ℕ → KeyParts
key_for role serial bytes = record { id = role_id role; serial = serial; bytes = bytes }

-- the key that a role has once keys were given in turn: the last that was given to it, or the one before
unfoldable pub key_after : Option KeyParts → ℕ → List (Role × ℕ) → List (List ℕ) → Role → Option KeyParts
key_after key serial [] drawn role = key
key_after key serial (g ∷ given) [] role = key
key_after key serial (g ∷ given) (bytes ∷ drawn) role =
    key_after (cond (same_role g.0 role) (Some (key_for g.0 serial bytes)) key) (serial + 1) given drawn role

-- the key that the ring has for a role
unfoldable pub held_key : Ringed → Role → KeyParts
held_key ring role = unwrap_or (key_of ring role) (key_for role 0 [])

-- both ends of the link have keys in the ring, and it is of a kind that there is
pub record IsHeld (ring : Ringed) (l : Link) : Type 0 where
  pub is_tabled : In (row_of l.edge) ELEVEN.rows
  pub source : IsSome (key_of ring l.edge.from)
  pub target : IsSome (key_of ring l.edge.to)

-- a link as the ring's keys seal it, and several with serials in turn
abbrev pub link_by : Ringed → ℕ → Link → LinkRecord
link_by ring serial l = sealed_link l.edge.kind (held_key ring l.edge.from) (held_key ring l.edge.to) serial

unfoldable pub links_by : Ringed → ℕ → List Link → List LinkRecord
links_by ring serial [] = []
links_by ring serial (l ∷ links) = link_by ring serial l ∷ links_by ring (serial + 1) links

-- a text as the ring's key of its role seals it
abbrev pub content_by : Ringed → ℕ → ContentHead → List ℕ → PlainContent
content_by ring serial h text = sealed_content h.kind (held_key ring (ended.sealing_role h.kind h.object)) h.object serial text

unfoldable pub contents_by : Ringed → ℕ → List ℕ → List ContentHead → List PlainContent
contents_by ring serial text [] = []
contents_by ring serial text (h ∷ heads) = content_by ring serial h text ∷ contents_by ring (serial + 1) text heads

-- the sealing role has a key in the ring, the content is of a kind that there is, and its text of a length in that kind's range
pub record IsSealed (ring : Ringed) (text : List ℕ) (h : ContentHead) : Type 0 where
  pub kind_from_one : 1 ≤ h.kind
  pub kind_to_three : h.kind ≤ 3
  pub key : IsSome (key_of ring (ended.sealing_role h.kind h.object))
  pub text_from : shortest_text h.kind ≤ length text
  pub text_to : length text ≤ longest_text h.kind
