-- Where the records of a payload stand. This project's own, docs/FORMAT.md, "Records" and "Notes and payloads".
use Rattle.std.specs.Prelude.{◌≡◌, ℕ, ◌+◌, ◌*◌, ◌<◌, ◌≤◌, ◌^◌, length, take, Option, None, Some}
use Rattle.std.specs.List.{sum_by}
use Rattle.cry_base.specs.Layout.{back_len}
use Rattle.cry_base.specs.Limits.{most_store_bytes}
use Rattle.record_format.specs.Plain.{PlainPayload, plain_payload}
use Rattle.record_format.specs.Sizes.{note_size, content_size, payload_size}
use Rattle.record_format.specs.Spellable.{IsSpellable}
use Rattle.commit_journal.specs.Placed as plain
use Rattle.commit_journal.specs.Placed.{PlainBody, PlainPlaced}
use Rattle.commit_journal.specs.declared.judge.Turn.{Turn}
use Rattle.commit_journal.specs.declared.placed.Body.{Body}
use Rattle.commit_journal.specs.declared.placed.Body.TheVariants.{Commands, NewEpoch}
use Rattle.commit_journal.specs.declared.placed.Placed.{Placed}

-- the bytes before a link: the note, two counts, the links before it
abbrev pub link_offset : PlainPayload → ℕ → ℕ
link_offset p index = note_size p.note + 8 + 98 * index

-- the bytes before a content: the note, two counts, the links, the contents before it
abbrev pub content_offset : PlainPayload → ℕ → ℕ
content_offset p index = note_size p.note + 8 + 98 * length p.links + sum_by content_size (take index p.contents)

-- a payload that has a spelling, which ends at a place of 64 bits
abbrev pub IsPlacedAt : ℕ → PlainPayload → Type 0
IsPlacedAt place p = IsSpellable p × (place + payload_size p < 2 ^ 64)

-- a command with such a link
abbrev pub HasLink : ℕ → ℕ → Body → Type 0
HasLink place index (Commands payload) = IsPlacedAt place (plain_payload payload) × (index < length payload.links.items)
HasLink place index NewEpoch = ⊥

abbrev pub IsLinkPlace : ℕ → ℕ → ℕ → Body → Type 0
IsLinkPlace place index result (Commands payload) = result ≡ place + link_offset (plain_payload payload) index
IsLinkPlace place index result NewEpoch = ⊥

-- a command with such a content
abbrev pub HasContent : ℕ → ℕ → Body → Type 0
HasContent place index (Commands payload) = IsPlacedAt place (plain_payload payload) × (index < length payload.contents.items)
HasContent place index NewEpoch = ⊥

abbrev pub IsContentPlace : ℕ → ℕ → ℕ → Body → Type 0
IsContentPlace place index result (Commands payload) = result ≡ place + content_offset (plain_payload payload) index
IsContentPlace place index result NewEpoch = ⊥

-- a payload has a spelling of so many bytes
abbrev pub HasSize : ℕ → Body → Type 0
HasSize size (Commands payload) = IsSpellable (plain_payload payload) × (payload_size (plain_payload payload) ≡ size)
HasSize size NewEpoch = Unit {0}

-- a payload has a spelling, which ends within a store
abbrev pub EndsWithin : ℕ → Body → Type 0
EndsWithin place (Commands payload) =
    IsSpellable (plain_payload payload) × (place + payload_size (plain_payload payload) ≤ most_store_bytes)
EndsWithin place NewEpoch = Unit {0}

-- a batch that stands behind the header of a store, and ends within it
pub record IsStanding (p : Placed) : Type 0 where
  pub behind : 87 ≤ p.place
  pub within : p.place ≤ most_store_bytes
  pub payload : EndsWithin p.place p.body

-- each turn's batch stands
abbrev pub TurnStands : Option Turn → Type 0
TurnStands None = Unit {0}
TurnStands (Some turn) = IsStanding turn.placed

-- how many bytes a batch's payload has
abbrev pub body_size : PlainBody → ℕ
body_size (plain.Commands p) = payload_size p
body_size plain.NewEpoch = 0

-- where the batch behind this one begins
abbrev pub at_behind : PlainPlaced → ℕ
at_behind p = p.place + (back_len + body_size p.body)
