-- Laws of the spelling: this project's own, docs/FORMAT.md, "Notes and payloads".
use Rattle.std.specs.Prelude.{◌≡◌, ℕ, List, [], ◌++◌, length, Ok}
use Rattle.record_format.specs.Plain.{PlainPayload}
use Rattle.record_format.specs.Reading.{payload_or_place}
use Rattle.record_format.specs.Sizes.{payload_size}
use Rattle.record_format.specs.Spellable.{IsSpellable}
use Rattle.record_format.specs.Spelling.{spell_payload}

-- each payload that has a spelling is read from it
abbrev pub ReadsBack : Type 0
ReadsBack = (p : PlainPayload) → IsSpellable p → payload_or_place (spell_payload p) ≡ Ok p

-- each spelling has the size that the payload's parts add up to
abbrev pub HasItsSize : Type 0
HasItsSize = (p : PlainPayload) → IsSpellable p → length (spell_payload p) ≡ payload_size p

-- no spelling is a proper prefix of another: one that begins with another is the same
abbrev pub IsPrefixFree : Type 0
IsPrefixFree = (p q : PlainPayload) (more : List ℕ) → IsSpellable p → IsSpellable q → spell_payload q ≡ spell_payload p ++ more → (q ≡ p)
    × (more ≡ [])
