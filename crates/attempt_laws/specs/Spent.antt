-- What spends numbers of the counter. This project's own, docs/FORMAT.md, "Serials".
use Rattle.std.specs.Prelude.{◌≡◌, ◌<◌, ℕ, List, [], ◌++◌, length, map, slice_index_or, Option, Some, None}
use Rattle.std.specs.List.{flat_map}
use Rattle.cry_base.specs.declared.roles.Role.{Role}
use Rattle.public_fold.specs.KeyStep.{Stepped}
use Rattle.public_fold.specs.Records.{Link, Content}
use Rattle.journal_bytes.specs.Attempts.{Attempt}

-- a key spends one as its serial; a record, a link or a content, spends one as its nonce
pub data Spender : Type 0 where
  AKey : Role × ℕ → Spender
  ALink : Link → Spender
  AContent : Content → Spender

unfoldable pub number_of : Spender → ℕ
number_of (AKey key) = key.1
number_of (ALink link) = link.nonce
number_of (AContent content) = content.nonce

-- the keys and the records of what an attempt holds
unfoldable pub spenders_in : Option Stepped → List Spender
spenders_in None = []
spenders_in (Some step) = map AKey step.given ++ map ALink step.links ++ map AContent step.contents

-- those of all attempts, one after another: the place in this list tells the attempt and what it is of it
unfoldable pub all_spenders : List Attempt → List Spender
all_spenders attempts = flat_map (λ a. spenders_in a.holds) attempts

-- no two places of a list have one number
abbrev pub Differ : {X : Type 0} → (X → ℕ) → List X → Type 0
Differ {X} number xs = (i j : ℕ) (d : X) → i < length xs → j < length xs
    → number (slice_index_or xs i d) ≡ number (slice_index_or xs j d) → i ≡ j
