-- All that was ever published, and what follows from a key by it.
use Rattle.std.specs.Prelude.{◌≡◌, ℕ, ◌+◌, ◌==◌, List, [], ◌∷◌, map, Option, Some}
use Rattle.cry_base.specs.Sets.{Path, reach}
use Rattle.std.specs.List.{flat_map}
use Rattle.role_graph.specs.Rights.{Who}
use Rattle.role_graph.specs.Rights.Who.{TheOwner, TheHolder}
use Rattle.role_graph.specs.Roles.{holder_role}
use Rattle.public_fold.specs.Records.{Link, Content}
use Rattle.public_fold.specs.KeyStep.{Stepped, newest}
use Rattle.public_fold.specs.Journal.{Journal, steps_of, keys_of}

-- the records of one batch
pub record Published : Type 0 where
  pub batch : ℕ
  pub links : List Link
  pub contents : List Content

-- the steps' records, numbered by their batches
unfoldable pub published_from : ℕ → List Stepped → List Published
published_from n [] = []
published_from n (s ∷ steps) = record { batch = n; links = s.links; contents = s.contents } ∷ published_from (n + 1) steps

-- all records that a journal published, with their batches from 1
unfoldable pub history : Journal → List Published
history m = published_from 1 (steps_of m)

-- the links of all batches, from serial to serial
unfoldable pub trails : List Published → List (ℕ × ℕ)
trails h = flat_map (λ p. map (λ l. (l.from_serial, l.to_serial)) p.links) h

-- a trail of links leads from the key of the one serial to the key of the other
abbrev pub Derives : List Published → ℕ → ℕ → Type 0
Derives h a b = Path (trails h) a b

-- the serials that trails lead to from one, that one included
unfoldable pub derived : List Published → ℕ → List ℕ
derived h a = reach ◌==◌ (trails h) (a ∷ [])

-- the serial of the key of whoever looks: the owner's is 0, and a holder who was never made has none
unfoldable pub own_serial : Journal → Who → Option ℕ
own_serial m TheOwner = Some 0
own_serial m (TheHolder h) = newest (keys_of m).keys (holder_role h)

-- whoever looks derives the content of a key
abbrev pub DerivesFor : Journal → Who → Content → Type 0
DerivesFor m who c = (a : ℕ) × (own_serial m who ≡ Some a) × Derives (history m) a c.key_serial
