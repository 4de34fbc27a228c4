-- What an audit shows: the names and files that a key leads to. This project's own, docs/PROGRAM.md, "What is printed".
use Rattle.std.specs.Prelude.{◌≡◌, ◌≢◌, ℕ, cond, not, ◌&&◌, ◌==◌, List, [], ◌∷◌, ◌++◌, map, filter, Option, Some, None, codes, decimal}
use Rattle.cry_base.specs.Sets.{In, has}
use Rattle.cry_base.specs.Texts.{hex_of, ended_lines}
use Rattle.std.specs.List.{flat_map}
use Rattle.role_graph.specs.Rights.{Who}
use Rattle.public_fold.specs.Records.{Content, Piece}
use Rattle.public_fold.specs.Journal.{Journal}
use Rattle.closure_laws.specs.History.{Published, history, derived, own_serial, DerivesFor}

-- a name or a file, and the batch that wrote it
pub record Sight : Type 0 where
  pub batch : ℕ
  pub piece : Piece

-- the sight of a content in a batch
unfoldable pub sight_of : ℕ → Content → Sight
sight_of batch c = record { batch = batch; piece = c.piece }

-- the contents of a batch under one of the keys, holders' keys left out
unfoldable pub sights_in : List ℕ → Published → List Sight
sights_in serials p = map (sight_of p.batch)
    (filter (λ c. not (c.piece.kind == 3) && has ◌==◌ serials c.key_serial) p.contents)

-- the sight is of a content of the history whose key is derived
abbrev pub IsSeen : Journal → Who → Sight → Type 0
IsSeen m who x = (p : Published) × In p (history m) × ((c : Content) × In c p.contents
    × (x ≡ sight_of p.batch c) × (c.piece.kind ≢ 3) × DerivesFor m who c)

-- those of the history that are derived from a serial, by batch. A batch has one content at most
unfoldable pub sights_from : List Published → Option ℕ → List Sight
sights_from h None = []
sights_from h (Some a) = flat_map (sights_in (derived h a)) h

-- what whoever looks derives
unfoldable pub seen : Journal → Who → List Sight
seen m who = sights_from (history m) (own_serial m who)

-- a sight as it is printed, without its end
unfoldable pub spell_sight : Sight → List ℕ
spell_sight s =
    cond (s.piece.kind == 1)
    (codes "folder " ++ decimal s.batch ++ 32 ∷ decimal s.piece.object ++ 32 ∷ s.piece.name)
    (codes "file " ++ decimal s.batch ++ 32 ∷ decimal s.piece.object ++ 32 ∷ s.piece.name ++ 32 ∷ hex_of s.piece.bytes)

-- all of them
unfoldable pub spell_seen : List Sight → List ℕ
spell_seen sights = ended_lines (map spell_sight sights)
