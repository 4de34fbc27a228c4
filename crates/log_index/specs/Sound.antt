-- Which checkpoints are read. This project's own, docs/FORMAT.md, "The checkpoint".
use Rattle.std.specs.Prelude.{◌≡◌, ◌<◌, ◌≤◌, ◌^◌, ℕ, List, ◌++◌, length, map}
use Rattle.std.specs.List.{AllZip}
use Rattle.index_format.specs.Plain.{IndexBody}
use Rattle.index_format.specs.Spelling.{spell_body}
use Rattle.index_format.specs.Writable.{IsWritableBody}
use Rattle.log_index.specs.Objects.{objects_of}
use Rattle.log_index.specs.Plain.{PlainCheckpoint, spell_index}
use Rattle.log_index.specs.Spots.{IsRowOfEdge, IsRowOfObject, IsSpotOfEdge, IsSpotOfObject, content_row_of, link_row_of}
use Rattle.log_index.specs.declared.checkpoint.Checkpoint.{Checkpoint}
use Rattle.public_fold.specs.Standing.{public_store_of}
use Rattle.public_fold.specs.States.{IsReadFrom, IsSoundState, Spells, state_store}
use Rattle.role_graph.specs.Edges.{edges}

-- a body of a checkpoint of this batch: a sound state, and rows of just the edges and the objects that stand there, in their order, in
-- batches from 1 up to that one
pub record IsSoundBody (batch : ℕ) (b : IndexBody) : Type 0 where
  pub writable : IsWritableBody b
  pub state : IsSoundState b.state
  pub links : AllZip (IsRowOfEdge batch) (edges (state_store b.state)) b.links
  pub contents : AllZip (IsRowOfObject batch) (objects_of (state_store b.state)) b.contents

-- a checkpoint that is read
pub record IsSoundIndex (p : PlainCheckpoint) : Type 0 where
  pub first : 1 ≤ p.batch
  pub batch : p.batch < 2 ^ 32
  pub tag : length p.tag ≡ 32
  pub body_len : length (spell_body p.body) < 2 ^ 32
  pub body : IsSoundBody p.batch p.body

-- the bytes begin with the owner's file of the checkpoint
abbrev pub IsShown : List ℕ → PlainCheckpoint → List ℕ → Type 0
IsShown owner p bytes = IsSoundIndex p × (rest : List ℕ) × (bytes ≡ spell_index owner p ++ rest)

-- the body says what the checkpoint holds
pub record SpellsBody (c : Checkpoint) (b : IndexBody) : Type 0 where
  pub state : Spells c.state b.state
  pub links : b.links ≡ map link_row_of c.links.items
  pub contents : b.contents ≡ map content_row_of c.contents.items

-- so do the number, the tag and the body
pub record SpellsCheckpoint (c : Checkpoint) (p : PlainCheckpoint) : Type 0 where
  pub batch : p.batch ≡ c.batch
  pub tag : p.tag ≡ c.tag
  pub body : SpellsBody c p.body

-- the checkpoint is what is read of the file: no more is told than that says
pub record IsReadAs (p : PlainCheckpoint) (c : Checkpoint) : Type 0 where
  pub spells : SpellsCheckpoint c p
  pub state : IsReadFrom c.state p.body.state

-- its spots are of just the edges and the objects that stand in it, in their order, in batches from 1 up to its own
pub record IsSoundCheckpoint (c : Checkpoint) : Type 0 where
  pub first : 1 ≤ c.batch
  pub links : AllZip (IsSpotOfEdge c.batch) (edges (public_store_of c.state)) c.links.items
  pub contents : AllZip (IsSpotOfObject c.batch) (objects_of (public_store_of c.state)) c.contents.items
