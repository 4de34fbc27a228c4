-- The log that is opened of bytes that stand for batches. This project's own, docs/FORMAT.md, "Opening for writing".
use Rattle.std.specs.Prelude.{ℕ, ◌+◌, ◌≤◌, List, length}
use Rattle.std.specs.List.{sum_by}
use Rattle.cry_base.specs.Layout.{batch_len, header_len}
use Rattle.commit_journal.specs.Image.{Batch, image}
use Rattle.commit_journal.specs.Journals.{last_epoch}
use Rattle.commit_journal.specs.Laws.{AreBodies, batches_from, placed_from}
use Rattle.commit_journal.specs.Opening.{OwnedLog}
use Rattle.commit_journal.specs.Placed.{PlainBody}
use Rattle.commit_journal.specs.Standing.{StandsFor, last_tag}

-- the batches with these bodies, and what the next batch follows
abbrev pub whole_log : List ℕ → List PlainBody → OwnedLog
whole_log owner bodies = record {
  placed = placed_from header_len 0 0 bodies;
  batches = length (batches_from 0 0 bodies);
  epoch = last_epoch 0 (batches_from 0 0 bodies);
  end = length (image owner (batches_from 0 0 bodies)) + 1;
  tag = last_tag owner (batches_from 0 0 bodies);
}

-- the bytes stand for the batches with these bodies, which a log may have, and whose last gate is within so many bytes
abbrev pub StandsWithin : ℕ → List ℕ → List PlainBody → List ℕ → Type 0
StandsWithin limit owner bodies bytes =
    StandsFor owner (batches_from 0 0 bodies) bytes × AreBodies 0 bodies
    × (header_len + sum_by (λ (b : Batch). batch_len + length b.payload) (batches_from 0 0 bodies) ≤ limit)

-- of whatever batches within the store limit bytes stood, they stand for them still
abbrev pub StillStand : ℕ → List ℕ → List ℕ → List ℕ → Type 0
StillStand limit owner old new = (bodies : List PlainBody) → StandsWithin limit owner bodies old
    → StandsFor owner (batches_from 0 0 bodies) new
