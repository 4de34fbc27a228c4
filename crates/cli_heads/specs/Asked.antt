-- What is asked of a log. This project's own, docs/PROGRAM.md, "The program".
use Rattle.std.specs.Prelude.{ℕ}

-- the head over all its published batches, or the proof that it begins with its first so many
pub data Asked : Type 0 where
  TheHead : Asked
  TheProof : ℕ → Asked
