-- What is published of a store at any moment of a run, and that no stop takes it back. This project's own, docs/FORMAT.md,
-- "Committing", and docs/PROGRAM.md, "The program".
--
-- Whoever reads the store while a run goes on reads what the disk shows then. A stop at that moment, or at any later one of the run, leaves
-- all batches that this publishes; and so does what a stop may leave behind the run.
use Rattle.std.specs.Prelude.{ℕ, List, Option}
use Rattle.cli_running.specs.Running.{HandsInFirst}
use Rattle.cli_sessions.specs.Published.{PublishesFor}

-- so of a whole run, for each journal with the key that the first line hands in
abbrev pub PublishesTyped : List ℕ → Option (List ℕ) → (List ℕ → Type 0) → ((List ℕ → List ℕ → Type 0) → Type 0) → Type 0
PublishesTyped typed was could_leave from_then_on = PublishesFor HandsInFirst typed was could_leave from_then_on
