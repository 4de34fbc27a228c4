-- What a whole call publishes that opens a store, or leaves it alone: no stop takes it back.
use Rattle.std.proofs.Common.{◌≡◌, ℕ, List, Option, Some}
use Rattle.batch_log.specs.Moments.{FromThenOn}
use Rattle.batch_log.specs.Moments.InSteps.{Begins}
use Rattle.batch_log.proofs.InOrder.{on_in_both}
use Rattle.commit_journal.specs.Gates.{recovered}
use Rattle.commit_journal.specs.Holding.{GoesOn}
use Rattle.commit_journal.proofs.KeptLemmas.{prefix_trans}
use Rattle.journal_bytes.specs.Bytes.{batches_of}
use Rattle.public_fold.specs.Journal.{Journal}
use Rattle.cli_sessions.specs.Published.{LinesPublish}
use Rattle.store_owner.specs.Published.{HasPublished, PublishesUpTo, StaysPublished, published_batches}

module _ (D : Type 0) (moment : D → ℕ) (since : D → ℕ → List ℕ → List ℕ → Type 0) where
  -- the disk wasn't touched
  pub unread_publishes : (key : List ℕ) (was : Option (List ℕ)) (could : List ℕ → Type 0) (a : D) → ((s c : List ℕ) → since a (moment a) s c → (was ≡ Some s) × could c)
      → StaysPublished key was could → FromThenOn moment since a a (HasPublished key)
  unread_publishes key was could a only stays = Begins (λ s c at. let is = only s c at in stays s is.0 c is.1)

  -- it was opened, and lines were answered
  pub opened_publishes : (key : List ℕ) (m : Journal) (a b e : D) → ((d : D) → GoesOn (moment d) (since d) (since d)) → PublishesUpTo key m (since b (moment a)) (FromThenOn moment since a b)
      → LinesPublish key m (since e (moment b)) (FromThenOn moment since b e) → FromThenOn moment since a e (HasPublished key)
  opened_publishes key m a b e still up lines =
      on_in_both D moment since (HasPublished key) a b e still up.kept lines.kept
      (λ s c t l at later. prefix_trans (published_batches key s) (batches_of key m) (recovered key l) (up.within s c at) (lines.has t l later))
