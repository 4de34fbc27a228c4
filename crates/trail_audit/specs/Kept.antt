-- What an audit has of the batches that it read. This project's own, docs/FORMAT.md, "Reading".
use Rattle.std.specs.Prelude.{◌≡◌, List, length}
use Rattle.commit_journal.specs.Placed.{PlainPlaced}
use Rattle.commit_journal.specs.Streaming.{IsReading, LogState}
use Rattle.commit_journal.specs.declared.past.Past.{Past}
use Rattle.log_visits.specs.Placing.{log_links}
use Rattle.holder_client.specs.Reads.{HasRead}
use Rattle.trail_audit.specs.Grouped.{HasGroups, source_of_link}
use Rattle.trail_audit.specs.Seals.{AreSealsOf}
use Rattle.trail_audit.specs.declared.kept.Kept.{Kept}

-- these are the batches that were added: a reader read them, and their links were kept, what their contents are sealed under, and
-- their number
pub record HasKept (kept : Kept) (log : List PlainPlaced) : Type 0 where
  pub read : HasRead kept.reader log
  pub links : HasGroups source_of_link kept.links (log_links log)
  pub seals : AreSealsOf kept.seals.items log
  pub last : kept.last ≡ length log

-- what was known before each batch that a log gave
pub record KeepsStarts (starts : List Past) (log : LogState) : Type 0 where
  pub same : starts ≡ log.starts
  pub reading : IsReading log.given log.starts log.past
