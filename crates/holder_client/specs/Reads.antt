-- What a reader has of the batches that were added to it. This project's own, docs/FORMAT.md, "Reading".
use Rattle.std.specs.Prelude.{◌≡◌, ◌<◌, ◌^◌, ℕ, ◌==◌, List, length, Option, None, Some, Ok, Err, cond}
use Rattle.std.specs.HashMap.{HashMap, get}
use Rattle.commit_journal.specs.Answering.{Damaged}
use Rattle.commit_journal.specs.Logs.{epoch_behind}
use Rattle.commit_journal.specs.Placed.{PlainBody, PlainPlaced}
use Rattle.commit_journal.specs.declared.past.Past.{Past}
use Rattle.holder_client.specs.declared.admission.NewCheck.{NewCheck}
use Rattle.holder_client.specs.declared.log_reader.Reader.{Reader}
use Rattle.log_visits.specs.Folding.{folded}
use Rattle.log_visits.specs.Indexed.{HaveStarts, IsIndexOf, IsTidy}
use Rattle.log_visits.specs.Judging.{body_check, published_check}
use Rattle.log_visits.specs.Sights.{same_number}
use Rattle.public_fold.specs.Journal.{Stand, nothing}
use Rattle.public_fold.specs.Standing.{IsSeenAs}

-- the map has for each holder the check that a log publishes
abbrev pub HasChecks : {S : Type 0} → HashMap ℕ (List ℕ) S → List PlainPlaced → Type 0
HasChecks checks log = (h : ℕ) → get same_number checks h ≡ published_check h log

-- a batch publishes this check, and no other
abbrev pub Publishes : PlainBody → NewCheck → Type 0
Publishes body new = (h : ℕ) → body_check h body ≡ cond (new.holder.0 == h) (Some new.check) None

-- the batches fit, and this is what a reading of them needs
pub record HasFolded (reader : Reader) (log : List PlainPlaced) : Type 0 where
  pub index : IsIndexOf reader.index log
  pub checks : HasChecks reader.checks log
  pub stand : (at : Stand) × (folded nothing log ≡ Ok at) × IsSeenAs reader.state at
  pub epoch : reader.state.keys.epoch ≡ epoch_behind 0 log
  pub count : length log < 2 ^ 32

abbrev pub HasReadTo : Option ℕ → Reader → List PlainPlaced → Type 0
HasReadTo None reader log = HasFolded reader log
HasReadTo (Some place) reader log = folded nothing log ≡ Err (Damaged place)

-- these are the batches that were added: all fit, or the first that doesn't is damaged at its place
abbrev pub HasRead : Reader → List PlainPlaced → Type 0
HasRead reader log = HasReadTo reader.misfit reader log

-- what was known before each of them: the reader has it of the batches that it reads once more
abbrev pub HasStarts : Reader → List Past → Type 0
HasStarts reader starts = HaveStarts reader.index.contents starts

-- where all batches fit, the reader keeps little beside the links and contents of what stands
abbrev pub KeepsLittle : Reader → Type 0
KeepsLittle reader = reader.misfit ≡ None → IsTidy reader.index reader.state
