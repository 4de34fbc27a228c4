-- What an owner promises of each command, whatever the owner stands for. This project's own, docs/PROGRAM.md, "The program".
use Rattle.std.specs.Prelude.{◌≡◌, ◌≢◌, ◌<◌, ◌≤◌, ℕ, List, Option, Ok, Err, is_some}
use Rattle.commit_journal.specs.Holding.{GoesOn}
use Rattle.cry_base.specs.Requests.{Request}
use Rattle.cry_base.specs.Store.{Store}
use Rattle.cry_base.specs.declared.commands.Refusal.{Refusal}
use Rattle.cry_base.specs.declared.commands.Reply.{Reply}
use Rattle.cry_base.specs.declared.commands.Reply.TheVariants.{Refused}
use Rattle.group_book.specs.Replacing.{stands_for}
use Rattle.journal_bytes.specs.Owning.{IsStoreOf}
use Rattle.public_fold.specs.Journal.{Journal}
use Rattle.store_owner.specs.Acting.{Acts}
use Rattle.store_owner.specs.Applying.{Answers}
use Rattle.store_owner.specs.Deeds.Deed.{Commanded}
use Rattle.store_owner.specs.Owned.{IsOwnerOf, OwnerView}
use Rattle.store_owner.specs.Sound.{granted_in}
use Rattle.store_owner.specs.Tallied.{CountsCommand}
use Rattle.store_owner.specs.Taking.{FallsShort, TakesKeys}
use Rattle.store_owner.specs.declared.apply_fault.ApplyFault.{ApplyFault}
use Rattle.store_owner.specs.declared.apply_fault.ApplyFault.TheVariants as faults

-- an owner with the random bytes that are left, what the disk shows and its moment, and how often either failed
pub record Scene : Type 0 where
  pub owner : OwnerView
  pub left : Option (List ℕ)
  pub shown : Option (List ℕ)
  pub moment : ℕ
  pub random_faults : ℕ
  pub disk_faults : ℕ

-- a command that is answered: as the journal says for which the owner stands, with what a stop might leave before, at each moment since,
-- and after, and as the owner says, whatever it stands for; the owner's key stays; it takes whole keys, and a refused one draws and writes
-- nothing; and one that is accepted is counted
pub record AnswersIn (before : Scene) (request : Request) (reply : Reply) (after : Scene) (might may : List ℕ → Type 0)
    (past since : ℕ → List ℕ → List ℕ → Type 0) : Type 0 where
  pub answers : (m : Journal) → IsOwnerOf m before.owner
      → Answers (Ok reply) m (Commanded request) before.owner after.owner before.left after.left before.shown after.shown
      might may (since before.moment)
  pub acts : Acts (Ok reply) (Commanded request) before.owner after.owner before.left after.left before.shown after.shown
  pub later : before.moment ≤ after.moment
  pub time : GoesOn before.moment past since
  pub same_key : after.owner.key ≡ before.owner.key
  pub left_told : is_some after.left ≡ is_some before.left
  pub shown_told : is_some after.shown ≡ is_some before.shown
  pub draws : TakesKeys before.left after.left
  pub kept : (why : Refusal) → reply ≡ Refused why → (after.left ≡ before.left) × (after.shown ≡ before.shown)
  pub counted : CountsCommand (Ok reply) (Commanded request) before.owner after.owner
  pub random_counts : before.random_faults ≤ after.random_faults
  pub disk_counts : before.disk_faults ≤ after.disk_faults

-- a command that meets a fault: only that of the disk changes what it shows, each comes only where its count rose, and the random
-- source falls short of whole keys
pub record FailsIn (before : Scene) (request : Request) (fault : ApplyFault) (after : Scene) (might may : List ℕ → Type 0)
    (past since : ℕ → List ℕ → List ℕ → Type 0) : Type 0 where
  pub answers : (m : Journal) → IsOwnerOf m before.owner
      → Answers (Err fault) m (Commanded request) before.owner after.owner before.left after.left before.shown after.shown
      might may (since before.moment)
  pub acts : Acts (Err fault) (Commanded request) before.owner after.owner before.left after.left before.shown after.shown
  pub later : before.moment ≤ after.moment
  pub time : GoesOn before.moment past since
  pub left_told : is_some after.left ≡ is_some before.left
  pub shown_told : is_some after.shown ≡ is_some before.shown
  pub short : (left need : ℕ) → fault ≡ faults.RandomShort left need
      → FallsShort before.owner (Commanded request) left need before.left after.left
  pub undrawn : fault ≡ faults.OutOfMemory → after.left ≡ before.left
  pub unwritten : fault ≢ faults.DiskFault → after.shown ≡ before.shown
  pub never_closed : fault ≢ faults.Closed
  pub random_counts : before.random_faults ≤ after.random_faults
  pub disk_counts : before.disk_faults ≤ after.disk_faults
  pub random_fault : fault ≡ faults.RandomFault → before.random_faults < after.random_faults
  pub disk_fault : fault ≡ faults.DiskFault → before.disk_faults < after.disk_faults

-- what the replacement of a holder stands for, in any store that the owner stands for
abbrev pub StandsIn : OwnerView → ℕ → List Request → Type 0
StandsIn o n commands = (s : Store) → IsStoreOf o.state.tree o.names (granted_in o) s → commands ≡ stands_for s n
