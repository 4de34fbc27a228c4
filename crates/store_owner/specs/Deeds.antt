-- What an owner is asked to do, a command or an upgrade, and what of each hangs on which it is. This project's own, docs/FORMAT.md, "The
-- key step".
use Rattle.std.specs.Prelude.{◌≡◌, ℕ, Bool, false, cond, List, [], ◌∷◌, ◌++◌, Option, None}
use Rattle.cry_base.specs.Refusing.{has_bad_name, refusal_in}
use Rattle.cry_base.specs.Requests.{Request, request_of}
use Rattle.cry_base.specs.Store.{Store}
use Rattle.cry_base.specs.declared.commands.Refusal.{Refusal}
use Rattle.cry_base.specs.declared.commands.Reply.{Reply}
use Rattle.cry_base.specs.declared.commands.Reply.TheVariants as replies
use Rattle.cry_base.specs.declared.limits.Limits.{Limits}
use Rattle.command_plan.specs.NameChanges.{IsKeeping, IsNameChangeOf}
use Rattle.command_plan.specs.Targeted.{HasShortName}
use Rattle.command_plan.specs.declared.name_change.NameChange.{NameChange}
use Rattle.folder_nodes.specs.Targets.{IsTargetOf}
use Rattle.folder_nodes.specs.Titles.{Titles}
use Rattle.move_plan.specs.Noting.{note_of}
use Rattle.record_format.specs.Noted.{Note}
use Rattle.record_format.specs.Noted.Note.{Upgrade}
use Rattle.public_fold.specs.Journal.{Entry, Journal}
use Rattle.public_fold.specs.Journal.Entry.{Session, Did, Upgraded}
use Rattle.public_fold.specs.KeyStep.{KeyState}
use Rattle.journal_bytes.specs.Script.{answer, done_reply, draws_of, due_end, due_payload}
use Rattle.journal_bytes.specs.Texting.{AreKept, AreTitlesAfter, due_key, due_text}
use Rattle.journal_bytes.specs.Upgrading.{upgrade_answer, upgrade_draws, upgrade_end, upgrade_payload}
use Rattle.store_owner.specs.declared.asked.Asked.{Asked}
use Rattle.store_owner.specs.declared.asked.Asked.TheVariants as asked

-- a command; to make a store of version 1 one of version 2
pub data Deed : Type 0 where
  Commanded : (request : Request) → Deed
  Upgrading : Deed

-- ---- in a store

-- its note, with this check where it makes a holder
abbrev pub deed_note : Store → Deed → List ℕ → Note
deed_note s (Commanded r) check = note_of s r check
deed_note s Upgrading check = Upgrade

-- why the store itself refuses it: one of version 2 where strict is true, and else one of version 1
abbrev pub deed_refusal : Bool → Store → Deed → ℕ → Option Refusal
deed_refusal strict s (Commanded r) file_bytes = refusal_in strict s r file_bytes
deed_refusal strict s Upgrading file_bytes = None

-- the names that it gives are names
abbrev pub IsWellNamed : Deed → Type 0
IsWellNamed (Commanded r) = has_bad_name r ≡ false
IsWellNamed Upgrading = Unit {0}

-- the version is one that it is for
abbrev pub Suits : KeyState → Deed → Type 0
Suits k (Commanded r) = Unit {0}
Suits k Upgrading = k.version ≡ 1

-- the text that it seals, but for a new holder's key; and that key
abbrev pub deed_text : Store → Deed → List ℕ
deed_text s (Commanded r) = due_text s r
deed_text s Upgrading = []

abbrev pub deed_key : Deed → List ℕ → List ℕ
deed_key (Commanded r) key = due_key r key
deed_key Upgrading key = []

-- the names and bytes after it, from those before it; and the change of them that it asks for
abbrev pub AreDeedTitles : Store → Deed → Titles → Titles → Type 0
AreDeedTitles s (Commanded r) old new = AreTitlesAfter s r old new
AreDeedTitles s Upgrading old new = AreKept old new

abbrev pub IsDeedChange : Store → Deed → Titles → NameChange → Type 0
IsDeedChange s (Commanded r) old change = IsNameChangeOf s r old change
IsDeedChange s Upgrading old change = IsKeeping change

-- ---- in a journal

-- its entry, under the keys that it drew
abbrev pub deed_entry : Deed → List (List ℕ) → Entry
deed_entry (Commanded r) keys = Did r keys
deed_entry Upgrading keys = Upgraded keys

-- how many keys it draws; the length of its payload; the end of the log once it is committed
abbrev pub deed_draws : Journal → Deed → ℕ
deed_draws m (Commanded r) = draws_of m r
deed_draws m Upgrading = upgrade_draws m

abbrev pub deed_payload : Journal → Deed → ℕ
deed_payload m (Commanded r) = due_payload m r
deed_payload m Upgrading = upgrade_payload m

abbrev pub deed_end : Journal → Bool → Deed → ℕ
deed_end m begun (Commanded r) = due_end m begun r
deed_end m begun Upgrading = upgrade_end m begun

-- why it is refused, if it is
abbrev pub deed_answer : Limits → Journal → Bool → Deed → Option Refusal
deed_answer limits m begun (Commanded r) = answer limits m begun r
deed_answer limits m begun Upgrading = upgrade_answer limits m begun

-- the reply once it is done
abbrev pub deed_reply : Journal → Deed → List (List ℕ) → Reply
deed_reply m (Commanded r) keys = done_reply m r keys
deed_reply m Upgrading keys = replies.Done

-- the journal after it: a session is begun before it where none was
abbrev pub deed_then : Journal → Bool → Deed → List (List ℕ) → Journal
deed_then m has_begun d keys = m ++ cond has_begun [] (Session ∷ []) ++ deed_entry d keys ∷ []

-- how many commands it counts for
abbrev pub deed_count : Deed → ℕ
deed_count (Commanded r) = 1
deed_count Upgrading = 0

-- ---- as the code has it

abbrev pub deed_of : Asked → Deed
deed_of (asked.Command command target) = Commanded (request_of command.now)
deed_of asked.Upgrade = Upgrading

-- what it names was found in the store
abbrev pub IsFound : Store → Asked → Type 0
IsFound s (asked.Command command target) = IsTargetOf s (request_of command.now) target × HasShortName target
IsFound s asked.Upgrade = Unit {0}
