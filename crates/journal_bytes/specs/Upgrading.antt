-- What an upgrade takes of a store of version 1, and the journal that it leaves. This project's own, docs/FORMAT.md, "The key step".
use Rattle.std.specs.Prelude.{ℕ, ◌+◌, Bool, cond, nat_lt, List, [], ◌∷◌, ◌++◌, length, Option, None}
use Rattle.cry_base.specs.Layout.{batch_len}
use Rattle.cry_base.specs.declared.commands.Refusal.{Refusal}
use Rattle.cry_base.specs.declared.limits.Limits.{Limits}
use Rattle.public_fold.specs.Journal.{Journal, nothing, entry_step, stand_after}
use Rattle.public_fold.specs.Journal.Entry.{Session, Upgraded}
use Rattle.public_fold.specs.Lengths.{entry_payload, end_of}
use Rattle.journal_bytes.specs.Script.{answer_with}

-- how many keys it draws, 32 bytes each; the length of its payload, whatever keys are drawn
unfoldable pub upgrade_draws : Journal → ℕ
upgrade_draws m = length (entry_step (stand_after nothing m) (Upgraded [])).given

unfoldable pub upgrade_payload : Journal → ℕ
upgrade_payload m = entry_payload (stand_after nothing m) (Upgraded [])

-- the end of the log once it is committed: with an epoch's batch before it where the session has begun none
unfoldable pub upgrade_end : Journal → Bool → ℕ
upgrade_end m begun = end_of m + cond begun 0 batch_len + batch_len + upgrade_payload m

-- it is refused where its batch would go past the store limit, and for no other cause
unfoldable pub upgrade_answer : Limits → Journal → Bool → Option Refusal
upgrade_answer limits m begun = answer_with None (nat_lt limits.store_bytes (upgrade_end m begun))

-- the journal after it: a session is begun before it where none was
abbrev pub upgraded_then : Journal → Bool → List (List ℕ) → Journal
upgraded_then m has_begun keys = m ++ cond has_begun [] (Session ∷ []) ++ Upgraded keys ∷ []
