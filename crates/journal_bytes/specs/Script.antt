-- What a list of commands is answered, and the journal that it leaves. This project's own, docs/PROGRAM.md, "Lines".
use Rattle.std.specs.Prelude.{ℕ, zero, suc, ◌+◌, ◌*◌, Bool, true, false, cond, nat_lt, List, [], ◌∷◌, ◌++◌, length, take, drop, replicate}
use Rattle.std.specs.Prelude.{Option, Some, None}
use Rattle.cry_base.specs.Layout.{batch_len}
use Rattle.cry_base.specs.Requests.{Request}
use Rattle.cry_base.specs.Requests.Request.{AddHolder, MakeFolder, WriteFile, Remove, Rename, Relocate, Grant, Revoke}
use Rattle.cry_base.specs.Refusing.{refusal_in}
use Rattle.cry_base.specs.declared.commands.Refusal.{Refusal}
use Rattle.cry_base.specs.declared.commands.Reply.{Reply}
use Rattle.cry_base.specs.declared.commands.Reply.TheVariants as replies
use Rattle.cry_base.specs.declared.limits.Limits.{Limits}
use Rattle.cry_base.specs.declared.commands.Refusal.TheVariants.{Full}
use Rattle.public_fold.specs.Journal.{Journal, nothing, first_key, entry_step, stand_after}
use Rattle.public_fold.specs.Journal.Entry.{Session, Did}
use Rattle.public_fold.specs.KeyStep.{is_strict}
use Rattle.public_fold.specs.Lengths.{entry_payload, end_of}

-- how many keys a command draws, 32 bytes each
unfoldable pub draws_of : Journal → Request → ℕ
draws_of m r = length (entry_step (stand_after nothing m) (Did r [])).given

-- the length of its payload, whatever key is drawn
unfoldable pub due_payload : Journal → Request → ℕ
due_payload m r = entry_payload (stand_after nothing m) (Did r (replicate 32 0 ∷ []))

-- the end of the log once it is committed: with an epoch's batch before it where the session has begun none
unfoldable pub due_end : Journal → Bool → Request → ℕ
due_end m begun r = end_of m + cond begun 0 batch_len + batch_len + due_payload m r

-- the refusal of a command, if there is one: that of the plain store in its version, and full where its batch would go past the store limit
unfoldable pub answer_with : Option Refusal → Bool → Option Refusal
answer_with (Some why) full = Some why
answer_with None true = Some Full
answer_with None false = None

unfoldable pub answer : Limits → Journal → Bool → Request → Option Refusal
answer limits m begun r =
    answer_with (refusal_in (is_strict (stand_after nothing m).keys) (stand_after nothing m).store r limits.file_bytes)
    (nat_lt limits.store_bytes (due_end m begun r))

-- the reply to a command that is accepted
unfoldable pub done_reply : Journal → Request → List (List ℕ) → Reply
done_reply m AddHolder keys = replies.Made (record { 0 = (stand_after nothing m).store.holders_made + 1 }) (first_key keys)
done_reply m (MakeFolder path) keys = replies.Done
done_reply m (WriteFile path bytes) keys = replies.Done
done_reply m (Remove path) keys = replies.Done
done_reply m (Rename path name) keys = replies.Done
done_reply m (Relocate path into) keys = replies.Done
done_reply m (Grant holder path) keys = replies.Done
done_reply m (Revoke holder path) keys = replies.Done

-- the first n keys of the random bytes
unfoldable pub keys_from : ℕ → List ℕ → List (List ℕ)
keys_from zero draws = []
keys_from (suc n) draws = take 32 draws ∷ keys_from n (drop 32 draws)

-- the journal after an accepted command: a session is begun before it where none was
abbrev pub journal_then : Journal → Bool → Request → List (List ℕ) → Journal
journal_then m has_begun r keys = m ++ cond has_begun [] (Session ∷ []) ++ Did r keys ∷ []

-- where a session stands: the journal, whether it has begun an epoch, and the random bytes that are left
pub record Going : Type 0 where
  pub journal : Journal
  pub begun : Bool
  pub draws : List ℕ

-- the session after an accepted command that draws n keys
unfoldable pub accepted_going : Going → Request → ℕ → Going
accepted_going g r n = record {
  journal = g.journal ++ cond g.begun [] (Session ∷ []) ++ Did r (keys_from n g.draws) ∷ [];
  begun = true;
  draws = drop (32 * n) g.draws;
}

-- the session and the reply after one command
unfoldable pub line_going : Going → Request → Option Refusal → Going
line_going g r None = accepted_going g r (draws_of g.journal r)
line_going g r (Some why) = g

unfoldable pub line_reply : Going → Request → Option Refusal → Reply
line_reply g r None = done_reply g.journal r (keys_from (draws_of g.journal r) g.draws)
line_reply g r (Some why) = replies.Refused why

-- the replies to commands one after another, and the session after them
unfoldable pub script_replies : Limits → Going → List Request → List Reply
script_replies limits g [] = []
script_replies limits g (r ∷ rs) = line_reply g r (answer limits g.journal g.begun r)
    ∷ script_replies limits (line_going g r (answer limits g.journal g.begun r)) rs

unfoldable pub script_going : Limits → Going → List Request → Going
script_going limits g [] = g
script_going limits g (r ∷ rs) = script_going limits (line_going g r (answer limits g.journal g.begun r)) rs

-- a session over a journal begins with no epoch and all its random bytes
unfoldable pub opened : Journal → List ℕ → Going
opened m draws = record { journal = m; begun = false; draws = draws }

-- a script: its replies, and the journal after it
unfoldable pub script : Limits → Journal → List Request → List ℕ → List Reply × Journal
script limits m lines draws = (script_replies limits (opened m draws) lines, (script_going limits (opened m draws) lines).journal)
