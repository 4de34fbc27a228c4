-- How a session over a journal goes on at a command that its owner answers. This project's own, docs/MODEL.md.
use Rattle.std.specs.Prelude.{◌≡◌, ◌<◌, ◌≤◌, ◌⊎◌, ℕ, List, ◌++◌, drop, length, Option, Some}
use Rattle.commit_journal.specs.Standing.{StandsWhole}
use Rattle.cry_base.specs.Requests.{Request}
use Rattle.cry_base.specs.declared.commands.Reply.{Reply}
use Rattle.cry_base.specs.declared.limits.Limits.{Limits}
use Rattle.cry_io.specs.Told.{WhereBothTold}
use Rattle.journal_bytes.specs.Bytes.{batches_of}
use Rattle.journal_bytes.specs.Script.{Going, answer, line_going, line_reply}
use Rattle.store_owner.specs.Drawing.{AreKeys, joined}
use Rattle.store_owner.specs.Owned.{IsOwnerOf, OwnerView, limits_in}

-- the session with these random bytes before it
abbrev pub with_draws : Going → List ℕ → Going
with_draws g draws = record { journal = g.journal; begun = g.begun; draws = draws }

-- The owner and the disk stand where a session does: both at its journal, with its bytes.
pub record StandsAt (limits : Limits) (key : List ℕ) (g : Going) (o : OwnerView) (shown : Option (List ℕ)) : Type 0 where
  pub owner_is : IsOwnerOf g.journal o
  pub has_key : o.key ≡ key
  pub has_limits : limits_in o ≡ limits
  pub has_begun : o.journal.has_epoch ≡ g.begun
  pub disk_stands : (s : List ℕ) × (shown ≡ Some s) × StandsWhole key (batches_of key g.journal) s

-- A session goes from g to h at a command, with this reply: the keys that were drawn for it, 32 bytes each, are the next random bytes
-- where the source tells; and whatever bytes stand behind these keys, they are left.
pub record GoesOn (limits : Limits) (g h : Going) (r : Request) (reply : Reply) (left_before left_after : Option (List ℕ)) : Type 0 where
  pub drawn : List (List ℕ)
  pub drawn_sizes : AreKeys drawn
  pub next_bytes : WhereBothTold left_before left_after (λ x y. x ≡ joined drawn ++ y)
  pub goes : (rest : List ℕ) → line_going (with_draws g (joined drawn ++ rest)) r (answer limits g.journal g.begun r) ≡ with_draws h rest
  pub replied : (rest : List ℕ) → line_reply (with_draws g (joined drawn ++ rest)) r (answer limits g.journal g.begun r) ≡ reply

-- It leaves what the disk shows behind the log's new end; and it makes the journal longer, or leaves all that is shown.
pub record AnswersBehind (g h : Going) (old new : OwnerView) (was shows : Option (List ℕ)) : Type 0 where
  pub behind : WhereBothTold was shows (λ x y. drop new.journal.end y ≡ drop new.journal.end x)
  pub further : old.journal.end ≤ new.journal.end
  pub no_shorter : length g.journal ≤ length h.journal
  pub unchanged : (shows ≡ was) ⊎ (length g.journal < length h.journal)
