-- How a session over a journal goes on by a line of the owner's.
use Rattle.std.proofs.Common.{◌≡◌, ℕ, List, ◌++◌, Option}
use Rattle.std.specs.Prelude.{is_some}
use Rattle.cry_base.specs.Requests.{Request}
use Rattle.cry_base.specs.declared.commands.Reply.{Reply}
use Rattle.cry_base.specs.declared.limits.Limits.{Limits}
use Rattle.cry_io.specs.Told.{WhereBothTold}
use Rattle.group_book.specs.Asked.{asked_of}
use Rattle.journal_bytes.specs.Script.{Going, script_going, script_replies}
use Rattle.script_text.specs.Tasks.{Task}
use Rattle.store_owner.specs.Drawing.{AreKeys, joined}
use Rattle.store_owner.specs.Sessions.{with_draws}

-- a line of the owner's goes from g to h, with these replies, by the keys that were drawn for it
pub record LineGoes (limits : Limits) (g : Going) (task : Task) (block : List Request) (replies : List Reply) (h : Going) (left_before left_after : Option (List ℕ)) : Type 0 where
  pub drawn : List (List ℕ)
  pub drawn_sizes : AreKeys drawn
  pub told : is_some left_after ≡ is_some left_before
  pub next_bytes : WhereBothTold left_before left_after (λ x y. x ≡ joined drawn ++ y)
  pub stood : (rest : List ℕ) → block ≡ asked_of limits (with_draws g (joined drawn ++ rest)) task
  pub goes : (rest : List ℕ) → script_going limits (with_draws g (joined drawn ++ rest)) block ≡ with_draws h rest
  pub replied : (rest : List ℕ) → script_replies limits (with_draws g (joined drawn ++ rest)) block ≡ replies
