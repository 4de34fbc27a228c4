-- What a command takes of the random source, whatever its owner stands for. This project's own, docs/FORMAT.md, "The key step".
use Rattle.std.specs.Prelude.{◌≡◌, ◌<◌, ◌*◌, ℕ, not, List, [], ◌++◌, length, replicate, Option, None}
use Rattle.cry_io.specs.Told.{WhereTold, WhereBothTold}
use Rattle.public_fold.specs.Fitted.{told_step}
use Rattle.public_fold.specs.Journal.{Stand}
use Rattle.public_fold.specs.KeyStep.{is_strict}
use Rattle.public_fold.specs.Preparing.{begun}
use Rattle.public_fold.specs.Standing.{IsSeenAs}
use Rattle.store_owner.specs.Deeds.{Deed, deed_note, deed_refusal}
use Rattle.store_owner.specs.Drawing.{AreKeys, joined}
use Rattle.store_owner.specs.Owned.{OwnerView}
use Rattle.store_owner.specs.Sound.{own_store}

-- what was taken are the next bytes, and they are whole keys
pub record TakesKeys (before after : Option (List ℕ)) : Type 0 where
  pub drawn : List (List ℕ)
  pub drawn_sizes : AreKeys drawn
  pub next_bytes : WhereBothTold before after (λ x y. x ≡ joined drawn ++ y)

-- how many keys the plan of a command gives, in the store that its owner keeps, where that is seen as this stand
abbrev pub keys_planned : OwnerView → Stand → Deed → ℕ
keys_planned o at d = length (told_step (begun (not o.journal.has_epoch) at) (deed_note (own_store o) d (replicate 32 0))).given

-- A command that its owner's store accepts needs 32 bytes for each key of its plan, and the source ended after fewer, which are gone.
pub record FallsShort (o : OwnerView) (d : Deed) (left need : ℕ) (before after : Option (List ℕ)) : Type 0 where
  pub at : Stand
  pub seen : IsSeenAs o.state at
  pub accepted : deed_refusal (is_strict o.state.keys) (own_store o) d o.file_bytes ≡ None
  pub is_need : (other : Stand) → IsSeenAs o.state other → need ≡ 32 * keys_planned o other d
  pub is_short : left < need
  pub were_left : WhereTold before (λ x. length x ≡ left)
  pub nothing_left : WhereTold after (λ y. y ≡ [])
