-- The store that an owner keeps, whatever it was opened on, and how many of each kind were ever made in it.
use Rattle.std.proofs.Common.{◌≡◌, ℕ, suc, ◌+◌, ◌*◌, ◌≤◌, ◌<◌, Bool, true, false, cond, not, List, [], ◌∷◌, length, refl, ap, arith}
use Rattle.std.specs.List.{range_with_len}
use Rattle.cry_base.specs.Clearances.{clear_base}
use Rattle.cry_base.specs.Layout.{batch_len, header_len}
use Rattle.cry_base.specs.Limits.{most_store_bytes}
use Rattle.cry_base.specs.Stepping.{with_new_holder, with_new_folder, with_new_file, with_folder, with_file, without_folder, without_file, without_grant}
use Rattle.cry_base.specs.Store.{Store, no_store, root_store}
use Rattle.folder_nodes.specs.Titles.{tree_store}
use Rattle.record_format.specs.Noted.{Note}
use Rattle.record_format.specs.Noted.Note.{Root, NewHolder, NewFolder, NewFile, Rewrite, NameFile, NameFolder, DropFile, DropFolder, ShiftFile, ShiftFolder, Give, Take, StrictRoot, Upgrade}
use Rattle.public_fold.specs.Fitted.{told_stand, told_step}
use Rattle.public_fold.specs.Journal.{Stand, note_step, nothing}
use Rattle.public_fold.specs.KeyStep.{KeyState, key_step, next_epoch, no_keys, published, step_with}
use Rattle.public_fold.specs.Preparing.{begun, begun_keys}
use Rattle.public_fold.specs.Told.{told_store}
use Rattle.public_fold.specs.Turns.{Turn, turn_stand, turns_stand}
use Rattle.public_fold.specs.Turns.Turn.{Began, Noted}
use Rattle.journal_bytes.specs.Owning.{IsStoreOf}
use Rattle.store_owner.specs.Owned.{OwnerView}
use Rattle.store_owner.specs.Sound.{IsSound, LeavesNumbers, granted_in, most_unlogged, own_store}
use Rattle.store_owner.proofs.OwnerKeeps.{number_keyless}

pub own_kept : (o : OwnerView) → IsStoreOf o.state.tree o.names (granted_in o) (own_store o)
unfolding tree_store
own_kept o = record {
  tree = record { folders = refl; files = refl; folders_made = refl; files_made = refl };
  grants = record { numbers = number_keyless (range_with_len 1 (length o.state.checks)); made = refl; granted = λ e. (λ i. i, λ i. i) };
}

-- a note makes one more of a kind at most
pub record IsOneMore (s t : Store) : Type 0 where
  pub folders : t.folders_made ≤ s.folders_made + 1
  pub files : t.files_made ≤ s.files_made + 1
  pub holders : t.holders_made ≤ s.holders_made + 1

as_many : (s : Store) → IsOneMore s s
as_many s = record { folders = omega arith; files = omega arith; holders = omega arith }

one_more : (s : Store) (note : Note) → IsOneMore s (told_store s note)
unfolding told_store with_new_holder with_new_folder with_new_file with_folder with_file without_folder without_file without_grant root_store no_store
one_more s Root = record { folders = omega arith; files = omega arith; holders = omega arith }
one_more s (NewHolder h check) = record { folders = omega arith; files = omega arith; holders = omega arith }
one_more s (NewFolder f p) = record { folders = omega arith; files = omega arith; holders = omega arith }
one_more s (NewFile x f) = record { folders = omega arith; files = omega arith; holders = omega arith }
one_more s (Rewrite x) = as_many s
one_more s (NameFile x) = as_many s
one_more s (NameFolder f) = as_many s
one_more s (DropFile x) = record { folders = omega arith; files = omega arith; holders = omega arith }
one_more s (DropFolder f) = record { folders = omega arith; files = omega arith; holders = omega arith }
one_more s (ShiftFile x g) = record { folders = omega arith; files = omega arith; holders = omega arith }
one_more s (ShiftFolder g q) = record { folders = omega arith; files = omega arith; holders = omega arith }
one_more s (Give h f) = record { folders = omega arith; files = omega arith; holders = omega arith }
one_more s (Take h f) = record { folders = omega arith; files = omega arith; holders = omega arith }
one_more s StrictRoot = record { folders = omega arith; files = omega arith; holders = omega arith }
one_more s Upgrade = as_many s

-- so many turns make so many of each kind at most, and begin so many epochs
pub record AreWithin (n : ℕ) (before after : Stand) : Type 0 where
  pub folders : after.store.folders_made ≤ before.store.folders_made + n
  pub files : after.store.files_made ≤ before.store.files_made + n
  pub holders : after.store.holders_made ≤ before.store.holders_made + n
  pub epoch : after.keys.epoch ≤ before.keys.epoch + n

turn_within : (at : Stand) (turn : Turn) → AreWithin 1 at (turn_stand at turn)
unfolding turn_stand told_stand told_step note_step key_step step_with published next_epoch
turn_within at Began = record { folders = omega arith; files = omega arith; holders = omega arith; epoch = omega arith }
turn_within at (Noted note) = let more = one_more at.store note in record { folders = more.folders; files = more.files; holders = more.holders; epoch = omega arith }

within_on : (n : ℕ) (a b c : Stand) → AreWithin 1 a b → AreWithin n b c → AreWithin (suc n) a c
within_on n a b c one more = record {
  folders = let x = one.folders in let y = more.folders in omega arith;
  files = let x = one.files in let y = more.files in omega arith;
  holders = let x = one.holders in let y = more.holders in omega arith;
  epoch = let x = one.epoch in let y = more.epoch in omega arith;
}

pub turns_within : (at : Stand) (turns : List Turn) → AreWithin (length turns) at (turns_stand at turns)
unfolding turns_stand
turns_within at [] = record { folders = omega arith; files = omega arith; holders = omega arith; epoch = omega arith }
turns_within at (turn ∷ turns) = within_on (length turns) at (turn_stand at turn) (turns_stand (turn_stand at turn) turns) (turn_within at turn) (turns_within (turn_stand at turn) turns)

-- numbers are left where so many batches came as made no more than this
pub numbers_then : (was now more : ℕ) (before after : Stand) → LeavesNumbers was before → AreWithin more before after → was + more ≤ now → LeavesNumbers now after
numbers_then was now more before after few within room = record {
  folders = let x = few.folders in let y = within.folders in omega arith;
  files = let x = few.files in let y = within.files in omega arith;
  holders = let x = few.holders in let y = within.holders in omega arith;
  epochs = let x = few.epochs in let y = within.epoch in omega arith;
}

from_none : LeavesNumbers 0 (record { store = no_store; keys = no_keys })
unfolding no_store no_keys
from_none = record { folders = omega arith; files = omega arith; holders = omega arith; epochs = omega arith }

-- so they are after no more turns from nothing than there are batches
pub numbers_from_nothing : (batches : ℕ) (turns : List Turn) → length turns ≤ batches → LeavesNumbers batches (turns_stand nothing turns)
unfolding nothing
numbers_from_nothing batches turns few = numbers_then 0 batches (length turns) (record { store = no_store; keys = no_keys }) (turns_stand nothing turns) from_none (turns_within nothing turns) (omega (arith, few))

-- so they are after a command, with the session's epoch where it has begun none
command_within : (has : Bool) (at : Stand) (note : Note) → AreWithin 1 at (told_stand (begun (not has) at) note)
unfolding told_stand told_step note_step key_step step_with published next_epoch begun_keys
command_within true at note = let more = one_more at.store note in record { folders = more.folders; files = more.files; holders = more.holders; epoch = omega arith }
command_within false at note = let more = one_more at.store note in record { folders = more.folders; files = more.files; holders = more.holders; epoch = omega arith }

some_batches : (has : Bool) (was now : ℕ) → now ≡ was + cond has 1 2 → was + 1 ≤ now
some_batches true was now e = let more : now ≡ was + 1 = e in omega (arith, more)
some_batches false was now e = let more : now ≡ was + 2 = e in omega (arith, more)

pub numbers_after : (has : Bool) (at : Stand) (note : Note) (was now : ℕ) → LeavesNumbers was at → now ≡ was + cond has 1 2 → LeavesNumbers now (told_stand (begun (not has) at) note)
numbers_after has at note was now few more = numbers_then was now 1 at (told_stand (begun (not has) at) note) few (command_within has at note) (some_batches has was now more)

few_below : (m made : ℕ) → header_len + batch_len * m ≤ most_store_bytes → made ≤ most_unlogged + m → made < clear_base
few_below m made a b = omega arith

few : (m made : ℕ) → header_len + batch_len * m ≤ most_store_bytes → made ≤ most_unlogged + m → made < 4294967295
few m made a b = omega arith

module _ (o : OwnerView) (sound : IsSound o) (room : header_len + batch_len * o.journal.batches ≤ most_store_bytes) where
  pub folders_few : o.state.tree.folders_made < 4294967295
  folders_few = let same = ap (λ (s : Store). s.folders_made) sound.seen.store in let low = sound.goes_on.numbers.folders in few o.journal.batches o.state.tree.folders_made room (omega arith)

  pub files_below : o.state.tree.files_made < clear_base
  files_below = let same = ap (λ (s : Store). s.files_made) sound.seen.store in let low = sound.goes_on.numbers.files in few_below o.journal.batches o.state.tree.files_made room (omega arith)

  pub holders_few : length o.state.checks < 4294967295
  holders_few = let same = ap (λ (s : Store). s.holders_made) sound.seen.store in let low = sound.goes_on.numbers.holders in few o.journal.batches (length o.state.checks) room (omega arith)

  pub epoch_few : o.state.keys.epoch < 4294967295
  epoch_few = let same = ap (λ (k : KeyState). k.epoch) sound.seen.keys in let low = sound.goes_on.numbers.epochs in few o.journal.batches o.state.keys.epoch room (omega arith)
