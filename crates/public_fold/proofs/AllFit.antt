-- Each entry of a valid journal fits what stands before it.
use Rattle.std.proofs.Common.{◌≡◌, ℕ, ◌+◌, ◌-◌, ◌^◌, ◌≤◌, Bool, true, false, cond, not, ◌==◌, ◌&&◌, List, [], ◌∷◌, ◌++◌, ap, arith, refl}
use Rattle.std.specs.Prelude.{nat_lt}
use Rattle.std.proofs.lemmas.Bool.{and_from, lt-ltb}
use Rattle.std.proofs.lemmas.List.Sums.{sum_by-cons}
use Rattle.cry_base.specs.Layout.{batch_len, header_len}
use Rattle.cry_base.specs.Limits.{most_file_bytes, most_store_bytes}
use Rattle.cry_base.specs.Store.{Store, no_store, root_store}
use Rattle.cry_base.specs.Stepping.{effect}
use Rattle.move_plan.specs.Change.{Change, change_of}
use Rattle.move_plan.specs.Fitting.{row_fits, needs_root, fits}
use Rattle.record_format.specs.Noted.Note.{Root, StrictRoot, Upgrade}
use Rattle.move_plan.specs.Noting.{note_of}
use Rattle.role_graph.specs.Edges.{edges}
use Rattle.public_fold.specs.Journal.{Journal, Entry, Stand, nothing, first_key, note_step, root_note, entry_step, entry_store, stand_then}
use Rattle.public_fold.specs.Journal.Entry.{Session, Made, Did, Upgraded}
use Rattle.public_fold.specs.Keyed.{KeysHold}
use Rattle.public_fold.specs.KeyStep.{KeyState, Stepped, is_strict, no_keys, next_epoch, published, step_with, key_step}
use Rattle.public_fold.specs.Lengths.{payload_len, entry_payload, payloads_from, end_of}
use Rattle.public_fold.specs.Records.{Link, Piece, pieces_of}
use Rattle.public_fold.specs.StandFits.{has_count, note_fits, entry_fits, all_fit}
use Rattle.public_fold.specs.Valid.{FollowOn, BeginsWell, IsValid}
use Rattle.public_fold.proofs.Numbers.{IsWithin, numbers_below, spent, within_did, within_made, within_session, within_upgraded}
use Rattle.public_fold.proofs.Keeping.{HasTree}
use Rattle.public_fold.proofs.NotesFit as notes
use Rattle.public_fold.proofs.KeepingKeys.{keys_after}
use Rattle.public_fold.proofs.KeyMoves.{IsSound, command_fits, effect_sound, root_sound, command_moves, root_moves, upgrade_moves, nothing_holds, epoch_holds}
use Rattle.public_fold.proofs.SerialsKept.{count_after, few_fresh}

-- what is below the store's limit in bytes is below the largest number of four bytes
small : (n : ℕ) → n ≤ most_store_bytes → nat_lt n (2 ^ 32 - 1) ≡ true
small n h = lt-ltb n (2 ^ 32 - 1) (omega arith)

either_fits : (strict : Bool) → fits false no_store (cond strict StrictRoot Root) ≡ true
unfolding fits row_fits needs_root no_store
either_fits true = refl
either_fits false = refl

root_fits : (version : ℕ) → fits false no_store (root_note version) ≡ true
unfolding root_note
root_fits version = either_fits (version == 2)

-- a store of version 1 may be upgraded
upgrade_fits : (k : KeyState) (s : Store) → HasTree s → k.version ≡ 1 → fits (is_strict k) s Upgrade ≡ true
unfolding is_strict row_fits
upgrade_fits k s ok one = notes.rest_fits (k.version == 2) s Upgrade ok (ap (λ n. not (n == 2)) one)

same_epoch : (k : KeyState) (s : Store) (c : Change) (pieces : List Piece) → (key_step k (edges s) c pieces).after.epoch ≡ k.epoch
unfolding key_step step_with published
same_epoch k s c pieces = refl

after_fit : (entries : List Entry) (at : Stand) (links : List Link) → IsSound at.store → IsWithin at entries → KeysHold at.store at.keys links → 1 ≤ at.keys.epoch → at.keys.epoch + spent (payloads_from at entries) ≤ most_store_bytes → at.keys.count + spent (payloads_from at entries) ≤ most_store_bytes → FollowOn at entries
    → all_fit at entries ≡ true
unfolding all_fit entry_fits note_fits has_count stand_then entry_store entry_step note_step payloads_from entry_payload next_epoch
after_fit [] at links sound within ok begun low few f = refl
after_fit (Session ∷ entries) at links sound within ok begun low few f =
    let rest = payloads_from (stand_then at Session) entries in
    let sum : spent (0 ∷ rest) ≡ (batch_len + 0) + spent rest = sum_by-cons (λ len. batch_len + len) 0 rest in
    let all : at.keys.epoch + spent (0 ∷ rest) ≤ most_store_bytes = low in
    and_from (nat_lt at.keys.epoch (2 ^ 32 - 1)) (all_fit (stand_then at Session) entries) (small at.keys.epoch (omega arith))
    (after_fit entries (stand_then at Session) links sound (within_session at entries within) (epoch_holds at.store at.keys links ok) (omega arith) (omega arith) (omega arith) f.1)
after_fit (Made version keys ∷ entries) at links sound within ok begun low few f = absurd f.0
after_fit (Did request keys ∷ entries) at links sound within ok begun low few f =
    let s = at.store in
    let t = effect s request (first_key keys) in
    let note = note_of s request [] in
    let strict = is_strict at.keys in
    let c = change_of strict s note in
    let left = numbers_below at (Did request keys) entries within in
    let mv = command_moves strict s request (first_key keys) [] most_file_bytes f.0.0 left sound in
    let step : Stepped = note_step at note t in
    let rest = payloads_from (stand_then at (Did request keys)) entries in
    let sum : spent (payload_len note step ∷ rest) ≡ (batch_len + payload_len note step) + spent rest = sum_by-cons (λ len. batch_len + len) (payload_len note step) rest in
    let all : at.keys.epoch + spent (payload_len note step ∷ rest) ≤ most_store_bytes = low in
    let counts : at.keys.count + spent (payload_len note step ∷ rest) ≤ most_store_bytes = few in
    let more : step.after.count ≤ at.keys.count + (batch_len + payload_len note step) = count_after s t at.keys c links mv ok note (pieces_of note t) (few_fresh strict s note) in
    let same : step.after.epoch ≡ at.keys.epoch = same_epoch at.keys s c (pieces_of note t) in
    let fitting : fits strict s note ≡ true = command_fits strict s request [] most_file_bytes f.0.0 left sound in
    and_from (nat_lt 0 at.keys.epoch && (fits strict s note && nat_lt step.after.count (2 ^ 32 - 1))) (all_fit (stand_then at (Did request keys)) entries)
    (and_from (nat_lt 0 at.keys.epoch) (fits strict s note && nat_lt step.after.count (2 ^ 32 - 1)) (lt-ltb 0 at.keys.epoch (omega arith))
    (and_from (fits strict s note) (nat_lt step.after.count (2 ^ 32 - 1)) fitting (small step.after.count (omega arith))))
    (after_fit entries (stand_then at (Did request keys)) (links ++ step.links) (effect_sound strict s request (first_key keys) most_file_bytes f.0.0 left sound) (within_did at request keys entries within)
    (keys_after s t at.keys c links mv ok (pieces_of note t)) (omega arith) (omega arith) (omega arith) f.1)
after_fit (Upgraded keys ∷ entries) at links sound within ok begun low few f =
    let s = at.store in
    let strict = is_strict at.keys in
    let c = change_of strict s Upgrade in
    let mv = upgrade_moves strict s sound in
    let step : Stepped = note_step at Upgrade s in
    let rest = payloads_from (stand_then at (Upgraded keys)) entries in
    let sum : spent (payload_len Upgrade step ∷ rest) ≡ (batch_len + payload_len Upgrade step) + spent rest = sum_by-cons (λ len. batch_len + len) (payload_len Upgrade step) rest in
    let all : at.keys.epoch + spent (payload_len Upgrade step ∷ rest) ≤ most_store_bytes = low in
    let counts : at.keys.count + spent (payload_len Upgrade step ∷ rest) ≤ most_store_bytes = few in
    let more : step.after.count ≤ at.keys.count + (batch_len + payload_len Upgrade step) = count_after s s at.keys c links mv ok Upgrade (pieces_of Upgrade s) (few_fresh strict s Upgrade) in
    let same : step.after.epoch ≡ at.keys.epoch = same_epoch at.keys s c (pieces_of Upgrade s) in
    and_from (nat_lt 0 at.keys.epoch && (fits strict s Upgrade && nat_lt step.after.count (2 ^ 32 - 1))) (all_fit (stand_then at (Upgraded keys)) entries)
    (and_from (nat_lt 0 at.keys.epoch) (fits strict s Upgrade && nat_lt step.after.count (2 ^ 32 - 1)) (lt-ltb 0 at.keys.epoch (omega arith))
    (and_from (fits strict s Upgrade) (nat_lt step.after.count (2 ^ 32 - 1)) (upgrade_fits at.keys s sound.tree f.0.0) (small step.after.count (omega arith))))
    (after_fit entries (stand_then at (Upgraded keys)) (links ++ step.links) sound (within_upgraded at keys entries within)
    (keys_after s s at.keys c links mv ok (pieces_of Upgrade s)) (omega arith) (omega arith) (omega arith) f.1)

begun_fit : (m : Journal) → BeginsWell m → end_of m ≤ most_store_bytes → all_fit nothing m ≡ true
unfolding all_fit entry_fits note_fits has_count stand_then entry_store entry_step note_step payloads_from entry_payload next_epoch nothing no_keys end_of is_strict
begun_fit [] b low = absurd b
begun_fit (Session ∷ []) b low = absurd b
begun_fit (Session ∷ Session ∷ es) b low = absurd b
begun_fit (Session ∷ Made version keys ∷ es) b low =
    let at = stand_then (stand_then nothing Session) (Made version keys) in
    let root = root_note version in
    let step : Stepped = note_step (stand_then nothing Session) root root_store in
    let k : KeyState = next_epoch no_keys in
    let c = change_of false no_store root in
    let rest = payloads_from at es in
    let first : spent (0 ∷ payload_len root step ∷ rest) ≡ (batch_len + 0) + spent (payload_len root step ∷ rest) = sum_by-cons (λ len. batch_len + len) 0 (payload_len root step ∷ rest) in
    let sum : spent (payload_len root step ∷ rest) ≡ (batch_len + payload_len root step) + spent rest = sum_by-cons (λ len. batch_len + len) (payload_len root step) rest in
    let all : header_len + spent (0 ∷ payload_len root step ∷ rest) ≤ most_store_bytes = low in
    let more : step.after.count ≤ k.count + (batch_len + payload_len root step) = count_after no_store root_store k c [] (root_moves version) nothing_holds root (pieces_of root root_store) (few_fresh false no_store root) in
    let same : step.after.epoch ≡ k.epoch = same_epoch k no_store c (pieces_of root root_store) in
    let tail = after_fit es at step.links root_sound (within_made version keys es low) (keys_after no_store root_store k c [] (root_moves version) nothing_holds (pieces_of root root_store)) (omega arith) (omega arith) (omega arith) b.1 in
    let made = and_from (nat_lt 0 1) (fits false no_store root && nat_lt step.after.count (2 ^ 32 - 1)) (lt-ltb 0 1 (omega arith)) (and_from (fits false no_store root) (nat_lt step.after.count (2 ^ 32 - 1)) (root_fits version) (small step.after.count (omega arith))) in
    and_from (nat_lt 0 (2 ^ 32 - 1)) ((nat_lt 0 1 && (fits false no_store root && nat_lt step.after.count (2 ^ 32 - 1))) && all_fit at es) (small 0 (omega arith))
    (and_from (nat_lt 0 1 && (fits false no_store root && nat_lt step.after.count (2 ^ 32 - 1))) (all_fit at es) made tail)
begun_fit (Session ∷ Did request keys ∷ es) b low = absurd b
begun_fit (Session ∷ Upgraded keys ∷ es) b low = absurd b
begun_fit (Made version keys ∷ es) b low = absurd b
begun_fit (Did request keys ∷ es) b low = absurd b
begun_fit (Upgraded keys ∷ es) b low = absurd b

pub journal_all_fit : (m : Journal) → IsValid m → all_fit nothing m ≡ true
journal_all_fit m v = begun_fit m v.0 v.1
