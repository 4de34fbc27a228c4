-- In a store within the limit fewer folders and files were made than there are numbers below those of clearances.
use Rattle.std.proofs.Common.{◌≡◌, ℕ, ◌+◌, ◌<◌, ◌≤◌, List, [], ◌∷◌, Option, Some, None, arith}
use Rattle.std.specs.List.{sum_by}
use Rattle.std.proofs.lemmas.List.Sums.{sum_by-cons}
use Rattle.cry_base.specs.Clearances.{clear_base}
use Rattle.cry_base.specs.Layout.{batch_len, header_len}
use Rattle.cry_base.specs.Limits.{most_store_bytes}
use Rattle.cry_base.specs.Requests.{Request}
use Rattle.cry_base.specs.Requests.Request.{AddHolder, MakeFolder, WriteFile, Remove, Rename, Relocate, Grant, Revoke}
use Rattle.cry_base.specs.Store.{Store, no_store, root_store, node_at}
use Rattle.cry_base.specs.Refusing.{id_of}
use Rattle.cry_base.specs.Stepping.{with_new_holder, with_new_folder, with_new_file, with_folder, with_file, without_folder, without_file, without_grant, with_bytes_at, without_node, with_name, moved, effect}
use Rattle.cry_base.specs.declared.roles.Node.{Node}
use Rattle.cry_base.specs.declared.roles.Node.TheVariants.{Folder, File}
use Rattle.public_fold.specs.Journal.{Entry, Journal, Stand, nothing, first_key, entry_store, stand_then, stand_after, store_of}
use Rattle.public_fold.specs.Journal.Entry.{Session, Made, Did, Upgraded}
use Rattle.public_fold.specs.Lengths.{entry_payload, payloads_from, end_of}
use Rattle.public_fold.specs.Valid.{FollowOn, BeginsWell, IsValid}

-- the bytes of batches with such payloads
abbrev pub spent : List ℕ → ℕ
spent lens = sum_by (λ len. batch_len + len) lens

-- what a store made, and its next numbers
abbrev pub made : Store → ℕ
made s = s.folders_made + s.files_made

abbrev pub HasNumbers : Store → Type 0
HasNumbers s = (s.folders_made + 1 < clear_base) × (s.files_made + 1 < clear_base)

-- what was made and the bytes of what follows are within the limit
abbrev pub IsWithin : Stand → List Entry → Type 0
IsWithin at entries = made at.store + spent (payloads_from at entries) ≤ most_store_bytes

-- no command makes more than one folder or file
written_made : (s : Store) (o : Option Node) (path bytes : List ℕ) → made (with_bytes_at s o path bytes) ≤ made s + 1
unfolding with_bytes_at with_new_file with_file
written_made s None path bytes = omega arith
written_made s (Some (Folder f)) path bytes = omega arith
written_made s (Some (File x)) path bytes = omega arith

removed_made : (s : Store) (o : Option Node) → made (without_node s o) ≤ made s + 1
unfolding without_node without_folder without_file
removed_made s None = omega arith
removed_made s (Some (Folder f)) = omega arith
removed_made s (Some (File x)) = omega arith

renamed_made : (s : Store) (o : Option Node) (name : List ℕ) → made (with_name s o name) ≤ made s + 1
unfolding with_name with_folder with_file
renamed_made s None name = omega arith
renamed_made s (Some (Folder f)) name = omega arith
renamed_made s (Some (File x)) name = omega arith

moved_made : (s : Store) (o : Option Node) (q : ℕ) → made (moved s o q) ≤ made s + 1
unfolding moved with_folder with_file
moved_made s None q = omega arith
moved_made s (Some (Folder f)) q = omega arith
moved_made s (Some (File x)) q = omega arith

pub effect_made : (s : Store) (r : Request) (key : List ℕ) → made (effect s r key) ≤ made s + 1
unfolding effect with_new_holder with_new_folder without_grant
effect_made s AddHolder key = omega arith
effect_made s (MakeFolder path) key = omega arith
effect_made s (WriteFile path bytes) key = written_made s (node_at s path) path bytes
effect_made s (Remove path) key = removed_made s (node_at s path)
effect_made s (Rename path name) key = renamed_made s (node_at s path) name
effect_made s (Relocate path into) key = moved_made s (node_at s path) (id_of (node_at s into))
effect_made s (Grant holder path) key = omega arith
effect_made s (Revoke holder path) key = omega arith

pub numbers_below : (at : Stand) (entry : Entry) (entries : List Entry) → IsWithin at (entry ∷ entries) → HasNumbers at.store
unfolding payloads_from
numbers_below at entry entries low =
    let rest = payloads_from (stand_then at entry) entries in
    let sum : spent (entry_payload at entry ∷ rest) ≡ (batch_len + entry_payload at entry) + spent rest = sum_by-cons (λ len. batch_len + len) (entry_payload at entry) rest in
    let all : made at.store + spent (entry_payload at entry ∷ rest) ≤ most_store_bytes = low in
    (omega (arith, all, sum), omega (arith, all, sum))

pub within_session : (at : Stand) (entries : List Entry) → IsWithin at (Session ∷ entries) → IsWithin (stand_then at Session) entries
unfolding payloads_from stand_then entry_store
within_session at entries low =
    let rest = payloads_from (stand_then at Session) entries in
    let sum : spent (entry_payload at Session ∷ rest) ≡ (batch_len + entry_payload at Session) + spent rest = sum_by-cons (λ len. batch_len + len) (entry_payload at Session) rest in
    let all : made at.store + spent (entry_payload at Session ∷ rest) ≤ most_store_bytes = low in
    omega (arith, all, sum)

pub within_did : (at : Stand) (request : Request) (keys : List (List ℕ)) (entries : List Entry) → IsWithin at (Did request keys ∷ entries) → IsWithin (stand_then at (Did request keys)) entries
unfolding payloads_from stand_then entry_store
within_did at request keys entries low =
    let rest = payloads_from (stand_then at (Did request keys)) entries in
    let sum : spent (entry_payload at (Did request keys) ∷ rest) ≡ (batch_len + entry_payload at (Did request keys)) + spent rest = sum_by-cons (λ len. batch_len + len) (entry_payload at (Did request keys)) rest in
    let all : made at.store + spent (entry_payload at (Did request keys) ∷ rest) ≤ most_store_bytes = low in
    let more = effect_made at.store request (first_key keys) in omega (arith, all, sum, more)

pub within_upgraded : (at : Stand) (keys : List (List ℕ)) (entries : List Entry) → IsWithin at (Upgraded keys ∷ entries) → IsWithin (stand_then at (Upgraded keys)) entries
unfolding payloads_from stand_then entry_store
within_upgraded at keys entries low =
    let rest = payloads_from (stand_then at (Upgraded keys)) entries in
    let sum : spent (entry_payload at (Upgraded keys) ∷ rest) ≡ (batch_len + entry_payload at (Upgraded keys)) + spent rest = sum_by-cons (λ len. batch_len + len) (entry_payload at (Upgraded keys)) rest in
    let all : made at.store + spent (entry_payload at (Upgraded keys) ∷ rest) ≤ most_store_bytes = low in
    omega (arith, all, sum)

-- the first two entries, which make the root
pub within_made : (version : ℕ) (keys : List (List ℕ)) (entries : List Entry) → end_of (Session ∷ Made version keys ∷ entries) ≤ most_store_bytes
    → IsWithin (stand_then (stand_then nothing Session) (Made version keys)) entries
unfolding end_of payloads_from stand_then entry_store root_store no_store
within_made version keys entries low =
    let begun = stand_then nothing Session in
    let rest = payloads_from (stand_then begun (Made version keys)) entries in
    let paid = entry_payload begun (Made version keys) in
    let first = entry_payload nothing Session in
    let one : spent (first ∷ paid ∷ rest) ≡ (batch_len + first) + spent (paid ∷ rest) = sum_by-cons (λ len. batch_len + len) first (paid ∷ rest) in
    let two : spent (paid ∷ rest) ≡ (batch_len + paid) + spent rest = sum_by-cons (λ len. batch_len + len) paid rest in
    let all : header_len + spent (first ∷ paid ∷ rest) ≤ most_store_bytes = low in
    omega (arith, all, one, two)

after_within : (entries : List Entry) (at : Stand) → IsWithin at entries → FollowOn at entries → made (stand_after at entries).store ≤ most_store_bytes
unfolding stand_after
after_within [] at low f = omega (arith, low)
after_within (Session ∷ entries) at low f = after_within entries (stand_then at Session) (within_session at entries low) f.1
after_within (Made version keys ∷ entries) at low f = absurd f.0
after_within (Did request keys ∷ entries) at low f = after_within entries (stand_then at (Did request keys)) (within_did at request keys entries low) f.1
after_within (Upgraded keys ∷ entries) at low f = after_within entries (stand_then at (Upgraded keys)) (within_upgraded at keys entries low) f.1

begun_within : (m : Journal) → BeginsWell m → end_of m ≤ most_store_bytes → made (stand_after nothing m).store ≤ most_store_bytes
unfolding stand_after
begun_within [] b low = absurd b
begun_within (Session ∷ []) b low = absurd b
begun_within (Session ∷ Session ∷ es) b low = absurd b
begun_within (Session ∷ Made version keys ∷ es) b low = after_within es (stand_then (stand_then nothing Session) (Made version keys)) (within_made version keys es low) b.1
begun_within (Session ∷ Did request keys ∷ es) b low = absurd b
begun_within (Session ∷ Upgraded keys ∷ es) b low = absurd b
begun_within (Made version keys ∷ es) b low = absurd b
begun_within (Did request keys ∷ es) b low = absurd b
begun_within (Upgraded keys ∷ es) b low = absurd b

pub journal_made : (m : Journal) → IsValid m → made (store_of m) ≤ most_store_bytes
unfolding store_of
journal_made m v = begun_within m v.0 v.1

pub journal_numbers : (m : Journal) → IsValid m → HasNumbers (store_of m)
journal_numbers m v = let low = journal_made m v in (omega (arith, low), omega (arith, low))
