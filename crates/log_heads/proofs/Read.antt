-- The hashes of a log's leaves, one batch after another.
use Rattle.std.proofs.Common.{◌≡◌, ℕ, List, [], ◌∷◌, ◌++◌, map, Ok, refl, ap, sym, ◌∙◌}
use Rattle.std.proofs.lemmas.List.{map_push}
use Rattle.commit_journal.specs.declared.fault.OpenFault.{OpenFault}
use Rattle.commit_journal.specs.Answering.{IsFault, and_then}
use Rattle.commit_journal.specs.Leaves.{front_of, leaf_of, leaves_of}
use Rattle.commit_journal.specs.Logs.{holder_log}
use Rattle.commit_journal.specs.Placed.{PlainPlaced}
use Rattle.commit_journal.proofs.Judged.{fault_first}
use Rattle.head_tree.specs.Hashing.{leaf_hash}
use Rattle.log_heads.specs.Published.{hashes_in, leaves_in}

-- before the first batch
pub front_hashed : (s front hash : List ℕ) → front ≡ front_of s → hash ≡ leaf_hash front → hash ∷ [] ≡ map leaf_hash (leaves_of s [])
unfolding leaves_of
front_hashed s front hash is hashed = ap (λ h. h ∷ []) (hashed ∙ ap leaf_hash is)

-- one batch more
pub leaf_hashed : (s leaf hash : List ℕ) (hashes : List (List ℕ)) (given : List PlainPlaced) (p : PlainPlaced) → hashes ≡ map leaf_hash (leaves_of s given) →
    leaf ≡ leaf_of s p → hash ≡ leaf_hash leaf → hashes ++ hash ∷ [] ≡ map leaf_hash (leaves_of s (given ++ p ∷ []))
unfolding leaves_of
leaf_hashed s leaf hash hashes given p so_far is hashed =
    let more : map (leaf_of s) (given ++ p ∷ []) ≡ map (leaf_of s) given ++ leaf_of s p ∷ [] = map_push (leaf_of s) given p in
    ap (λ hs. hs ++ hash ∷ []) so_far
    ∙ ap (λ h. map leaf_hash (front_of s ∷ map (leaf_of s) given) ++ h ∷ []) (hashed ∙ ap leaf_hash is)
    ∙ sym (map_push leaf_hash (front_of s ∷ map (leaf_of s) given) (leaf_of s p))
    ∙ ap (λ ls. map leaf_hash (front_of s ∷ ls)) (sym more)

-- the log has ended, or a test failed
pub hashes_known : (s : List ℕ) (log : List PlainPlaced) → holder_log s ≡ Ok log → Ok (map leaf_hash (leaves_of s log)) ≡ hashes_in s
unfolding hashes_in leaves_in and_then
hashes_known s log is = rw is refl

pub hashes_fail : (fault : OpenFault) (s : List ℕ) → IsFault fault (holder_log s) → IsFault fault (hashes_in s)
unfolding hashes_in leaves_in
hashes_fail fault s is =
    fault_first fault (leaves_in s) (λ leaves. Ok (map leaf_hash leaves)) (fault_first fault (holder_log s) (λ log. Ok (leaves_of s log)) is)
