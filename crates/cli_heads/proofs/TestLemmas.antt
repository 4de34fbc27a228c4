-- What a head that is held tells of the log.
use Rattle.std.proofs.Common.{◌≡◌, ◌⊎◌, ℕ, ◌+◌, ◌<◌, List, ◌++◌, length, map, take, drop, Result, Ok, Err, arith, inl, inr, ⊎_elim, refl, sym, ap, ◌∙◌}
use Rattle.std.proofs.lemmas.List.{length-map, take-append-drop}
use Rattle.commit_journal.specs.Answering.{Fault, and_then}
use Rattle.head_tree.proofs.Prefixes.{first_head, same_logs}
use Rattle.head_tree.specs.Hashing.{leaf_hash, texts_of, tree_hash}
use Rattle.head_tree.specs.Heads.{Collision, IsHeadOf, IsPrefix}
use Rattle.head_tree.specs.declared.head.Head.{Head}
use Rattle.log_heads.specs.Published.{hashes_in, leaves_in}
use Rattle.cli_heads.specs.Testing.{BeginsSo, IsHeld}

held_begins : (head : Head) (read : Result (List (List ℕ)) Fault) → IsHeld head (and_then read (λ log. Ok (map leaf_hash log)))
    → (leaves : List (List ℕ)) → IsHeadOf head leaves → (log : List (List ℕ)) × (read ≡ Ok log)
    × (IsPrefix leaves log ⊎ Collision (texts_of leaves ++ texts_of (take (head.batches + 1) log)))
unfolding and_then
held_begins head (Err fault) held leaves of = absurd held
held_begins head (Ok log) held leaves of =
    let n = head.batches in
    let size : length (map leaf_hash log) ≡ length log = length-map log leaf_hash in
    let within : n < length log = omega (arith, held.0) in
    let own : IsHeadOf head (take (n + 1) log) = first_head head n log within held.1 in
    let some : 0 < length leaves = omega (arith, of.count) in
    let sizes : length leaves ≡ length (take (n + 1) log) = of.count ∙ sym own.count in
    let roots : tree_hash (map leaf_hash leaves) ≡ tree_hash (map leaf_hash (take (n + 1) log)) = sym of.root ∙ own.root in (
      log,
      refl,
      ⊎_elim
          (λ same. inl (drop (n + 1) log, sym (ap (λ (front : List (List ℕ)). front ++ drop (n + 1) log) same ∙ take-append-drop (n + 1) log)))
          (λ found. inr found)
          (same_logs leaves (take (n + 1) log) some sizes roots),
    )

pub held_head_begins : (head : Head) (image : List ℕ) → IsHeld head (hashes_in image) → BeginsSo head image
unfolding hashes_in
held_head_begins head image held = held_begins head (leaves_in image) held
