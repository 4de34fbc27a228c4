use Rattle.std.proofs.Common.{◌≡◌, ℕ, ◌+◌, ◌≤◌, List, [], length, Some, option_map, true, rules, arith}
use Rattle.std.proofs.lemmas.List.Elements.{All-from_get_or}
use Rattle.std.proofs.lemmas.Grind.{common_steps}
use Rattle.head_tree.specs.Hashing.{AreHashes}
use Rattle.head_tree.specs.Checking.{shown, proof_check}
use Rattle.head_tree.proofs.Accepting.{accepted_from}
use Rattle.head_tree.proofs.Prefixes.{shows_prefix}
use Rattle.head_tree.proofs.checking.check_proof.Goals as goal

pub returns-then-eq-2-clause-prefix : goal.returns-then-eq-2-clause-prefix
returns-then-eq-2-clause-prefix c =
    let led : option_map shown (proof_check c.args.old.now.root (c.args.old.now.batches + 1) (c.args.new.now.batches + 1) c.args.proof.now true)
    ≡ Some (c.in_ok-older.older, c.in_ok-older.newer) = grind (arith, common_steps) in
    let order : c.args.old.now.batches ≤ c.args.new.now.batches = omega arith in
    let to_old : c.in_ok-older.older ≡ c.args.old.now.root = search rules in
    let to_new : c.in_ok-older.newer ≡ c.args.new.now.root = search rules in
    let parts : AreHashes c.args.proof.now = All-from_get_or (λ (h : List ℕ). length h ≡ 32) c.args.proof.now [] c.told-proof in
    shows_prefix c.args.old.now c.args.new.now c.args.proof.now parts
    (accepted_from c.args.old.now c.args.new.now c.args.proof.now c.in_ok-older.older c.in_ok-older.newer order led to_old to_new)
