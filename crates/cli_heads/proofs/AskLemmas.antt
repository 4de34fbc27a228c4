-- How a command ends that asks for a log's head, where it is told.
use Rattle.std.proofs.Common.{◌≡◌, ℕ, ◌+◌, ◌-◌, ◌<◌, ◌≤◌, true, false, nat_lt, if◌then◌else◌, List, length, Option, Ok, Err, arith, inl, inr, sym, ap, subst, ◌∙◌}
use Rattle.std.proofs.lemmas.Bool.{le-ltb, lt-ltb}
use Rattle.std.specs.List.{flat_map}
use Rattle.cli_base.specs.Answering.{AnswersAs, IsExactly}
use Rattle.cli_base.specs.declared.status.Status.{Status}
use Rattle.cli_base.specs.declared.status.Status.TheVariants as statuses
use Rattle.cli_heads.proofs.Telling.{Tells}
use Rattle.cli_heads.specs.Asked.{Asked}
use Rattle.cli_heads.specs.Asked.Asked.{TheHead, TheProof}
use Rattle.cli_heads.specs.Asking.{answer_of, head_text, proof_text, told_if, told_of}
use Rattle.head_tree.specs.Hashing.{tree_hash}
use Rattle.head_tree.specs.Proving.{tree_proof}
use Rattle.log_heads.specs.Published.{hashes_in}
use Rattle.log_heads.specs.Reading.{AreHeads, ReadsHeads}
use Rattle.log_heads.specs.declared.reading.Heads.{Heads}
use Rattle.script_text.specs.Printing.{head_line, node_line}

pub told_answers : (asked : Asked) (hashes : List (List ℕ)) (text slice image : List ℕ) (status : Status) (before after : Option (List ℕ))
    → hashes_in image ≡ Ok hashes → told_of asked hashes ≡ Ok text → slice ≡ text → Tells status before after slice
    → AnswersAs status (IsExactly (answer_of asked image)) before after
told_answers asked hashes text slice image status before after read told same tells =
    let answer : answer_of asked image ≡ Ok slice = ap (told_if asked) read ∙ told ∙ ap (λ t. Ok t) (sym same) in
    elim tells [
      | inl done ↦ subst (λ s. AnswersAs s (IsExactly (answer_of asked image)) before after) (sym done.0) (slice, answer, done.1)
      | inr cut ↦ subst (λ s. AnswersAs s (IsExactly (answer_of asked image)) before after) (sym cut.0) (slice, answer, cut.1)
    ]

head_told : (heads : Heads) (first : ℕ) (hashes : List (List ℕ)) (text : List ℕ) → AreHeads heads first hashes
    → text ≡ head_line heads.all.batches heads.all.root → told_of TheHead hashes ≡ Ok text
unfolding head_text
head_told heads first hashes text are printed =
    let batches : length hashes - 1 ≡ heads.all.batches = omega (arith, are.count) in
    ap (λ n. Ok (head_line n (tree_hash hashes))) batches ∙ ap (λ root. Ok (head_line heads.all.batches root)) (sym are.root)
    ∙ ap (λ t. Ok t) (sym printed)

pub head_answers : (heads : Heads) (first : ℕ) (text slice image : List ℕ) (status : Status) (before after : Option (List ℕ))
    → ReadsHeads first (Ok heads) (hashes_in image) → text ≡ head_line heads.all.batches heads.all.root → slice ≡ text
    → Tells status before after slice → AnswersAs status (IsExactly (answer_of TheHead image)) before after
head_answers heads first text slice image status before after read printed same tells =
    told_answers TheHead read.0 text slice image status before after read.1 (head_told heads first read.0 text read.2 printed) same tells

-- the proof that was read is told, or that fewer batches are published
pub proof_told : (batches : ℕ) (hashes proof : List (List ℕ)) (text : List ℕ) → batches < length hashes → proof ≡ tree_proof (batches + 1) hashes
    → text ≡ flat_map node_line proof → told_of (TheProof batches) hashes ≡ Ok text
unfolding proof_text
proof_told batches hashes proof text more is printed =
    let there : nat_lt batches (length hashes) ≡ true = lt-ltb batches (length hashes) more in
    ap (λ b. (if b then Ok (flat_map node_line (tree_proof (batches + 1) hashes)) else Err (statuses.Behind (length hashes - 1) batches))) there
    ∙ ap (λ p. Ok (flat_map node_line p)) (sym is) ∙ ap (λ t. Ok t) (sym printed)

pub behind_told : (have batches : ℕ) (hashes : List (List ℕ)) → length hashes ≡ have + 1 → length hashes ≤ batches
    → told_of (TheProof batches) hashes ≡ Err (statuses.Behind have batches)
behind_told have batches hashes count few =
    let fewer : nat_lt batches (length hashes) ≡ false = le-ltb batches (length hashes) few in
    let last : length hashes - 1 ≡ have = omega arith in
    ap (λ b. (if b then Ok (proof_text batches hashes) else Err (statuses.Behind (length hashes - 1) batches))) fewer
    ∙ ap (λ n. Err (statuses.Behind n batches)) last
