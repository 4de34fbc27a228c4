-- How a test of a proof ends: where its input hands in none, and where it hands in one.
use Rattle.std.proofs.Common.{◌≡◌, ℕ, List, ◌++◌, ◌∷◌, [], Option, Ok, Err, inl, inr, refl, sym, ap, subst, ◌∙◌}
use Rattle.std.specs.Prelude.{codes, is_some}
use Rattle.cry_io.proofs.ToldLemmas.{told_again}
use Rattle.cry_io.specs.Told.{WhereTold, WhereBothTold}
use Rattle.cry_base.specs.Listed.{Listed}
use Rattle.head_tree.specs.Checking.{IsAccepted}
use Rattle.head_tree.specs.Heads.{ShowsPrefix}
use Rattle.head_tree.specs.declared.head.Head.{Head}
use Rattle.cli_base.specs.Answering.{AnswersAs}
use Rattle.cli_base.specs.Input.{input_status}
use Rattle.cli_base.specs.declared.input.InputFault.{InputFault}
use Rattle.cli_base.specs.declared.input.InputFault.TheVariants.{BadLine, Failed, OutOfMemory}
use Rattle.cli_base.specs.declared.status.Status.{Status}
use Rattle.cli_base.specs.declared.status.Status.TheVariants as statuses
use Rattle.cli_heads.proofs.Telling.{Tells}
use Rattle.cli_heads.specs.Checking.{CheckGives, TakesProof}
use Rattle.cli_heads.specs.ProofLines.{ReadsProof}

-- what an input's fault answers, and what was taken
answered_first : (fault : InputFault) (old new : Head) (typed left : List ℕ) (before after : Option (List ℕ))
    → ReadsProof (Err fault) typed left → AnswersAs (input_status fault) (CheckGives old new typed) before after
answered_first (BadLine line) old new typed left before after reads = reads.0
answered_first Failed old new typed left before after reads = tt
answered_first OutOfMemory old new typed left before after reads = tt

taken_first : (fault : InputFault) (typed left : List ℕ) → ReadsProof (Err fault) typed left → TakesProof (input_status fault) typed left
taken_first (BadLine line) typed left reads = reads.1
taken_first Failed typed left reads = reads
taken_first OutOfMemory typed left reads = tt

pub no_proof_answers : (fault : InputFault) (status : Status) (old new : Head) (input input_after before after : Option (List ℕ))
    → status ≡ input_status fault → is_some input_after ≡ is_some input → WhereBothTold input input_after (ReadsProof (Err fault))
    → WhereTold input (λ typed. AnswersAs status (CheckGives old new typed) before after)
no_proof_answers fault status old new input input_after before after is told reads = λ typed was.
    let again = told_again input input_after typed told was in
    subst (λ s. AnswersAs s (CheckGives old new typed) before after) (sym is)
    (answered_first fault old new typed again.0 before after (reads typed again.0 was again.1))

pub no_proof_takes : (fault : InputFault) (status : Status) (input input_after : Option (List ℕ))
    → status ≡ input_status fault → WhereBothTold input input_after (ReadsProof (Err fault))
    → WhereBothTold input input_after (TakesProof status)
no_proof_takes fault status input input_after is reads = λ typed left was now.
    subst (λ s. TakesProof s typed left) (sym is) (taken_first fault typed left (reads typed left was now))

-- what is printed where a proof is accepted
abbrev pub prefix_line : List ℕ
prefix_line = codes "prefix" ++ 10 ∷ []

pub accepted_answers : (proof : Listed (List ℕ)) (slice : List (List ℕ)) (status : Status) (old new : Head)
    (input input_after before after : Option (List ℕ))
    → slice ≡ proof.items → is_some input_after ≡ is_some input → WhereBothTold input input_after (ReadsProof (Ok proof))
    → IsAccepted old new slice → ShowsPrefix old new slice → Tells status before after prefix_line
    → WhereTold input (λ typed. AnswersAs status (CheckGives old new typed) before after)
accepted_answers proof slice status old new input input_after before after is told reads accepted shows tells = λ typed was.
    let again = told_again input input_after typed told was in
    let gives : CheckGives old new typed (Ok prefix_line) =
    (slice, (reads typed again.0 was again.1).0 ∙ ap (λ l. Ok l) (sym is), accepted, shows, refl)
    in
    elim tells [
      | inl done ↦ subst (λ s. AnswersAs s (CheckGives old new typed) before after) (sym done.0) (prefix_line, gives, done.1)
      | inr cut ↦ subst (λ s. AnswersAs s (CheckGives old new typed) before after) (sym cut.0) (prefix_line, gives, cut.1)
    ]

pub accepted_takes : (proof : Listed (List ℕ)) (status : Status) (input input_after before after : Option (List ℕ)) (text : List ℕ)
    → WhereBothTold input input_after (ReadsProof (Ok proof)) → Tells status before after text
    → WhereBothTold input input_after (TakesProof status)
accepted_takes proof status input input_after before after text reads tells = λ typed left was now.
    elim tells [
      | inl done ↦ subst (λ s. TakesProof s typed left) (sym done.0) (reads typed left was now).1
      | inr cut ↦ subst (λ s. TakesProof s typed left) (sym cut.0) (reads typed left was now).1
    ]

pub refused_answers : (proof : Listed (List ℕ)) (slice : List (List ℕ)) (old new : Head) (input input_after before after : Option (List ℕ))
    → slice ≡ proof.items → is_some input_after ≡ is_some input → WhereBothTold input input_after (ReadsProof (Ok proof))
    → (IsAccepted old new slice → ⊥)
    → WhereTold input (λ typed. AnswersAs statuses.BadProof (CheckGives old new typed) before after)
refused_answers proof slice old new input input_after before after is told reads refused = λ typed was.
    let again = told_again input input_after typed told was in
    (slice, (reads typed again.0 was again.1).0 ∙ ap (λ l. Ok l) (sym is), refused)
