-- What is answered to whoever hands in a proof between two heads. This project's own, docs/PROGRAM.md, "The program".
use Rattle.std.specs.Prelude.{◌≡◌, ℕ, List, [], ◌∷◌, ◌++◌, Result, Ok, Err, codes}
use Rattle.head_tree.specs.Checking.{IsAccepted}
use Rattle.head_tree.specs.Heads.{ShowsPrefix}
use Rattle.head_tree.specs.declared.head.Head.{Head}
use Rattle.cli_base.specs.Input.{TakesLines}
use Rattle.cli_base.specs.declared.status.Status.{Status}
use Rattle.cli_base.specs.declared.status.Status.TheVariants as statuses
use Rattle.cli_heads.specs.ProofLines.{IsUnjudgedProof, proof_typed}

-- what may be answered to this input: where its lines hand in a proof, that is accepted and shows a prefix, or it isn't accepted; else
-- the first bad line is told
abbrev pub CheckGives : Head → Head → List ℕ → Result (List ℕ) Status → Type 0
CheckGives old new typed (Ok text) =
    (proof : List (List ℕ)) × (proof_typed typed ≡ Ok proof) × IsAccepted old new proof × ShowsPrefix old new proof
    × (text ≡ codes "prefix" ++ 10 ∷ [])
CheckGives old new typed (Err statuses.BadProof) =
    (proof : List (List ℕ)) × (proof_typed typed ≡ Ok proof) × (IsAccepted old new proof → ⊥)
CheckGives old new typed (Err (statuses.BadScript line)) = proof_typed typed ≡ Err line
CheckGives old new typed (Err statuses.Done) = ⊥
CheckGives old new typed (Err statuses.Usage) = ⊥
CheckGives old new typed (Err statuses.ReadFault) = ⊥
CheckGives old new typed (Err statuses.WriteFault) = ⊥
CheckGives old new typed (Err statuses.DiskFault) = ⊥
CheckGives old new typed (Err statuses.RandomFault) = ⊥
CheckGives old new typed (Err (statuses.RandomShort left need)) = ⊥
CheckGives old new typed (Err statuses.NotAStore) = ⊥
CheckGives old new typed (Err (statuses.Damaged at)) = ⊥
CheckGives old new typed (Err statuses.WrongKey) = ⊥
CheckGives old new typed (Err (statuses.Tampered batch at)) = ⊥
CheckGives old new typed (Err statuses.OutOfMemory) = ⊥
CheckGives old new typed (Err statuses.NotBlank) = ⊥
CheckGives old new typed (Err (statuses.NoHolder known)) = ⊥
CheckGives old new typed (Err statuses.Unseen) = ⊥
CheckGives old new typed (Err statuses.NeedsUpgrade) = ⊥
CheckGives old new typed (Err statuses.AlreadyNew) = ⊥
CheckGives old new typed (Err (statuses.Behind have want)) = ⊥
CheckGives old new typed (Err (statuses.Forked batches)) = ⊥

-- what was taken of the input: all of it where a proof was judged; little behind a bad line; and no bad line before the source failed
abbrev pub TakesProof : Status → List ℕ → List ℕ → Type 0
TakesProof statuses.Done typed left = left ≡ []
TakesProof statuses.WriteFault typed left = left ≡ []
TakesProof statuses.BadProof typed left = left ≡ []
TakesProof (statuses.BadScript line) typed left = TakesLines line typed left
TakesProof statuses.ReadFault typed left = (given : List ℕ) × (typed ≡ given ++ left) × IsUnjudgedProof given
TakesProof statuses.OutOfMemory typed left = Unit {0}
TakesProof statuses.Usage typed left = ⊥
TakesProof statuses.DiskFault typed left = ⊥
TakesProof statuses.RandomFault typed left = ⊥
TakesProof (statuses.RandomShort short need) typed left = ⊥
TakesProof statuses.NotAStore typed left = ⊥
TakesProof (statuses.Damaged at) typed left = ⊥
TakesProof statuses.WrongKey typed left = ⊥
TakesProof (statuses.Tampered batch at) typed left = ⊥
TakesProof statuses.NotBlank typed left = ⊥
TakesProof (statuses.NoHolder known) typed left = ⊥
TakesProof statuses.Unseen typed left = ⊥
TakesProof statuses.NeedsUpgrade typed left = ⊥
TakesProof statuses.AlreadyNew typed left = ⊥
TakesProof (statuses.Behind have want) typed left = ⊥
TakesProof (statuses.Forked batches) typed left = ⊥
