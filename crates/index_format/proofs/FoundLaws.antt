-- What a reader of a field answers, from the laws of the field.
use Rattle.std.proofs.Common.{◌≡◌, ℕ, List, ◌++◌, Result, Ok, Err, ap, subst, ◌∙◌}
use Rattle.std.specs.Prelude.{IfOk}
use Rattle.index_format.specs.Reading.{Finds}
use Rattle.record_format.specs.Fields.{Read}
use Rattle.record_format.specs.Reading.{Gives}
use Rattle.record_format.specs.declared.fault.Stop.{Stop}
use Rattle.record_format.proofs.FieldLaws.{IsBytes, IsField}

pub found_is_spelled : {X A : Type 0} {read : List ℕ → Read A} {spell : A → List ℕ} {Fits : A → Type 0} → IsField read spell Fits → (view : X → A × List ℕ) (bytes : List ℕ) (result : Result X Stop) → IsBytes bytes → Gives view result (read bytes)
    → IfOk result (λ x. Fits (view x).0 × (bytes ≡ spell (view x).0 ++ (view x).1))
found_is_spelled field view bytes (Ok x) are gives =
    let took = field.takes bytes (view x) are gives in
    (took.1, took.0)
found_is_spelled field view bytes (Err stop) are gives = tt

pub spelled_is_found : {X A : Type 0} {read : List ℕ → Read A} {spell : A → List ℕ} {Fits : A → Type 0} → IsField read spell Fits → (view : X → A × List ℕ) (bytes : List ℕ) (result : Result X Stop) → Gives view result (read bytes)
    → Finds view spell Fits result bytes
spelled_is_found {read} field view bytes result gives = λ value rest fits e. subst (Gives view result) (ap read e ∙ field.again value rest fits) gives
