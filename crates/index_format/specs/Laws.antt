-- Laws of the spelling: this project's own, docs/FORMAT.md, "The checkpoint".
use Rattle.std.specs.Prelude.{◌≡◌, ℕ, List, [], ◌++◌, length, Ok}
use Rattle.record_format.specs.Fields.{Read}

-- Each value that has a spelling is read from it, and what stands behind is left.
abbrev pub ReadsBack : {A : Type 0} → (List ℕ → Read A) → (A → List ℕ) → (A → Type 0) → Type 0
ReadsBack {A} read spell Fits = (value : A) (rest : List ℕ) → Fits value → read (spell value ++ rest) ≡ Ok (value, rest)

-- No spelling is a proper prefix of another: one that begins with another is the same.
abbrev pub IsPrefixFree : {A : Type 0} → (A → List ℕ) → (A → Type 0) → Type 0
IsPrefixFree {A} spell Fits = (p q : A) (more : List ℕ) → Fits p → Fits q → spell q ≡ spell p ++ more → (q ≡ p) × (more ≡ [])

-- Each spelling has the size that its parts add up to.
abbrev pub HasItsSize : {A : Type 0} → (A → ℕ) → (A → List ℕ) → (A → Type 0) → Type 0
HasItsSize {A} size spell Fits = (value : A) → Fits value → length (spell value) ≡ size value
