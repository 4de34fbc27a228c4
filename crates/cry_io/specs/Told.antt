-- Contents that are told only by what can know them. Where they aren't told nothing is claimed.
use Rattle.std.specs.Prelude.{◌≡◌, Option, Some}

-- P holds of the content, where it is told
abbrev pub WhereTold : {X : Type 0} → Option X → (X → Type 0) → Type 0
WhereTold {X} told P = (x : X) → told ≡ Some x → P x

-- P holds of the contents before and after, where both are told
abbrev pub WhereBothTold : {X : Type 0} → Option X → Option X → (X → X → Type 0) → Type 0
WhereBothTold {X} old new P = (x y : X) → old ≡ Some x → new ≡ Some y → P x y
