-- Commands of which the plain store refuses none, and where they lead. This project's own.
use Rattle.std.specs.Prelude.{◌≡◌, ℕ, List, [], ◌∷◌, None}
use Rattle.cry_base.specs.Refusing.{refusal_of}
use Rattle.cry_base.specs.Requests.{Request}
use Rattle.cry_base.specs.Stepping.{effect}
use Rattle.cry_base.specs.Store.{Store}

-- each of them is accepted after those before it, whatever keys are drawn
abbrev pub AcceptsAll : ℕ → Store → List Request → Type 0
AcceptsAll file_bytes s [] = Unit {0}
AcceptsAll file_bytes s (r ∷ rs) = (refusal_of s r file_bytes ≡ None) × ((key : List ℕ) → AcceptsAll file_bytes (effect s r key) rs)

-- the store after them, under some keys
abbrev pub LeadsTo : Store → List Request → Store → Type 0
LeadsTo s [] t = t ≡ s
LeadsTo s (r ∷ rs) t = (key : List ℕ) × LeadsTo (effect s r key) rs t
