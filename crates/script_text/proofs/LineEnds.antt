-- Bytes that end a line, and what is left of them.
use Rattle.std.proofs.Common.{Bool, true, false, ℕ, List, [], ◌∷◌, ◌++◌, ◌≡◌, length, arith, refl, subst, sym}
use Rattle.std.proofs.lemmas.List.{append-nil}
use Rattle.script_text.specs.Cutting.{EndsLine, with_newline}

pub newline_ends : (front : List ℕ) → EndsLine (front ++ 10 ∷ [])
newline_ends [] = refl
newline_ends (byte ∷ []) = refl
newline_ends (byte ∷ next ∷ front) = newline_ends (next ∷ front)

pub lines_end : (has : Bool) (lines : List ℕ) → EndsLine (with_newline has lines ++ [])
lines_end true lines = subst EndsLine (sym (append-nil (lines ++ 10 ∷ []))) (newline_ends lines)
lines_end false lines = tt

pub no_bytes : (bytes : List ℕ) → length bytes ≡ 0 → bytes ≡ []
no_bytes [] none = refl
no_bytes (byte ∷ bytes) none = absurd (omega (arith, none))
