-- What is told through several calls in a row.
use Rattle.std.proofs.Common.{◌≡◌, true, false, Option, Some, None, refl, ap, ◌∙◌}
use Rattle.std.specs.Prelude.{is_some}
use Rattle.cry_io.specs.Told.{WhereBothTold}

-- what is told again is something
pub told_again : {X : Type 0} (old new : Option X) (x : X) → is_some new ≡ is_some old → old ≡ Some x → (y : X) × (new ≡ Some y)
told_again old (Some y) x told is = (y, refl)
told_again old None x told is = let contradiction : false ≡ true = told ∙ ap is_some is in cc

-- a call goes on from what earlier calls did, where what is told stays told
pub both_told_through : {X : Type 0} (first middle last : Option X) (R S T : X → X → Type 0) →
    is_some middle ≡ is_some first → WhereBothTold first middle R → WhereBothTold middle last S →
    ((x y z : X) → R x y → S y z → T x z) → WhereBothTold first last T
both_told_through first middle last R S T told before after join x z is_first is_last =
    let again = told_again first middle x told is_first in
    join x again.0 z (before x again.0 is_first again.1) (after again.0 z again.1 is_last)
