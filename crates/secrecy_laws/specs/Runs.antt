-- Steps, one after another.
use Rattle.std.specs.Prelude.{◌≡◌, ℕ, Bool, true, List, [], ◌∷◌, ◌⊎◌, Some}
use Rattle.cry_base.specs.Sets.{In, Path}
use Rattle.secrecy_laws.specs.States.{State, Move, IsStep, Fits}
use Rattle.secrecy_laws.specs.Holding.{Opens, Brings, OpensAnew}

-- a move and the state after it
pub record Turn (R : Type 0) : Type 0 where
  pub move : Move R
  pub after : State R

-- the state after some turns
unfoldable pub state_after : {R : Type 0} → State R → List (Turn R) → State R
state_after s [] = s
state_after s (turn ∷ turns) = state_after turn.after turns

-- each turn is a step that keeps to what a step has to
abbrev pub AreSteps : {R : Type 0} → (R → Bool) → State R → List (Turn R) → Type 0
AreSteps root s [] = Unit {0}
AreSteps root s (turn ∷ turns) = IsStep s turn.move turn.after × Fits root s turn.move turn.after × AreSteps root turn.after turns

-- at some turn a role that had a key comes into reach of h, and by the links of that time its present key leads to k, which h didn't
-- open before
abbrev pub IsOpened : {R : Type 0} → R → ℕ → State R → List (Turn R) → Type 0
IsOpened h k s [] = ⊥
IsOpened h k s (turn ∷ turns) = OpensAnew s turn.after h k ⊎ IsOpened h k turn.after turns

-- what is sealed under the present key of a clean role out of the reach of a root, the root opens after later turns only where one of
-- them brings a role into its reach whose present key leads to it by then
abbrev pub AreOpenedByGain : {R : Type 0} → (R → Bool) → State R → List (Turn R) → Type 0
AreOpenedByGain {R} root s turns = (h r : R) (k : ℕ) → root h ≡ true → s.key r ≡ Some k → (In r s.dirty → ⊥) → (Path s.edges h r → ⊥)
    → Opens (state_after s turns) h k → IsOpened h k s turns

-- no turn brings a role that had a key into reach of h
abbrev pub BringNothing : {R : Type 0} → R → State R → List (Turn R) → Type 0
BringNothing h s [] = Unit {0}
BringNothing {R} h s (turn ∷ turns) = ((r : R) → Brings s turn.after h r → ⊥) × BringNothing h turn.after turns
