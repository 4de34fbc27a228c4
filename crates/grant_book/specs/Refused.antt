-- Why a grant may not be given or taken back. This project's own, docs/FORMAT.md: the causes are tested in this order.
use Rattle.std.specs.Prelude.{ℕ, Bool, not, ◌&&◌, nat_le, List, [], ◌∷◌, find, length, Option, None, Some, option_map, Result, Ok, Err}
use Rattle.std.specs.List.{list_any}
use Rattle.cry_base.specs.Store.{GrantEntry}
use Rattle.cry_base.specs.declared.commands.Refusal.{Refusal}
use Rattle.cry_base.specs.declared.commands.Refusal.TheVariants.{NoHolder, HasGrant, NoGrant}
use Rattle.grant_book.specs.Granted.{is_grant}

-- whether a holder with the number was made
abbrev pub is_holder : List (List ℕ) → ℕ → Bool
is_holder checks h = nat_le 1 h && nat_le h (length checks)

-- the first cause that applies, of causes with whether each applies
abbrev pub first_cause : List (Bool × Refusal) → Option Refusal
first_cause causes = option_map (λ cause. cause.1) (find (λ cause. cause.0) causes)

-- nobody has the number; the grant that is to be given stands; the one that is to be taken back doesn't
abbrev pub refusal_of_grant : List (List ℕ) → List GrantEntry → Bool → ℕ → ℕ → Option Refusal
refusal_of_grant checks pairs give h f =
    first_cause ((not (is_holder checks h), NoHolder)
    ∷ (give && list_any (is_grant h f) pairs, HasGrant)
    ∷ (not give && not (list_any (is_grant h f) pairs), NoGrant)
    ∷ [])

-- refused for a cause, where there is one
abbrev pub refused_by : Option Refusal → Result (Unit {0}) Refusal
refused_by None = Ok tt
refused_by (Some why) = Err why
