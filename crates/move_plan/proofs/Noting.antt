-- A row that is right in every store is that of the note as it was given.
use Rattle.std.proofs.Common.{◌≡◌, ◌∙◌, ℕ, List, ap, sym, subst}
use Rattle.std.specs.Prelude.{Result, IfOk}
use Rattle.std.proofs.lemmas.Result.{IfOk-weaker}
use Rattle.cry_base.specs.Store.{Store}
use Rattle.cry_base.specs.declared.memory.OutOfMemory.{OutOfMemory}
use Rattle.move_plan.specs.Change.{Change, row_change}
use Rattle.move_plan.specs.Seen.{plain_row, seen_store}
use Rattle.move_plan.proofs.Seeing.{row_seen}
use Rattle.grant_book.specs.Granted.{Granted}
use Rattle.role_graph.specs.PublicStore.{public_store}
use Rattle.move_plan.specs.declared.row.Row.{Row}
use Rattle.record_format.specs.Noted.{Note}
use Rattle.record_format.specs.Noted.Note.{NewHolder}

pub in_store : (r : Result Row OutOfMemory) (s : Store) (given note : Note) → given ≡ note
    → IfOk r (λ c. (t : Store) → plain_row c ≡ row_change t note) → IfOk r (λ c. plain_row c ≡ row_change s given)
in_store r s given note same told =
    IfOk-weaker r (λ c. (t : Store) → plain_row c ≡ row_change t note) (λ c. plain_row c ≡ row_change s given)
    (λ c e. subst (λ n. plain_row c ≡ row_change s n) (sym same) (e s)) told

pub holder_of : (r : Result Row OutOfMemory) (h : ℕ) (check : List ℕ) → IfOk r (λ c. (t : Store) (k : List ℕ) → plain_row c ≡ row_change t (NewHolder h k))
    → IfOk r (λ c. (t : Store) → plain_row c ≡ row_change t (NewHolder h check))
holder_of r h check told =
    IfOk-weaker r (λ c. (t : Store) (k : List ℕ) → plain_row c ≡ row_change t (NewHolder h k)) (λ c. (t : Store) → plain_row c ≡ row_change t (NewHolder h check))
    (λ c e t. e t check) told

pub in_store_where : (r : Result Row OutOfMemory) (s : Store) (P : Store → Type 0) (given note : Note) → given ≡ note → P s
    → IfOk r (λ c. (t : Store) → P t → plain_row c ≡ row_change t note) → IfOk r (λ c. plain_row c ≡ row_change s given)
in_store_where r s P given note same holds told =
    IfOk-weaker r (λ c. (t : Store) → P t → plain_row c ≡ row_change t note) (λ c. plain_row c ≡ row_change s given)
    (λ c e. subst (λ n. plain_row c ≡ row_change s n) (sym same) (e s holds)) told

pub in_this_store : (r : Result Row OutOfMemory) (s : Store) (given note : Note) → given ≡ note
    → IfOk r (λ c. plain_row c ≡ row_change s note) → IfOk r (λ c. plain_row c ≡ row_change s given)
in_this_store r s given note same told =
    subst (λ n. IfOk r (λ c. plain_row c ≡ row_change s n)) (sym same) told

-- what was made of the edges that are looked up
pub looked_up : (r : Result Row OutOfMemory) (t : Store) (g : Granted) (u : Store) (given note : Note) → given ≡ note → u ≡ public_store t g.pairs
    → IfOk r (λ c. plain_row c ≡ row_change u note) → IfOk r (λ c. plain_row c ≡ row_change (seen_store t g) given)
looked_up r t g u given note same is_public told =
    in_this_store r (seen_store t g) given note same
    (subst (λ c. IfOk r (λ row. plain_row row ≡ c)) (ap (λ s. row_change s note) is_public ∙ row_seen t g note) told)

-- a row that is right where two things hold
pub in_store_given : (r : Result Row OutOfMemory) (s : Store) (P Q : Store → Type 0) (note : Note) → P s → Q s
    → IfOk r (λ c. (t : Store) → P t → Q t → plain_row c ≡ row_change t note) → IfOk r (λ c. plain_row c ≡ row_change s note)
in_store_given r s P Q note one two told =
    IfOk-weaker r (λ c. (t : Store) → P t → Q t → plain_row c ≡ row_change t note) (λ c. plain_row c ≡ row_change s note)
    (λ c e. e s one two) told

-- and one that is a change of its own
pub as_change : (r : Result Row OutOfMemory) (c d : Change) → c ≡ d → IfOk r (λ row. plain_row row ≡ c) → IfOk r (λ row. plain_row row ≡ d)
as_change r c d same told = subst (λ x. IfOk r (λ row. plain_row row ≡ x)) same told

pub as_change_where : (r : Result Row OutOfMemory) (s : Store) (P : Store → Type 0) (made : Store → Change) (d : Change) → made s ≡ d → P s
    → IfOk r (λ row. (t : Store) → P t → plain_row row ≡ made t) → IfOk r (λ row. plain_row row ≡ d)
as_change_where r s P made d same holds told =
    IfOk-weaker r (λ row. (t : Store) → P t → plain_row row ≡ made t) (λ row. plain_row row ≡ d) (λ row e. e s holds ∙ same) told
