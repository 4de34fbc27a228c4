-- A turn of the code's own walk is in its epoch, and so is what it has read so far.
use Rattle.std.proofs.Common.{◌≡◌, ℕ, ◌+◌, ◌≤◌, Bool, true, false, cond, eqb, eq-eqb, List, [], ◌∷◌, ◌++◌, length, map, refl, sym, subst, ◌∙◌, arith, append_assoc, length-append, Option, None, Some}
use Rattle.std.specs.Prelude.{nat_le, ◌&&◌}
use Rattle.std.proofs.lemmas.Bool.{eqb-true, and_parts}
use Rattle.std.proofs.lemmas.Bool.Decides.{nat_tests}
use Rattle.std.proofs.lemmas.List.{append-nil, length-map}
use Rattle.commit_journal.specs.declared.head.Head.{Head}
use Rattle.commit_journal.specs.declared.judge.Turn.{Turn}
use Rattle.commit_journal.specs.declared.past.Past.{Past}
use Rattle.commit_journal.specs.declared.placed.Placed.{Placed}
use Rattle.commit_journal.specs.declared.placed.Body.{Body}
use Rattle.commit_journal.specs.declared.placed.Body.TheVariants as bodies
use Rattle.commit_journal.specs.Log.{PlainTurn, fits_epoch}
use Rattle.commit_journal.specs.Logs.{IsInEpoch, AreInEpochs, epoch_behind}
use Rattle.commit_journal.specs.Opening.{EndsBehind, GoesOnIn, HasType, IsNextOf, IsTurnIn, IsTurnOf}
use Rattle.commit_journal.specs.Placed.{PlainPlaced, plain_body, plain_placed}
use Rattle.commit_journal.specs.Places.{HasSize, body_size}
use Rattle.commit_journal.specs.Turns.{plain_turn}

-- ---- the test of a head

pub next_fits : (before_it epoch size : ℕ) → (eqb size 0 && eqb epoch (before_it + 1)) ≡ true → epoch ≡ before_it + 1
next_fits before_it epoch size fits = eqb-true epoch (before_it + 1) (and_parts (eqb size 0) (eqb epoch (before_it + 1)) fits).1

pub command_fits : (before_it epoch type_byte : ℕ) → (eqb type_byte 1 && (nat_le 1 before_it && eqb epoch before_it)) ≡ true → (1 ≤ before_it) × (epoch ≡ before_it)
command_fits before_it epoch type_byte fits =
    let parts = and_parts (nat_le 1 before_it) (eqb epoch before_it) (and_parts (eqb type_byte 1) (nat_le 1 before_it && eqb epoch before_it) fits).1 in
    let begun : nat_le 1 before_it ≡ true = parts.0 in
    let low : 1 ≤ before_it = grind (arith, nat_tests) in
    (low, eqb-true epoch before_it parts.1)

-- ---- one turn

fits_in : (two : Bool) (before_it epoch size type_byte : ℕ) (body : Body) → eqb type_byte 2 ≡ two →
    cond two (eqb size 0 && eqb epoch (before_it + 1)) (eqb type_byte 1 && (nat_le 1 before_it && eqb epoch before_it)) ≡ true →
    HasType type_byte body → IsInEpoch before_it epoch (plain_body body)
fits_in true before_it epoch size type_byte bodies.NewEpoch is fits type_is = next_fits before_it epoch size fits
fits_in true before_it epoch size type_byte (bodies.Commands payload) is fits type_is = absurd (type_is (eqb-true type_byte 2 is))
fits_in false before_it epoch size type_byte bodies.NewEpoch is fits type_is = let two = eq-eqb type_byte 2 type_is in absurd (cc)
fits_in false before_it epoch size type_byte (bodies.Commands payload) is fits type_is = command_fits before_it epoch type_byte fits

pub turn_counts : (past : Past) (head : Head) (turn : Turn) → fits_epoch past head ≡ true → IsTurnOf past head turn → IsTurnIn past (plain_turn turn)
turn_counts past head turn fits is =
    let inside : IsInEpoch past.epoch.0 head.epoch.0 (plain_body turn.placed.body) =
    fits_in (eqb head.type_byte 2) past.epoch.0 head.epoch.0 head.size head.type_byte turn.placed.body refl fits is.type_of
    in
    (subst (λ epoch. IsInEpoch past.epoch.0 epoch (plain_body turn.placed.body)) (sym is.same_epoch) inside, is.epoch ∙ sym is.same_epoch)

pub next_counts : (past : Past) (head : Head) (next : Option Turn) → fits_epoch past head ≡ true → IsNextOf past head next → GoesOnIn past next
next_counts past head None fits is = tt
next_counts past head (Some turn) fits is = turn_counts past head turn fits is

-- ---- where a turn ends

size_in : (two : Bool) (before_it epoch size type_byte : ℕ) (body : Body) → eqb type_byte 2 ≡ two →
    cond two (eqb size 0 && eqb epoch (before_it + 1)) (eqb type_byte 1 && (nat_le 1 before_it && eqb epoch before_it)) ≡ true →
    HasType type_byte body → HasSize size body → body_size (plain_body body) ≡ size
size_in true before_it epoch size type_byte bodies.NewEpoch is fits type_is has =
    sym (eqb-true size 0 (and_parts (eqb size 0) (eqb epoch (before_it + 1)) fits).0)
size_in true before_it epoch size type_byte (bodies.Commands payload) is fits type_is has = absurd (type_is (eqb-true type_byte 2 is))
size_in false before_it epoch size type_byte bodies.NewEpoch is fits type_is has = let two = eq-eqb type_byte 2 type_is in absurd (cc)
size_in false before_it epoch size type_byte (bodies.Commands payload) is fits type_is has = has.1

pub turn_ends : (past : Past) (head : Head) (next : Option Turn) → fits_epoch past head ≡ true → IsNextOf past head next → EndsBehind next
turn_ends past head None fits is = tt
turn_ends past head (Some turn) fits is =
    let size = size_in (eqb head.type_byte 2) past.epoch.0 head.epoch.0 head.size head.type_byte turn.placed.body refl fits is.type_of is.size in
    omega (arith, is.next, is.place, size)

-- ---- the walk

-- what counts on from here counts up with what was read so far
unfoldable pub CountsOn : List PlainPlaced → Past → Type 0
CountsOn front past = (rest : List PlainPlaced) → AreInEpochs past.epoch.0 rest → AreInEpochs 0 (front ++ rest)

pub counts_start : (past : Past) → past.epoch.0 ≡ 0 → CountsOn [] past
unfolding CountsOn
counts_start past none = λ rest are. subst (λ epoch. AreInEpochs epoch rest) none are

pub counts_more : (front : List PlainPlaced) (past : Past) (turn : PlainTurn) → IsTurnIn past turn → CountsOn front past → CountsOn (front ++ turn.placed ∷ []) turn.past
unfolding CountsOn
counts_more front past turn here on = λ rest are.
    subst (AreInEpochs 0) (sym (append_assoc front (turn.placed ∷ []) rest)) (on (turn.placed ∷ rest) (here.0, subst (λ epoch. AreInEpochs epoch rest) here.1 are))

pub counts_all : (front : List PlainPlaced) (past : Past) → CountsOn front past → AreInEpochs 0 front
unfolding CountsOn
counts_all front past on = subst (AreInEpochs 0) (append-nil front) (on [] tt)

-- what was read so far are as many batches as are known, and the last one's epoch is known
pub record EndsAt (front : List PlainPlaced) (past : Past) : Type 0 where
  pub number : past.number ≡ length front
  pub epoch : past.epoch.0 ≡ epoch_behind 0 front

pub ends_start : (past : Past) → past.number ≡ 0 → past.epoch.0 ≡ 0 → EndsAt [] past
ends_start past first none = record { number = first; epoch = none }

pub epoch_more : (before_it : ℕ) (front : List PlainPlaced) (p : PlainPlaced) → epoch_behind before_it (front ++ p ∷ []) ≡ p.epoch.0
epoch_more before_it [] p = refl
epoch_more before_it (q ∷ front) p = epoch_more q.epoch.0 front p

pub ends_more : (front : List PlainPlaced) (past : Past) (turn : PlainTurn) → IsTurnIn past turn → turn.past.number ≡ past.number + 1 → EndsAt front past →
    EndsAt (front ++ turn.placed ∷ []) turn.past
ends_more front past turn here next ends = record {
  number = omega (arith, next, ends.number, length-append front (turn.placed ∷ []));
  epoch = here.1 ∙ sym (epoch_more 0 front turn.placed);
}

pub as_many : (log : List Placed) (n : ℕ) → n ≡ length (map plain_placed log) → n ≡ length log
as_many log n is = is ∙ length-map log plain_placed
