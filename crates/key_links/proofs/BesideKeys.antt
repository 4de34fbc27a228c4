-- What is found among keys in several tables, when one comes or goes.
use Rattle.std.proofs.Common.{◌≡◌, ℕ, ◌==◌, List, [], ◌∷◌, ◌++◌, true, false, cond, Bool, Bor, Option, Some, None, refl, sym, ap, ◌∙◌}
use Rattle.std.specs.Prelude.{IsSome, is_some}
use Rattle.std.specs.Option.{option_copied}
use Rattle.std.proofs.lemmas.Bool.{eqb-true}
use Rattle.sorted_table.specs.Rows.{row_at, replaced, with_row, without}
use Rattle.key_links.specs.ByKind.{IsFoundBeside}
use Rattle.key_links.specs.Ringed.{key_rank}
use Rattle.key_links.specs.declared.any_key.AnyKey.{AnyKey}
use Rattle.key_links.proofs.Looked.{found_replaced, found_with, found_without}

-- the first, where there is one, and else the second
unfoldable pub either : {T : Type 0} → Option T → Option T → Option T
either (Some x) second = Some x
either None second = second

either_cond : (b : Bool) (key : AnyKey) (o p q : Option AnyKey) → either (cond b o p) q ≡ cond b (either o q) (either p q)
either_cond true key o p q = refl
either_cond false key o p q = refl

-- among two lists the first key of the first one is found, and else that of the second
pub found_either : (front rows : List AnyKey) (k : ℕ) → row_at key_rank (front ++ rows) k ≡ either (row_at key_rank front k) (row_at key_rank rows k)
unfolding either
found_either [] rows k = refl
found_either (x ∷ front) rows k =
    (elim (key_rank x == k) as (λ b. cond b (Some x) (row_at key_rank (front ++ rows) k) ≡ either (cond b (Some x) (row_at key_rank front k)) (row_at key_rank rows k)) [
      | true ↦ refl
      | false ↦ found_either front rows k
    ])

-- a key that comes into one table
pub here : (key : AnyKey) (rows after : List AnyKey) → after ≡ with_row key_rank rows key → IsFoundBeside key rows after
here key rows after is = λ k. ap (λ l. row_at key_rank l k) is ∙ found_with AnyKey key_rank rows key k

-- a key that comes in the first of two lists
pub before : (key : AnyKey) (rows after rest : List AnyKey) → IsFoundBeside key rows after → IsFoundBeside key (rows ++ rest) (after ++ rest)
unfolding either
before key rows after rest is = λ k.
    found_either after rest k
    ∙ ap (λ o. either o (row_at key_rank rest k)) (is k)
    ∙ either_cond (key_rank key == k) key (Some key) (row_at key_rank rows k) (row_at key_rank rest k)
    ∙ ap (λ o. cond (key_rank key == k) (Some key) o) (sym (found_either rows rest k))

-- and in the second, where its place is free in the first
pub behind : (key : AnyKey) (front rows after : List AnyKey) → row_at key_rank front (key_rank key) ≡ None → IsFoundBeside key rows after → IsFoundBeside key (front ++ rows) (front ++ after)
unfolding either
behind key front rows after none is = λ k.
    found_either front after k
    ∙ ap (λ o. either (row_at key_rank front k) o) (is k)
    ∙ (elim (key_rank key == k) as (λ b. key_rank key == k ≡ b → either (row_at key_rank front k) (cond b (Some key) (row_at key_rank rows k)) ≡ cond b (Some key) (either (row_at key_rank front k) (row_at key_rank rows k))) [
      | true ↦ λ t. ap (λ n. either (row_at key_rank front n) (Some key)) (sym (eqb-true (key_rank key) k t)) ∙ ap (λ o. either o (Some key)) none
      | false ↦ λ t. refl
    ]) refl
    ∙ ap (λ o. cond (key_rank key == k) (Some key) o) (sym (found_either front rows k))

pub some_copied : {T : Type 0} (o : Option (Bor T)) → is_some (option_copied o) ≡ is_some o
some_copied None = refl
some_copied (Some x) = refl

-- a key that takes the place of another
pub in_place : (key : AnyKey) (rows after : List AnyKey) → IsSome (row_at key_rank rows (key_rank key)) → after ≡ replaced key_rank rows key → IsFoundBeside key rows after
in_place key rows after there is = λ k. ap (λ l. row_at key_rank l k) is ∙ found_replaced AnyKey key_rank rows key k there

-- and in the second of two lists, once its place is freed in the first
pub cleared : (key : AnyKey) (front rows front' after : List AnyKey) (at : ℕ) → at ≡ key_rank key → front' ≡ without key_rank front at → IsFoundBeside key rows after
    → IsFoundBeside key (front ++ rows) (front' ++ after)
unfolding either
cleared key front rows front' after at place free is = λ k.
    found_either front' after k
    ∙ ap (λ o. either o (row_at key_rank after k)) (ap (λ l. row_at key_rank l k) (free ∙ ap (without key_rank front) place) ∙ found_without AnyKey key_rank front (key_rank key) k)
    ∙ ap (λ o. either (cond (key_rank key == k) None (row_at key_rank front k)) o) (is k)
    ∙ (elim (key_rank key == k) as (λ b. either (cond b None (row_at key_rank front k)) (cond b (Some key) (row_at key_rank rows k)) ≡ cond b (Some key) (either (row_at key_rank front k) (row_at key_rank rows k))) [
      | true ↦ refl
      | false ↦ refl
    ])
    ∙ ap (λ o. cond (key_rank key == k) (Some key) o) (sym (found_either front rows k))
