use Rattle.std.proofs.Common.{ℕ, List, ◌≡◌, length, replicate, refl}
use Rattle.std.proofs.lemmas.List.Elements.{All-replicate}
use Rattle.store_owner.specs.Deeds.Deed.{Upgrading}
use Rattle.attempt_laws.specs.WorkedTrials.{everything}
use Rattle.attempt_laws.proofs.rows.abandoned_upgrade_enters_later.Goals as goal

pub returns-clause-course : goal.returns-clause-course
unfolding everything
returns-clause-course c =
    let five = All-replicate (λ (key : List ℕ). length key ≡ 32) 5 (replicate 32 1) refl in
    let eight = All-replicate (λ (key : List ℕ). length key ≡ 32) 8 (replicate 32 1) refl in (
      ((tt, refl), refl, five),
      (((refl, refl), refl, eight), (tt, ((refl, (Upgrading, (refl, refl))), (tt, (((refl, refl), refl, eight), tt))))),
    )
