use Rattle.std.proofs.Common.{ℕ, List, ◌≡◌, length, replicate, refl}
use Rattle.std.proofs.lemmas.List.Elements.{All-nil, All-replicate}
use Rattle.std.specs.Prelude.{codes}
use Rattle.cry_base.specs.Requests.Request.{Grant}
use Rattle.cry_base.specs.declared.commands.Refusal.TheVariants.{Exists}
use Rattle.store_owner.specs.Deeds.Deed.{Commanded}
use Rattle.attempt_laws.specs.WorkedTrials.{everything}
use Rattle.attempt_laws.proofs.rows.lost_epoch_is_begun_again.Goals as goal

pub returns-clause-course : goal.returns-clause-course
unfolding everything
returns-clause-course c =
    let five = All-replicate (λ (key : List ℕ). length key ≡ 32) 5 (replicate 32 1) refl in
    let one = All-replicate (λ (key : List ℕ). length key ≡ 32) 1 (replicate 32 1) refl in
    let none = All-nil (λ (key : List ℕ). length key ≡ 32) in
    let grant = Commanded (Grant 1 (codes "/a")) in (
      ((tt, refl), refl, five),
      (
        ((tt, refl), refl, one),
        (
          (tt, (Exists, refl)),
          (
            ((tt, refl), refl, none),
            (
              tt,
              ((refl, (grant, (tt, refl))), (tt, ((refl, (grant, (tt, refl))), (tt, (tt, (((tt, refl), refl, none), tt)))))),
            ),
          ),
        ),
      ),
    )
