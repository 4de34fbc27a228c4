use Rattle.std.proofs.Common.{inl, inr, refl, lit≤}
use Rattle.public_fold.specs.WorkedSteps.{journals}
use Rattle.public_fold.proofs.rows.worked_journals_are_valid.Goals as goal

pub returns-clause-written : goal.returns-clause-written
unfolding journals
returns-clause-written c = ((refl, (tt, ((refl, refl), ((refl, refl), ((refl, refl), ((refl, refl), (tt, ((refl, refl), (tt, ((refl, refl), ((refl, refl), ((refl, refl), tt))))))))))), inl refl), lit≤ tt)

pub returns-clause-renamed : goal.returns-clause-renamed
unfolding journals
returns-clause-renamed c = ((refl, (tt, ((refl, refl), ((refl, refl), ((refl, refl), ((refl, refl), ((refl, refl), ((refl, refl), ((refl, refl), ((refl, refl), tt))))))))), inl refl), lit≤ tt)

pub returns-clause-moved : goal.returns-clause-moved
unfolding journals
returns-clause-moved c = ((refl, (tt, ((refl, refl), ((refl, refl), ((refl, refl), ((refl, refl), ((refl, refl), ((refl, refl), ((refl, refl), ((refl, refl), tt))))))))), inl refl), lit≤ tt)

pub returns-clause-dropped : goal.returns-clause-dropped
unfolding journals
returns-clause-dropped c = ((refl, (tt, ((refl, refl), ((refl, refl), ((refl, refl), ((refl, refl), (tt, ((refl, refl), ((refl, refl), ((refl, refl), ((refl, refl), ((refl, refl), tt))))))))))), inl refl), lit≤ tt)

pub returns-clause-made_again : goal.returns-clause-made_again
unfolding journals
returns-clause-made_again c = ((refl, (tt, ((refl, refl), ((refl, refl), ((refl, refl), ((refl, refl), (tt, ((refl, refl), (tt, ((refl, refl), ((refl, refl), ((refl, refl), ((refl, refl), ((refl, refl), ((refl, refl), ((refl, refl), ((refl, refl), ((refl, refl), tt))))))))))))))))), inl refl), lit≤ tt)

pub returns-clause-moved_strictly : goal.returns-clause-moved_strictly
unfolding journals
returns-clause-moved_strictly c = ((refl, (tt, ((refl, refl), ((refl, refl), ((refl, refl), ((refl, refl), ((refl, refl), ((refl, refl), ((refl, refl), ((refl, refl), tt))))))))), inr refl), lit≤ tt)

pub returns-clause-departed_strictly : goal.returns-clause-departed_strictly
unfolding journals
returns-clause-departed_strictly c = ((refl, (tt, ((refl, refl), ((refl, refl), ((refl, refl), ((refl, refl), ((refl, refl), ((refl, refl), tt))))))), inr refl), lit≤ tt)

pub returns-clause-departed_after_it : goal.returns-clause-departed_after_it
unfolding journals
returns-clause-departed_after_it c = ((refl, (tt, ((refl, refl), ((refl, refl), ((refl, refl), ((refl, refl), (tt, ((refl, refl), (tt, ((refl, refl), ((refl, refl), ((refl, refl), tt))))))))))), inl refl), lit≤ tt)

pub returns-clause-revoked_file : goal.returns-clause-revoked_file
unfolding journals
returns-clause-revoked_file c = ((refl, (tt, ((refl, refl), ((refl, refl), ((refl, refl), ((refl, refl), (tt, ((refl, refl), ((refl, refl), ((refl, refl), ((refl, refl), tt)))))))))), inr refl), lit≤ tt)

pub returns-clause-kept_file : goal.returns-clause-kept_file
unfolding journals
returns-clause-kept_file c = ((refl, (tt, ((refl, refl), ((refl, refl), ((refl, refl), ((refl, refl), (tt, ((refl, refl), ((refl, refl), (tt, ((refl, refl), ((refl, refl), tt))))))))))), inr refl), lit≤ tt)

pub returns-clause-moved_file : goal.returns-clause-moved_file
unfolding journals
returns-clause-moved_file c = ((refl, (tt, ((refl, refl), ((refl, refl), ((refl, refl), ((refl, refl), (tt, ((refl, refl), ((refl, refl), ((refl, refl), ((refl, refl), ((refl, refl), ((refl, refl), tt)))))))))))), inr refl), lit≤ tt)
