use Rattle.std.proofs.Common.{◌+◌, ◌<◌, ◌≤◌, length, drop, map, subst, arith}
use Rattle.std.proofs.lemmas.Result.{err_from_is_err_and}
use Rattle.commit_journal.specs.Placed.{plain_placed}
use Rattle.log_visits.proofs.Folded.{IsFoldedTo, folding_begins, folding_fails, folding_goes_on, folding_ends, rest_from, rest_behind, batch_in_epoch}
use Rattle.log_visits.proofs.OwnerKey.{owner_is_seen}
use Rattle.log_visits.proofs.folding.fold.Goals as goal

pub loop-placed-init : goal.loop-placed-init
loop-placed-init c = folding_begins c.in_ok-state.state (map plain_placed c.args.log.now) c.in_ok-state.ensures c.requires.epochs

pub take_batch-requires : goal.take_batch-requires
take_batch-requires c =
    let log = c.args.log.now in
    let placed = c.placed-item.result in
    let i = c.loop-placed.placed-index in
    let within : i < length log = omega (arith, c.loop-placed-test.true) in
    record {
      next = batch_in_epoch c.loop-placed.state (map plain_placed log) (map plain_placed (drop (i + 1) log)) (plain_placed placed)
          (subst (λ rest. IsFoldedTo (map plain_placed log) rest c.loop-placed.state) (rest_from log i placed within c.placed-item.is) c.loop-placed.invariant);
    }

pub returns-in_err-take_batch-clause-answer : goal.returns-in_err-take_batch-clause-answer
returns-in_err-take_batch-clause-answer c =
    let p = err_from_is_err_and c.from_residual-in_err-take_batch.result c.from_residual-in_err-take_batch.ensures.1 in
    let log = c.args.log.now in
    let placed = c.placed-item.result in
    let i = c.loop-placed.placed-index in
    let within : i < length log = omega (arith, c.loop-placed-test.true) in
    rw (p.1, p.2)
    (folding_fails c.loop-placed.state c.in_err-take_batch.field-0.0 (map plain_placed log) (map plain_placed (drop (i + 1) log)) (plain_placed placed)
    (subst (λ rest. IsFoldedTo (map plain_placed log) rest c.loop-placed.state) (rest_from log i placed within c.placed-item.is) c.loop-placed.invariant)
    c.in_err-take_batch.ensures.answer)

pub loop-placed-preserved : goal.loop-placed-preserved
loop-placed-preserved c =
    let log = c.args.log.now in
    let placed = c.placed-item.result in
    let i = c.loop-placed.placed-index in
    let within : i < length log = omega (arith, c.loop-placed-test.true) in
    folding_goes_on c.loop-placed.state c.take_batch.new.state (map plain_placed log) (map plain_placed (drop (i + 1) log)) (plain_placed placed)
    (subst (λ rest. IsFoldedTo (map plain_placed log) rest c.loop-placed.state) (rest_from log i placed within c.placed-item.is) c.loop-placed.invariant)
    c.in_ok-take_batch.ensures.answer

pub returns-clause-answer : goal.returns-clause-answer
returns-clause-answer c =
    let log = c.args.log.now in
    let past : length log ≤ c.loop-placed.placed-index = omega (arith, c.loop-placed-test.false) in
    folding_ends c.loop-placed.state (map plain_placed log)
    (subst (λ rest. IsFoldedTo (map plain_placed log) rest c.loop-placed.state) (rest_behind log c.loop-placed.placed-index past) c.loop-placed.invariant)

pub returns-clause-owner : goal.returns-clause-owner
returns-clause-owner c =
    let log = c.args.log.now in
    let past : length log ≤ c.loop-placed.placed-index = omega (arith, c.loop-placed-test.false) in
    owner_is_seen c.loop-placed.state (map plain_placed log)
    (folding_ends c.loop-placed.state (map plain_placed log)
    (subst (λ rest. IsFoldedTo (map plain_placed log) rest c.loop-placed.state) (rest_behind log c.loop-placed.placed-index past) c.loop-placed.invariant))
