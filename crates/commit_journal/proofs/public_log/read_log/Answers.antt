use Rattle.std.proofs.Common.{[], ◌∷◌, ◌++◌, Ok, ap, sym, subst, ◌∙◌, arith}
use Rattle.std.proofs.lemmas.List.{map_push}
use Rattle.std.proofs.lemmas.List.Elements.{All-nil, All-cons, All-append}
use Rattle.std.proofs.lemmas.Result.{err_from_is_err_and}
use Rattle.commit_journal.specs.Answering.{IsFault}
use Rattle.commit_journal.specs.Logs.{AreInEpochs}
use Rattle.commit_journal.specs.Placed.{plain_placed}
use Rattle.commit_journal.specs.Places.{IsStanding}
use Rattle.commit_journal.specs.Streaming.{Gives, GivesOne}
use Rattle.cry_io.proofs.OnlyRead.{only_read_twice}
use Rattle.commit_journal.proofs.public_log.read_log.Goals as goal

pub loop-batches-init : goal.loop-batches-init
loop-batches-init g c =
    let begun = c.in_ok-log.ensures in
    record {
      inside = omega (arith, begun.inside, begun.read_only.same_size);
      stands = rw c.new-batches.ensures (All-nil IsStanding);
      given = rw c.new-batches.ensures (sym begun.fresh.1);
      epochs = subst (AreInEpochs 0) (sym begun.fresh.1) tt;
      read_only = begun.read_only;
      counts = begun.counts;
      so_far = begun.log;
    }

pub returns-in_err-placed-clause-verdict : goal.returns-in_err-placed-clause-verdict
returns-in_err-placed-clause-verdict g c = λ s is.
    let p = err_from_is_err_and c.from_residual-in_err-placed.result c.from_residual-in_err-placed.ensures.1 in
    let kept = c.loop-batches.invariant in
    rw (p.1, p.2) (subst (IsFault c.in_err-placed.field-0.0) (kept.so_far s is) (c.in_err-placed.ensures.failed s (kept.read_only.same_bytes ∙ is)))

pub returns-in_err-placed-clause-read_only : goal.returns-in_err-placed-clause-read_only
returns-in_err-placed-clause-read_only g c =
    only_read_twice g.D.Disk c.args.disk.now c.loop-batches.disk c.next.new.disk c.loop-batches.invariant.read_only c.in_err-placed.ensures.read_only

pub returns-in_err-placed-clause-counts : goal.returns-in_err-placed-clause-counts
returns-in_err-placed-clause-counts g c = omega (arith, c.loop-batches.invariant.counts, c.in_err-placed.ensures.counts)

pub returns-in_err-placed-clause-disk_fault : goal.returns-in_err-placed-clause-disk_fault
returns-in_err-placed-clause-disk_fault g c = λ is.
    let p = err_from_is_err_and c.from_residual-in_err-placed.result c.from_residual-in_err-placed.ensures.1 in
    let rose = c.in_err-placed.ensures.disk_fault cc in
    omega (arith, c.loop-batches.invariant.counts, rose)

pub loop-batches-smaller : goal.loop-batches-smaller
loop-batches-smaller g c =
    let size = g.D.Disk.size_of c.loop-batches.disk in
    let gives : GivesOne size c.loop-batches.log c.in-Some.placed c.next.new.self =
    subst (λ o. Gives size c.loop-batches.log o c.next.new.self) c.in-Some.is c.in_ok-placed.ensures.gives
    in
    omega (arith, gives.ahead, gives.inside, c.in_ok-placed.ensures.read_only.same_size)

pub loop-batches-preserved : goal.loop-batches-preserved
loop-batches-preserved g c =
    let size = g.D.Disk.size_of c.loop-batches.disk in
    let placed = c.in-Some.placed in
    let kept = c.loop-batches.invariant in
    let next = c.in_ok-placed.ensures in
    let gives : GivesOne size c.loop-batches.log placed c.next.new.self =
    subst (λ o. Gives size c.loop-batches.log o c.next.new.self) c.in-Some.is next.gives
    in
    record {
      inside = omega (arith, gives.inside, next.read_only.same_size);
      stands = rw c.in_ok-push.ensures.items (All-append IsStanding c.loop-batches.batches.items (placed ∷ []) kept.stands (All-cons IsStanding placed [] gives.stands (All-nil IsStanding)));
      given = rw c.in_ok-push.ensures.items (map_push plain_placed c.loop-batches.batches.items placed ∙ ap (λ front. front ++ plain_placed placed ∷ []) kept.given ∙ sym gives.given);
      epochs = next.epochs;
      read_only = only_read_twice g.D.Disk c.args.disk.now c.loop-batches.disk c.next.new.disk kept.read_only next.read_only;
      counts = omega (arith, kept.counts, next.counts);
      so_far = λ s is. next.log s (kept.read_only.same_bytes ∙ is) ∙ kept.so_far s is;
    }

pub returns-in_err-push-clause-read_only : goal.returns-in_err-push-clause-read_only
returns-in_err-push-clause-read_only g c =
    only_read_twice g.D.Disk c.args.disk.now c.loop-batches.disk c.next.new.disk c.loop-batches.invariant.read_only c.in_ok-placed.ensures.read_only

pub returns-in_err-push-clause-counts : goal.returns-in_err-push-clause-counts
returns-in_err-push-clause-counts g c = omega (arith, c.loop-batches.invariant.counts, c.in_ok-placed.ensures.counts)

pub returns-clause-verdict : goal.returns-clause-verdict
returns-clause-verdict g c = λ s is.
    let kept = c.loop-batches.invariant in
    sym (kept.so_far s is) ∙ c.in_ok-placed.ensures.ended (ap Ok c.in_default.is) s (kept.read_only.same_bytes ∙ is) ∙ ap Ok (sym kept.given)

pub returns-clause-stands : goal.returns-clause-stands
returns-clause-stands g c = c.loop-batches.invariant.stands

pub returns-clause-epochs : goal.returns-clause-epochs
returns-clause-epochs g c = subst (AreInEpochs 0) (sym c.loop-batches.invariant.given) c.loop-batches.invariant.epochs

pub returns-clause-read_only : goal.returns-clause-read_only
returns-clause-read_only g c =
    only_read_twice g.D.Disk c.args.disk.now c.loop-batches.disk c.next.new.disk c.loop-batches.invariant.read_only c.in_ok-placed.ensures.read_only

pub returns-clause-counts : goal.returns-clause-counts
returns-clause-counts g c = omega (arith, c.loop-batches.invariant.counts, c.in_ok-placed.ensures.counts)
