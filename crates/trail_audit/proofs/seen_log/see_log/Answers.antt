use Rattle.std.proofs.Common.{◌<◌, ◌≤◌, List, [], length, map, sym, ap, subst, ◌∙◌, arith}
use Rattle.std.proofs.lemmas.List.{take_all}
use Rattle.std.proofs.lemmas.Result.{err_from_is_err_and}
use Rattle.cry_io.proofs.OnlyRead.{only_read_still, only_read_twice}
use Rattle.commit_journal.specs.Placed.{PlainPlaced}
use Rattle.log_visits.specs.Placing.{log_contents}
use Rattle.trail_audit.specs.Derived.{AreSeen, PlainSeen, plain_seen}
use Rattle.trail_audit.specs.declared.seals.Seals.TheVariants.{Nothing}
use Rattle.trail_audit.proofs.Reread.{batch_at, fault_of_batch, known_before, sealed_here, seen_next, shown_from}
use Rattle.trail_audit.proofs.Revealed.{none_seen}
use Rattle.trail_audit.proofs.Sealings.{as_many}
use Rattle.trail_audit.proofs.seen_log.see_log.Goals as goal

pub loop-done-init : goal.loop-done-init
unfolding log_contents
loop-done-init g c = record {
  within = omega arith;
  shown = λ s is shows. subst (λ (seen : List PlainSeen). AreSeen c.args.known.now.keys.items [] [] seen) (sym (ap (map plain_seen) c.new-seen.ensures)) (none_seen c.args.known.now.keys.items []);
  read_only = only_read_still g.D.Disk c.args.disk.now;
  counts = omega arith;
}

pub seals_at-sealed-requires : goal.seals_at-sealed-requires
seals_at-sealed-requires g c = omega (arith, c.loop-done-test.true, c.requires.last, as_many c.args.seals.now c.args.log.now.given c.requires.seals)

pub loop-done-preserved : goal.loop-done-preserved
loop-done-preserved g c =
    let so = c.loop-done.invariant in
    let given = c.args.log.now.given in
    let keys = c.args.known.now.keys.items in
    let within : c.loop-done.done < length given = omega (arith, c.loop-done-test.true, c.requires.last) in
    record {
      within = omega (arith, c.loop-done-test.true);
      shown = λ s is shows.
          seen_next given c.loop-done.done keys [] (map plain_seen c.loop-done.seen.items) (map plain_seen c.see_batch.new.seen.items) within (so.shown s is shows)
          (c.in_ok-see_batch.ensures.answer s (so.read_only.same_bytes ∙ is) (batch_at given c.loop-done.done) (shown_from c.args.log.now s c.loop-done.done c.start_at-start.result.now (known_before c.args.starts.now c.args.log.now c.loop-done.done c.start_at-start.result.now c.requires.starts c.start_at-start.ensures).1 within shows) (sealed_here c.args.seals.now given c.loop-done.done c.seals_at-sealed.result.now Nothing c.requires.seals within c.seals_at-sealed.ensures));
      read_only = only_read_twice g.D.Disk c.args.disk.now c.loop-done.disk c.see_batch.new.disk so.read_only c.in_ok-see_batch.ensures.read_only;
      counts = omega (arith, so.counts, c.in_ok-see_batch.ensures.counts);
    }

pub returns-in_err-see_batch-clause-answer : goal.returns-in_err-see_batch-clause-answer
returns-in_err-see_batch-clause-answer g c = λ s is shows.
    let p = err_from_is_err_and c.from_residual.result c.from_residual.ensures.1 in
    let so = c.loop-done.invariant in
    let given = c.args.log.now.given in
    let within : c.loop-done.done < length given = omega (arith, c.loop-done-test.true, c.requires.last) in
    rw (p.1, p.2)
    (fault_of_batch given c.loop-done.done c.args.known.now.keys.items c.in_err-see_batch.field-0.0 within
    (c.in_err-see_batch.ensures.answer s (so.read_only.same_bytes ∙ is) (batch_at given c.loop-done.done) (shown_from c.args.log.now s c.loop-done.done c.start_at-start.result.now (known_before c.args.starts.now c.args.log.now c.loop-done.done c.start_at-start.result.now c.requires.starts c.start_at-start.ensures).1 within shows) (sealed_here c.args.seals.now given c.loop-done.done c.seals_at-sealed.result.now Nothing c.requires.seals within c.seals_at-sealed.ensures)))

pub returns-in_err-see_batch-clause-read_only : goal.returns-in_err-see_batch-clause-read_only
returns-in_err-see_batch-clause-read_only g c =
    only_read_twice g.D.Disk c.args.disk.now c.loop-done.disk c.see_batch.new.disk c.loop-done.invariant.read_only c.in_err-see_batch.ensures.read_only

pub returns-in_err-see_batch-clause-counts : goal.returns-in_err-see_batch-clause-counts
returns-in_err-see_batch-clause-counts g c = omega (arith, c.loop-done.invariant.counts, c.in_err-see_batch.ensures.counts)

pub returns-clause-answer : goal.returns-clause-answer
returns-clause-answer g c = λ s is shows.
    let given = c.args.log.now.given in
    let past : length given ≤ c.loop-done.done = omega (arith, c.loop-done-test.false, c.requires.last) in
    subst (λ (log : List PlainPlaced). AreSeen c.args.known.now.keys.items (log_contents log) [] (map plain_seen c.loop-done.seen.items)) (take_all c.loop-done.done given past) (c.loop-done.invariant.shown s is shows)

pub start_at-start-requires : goal.start_at-start-requires
start_at-start-requires g c = omega (arith, c.loop-done-test.true, c.requires.last, c.requires.starts.reading.count, ap length c.requires.starts.same)

pub see_batch-requires-clause-given : goal.see_batch-requires-clause-given
see_batch-requires-clause-given g c =
    (known_before c.args.starts.now c.args.log.now c.loop-done.done c.start_at-start.result.now c.requires.starts c.start_at-start.ensures).0
