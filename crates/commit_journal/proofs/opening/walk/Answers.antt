use Rattle.std.proofs.Common.{◌≡◌, ◌≤◌, [], ◌∷◌, ◌++◌, false, eqb, eq-eqb, length, map, drop, Ok, sym, ap, subst, ◌∙◌, arith}
use Rattle.std.specs.Prelude.{All, option_to_list}
use Rattle.std.proofs.lemmas.Bool.Decides.{nat_tests}
use Rattle.std.proofs.lemmas.List.{map_push}
use Rattle.std.proofs.lemmas.List.Elements.{All-nil, All-cons, All-append}
use Rattle.std.proofs.lemmas.Result.{err_from_is_err_and}
use Rattle.cry_base.specs.Layout.{header_len}
use Rattle.commit_journal.specs.Filling.{IsWithin, unfilled_in, unfilled_of}
use Rattle.commit_journal.specs.Log.{start_at}
use Rattle.commit_journal.specs.Opening.{owned_log, opening_verdict, owned_at, owned_before}
use Rattle.commit_journal.specs.Placed.{plain_placed}
use Rattle.commit_journal.specs.Places.{IsStanding}
use Rattle.commit_journal.specs.Turns.{plain_turn}
use Rattle.commit_journal.proofs.Counted.{as_many, counts_all, counts_more, counts_start, ends_more, ends_start}
use Rattle.commit_journal.proofs.Judged.{fault_first}
use Rattle.commit_journal.proofs.OwnedLemmas.{owned_before-fault, owned_before-end, owned_closed, owned_fails, owned_starts, owned_more}
use Rattle.commit_journal.proofs.SlotsGated.{gated_all, gated_start, gated_turn}
use Rattle.commit_journal.proofs.SlotsUnfilled.{unfilled_more, unfilled_start}
use Rattle.cry_io.proofs.OnlyRead.{only_read_twice}
use Rattle.commit_journal.proofs.opening.walk.Goals as goal

pub returns-in_err-past-clause-verdict : goal.returns-in_err-past-clause-verdict
unfolding opening_verdict
returns-in_err-past-clause-verdict g c = λ s is.
    let p = err_from_is_err_and c.from_residual.result c.from_residual.ensures.1 in
    let owner = c.args.owner.now.bytes in
    rw (p.1, p.2) (fault_first c.in_err-past.field-0.0 (start_at owner s) (λ past. owned_log c.args.limit owner past 0 (drop header_len s)) (c.in_err-past.ensures.answer s is))

pub loop-past-init : goal.loop-past-init
loop-past-init g c =
    let inside = IsWithin (g.D.Disk.size_of c.args.disk.now) in
    record {
      room = record {
        behind = omega (arith, c.in_ok-past.ensures.place, c.in_ok-past.ensures.fresh.0);
        within = omega (arith, c.in_ok-past.ensures.place);
        epochs = omega (arith, c.in_ok-past.ensures.fresh.1);
      };
      inside = omega (arith, c.in_ok-past.ensures.place, c.in_ok-past.ensures.inside, c.in_ok-past.ensures.read_only.same_size);
      stands = rw c.new-log.ensures (All-nil IsStanding);
      within = rw c.new-slots.ensures (All-nil inside);
      unfilled = λ s is. rw (c.new-log.ensures, c.new-slots.ensures) (unfilled_start c.args.owner.now.bytes s);
      gated = λ s is. rw c.new-log.ensures (gated_start c.in_ok-past.past s c.in_ok-past.ensures.place (c.in_ok-past.ensures.gate s is));
      read_only = c.in_ok-past.ensures.read_only;
      counted = rw c.new-log.ensures (counts_start c.in_ok-past.past c.in_ok-past.ensures.fresh.1);
      ends = rw c.new-log.ensures (ends_start c.in_ok-past.past c.in_ok-past.ensures.fresh.0 c.in_ok-past.ensures.fresh.1);
      counts = c.in_ok-past.ensures.counts;
      so_far = λ s is. rw c.new-log.ensures (owned_starts c.args.limit c.args.owner.now.bytes s c.in_ok-past.past (c.in_ok-past.ensures.answer s is) c.in_ok-past.ensures.place);
    }

pub returns-in_err-placed-clause-verdict : goal.returns-in_err-placed-clause-verdict
returns-in_err-placed-clause-verdict g c = λ s is.
    let p = err_from_is_err_and c.from_residual-in_err-placed.result c.from_residual-in_err-placed.ensures.1 in
    let owner = c.args.owner.now.bytes in
    let past = c.loop-past.past in
    let fault = c.in_err-placed.field-0.0 in
    let gate = eq-eqb past.gate 1 c.loop-past-test.true in
    let wrong = owned_fails fault c.args.limit owner past (drop past.at s) gate (c.in_err-placed.ensures.answer s (c.loop-past.invariant.read_only.same_bytes ∙ is)) in
    rw (p.1, p.2, c.loop-past.invariant.so_far s is)
    (owned_before-fault fault (map plain_placed c.loop-past.log.items) (owned_log c.args.limit owner past 0 (drop past.at s)) wrong)

pub loop-past-preserved : goal.loop-past-preserved
loop-past-preserved g c =
    let owner = c.args.owner.now.bytes in
    let past = c.loop-past.past in
    let owned = c.in_ok-placed.field-0 in
    let turn = owned.turn in
    let slots = c.loop-past.slots.items in
    let front = map plain_placed c.loop-past.log.items in
    let D = g.D.Disk in
    let read = c.in_ok-placed.ensures.read_only in
    let next = c.in_ok-placed.ensures.next in
    let room = c.loop-past.invariant.room in
    let pushed : map plain_placed c.push.new.self.items ≡ front ++ plain_placed turn.placed ∷ [] =
    rw c.in_ok-push.ensures.items (map_push plain_placed c.loop-past.log.items turn.placed)
    in
    let gate = eq-eqb past.gate 1 c.loop-past-test.true in
    let inside = IsWithin (g.D.Disk.size_of c.args.disk.now) in
    let kept : c.keep.new.slots.items ≡ slots ++ option_to_list owned.unfilled = c.in_ok-keep.ensures in
    let there = subst (λ n. All (IsWithin n) (option_to_list owned.unfilled)) c.loop-past.invariant.read_only.same_size c.in_ok-placed.ensures.within in
    record {
      room = record {
        behind = omega (arith, next.ahead, next.number, room.behind);
        within = next.within;
        epochs = omega (arith, next.number, next.epoch, room.epochs);
      };
      inside = omega (arith, next.inside, read.same_size);
      stands = rw c.in_ok-push.ensures.items (All-append IsStanding c.loop-past.log.items (turn.placed ∷ []) c.loop-past.invariant.stands (All-cons IsStanding turn.placed [] c.in_ok-placed.ensures.stands (All-nil IsStanding)));
      within = rw kept (All-append inside slots (option_to_list owned.unfilled) c.loop-past.invariant.within there);
      unfilled = λ s is.
          kept
          ∙ ap (λ o. slots ++ option_to_list o) (c.in_ok-placed.ensures.unfilled s (c.loop-past.invariant.read_only.same_bytes ∙ is))
          ∙ ap (λ us. us ++ option_to_list (unfilled_of owner (plain_placed turn.placed) s)) (c.loop-past.invariant.unfilled s is)
          ∙ sym (unfilled_more owner front (plain_placed turn.placed) s)
          ∙ ap (λ ps. unfilled_in owner ps s) (sym pushed);
      read_only = only_read_twice g.D.Disk c.args.disk.now c.loop-past.disk c.read_owned.new.disk c.loop-past.invariant.read_only read;
      gated = λ s is.
          let judged = c.in_ok-placed.ensures.answer s (c.loop-past.invariant.read_only.same_bytes ∙ is) in
          let sized = g.met.D.Disk.size_is_shown c.args.disk.now s is in
          let fits : turn.past.at ≤ length s = omega (arith, next.inside, c.loop-past.invariant.read_only.same_size, sized) in
          rw pushed (gated_turn c.args.limit owner s front past (plain_turn turn) gate judged next.place next.ahead fits room.behind (c.loop-past.invariant.gated s is));
      counted = rw pushed (counts_more front past (plain_turn turn) c.in_ok-placed.ensures.in_epoch c.loop-past.invariant.counted);
      ends = rw pushed (ends_more front past (plain_turn turn) c.in_ok-placed.ensures.in_epoch next.number c.loop-past.invariant.ends);
      counts = omega (arith, c.loop-past.invariant.counts, c.in_ok-placed.ensures.counts);
      so_far = λ s is.
          let judged : owned_at c.args.limit owner past (drop past.at s) ≡ Ok (plain_turn turn) =
          c.in_ok-placed.ensures.answer s (c.loop-past.invariant.read_only.same_bytes ∙ is)
          in
          rw pushed (owned_more c.args.limit owner s front past (plain_turn turn) gate judged (omega (arith, next.ahead)) (c.loop-past.invariant.so_far s is));
    }

pub returns-clause-verdict : goal.returns-clause-verdict
returns-clause-verdict g c = λ s is.
    let owner = c.args.owner.now.bytes in
    let past = c.loop-past.past in
    let front = map plain_placed c.loop-past.log.items in
    let shut = c.loop-past-test.false in
    let gate : eqb past.gate 1 ≡ false = grind (arith, nat_tests) in
    c.loop-past.invariant.so_far s is ∙ ap (owned_before front) (owned_closed c.args.limit owner past (drop past.at s) gate) ∙ owned_before-end front past

pub returns-clause-gated : goal.returns-clause-gated
returns-clause-gated g c = λ s is.
    gated_all (map plain_placed c.loop-past.log.items) header_len c.loop-past.past.at s (c.loop-past.invariant.gated s is).0

pub returns-clause-epochs : goal.returns-clause-epochs
returns-clause-epochs g c = counts_all (map plain_placed c.loop-past.log.items) c.loop-past.past c.loop-past.invariant.counted

pub returns-clause-count : goal.returns-clause-count
returns-clause-count g c = as_many c.loop-past.log.items c.loop-past.past.number c.loop-past.invariant.ends.number

pub returns-clause-last : goal.returns-clause-last
returns-clause-last g c = c.loop-past.invariant.ends.epoch
