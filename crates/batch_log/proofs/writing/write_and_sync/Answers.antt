use Rattle.std.proofs.Common.{◌≡◌, ◌≤◌, ◌⊎◌, ℕ, List, [], ◌∷◌, Some, inl, inr, length, arith, sym, subst, ◌∙◌}
use Rattle.std.specs.Prelude.{IsErr}
use Rattle.batch_log.specs.Handing.{IsStage, IsTornStage}
use Rattle.batch_log.specs.Moments.{TornInto}
use Rattle.batch_log.specs.Steps.{written_at}
use Rattle.batch_log.proofs.Lists.{written_may_be_torn}
use Rattle.batch_log.proofs.Moments.{goes_on_elapsed, goes_on_then, in_next_call, in_one_call}
use Rattle.batch_log.proofs.WrittenMoments.{on_err, on_ok, told_one, torn_at_start, torn_behind_write}
use Rattle.batch_log.proofs.writing.write_and_sync.Goals as goal

pub returns-clause-written : goal.returns-clause-written
returns-clause-written g c =
    on_ok c.sync.result (λ x y was is. c.in_ok-write_at.ensures.written x y was (sym c.sync.ensures.shown ∙ is))

pub returns-clause-torn : goal.returns-clause-torn
returns-clause-torn g c =
    on_err c.sync.result (λ x y was is. written_may_be_torn c.args.place c.args.bytes.now x y
    (subst (λ n. c.args.place ≤ n) (sym (g.met.D.Disk.size_is_shown c.args.disk.now x was)) c.requires.inside)
    (c.in_ok-write_at.ensures.written x y was (sym c.sync.ensures.shown ∙ is)))

pub returns-clause-later : goal.returns-clause-later
returns-clause-later g c =
    let one = c.write_at.ensures.time.later in
    let two = c.sync.ensures.time.later in
    omega (arith, one, two)

pub returns-clause-time : goal.returns-clause-time
returns-clause-time g c =
    let D = g.D.Disk in
    let met = g.met.D.Disk in
    let a = c.args.disk.now in
    let b = c.write_at.new.self in
    let e = c.sync.new.self in
    let one = goes_on_elapsed (D.moment a) (D.moment b) (D.since a) (D.since b) (D.shown a) (D.shown b) (D.may_leave a) (D.may_leave b)
    (λ s left at. met.only_now a s left at) (λ t s left early shown leaves. met.counts_now a t s left early shown leaves)
    (λ t s left early shown leaves. met.counts_now b t s left early shown leaves) c.write_at.ensures.time in
    let two = goes_on_elapsed (D.moment b) (D.moment e) (D.since b) (D.since e) (D.shown b) (D.shown e) (D.may_leave b) (D.may_leave e)
    (λ s left at. met.only_now b s left at) (λ t s left early shown leaves. met.counts_now b t s left early shown leaves)
    (λ t s left early shown leaves. met.counts_now e t s left early shown leaves) c.sync.ensures.time in
    goes_on_then (D.moment a) (D.moment b) (D.since a) (D.since b) (D.since e) c.write_at.ensures.time.later one two

pub returns-in_err-write_at-clause-time : goal.returns-in_err-write_at-clause-time
returns-in_err-write_at-clause-time g c =
    let D = g.D.Disk in
    let met = g.met.D.Disk in
    let a = c.args.disk.now in
    let b = c.write_at.new.self in
    goes_on_elapsed (D.moment a) (D.moment b) (D.since a) (D.since b) (D.shown a) (D.shown b) (D.may_leave a) (D.may_leave b)
    (λ s left at. met.only_now a s left at) (λ t s left early shown leaves. met.counts_now a t s left early shown leaves)
    (λ t s left early shown leaves. met.counts_now b t s left early shown leaves) c.write_at.ensures.time

pub returns-in_err-write_at-clause-stops : goal.returns-in_err-write_at-clause-stops
returns-in_err-write_at-clause-stops g c durable x x_is =
    let D = g.D.Disk in
    let met = g.met.D.Disk in
    let a = c.args.disk.now in
    let b = c.write_at.new.self in
    let place = c.args.place in
    let bytes = c.args.bytes.now in
    let inside = subst (λ n. place ≤ n) (sym (met.size_is_shown a x x_is)) c.requires.inside in
    in_one_call (D.moment a) (D.moment b) (D.since a) (D.since b) (D.shown a) (D.shown b) (D.may_leave a) (D.may_leave b) (TornInto place (length bytes) x)
    (λ s left at. met.only_now a s left at) c.write_at.ensures.time
    (λ s left is leaves. torn_at_start (D.shown a) (D.may_leave a) place (length bytes) x s left durable x_is is leaves)
    (λ s left is leaves. torn_behind_write (D.shown a) (D.shown b) (D.may_leave a) (D.may_leave b) place bytes x s left c.write_at.result inside durable x_is
    c.write_at.ensures.written c.write_at.ensures.torn c.write_at.ensures.stops is leaves)

pub returns-clause-stops : goal.returns-clause-stops
returns-clause-stops g c durable x x_is =
    let D = g.D.Disk in
    let met = g.met.D.Disk in
    let a = c.args.disk.now in
    let b = c.write_at.new.self in
    let e = c.sync.new.self in
    let place = c.args.place in
    let bytes = c.args.bytes.now in
    let P = TornInto place (length bytes) x in
    let inside = subst (λ n. place ≤ n) (sym (met.size_is_shown a x x_is)) c.requires.inside in
    let behind = λ (s left : List ℕ) (is : D.shown b ≡ Some s) (leaves : D.may_leave b left).
    torn_behind_write (D.shown a) (D.shown b) (D.may_leave a) (D.may_leave b) place bytes x s left c.write_at.result inside durable x_is
    c.write_at.ensures.written c.write_at.ensures.torn c.write_at.ensures.stops is leaves in
    in_next_call (D.moment a) (D.moment b) (D.moment e) (D.since b) (D.since e) (D.shown e) (D.may_leave e) P c.write_at.ensures.time.later c.sync.ensures.time
    (in_one_call (D.moment a) (D.moment b) (D.since a) (D.since b) (D.shown a) (D.shown b) (D.may_leave a) (D.may_leave b) P
    (λ s left at. met.only_now a s left at) c.write_at.ensures.time
    (λ s left is leaves. torn_at_start (D.shown a) (D.may_leave a) place (length bytes) x s left durable x_is is leaves) behind)
    (λ s left is leaves. behind s left (sym c.sync.ensures.shown ∙ is) (c.sync.ensures.stops left leaves))

pub returns-in_err-write_at-clause-hands : goal.returns-in_err-write_at-clause-hands
unfolding IsStage IsTornStage
returns-in_err-write_at-clause-hands g c x x_is =
    let D = g.D.Disk in
    let met = g.met.D.Disk in
    let a = c.args.disk.now in
    let b = c.write_at.new.self in
    in_one_call (D.moment a) (D.moment b) (D.since a) (D.since b) (D.shown a) (D.shown b) (D.may_leave a) (D.may_leave b)
    (λ s left. IsStage (record { place = c.args.place; bytes = c.args.bytes.now } ∷ []) x s
    ⊎ (IsErr c.from_residual.result × (D.shown b ≡ Some s) × IsTornStage (record { place = c.args.place; bytes = c.args.bytes.now } ∷ []) x s))
    (λ s left at. met.only_now a s left at) c.write_at.ensures.time
    (λ s left is leaves. inl (inl (told_one (D.shown a) s x is x_is)))
    (λ s left is leaves. inr (c.from_residual.ensures.0, is, inl (c.in_err-write_at.ensures.torn x s x_is is)))

pub returns-clause-hands : goal.returns-clause-hands
unfolding IsStage
returns-clause-hands g c x x_is =
    let D = g.D.Disk in
    let met = g.met.D.Disk in
    let a = c.args.disk.now in
    let b = c.write_at.new.self in
    let e = c.sync.new.self in
    let P = λ (s left : List ℕ). (s ≡ x) ⊎ (s ≡ written_at c.args.place c.args.bytes.now x) in
    λ s left at. inl (in_next_call (D.moment a) (D.moment b) (D.moment e) (D.since b) (D.since e) (D.shown e) (D.may_leave e) P c.write_at.ensures.time.later c.sync.ensures.time
    (in_one_call (D.moment a) (D.moment b) (D.since a) (D.since b) (D.shown a) (D.shown b) (D.may_leave a) (D.may_leave b) P
    (λ s left at. met.only_now a s left at) c.write_at.ensures.time
    (λ s left is leaves. inl (told_one (D.shown a) s x is x_is))
    (λ s left is leaves. inr (c.in_ok-write_at.ensures.written x s x_is is)))
    (λ s left is leaves. inr (c.in_ok-write_at.ensures.written x s x_is (sym c.sync.ensures.shown ∙ is))) s left at)
