use Rattle.std.proofs.Common.{◌≡◌, ◌-◌, ◌+◌, ◌≤◌, ℕ, List, [], ◌∷◌, ◌++◌, length, arith, ap, subst, ◌∙◌}
use Rattle.std.specs.Prelude.{IsErr}
use Rattle.std.proofs.lemmas.Result.{on_err_weaker, on_ok_weaker}
use Rattle.cry_io.proofs.ToldLemmas.{told_again}
use Rattle.cry_io.specs.Stops.{Torn, Written}
use Rattle.cry_io.specs.Told.{WhereBothTold}
use Rattle.batch_log.specs.Moments.{Throughout, TornInto}
use Rattle.batch_log.specs.Moments.InSteps.{Then}
use Rattle.batch_log.specs.Handing.{Hands, Write, all_written}
use Rattle.batch_log.specs.Steps.{Interrupts, IsHeldWhereShown, written_at}
use Rattle.batch_log.specs.Tokens.{GatedBatch, StagedBatch}
use Rattle.batch_log.proofs.Committed.{committed, held_in_opening, held_in_staging, held_in_unveiling, torn_in_opening, torn_in_staging, torn_in_unveiling}
use Rattle.batch_log.proofs.Handed.{hands_before, hands_then, shows_all}
use Rattle.batch_log.proofs.InOrder.{on_in_one}
use Rattle.batch_log.proofs.Moments.{goes_on_then, in_both}
use Rattle.batch_log.proofs.Staging.{stageable_long}
use Rattle.batch_log.proofs.WrittenMoments.{on_err}
use Rattle.batch_log.proofs.appending.append.Goals as goal

pub returns-in_err-staged-clause-interrupted : goal.returns-in_err-staged-clause-interrupted
returns-in_err-staged-clause-interrupted g c =
    on_err c.from_residual.result (λ x y was is. torn_in_staging c.args.end c.args.batch.now x y (c.in_err-staged.ensures.torn x y was is))

pub returns-in_err-staged-clause-stops : goal.returns-in_err-staged-clause-stops
returns-in_err-staged-clause-stops g c durable x x_is s left at =
    torn_in_staging c.args.end c.args.batch.now x left (c.in_err-staged.ensures.stops durable x x_is s left at).1

pub returns-in_err-staged-clause-shown : goal.returns-in_err-staged-clause-shown
returns-in_err-staged-clause-shown g c durable x x_is s left at =
    torn_in_staging c.args.end c.args.batch.now x s (c.in_err-staged.ensures.stops durable x x_is s left at).0

pub returns-in_err-staged-clause-ordered : goal.returns-in_err-staged-clause-ordered
returns-in_err-staged-clause-ordered g c durable x x_is ends =
    let D = g.D.Disk in
    on_in_one g.row.D.Denot D.moment D.since (IsHeldWhereShown c.args.end c.args.batch.now) c.args.disk.now c.stage.new.disk c.stage.ensures.later c.stage.ensures.time
    (λ s left t last at later. held_in_staging c.args.end c.args.batch.now x s last ends (c.in_err-staged.ensures.stops durable x x_is s left at).0)

pub returns-in_err-gated-clause-interrupted : goal.returns-in_err-gated-clause-interrupted
returns-in_err-gated-clause-interrupted g c =
    let D = g.D.Disk in
    let end = c.args.end in
    let batch = c.args.batch.now in
    let a = c.args.disk.now in
    let b = c.stage.new.disk in
    let whole : 45 ≤ length batch = let long = stageable_long batch c.requires.batch in omega (arith, long) in
    let staged_end : c.in_ok-staged.staged.end ≡ end = ap (λ (s : StagedBatch). s.end) c.in_ok-staged.ensures.staged in
    on_err c.from_residual-in_err-gated.result (λ x y x_is y_is.
    let one = told_again (D.shown a) (D.shown b) x c.in_ok-staged.ensures.told x_is in
    let first = c.in_ok-staged.ensures.written x one.0 x_is one.1 in
    torn_in_opening end batch x one.0 y whole first (subst (λ n. Torn (n - 1) 1 one.0 y) staged_end (c.in_err-gated.ensures.torn one.0 y one.1 y_is)))

pub returns-in_err-gated-clause-time : goal.returns-in_err-gated-clause-time
returns-in_err-gated-clause-time g c =
    let D = g.D.Disk in
    let a = c.args.disk.now in
    let b = c.stage.new.disk in
    let e = c.open_gate.new.disk in
    goes_on_then (D.moment a) (D.moment b) (D.since a) (D.since b) (D.since e) c.stage.ensures.later c.stage.ensures.time c.open_gate.ensures.time

pub returns-in_err-gated-clause-stops : goal.returns-in_err-gated-clause-stops
returns-in_err-gated-clause-stops g c durable x x_is =
    let D = g.D.Disk in
    let end = c.args.end in
    let batch = c.args.batch.now in
    let a = c.args.disk.now in
    let b = c.stage.new.disk in
    let whole : 45 ≤ length batch = let long = stageable_long batch c.requires.batch in omega (arith, long) in
    let staged_end : c.in_ok-staged.staged.end ≡ end = ap (λ (s : StagedBatch). s.end) c.in_ok-staged.ensures.staged in
    let one = told_again (D.shown a) (D.shown b) x c.in_ok-staged.ensures.told x_is in
    let first = c.in_ok-staged.ensures.written x one.0 x_is one.1 in
    let e = c.open_gate.new.disk in
    in_both (D.moment a) (D.moment b) (D.since b) (D.since e) (λ s left. Interrupts end batch x left) c.stage.ensures.later c.open_gate.ensures.time
    (λ s left at. let torn = c.in_ok-staged.ensures.stops durable x x_is s left at in torn_in_staging end batch x left torn.1)
    (λ s left at. let torn = subst (λ n. TornInto (n - 1) 1 one.0 s left) staged_end (c.in_err-gated.ensures.stops one.0 one.1 s left at) in
    torn_in_opening end batch x one.0 left whole first torn.1)

pub returns-in_err-gated-clause-shown : goal.returns-in_err-gated-clause-shown
returns-in_err-gated-clause-shown g c durable x x_is =
    let D = g.D.Disk in
    let end = c.args.end in
    let batch = c.args.batch.now in
    let a = c.args.disk.now in
    let b = c.stage.new.disk in
    let whole : 45 ≤ length batch = let long = stageable_long batch c.requires.batch in omega (arith, long) in
    let staged_end : c.in_ok-staged.staged.end ≡ end = ap (λ (s : StagedBatch). s.end) c.in_ok-staged.ensures.staged in
    let one = told_again (D.shown a) (D.shown b) x c.in_ok-staged.ensures.told x_is in
    let first = c.in_ok-staged.ensures.written x one.0 x_is one.1 in
    let e = c.open_gate.new.disk in
    in_both (D.moment a) (D.moment b) (D.since b) (D.since e) (λ s left. Interrupts end batch x s) c.stage.ensures.later c.open_gate.ensures.time
    (λ s left at. let torn = c.in_ok-staged.ensures.stops durable x x_is s left at in torn_in_staging end batch x s torn.0)
    (λ s left at. let torn = subst (λ n. TornInto (n - 1) 1 one.0 s left) staged_end (c.in_err-gated.ensures.stops one.0 one.1 s left at) in
    torn_in_opening end batch x one.0 s whole first torn.0)

pub returns-in_err-gated-clause-ordered : goal.returns-in_err-gated-clause-ordered
returns-in_err-gated-clause-ordered g c durable x x_is ends =
    let D = g.D.Disk in
    let end = c.args.end in
    let batch = c.args.batch.now in
    let a = c.args.disk.now in
    let b = c.stage.new.disk in
    let staged_end : c.in_ok-staged.staged.end ≡ end = ap (λ (s : StagedBatch). s.end) c.in_ok-staged.ensures.staged in
    let one = told_again (D.shown a) (D.shown b) x c.in_ok-staged.ensures.told x_is in
    let first = c.in_ok-staged.ensures.written x one.0 x_is one.1 in
    let e = c.open_gate.new.disk in
    let unopened : Throughout (λ s left. (last : List ℕ) → IsHeldWhereShown end batch s last) (D.since e (D.moment a)) =
    in_both (D.moment a) (D.moment b) (D.since b) (D.since e) (λ s left. (last : List ℕ) → IsHeldWhereShown end batch s last) c.stage.ensures.later c.open_gate.ensures.time
    (λ s left at last. let torn = c.in_ok-staged.ensures.stops durable x x_is s left at in held_in_staging end batch x s last ends torn.0)
    (λ s left at last. let torn = subst (λ n. TornInto (n - 1) 1 one.0 s left) staged_end (c.in_err-gated.ensures.stops one.0 one.1 s left at) in
    held_in_opening end batch x one.0 s last c.requires.batch ends first torn.0) in
    let earlier : D.moment a ≤ D.moment e = let l = c.stage.ensures.later in let m = c.open_gate.ensures.later in omega (arith, l, m) in
    on_in_one g.row.D.Denot D.moment D.since (IsHeldWhereShown end batch) a e earlier (returns-in_err-gated-clause-time g c) (λ s left t last at later. unopened s left at last)

pub returns-clause-committed : goal.returns-clause-committed
returns-clause-committed g c =
    let D = g.D.Disk in
    let end = c.args.end in
    let batch = c.args.batch.now in
    let a = c.args.disk.now in
    let b = c.stage.new.disk in
    let whole : 45 ≤ length batch = let long = stageable_long batch c.requires.batch in omega (arith, long) in
    let staged_end : c.in_ok-staged.staged.end ≡ end = ap (λ (s : StagedBatch). s.end) c.in_ok-staged.ensures.staged in
    let gated_end : c.in_ok-gated.gated.end ≡ end = ap (λ (s : GatedBatch). s.end) c.in_ok-gated.ensures.gated ∙ staged_end in
    on_ok_weaker c.unveil.result
    (λ third. λ x y x_is y_is. λ front behind gate ends split.
    let one = told_again (D.shown a) (D.shown b) x c.in_ok-staged.ensures.told x_is in
    let first = c.in_ok-staged.ensures.written x one.0 x_is one.1 in
    let e = c.open_gate.new.disk in
    let two = told_again (D.shown b) (D.shown e) one.0 c.in_ok-gated.ensures.told one.1 in
    let second = subst (λ n. Written (n - 1) (1 ∷ []) one.0 two.0) staged_end (c.in_ok-gated.ensures.written one.0 two.0 one.1 two.1) in
    committed end gate front behind batch c.args.veil.now x one.0 two.0 y ends whole c.told-veil split first second
    (subst (λ n. Written (n + 13) c.args.veil.now two.0 y) gated_end (third two.0 y two.1 y_is)))
    c.unveil.ensures.written

pub returns-clause-interrupted : goal.returns-clause-interrupted
returns-clause-interrupted g c =
    let D = g.D.Disk in
    let end = c.args.end in
    let batch = c.args.batch.now in
    let a = c.args.disk.now in
    let b = c.stage.new.disk in
    let whole : 45 ≤ length batch = let long = stageable_long batch c.requires.batch in omega (arith, long) in
    let staged_end : c.in_ok-staged.staged.end ≡ end = ap (λ (s : StagedBatch). s.end) c.in_ok-staged.ensures.staged in
    let gated_end : c.in_ok-gated.gated.end ≡ end = ap (λ (s : GatedBatch). s.end) c.in_ok-gated.ensures.gated ∙ staged_end in
    on_err_weaker c.unveil.result
    (λ third. λ x y x_is y_is.
    let one = told_again (D.shown a) (D.shown b) x c.in_ok-staged.ensures.told x_is in
    let first = c.in_ok-staged.ensures.written x one.0 x_is one.1 in
    let e = c.open_gate.new.disk in
    let two = told_again (D.shown b) (D.shown e) one.0 c.in_ok-gated.ensures.told one.1 in
    let second = subst (λ n. Written (n - 1) (1 ∷ []) one.0 two.0) staged_end (c.in_ok-gated.ensures.written one.0 two.0 one.1 two.1) in
    torn_in_unveiling end batch x one.0 two.0 y whole first second (subst (λ n. Torn (n + 13) 32 two.0 y) gated_end (third two.0 y two.1 y_is)))
    c.unveil.ensures.torn

pub returns-clause-time : goal.returns-clause-time
returns-clause-time g c =
    let D = g.D.Disk in
    let a = c.args.disk.now in
    let b = c.stage.new.disk in
    let e = c.open_gate.new.disk in
    let f = c.unveil.new.disk in
    let earlier : D.moment a ≤ D.moment e = let one = c.stage.ensures.later in let two = c.open_gate.ensures.later in omega (arith, one, two) in
    goes_on_then (D.moment a) (D.moment e) (D.since a) (D.since e) (D.since f) earlier
    (goes_on_then (D.moment a) (D.moment b) (D.since a) (D.since b) (D.since e) c.stage.ensures.later c.stage.ensures.time c.open_gate.ensures.time)
    c.unveil.ensures.time

pub returns-clause-stops : goal.returns-clause-stops
returns-clause-stops g c durable x x_is =
    let D = g.D.Disk in
    let end = c.args.end in
    let batch = c.args.batch.now in
    let a = c.args.disk.now in
    let b = c.stage.new.disk in
    let whole : 45 ≤ length batch = let long = stageable_long batch c.requires.batch in omega (arith, long) in
    let staged_end : c.in_ok-staged.staged.end ≡ end = ap (λ (s : StagedBatch). s.end) c.in_ok-staged.ensures.staged in
    let gated_end : c.in_ok-gated.gated.end ≡ end = ap (λ (s : GatedBatch). s.end) c.in_ok-gated.ensures.gated ∙ staged_end in
    let one = told_again (D.shown a) (D.shown b) x c.in_ok-staged.ensures.told x_is in
    let first = c.in_ok-staged.ensures.written x one.0 x_is one.1 in
    let e = c.open_gate.new.disk in
    let two = told_again (D.shown b) (D.shown e) one.0 c.in_ok-gated.ensures.told one.1 in
    let second = subst (λ n. Written (n - 1) (1 ∷ []) one.0 two.0) staged_end (c.in_ok-gated.ensures.written one.0 two.0 one.1 two.1) in
    let f = c.unveil.new.disk in
    let earlier : D.moment a ≤ D.moment e = let l = c.stage.ensures.later in let m = c.open_gate.ensures.later in omega (arith, l, m) in
    let P : List ℕ → List ℕ → Type 0 = (λ s left. Interrupts end batch x left) in
    in_both (D.moment a) (D.moment e) (D.since e) (D.since f) P earlier c.unveil.ensures.time
    (in_both (D.moment a) (D.moment b) (D.since b) (D.since e) P c.stage.ensures.later c.open_gate.ensures.time
    (λ s left at. let torn = c.in_ok-staged.ensures.stops durable x x_is s left at in torn_in_staging end batch x left torn.1)
    (λ s left at. let torn = subst (λ n. TornInto (n - 1) 1 one.0 s left) staged_end (c.in_ok-gated.ensures.stops one.0 one.1 s left at) in
    torn_in_opening end batch x one.0 left whole first torn.1))
    (λ s left at. let torn = subst (λ n. TornInto (n + 13) 32 two.0 s left) gated_end (c.unveil.ensures.stops two.0 two.1 s left at) in
    torn_in_unveiling end batch x one.0 two.0 left whole first second torn.1)

pub returns-clause-shown : goal.returns-clause-shown
returns-clause-shown g c durable x x_is =
    let D = g.D.Disk in
    let end = c.args.end in
    let batch = c.args.batch.now in
    let a = c.args.disk.now in
    let b = c.stage.new.disk in
    let whole : 45 ≤ length batch = let long = stageable_long batch c.requires.batch in omega (arith, long) in
    let staged_end : c.in_ok-staged.staged.end ≡ end = ap (λ (s : StagedBatch). s.end) c.in_ok-staged.ensures.staged in
    let gated_end : c.in_ok-gated.gated.end ≡ end = ap (λ (s : GatedBatch). s.end) c.in_ok-gated.ensures.gated ∙ staged_end in
    let one = told_again (D.shown a) (D.shown b) x c.in_ok-staged.ensures.told x_is in
    let first = c.in_ok-staged.ensures.written x one.0 x_is one.1 in
    let e = c.open_gate.new.disk in
    let two = told_again (D.shown b) (D.shown e) one.0 c.in_ok-gated.ensures.told one.1 in
    let second = subst (λ n. Written (n - 1) (1 ∷ []) one.0 two.0) staged_end (c.in_ok-gated.ensures.written one.0 two.0 one.1 two.1) in
    let f = c.unveil.new.disk in
    let earlier : D.moment a ≤ D.moment e = let l = c.stage.ensures.later in let m = c.open_gate.ensures.later in omega (arith, l, m) in
    let P : List ℕ → List ℕ → Type 0 = (λ s left. Interrupts end batch x s) in
    in_both (D.moment a) (D.moment e) (D.since e) (D.since f) P earlier c.unveil.ensures.time
    (in_both (D.moment a) (D.moment b) (D.since b) (D.since e) P c.stage.ensures.later c.open_gate.ensures.time
    (λ s left at. let torn = c.in_ok-staged.ensures.stops durable x x_is s left at in torn_in_staging end batch x s torn.0)
    (λ s left at. let torn = subst (λ n. TornInto (n - 1) 1 one.0 s left) staged_end (c.in_ok-gated.ensures.stops one.0 one.1 s left at) in
    torn_in_opening end batch x one.0 s whole first torn.0))
    (λ s left at. let torn = subst (λ n. TornInto (n + 13) 32 two.0 s left) gated_end (c.unveil.ensures.stops two.0 two.1 s left at) in
    torn_in_unveiling end batch x one.0 two.0 s whole first second torn.0)

pub returns-clause-ordered : goal.returns-clause-ordered
returns-clause-ordered g c durable x x_is ends =
    let D = g.D.Disk in
    let end = c.args.end in
    let batch = c.args.batch.now in
    let a = c.args.disk.now in
    let b = c.stage.new.disk in
    let whole : 45 ≤ length batch = let long = stageable_long batch c.requires.batch in omega (arith, long) in
    let staged_end : c.in_ok-staged.staged.end ≡ end = ap (λ (s : StagedBatch). s.end) c.in_ok-staged.ensures.staged in
    let gated_end : c.in_ok-gated.gated.end ≡ end = ap (λ (s : GatedBatch). s.end) c.in_ok-gated.ensures.gated ∙ staged_end in
    let one = told_again (D.shown a) (D.shown b) x c.in_ok-staged.ensures.told x_is in
    let first = c.in_ok-staged.ensures.written x one.0 x_is one.1 in
    let e = c.open_gate.new.disk in
    let two = told_again (D.shown b) (D.shown e) one.0 c.in_ok-gated.ensures.told one.1 in
    let second = subst (λ n. Written (n - 1) (1 ∷ []) one.0 two.0) staged_end (c.in_ok-gated.ensures.written one.0 two.0 one.1 two.1) in
    let f = c.unveil.new.disk in
    let earlier : D.moment a ≤ D.moment e = let l = c.stage.ensures.later in let m = c.open_gate.ensures.later in omega (arith, l, m) in
    let unopened : Throughout (λ s left. (last : List ℕ) → IsHeldWhereShown end batch s last) (D.since e (D.moment a)) =
    in_both (D.moment a) (D.moment b) (D.since b) (D.since e) (λ s left. (last : List ℕ) → IsHeldWhereShown end batch s last) c.stage.ensures.later c.open_gate.ensures.time
    (λ s left at last. let torn = c.in_ok-staged.ensures.stops durable x x_is s left at in held_in_staging end batch x s last ends torn.0)
    (λ s left at last. let torn = subst (λ n. TornInto (n - 1) 1 one.0 s left) staged_end (c.in_ok-gated.ensures.stops one.0 one.1 s left at) in
    held_in_opening end batch x one.0 s last c.requires.batch ends first torn.0) in
    let until = goes_on_then (D.moment a) (D.moment b) (D.since a) (D.since b) (D.since e) c.stage.ensures.later c.stage.ensures.time c.open_gate.ensures.time in
    Then
    (on_in_one g.row.D.Denot D.moment D.since (IsHeldWhereShown end batch) a e earlier until (λ s left t last at later. unopened s left at last))
    c.unveil.ensures.later
    c.unveil.ensures.time
    (λ s left t last at later. let torn = subst (λ n. TornInto (n + 13) 32 two.0 t last) gated_end (c.unveil.ensures.stops two.0 two.1 t last later) in
    held_in_unveiling end batch x one.0 two.0 s last whole ends first second torn.1)

pub returns-clause-written : goal.returns-clause-written
unfolding all_written
returns-clause-written g c =
    let D = g.D.Disk in
    let end = c.args.end in
    let batch = c.args.batch.now in
    let a = c.args.disk.now in
    let b = c.stage.new.disk in
    let e = c.open_gate.new.disk in
    let staged_end : c.in_ok-staged.staged.end ≡ end = ap (λ (s : StagedBatch). s.end) c.in_ok-staged.ensures.staged in
    let gated_end : c.in_ok-gated.gated.end ≡ end = ap (λ (s : GatedBatch). s.end) c.in_ok-gated.ensures.gated ∙ staged_end in
    on_ok_weaker c.unveil.result
    (λ third. λ x y x_is y_is.
    let one = told_again (D.shown a) (D.shown b) x c.in_ok-staged.ensures.told x_is in
    let first = c.in_ok-staged.ensures.written x one.0 x_is one.1 in
    let two = told_again (D.shown b) (D.shown e) one.0 c.in_ok-gated.ensures.told one.1 in
    let second = subst (λ n. Written (n - 1) (1 ∷ []) one.0 two.0) staged_end (c.in_ok-gated.ensures.written one.0 two.0 one.1 two.1) in
    subst (λ n. Written (n + 13) c.args.veil.now two.0 y) gated_end (third two.0 y two.1 y_is)
    ∙ ap (λ r. written_at (end + 13) c.args.veil.now r) (second ∙ ap (λ r. written_at (end - 1) (1 ∷ []) r) first))
    c.unveil.ensures.written

pub returns-in_err-staged-clause-hands : goal.returns-in_err-staged-clause-hands
returns-in_err-staged-clause-hands g c =
    let D = g.D.Disk in
    let a = c.args.disk.now in
    let b = c.stage.new.disk in
    let end = c.args.end in
    hands_before (record { place = end; bytes = c.args.batch.now } ∷ [])
    (record { place = end - 1; bytes = 1 ∷ [] } ∷ record { place = end + 13; bytes = c.args.veil.now } ∷ [])
    (IsErr c.stage.result) (IsErr c.from_residual.result) (D.shown a) (D.shown b) (D.since b (D.moment a)) (λ _. c.from_residual.ensures.0) c.stage.ensures.hands

pub returns-in_err-gated-clause-hands : goal.returns-in_err-gated-clause-hands
unfolding all_written
returns-in_err-gated-clause-hands g c =
    let D = g.D.Disk in
    let end = c.args.end in
    let a = c.args.disk.now in
    let b = c.stage.new.disk in
    let e = c.open_gate.new.disk in
    let staged_end : c.in_ok-staged.staged.end ≡ end = ap (λ (s : StagedBatch). s.end) c.in_ok-staged.ensures.staged in
    let first : List Write = record { place = end; bytes = c.args.batch.now } ∷ [] in
    let second : List Write = record { place = end - 1; bytes = 1 ∷ [] } ∷ [] in
    hands_before (first ++ second) (record { place = end + 13; bytes = c.args.veil.now } ∷ [])
    (IsErr c.open_gate.result) (IsErr c.from_residual-in_err-gated.result) (D.shown a) (D.shown e) (D.since e (D.moment a)) (λ _. c.from_residual-in_err-gated.ensures.0)
    (hands_then first second _ (IsErr c.open_gate.result) (D.shown a) (D.shown b) (D.shown e) (D.moment a) (D.moment b) (D.since b) (D.since e)
    (λ err. absurd (cc)) c.stage.ensures.later c.open_gate.ensures.time (shows_all first (D.shown a) (D.shown b) c.stage.ensures.told c.in_ok-staged.ensures.written)
    c.in_ok-staged.ensures.hands
    (subst (λ n. Hands (record { place = n - 1; bytes = 1 ∷ [] } ∷ []) (IsErr c.open_gate.result) (D.shown b) (D.shown e) (D.since e (D.moment b))) staged_end
    c.open_gate.ensures.hands))

pub returns-clause-hands : goal.returns-clause-hands
unfolding all_written
returns-clause-hands g c =
    let D = g.D.Disk in
    let end = c.args.end in
    let a = c.args.disk.now in
    let b = c.stage.new.disk in
    let e = c.open_gate.new.disk in
    let f = c.unveil.new.disk in
    let staged_end : c.in_ok-staged.staged.end ≡ end = ap (λ (s : StagedBatch). s.end) c.in_ok-staged.ensures.staged in
    let gated_end : c.in_ok-gated.gated.end ≡ end = ap (λ (s : GatedBatch). s.end) c.in_ok-gated.ensures.gated ∙ staged_end in
    let first : List Write = record { place = end; bytes = c.args.batch.now } ∷ [] in
    let second : List Write = record { place = end - 1; bytes = 1 ∷ [] } ∷ [] in
    let third : List Write = record { place = end + 13; bytes = c.args.veil.now } ∷ [] in
    hands_then first (second ++ third) _ (IsErr c.unveil.result) (D.shown a) (D.shown b) (D.shown f) (D.moment a) (D.moment b) (D.since b) (D.since f)
    (λ err. absurd (cc)) c.stage.ensures.later (goes_on_then (D.moment b) (D.moment e) (D.since b) (D.since e) (D.since f) c.open_gate.ensures.later c.open_gate.ensures.time c.unveil.ensures.time)
    (shows_all first (D.shown a) (D.shown b) c.stage.ensures.told c.in_ok-staged.ensures.written) c.in_ok-staged.ensures.hands
    (hands_then second third _ (IsErr c.unveil.result) (D.shown b) (D.shown e) (D.shown f) (D.moment b) (D.moment e) (D.since e) (D.since f)
    (λ err. absurd (cc)) c.open_gate.ensures.later c.unveil.ensures.time
    (shows_all second (D.shown b) (D.shown e) c.open_gate.ensures.told
    (subst (λ n. WhereBothTold (D.shown b) (D.shown e) (Written (n - 1) (1 ∷ []))) staged_end c.in_ok-gated.ensures.written))
    (subst (λ n. Hands (record { place = n - 1; bytes = 1 ∷ [] } ∷ []) _ (D.shown b) (D.shown e) (D.since e (D.moment b))) staged_end c.in_ok-gated.ensures.hands)
    (subst (λ n. Hands (record { place = n + 13; bytes = c.args.veil.now } ∷ []) (IsErr c.unveil.result) (D.shown e) (D.shown f) (D.since f (D.moment e))) gated_end
    c.unveil.ensures.hands))
