use Rattle.std.proofs.Common.{◌≡◌, ℕ, List, Err, ◌++◌, ap, length, refl, subst, sym, ◌∙◌}
use Rattle.std.proofs.lemmas.Result.{IfErr-at_err}
use Rattle.cry_io.specs.Told.{WhereBothTold}
use Rattle.commit_journal.proofs.StoppedCommits.{stays}
use Rattle.cry_base.specs.Listed.{Listed}
use Rattle.store_owner.specs.declared.apply_fault.ApplyFault.{ApplyFault}
use Rattle.store_owner.specs.Drawing.{AreKeys, DrawsKeys, IsFillFault, joined}
use Rattle.store_owner.proofs.MadePieces.{makes_all, short_of_six, six_are_gone, six_pieces}
use Rattle.store_owner.proofs.owner.Owner.make.Goals as goal

pub returns-clause-made : goal.returns-clause-made
returns-clause-made g c =
    let D = g.D.Disk in
    let left = g.R.Source.left in
    let a = c.args.disk.now in
    let b = c.made.new.disk in
    let drawn = c.as_slice.result.now in
    let whole = c.as_slice.ensures in
    makes_all c.made.result c.args.limits (joined drawn) (left c.args.random.now) (left c.fill.new.random) (D.shown a) (D.shown b) (D.since b (D.moment a))
    c.made.ensures.made c.made.ensures.shows c.made.ensures.handed
    (six_pieces drawn (ap length whole ∙ c.in-Ok-fill.ensures.count ∙ c.in-Ok-reserve.ensures) (subst AreKeys (sym whole) c.in-Ok-fill.ensures.sizes)).long
    (λ x y was now. c.in-Ok-fill.ensures.bytes x y was now ∙ ap (λ (d : List (List ℕ)). joined d ++ y) (sym whole)) c.made.ensures.hands

pub returns-clause-drew : goal.returns-clause-drew
returns-clause-drew g c = λ failed x y a b.
    let whole = c.as_slice.ensures in
    six_are_gone c.as_slice.result.now (ap length whole ∙ c.in-Ok-fill.ensures.count ∙ c.in-Ok-reserve.ensures) (subst AreKeys (sym whole) c.in-Ok-fill.ensures.sizes) x y
    (c.in-Ok-fill.ensures.bytes x y a b ∙ ap (λ (d : List (List ℕ)). joined d ++ y) (sym whole))

pub returns-in-Err-clause-short : goal.returns-in-Err-clause-short
returns-in-Err-clause-short g c = λ short need is.
    let left = g.R.Source.left in
    short_of_six c.in-Err.fault (left c.args.random.now) (left c.fill.new.random) short need
    (subst (λ (n : ℕ). IsFillFault {T = Listed (List ℕ)} n (Err c.in-Err.fault)) c.in-Ok-reserve.ensures c.in-Err.ensures.faults)
    (subst (λ (n : ℕ). WhereBothTold (left c.args.random.now) (left c.fill.new.random) (DrawsKeys n (Err c.in-Err.fault))) c.in-Ok-reserve.ensures c.in-Err.ensures.bytes)
    (IfErr-at_err (λ (f : ApplyFault). c.in-Err.fault ≡ f) is refl)

pub returns-in_default-clause-time : goal.returns-in_default-clause-time
returns-in_default-clause-time g c =
    let D = g.D.Disk in
    let a = c.args.disk.now in
    stays (D.moment a) (D.since a) (D.shown a) (D.may_leave a) (λ s left at. g.met.D.Disk.only_now a s left at)
    (λ t s left early is leaves. g.met.D.Disk.counts_now a t s left early is leaves)

pub returns-in_default-reserve-clause-time : goal.returns-in_default-reserve-clause-time
returns-in_default-reserve-clause-time g c =
    let D = g.D.Disk in
    let a = c.args.disk.now in
    stays (D.moment a) (D.since a) (D.shown a) (D.may_leave a) (λ s left at. g.met.D.Disk.only_now a s left at)
    (λ t s left early is leaves. g.met.D.Disk.counts_now a t s left early is leaves)

pub returns-in-Err-clause-time : goal.returns-in-Err-clause-time
returns-in-Err-clause-time g c =
    let D = g.D.Disk in
    let a = c.args.disk.now in
    stays (D.moment a) (D.since a) (D.shown a) (D.may_leave a) (λ s left at. g.met.D.Disk.only_now a s left at)
    (λ t s left early is leaves. g.met.D.Disk.counts_now a t s left early is leaves)

pub returns-clause-cut_short : goal.returns-clause-cut_short
returns-clause-cut_short g c = λ failed.
    let whole = c.as_slice.ensures in
    record {
      drawn = joined c.as_slice.result.now;
      all_drawn = (six_pieces c.as_slice.result.now (ap length whole ∙ c.in-Ok-fill.ensures.count ∙ c.in-Ok-reserve.ensures) (subst AreKeys (sym whole) c.in-Ok-fill.ensures.sizes)).long;
      next_bytes = λ x y a b. c.in-Ok-fill.ensures.bytes x y a b ∙ ap (λ (d : List (List ℕ)). joined d ++ y) (sym whole);
      hands = c.made.ensures.hands;
      handed = λ never. absurd never;
    }
