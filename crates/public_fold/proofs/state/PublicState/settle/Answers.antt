use Rattle.std.proofs.Common.{◌≡◌, ℕ, List, ◌++◌, inr, sym, ◌∙◌, subst}
use Rattle.std.specs.Prelude.{min}
use Rattle.cry_base.specs.Store.{Store}
use Rattle.cry_base.specs.declared.roles.Role.{Role}
use Rattle.record_format.specs.Told.{told_note}
use Rattle.move_plan.specs.Seen.{seen_store}
use Rattle.public_fold.specs.Keyed.{IsKept}
use Rattle.public_fold.specs.KeyStep.{is_strict, keys_without}
use Rattle.public_fold.specs.Preparing.{CanSettle, PreparedView, settled}
use Rattle.public_fold.specs.Standing.{IsSeenAs, PublicView, public_store_of, stand_of}
use Rattle.public_fold.proofs.HeldMarks.{settled_kept}
use Rattle.public_fold.proofs.SeenAfter.{seen}
use Rattle.public_fold.proofs.StaysRooted.{seen_rooted}
use Rattle.public_fold.proofs.state.PublicState.settle.Goals as goal

pub invariant_of-self : goal.invariant_of-self
invariant_of-self c =
    let i = c.self.inside in
    let r = c.ready.inside in
    let note = told_note r.note in
    let v : PublicView = record {
      tree = i.shape.tree;
      checks = i.grants.checks;
      pairs = i.grants.pairs;
      keys = record { keys = i.keys.keys; dirty = i.dirty; epoch = i.epoch; count = i.count; version = i.version };
      spare = min i.shape.spare i.grants.spare;
      key_spare = i.keys.spare;
    } in
    let p : PreparedView = record { note = r.note; skeleton = r.skeleton; gone = r.left.gone.items; dirty = r.left.dirty; epoch = r.left.epoch; count = r.left.count; version = r.left.version } in
    let can : CanSettle v p = subst (λ (w : PublicView). CanSettle w p) (sym c.self.view_is) (subst (λ (q : PreparedView). CanSettle c.args.self.now q) (sym c.ready.view_is) c.requires.can) in
    let sees : IsSeenAs v (stand_of v) = subst (λ (w : PublicView). IsSeenAs w (stand_of w)) (sym c.self.view_is) c.is_seen.ensures in
    let rooted = seen_rooted (is_strict v.keys) i.shape.tree i.grants.checks i.grants.pairs note c.self.invariant.stands can.note_fits in
    let kept = settled_kept v p sees can c.self.invariant (inr rooted) in
    let store : public_store_of (settled v p) ≡ seen_store c.change_store.new.shape.tree c.change_store.new.grants =
    λ k. seen (sym c.change_store.ensures.tree k) (sym c.change_store.ensures.checks k) (sym c.change_store.ensures.pairs k) in
    let keys : c.take.new.self.keys ≡ (settled v p).keys.keys = c.take.ensures.keys ∙ (λ k. c.as_slice.ensures k ++ keys_without (c.as_slice-2.ensures k) i.keys.keys) in
    subst (λ (ks : List (Role × ℕ)). IsKept (seen_store c.change_store.new.shape.tree c.change_store.new.grants) ks r.left.dirty) (sym keys)
    (subst (λ (s : Store). IsKept s (settled v p).keys.keys r.left.dirty) store kept)
