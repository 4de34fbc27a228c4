use Rattle.std.proofs.Common.{ℕ, sym, ap, ◌∙◌}
use Rattle.std.proofs.lemmas.Bool.{false≢true}
use Rattle.cry_base.specs.declared.roles.Role.{Role}
use Rattle.public_fold.proofs.OwnSerials.{one_seen, seen_twice}
use Rattle.public_fold.proofs.sound_keys.have_own_serials.Goals as goal

pub returns-then-not-branch : goal.returns-then-not-branch
returns-then-not-branch c = (
  λ t. absurd (false≢true t),
  λ own. sym c.if-not-branch.true ∙ c.in_ok-add_new.ensures.new.1 (λ there.
      seen_twice c.args.keys.now c.loop-key.key-index c.key-item.result c.loop-key.seen.keys c.key.inside.serial.0 c.loop-key-test.true (ap (λ (key : Role × ℕ). key.1) (c.key.view_is ∙ c.key-item.is)) c.requires c.loop-key.invariant there own),
)

pub loop-key-preserved : goal.loop-key-preserved
loop-key-preserved c =
    one_seen c.args.keys.now c.loop-key.key-index c.key-item.result c.loop-key.seen.keys c.add_new.new.seen.keys c.key.inside.serial.0 c.loop-key-test.true (ap (λ (key : Role × ℕ). key.1) (c.key.view_is ∙ c.key-item.is))
    (c.in_ok-add_new.ensures.new.0 c.if-not-branch.false) c.in_ok-add_new.ensures.all c.loop-key.invariant
