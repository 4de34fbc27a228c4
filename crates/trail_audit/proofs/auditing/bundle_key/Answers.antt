use Rattle.std.proofs.Common.{List, ℕ, sym, ap, ◌∙◌}
use Rattle.cry_base.specs.declared.roles.Role.{Role}
use Rattle.public_fold.specs.KeyStep.{present}
use Rattle.role_graph.specs.Roles.{holder_role}
use Rattle.trail_audit.proofs.Revealed.{holder_key_is}
use Rattle.trail_audit.proofs.auditing.bundle_key.Goals as goal

pub returns-in-Holder : goal.returns-in-Holder
unfolding holder_role
returns-in-Holder c = λ r same.
    holder_key_is c.args.bundle.now c.in-Holder.holder c.in-Holder.key r c.serial_of.result.0 c.in-Holder.is
    (c.serial_of.ensures ∙ ap (λ (keys : List (Role × ℕ)). present keys (holder_role c.in-Holder.holder.0)) (sym same))
