use Rattle.std.proofs.Common.{map}
use Rattle.cry_base.specs.Requests.{request_of}
use Rattle.store_owner.specs.Sound.{own_store}
use Rattle.store_owner.proofs.SoundStores.{own_kept}
use Rattle.cli_sessions.proofs.ReplacementForms.{form_is, kept_as}
use Rattle.cli_sessions.proofs.owner_steps.OwnerApplies.replacing.Goals as goal

pub returns-clause-form : goal.returns-clause-form
returns-clause-form g c =
    form_is (λ l. map request_of l.items) c.shape.result.now.tree c.names.result.now c.grants.result.now c.args.holder.0 (own_store c.args.self.now)
    (kept_as c.args.self.now c.shape.result.now.tree c.names.result.now c.grants.result.now c.shape.ensures c.names.ensures c.grants.ensures.checks c.grants.ensures.pairs (own_kept c.args.self.now))
    c.commands_for.result c.commands_for.ensures
