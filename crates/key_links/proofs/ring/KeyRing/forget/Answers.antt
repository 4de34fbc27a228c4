use Rattle.std.proofs.Common.{ap, ◌∙◌}
use Rattle.sorted_table.specs.Rows.{without}
use Rattle.key_links.specs.Ringed.{key_rank}
use Rattle.key_links.proofs.Ringing.{without_key}
use Rattle.key_links.proofs.ring.KeyRing.forget.Goals as goal

pub returns-clause-key : goal.returns-clause-key
returns-clause-key c =
    without_key c.args.self.now c.empty.new.self c.args.role (c.empty.ensures.keys ∙ ap (λ n. without key_rank c.args.self.now.keys n) c.of.ensures)
