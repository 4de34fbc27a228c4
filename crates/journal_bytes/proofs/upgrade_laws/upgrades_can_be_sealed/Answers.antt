use Rattle.journal_bytes.proofs.NextUpgrade.{upgrade_sealable}
use Rattle.journal_bytes.proofs.upgrade_laws.upgrades_can_be_sealed.Goals as goal

pub returns : goal.returns
returns c = λ m drawn valid. upgrade_sealable m valid drawn
