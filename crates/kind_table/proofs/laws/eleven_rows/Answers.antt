use Rattle.std.proofs.Common.{refl}
use Rattle.kind_table.proofs.ElevenRows.{clear, no_root, no_sealing}
use Rattle.kind_table.proofs.laws.eleven_rows.Goals as goal

pub returns : goal.returns
returns c = record { numbers = refl; no_root = no_root; clear = clear; no_sealing = no_sealing }
