use Rattle.std.proofs.Common.{sym}
use Rattle.script_text.proofs.HexText.{hex_of_is}
use Rattle.script_text.proofs.laws.hex_is_in_lower_case.Goals as goal

pub returns : goal.returns
returns c = λ bytes fits. sym (hex_of_is bytes fits)
