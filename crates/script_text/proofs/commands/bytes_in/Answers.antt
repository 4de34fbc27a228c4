use Rattle.script_text.proofs.Digits.{no_bytes, some_bytes}
use Rattle.script_text.proofs.commands.bytes_in.Goals as goal

pub returns-then-not-is_hex-clause-bad_line : goal.returns-then-not-is_hex-clause-bad_line
returns-then-not-is_hex-clause-bad_line c = λ _. no_bytes c.args.digits.now c.is_hex.result c.is_hex.ensures c.if-not-is_hex.true

pub returns-in_default-clause-no_memory : goal.returns-in_default-clause-no_memory
returns-in_default-clause-no_memory c = λ _. some_bytes c.args.digits.now c.is_hex.result c.is_hex.ensures c.if-not-is_hex.false
