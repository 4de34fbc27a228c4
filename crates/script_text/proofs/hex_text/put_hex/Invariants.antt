use Rattle.std.proofs.Common.{◌≡◌, ◌+◌, ◌*◌, ◌≤◌, ◌++◌, take}
use Rattle.cry_base.specs.Texts.{hex_of}
use Rattle.script_text.proofs.hex_text.put_hex.Given as goal

abbrev pub invariant-loop-byte : goal.invariant-loop-byte
invariant-loop-byte l = record {
  items : l.out.items ≡ l.fn.out.items ++ hex_of (take l.byte-index l.bytes);
  spare : l.fn.out.spare ≤ l.out.spare + 2 * l.byte-index;
}
