use Rattle.std.proofs.Common.{rules, ◌<◌, length, bit_xor}
use Rattle.std.proofs.lemmas.List.{get_or_default}
use Rattle.std.proofs.lemmas.List.Edits.{map_over_more}
use Rattle.hmac_seal.proofs.block.padded.Goals as goal

pub loop-byte-preserved : goal.loop-byte-preserved
loop-byte-preserved c =
    let in_block : c.loop-byte.byte-index < length c.args.block = search rules in
    let in_items : c.loop-byte.byte-index < length c.loop-byte.byte-items = search rules in
    map_over_more (λ byte. bit_xor byte c.args.pad) c.args.block _ _ _ in_block c.loop-byte.invariant
    (get_or_default _ _ 0 _ in_items)
