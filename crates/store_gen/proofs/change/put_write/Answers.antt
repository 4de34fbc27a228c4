use Rattle.std.proofs.Common.{◌≡◌, ◌*◌, ℕ, List, [], ◌∷◌, length, append_assoc, ap, ◌∙◌, arith}
use Rattle.hex.specs.Hex.{encode_lower}
use Rattle.cry_base.specs.Texts.{hex_of}
use Rattle.script_text.proofs.Results.{on_ok}
use Rattle.script_text.proofs.HexText.{lower_byte}
use Rattle.store_gen.proofs.change.put_write.Goals as goal

pub returns-clause-items : goal.returns-clause-items
returns-clause-items c =
    let one : length c.as_slice.result.now ≡ 1 = ap length c.as_slice.ensures in
    let fits : 2 ≡ 2 * length c.as_slice.result.now = omega (arith, one) in
    let digits : c.encode_to_slice.new.output ≡ hex_of (c.args.byte ∷ []) =
    on_ok c.encode_to_slice.result (c.encode_to_slice.new.output ≡ encode_lower c.as_slice.result.now) (c.encode_to_slice.ensures.fits.1 fits) c.encode_to_slice.ensures.written
    ∙ ap (λ (xs : List ℕ). encode_lower xs) c.as_slice.ensures
    ∙ lower_byte c.args.byte c.requires.small.2 in
    simp (c.put_all-3.ensures.items, c.put-3.ensures.items, c.put-2.ensures.items, c.put_all-2.ensures.items, c.put.ensures.items, c.put_all.ensures.items, digits, append_assoc)
