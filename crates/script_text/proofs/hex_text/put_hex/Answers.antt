use Rattle.std.proofs.Common.{◌≡◌, ◌*◌, ◌++◌, length, ℕ, List, [], ◌∷◌, take, get_or, append_assoc, ap, ◌∙◌, sym, arith}
use Rattle.std.proofs.lemmas.List.{append-nil}
use Rattle.hex.specs.Hex.{encode_lower}
use Rattle.cry_base.specs.Texts.{hex_of}
use Rattle.script_text.proofs.Results.{on_ok}
use Rattle.script_text.proofs.HexText.{hex_of_more, lower_byte, length-hex_of}
use Rattle.script_text.proofs.hex_text.put_hex.Goals as goal

pub loop-byte-init : goal.loop-byte-init
unfolding hex_of
loop-byte-init c = record { items = sym (append-nil c.args.out.now.items); spare = omega arith }

pub loop-byte-preserved : goal.loop-byte-preserved
loop-byte-preserved c =
    let i : ℕ = c.loop-byte.byte-index in
    let bytes : List ℕ = c.args.bytes.now in
    let one : length c.as_slice.result.now ≡ 1 = ap length c.as_slice.ensures in
    let fits : 2 ≡ 2 * length c.as_slice.result.now = omega (arith, one) in
    let digits : c.encode_to_slice.new.output ≡ hex_of (get_or bytes i 0 ∷ []) =
    on_ok c.encode_to_slice.result (c.encode_to_slice.new.output ≡ encode_lower c.as_slice.result.now) (c.encode_to_slice.ensures.fits.1 fits) c.encode_to_slice.ensures.written
    ∙ ap (λ (xs : List ℕ). encode_lower xs) c.as_slice.ensures
    ∙ lower_byte (get_or bytes i 0) (omega (arith, c.type_inv.bytes i)) in
    record {
      items = c.put_all.ensures.items
          ∙ ap (λ (xs : List ℕ). c.loop-byte.out.items ++ xs) digits
          ∙ ap (λ (xs : List ℕ). xs ++ hex_of (get_or bytes i 0 ∷ [])) c.loop-byte.invariant.items
          ∙ append_assoc c.args.out.now.items (hex_of (take i bytes)) (hex_of (get_or bytes i 0 ∷ []))
          ∙ ap (λ (xs : List ℕ). c.args.out.now.items ++ xs) (sym (hex_of_more bytes i 0 (omega arith)));
      spare = omega (arith, ap length digits, c.put_all.ensures.spare, c.loop-byte.invariant.spare, length-hex_of (get_or bytes i 0 ∷ []));
    }
