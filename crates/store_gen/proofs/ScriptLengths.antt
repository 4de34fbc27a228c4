-- How long a generated script is.
use Rattle.std.proofs.Common.{◌≡◌, ℕ, zero, suc, ◌+◌, ◌*◌, ◌≤◌, [], ◌∷◌, length, ap, arith, length-append}
use Rattle.std.specs.Prelude.{decimal}
use Rattle.cry_base.specs.Stepping.{effect}
use Rattle.cry_base.specs.Store.{Store}
use Rattle.cry_base.specs.Texts.{ended_lines, hex_of}
use Rattle.store_gen.specs.Rule.{asks, advanced, change_of, drawn, drawn_requests, first, opening, script_of}
use Rattle.store_gen.specs.Spelling.{spelled}
use Rattle.store_gen.specs.Standing.{Stands}
use Rattle.store_gen.specs.declared.change.Change.{Change}
use Rattle.store_gen.specs.declared.change.Change.TheVariants as change
use Rattle.store_gen.specs.declared.generator.Generator.{Generator}
use Rattle.store_gen.proofs.Accepted.{Suits, kept, suited, advanced_stands}
use Rattle.store_gen.proofs.Lines.{lines_of, one_digit, script_parts}
use Rattle.store_gen.proofs.Opening.{opened_store, opened_stands}

-- a line of a change has 15 bytes at most, without its newline
change_short : (g : Generator) (c : Change) → Suits g c → length (spelled (asks c)) ≤ 15
unfolding hex_of
change_short g (change.Write folder file byte) suits = omega arith
change_short g (change.Grant who folder) suits =
    let digit : length (decimal (who + 1)) ≡ 1 = ap length (one_digit who suits.0) in
    let whole = length-append (decimal (who + 1)) (32 ∷ 47 ∷ 100 ∷ (48 + folder) ∷ []) in
    omega (arith, digit, whole)
change_short g (change.Revoke who folder) suits =
    let digit : length (decimal (who + 1)) ≡ 1 = ap length (one_digit who suits.0) in
    let whole = length-append (decimal (who + 1)) (32 ∷ 47 ∷ 100 ∷ (48 + folder) ∷ []) in
    omega (arith, digit, whole)
change_short g (change.Move file from into) suits = omega arith

drawn_short : (count : ℕ) (g : Generator) (s : Store) → Stands g s → length (lines_of (drawn_requests count g)) ≤ 16 * count
unfolding ended_lines drawn_requests
drawn_short zero g s stands = omega arith
drawn_short (suc count) g s stands =
    let now = advanced_stands g s stands in
    let suits = suited (advanced g) now.ready in
    let line = kept (advanced g) s 1 now (omega arith) (change_of (advanced g)) suits in
    let short = change_short (advanced g) (change_of (advanced g)) suits in
    let rest = drawn_short count (drawn g) (effect s (asks (change_of (advanced g))) []) (line.1 []) in
    let whole = length-append (spelled (asks (change_of (advanced g)))) (10 ∷ lines_of (drawn_requests count (drawn g))) in
    omega (arith, short, rest, whole)

opening_short : length (lines_of opening) ≤ 320
unfolding opening ended_lines hex_of
opening_short = omega arith

pub script_short : (seed count : ℕ) → length (script_of seed count) ≤ 16 * (20 + count)
script_short seed count =
    let parts = ap length (script_parts seed count) in
    let whole = length-append (lines_of opening) (lines_of (drawn_requests count (first seed))) in
    let begun = opening_short in
    let others = drawn_short count (first seed) (opened_store [] [] [] []) (opened_stands seed [] [] [] []) in
    omega (arith, parts, whole, begun, others)
