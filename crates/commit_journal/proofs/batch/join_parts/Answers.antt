use Rattle.std.proofs.Common.{◌≡◌, ◌≤◌, [], ◌++◌, length, drop, arith, ap, ◌∙◌}
use Rattle.std.proofs.Math.ListN.{drop_of_length-le}
use Rattle.std.proofs.lemmas.List.{append-nil, length-drop}
use Rattle.commit_journal.proofs.BatchLemmas.{two_parts}
use Rattle.commit_journal.proofs.batch.join_parts.Goals as goal

pub returns : goal.returns
returns c =
    let front = c.args.front.now in
    let back = c.args.back.now in
    let behind = drop 45 c.args.batch.now in
    let short : length behind ≤ 65 = omega (arith, length-drop 45 c.args.batch.now, c.told-batch) in
    let nothing : drop 65 behind ≡ [] = drop_of_length-le behind short in
    two_parts 45 65 front back c.copy_from_slice.new.self c.copy_from_slice-2.new.self behind []
    c.copy_from_slice.ensures.after c.copy_from_slice-2.ensures.after (omega (arith, c.told-front)) nothing
    ∙ ap (λ r. front ++ r) (append-nil back)
