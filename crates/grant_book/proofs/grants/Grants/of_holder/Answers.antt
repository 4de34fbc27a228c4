use Rattle.std.proofs.Common.{◌∙◌, map, ap, arith}
use Rattle.std.proofs.lemmas.List.{take_all}
use Rattle.cry_base.specs.Store.{GrantEntry}
use Rattle.grant_book.proofs.grants.Grants.of_holder.Goals as goal

pub returns-clause-folders : goal.returns-clause-folders
returns-clause-folders c =
    let read = c.grants_of-pair-items in
    let whole = take_all c.loop-pair.pair-index read.result.now (omega arith) in
    c.loop-pair.invariant ∙ ap (map (λ (e : GrantEntry). record { 0 = e.folder })) (whole ∙ read.ensures.grants)

pub returns-clause-ascending : goal.returns-clause-ascending
returns-clause-ascending c = rw (returns-clause-folders c) c.grants_of-pair-items.ensures.ascending
