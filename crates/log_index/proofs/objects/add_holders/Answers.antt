use Rattle.std.proofs.Common.{◌+◌, ◌++◌, List, [], ◌∷◌, map, sym, ap, ◌∙◌, append_assoc, arith}
use Rattle.std.specs.List.{range_with_len}
use Rattle.std.proofs.lemmas.List.FromFn.{map-range_with_len_more}
use Rattle.log_index.specs.Objects.{holder_object}
use Rattle.log_index.specs.declared.objects.Object.{Object}
use Rattle.log_index.proofs.objects.add_holders.Goals as goal

pub loop-before-preserved : goal.loop-before-preserved
loop-before-preserved c =
    let n = c.loop-before.before in
    let start = c.args.all.now.items in
    let front = map holder_object (range_with_len 1 n) in
    c.in_ok-push.ensures.items
    ∙ ap (λ (l : List Object). l ++ holder_object (n + 1) ∷ []) c.loop-before.invariant
    ∙ append_assoc start front (holder_object (n + 1) ∷ [])
    ∙ ap (λ l. start ++ l) (sym (map-range_with_len_more holder_object 1 n (n + 1) (omega arith)))
