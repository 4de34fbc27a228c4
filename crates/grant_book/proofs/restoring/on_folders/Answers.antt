use Rattle.std.proofs.Common.{◌≡◌, ◌+◌, ◌<◌, ◌^◌, All, take, [], ◌∷◌, ◌++◌, ap, sym, ◌∙◌, subst}
use Rattle.std.proofs.lemmas.List.{take_more}
use Rattle.cry_base.specs.Store.{GrantEntry}
use Rattle.grant_book.proofs.Restored.{All-more}
use Rattle.grant_book.proofs.restoring.on_folders.Goals as goal

pub loop-pair-preserved : goal.loop-pair-preserved
loop-pair-preserved c =
    let i = c.loop-pair.pair-index in
    let pairs = c.args.pairs.now in
    let pair = c.pair-item.result in
    let more : take (i + 1) pairs ≡ take i pairs ++ pair ∷ [] = take_more pairs i pair c.loop-pair-test.true ∙ ap (λ (e : GrantEntry). take i pairs ++ e ∷ []) (sym c.pair-item.is) in
    record {
      pairs = rw (c.in_ok-push.ensures.items, c.loop-pair.invariant.pairs, c.on_folder.ensures.pair) (sym more);
      numbered = subst (All (λ (e : GrantEntry). e.folder < 2 ^ 32)) (sym more) (All-more GrantEntry (λ (e : GrantEntry). e.folder < 2 ^ 32) (take i pairs) pair c.loop-pair.invariant.numbered c.on_folder.ensures.numbered);
    }
