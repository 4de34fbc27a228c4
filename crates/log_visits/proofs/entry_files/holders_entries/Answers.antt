use Rattle.std.proofs.Common.{◌<◌, ap, subst, ◌∙◌, arith}
use Rattle.std.specs.List.{AllPairs, flat_map}
use Rattle.std.proofs.lemmas.List.{take_all}
use Rattle.cry_base.specs.declared.ids.FolderId.{FolderId}
use Rattle.log_visits.specs.Entries.{entry_at}
use Rattle.log_visits.proofs.entry_files.holders_entries.Goals as goal

pub returns : goal.returns
returns c =
    let at = entry_at c.args.shape.now.tree c.args.grants.now.pairs c.args.h.0 in (
      c.loop-number.invariant
          ∙ ap (flat_map at) (take_all c.loop-number.number-index _ (omega arith) ∙ c.as_slice-number-items.ensures ∙ c.in_ok-granted.ensures.folders),
      subst (AllPairs (λ (a b : FolderId). a.0 < b.0)) c.in_ok-granted.ensures.folders c.in_ok-granted.ensures.ascending,
    )
