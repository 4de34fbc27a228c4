use Rattle.std.proofs.Common.{rules}
use Rattle.std.proofs.lemmas.Map.Made.{filter_same_pairs}
use Rattle.log_visits.specs.Indexed.{stands}
use Rattle.log_visits.proofs.IndexKept.{links_kept}
use Rattle.role_graph.specs.PublicStore.{public_store}
use Rattle.log_visits.proofs.last_links.keep_links.Goals as goal

pub returns : goal.returns
returns c =
    let s = public_store c.args.state.now.tree c.args.state.now.pairs in
    links_kept c.args.last.now c.retain.new.self s
    (filter_same_pairs _ (λ e. stands s e.0) _ (λ k v b w f called. search rules) _ _ c.retain.ensures.filtered)
