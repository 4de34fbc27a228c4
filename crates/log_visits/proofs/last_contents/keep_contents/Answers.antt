use Rattle.std.proofs.Common.{rules}
use Rattle.std.specs.Prelude.{is_some}
use Rattle.std.proofs.lemmas.Map.Made.{filter_same_pairs}
use Rattle.key_links.specs.Ended.{sealing_role}
use Rattle.public_fold.specs.KeyStep.{newest}
use Rattle.log_visits.proofs.IndexKept.{contents_kept, starts_kept}
use Rattle.log_visits.proofs.last_contents.keep_contents.Goals as goal

pub returns-clause-kept : goal.returns-clause-kept
returns-clause-kept c =
    contents_kept c.args.last.now c.retain.new.self c.args.state.now.keys
    (filter_same_pairs _ (λ e. is_some (newest c.args.state.now.keys.keys (sealing_role e.0.kind e.0.object))) _ (λ k v b w f called. search rules) _ _ c.retain.ensures.filtered)

pub returns-clause-starts : goal.returns-clause-starts
returns-clause-starts c = λ starts have.
    starts_kept c.args.state.now.keys c.args.last.now c.retain.new.self starts
    (contents_kept c.args.last.now c.retain.new.self c.args.state.now.keys
    (filter_same_pairs _ (λ e. is_some (newest c.args.state.now.keys.keys (sealing_role e.0.kind e.0.object))) _ (λ k v b w f called. search rules) _ _ c.retain.ensures.filtered))
    have
