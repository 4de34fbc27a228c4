use Rattle.std.proofs.Common.{◌++◌, List, ap, ◌∙◌}
use Rattle.commit_journal.specs.Placed.{plain_body}
use Rattle.log_visits.specs.Placing.{PlacedContent, body_contents}
use Rattle.trail_audit.proofs.placed_records.contents_of.Goals as goal

pub returns : goal.returns
returns c =
    let p = c.args.placed.now in
    c.in_ok-add_contents_of.ensures ∙ ap (λ (cs : List PlacedContent). cs ++ body_contents p.batch p.place (plain_body p.body)) c.new-found.ensures
