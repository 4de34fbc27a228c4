use Rattle.std.proofs.Common.{◌++◌, take, sym, subst, arith}
use Rattle.std.proofs.lemmas.List.{append-nil}
use Rattle.log_visits.specs.Indexed.{HasLastLink}
use Rattle.log_visits.specs.Placing.{links_at}
use Rattle.log_visits.proofs.Lasts.{item_at, more_links}
use Rattle.log_visits.proofs.last_links.note_links.Goals as goal

pub loop-link-init : goal.loop-link-init
unfolding links_at
loop-link-init c = record {
  place = omega arith;
  noted = λ q so_far has. subst (HasLastLink c.args.last.now q) (sym (append-nil so_far)) has;
}

pub loop-link-preserved : goal.loop-link-preserved
loop-link-preserved c = record {
  place = omega arith;
  noted = λ q so_far has.
      let links = c.args.links.now in
      let i = c.loop-link.link-index in
      more_links c.note_link.new.last q so_far c.args.batch c.args.first c.loop-link.at links i _ c.loop-link-test.true c.loop-link.invariant.place (item_at links i _ _ c.loop-link-test.true)
      (c.in_ok-note_link.ensures q (so_far ++ links_at c.args.batch c.args.first (take i links)) (c.loop-link.invariant.noted q so_far has));
}
