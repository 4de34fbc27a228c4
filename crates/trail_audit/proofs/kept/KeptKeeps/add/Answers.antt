use Rattle.std.proofs.Common.{◌++◌, ◌∷◌, [], List, sym, subst, ◌∙◌}
use Rattle.std.proofs.lemmas.List.{length-append}
use Rattle.commit_journal.specs.Placed.{PlainPlaced, plain_placed}
use Rattle.log_visits.specs.Placing.{body_links, log_links}
use Rattle.trail_audit.specs.Grouped.{HasGroups, source_of_link}
use Rattle.trail_audit.specs.Seals.{AreSeals, AreSealsOf}
use Rattle.trail_audit.specs.declared.seals.Seals.{Seals}
use Rattle.trail_audit.proofs.Listed.{parts_added}
use Rattle.trail_audit.proofs.Sealings.{seals_added}
use Rattle.trail_audit.proofs.kept.KeptKeeps.add.Goals as goal

pub add-requires-clause-next : goal.add-requires-clause-next
add-requires-clause-next c = let n = c.requires.next in (n.0, n.1.read, n.2, n.3)

pub returns-clause-read : goal.returns-clause-read
unfolding log_links
returns-clause-read c = λ log kept epochs batch.
    let p = plain_placed c.args.placed.now in
    record {
      read = c.in_ok-reader.ensures.read log kept.read epochs batch;
      links = subst (HasGroups source_of_link c.add_links_of.new.found) (parts_added (λ (b : PlainPlaced). body_links b.batch b.place b.body) log p) (c.in_ok-add_links_of.ensures (log_links log) kept.links);
      seals = subst (λ (s : List Seals). AreSealsOf s (log ++ p ∷ [])) (sym c.in_ok-push.ensures.items) (seals_added c.args.self.seals.items log _ p kept.seals (subst (AreSeals c.in_ok-seals_of.field-0) (c.as_slice.ensures ∙ c.in_ok-contents.ensures) c.in_ok-seals_of.ensures));
      last = batch ∙ sym (length-append log (p ∷ []));
    }
