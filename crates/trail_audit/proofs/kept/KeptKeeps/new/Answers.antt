use Rattle.std.proofs.Common.{List, [], refl, sym, subst}
use Rattle.log_visits.specs.Placing.{log_links}
use Rattle.trail_audit.specs.Grouped.{source_of_link}
use Rattle.trail_audit.specs.Seals.{AreSealsOf}
use Rattle.trail_audit.specs.declared.seals.Seals.{Seals}
use Rattle.trail_audit.proofs.Groups.{no_groups}
use Rattle.trail_audit.proofs.kept.KeptKeeps.new.Goals as goal

pub returns-clause-read : goal.returns-clause-read
unfolding log_links
returns-clause-read c = record { read = c.in_ok-reader.ensures.read; links = no_groups source_of_link _ c.new-2.ensures.empty; seals = subst (λ (s : List Seals). AreSealsOf s []) (sym c.new-3.ensures) tt; last = refl }
