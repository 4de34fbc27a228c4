-- What the contents of batches are sealed under, as an audit keeps it. This project's own, docs/FORMAT.md, "Records".
use Rattle.std.specs.Prelude.{◌≡◌, List, [], ◌∷◌}
use Rattle.commit_journal.specs.Placed.{PlainPlaced}
use Rattle.log_visits.specs.Placing.{PlacedContent, body_contents}
use Rattle.trail_audit.specs.Grouped.{content_source}
use Rattle.trail_audit.specs.declared.seals.Seals.{Seals}
use Rattle.trail_audit.specs.declared.seals.Seals.TheVariants.{Nothing, Short, One, Several}

-- the contents are sealed so
abbrev pub AreSeals : Seals → List PlacedContent → Type 0
AreSeals Nothing contents = contents ≡ []
AreSeals (Short content) contents = contents ≡ content ∷ []
AreSeals (One source) contents = (c : PlacedContent) × (contents ≡ c ∷ []) × (content_source c.content ≡ source)
AreSeals Several contents = Unit {0}

-- the contents of each batch of a log are
abbrev pub AreSealsOf : List Seals → List PlainPlaced → Type 0
AreSealsOf [] [] = Unit {0}
AreSealsOf (seals ∷ more) (p ∷ log) = AreSeals seals (body_contents p.batch p.place p.body) × AreSealsOf more log
AreSealsOf [] (p ∷ log) = ⊥
AreSealsOf (seals ∷ more) [] = ⊥
