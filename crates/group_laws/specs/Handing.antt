-- What the replacement of a holder hands on. This project's own, docs/MODEL.md.
use Rattle.std.specs.Prelude.{◌≡◌, ◌≢◌, ◌↔◌, ℕ, ◌+◌, List, [], ◌∷◌, ◌++◌}
use Rattle.cry_base.specs.Sets.{In}
use Rattle.cry_base.specs.Store.{Store}
use Rattle.cry_base.specs.declared.commands.Refusal.{Refusal}
use Rattle.cry_base.specs.declared.commands.Reply.{Reply}
use Rattle.cry_base.specs.declared.commands.Reply.TheVariants as replies
use Rattle.journal_bytes.specs.Owning.{IsTreeOf}
use Rattle.log_visits.specs.View.{view}
use Rattle.role_graph.specs.Rights.{IsGranted, Who, granted_to}
use Rattle.role_graph.specs.Rights.Who.{TheHolder}

-- no command was refused
abbrev pub NoneIsRefused : List Reply → Type 0
NoneIsRefused some = (why : Refusal) → In (replies.Refused why) some → ⊥

-- All that stood stands, and one holder more was made. The old holder has no grant, the new one has those that the old one had, and
-- everybody else has theirs. So the old holder is shown nothing, the new one what the old one was shown, and everybody else what they
-- were.
pub record IsHandedOn (before after : Store) (old : ℕ) : Type 0 where
  pub tree : IsTreeOf after before
  pub key : List ℕ
  pub holders : after.holders ≡ before.holders ++ record { number = before.holders_made + 1; key = key } ∷ []
  pub holders_made : after.holders_made ≡ before.holders_made + 1
  pub old_has_none : granted_to after old ≡ []
  pub new_has_the_same : (f : ℕ) → IsGranted after (before.holders_made + 1) f ↔ IsGranted before old f
  pub others_have_theirs : (h : ℕ) → h ≢ old → h ≢ before.holders_made + 1 → (f : ℕ) → IsGranted after h f ↔ IsGranted before h f
  pub old_is_shown_nothing : view after (TheHolder old) ≡ []
  pub new_is_shown_the_same : view after (TheHolder (before.holders_made + 1)) ≡ view before (TheHolder old)
  pub others_are_shown_the_same : (who : Who) → who ≢ TheHolder old → who ≢ TheHolder (before.holders_made + 1)
      → view after who ≡ view before who
