-- A checkpoint is spelled in at most one way.
use Rattle.std.proofs.Common.{◌≡◌, refl, sym, ◌∙◌}
use Rattle.index_format.specs.Plain.{IndexBody}
use Rattle.log_index.specs.Plain.{PlainCheckpoint}
use Rattle.log_index.specs.Sound.{SpellsBody, SpellsCheckpoint}
use Rattle.log_index.specs.declared.checkpoint.Checkpoint.{Checkpoint}
use Rattle.public_fold.proofs.SpelledOnce.{spelled_once as state_once}

body_once : (c : Checkpoint) (a b : IndexBody) → SpellsBody c a → SpellsBody c b → a ≡ b
body_once c a b one two =
    rw (state_once c.state a.state b.state one.state two.state, one.links ∙ sym two.links, one.contents ∙ sym two.contents) refl

pub spelled_once : (c : Checkpoint) (p q : PlainCheckpoint) → SpellsCheckpoint c p → SpellsCheckpoint c q → p ≡ q
spelled_once c p q one two = rw (one.batch ∙ sym two.batch, one.tag ∙ sym two.tag, body_once c p.body q.body one.body two.body) refl
