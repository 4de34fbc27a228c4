use Rattle.std.proofs.Common.{◌∙◌, ℕ, ◌+◌, List, length, replicate, ap, sym, length-append}
use Rattle.journal_bytes.specs.Texting.{due_key}
use Rattle.command_plan.proofs.FoundTargets.{key_told}
use Rattle.command_plan.proofs.sizing.sealed_len.Goals as goal

pub returns-clause-length : goal.returns-clause-length
returns-clause-length c = λ s r found.
    ap (λ n. length c.as_slice.result.now + n) (c.key_len.ensures.length ∙ ap length (key_told s (replicate 32 0) found))
    ∙ ap (λ (t : List ℕ). length t + length (due_key r (replicate 32 0))) c.as_slice.ensures
    ∙ sym (length-append c.args.text.now.items (due_key r (replicate 32 0)))
