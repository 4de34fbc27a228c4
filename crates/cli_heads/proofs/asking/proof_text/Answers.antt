use Rattle.std.proofs.Common.{Some, subst, ap, ◌∙◌}
use Rattle.std.specs.List.{flat_map}
use Rattle.script_text.specs.Printing.{node_line}
use Rattle.log_heads.specs.Proving.{IsProof}
use Rattle.cli_heads.proofs.AskLemmas.{proof_told}
use Rattle.cli_heads.proofs.asking.proof_text.Goals as goal

pub returns-clause-told : goal.returns-clause-told
returns-clause-told c = λ hashes published.
    let proof = c.in-Some.proof in
    let told : IsProof (Some proof) c.args.batches hashes = subst (λ o. IsProof o c.args.batches hashes) c.in-Some.is published.proof_of in
    proof_told c.args.batches hashes proof.items c.in-Ok.text.items told.0 told.1 (c.in-Ok.ensures ∙ ap (flat_map node_line) c.as_slice.ensures)
