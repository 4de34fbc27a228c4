use Rattle.std.proofs.Common.{ap, ◌∙◌}
use Rattle.std.specs.Prelude.{ok_or}
use Rattle.script_text.specs.declared.fault.LineFault.TheVariants.{BadLine}
use Rattle.script_text.proofs.BundleLines.{read_told, bundle_found}
use Rattle.script_text.proofs.reading.read_bundle.Goals as goal

pub returns-clause-found : goal.returns-clause-found
returns-clause-found c = read_told c.args.bytes.now c.bundle_in.result c.ok_or.result BadLine c.ok_or.ensures.value c.bundle_in.ensures

pub returns-clause-only : goal.returns-clause-only
returns-clause-only c = λ bundle is. c.ok_or.ensures.value ∙ ap (λ found. ok_or found BadLine) (c.bundle_in.ensures ∙ bundle_found c.args.bytes.now bundle is)
