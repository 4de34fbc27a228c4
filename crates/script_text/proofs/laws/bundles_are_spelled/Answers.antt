use Rattle.script_text.proofs.BundleLines.{bundle_told, bundle_found}
use Rattle.script_text.proofs.laws.bundles_are_spelled.Goals as goal

pub returns : goal.returns
returns c = λ line bundle. (bundle_told line bundle, bundle_found line bundle)
