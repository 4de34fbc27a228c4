use Rattle.handed_laws.proofs.Generated.{script_unveils}
use Rattle.handed_laws.proofs.laws.generated_scripts_keep_secrets.Goals as goal

pub returns : goal.returns
returns g c = λ status seed count left_before left_after written_before written_after before after made x y is_x is_y.
    script_unveils g.D.Disk status seed count left_before left_after before after written_before written_after made x y is_x is_y
