use Rattle.public_fold.proofs.RevokeLaws.{last_revoke_step}
use Rattle.public_fold.proofs.step_laws.last_revocations_on_files_publish_nothing.Goals as goal

pub returns : goal.returns
returns c = record {
  links = λ at h f last. (last_revoke_step at h f last).0;
  given = λ at h f last. (last_revoke_step at h f last).1;
}
