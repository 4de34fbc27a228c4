use Rattle.public_fold.proofs.RevokeLaws.{file_revoke_step}
use Rattle.public_fold.proofs.step_laws.revocations_on_files_publish_three_links_and_one_for_each_grant_left.Goals as goal

pub returns : goal.returns
returns c = record {
  links = λ at h f clean none once left. (file_revoke_step at h f clean none once left).0;
  given = λ at h f clean none once left. (file_revoke_step at h f clean none once left).1;
}
