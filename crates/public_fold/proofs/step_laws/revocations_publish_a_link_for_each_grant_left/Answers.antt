use Rattle.public_fold.proofs.RevokeLaws.{revoke_contents, revoke_step}
use Rattle.public_fold.proofs.step_laws.revocations_publish_a_link_for_each_grant_left.Goals as goal

pub returns : goal.returns
returns c = record {
  links = λ at h f below clean once. (revoke_step at h f below clean once).0;
  given = λ at h f below clean once. (revoke_step at h f below clean once).1;
  contents = revoke_contents;
}
