use Rattle.public_fold.proofs.GrantLaws.{grant_contents, grant_step}
use Rattle.public_fold.proofs.step_laws.grants_publish_one_link.Goals as goal

pub returns : goal.returns
returns c = record {
  links = λ at h f fit later. (grant_step at h f fit later).0;
  given = λ at h f fit later. (grant_step at h f fit later).1;
  contents = λ at h f fit. grant_contents at h f;
}
