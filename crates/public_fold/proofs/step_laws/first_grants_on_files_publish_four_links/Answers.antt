use Rattle.public_fold.proofs.FirstGrants.{first_step}
use Rattle.public_fold.proofs.step_laws.first_grants_on_files_publish_four_links.Goals as goal

pub returns : goal.returns
returns c = record {
  links = λ at h f fit stands first. (first_step at h f fit stands first).0;
  given = λ at h f fit stands first. (first_step at h f fit stands first).1;
}
