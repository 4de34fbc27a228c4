use Rattle.public_fold.proofs.NewKeyLinks.{fitting_edges, given_roles, published_links, renewed_roles}
use Rattle.public_fold.proofs.step_laws.steps_publish_a_link_for_each_edge_at_a_new_key.Goals as goal

pub returns : goal.returns
returns c = record { renewed = renewed_roles; keys = given_roles; links = published_links; edges = fitting_edges }
