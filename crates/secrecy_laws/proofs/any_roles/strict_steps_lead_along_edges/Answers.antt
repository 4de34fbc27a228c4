use Rattle.secrecy_laws.proofs.Leading.{strict_step_leads, whole_step_leads}
use Rattle.secrecy_laws.proofs.any_roles.strict_steps_lead_along_edges.Goals as goal

pub returns : goal.returns
returns g c = record {
  strict = λ same root old m new tells was step fits before renews. strict_step_leads same tells root old m new was step fits before renews;
  whole = λ same root old m new tells was step fits renews. whole_step_leads same tells root old m new was step fits renews;
}
