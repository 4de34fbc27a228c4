use Rattle.cry_base.proofs.Versions.{accepted_in, refusal_of_others, refusal_strict, refused_in_first}
use Rattle.cry_base.proofs.laws.versions_differ_on_files_alone.Goals as goal

pub returns : goal.returns
returns c = record { second = refusal_strict; others = refusal_of_others; accepted = accepted_in; on_file = refused_in_first }
