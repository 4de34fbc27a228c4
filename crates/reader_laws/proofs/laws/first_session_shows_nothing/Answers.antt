use Rattle.std.proofs.Common.{refl}
use Rattle.cry_base.specs.Store.{holder_entry, no_store}
use Rattle.log_visits.specs.Asking.{line_at, or_else}
use Rattle.log_visits.specs.View.{view}
use Rattle.public_fold.specs.Journal.{entry_store, nothing, stand_after, stand_then, store_of}
use Rattle.role_graph.specs.Edges.{in_order}
use Rattle.reader_laws.specs.Reading.{if_known, line_shown_of, shown_of}
use Rattle.reader_laws.proofs.laws.first_session_shows_nothing.Goals as goal

pub returns : goal.returns
unfolding shown_of line_shown_of if_known holder_entry view in_order line_at or_else store_of stand_after stand_then entry_store nothing no_store
returns c = record { owner = λ key path. (refl, refl); holder = λ h key path. (refl, refl) }
