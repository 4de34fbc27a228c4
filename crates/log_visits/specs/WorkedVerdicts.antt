-- Opens the words of the verdict, and those below them, to a computation. What tests a tag and what opens stays closed.
use Rattle.public_fold.specs.WorkedSteps.{journals}
use Rattle.commit_journal.specs.Answering.{and_then}
use Rattle.log_visits.specs.Asking.{folder_lines, is_beside, lines_beside, line_at, or_else, file_with, line_with, with_root, open_with}
use Rattle.log_visits.specs.Asking.{failure_of}
use Rattle.log_visits.specs.Folding.{stand_behind, folded}
use Rattle.public_fold.specs.Fitted.{has_link_head, has_length, has_content_head, are_due, told_step, has_heads, fits_step, payload_fits}
use Rattle.public_fold.specs.Fitted.{told_stand}
use Rattle.log_visits.specs.Judging.{then_on, of_bytes, read_through, check_in, body_check, published_check, holder_reads, may_read}
use Rattle.log_visits.specs.Judging.{read_with, who_of, first_key, opened_first, view_with}
use Rattle.log_visits.specs.Placing.{links_at, contents_at, body_links, body_contents, log_links, log_contents, last_one, is_for_edge}
use Rattle.log_visits.specs.Placing.{link_for, content_for}
use Rattle.record_format.specs.Told.{told_note}
use Rattle.public_fold.specs.Told.{told_store}
use Rattle.log_visits.specs.Visiting.{key_of, needed, with_key, visit_edge, visit_text, is_folder_text, is_file_text, with_name_at}
use Rattle.log_visits.specs.Visiting.{with_parts, with_text_at, with_holder_key, visit, visit_all}
use Rattle.log_visits.specs.Visits.{folders_that, files_that, is_entry, is_entry_file, entry_edge, entry_folder_visits, entry_file_visits}
use Rattle.log_visits.specs.Visits.{entry_visits, is_higher, lower_visits, allowed_visits, is_deeper, visit_from, upper_visit}
use Rattle.log_visits.specs.Visits.{upper_visits, name_visits, into_file, file_visits}
use Rattle.log_visits.specs.Visits.{visits_to_names, all_visits, holder_visits, clearance_visits, writing_visits}
use Rattle.log_visits.specs.WorkedViews.{views}

-- every word of the verdict
unfoldable pub verdicts : Unit {0}
unfolding journals views and_then folder_lines is_beside lines_beside line_at or_else file_with line_with with_root open_with failure_of
    has_link_head has_length has_content_head are_due told_step has_heads fits_step payload_fits told_stand stand_behind folded then_on
    of_bytes read_through check_in body_check published_check holder_reads may_read read_with who_of first_key opened_first view_with
    links_at contents_at body_links body_contents log_links log_contents last_one is_for_edge link_for content_for told_note told_store
    key_of needed with_key visit_edge visit_text is_folder_text is_file_text with_name_at with_parts with_text_at with_holder_key visit
    visit_all folders_that files_that is_entry is_entry_file entry_edge entry_folder_visits entry_file_visits entry_visits is_higher
    lower_visits allowed_visits is_deeper visit_from upper_visit upper_visits name_visits into_file file_visits
    visits_to_names all_visits holder_visits clearance_visits
    writing_visits
verdicts = tt
