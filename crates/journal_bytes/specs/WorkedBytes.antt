-- Opens the words of a journal's bytes, and those below them, to a computation. What is sealed, masked or spelled stays
-- closed: its bytes are too many to compute.
use Rattle.public_fold.specs.WorkedSteps.{journals}
use Rattle.key_links.specs.Fresh.{root_links, root_name, root_payload, fresh_image}
use Rattle.journal_bytes.specs.Bytes.{link_record, content_record, step_payload, keys_then, entry_body, bodies_from, bodies_of, batches_of}
use Rattle.journal_bytes.specs.Bytes.{image_of}
use Rattle.journal_bytes.specs.Keys.{drawn_by, with_bytes, entry_keys, owner_parts, keys_from, all_keys, bytes_of, bytes_in, key_bytes}
use Rattle.journal_bytes.specs.Notes.{declared_note}

-- every word of a journal's bytes
unfoldable pub journal_bytes : Unit {0}
unfolding journals declared_note drawn_by with_bytes entry_keys owner_parts keys_from all_keys bytes_of bytes_in key_bytes link_record
    content_record step_payload keys_then entry_body bodies_from bodies_of batches_of image_of root_links root_name root_payload fresh_image
journal_bytes = tt
