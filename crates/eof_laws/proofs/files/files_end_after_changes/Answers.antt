use Rattle.eof_laws.proofs.Ending.{end_dropped, end_made, end_removed, end_renamed, end_sized, end_unlinked, free_has_no_map}
use Rattle.eof_laws.proofs.files.files_end_after_changes.Goals as goal

pub returns : goal.returns
returns c = record { free = free_has_no_map; made = end_made; unlinked = end_unlinked; removed = end_removed; renamed = end_renamed; dropped = end_dropped; sized = end_sized }
