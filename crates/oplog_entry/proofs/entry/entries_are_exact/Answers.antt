-- the laws of the definitions
use Rattle.layout_model.specs.EntryLaws.{decode_entry-encode_entry, IsEntryLine-decode_entry, decode_entry-other_seq}
use Rattle.oplog_entry.proofs.entry.entries_are_exact.Goals as goal

pub returns-clause-read : goal.returns-clause-read
returns-clause-read c = decode_entry-encode_entry

pub returns-clause-spelled : goal.returns-clause-spelled
returns-clause-spelled c = IsEntryLine-decode_entry

pub returns-clause-one_number : goal.returns-clause-one_number
returns-clause-one_number c = decode_entry-other_seq
