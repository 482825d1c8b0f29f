-- The laws of changes and replies for a device that stands for the state: its volume is seen as it.
use Rattle.k_split_laws.specs.Laws.{DoneByRow, RefusedByRow, RenamesOverFile, StateOfUnlink, StepsCut, StepsDropped, StepsMkdir, StepsOpened, StepsRename, StepsRmdir, StepsUnlinked, TreeOfRename, TreeOfUnlink, UnlinksFile}
use Rattle.k_split_laws.specs.Seen.{seen_now}
use Rattle.k_split_laws.specs.Cuts.{steps_cut_seen}
use Rattle.k_split_laws.specs.Ends.{done_by_row_seen, refused_by_row_seen, renames_over_file_seen, tree_of_rename_seen, tree_of_unlink_seen}
use Rattle.k_split_laws.specs.Moves.{steps_rename_seen}
use Rattle.k_split_laws.specs.Steps.{state_unlink_seen, steps_dropped_seen, steps_mkdir_seen, steps_opened_seen, steps_rmdir_seen, steps_unlinked_seen, unlinks_file_seen}

pub steps_mkdir : StepsMkdir
steps_mkdir v d claims jobs numbers s count who p w ino device = steps_mkdir_seen v claims jobs numbers s count who p w ino (seen_now v d claims jobs numbers s count device)

pub steps_opened : StepsOpened
steps_opened v d claims jobs numbers s count who h p flags w ino device = steps_opened_seen v claims jobs numbers s count who h p flags w ino (seen_now v d claims jobs numbers s count device)

pub steps_cut : StepsCut
steps_cut v d claims jobs numbers s count who h p flags ino w device = steps_cut_seen v claims jobs numbers s count who h p flags ino w (seen_now v d claims jobs numbers s count device)

pub steps_rmdir : StepsRmdir
steps_rmdir v d claims jobs numbers s count who p w device = steps_rmdir_seen v claims jobs numbers s count who p w (seen_now v d claims jobs numbers s count device)

pub steps_unlinked : StepsUnlinked
steps_unlinked v d claims jobs numbers s count p w ino device = steps_unlinked_seen v claims jobs numbers s count p w ino (seen_now v d claims jobs numbers s count device)

pub unlinks_file : UnlinksFile
unlinks_file v d claims jobs numbers s count p w ino device = unlinks_file_seen v claims jobs numbers s count p w ino (seen_now v d claims jobs numbers s count device)

pub state_unlink : StateOfUnlink
state_unlink v d claims jobs numbers s count who p w ino device = state_unlink_seen v claims jobs numbers s count who p w ino (seen_now v d claims jobs numbers s count device)

pub steps_dropped : StepsDropped
steps_dropped v d claims jobs numbers s count c device = steps_dropped_seen v claims jobs numbers s count c (seen_now v d claims jobs numbers s count device)

pub steps_rename : StepsRename
steps_rename v d claims jobs numbers s count who p q w lost device = steps_rename_seen v claims jobs numbers s count who p q w lost (seen_now v d claims jobs numbers s count device)

pub renames_over_file : RenamesOverFile
renames_over_file v d claims jobs numbers s count who p q w ino device = renames_over_file_seen v claims jobs numbers s count who p q w ino (seen_now v d claims jobs numbers s count device)

pub tree_of_unlink : TreeOfUnlink
tree_of_unlink v d claims jobs numbers s count who p w ino device = tree_of_unlink_seen v claims jobs numbers s count who p w ino (seen_now v d claims jobs numbers s count device)

pub tree_of_rename : TreeOfRename
tree_of_rename v d claims jobs numbers s count who p q w lost device = tree_of_rename_seen v claims jobs numbers s count who p q w lost (seen_now v d claims jobs numbers s count device)

pub refused_by_row : RefusedByRow
refused_by_row v d claims jobs numbers s count who call outcome device = refused_by_row_seen v claims jobs numbers s count who call outcome (seen_now v d claims jobs numbers s count device)

pub done_by_row : DoneByRow
done_by_row v d claims jobs numbers s count who call device = done_by_row_seen v claims jobs numbers s count who call (seen_now v d claims jobs numbers s count device)
