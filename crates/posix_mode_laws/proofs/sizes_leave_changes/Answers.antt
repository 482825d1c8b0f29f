use Rattle.posix_mode_laws.specs.ChangesLaws.{sized_dropped, sized_made, sized_removed, sized_renamed, sized_renamed_over_directory, sized_renamed_over_file, sized_switched, sized_unnamed}
use Rattle.posix_mode_laws.proofs.sizes_leave_changes.Goals as goal

pub returns-clause-made : goal.returns-clause-made
returns-clause-made c = sized_made

pub returns-clause-removed : goal.returns-clause-removed
returns-clause-removed c = sized_removed

pub returns-clause-unnamed : goal.returns-clause-unnamed
returns-clause-unnamed c = sized_unnamed

pub returns-clause-renamed : goal.returns-clause-renamed
returns-clause-renamed c = sized_renamed

pub returns-clause-over_file : goal.returns-clause-over_file
returns-clause-over_file c = sized_renamed_over_file

pub returns-clause-over_directory : goal.returns-clause-over_directory
returns-clause-over_directory c = sized_renamed_over_directory

pub returns-clause-dropped : goal.returns-clause-dropped
returns-clause-dropped c = sized_dropped

pub returns-clause-switched : goal.returns-clause-switched
returns-clause-switched c = sized_switched
