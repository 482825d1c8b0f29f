use Rattle.world_image_laws.specs.ImagesRooms.{room_dropped, room_made, room_removed, room_renamed, room_renamed_over_directory, room_renamed_over_file, room_unnamed}
use Rattle.world_image_laws.specs.Settings.{keeps_setting}
use Rattle.world_image_laws.proofs.images.the_room_is_kept.Goals as goal

pub returns-clause-made : goal.returns-clause-made
returns-clause-made c = room_made

pub returns-clause-unnamed : goal.returns-clause-unnamed
returns-clause-unnamed c = room_unnamed

pub returns-clause-renamed : goal.returns-clause-renamed
returns-clause-renamed c = room_renamed

pub returns-clause-over_file : goal.returns-clause-over_file
returns-clause-over_file c = room_renamed_over_file

pub returns-clause-removed : goal.returns-clause-removed
returns-clause-removed c = room_removed

pub returns-clause-over_directory : goal.returns-clause-over_directory
returns-clause-over_directory c = room_renamed_over_directory

pub returns-clause-dropped : goal.returns-clause-dropped
returns-clause-dropped c = room_dropped

pub returns-clause-settings : goal.returns-clause-settings
returns-clause-settings c = keeps_setting
