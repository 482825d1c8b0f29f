use Rattle.fsync_relink.proofs.OwnBytes.{all-new, old-or-new}
use Rattle.fsync_relink.proofs.relink_laws.maps.bytes_in_place_are_old_or_new.Goals as goal

pub returns-clause-either : goal.returns-clause-either
returns-clause-either c v ino first bytes before image kept lines below is = old-or-new v ino first bytes before image kept lines below is

pub returns-clause-all : goal.returns-clause-all
returns-clause-all c = all-new
