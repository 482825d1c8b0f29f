use Rattle.eof_laws.proofs.MapsFiles.{end_begun, end_gathered, end_laid, end_published, end_reserved}
use Rattle.eof_laws.proofs.maps.files_end_after_changes_of_maps.Goals as goal

pub returns : goal.returns
returns c = record { begun = end_begun; published = end_published; gathered = end_gathered; reserved = end_reserved; laid = end_laid }
