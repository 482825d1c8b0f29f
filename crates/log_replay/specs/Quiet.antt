-- K-Split once no entry of the log is live, and what stays while it is put in order.
use Rattle.std.specs.Prelude.{◌≡◌, ◌≤◌, ◌*◌, true, false, [], Result, Ok, Err}
use Rattle.std.specs.declared.alloc.AllocError.{AllocError}
use Rattle.k_check.specs.pm_model.Images.{words_of}
use Rattle.k_check.specs.pm_model.Powers.{is_on, Supply}
use Rattle.k_check.specs.image_model.Checked.{IsCheckedAs}
use Rattle.k_check.specs.image_model.Content.{content}
use Rattle.k_check.specs.image_model.Rules.{geometry_of}
use Rattle.k_check.specs.k_journal.declared.outcomes.Commit.{Commit}
use Rattle.log_replay.specs.declared.stops.Stop.{Stop}
use Rattle.log_replay.specs.Sheds.{IsAtRest}
use Rattle.staging_files.specs.k_split_model.View.{View}
use Rattle.log_replay.specs.Replays.{live_in, seen}
use Rattle.k_check.specs.volume_laws.Footprint.{SameLog}

-- WHAT IS ASKED FOR: K-Split is at rest on a checked image with the numbers of its volume, and no entry of its log is live.
pub record IsQuiet (k : View) : Type 0 where
  pub rest : IsAtRest k
  pub numbers : geometry_of (words_of k.cells) ≡ k.volume.geometry
  pub checked : IsCheckedAs (4096 * k.volume.geometry.blocks) (words_of k.cells) k.volume
  pub none : live_in k ≡ []

-- WHAT STAYS: it is so again, with the same numbers, log, names and content.
pub record ShowsAsBefore (old new : View) : Type 0 where
  pub quiet : IsQuiet new
  pub geometry : new.volume.geometry ≡ old.volume.geometry
  pub base : new.volume.base ≡ old.volume.base
  pub names : new.volume.names ≡ old.volume.names
  pub log : SameLog old.volume.geometry (seen old) (seen new)
  pub same : content old.volume.geometry (words_of new.cells) ≡ content old.volume.geometry (words_of old.cells)

-- where it is done
abbrev pub OnDone : Result (Unit {0}) Stop → Type 0 → Type 0
OnDone (Ok done) P = P
OnDone (Err stop) P = Unit {0}

-- a part goes on where a change was done, and is left where the power or the memory did not suffice
abbrev pub left : Result Commit AllocError → Result (Unit {0}) Stop
left (Ok Commit.Done) = Ok tt
left (Ok Commit.PowerLost) = Err Stop.PowerLost
left (Err e) = Err Stop.NoMemory

-- what it takes of the power: all that is left exactly where it is stopped so
abbrev pub IsSweepPaid : Supply → Result (Unit {0}) Stop → Type 0
IsSweepPaid new (Ok done) = is_on new ≡ true
IsSweepPaid new (Err Stop.PowerLost) = is_on new ≡ false
IsSweepPaid new (Err Stop.NoMemory) = is_on new ≡ true

-- what is taken of the power: it was made with as many steps, no fewer are taken, and a power that is on was on before
pub record IsSpent (old new : Supply) : Type 0 where
  pub given : new.given ≡ old.given
  pub on_before : is_on new ≡ true → is_on old ≡ true
  pub later : old.taken ≤ new.taken
