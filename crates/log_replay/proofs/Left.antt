-- What was done where a part of a mount goes on.
use Rattle.std.proofs.Common.{◌≡◌, Result, Ok, Err}
use Rattle.std.specs.declared.alloc.AllocError.{AllocError}
use Rattle.k_check.specs.k_journal.declared.outcomes.Commit.{Commit}
use Rattle.log_replay.specs.declared.stops.Stop.{Stop}
use Rattle.log_replay.specs.Quiet.{left}
use Rattle.log_replay.specs.Replays.{IsReplayAnswer, IsReplayed}
use Rattle.log_replay.specs.Sheds.{OnCommit}
use Rattle.staging_files.specs.k_split_model.View.{View}

-- A change was done.
pub on_done : (r : Commit) (P : Type 0) (x : Unit {0}) → left (Ok r) ≡ Ok x → OnCommit r P → P
on_done Commit.Done P x is done = done
on_done Commit.PowerLost P x is done = absurd (let no : Err Stop.PowerLost ≡ Ok x = is in cc)

-- All entries were carried out.
pub on_replayed : (k k2 : View) (r : Result Commit AllocError) (x : Unit {0}) → left r ≡ Ok x → IsReplayAnswer k k2 r → IsReplayed k k2
on_replayed k k2 (Ok Commit.Done) x is done = done
on_replayed k k2 (Ok Commit.PowerLost) x is done = absurd (let no : Err Stop.PowerLost ≡ Ok x = is in cc)
on_replayed k k2 (Err e) x is done = absurd (let no : Err Stop.NoMemory ≡ Ok x = is in cc)
