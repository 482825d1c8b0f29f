use Rattle.std.proofs.Common.{◌≡◌, ◌≤◌, length, drop}
use Rattle.std.specs.Prelude.{◌==◌, filter}
use Rattle.oplog_entry.specs.layout_model.declared.lines.Draft.{Draft}
use Rattle.check_image.specs.image_model.Live.{latest}
use Rattle.k_check.proofs.room.latest_of.Given as goal

-- the latest of those behind
abbrev pub invariant-loop-place : goal.invariant-loop-place
invariant-loop-place l = (l.place ≤ length l.live) × (l.found ≡ latest (filter (λ (d : Draft). d.ino == l.ino) (drop l.place l.live)))

abbrev pub decreases-loop-place : goal.decreases-loop-place
decreases-loop-place l = l.place
