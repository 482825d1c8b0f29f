use Rattle.std.proofs.Common.{ℕ, ◌<◌, get_or}
use Rattle.k_reading.specs.extent_model.declared.extent_words.Extent.{Extent}
use Rattle.k_reading.specs.image_model.Rules.{IsInData}
use Rattle.check_image.proofs.chains.are_in_data.Given as goal

-- the extents so far are in data blocks
abbrev pub invariant-loop-extent : goal.invariant-loop-extent
invariant-loop-extent l = (k : ℕ) (d : Extent) → k < l.extent-index → IsInData l.geometry l.limit (get_or l.extents k d)
