use Rattle.std.proofs.Common.{ℕ, ap, ◌∙◌, sym, arith, cond, ◌+◌}
use Rattle.std.specs.Prelude.{sum_by}
use Rattle.std.specs.List.{range_with_len}
use Rattle.block_counts.specs.Counts.{held_by}
use Rattle.check_image.specs.image_model.Content.{size_of}
use Rattle.check_image.specs.image_model.Room.{is_named_file}
use Rattle.check_image.proofs.UseFacts.{sum-more}
use Rattle.k_check.proofs.room.held_after.Goals as goal

pub loop-ino-preserved : goal.loop-ino-preserved
loop-ino-preserved c = (
  omega (arith, c.loop-ino.invariant.0, c.held_by_file-held.ensures.bounded),
  λ v inodes marks.
      let f : ℕ → ℕ = λ ino. cond (is_named_file v ino) (held_by (size_of v c.args.live.now ino)) 0 in
      let n = c.loop-ino.ino in
      (λ i. c.loop-ino.invariant.1 v inodes marks i + c.held_by_file-held.ensures.held v inodes marks i)
      ∙ sym (sum-more f 0 n ∙ ap (λ m. sum_by f (range_with_len 0 n) + f m) {x = 0 + n} {y = n} (omega arith)),
)
