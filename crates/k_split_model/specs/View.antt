-- What contracts see of K-Split.
use Rattle.std.specs.Prelude.{Bool, List, [], ℕ}
use Rattle.image_model.specs.pm_model.declared.Cell.{Cell}
use Rattle.image_model.specs.Volume.{Volume}

-- The volume as the calls see it, the changes of the open batch included; the volume that was committed last, which is the
-- one of the device; the blocks that came free since, which wait for a commit; the journaled lines that the open batch sets, in
-- the order in which they came; the cells of the device; whether changes gather in a batch; and whether the power went in a
-- change, after which nothing is known but of images. Where changes do not gather, each is committed at its return, so that no
-- block waits and no line is set.
pub record View : Type 0 where
  pub volume : Volume
  pub committed : Volume
  pub waiting : List ℕ
  pub lines : List ℕ
  pub cells : List Cell
  pub batched : Bool
  pub lost : Bool

-- what a commit of the open batch makes of it, but for the cells
abbrev pub once_committed : View → View
once_committed k = record k { committed = k.volume; waiting = []; lines = [] }
