use Rattle.batch_publish_laws.specs.CallsLaws.{open_cut_goes_on, size_leaves_batch, truncate_goes_on}
use Rattle.batch_publish_laws.specs.SizesLaws.{size_keeps_staged}
use Rattle.batch_publish_laws.specs.ShrinksLaws.{size_takes_none}
use Rattle.batch_publish_laws.proofs.sizes_are_set.Goals as goal

pub returns : goal.returns
returns c = record { takes = size_takes_none; truncated = truncate_goes_on; opened = open_cut_goes_on; published = size_leaves_batch; staged = size_keeps_staged }
