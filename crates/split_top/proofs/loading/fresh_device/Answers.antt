use Rattle.std.proofs.Common.{subst}
use Rattle.split_top.specs.Images.{IsFreshImage}
use Rattle.split_top.proofs.Loads.{fresh-mounts}
use Rattle.split_top.proofs.loading.fresh_device.Goals as goal

pub device-requires : goal.device-requires
device-requires c = c.in_ok-bytes.ensures.checked.rule_1

pub returns : goal.returns
returns c = record {
  image = c.in_ok-bytes.bytes.items;
  is_fresh = subst (λ g. IsFreshImage g c.in_ok-bytes.bytes.items) c.load_numbers-geometry.ensures c.in_ok-bytes.ensures;
  device = c.in_ok-pm.ensures;
  numbers = c.load_numbers-geometry.ensures;
  mounts = fresh-mounts c.load_numbers-geometry.result c.in_ok-bytes.bytes.items c.in_ok-pm.pm c.in_ok-bytes.ensures c.in_ok-pm.ensures;
}
