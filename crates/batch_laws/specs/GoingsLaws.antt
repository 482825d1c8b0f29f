-- The device goes on behind a change or a call that writes nothing that the medium shows.
use Rattle.std.specs.Prelude.{List, [], ◌++◌, refl}
use Rattle.std.proofs.Common.{ap, append_assoc, ◌∙◌, sym, subst}
use Rattle.eof_laws.specs.live_model.layout_model.Journal.{journaled}
use Rattle.eof_laws.specs.live_model.commute_laws.posix_types.declared.item.Item.{Item}
use Rattle.eof_laws.specs.live_model.posix_spec.Run.{run}
use Rattle.eof_laws.specs.live_model.posix_laws.Publishes.{IsPublishing}
use Rattle.eof_laws.specs.live_model.world_model.Rules.{HasFreeBlocks}
use Rattle.eof_laws.specs.live_model.world_step_laws.Counts.{HasShape}
use Rattle.posix_mode_laws.specs.BatchSteps.{batch_steps}
use Rattle.batch_laws.specs.Goings.{GoingGoesOn}
use Rattle.batch_laws.specs.Standing.{sides_of}

pub going_goes_on : GoingGoesOn
going_goes_on g k l files e count next numbers after start history more going committed left comes = record {
  mode = going.mode;
  order = left.order;
  batched = left.batched;
  on = left.on;
  geometry = left.geometry;
  is_geometry = going.is_geometry;
  publishing = left.publishing;
  fits = left.fits;
  shape = left.shape;
  blocks = going.blocks;
  quiet = left.quiet;
  home = left.home;
  sizes = left.sizes;
  bare = left.bare;
  alive = left.alive;
  aged = left.aged;
  spare = left.spare;
  front = going.front;
  later = going.later ++ more;
  history_is = ap (λ (h : List Item). h ++ more) going.history_is ∙ append_assoc going.front going.later more;
  old_numbers = going.old_numbers;
  world = λ image is. (
      let from = comes image is in
      batch_steps (sides_of k files going.old_numbers numbers) (sides_of l e going.old_numbers after) (journaled from.before) (journaled image) start going.front going.later more (going.world from.before from.is)
      (subst (λ h. IsPublishing (run start h)) going.history_is going.publishing) committed refl from.shown from.adds from.batch);
  headed = λ image is. (comes image is).headed;
  fits_front = going.fits_front;
  shape_front = subst (λ v. HasShape v (run start going.front)) (sym committed) going.shape_front;
  free = subst (λ v. HasFreeBlocks v [] []) (sym committed) going.free;
}
