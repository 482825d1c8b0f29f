-- The promise of a device that runs in POSIX mode: each image shows a World of the committed volume alone, with no write in flight.
use Rattle.std.specs.Prelude.{◌≡◌, List, [], ◌++◌, Some, None}
use Rattle.std.proofs.Common.{arith, ◌∙◌, sym, subst}
use Rattle.world_image_laws.specs.pm_model.Words.{Words}
use Rattle.world_image_laws.specs.layout_model.Journal.{journaled}
use Rattle.world_image_laws.specs.layout_model.Places.{IsGeometry}
use Rattle.world_image_laws.specs.image_model.Reading.{Reads}
use Rattle.world_image_laws.specs.posix_types.declared.item.Item.{Item}
use Rattle.world_image_laws.specs.posix_spec.State.{State}
use Rattle.world_image_laws.specs.crash_spec.Permitted.{StronglyPermitted}
use Rattle.world_image_laws.specs.crash_spec.Posix.{LastBeforeCut, LaterRule}
use Rattle.world_image_laws.specs.world_model.Rules.{HasFreeBlocks}
use Rattle.world_image_laws.specs.world_step_laws.Worlds.{IsWorld}
use Rattle.world_image_laws.specs.Images.{ShowsLog, ShowsWorld}
use Rattle.world_image_laws.specs.Kept.{kept_by, one_tree}
use Rattle.posix_mode_laws.specs.Device.{ShowsPosixWorld}
use Rattle.posix_mode_laws.specs.Laws.{PosixRunsPromised}
use Rattle.posix_mode_laws.specs.Sides.{Sides}
use Rattle.posix_mode_laws.specs.Steps.{permitted_left}

-- the World of the medium: no claim, no job, no node made since
medium_world : (rule : LaterRule) (w : Sides) (start : State) (kept later : List Item) (image : Words) → IsGeometry w.committed.geometry → (is : ShowsPosixWorld rule w start kept later image)
    → IsWorld w.committed [] [] (journaled image) w.committed_numbers is.world.medium.state 0
medium_world rule w start kept later image geometry is = record {
  valid = record { stands = is.world.medium.stands; out = tt; fits = is.fits; room = omega arith };
  claims_stand = record { orders = λ s t d e first second other d_file e_file same. absurd first; settled = λ s d there file. absurd there };
  aged = record { small = omega arith; staging = λ d there. absurd there; own = λ d there. absurd there; taken = λ d there. absurd there };
  shape = is.shape;
  geometry = geometry;
}

medium_log : (rule : LaterRule) (w : Sides) (start : State) (kept later : List Item) (image : Words) → ShowsPosixWorld rule w start kept later image → ShowsLog w.committed [] (journaled image)
medium_log rule w start kept later image is = record {
  shows = λ slot d. (λ there. absurd there, λ there. (let never : None ≡ Some d = sym (is.no_entry slot there.0) ∙ there.1 in cc));
  no_later = is.no_later;
}

medium_shown : (rule : LaterRule) (w : Sides) (start : State) (kept later : List Item) (image : Words) → IsGeometry w.committed.geometry → HasFreeBlocks w.committed [] [] → Reads w.committed.geometry (journaled image) w.committed
    → (is : ShowsPosixWorld rule w start kept later image) → ShowsWorld w.committed [] [] w.committed_numbers is.world.medium.state 0 image
medium_shown rule w start kept later image geometry free reads is = record {
  headed = is.headed;
  reads = reads;
  world = medium_world rule w start kept later image geometry is;
  room = record { free = free; blocks = is.blocks };
  landed = [];
  filled = tt;
  log = medium_log rule w start kept later image is;
}

-- THE PROMISE
pub posix_runs_promised : PosixRunsPromised
posix_runs_promised w d start kept later unfinished runs image is honest =
    let shows = runs.images image is in
    let shown = medium_shown LastBeforeCut w start kept later image runs.geometry runs.free (runs.stands.reads image is) shows in
    kept_by w.committed [] [] w.committed_numbers shows.world.medium.state 0 image start (kept ++ later) unfinished shown
    (λ left tree_is. subst (λ m. StronglyPermitted m start (kept ++ later) unfinished left) (sym runs.mode)
    (permitted_left LastBeforeCut w (journaled image) start kept later unfinished left shows.world
    (one_tree w.committed [] w.committed_numbers shows.world.medium.state 0 image left shown tree_is)))
