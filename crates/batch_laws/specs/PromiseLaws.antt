-- The promise of the device between two calls.
use Rattle.std.specs.Prelude.{◌≡◌, ◌≤◌, ◌+◌, ℕ, List, ◌++◌, map}
use Rattle.std.proofs.Common.{ap, ◌∙◌, sym, subst}
use Rattle.eof_laws.specs.live_model.pm_model.Images.{IsImage}
use Rattle.eof_laws.specs.live_model.pm_model.Words.{Words}
use Rattle.eof_laws.specs.live_model.layout_model.Journal.{journaled}
use Rattle.eof_laws.specs.live_model.layout_model.Places.{data_blocks, Geometry, IsGeometry}
use Rattle.eof_laws.specs.live_model.file_table.Files.{Files}
use Rattle.eof_laws.specs.live_model.k_split_model.View.{View}
use Rattle.eof_laws.specs.live_model.commute_laws.posix_types.declared.item.Item.{Item}
use Rattle.eof_laws.specs.live_model.posix_spec.Run.{begun, run}
use Rattle.eof_laws.specs.live_model.posix_spec.State.{State}
use Rattle.eof_laws.specs.live_model.posix_laws.Lasting.{run_lasts}
use Rattle.eof_laws.specs.live_model.crash_spec.Posix.{LastBeforeCut}
use Rattle.eof_laws.specs.live_model.world_image_laws.Images.{IsHeaded}
use Rattle.eof_laws.specs.live_model.world_image_laws.Promised.{KeepsPromise}
use Rattle.posix_mode_laws.specs.Beginning.{no_entry}
use Rattle.posix_mode_laws.specs.CutStands.{left_fits}
use Rattle.posix_mode_laws.specs.Device.{ShowsPosixWorld}
use Rattle.posix_mode_laws.specs.Promises.{posix_runs_promised}
use Rattle.posix_mode_laws.specs.Sides.{MediumStands}
use Rattle.batch_laws.specs.Promise.{GoingIsPromised, GoingRuns, IsAtHome}
use Rattle.batch_laws.specs.Standing.{PosixGoing, sides_of}

-- the medium's geometry is that of the device
medium_geometry : (g : Geometry) (k : View) (files : Files) (count : ℕ) (numbers : List ℕ) (start : State) (history : List Item) → PosixGoing g k files count numbers start history → IsAtHome k files → k.committed.geometry ≡ g
medium_geometry g k files count numbers start history going home = sym home.geometry ∙ going.geometry

shows : (g : Geometry) (k : View) (files : Files) (count : ℕ) (numbers : List ℕ) (start : State) (history : List Item) → (going : PosixGoing g k files count numbers start history) → IsAtHome k files
    → (image : Words) → IsImage k.cells image → ShowsPosixWorld LastBeforeCut (sides_of k files going.old_numbers numbers) start going.front going.later image
shows g k files count numbers start history going home image is = record {
  headed = subst (λ x. IsHeaded x image) (sym geometry) (going.headed image is);
  world = going.world image is;
  no_entry = no_entry k.committed (journaled image) (home.log image is);
  no_later = (home.log image is).no_later;
  fits = left_fits (LastBeforeCut (run start going.front) (map begun going.later)) (run start going.front) medium.state medium.left shape going.fits_front;
  shape = record {
    root = subst (λ x. 1 ≤ x.nodes) (sym shape) going.shape_front.root;
    nodes = ap (λ x. x.nodes + 4) shape ∙ going.shape_front.nodes;
    names = ap (λ x. x.names) shape ∙ going.shape_front.names;
  };
  blocks = ap (λ x. x.data_blocks) medium.shape ∙ (going.blocks ∙ ap data_blocks (sym geometry));
} where
  geometry : k.committed.geometry ≡ g
  geometry = medium_geometry g k files count numbers start history going home

  medium : MediumStands LastBeforeCut (sides_of k files going.old_numbers numbers) (journaled image) start going.front going.later
  medium = (going.world image is).medium

  shape : (going.world image is).medium.state.shape ≡ (run start going.front).shape
  shape = (going.world image is).medium.shape ∙ sym (run_lasts start going.front).shape

pub going_runs : GoingRuns
going_runs g k files count numbers start history going home = record {
  mode = going.mode;
  stands = going.order.stands;
  geometry = subst IsGeometry (sym (medium_geometry g k files count numbers start history going home)) going.is_geometry;
  batch_geometry = home.geometry;
  batch_base = home.base;
  free = going.free;
  room = home.room;
  images = shows g k files count numbers start history going home;
}

pub going_is_promised : GoingIsPromised
going_is_promised g k files count numbers start history unfinished going home =
    let kept = posix_runs_promised (sides_of k files going.old_numbers numbers) k.cells start going.front going.later unfinished (going_runs g k files count numbers start history going home) in
    subst (λ h. KeepsPromise g k.cells start h unfinished) (sym going.history_is)
    (subst (λ x. KeepsPromise x k.cells start (going.front ++ going.later) unfinished) (medium_geometry g k files count numbers start history going home) kept)
