-- A change that leaves the volume, behind a call or within one that leaves nodes and entries.
use Rattle.batch_laws.specs.Changes.{IsGathered}
use Rattle.batch_laws.specs.Ready.{GoesReady}
use Rattle.batch_laws.specs.Standing.{as_claims, sides_of, staged_of}
use Rattle.batch_laws.specs.Steps.{TakesBlocks}
use Rattle.batch_publish_laws.specs.Changes.{AreSpareInBoth, IsMapGathered, LeavesBatch}
use Rattle.batch_publish_laws.specs.ChangesLaws.{change_leaves_batch}
use Rattle.live_model.specs.commute_laws.posix_types.declared.item.Item.{Item}
use Rattle.live_model.specs.commute_laws.posix_types.declared.reply.Shape.{Shape}
use Rattle.live_model.specs.crash_spec.Values.{is_shortened}
use Rattle.live_model.specs.file_table.Files.{Files}
use Rattle.live_model.specs.image_model.Volume.{Volume}
use Rattle.live_model.specs.k_split_model.View.{View}
use Rattle.live_model.specs.layout_model.Journal.{IsSound, journaled}
use Rattle.live_model.specs.layout_model.Places.{Geometry}
use Rattle.live_model.specs.layout_model.declared.lines.Draft.{Draft}
use Rattle.live_model.specs.pm_model.Cells.{cell, is_lent, is_single}
use Rattle.live_model.specs.pm_model.Images.{IsImage}
use Rattle.live_model.specs.pm_model.Words.{Words}
use Rattle.live_model.specs.pm_model.declared.Cell.{Cell}
use Rattle.live_model.specs.posix_laws.Cuts.{cut_node, cut_of}
use Rattle.live_model.specs.posix_laws.Publishes.{IsPublishing}
use Rattle.live_model.specs.posix_spec.Run.{begun, run}
use Rattle.live_model.specs.posix_spec.State.{Fits, State}
use Rattle.live_model.specs.posix_tables.Nodes.{node_at}
use Rattle.live_model.specs.posix_tables.declared.nodes.Node.{Node}
use Rattle.live_model.specs.world_image_laws.Changed.{sound_headed}
use Rattle.live_model.specs.world_model.Stands.{number}
use Rattle.live_model.specs.world_step_laws.OtherCalls.{IsWorld-same}
use Rattle.live_model.specs.world_step_laws.Steps.{shown_node}
use Rattle.live_model.specs.world_step_laws.Worlds.{IsWorld}
use Rattle.posix_mode_laws.specs.Sides.{KeepsCutBytes, Sides, sized}
use Rattle.std.proofs.Common.{ap, arith, inl, inr, subst, sym, ◌∙◌}
use Rattle.std.specs.Prelude.{List, [], false, length, map, refl, true, ℕ, ◌++◌, ◌≡◌}

-- A change that writes no word is one that wrote these blocks, whatever they are.
pub gathered_still : (g : Geometry) (k l : View) (files : Files) (count : ℕ) (numbers : List ℕ) (start : State) (history : List Item) (blocks : List ℕ) (w : Volume)
    → GoesReady g k files count numbers start history → IsGathered k l w → AreSpareInBoth blocks k → IsMapGathered blocks k l w
gathered_still g k l files count numbers start history blocks w ready gathered spare = record {
  volume = gathered.volume;
  committed = gathered.committed;
  order = gathered.order;
  batched = gathered.batched;
  on = gathered.on;
  changes = record {
    size = ap (λ (d : List Cell). length d) gathered.cells;
    lent = λ i. ap (λ (d : List Cell). is_lent (cell d i)) gathered.cells;
    each_image = λ image is. (
        let was : IsImage k.cells image = subst (λ (d : List Cell). IsImage d image) gathered.cells is in (
          image,
          record { is_image = was; lent = λ i lent. refl },
          record { reads = inl (ready.going.order.stands.reads image was); others = λ i journal line out. refl; sound = subst (λ x. IsSound x image) medium (sound_headed g image (ready.going.headed image was)) },
        ));
    others = λ i journal line out. inl (ap (λ (d : List Cell). cell d i) gathered.cells);
  };
  singles = λ i single. subst (λ (d : List Cell). is_single (cell d i) ≡ true) (sym gathered.cells) single;
  spare = spare;
} where
  medium : g ≡ k.committed.geometry
  medium = sym ready.going.geometry ∙ ready.geometry

-- a World, in a state with the same nodes and entries
world_still : (v : Volume) (claims : List (ℕ × Draft)) (f : Words) (numbers : List ℕ) (s next : State) (count : ℕ) → next.nodes ≡ s.nodes → next.entries ≡ s.entries → next.shape ≡ s.shape
    → IsWorld v claims [] f numbers s count → IsWorld v claims [] f numbers next count
world_still v claims f numbers s next count nodes entries shape world =
    IsWorld-same v claims [] f numbers s next count world
    (record {
      flying_on = tt;
      files = tt;
      fits = subst (λ (xs : List Node). Fits (record next { nodes = xs })) (sym nodes) (subst (λ (x : Shape). Fits (record s { shape = x })) (sym shape) world.valid.fits);
      room = omega arith;
    })
    (record { entries = entries; count = ap (λ (xs : List Node). length xs) nodes; nodes = λ n. ap (λ (xs : List Node). shown_node (node_at xs n)) nodes; shape = shape })

-- THE BATCH STANDS BEHIND a change that leaves the volume, where what ended leaves nodes and entries, and cuts nothing off.
pub still_leaves : (g : Geometry) (k l : View) (files : Files) (count : ℕ) (numbers : List ℕ) (start : State) (history more : List Item) (blocks : List ℕ)
    → (ready : GoesReady g k files count numbers start history) → IsMapGathered blocks k l k.volume
    → (run start (history ++ more)).nodes ≡ (run start history).nodes → (run start (history ++ more)).entries ≡ (run start history).entries
    → (run start (history ++ more)).shape ≡ (run start history).shape → IsPublishing (run start (history ++ more))
    → ((n i : ℕ) → is_shortened (run start ready.going.front) (map begun ready.going.later) n i ≡ false
    → is_shortened (run start ready.going.front) (map begun (ready.going.later ++ more)) n i ≡ false)
    → LeavesBatch g k l files files count numbers start history more ready.going
still_leaves g k l files count numbers start history more blocks ready gathered nodes entries shape publishing kept =
    change_leaves_batch g k l files files count numbers start history more blocks k.volume ready gathered
    (record { geometry = refl; base = refl; count = refl; kept = refl; bare = ready.going.bare; alive = ready.going.alive; unmapped = ready.unmapped; room = ready.room })
    (record {
      live = λ image is world. world_still (sized files.sizes k.volume) (as_claims (staged_of k.volume files)) (journaled image) numbers s next count nodes entries shape world;
      cut = λ image is world cut. world_still k.volume [] (journaled image) numbers (cut_of s) (cut_of next) count (ap (map cut_node) nodes) entries shape cut;
    })
    publishing
    (subst (λ (x : Volume). TakesBlocks (sides_of k files ready.going.old_numbers numbers) (record { committed = l.committed; committed_numbers = ready.going.old_numbers; batch = x; numbers = numbers; staged = staged_of x files; lengths = files.sizes }) blocks)
    (sym gathered.volume)
    (record {
      committed = gathered.committed;
      committed_numbers = refl;
      files = λ i block b used at. inl (used, at, refl);
      staging = λ i block b kind at. inr (i, block, kind, at);
      chains = λ i. inl (refl, refl);
    }))
    (λ uses cuts. subst (λ (x : Sides). KeepsCutBytes x start ready.going.front (ready.going.later ++ more)) same_sides
    (record {
      settled = λ i at b used below lies is. kept (number numbers i) at (cuts.settled i at b used below lies is);
      staged = λ i at b used same low there short lies is. cuts.staged i at b used same low there short lies is;
      unstaged = λ i at b used short none lies is. kept (number numbers i) at (cuts.unstaged i at b used short none lies is);
    }))
  where
    s : State
    s = run start history

    next : State
    next = run start (history ++ more)

    same_sides : sides_of k files ready.going.old_numbers numbers ≡ sides_of l files ready.going.old_numbers numbers
    same_sides = sym (λ i. record {
      committed = gathered.committed i;
      committed_numbers = ready.going.old_numbers;
      batch = gathered.volume i;
      numbers = numbers;
      staged = staged_of (gathered.volume i) files;
      lengths = files.sizes;
    })
