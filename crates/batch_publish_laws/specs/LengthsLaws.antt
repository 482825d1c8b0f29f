-- An unmount: the lengths of all files go to the medium.
use Rattle.batch_laws.specs.CommitsLaws.{spare_blocks}
use Rattle.batch_laws.specs.Ready.{GoesReady}
use Rattle.batch_laws.specs.Standing.{PosixGoing, as_claims, sides_of, staged_of}
use Rattle.batch_laws.specs.WorldsLaws.{cut_is_world, live_is_world}
use Rattle.batch_publish_laws.specs.JoinsLaws.{image_headed, shown_kept, world_still}
use Rattle.batch_publish_laws.specs.Lengths.{HasLengths, LengthsGoOut, LengthsLossIsKept}
use Rattle.batch_publish_laws.specs.MovesLaws.{sane_whole}
use Rattle.batch_publish_laws.specs.Named.{world_named}
use Rattle.batch_publish_laws.specs.RenewalsLaws.{below_file, sized_line}
use Rattle.live_model.specs.commute_laws.posix_types.declared.item.Item.{Item}
use Rattle.live_model.specs.commute_laws.posix_types.declared.tree.TreeEntry.{TreeEntry}
use Rattle.live_model.specs.crash_spec.Permitted.{StronglyPermitted}
use Rattle.live_model.specs.crash_spec.Posix.{StrongPosix}
use Rattle.live_model.specs.file_table.Files.{Files}
use Rattle.live_model.specs.extent_model.Extents.{disk_at}
use Rattle.live_model.specs.extent_model.declared.extent_words.Extent.{Extent}
use Rattle.live_model.specs.image_model.Room.{has_none, unused_blocks}
use Rattle.live_model.specs.image_model.Reading.{Reads}
use Rattle.live_model.specs.image_model.Uses.{owners, uses_by}
use Rattle.live_model.specs.image_model.Volume.{Volume, chain, extents, inode}
use Rattle.live_model.specs.k_split.Answers.{Changes}
use Rattle.live_model.specs.k_split_model.Stands.{IsOldOrNew}
use Rattle.live_model.specs.k_split_model.View.{View}
use Rattle.live_model.specs.layout_model.Journal.{IsSound, journaled}
use Rattle.live_model.specs.layout_model.Places.{Geometry, IsGeometry, data_blocks, first_data, is_data_block, reserve}
use Rattle.live_model.specs.layout_model.declared.lines.Draft.{Draft}
use Rattle.live_model.specs.layout_model.declared.lines.Inode.{Inode}
use Rattle.live_model.specs.layout_model.declared.lines.Kind.{Kind}
use Rattle.live_model.specs.layout_model.declared.lines.Kind.TheVariants.{Directory, File, Free, Staging}
use Rattle.live_model.specs.list_laws.Members.{In}
use Rattle.live_model.specs.pm_model.Images.{ComesFrom, IsImage}
use Rattle.live_model.specs.pm_model.Words.{Words}
use Rattle.live_model.specs.pm_model.declared.Cell.{Cell}
use Rattle.live_model.specs.posix_laws.Lasting.{run_lasts}
use Rattle.live_model.specs.posix_spec.Run.{run}
use Rattle.live_model.specs.posix_spec.State.{State}
use Rattle.live_model.specs.posix_tables.Nodes.{node_at}
use Rattle.live_model.specs.posix_tables.declared.nodes.Node.{Node}
use Rattle.live_model.specs.world_image_laws.Changed.{ShowsLog-same, same_data, sound_headed}
use Rattle.live_model.specs.world_image_laws.image_model.Content.{byte_in}
use Rattle.live_model.specs.world_image_laws.layout_model.Names.{Rows, child_named}
use Rattle.live_model.specs.world_image_laws.world_step_laws.world_model.Promised.{content_shown}
use Rattle.live_model.specs.world_image_laws.Images.{IsHeaded, ShowsWorld}
use Rattle.live_model.specs.world_image_laws.Kept.{kept_by, one_tree}
use Rattle.live_model.specs.world_image_laws.Promised.{IsKept}
use Rattle.live_model.specs.world_model.Landed.{NodeStands-same}
use Rattle.live_model.specs.world_model.Shown.{IsTreeOfContent}
use Rattle.live_model.specs.world_model.Stands.{IsSane, IsUsed, NodeStands, Stands, is_used, number}
use Rattle.live_model.specs.world_step_laws.Worlds.{IsWorld}
use Rattle.posix_mode_laws.specs.Sides.{sized}
use Rattle.posix_mode_laws.specs.Sized.{kind-sized, length-with_sizes}
use Rattle.std.proofs.Common.{ap, inl, inr, subst, sym, ◌∙◌}
use Rattle.std.specs.List.{count_by, flat_map, range_with_len}
use Rattle.std.specs.Prelude.{List, [], length, option_map, refl, true, ℕ, ◌+◌, ◌/◌, ◌≡◌, ◌≢◌, ◌≤◌, ◌⊎◌}
use Rattle.world_write_laws.specs.volume_laws.Uses.{is_unused}
use Rattle.world_write_laws.specs.world_model.Lent.{in_data}

-- lines name no block
lines_unused : (v : Volume) (xs : List Inode) → length xs ≡ length v.inodes → unused_blocks (record v { inodes = xs }) ≡ unused_blocks v
unfolding owners
lines_unused v xs same =
    ap (λ n. count_by (λ b. has_none (flat_map (λ ino. uses_by ino (chain v ino) (extents v ino) b) (range_with_len 0 n))) (range_with_len (first_data v.geometry) (data_blocks v.geometry))) same

-- a directory stands whatever its size
other_node : (v w : Volume) (f h : Words) (ino : ℕ) (kind : Kind) (node : Node) → kind ≢ File → NodeStands v [] f ino kind node → NodeStands w [] h ino kind node
other_node v w f h ino Free node plain stands = absurd stands
other_node v w f h ino Staging node plain stands = absurd stands
other_node v w f h ino File node plain stands = absurd (plain refl)
other_node v w f h ino Directory Node.Gone plain stands = absurd stands
other_node v w f h ino Directory Node.Directory plain stands = tt
other_node v w f h ino Directory (Node.File file) plain stands = absurd stands

module _ (g : Geometry) (k : View) (files : Files) (count : ℕ) (numbers : List ℕ) (start : State) (history : List Item) (w : Volume) (cells : List Cell) (image : Words)
    (ready : GoesReady g k files count numbers start history) (none : staged_of k.volume files ≡ []) (set : HasLengths k.volume w files) (changes : Changes k.committed w k.cells cells) (is : IsImage cells image) where
  abbrev going : PosixGoing g k files count numbers start history
  going = ready.going

  abbrev v : Volume
  v = k.volume

  abbrev s : State
  s = run start history

  from : (before : Words) × ComesFrom k.cells image before × IsOldOrNew k.committed.geometry [] k.committed w before image
  from = changes.each_image image is

  medium : k.committed.geometry ≡ g
  medium = sym ready.geometry ∙ going.geometry

  sound : IsSound k.committed.geometry from.0
  sound = subst (λ x. IsSound x from.0) (sym medium) (sound_headed g from.0 (going.headed from.0 from.1.is_image))

  live_before : IsWorld (sized files.sizes k.volume) [] [] (journaled from.0) numbers s count
  live_before =
      let world = live_is_world g k files count numbers start history from.0 going from.1.is_image in
      subst (λ (ds : List Draft). IsWorld (sized files.sizes k.volume) (as_claims ds) [] (journaled from.0) numbers s count) none world.0

  live : IsWorld (sized files.sizes k.volume) [] [] (journaled image) numbers s count
  live =
      world_named (sized files.sizes k.volume) [] (journaled from.0) (journaled image) numbers s count
      (record {
        each = λ ino block b i below at within.
            same_data k.committed.geometry k.committed w from.0 image sound from.2 b i
            (subst (λ x. is_data_block x b ≡ true) ready.geometry (in_data (sized files.sizes k.volume) live_before.valid.stands.sane ino block b below at)) within;
      })
      live_before

  sane : IsSane w
  sane =
      let was : IsSane k.volume = (cut_is_world g k files count numbers start history from.0 going from.1.is_image).valid.stands.sane in
      sane_whole k.volume w was set.whole (ap (λ (x : Volume). x.names) set.is_set)

  kinds : (ino : ℕ) → (inode w ino).kind ≡ (inode (sized files.sizes k.volume) ino).kind
  kinds ino = by (inode k.volume ino).kind refl ∙ sym (kind-sized files.sizes k.volume ino) where
    by : (x : Kind) → (inode k.volume ino).kind ≡ x → (inode w ino).kind ≡ (inode k.volume ino).kind
    by File at = ap (λ (y : Inode). y.kind) (set.of_files ino at)
    by Free at = ap (λ (y : Inode). y.kind) (set.others ino (λ file. (let never : Free ≡ File = sym at ∙ file in cc)))
    by Directory at = ap (λ (y : Inode). y.kind) (set.others ino (λ file. (let never : Directory ≡ File = sym at ∙ file in cc)))
    by Staging at = ap (λ (y : Inode). y.kind) (set.others ino (λ file. (let never : Staging ≡ File = sym at ∙ file in cc)))

  on : (ino : ℕ) → IsUsed w ino → IsUsed (sized files.sizes k.volume) ino
  on ino used = ap is_used (sym (kinds ino)) ∙ used

  back : (ino : ℕ) → IsUsed (sized files.sizes k.volume) ino → IsUsed w ino
  back ino used = ap is_used (kinds ino) ∙ used

  maps : (ino : ℕ) → extents w ino ≡ extents k.volume ino
  maps ino = ap (λ (x : Volume). extents x ino) set.is_set

  node : (ino : ℕ) → IsUsed w ino → NodeStands w [] (journaled image) ino (inode w ino).kind (node_at s.nodes (number numbers ino))
  node ino used = subst (λ x. NodeStands w [] (journaled image) ino x (node_at s.nodes (number numbers ino))) (sym (kinds ino)) (by (inode (sized files.sizes k.volume) ino).kind refl (live.valid.stands.nodes.each ino (on ino used))) where
    by : (x : Kind) → (inode (sized files.sizes k.volume) ino).kind ≡ x → NodeStands (sized files.sizes k.volume) [] (journaled image) ino x (node_at s.nodes (number numbers ino))
        → NodeStands w [] (journaled image) ino x (node_at s.nodes (number numbers ino))
    by Free at stands = absurd stands
    by Staging at stands = absurd stands
    by Directory at stands = other_node (sized files.sizes k.volume) w (journaled image) (journaled image) ino Directory (node_at s.nodes (number numbers ino)) (λ never. cc) stands
    by File at stands =
        let file : (inode k.volume ino).kind ≡ File = sym (kind-sized files.sizes k.volume ino) ∙ at in
        NodeStands-same (sized files.sizes k.volume) [] (journaled image) w [] (journaled image) ino File (node_at s.nodes (number numbers ino))
        (record {
          size = ap (λ (y : Inode). y.size) (set.of_files ino file) ∙ sym (ap (λ (y : Inode). y.size) (sized_line k.volume files.sizes ino going.sizes (below_file k.volume ino file)));
          bytes = λ i low. ap (λ (es : List Extent). byte_in (journaled image) (disk_at es (i / 4096)) i) (maps ino);
        })
        stands

  same_names : w.names ≡ k.volume.names
  same_names = ap (λ (x : Volume). x.names) set.is_set

  stands : Stands w [] (journaled image) numbers s
  stands = record {
    sane = sane;
    names = record {
      root = was.names.root;
      root_used = back 0 was.names.root_used;
      within = λ ino used. was.names.within ino (on ino used);
      one = λ i j i_used j_used same. was.names.one i j (on i i_used) (on j j_used) same;
      names = λ p name used. ap (λ rows. option_map (number numbers) (child_named rows p name)) same_names ∙ was.names.names p name (on p used);
      entry_parents = λ n name m is_child. (let its = was.names.entry_parents n name m is_child in (its.0, back its.0 its.1, its.2));
      distinct = was.names.distinct;
    };
    nodes = record { each = node; all = λ n there. (let its = was.nodes.all n there in (its.0, back its.0 its.1, its.2)) };
    log = record { staging = λ d among. absurd among; staged = λ d among. absurd among; apart = λ d e among other. absurd among; orders = λ ino. tt };
  } where
    was : Stands (sized files.sizes k.volume) [] (journaled image) numbers s
    was = live.valid.stands

  same_geometry : w.geometry ≡ k.volume.geometry
  same_geometry = ap (λ (x : Volume). x.geometry) set.is_set

  pub lengths_world : IsWorld w [] [] (journaled image) numbers s count
  lengths_world = record {
    valid = record { stands = stands; out = tt; fits = live.valid.fits; room = live.valid.room };
    claims_stand = record { orders = λ a b d e first second d_file e_file one. absurd first; settled = λ slot d there file. absurd there };
    aged = record { small = live.aged.small; staging = λ d among. absurd among; own = λ d among. absurd among; taken = λ d among. absurd among };
    shape = record {
      root = live.shape.root;
      nodes = live.shape.nodes ∙ (length-with_sizes k.volume.inodes files.sizes ∙ (sym set.count ∙ sym (ap (λ (x : Volume). length x.inodes) set.is_set)));
      names = live.shape.names ∙ sym (ap (λ (rows : Rows). length rows) same_names);
    };
    geometry = subst IsGeometry (sym same_geometry) live.geometry;
  }

pub lengths_go_out : LengthsGoOut
lengths_go_out g k files count numbers start history w cells image ready none set changes is = lengths_world g k files count numbers start history w cells image ready none set changes is

pub lengths_loss_is_kept : LengthsLossIsKept
lengths_loss_is_kept g k files count numbers start history w cells image ready none set changes is log = by from.2.reads
  where
    from : (before : Words) × ComesFrom k.cells image before × IsOldOrNew k.committed.geometry [] k.committed w before image
    from = changes.each_image image is

    going : PosixGoing g k files count numbers start history
    going = ready.going

    medium : k.committed.geometry ≡ g
    medium = sym ready.geometry ∙ ready.going.geometry

    geometry : w.geometry ≡ g
    geometry = ap (λ (x : Volume). x.geometry) set.is_set ∙ ready.going.geometry

    of_medium : w.geometry ≡ k.committed.geometry
    of_medium = ap (λ (x : Volume). x.geometry) set.is_set ∙ ready.geometry

    lap : w.base ≡ k.committed.base
    lap = ap (λ (x : Volume). x.base) set.is_set ∙ ready.base

    no_block : (b : ℕ) → In b [] → is_unused k.volume b ≡ true
    no_block b among = absurd among

    head : IsHeaded g image
    head = image_headed g k files count numbers start history ready w [] no_block lap from.0 image from.1.is_image from.2

    spare : reserve g ≤ unused_blocks w + 3
    spare = subst (λ n. reserve g ≤ n + 3) (sym (ap (λ (x : Volume). unused_blocks x) set.is_set ∙ lines_unused k.volume set.lines set.count)) ready.going.spare

    shown : Reads k.committed.geometry (journaled image) w → ShowsWorld w [] [] numbers (run start history) count image
    shown reads = record {
      headed = subst (λ x. IsHeaded x image) (sym geometry) head;
      reads = subst (λ x. Reads x (journaled image) w) (sym of_medium) reads;
      world = lengths_world g k files count numbers start history w cells image ready none set changes is;
      room = record { free = spare_blocks g w geometry spare; blocks = ap (λ x. x.data_blocks) (run_lasts start history).shape ∙ (ready.going.blocks ∙ ap data_blocks (sym geometry)) };
      landed = [];
      filled = tt;
      log = ShowsLog-same k.committed w [] (journaled image) (journaled image) of_medium lap (record { words = λ slot i below at. refl }) log;
    }

    strong : Reads k.committed.geometry (journaled image) w → (left : List TreeEntry) → IsTreeOfContent (content_shown w (journaled image)) left → StrongPosix start history [] left
    strong reads left tree_is = inr (inr (one_tree w [] numbers (run start history) count image left (shown reads) tree_is))

    by : Reads k.committed.geometry (journaled image) k.committed ⊎ Reads k.committed.geometry (journaled image) w
        → IsKept g start history [] image
    by (inl old) =
        shown_kept g k files count numbers start history [] ready image (sides_of k files ready.going.old_numbers numbers) ready.going.front ready.going.later ready.going.history_is medium
        (world_still g k files count numbers start history ready w [] no_block lap from.0 image from.1.is_image from.2 (λ b among. absurd among)) ready.going.fits_front ready.going.shape_front ready.going.free head old log
    by (inr new) =
        subst (λ x. IsKept x start history [] image) geometry
        (kept_by w [] [] numbers (run start history) count image start history [] (shown new)
        (λ left tree_is. subst (λ m. StronglyPermitted m start history [] left) (sym ready.going.mode) (strong new left tree_is)))
