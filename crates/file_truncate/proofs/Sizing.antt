-- What another size makes of the volume, and of the World.
use Rattle.std.specs.Prelude.{◌≡◌, ◌≢◌, ◌⊎◌, ◌≤◌, ◌<◌, ◌+◌, ◌-◌, ◌/◌, ◌==◌, ◌&&◌, ℕ, nat_lt, Bool, true, All, List, [], ◌∷◌, length, map, replicate, take, Option, Some, None, option_map, slice_index, refl, if◌then◌else◌, sum_by}
use Rattle.std.specs.Option.{option_map_or}
use Rattle.std.proofs.Common.{arith, ap, ◌∙◌, sym, subst, inl, inr}
use Rattle.std.proofs.lemmas.Bool.{both_ways, cases_eq, cases_lt}
use Rattle.std.proofs.lemmas.Bool.Decides.{nat_tests}
use Rattle.std.proofs.lemmas.List.{get_or_append_left, get_or-append_right, get_or-replicate, get_or-take, length-set, length-take}
use Rattle.file_calls.specs.live_step_laws.block_counts.Counts.{blocks_for}
use Rattle.file_calls.specs.live_step_laws.pm_model.ImageLaws.{IsImage-words_of}
use Rattle.file_calls.specs.live_step_laws.pm_model.Images.{words_of}
use Rattle.file_calls.specs.live_step_laws.pm_model.Words.{Words}
use Rattle.file_calls.specs.live_step_laws.layout_model.Journal.{journaled}
use Rattle.file_calls.specs.live_step_laws.layout_model.Places.{Geometry}
use Rattle.file_calls.specs.live_step_laws.layout_model.declared.lines.Draft.{Draft}
use Rattle.file_calls.specs.live_step_laws.layout_model.declared.lines.Inode.{Inode}
use Rattle.file_calls.specs.live_step_laws.layout_model.declared.lines.Kind.{Kind}
use Rattle.file_calls.specs.live_step_laws.layout_model.declared.lines.Kind.TheVariants.{Directory, File, Free, Staging}
use Rattle.file_calls.specs.live_step_laws.layout_model.Names.{row}
use Rattle.file_calls.specs.eof_laws.image_model.Content.{byte_in, disk_by}
use Rattle.file_calls.specs.eof_laws.image_model.Live.{is_file, is_live}
use Rattle.file_calls.specs.eof_laws.image_model.Placed.{block_at}
use Rattle.file_calls.specs.eof_laws.image_model.Reading.{inode_set}
use Rattle.file_calls.specs.eof_laws.image_model.Room.{unused_blocks}
use Rattle.file_calls.specs.eof_laws.image_model.Rules.{file_blocks_of}
use Rattle.file_calls.specs.eof_laws.image_model.Volume.{chain, extents, inode, Volume}
use Rattle.file_calls.specs.live_step_laws.extent_model.Covers.{covers-disk_at}
use Rattle.file_calls.specs.live_step_laws.extent_model.Extents.{covers, disk_at, IsCanonical}
use Rattle.file_calls.specs.eof_laws.file_table.Files.{size_in}
use Rattle.file_calls.specs.eof_laws.k_split_model.View.{View}
use Rattle.file_calls.specs.live_step_laws.list_laws.Filters.{filter-agree}
use Rattle.log_replay.proofs.Trims.{fewer-blocks, fewer-extents}
use Rattle.log_replay.proofs.Passed.{chain-counted, map-canonical}
use Rattle.file_calls.specs.eof_laws.k_split_model.MapChangesChanges.{IsSized, with_size}
use Rattle.file_calls.specs.eof_laws.k_split_model.Taken.{with_map}
use Rattle.file_calls.specs.eof_laws.volume_laws.Changes.{extents-set_other, extents-set_same, inode-set_other, inode-set_same}
use Rattle.file_calls.specs.live_step_laws.volume_laws.PoolLaws.{AreInData, unused-set}
use Rattle.file_calls.specs.live_step_laws.k_plans.Whole.{IsWhole}
use Rattle.file_calls.specs.live_step_laws.live_model.k_split.SizeLaws.{sized-free}
use Rattle.file_calls.specs.live_step_laws.live_model.k_split.MapChanges.{is_free_in, IsSizedWith}
use Rattle.log_replay.proofs.fsync_relink_proofs.WorldLaws.{free-in_data, free-unmapped}
use Rattle.file_calls.specs.live_step_laws.posix_types.declared.call.Call.{Call}
use Rattle.file_calls.specs.live_step_laws.posix_types.declared.call.Who.{Who}
use Rattle.file_calls.specs.live_step_laws.posix_types.declared.handle.Handle.{Handle}
use Rattle.file_calls.specs.live_step_laws.posix_tables.declared.nodes.Node.{Node}
use Rattle.file_calls.specs.live_step_laws.posix_tables.declared.open.Description.{Description}
use Rattle.file_calls.specs.live_step_laws.posix_tables.Bytes.{resized}
use Rattle.file_calls.specs.live_step_laws.posix_tables.Nodes.{bytes_of, node_at}
use Rattle.file_calls.specs.live_step_laws.posix_tables.Open.{opened, Tables}
use Rattle.file_calls.specs.live_step_laws.posix_tables.Room.{growth}
use Rattle.file_calls.specs.live_step_laws.posix_laws.FitsLaws.{length-resized}
use Rattle.file_calls.specs.live_step_laws.commute_laws.Needs.{needs as needs_of}
use Rattle.file_calls.specs.live_step_laws.posix_spec.FileRows.{content, file_number}
use Rattle.file_calls.specs.live_step_laws.posix_spec.Run.{after_call, Unfinished}
use Rattle.file_calls.specs.live_step_laws.posix_spec.State.{room, State}
use Rattle.file_calls.specs.live_step_laws.posix_laws.Views.{need_of}
use Rattle.file_calls.specs.live_step_laws.crash_spec.Busy.{waits_for}
use Rattle.file_calls.specs.live_step_laws.live_model.Overlays.{run_of}
use Rattle.file_calls.specs.live_step_laws.live_model.world_model.Jobs.{Job, JobsStand, live_claims}
use Rattle.file_calls.specs.live_step_laws.live_model.world_model.Stands.{entries_of, FileStands, is_used, NodeStands, number}
use Rattle.file_calls.specs.live_step_laws.live_model.world_model.TreeRules.{used_below}
use Rattle.file_calls.specs.live_step_laws.live_model.world_image_laws.Images.{HasRoom}
use Rattle.file_calls.specs.live_step_laws.live_model.world_image_laws.ImagesRooms.{room_kept}
use Rattle.file_calls.specs.live_step_laws.live_model.world_image_laws.Settings.{keeps_setting}
use Rattle.file_calls.specs.live_step_laws.live_model.world_step_laws.Steps.{begun-flights, flights_of}
use Rattle.file_calls.specs.live_step_laws.live_model.world_step_laws.Worlds.{IsWorld}
use Rattle.file_calls.specs.live_step_laws.world_write_laws.Resizes.{HasAlone, Resizes}
use Rattle.file_calls.specs.live_step_laws.world_write_laws.ResizeSteps.{no_cover, truncated}
use Rattle.file_calls.specs.live_step_laws.world_image_laws.LentLaws.{SameBlocks}
use Rattle.file_calls.specs.live_step_laws.Changes.{AreSpare}
use Rattle.file_calls.specs.live_step_laws.live_model.Standing.{Kept, StandsAt}
use Rattle.file_truncate.specs.Sizes.{AreZeros, MaySize}

-- ---- lists of bytes

-- a byte of a resized file that was there, and one behind the old end
resized_front : (bytes : List ℕ) (n i : ℕ) → i < length bytes → i < n → slice_index (resized bytes n) i ≡ slice_index bytes i
resized_front bytes n i there below =
    let short : i < length (take n bytes) = omega (arith, there, below, length-take n bytes) in
    get_or_append_left (take n bytes) (replicate (n - length bytes) 0) 0 i short ∙ get_or-take n bytes i 0 below

resized_behind : (bytes : List ℕ) (n i : ℕ) → length bytes ≤ i → i < n → slice_index (resized bytes n) i ≡ 0
resized_behind bytes n i past below =
    let all : length (take n bytes) ≡ length bytes = omega (arith, past, below, length-take n bytes) in
    get_or-append_right (take n bytes) (replicate (n - length bytes) 0) (length bytes) i 0 all past
    ∙ get_or-replicate (n - length bytes) (i - length bytes) 0 0 (omega (arith, past, below))

-- ---- files

none_mapped : (ds : List Draft) → [] ≡ map run_of ds → ds ≡ []
none_mapped [] is = refl
none_mapped (d ∷ ds) is = let never : [] ≡ run_of d ∷ map run_of ds = is in cc

file_bytes : (v : Volume) (live : List Draft) (f : Words) (ino : ℕ) (kind : Kind) (node : Node) → kind ≡ File → NodeStands v live f ino kind node → FileStands v live f ino (bytes_of node)
file_bytes v live f ino Free node file is = absurd is
file_bytes v live f ino Staging node file is = absurd is
file_bytes v live f ino Directory node file is = cc
file_bytes v live f ino File Node.Gone file is = absurd is
file_bytes v live f ino File Node.Directory file is = absurd is
file_bytes v live f ino File (Node.File x) file is = is

known_number : (o : Option Description) (n : ℕ) → option_map (λ (d : Description). d.node) o ≡ Some n → option_map_or (λ (d : Description). d.node) o 0 ≡ n
known_number None n is = cc
known_number (Some d) n is = cc

handle_file : (s : State) (who : Who) (h : Handle) (size n : ℕ) → waits_for s (who, Call.Truncate h size) ≡ Some n → file_number s.tables who h ≡ n
unfolding waits_for
handle_file s who h size n is = known_number (opened s.tables who h) n is

pub in_data : (v : Volume) → IsWhole v → AreInData v (λ ino. file_blocks_of (inode v ino).kind)
in_data v whole = record {
  chains = λ ino below. whole.chains ino;
  files = λ ino below. whole.kept.kept.in_data ino (omega (arith, below, whole.kept.all.inode_count));
}

-- ---- the change

module _ (g : Geometry) (k : View) (t : Tables) (kept : Kept) (lines : Bool) (n : ℕ) (s : State) (stands : StandsAt g k t kept lines n s) (who : Who) (h : Handle) (size ino : ℕ)
    (may : MaySize k kept stands.jobs stands.numbers s who h size ino) (w : Volume) (blocks : List ℕ) (makes : IsSizedWith ino size k w blocks) (after : IsWhole w) where
  abbrev v : Volume
  v = k.volume

  abbrev live : List Draft
  live = live_claims k.volume kept.claims

  abbrev is : IsSized (is_free_in k) ino size k.volume w
  is = makes.sized

  abbrev line : Inode
  line = with_map makes.sized.blocks makes.sized.es (with_size size (inode k.volume ino))

  abbrev u : Volume
  u = inode_set ino (with_map makes.sized.blocks makes.sized.es (with_size size (inode k.volume ino))) makes.sized.blocks makes.sized.es k.volume

  given : w ≡ u
  given = makes.sized.is_sized

  whole : IsWhole k.volume
  whole = stands.order.whole

  pub world : IsWorld k.volume kept.claims stands.jobs (journaled (words_of k.cells)) stands.numbers s stands.count
  world = stands.flying.device.world (words_of k.cells) (IsImage-words_of k.cells)

  pub below : ino < length k.volume.inodes
  below = used_below k.volume ino (ap is_used may.file)

  own_line : inode w ino ≡ line
  own_line = ap (λ x. inode x ino) given ∙ inode-set_same ino line is.blocks is.es v below

  pub other_line : (i : ℕ) → i ≢ ino → inode w i ≡ inode k.volume i
  other_line i other = ap (λ x. inode x i) given ∙ inode-set_other ino line is.blocks is.es v i other

  pub other_map : (i : ℕ) → i ≢ ino → extents w i ≡ extents k.volume i
  other_map i other = ap (λ x. extents x i) given ∙ extents-set_other ino line is.blocks is.es v i other

  own_map : extents w ino ≡ is.es
  own_map = ap (λ x. extents x ino) given ∙ extents-set_same ino line is.blocks is.es v (omega (arith, below, whole.maps.map_count))

  pub same_geometry : w.geometry ≡ k.volume.geometry
  same_geometry = ap (λ x. x.geometry) given

  pub same_base : w.base ≡ k.volume.base
  same_base = ap (λ x. x.base) given

  pub kinds : (i : ℕ) → (inode w i).kind ≡ (inode k.volume i).kind
  kinds i = elim (cases_eq i ino) [
    | inl own ↦ ap (λ m. (inode w m).kind) own ∙ (ap (λ (x : Inode). x.kind) own_line ∙ ap (λ m. (inode v m).kind) (sym own))
    | inr other ↦ ap (λ (x : Inode). x.kind) (other_line i other)
  ]

  generations : (i : ℕ) → (inode w i).generation ≡ (inode k.volume i).generation
  generations i = elim (cases_eq i ino) [
    | inl own ↦ ap (λ m. (inode w m).generation) own ∙ (ap (λ (x : Inode). x.generation) own_line ∙ ap (λ m. (inode v m).generation) (sym own))
    | inr other ↦ ap (λ (x : Inode). x.generation) (other_line i other)
  ]

  pub applied : (i : ℕ) → (inode w i).applied ≡ (inode k.volume i).applied
  applied i = elim (cases_eq i ino) [
    | inl own ↦ ap (λ m. (inode w m).applied) own ∙ (ap (λ (x : Inode). x.applied) own_line ∙ ap (λ m. (inode v m).applied) (sym own))
    | inr other ↦ ap (λ (x : Inode). x.applied) (other_line i other)
  ]

  pub size_now : (inode w ino).size ≡ size
  size_now = ap (λ (x : Inode). x.size) own_line

  -- what is live
  same_live : (d : Draft) → is_live w d ≡ is_live k.volume d
  same_live d =
      let kind = kinds d.ino in
      let generation = generations d.ino in
      let order = applied d.ino in
      let staging = generations d.staging in
      λ i. (is_file (kind i) && (generation i == d.generation)) && nat_lt (order i) d.order && (staging i == d.staging_generation)

  pub lives : live_claims w kept.claims ≡ live_claims k.volume kept.claims
  lives = filter-agree (is_live w) (is_live v) (map (λ (c : ℕ × Draft). c.1) kept.claims) (λ d there. same_live d)

  pub none : entries_of ino (live_claims k.volume kept.claims) ≡ []
  none = none_mapped (entries_of ino live) (sym may.bare ∙ (stands.flying.overlays ino may.file).runs_are)

  -- ---- the World

  resizes : Resizes k.volume w ino
  resizes = record {
    sane = record {
      kept = after.kept.kept;
      inode_count = ap (λ x. length x.inodes) given ∙ (length-set v.inodes ino line ∙ (world.valid.stands.sane.inode_count ∙ sym (ap (λ (x : Geometry). x.inodes) same_geometry)));
      name_count = ap (λ x. length x.names) given ∙ (world.valid.stands.sane.name_count ∙ sym (ap (λ (x : Geometry). x.names) same_geometry));
      chain_count = ap (λ x. length x.chains) given ∙ (length-set v.chains ino is.blocks ∙ (world.valid.stands.sane.chain_count ∙ sym (ap (λ (x : Geometry). x.inodes) same_geometry)));
      map_count = ap (λ x. length x.maps) given ∙ (length-set v.maps ino is.es ∙ (world.valid.stands.sane.map_count ∙ sym (ap (λ (x : Geometry). x.inodes) same_geometry)));
      spelled = λ i r at. world.valid.stands.sane.spelled i r (subst (λ (x : Volume). row x.names i ≡ Some r) given at);
    };
    names = ap (λ x. x.names) given;
    geometry = same_geometry;
    file = may.file;
    kind = kinds ino;
    generation = generations ino;
    applied = applied ino;
    others = other_line;
    maps = other_map;
  }

  bytes : List ℕ
  bytes = bytes_of (node_at s.nodes (number stands.numbers ino))

  content_is : content s who h ≡ bytes
  unfolding bytes
  content_is = ap (λ m. bytes_of (node_at s.nodes m)) (handle_file s who h size (number stands.numbers ino) may.waits)

  file_at : (f : Words) → IsWorld k.volume kept.claims stands.jobs f stands.numbers s stands.count → FileStands k.volume (live_claims k.volume kept.claims) f ino bytes
  unfolding bytes
  file_at f valid = file_bytes v live f ino (inode v ino).kind (node_at s.nodes (number stands.numbers ino)) may.file (valid.valid.stands.nodes.each ino (ap is_used may.file))

  long : length bytes ≡ size_in kept.files ino
  long = sym (file_at (journaled (words_of k.cells)) world).size ∙ sym (stands.flying.overlays ino may.file).size_is

  front : (b : ℕ) → b < blocks_for size → disk_at (extents w ino) b ≡ disk_at (extents k.volume ino) b
  front b inside =
      let test : nat_lt b (blocks_for size) ≡ true = grind (arith, nat_tests, inside) in
      ap (λ es. disk_at es b) own_map ∙ (is.cut.blocks b ∙ ap (λ c. if c then disk_at (extents v ino) b else None) test)

  has : (f : Words) → IsWorld k.volume kept.claims stands.jobs f stands.numbers s stands.count → AreZeros k.volume ino (size_in kept.files ino) size f → HasAlone w f ino (resized bytes size)
  has f valid zeros = record {
    size = size_now ∙ sym (length-resized bytes size);
    each = λ i there. (let short : i < size = omega (arith, there, length-resized bytes size) in
        ap (λ o. byte_in f o i) (front (i / 4096) (omega (arith, short))) ∙ each i short (cases_lt i (length bytes)));
  } where
    each : (i : ℕ) → i < size → (i < length bytes) ⊎ (length bytes ≤ i) → byte_in f (disk_at (extents k.volume ino) (i / 4096)) i ≡ slice_index (resized bytes size) i
    each i short (inl there) =
        let was = (file_at f valid).each i there in
        sym (ap (λ o. byte_in f (disk_by v o ino (i / 4096)) i) (no_cover live ino (i / 4096) none)) ∙ was ∙ sym (resized_front bytes size i there short)
    each i short (inr past) = zeros i (omega (arith, past, long)) short ∙ sym (resized_behind bytes size i past short)

  pub takes_zeros : (f : Words) → IsWorld k.volume kept.claims stands.jobs f stands.numbers s stands.count → AreZeros k.volume ino (size_in kept.files ino) size f
      → IsWorld w kept.claims stands.jobs f stands.numbers (after_call s (who, Call.Truncate h size)) stands.count
  takes_zeros f valid zeros =
      truncated v w kept.claims stands.jobs f stands.numbers s stands.count who h size ino valid may.beside (λ row. all_fit) may.accepted may.waits resizes none
      (subst (λ xs. HasAlone w f ino (resized xs size)) (sym content_is) (has f valid zeros)) where
        all_fit : growth (length (content s who h)) size + needs_of s (flights_of stands.numbers stands.jobs) ≤ room s
        all_fit = subst (λ cs. growth (length (content s who h)) size + sum_by (λ (c : Unfinished). need_of s c.0 c.1) cs ≤ room s) (sym (begun-flights stands.numbers stands.jobs)) may.fits

  -- ---- blocks

  free : All (λ b. is_free_in k b ≡ true) blocks
  free = sized-free ino size k w blocks below whole.maps makes

  pub spare : AreSpare blocks k.volume
  spare = record {
    in_data = λ i i_below. free-in_data k (block_at blocks i) (free i 0 i_below);
    apart = λ x block i x_below i_below at.
        both_ways (covers (extents v x) (block_at blocks i)) (free-unmapped k (block_at blocks i) x whole.maps.map_count (free i 0 i_below))
        (covers-disk_at (extents v x) block (block_at blocks i) at);
  }

  canonical : IsCanonical (extents k.volume ino)
  canonical = map-canonical k ino stands.order stands.unbatched below

  frees : unused_blocks k.volume ≤ unused_blocks w
  frees =
      let whole_u : IsWhole u = subst IsWhole given after in
      let set =
      unused-set v ino line is.blocks is.es (λ i. file_blocks_of (inode v i).kind) (λ i. file_blocks_of (inode u i).kind) below whole.maps (in_data v whole) (in_data u whole_u) whole.kept.kept.once whole_u.kept.kept.once
      in
      let same : unused_blocks w ≡ unused_blocks u = ap unused_blocks given in
      let fewer = fewer-blocks (blocks_for size) (extents v ino) is.es canonical is.cut in
      let few = fewer-extents (blocks_for size) (extents v ino) is.es canonical is.cut in
      let chains : length is.blocks ≤ length (chain v ino) = omega (arith, is.count, chain-counted k ino stands.order stands.unbatched below, few) in
      omega (arith, set, same, fewer, chains)

  pub room_on : HasRoom w kept.claims stands.jobs (after_call s (who, Call.Truncate h size))
  room_on =
      room_kept v w kept.claims stands.jobs s (after_call s (who, Call.Truncate h size)) same_geometry (keeps_setting s (who, Call.Truncate h size)).shape frees (λ e there alive. sym (same_live e) ∙ alive)
      stands.flying.device.room

  -- ---- staging files and jobs

  pub staging_map : (x : ℕ) → (inode k.volume x).kind ≡ Staging → extents w x ≡ extents k.volume x
  staging_map x staging = other_map x (λ own. (let never : Staging ≡ File = sym staging ∙ (ap (λ m. (inode v m).kind) own ∙ may.file) in cc))

  job_blocks : (jobs : List Job) → JobsStand k.volume (live_claims k.volume kept.claims) (journaled (words_of k.cells)) stands.numbers s jobs → SameBlocks k.volume w jobs
  job_blocks [] out = tt
  job_blocks (j ∷ jobs) out = ((λ i. ap (λ es. disk_at es (j.draft.staging_block + i)) (staging_map j.draft.staging out.0.staging)), job_blocks jobs out.2)

  pub same_blocks : SameBlocks k.volume w stands.jobs
  same_blocks = job_blocks stands.jobs world.valid.out
