-- A file gets a size in the batch.
use Rattle.batch_laws.specs.ChangesLaws.{neither}
use Rattle.batch_laws.specs.IdleLaws.{lengths_are_kept}
use Rattle.batch_laws.specs.Ready.{GoesReady}
use Rattle.batch_laws.specs.Standing.{PosixGoing, as_claims, sides_of, staged_of}
use Rattle.batch_laws.specs.WorldsLaws.{cut_is_world, live_all, live_is_world}
use Rattle.batch_publish_laws.specs.Changes.{LeavesBatch}
use Rattle.batch_publish_laws.specs.ChangesLaws.{at_in}
use Rattle.batch_publish_laws.specs.CutsLaws.{renewed_cuts}
use Rattle.batch_publish_laws.specs.Moves.{AreStagedStill, runs_of}
use Rattle.batch_publish_laws.specs.MovesLaws.{file_bytes, file_node, fits_behind, not_shorter, own_covers, part_block, publishing_behind, sane_whole}
use Rattle.batch_publish_laws.specs.Renewals.{RenewsFile, RenewsNode}
use Rattle.batch_publish_laws.specs.RenewalsLaws.{below_file, fewer_staged, left_in, renewal_leaves_batch}
use Rattle.batch_publish_laws.specs.Sizes.{IsSetSize, SizeKeepsStaged}
use Rattle.live_model.specs.commute_laws.posix_types.declared.item.Item.{Item}
use Rattle.live_model.specs.crash_spec.Values.{is_shortened}
use Rattle.live_model.specs.extent_model.Extents.{disk_at}
use Rattle.live_model.specs.extent_model.declared.extent_words.Extent.{Extent}
use Rattle.live_model.specs.file_table.Files.{ChangesFile, Files, size_in}
use Rattle.live_model.specs.image_model.Content.{entry_of_block}
use Rattle.live_model.specs.image_model.Placed.{block_at}
use Rattle.live_model.specs.image_model.Volume.{Volume, chain, extents, inode}
use Rattle.live_model.specs.k_split.k_plans.Whole.{IsWhole}
use Rattle.live_model.specs.k_split_model.MapChangesChanges.{TakesChain, WritesChain, with_size}
use Rattle.live_model.specs.k_split_model.View.{View}
use Rattle.live_model.specs.layout_model.Journal.{journaled}
use Rattle.live_model.specs.layout_model.Places.{Geometry}
use Rattle.live_model.specs.layout_model.declared.lines.Draft.{Draft}
use Rattle.live_model.specs.layout_model.declared.lines.Inode.{Inode}
use Rattle.live_model.specs.layout_model.declared.lines.Kind.TheVariants.{File, Staging}
use Rattle.live_model.specs.list_laws.Members.{In}
use Rattle.live_model.specs.pm_model.ImageLaws.{IsImage-words_of}
use Rattle.live_model.specs.pm_model.Images.{IsImage, words_of}
use Rattle.live_model.specs.pm_model.Words.{Words}
use Rattle.live_model.specs.posix_laws.Cuts.{cut_node}
use Rattle.live_model.specs.posix_laws.Lasting.{step_lasts}
use Rattle.live_model.specs.posix_laws.Shortens.{ends_before, shortens}
use Rattle.live_model.specs.posix_spec.Run.{Unfinished, after_call, after_calls, begun, run, run-append}
use Rattle.live_model.specs.posix_spec.State.{State}
use Rattle.live_model.specs.posix_tables.Nodes.{bytes_of, node_at, published_of}
use Rattle.live_model.specs.posix_tables.declared.nodes.Node.{Node}
use Rattle.live_model.specs.volume_laws.Changes.{chain-set_other, chain-set_same, extents-set_other, extents-set_same}
use Rattle.live_model.specs.world_image_laws.image_model.Content.{byte_in, disk_by}
use Rattle.live_model.specs.world_image_laws.k_split_model.Taken.{with_map}
use Rattle.live_model.specs.world_model.Jobs.{live_claims}
use Rattle.live_model.specs.world_model.Stands.{IsSane, NodeStands, Stands, is_used, number}
use Rattle.live_model.specs.world_model.posix_spec.Step.{written}
use Rattle.live_model.specs.world_step_laws.Worlds.{IsWorld}
use Rattle.posix_mode_laws.specs.BatchSteps.{after_is_run, begun_more, run_both, shortened_more}
use Rattle.posix_mode_laws.specs.Sides.{IsSettled, KeepsCutBytes, Sides, sized}
use Rattle.posix_mode_laws.specs.Sized.{kind-sized}
use Rattle.std.proofs.Common.{ap, arith, inl, inr, subst, sym, ◌∙◌}
use Rattle.std.proofs.lemmas.Bool.{cases_eq, lt-ltb}
use Rattle.std.proofs.lemmas.Bool.Decides.{nat_tests}
use Rattle.std.proofs.lemmas.List.{get_or-set_other, get_or-set_same, length-map}
use Rattle.std.specs.Prelude.{Bool, List, None, Some, [], false, if◌then◌else◌, length, map, nat_le, nat_lt, refl, slice_index, slice_set, true, ℕ, ◌&&◌, ◌++◌, ◌+◌, ◌/◌, ◌<◌, ◌∷◌, ◌≡◌, ◌≢◌, ◌≤◌, ◌⊎◌}
use Rattle.world_write_laws.specs.block_counts.Counts.{blocks_for}
use Rattle.world_write_laws.specs.volume_laws.Changes.{inode-set_other, inode-set_same}

-- ---- one byte behind one call

pub not_cut_at : (start : State) (front later : List Item) (item : Item) (n i : ℕ) → shortens (run start (front ++ later)) (begun item) n i ≡ false
    → is_shortened (run start front) (map begun later) n i ≡ false → is_shortened (run start front) (map begun (later ++ item ∷ [])) n i ≡ false
not_cut_at start front later item n i none before =
    let later_is : run start (front ++ later) ≡ after_calls (run start front) (map begun later) = run_both start front later ∙ sym (after_is_run (run start front) later) in
    let now : shortens (after_calls (run start front) (map begun later)) (begun item) n i ≡ false = ap (λ (t : State). shortens t (begun item) n i) (sym later_is) ∙ none in
    ap (λ (cs : List Unfinished). is_shortened (run start front) cs n i) (begun_more later item)
    ∙ (shortened_more (run start front) (map begun later) (begun item) n i
    ∙ neither (is_shortened (run start front) (map begun later) n i) (shortens (after_calls (run start front) (map begun later)) (begun item) n i) before now)

pub none_later : (s : State) (later : List Item) (n i : ℕ) → later ≡ [] → is_shortened s (map begun later) n i ≡ false
unfolding is_shortened
none_later s later n i none = ap (λ (items : List Item). is_shortened s (map begun items) n i) none

-- a byte behind the end is not cut off, nor one before the new end
short_before : (x y : Node) (i : ℕ) → length (bytes_of x) ≤ i → (nat_lt i (length (bytes_of x)) && ends_before y i) ≡ false
short_before x y i past = ap (λ (b : Bool). b && ends_before y i) (apart i (length (bytes_of x)) past) where
  apart : (i n : ℕ) → n ≤ i → nat_lt i n ≡ false
  apart i n low = grind (arith, nat_tests, low)

long_behind : (x y : Node) (i : ℕ) → i < length (bytes_of y) → (nat_lt i (length (bytes_of x)) && ends_before y i) ≡ false
long_behind x Node.Gone i below = absurd (omega (arith, below))
long_behind x Node.Directory i below = absurd (omega (arith, below))
long_behind x (Node.File file) i below = none (nat_lt i (length (bytes_of x))) (apart i (length file.bytes) below) where
  apart : (i n : ℕ) → i < n → nat_le n i ≡ false
  apart i n low = grind (arith, nat_tests, low)

  none : (a : Bool) → nat_le (length file.bytes) i ≡ false → (a && nat_le (length file.bytes) i) ≡ false
  none true is = is
  none false is = refl

-- ---- the change

module _ (g : Geometry) (k l : View) (files e : Files) (count : ℕ) (numbers : List ℕ) (start : State) (history : List Item) (blocks : List ℕ) (w : Volume) (ino size : ℕ)
    (ready : GoesReady g k files count numbers start history) (sets : IsSetSize blocks k l w files e ino size) where
  abbrev going : PosixGoing g k files count numbers start history
  going = ready.going

  abbrev v : Volume
  v = k.volume

  abbrev s : State
  s = run start history

  abbrev node : Node
  node = node_at (run start history).nodes (number numbers ino)

  abbrev old_sides : Sides
  old_sides = sides_of k files ready.going.old_numbers numbers

  abbrev set_line : Inode
  set_line = with_map sets.set.blocks sets.set.es (with_size size (inode k.volume ino))

  batch_sane : IsSane v
  batch_sane = (cut_is_world g k files count numbers start history (words_of k.cells) going (IsImage-words_of k.cells)).valid.stands.sane

  below : ino < length v.inodes
  below = below_file v ino sets.file

  names_same : w.names ≡ v.names
  names_same = ap (λ (x : Volume). x.names) sets.set.is_sized

  own_line : inode w ino ≡ set_line
  own_line = ap (λ (x : Volume). inode x ino) sets.set.is_sized ∙ inode-set_same ino set_line sets.set.blocks sets.set.es v below

  own_map : extents w ino ≡ sets.set.es
  own_map = ap (λ (x : Volume). extents x ino) sets.set.is_sized ∙ extents-set_same ino set_line sets.set.blocks sets.set.es v (subst (λ n. ino < n) (batch_sane.inode_count ∙ sym batch_sane.map_count) below)

  own_chain : chain w ino ≡ sets.set.blocks
  own_chain = ap (λ (x : Volume). chain x ino) sets.set.is_sized ∙ chain-set_same ino set_line sets.set.blocks sets.set.es v (subst (λ n. ino < n) (batch_sane.inode_count ∙ sym batch_sane.chain_count) below)

  other_line : (i : ℕ) → i ≢ ino → inode w i ≡ inode v i
  other_line i other = ap (λ (x : Volume). inode x i) sets.set.is_sized ∙ inode-set_other ino set_line sets.set.blocks sets.set.es v i other

  other_map : (i : ℕ) → i ≢ ino → extents w i ≡ extents v i
  other_map i other = ap (λ (x : Volume). extents x i) sets.set.is_sized ∙ extents-set_other ino set_line sets.set.blocks sets.set.es v i other

  other_chain : (i : ℕ) → i ≢ ino → chain w i ≡ chain v i
  other_chain i other = ap (λ (x : Volume). chain x i) sets.set.is_sized ∙ chain-set_other ino set_line sets.set.blocks sets.set.es v i other

  same_kind : (i : ℕ) → (i ≡ ino) ⊎ (i ≢ ino) → ((inode w i).kind ≡ (inode v i).kind) × ((inode w i).generation ≡ (inode v i).generation)
  same_kind i (inl same) =
      subst (λ j. ((inode w j).kind ≡ (inode v j).kind) × ((inode w j).generation ≡ (inode v j).generation)) (sym same) (ap (λ (x : Inode). x.kind) own_line, ap (λ (x : Inode). x.generation) own_line)
  same_kind i (inr other) = (ap (λ (x : Inode). x.kind) (other_line i other), ap (λ (x : Inode). x.generation) (other_line i other))

  not_file : (x : ℕ) → (inode v x).kind ≡ Staging → x ≢ ino
  not_file x staging same = let never : Staging ≡ File = sym staging ∙ (ap (λ i. (inode v i).kind) same ∙ sets.file) in cc

  run_staging : (d : Draft) → In d (staged_of v files) → (inode v d.staging).kind ≡ Staging
  run_staging d is =
      let live = live_is_world g k files count numbers start history (words_of k.cells) going (IsImage-words_of k.cells) in
      sym (kind-sized files.sizes v d.staging) ∙ live.0.valid.stands.log.staging d (subst (In d) (sym live.1) is)

  -- a block that is left was there
  was_there : (block b : ℕ) → disk_at (extents w ino) block ≡ Some b → disk_at (extents v ino) block ≡ Some b
  was_there block b at = part_block (λ c. nat_lt c (blocks_for size)) (extents v ino) sets.set.es block b sets.set.cut (ap (λ (es : List Extent). disk_at es block) (sym own_map) ∙ at)

  -- and those before the end are left
  still_there : (i : ℕ) → i < size → disk_at (extents w ino) (i / 4096) ≡ disk_at (extents v ino) (i / 4096)
  still_there i low =
      ap (λ (es : List Extent). disk_at es (i / 4096)) own_map
      ∙ (sets.set.cut.blocks (i / 4096) ∙ ap (λ (b : Bool). if b then disk_at (extents v ino) (i / 4096) else None) (within i size low)) where
        within : (i size : ℕ) → i < size → nat_lt (i / 4096) (blocks_for size) ≡ true
        within i size low = lt-ltb (i / 4096) (blocks_for size) (omega (arith, low))

  chains : (i : ℕ) → ((chain w i ≡ chain v i) × (extents w i ≡ extents v i)) ⊎ ((j : ℕ) → j < length (chain w i) → In (block_at (chain w i) j) blocks)
  chains i = by (cases_eq i ino) sets.written sets.set.taken where
    by : (i ≡ ino) ⊎ (i ≢ ino) → WritesChain ino v w blocks → TakesChain sets.free (extents v ino) sets.set.es (chain v ino) sets.set.blocks
        → ((chain w i ≡ chain v i) × (extents w i ≡ extents v i)) ⊎ ((j : ℕ) → j < length (chain w i) → In (block_at (chain w i) j) blocks)
    by (inr other) written taken = inl (other_chain i other, other_map i other)
    by (inl same) (inr written) taken = inr (λ j low. subst (λ n. In (block_at (chain w n) j) blocks) (sym same)
        (subst (λ (bs : List ℕ). In (block_at (chain w ino) j) bs) (sym written.1) (at_in (chain w ino) j (subst (λ n. j < length (chain w n)) same low))))
    by (inl same) (inl written) (inl taken) =
        inl (subst (λ n. (chain w n ≡ chain v n) × (extents w n ≡ extents v n)) (sym same) (own_chain ∙ taken.1, written.0))
    by (inl same) (inl written) (inr taken) = absurd (taken.0 (sym own_map ∙ written.0))

  pub renewal : (n : ℕ) → n ≡ size → RenewsFile blocks v w files e ino n
  renewal n length_is = record {
    renews = record {
      sane = sane_whole v w batch_sane (subst IsWhole sets.gathered.volume sets.gathered.order.whole) names_same;
      names = names_same;
      geometry = ap (λ (x : Volume). x.geometry) sets.set.is_sized;
      file = sets.file;
      kinds = λ i. (same_kind i (cases_eq i ino)).0;
      generations = λ i. (same_kind i (cases_eq i ino)).1;
      others = λ i other plain. (other_line i other, other_map i other);
      staged = λ d is apart j low. absurd is;
    };
    base = ap (λ (x : Volume). x.base) sets.set.is_sized;
    changes = subst (λ m. ChangesFile ino [] m files e) (sym length_is) sets.changes;
    staged = λ d is other j low. ap (λ (es : List Extent). disk_at es (d.staging_block + j)) (other_map d.staging (not_file d.staging (run_staging d is)));
    file = λ block b at. inl (was_there block b at);
    staging = λ x place b staging at. subst (λ (es : List Extent). disk_at es place ≡ Some b) (other_map x (not_file x staging)) at;
    chains = chains;
    frees = sets.frees;
  }

  pub set_lengths : (published_of node ≡ (inode v ino).size) × (length (bytes_of node) ≡ size_in files ino)
  set_lengths = lengths_are_kept g k files count numbers start history ino ready sets.file

  pub set_node : node ≡ Node.File (record { bytes = bytes_of node; published = published_of node })
  set_node =
      let world = live_is_world g k files count numbers start history (words_of k.cells) going (IsImage-words_of k.cells) in
      let kind : (inode (sized files.sizes v) ino).kind ≡ File = kind-sized files.sizes v ino ∙ sets.file in
      let live = live_claims (sized files.sizes v) (as_claims (staged_of v files)) in
      file_node (sized files.sizes v) live (journaled (words_of k.cells)) ino node (subst (λ x. NodeStands (sized files.sizes v) live (journaled (words_of k.cells)) ino x node) kind (world.0.valid.stands.nodes.each ino (ap is_used kind)))

  -- ---- where no run was staged

  module _ (none : runs_of k.volume files ino ≡ []) where
    no_entry : (block : ℕ) → entry_of_block (staged_of v files) ino block ≡ None
    no_entry block = sym (own_covers (staged_of v files) ino block) ∙ ap (λ (ds : List Draft). entry_of_block ds ino block) none

    -- the file has its bytes by its own map
    pub bytes_before : (f : Words) → IsWorld (sized files.sizes v) (as_claims (staged_of v files)) [] f numbers s count → (i : ℕ) → i < length (bytes_of node)
        → byte_in f (disk_at (extents v ino) (i / 4096)) i ≡ slice_index (bytes_of node) i
    bytes_before f world i low =
        let same = live_all v files.sizes (staged_of v files) going.alive in
        let stands = subst (λ (xs : List Draft). Stands (sized files.sizes v) xs f numbers s) same world.valid.stands in
        let kind : (inode (sized files.sizes v) ino).kind ≡ File = kind-sized files.sizes v ino ∙ sets.file in
        let its = file_bytes (sized files.sizes v) (staged_of v files) f ino node (subst (λ x. NodeStands (sized files.sizes v) (staged_of v files) f ino x node) kind (stands.nodes.each ino (ap is_used kind))) in
        sym (ap (λ o. byte_in f (disk_by v o ino (i / 4096)) i) (no_entry (i / 4096))) ∙ its.each i low

    pub unstaged_uncut : KeepsCutBytes old_sides start going.front going.later → (i b : ℕ) → i < length (bytes_of node) → disk_at (extents v ino) (i / 4096) ≡ Some b → IsSettled old_sides ino (i / 4096) b
        → is_shortened (run start ready.going.front) (map begun ready.going.later) (number numbers ino) i ≡ false
    unstaged_uncut cuts i b low at is = cuts.unstaged ino i b (ap is_used sets.file) (let kept = set_lengths.1 in omega (arith, low, kept)) (no_entry (i / 4096)) at is

  -- ---- THE BATCH STANDS BEHIND a call that sets the size, with these bytes

  module _ (item : Item) (bytes : List ℕ) (length_is : length bytes ≡ size) (nodes : (after_call s (begun item)).nodes ≡ slice_set s.nodes (number numbers ino) (Node.File (record { bytes = bytes; published = size })))
      (entries : (after_call s (begun item)).entries ≡ s.entries) where
    here : run start (history ++ item ∷ []) ≡ after_call s (begun item)
    here = run-append start history item

    renews_node : RenewsNode s (run start (history ++ item ∷ [])) (number numbers ino) bytes size
    renews_node = record {
      entries = ap (λ (t : State). t.entries) here ∙ entries;
      shape = ap (λ (t : State). t.shape) here ∙ (step_lasts s item.who item.call).shape;
      nodes = ap (λ (t : State). t.nodes) here ∙ nodes;
      fits = fits_behind start history item going.fits;
      within = omega (arith, length_is);
    }

    -- of another file no byte is cut off by it
    beside : (n i : ℕ) → n ≢ number numbers ino → shortens s (begun item) n i ≡ false
    beside n i other =
        not_shorter (node_at s.nodes n) (node_at (after_call s (begun item)).nodes n) i
        (ap (λ (xs : List Node). length (bytes_of (node_at xs n))) nodes
        ∙ ap (λ (x : Node). length (bytes_of x)) (get_or-set_other s.nodes (number numbers ino) n (Node.File (record { bytes = bytes; published = size })) Node.Gone other))

    own_behind : node_at (after_call s (begun item)).nodes (number numbers ino) ≡ Node.File (record { bytes = bytes; published = size })
    own_behind =
        let there : number numbers ino < length (map cut_node s.nodes) = (cut_is_world g k files count numbers start history (words_of k.cells) going (IsImage-words_of k.cells)).valid.stands.names.within ino (ap is_used sets.file) in
        ap (λ (xs : List Node). node_at xs (number numbers ino)) nodes
        ∙ get_or-set_same s.nodes (number numbers ino) (Node.File (record { bytes = bytes; published = size })) Node.Gone (subst (λ n. number numbers ino < n) (length-map s.nodes cut_node) there)

    -- nor is one of this file before its new end
    own_kept : (i : ℕ) → i < size → shortens s (begun item) (number numbers ino) i ≡ false
    own_kept i low =
        ap (λ (y : Node). nat_lt i (length (bytes_of node)) && ends_before y i) own_behind
        ∙ long_behind node (Node.File (record { bytes = bytes; published = size })) i (omega (arith, low, length_is))

    pub set_leaves : ((image : Words) → IsImage l.cells image → IsWorld (sized files.sizes v) (as_claims (staged_of v files)) [] (journaled image) numbers s count
        → (i : ℕ) → i < size → byte_in (journaled image) (disk_at (extents v ino) (i / 4096)) i ≡ slice_index bytes i)
        → (KeepsCutBytes old_sides start going.front going.later → (i b : ℕ) → i < size → disk_at (extents v ino) (i / 4096) ≡ Some b → IsSettled old_sides ino (i / 4096) b
        → is_shortened (run start ready.going.front) (map begun ready.going.later) (number numbers ino) i ≡ false)
        → LeavesBatch g k l files e count numbers start history (item ∷ []) going
    set_leaves has uncut =
        renewal_leaves_batch g k l files e count numbers start history (item ∷ []) blocks w ino bytes size ready sets.gathered (renewal (length bytes) length_is) renews_node published_is
        (λ image is world i low. (
        let short : i < size = omega (arith, low, length_is) in
        ap (λ o. byte_in (journaled image) o i) (still_there i short) ∙ has image is world i short))
        (publishing_behind g k files count numbers start history item ready)
        (λ uses cuts. renewed_cuts g k l files e count numbers start history (item ∷ []) blocks w ino bytes size ready sets.gathered (renewal (length bytes) length_is) published_is
        (λ n i other before. not_cut_at start ready.going.front ready.going.later item n i (ap (λ (h : List Item). shortens (run start h) (begun item) n i) (sym going.history_is) ∙ beside n i other) before)
        (λ i b low at is. (
        let short : i < size = omega (arith, low, length_is) in
        not_cut_at start ready.going.front ready.going.later item (number numbers ino) i (ap (λ (h : List Item). shortens (run start h) (begun item) (number numbers ino) i) (sym going.history_is) ∙ own_kept i short)
        (uncut cuts i b short (was_there (i / 4096) b at) is)))
        (λ i b past low there same at is. omega (arith, past, low, length_is)) (omega (arith, length_is)) cuts)
      where
        published_is : (inode w ino).size ≡ size
        published_is = ap (λ (x : Inode). x.size) own_line

-- the runs that are staged behind it were staged before
pub size_keeps_staged : SizeKeepsStaged
size_keeps_staged g k l files e count numbers start history blocks w ino size ready sets =
    subst (λ (x : Volume). AreStagedStill k.volume x files e) (sym sets.gathered.volume)
    (record {
      among = λ d is. (left_in blocks k.volume w files e ino size renews_file ready.going.sizes ready.going.alive sane d is).0;
      fewer = (let few = fewer_staged blocks k.volume w files e ino size renews_file ready.going.sizes ready.going.alive sane in omega (arith, few));
    })
  where
    renews_file : RenewsFile blocks k.volume w files e ino size
    renews_file = renewal g k l files e count numbers start history blocks w ino size ready sets size refl

    sane : IsSane k.volume
    sane = (cut_is_world g k files count numbers start history (words_of k.cells) ready.going (IsImage-words_of k.cells)).valid.stands.sane
