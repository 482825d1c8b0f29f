-- All staged runs of a file are relinked by one change.
use Rattle.batch_laws.specs.ChangesLaws.{neither}
use Rattle.batch_laws.specs.IdleLaws.{lengths_are_kept}
use Rattle.batch_laws.specs.Ready.{GoesReady}
use Rattle.batch_laws.specs.Standing.{PosixGoing, as_claims, sides_of, staged_of}
use Rattle.batch_laws.specs.Steps.{IsOfStaging}
use Rattle.batch_laws.specs.WorldsLaws.{cut_is_world, live_all, live_is_world}
use Rattle.batch_publish_laws.specs.Changes.{LeavesBatch}
use Rattle.batch_publish_laws.specs.ChangesLaws.{at_in, batch_goes_on}
use Rattle.batch_publish_laws.specs.CutsLaws.{renewed_cuts}
use Rattle.batch_publish_laws.specs.LandingsLaws.{any_found, in_four, landing_leaves, may_all_move}
use Rattle.batch_publish_laws.specs.Moves.{AreStagedStill, IsRelinkedAll, LeavesMoved, PublishLeavesBatch, RelinkKeepsStaged, RelinkGoesOn, loses, moved_chains, moved_inodes, moves_from, runs_of}
use Rattle.batch_publish_laws.specs.Renewals.{HasByMap, RenewsFile, RenewsNode}
use Rattle.batch_publish_laws.specs.RenewalsLaws.{fewer_staged, left_in, renewal_leaves_batch}
use Rattle.live_model.specs.commute_laws.posix_types.declared.item.Item.{Item}
use Rattle.live_model.specs.crash_spec.Values.{is_shortened}
use Rattle.live_model.specs.extent_model.Extents.{disk_at, is_within}
use Rattle.live_model.specs.extent_model.Maps.{IsPart}
use Rattle.live_model.specs.extent_model.declared.extent_words.Extent.{Extent}
use Rattle.live_model.specs.file_table.Files.{ChangesFile, Files, size_in}
use Rattle.live_model.specs.image_model.Content.{entry_of_block, size_of}
use Rattle.live_model.specs.image_model.Live.{latest}
use Rattle.live_model.specs.image_model.Placed.{block_at}
use Rattle.live_model.specs.image_model.Volume.{Volume, chain, extents, inode}
use Rattle.live_model.specs.k_split.k_plans.Whole.{IsWhole}
use Rattle.live_model.specs.k_split_model.View.{View}
use Rattle.live_model.specs.layout_model.Journal.{journaled}
use Rattle.live_model.specs.layout_model.Places.{Geometry}
use Rattle.live_model.specs.layout_model.declared.lines.Draft.{Draft}
use Rattle.live_model.specs.layout_model.declared.lines.Inode.{Inode}
use Rattle.live_model.specs.layout_model.declared.lines.Kind.TheVariants.{File, Staging}
use Rattle.live_model.specs.list_laws.Filters.{filter-In, filter-agree, filter-both}
use Rattle.live_model.specs.list_laws.Members.{In}
use Rattle.live_model.specs.pm_model.ImageLaws.{IsImage-words_of}
use Rattle.live_model.specs.pm_model.Images.{words_of}
use Rattle.live_model.specs.pm_model.Words.{Words}
use Rattle.live_model.specs.posix_laws.FitsLaws.{Fits-step_of}
use Rattle.live_model.specs.posix_laws.Lasting.{step_lasts}
use Rattle.live_model.specs.posix_laws.PublishLaws.{node_set, publishing_kept}
use Rattle.live_model.specs.posix_laws.Publishes.{IsPublishing, PathsLeadToNodes}
use Rattle.live_model.specs.posix_laws.Shortens.{ends_before, shortens}
use Rattle.live_model.specs.posix_spec.Run.{Unfinished, after_call, after_calls, begun, run, run-append}
use Rattle.live_model.specs.posix_spec.State.{Fits, State, alone, with_published}
use Rattle.live_model.specs.posix_tables.Nodes.{bytes_of, node_at, published_node, published_of}
use Rattle.live_model.specs.posix_tables.declared.nodes.Node.{Node}
use Rattle.live_model.specs.world_image_laws.image_model.Content.{byte_in, disk_by}
use Rattle.live_model.specs.world_image_laws.image_model.Rules.{IsKindAt}
use Rattle.live_model.specs.world_image_laws.layout_model.Names.{row}
use Rattle.live_model.specs.world_image_laws.world_model.Stands.{LogStands}
use Rattle.live_model.specs.world_model.Jobs.{live_claims, staged_block}
use Rattle.live_model.specs.world_model.Stands.{FileStands, IsSane, NodeStands, Stands, entries_of, is_used, number}
use Rattle.live_model.specs.world_step_laws.Worlds.{IsWorld}
use Rattle.posix_mode_laws.specs.BatchSteps.{after_is_run, begun_more, run_both, shortened_more}
use Rattle.posix_mode_laws.specs.Leading.{paths_lead}
use Rattle.posix_mode_laws.specs.Sides.{IsSettled, KeepsCutBytes, Sides, UsesNoFreed, sized}
use Rattle.posix_mode_laws.specs.Sized.{kind-sized}
use Rattle.std.proofs.Common.{ap, append-nil, arith, inl, inr, subst, sym, ◌∙◌}
use Rattle.std.proofs.lemmas.Bool.{cases_Bool, cases_eq, false_from_ne_true, ne_eqb}
use Rattle.std.proofs.lemmas.Bool.Decides.{Decides-eqb, nat_tests}
use Rattle.std.proofs.lemmas.List.{set-get_or}
use Rattle.std.specs.List.{flat_map, list_any}
use Rattle.std.specs.Prelude.{Bool, IsSome, List, None, Option, Some, [], false, if◌then◌else◌, length, map, nat_le, nat_lt, not, refl, slice_set, true, ℕ, ◌&&◌, ◌++◌, ◌+◌, ◌-◌, ◌/◌, ◌<◌, ◌==◌, ◌||◌, ◌∷◌, ◌≡◌, ◌≢◌, ◌≤◌, ◌⊎◌}
use Rattle.world_write_laws.specs.PlaceSteps.{covering, staging_below}
use Rattle.world_write_laws.specs.Renews.{Renews}

-- ---- lists

any_false : (p : Draft → Bool) (ds : List Draft) → ((d : Draft) → In d ds → p d ≡ false) → list_any p ds ≡ false
any_false p [] none = refl
any_false p (d ∷ ds) none = neither (p d) (list_any p ds) (none d (inl refl)) (any_false p ds (λ x is. none x (inr is)))

pub any_in : (p : Draft → Bool) (ds : List Draft) (d : Draft) → In d ds → p d ≡ true → list_any p ds ≡ true
any_in p [] d is passes = absurd is
any_in p (x ∷ ds) d (inl same) passes = ap (λ (b : Bool). b || list_any p ds) (ap p same ∙ passes)
any_in p (x ∷ ds) d (inr behind) passes = or_true (p x) (list_any p ds) (any_in p ds d behind passes) where
  or_true : (a b : Bool) → b ≡ true → (a || b) ≡ true
  or_true true b is = refl
  or_true false b is = is

right_false : (a b : Bool) → b ≡ false → (a && b) ≡ false
right_false true b is = is
right_false false b is = refl

flat_in : (f : ℕ → List ℕ) (xs : List ℕ) (x b : ℕ) → In x xs → In b (f x) → In b (flat_map f xs)
flat_in f [] x b is there = absurd is
flat_in f (y ∷ ys) x b (inl same) there = front (f y) (flat_map f ys) b (subst (λ z. In b (f z)) (sym same) there) where
  front : (cs bs : List ℕ) (c : ℕ) → In c cs → In c (cs ++ bs)
  front [] bs c is = absurd is
  front (a ∷ cs) bs c (inl one) = inl one
  front (a ∷ cs) bs c (inr later) = inr (front cs bs c later)
flat_in f (y ∷ ys) x b (inr behind) there = back (f y) (flat_map f ys) b (flat_in f ys x b behind there) where
  back : (cs bs : List ℕ) (c : ℕ) → In c bs → In c (cs ++ bs)
  back [] bs c is = is
  back (a ∷ cs) bs c is = inr (back cs bs c is)

-- the same entries lie at a block of a file, of all or of its own
pub own_covers : (ds : List Draft) (ino block : ℕ) → entry_of_block (entries_of ino ds) ino block ≡ entry_of_block ds ino block
own_covers ds ino block =
    let p : Draft → Bool = λ (d : Draft). d.ino == ino in
    let q : Draft → Bool = λ (d : Draft). (d.ino == ino) && is_within d.file_block d.count block in
    ap latest (sym (filter-both p q ds) ∙ filter-agree (λ d. p d && q d) q ds (λ d is. twice (d.ino == ino) (is_within d.file_block d.count block)))
  where
    twice : (a b : Bool) → (a && (a && b)) ≡ (a && b)
    twice true b = refl
    twice false b = refl

-- ---- volumes

-- a whole volume with the names of a sane one is sane
pub sane_whole : (v w : Volume) → IsSane v → IsWhole w → w.names ≡ v.names → IsSane w
sane_whole v w sane whole names = record {
  kept = whole.kept.kept;
  inode_count = whole.kept.all.inode_count;
  name_count = whole.kept.all.name_count;
  chain_count = whole.maps.chain_count ∙ whole.kept.all.inode_count;
  map_count = whole.maps.map_count ∙ whole.kept.all.inode_count;
  spelled = λ i r at. sane.spelled i r (subst (λ rows. row rows i ≡ Some r) names at);
}

-- a file that stands is a file
pub file_node : (v : Volume) (live : List Draft) (f : Words) (ino : ℕ) (node : Node) → NodeStands v live f ino File node → node ≡ Node.File (record { bytes = bytes_of node; published = published_of node })
file_node v live f ino Node.Gone is = absurd is
file_node v live f ino Node.Directory is = absurd is
file_node v live f ino (Node.File file) is = refl

pub file_bytes : (v : Volume) (live : List Draft) (f : Words) (ino : ℕ) (node : Node) → NodeStands v live f ino File node → FileStands v live f ino (bytes_of node)
file_bytes v live f ino Node.Gone is = absurd is
file_bytes v live f ino Node.Directory is = absurd is
file_bytes v live f ino (Node.File file) is = is

part_at : (c : Bool) (o : Option ℕ) (b : ℕ) → (if c then o else None) ≡ Some b → o ≡ Some b
part_at true o b at = at
part_at false o b at = cc

pub part_block : (chosen : ℕ → Bool) (whole part : List Extent) (place b : ℕ) → IsPart chosen whole part → disk_at part place ≡ Some b → disk_at whole place ≡ Some b
part_block chosen whole part place b is at = part_at (chosen place) (disk_at whole place) b (sym (is.blocks place) ∙ at)

-- ---- the change

module _ (g : Geometry) (k l : View) (files e : Files) (count : ℕ) (numbers : List ℕ) (start : State) (history : List Item) (w : Volume) (ino size applied : ℕ)
    (ready : GoesReady g k files count numbers start history) (relinked : IsRelinkedAll k l w files e ino size applied) where
  abbrev going : PosixGoing g k files count numbers start history
  going = ready.going

  abbrev v : Volume
  v = k.volume

  abbrev s : State
  s = run start history

  abbrev ds : List Draft
  ds = runs_of k.volume files ino

  abbrev first_image : Words
  first_image = words_of k.cells

  abbrev node : Node
  node = node_at (run start history).nodes (number numbers ino)

  batch_sane : IsSane v
  batch_sane = (cut_is_world g k files count numbers start history first_image going (IsImage-words_of k.cells)).valid.stands.sane

  live_log : LogStands (sized files.sizes v) (staged_of v files)
  live_log =
      let live = live_is_world g k files count numbers start history first_image going (IsImage-words_of k.cells) in
      subst (LogStands (sized files.sizes v)) live.1 live.0.valid.stands.log

  -- ---- the entries

  run_is : (d : Draft) → In d ds → In d (staged_of v files) × (d.ino ≡ ino)
  run_is d is = let its = filter-In (λ (x : Draft). x.ino == ino) (staged_of v files) d is in (its.0, (Decides-eqb d.ino ino).0 its.1)

  run_staging : (d : Draft) → In d (staged_of v files) → (inode v d.staging).kind ≡ Staging
  run_staging d is = sym (kind-sized files.sizes v d.staging) ∙ live_log.staging d is

  loses_staging : (x : ℕ) → loses ds x ≡ true → (inode v x).kind ≡ Staging
  loses_staging x is =
      let found = any_found (λ (d : Draft). d.staging == x) ds is in
      subst (λ i. (inode v i).kind ≡ Staging) ((Decides-eqb found.0.staging x).0 found.2) (run_staging found.0 (run_is found.0 found.1).0)

  plain_keeps : (i : ℕ) → (inode v i).kind ≢ Staging → loses ds i ≡ false
  plain_keeps i plain = false_from_ne_true (loses ds i) (λ is. plain (loses_staging i is))

  not_file : (x : ℕ) → (inode v x).kind ≡ Staging → x ≢ ino
  not_file x staging same = let never : Staging ≡ File = sym staging ∙ (ap (λ i. (inode v i).kind) same ∙ relinked.file) in cc

  moved : LeavesMoved ds ino size applied v w
  moved = landing_leaves relinked.free ds ino size applied v w relinked.displaced (may_all_move g k files count numbers start history ino ready relinked.file) relinked.moved

  sane_behind : IsSane w
  sane_behind = sane_whole v w batch_sane (subst IsWhole relinked.gathered.volume relinked.gathered.order.whole) moved.names

  -- ---- lines and maps

  same_kind : (i : ℕ) → ((inode w i).kind ≡ (inode v i).kind) × ((inode w i).generation ≡ (inode v i).generation)
  same_kind i = by (cases_eq i ino) (cases_Bool (loses ds i)) where
    by : (i ≡ ino) ⊎ (i ≢ ino) → (loses ds i ≡ true) ⊎ (loses ds i ≡ false) → ((inode w i).kind ≡ (inode v i).kind) × ((inode w i).generation ≡ (inode v i).generation)
    by (inl same) lost =
        subst (λ j. ((inode w j).kind ≡ (inode v j).kind) × ((inode w j).generation ≡ (inode v j).generation)) (sym same)
        (ap (λ (x : Inode). x.kind) moved.line, ap (λ (x : Inode). x.generation) moved.line)
    by (inr other) (inl lost) = (ap (λ (x : Inode). x.kind) (moved.lines i other lost), ap (λ (x : Inode). x.generation) (moved.lines i other lost))
    by (inr other) (inr kept) = let its = moved.others i other kept in (ap (λ (x : Inode). x.kind) its.0, ap (λ (x : Inode). x.generation) its.0)

  part_of : (x : ℕ) → (inode v x).kind ≡ Staging → (place b : ℕ) → disk_at (extents w x) place ≡ Some b → disk_at (extents v x) place ≡ Some b
  part_of x staging place b at = elim (cases_Bool (loses ds x)) [
    | inl lost ↦ part_at (not (moves_from ds x place)) (disk_at (extents v x) place) b (sym (moved.left x place (not_file x staging) lost) ∙ at)
    | inr kept ↦ subst (λ (es : List Extent). disk_at es place ≡ Some b) (moved.others x (not_file x staging) kept).2 at
  ]

  -- of an entry of another file no block moves
  stays_staged : (d : Draft) → In d (staged_of v files) → d.ino ≢ ino → (j : ℕ) → j < d.count → staged_block w d j ≡ staged_block v d j
  stays_staged d is other j below = elim (cases_Bool (loses ds d.staging)) [
    | inr kept ↦ ap (λ (es : List Extent). disk_at es (d.staging_block + j)) (moved.others d.staging (not_file d.staging (run_staging d is)) kept).2
    | inl lost ↦
        moved.left d.staging (d.staging_block + j) (not_file d.staging (run_staging d is)) lost
        ∙ ap (λ (b : Bool). if not b then disk_at (extents v d.staging) (d.staging_block + j) else None) none
  ] where
    past : (from many place : ℕ) → (place < from) ⊎ (from + many ≤ place) → is_within from many place ≡ false
    past from many place (inl before) = grind (arith, nat_tests, before)
    past from many place (inr behind) = grind (arith, nat_tests, behind)

    outside : (e : Draft) → In e ds → (e.staging ≡ d.staging) → is_within e.staging_block e.count (d.staging_block + j) ≡ false
    outside e among same =
        let its = run_is e among in
        elim (live_log.apart d e is its.0) [
          | inl one ↦ absurd (other (ap (λ (x : Draft). x.ino) one ∙ its.1))
          | inr apart ↦ elim (apart (sym same)) [
            | inl before ↦ past e.staging_block e.count (d.staging_block + j) (inl (omega (arith, before, below)))
            | inr behind ↦ past e.staging_block e.count (d.staging_block + j) (inr (omega (arith, behind)))
          ]
        ]

    none : moves_from ds d.staging (d.staging_block + j) ≡ false
    none = any_false (λ (e : Draft). (e.staging == d.staging) && is_within e.staging_block e.count (d.staging_block + j)) ds (λ e among. by e among (cases_eq e.staging d.staging)) where
      by : (e : Draft) → In e ds → (e.staging ≡ d.staging) ⊎ (e.staging ≢ d.staging) → ((e.staging == d.staging) && is_within e.staging_block e.count (d.staging_block + j)) ≡ false
      by e among (inl same) = right_false (e.staging == d.staging) (is_within e.staging_block e.count (d.staging_block + j)) (outside e among same)
      by e among (inr differs) = ap (λ (b : Bool). b && is_within e.staging_block e.count (d.staging_block + j)) (ne_eqb e.staging d.staging differs)

  -- a block of the file was there, or is one of a staging file
  abbrev FromRun : ℕ → ℕ → Type 0
  FromRun block b = (d : Draft) × (entry_of_block (staged_of k.volume files) ino block ≡ Some d) × IsOfStaging k.volume b

  file_block_from : (block b : ℕ) → disk_at (extents w ino) block ≡ Some b → ((entry_of_block (staged_of v files) ino block ≡ None) × (disk_at (extents v ino) block ≡ Some b)) ⊎ FromRun block b
  file_block_from block b at = by (entry_of_block (staged_of v files) ino block) refl (sym (ap (λ o. disk_by v o ino block) (own_covers (staged_of v files) ino block)) ∙ (sym (moved.linked block) ∙ at)) where
    by : (o : Option Draft) → entry_of_block (staged_of v files) ino block ≡ o → disk_by v (entry_of_block (staged_of v files) ino block) ino block ≡ Some b
        → ((entry_of_block (staged_of v files) ino block ≡ None) × (disk_at (extents v ino) block ≡ Some b)) ⊎ FromRun block b
    by None is lies = inl (is, sym (ap (λ o. disk_by v o ino block) is) ∙ lies)
    by (Some d) is lies =
        let covers = covering (staged_of v files) ino block d is in
        inr (d, is, (d.staging, d.staging_block + (block - d.file_block), run_staging d covers.is, sym (ap (λ o. disk_by v o ino block) is) ∙ lies))

  written : List ℕ
  written = moved_chains ds ino w

  chain_in : (i : ℕ) → In i (moved_inodes ds ino) → (j : ℕ) → j < length (chain w i) → In (block_at (chain w i) j) (moved_chains ds ino w)
  chain_in i among j below = flat_in (chain w) (moved_inodes ds ino) i (block_at (chain w i) j) among (at_in (chain w i) j below)

  chains : (i : ℕ) → ((chain w i ≡ chain v i) × (extents w i ≡ extents v i)) ⊎ ((j : ℕ) → j < length (chain w i) → In (block_at (chain w i) j) (moved_chains ds ino w))
  chains i = by (cases_eq i ino) (cases_Bool (loses ds i)) where
    by : (i ≡ ino) ⊎ (i ≢ ino) → (loses ds i ≡ true) ⊎ (loses ds i ≡ false) → ((chain w i ≡ chain v i) × (extents w i ≡ extents v i)) ⊎ ((j : ℕ) → j < length (chain w i) → In (block_at (chain w i) j) (moved_chains ds ino w))
    by (inl same) lost = inr (chain_in i (inl (sym same)))
    by (inr other) (inl lost) =
        let staging = loses_staging i lost in
        let place : IsKindAt i Staging = subst (IsKindAt i) staging (batch_sane.kept.kinds i (subst (λ n. i < n) batch_sane.inode_count (staging_below v i staging))) in
        inr (chain_in i (inr (in_four (loses ds) i place.0 place.1 lost)))
    by (inr other) (inr kept) = let its = moved.others i other kept in inl (its.1, its.2)

  -- ---- THE FILE IS ANEW

  lengths : (published_of node ≡ (inode v ino).size) × (length (bytes_of node) ≡ size_in files ino)
  lengths = lengths_are_kept g k files count numbers start history ino ready relinked.file

  renews : Renews v w [] ino
  renews = record {
    sane = sane_behind;
    names = moved.names;
    geometry = moved.geometry;
    file = relinked.file;
    kinds = λ i. (same_kind i).0;
    generations = λ i. (same_kind i).1;
    others = λ i other plain. (let its = moved.others i other (plain_keeps i plain) in (its.0, its.2));
    staged = λ d is apart j below. absurd is;
  }

  pub renewal : RenewsFile (moved_chains ds ino w) v w files e ino (length (bytes_of node))
  renewal = record {
    renews = renews;
    base = moved.base;
    changes = subst (λ n. ChangesFile ino [] n files e) (sym lengths.1) relinked.changes;
    staged = stays_staged;
    file = λ block b at. file_from block b (file_block_from block b at);
    staging = λ x place b staging at. part_of x staging place b at;
    chains = chains;
    frees = relinked.frees;
  } where
    file_from : (block b : ℕ) → ((entry_of_block (staged_of v files) ino block ≡ None) × (disk_at (extents v ino) block ≡ Some b)) ⊎ FromRun block b
        → (disk_at (extents v ino) block ≡ Some b) ⊎ (In b (moved_chains ds ino w) ⊎ IsOfStaging v b)
    file_from block b (inl was) = inl was.1
    file_from block b (inr found) = inr (inr found.2)

  has_bytes : (f : Words) → IsWorld (sized files.sizes v) (as_claims (staged_of v files)) [] f numbers s count → HasByMap w f ino (bytes_of node)
  has_bytes f world i below =
      let same = live_all v files.sizes (staged_of v files) going.alive in
      let stands = subst (λ (xs : List Draft). Stands (sized files.sizes v) xs f numbers s) same world.valid.stands in
      let kind : (inode (sized files.sizes v) ino).kind ≡ File = kind-sized files.sizes v ino ∙ relinked.file in
      let its = file_bytes (sized files.sizes v) (staged_of v files) f ino node (subst (λ x. NodeStands (sized files.sizes v) (staged_of v files) f ino x node) kind (stands.nodes.each ino (ap is_used kind))) in
      ap (λ o. byte_in f o i) (moved.linked (i / 4096) ∙ ap (λ o. disk_by v o ino (i / 4096)) (own_covers (staged_of v files) ino (i / 4096)))
      ∙ its.each i below

  node_is : node ≡ Node.File (record { bytes = bytes_of node; published = published_of node })
  node_is =
      let world = live_is_world g k files count numbers start history first_image going (IsImage-words_of k.cells) in
      let kind : (inode (sized files.sizes v) ino).kind ≡ File = kind-sized files.sizes v ino ∙ relinked.file in
      let live = live_claims (sized files.sizes v) (as_claims (staged_of v files)) in
      file_node (sized files.sizes v) live (journaled first_image) ino node (subst (λ x. NodeStands (sized files.sizes v) live (journaled first_image) ino x node) kind (world.0.valid.stands.nodes.each ino (ap is_used kind)))

  module _ (more : List Item) (published : ℕ) (renewed_node : RenewsNode s (run start (history ++ more)) (number numbers ino) (bytes_of node) published) (size_is : size ≡ published) (publishing : IsPublishing (run start (history ++ more)))
      (not_cut : (n i : ℕ) → is_shortened (run start ready.going.front) (map begun ready.going.later) n i ≡ false → is_shortened (run start ready.going.front) (map begun (ready.going.later ++ more)) n i ≡ false) where
    abbrev old_sides : Sides
    old_sides = sides_of k files ready.going.old_numbers numbers

    published_is : (inode w ino).size ≡ published
    published_is = ap (λ (x : Inode). x.size) moved.line ∙ size_is

    -- a block of a run is none that the medium shows
    never_settled : UsesNoFreed old_sides → (block b : ℕ) → FromRun block b → IsSettled old_sides ino block b → ⊥
    never_settled uses block b found is = (uses.staging found.2.0 found.2.1 b found.2.2 found.2.3).files ino block is.used is.same

    own : UsesNoFreed old_sides → KeepsCutBytes old_sides start going.front going.later → (i b : ℕ) → i < length (bytes_of node) → disk_at (extents w ino) (i / 4096) ≡ Some b → IsSettled old_sides ino (i / 4096) b
        → is_shortened (run start ready.going.front) (map begun (ready.going.later ++ more)) (number numbers ino) i ≡ false
    own uses cuts i b below at is = elim (file_block_from (i / 4096) b at) [
      | inl was ↦ not_cut (number numbers ino) i (cuts.unstaged ino i b (ap is_used relinked.file) (let kept = lengths.1 in omega (arith, below, kept)) was.0 was.1 is)
      | inr found ↦ absurd (never_settled uses (i / 4096) b found is)
    ]

    past : UsesNoFreed old_sides → KeepsCutBytes old_sides start going.front going.later → (inode v ino).size ≤ published → (i b : ℕ) → published ≤ i → i < length (bytes_of node) → i < size_of k.committed [] ino
        → number ready.going.old_numbers ino ≡ number numbers ino → disk_at (extents w ino) (i / 4096) ≡ Some b → IsSettled old_sides ino (i / 4096) b → ⊥
    past uses cuts grows i b low below there same at is = elim (file_block_from (i / 4096) b at) [
      | inl was ↦ none_some (entry_of_block (staged_of v files) ino (i / 4096)) was.0
          (cuts.staged ino i b (ap is_used relinked.file) same (omega (arith, low, grows)) there (let kept = lengths.1 in omega (arith, below, kept)) was.1 is)
      | inr found ↦ never_settled uses (i / 4096) b found is
    ] where
      none_some : (o : Option Draft) → o ≡ None → IsSome o → ⊥
      none_some None is some = let never : false ≡ true = some in cc
      none_some (Some d) is some = let never : Some d ≡ None = is in cc

    pub relink_leaves : (inode v ino).size ≤ published → LeavesBatch g k l files e count numbers start history more going
    relink_leaves grows =
        renewal_leaves_batch g k l files e count numbers start history more (moved_chains ds ino w) w ino (bytes_of node) published ready relinked.gathered renewal renewed_node published_is
        (λ image is world. has_bytes (journaled image) world) publishing
        (λ uses cuts. renewed_cuts g k l files e count numbers start history more (moved_chains ds ino w) w ino (bytes_of node) published ready relinked.gathered renewal published_is
        (λ n i other. not_cut n i) (own uses cuts) (past uses cuts grows) renewed_node.within cuts)

-- ---- states

-- behind a call that shortens none, no more is cut off
pub not_cut_behind : (start : State) (front later : List Item) (item : Item) → ((n i : ℕ) → shortens (run start (front ++ later)) (begun item) n i ≡ false) → (n i : ℕ)
    → is_shortened (run start front) (map begun later) n i ≡ false → is_shortened (run start front) (map begun (later ++ item ∷ [])) n i ≡ false
not_cut_behind start front later item none n i before =
    let later_is : run start (front ++ later) ≡ after_calls (run start front) (map begun later) = run_both start front later ∙ sym (after_is_run (run start front) later) in
    let now : shortens (after_calls (run start front) (map begun later)) (begun item) n i ≡ false = ap (λ (t : State). shortens t (begun item) n i) (sym later_is) ∙ none n i in
    ap (λ (cs : List Unfinished). is_shortened (run start front) cs n i) (begun_more later item)
    ∙ (shortened_more (run start front) (map begun later) (begun item) n i
    ∙ neither (is_shortened (run start front) (map begun later) n i) (shortens (after_calls (run start front) (map begun later)) (begun item) n i) before now)

-- a node with as many bytes is no shorter
pub not_shorter : (x y : Node) (i : ℕ) → length (bytes_of y) ≡ length (bytes_of x) → (nat_lt i (length (bytes_of x)) && ends_before y i) ≡ false
not_shorter x Node.Gone i same = none (nat_lt i (length (bytes_of x))) where
  none : (b : Bool) → (b && false) ≡ false
  none true = refl
  none false = refl
not_shorter x Node.Directory i same = none (nat_lt i (length (bytes_of x))) where
  none : (b : Bool) → (b && false) ≡ false
  none true = refl
  none false = refl
not_shorter x (Node.File file) i same = ap (λ n. nat_lt i (length (bytes_of x)) && nat_le n i) same ∙ apart i (length (bytes_of x)) where
  apart : (i n : ℕ) → (nat_lt i n && nat_le n i) ≡ false
  apart i n = grind (arith, nat_tests)

published_bytes : (x : Node) → bytes_of (published_node x) ≡ bytes_of x
published_bytes Node.Gone = refl
published_bytes Node.Directory = refl
published_bytes (Node.File file) = refl

-- where a length is published all nodes have their bytes
same_bytes : (nodes : List Node) (n m : ℕ) → bytes_of (node_at (slice_set nodes n (published_node (node_at nodes n))) m) ≡ bytes_of (node_at nodes m)
same_bytes nodes n m = elim (node_set nodes n (published_node (node_at nodes n)) m) [
  | inl same ↦ ap bytes_of same
  | inr own ↦ ap bytes_of own.1 ∙ (published_bytes (node_at nodes n) ∙ ap (λ k. bytes_of (node_at nodes k)) (sym own.0))
]

-- the state of the calls leads to nodes
pub paths_of : (g : Geometry) (k : View) (files : Files) (count : ℕ) (numbers : List ℕ) (start : State) (history : List Item) → GoesReady g k files count numbers start history → PathsLeadToNodes (run start history)
paths_of g k files count numbers start history ready =
    let live = live_is_world g k files count numbers start history (words_of k.cells) ready.going (IsImage-words_of k.cells) in
    paths_lead (sized files.sizes k.volume) (live_claims (sized files.sizes k.volume) (as_claims (staged_of k.volume files))) (journaled (words_of k.cells)) numbers (run start history) live.0.valid.stands

pub publishing_behind : (g : Geometry) (k : View) (files : Files) (count : ℕ) (numbers : List ℕ) (start : State) (history : List Item) (item : Item) → GoesReady g k files count numbers start history → IsPublishing (run start (history ++ item ∷ []))
publishing_behind g k files count numbers start history item ready =
    subst IsPublishing (sym (run-append start history item)) (publishing_kept (run start history) item.who item.call ready.going.publishing (paths_of g k files count numbers start history ready))

pub fits_behind : (start : State) (history : List Item) (item : Item) → Fits (run start history) → Fits (run start (history ++ item ∷ []))
fits_behind start history item fits = subst Fits (sym (run-append start history item)) (Fits-step_of alone (run start history) item.who item.call fits)

-- ---- the laws

pub relink_goes_on : RelinkGoesOn
relink_goes_on g k l files e count numbers start history w ino applied ready relinked =
    subst (GoesReady g l e count numbers start) (append-nil history)
    (batch_goes_on g k l files e count numbers start history [] ready
    (relink_leaves g k l files e count numbers start history w ino size applied ready relinked [] (published_of it) renews_node (sym kept.0) (subst (λ h. IsPublishing (run start h)) (sym (append-nil history)) ready.going.publishing)
    (λ n i before. ap (λ (items : List Item). is_shortened (run start ready.going.front) (map begun items) n i) (append-nil ready.going.later) ∙ before) (omega (arith, same)))
    (λ image is. tt))
  where
    s : State
    s = run start history

    it : Node
    it = node_at (run start history).nodes (number numbers ino)

    size : ℕ
    size = (inode k.volume ino).size

    kept : (published_of it ≡ (inode k.volume ino).size) × (length (bytes_of it) ≡ size_in files ino)
    kept = lengths g k l files e count numbers start history w ino size applied ready relinked

    same : published_of it ≡ (inode k.volume ino).size
    same = kept.0

    here : run start (history ++ []) ≡ s
    here = ap (run start) (append-nil history)

    renews_node : RenewsNode s (run start (history ++ [])) (number numbers ino) (bytes_of it) (published_of it)
    renews_node = record {
      entries = ap (λ (t : State). t.entries) here;
      shape = ap (λ (t : State). t.shape) here;
      nodes = ap (λ (t : State). t.nodes) here
          ∙ (sym (set-get_or s.nodes (number numbers ino) Node.Gone) ∙ ap (slice_set s.nodes (number numbers ino)) (node_is g k l files e count numbers start history w ino size applied ready relinked));
      fits = subst Fits (sym here) ready.going.fits;
      within = ready.going.publishing.within (number numbers ino);
    }

pub publish_leaves_batch : PublishLeavesBatch
unfolding with_published
publish_leaves_batch g k l files e count numbers start history item w ino applied ready relinked nodes entries =
    relink_leaves g k l files e count numbers start history w ino (size_in files ino) applied ready relinked (item ∷ []) (length (bytes_of it)) renews_node (sym kept.1) (publishing_behind g k files count numbers start history item ready)
    (not_cut_behind start ready.going.front ready.going.later item (subst (λ (h : List Item). (n i : ℕ) → shortens (run start h) (begun item) n i ≡ false) ready.going.history_is shortens_none)) grows
  where
    s : State
    s = run start history

    it : Node
    it = node_at (run start history).nodes (number numbers ino)

    kept : (published_of it ≡ (inode k.volume ino).size) × (length (bytes_of it) ≡ size_in files ino)
    kept = lengths g k l files e count numbers start history w ino (size_in files ino) applied ready relinked

    grows : (inode k.volume ino).size ≤ length (bytes_of it)
    grows = let same = kept.0 in let within = ready.going.publishing.within (number numbers ino) in omega (arith, same, within)

    here : run start (history ++ item ∷ []) ≡ after_call s (begun item)
    here = run-append start history item

    shortens_none : (n i : ℕ) → shortens s (begun item) n i ≡ false
    shortens_none n i =
        not_shorter (node_at s.nodes n) (node_at (after_call s (begun item)).nodes n) i
        (ap (λ (xs : List Node). length (bytes_of (node_at xs n))) nodes ∙ ap (λ (bs : List ℕ). length bs) (same_bytes s.nodes (number numbers ino) n))

    renews_node : RenewsNode s (run start (history ++ item ∷ [])) (number numbers ino) (bytes_of it) (length (bytes_of it))
    renews_node = record {
      entries = ap (λ (t : State). t.entries) here ∙ entries;
      shape = ap (λ (t : State). t.shape) here ∙ (step_lasts s item.who item.call).shape;
      nodes = ap (λ (t : State). t.nodes) here
          ∙ (nodes ∙ ap (λ (x : Node). slice_set s.nodes (number numbers ino) (published_node x)) (node_is g k l files e count numbers start history w ino (size_in files ino) applied ready relinked));
      fits = fits_behind start history item ready.going.fits;
      within = omega arith;
    }

-- the runs that are staged behind it were staged before
pub relink_keeps_staged : RelinkKeepsStaged
relink_keeps_staged g k l files e count numbers start history w ino size applied ready relinked =
    subst (λ (x : Volume). AreStagedStill k.volume x files e) (sym relinked.gathered.volume)
    (record {
      among = λ d is. (left_in blocks k.volume w files e ino n renews_file ready.going.sizes ready.going.alive sane d is).0;
      fewer = (let few = fewer_staged blocks k.volume w files e ino n renews_file ready.going.sizes ready.going.alive sane in omega (arith, few));
    })
  where
    blocks : List ℕ
    blocks = moved_chains (runs_of k.volume files ino) ino w

    n : ℕ
    n = length (bytes_of (node_at (run start history).nodes (number numbers ino)))

    renews_file : RenewsFile (moved_chains (runs_of k.volume files ino) ino w) k.volume w files e ino (length (bytes_of (node_at (run start history).nodes (number numbers ino))))
    renews_file = renewal g k l files e count numbers start history w ino size applied ready relinked

    sane : IsSane k.volume
    sane = (cut_is_world g k files count numbers start history (words_of k.cells) ready.going (IsImage-words_of k.cells)).valid.stands.sane
