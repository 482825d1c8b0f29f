-- One file of the batch is anew: both Worlds go on.
use Rattle.batch_laws.specs.Ready.{AreUnmapped}
use Rattle.batch_laws.specs.Standing.{as_claims, draft_of_run, staged_of}
use Rattle.batch_laws.specs.Steps.{IsOfStaging}
use Rattle.batch_laws.specs.WorldsLaws.{cut_is_world, live_all}
use Rattle.batch_publish_laws.specs.ChangesLaws.{change_leaves_batch}
use Rattle.batch_publish_laws.specs.Renewals.{HasByMap, RenewalLeavesBatch, RenewsFile, RenewsNode}
use Rattle.live_model.specs.extent_model.Extents.{disk_at}
use Rattle.live_model.specs.extent_model.declared.extent_words.Extent.{Extent}
use Rattle.live_model.specs.file_overlay.declared.runs.Run.{Run}
use Rattle.live_model.specs.file_table.Files.{Files, runs_in, size_in}
use Rattle.live_model.specs.image_model.Content.{disk_of}
use Rattle.live_model.specs.image_model.Live.{is_file, is_live}
use Rattle.live_model.specs.image_model.Placed.{block_at}
use Rattle.live_model.specs.image_model.Volume.{Volume, chain, extents, free_inode, inode}
use Rattle.live_model.specs.layout_model.Journal.{journaled}
use Rattle.live_model.specs.layout_model.Places.{Geometry, reserve}
use Rattle.live_model.specs.layout_model.declared.lines.Draft.{Draft}
use Rattle.live_model.specs.layout_model.declared.lines.Inode.{Inode}
use Rattle.live_model.specs.layout_model.declared.lines.Kind.TheVariants.{File, Staging}
use Rattle.live_model.specs.list_laws.Filters.{filter-In}
use Rattle.live_model.specs.list_laws.Members.{In}
use Rattle.live_model.specs.pm_model.ImageLaws.{IsImage-words_of}
use Rattle.live_model.specs.pm_model.Images.{words_of}
use Rattle.live_model.specs.pm_model.Words.{Words}
use Rattle.live_model.specs.posix_laws.Cuts.{cut_node, cut_of}
use Rattle.live_model.specs.posix_spec.Run.{run}
use Rattle.live_model.specs.posix_spec.State.{State}
use Rattle.live_model.specs.posix_tables.declared.nodes.Node.{Node}
use Rattle.live_model.specs.world_image_laws.world_model.TreeRules.{used_below}
use Rattle.live_model.specs.world_model.JobLaws.{live_file}
use Rattle.live_model.specs.world_model.Stands.{IsSane, IsUsed, entries_of, is_used, number}
use Rattle.live_model.specs.world_step_laws.Worlds.{IsWorld}
use Rattle.posix_mode_laws.specs.ClaimsLaws.{generation_sized}
use Rattle.posix_mode_laws.specs.CutStands.{cut_left, left_fits}
use Rattle.posix_mode_laws.specs.Sides.{Same, sized, with_sizes}
use Rattle.posix_mode_laws.specs.Sized.{kind-sized, length-with_sizes, sane_sized}
use Rattle.std.proofs.Common.{ap, arith, inl, inr, subst, sym, ◌∙◌}
use Rattle.std.proofs.lemmas.Bool.{cases_eq, cases_lt, eq-eqb, ne_eqb}
use Rattle.std.proofs.lemmas.Bool.Decides.{Decides-eqb}
use Rattle.std.proofs.lemmas.List.{get_or-set_other, get_or-set_same, get_or-take, get_or_past, length-set, length-take, map-set}
use Rattle.std.proofs.lemmas.List.Elements.{filter-append}
use Rattle.std.specs.List.{flat_map, range_with_len}
use Rattle.std.specs.Prelude.{Bool, List, Some, [], false, filter, if◌then◌else◌, length, map, nat_lt, not, refl, slice_index, slice_index_or, suc, take, true, zero, ℕ, ◌&&◌, ◌++◌, ◌+◌, ◌<◌, ◌==◌, ◌∷◌, ◌≡◌, ◌≢◌, ◌≤◌, ◌⊎◌}
use Rattle.world_write_laws.specs.RenewSteps.{renewed}
use Rattle.world_write_laws.specs.Renews.{Renews, claims_beside}

-- ---- lines with sizes

pub line_at : (xs : List Inode) (ns : List ℕ) (i : ℕ) → length ns ≡ length xs → i < length xs → slice_index_or (with_sizes xs ns) i free_inode ≡ record (slice_index_or xs i free_inode) { size = slice_index ns i }
line_at [] ns i same below = absurd (omega (arith, below))
line_at (x ∷ xs) [] i same below = absurd (omega (arith, same))
line_at (x ∷ xs) (n ∷ ns) zero same below = refl
line_at (x ∷ xs) (n ∷ ns) (suc i) same below = line_at xs ns i (omega (arith, same)) (omega (arith, below))

-- the line of an inode with its length
pub sized_line : (v : Volume) (ns : List ℕ) (i : ℕ) → length ns ≡ length v.inodes → i < length v.inodes → inode (sized ns v) i ≡ record (inode v i) { size = slice_index ns i }
sized_line v ns i same below = line_at v.inodes ns i same below

-- that of an inode whose line and length are the same
pub same_line : (v w : Volume) (ms ns : List ℕ) (i : ℕ) → length ms ≡ length v.inodes → length ns ≡ length w.inodes → length w.inodes ≡ length v.inodes → inode w i ≡ inode v i → slice_index ns i ≡ slice_index ms i
    → inode (sized ns w) i ≡ inode (sized ms v) i
same_line v w ms ns i ms_count ns_count many line size = elim (cases_lt i (length v.inodes)) [
  | inl below ↦
      sized_line w ns i ns_count (omega (arith, below, many))
      ∙ ((λ j. record (line j) { size = size j }) ∙ sym (sized_line v ms i ms_count below))
  | inr past ↦
      let one = length-with_sizes w.inodes ns in
      let two = length-with_sizes v.inodes ms in
      get_or_past (with_sizes w.inodes ns) i free_inode (omega (arith, past, one, many)) ∙ sym (get_or_past (with_sizes v.inodes ms) i free_inode (omega (arith, past, two)))
]

pub below_file : (v : Volume) (ino : ℕ) → (inode v ino).kind ≡ File → ino < length v.inodes
below_file v ino file = used_below v ino (ap is_used file)

-- ---- entries of all other files

abbrev is_other : ℕ → Draft → Bool
is_other ino d = not (d.ino == ino)

claims_of_others : (ino : ℕ) (ds : List Draft) → claims_beside ino (as_claims ds) ≡ as_claims (filter (is_other ino) ds)
claims_of_others ino [] = refl
claims_of_others ino (d ∷ ds) = by (not (d.ino == ino)) (claims_of_others ino ds) where
  by : (b : Bool) → claims_beside ino (as_claims ds) ≡ as_claims (filter (is_other ino) ds)
      → (if b then ((0, d) ∷ claims_beside ino (as_claims ds)) else claims_beside ino (as_claims ds)) ≡ as_claims (if b then (d ∷ filter (is_other ino) ds) else filter (is_other ino) ds)
  by true rest = ap (λ (cs : List (ℕ × Draft)). (0, d) ∷ cs) rest
  by false rest = rest

filter_flat : (p : Draft → Bool) (f h : ℕ → List Draft) (a n : ℕ) → ((i : ℕ) → a ≤ i → i < a + n → filter p (f i) ≡ h i) → filter p (flat_map f (range_with_len a n)) ≡ flat_map h (range_with_len a n)
filter_flat p f h a zero each = refl
filter_flat p f h a (suc n) each =
    filter-append p (f a) (flat_map f (range_with_len (a + 1) n))
    ∙ (ap (λ xs. xs ++ filter p (flat_map f (range_with_len (a + 1) n))) (each a (omega arith) (omega arith))
    ∙ ap (λ ys. h a ++ ys) (filter_flat p f h (a + 1) n (λ i low high. each i (omega (arith, low)) (omega (arith, high)))))

in_front : (xs ys : List Draft) (d : Draft) → In d xs → In d (xs ++ ys)
in_front [] ys d is = absurd is
in_front (x ∷ xs) ys d (inl same) = inl same
in_front (x ∷ xs) ys d (inr behind) = inr (in_front xs ys d behind)

in_behind : (xs ys : List Draft) (d : Draft) → In d ys → In d (xs ++ ys)
in_behind [] ys d is = is
in_behind (x ∷ xs) ys d is = inr (in_behind xs ys d is)

pub in_flat : (f : ℕ → List Draft) (a n i : ℕ) (d : Draft) → a ≤ i → i < a + n → In d (f i) → In d (flat_map f (range_with_len a n))
in_flat f a zero i d low high is = absurd (omega (arith, low, high))
in_flat f a (suc n) i d low high is = elim (cases_eq a i) [
  | inl same ↦ in_front (f a) (flat_map f (range_with_len (a + 1) n)) d (subst (λ j. In d (f j)) (sym same) is)
  | inr apart ↦ in_behind (f a) (flat_map f (range_with_len (a + 1) n)) d (in_flat f (a + 1) n i d (omega (arith, low, apart)) (omega (arith, high)) is)
]

-- a list and its parts
parts_count : (ino : ℕ) (ds : List Draft) → length (filter (is_other ino) ds) + length (entries_of ino ds) ≡ length ds
parts_count ino [] = refl
parts_count ino (d ∷ ds) = by (d.ino == ino) (parts_count ino ds) where
  by : (b : Bool) → length (filter (is_other ino) ds) + length (entries_of ino ds) ≡ length ds
      → length (if not b then (d ∷ filter (is_other ino) ds) else filter (is_other ino) ds) + length (if b then (d ∷ entries_of ino ds) else entries_of ino ds) ≡ suc (length ds)
  by true rest = omega (arith, rest)
  by false rest = omega (arith, rest)

module _ (blocks : List ℕ) (v w : Volume) (files e : Files) (ino size : ℕ) (renewal : RenewsFile blocks v w files e ino size) (same_count : length files.sizes ≡ length v.inodes)
    (alive : (d : Draft) → In d (staged_of v files) → is_live v d ≡ true) (sane : IsSane v) where
  pub same_inodes : length w.inodes ≡ length v.inodes
  same_inodes = renewal.renews.sane.inode_count ∙ (ap (λ (x : Geometry). x.inodes) renewal.renews.geometry ∙ sym sane.inode_count)

  pub same_sizes : length e.sizes ≡ length files.sizes
  same_sizes = ap (λ (ns : List ℕ). length ns) renewal.changes.sizes ∙ length-set files.sizes ino size

  pub other_size : (i : ℕ) → i ≢ ino → size_in e i ≡ size_in files i
  other_size i other = ap (λ (ns : List ℕ). slice_index ns i) renewal.changes.sizes ∙ get_or-set_other files.sizes ino i size 0 other

  pub own_size : size_in e ino ≡ size
  own_size = ap (λ (ns : List ℕ). slice_index ns ino) renewal.changes.sizes ∙ get_or-set_same files.sizes ino size 0 (subst (λ n. ino < n) (sym same_count) (below_file v ino renewal.renews.file))

  other_line : (i : ℕ) → i ≢ ino → (inode v i).kind ≢ Staging → inode w i ≡ inode v i
  other_line i other plain = (renewal.renews.others i other plain).0

  no_staging : (i : ℕ) → (inode v i).kind ≡ File → (inode v i).kind ≢ Staging
  no_staging i file staging = let never : File ≡ Staging = sym file ∙ staging in cc

  -- ---- the staged runs

  same_draft : (i : ℕ) (r : Run) → i ≢ ino → draft_of_run v files i r ≡ draft_of_run w e i r
  same_draft i r other =
      let own = sym (renewal.renews.generations i) in
      let from = sym (renewal.renews.generations r.staging) in
      let size = sym (other_size i other) in
      λ j. record {
        count = r.count;
        order = r.order;
        ino = i;
        generation = own j;
        file_block = r.file_block;
        staging = r.staging;
        staging_block = r.staging_block;
        staging_generation = from j;
        size = size j;
      }

  kept_runs : (i : ℕ) (rs : List Run) → i ≢ ino → filter (is_other ino) (map (draft_of_run v files i) rs) ≡ map (draft_of_run w e i) rs
  kept_runs i [] other = refl
  kept_runs i (r ∷ rs) other =
      let rest = kept_runs i rs other in
      ap (λ (b : Bool). if not b then (draft_of_run v files i r ∷ filter (is_other ino) (map (draft_of_run v files i) rs)) else filter (is_other ino) (map (draft_of_run v files i) rs)) (ne_eqb i ino other)
      ∙ (λ j. same_draft i r other j ∷ rest j)

  gone_runs : (rs : List Run) → filter (is_other ino) (map (draft_of_run v files ino) rs) ≡ []
  gone_runs [] = refl
  gone_runs (r ∷ rs) =
      ap (λ (b : Bool). if not b then (draft_of_run v files ino r ∷ filter (is_other ino) (map (draft_of_run v files ino) rs)) else filter (is_other ino) (map (draft_of_run v files ino) rs)) (eq-eqb ino ino refl)
      ∙ gone_runs rs

  -- THE RUNS THAT ARE STAGED BEHIND IT are those of all other files.
  pub staged_left : filter (is_other ino) (staged_of v files) ≡ staged_of w e
  staged_left =
      filter_flat (is_other ino) (λ (i : ℕ). map (draft_of_run v files i) (runs_in files i)) (λ (i : ℕ). map (draft_of_run w e i) (runs_in e i)) 0 (length files.sizes) (λ i low high. part i (cases_eq i ino))
      ∙ ap (λ n. flat_map (λ (i : ℕ). map (draft_of_run w e i) (runs_in e i)) (range_with_len 0 n)) (sym same_sizes)
    where
      part : (i : ℕ) → (i ≡ ino) ⊎ (i ≢ ino) → filter (is_other ino) (map (draft_of_run v files i) (runs_in files i)) ≡ map (draft_of_run w e i) (runs_in e i)
      part i (inl same) =
          subst (λ j. filter (is_other ino) (map (draft_of_run v files j) (runs_in files j)) ≡ map (draft_of_run w e j) (runs_in e j)) (sym same)
          (gone_runs (runs_in files ino) ∙ sym (ap (map (draft_of_run w e ino)) renewal.changes.runs_are))
      part i (inr other) = kept_runs i (runs_in files i) other ∙ ap (map (draft_of_run w e i)) (sym (renewal.changes.others i other))

  pub left_in : (d : Draft) → In d (staged_of w e) → In d (staged_of v files) × (d.ino ≢ ino)
  left_in d is =
      let its = filter-In (is_other ino) (staged_of v files) d (subst (In d) (sym staged_left) is) in
      (its.0, λ same. (let never : true ≡ false = sym its.1 ∙ ap not (eq-eqb d.ino ino same) in cc))

  -- no run of the file is left
  pub none_left : entries_of ino (staged_of w e) ≡ []
  none_left = empty (entries_of ino (staged_of w e)) (λ d is. (
      let its = filter-In (λ (x : Draft). x.ino == ino) (staged_of w e) d is in
      (left_in d its.0).1 ((Decides-eqb d.ino ino).0 its.1)))
    where
      empty : (xs : List Draft) → ((d : Draft) → In d xs → ⊥) → xs ≡ []
      empty [] out = refl
      empty (x ∷ xs) out = absurd (out x (inl refl))

  pub alive_behind : (d : Draft) → In d (staged_of w e) → is_live w d ≡ true
  alive_behind d is =
      let its = left_in d is in
      let was = alive d its.0 in
      let line = other_line d.ino its.1 (no_staging d.ino (live_file v d was)) in
      (λ j. is_file (line j).kind && ((line j).generation == d.generation) && nat_lt (line j).applied d.order && (renewal.renews.generations d.staging j == d.staging_generation)) ∙ was

  pub fewer_staged : length (staged_of w e) + length (entries_of ino (staged_of v files)) ≡ length (staged_of v files)
  fewer_staged = subst (λ (ds : List Draft). length ds + length (entries_of ino (staged_of v files)) ≡ length (staged_of v files)) staged_left (parts_count ino (staged_of v files))

  -- ---- what the calls see

  live_renews : Renews (sized files.sizes v) (sized e.sizes w) (as_claims (staged_of v files)) ino
  live_renews = record {
    sane = sane_sized e.sizes w renewal.renews.sane;
    names = renewal.renews.names;
    geometry = renewal.renews.geometry;
    file = kind-sized files.sizes v ino ∙ renewal.renews.file;
    kinds = λ i. kind-sized e.sizes w i ∙ (renewal.renews.kinds i ∙ sym (kind-sized files.sizes v i));
    generations = λ i. generation_sized e.sizes w i ∙ (renewal.renews.generations i ∙ sym (generation_sized files.sizes v i));
    others = λ i other plain. (
        let its = renewal.renews.others i other (λ staging. plain (kind-sized files.sizes v i ∙ staging)) in
        (same_line v w files.sizes e.sizes i same_count (same_sizes ∙ (same_count ∙ sym same_inodes)) same_inodes its.0 (other_size i other), its.1));
    staged = λ d is apart j below. renewal.staged d (subst (In d) (live_all v files.sizes (staged_of v files) alive) is) apart j below;
  }

  module _ (f : Words) (numbers : List ℕ) (s next : State) (count : ℕ) (bytes : List ℕ) (published : ℕ) (node : RenewsNode s next (number numbers ino) bytes published) (size_is : size ≡ length bytes)
      (published_is : (inode w ino).size ≡ published) (has : HasByMap w f ino bytes) where
    pub live_takes : IsWorld (sized files.sizes v) (as_claims (staged_of v files)) [] f numbers s count → IsWorld (sized e.sizes w) (as_claims (staged_of w e)) [] f numbers next count
    live_takes world =
        subst (λ cs. IsWorld (sized e.sizes w) cs [] f numbers next count) (claims_of_others ino (staged_of v files) ∙ ap as_claims staged_left)
        (renewed (sized files.sizes v) (sized e.sizes w) (as_claims (staged_of v files)) f numbers s next count ino bytes published world live_renews
        (record { size = own_line; each = has }) node.fits node.entries node.shape node.nodes)
      where
        own_line : (inode (sized e.sizes w) ino).size ≡ length bytes
        own_line =
            ap (λ (x : Inode). x.size) (sized_line w e.sizes ino (same_sizes ∙ (same_count ∙ sym same_inodes)) (subst (λ n. ino < n) (sym same_inodes) (below_file v ino renewal.renews.file)))
            ∙ (own_size ∙ size_is)

    cut_length : length (take published bytes) ≡ published
    cut_length = let long = length-take published bytes in let within = node.within in omega (arith, long, within)

    pub cut_takes : IsWorld v [] [] f numbers (cut_of s) count → IsWorld w [] [] f numbers (cut_of next) count
    cut_takes world =
        renewed v w [] f numbers (cut_of s) (cut_of next) count ino (take published bytes) published world renewal.renews
        (record {
          size = published_is ∙ sym cut_length;
          each = λ i below. (
              let short = cut_length in
              let within = node.within in
              has i (omega (arith, below, short, within)) ∙ sym (get_or-take published bytes i 0 (omega (arith, below, short))));
        })
        (left_fits Same next (cut_of next) (cut_left next) refl node.fits) node.entries node.shape
        (ap (map cut_node) node.nodes ∙ map-set cut_node s.nodes (number numbers ino) (Node.File (record { bytes = bytes; published = published })))

-- ---- the law

pub renewal_leaves_batch : RenewalLeavesBatch
renewal_leaves_batch g k l files e count numbers start history more blocks w ino bytes published ready gathered renewal node published_is has publishing cuts =
    change_leaves_batch g k l files e count numbers start history more blocks w ready gathered
    (record {
      geometry = renewal.renews.geometry;
      base = renewal.base;
      count = many;
      kept = same_sizes blocks v w files e ino (length bytes) renewal ready.going.sizes ready.going.alive sane;
      bare = bare;
      alive = alive_behind blocks v w files e ino (length bytes) renewal ready.going.sizes ready.going.alive sane;
      unmapped = unmapped;
      room = (
          let room = ready.room in
          let frees = renewal.frees in
          let fewer = fewer_staged blocks v w files e ino (length bytes) renewal ready.going.sizes ready.going.alive sane in
          let same = ap reserve renewal.renews.geometry in
          omega (arith, room, frees, fewer, same));
    })
    (record {
      live = λ image is world. live_takes blocks v w files e ino (length bytes) renewal ready.going.sizes ready.going.alive sane (journaled image) numbers s next count bytes published node refl published_is (has image is world) world;
      cut = λ image is world cut. cut_takes blocks v w files e ino (length bytes) renewal ready.going.sizes ready.going.alive sane (journaled image) numbers s next count bytes published node refl published_is (has image is world) cut;
    })
    publishing
    (record {
      committed = gathered.committed;
      committed_numbers = refl;
      files = subst (λ (x : Volume). (i block b : ℕ) → IsUsed x i → disk_of x [] i block ≡ Some b → (IsUsed v i × (disk_of v [] i block ≡ Some b) × (number numbers i ≡ number numbers i)) ⊎ (In b blocks ⊎ IsOfStaging v b))
          (sym gathered.volume) (λ i block b used at. of_files i block b used at (cases_eq i ino));
      staging = subst (λ (x : Volume). (i block b : ℕ) → (inode x i).kind ≡ Staging → disk_at (extents x i) block ≡ Some b → In b blocks ⊎ IsOfStaging v b)
          (sym gathered.volume) (λ i block b kind at. (let was = sym (renewal.renews.kinds i) ∙ kind in inr (i, block, was, renewal.staging i block b was at)));
      chains = subst (λ (x : Volume). (i : ℕ) → ((chain x i ≡ chain v i) × (extents x i ≡ extents v i)) ⊎ ((j : ℕ) → j < length (chain x i) → In (block_at (chain x i) j) blocks)) (sym gathered.volume) renewal.chains;
    })
    cuts
  where
    v : Volume
    v = k.volume

    s : State
    s = run start history

    next : State
    next = run start (history ++ more)

    sane : IsSane v
    sane = (cut_is_world g k files count numbers start history (words_of k.cells) ready.going (IsImage-words_of k.cells)).valid.stands.sane

    many : length w.inodes ≡ length v.inodes
    many = same_inodes blocks v w files e ino (length bytes) renewal ready.going.sizes ready.going.alive sane

    bare : (i : ℕ) → (inode w i).kind ≢ File → (runs_in e i ≡ []) × (size_in e i ≡ 0)
    bare i plain =
        let other : i ≢ ino = λ same. plain (ap (λ (j : ℕ). (inode w j).kind) same ∙ (renewal.renews.kinds ino ∙ renewal.renews.file)) in
        let was = ready.going.bare i (λ file. plain (renewal.renews.kinds i ∙ file)) in
        (renewal.changes.others i other ∙ was.0, other_size blocks v w files e ino (length bytes) renewal ready.going.sizes ready.going.alive sane i other ∙ was.1)

    unmapped : AreUnmapped w
    unmapped i no_file no_staging =
        let plain : (inode v i).kind ≢ File = λ file. no_file (renewal.renews.kinds i ∙ file) in
        let still : (inode v i).kind ≢ Staging = λ staging. no_staging (renewal.renews.kinds i ∙ staging) in
        let other : i ≢ ino = λ same. plain (ap (λ (j : ℕ). (inode v j).kind) same ∙ renewal.renews.file) in
        (renewal.renews.others i other still).1 ∙ ready.unmapped i plain still

    of_files : (i block b : ℕ) → IsUsed w i → disk_at (extents w i) block ≡ Some b → (i ≡ ino) ⊎ (i ≢ ino) → (IsUsed v i × (disk_at (extents v i) block ≡ Some b) × (number numbers i ≡ number numbers i)) ⊎ (In b blocks ⊎ IsOfStaging v b)
    of_files i block b used at (inl own) = by (renewal.file block b (subst (λ j. disk_at (extents w j) block ≡ Some b) own at)) where
      by : (disk_at (extents v ino) block ≡ Some b) ⊎ (In b blocks ⊎ IsOfStaging v b) → (IsUsed v i × (disk_at (extents v i) block ≡ Some b) × (number numbers i ≡ number numbers i)) ⊎ (In b blocks ⊎ IsOfStaging v b)
      by (inl was) = inl (ap is_used (sym (renewal.renews.kinds i)) ∙ used, subst (λ j. disk_at (extents v j) block ≡ Some b) (sym own) was, refl)
      by (inr new) = inr new
    of_files i block b used at (inr other) =
        let was : IsUsed v i = ap is_used (sym (renewal.renews.kinds i)) ∙ used in
        let plain : (inode v i).kind ≢ Staging = λ staging. (let never : true ≡ false = sym was ∙ ap is_used staging in cc) in
        inl (was, subst (λ (es : List Extent). disk_at es block ≡ Some b) (renewal.renews.others i other plain).1 at, refl)
