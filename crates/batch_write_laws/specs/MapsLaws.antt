-- Staging files get blocks or give them up, and holes are filled, in the batch: the device goes on.
use Rattle.std.specs.Prelude.{◌≡◌, ◌≢◌, ◌⊎◌, ◌<◌, ◌≤◌, ◌+◌, ◌*◌, ◌/◌, ◌==◌, ◌&&◌, nat_lt, ℕ, zero, suc, true, false, List, [], ◌∷◌, ◌++◌, length, map, Some, refl}
use Rattle.std.specs.List.{flat_map, range_with_len}
use Rattle.std.proofs.Common.{arith, ap, append-nil, ◌∙◌, sym, subst, inl, inr}
use Rattle.std.proofs.lemmas.Bool.{cases_eq}
use Rattle.live_model.specs.pm_model.ImageLaws.{IsImage-words_of}
use Rattle.live_model.specs.pm_model.Images.{IsImage, words_of}
use Rattle.live_model.specs.pm_model.Words.{Words}
use Rattle.live_model.specs.layout_model.Journal.{IsSound, journaled}
use Rattle.live_model.specs.layout_model.Places.{Geometry, is_data_block, log_block, reserve}
use Rattle.live_model.specs.layout_model.declared.lines.Draft.{Draft}
use Rattle.live_model.specs.layout_model.declared.lines.Inode.{Inode}
use Rattle.live_model.specs.layout_model.declared.lines.Kind.TheVariants.{File, Staging}
use Rattle.live_model.specs.extent_model.Extents.{disk_at}
use Rattle.live_model.specs.extent_model.declared.extent_words.Extent.{Extent}
use Rattle.live_model.specs.image_model.Content.{disk_of}
use Rattle.live_model.specs.image_model.Live.{is_file, is_live}
use Rattle.live_model.specs.image_model.Placed.{block_at}
use Rattle.live_model.specs.image_model.Volume.{chain, extents, inode, Volume}
use Rattle.live_model.specs.file_overlay.declared.runs.Run.{Run}
use Rattle.live_model.specs.file_table.Files.{Files, runs_in, size_in}
use Rattle.live_model.specs.k_split_model.View.{View}
use Rattle.live_model.specs.k_split_model.Zeros.{AreZeros}
use Rattle.live_model.specs.list_laws.Filters.{In-map}
use Rattle.live_model.specs.list_laws.Members.{In}
use Rattle.live_model.specs.commute_laws.posix_types.declared.item.Item.{Item}
use Rattle.live_model.specs.posix_laws.Cuts.{cut_of}
use Rattle.live_model.specs.posix_laws.Publishes.{IsPublishing}
use Rattle.live_model.specs.posix_spec.Run.{run}
use Rattle.live_model.specs.posix_spec.State.{State}
use Rattle.live_model.specs.volume_laws.LineWords.{data_word}
use Rattle.live_model.specs.volume_laws.ImageLaws.{journaled-other}
use Rattle.live_model.specs.layout_model.PlaceLaws.{behind_log-not_journaled}
use Rattle.live_model.specs.world_model.JobLaws.{live_used}
use Rattle.live_model.specs.world_model.Stands.{is_used, IsSane, IsUsed, number}
use Rattle.live_model.specs.world_step_laws.Worlds.{IsWorld}
use Rattle.posix_mode_laws.specs.ClaimsLaws.{applied_sized, generation_sized}
use Rattle.posix_mode_laws.specs.Sides.{IsSettled, KeepsCutBytes, Sides, sized}
use Rattle.posix_mode_laws.specs.Sized.{kind-sized, sane_sized}
use Rattle.batch_laws.specs.Ready.{AreUnmapped, GoesReady}
use Rattle.batch_laws.specs.Standing.{as_claims, draft_of_run, PosixGoing, sides_of, staged_of}
use Rattle.batch_laws.specs.Steps.{IsOfStaging}
use Rattle.batch_laws.specs.WorldsLaws.{cut_is_world, live_all}
use Rattle.batch_publish_laws.specs.Changes.{IsMapGathered, TakesBoth}
use Rattle.batch_publish_laws.specs.ChangesLaws.{at_in, batch_goes_on, change_leaves_batch, unused_data, unused_unmapped}
use Rattle.batch_publish_laws.specs.RenewalsLaws.{below_file, in_flat, same_line, sized_line}
use Rattle.batch_publish_laws.specs.Words.{behind_journal}
use Rattle.world_write_laws.specs.HolesLaws.{FillsHoles}
use Rattle.world_write_laws.specs.HolesSteps.{filled_holes}
use Rattle.world_write_laws.specs.Restages.{Restages}
use Rattle.world_write_laws.specs.StagingSteps.{restaged}
use Rattle.batch_write_laws.specs.Maps.{FillGoesOn, RestageGoesOn, TakesForOne}

-- ---- the drafts of the runs

flat_agree : (f h : ℕ → List Draft) (a n : ℕ) → ((i : ℕ) → a ≤ i → i < a + n → f i ≡ h i) → flat_map f (range_with_len a n) ≡ flat_map h (range_with_len a n)
flat_agree f h a zero agree = refl
flat_agree f h a (suc n) agree =
    let first = agree a (omega arith) (omega arith) in
    let rest = flat_agree f h (a + 1) n (λ i low high. agree i (omega (arith, low)) (omega (arith, high))) in
    λ j. first j ++ rest j

map_agree : (f h : Run → Draft) (rs : List Run) → ((r : Run) → In r rs → f r ≡ h r) → map f rs ≡ map h rs
map_agree f h [] agree = refl
map_agree f h (r ∷ rs) agree = let first = agree r (inl refl) in let rest = map_agree f h rs (λ q is. agree q (inr is)) in λ j. first j ∷ rest j

-- They are the same, where the generations of their files are.
same_drafts : (v w : Volume) (files : Files)
    → ((d : Draft) → In d (staged_of v files) → ((inode w d.ino).generation ≡ (inode v d.ino).generation) × ((inode w d.staging).generation ≡ (inode v d.staging).generation))
    → staged_of w files ≡ staged_of v files
same_drafts v w files same = flat_agree (λ (i : ℕ). map (draft_of_run w files i) (runs_in files i)) (λ (i : ℕ). map (draft_of_run v files i) (runs_in files i)) 0 (length files.sizes) (λ i low high.
    map_agree (draft_of_run w files i) (draft_of_run v files i) (runs_in files i) (λ r is. (
    let there = in_flat (λ (m : ℕ). map (draft_of_run v files m) (runs_in files m)) 0 (length files.sizes) i (draft_of_run v files i r) low high (In-map (draft_of_run v files i) (runs_in files i) r is) in
    let both = same (draft_of_run v files i r) there in
    let own = both.0 in
    let from = both.1 in
    λ j. record {
      count = r.count;
      order = r.order;
      ino = i;
      generation = own j;
      file_block = r.file_block;
      staging = r.staging;
      staging_block = r.staging_block;
      staging_generation = from j;
      size = size_in files i;
    })))

-- ---- a change of one inode

-- What is asked of it beside its blocks: the lines of all others stay; it is a file or a staging file, as it was, and a file of the same
-- size; and the runs that are staged are the same, and would be live.
record ChangesOne (v w : Volume) (files : Files) (x : ℕ) : Type 0 where
  sane : IsSane w
  names : w.names ≡ v.names
  geometry : w.geometry ≡ v.geometry
  kind : (inode w x).kind ≡ (inode v x).kind
  mapped : ((inode v x).kind ≡ File) ⊎ ((inode v x).kind ≡ Staging)
  size : IsUsed v x → (inode w x).size ≡ (inode v x).size
  lines : (i : ℕ) → i ≢ x → inode w i ≡ inode v i
  maps : (i : ℕ) → i ≢ x → extents w i ≡ extents v i
  drafts : staged_of w files ≡ staged_of v files
  alive : (d : Draft) → In d (staged_of v files) → is_live w d ≡ true

module _ (g : Geometry) (k l : View) (files : Files) (count : ℕ) (numbers : List ℕ) (start : State) (history : List Item) (blocks : List ℕ) (w : Volume) (x : ℕ)
    (ready : GoesReady g k files count numbers start history) (gathered : IsMapGathered blocks k l w) (takes : TakesForOne blocks k.volume w files x) (one : ChangesOne k.volume w files x) where
  abbrev going : PosixGoing g k files count numbers start history
  going = ready.going

  abbrev v : Volume
  v = k.volume

  abbrev old_sides : Sides
  old_sides = sides_of k files ready.going.old_numbers numbers

  abbrev new_sides : Sides
  new_sides = sides_of l files ready.going.old_numbers numbers

  -- the same, with the volume and the runs named
  abbrev named_sides : Sides
  named_sides = record { committed = k.committed; committed_numbers = ready.going.old_numbers; batch = w; numbers = numbers; staged = staged_of k.volume files; lengths = files.sizes }

  staged_is : staged_of l.volume files ≡ staged_of k.volume files
  staged_is = ap (λ (u : Volume). staged_of u files) gathered.volume ∙ one.drafts

  same_sides : named_sides ≡ new_sides
  same_sides = sym (λ j. record {
    committed = gathered.committed j;
    committed_numbers = ready.going.old_numbers;
    batch = gathered.volume j;
    numbers = numbers;
    staged = staged_is j;
    lengths = files.sizes;
  })

  old_sane : IsSane v
  old_sane = (cut_is_world g k files count numbers start history (words_of k.cells) going (IsImage-words_of k.cells)).valid.stands.sane

  many : length w.inodes ≡ length v.inodes
  many = one.sane.inode_count ∙ (ap (λ (y : Geometry). y.inodes) one.geometry ∙ sym old_sane.inode_count)

  kinds : (i : ℕ) → (inode w i).kind ≡ (inode v i).kind
  kinds i = elim (cases_eq i x) [
    | inl own ↦ subst (λ j. (inode w j).kind ≡ (inode v j).kind) (sym own) one.kind
    | inr other ↦ ap (λ (y : Inode). y.kind) (one.lines i other)
  ]

  was_used : (i : ℕ) → IsUsed w i → IsUsed v i
  was_used i used = ap is_used (sym (kinds i)) ∙ used

  size_is : (i : ℕ) → IsUsed v i → (inode w i).size ≡ (inode v i).size
  size_is i used = elim (cases_eq i x) [
    | inl own ↦ subst (λ j. (inode w j).size ≡ (inode v j).size) (sym own) (one.size (subst (IsUsed v) own used))
    | inr other ↦ ap (λ (y : Inode). y.size) (one.lines i other)
  ]

  -- what a map has it had, or it is one of the blocks
  had : (i m b : ℕ) → disk_at (extents w i) m ≡ Some b → (disk_at (extents v i) m ≡ Some b) ⊎ In b blocks
  had i m b at = elim (cases_eq i x) [
    | inl own ↦ subst (λ j. (disk_at (extents v j) m ≡ Some b) ⊎ In b blocks) (sym own) (takes.map m b (subst (λ j. disk_at (extents w j) m ≡ Some b) own at))
    | inr other ↦ inl (subst (λ (es : List Extent). disk_at es m ≡ Some b) (one.maps i other) at)
  ]

  old_settled : (i m b : ℕ) → IsSettled named_sides i m b → IsSettled old_sides i m b
  old_settled i m b is = record { used = is.used; same = is.same; node = is.node }

  -- what is settled was there
  was_there : (i m b : ℕ) → disk_at (extents w i) m ≡ Some b → IsSettled named_sides i m b → disk_at (extents v i) m ≡ Some b
  was_there i m b at is = by (had i m b at) where
    committed : IsSane k.committed
    committed = (going.world (words_of k.cells) (IsImage-words_of k.cells)).medium.stands.sane

    by : (disk_at (extents v i) m ≡ Some b) ⊎ In b blocks → disk_at (extents v i) m ≡ Some b
    by (inl old) = old
    by (inr new) = absurd (unused_unmapped k.committed b i m (committed.map_count ∙ sym committed.inode_count) (gathered.spare.committed b new) is.same)

  cuts : KeepsCutBytes old_sides start going.front going.later → KeepsCutBytes new_sides start going.front (going.later ++ [])
  cuts before = subst (λ (y : Sides). KeepsCutBytes y start ready.going.front (ready.going.later ++ [])) same_sides
      (subst (KeepsCutBytes named_sides start ready.going.front) (sym (append-nil ready.going.later)) (record {
        settled = λ i at b used below lies is.
            before.settled i at b (was_used i used) (subst (λ n. at < n) (size_is i (was_used i used)) below) (was_there i (at / 4096) b lies is) (old_settled i (at / 4096) b is);
        staged = λ i at b used same past there short lies is.
            before.staged i at b (was_used i used) same (subst (λ n. n ≤ at) (size_is i (was_used i used)) past) there short (was_there i (at / 4096) b lies is) (old_settled i (at / 4096) b is);
        unstaged = λ i at b used short none lies is.
            before.unstaged i at b (was_used i used) short none (was_there i (at / 4096) b lies is) (old_settled i (at / 4096) b is);
      }))

  of_files : (i m b : ℕ) → IsUsed w i → disk_at (extents w i) m ≡ Some b
      → (IsUsed v i × (disk_at (extents v i) m ≡ Some b) × (number numbers i ≡ number numbers i)) ⊎ (In b blocks ⊎ IsOfStaging v b)
  of_files i m b used at = elim (had i m b at) [
    | inl old ↦ inl (was_used i used, old, refl)
    | inr new ↦ inr (inl new)
  ]

  of_staging : (i m b : ℕ) → (inode w i).kind ≡ Staging → disk_at (extents w i) m ≡ Some b → In b blocks ⊎ IsOfStaging v b
  of_staging i m b kind at = elim (had i m b at) [
    | inl old ↦ inr (i, m, sym (kinds i) ∙ kind, old)
    | inr new ↦ inl new
  ]

  of_chains : (i : ℕ) → ((chain w i ≡ chain v i) × (extents w i ≡ extents v i)) ⊎ ((j : ℕ) → j < length (chain w i) → In (block_at (chain w i) j) blocks)
  of_chains i = elim (cases_eq i x) [
    | inl own ↦ inr (subst (λ n. (j : ℕ) → j < length (chain w n) → In (block_at (chain w n) j) blocks) (sym own) takes.chain_in)
    | inr other ↦ inl (takes.chains i other, one.maps i other)
  ]

  unmapped : AreUnmapped w
  unmapped i no_file no_staging =
      let plain : (inode v i).kind ≢ File = λ file. no_file (kinds i ∙ file) in
      let still : (inode v i).kind ≢ Staging = λ staging. no_staging (kinds i ∙ staging) in
      let other : i ≢ x = λ own. elim one.mapped [
        | inl file ↦ plain (subst (λ j. (inode v j).kind ≡ File) (sym own) file)
        | inr staging ↦ still (subst (λ j. (inode v j).kind ≡ Staging) (sym own) staging)
      ] in
      one.maps i other ∙ ready.unmapped i plain still

  -- the device goes on
  one_goes_on : TakesBoth l.cells k.volume w files files numbers (run start history) (run start history) count → GoesReady g l files count numbers start history
  one_goes_on both =
      subst (GoesReady g l files count numbers start) (append-nil history)
      (batch_goes_on g k l files files count numbers start history [] ready
      (change_leaves_batch g k l files files count numbers start history [] blocks w ready gathered
      (record {
        geometry = one.geometry;
        base = takes.base;
        count = many;
        kept = refl;
        bare = λ i plain. going.bare i (λ file. plain (kinds i ∙ file));
        alive = λ d is. one.alive d (subst (In d) one.drafts is);
        unmapped = unmapped;
        room = (let room = takes.room in let staged = ap (λ (ds : List Draft). length ds) one.drafts in let same = ap reserve one.geometry in omega (arith, room, staged, same));
      })
      (subst (λ h. TakesBoth l.cells k.volume w files files numbers (run start history) (run start h) count) (sym (append-nil history)) both)
      (subst (λ h. IsPublishing (run start h)) (sym (append-nil history)) going.publishing)
      (record {
        committed = gathered.committed;
        committed_numbers = refl;
        files = subst (λ (u : Volume). (i m b : ℕ) → IsUsed u i → disk_of u [] i m ≡ Some b → (IsUsed v i × (disk_of v [] i m ≡ Some b) × (number numbers i ≡ number numbers i)) ⊎ (In b blocks ⊎ IsOfStaging v b))
            (sym gathered.volume) of_files;
        staging = subst (λ (u : Volume). (i m b : ℕ) → (inode u i).kind ≡ Staging → disk_at (extents u i) m ≡ Some b → In b blocks ⊎ IsOfStaging v b) (sym gathered.volume) of_staging;
        chains = subst (λ (u : Volume). (i : ℕ) → ((chain u i ≡ chain v i) × (extents u i ≡ extents v i)) ⊎ ((j : ℕ) → j < length (chain u i) → In (block_at (chain u i) j) blocks)) (sym gathered.volume) of_chains;
      })
      (λ uses before. cuts before))
      (λ image is. tt))

-- ---- staging files

pub restage_goes_on : RestageGoesOn
restage_goes_on g k l files count numbers start history blocks w x ready gathered takes change none =
    one_goes_on g k l files count numbers start history blocks w x ready gathered takes one
    (record {
      live = λ image is world.
          subst (λ ds. IsWorld (sized files.sizes w) (as_claims ds) [] (journaled image) numbers s count) (sym one.drafts)
          (restaged (sized files.sizes v) (sized files.sizes w) (as_claims (staged_of v files)) [] (journaled image) numbers s count x world live_change
          (λ d there. none d (subst (In d) (live_all v files.sizes (staged_of v files) ready.going.alive) there)) (λ j never. absurd never));
      cut = λ image is world cut. restaged v w [] [] (journaled image) numbers (cut_of s) count x cut change (λ d never. absurd never) (λ j never. absurd never);
    })
  where
    v : Volume
    v = k.volume

    s : State
    s = run start history

    apart : (d : Draft) → In d (staged_of v files) → d.ino ≢ x
    apart d is same = let never : true ≡ false = sym (live_used v d (ready.going.alive d is)) ∙ ap is_used (ap (λ n. (inode v n).kind) same ∙ change.staging) in cc

    many : length w.inodes ≡ length v.inodes
    many = let old = (cut_is_world g k files count numbers start history (words_of k.cells) ready.going (IsImage-words_of k.cells)).valid.stands.sane in change.sane.inode_count ∙ (ap (λ (y : Geometry). y.inodes) change.geometry ∙ sym old.inode_count)

    one : ChangesOne v w files x
    one = record {
      sane = change.sane;
      names = change.names;
      geometry = change.geometry;
      kind = change.kind ∙ sym change.staging;
      mapped = inr change.staging;
      size = λ used. (let never : true ≡ false = sym used ∙ ap is_used change.staging in cc);
      lines = change.others;
      maps = change.maps;
      drafts = same_drafts v w files (λ d is. (ap (λ (y : Inode). y.generation) (change.others d.ino (apart d is)), ap (λ (y : Inode). y.generation) (change.others d.staging (none d is))));
      alive = λ d is. (
          let line = change.others d.ino (apart d is) in
          let from = change.others d.staging (none d is) in
          (λ j. is_file (line j).kind && ((line j).generation == d.generation) && nat_lt (line j).applied d.order && ((from j).generation == d.staging_generation)) ∙ ready.going.alive d is);
    }

    live_change : Restages (sized files.sizes v) (sized files.sizes w) x
    live_change = record {
      sane = sane_sized files.sizes w change.sane;
      names = change.names;
      geometry = change.geometry;
      staging = kind-sized files.sizes v x ∙ change.staging;
      kind = kind-sized files.sizes w x ∙ change.kind;
      others = λ i other. same_line v w files.sizes files.sizes i ready.going.sizes (ready.going.sizes ∙ sym many) many (change.others i other) refl;
      maps = change.maps;
    }

-- ---- holes

pub fill_goes_on : FillGoesOn
fill_goes_on g k l files count numbers start history blocks fresh w ino ready gathered takes fills among zeros =
    one_goes_on g k l files count numbers start history blocks w ino ready gathered takes one
    (record {
      live = λ image is world.
          subst (λ ds. IsWorld (sized files.sizes w) (as_claims ds) [] (journaled image) numbers s count) (sym one.drafts)
          (filled_holes (sized files.sizes v) (sized files.sizes w) (as_claims (staged_of v files)) [] (journaled image) numbers s count ino fresh world live_fills (seen_zeros image is) tt);
      cut = λ image is world cut. filled_holes v w [] [] (journaled image) numbers (cut_of s) count ino fresh cut fills (seen_zeros image is) tt;
    })
  where
    v : Volume
    v = k.volume

    s : State
    s = run start history

    many : length w.inodes ≡ length v.inodes
    many = let old = (cut_is_world g k files count numbers start history (words_of k.cells) ready.going (IsImage-words_of k.cells)).valid.stands.sane in fills.sane.inode_count ∙ (ap (λ (y : Geometry). y.inodes) fills.geometry ∙ sym old.inode_count)

    generations : (i : ℕ) → (inode w i).generation ≡ (inode v i).generation
    generations i = elim (cases_eq i ino) [
      | inl own ↦ subst (λ j. (inode w j).generation ≡ (inode v j).generation) (sym own) fills.own.generation
      | inr other ↦ ap (λ (y : Inode). y.generation) (fills.lines i other)
    ]

    applied : (i : ℕ) → (inode w i).applied ≡ (inode v i).applied
    applied i = elim (cases_eq i ino) [
      | inl own ↦ subst (λ j. (inode w j).applied ≡ (inode v j).applied) (sym own) fills.own.applied
      | inr other ↦ ap (λ (y : Inode). y.applied) (fills.lines i other)
    ]

    kinds : (i : ℕ) → (inode w i).kind ≡ (inode v i).kind
    kinds i = elim (cases_eq i ino) [
      | inl own ↦ subst (λ j. (inode w j).kind ≡ (inode v j).kind) (sym own) fills.own.kind
      | inr other ↦ ap (λ (y : Inode). y.kind) (fills.lines i other)
    ]

    one : ChangesOne v w files ino
    one = record {
      sane = fills.sane;
      names = fills.names;
      geometry = fills.geometry;
      kind = fills.own.kind;
      mapped = inl fills.file;
      size = λ used. fills.own.size;
      lines = fills.lines;
      maps = fills.maps;
      drafts = same_drafts v w files (λ d is. (generations d.ino, generations d.staging));
      alive = λ d is.
          (λ j. is_file (kinds d.ino j) && (generations d.ino j == d.generation) && nat_lt (applied d.ino j) d.order && (generations d.staging j == d.staging_generation)) ∙ ready.going.alive d is;
    }

    below : ino < length v.inodes
    below = below_file v ino fills.file

    live_fills : FillsHoles (sized files.sizes v) (sized files.sizes w) ino fresh
    live_fills = record {
      sane = sane_sized files.sizes w fills.sane;
      names = fills.names;
      geometry = fills.geometry;
      file = kind-sized files.sizes v ino ∙ fills.file;
      own = record {
        kind = kind-sized files.sizes w ino ∙ (fills.own.kind ∙ sym (kind-sized files.sizes v ino));
        generation = generation_sized files.sizes w ino ∙ (fills.own.generation ∙ sym (generation_sized files.sizes v ino));
        size =
            ap (λ (y : Inode). y.size) (sized_line w files.sizes ino (ready.going.sizes ∙ sym many) (subst (λ n. ino < n) (sym many) below))
            ∙ sym (ap (λ (y : Inode). y.size) (sized_line v files.sizes ino ready.going.sizes below));
        applied = applied_sized files.sizes w ino ∙ (fills.own.applied ∙ sym (applied_sized files.sizes v ino));
      };
      lines = λ i other. same_line v w files.sizes files.sizes i ready.going.sizes (ready.going.sizes ∙ sym many) many (fills.lines i other) refl;
      maps = fills.maps;
      kept = fills.kept;
      others = fills.others;
    }

    -- what reads zero on the device does so behind the journal
    seen_zeros : (image : Words) → IsImage l.cells image → AreZeros fresh (journaled image)
    seen_zeros image is j i low at =
        let sound : IsSound k.committed.geometry image = (gathered.changes.each_image image is).2.sound in
        let in_data : is_data_block k.committed.geometry (block_at fresh j) ≡ true = unused_data k.committed (block_at fresh j) (gathered.spare.committed (block_at fresh j) (among (block_at fresh j) (at_in fresh j low))) in
        let past : 512 * log_block k.committed.geometry ≤ 512 * block_at fresh j + 0 = data_word k.committed.geometry (block_at fresh j) 0 in_data (omega arith) in
        let behind : 512 * log_block k.committed.geometry ≤ i = omega (arith, past, at) in
        journaled-other k.committed.geometry image i sound (behind_journal k.committed.geometry i behind) (behind_log-not_journaled k.committed.geometry (i / 8) (omega (arith, behind)))
        ∙ zeros image is j i low at
