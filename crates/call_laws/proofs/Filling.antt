-- The holes of a write, as a World shows them and as they are filled below it.
use Rattle.std.specs.Prelude.{◌≡◌, ◌≢◌, ◌⊎◌, ◌≤◌, ◌<◌, ◌+◌, ◌-◌, ◌/◌, ◌&&◌, ℕ, zero, suc, Bool, true, false, cond, List, [], length, count_by, is_none, map, Option, Some, None, IsSome, option_map, slice_index_or, refl}
use Rattle.std.specs.List.{range_with_len}
use Rattle.std.specs.Option.{option_map_or}
use Rattle.std.proofs.Common.{arith, ap, ◌∙◌, sym, subst, inl, inr}
use Rattle.std.proofs.Math.Path.{fun_ext}
use Rattle.std.proofs.lemmas.Bool.{cases_eq}
use Rattle.std.proofs.lemmas.List.FromFn.{get_or-map-range_with_len}
use Rattle.std.proofs.lemmas.List.Sums.{sum_by-cons}
use Rattle.write_begin.specs.block_counts.Counts.{blocks_for, chains_for}
use Rattle.write_begin.specs.layout_model.Places.{Geometry, reserve}
use Rattle.write_begin.specs.layout_model.declared.lines.Inode.{Inode}
use Rattle.write_begin.specs.extent_model.declared.extent_words.Extent.{Extent}
use Rattle.write_begin.specs.extent_model.Extents.{disk_at}
use Rattle.write_begin.specs.image_model.Volume.{extents, inode}
use Rattle.write_begin.specs.file_table.Files.{Files, runs_in}
use Rattle.write_begin.specs.k_split_model.View.{View}
use Rattle.write_begin.specs.posix_types.declared.call.Call.{Call}
use Rattle.write_begin.specs.posix_types.declared.call.Mode.{Mode}
use Rattle.write_begin.specs.posix_types.declared.call.Who.{Who}
use Rattle.write_begin.specs.posix_types.declared.handle.Handle.{Handle}
use Rattle.write_begin.specs.posix_tables.declared.open.Description.{Description}
use Rattle.write_begin.specs.posix_tables.Open.{may_write, opened, Tables}
use Rattle.write_begin.specs.posix_spec.FileRows.{file_number}
use Rattle.write_begin.specs.posix_spec.Put.{put_by}
use Rattle.write_begin.specs.posix_spec.State.{State}
use Rattle.world_view_laws.specs.in_flight.live_model.open_files.Numbered.{described_as, numbered_as}
use Rattle.world_view_laws.proofs.open_files_proofs.Lookups.{same_opened}
use Rattle.world_view_laws.specs.in_flight.staging_files.Keeps.{Staged}
use Rattle.write_begin.specs.in_place.live_step_laws.world_write_laws.HolesLaws.{KeepsLine}
use Rattle.write_begin.specs.in_place.file_overlay.declared.runs.Run.{Run}
use Rattle.write_begin.specs.in_place.file_overlay.Runs.{staged_at}
use Rattle.write_begin.specs.in_place.Holes as places
use Rattle.write_begin.specs.in_place.Holes.{absent_count, FillsRange}
use Rattle.write_begin.specs.write_plan.AsksLaws.{call_of}
use Rattle.write_begin.specs.write_plan.Plans.{placed_at}
use Rattle.write_begin.specs.Begins.{FillsFor, LacksFor}
use Rattle.write_begin.specs.Goes.{KeepsMaps}
use Rattle.world_view_laws.proofs.Holes.{no_holes, none_filled, unplaced_holes}
use Rattle.world_view_laws.specs.Begins.{HasFilled, IsAbsentOf, KeepsFiles, LacksBeside, LacksHoles, with_disk}
use Rattle.world_view_laws.specs.Holes.{absent_in, file_of, holes_at, holes_of, is_absent, is_bare}
use Rattle.world_view_laws.specs.Views.{Disk, disk_of, inode_on, map_on, overlays_of, state_of, WorldView}

-- ---- the file of a write

-- what is staged of a file, as the World shows it
runs_at : (files : Files) (ino : ℕ) → ino < length files.sizes → slice_index_or (overlays_of files) ino [] ≡ runs_in files ino
runs_at files ino below = get_or-map-range_with_len (runs_in files) 0 (length files.sizes) ino ino [] below (omega arith)

number_of : (o : Option Description) (file : Description) → o ≡ Some file → option_map (λ (d : Description). d.node) o ≡ Some (option_map_or (λ (d : Description). d.node) o 0)
number_of (Some d) file is = refl
number_of None file is = cc

-- a handle that may write is open
pub open_of : (s : State) (f : ℕ → ℕ) (t : Tables) (who : Who) (h : Handle) → s.tables ≡ numbered_as f t → may_write s.tables who h ≡ true → (d : Description) × (opened t who h ≡ Some d)
open_of s f t who h tables may = by (opened t who h) refl where
  by : (o : Option Description) → opened t who h ≡ o → (d : Description) × (opened t who h ≡ Some d)
  by (Some d) is = (d, is)
  by None is =
      let none : opened s.tables who h ≡ None = ap (λ (y : Tables). opened y who h) tables ∙ (same_opened f t who h ∙ ap (option_map (described_as f)) is) in
      let never : false ≡ true = sym (ap (λ (o : Option Description). option_map_or (λ (d : Description). d.flags.write) o false) none) ∙ may in
      cc

-- the file is that of its handle, over whatever device
pub own_file : (w : WorldView) (who : Who) (h : Handle) (at : Option ℕ) (x : List ℕ) (t : Tables) (file : Description) → opened t who h ≡ Some file
    → (d : Disk) → d.tables ≡ t → file_of (with_disk w d) who (call_of h at x) ≡ Some (file_number t who h)
own_file w who h None x t file known d same = ap (λ (u : Tables). option_map (λ (o : Description). o.node) (opened u who h)) same ∙ number_of (opened t who h) file known
own_file w who h (Some place) x t file known d same = ap (λ (u : Tables). option_map (λ (o : Description). o.node) (opened u who h)) same ∙ number_of (opened t who h) file known

pub own_below : (t : Tables) (who : Who) (h : Handle) (file : Description) (count : ℕ) → opened t who h ≡ Some file → file.node < count → file_number t who h < count
own_below t who h file count known below = subst (λ n. n < count) (sym (ap (λ (o : Option Description). option_map_or (λ (d : Description). d.node) o 0) known)) below

-- ---- absent blocks

-- outside POSIX mode a block is absent that neither the map nor a run has
bare_count : (mode : Mode) → mode ≢ Mode.Posix → (d : Disk) (ino : ℕ) (range : ℕ × ℕ)
    → absent_in mode d ino range ≡ count_by (is_bare d ino) (range_with_len (range.0 / 4096) (blocks_for range.1 - range.0 / 4096))
bare_count Mode.Strict other d ino range = refl
bare_count Mode.Sync other d ino range = refl
bare_count Mode.Posix other d ino range = absurd (other refl)

bare_is : (mode : Mode) → mode ≢ Mode.Posix → (d : Disk) (ino block : ℕ) → is_bare d ino block ≡ true → is_absent mode d ino block ≡ true
bare_is Mode.Strict other d ino block is = is
bare_is Mode.Sync other d ino block is = is
bare_is Mode.Posix other d ino block is = absurd (other refl)

-- where none passes, none is counted
none_counted : (p : ℕ → Bool) (a n : ℕ) → ((m : ℕ) → a ≤ m → m < a + n → p m ≡ false) → count_by p (range_with_len a n) ≡ 0
none_counted p a zero all = refl
none_counted p a (suc n) all =
    let rest = none_counted p (a + 1) n (λ m from to. all m (omega (arith, from)) (omega (arith, to))) in
    let sum = sum_by-cons (λ m. cond (p m) 1 0) a (range_with_len (a + 1) n) in
    let here = ap {B = ℕ} (λ (b : Bool). cond b 1 0) (all a (omega arith) (omega arith)) in
    omega (arith, rest, sum, here)

present_not : {A B : Type 0} → (a : Option A) (b : Option B) → IsSome a ⊎ IsSome b → (is_none a && is_none b) ≡ false
present_not (Some m) b is = refl
present_not None (Some r) is = refl
present_not None None (inl is) = (let never : false ≡ true = is in cc)
present_not None None (inr is) = (let never : false ≡ true = is in cc)

-- nothing less is kept back
reserve_least : (g : Geometry) → 2 ≤ reserve g
reserve_least g = omega arith

-- ---- by the plan

module _ (w : WorldView) (other : w.start.mode ≢ Mode.Posix) (who : Who) (call : Call) (t : Tables) (ino : ℕ) (own : (d : Disk) → d.tables ≡ t → file_of (with_disk w d) who call ≡ Some ino) (staging : Staged) (files : Files)
    (below : ino < length files.sizes) where
  abbrev pub over : View → WorldView
  over k = with_disk w (disk_of k t staging files)

  abbrev pub range_placed : Option (ℕ × ℕ)
  range_placed = placed_at (state_of w) (put_by (state_of w) who call)

  bare_as : (k : View) (range : ℕ × ℕ) → count_by (is_bare (disk_of k t staging files) ino) (range_with_len (range.0 / 4096) (blocks_for range.1 - range.0 / 4096))
      ≡ absent_count k.volume files ino (range.0 / 4096) (blocks_for range.1 - range.0 / 4096)
  bare_as k range =
      ap (λ (runs : List Run). count_by (λ m. is_none (disk_at (extents k.volume ino) m) && is_none (staged_at runs m)) (range_with_len (range.0 / 4096) (blocks_for range.1 - range.0 / 4096))) (runs_at files ino below)

  -- AS MANY HOLES as blocks are absent,
  pub holes_as : (k : View) (range : ℕ × ℕ) → range_placed ≡ Some range → holes_of (over k) who call ≡ absent_count k.volume files ino (range.0 / 4096) (blocks_for range.1 - range.0 / 4096)
  holes_as k range placed =
      (λ i. holes_at (over k) (own (disk_of k t staging files) refl i) (placed i))
      ∙ (bare_count w.start.mode other (disk_of k t staging files) ino range ∙ bare_as k range)

  -- ---- they are lacking

  module _ (k : View) (geometry : k.volume.geometry ≡ w.geometry) (need left : ℕ) where
    -- the World lacks blocks for them where these are too few below it,
    free_below : (o : Option (ℕ × ℕ)) → range_placed ≡ o → LacksHoles (over k) who call need left → LacksFor k k staging files ino o need left
    free_below None none lacks = no_holes (over k) who call (unplaced_holes (over k) who call none) need left lacks
    free_below (Some range) placed lacks =
        let same = holes_as k range placed in
        let need_is = lacks.need_is in
        let kept = ap reserve geometry in
        let least = reserve_least w.geometry in
        record {
          some = omega (arith, same, lacks.some);
          need_is = omega (arith, same, need_is, kept, least);
          room_is = lacks.left_is;
          lacks = lacks.lacks;
          same = refl;
        }

    pub lacks_below : LacksHoles (over k) who call need left → LacksFor k k staging files ino range_placed need left
    lacks_below lacks = free_below range_placed refl lacks

    -- and the other way.
    free_above : (l : View) (o : Option (ℕ × ℕ)) → range_placed ≡ o → LacksFor k l staging files ino o need left → ((n m : ℕ) → ¬ LacksBeside (over k) who call n m)
        → LacksHoles (over k) who call need left × (l ≡ k)
    free_above l None none lacks beside = absurd lacks
    free_above l (Some range) placed lacks beside =
        let same = holes_as k range placed in
        let need_is = lacks.need_is in
        let kept = ap reserve geometry in
        let least = reserve_least w.geometry in (
          record {
            beside = beside;
            some = omega (arith, same, lacks.some);
            need_is = omega (arith, same, need_is, kept, least);
            left_is = lacks.room_is;
            lacks = lacks.lacks;
          },
          lacks.same,
        )

    pub lacks_above : (l : View) → LacksFor k l staging files ino range_placed need left → ((n m : ℕ) → ¬ LacksBeside (over k) who call n m) → LacksHoles (over k) who call need left × (l ≡ k)
    lacks_above l lacks beside = free_above l range_placed refl lacks beside

  -- ---- they are filled

  module _ (k l : View) (range : ℕ × ℕ) (placed : range_placed ≡ Some range) (fills : FillsRange k l staging files ino (range.0 / 4096) (blocks_for range.1 - range.0 / 4096)) where
    abbrev then_disk : Disk
    then_disk = disk_of l t staging files

    was : holes_of (over k) who call ≡ absent_count k.volume files ino (range.0 / 4096) (blocks_for range.1 - range.0 / 4096)
    was = holes_as k range placed

    none_absent : absent_count l.volume files ino (range.0 / 4096) (blocks_for range.1 - range.0 / 4096) ≡ 0
    none_absent = none_counted (places.is_absent l.volume files ino) (range.0 / 4096) (blocks_for range.1 - range.0 / 4096)
        (λ m from to. present_not (disk_at (extents l.volume ino) m) (staged_at (runs_in files ino) m) (fills.present m from to))

    its_own : (i : ℕ) → file_of (over k) who call ≡ Some i → i ≡ ino
    its_own i is = ap (λ (o : Option ℕ). option_map_or (λ n. n) o 0) (sym is ∙ own (disk_of k t staging files) refl)

    apart : (i : ℕ) → file_of (over k) who call ≢ Some i → i ≢ ino
    apart i unlike same = unlike (own (disk_of k t staging files) refl ∙ ap (λ n. Some n) (sym same))

    lines : (i : ℕ) → KeepsLine (inode_on (over k).disk i) (inode_on then_disk i)
    lines i = elim (cases_eq i ino) [
      | inl same ↦ subst (λ n. KeepsLine (inode_on (over k).disk n) (inode_on then_disk n)) (sym same) fills.maps.line
      | inr apart_is ↦
          let is : inode l.volume i ≡ inode k.volume i = fills.maps.lines i apart_is in
          record { kind = ap (λ (y : Inode). y.kind) is; generation = ap (λ (y : Inode). y.generation) is; size = ap (λ (y : Inode). y.size) is; applied = ap (λ (y : Inode). y.applied) is }
    ]

    kept : (i block b : ℕ) → disk_at (map_on (over k).disk i) block ≡ Some b → disk_at (map_on then_disk i) block ≡ Some b
    kept i block b is = elim (cases_eq i ino) [
      | inl same ↦ subst (λ n. disk_at (extents l.volume n) block ≡ Some b) (sym same) (fills.maps.kept block b (subst (λ n. disk_at (extents k.volume n) block ≡ Some b) same is))
      | inr apart_is ↦ ap (λ (es : List Extent). disk_at es block) (fills.maps.maps i apart_is) ∙ is
    ]

    own_new : (block b : ℕ) → disk_at (extents l.volume ino) block ≡ Some b → (disk_at (extents k.volume ino) block ≡ Some b) ⊎ IsAbsentOf (over k) who call ino block
    own_new block b now = by (disk_at (extents k.volume ino) block) refl where
      by : (o : Option ℕ) → disk_at (extents k.volume ino) block ≡ o → (disk_at (extents k.volume ino) block ≡ Some b) ⊎ IsAbsentOf (over k) who call ino block
      by (Some c) is = inl (is ∙ (sym (fills.maps.kept block c is) ∙ now))
      by None is =
          let differs : disk_at (extents l.volume ino) block ≢ disk_at (extents k.volume ino) block = λ same. (let never : None ≡ Some b = sym is ∙ (sym same ∙ now) in cc) in
          let found = fills.maps.new block differs in
          let bare : is_bare (disk_of k t staging files) ino block ≡ true =
          ap (λ (runs : List Run). is_none (disk_at (extents k.volume ino) block) && is_none (staged_at runs block)) (runs_at files ino below) ∙ found.2 in
          inr (record {
            own = own (disk_of k t staging files) refl;
            range = range;
            placed = placed;
            from = found.0;
            below = omega (arith, found.0, found.1);
            absent = bare_is w.start.mode other (disk_of k t staging files) ino block bare;
          })

    new : (i block b : ℕ) → disk_at (map_on then_disk i) block ≡ Some b → (disk_at (map_on (over k).disk i) block ≡ Some b) ⊎ IsAbsentOf (over k) who call i block
    new i block b now = elim (cases_eq i ino) [
      | inl same ↦ subst (λ n. (disk_at (extents k.volume n) block ≡ Some b) ⊎ IsAbsentOf (over k) who call n block) (sym same)
          (own_new block b (subst (λ n. disk_at (extents l.volume n) block ≡ Some b) same now))
      | inr apart_is ↦ inl (ap (λ (es : List Extent). disk_at es block) (sym (fills.maps.maps i apart_is)) ∙ now)
    ]

    filled_range : HasFilled (over k) who call then_disk
    filled_range = record {
      rest = refl;
      none = λ zero_is. ap (λ (y : View). disk_of y t staging files) (fills.none (sym was ∙ zero_is));
      filled = holes_as l range placed ∙ none_absent;
      lines = lines;
      others = λ i unlike. (fills.maps.lines i (apart i unlike), fills.maps.maps i (apart i unlike));
      kept = kept;
      new = new;
      free = λ mode i is.
          (let free = fills.free in
          let was_is = was in
          subst (λ n. then_disk.free + holes_of (over k) who call + chains_for (length (map_on then_disk n)) ≡ (over k).disk.free + chains_for (length (map_on (over k).disk n))) (sym (its_own i is))
          (omega (arith, free, was_is)));
    }

  filled_by_plan : (k l : View) (o : Option (ℕ × ℕ)) → range_placed ≡ o → FillsFor k l staging files ino o → HasFilled (over k) who call (disk_of l t staging files)
  filled_by_plan k l None none same =
      subst (λ (y : View). HasFilled (over k) who call (disk_of y t staging files)) (sym same) (none_filled (over k) who call (unplaced_holes (over k) who call none))
  filled_by_plan k l (Some range) placed fills = filled_range k l range placed fills

  -- WHAT THE CALL WRITES IN PLACE HAS ITS BLOCKS: so its holes are filled, and no others.
  pub filled_below : (k l : View) → FillsFor k l staging files ino range_placed → HasFilled (over k) who call (disk_of l t staging files)
  filled_below k l fills = filled_by_plan k l range_placed refl fills

-- the geometry is the same
pub filled_geometry : (k l : View) (staging : Staged) (files : Files) (ino : ℕ) (o : Option (ℕ × ℕ)) → FillsFor k l staging files ino o → l.volume.geometry ≡ k.volume.geometry
filled_geometry k l staging files ino None same = ap (λ (y : View). y.volume.geometry) same
filled_geometry k l staging files ino (Some range) fills = fills.maps.geometry

-- WHERE A STEP KEEPS LINES AND MAPS, the World shows the same of each file.
pub kept_below : (k l : View) (t : Tables) (old new : Staged) (files then : Files) → KeepsMaps k.volume l.volume files then None → KeepsFiles (disk_of k t old files) (disk_of l t new then)
kept_below k l t old new files then keeps = record {
  lines = keeps.lines;
  maps = λ ino file. keeps.maps ino file (λ never. (let none : None ≡ Some ino = never in cc));
  overlays = λ i. map (fun_ext keeps.runs i) (range_with_len 0 (length (keeps.sizes i)));
  sizes = keeps.sizes;
}
