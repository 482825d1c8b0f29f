-- Holes of a range are filled gap by gap: how far it came, and one gap more.
use Rattle.std.specs.Prelude.{◌≡◌, ◌≢◌, ◌⊎◌, ◌≤◌, ◌<◌, ◌+◌, ◌*◌, ◌-◌, ◌==◌, ◌&&◌, ℕ, Bool, true, false, List, [], length, is_none, is_some, Option, Some, None, IsSome, refl}
use Rattle.std.specs.List.{list_any}
use Rattle.std.proofs.Common.{arith, ap, ◌∙◌, sym, subst, inl, inr}
use Rattle.std.proofs.lemmas.Bool.{cases_Bool, cases_eq, cases_lt}
use Rattle.std.proofs.lemmas.Bool.Decides.{nat_tests}
use Rattle.live_step_laws.specs.block_counts.Counts.{blocks_for, chains_for}
use Rattle.live_step_laws.specs.pm_model.declared.Cell.{Cell}
use Rattle.live_step_laws.specs.pm_model.Frames.{KeepsSingle, SameLent}
use Rattle.live_step_laws.specs.extent_model.Extents.{disk_at, is_within}
use Rattle.live_step_laws.specs.layout_model.declared.lines.Kind.TheVariants.{File}
use Rattle.live_step_laws.specs.image_model.Placed.{block_at}
use Rattle.live_step_laws.specs.image_model.Room.{unused_blocks}
use Rattle.live_step_laws.specs.image_model.Volume.{extents, inode, Volume}
use Rattle.live_step_laws.specs.volume_laws.Changes.{extents-set_same}
use Rattle.live_step_laws.specs.volume_laws.Lists.{count_by-agree}
use Rattle.live_step_laws.specs.volume_change_laws.Lengths.{any-at, any-hole}
use Rattle.live_step_laws.specs.k_split.Filling.{hole_count, IsFilledWith}
use Rattle.live_step_laws.specs.k_split.MapChanges.{free_blocks_in}
use Rattle.live_step_laws.specs.k_split.Order.{IsInOrder}
use Rattle.live_step_laws.specs.k_split_model.MapChangesChanges.{holes}
use Rattle.live_step_laws.specs.k_split_model.Taken.{with_map}
use Rattle.live_step_laws.specs.k_split_model.View.{View}
use Rattle.live_step_laws.specs.k_plans.Whole.{IsWhole}
use Rattle.live_step_laws.specs.live_model.file_table.Files.{Files, runs_in, size_in}
use Rattle.live_step_laws.specs.staging_files.Keeps.{Staged}
use Rattle.live_step_laws.specs.world_model.Stands.{is_used}
use Rattle.live_step_laws.specs.world_model.TreeRules.{used_below}
use Rattle.live_step_laws.specs.FillsLaws.{FillsAs, FillsAsAsked}
use Rattle.live_step_laws.proofs.k_plans_proofs.FreeCounts.{unwaiting-counted}
use Rattle.live_step_laws.proofs.fsync_relink_proofs.RelinkLaws.{has-chain}
use Rattle.write_plan.specs.file_overlay.Runs.{staged_at}
use Rattle.write_plan.specs.eof_laws.Ends.{FilesEnd}
use Rattle.in_place.specs.Gaps.{Stays}
use Rattle.in_place.specs.Holes.{absent_count, FillsMap, HasRuns, is_absent, IsPresent, IsUnstaged}
use Rattle.in_place.proofs.Counting.{count_apart, count_one, length_of, none_pass, one_if}

-- ---- tests

some_at : (o : Option ℕ) → (o ≡ None) ⊎ ((b : ℕ) × (o ≡ Some b))
some_at None = inl refl
some_at (Some b) = inr (b, refl)

some_of : (o : Option ℕ) (b : ℕ) → o ≡ Some b → IsSome o
some_of o b is = ap is_some is

not_none : {X : Type 0} (o : Option X) → IsSome o → is_none o ≡ false
not_none None some = cc
not_none (Some x) some = refl

seen_some : (o : Option ℕ) → is_none o ≡ false → IsSome o
seen_some None is = cc
seen_some (Some b) is = refl

and_none : (a b : Bool) → b ≡ false → (a && b) ≡ false
and_none true b is = is
and_none false b is = refl

and_all : (a b : Bool) → b ≡ true → (a && b) ≡ a
and_all true b is = is
and_all false b is = refl

inside : (first count m : ℕ) → is_within first count m ≡ true → (first ≤ m) × (m < first + count)
inside first count m is = (grind (arith, nat_tests, is), grind (arith, nat_tests, is))

within_is : (first count m : ℕ) → first ≤ m → m < first + count → is_within first count m ≡ true
within_is first count m from to = grind (arith, nat_tests, from, to)

not_within : (first count m : ℕ) → first + count ≤ m → is_within first count m ≡ false
not_within first count m past = grind (arith, nat_tests, past)

-- ---- how far it came

-- The blocks before this one are there, and no call sees a change.
pub record IsFilledTo (k l : View) (staging : Staged) (files : Files) (ino first count block : ℕ) : Type 0 where
  pub from : first ≤ block
  pub to : block ≤ first + count + 1
  pub maps : FillsMap k.volume l.volume files ino first count
  pub ahead : (m : ℕ) → block ≤ m → disk_at (extents l.volume ino) m ≡ disk_at (extents k.volume ino) m
  pub present : (m : ℕ) → first ≤ m → m < block → m < first + count → IsPresent l.volume files ino m
  pub free : free_blocks_in l + absent_count k.volume files ino first count + chains_for (length (extents l.volume ino))
      ≡ free_blocks_in k + chains_for (length (extents k.volume ino)) + absent_count k.volume files ino block (first + count - block)
  pub longer : length (extents l.volume ino) + first ≤ length (extents k.volume ino) + block
  pub owed : (chains_for (length (extents l.volume ino)) ≤ chains_for (length (extents k.volume ino))) ⊎ ((1 ≤ length staging.out) ⊎ (first + count ≤ block))
  pub size : length l.cells ≡ length k.cells
  pub lent : SameLent k.cells l.cells
  pub singles : KeepsSingle k.cells l.cells
  pub ends : FilesEnd k.volume files → FilesEnd l.volume files
  pub stays : (in_world : HasRuns k staging files ino) → Stays k files ino in_world.has l

-- so many steps it may have taken
abbrev pub steps_to : View → Files → ℕ → ℕ → ℕ → ℕ → ℕ
steps_to k files ino first count block =
    16384 * (block - first) + 1024 * (absent_count k.volume files ino first count - absent_count k.volume files ino block (first + count - block))

pub filled_none : (k : View) (staging : Staged) (files : Files) (ino first count : ℕ) → IsFilledTo k k staging files ino first count first
filled_none k staging files ino first count = record {
  from = omega arith;
  to = omega arith;
  maps = record {
    geometry = refl;
    base = refl;
    line = record { kind = refl; generation = refl; size = refl; applied = refl };
    lines = λ i other. refl;
    maps = λ i other. refl;
    kept = λ m b at. at;
    new = λ m differs. absurd (differs refl);
  };
  ahead = λ m past. refl;
  present = λ m from below within. absurd (omega (arith, from, below));
  free = (let all : first + count - first ≡ count = omega arith in let same = ap (absent_count k.volume files ino first) all in omega (arith, same));
  longer = omega arith;
  owed = inl (omega arith);
  size = refl;
  lent = λ i. refl;
  singles = λ i is. is;
  ends = λ ends. ends;
  stays = λ in_world. record { now = in_world.has.stands; jobs_are = refl; numbers_are = refl };
}

-- ---- one gap more

-- what is absent behind a place
pub rest_at_most : (v : Volume) (files : Files) (ino first count block : ℕ) → first ≤ block → absent_count v files ino block (first + count - block) ≤ absent_count v files ino first count
rest_at_most v files ino first count block from = elim (cases_lt block (first + count)) [
  | inl below ↦ (
      let whole : count ≡ (block - first) + (first + count - block) = omega (arith, from, below) in
      let here : first + (block - first) ≡ block = omega (arith, from) in
      let apart = count_apart (is_absent v files ino) first (block - first) (first + count - block) in
      let same = ap (absent_count v files ino first) whole in
      let moved = ap (λ n. absent_count v files ino n (first + count - block)) here in
      omega (arith, apart, same, moved))
  | inr past ↦ (
      let none : first + count - block ≡ 0 = omega (arith, past) in
      let empty : absent_count v files ino block (first + count - block) ≡ 0 = ap (absent_count v files ino block) none in
      omega (arith, empty))
]

module _ (k l : View) (staging : Staged) (files : Files) (ino first count block bare : ℕ) (world : HasRuns k staging files ino) (to : IsFilledTo k l staging files ino first count block)
    (below : block < first + count) (unstaged : IsUnstaged (runs_in files ino) block (first + count) bare) (fits : first + count ≤ 4096) where
  abbrev stays_so : Stays k files ino world.has l
  stays_so = to.stays world

  pub order : IsInOrder l
  order = stays_so.now.order

  pub off : l.batched ≡ false
  off = stays_so.now.unbatched

  pub on : l.lost ≡ false
  on = stays_so.now.on

  pub file : (inode l.volume ino).kind ≡ File
  file = to.maps.line.kind ∙ world.has.file

  pub below_inodes : ino < length l.volume.inodes
  below_inodes = used_below l.volume ino (ap is_used file)

  pub gap_fits : block + bare ≤ 4096
  gap_fits = omega (arith, unstaged.within, fits)

  -- the holes of the gap are what is absent in it
  pub gap_is : hole_count ino block bare l ≡ absent_count k.volume files ino block bare
  gap_is =
      length_of (λ b. is_none (disk_at (extents l.volume ino) b)) block bare
      ∙ count_by-agree (λ b. is_none (disk_at (extents l.volume ino) b)) (is_absent k.volume files ino) block bare (λ m low high.
      ap is_none (to.ahead m low) ∙ sym (and_all (is_none (disk_at (extents k.volume ino) m)) (is_none (staged_at (runs_in files ino) m)) (ap is_none (unstaged.none m low high))))

  -- and then those behind the staged block
  pub rest_is : absent_count k.volume files ino block (first + count - block) ≡ hole_count ino block bare l + absent_count k.volume files ino (block + bare + 1) (first + count - (block + bare + 1))
  rest_is = elim (cases_lt (block + bare) (first + count)) [
    | inl more ↦ (
        let whole : first + count - block ≡ bare + (1 + (first + count - (block + bare + 1))) = omega (arith, more) in
        let same = ap (absent_count k.volume files ino block) whole in
        let two = count_apart (is_absent k.volume files ino) block bare (1 + (first + count - (block + bare + 1))) in
        let three = count_apart (is_absent k.volume files ino) (block + bare) 1 (first + count - (block + bare + 1)) in
        let one = count_one (is_absent k.volume files ino) (block + bare) in
        let staged : is_absent k.volume files ino (block + bare) ≡ false =
        and_none (is_none (disk_at (extents k.volume ino) (block + bare))) (is_none (staged_at (runs_in files ino) (block + bare))) (not_none (staged_at (runs_in files ino) (block + bare)) (unstaged.next more)) in
        let none : one_if (is_absent k.volume files ino (block + bare)) ≡ 0 = ap one_if staged in
        omega (arith, same, two, three, one, none, gap_is))
    | inr last ↦ (
        let whole : first + count - block ≡ bare = omega (arith, last, unstaged.within) in
        let nothing : first + count - (block + bare + 1) ≡ 0 = omega (arith, last) in
        let same = ap (absent_count k.volume files ino block) whole in
        let empty : absent_count k.volume files ino (block + bare + 1) (first + count - (block + bare + 1)) ≡ 0 = ap (absent_count k.volume files ino (block + bare + 1)) nothing in
        omega (arith, same, empty, gap_is))
  ]

  -- a staged block behind it is one of a run that is out
  owed_then : ((more : block + bare < first + count) → 1 ≤ length staging.out) → (x : ℕ) → (x ≤ chains_for (length (extents k.volume ino))) ⊎ ((1 ≤ length staging.out) ⊎ (first + count ≤ block + bare + 1))
  owed_then out x = elim (cases_lt (block + bare) (first + count)) [ inl more ↦ inr (inl (out more)) | inr last ↦ inr (inr (omega (arith, last))) ]

  pub present_on : (w : Volume) → ((m b : ℕ) → disk_at (extents l.volume ino) m ≡ Some b → disk_at (extents w ino) m ≡ Some b) → ((m : ℕ) → block ≤ m → m < block + bare → IsSome (disk_at (extents w ino) m))
      → (m : ℕ) → first ≤ m → m < block + bare + 1 → m < first + count → IsPresent w files ino m
  present_on w kept gap m from low within = elim (cases_lt m block) [
    | inl before ↦ elim (to.present m from before within) [
      | inl mapped ↦ elim (some_at (disk_at (extents l.volume ino) m)) [
        | inl none ↦ absurd (let never : false ≡ true = sym (ap is_some none) ∙ mapped in cc)
        | inr some ↦ inl (some_of (disk_at (extents w ino) m) some.0 (kept m some.0 some.1))
      ]
      | inr staged ↦ inr staged
    ]
    | inr past ↦ elim (cases_lt m (block + bare)) [
      | inl in_gap ↦ inl (gap m past in_gap)
      | inr last ↦
          let same : block + bare ≡ m = omega (arith, last, low) in
          inr (subst (λ n. IsSome (staged_at (runs_in files ino) n)) same (unstaged.next (omega (arith, within, same))))
    ]
  ]

  -- ---- it had no hole

  pub none_more : ((more : block + bare < first + count) → 1 ≤ length staging.out) → hole_count ino block bare l ≡ 0 → IsFilledTo k l staging files ino first count (block + bare + 1)
  none_more out none = record {
    from = omega (arith, to.from);
    to = omega (arith, unstaged.within);
    maps = to.maps;
    ahead = λ m past. to.ahead m (omega (arith, past));
    present = present_on l.volume (λ m b at. at) (λ m from low.
        seen_some (disk_at (extents l.volume ino) m)
        (none_pass (λ b. is_none (disk_at (extents l.volume ino) b)) block bare (sym (length_of (λ b. is_none (disk_at (extents l.volume ino) b)) block bare) ∙ none) m from low));
    free = (let was = to.free in let rest = rest_is in omega (arith, was, rest, none));
    longer = omega (arith, to.longer);
    owed = owed_then out (chains_for (length (extents l.volume ino)));
    size = to.size;
    lent = to.lent;
    singles = to.singles;
    ends = to.ends;
    stays = to.stays;
  }

  -- ---- or some, which get blocks

  module _ (d : List Cell) (w : Volume) (blocks : List ℕ) (is : IsFilledWith ino block bare l d w blocks) (whole : IsWhole w) (asked : FillsAsAsked) where
    filled_as : FillsAs ino block bare l.volume w is.fresh
    filled_as = asked l ino block bare w blocks d is order off file gap_fits whole

    pub maps_then : FillsMap k.volume w files ino first count
    maps_then = record {
      geometry = filled_as.fills.geometry ∙ to.maps.geometry;
      base = filled_as.base ∙ to.maps.base;
      line = record {
        kind = filled_as.fills.own.kind ∙ to.maps.line.kind;
        generation = filled_as.fills.own.generation ∙ to.maps.line.generation;
        size = filled_as.fills.own.size ∙ to.maps.line.size;
        applied = filled_as.fills.own.applied ∙ to.maps.line.applied;
      };
      lines = λ i other. filled_as.fills.lines i other ∙ to.maps.lines i other;
      maps = λ i other. filled_as.fills.maps i other ∙ to.maps.maps i other;
      kept = λ m b at. filled_as.fills.kept m b (to.maps.kept m b at);
      new = λ m differs. new m differs;
    } where
      new : (m : ℕ) → disk_at (extents w ino) m ≢ disk_at (extents k.volume ino) m → (first ≤ m) × (m < first + count) × (is_absent k.volume files ino m ≡ true)
      new m differs = elim (cases_Bool (is_within block bare m)) [
        | inr out ↦ to.maps.new m (λ same. differs (filled_as.outside m out ∙ same))
        | inl in_gap ↦ (
            let place = inside block bare m in_gap in
            let unstaged_is : is_none (staged_at (runs_in files ino) m) ≡ true = ap is_none (unstaged.none m place.0 place.1) in
            elim (some_at (disk_at (extents k.volume ino) m)) [
              | inl none ↦ (omega (arith, to.from, place.0), omega (arith, unstaged.within, place.1), and_all (is_none (disk_at (extents k.volume ino) m)) (is_none (staged_at (runs_in files ino) m)) unstaged_is ∙ ap is_none none)
              | inr some ↦ absurd (differs (filled_as.fills.kept m some.0 (to.ahead m place.0 ∙ some.1) ∙ sym some.1))
            ])
      ]

    -- each hole of the gap has one
    map_is : extents w ino ≡ is.filled.es
    map_is =
        ap (λ x. extents x ino) is.filled.is_filled
        ∙ extents-set_same ino (with_map is.filled.blocks is.filled.es (inode l.volume ino)) is.filled.blocks is.filled.es l.volume (omega (arith, below_inodes, order.whole.maps.map_count))

    gap_there : (m : ℕ) → block ≤ m → m < block + bare → IsSome (disk_at (extents w ino) m)
    gap_there m from low = elim (some_at (disk_at (extents l.volume ino) m)) [
      | inr some ↦ some_of (disk_at (extents w ino) m) some.0 (filled_as.fills.kept m some.0 some.1)
      | inl none ↦ (
          let hole : list_any (λ h. h == m) (holes (extents l.volume ino) block bare) ≡ true =
          any-hole (λ b. is_none (disk_at (extents l.volume ino) b)) block bare m ∙ (ap (λ c. c && is_none (disk_at (extents l.volume ino) m)) (within_is block bare m from low) ∙ ap is_none none) in
          let place = any-at (holes (extents l.volume ino) block bare) m hole in
          let put = is.filled.fills.filled place.0 (omega (arith, place.1, is.filled.fills.each)) in
          some_of (disk_at (extents w ino) m) (block_at is.fresh place.0) (ap (λ e. disk_at e m) map_is ∙ (ap (disk_at is.filled.es) (sym place.2) ∙ put)))
    ]

    free_is : free_blocks_in l ≡ unused_blocks l.volume
    free_is = unwaiting-counted (record { volume = l.volume; aside = []; waiting = l.waiting }) refl (order.none_waits off)

    pub counted : unused_blocks w + absent_count k.volume files ino first count + chains_for (length (extents w ino))
        ≡ free_blocks_in k + chains_for (length (extents k.volume ino)) + absent_count k.volume files ino (block + bare + 1) (first + count - (block + bare + 1))
    counted =
        let counts = filled_as.counts in
        let fresh = filled_as.each in
        let chain_w = filled_as.chain_is in
        let chain_l = (has-chain l ino order off below_inodes).counted in
        let was = to.free in
        let rest = rest_is in
        omega (arith, counts, fresh, chain_w, chain_l, was, rest, free_is)

    pub longer_then : length (extents w ino) + first ≤ length (extents k.volume ino) + (block + bare + 1)
    longer_then = let more = filled_as.extents_are in let was = to.longer in omega (arith, more, was)

    pub ends_then : first + count ≤ blocks_for (size_in files ino) → FilesEnd k.volume files → FilesEnd w files
    ends_then range ends = record {
      maps = λ i b is_file past. elim (cases_eq i ino) [
        | inl own ↦
            ap (λ n. disk_at (extents w n) b) own
            ∙ (filled_as.outside b (not_within block bare b (let end = subst (λ n. blocks_for (size_in files n) ≤ b) own past in omega (arith, end, range, unstaged.within)))
            ∙ before.maps ino b file (subst (λ n. blocks_for (size_in files n) ≤ b) own past))
        | inr other ↦ ap (λ es. disk_at es b) (filled_as.fills.maps i other) ∙ before.maps i b (sym (ap (λ x. x.kind) (filled_as.fills.lines i other)) ∙ is_file) past
      ];
      runs = before.runs;
    } where
      before : FilesEnd l.volume files
      before = to.ends ends

    pub ahead_then : (m : ℕ) → block + bare + 1 ≤ m → disk_at (extents w ino) m ≡ disk_at (extents k.volume ino) m
    ahead_then m past = filled_as.outside m (not_within block bare m (omega (arith, past))) ∙ to.ahead m (omega (arith, past))

    pub present_then : (m : ℕ) → first ≤ m → m < block + bare + 1 → m < first + count → IsPresent w files ino m
    present_then = present_on w filled_as.fills.kept gap_there
