-- The holes of a write are filled, and it goes on from there.
use Rattle.std.specs.Prelude.{◌≡◌, ◌≤◌, ◌+◌, ◌-◌, ◌/◌, ◌&&◌, ℕ, Bool, true, false, cond, List, [], ◌∷◌, length, count_by, is_none, is_some, Option, None, Some, IsSome, refl, Result, Ok, Err}
use Rattle.std.specs.declared.alloc.AllocError.{AllocError}
use Rattle.std.specs.List.{range_with_len}
use Rattle.std.proofs.Common.{arith, ap, ◌∙◌, sym, subst, inl, inr}
use Rattle.std.proofs.lemmas.Bool.{cases_eq}
use Rattle.std.proofs.lemmas.List.Sums.{length-filter, sum_by-cons}
use Rattle.block_counts.specs.Counts.{blocks_for}
use Rattle.posix_tables.specs.Room.{write_need}
use Rattle.posix_types.specs.declared.call.Mode.{Mode}
use Rattle.posix_types.specs.declared.call.Who.{Who}
use Rattle.posix_types.specs.declared.item.Item.{Item}
use Rattle.write_jobs.specs.pm_model.ImageLaws.{IsImage-words_of}
use Rattle.write_jobs.specs.pm_model.Images.{words_of}
use Rattle.write_jobs.specs.layout_model.Journal.{journaled}
use Rattle.write_plan.specs.extent_model.Extents.{disk_at}
use Rattle.write_plan.specs.layout_model.declared.lines.Kind.{Kind}
use Rattle.write_plan.specs.layout_model.declared.lines.Kind.TheVariants.{File, Staging}
use Rattle.write_plan.specs.layout_model.Places.{data_blocks}
use Rattle.write_plan.specs.image_model.Volume.{extents, inode, Volume}
use Rattle.write_plan.specs.eof_laws.Ends.{FilesEnd}
use Rattle.write_plan.specs.file_overlay.Runs.{staged_at}
use Rattle.write_plan.specs.file_table.Files.{Files, runs_in, size_in}
use Rattle.write_plan.specs.k_split_model.View.{View}
use Rattle.write_plan.specs.Asks.{room_in}
use Rattle.write_plan.specs.FirstWritesLaws.{FirstHolesFit}
use Rattle.write_plan.specs.declared.asks.asking.Target.{Target}
use Rattle.write_plan.specs.posix_spec.Run.{Unfinished}
use Rattle.write_plan.specs.posix_spec.State.{State}
use Rattle.live_step_laws.specs.world_write_laws.HolesLaws.{KeepsLine}
use Rattle.live_step_laws.specs.world_model.Jobs.{Job, JobsStand, live_claims}
use Rattle.live_step_laws.specs.staging_files.GivesUp.{nothing_staged}
use Rattle.live_step_laws.specs.staging_files.Keeps.{Staged}
use Rattle.live_step_laws.specs.live_model.Losses.{KeepsWhenLost}
use Rattle.live_step_laws.specs.world_image_laws.LentLaws.{SameBlocks}
use Rattle.live_step_laws.proofs.Backs.{kept_over}
use Rattle.in_place.specs.k_split_laws.Left.{IsLeftOf}
use Rattle.in_place.proofs.k_split_laws_proofs.Cuts.{left_through}
use Rattle.in_place.specs.Holes.{absent_count, FillsMap, HasRuns, holes_need, IsHolesAnswer, IsPresent}
use Rattle.in_place.specs.k_split_laws.k_split.MapChanges.{free_blocks_in}
use Rattle.in_place.specs.declared.placing.holes.Holes.{Holes}
use Rattle.write_begin.specs.Stages.{with_parts}
use Rattle.write_begin.specs.Begins.{FillsFor, LacksFor}
use Rattle.write_begin.specs.Goes.{filled_in, Goes, HasRoom, KeepsMaps}
use Rattle.write_begin.specs.Rooms.{ArePresent, FillsPart, IsFrontFilled, LieWithin}
use Rattle.write_begin.proofs.Maps.{line_same, maps_any, same_maps}
use Rattle.write_begin.proofs.Steps.{Onward}

-- ---- the file

abbrev pub has_runs : (mode : Mode) (k : View) (staging : Staged) (files : Files) (who : Who) (target : Target) (x : List ℕ) → Goes mode k staging files who target x → HasRuns k staging files target.ino
has_runs mode k staging files who target x goes = record {
  has = record {
    g = goes.g;
    t = goes.t;
    kept = with_parts goes.kept staging files;
    lines = true;
    n = goes.n;
    s = goes.s;
    stands = goes.stands;
    file = goes.stands.open_are_files target.ino goes.opened;
    others = goes.others;
  };
  staging_is = refl;
}

-- a block that the file had it has
still_mapped : (o p : Option ℕ) → ((b : ℕ) → o ≡ Some b → p ≡ Some b) → IsSome o → IsSome p
still_mapped None p kept some = cc
still_mapped (Some b) p kept some = ap is_some (kept b refl)

still_present : (v w : Volume) (files : Files) (ino first count block : ℕ) → FillsMap v w files ino first count → IsPresent v files ino block → IsPresent w files ino block
still_present v w files ino first count block maps (inl mapped) = inl (still_mapped (disk_at (extents v ino) block) (disk_at (extents w ino) block) (maps.kept block) mapped)
still_present v w files ino first count block maps (inr staged) = inr staged

-- ---- it goes on

module _ (mode : Mode) (k l : View) (staging : Staged) (files : Files) (who : Who) (target : Target) (x : List ℕ) where
  pub filled_on : (placed : Option (ℕ × ℕ)) → FillsFor k l staging files target.ino placed → (goes : Goes mode k staging files who target x) → Onward mode k l staging staging files files who target x goes
  filled_on None same goes = subst (λ (y : View). Onward mode k y staging staging files files who target x goes) (sym same) (record { now = goes.stands; jobs_are = refl; numbers_are = refl; present = λ block has. has })
  filled_on (Some range) fills goes =
      let stays = fills.stays (has_runs mode k staging files who target x goes) in
      record {
        now = stays.now;
        jobs_are = stays.jobs_are;
        numbers_are = stays.numbers_are;
        present = λ block has. still_present k.volume l.volume files target.ino (range.0 / 4096) (blocks_for range.1 - range.0 / 4096) block fills.maps has;
      }

  -- what is left of the one device is left of the other
  pub left_before : (placed : Option (ℕ × ℕ)) → FillsFor k l staging files target.ino placed → (goes : Goes mode k staging files who target x) (m : View) → IsLeftOf goes.g l.cells m.cells → IsLeftOf goes.g k.cells m.cells
  left_before None same goes m = subst (λ (y : View). IsLeftOf goes.g y.cells m.cells) same
  left_before (Some range) fills goes m = left_through goes.g k.cells l.cells m.cells fills.size fills.lent

  no_staging : (a b : Kind) → a ≡ File → b ≡ Staging → a ≡ b → ⊥
  no_staging a b file staging same = let never : File ≡ Staging = sym file ∙ (same ∙ staging) in cc

  same_blocks : (first count : ℕ) → FillsMap k.volume l.volume files target.ino first count → (goes : Goes mode k staging files who target x) → SameBlocks k.volume l.volume goes.stands.jobs
  same_blocks first count maps goes = by goes.stands.jobs (goes.stands.flying.device.world (words_of k.cells) (IsImage-words_of k.cells)).valid.out where
    by : (jobs : List Job) → JobsStand k.volume (live_claims k.volume goes.kept.claims) (journaled (words_of k.cells)) goes.stands.numbers goes.s jobs → SameBlocks k.volume l.volume jobs
    by [] outside = tt
    by (j ∷ jobs) outside = (
      (λ i. ap (λ es. disk_at es (j.draft.staging_block + i)) (maps.maps j.draft.staging (λ same. no_staging (inode k.volume target.ino).kind (inode k.volume j.draft.staging).kind (goes.stands.open_are_files target.ino goes.opened) outside.0.staging (ap (λ n. (inode k.volume n).kind) (sym same))))),
      by jobs outside.2,
    )

  -- and what is kept over the one volume is kept over the other
  pub kept_before : (placed : Option (ℕ × ℕ)) → FillsFor k l staging files target.ino placed → (goes : Goes mode k staging files who target x) (m : View) (start : State) (history : List Item) (c : Unfinished)
      → KeepsWhenLost l.volume m.cells goes.kept goes.stands.jobs start history (c ∷ []) → KeepsWhenLost k.volume m.cells goes.kept goes.stands.jobs start history (c ∷ [])
  kept_before None same goes m start history c kept not_posix = subst (λ (y : View). KeepsWhenLost y.volume m.cells goes.kept goes.stands.jobs start history (c ∷ [])) same kept not_posix
  kept_before (Some range) fills goes m start history c kept not_posix =
      kept_over k.volume l.volume m.cells goes.kept.first goes.kept.claims goes.stands.jobs start history (c ∷ []) fills.maps.geometry fills.maps.base
      (same_blocks (range.0 / 4096) (blocks_for range.1 - range.0 / 4096) fills.maps goes) (kept not_posix)

  -- the room that there was there is
  pub room_on : (placed : Option (ℕ × ℕ)) → FillsFor k l staging files target.ino placed → HasRoom mode k.volume files target (length x) → HasRoom mode l.volume files target (length x)
  room_on None same has = subst (λ (y : View). HasRoom mode y.volume files target (length x)) (sym same) has
  room_on (Some range) fills has = record {
    ends = fills.ends has.ends;
    room = subst (λ y. write_need mode target.size target.start (target.start + length x) ≤ room_in (data_blocks y) files) (sym fills.maps.geometry) has.room;
  }

-- each byte that is written in place has a block
pub are_present : (k l : View) (staging : Staged) (files : Files) (ino : ℕ) (placed : Option (ℕ × ℕ)) → FillsFor k l staging files ino placed → ArePresent l.volume files ino placed
are_present k l staging files ino None same = tt
are_present k l staging files ino (Some range) fills = λ i from below. fills.present (i / 4096) (omega (arith, from)) (omega (arith, from, below))

-- ---- maps

keeps_but_one : (v w : Volume) (files : Files) (ino first count : ℕ) → FillsMap v w files ino first count → (FilesEnd v files → FilesEnd w files) → KeepsMaps v w files files (Some ino)
keeps_but_one v w files ino first count fills ends = record {
  kinds = λ i. (line i).kind;
  lines = λ i file. line i;
  maps = λ i file other. fills.maps i (λ same. other (ap Some (sym same)));
  runs = λ i. refl;
  sizes = refl;
  ends = ends;
  base = fills.base;
} where
  line : (i : ℕ) → KeepsLine (inode v i) (inode w i)
  line i = elim (cases_eq i ino) [
    | inl own ↦ subst (λ n. KeepsLine (inode v n) (inode w n)) (sym own) fills.line
    | inr other ↦ line_same (inode v i) (inode w i) (fills.lines i other)
  ]

module _ (k l : View) (staging : Staged) (files : Files) (ino : ℕ) where
  same_any : (own : Option ℕ) → l ≡ k → KeepsMaps k.volume l.volume files files own
  same_any own same = subst (λ (y : View). KeepsMaps k.volume y.volume files files own) (sym same) (maps_any k.volume k.volume files files own (same_maps k.volume files))

  sync_filled : (placed : Option (ℕ × ℕ)) → FillsFor k l staging files ino placed → KeepsMaps k.volume l.volume files files (Some ino)
  sync_filled None same = same_any (Some ino) same
  sync_filled (Some range) fills = keeps_but_one k.volume l.volume files ino (range.0 / 4096) (blocks_for range.1 - range.0 / 4096) fills.maps fills.ends

  sync_part : (placed : Option (ℕ × ℕ)) → FillsPart k l staging files ino placed → KeepsMaps k.volume l.volume files files (Some ino)
  sync_part None fills = absurd fills
  sync_part (Some range) fills = keeps_but_one k.volume l.volume files ino (range.0 / 4096) (blocks_for range.1 - range.0 / 4096) fills.maps fills.ends

  pub filled_maps : (mode : Mode) (placed : Option (ℕ × ℕ)) → (mode ≡ Mode.Strict → placed ≡ None) → FillsFor k l staging files ino placed → KeepsMaps k.volume l.volume files files (filled_in mode ino)
  filled_maps Mode.Strict placed none fills = same_any None (subst (FillsFor k l staging files ino) (none refl) fills)
  filled_maps Mode.Sync placed none fills = sync_filled placed fills
  filled_maps Mode.Posix placed none fills = sync_filled placed fills

  pub part_maps : (mode : Mode) (placed : Option (ℕ × ℕ)) → (mode ≡ Mode.Strict → placed ≡ None) → FillsPart k l staging files ino placed → KeepsMaps k.volume l.volume files files (filled_in mode ino)
  part_maps Mode.Strict placed none fills = absurd (subst (FillsPart k l staging files ino) (none refl) fills)
  part_maps Mode.Sync placed none fills = sync_part placed fills
  part_maps Mode.Posix placed none fills = sync_part placed fills

  -- where too little is free nothing was done
  pub lacks_same : (placed : Option (ℕ × ℕ)) (need left : ℕ) → LacksFor k l staging files ino placed need left → l ≡ k
  lacks_same None need left lacks = absurd lacks
  lacks_same (Some range) need left lacks = lacks.same

  pub lacks_maps : (own : Option ℕ) (placed : Option (ℕ × ℕ)) (need left : ℕ) → LacksFor k l staging files ino placed need left → KeepsMaps k.volume l.volume files files own
  lacks_maps own placed need left lacks = same_any own (lacks_same placed need left lacks)

-- ---- the first holes of a lap

both : (a b : Bool) → cond (a && b) 1 0 ≤ cond a 1 0
both true true = omega arith
both true false = omega arith
both false b = omega arith

at_most : (a b : ℕ) → a ≡ b → a ≤ b
at_most a b is = omega (arith, is)

count_both : (a b : ℕ → Bool) (xs : List ℕ) → count_by (λ m. a m && b m) xs ≤ count_by a xs
count_both a b [] = at_most (count_by (λ m. a m && b m) []) (count_by a []) refl
count_both a b (m ∷ xs) =
    let one = sum_by-cons (λ x. cond (a x && b x) 1 0) m xs in
    let two = sum_by-cons (λ x. cond (a x) 1 0) m xs in
    let here = both (a m) (b m) in
    let rest = count_both a b xs in
    omega (arith, one, two, here, rest)

-- there are blocks for them
pub holes_fit : (mode : Mode) (k l : View) (staging : Staged) (files : Files) (who : Who) (target : Target) (x : List ℕ) (placed : Option (ℕ × ℕ)) (need left : ℕ) → FirstHolesFit → Goes mode k staging files who target x
    → FilesEnd k.volume files → LieWithin files target.ino placed → staging ≡ nothing_staged → LacksFor k l staging files target.ino placed need left → ⊥
holes_fit mode k l staging files who target x None need left law goes ends within fresh lacks = absurd lacks
holes_fit mode k l staging files who target x (Some range) need left law goes ends within fresh lacks =
    let first = range.0 / 4096 in
    let count = blocks_for range.1 - range.0 / 4096 in
    let low = within.some in
    let below = within.below in
    let inside : range.0 / 4096 + (blocks_for range.1 - range.0 / 4096) ≤ blocks_for (size_in files target.ino) = omega (arith, low, below) in
    let free = law goes.g k goes.t (with_parts goes.kept staging files) true goes.n goes.s target.ino (range.0 / 4096) (blocks_for range.1 - range.0 / 4096) goes.stands fresh ends (goes.stands.open_are_files target.ino goes.opened) inside in
    let holes = length-filter (λ b. is_none (disk_at (extents k.volume target.ino) b)) (range_with_len (range.0 / 4096) (blocks_for range.1 - range.0 / 4096)) in
    let few = count_both (λ b. is_none (disk_at (extents k.volume target.ino) b)) (λ b. is_none (staged_at (runs_in files target.ino) b)) (range_with_len (range.0 / 4096) (blocks_for range.1 - range.0 / 4096)) in
    let none : length staging.out ≡ 0 = ap (λ (s : Staged). length s.out) fresh in
    let need_is = lacks.need_is in
    let left_is = lacks.room_is in
    let less = lacks.lacks in
    omega (arith, free, holes, few, none, need_is, left_is, less)

-- ---- what filling them answers

pub front_filled : (k l : View) (staging : Staged) (files : Files) (ino : ℕ) (range : ℕ × ℕ) (result : Result Holes AllocError)
    → (result ≡ Ok Holes.Filled → 1 ≤ absent_count k.volume files ino (range.0 / 4096) (blocks_for range.1 - range.0 / 4096) → holes_need k staging files ino (range.0 / 4096) (blocks_for range.1 - range.0 / 4096) ≤ free_blocks_in k)
    → IsHolesAnswer k l staging files ino (range.0 / 4096) (blocks_for range.1 - range.0 / 4096) result → (let placed : Option (ℕ × ℕ) = Some range in IsFrontFilled k l staging files ino placed result)
front_filled k l staging files ino range (Ok Holes.Filled) enough is = (is, λ need left lacks. (let least = enough refl lacks.some in let need_is = lacks.need_is in let left_is = lacks.room_is in let less = lacks.lacks in omega (arith, least, need_is, left_is, less)))
front_filled k l staging files ino range (Ok (Holes.Lacking need left)) enough is = is
front_filled k l staging files ino range (Ok Holes.PowerLost) enough is = is
front_filled k l staging files ino range (Err e) enough is = is
