-- One gap more is filled, or memory or the power stops it; and the whole range.
use Rattle.std.specs.Prelude.{◌≡◌, ◌⊎◌, ◌≤◌, ◌<◌, ◌+◌, ◌*◌, ◌-◌, ◌^◌, ◌==◌, ◌&&◌, is_none, ℕ, nat_lt, Bool, true, false, List, [], ◌∷◌, length, Option, Some, None, IsSome, Ok, Err, refl}
use Rattle.std.proofs.Common.{arith, ap, ◌∙◌, sym, subst, inl, inr}
use Rattle.std.proofs.lemmas.Bool.{cases_lt}
use Rattle.std.proofs.lemmas.Bool.Decides.{Decides-eqb, nat_tests}
use Rattle.live_step_laws.specs.block_counts.Counts.{blocks_for, chains_for}
use Rattle.live_step_laws.specs.pm_model.declared.Cell.{Cell}
use Rattle.live_step_laws.specs.pm_model.ImageLaws.{IsImage-words_of}
use Rattle.live_step_laws.specs.pm_model.Images.{words_of}
use Rattle.live_step_laws.specs.pm_model.PowerLaws.{Steps-none, Steps-then}
use Rattle.live_step_laws.specs.pm_model.Powers.{Steps, Supply}
use Rattle.live_step_laws.specs.extent_model.Extents.{disk_at}
use Rattle.live_step_laws.specs.layout_model.Journal.{journaled}
use Rattle.live_step_laws.specs.layout_model.Places.{reserve}
use Rattle.live_step_laws.specs.layout_model.declared.lines.Kind.{Kind}
use Rattle.live_step_laws.specs.layout_model.declared.lines.Kind.TheVariants.{File, Staging}
use Rattle.live_step_laws.specs.image_model.Room.{unused_blocks}
use Rattle.live_step_laws.specs.image_model.Volume.{extents, inode, Volume}
use Rattle.live_step_laws.specs.k_map_plans.Plans.{holes_row}
use Rattle.live_step_laws.specs.k_split.Answers.{IsPaid}
use Rattle.live_step_laws.specs.k_split.Filling.{fill_row, hole_count, IsFillAnswer, IsFilledWith}
use Rattle.live_step_laws.specs.k_split.MapChanges.{free_blocks_in, IsMapDone}
use Rattle.live_step_laws.specs.k_split.declared.faults.KFault.{KFault}
use Rattle.live_step_laws.specs.k_split_model.View.{View}
use Rattle.live_step_laws.specs.list_laws.Members.{In}
use Rattle.live_step_laws.specs.live_model.file_table.Files.{Files, runs_in, size_in}
use Rattle.live_step_laws.specs.live_model.Losses.{KeepsWhenLost}
use Rattle.live_step_laws.specs.live_model.Standing.{StandsAt}
use Rattle.live_step_laws.specs.posix_types.declared.item.Item.{Item}
use Rattle.live_step_laws.specs.posix_types.declared.reply.Reply.{Reply}
use Rattle.live_step_laws.specs.posix_types.declared.item.Outcome.{Outcome}
use Rattle.live_step_laws.specs.posix_types.declared.reply.Errno.{Errno}
use Rattle.live_step_laws.specs.posix_types.declared.reply.Room.{Room}
use Rattle.live_step_laws.specs.posix_types.declared.reply.What.{What}
use Rattle.live_step_laws.specs.posix_tables.Outcomes.{answer, first, idle_row, space_row}
use Rattle.live_step_laws.specs.posix_spec.Run.{run, Unfinished}
use Rattle.live_step_laws.specs.posix_spec.State.{State}
use Rattle.live_step_laws.specs.staging_files.Keeps.{Staged}
use Rattle.live_step_laws.specs.world_image_laws.LentLaws.{SameBlocks}
use Rattle.live_step_laws.specs.world_model.Jobs.{Job, JobsStand, live_claims}
use Rattle.live_step_laws.specs.FillsLaws.{AreOfOthers, FillsAsAsked, KeepsFilledCut, StandsFilled}
use Rattle.live_step_laws.specs.k_plans.Whole.{IsWhole}
use Rattle.live_step_laws.proofs.Backs.{kept_over}
use Rattle.live_step_laws.proofs.k_plans_proofs.FreeCounts.{unwaiting-counted}
use Rattle.live_step_laws.specs.k_split_laws.Left.{IsLeftOf}
use Rattle.live_step_laws.proofs.k_split_laws_proofs.Cuts.{left_at, left_map_cut, left_through}
use Rattle.write_plan.specs.file_overlay.Runs.{staged_at}
use Rattle.in_place.specs.Gaps.{Stays, with_files}
use Rattle.in_place.proofs.Lost.{kept_off, left_off}
use Rattle.in_place.specs.Holes.{absent_count, FillsRange, FillsSome, HasRuns, holes_need, is_absent, IsPresent, IsUnstaged, LosesHoles}
use Rattle.in_place.proofs.Counting.{count_at_most, none_pass}
use Rattle.in_place.proofs.Entries.{blocks_fit, out_where_staged}
use Rattle.in_place.proofs.Filling.{ahead_then, counted, ends_then, file, filled_none, gap_fits, gap_is, IsFilledTo, longer_then, maps_then, none_more, off, on, order, present_then, rest_at_most, rest_is, steps_to}
use Rattle.in_place.proofs.Piece.{steps_more}

-- ---- what stands against it

row_by : Bool → Bool → ℕ → ℕ → Option Outcome
row_by idle lacks need room = first (idle_row idle Reply.Ok ∷ space_row lacks What.Blocks need room ∷ [])

reply_of : Option Outcome → Option Reply
reply_of None = None
reply_of (Some o) = Some o.reply

idle_by : (idle lacks : Bool) (need room : ℕ) → row_by idle lacks need room ≡ Some (answer Reply.Ok) → idle ≡ true
unfolding row_by reply_of
idle_by true lacks need room is = refl
idle_by false true need room is = let never : Some (Reply.Error Errno.ENOSPC) ≡ Some Reply.Ok = ap reply_of is in cc
idle_by false false need room is = let never : None ≡ Some Reply.Ok = ap reply_of is in cc

lacks_by : (idle lacks : Bool) (need room : ℕ) (r : Room) → row_by idle lacks need room ≡ Some (record { reply = Reply.Error Errno.ENOSPC; room = Some r }) → lacks ≡ true
unfolding row_by reply_of
lacks_by true lacks need room r is = let never : Some Reply.Ok ≡ Some (Reply.Error Errno.ENOSPC) = ap reply_of is in cc
lacks_by false true need room r is = refl
lacks_by false false need room r is = let never : None ≡ Some (Reply.Error Errno.ENOSPC) = ap reply_of is in cc

some_by : (idle lacks : Bool) (need room : ℕ) → row_by idle lacks need room ≡ None → idle ≡ false
unfolding row_by reply_of
some_by false lacks need room is = refl
some_by true lacks need room is = let never : Some Reply.Ok ≡ None = ap reply_of is in cc

idle_is : (missing kept free : ℕ) → holes_row missing kept free ≡ Some (answer Reply.Ok) → missing ≡ 0
unfolding row_by
idle_is missing kept free is = (Decides-eqb missing 0).0 (idle_by (missing == 0) (nat_lt free (missing + kept - 2)) (missing + kept - 2) free is)

lacks_is : (missing kept free : ℕ) (r : Room) → holes_row missing kept free ≡ Some (record { reply = Reply.Error Errno.ENOSPC; room = Some r }) → free < missing + kept - 2
unfolding row_by
lacks_is missing kept free r is = let lacks = lacks_by (missing == 0) (nat_lt free (missing + kept - 2)) (missing + kept - 2) free r is in grind (arith, nat_tests, lacks)

some_is : (missing kept free : ℕ) → holes_row missing kept free ≡ None → 1 ≤ missing
unfolding row_by
some_is missing kept free is = let some = some_by (missing == 0) (nat_lt free (missing + kept - 2)) (missing + kept - 2) free is in grind (arith, nat_tests, some)

-- ---- the sums

few_chains : (a b : ℕ) → a ≤ b + 34 → chains_for a ≤ chains_for b + 1
few_chains a b le = omega (arith, le)

enough_by : (c p kept free chains chains_then unused rest : ℕ) → unused + c + chains_then ≡ free + chains + rest → chains_then ≤ chains + 1 → c + p + kept - 2 ≤ free → p + kept ≤ unused + 3
enough_by c p kept free chains chains_then unused rest sum few room = omega (arith, sum, few, room)

never_lacks : (c p kept free chains chains_now free_now rest missing : ℕ) → free_now + c + chains_now ≡ free + chains + rest → (chains_now ≤ chains) ⊎ (1 ≤ p) → chains_now ≤ chains + 1 → c + p + kept - 2 ≤ free → missing ≤ rest → rest ≤ c
    → free_now < missing + kept - 2 → ⊥
never_lacks c p kept free chains chains_now free_now rest missing sum (inl same) few room part most lacks = omega (arith, sum, same, room, part, most, lacks)
never_lacks c p kept free chains chains_now free_now rest missing sum (inr some) few room part most lacks = omega (arith, sum, some, few, room, part, most, lacks)

-- ---- one gap more

no_staging : (a b : Kind) → a ≡ File → b ≡ Staging → a ≡ b → ⊥
no_staging a b file staging same = let never : File ≡ Staging = sym file ∙ (same ∙ staging) in cc

module _ (k l m : View) (staging : Staged) (files : Files) (ino first count block bare : ℕ) (world : HasRuns k staging files ino) (to : IsFilledTo k l staging files ino first count block)
    (below : block < first + count) (unstaged : IsUnstaged (runs_in files ino) block (first + count) bare) (range : first + count ≤ blocks_for (size_in files ino)) (few : count ≤ 33)
    (room : holes_need k staging files ino first count ≤ free_blocks_in k) where
  fits : first + count ≤ 4096
  fits = let all = blocks_fit k staging files ino world in omega (arith, range, all)

  out : (more : block + bare < first + count) → 1 ≤ length staging.out
  out more = out_where_staged k staging files ino world (block + bare) (unstaged.next more)

  gap_at_most : hole_count ino block bare l ≤ bare
  gap_at_most = let same = gap_is k l staging files ino first count block bare world to below unstaged fits in let most = count_at_most (is_absent k.volume files ino) block bare in omega (arith, same, most)

  -- there is room for it
  pub has_room : (r : Room) → fill_row ino block bare l ≡ Some (record { reply = Reply.Error Errno.ENOSPC; room = Some r }) → ⊥
  has_room r is =
      let lacks = lacks_is (hole_count ino block bare l) (reserve l.volume.geometry) (free_blocks_in l) r is in
      let kept : reserve l.volume.geometry ≡ reserve k.volume.geometry = ap reserve to.maps.geometry in
      let rest = rest_is k l staging files ino first count block bare world to below unstaged fits in
      never_lacks (absent_count k.volume files ino first count) (length staging.out) (reserve k.volume.geometry) (free_blocks_in k) (chains_for (length (extents k.volume ino))) (chains_for (length (extents l.volume ino)))
      (free_blocks_in l) (absent_count k.volume files ino block (first + count - block)) (hole_count ino block bare l) to.free owed
      (few_chains (length (extents l.volume ino)) (length (extents k.volume ino)) (let longer = to.longer in omega (arith, longer, below, few))) room (omega (arith, rest))
      (rest_at_most k.volume files ino first count block to.from) (omega (arith, lacks, kept))
    where
      owed : (chains_for (length (extents l.volume ino)) ≤ chains_for (length (extents k.volume ino))) ⊎ (1 ≤ length staging.out)
      owed = elim to.owed [ inl same ↦ inl same | inr other ↦ elim other [ inl some ↦ inr some | inr past ↦ absurd (omega (arith, past, below)) ] ]

  -- where some get blocks those that all runs want are free still
  enough : (d : List Cell) (w : Volume) (blocks : List ℕ) → IsFilledWith ino block bare l d w blocks → IsWhole w → FillsAsAsked → length staging.out + reserve k.volume.geometry ≤ unused_blocks w + 3
  enough d w blocks is whole asked =
      let longer = longer_then k l staging files ino first count block bare world to below unstaged fits d w blocks is whole asked in
      enough_by (absent_count k.volume files ino first count) (length staging.out) (reserve k.volume.geometry) (free_blocks_in k) (chains_for (length (extents k.volume ino))) (chains_for (length (extents w ino))) (unused_blocks w)
      (absent_count k.volume files ino (block + bare + 1) (first + count - (block + bare + 1)))
      (counted k l staging files ino first count block bare world to below unstaged fits d w blocks is whole asked)
      (few_chains (length (extents w ino)) (length (extents k.volume ino)) (omega (arith, longer, unstaged.within, few))) room

  enough_for : (in_world : HasRuns k staging files ino) (w : Volume) → length staging.out + reserve k.volume.geometry ≤ unused_blocks w + 3
      → length in_world.has.kept.staging.out + reserve in_world.has.g ≤ unused_blocks w + 3
  enough_for in_world w is =
      let same = ap (λ (x : Staged). length x.out) in_world.staging_is in
      let kept : reserve k.volume.geometry ≡ reserve in_world.has.g = ap reserve in_world.has.stands.geometry in
      omega (arith, same, kept, is)

  others_of : (in_world : HasRuns k staging files ino) → AreOfOthers ino (to.stays in_world).now.jobs
  others_of in_world j is = in_world.has.others j (subst (In j) (to.stays in_world).jobs_are is)

  -- ---- done

  stays_on : StandsFilled → IsFillAnswer ino block bare l m (Ok tt) → length staging.out + reserve k.volume.geometry ≤ unused_blocks m.volume + 3 → (in_world : HasRuns k staging files ino) → Stays k files ino in_world.has m
  stays_on stands done is in_world =
      let has = in_world.has in
      let was = to.stays in_world in
      let r = stands has.g l m has.t (with_files has.kept files) has.lines has.n has.s ino block bare was.now (file k l staging files ino first count block bare world to below unstaged fits) (others_of in_world)
      (gap_fits k l staging files ino first count block bare world to below unstaged fits) done (enough_for in_world m.volume is)
      in
      record { now = r.0; jobs_are = r.1 ∙ was.jobs_are; numbers_are = r.2 ∙ was.numbers_are }

  some_more : StandsFilled → FillsAsAsked → fill_row ino block bare l ≡ None → (blocks : List ℕ) → IsFilledWith ino block bare l m.cells m.volume blocks → IsMapDone blocks l m → IsFilledTo k m staging files ino first count (block + bare + 1)
  some_more stands asked row blocks is done = record {
    from = omega (arith, to.from);
    to = omega (arith, unstaged.within);
    maps = maps_then k l staging files ino first count block bare world to below unstaged fits m.cells m.volume blocks is done.order.whole asked;
    ahead = ahead_then k l staging files ino first count block bare world to below unstaged fits m.cells m.volume blocks is done.order.whole asked;
    present = present_then k l staging files ino first count block bare world to below unstaged fits m.cells m.volume blocks is done.order.whole asked;
    free =
        let sum = counted k l staging files ino first count block bare world to below unstaged fits m.cells m.volume blocks is done.order.whole asked in
        let same : free_blocks_in m ≡ unused_blocks m.volume = unwaiting-counted (record { volume = m.volume; aside = []; waiting = m.waiting }) refl (done.order.none_waits (done.batched ∙ off k l staging files ino first count block bare world to below unstaged fits)) in
        omega (arith, sum, same);
    longer = longer_then k l staging files ino first count block bare world to below unstaged fits m.cells m.volume blocks is done.order.whole asked;
    owed = elim (cases_lt (block + bare) (first + count)) [ inl more ↦ inr (inl (out more)) | inr last ↦ inr (inr (omega (arith, last))) ];
    size = done.changes.size ∙ to.size;
    lent = λ i. done.changes.lent i ∙ to.lent i;
    singles = λ i single. done.singles i (to.singles i single);
    ends = ends_then k l staging files ino first count block bare world to below unstaged fits m.cells m.volume blocks is done.order.whole asked range;
    stays = stays_on stands (inr (row, (blocks, is, done))) (enough m.cells m.volume blocks is done.order.whole asked);
  }

  pub fills_on : StandsFilled → FillsAsAsked → (old new last : Supply) → Steps (steps_to k files ino first count block) old new → Steps (2 ^ 15 + 1024 * hole_count ino block bare l) new last
      → IsPaid {T = Unit {0}} (fill_row ino block bare l) new last (Ok tt) → IsFillAnswer ino block bare l m (Ok tt)
      → IsFilledTo k m staging files ino first count (block + bare + 1) × Steps (steps_to k files ino first count (block + bare + 1)) old last
  fills_on stands asked old new last stepped more paid (inl full) =
      let none = idle_is (hole_count ino block bare l) (reserve l.volume.geometry) (free_blocks_in l) full.full in
      let rest = rest_is k l staging files ino first count block bare world to below unstaged fits in (
        subst (λ y. IsFilledTo k y staging files ino first count (block + bare + 1)) (sym full.same) (none_more k l staging files ino first count block bare world to below unstaged fits out none),
        subst (λ q. Steps (steps_to k files ino first count (block + bare + 1)) old q) (sym (paid.2 full.full))
            (steps_more (steps_to k files ino first count block) (steps_to k files ino first count (block + bare + 1)) old new (let from = to.from in omega (arith, rest, none, from)) stepped),
      )
  fills_on stands asked old new last stepped more paid (inr made) =
      let some = some_is (hole_count ino block bare l) (reserve l.volume.geometry) (free_blocks_in l) made.0 in
      let rest = rest_is k l staging files ino first count block bare world to below unstaged fits in
      let most = rest_at_most k.volume files ino first count block to.from in
      let gap = gap_at_most in (
        some_more stands asked made.0 made.1.0 made.1.1 made.1.2,
        steps_more (steps_to k files ino first count block + (2 ^ 15 + 1024 * hole_count ino block bare l)) (steps_to k files ino first count (block + bare + 1)) old last
            (let from = to.from in omega (arith, rest, some, most, gap, from))
            (Steps-then (steps_to k files ino first count block) (2 ^ 15 + 1024 * hole_count ino block bare l) old new last stepped more),
      )

  -- ---- or the power went

  same_blocks : (in_world : HasRuns k staging files ino) → SameBlocks k.volume l.volume in_world.has.stands.jobs
  same_blocks in_world = by in_world.has.stands.jobs (in_world.has.stands.flying.device.world (words_of k.cells) (IsImage-words_of k.cells)).valid.out where
    by : (jobs : List Job) → JobsStand k.volume (live_claims k.volume in_world.has.kept.claims) (journaled (words_of k.cells)) in_world.has.stands.numbers in_world.has.s jobs → SameBlocks k.volume l.volume jobs
    by [] outside = tt
    by (j ∷ jobs) outside = (
      (λ i. ap (λ es. disk_at es (j.draft.staging_block + i)) (to.maps.maps j.draft.staging (λ same. no_staging (inode k.volume ino).kind (inode k.volume j.draft.staging).kind in_world.has.file outside.0.staging (ap (λ n. (inode k.volume n).kind) (sym same))))),
      by jobs outside.2,
    )

  lost : ((in_world : HasRuns k staging files ino) → IsLeftOf in_world.has.g l.cells m.cells)
      → ((in_world : HasRuns k staging files ino) (start : State) (history : List Item) (c : Unfinished) (now : StandsAt in_world.has.g l in_world.has.t (with_files in_world.has.kept files) in_world.has.lines in_world.has.n (run start history))
      → AreOfOthers ino now.jobs → KeepsWhenLost l.volume m.cells in_world.has.kept now.jobs start history (c ∷ []))
      → LosesHoles k m staging files ino
  lost left keeps = record {
    left = λ in_world. left_through in_world.has.g k.cells l.cells m.cells to.size to.lent (left in_world);
    kept = λ in_world start history c is mode.
        let has = in_world.has in
        let was = to.stays in_world in
        let there : KeepsWhenLost l.volume m.cells has.kept was.now.jobs start history (c ∷ []) =
        subst
        (λ y. (now : StandsAt has.g l has.t (with_files has.kept files) has.lines has.n y) → AreOfOthers ino now.jobs → KeepsWhenLost l.volume m.cells has.kept now.jobs start history (c ∷ []))
        (sym is) (λ now others. keeps in_world start history c now others) was.now (others_of in_world)
        in
        kept_over k.volume l.volume m.cells has.kept.first has.kept.claims has.stands.jobs start history (c ∷ []) to.maps.geometry to.maps.base (same_blocks in_world)
        (subst (λ js. KeepsWhenLost l.volume m.cells has.kept js start history (c ∷ [])) was.jobs_are there mode);
  }

  pub loses_on : KeepsFilledCut → FillsAsAsked → IsFillAnswer ino block bare l m (Err KFault.PowerLost) → LosesHoles k m staging files ino
  loses_on keeps asked (inl is) = lost
      (λ in_world. left_off in_world.has.g l m in_world.has.t (with_files in_world.has.kept files) in_world.has.lines in_world.has.n in_world.has.s (to.stays in_world).now same)
      (λ in_world start history c now others. kept_off in_world.has.g l m in_world.has.t (with_files in_world.has.kept files) in_world.has.lines in_world.has.n start history c now same)
    where
      same : m.cells ≡ l.cells
      same = ap (λ (z : View). z.cells) is
  loses_on keeps asked (inr (row, (w, blocks, is, cut))) = lost
      (λ in_world.
      subst (λ y. IsLeftOf y l.cells m.cells) (to.stays in_world).now.geometry
      (left_at l.volume l.committed l.cells m.cells ((order k l staging files ino first count block bare world to below unstaged fits).settled (off k l staging files ino first count block bare world to below unstaged fits)) (left_map_cut blocks w l m cut)))
      (λ in_world start history c now others.
      keeps in_world.has.g l m in_world.has.t (with_files in_world.has.kept files) in_world.has.lines in_world.has.n start history c ino block bare w blocks now
      (file k l staging files ino first count block bare world to below unstaged fits) others (gap_fits k l staging files ino first count block bare world to below unstaged fits) is cut
      (enough_for in_world w (enough m.cells w blocks is cut.whole asked)))

  -- ---- steps

  pub steps_at_end : (old new last : Supply) → Steps (steps_to k files ino first count block) old new → Steps (2 ^ 15 + 1024 * hole_count ino block bare l) new last → Steps (2 ^ 20) old last
  steps_at_end old new last stepped more =
      let rest = rest_is k l staging files ino first count block bare world to below unstaged fits in
      let most = rest_at_most k.volume files ino first count block to.from in
      let all = count_at_most (is_absent k.volume files ino) first count in
      steps_more (steps_to k files ino first count block + (2 ^ 15 + 1024 * hole_count ino block bare l)) (2 ^ 20) old last (omega (arith, rest, most, all, few, below))
      (Steps-then (steps_to k files ino first count block) (2 ^ 15 + 1024 * hole_count ino block bare l) old new last stepped more)

-- ---- all of them

module _ (k l : View) (staging : Staged) (files : Files) (ino first count block : ℕ) (to : IsFilledTo k l staging files ino first count block) (few : count ≤ 33) where
  pub range_filled : 1 ≤ absent_count k.volume files ino first count → first + count ≤ block → FillsRange k l staging files ino first count
  range_filled some past = record {
    none = λ none. absurd (omega (arith, some, none));
    maps = to.maps;
    present = λ m from low. to.present m from (omega (arith, low, past)) low;
    free = (
        let nothing : first + count - block ≡ 0 = omega (arith, past) in
        let empty : absent_count k.volume files ino block (first + count - block) ≡ 0 = ap (absent_count k.volume files ino block) nothing in
        let was = to.free in
        omega (arith, was, empty));
    chain = few_chains (length (extents l.volume ino)) (length (extents k.volume ino)) (omega (arith, to.longer, to.to, few));
    size = to.size;
    lent = to.lent;
    singles = to.singles;
    ends = to.ends;
    stays = to.stays;
  }

  pub some_filled : FillsSome k l staging files ino first count
  some_filled = record { maps = to.maps; ends = to.ends; stays = to.stays }

  pub steps_all : (old new : Supply) → Steps (steps_to k files ino first count block) old new → Steps (2 ^ 20) old new
  steps_all old new stepped =
      let all = count_at_most (is_absent k.volume files ino) first count in
      steps_more (steps_to k files ino first count block) (2 ^ 20) old new (omega (arith, all, few, to.to)) stepped

-- ---- none is absent

pub range_full : (k : View) (staging : Staged) (files : Files) (ino first count : ℕ) → absent_count k.volume files ino first count ≡ 0 → FillsRange k k staging files ino first count
range_full k staging files ino first count none =
    let nothing = filled_none k staging files ino first count in
    record {
      none = λ is. refl;
      maps = nothing.maps;
      present = λ m from low. there m (none_pass (is_absent k.volume files ino) first count none m from low);
      free = omega (arith, none);
      chain = omega arith;
      size = refl;
      lent = λ i. refl;
      singles = λ i is. is;
      ends = λ ends. ends;
      stays = nothing.stays;
    }
  where
    there : (m : ℕ) → is_absent k.volume files ino m ≡ false → IsPresent k.volume files ino m
    there m is = by (disk_at (extents k.volume ino) m) (staged_at (runs_in files ino) m) is where
      by : (o : Option ℕ) (q : Option (ℕ × ℕ)) → (is_none o && is_none q) ≡ false → IsSome o ⊎ IsSome q
      by (Some b) q has = inl refl
      by None (Some place) has = inr refl
      by None None has = cc

pub steps_start : (k : View) (files : Files) (ino first count : ℕ) (p : Supply) → Steps (steps_to k files ino first count first) p p
steps_start k files ino first count p = steps_more 0 (steps_to k files ino first count first) p p (omega arith) (Steps-none p)

pub off_on : (b : Bool) → b ≡ false → b ≡ true → ⊥
off_on true off on = cc
off_on false off on = cc
