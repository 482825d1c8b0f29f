-- The first write finds its blocks.
use Rattle.std.specs.Prelude.{◌≡◌, ◌≤◌, ◌<◌, ◌+◌, ◌-◌, ◌/◌, ℕ, nat_lt, Bool, true, false, [], length, max, min, Option, None, Some, is_some, sum_by, if◌then◌else◌, refl}
use Rattle.std.specs.Option.{option_map_or}
use Rattle.std.proofs.Common.{arith, ap, ◌∙◌, sym, inl, inr}
use Rattle.std.proofs.lemmas.Bool.{cases_Bool}
use Rattle.std.proofs.lemmas.Bool.Decides.{nat_tests}
use Rattle.eof_laws.specs.block_counts.Counts.{blocks_for, chains_for, held_by, reserve_for}
use Rattle.eof_laws.specs.layout_model.Places.{data_blocks}
use Rattle.eof_laws.specs.image_model.Room.{unused_blocks}
use Rattle.eof_laws.proofs.k_plans_proofs.FreeCounts.{unwaiting-counted}
use Rattle.eof_laws.specs.posix_types.declared.call.Mode.{Mode}
use Rattle.eof_laws.specs.posix_tables.Room.{growth, write_need}
use Rattle.live_model.specs.data_route.Writes.{plan_of, staged_by}
use Rattle.live_model.specs.world_model.HeldLaws.{HeldIsTheSum}
use Rattle.live_model.specs.k_split.MapChanges.{free_blocks_in}
use Rattle.live_model.specs.staging_files.Keeps.{Staged}
use Rattle.live_model.specs.staging_files.Reserves.{has_empty, LacksSecondWay, need}
use Rattle.write_plan.specs.FirstWritesLaws.{FirstHolesFit, FirstWriteFits}
use Rattle.eof_laws.specs.layout_model.Journal.{journaled}
use Rattle.eof_laws.specs.pm_model.Images.{words_of}
use Rattle.live_model.specs.world_model.Jobs.{live_claims}
use Rattle.write_plan.specs.Shown.{FirstHolesAreUnused, FirstRunFits}
use Rattle.write_plan.proofs.Held.{in_files, leaves_kept, leaves_the_reserve, unused_at_least, unused_with_holes}

-- a write needs at least the blocks that it stages
chains_grow : (a b : ℕ) → a ≤ b → chains_for a ≤ chains_for b
chains_grow a b le = omega (arith, le)

blocks_grow : (a b : ℕ) → a ≤ b → blocks_for a ≤ blocks_for b
blocks_grow a b le = omega (arith, le)

growth_blocks : (from to : ℕ) → from ≤ to → blocks_for to - blocks_for from ≤ growth from to
growth_blocks from to le = omega (arith, blocks_grow from to le, chains_grow (blocks_for from) (blocks_for to) (blocks_grow from to le))

-- the blocks of a range behind the old end, and at most one more, are what the file grows by
run_grows : (size start end : ℕ) → size < end → blocks_for end - max (size / 4096) (start / 4096) ≤ growth size (max size end) + 1
run_grows size start end past =
    let grown = growth_blocks size (max size end) (omega arith) in
    let more = blocks_grow end (max size end) (omega arith) in
    let floor : blocks_for size ≤ size / 4096 + 1 = omega arith in
    behind (blocks_for end) (blocks_for (max size end)) (blocks_for size) (size / 4096) (start / 4096) (growth size (max size end)) grown more floor
  where
    behind : (x y z a b grown : ℕ) → y - z ≤ grown → x ≤ y → z ≤ a + 1 → x - max a b ≤ grown + 1
    behind x y z a b grown some more floor = omega (arith, some, more, floor)

by_end : (x y z first grown : ℕ) → x - z ≤ grown → z ≤ y → x ≤ y → y - z ≤ grown → x - first ≤ min x z - first + grown
by_end x y z first grown some low high more = omega (arith, some)

-- in strict mode a write needs the blocks that it stages
strict_run : (size start end : ℕ) → blocks_for end - start / 4096 ≤ write_need Mode.Strict size start end
strict_run size start end =
    let grown = growth_blocks size (max size end) (omega arith) in
    let more = blocks_grow end (max size end) (omega arith) in
    let less = blocks_grow size (max size end) (omega arith) in
    by_end (blocks_for end) (blocks_for (max size end)) (blocks_for size) (start / 4096) (growth size (max size end)) (omega (arith, grown, more)) less more grown

past_end : (size start end : ℕ) (run : ℕ × ℕ) → staged_by Mode.Sync size start end ≡ Some run → run.1 ≤ growth size (max size end) + 1
past_end size start end run is = by (nat_lt size end) refl is where
  by : (b : Bool) → nat_lt size end ≡ b → (if b then Some (max (size / 4096) (start / 4096), blocks_for end - max (size / 4096) (start / 4096)) else None) ≡ Some run → run.1 ≤ growth size (max size end) + 1
  by false not_past none = cc
  by true past same =
      omega (arith, ap (λ (o : Option (ℕ × ℕ)). option_map_or (λ (r : ℕ × ℕ). r.1) o 0) same, run_grows size start end (grind (arith, nat_tests, past)))

-- the run of a plan has at most one block more than the write needs
run_of : (mode : Mode) (size start end : ℕ) (run : ℕ × ℕ) → staged_by mode size start end ≡ Some run → run.1 ≤ write_need mode size start end + 1
run_of Mode.Strict size start end run is = omega (arith, ap (λ (o : Option (ℕ × ℕ)). option_map_or (λ (r : ℕ × ℕ). r.1) o 0) is, strict_run size start end)
run_of Mode.Sync size start end run is = omega (arith, past_end size start end run is)
run_of Mode.Posix size start end run is = omega (arith, past_end size start end run is)

-- what the plan of a write with some bytes stages; of one with none, nothing
planned : (mode : Mode) (size start len : ℕ) → nat_lt 0 len ≡ true → (plan_of mode size start len).staged ≡ staged_by mode size start (start + len)
planned mode size start len some = rw some refl

unplanned : (mode : Mode) (size start len : ℕ) → nat_lt 0 len ≡ false → (plan_of mode size start len).staged ≡ None
unplanned mode size start len none = rw none refl

run_at_most : (mode : Mode) (size start len : ℕ) (run : ℕ × ℕ) → (plan_of mode size start len).staged ≡ Some run → run.1 ≤ write_need mode size start (start + len) + 1
run_at_most mode size start len run is = elim (cases_Bool (nat_lt 0 len)) [
  | inl some ↦ run_of mode size start (start + len) run (sym (planned mode size start len some) ∙ is)
  | inr none ↦ (let never : false ≡ true = ap is_some (sym (unplanned mode size start len none) ∙ is) in cc)
]

-- room that there is leaves the reserve
leaves_reserve : (all kept_back held unused count need : ℕ) → held + kept_back ≤ all → all ≤ unused + held → need ≤ all - kept_back - held → count ≤ need + 1 → count + kept_back ≤ unused + 1
leaves_reserve all kept_back held unused count need back enough le few = omega (arith, back, enough, le, few)

module _ (held : HeldIsTheSum) where
  pub first_run_fits : FirstRunFits
  first_run_fits v live f numbers s files mode size start len run are leaves room plan =
      leaves_reserve (data_blocks v.geometry) (reserve_for (data_blocks v.geometry)) (sum_by held_by files.sizes) (unused_blocks v) run.1 (write_need mode size start (start + len))
      (leaves_the_reserve v files are held live f numbers s leaves) (unused_at_least v files are) room (run_at_most mode size start len run plan)

  pub first_holes_are_unused : FirstHolesAreUnused
  first_holes_are_unused v live f numbers s files ino first count are leaves file within =
      let unused = unused_with_holes v files are ino first count file within in
      let back = leaves_the_reserve v files are held live f numbers s leaves in
      omega (arith, unused, back)

  pub first_write_fits : FirstWriteFits
  first_write_fits g k t kept lines n s mode size start len wanted_is has run stands fresh ends room plan lacks = by lacks.no_second where
    free : run.1 + reserve_for (data_blocks k.volume.geometry) ≤ free_blocks_in k + 1
    free =
        let fits =
        first_run_fits k.volume (live_claims k.volume kept.claims) (journaled (words_of k.cells)) stands.numbers s kept.files mode size start len run (in_files g k t kept lines n s stands fresh ends)
        (leaves_kept g k t kept lines n s stands) room plan
        in
        let unwaiting = unwaiting-counted (record { volume = k.volume; aside = []; waiting = k.waiting }) refl (stands.order.none_waits stands.unbatched) in
        omega (arith, fits, unwaiting)

    needed : need kept.staging k run.1 ≤ free_blocks_in k
    needed =
        let out : length kept.staging.out ≡ 0 = ap (λ (st : Staged). length st.out) fresh in
        omega (arith, free, out)

    by : LacksSecondWay kept.staging k run.1 → ⊥
    by (inl short) = omega (arith, short, needed)
    by (inr none) = let never : true ≡ false = sym (ap has_empty fresh) ∙ none in cc

  pub first_holes_fit : FirstHolesFit
  first_holes_fit g k t kept lines n s ino first count stands fresh ends file within =
      let unused =
      first_holes_are_unused k.volume (live_claims k.volume kept.claims) (journaled (words_of k.cells)) stands.numbers s kept.files ino first count (in_files g k t kept lines n s stands fresh ends)
      (leaves_kept g k t kept lines n s stands) file within
      in
      let unwaiting = unwaiting-counted (record { volume = k.volume; aside = []; waiting = k.waiting }) refl (stands.order.none_waits stands.unbatched) in
      omega (arith, unused, unwaiting)
