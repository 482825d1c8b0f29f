-- The blocks of a job are back: what holds of the device.
use Rattle.std.proofs.Common.{◌≡◌, ◌≢◌, ◌⊎◌, ◌<◌, ◌+◌, ◌*◌, ◌/◌, ◌%◌, ◌++◌, ◌∷◌, [], ℕ, Bool, true, false, List, length, Some, refl, arith, ap, ◌∙◌, sym, subst, inl, inr}
use Rattle.std.proofs.lemmas.Bool.{both_ways}
use Rattle.in_place.specs.write_plan.pm_model.declared.Cell.{Cell}
use Rattle.in_place.specs.write_plan.pm_model.CellLaws.{single-home}
use Rattle.in_place.specs.write_plan.pm_model.Cells.{cell, is_lent, is_single, unmarked}
use Rattle.in_place.specs.write_plan.layout_model.PlaceLaws.{regions_apart}
use Rattle.in_place.specs.write_plan.layout_model.Places.{Geometry, is_data_block, IsGeometry, log_line}
use Rattle.in_place.specs.live_model.write_jobs.world_image_laws.image_model.Rules.{file_blocks_of}
use Rattle.in_place.specs.live_model.write_jobs.world_image_laws.image_model.Volume.{extents, inode}
use Rattle.in_place.specs.live_model.write_jobs.world_image_laws.extent_model.Covers.{covers-disk_at}
use Rattle.in_place.specs.write_plan.extent_model.Extents.{disk_at}
use Rattle.in_place.specs.live_model.write_jobs.world_image_laws.volume_laws.PoolLaws.{covered-in_data}
use Rattle.in_place.specs.live_model.write_jobs.world_image_laws.k_split_model.View.{View}
use Rattle.in_place.specs.write_plan.list_laws.Members.{In}
use Rattle.in_place.specs.live_model.staging_files.Keeps.{Agrees, AreFreeSingle, Staged}
use Rattle.in_place.specs.live_model.write_jobs.world_image_laws.world_model.Jobs.{IsStagedIn, Job, staged_block}
use Rattle.in_place.specs.live_model.write_jobs.Jobs.{FilledView, HoldWords, loan_at}
use Rattle.in_place.specs.live_model.write_jobs.Loans.{ComeBack}
use Rattle.in_place.specs.live_model.Flying.{IsOut}
use Rattle.in_place.proofs.live_model_proofs.FlightsFlights.{others_out}
use Rattle.in_place.specs.live_model.Standing.{AreLinesLent, file_state, IsQuietBeside, Kept}
use Rattle.write_end.specs.Ends.{HasJob}
use Rattle.write_end.proofs.Ending.{claims, flying, j, loans_count, loans_out, numbers, place_is, places, put_back, split, staging_below, stood, v, valid, world}

-- a line of the log lies before the data blocks
line_apart : (g : Geometry) (b slot i : ℕ) → IsGeometry g → slot < g.log → i / 8 ≡ log_line g slot → is_data_block g b ≡ true → i / 512 ≢ b
line_apart g b slot i ok below at in_data same =
    let apart = regions_apart g ok in
    let line = apart.log slot below in
    let bounds = apart.data_parts b in_data in
    omega (arith, line.from, line.below, bounds.0, at, same)

-- one of these or of the others
pub split_in : (a : List Job) (i : Job) (b : List Job) (x : Job) → In x (a ++ i ∷ b) → (i ≡ x) ⊎ In x (a ++ b)
split_in [] i b x is = is
split_in (y ∷ a) i b x (inl same) = inr (inl same)
split_in (y ∷ a) i b x (inr rest) = elim (split_in a i b x rest) [ inl own ↦ inl own | inr other ↦ inr (inr other) ]

module _ (k : View) (job : FilledView) (has : HasJob k job) (e : List Cell) (back : ComeBack job.loans k.cells e) (hold : HoldWords job.loans job.words) where
  -- a word that was not lent stays
  pub still : (i : ℕ) → is_lent (cell k.cells i) ≡ false → cell e i ≡ cell k.cells i
  still i home = back.beside i (λ n below at. both_ways (is_lent (cell k.cells i)) home (loans_out k job has n i below at))

  pub home_still : (i : ℕ) → is_lent (cell k.cells i) ≡ false → is_lent (cell e i) ≡ false
  home_still i home = ap is_lent (still i home) ∙ home

  pub single_still : (i : ℕ) → is_single (cell k.cells i) ≡ true → is_single (cell e i) ≡ true
  single_still i single = ap is_single (still i (single-home (cell k.cells i) single)) ∙ single

  -- a word of a block of the job has one candidate now
  pub own_single : (i : ℕ) → IsStagedIn (v k job has) (j k job has).draft (i / 512) → is_single (cell e i) ≡ true
  own_single i (n, below, at) =
      let within : n < length job.loans = omega (arith, below, loans_count k job has) in
      let there : i / 512 ≡ (loan_at job.loans n).place = place_is k job has n (i / 512) below at in
      ap is_single (back.words n i within there ∙ ap unmarked (hold n (i % 512) within (omega arith)))

  in_data : (n b : ℕ) → staged_block (v k job has) (j k job has).draft n ≡ Some b → is_data_block (v k job has).geometry b ≡ true
  in_data n b at =
      let sane = (valid k job has).stands.sane in
      let d = (j k job has).draft in
      covered-in_data (v k job has).geometry (file_blocks_of (inode (v k job has) d.staging).kind) (extents (v k job has) d.staging) b
      (sane.kept.in_data d.staging (omega (arith, staging_below (v k job has) d.staging (stood k job has).staging, sane.inode_count)))
      (covers-disk_at (extents (v k job has) d.staging) (d.staging_block + n) b at)

  -- the log lines are out still
  pub line_out : (slot i : ℕ) → slot < (v k job has).geometry.log → i / 8 ≡ log_line (v k job has).geometry slot → is_lent (cell k.cells i) ≡ true → is_lent (cell e i) ≡ true
  line_out slot i below at lent =
      ap is_lent (back.beside i (λ n within place. (
      let short : n < (j k job has).draft.count = omega (arith, within, loans_count k job has) in
      line_apart (v k job has).geometry (loan_at job.loans n).place slot i (world k job has).geometry below at (in_data n (loan_at job.loans n).place (places k job has n short)) place)))
      ∙ lent

  pub lines_still : (kept : Kept) → kept.first ≡ has.kept.first → AreLinesLent (v k job has) k.cells has.kept.first → AreLinesLent (v k job has) e kept.first
  lines_still kept first lines = subst (AreLinesLent (v k job has) e) (sym first) (record {
    lent = λ slot n below word. line_out slot (8 * log_line (v k job has).geometry slot + n) below (omega (arith, word)) (lines.lent slot n below word);
    old = lines.old;
  })

  -- all that is not lent and no journaled line is quiet still
  pub quiet_still : IsQuietBeside (v k job has).geometry k.cells → IsQuietBeside (v k job has).geometry e
  quiet_still quiet i journal line home = by (is_lent (cell k.cells i)) refl where
    by_out : is_lent (cell k.cells i) ≡ true → IsOut (v k job has) ((split k job has).a ++ j k job has ∷ (split k job has).b) i → is_single (cell e i) ≡ true
    by_out was (inl log) = absurd (both_ways (is_lent (cell e i)) home (line_out log.0 i log.1 log.2 was))
    by_out was (inr block) = elim (split_in (split k job has).a (j k job has) (split k job has).b block.0 block.1) [
      | inl same ↦ own_single i (subst (λ (x : Job). IsStagedIn (v k job has) x.draft (i / 512)) (sym same) block.2)
      | inr other ↦
          let lent =
          others_out (v k job has) k.cells e (claims k job has) (split k job has).a (j k job has) (split k job has).b (file_state has.kept.files) (numbers k job has) has.s has.stands.count job.loans (flying k job has)
          (put_back k job has e back) block.0 other block.2.0 (i / 512) i block.2.1 block.2.2 refl
          in
          absurd (both_ways (is_lent (cell e i)) home lent)
    ]

    by : (c : Bool) → is_lent (cell k.cells i) ≡ c → is_single (cell e i) ≡ true
    by true was = by_out was ((flying k job has).home i was)
    by false was = single_still i (quiet i journal line was)

  -- what the staging keeps is at home still
  module _ (l : View) (same : l ≡ record k { cells = e }) where
    same_extents : (x : ℕ) → extents l.volume x ≡ extents k.volume x
    same_extents x = ap (λ (w : View). extents w.volume x) same

    pub agrees_still : (staging : Staged) → Agrees staging k → Agrees staging l
    agrees_still staging agrees = record {
      free = λ x b is free.
          let was = agrees.free x b is free in
          record {
            disk = was.disk;
            at = ap (λ es. disk_at es b) (same_extents x) ∙ was.at;
            home = λ i word. ap (λ (w : View). is_lent (cell w.cells i)) same ∙ home_still i (was.home i word);
          };
      empty = λ x is empty. same_extents x ∙ agrees.empty x is empty;
    }

    pub free_single_still : (staging : Staged) → AreFreeSingle staging k → AreFreeSingle staging l
    free_single_still staging single x b is free disk i at word =
        ap (λ (w : View). is_single (cell w.cells i)) same
        ∙ single_still i (single x b is free disk i (ap (λ es. disk_at es b) (sym (same_extents x)) ∙ at) word)
