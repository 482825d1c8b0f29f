-- What the parts of a crash ask for, while blocks and lines are put back one after the other.
use Rattle.std.specs.Prelude.{◌≡◌, ◌≢◌, ◌≤◌, ◌<◌, ◌+◌, ◌-◌, ◌*◌, ◌/◌, ◌%◌, ◌++◌, ℕ, suc, Bool, true, false, List, [], ◌∷◌, length, map, AllPairs, refl, if◌then◌else◌}
use Rattle.std.proofs.Common.{arith, ap, ◌∙◌, sym, subst, inl, inr}
use Rattle.file_calls.specs.eof_laws.pm_model.declared.Cell.{Cell}
use Rattle.file_calls.specs.eof_laws.pm_model.Cells.{cell, is_lent}
use Rattle.file_calls.specs.eof_laws.pm_model.Parts.{Part}
use Rattle.in_flight.specs.block_io.Overwrites.{IsInLines}
use Rattle.file_calls.specs.eof_laws.layout_model.declared.lines.Draft.{Draft}
use Rattle.file_calls.specs.eof_laws.layout_model.declared.lines.Kind.TheVariants.{Staging}
use Rattle.file_calls.specs.eof_laws.layout_model.Places.{Geometry, log_line}
use Rattle.in_flight.specs.image_model.Volume.{inode, Volume}
use Rattle.in_flight.specs.file_table.Files.{Files}
use Rattle.in_flight.specs.k_split_model.View.{View}
use Rattle.write_end.proofs.k_split_proofs.LogLaws.{data_beside}
use Rattle.in_flight.specs.k_split.Laps.{IsLogWord}
use Rattle.in_flight.specs.block_io.Lines.{AreFrom, LinesComeBack}
use Rattle.file_calls.specs.eof_laws.list_laws.Members.{In}
use Rattle.file_calls.specs.eof_laws.posix_types.declared.call.Who.{Who}
use Rattle.file_calls.specs.eof_laws.posix_tables.Open.{Tables}
use Rattle.in_flight.specs.staging_files.Keeps.{Staged}
use Rattle.in_flight.specs.live_model.Standing.{JobOut}
use Rattle.in_flight.specs.write_jobs.Jobs.{blocks_of, FilledView, HoldWords, JobView}
use Rattle.write_end.specs.Blocks.{ComeHome}
use Rattle.write_end.proofs.Apart.{has_loans_apart}
use Rattle.write_end.proofs.Jobs.{in_data_block, its_job, sane, staged_of, stood}
use Rattle.in_flight.proofs.CountsCounts.{pairs}
use Rattle.world_view_laws.specs.Handed.{AreOneEach, handed, HaveOtherPlaces, loans_filled, loans_out}
use Rattle.world_view_laws.proofs.Crashing.{acted_home, acted_out, crashed_home, crashed_out, none_handed, of_filled, of_out, place_in}
use Rattle.world_view_laws.proofs.Handing.{each_apart, each_joined, in_behind, in_either}
use Rattle.world_view_laws.specs.Losses.{AreAllOut, AreTwo, KeepsActed, MayCrash}
use Rattle.world_view_laws.specs.Rounds.{IsLeft}
use Rattle.world_view_laws.specs.Views.{calls_out, IsLost, IsLostOut, IsWorldOver, kept_of, WorldView}

-- the loans of a job that is out
record IsOwned (pending : List JobOut) (who : Who) (loans : List Part) : Type 0 where
  pub p : JobOut
  pub there : In p pending
  pub who_is : who ≡ p.who
  pub blocks : blocks_of loans ≡ p.blocks

-- of pairs, by members
pairs_rest : {X : Type 0} (P : X → X → Type 0) (x : X) (xs : List X) → AllPairs P (x ∷ xs) → AllPairs P xs
pairs_rest P x xs two m n d before below = two (suc m) (suc n) d (omega (arith, before)) (omega (arith, below))

in_map : {X Y : Type 0} (f : X → Y) (xs : List X) (x : X) → In x xs → In (f x) (map f xs)
in_map f [] x at = absurd at
in_map f (y ∷ xs) x (inl same) = inl (ap f same)
in_map f (y ∷ xs) x (inr rest) = inr (in_map f xs x rest)

who_out : JobView → Who
who_out job = job.who

module _ (w : WorldView) (staging : Staged) (files : Files) (gone : IsLostOut staging files w) where
  own_each : (who : Who) (loans : List Part) → IsOwned w.pending who loans → AreOneEach loans
  own_each who loans own =
      each_apart loans (has_loans_apart gone.volume w.disk.cells (kept_of w staging files) w.start w.history w.unfinished own.p loans gone.at own.there own.blocks).0

  two_apart : (one two : Who) (xs ys : List Part) → IsOwned w.pending one xs → IsOwned w.pending two ys → one ≢ two → HaveOtherPlaces xs ys
  two_apart one two xs ys own other differ loan loan2 at there same =
      (has_loans_apart gone.volume w.disk.cells (kept_of w staging files) w.start w.history w.unfinished own.p xs gone.at own.there own.blocks).1
      other.p loan.place other.there (λ equal. differ (own.who_is ∙ (sym equal ∙ sym other.who_is)))
      (subst (In loan.place) own.blocks (place_in xs loan at))
      (subst (λ b. In b other.p.blocks) (sym same) (subst (In loan2.place) other.blocks (place_in ys loan2 there)))

  out_each : (rest : List Who) (jobs : List JobView) → ((job : JobView) → In job jobs → IsOwned w.pending job.who job.loans) → AllPairs AreTwo (map (λ (job : JobView). job.who) jobs ++ rest) → AreOneEach (loans_out jobs)
  out_each rest [] owned two = tt
  out_each rest (job ∷ jobs) owned two =
      each_joined job.loans (loans_out jobs) (own_each job.who job.loans (owned job (inl refl)))
      (out_each rest jobs (λ x at. owned x (inr at)) (pairs_rest AreTwo job.who (map (λ (x : JobView). x.who) jobs ++ rest) two))
      (λ loan other at there. (
      let its = of_out jobs other there in
      let apart : job.who ≢ its.0.who = pairs AreTwo job.who (map (λ (x : JobView). x.who) jobs ++ rest) two its.0.who (in_front_who (map (λ (x : JobView). x.who) jobs) rest its.0.who (in_map (λ (x : JobView). x.who) jobs its.0 its.1)) in
      two_apart job.who its.0.who job.loans its.0.loans (owned job (inl refl)) (owned its.0 (inr its.1)) apart loan other at its.2)) where
        in_front_who : (xs ys : List Who) (x : Who) → In x xs → In x (xs ++ ys)
        in_front_who [] ys x at = absurd at
        in_front_who (y ∷ xs) ys x (inl same) = inl same
        in_front_who (y ∷ xs) ys x (inr more) = inr (in_front_who xs ys x more)

  filled_each : (jobs : List FilledView) → ((job : FilledView) → In job jobs → IsOwned w.pending job.who job.loans) → AllPairs AreTwo (map (λ (job : FilledView). job.who) jobs) → AreOneEach (loans_filled jobs)
  filled_each [] owned two = tt
  filled_each (job ∷ jobs) owned two =
      each_joined job.loans (loans_filled jobs) (own_each job.who job.loans (owned job (inl refl)))
      (filled_each jobs (λ x at. owned x (inr at)) (pairs_rest AreTwo job.who (map (λ (x : FilledView). x.who) jobs) two))
      (λ loan other at there. (
      let its = of_filled jobs other there in
      let apart : job.who ≢ its.0.who = pairs AreTwo job.who (map (λ (x : FilledView). x.who) jobs) two its.0.who (in_map (λ (x : FilledView). x.who) jobs its.0 its.1) in
      two_apart job.who its.0.who job.loans its.0.loans (owned job (inl refl)) (owned its.0 (inr its.1)) apart loan other at its.2))

  -- of two lists of pairwise different callers
  behind_two : (xs ys : List Who) → AllPairs AreTwo (xs ++ ys) → AllPairs AreTwo ys
  behind_two [] ys two = two
  behind_two (x ∷ xs) ys two = behind_two xs ys (pairs_rest AreTwo x (xs ++ ys) two)

  between_two : (xs ys : List Who) (x y : Who) → AllPairs AreTwo (xs ++ ys) → In x xs → In y ys → x ≢ y
  between_two [] ys x y two at there = absurd at
  between_two (z ∷ xs) ys x y two (inl same) there = subst (λ v. v ≢ y) same (pairs AreTwo z (xs ++ ys) two y (in_behind xs ys y there))
  between_two (z ∷ xs) ys x y two (inr at) there = between_two xs ys x y (pairs_rest AreTwo z (xs ++ ys) two) at there

  module _ (out : List JobView) (filled : List FilledView) (jobs : AreAllOut w out filled) where
    owned_out : (job : JobView) → In job out → IsOwned w.pending job.who job.loans
    owned_out job at = let is = jobs.each_out job at in record { p = is.0; there = is.1.there; who_is = is.1.who; blocks = is.1.blocks }

    owned_filled : (job : FilledView) → In job filled → IsOwned w.pending job.who job.loans
    owned_filled job at = let is = jobs.each_filled job at in record { p = is.0; there = is.1.there; who_is = is.1.who; blocks = is.1.blocks }

    -- NO TWO LOANS ARE OF ONE BLOCK
    pub handed_each : AreOneEach (handed out filled)
    handed_each =
        each_joined (loans_out out) (loans_filled filled) (out_each (map (λ (job : FilledView). job.who) filled) out owned_out jobs.one_each)
        (filled_each filled owned_filled (behind_two (map (λ (job : JobView). job.who) out) (map (λ (job : FilledView). job.who) filled) jobs.one_each))
        (λ loan other at there. (
        let one = of_out out loan at in
        let two = of_filled filled other there in
        two_apart one.0.who two.0.who one.0.loans two.0.loans (owned_out one.0 one.1) (owned_filled two.0 two.1)
        (between_two (map (λ (job : JobView). job.who) out) (map (λ (job : FilledView). job.who) filled) one.0.who two.0.who jobs.one_each
        (in_map (λ (job : JobView). job.who) out one.0 one.1) (in_map (λ (job : FilledView). job.who) filled two.0 two.1))
        loan other one.2 two.2))

    -- a loan is of a data block, so of no line of the log
    owned_beside : (who : Who) (loans : List Part) (loan : Part) (i : ℕ) → IsOwned w.pending who loans → In loan loans → IsLogWord gone.volume i → i / 512 ≢ loan.place
    owned_beside who loans loan i own at log same =
        let v : Volume = gone.volume in
        let its = its_job v w.disk.cells (kept_of w staging files) w.start w.history w.unfinished gone.at own.p own.there in
        let staged = staged_of v own.p loan.place (gone.at.blocks own.p own.there) (subst (In loan.place) own.blocks (place_in loans loan at)) in
        let kind = subst (λ (d : Draft). (inode v d.staging).kind ≡ Staging) its.draft (stood v w.disk.cells (kept_of w staging files) w.start w.history w.unfinished gone.at its.job its.there).staging in
        let in_data = in_data_block v (sane v w.disk.cells (kept_of w staging files) w.start w.history w.unfinished gone.at) own.p.draft staged.0 loan.place kind staged.2 in
        data_beside v loan.place (i % 512) in_data (omega arith) (subst (IsLogWord v) (omega (arith, same)) log)

    loan_beside : (loan : Part) (i : ℕ) → In loan (handed out filled) → IsLogWord gone.volume i → i / 512 ≢ loan.place
    loan_beside loan i at log = elim (in_either (loans_out out) (loans_filled filled) loan at) [
      | inl one ↦ (let its = of_out out loan one in owned_beside its.0.who its.0.loans loan i (owned_out its.0 its.1) its.2 log)
      | inr one ↦ (let its = of_filled filled loan one in owned_beside its.0.who its.0.loans loan i (owned_filled its.0 its.1) its.2 log)
    ]

    -- THE LOG'S LINES ARE OUT STILL
    pub lines_still_out : (middle : List Cell) → ComeHome (handed out filled) w.disk.cells middle → (i : ℕ) → IsLogWord gone.volume i → is_lent (cell middle i) ≡ true
    lines_still_out middle home i log =
        ap is_lent (home.beside i (λ loan at. loan_beside loan i at log)) ∙ there where
          slot : ℕ
          slot = i / 8 - log_line gone.volume.geometry 0

          place : 8 * log_line gone.volume.geometry slot + i % 8 ≡ i
          place = omega (arith, log.from)

          there : is_lent (cell w.disk.cells i) ≡ true
          there = subst (λ n. is_lent (cell w.disk.cells n) ≡ true) place (gone.at.lines.lent slot (i % 8) (omega (arith, log.from, log.below)) (omega arith))

-- ---- the lines that are put back

-- WHAT PUTTING LINES BACK ASKS FOR
pub record MayPutLines (w : WorldView) (middle : List Cell) (lines : List Part) : Type 0 where
  pub few : length lines ≤ w.geometry.log
  pub places : AreFrom (log_line w.geometry 0) lines
  pub out : (i : ℕ) → IsInLines (log_line w.geometry 0) (length lines) i → is_lent (cell middle i) ≡ true

module _ (k : View) (t : Tables) (staging : Staged) (files : Files) (w : WorldView) (world : IsWorldOver k t staging files w) (off : w.lost ≡ true)
    (lines : List Part) (out : List JobView) (filled : List FilledView) (may : MayCrash w lines out filled) where
  -- no two loans are of one block, whether lines are out or at home
  each_by : (b : Bool) → IsLost staging files w b → AreOneEach (handed out filled)
  each_by true gone = handed_each w staging files gone out filled may.jobs
  each_by false gone = subst (λ (xs : List Part). AreOneEach xs) (sym (none (handed out filled) (λ loan at. none_handed w out filled may.jobs gone.none loan at))) tt where
    none : (xs : List Part) → ((loan : Part) → In loan xs → ⊥) → xs ≡ []
    none [] never = refl
    none (x ∷ xs) never = absurd (never x (inl refl))

  pub handed_apart : AreOneEach (handed out filled)
  handed_apart = each_by w.lines_out (world.gone off)

  module _ (middle : List Cell) (home : ComeHome (handed out filled) w.disk.cells middle) where
    put_by : (b : Bool) → w.lines_out ≡ b → IsLost staging files w b → MayPutLines w middle (if b then lines else w.home)
    put_by true out_now gone =
        let are = (may.lines_are out_now).1.are in
        record {
          few = omega (arith, are.count);
          places = are.places;
          out = λ i at. lines_still_out w staging files gone out filled may.jobs middle home i (record {
            from = subst (λ (g : Geometry). log_line g 0 ≤ i / 8) (sym gone.geometry) at.from;
            below = subst (λ (g : Geometry). i / 8 < log_line g 0 + g.log) (sym gone.geometry) (subst (λ n. i / 8 < log_line w.geometry 0 + n) are.count at.below);
          });
        }
    put_by false out_now gone = record {
      few = gone.few;
      places = gone.places;
      out = λ i at. ap is_lent (home.beside i (λ loan there. absurd (none_handed w out filled may.jobs gone.none loan there))) ∙ gone.out i at;
    }

    -- THE LINES MAY BE PUT BACK
    pub may_put : MayPutLines w middle (if w.lines_out then lines else w.home)
    may_put = put_by w.lines_out refl (world.gone off)

    module _ (holds : (job : FilledView) → In job filled → HoldWords job.loans job.words) (e : List Cell) (size : length e ≡ length middle) where
      -- the lines that are put back come back, and no word of them is lent any more
      abbrev ComeBack : Bool → Type 0
      ComeBack b =
          LinesComeBack (log_line w.geometry 0) (if b then lines else w.home) middle e
          × ((i : ℕ) → IsInLines (log_line w.geometry 0) (length (if b then lines else w.home)) i → is_lent (cell e i) ≡ false)

      left_by : (b : Bool) → w.lines_out ≡ b → ComeBack b → IsLeft w e w.history (calls_out w) × KeepsActed w lines filled e
      left_by true out_now back = (
        crashed_out k t staging files w world off lines out filled may holds middle e home size out_now back.0 back.1,
        acted_out k t staging files w world off lines out filled may holds middle e home size out_now back.0 back.1,
      )
      left_by false out_now back = (
        crashed_home k t staging files w world off lines out filled may holds middle e home size out_now back.0 back.1,
        acted_home k t staging files w world off lines out filled may holds middle e home size out_now back.0 back.1,
      )

      -- WHAT IS LEFT
      pub crash_left : LinesComeBack (log_line w.geometry 0) (if w.lines_out then lines else w.home) middle e
          → ((i : ℕ) → IsInLines (log_line w.geometry 0) (length (if w.lines_out then lines else w.home)) i → is_lent (cell e i) ≡ false) → IsLeft w e w.history (calls_out w) × KeepsActed w lines filled e
      crash_left back lines_home = left_by w.lines_out refl (back, lines_home)
