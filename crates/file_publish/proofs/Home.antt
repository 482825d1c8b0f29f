-- The log lines come home.
use Rattle.std.specs.Prelude.{◌≡◌, ◌≢◌, ◌⊎◌, ◌≤◌, ◌<◌, ◌+◌, ◌-◌, ◌*◌, ◌/◌, ◌%◌, ◌^◌, ℕ, Bool, true, false, List, [], ◌∷◌, refl, if◌then◌else◌}
use Rattle.std.proofs.Common.{append-nil, arith, ap, ◌∙◌, sym, subst, inl, inr}
use Rattle.std.proofs.lemmas.Bool.{both_ways, cases_eq}
use Rattle.live_step_laws.specs.pm_model.declared.Cell.{Cell}
use Rattle.live_step_laws.specs.pm_model.declared.Cell.TheVariants.{Single}
use Rattle.live_step_laws.specs.pm_model.Cells.{cell, has_two, is_lent, is_single, IsCandidate}
use Rattle.live_step_laws.specs.pm_model.Images.{IsImage}
use Rattle.live_step_laws.specs.pm_model.Parts.{Part, put_back}
use Rattle.live_step_laws.specs.pm_model.Words.{Words}
use Rattle.live_step_laws.specs.layout_model.declared.lines.Draft.{Draft}
use Rattle.live_step_laws.specs.layout_model.Journal.{journaled}
use Rattle.live_step_laws.specs.layout_model.Places.{Geometry, log_line}
use Rattle.live_step_laws.specs.image_model.Honest.{IsHonestWith}
use Rattle.live_step_laws.specs.image_model.Volume.{Volume}
use Rattle.live_step_laws.specs.live_model.Flying.{IsOut}
use Rattle.live_step_laws.specs.k_split_model.Stands.{Stands}
use Rattle.live_step_laws.specs.k_split_model.View.{View}
use Rattle.log_checkpoint.proofs.k_split_proofs.LoanLaws.{is_lent-Lent}
use Rattle.log_checkpoint.specs.k_split.Laps.{IsLogWord}
use Rattle.log_checkpoint.specs.k_split.LogLines.{AreLogLines}
use Rattle.log_checkpoint.specs.k_split.Order.{IsInOrder}
use Rattle.log_checkpoint.specs.block_io.Lines.{LinesComeBack}
use Rattle.live_step_laws.specs.list_laws.Members.{In}
use Rattle.live_step_laws.specs.posix_tables.Open.{Tables}
use Rattle.live_step_laws.specs.posix_spec.State.{State}
use Rattle.live_step_laws.specs.world_image_laws.Images.{HasLogHome, IsHeaded, ShowsLog, StandsFor}
use Rattle.live_step_laws.specs.world_image_laws.Back.{IsPutBack}
use Rattle.live_step_laws.specs.world_model.Jobs.{Job}
use Rattle.live_step_laws.specs.world_model.Lines.{AreLinesOut, HoldsWords}
use Rattle.live_step_laws.specs.live_model.Standing.{AreLinesLent, IsQuietBeside, Kept, StandsAt}
use Rattle.live_step_laws.specs.world_image_laws.Flights.{shows_back, small_lap}
use Rattle.file_publish.specs.RoundLinesLaws.{HasTurned, StandsHome, with_cells}
use Rattle.file_publish.proofs.Beside.{agrees-beside, ComesBeside, log-or-not, SameBeside, single-beside, stands-beside}
use Rattle.file_publish.proofs.Out.{no-jobs}

-- a slot is claimed, or it is not
claimed-or-not : (claims : List (ℕ × Draft)) (slot : ℕ) → ((d : Draft) × In (slot, d) claims) ⊎ ((d : Draft) → ¬ In (slot, d) claims)
claimed-or-not [] slot = inr (λ d is. is)
claimed-or-not (c ∷ claims) slot = by (cases_eq c.0 slot) (claimed-or-not claims slot) where
  by : (c.0 ≡ slot) ⊎ (c.0 ≢ slot) → ((d : Draft) × In (slot, d) claims) ⊎ ((d : Draft) → ¬ In (slot, d) claims) → ((d : Draft) × In (slot, d) (c ∷ claims)) ⊎ ((d : Draft) → ¬ In (slot, d) (c ∷ claims))
  by (inl own) rest = inl (c.1, inl (λ i. (own i, c.1)))
  by (inr other) (inl (d, behind)) = inl (d, inr behind)
  by (inr other) (inr none) = inr (λ d is. elim is [
    | inl here ↦ other (ap (λ (x : ℕ × Draft). x.0) here)
    | inr behind ↦ none d behind
  ])

single-is : (c : Cell) (w : ℕ) → c ≡ Single w → is_single c ≡ true
single-is c w is = ap is_single is

not-two : (c : Cell) (w : ℕ) → c ≡ Single w → has_two c ≡ false
not-two c w is = ap has_two is

-- ---- the device with them at home

module _ (v : Volume) (d e : List Cell) (first : Words) (claims : List (ℕ × Draft)) (lines : List Part) (back : ℕ → Cell) (lent : AreLinesLent v d first) (are : AreLogLines v lines)
    (comes : LinesComeBack (log_line v.geometry 0) lines d e) (log_home : (i : ℕ) → IsLogWord v i → is_lent (cell e i) ≡ false) (held : AreLinesOut v (put_back e back) first claims [] []) where
  pub same-home : SameBeside v d e
  same-home i beside = comes.others i (λ at. beside (record { from = at.from; below = omega (arith, at.below, are.count) }))

  -- a word of the log is word j of slot
  slot-below : (i : ℕ) → IsLogWord v i → i / 8 - log_line v.geometry 0 < v.geometry.log
  slot-below i at = omega (arith, at.from, at.below)

  place : (i : ℕ) → IsLogWord v i → 8 * log_line v.geometry (i / 8 - log_line v.geometry 0) + i % 8 ≡ i
  place i at = omega (arith, at.from)

  lent-before : (i : ℕ) → IsLogWord v i → is_lent (cell d i) ≡ true
  lent-before i at = subst (λ m. is_lent (cell d m) ≡ true) (place i at) (lent.lent (i / 8 - log_line v.geometry 0) (i % 8) (slot-below i at) (omega arith))

  pub comes-home : ComesBeside v d e
  comes-home image is = (image, candidate, λ i beside. refl) where
    candidate : IsImage d image
    candidate i = elim (log-or-not v i) [
      | inl at ↦ subst (λ c. IsCandidate c (image i)) (sym (is_lent-Lent (cell d i) (lent-before i at))) tt
      | inr not ↦ subst (λ c. IsCandidate c (image i)) (same-home i not) (is i)
    ]

  -- what is lent still was so before
  pub home-left : (jobs : List Job) → ((i : ℕ) → is_lent (cell d i) ≡ true → IsOut v jobs i) → (i : ℕ) → is_lent (cell e i) ≡ true → IsOut v jobs i
  home-left jobs home i out = elim (log-or-not v i) [
    | inl at ↦ absurd (both_ways (is_lent (cell e i)) (log_home i at) out)
    | inr not ↦ home i (sym (ap is_lent (same-home i not)) ∙ out)
  ]

  -- where no job was out
  module _ (out_before : (i : ℕ) → is_lent (cell d i) ≡ true → IsOut v [] i) where
    -- no word is lent any more
    all-home : (i : ℕ) → is_lent (cell e i) ≡ false
    all-home i = by (is_lent (cell e i)) refl where
      by : (b : Bool) → is_lent (cell e i) ≡ b → b ≡ false
      by false is = refl
      by true is = elim (home-left [] out_before i is) [
        | inl line ↦ absurd (both_ways (is_lent (cell e i)) (log_home i (record { from = omega (arith, line.2); below = omega (arith, line.1, line.2) })) is)
        | inr block ↦ absurd block.1
      ]

    is-back : (i : ℕ) → put_back e back i ≡ cell e i
    is-back i = ap (λ (b : Bool). if b then back i else cell e i) (all-home i)

    -- each log line has its words alone
    holds : (slot : ℕ) → slot < v.geometry.log → (words : Words) × HoldsWords (put_back e back) words (log_line v.geometry slot)
    holds slot below = elim (claimed-or-not claims slot) [
      | inl claimed ↦ (let its = held.claimed slot claimed.0 claimed.1 in (its.entry, its.holds))
      | inr free ↦ (first, held.others slot below free (λ taken. taken))
    ]

    log-single : (i : ℕ) → IsLogWord v i → is_single (cell e i) ≡ true
    log-single i at =
        let slot : ℕ = i / 8 - log_line v.geometry 0 in
        let its = holds slot (slot-below i at) in
        ap is_single (sym (is-back i)) ∙ subst (λ m. is_single (put_back e back m) ≡ true) (place i at) (single-is (put_back e back (8 * log_line v.geometry slot + i % 8)) (its.0 (8 * log_line v.geometry slot + i % 8)) (its.1 (i % 8) (omega arith)))

    honest : (image : Words) → IsHonestWith v.geometry e back image
    honest image slot below torn =
        let its = holds slot below in
        absurd (both_ways (has_two (put_back e back (8 * log_line v.geometry slot + torn.some.0)))
        (not-two (put_back e back (8 * log_line v.geometry slot + torn.some.0)) (its.0 (8 * log_line v.geometry slot + torn.some.0)) (its.1 torn.some.0 torn.some.1)) torn.some.2)

    -- each image is one of the lines put back
    put-home : (image : Words) → IsImage e image → IsPutBack v e back first claims [] [] image
    put-home image is = record { lines = held; image_is = λ i. subst (λ c. IsCandidate c (image i)) (sym (is-back i)) (is i); honest = honest image; filled = tt }

    -- IT SHOWS THE CLAIMS.
    pub shows-home : (image : Words) → IsImage e image → IsHeaded v.geometry image → v.base + v.geometry.log ≤ 2 ^ 64 → ShowsLog v claims (journaled image)
    shows-home image is headed small =
        subst (λ cs. ShowsLog v cs (journaled image)) (append-nil claims) (shows_back v e claims [] back first [] image headed small (put-home image is)).log

    pub quiet-home : (g : Geometry) → IsQuietBeside g d → IsQuietBeside g e
    quiet-home g quiet i journal line home_now = elim (log-or-not v i) [
      | inl at ↦ log-single i at
      | inr not ↦ ap is_single (same-home i not) ∙ quiet i journal line (sym (ap is_lent (same-home i not)) ∙ home_now)
    ]

module _ (g : Geometry) (k : View) (t : Tables) (kept : Kept) (n : ℕ) (s : State) (e : List Cell) (lines : List Part) (back : ℕ → Cell) (stands : StandsAt g k t kept true n s) (none : kept.pending ≡ [])
    (order : IsInOrder (with_cells k e)) (are : AreLogLines k.volume lines) (comes : LinesComeBack (log_line k.volume.geometry 0) lines k.cells e) (log_home : (i : ℕ) → IsLogWord k.volume i → is_lent (cell e i) ≡ false)
    (held : AreLinesOut k.volume (put_back e back) kept.first kept.claims [] []) where
  none-out : stands.jobs ≡ []
  none-out = no-jobs kept.pending stands.jobs stands.jobs_are none

  same : SameBeside k.volume k.cells e
  same = same-home k.volume k.cells e kept.first kept.claims lines back stands.lines are comes log_home held

  out-before : (i : ℕ) → is_lent (cell k.cells i) ≡ true → IsOut k.volume [] i
  out-before i lent = subst (λ (jobs : List Job). IsOut k.volume jobs i) none-out (stands.flying.home i lent)

  device : StandsFor k.volume e kept.claims stands.jobs stands.numbers s stands.count
  device =
      stands-beside k.volume k.cells e kept.claims stands.jobs stands.numbers s stands.count stands.flying.device (subst (λ u. Stands u.geometry u e) (order.settled stands.unbatched) order.stands)
      (comes-home k.volume k.cells e kept.first kept.claims lines back stands.lines are comes log_home held)

  log-home : HasLogHome k.volume e kept.claims
  log-home image is =
      shows-home k.volume k.cells e kept.first kept.claims lines back stands.lines are comes log_home held out-before image is (device.headed image is)
      (small_lap k.volume e kept.claims stands.jobs stands.numbers s stands.count image device is)

  pub has-come-home : HasTurned g k t kept kept true false n s e stands
  has-come-home = record {
    now = record {
      count = stands.count;
      few = stands.few;
      numbers = stands.numbers;
      jobs = stands.jobs;
      jobs_are = stands.jobs_are;
      order = order;
      unbatched = stands.unbatched;
      on = stands.on;
      geometry = stands.geometry;
      flying = record {
        device = device;
        whole = stands.flying.whole;
        out = λ j is. absurd (subst (In j) none-out is);
        home = home-left k.volume k.cells e kept.first kept.claims lines back stands.lines are comes log_home held stands.jobs stands.flying.home;
        overlays = stands.flying.overlays;
      };
      lines = (none, log-home);
      quiet = quiet-home k.volume k.cells e kept.first kept.claims lines back stands.lines are comes log_home held out-before g stands.quiet;
      blocks = stands.blocks;
      callers = stands.callers;
      spare = stands.spare;
      tables = stands.tables;
      open_are_files = stands.open_are_files;
      ordered = stands.ordered;
      sizes = stands.sizes;
      bare = stands.bare;
      staged = stands.staged;
      agrees = agrees-beside k e kept.staging stands.order.whole same stands.agrees;
      free_single = single-beside k e kept.staging stands.order.whole same stands.free_single;
      drafts = stands.drafts;
      low = stands.low;
      claims_out = stands.claims_out;
      jobs_out = stands.jobs_out;
      owed = stands.owed;
    };
    jobs_are = refl;
    numbers_are = refl;
  }

pub stands-home : StandsHome
stands-home g k t kept n s e lines back stands none order are comes log_home held = has-come-home g k t kept n s e lines back stands none order are comes log_home held
