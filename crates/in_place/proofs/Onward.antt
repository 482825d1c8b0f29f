-- One piece behind others: the call comes further by both.
use Rattle.std.specs.Prelude.{◌≡◌, ◌⊎◌, ◌≤◌, ◌<◌, ◌+◌, ◌*◌, ◌-◌, ◌/◌, ◌%◌, ℕ, nat_lt, cond, Bool, true, false, List, [], length, take, drop, slice_index, slice_range, refl}
use Rattle.std.proofs.Common.{arith, ap, ◌∙◌, sym, subst, inl, inr}
use Rattle.std.proofs.lemmas.Bool.{cases_lt}
use Rattle.std.proofs.lemmas.Bool.Decides.{nat_tests}
use Rattle.std.proofs.lemmas.Grind.{same_number_lists}
use Rattle.std.proofs.Math.Seq.{take-length}
use Rattle.std.proofs.lemmas.List.{get_or-drop, get_or-take, length-drop, length-take, length-take-le}
use Rattle.live_step_laws.specs.pm_model.declared.Cell.{Cell}
use Rattle.live_step_laws.specs.pm_model.ImageLaws.{Follows-then}
use Rattle.live_step_laws.specs.pm_model.Images.{Follows, Follows-same, Follows-weaken, Then}
use Rattle.live_step_laws.specs.pm_model.PowerLaws.{Steps-none, Steps-then}
use Rattle.live_step_laws.specs.pm_model.Powers.{is_on, Steps, Supply}
use Rattle.live_step_laws.specs.pm_model.Words.{Words}
use Rattle.live_step_laws.specs.block_io.Overwrites.{blocks_reached}
use Rattle.live_step_laws.specs.layout_model.declared.lines.Draft.{Draft}
use Rattle.live_step_laws.specs.image_model.Content.{disk_of}
use Rattle.live_step_laws.specs.k_split_model.View.{View}
use Rattle.live_step_laws.specs.list_laws.Members.{In}
use Rattle.live_step_laws.specs.crash_spec.Sync.{file_bytes, IsPartOf}
use Rattle.live_step_laws.specs.live_model.file_table.Files.{Files}
use Rattle.live_step_laws.specs.posix_laws.FitsLaws.{length-overwritten}
use Rattle.live_step_laws.specs.posix_tables.Open.{Tables}
use Rattle.live_step_laws.specs.world_model.Jobs.{live_claims}
use Rattle.live_step_laws.specs.world_model.Stands.{is_used, number}
use Rattle.live_step_laws.specs.world_model.TreeRules.{used_below}
use Rattle.live_step_laws.specs.world_step_laws.Parts.{FliesWith}
use Rattle.live_step_laws.specs.k_split_laws.k_journal.Commits.{TakesAStep}
use Rattle.live_step_laws.specs.k_split_laws.Left.{IsLeftOf}
use Rattle.live_step_laws.proofs.k_split_laws_proofs.Cuts.{left_through}
use Rattle.posix_laws.proofs.ByteLaws.{index-overwritten}
use Rattle.posix_laws.specs.posix_tables.Bytes.{overwritten}
use Rattle.in_place.specs.Placing.{CanPlace, LosesPlacing, Places, PlacesOn, Placing, SameBeside}
use Rattle.in_place.proofs.Piece.{found_in_log, steps_more}

-- ---- bytes written over others

below_is : (i n : ℕ) → i < n → nat_lt i n ≡ true
below_is i n low = grind (arith, nat_tests, low)

not_below : (i n : ℕ) → n ≤ i → nat_lt i n ≡ false
not_below i n high = grind (arith, nat_tests, high)

over_by : (now bytes : List ℕ) (at i : ℕ) (a b : Bool) → nat_lt i at ≡ a → nat_lt i (at + length bytes) ≡ b → slice_index (overwritten now at bytes) i ≡ cond a (slice_index now i) (cond b (slice_index bytes (i - at)) (slice_index now i))
over_by now bytes at i a b one two = index-overwritten now at bytes i ∙ (λ k. cond (one k) (slice_index now i) (cond (two k) (slice_index bytes (i - at)) (slice_index now i)))

over_front : (now bytes : List ℕ) (at i : ℕ) → i < at → slice_index (overwritten now at bytes) i ≡ slice_index now i
over_front now bytes at i low = over_by now bytes at i true true (below_is i at low) (below_is i (at + length bytes) (omega (arith, low)))

over_in : (now bytes : List ℕ) (at i : ℕ) → at ≤ i → i < at + length bytes → slice_index (overwritten now at bytes) i ≡ slice_index bytes (i - at)
over_in now bytes at i from to = over_by now bytes at i false true (not_below i at from) (below_is i (at + length bytes) to)

over_past : (now bytes : List ℕ) (at i : ℕ) → at + length bytes ≤ i → slice_index (overwritten now at bytes) i ≡ slice_index now i
over_past now bytes at i past = over_by now bytes at i false false (not_below i at (omega (arith, past))) (not_below i (at + length bytes) past)

over_long : (now bytes : List ℕ) (at : ℕ) → at + length bytes ≤ length now → length (overwritten now at bytes) ≡ length now
over_long now bytes at within = let size = length-overwritten now at bytes in omega (arith, size, within)

-- bytes of the whole are a part of it still
part_over : (old whole now bytes : List ℕ) (at : ℕ) → IsPartOf old whole now → at + length bytes ≤ length now → ((i : ℕ) → i < length bytes → slice_index whole (at + i) ≡ slice_index bytes i) → IsPartOf old whole (overwritten now at bytes)
part_over old whole now bytes at part within puts = record { size = over_long now bytes at within ∙ part.size; each = each } where
  kept : (i : ℕ) → i < length now → slice_index (overwritten now at bytes) i ≡ slice_index now i → (slice_index (overwritten now at bytes) i ≡ slice_index whole i) ⊎ ((i < length old) × (slice_index (overwritten now at bytes) i ≡ slice_index old i))
  kept i low is = elim (part.each i low) [ inl new ↦ inl (is ∙ new) | inr was ↦ inr (was.0, is ∙ was.1) ]

  each : (i : ℕ) → i < length (overwritten now at bytes) → (slice_index (overwritten now at bytes) i ≡ slice_index whole i) ⊎ ((i < length old) × (slice_index (overwritten now at bytes) i ≡ slice_index old i))
  each i below =
      let long = over_long now bytes at within in
      let low : i < length now = omega (arith, below, long) in
      elim (cases_lt i at) [
        | inl front ↦ kept i low (over_front now bytes at i front)
        | inr from ↦ elim (cases_lt i (at + length bytes)) [
          | inl to ↦
              let place : at + (i - at) ≡ i = omega (arith, from) in
              inl (over_in now bytes at i from to ∙ (sym (puts (i - at) (omega (arith, from, to))) ∙ ap (slice_index whole) place))
          | inr past ↦ kept i low (over_past now bytes at i past)
        ]
      ]

-- the bytes have these two parts at their front
pub record HasFront (a b c : List ℕ) : Type 0 where
  pub size : length a + length b ≤ length c
  pub first : (i : ℕ) → i < length a → slice_index a i ≡ slice_index c i
  pub then : (i : ℕ) → i < length b → slice_index b i ≡ slice_index c (length a + i)

pub front_of : (bytes : List ℕ) (done count : ℕ) → done + count ≤ length bytes → HasFront (take done bytes) (take count (drop done bytes)) bytes
front_of bytes done count fits =
    let one : length (take done bytes) ≡ done = length-take-le done bytes (omega (arith, fits)) in
    let two : length (take count (drop done bytes)) ≡ count = (let long = length-take count (drop done bytes) in let rest = length-drop done bytes in omega (arith, long, rest, fits)) in
    record {
      size = omega (arith, one, two, fits);
      first = λ i low. get_or-take done bytes i 0 (omega (arith, low, one));
      then = λ i low. get_or-take count (drop done bytes) i 0 (omega (arith, low, two)) ∙ (get_or-drop done bytes i 0 ∙ ap (λ n. slice_index bytes (n + i)) (sym one));
    }

-- over by one after the other is over by both
twice : (now a b c : List ℕ) (at : ℕ) → HasFront a b c → length c ≡ length a + length b → at + length c ≤ length now → overwritten (overwritten now at a) (at + length a) b ≡ overwritten now at c
twice now a b c at has long within = same_number_lists (overwritten (overwritten now at a) (at + length a) b) (overwritten now at c) same_length each where
  one_long : length (overwritten now at a) ≡ length now
  one_long = over_long now a at (omega (arith, within, long))

  two_long : length (overwritten (overwritten now at a) (at + length a) b) ≡ length now
  two_long = over_long (overwritten now at a) b (at + length a) (omega (arith, within, long, one_long)) ∙ one_long

  same_length : length (overwritten (overwritten now at a) (at + length a) b) ≡ length (overwritten now at c)
  same_length = two_long ∙ sym (over_long now c at within)

  each : (i : ℕ) → i < length (overwritten (overwritten now at a) (at + length a) b) → slice_index (overwritten (overwritten now at a) (at + length a) b) i ≡ slice_index (overwritten now at c) i
  each i below = elim (cases_lt i at) [
    | inl front ↦ over_front (overwritten now at a) b (at + length a) i (omega (arith, front)) ∙ (over_front now a at i front ∙ sym (over_front now c at i front))
    | inr from ↦ elim (cases_lt i (at + length a)) [
      | inl in_a ↦
          over_front (overwritten now at a) b (at + length a) i in_a
          ∙ (over_in now a at i from in_a ∙ (has.first (i - at) (omega (arith, from, in_a)) ∙ sym (over_in now c at i from (omega (arith, in_a, long)))))
      | inr past_a ↦ elim (cases_lt i (at + length a + length b)) [
        | inl in_b ↦
            let place : length a + (i - (at + length a)) ≡ i - at = omega (arith, past_a) in
            over_in (overwritten now at a) b (at + length a) i past_a in_b
            ∙ (has.then (i - (at + length a)) (omega (arith, past_a, in_b)) ∙ (ap (slice_index c) place ∙ sym (over_in now c at i from (omega (arith, in_b, long)))))
        | inr past ↦
            over_past (overwritten now at a) b (at + length a) i past
            ∙ (over_past now a at i past_a ∙ sym (over_past now c at i (omega (arith, past, long))))
      ]
    ]
  ]

-- ---- the call, as far as it came

abbrev with_cells : View → List Cell → View
with_cells k cells = record k { cells = cells }

module _ (k : View) (d : List Cell) (files : Files) (ino at : ℕ) (a b c : List ℕ) (has : HasFront a b c) (first : Places k (with_cells k d) files ino at a) where
  abbrev goes : (t : Tables) (now : List ℕ) (p : Placing k t files ino now) → at + length c ≤ length now → ((i : ℕ) → i < length c → slice_index p.f.whole (at + i) ≡ slice_index c i) → PlacesOn k t files ino now p (with_cells k d) (overwritten now at a)
  goes t now p within puts = first.goes_on t now p (omega (arith, within, has.size)) (λ i low. puts i (omega (arith, low, has.size)) ∙ sym (has.first i low))

  abbrev next : (t : Tables) (now : List ℕ) (p : Placing k t files ino now) → at + length c ≤ length now → ((i : ℕ) → i < length c → slice_index p.f.whole (at + i) ≡ slice_index c i) → Placing (with_cells k d) t files ino (overwritten now at a)
  next t now p within puts = record {
    g = p.g;
    kept = p.kept;
    n = p.n;
    s = p.s;
    sync = p.sync;
    f = p.f;
    stands = (goes t now p within puts).stands;
    file = p.file;
    node = p.node ∙ ap (λ ns. number ns ino) (sym (goes t now p within puts).numbers_are);
    others = λ j is. p.others j (subst (In j) (goes t now p within puts).jobs_are is);
    flies =
        subst (λ ns. FliesWith p.s p.f ns (goes t now p within puts).stands.jobs) (sym (goes t now p within puts).numbers_are)
        (subst (FliesWith p.s p.f p.stands.numbers) (sym (goes t now p within puts).jobs_are) p.flies);
    part = part_over (file_bytes p.s p.f.node) p.f.whole now a at p.part (omega (arith, within, has.size)) (λ i low. puts i (omega (arith, low, has.size)) ∙ sym (has.first i low));
  }

  within_then : (now : List ℕ) → at + length c ≤ length now → at + length a + length b ≤ length (overwritten now at a)
  within_then now within = let long = over_long now a at (omega (arith, within, has.size)) in omega (arith, within, long, has.size)

  puts_then : (whole : List ℕ) → ((i : ℕ) → i < length c → slice_index whole (at + i) ≡ slice_index c i) → (i : ℕ) → i < length b → slice_index whole (at + length a + i) ≡ slice_index b i
  puts_then whole puts i low =
      let place : at + length a + i ≡ at + (length a + i) = omega arith in
      ap (slice_index whole) place ∙ (puts (length a + i) (omega (arith, low, has.size)) ∙ sym (has.then i low))

  -- so the next piece may be written
  pub can_next : CanPlace k files ino at c → CanPlace (with_cells k d) files ino (at + length a) b
  can_next can = record {
    t = can.t;
    now = overwritten can.now at a;
    placing = next can.t can.now can.placing can.within can.puts;
    short = omega (arith, can.short, has.size);
    fits = omega (arith, can.fits, has.size);
    within = within_then can.now can.within;
    puts = puts_then can.placing.f.whole can.puts;
    present = λ i from to. can.present i (omega (arith, from)) (omega (arith, to, has.size));
  }

  module _ (can : CanPlace k files ino at c) (m : View) where
    abbrev then_placing : Placing (with_cells k d) can.t files ino (overwritten can.now at a)
    then_placing = next can.t can.now can.placing can.within can.puts

    -- what the second leaves, in the words of each
    beside_both : (t : Tables) (now : List ℕ) (p : Placing k t files ino now) → Follows (SameBeside k.volume (live_claims k.volume can.placing.kept.claims) ino (at + length a) (length b)) d m.cells
        → Follows (SameBeside k.volume (live_claims k.volume p.kept.claims) ino at (length c)) k.cells m.cells
    beside_both t now p second =
        Follows-weaken (Then (SameBeside k.volume live ino at (length a)) (SameBeside k.volume (live_claims k.volume can.placing.kept.claims) ino (at + length a) (length b))) (SameBeside k.volume live ino at (length c)) k.cells m.cells both
        (Follows-then (SameBeside k.volume live ino at (length a)) (SameBeside k.volume (live_claims k.volume can.placing.kept.claims) ino (at + length a) (length b)) k.cells d m.cells (λ i lent. first.lent i ∙ lent) (first.beside t now p) second)
      where
        live : List Draft
        live = live_claims k.volume p.kept.claims

        same : (block : ℕ) → disk_of k.volume live ino block ≡ disk_of k.volume (live_claims k.volume can.placing.kept.claims) ino block
        same block = sym (found_in_log k files ino at 0 t now p block) ∙ found_in_log k files ino at 0 can.t can.now can.placing block

        both : (before image : Words) → Then (SameBeside k.volume live ino at (length a)) (SameBeside k.volume (live_claims k.volume can.placing.kept.claims) ino (at + length a) (length b)) before image
            → SameBeside k.volume live ino at (length c) before image
        both before image (middle, one, two) x i there low none =
            two x i there low (λ j below is.
            let place : at + length a + j ≡ at + (length a + j) = omega arith in
            none (length a + j) (omega (arith, below, has.size)) (ap (λ n. disk_of k.volume live ino (n / 4096)) (sym place) ∙ (same ((at + length a + j) / 4096) ∙ is)))
            ∙ one x i there low (λ j below. none j (omega (arith, below, has.size)))

    pub placed_both : length c ≡ length a + length b → Places (with_cells k d) m files ino (at + length a) b → Places k m files ino at c
    placed_both long second = record {
      same = second.same;
      size = second.size ∙ first.size;
      lent = λ i. second.lent i ∙ first.lent i;
      singles = λ i is. second.singles i (first.singles i is);
      beside = λ t now p. beside_both t now p (second.beside can.t (overwritten can.now at a) then_placing);
      goes_on = λ t now p within puts.
          let on = second.goes_on t (overwritten now at a) (next t now p within puts) (within_then now within) (puts_then p.f.whole puts) in
          subst (λ bs. PlacesOn k t files ino now p m bs) (twice now a b c at has long within)
          (record { stands = on.stands; jobs_are = on.jobs_are ∙ (goes t now p within puts).jobs_are; numbers_are = on.numbers_are ∙ (goes t now p within puts).numbers_are });
    }

    pub loses_both : LosesPlacing (with_cells k d) m files ino (at + length a) b → LosesPlacing k m files ino at c
    loses_both second = record {
      off = second.off;
      left = λ t now p.
          subst (λ g. IsLeftOf g k.cells m.cells) (sym can.placing.stands.geometry ∙ p.stands.geometry)
          (left_through can.placing.g k.cells d m.cells first.size first.lent (second.left can.t (overwritten can.now at a) then_placing));
      beside = λ t now p. beside_both t now p (second.beside can.t (overwritten can.now at a) then_placing);
      kept = λ t now p start history x y state jobs within puts.
          second.kept t (overwritten now at a) (next t now p within puts) start history x y state ((goes t now p within puts).jobs_are ∙ jobs) (within_then now within) (puts_then p.f.whole puts);
    }

-- ---- a front of the bytes

front_in : (bytes : List ℕ) (done count : ℕ) → done + count ≤ length bytes → HasFront (take done bytes) (take count (drop done bytes)) (take (done + count) bytes)
front_in bytes done count fits =
    let has = front_of bytes done count fits in
    let one : length (take done bytes) ≡ done = length-take-le done bytes (omega (arith, fits)) in
    let two : length (take count (drop done bytes)) ≡ count = (let long = length-take count (drop done bytes) in let rest = length-drop done bytes in omega (arith, long, rest, fits)) in
    let both : length (take (done + count) bytes) ≡ done + count = length-take-le (done + count) bytes fits in
    record {
      size = omega (arith, one, two, both);
      first = λ i low. has.first i low ∙ sym (get_or-take (done + count) bytes i 0 (omega (arith, low, one)));
      then = λ i low. has.then i low ∙ sym (get_or-take (done + count) bytes (length (take done bytes) + i) 0 (omega (arith, low, one, two)));
    }

can_front : (k : View) (files : Files) (ino at n : ℕ) (bytes : List ℕ) → n ≤ length bytes → CanPlace k files ino at bytes → CanPlace k files ino at (take n bytes)
can_front k files ino at n bytes fits can =
    let long : length (take n bytes) ≡ n = length-take-le n bytes fits in
    record {
      t = can.t;
      now = can.now;
      placing = can.placing;
      short = omega (arith, can.short, long, fits);
      fits = omega (arith, can.fits, long, fits);
      within = omega (arith, can.within, long, fits);
      puts = λ i low. can.puts i (omega (arith, low, long, fits)) ∙ sym (get_or-take n bytes i 0 (omega (arith, low, long)));
      present = λ i from to. can.present i from (omega (arith, to, long, fits));
    }

-- nothing is written yet
none_over : (now : List ℕ) (at : ℕ) → at + 0 ≤ length now → overwritten now at [] ≡ now
none_over now at within = same_number_lists (overwritten now at []) now (over_long now [] at within) each where
  each : (i : ℕ) → i < length (overwritten now at []) → slice_index (overwritten now at []) i ≡ slice_index now i
  each i below = elim (cases_lt i at) [ inl front ↦ over_front now [] at i front | inr from ↦ over_past now [] at i (omega (arith, from)) ]

pub places_none : (k : View) (files : Files) (ino at : ℕ) → Places k k files ino at []
places_none k files ino at = record {
  same = refl;
  size = refl;
  lent = λ i. refl;
  singles = λ i is. is;
  beside = λ t now p. Follows-same (SameBeside k.volume (live_claims k.volume p.kept.claims) ino at 0) k.cells (λ f b i there low none. refl);
  goes_on = λ t now p within puts. subst (PlacesOn k t files ino now p k) (sym (none_over now at within)) (record { stands = p.stands; jobs_are = refl; numbers_are = refl });
}

-- ---- so far

-- so many bytes are written
pub record IsPutTo (k l : View) (files : Files) (ino at : ℕ) (bytes : List ℕ) (done : ℕ) (old new : Supply) : Type 0 where
  pub within : done ≤ length bytes
  pub places : Places k l files ino at (take done bytes)
  pub on : is_on new ≡ true
  pub steps : done < length bytes → Steps (577 * ((at + done) / 4096 - at / 4096)) old new
  pub all : Steps (577 * blocks_reached at (length bytes)) old new
  pub took : 0 < done → TakesAStep old new

module _ (k l : View) (files : Files) (ino at : ℕ) (bytes : List ℕ) (done count : ℕ) (can : CanPlace k files ino at bytes) (fits : done + count ≤ length bytes) (places : Places k l files ino at (take done bytes)) where
  abbrev piece : List ℕ
  piece = take count (drop done bytes)

  one : length (take done bytes) ≡ done
  one = length-take-le done bytes (omega (arith, fits))

  here : Places k (with_cells k l.cells) files ino at (take done bytes)
  here = subst (λ y. Places k y files ino at (take done bytes)) places.same places

  -- the next piece may be written
  pub can_go_on : CanPlace l files ino (at + done) piece
  can_go_on =
      subst (λ y. CanPlace y files ino (at + done) piece) (sym places.same)
      (subst (λ n. CanPlace (with_cells k l.cells) files ino (at + n) piece) one (can_next k l.cells files ino at (take done bytes) piece bytes (front_of bytes done count fits) here can))

  pub came_further : (m : View) → Places l m files ino (at + done) piece → Places k m files ino at (take (done + count) bytes)
  came_further m next_is =
      placed_both k l.cells files ino at (take done bytes) piece (take (done + count) bytes) (front_in bytes done count fits) here (can_front k files ino at (done + count) bytes fits can) m long
      (subst (λ n. Places (with_cells k l.cells) m files ino (at + n) piece) (sym one) (subst (λ y. Places y m files ino (at + done) piece) places.same next_is))
    where
      long : length (take (done + count) bytes) ≡ length (take done bytes) + length piece
      long =
          let both = length-take-le (done + count) bytes fits in
          let two = length-take count (drop done bytes) in
          let rest = length-drop done bytes in
          omega (arith, both, one, two, rest, fits)

  pub came_off : (m : View) → LosesPlacing l m files ino (at + done) piece → LosesPlacing k m files ino at bytes
  came_off m lost =
      loses_both k l.cells files ino at (take done bytes) piece bytes (front_of bytes done count fits) here can m
      (subst (λ n. LosesPlacing (with_cells k l.cells) m files ino (at + n) piece) (sym one) (subst (λ y. LosesPlacing y m files ino (at + done) piece) places.same lost))

pub starts_to_put : (k : View) (files : Files) (ino at : ℕ) (bytes : List ℕ) (p : Supply) → is_on p ≡ true → IsPutTo k k files ino at bytes 0 p p
starts_to_put k files ino at bytes p on = record {
  within = omega arith;
  places = places_none k files ino at;
  on = on;
  steps = λ some. steps_more 0 (577 * ((at + 0) / 4096 - at / 4096)) p p (omega arith) (Steps-none p);
  all = steps_more 0 (577 * blocks_reached at (length bytes)) p p (omega arith) (Steps-none p);
  took = λ some. absurd (omega (arith, some));
}

pub puts_on : (k l m : View) (files : Files) (ino at : ℕ) (bytes : List ℕ) (done count : ℕ) (old new last : Supply) → CanPlace k files ino at bytes → IsPutTo k l files ino at bytes done old new → done < length bytes → done + count ≤ length bytes
    → (done + count < length bytes → (at + (done + count)) % 4096 ≡ 0) → Steps (577 * blocks_reached (at + done) count) new last → is_on last ≡ true → TakesAStep new last → Places l m files ino (at + done) (take count (drop done bytes))
    → IsPutTo k m files ino at bytes (done + count) old last
puts_on k l m files ino at bytes done count old new last can to some fits ends stepped on one_more next_is = record {
  within = fits;
  places = came_further k l files ino at bytes done count can fits to.places m next_is;
  on = on;
  steps = λ more. steps_more (577 * ((at + done) / 4096 - at / 4096) + 577 * blocks_reached (at + done) count) (577 * ((at + (done + count)) / 4096 - at / 4096)) old last
      (let aligned = ends more in omega (arith, aligned)) both;
  all = steps_more (577 * ((at + done) / 4096 - at / 4096) + 577 * blocks_reached (at + done) count) (577 * blocks_reached at (length bytes)) old last (omega (arith, fits)) both;
  took = λ any given is. (let more = one_more given (to.all.given ∙ is) in omega (arith, more, to.all.later));
} where
  both : Steps (577 * ((at + done) / 4096 - at / 4096) + 577 * blocks_reached (at + done) count) old last
  both = Steps-then (577 * ((at + done) / 4096 - at / 4096)) (577 * blocks_reached (at + done) count) old new last (to.steps some) stepped

-- the power went in the next piece
pub loses_on : (k l m : View) (files : Files) (ino at : ℕ) (bytes : List ℕ) (done count : ℕ) (old new last : Supply) → CanPlace k files ino at bytes → IsPutTo k l files ino at bytes done old new → done < length bytes → done + count ≤ length bytes
    → Steps (577 * blocks_reached (at + done) count) new last → LosesPlacing l m files ino (at + done) (take count (drop done bytes))
    → LosesPlacing k m files ino at bytes × Steps (577 * blocks_reached at (length bytes)) old last
loses_on k l m files ino at bytes done count old new last can to some fits stepped lost = (
  came_off k l files ino at bytes done count can fits to.places m lost,
  steps_more (577 * ((at + done) / 4096 - at / 4096) + 577 * blocks_reached (at + done) count) (577 * blocks_reached at (length bytes)) old last (omega (arith, fits))
      (Steps-then (577 * ((at + done) / 4096 - at / 4096)) (577 * blocks_reached (at + done) count) old new last (to.steps some) stepped),
)

-- all of them are written
pub all_put : (k l : View) (files : Files) (ino at : ℕ) (bytes : List ℕ) (done : ℕ) (old new : Supply) → IsPutTo k l files ino at bytes done old new → length bytes ≤ done → Places k l files ino at bytes
all_put k l files ino at bytes done old new to past =
    let whole : done ≡ length bytes = omega (arith, to.within, past) in
    subst (Places k l files ino at) (ap (λ n. take n bytes) whole ∙ take-length bytes) to.places

-- ---- as the body has it

pub range_is : (bytes : List ℕ) (done count : ℕ) → slice_range bytes done (done + count) ≡ take count (drop done bytes)
range_is bytes done count = let same : done + count - done ≡ count = omega arith in ap (λ n. take n (drop done bytes)) same

pub range_long : (bytes : List ℕ) (done count : ℕ) → done + count ≤ length bytes → length (slice_range bytes done (done + count)) ≡ count
range_long bytes done count fits = ap length (range_is bytes done count) ∙ (let long = length-take count (drop done bytes) in let rest = length-drop done bytes in omega (arith, long, rest, fits))

pub line_of_placing : (k : View) (files : Files) (ino at : ℕ) (bytes : List ℕ) → CanPlace k files ino at bytes → ino < length files.sizes
line_of_placing k files ino at bytes can = let low = used_below k.volume ino (ap is_used can.placing.file) in let count = can.placing.stands.sizes.count in omega (arith, low, count)
