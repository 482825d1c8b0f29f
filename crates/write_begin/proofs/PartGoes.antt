-- A write whose holes are filled goes on by its staged part.
use Rattle.std.specs.Prelude.{◌≡◌, ◌≤◌, ◌<◌, ◌+◌, ◌-◌, ◌/◌, ◌%◌, ℕ, List, drop, length, None, Option, Result, Ok, Err}
use Rattle.std.specs.declared.alloc.AllocError.{AllocError}
use Rattle.std.proofs.Common.{arith, ap, ◌∙◌, sym, subst, inl, inr}
use Rattle.std.proofs.lemmas.Bool.{cases_lt}
use Rattle.std.proofs.lemmas.List.{drop-drop, length-drop}
use Rattle.data_route.specs.Writes.{plan_of}
use Rattle.posix_tables.specs.Room.{write_need}
use Rattle.posix_types.specs.declared.call.Mode.{Mode}
use Rattle.posix_types.specs.declared.call.Who.{Who}
use Rattle.write_plan.specs.layout_model.Places.{data_blocks}
use Rattle.write_plan.specs.eof_laws.block_io.Overwrites.{blocks_reached}
use Rattle.write_plan.specs.image_model.Volume.{Volume}
use Rattle.write_plan.specs.file_table.Files.{Files}
use Rattle.write_plan.specs.k_split_model.View.{View}
use Rattle.write_plan.specs.Asks.{room_in}
use Rattle.write_plan.specs.declared.asks.asking.Target.{Target}
use Rattle.live_step_laws.specs.staging_files.Keeps.{Staged}
use Rattle.in_place.specs.Holes.{IsPresent}
use Rattle.write_begin.specs.declared.begins.beginning.WriteBegun.{WriteBegun}
use Rattle.write_begin.specs.Goes.{FitsTarget, Goes, HasRoom, IsGone, PlacesTarget, reached_run}
use Rattle.write_begin.specs.Rooms.{ArePresent}
use Rattle.write_begin.proofs.PartPlans.{IsPart}
use Rattle.write_begin.proofs.Plans.{some_run}

le_then : (a b c : ℕ) → a ≤ b → b ≤ c → a ≤ c
le_then a b c one two = omega (arith, one, two)

module _ (mode : Mode) (k : View) (staging : Staged) (files : Files) (who : Who) (target : Target) (x : List ℕ) (from : ℕ) (fits : FitsTarget files target (length x)) (part : IsPart mode target.size target.start (length x) from) where
  abbrev pub behind : Target
  behind = record target { start = from }

  abbrev pub rest : List ℕ
  rest = drop (from - target.start) x

  pub rest_long : length rest ≡ length x - (from - target.start)
  rest_long = length-drop (from - target.start) x

  pub fits_part : FitsTarget files behind (length rest)
  fits_part =
      let some = part.within in
      let after = part.behind in
      let most = fits.most in
      let end = fits.fits in
      record { some = omega (arith, rest_long, some, after); most = omega (arith, rest_long, most); fits = omega (arith, rest_long, end, some, after); size = fits.size }

  pub room_part : (v : Volume) → HasRoom mode v files target (length x) → HasRoom mode v files behind (length rest)
  room_part v has = record {
    ends = has.ends;
    room = subst (λ n. write_need mode target.size from (from + n) ≤ room_in (data_blocks v.geometry) files) (sym rest_long)
        (le_then (write_need mode target.size from (from + (length x - (from - target.start)))) (write_need mode target.size target.start (target.start + length x)) (room_in (data_blocks v.geometry) files) part.need has.room);
  }

  pub staged_part : (plan_of mode target.size from (length rest)).staged ≡ reached_run behind (length rest)
  staged_part = subst (λ n. (plan_of mode target.size from n).staged ≡ reached_run behind n) (sym rest_long) part.staged

  module _ (present : ArePresent k.volume files target.ino (plan_of mode target.size target.start (length x)).in_place) where
    pub front_part : (goes : Goes mode k staging files who target x) → goes.puts.put.place < from → (from ≤ target.size) × (from % 4096 ≡ 0) × (target.size ≤ goes.puts.put.place + length goes.puts.put.bytes)
    front_part goes before = elim (cases_lt target.start from) [
      | inl more ↦ (
          let says = part.front more in
          let low = goes.puts.place in
          let some = fits.some in
          let long = ap length goes.puts.bytes ∙ length-drop (target.start - goes.puts.put.place) goes.puts.put.bytes in
          (says.0, says.1, omega (arith, says.2, low, some, long)))
      | inr none ↦ (
          let after = part.behind in
          let same : target.start ≡ from = omega (arith, none, after) in
          subst (λ n. (n ≤ target.size) × (n % 4096 ≡ 0) × (target.size ≤ goes.puts.put.place + length goes.puts.put.bytes)) same (goes.puts.front (omega (arith, before, same))))
    ]

    pub present_part : (goes : Goes mode k staging files who target x) (i : ℕ) → goes.puts.put.place ≤ i → i < from → IsPresent k.volume files target.ino (i / 4096)
    present_part goes i high low = elim (cases_lt i target.start) [
      | inl before ↦ goes.present i high before
      | inr past ↦ subst (ArePresent k.volume files target.ino) (part.placed (omega (arith, low, past))) present i past low
    ]

    -- its part goes on as it does
    abbrev pub goes_part : (goes : Goes mode k staging files who target x) → Goes mode k staging files who behind rest
    goes_part goes = record {
      g = goes.g;
      t = goes.t;
      kept = goes.kept;
      n = goes.n;
      few = goes.few;
      s = goes.s;
      call = goes.call;
      stands = goes.stands;
      mode_is = goes.mode_is;
      opened = goes.opened;
      puts = record {
        put = goes.puts.put;
        is = goes.puts.is;
        node_is = goes.puts.node_is;
        place = (let low = goes.puts.place in let after = part.behind in omega (arith, low, after));
        bytes =
            let low = goes.puts.place in
            let after = part.behind in
            let many : target.start - goes.puts.put.place + (from - target.start) ≡ from - goes.puts.put.place = omega (arith, low, after) in
            ap (drop (from - target.start)) goes.puts.bytes
            ∙ (drop-drop (from - target.start) (target.start - goes.puts.put.place) goes.puts.put.bytes ∙ ap (λ n. drop n goes.puts.put.bytes) many);
        front = front_part goes;
        strict = λ strict. goes.puts.strict strict ∙ sym (part.strict (sym goes.mode_is ∙ strict));
      };
      present = present_part goes;
      fits = goes.fits;
      others = goes.others;
      callers = goes.callers;
    }

    -- What the part comes to the write comes to.
    pub through_part : (l : View) (new : Staged) (then : Files) (run : Option (ℕ × ℕ)) → run ≡ reached_run behind (length rest) → (result : Result WriteBegun AllocError)
        → IsGone mode k l staging new files then who behind rest (reached_run behind (length rest)) result → IsGone mode k l staging new files then who target x run result
    through_part l new then run run_is (Ok (WriteBegun.Answered outcome)) is = absurd is
    through_part l new then run run_is (Ok (WriteBegun.Job job blocks)) is = record {
      found = is.found;
      job_who = is.job_who;
      blocks_are = is.blocks_are;
      fresh = is.fresh;
      ends = is.ends;
      plan = run_is ∙ is.plan;
      out = is.out;
      words = λ goes. is.words (goes_part goes);
      stands = λ goes. is.stands (goes_part goes);
    }
    through_part l new then run run_is (Ok WriteBegun.Written) is = absurd (some_run (from / 4096, blocks_reached from (length rest)) is.none)
    through_part l new then run run_is (Ok (WriteBegun.RoundOver need left)) is = record {
      needed = is.needed;
      run_is = run_is ∙ is.run_is;
      lacks = is.lacks;
      late = is.late;
      same = is.same;
      nothing = is.nothing;
      stays = record { runs = is.stays.runs; stands = λ goes. is.stays.stands (goes_part goes) };
    }
    through_part l new then run run_is (Ok WriteBegun.PowerLost) is = record { left = λ goes. is.left (goes_part goes); kept = λ goes. is.kept (goes_part goes) }
    through_part l new then run run_is (Err e) is = record { runs = is.runs; stands = λ goes. is.stands (goes_part goes) }

-- a part is staged: it is not written in place
pub not_written : (mode : Mode) (k l : View) (old new : Staged) (files then : Files) (who : Who) (target : Target) (x : List ℕ) (result : Result WriteBegun AllocError)
    → IsGone mode k l old new files then who target x (reached_run target (length x)) result → result ≡ Ok WriteBegun.Written → ⊥
not_written mode k l old new files then who target x result gone written =
    let placed : PlacesTarget mode k l old new files then who target x (reached_run target (length x)) = subst (IsGone mode k l old new files then who target x (reached_run target (length x))) written gone in
    let never : reached_run target (length x) ≡ None = placed.none in
    cc

-- nor is an end of memory
pub no_memory : (e : AllocError) → (let result : Result WriteBegun AllocError = Err e in result ≡ Ok WriteBegun.Written) → ⊥
no_memory e written = cc
