-- The first call of a round finds room.
use Rattle.std.specs.Prelude.{◌≡◌, ◌≢◌, ◌≤◌, ◌<◌, ◌+◌, ◌-◌, ◌*◌, ◌/◌, ◌&&◌, ℕ, Bool, true, false, cond, List, [], ◌∷◌, length, count_by, max, nat_lt, Option, Some, None, IsSome, is_none, option_map, unwrap_or, if◌then◌else◌, sum_by, refl}
use Rattle.std.specs.List.{range_with_len}
use Rattle.std.specs.Option.{option_map_or}
use Rattle.std.proofs.Common.{arith, ap, ◌∙◌, sym, subst, inl, inr}
use Rattle.std.proofs.lemmas.Bool.Decides.{nat_tests}
use Rattle.std.proofs.lemmas.List.Sums.{length-filter, sum_by-cons}
use Rattle.world_parts.specs.world_view_laws.posix_types.declared.call.Mode.{Mode}
use Rattle.call_laws.proofs.Filling.{lacks_below, open_of, own_below, own_file}
use Rattle.call_laws.proofs.Rows.{lacks_in, need_put}
use Rattle.call_laws.proofs.Staying.{mode_now, stands_now}
use Rattle.call_laws.proofs.world_view_laws_proofs.open_files_proofs.Lookups.{same_opened}
use Rattle.call_laws.specs.Calls.{AtCall}
use Rattle.call_laws.specs.in_flight.live_model.data_route.declared.writes.WritePlan.{WritePlan}
use Rattle.call_laws.specs.in_flight.live_model.data_route.Writes.{cleans, in_place_by, in_place_end, plan_of, staged_by}
use Rattle.write_begin.specs.in_place.file_overlay.Runs.{staged_at}
use Rattle.call_laws.specs.in_flight.live_model.open_files.Numbered.{described_as}
use Rattle.call_laws.specs.in_flight.world_model.Stands.{number}
use Rattle.call_laws.specs.write_begin.Begins.{LacksFor}
use Rattle.call_laws.specs.write_begin.block_counts.Counts.{blocks_for}
use Rattle.call_laws.specs.write_begin.extent_model.Extents.{disk_at}
use Rattle.call_laws.specs.write_begin.image_model.Volume.{extents}
use Rattle.call_laws.specs.write_begin.k_split_model.MapChangesChanges.{holes}
use Rattle.call_laws.specs.write_begin.write_plan.AsksLaws.{call_of, start_of}
use Rattle.call_laws.specs.write_begin.write_plan.Numbers.{OpenHaveLines, RoomIsKept, StandsAsKept}
use Rattle.write_begin.specs.in_place.Holes.{absent_count, LacksFree}
use Rattle.write_begin.proofs.BeginsAsked.{puts_of}
use Rattle.write_begin.proofs.Begun.{need_fits}
use Rattle.write_begin.proofs.write_plan_proofs.Calls.{handle_open}
use Rattle.write_plan.specs.FirstWritesLaws.{FirstHolesFit, FirstWriteFits}
use Rattle.write_plan.specs.Plans.{placed_at, size_at, staged_run}
use Rattle.world_parts.specs.file_table.Files.{Files, runs_in, size_in}
use Rattle.world_parts.specs.k_split_model.View.{View}
use Rattle.world_parts.specs.world_view_laws.posix_laws.RowLaws.{Accepts-from_rows}
use Rattle.world_parts.specs.world_view_laws.posix_laws.Views.{need_of}
use Rattle.world_parts.specs.world_view_laws.posix_spec.FileRows.{file_number, write_rows}
use Rattle.world_parts.specs.world_view_laws.posix_spec.Put.{Put, put_by, put_unless}
use Rattle.world_parts.specs.world_view_laws.posix_spec.State.{State}
use Rattle.world_parts.specs.world_view_laws.posix_types.declared.call.Call.{Call}
use Rattle.world_parts.specs.world_view_laws.posix_types.declared.call.Who.{Who}
use Rattle.world_parts.specs.world_view_laws.posix_types.declared.handle.Handle.{Handle}
use Rattle.world_parts.specs.world_view_laws.posix_types.declared.item.Outcome.{Outcome}
use Rattle.world_parts.specs.world_view_laws.posix_tables.declared.open.Description.{Description}
use Rattle.world_parts.specs.world_view_laws.posix_tables.Nodes.{bytes_of, node_at}
use Rattle.world_parts.specs.world_view_laws.posix_tables.Open.{is_open, opened, Tables}
use Rattle.world_parts.specs.world_view_laws.posix_tables.Outcomes.{first}
use Rattle.world_parts.specs.world_view_laws.in_flight.staging_files.GivesUp.{nothing_staged}
use Rattle.world_parts.specs.world_view_laws.in_flight.staging_files.Keeps.{Staged}
use Rattle.world_parts.specs.world_view_laws.in_flight.live_model.Standing.{JobOut, StandsAt}
use Rattle.world_parts.proofs.world_view_laws_proofs.Holes.{no_holes, unplaced_holes}
use Rattle.world_parts.specs.world_view_laws.Begins.{IsStagingNeed, LacksBeside, LacksHoles, LacksStaging, with_disk}
use Rattle.world_parts.specs.world_view_laws.Views.{Disk, IsGoing, IsWorldOver, kept_of, state_of, WorldView}
use Rattle.world_begins.specs.Progress.{FirstCallsHaveRoom, IsAtFirst}

-- ---- what the plan writes in place

end_below : (mode : Mode) → mode ≢ Mode.Posix → (size offset end : ℕ) → offset < in_place_end mode size offset end → in_place_end mode size offset end ≤ size
end_below Mode.Strict other size offset end low = absurd (omega (arith, low))
end_below Mode.Posix other size offset end low = absurd (other refl)
end_below Mode.Sync other size offset end low = by (nat_lt size end) refl low where
  by : (b : Bool) → nat_lt size end ≡ b → offset < (if b then 4096 * max (size / 4096) (offset / 4096) else end) → (if b then 4096 * max (size / 4096) (offset / 4096) else end) ≤ size
  by true is before = omega (arith, before)
  by false is before = grind (arith, nat_tests, is)

-- lies below the end of the file.
place_below : (mode : Mode) → mode ≢ Mode.Posix → (size offset end : ℕ) (range : ℕ × ℕ) → in_place_by mode size offset end ≡ Some range → (range.0 ≤ range.1) × (range.1 ≤ size)
place_below mode other size offset end range is = by (nat_lt offset (in_place_end mode size offset end)) refl where
  by : (b : Bool) → nat_lt offset (in_place_end mode size offset end) ≡ b → (range.0 ≤ range.1) × (range.1 ≤ size)
  by false none_is =
      let none = ap {B = Option (ℕ × ℕ)} (λ (b : Bool). if b then Some (offset, in_place_end mode size offset end) else None) none_is in
      let never : None ≡ Some range = sym none ∙ is in
      cc
  by true some_is =
      let some = ap {B = Option (ℕ × ℕ)} (λ (b : Bool). if b then Some (offset, in_place_end mode size offset end) else None) some_is in
      let same : (offset, in_place_end mode size offset end) ≡ range = ap (λ (o : Option (ℕ × ℕ)). unwrap_or o range) (sym some ∙ is) in
      let low : offset < in_place_end mode size offset end = grind (arith, nat_tests, some_is) in
      let high = end_below mode other size offset end low in
      subst (λ (r : ℕ × ℕ). (r.0 ≤ r.1) × (r.1 ≤ size)) same (omega (arith, low), high)

abbrev some_plan : Mode → ℕ → ℕ → ℕ → WritePlan
some_plan mode size offset len = record {
  clean_tail = cleans size offset;
  in_place = in_place_by mode size offset (offset + len);
  staged = staged_by mode size offset (offset + len);
  new_size = max size (offset + len);
}

abbrev no_plan : ℕ → WritePlan
no_plan size = record { clean_tail = false; in_place = None; staged = None; new_size = size }

plan_below : (mode : Mode) → mode ≢ Mode.Posix → (size offset len : ℕ) (range : ℕ × ℕ) → (plan_of mode size offset len).in_place ≡ Some range → (range.0 ≤ range.1) × (range.1 ≤ size)
plan_below mode other size offset len range = by (nat_lt 0 len) where
  by : (b : Bool) → (if b then some_plan mode size offset len else no_plan size).in_place ≡ Some range → (range.0 ≤ range.1) × (range.1 ≤ size)
  by true is = place_below mode other size offset (offset + len) range is
  by false is = (let never : None ≡ Some range = is in cc)

-- of a range fewer pass two tests than one of them
less_both : (a b : Bool) → cond (a && b) 1 0 ≤ cond a 1 0
less_both true true = omega arith
less_both true false = omega arith
less_both false b = omega arith

fewer_pass : (p q : ℕ → Bool) (ms : List ℕ) → count_by (λ m. p m && q m) ms ≤ count_by p ms
fewer_pass p q [] = omega arith
fewer_pass p q (m ∷ ms) =
    let rest = fewer_pass p q ms in
    let both = sum_by-cons (λ n. cond (p n && q n) 1 0) m ms in
    let one = sum_by-cons (λ n. cond (p n) 1 0) m ms in
    let here = less_both (p m) (q m) in
    omega (arith, rest, both, one, here)

-- ---- no call finds too little

-- no job is out, so none makes it need more than there is room for
none_beside : (w : WorldView) (who : Who) (call : Call) (need left : ℕ) → w.pending ≡ [] → LacksBeside w who call need left → ⊥
none_beside w who call need left none beside = (
    let all = ap (λ (ps : List JobOut). sum_by (λ (p : JobOut). need_of (state_of w) p.who p.call) ps) none in
    let rest = beside.left_is in
    let fits = beside.fits in
    let less = beside.lacks in
    omega (arith, all, rest, fits, less))

-- what puts something is a write that no row refuses
unrefused : (o : Option Outcome) (put : Put) → IsSome (put_unless o put) → o ≡ None
unrefused None put some = refl
unrefused (Some outcome) put some = (let never : false ≡ true = some in cc)

accepted_of : (s : State) (who : Who) (h : Handle) (at : Option ℕ) (x : List ℕ) → IsSome (put_by s who (call_of h at x)) → first (write_rows s who h (start_of s who h at) x) ≡ None
unfolding put_by
accepted_of s who h None x some = unrefused (first (write_rows s who h (start_of s who h None) x)) _ some
accepted_of s who h (Some place) x some = unrefused (first (write_rows s who h place x)) _ some

-- it stages blocks, or writes some in place
staged_some : (s : State) (o : Option Put) (run : ℕ × ℕ) → staged_run s o ≡ Some run → IsSome o
staged_some s None run is = (let never : None ≡ Some run = is in cc)
staged_some s (Some put) run is = refl

placed_some : (s : State) (o : Option Put) (range : ℕ × ℕ) → placed_at s o ≡ Some range → IsSome o
placed_some s None range is = (let never : None ≡ Some range = is in cc)
placed_some s (Some put) range is = refl

module _ (fits : FirstWriteFits) (holes_fit : FirstHolesFit) (kept_law : StandsAsKept) (lines_law : OpenHaveLines) (room_law : RoomIsKept) (k : View) (t : Tables) (staging : Staged) (files : Files) (w : WorldView) (who : Who) (at_first : IsAtFirst w) where
  module _ (h : Handle) (at : Option ℕ) (x : List ℕ) (one : AtCall k t staging files w who (call_of h at x)) where
    abbrev stands : StandsAt w.geometry k t (kept_of w staging files) true (length w.history) (state_of w)
    stands = stands_now k t staging files w who (call_of h at x) one

    going : IsGoing k t staging files w
    going = one.world.going one.begins.awake

    fresh : staging ≡ nothing_staged
    fresh = sym (ap (λ (d : Disk). d.staging) one.world.disk_is) ∙ at_first.staging

    other : (state_of w).mode ≢ Mode.Posix
    other = mode_now k t staging files w who (call_of h at x) one

    abbrev its_put : Put
    its_put = record { node = file_number (state_of w).tables who h; place = start_of (state_of w) who h at; bytes = x }

    -- a write finds a run,
    run_found : (need left : ℕ) (run : ℕ × ℕ) → staged_run (state_of w) (put_by (state_of w) who (call_of h at x)) ≡ Some run → LacksStaging w who (call_of h at x) need left → ⊥
    run_found need left run is lacks =
        let none = accepted_of (state_of w) who h at x (staged_some (state_of w) (put_by (state_of w) who (call_of h at x)) run is) in
        let enough = need_fits (state_of w) who h at x (Accepts-from_rows (state_of w) who h (start_of (state_of w) who h at) x none) in
        let needed = need_put (state_of w) who h at x in
        let room = room_law w.geometry k t (kept_of w staging files) true (length w.history) (state_of w) stands in
        fits w.geometry k t (kept_of w staging files) true (length w.history) (state_of w) (state_of w).mode (size_at (state_of w) its_put) its_put.place (length x) need left run stands fresh going.ends
        (omega (arith, enough, needed, room)) (ap (staged_run (state_of w)) (sym (puts_of (state_of w) who h at x none)) ∙ is)
        (lacks_in w who h at x k t staging files run is one.world.disk_is stands.geometry need left lacks)

    put_finds_room : (need left : ℕ) → LacksStaging w who (call_of h at x) need left → ⊥
    put_finds_room need left lacks = by (staged_run (state_of w) (put_by (state_of w) who (call_of h at x))) refl lacks.need_is where
      by : (o : Option (ℕ × ℕ)) → staged_run (state_of w) (put_by (state_of w) who (call_of h at x)) ≡ o → IsStagingNeed w o need → ⊥
      by None is needs = needs
      by (Some run) is needs = run_found need left run is lacks

    -- and blocks for its holes;
    module _ (range : ℕ × ℕ) (placed : placed_at (state_of w) (put_by (state_of w) who (call_of h at x)) ≡ Some range) where
      none : first (write_rows (state_of w) who h (start_of (state_of w) who h at) x) ≡ None
      none = accepted_of (state_of w) who h at x (placed_some (state_of w) (put_by (state_of w) who (call_of h at x)) range placed)

      file : (d : Description) × (opened t who h ≡ Some d)
      file = open_of (state_of w) (number stands.numbers) t who h stands.tables (Accepts-from_rows (state_of w) who h (start_of (state_of w) who h at) x none).may_write

      abbrev ino : ℕ
      ino = file_number t who h

      ino_is : ino ≡ file.0.node
      ino_is = ap (λ (o : Option Description). option_map_or (λ (d : Description). d.node) o 0) file.1

      opened_is : is_open t ino ≡ true
      opened_is = subst (λ n. is_open t n ≡ true) (sym ino_is) (handle_open t who h file.0 file.1)

      number_is : file_number (state_of w).tables who h ≡ number stands.numbers ino
      number_is =
          ap (λ (y : Tables). file_number y who h) stands.tables
          ∙ (ap (λ (o : Option Description). option_map_or (λ (d : Description). d.node) o 0) (same_opened (number stands.numbers) t who h ∙ ap (option_map (described_as (number stands.numbers))) file.1)
          ∙ ap (number stands.numbers) (sym ino_is))

      size_is : size_at (state_of w) its_put ≡ size_in files ino
      size_is =
          ap (λ n. length (bytes_of (node_at (state_of w).nodes n))) number_is
          ∙ (kept_law w.geometry k t (kept_of w staging files) true (length w.history) (state_of w) stands).sizes ino opened_is

      below : (range.0 ≤ range.1) × (range.1 ≤ size_at (state_of w) its_put)
      below = plan_below (state_of w).mode other (size_at (state_of w) its_put) its_put.place (length x) range (ap (placed_at (state_of w)) (sym (puts_of (state_of w) who h at x none)) ∙ placed)

      range_fits : range.0 / 4096 + (blocks_for range.1 - range.0 / 4096) ≤ blocks_for (size_in files ino)
      range_fits = let first_is = below.0 in let last_is = below.1 in let size = size_is in omega (arith, first_is, last_is, size)

      few : absent_count k.volume files ino (range.0 / 4096) (blocks_for range.1 - range.0 / 4096) ≤ length (holes (extents k.volume ino) (range.0 / 4096) (blocks_for range.1 - range.0 / 4096))
      few =
          let both = fewer_pass (λ m. is_none (disk_at (extents k.volume ino) m)) (λ m. is_none (staged_at (runs_in files ino) m)) (range_with_len (range.0 / 4096) (blocks_for range.1 - range.0 / 4096)) in
          let count = length-filter (λ m. is_none (disk_at (extents k.volume ino) m)) (range_with_len (range.0 / 4096) (blocks_for range.1 - range.0 / 4096)) in
          omega (arith, both, count)

      range_found : (need left : ℕ) → LacksFree k k staging files ino (range.0 / 4096) (blocks_for range.1 - range.0 / 4096) need left → ⊥
      range_found need left lacks =
          let free = holes_fit w.geometry k t (kept_of w staging files) true (length w.history) (state_of w) ino (range.0 / 4096) (blocks_for range.1 - range.0 / 4096) stands fresh going.ends (stands.open_are_files ino opened_is) range_fits in
          let fewer = few in
          let need_is = lacks.need_is in
          let room_is = lacks.room_is in
          let less = lacks.lacks in
          let out = ap (λ (s : Staged). length s.out) fresh in
          omega (arith, free, fewer, need_is, room_is, less, out)

      low : ino < length files.sizes
      low = own_below t who h file.0 (length files.sizes) file.1 (lines_law w.geometry k t (kept_of w staging files) true (length w.history) (state_of w) stands who h file.0 file.1)

      holes_found : (need left : ℕ) → LacksHoles w who (call_of h at x) need left → ⊥
      holes_found need left lacks =
          let free = lacks_below w one.world.mode who (call_of h at x) t ino (own_file w who h at x t file.0 file.1) staging files low k stands.geometry need left
          (subst (λ (d : Disk). LacksHoles (with_disk w d) who (call_of h at x) need left) one.world.disk_is lacks) in
          range_found need left (subst (λ (o : Option (ℕ × ℕ)). LacksFor k k staging files ino o need left) placed free)

    put_finds_holes : (need left : ℕ) → LacksHoles w who (call_of h at x) need left → ⊥
    put_finds_holes need left lacks = by (placed_at (state_of w) (put_by (state_of w) who (call_of h at x))) refl where
      by : (o : Option (ℕ × ℕ)) → placed_at (state_of w) (put_by (state_of w) who (call_of h at x)) ≡ o → ⊥
      by None is = no_holes w who (call_of h at x) (unplaced_holes w who (call_of h at x) is) need left lacks
      by (Some range) is = holes_found range is need left lacks

  -- and no other call stages blocks or has holes.
  finds_run : (call : Call) (need left : ℕ) → AtCall k t staging files w who call → LacksStaging w who call need left → ⊥
  unfolding put_by
  finds_run (Call.Write h x) need left one lacks = put_finds_room h None x one need left lacks
  finds_run (Call.Pwrite h place x) need left one lacks = put_finds_room h (Some place) x one need left lacks
  finds_run call need left one lacks = absurd lacks.need_is

  finds_holes : (call : Call) (need left : ℕ) → AtCall k t staging files w who call → LacksHoles w who call need left → ⊥
  finds_holes (Call.Write h x) need left one lacks = put_finds_holes h None x one need left lacks
  finds_holes (Call.Pwrite h place x) need left one lacks = put_finds_holes h (Some place) x one need left lacks
  finds_holes call need left one lacks = no_holes w who call refl need left lacks

-- the World with its holes filled is at the same call,
filled_at : (k l : View) (t : Tables) (staging : Staged) (files : Files) (w : WorldView) (who : Who) (call : Call) (filled : Disk)
    → AtCall k t staging files w who call → IsWorldOver l t staging files (with_disk w filled) → AtCall l t staging files (with_disk w filled) who call
filled_at k l t staging files w who call filled one over = record {
  world = over;
  out = one.out;
  begins = record { next = one.begins.next; going = one.begins.going; awake = one.begins.awake; idle = one.begins.idle };
  up = one.up;
  none = one.none;
}

-- and at the first one.
filled_first : (w : WorldView) (filled : Disk) → IsAtFirst w → filled.staging ≡ w.disk.staging → IsAtFirst (with_disk w filled)
filled_first w filled at same = record { none_out = at.none_out; settled = at.settled; going = at.going; staging = same ∙ at.staging }

pub first_calls_have_room : FirstWriteFits → FirstHolesFit → StandsAsKept → OpenHaveLines → RoomIsKept → FirstCallsHaveRoom
first_calls_have_room fits holes_fit kept_law lines_law room_law k l t staging files w who call filled need left one at over (inl beside) = none_beside w who call need left at.none_out beside
first_calls_have_room fits holes_fit kept_law lines_law room_law k l t staging files w who call filled need left one at over (inr (inl lacks)) = finds_holes fits holes_fit kept_law lines_law room_law k t staging files w who at call need left one lacks
first_calls_have_room fits holes_fit kept_law lines_law room_law k l t staging files w who call filled need left one at over (inr (inr run)) =
    finds_run fits holes_fit kept_law lines_law room_law l t staging files (with_disk w filled) who (filled_first w filled at (ap (λ (d : Disk). d.staging) run.holes.rest)) call need left
    (filled_at k l t staging files w who call filled one over) run.staging
