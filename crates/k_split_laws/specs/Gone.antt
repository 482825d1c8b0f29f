-- A node that nobody has open goes: the writes in flight go on.
use Rattle.std.specs.Prelude.{◌≡◌, ◌≢◌, ◌≤◌, ◌+◌, ℕ, zero, suc, false, true, List, [], ◌∷◌, length, slice_set, map, refl}
use Rattle.std.proofs.Common.{arith, ap, ◌∙◌, sym, subst}
use Rattle.std.proofs.lemmas.List.{get_or-set_other}
use Rattle.std.proofs.lemmas.List.Sums.{sum_by-cons}
use Rattle.world_write_laws.specs.world_step_laws.pm_model.Words.{Words}
use Rattle.world_write_laws.specs.world_step_laws.block_counts.Counts.{held_by}
use Rattle.world_write_laws.specs.world_step_laws.layout_model.declared.lines.Draft.{Draft}
use Rattle.world_write_laws.specs.world_step_laws.image_model.Volume.{Volume}
use Rattle.world_write_laws.specs.world_step_laws.posix_types.declared.call.Who.{Who}
use Rattle.world_write_laws.specs.world_step_laws.posix_tables.declared.nodes.Node.{Node}
use Rattle.world_write_laws.specs.world_step_laws.posix_tables.Nodes.{bytes_of}
use Rattle.world_write_laws.specs.world_step_laws.posix_tables.Open.{is_open}
use Rattle.world_write_laws.specs.world_step_laws.posix_tables.Room.{held}
use Rattle.world_write_laws.specs.world_step_laws.posix_laws.ViewLaws.{need_of-kept, PutsWhole-kept}
use Rattle.world_write_laws.specs.world_step_laws.posix_laws.Views.{AreAfforded, KeepsView}
use Rattle.world_write_laws.specs.world_step_laws.posix_spec.Run.{Unfinished}
use Rattle.world_write_laws.specs.world_step_laws.posix_spec.State.{room, State, with_node}
use Rattle.world_write_laws.specs.world_step_laws.commute_laws.Bystanders.{IsHeld}
use Rattle.world_write_laws.specs.world_step_laws.commute_laws.Flights.{InFlight, IsHeld-put, KeepsView-seen}
use Rattle.world_write_laws.specs.world_step_laws.commute_laws.Frames.{KeepsSeen}
use Rattle.world_write_laws.specs.world_step_laws.commute_laws.Needs.{AreInFlight, Flight, needs, needs-cons}
use Rattle.world_write_laws.specs.world_step_laws.commute_laws.Needs as flying
use Rattle.world_write_laws.specs.world_step_laws.world_model.Jobs.{unfinished_call, Job, live_claims, Valid}
use Rattle.world_write_laws.specs.world_step_laws.world_model.Stands.{number}
use Rattle.world_write_laws.specs.world_step_laws.Steps.{AreInFlight-jobs, begun-flights, flights_of, GoOn, HaveSameFiles}

-- what files hold does not grow
weigh : Node → ℕ
weigh node = held_by (length (bytes_of node))

pub held_gone : (nodes : List Node) (n : ℕ) → held (slice_set nodes n Node.Gone) ≤ held nodes
unfolding weigh
held_gone [] n = omega arith
held_gone (x ∷ xs) zero = omega (arith, sum_by-cons weigh x xs, sum_by-cons weigh Node.Gone xs)
held_gone (x ∷ xs) (suc n) = omega (arith, sum_by-cons weigh x xs, sum_by-cons weigh x (slice_set xs n Node.Gone), held_gone xs n)

more_room : (s : State) (n : ℕ) → room s ≤ room (with_node s n Node.Gone)
more_room s n = omega (arith, held_gone s.nodes n)

module _ (s : State) (n : ℕ) (shut : is_open s.tables n ≡ false) where
  abbrev gone : State
  gone = with_node s n Node.Gone

  -- a file that a write holds is another one
  pub seen_gone : (c : Unfinished) (node : ℕ) (whole : List ℕ) → InFlight s c node whole → KeepsSeen s gone c.0 node
  seen_gone c node whole flight = record { handles = λ h key d o same. o; file = get_or-set_other s.nodes n node Node.Gone Node.Gone apart; mode = refl } where
    held_there : IsHeld s node
    held_there = IsHeld-put s c.0 c.1 node whole flight.file flight.puts flight.is

    apart : node ≢ n
    apart same = let never : true ≡ false = sym held_there.held_open ∙ (ap (is_open s.tables) same ∙ shut) in cc

  view : (c : Unfinished) (node : ℕ) (whole : List ℕ) → InFlight s c node whole → KeepsView s gone c.0 c.1
  view c node whole flight = KeepsView-seen s gone c.0 c.1 node whole flight.puts (seen_gone c node whole flight)

  pub flying_gone : (flights : List Flight) → AreInFlight s flights → needs s flights ≤ room s → AreInFlight gone flights
  flying_gone [] on fits = tt
  flying_gone (f ∷ flights) on fits =
      let parts = needs-cons s f flights in
      let more = more_room s n in (
        record {
          puts = PutsWhole-kept s gone f.begun.0 f.begun.1 f.node f.whole on.0.puts (view f.begun f.node f.whole on.0) (omega (arith, parts, fits, more));
          file = on.0.file;
          is = (seen_gone f.begun f.node f.whole on.0).file ∙ on.0.is;
        },
        flying_gone flights on.1 (omega (arith, parts, fits)),
      )

  same_needs : (flights : List Flight) → AreInFlight s flights → needs gone flights ≡ needs s flights
  same_needs [] on = refl
  same_needs (f ∷ flights) on =
      let one = need_of-kept s gone f.begun.0 f.begun.1 (view f.begun f.node f.whole on.0) in
      let rest = same_needs flights on.1 in
      needs-cons gone f flights ∙ ((λ i. one i + rest i) ∙ sym (needs-cons s f flights))

  same_files : (numbers : List ℕ) (jobs : List Job) → AreInFlight s (flights_of numbers jobs) → HaveSameFiles s gone numbers jobs
  same_files numbers [] on = tt
  same_files numbers (j ∷ jobs) on = ((seen_gone (unfinished_call j) (number numbers j.draft.ino) j.whole on.0).file, same_files numbers jobs on.1)

pub GoOn-gone : (v : Volume) (claims : List (ℕ × Draft)) (jobs : List Job) (f : Words) (numbers : List ℕ) (s : State) (n : ℕ) → Valid v claims jobs f numbers s → is_open s.tables n ≡ false → GoOn s (with_node s n Node.Gone) numbers jobs
GoOn-gone v claims jobs f numbers s n valid shut =
    let on = AreInFlight-jobs v (live_claims v claims) f numbers s jobs valid.stands valid.out in
    let begun = begun-flights numbers jobs in
    let fits : needs s (flights_of numbers jobs) ≤ room s = subst (AreAfforded s) (sym begun) valid.room in
    let left : needs (with_node s n Node.Gone) (flights_of numbers jobs) ≤ room (with_node s n Node.Gone) = omega (arith, fits, more_room s n, same_needs s n shut (flights_of numbers jobs) on) in
    let reserved = valid.fits in
    record {
      flying_on = flying_gone s n shut (flights_of numbers jobs) on fits;
      files = same_files s n shut numbers jobs on;
      fits = omega (arith, reserved, held_gone s.nodes n);
      room = subst (AreAfforded (with_node s n Node.Gone)) begun left;
    }
