-- A file without a name and a description goes beside writes in flight: what they may leave is the same.
use Rattle.std.specs.Prelude.{◌≡◌, ◌≢◌, ◌≤◌, ◌==◌, ◌||◌, ℕ, zero, suc, Bool, true, false, List, [], ◌∷◌, length, map, slice_get, slice_set, Some, refl, if◌then◌else◌}
use Rattle.std.specs.List.{list_any}
use Rattle.std.proofs.Common.{arith, ap, ◌∙◌, sym, subst, inl, inr}
use Rattle.std.proofs.lemmas.Option.{same_Some}
use Rattle.world_write_laws.specs.world_step_laws.pm_model.Words.{Words}
use Rattle.world_write_laws.specs.world_step_laws.layout_model.declared.lines.Draft.{Draft}
use Rattle.world_write_laws.specs.world_step_laws.image_model.Volume.{Volume}
use Rattle.world_write_laws.specs.world_step_laws.posix_types.declared.call.Mode.{Mode}
use Rattle.world_write_laws.specs.world_step_laws.posix_types.declared.handle.Handle.{Handle}
use Rattle.world_write_laws.specs.world_step_laws.posix_types.declared.item.Item.{Item}
use Rattle.world_write_laws.specs.world_step_laws.posix_types.declared.tree.TreeEntry.{TreeEntry}
use Rattle.world_write_laws.specs.world_step_laws.posix_tables.declared.nodes.Node.{Node}
use Rattle.world_write_laws.specs.world_step_laws.posix_tables.Names.{is_named}
use Rattle.world_write_laws.specs.world_step_laws.posix_tables.Open.{describes, is_open}
use Rattle.world_write_laws.specs.world_step_laws.posix_tables.Nodes.{bytes_of}
use Rattle.world_write_laws.specs.world_step_laws.posix_spec.Put.{Put}
use Rattle.world_write_laws.specs.world_step_laws.posix_spec.Run.{after_call, Unfinished}
use Rattle.world_write_laws.specs.world_step_laws.posix_spec.State.{alone, room, State, swept, with_node}
use Rattle.world_write_laws.specs.world_step_laws.posix_spec.Tree.{tree}
use Rattle.world_write_laws.specs.world_step_laws.crash_spec.Strict.{StrictFrom}
use Rattle.world_write_laws.specs.world_step_laws.crash_spec.Sync.{ActsInPart, file_bytes, IsPartOf, SyncFrom, with_bytes}
use Rattle.world_write_laws.specs.world_step_laws.commute_laws.Flights.{InFlight, IsHeld-put, LeavesAlone-put}
use Rattle.world_write_laws.specs.world_step_laws.commute_laws.Handles.{slot_of}
use Rattle.world_write_laws.specs.world_step_laws.commute_laws.Needs.{AreInFlight, AreInFlight-step, unfinished_call, FitsBeside-put, Flight, IsApart, LetsAllBe, needs, needs-cons, needs-step}
use Rattle.world_write_laws.specs.world_step_laws.commute_laws.Rooms.{room-step}
use Rattle.world_image_laws.specs.commute_laws.Acted.{acted, Change, node-acted, Touches}
use Rattle.world_image_laws.specs.commute_laws.Bystanders.{file_within}
use Rattle.world_image_laws.specs.commute_laws.Orders.{AreTwoEach}
use Rattle.world_image_laws.specs.commute_laws.Pairs.{Acts-twice, ActsTwice}
use Rattle.world_write_laws.specs.world_step_laws.posix_laws.Views.{AreAfforded}
use Rattle.world_write_laws.specs.world_step_laws.world_model.Beside.{bytes-after, with_bytes-whole}
use Rattle.world_write_laws.specs.world_step_laws.world_model.Jobs.{Job, live_claims}
use Rattle.world_write_laws.specs.world_step_laws.RemoveCalls.{swept-gone}
use Rattle.world_write_laws.specs.world_step_laws.Steps.{AreInFlight-jobs, begun-flights, flights_of}
use Rattle.world_write_laws.specs.world_step_laws.Worlds.{IsWorld}
use Rattle.world_image_laws.specs.Back.{jobs_in_log}
use Rattle.world_image_laws.specs.InLog.{two_in_log, world_in_log}
use Rattle.world_image_laws.specs.LentLaws.{UnfinishedFrom}
use Rattle.world_image_laws.specs.PartOrders.{after_part, part-Acts, room_left, still_flying, Touches-found, with_found}
use Rattle.world_image_laws.specs.Unseen.{tree-swept}
use Rattle.k_split_laws.specs.Gone.{flying_gone, seen_gone}
use Rattle.k_split_laws.specs.Laws.{LeadsSwept}

-- ---- the change of a write

any_set : {X : Type 0} (p : X → Bool) (xs : List X) (n : ℕ) (x y : X) → slice_get xs n ≡ Some x → p y ≡ p x → list_any p (slice_set xs n y) ≡ list_any p xs
any_set p [] n x y is same = refl
any_set p (z ∷ zs) zero x y is same = let one : z ≡ x = cc in ap (λ b. b || list_any p zs) (same ∙ ap p (sym one))
any_set p (z ∷ zs) (suc n) x y is same = ap (λ b. p z || b) (any_set p zs n x y is same)

-- opens nothing, and closes nothing
open_acted : (s : State) (c : Unfinished) (h : Handle) (change : Change) (n : ℕ) → Touches s c.0 h change → is_open (acted s change).tables n ≡ is_open s.tables n
open_acted s c h change n t =
    any_set (describes n) s.tables.descriptions change.key (Some t.by) (Some change.to) (slot_of s.tables change.key t.by t.opens.stands) (ap (λ (k : ℕ). k == n) (t.to_node ∙ sym t.by_node))

-- ---- writes in flight

-- a write lets the others be
lets_others : (s : State) (f : Flight) (flights : List Flight) → InFlight s f.begun f.node f.whole → IsApart f flights → LetsAllBe s f.begun flights
lets_others s f [] flight apart = tt
lets_others s f (g ∷ flights) flight apart = (
  record { threads = apart.0.threads; aside = LeavesAlone-put s f.begun f.node g.node f.whole flight apart.0.files },
  lets_others s f flights flight apart.1,
)

-- What is left of the others once one has acted.
record AreLeftBy (s : State) (f : Flight) (flights : List Flight) : Type 0 where
  on : AreInFlight (after_call s f.begun) flights
  fits : needs (after_call s f.begun) flights ≤ room (after_call s f.begun)

left_by : (s : State) (f : Flight) (flights : List Flight) → AreInFlight s (f ∷ flights) → AreTwoEach (f ∷ flights) → needs s (f ∷ flights) ≤ room s → AreLeftBy s f flights
left_by s f flights flying two fits =
    let sum = needs-cons s f flights in
    let lets = lets_others s f flights flying.0 two.0 in
    let both = FitsBeside-put s f.begun.0 f.begun.1 f.node f.whole (needs s flights) flying.0.puts (omega (arith, sum, fits)) in
    let left_over = room-step s f.begun (needs s flights) (omega (arith, sum, fits)) both in
    record {
      on = AreInFlight-step s f.begun flights flying.1 lets left_over;
      fits = omega (arith, needs-step s f.begun flights flying.1 lets, left_over);
    }

-- ---- a node goes

-- it is no file of a write
apart_from : (s : State) (n : ℕ) (f : Flight) → InFlight s f.begun f.node f.whole → is_open s.tables n ≡ false → f.node ≢ n
apart_from s n f flight shut same =
    let held_there = IsHeld-put s f.begun.0 f.begun.1 f.node f.whole flight.file flight.puts flight.is in
    let never : true ≡ false = sym held_there.held_open ∙ (ap (is_open s.tables) same ∙ shut) in
    cc

strict_gone : (s : State) (n : ℕ) (flights : List Flight) (left : List TreeEntry) → n ≢ 0 → is_named s.entries n ≡ false → is_open s.tables n ≡ false → AreInFlight s flights → AreTwoEach flights → needs s flights ≤ room s
    → StrictFrom s (map unfinished_call flights) left → StrictFrom (with_node s n Node.Gone) (map unfinished_call flights) left
strict_gone s n [] left other unnamed shut flying two fits is = is ∙ (sym (tree-swept s n other) ∙ ap tree (swept-gone s n unnamed shut))
strict_gone s n (f ∷ flights) left other unnamed shut flying two fits (inr idle) =
    let sum = needs-cons s f flights in
    inr (strict_gone s n flights left other unnamed shut flying.1 two.1 (omega (arith, sum, fits)) idle)
strict_gone s n (f ∷ flights) left other unnamed shut flying two fits (inl acts) =
    let seen = seen_gone s n shut f.begun f.node f.whole flying.0 in
    let again = flying_gone s n shut (f ∷ flights) flying fits in
    let twice : ActsTwice s (with_node s n Node.Gone) f.begun f.node = Acts-twice s (with_node s n Node.Gone) f.begun.0 f.begun.1 f.node f.whole flying.0.file flying.0.puts flying.0.is seen again.0.puts in
    let rest = left_by s f flights flying two fits in
    let named_then : is_named (after_call s f.begun).entries n ≡ false = ap (λ x. is_named x.entries n) twice.now.is ∙ unnamed in
    let shut_then : is_open (after_call s f.begun).tables n ≡ false = ap (λ x. is_open x.tables n) twice.now.is ∙ (open_acted s f.begun twice.handle twice.change n twice.now.touches ∙ shut) in
    let apart : twice.change.node ≢ n = λ same. apart_from s n f flying.0 shut (sym twice.now.node_is ∙ same) in
    let ends : with_node (after_call s f.begun) n Node.Gone ≡ after_call (with_node s n Node.Gone) f.begun =
    ap (λ x. with_node x n Node.Gone) twice.now.is ∙ (node-acted s twice.change n Node.Gone apart ∙ sym twice.later.is)
    in
    inl (subst (λ x. StrictFrom x (map unfinished_call flights) left) ends (strict_gone (after_call s f.begun) n flights left other named_then shut_then rest.on two.1 rest.fits acts))

-- and so in sync mode, where a part of a write may be found
module _ (s : State) (n : ℕ) (f : Flight) (flights : List Flight) (shut : is_open s.tables n ≡ false) (flying : AreInFlight s (f ∷ flights)) (two : AreTwoEach (f ∷ flights)) (fits : needs s (f ∷ flights) ≤ room s) where
  abbrev gone : State
  gone = with_node s n Node.Gone

  again : AreInFlight gone (f ∷ flights)
  again = flying_gone s n shut (f ∷ flights) flying fits

  twice : ActsTwice s gone f.begun f.node
  twice = Acts-twice s gone f.begun.0 f.begun.1 f.node f.whole flying.0.file flying.0.puts flying.0.is (seen_gone s n shut f.begun f.node f.whole flying.0) again.0.puts

  module _ (bytes : List ℕ) (size : length bytes ≡ length f.whole) where
    abbrev next : State
    next = after_part s f flying.0 bytes size

    abbrev found : Change
    found = with_found twice.change bytes

    touches : Touches s f.begun.0 twice.handle found
    touches = Touches-found s f.begun.0 twice.handle twice.change bytes twice.now.touches

    next_is : next ≡ acted s found
    next_is = part-Acts s f twice.handle twice.change bytes twice.now.touches twice.now.is twice.now.node_is

    named_then : is_named s.entries n ≡ false → is_named next.entries n ≡ false
    named_then unnamed = ap (λ x. is_named x.entries n) next_is ∙ unnamed

    shut_then : is_open next.tables n ≡ false
    shut_then = ap (λ x. is_open x.tables n) next_is ∙ (open_acted s f.begun twice.handle found n touches ∙ shut)

    still : AreInFlight next flights × (needs next flights ≡ needs s flights)
    still = still_flying s f flying.0 bytes size flights flying.1 two.0 (room_left s f flying.0 bytes size (needs s flights) (omega (arith, needs-cons s f flights, fits)))

    fits_then : needs next flights ≤ room next
    fits_then =
        let needed = still.1 in
        let left_over = room_left s f flying.0 bytes size (needs s flights) (omega (arith, needs-cons s f flights, fits)) in
        omega (arith, needed, left_over)

    ends : with_node next n Node.Gone ≡ with_bytes (after_call gone f.begun) f.node bytes
    ends =
        ap (λ x. with_node x n Node.Gone) next_is
        ∙ (node-acted s found n Node.Gone (λ same. apart_from s n f flying.0 shut (sym twice.now.node_is ∙ same))
        ∙ sym (part-Acts gone f twice.handle twice.change bytes twice.later.touches twice.later.is twice.later.node_is))

  -- what is found of it before, is found of it behind
  module _ (after : State) (part : ActsInPart s f.begun after) where
    node_is : part.put.node ≡ f.node
    node_is = ap (λ (p : Put). p.node) (same_Some part.put flying.0.puts.put (sym part.is_write ∙ flying.0.puts.is)) ∙ flying.0.puts.node_is

    whole_now : file_bytes (after_call s f.begun) f.node ≡ f.whole
    whole_now = bytes-after s f.begun f.node f.whole flying.0.puts (file_within s.nodes f.node flying.0.file flying.0.is)

    part_size : length part.bytes ≡ length f.whole
    part_size = part.part.size ∙ ap length (ap (file_bytes (after_call s f.begun)) node_is ∙ whole_now)

    after_is : after ≡ next part.bytes part_size
    after_is = part.next_is ∙ ap (λ m. with_bytes (after_call s f.begun) m part.bytes) node_is

    acts_behind : ActsInPart gone f.begun (with_node (next part.bytes part_size) n Node.Gone)
    acts_behind = record {
      put = again.0.puts.put;
      bytes = part.bytes;
      is_write = again.0.puts.is;
      part =
          subst (λ m. IsPartOf (file_bytes gone m) (file_bytes (after_call gone f.begun) m) part.bytes) (sym again.0.puts.node_is)
          (subst (λ old. IsPartOf old (file_bytes (after_call gone f.begun) f.node) part.bytes) (sym (ap bytes_of (seen_gone s n shut f.begun f.node f.whole flying.0).file))
          (subst (λ whole. IsPartOf (file_bytes s f.node) whole part.bytes) (whole_now ∙ sym (bytes-after gone f.begun f.node f.whole again.0.puts (file_within gone.nodes f.node again.0.file again.0.is)))
          (subst (λ m. IsPartOf (file_bytes s m) (file_bytes (after_call s f.begun) m) part.bytes) node_is part.part)));
      next_is = ends part.bytes part_size ∙ ap (λ m. with_bytes (after_call gone f.begun) m part.bytes) (sym again.0.puts.node_is);
    }

sync_gone : (s : State) (n : ℕ) (flights : List Flight) (left : List TreeEntry) → n ≢ 0 → is_named s.entries n ≡ false → is_open s.tables n ≡ false → AreInFlight s flights → AreTwoEach flights → needs s flights ≤ room s
    → SyncFrom s (map unfinished_call flights) left → SyncFrom (with_node s n Node.Gone) (map unfinished_call flights) left
sync_gone s n [] left other unnamed shut flying two fits is = is ∙ (sym (tree-swept s n other) ∙ ap tree (swept-gone s n unnamed shut))
sync_gone s n (f ∷ flights) left other unnamed shut flying two fits (inr (inr idle)) =
    let sum = needs-cons s f flights in
    inr (inr (sync_gone s n flights left other unnamed shut flying.1 two.1 (omega (arith, sum, fits)) idle))
sync_gone s n (f ∷ flights) left other unnamed shut flying two fits (inr (inl (after, part, rest))) =
    let size = part_size s n f flights shut flying two fits after part in
    inr (inl (
      with_node (next s n f flights shut flying two fits part.bytes size) n Node.Gone,
      acts_behind s n f flights shut flying two fits after part,
      sync_gone (next s n f flights shut flying two fits part.bytes size) n flights left other (named_then s n f flights shut flying two fits part.bytes size unnamed) (shut_then s n f flights shut flying two fits part.bytes size)
          (still s n f flights shut flying two fits part.bytes size).0 two.1 (fits_then s n f flights shut flying two fits part.bytes size)
          (subst (λ x. SyncFrom x (map unfinished_call flights) left) (after_is s n f flights shut flying two fits after part) rest),
    ))
sync_gone s n (f ∷ flights) left other unnamed shut flying two fits (inl acts) =
    let again_is = again s n f flights shut flying two fits in
    let whole_now = with_bytes-whole s f.begun f.node f.whole flying.0.puts (file_within s.nodes f.node flying.0.file flying.0.is) in
    let whole_gone = with_bytes-whole (with_node s n Node.Gone) f.begun f.node f.whole again_is.0.puts (file_within (with_node s n Node.Gone).nodes f.node again_is.0.file again_is.0.is) in
    inl (subst (λ x. SyncFrom x (map unfinished_call flights) left) (ends s n f flights shut flying two fits f.whole refl ∙ whole_gone)
    (sync_gone (next s n f flights shut flying two fits f.whole refl) n flights left other (named_then s n f flights shut flying two fits f.whole refl unnamed) (shut_then s n f flights shut flying two fits f.whole refl)
    (still s n f flights shut flying two fits f.whole refl).0 two.1 (fits_then s n f flights shut flying two fits f.whole refl)
    (subst (λ x. SyncFrom x (map unfinished_call flights) left) (sym whole_now) acts)))

-- A file that goes once nobody names it and nobody has it open leaves what the writes may leave.
unfinished_swept : (m : Mode) (s : State) (n : ℕ) (flights : List Flight) (left : List TreeEntry) → n ≢ 0 → AreInFlight s flights → AreTwoEach flights → needs s flights ≤ room s
    → UnfinishedFrom m s (map unfinished_call flights) left → UnfinishedFrom m (swept alone s n) (map unfinished_call flights) left
unfolding swept
unfinished_swept m s n flights left other flying two fits is = by (is_named s.entries n) refl (is_open s.tables n) refl where
  gone_too : (m : Mode) → is_named s.entries n ≡ false → is_open s.tables n ≡ false → UnfinishedFrom m s (map unfinished_call flights) left → UnfinishedFrom m (with_node s n Node.Gone) (map unfinished_call flights) left
  gone_too Mode.Strict unnamed shut from = strict_gone s n flights left other unnamed shut flying two fits from
  gone_too Mode.Sync unnamed shut from = sync_gone s n flights left other unnamed shut flying two fits from
  gone_too Mode.Posix unnamed shut from = tt

  by : (named : Bool) → is_named s.entries n ≡ named → (there : Bool) → is_open s.tables n ≡ there
      → UnfinishedFrom m (if is_named s.entries n || is_open s.tables n then s else with_node s n Node.Gone) (map unfinished_call flights) left
  by true named there open_is = rw named is
  by false named true open_is = rw (named, open_is) is
  by false named false open_is = rw (named, open_is) (gone_too m named open_is is)

pub leads_swept : LeadsSwept
leads_swept v claims jobs f numbers s count n start history c world other two leads slots left is =
    let some : List Job = jobs_in_log slots jobs in
    let world_some = world_in_log v claims jobs slots f numbers s count world in
    let flying = AreInFlight-jobs v (live_claims v claims) f numbers s some world_some.valid.stands world_some.valid.out in
    let begun = begun-flights numbers some in
    let fits : needs s (flights_of numbers some) ≤ room s = subst (AreAfforded s) (sym begun) world_some.valid.room in
    leads slots left
    (subst (λ cs. UnfinishedFrom start.mode (swept alone s n) cs left) begun
    (unfinished_swept start.mode s n (flights_of numbers some) left other flying (two_in_log numbers slots jobs two) fits (subst (λ cs. UnfinishedFrom start.mode s cs left) (sym begun) is)))
