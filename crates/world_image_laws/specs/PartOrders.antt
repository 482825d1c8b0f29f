-- Writes in flight of which a part is found, and a call of others among them, in any order.
use Rattle.std.specs.Prelude.{◌≡◌, ◌≢◌, ◌<◌, ◌≤◌, ◌+◌, ℕ, List, [], ◌∷◌, ◌++◌, length, map, slice_set, Some, refl}
use Rattle.std.proofs.Common.{arith, ap, ◌∙◌, sym, subst, inl, inr}
use Rattle.std.proofs.lemmas.List.{get_or-set_other, get_or-set_same, set-set}
use Rattle.std.proofs.lemmas.Option.{same_Some}
use Rattle.world_step_laws.specs.commute_laws.posix_types.declared.call.Who.{Who}
use Rattle.world_step_laws.specs.commute_laws.posix_types.declared.handle.Handle.{Handle}
use Rattle.world_step_laws.specs.commute_laws.posix_types.declared.tree.TreeEntry.{TreeEntry}
use Rattle.world_step_laws.specs.commute_laws.posix_tables.declared.nodes.Node.{Node}
use Rattle.world_step_laws.specs.commute_laws.posix_tables.Nodes.{bytes_of, node_at, published_of}
use Rattle.world_step_laws.specs.commute_laws.posix_spec.Put.{Put}
use Rattle.world_step_laws.specs.commute_laws.posix_spec.Run.{after_call, Unfinished}
use Rattle.world_step_laws.specs.commute_laws.posix_spec.State.{room, State, with_file}
use Rattle.world_step_laws.specs.commute_laws.posix_spec.Step.{Stepped}
use Rattle.world_step_laws.specs.commute_laws.crash_spec.Busy.{waits_for}
use Rattle.world_step_laws.specs.commute_laws.crash_spec.Sync.{ActsInPart, file_bytes, IsPartOf, SyncFrom, with_bytes}
use Rattle.world_step_laws.specs.commute_laws.posix_laws.Puts.{LeavesWhole, with_whole}
use Rattle.world_step_laws.specs.commute_laws.posix_laws.ViewLaws.{need_of-kept, PutsWhole-kept}
use Rattle.world_step_laws.specs.commute_laws.posix_laws.Views.{need_of}
use Rattle.world_step_laws.specs.commute_laws.Acted.{acted, Change, Touches}
use Rattle.world_step_laws.specs.commute_laws.Bystanders.{file_within}
use Rattle.world_step_laws.specs.commute_laws.Commutes.{step-acted, takes}
use Rattle.world_step_laws.specs.commute_laws.Flights.{InFlight, InFlight-step, KeepsSeen-call}
use Rattle.world_step_laws.specs.commute_laws.Frames.{KeepsSeen, LeavesAlone}
use Rattle.world_step_laws.specs.commute_laws.Needs.{AreInFlight, unfinished_call, Flight, IsApart, LetsAllBe, needs, needs-cons}
use Rattle.world_step_laws.specs.commute_laws.Orders.{AreTwoEach}
use Rattle.world_step_laws.specs.commute_laws.Pairs.{Acts-twice, ActsTwice, FitsBeside-takes, takes-acted, waits_for-acted}
use Rattle.world_step_laws.specs.commute_laws.Rooms.{room-step}
use Rattle.world_step_laws.specs.world_model.Beside.{bytes-after, KeepsView-other, LeavesWhole-bytes, room-after, with_bytes-whole}

-- ---- the change of a write of which other bytes are found

abbrev pub with_found : Change → List ℕ → Change
with_found c bytes = record c { file = record { bytes = bytes; published = c.file.published } }

pub Touches-found : (s : State) (who : Who) (h : Handle) (c : Change) (bytes : List ℕ) → Touches s who h c → Touches s who h (with_found c bytes)
Touches-found s who h c bytes t = record { by = t.by; opens = t.opens; by_node = t.by_node; to_node = t.to_node; before = t.before; is = t.is }

pub part-acted : (s : State) (who : Who) (h : Handle) (c : Change) (bytes : List ℕ) → Touches s who h c → with_bytes (acted s c) c.node bytes ≡ acted s (with_found c bytes)
unfolding with_file
part-acted s who h c bytes t = λ i. record (acted s c) { nodes = nodes i } where
  own : node_at (acted s c).nodes c.node ≡ Node.File c.file
  own = get_or-set_same s.nodes c.node (Node.File c.file) Node.Gone (file_within s.nodes c.node t.before t.is)

  nodes : slice_set (slice_set s.nodes c.node (Node.File c.file)) c.node (Node.File (record { bytes = bytes; published = published_of (node_at (acted s c).nodes c.node) }))
      ≡ slice_set s.nodes c.node (Node.File (record { bytes = bytes; published = c.file.published }))
  nodes =
      (λ i. slice_set (slice_set s.nodes c.node (Node.File c.file)) c.node (Node.File (record { bytes = bytes; published = published_of (own i) })))
      ∙ set-set s.nodes c.node (Node.File c.file) (Node.File (record { bytes = bytes; published = c.file.published }))

-- where the write changes the state so, it is this change with these bytes
pub part-Acts : (s : State) (f : Flight) (h : Handle) (c : Change) (bytes : List ℕ) → Touches s f.begun.0 h c → after_call s f.begun ≡ acted s c → c.node ≡ f.node
    → with_bytes (after_call s f.begun) f.node bytes ≡ acted s (with_found c bytes)
part-Acts s f h c bytes touches is node =
    ap (λ x. with_bytes x f.node bytes) is ∙ (ap (λ n. with_bytes (acted s c) n bytes) (sym node) ∙ part-acted s f.begun.0 h c bytes touches)

-- ---- other writes beside it

module _ (s : State) (f : Flight) (flight : InFlight s f.begun f.node f.whole) (bytes : List ℕ) (size : length bytes ≡ length f.whole) where
  abbrev pub after_part : State
  after_part = with_bytes (after_call s f.begun) f.node bytes

  pub within : f.node < length s.nodes
  within = file_within s.nodes f.node flight.file flight.is

  pub leaves : LeavesWhole s after_part f.node bytes
  leaves = LeavesWhole-bytes s f.begun f.node f.whole bytes flight.puts within

  pub room_left : (k : ℕ) → need_of s f.begun.0 f.begun.1 + k ≤ room s → k ≤ room after_part
  room_left k fits = room-after s after_part f.begun f.node f.whole bytes k flight.puts leaves size fits

  -- they are in flight as before, and need what they needed
  pub still_flying : (flights : List Flight) → AreInFlight s flights → IsApart f flights → needs s flights ≤ room after_part → AreInFlight after_part flights × (needs after_part flights ≡ needs s flights)
  still_flying [] on apart fits = (tt, refl)
  still_flying (g ∷ flights) on apart fits =
      let other : g.node ≢ f.node = λ same. apart.0.files (sym same) in
      let view = KeepsView-other s f.begun f.node f.whole bytes g.begun.0 g.begun.1 g.node g.whole flight.puts within on.0.puts other in
      let own = need_of-kept s after_part g.begun.0 g.begun.1 view in
      let parts = needs-cons s g flights in
      let rest = still_flying flights on.1 apart.1 (omega (arith, parts, fits)) in (
        (
          record {
            puts = PutsWhole-kept s after_part g.begun.0 g.begun.1 g.node g.whole on.0.puts view (omega (arith, parts, fits));
            file = on.0.file;
            is = ap (λ nodes. node_at nodes g.node) leaves.nodes ∙ (get_or-set_other s.nodes f.node g.node (with_whole s f.node bytes) Node.Gone other ∙ on.0.is);
          },
          rest.0,
        ),
        needs-cons after_part g flights ∙ ((λ i. own i + rest.1 i) ∙ sym parts),
      )

-- ---- a call of others beside it

lets-same : (s new : State) (d : Unfinished) (flights : List Flight) → waits_for new d ≡ waits_for s d → LetsAllBe s d flights → LetsAllBe new d flights
lets-same s new d [] same lets = tt
lets-same s new d (f ∷ flights) same lets = (record { threads = lets.0.threads; aside = subst (λ o. o ≢ Some f.node) (sym same) lets.0.aside }, lets-same s new d flights same lets.1)

module _ (s : State) (d : Unfinished) (f : Flight) (flights : List Flight) (flying : AreInFlight s (f ∷ flights)) (two : AreTwoEach (f ∷ flights)) (lets : LetsAllBe s d (f ∷ flights)) (fits : takes s d + needs s (f ∷ flights) ≤ room s) where
  abbrev pub new : State
  new = after_call s d

  sum : needs s (f ∷ flights) ≡ need_of s f.begun.0 f.begun.1 + needs s flights
  sum = needs-cons s f flights

  fits_rest : takes s d + needs s flights ≤ room s
  fits_rest = omega (arith, sum, fits)

  seen : KeepsSeen s new f.begun.0 f.node
  seen = KeepsSeen-call s f.begun d f.node f.whole lets.0.threads flying.0 lets.0.aside

  again : InFlight new f.begun f.node f.whole
  again =
      InFlight-step s f.begun d f.node f.whole lets.0.threads flying.0 lets.0.aside
      (room-step s d (need_of s f.begun.0 f.begun.1) (omega (arith, sum, fits)) (FitsBeside-takes s d (need_of s f.begun.0 f.begun.1) (omega (arith, sum, fits))))

  both : ActsTwice s new f.begun f.node
  both = Acts-twice s new f.begun.0 f.begun.1 f.node f.whole flying.0.file flying.0.puts flying.0.is seen again.puts

  -- whatever is found of the write
  module _ (bytes : List ℕ) (size : length bytes ≡ length f.whole) where
    abbrev pub next : State
    next = after_part s f flying.0 bytes size

    abbrev found : Change
    found = with_found both.change bytes

    touches : Touches s f.begun.0 both.handle found
    touches = Touches-found s f.begun.0 both.handle both.change bytes both.now.touches

    next_is : next ≡ acted s found
    next_is = part-Acts s f both.handle both.change bytes both.now.touches both.now.is both.now.node_is

    other : LeavesAlone s d found.node
    other = subst (λ n. LeavesAlone s d n) (sym both.now.node_is) lets.0.aside

    taken : takes next d ≡ takes s d
    taken = ap (λ x. takes x d) next_is ∙ takes-acted s f.begun.0 both.handle found d touches other

    still : AreInFlight next flights × (needs next flights ≡ needs s flights)
    still = still_flying s f flying.0 bytes size flights flying.1 two.0 (room_left s f flying.0 bytes size (needs s flights) (omega (arith, sum, fits)))

    lets_then : LetsAllBe next d flights
    lets_then = lets-same s next d flights (ap (λ x. waits_for x d) next_is ∙ waits_for-acted s f.begun.0 both.handle found d touches other) lets.1

    room_then : takes s d + needs s flights ≤ room next
    room_then = room_left s f flying.0 bytes size (takes s d + needs s flights) (omega (arith, sum, fits))

    fits_then : takes next d + needs next flights ≤ room next
    fits_then = let needed = still.1 in omega (arith, taken, needed, room_then)

    -- the call ends in the state in which the write acted behind it
    pub ends : after_call next d ≡ with_bytes (after_call new f.begun) f.node bytes
    ends =
        let one = step-acted s f.begun.0 both.handle found d.0 d.1 touches lets.0.threads other (omega (arith, fits)) (subst (λ x. takes s d ≤ room x) next_is (omega (arith, room_then))) in
        ap (λ x. after_call x d) next_is
        ∙ (ap (λ (g : Stepped). g.state) one ∙ sym (part-Acts new f both.handle both.change bytes both.later.touches both.later.is both.later.node_is))

  -- ---- what is found of it behind the call, is found of it before

  module _ (after : State) (part : ActsInPart new f.begun after) where
    node_is : part.put.node ≡ f.node
    node_is = ap (λ (p : Put). p.node) (same_Some part.put again.puts.put (sym part.is_write ∙ again.puts.is)) ∙ again.puts.node_is

    whole_then : file_bytes (after_call new f.begun) f.node ≡ f.whole
    whole_then = bytes-after new f.begun f.node f.whole again.puts (file_within new.nodes f.node again.file again.is)

    part_size : length part.bytes ≡ length f.whole
    part_size = part.part.size ∙ ap length (ap (file_bytes (after_call new f.begun)) node_is ∙ whole_then)

    acts_before : ActsInPart s f.begun (next part.bytes part_size)
    acts_before = record {
      put = flying.0.puts.put;
      bytes = part.bytes;
      is_write = flying.0.puts.is;
      part =
          subst (λ n. IsPartOf (file_bytes s n) (file_bytes (after_call s f.begun) n) part.bytes) (sym flying.0.puts.node_is)
          (subst (λ old. IsPartOf old (file_bytes (after_call s f.begun) f.node) part.bytes) (ap bytes_of seen.file)
          (subst (λ whole. IsPartOf (file_bytes new f.node) whole part.bytes) (whole_then ∙ sym (bytes-after s f.begun f.node f.whole flying.0.puts (within s f flying.0 part.bytes part_size)))
          (subst (λ n. IsPartOf (file_bytes new n) (file_bytes (after_call new f.begun) n) part.bytes) node_is part.part)));
      next_is = ap (λ n. with_bytes (after_call s f.begun) n part.bytes) (sym flying.0.puts.node_is);
    }

    after_is : after ≡ after_call (next part.bytes part_size) d
    after_is = part.next_is ∙ (ap (λ n. with_bytes (after_call new f.begun) n part.bytes) node_is ∙ sym (ends part.bytes part_size))

-- A CALL OF OTHERS STANDS LAST, in sync mode too: what power loss leaves where the call acted before the writes that were in
-- flight, each of them whole, in part or not at all, it may leave where the call is the last of the unfinished ones.
pub SyncFrom-last : (s : State) (d : Unfinished) (flights : List Flight) (left : List TreeEntry) → AreInFlight s flights → AreTwoEach flights → LetsAllBe s d flights → takes s d + needs s flights ≤ room s
    → SyncFrom (after_call s d) (map unfinished_call flights) left → SyncFrom s (map unfinished_call flights ++ d ∷ []) left
SyncFrom-last s d [] left flying two lets fits sync = inl sync
SyncFrom-last s d (f ∷ flights) left flying two lets fits (inr (inr idle)) =
    inr (inr (SyncFrom-last s d flights left flying.1 two.1 lets.1 (fits_rest s d f flights flying two lets fits) idle))
SyncFrom-last s d (f ∷ flights) left flying two lets fits (inr (inl (after, part, rest))) =
    let size = part_size s d f flights flying two lets fits after part in
    inr (inl (
      next s d f flights flying two lets fits part.bytes size,
      acts_before s d f flights flying two lets fits after part,
      SyncFrom-last (next s d f flights flying two lets fits part.bytes size) d flights left (still s d f flights flying two lets fits part.bytes size).0 two.1 (lets_then s d f flights flying two lets fits part.bytes size)
          (fits_then s d f flights flying two lets fits part.bytes size)
          (subst (λ x. SyncFrom x (map unfinished_call flights) left) (after_is s d f flights flying two lets fits after part) rest),
    ))
SyncFrom-last s d (f ∷ flights) left flying two lets fits (inl acts) =
    let again_is = again s d f flights flying two lets fits in
    let ends_whole =
    ends s d f flights flying two lets fits f.whole refl
    ∙ with_bytes-whole (after_call s d) f.begun f.node f.whole again_is.puts (file_within (after_call s d).nodes f.node again_is.file again_is.is)
    in
    inl (subst (λ x. SyncFrom x (map unfinished_call flights ++ d ∷ []) left) (with_bytes-whole s f.begun f.node f.whole flying.0.puts (within s f flying.0 f.whole refl))
    (SyncFrom-last (next s d f flights flying two lets fits f.whole refl) d flights left (still s d f flights flying two lets fits f.whole refl).0 two.1 (lets_then s d f flights flying two lets fits f.whole refl)
    (fits_then s d f flights flying two lets fits f.whole refl)
    (subst (λ x. SyncFrom x (map unfinished_call flights) left) (sym ends_whole) acts)))
