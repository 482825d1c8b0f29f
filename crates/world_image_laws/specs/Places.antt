-- A write of which a part is found, first or among other writes in flight: the trees that power loss may leave.
use Rattle.std.specs.Prelude.{◌≡◌, ◌≢◌, ◌<◌, ◌≤◌, ◌+◌, ℕ, Bool, true, false, cond, List, [], ◌∷◌, ◌++◌, length, map, slice_set, Some, refl}
use Rattle.std.proofs.Common.{arith, ap, ◌∙◌, sym, subst, inl, inr}
use Rattle.std.proofs.lemmas.List.{get_or-set_other, set_comm}
use Rattle.std.proofs.lemmas.Option.{same_Some}
use Rattle.world_step_laws.specs.commute_laws.posix_types.declared.call.Call.{Call}
use Rattle.world_step_laws.specs.commute_laws.posix_types.declared.call.Who.{Who}
use Rattle.world_step_laws.specs.commute_laws.posix_types.declared.tree.TreeEntry.{TreeEntry}
use Rattle.world_step_laws.specs.commute_laws.posix_tables.declared.nodes.Node.{Node}
use Rattle.world_step_laws.specs.commute_laws.posix_tables.Nodes.{bytes_of, node_at, published_of}
use Rattle.world_step_laws.specs.commute_laws.posix_spec.Put.{Put, put_by}
use Rattle.world_step_laws.specs.commute_laws.posix_spec.Run.{after_call}
use Rattle.world_step_laws.specs.commute_laws.posix_spec.State.{room, State, with_file}
use Rattle.world_step_laws.specs.commute_laws.crash_spec.Sync.{ActsInPart, file_bytes, IsPartOf, SyncFrom, with_bytes}
use Rattle.world_step_laws.specs.commute_laws.posix_laws.Puts.{PutsWhole, with_whole}
use Rattle.world_step_laws.specs.commute_laws.posix_laws.Views.{AreAfforded, need_of}
use Rattle.world_step_laws.specs.commute_laws.Commutes.{takes}
use Rattle.world_step_laws.specs.commute_laws.Flights.{InFlight}
use Rattle.world_step_laws.specs.commute_laws.Frames.{AreThreads}
use Rattle.world_step_laws.specs.commute_laws.Handles.{same_who-sym}
use Rattle.world_step_laws.specs.commute_laws.Needs.{AreInFlight, AreTwo, Flight, IsApart, LetsAllBe-flight, needs, needs-cons, unfinished_call}
use Rattle.world_step_laws.specs.commute_laws.Orders.{AreTwoEach, Commute-two}
use Rattle.world_step_laws.specs.world_model.Beside.{bytes-after, Fits-after, with_bytes-whole}
use Rattle.world_step_laws.specs.world_model.Jobs.{Job}
use Rattle.world_step_laws.specs.world_model.Stands.{number}
use Rattle.world_step_laws.specs.Parts.{FliesWith, GoOnAtFirst, GoOnInPart, part_of}
use Rattle.world_step_laws.specs.Steps.{begun-flights, flights_of, GoOn, HaveSameFiles}
use Rattle.world_image_laws.specs.PartOrders.{ends, leaves, room_left, still_flying, within}

-- ---- two writes of which parts are found, in either order

-- two files' bytes are set in either order
with_bytes-comm : (x : State) (m n : ℕ) (a b : List ℕ) → m ≢ n → with_bytes (with_bytes x m a) n b ≡ with_bytes (with_bytes x n b) m a
unfolding with_file
with_bytes-comm x m n a b other = λ i. record x { nodes = nodes i } where
  one : List ℕ → ℕ → Node
  one bytes k = Node.File (record { bytes = bytes; published = published_of (node_at x.nodes k) })

  nodes : slice_set (slice_set x.nodes m (one a m)) n (Node.File (record { bytes = b; published = published_of (node_at (slice_set x.nodes m (one a m)) n) }))
      ≡ slice_set (slice_set x.nodes n (one b n)) m (Node.File (record { bytes = a; published = published_of (node_at (slice_set x.nodes n (one b n)) m) }))
  nodes =
      ap (λ y. slice_set (slice_set x.nodes m (one a m)) n (Node.File (record { bytes = b; published = published_of y })))
      (get_or-set_other x.nodes m n (one a m) Node.Gone (λ same. other (sym same)))
      ∙ (set_comm x.nodes m n (one a m) (one b n) other
      ∙ ap (λ y. slice_set (slice_set x.nodes n (one b n)) m (Node.File (record { bytes = a; published = published_of y })))
      (sym (get_or-set_other x.nodes n m (one b n) Node.Gone other)))

turned : (a b : Who) → AreThreads a b → AreThreads b a
turned a b threads = record {
  other = same_who-sym a b ∙ threads.other;
  thread = same_who-sym a Who.Setup ∙ threads.own;
  own = same_who-sym Who.Setup b ∙ threads.thread;
}

turned_two : (f g : Flight) → AreTwo f g → AreTwo g f
turned_two f g two = record { threads = turned g.begun.0 f.begun.0 two.threads; files = λ same. two.files (sym same) }

takes_at_most : (b : Bool) (n : ℕ) → cond b 0 n ≤ n
takes_at_most true n = omega arith
takes_at_most false n = omega arith

takes_its_need : (s : State) (who : Who) (call : Call) (node : ℕ) (whole : List ℕ) → PutsWhole s who call node whole → takes s (who, call) ≤ need_of s who call
unfolding put_by
takes_its_need s who (Call.Write h x) node whole puts = takes_at_most _ _
takes_its_need s who (Call.Pwrite h start x) node whole puts = takes_at_most _ _
takes_its_need s who call node whole puts = let never = puts.is in cc

module _ (s : State) (f g : Flight) (one : InFlight s f.begun f.node f.whole) (other : InFlight s g.begun g.node g.whole) (two : AreTwo f g)
    (fits : need_of s f.begun.0 f.begun.1 + need_of s g.begun.0 g.begun.1 ≤ room s) where
  fits_one : takes s g.begun + needs s (f ∷ []) ≤ room s
  fits_one =
      let least = takes_its_need s g.begun.0 g.begun.1 g.node g.whole other.puts in
      let sum = needs-cons s f [] in
      omega (arith, least, sum, fits)

  -- another write acts behind what is found of one as before it
  behind : (bytes : List ℕ) → length bytes ≡ length f.whole → after_call (part_of s f bytes) g.begun ≡ part_of (after_call s g.begun) f bytes
  behind bytes size =
      ends s g.begun f [] (one, tt) (tt, tt) (LetsAllBe-flight s g (f ∷ []) other (turned_two f g two, tt)) fits_one bytes size

module _ (s : State) (f g : Flight) (one : InFlight s f.begun f.node f.whole) (other : InFlight s g.begun g.node g.whole) (two : AreTwo f g)
    (fits : need_of s f.begun.0 f.begun.1 + need_of s g.begun.0 g.begun.1 ≤ room s) where
  -- What is found of one stands behind what is found of the other as before it.
  pub parts-comm : (now then : List ℕ) → length now ≡ length f.whole → length then ≡ length g.whole
      → part_of (part_of s f now) g then ≡ part_of (part_of s g then) f now
  parts-comm now then now_size then_size =
      ap (λ x. with_bytes x g.node then) (behind s f g one other two fits now now_size)
      ∙ (with_bytes-comm (after_call (after_call s g.begun) f.begun) f.node g.node now then two.files
      ∙ (ap (λ x. with_bytes (with_bytes x g.node then) f.node now) (sym (Commute-two s f.begun g.begun f.node g.node f.whole g.whole one other (turned g.begun.0 f.begun.0 two.threads) (λ same. two.files (sym same)) fits).states)
      ∙ ap (λ x. with_bytes x f.node now) (sym (behind s g f other one (turned_two f g two) (omega (arith, fits)) then then_size))))

-- ---- one of them is found in part, before the others

module _ (s : State) (f g : Flight) (rest : List Flight) (flying : AreInFlight s (f ∷ (g ∷ rest))) (two : AreTwoEach (f ∷ (g ∷ rest))) (fits : needs s (f ∷ (g ∷ rest)) ≤ room s) (bytes : List ℕ) (part : IsPartOf (file_bytes s f.node) f.whole bytes) where
  sum : needs s (f ∷ (g ∷ rest)) ≡ need_of s f.begun.0 f.begun.1 + (need_of s g.begun.0 g.begun.1 + needs s rest)
  sum = needs-cons s f (g ∷ rest) ∙ ap (λ n. need_of s f.begun.0 f.begun.1 + n) (needs-cons s g rest)

  fits_rest : needs s (f ∷ rest) ≤ room s
  fits_rest = let less = needs-cons s f rest in omega (arith, sum, less, fits)

  abbrev next : State
  next = part_of s f bytes

  flies : InFlight next g.begun g.node g.whole
  flies = (still_flying s f flying.0 bytes part.size (g ∷ rest) flying.1 two.0 (room_left s f flying.0 bytes part.size (needs s (g ∷ rest)) (let whole = needs-cons s f (g ∷ rest) in omega (arith, whole, fits)))).0.0

  there : f.node < length s.nodes
  there = within s f flying.0 bytes part.size

  there_next : g.node < length s.nodes
  there_next = within s g flying.1.0 g.whole refl

  same_old : file_bytes next g.node ≡ file_bytes s g.node
  same_old = ap (λ nodes. bytes_of (node_at nodes g.node)) (leaves s f flying.0 bytes part.size).nodes
      ∙ ap bytes_of (get_or-set_other s.nodes f.node g.node (with_whole s f.node bytes) Node.Gone (λ same. two.0.0.files (sym same)))

  -- the next one behind it has other bytes found
  module _ (then : List ℕ) (size : length then ≡ length g.whole) where
    abbrev first : State
    first = part_of s g then

    on : AreInFlight first (f ∷ rest) × (needs first (f ∷ rest) ≡ needs s (f ∷ rest))
    on = still_flying s g flying.1.0 then size (f ∷ rest) (flying.0, flying.1.1) (turned_two f g two.0.0, two.1.0) room_first where
      room_first : needs s (f ∷ rest) ≤ room first
      room_first = room_left s g flying.1.0 then size (needs s (f ∷ rest)) (let less = needs-cons s f rest in omega (arith, sum, less, fits))

    fits_first : needs first (f ∷ rest) ≤ room first
    fits_first =
        let same = on.1 in
        let left = room_left s g flying.1.0 then size (needs s (f ∷ rest)) (let less = needs-cons s f rest in omega (arith, sum, less, fits)) in
        omega (arith, same, left)

    part_first : IsPartOf (file_bytes first f.node) f.whole bytes
    part_first = subst (λ old. IsPartOf old f.whole bytes) (sym same) part where
      same : file_bytes first f.node ≡ file_bytes s f.node
      same = ap (λ nodes. bytes_of (node_at nodes f.node)) (leaves s g flying.1.0 then size).nodes
          ∙ ap bytes_of (get_or-set_other s.nodes g.node f.node (with_whole s g.node then) Node.Gone two.0.0.files)

    swap : part_of next g then ≡ part_of first f bytes
    swap = parts-comm s f g flying.0 flying.1.0 two.0.0 (omega (arith, sum, fits)) bytes then part.size size

  -- what is found of the next one behind it, is found of it before
  module _ (after : State) (acts : ActsInPart next g.begun after) where
    node_is : acts.put.node ≡ g.node
    node_is = ap (λ (p : Put). p.node) (same_Some acts.put flies.puts.put (sym acts.is_write ∙ flies.puts.is)) ∙ flies.puts.node_is

    whole_then : file_bytes (after_call next g.begun) g.node ≡ g.whole
    whole_then = bytes-after next g.begun g.node g.whole flies.puts (within next g flies g.whole refl)

    found : IsPartOf (file_bytes s g.node) g.whole acts.bytes
    found =
        subst (λ old. IsPartOf old g.whole acts.bytes) same_old
        (subst (λ whole. IsPartOf (file_bytes next g.node) whole acts.bytes) whole_then
        (subst (λ n. IsPartOf (file_bytes next n) (file_bytes (after_call next g.begun) n) acts.bytes) node_is acts.part))

    acts_first : ActsInPart s g.begun (part_of s g acts.bytes)
    acts_first = record {
      put = flying.1.0.puts.put;
      bytes = acts.bytes;
      is_write = flying.1.0.puts.is;
      part =
          subst (λ n. IsPartOf (file_bytes s n) (file_bytes (after_call s g.begun) n) acts.bytes) (sym flying.1.0.puts.node_is)
          (subst (λ whole. IsPartOf (file_bytes s g.node) whole acts.bytes) (sym (bytes-after s g.begun g.node g.whole flying.1.0.puts there_next)) found);
      next_is = ap (λ n. with_bytes (after_call s g.begun) n acts.bytes) (sym flying.1.0.puts.node_is);
    }

    after_is : after ≡ part_of (part_of s g acts.bytes) f bytes
    after_is = acts.next_is ∙ (ap (λ n. with_bytes (after_call next g.begun) n acts.bytes) node_is ∙ swap acts.bytes found.size)

-- ---- among others

-- it acts in part itself
acts_itself : (s : State) (f : Flight) (bytes : List ℕ) → InFlight s f.begun f.node f.whole → IsPartOf (file_bytes s f.node) f.whole bytes → ActsInPart s f.begun (part_of s f bytes)
acts_itself s f bytes flight part = record {
  put = flight.puts.put;
  bytes = bytes;
  is_write = flight.puts.is;
  part =
      subst (λ n. IsPartOf (file_bytes s n) (file_bytes (after_call s f.begun) n) bytes) (sym flight.puts.node_is)
      (subst (λ whole. IsPartOf (file_bytes s f.node) whole bytes) (sym (bytes-after s f.begun f.node f.whole flight.puts (within s f flight f.whole refl))) part);
  next_is = ap (λ n. with_bytes (after_call s f.begun) n bytes) (sym flight.puts.node_is);
}

-- WHAT IS FOUND OF A WRITE MAY STAND FIRST OR AMONG OTHERS.
pub SyncFrom-part : (s : State) (f : Flight) (a b : List Flight) (bytes : List ℕ) (left : List TreeEntry) → AreInFlight s (f ∷ (a ++ b)) → AreTwoEach (f ∷ (a ++ b)) → needs s (f ∷ (a ++ b)) ≤ room s
    → IsPartOf (file_bytes s f.node) f.whole bytes → SyncFrom (part_of s f bytes) (map unfinished_call (a ++ b)) left → SyncFrom s (map unfinished_call a ++ f.begun ∷ map unfinished_call b) left
SyncFrom-part s f [] b bytes left flying two fits part sync = inr (inl (part_of s f bytes, acts_itself s f bytes flying.0 part, sync))
SyncFrom-part s f (g ∷ a) b bytes left flying two fits part (inr (inr idle)) =
    inr (inr (SyncFrom-part s f a b bytes left (flying.0, flying.1.1) (two.0.1, two.1.1) (fits_rest s f g (a ++ b) flying two fits bytes part) part idle))
SyncFrom-part s f (g ∷ a) b bytes left flying two fits part (inr (inl (after, acts, rest))) =
    let is = found s f g (a ++ b) flying two fits bytes part after acts in
    inr (inl (
      part_of s g acts.bytes,
      acts_first s f g (a ++ b) flying two fits bytes part after acts,
      SyncFrom-part (part_of s g acts.bytes) f a b bytes left (on s f g (a ++ b) flying two fits bytes part acts.bytes is.size).0 (two.0.1, two.1.1) (fits_first s f g (a ++ b) flying two fits bytes part acts.bytes is.size)
          (part_first s f g (a ++ b) flying two fits bytes part acts.bytes is.size)
          (subst (λ x. SyncFrom x (map unfinished_call (a ++ b)) left) (after_is s f g (a ++ b) flying two fits bytes part after acts) rest),
    ))
SyncFrom-part s f (g ∷ a) b bytes left flying two fits part (inl whole) =
    let then_is = behind s f g flying.0 flying.1.0 two.0.0 (let sum_is = sum s f g (a ++ b) flying two fits bytes part in omega (arith, sum_is, fits)) bytes part.size in
    let first_is = with_bytes-whole s g.begun g.node g.whole flying.1.0.puts (within s g flying.1.0 g.whole refl) in
    inl (subst (λ x. SyncFrom x (map unfinished_call a ++ f.begun ∷ map unfinished_call b) left) first_is
    (SyncFrom-part (part_of s g g.whole) f a b bytes left (on s f g (a ++ b) flying two fits bytes part g.whole refl).0 (two.0.1, two.1.1) (fits_first s f g (a ++ b) flying two fits bytes part g.whole refl)
    (part_first s f g (a ++ b) flying two fits bytes part g.whole refl)
    (subst (λ x. SyncFrom x (map unfinished_call (a ++ b)) left) (then_is ∙ ap (λ x. part_of x f bytes) (sym first_is)) whole)))

-- ---- the jobs go on

node_apart : (s : State) (f : Flight) (bytes : List ℕ) (n : ℕ) → InFlight s f.begun f.node f.whole → length bytes ≡ length f.whole → f.node ≢ n → node_at (part_of s f bytes).nodes n ≡ node_at s.nodes n
node_apart s f bytes n flight size apart =
    ap (λ nodes. node_at nodes n) (leaves s f flight bytes size).nodes
    ∙ get_or-set_other s.nodes f.node n (with_whole s f.node bytes) Node.Gone (λ same. apart (sym same))

files_in_part : (s : State) (f : Flight) (numbers : List ℕ) (jobs : List Job) (now then : List ℕ) → InFlight s f.begun f.node f.whole → length now ≡ length f.whole → length then ≡ length f.whole
    → IsApart f (flights_of numbers jobs) → HaveSameFiles (part_of s f now) (part_of s f then) numbers jobs
files_in_part s f numbers [] now then flight now_size then_size apart = tt
files_in_part s f numbers (j ∷ jobs) now then flight now_size then_size apart = (
  node_apart s f then (number numbers j.draft.ino) flight then_size apart.0.files ∙ sym (node_apart s f now (number numbers j.draft.ino) flight now_size apart.0.files),
  files_in_part s f numbers jobs now then flight now_size then_size apart.1,
)

files_at_first : (s : State) (f : Flight) (numbers : List ℕ) (jobs : List Job) (now : List ℕ) → InFlight s f.begun f.node f.whole → length now ≡ length f.whole
    → IsApart f (flights_of numbers jobs) → HaveSameFiles s (part_of s f now) numbers jobs
files_at_first s f numbers [] now flight size apart = tt
files_at_first s f numbers (j ∷ jobs) now flight size apart =
    (node_apart s f now (number numbers j.draft.ino) flight size apart.0.files, files_at_first s f numbers jobs now flight size apart.1)

-- whatever the state was before, if their files were these
go_on_by : (s old : State) (f : Flight) (numbers : List ℕ) (jobs : List Job) (now : List ℕ) → FliesWith s f numbers jobs → length now ≡ length f.whole → HaveSameFiles old (part_of s f now) numbers jobs
    → GoOn old (part_of s f now) numbers jobs
go_on_by s old f numbers jobs now flies size files =
    let one = flies.flying.0 in
    let parts = needs-cons s f (flights_of numbers jobs) in
    let left = room_left s f one now size (needs s (flights_of numbers jobs)) (let all = flies.fits in omega (arith, parts, all)) in
    let still = still_flying s f one now size (flights_of numbers jobs) flies.flying.1 flies.two.0 left in
    record {
      flying_on = still.0;
      files = files;
      fits = Fits-after s (part_of s f now) f.begun f.node f.whole now one.puts (leaves s f one now size) size (let all = flies.fits in omega (arith, parts, all)) flies.held;
      room = subst (AreAfforded (part_of s f now)) (begun-flights numbers jobs) (let same = still.1 in omega (arith, left, same));
    }

pub go_on_in_part : GoOnInPart
go_on_in_part s f numbers jobs now then flies now_size then_size =
    go_on_by s (part_of s f now) f numbers jobs then flies then_size (files_in_part s f numbers jobs now then flies.flying.0 now_size then_size flies.two.0)

pub go_on_at_first : GoOnAtFirst
go_on_at_first s f numbers jobs now flies size = go_on_by s s f numbers jobs now flies size (files_at_first s f numbers jobs now flies.flying.0 size flies.two.0)
