-- A write that returned, below the published length too: the medium shows its bytes.
use Rattle.std.specs.Prelude.{◌≡◌, ◌≢◌, ◌⊎◌, ◌<◌, ◌≤◌, ◌+◌, ◌*◌, ◌/◌, ◌%◌, ◌||◌, ℕ, Bool, true, false, cond, List, [], ◌∷◌, ◌++◌, length, map, Option, Some, None, refl}
use Rattle.std.proofs.Common.{arith, ap, ◌∙◌, sym, subst, inl, inr}
use Rattle.std.proofs.lemmas.Bool.{cases_eq, cases_lt}
use Rattle.std.proofs.lemmas.List.{length-take}
use Rattle.world_image_laws.specs.pm_model.Words.{byte_of, Words}
use Rattle.world_image_laws.specs.layout_model.declared.lines.Kind.{Kind}
use Rattle.world_image_laws.specs.layout_model.declared.lines.Kind.TheVariants.{Directory, File, Free, Staging}
use Rattle.world_image_laws.specs.image_model.Content.{byte_in, disk_of, size_of}
use Rattle.world_image_laws.specs.image_model.Volume.{inode, Volume}
use Rattle.world_image_laws.specs.posix_types.declared.item.Item.{Item}
use Rattle.world_image_laws.specs.posix_tables.declared.nodes.Node.{Node}
use Rattle.world_image_laws.specs.posix_tables.Nodes.{bytes_of, node_at}
use Rattle.world_image_laws.specs.posix_spec.Put.{Put, put_by}
use Rattle.world_image_laws.specs.posix_spec.Run.{after_calls, Unfinished, begun, run}
use Rattle.world_image_laws.specs.posix_spec.State.{State}
use Rattle.world_image_laws.specs.posix_laws.OpenNodes.{or_left}
use Rattle.world_image_laws.specs.posix_laws.Publishes.{HasPublished, IsPublishing}
use Rattle.world_image_laws.specs.posix_laws.PutKeeps.{put_keeps}
use Rattle.world_image_laws.specs.posix_laws.Shortens.{shortens}
use Rattle.world_image_laws.specs.crash_spec.Posix.{ByteRule, LastBeforeCut, NodeLeft, syncs}
use Rattle.world_image_laws.specs.crash_spec.Values.{is_shortened, last_of, value_before_cut, value_of, value_put, with_value}
use Rattle.world_image_laws.specs.world_model.Stands.{is_used, IsUsed, NodeStands, number, Stands}
use Rattle.posix_mode_laws.specs.Batch.{IsBatch, KeepsShown, was_cut, WritesPublished}
use Rattle.posix_mode_laws.specs.BatchLaws.{StepsWritten}
use Rattle.posix_mode_laws.specs.BatchSteps.{after_is_run, batch_steps, begun_more, quiet_more, run_both, still_more, value_more, value_quiet, with_batch}
use Rattle.posix_mode_laws.specs.Permits.{ShownOf}
use Rattle.posix_mode_laws.specs.Reread.{reread, reread_left, reread_stands}
use Rattle.posix_mode_laws.specs.Sides.{IsSettled, MediumStands, PosixWorld, Same, Sides, sized, StillPublished}
use Rattle.posix_mode_laws.specs.Sized.{kind-sized}

-- ---- lengths

-- a byte that is left is one that was published
left_published : (rule : ByteRule) (n : ℕ) (x y : Node) (i : ℕ) → NodeLeft rule n x y → i < length (bytes_of y) → HasPublished x i
left_published rule n Node.Gone y i is below = absurd (let none = subst (λ z. i < length (bytes_of z)) is below in omega (arith, none))
left_published rule n Node.Directory y i is below = absurd (let none = subst (λ z. i < length (bytes_of z)) is below in omega (arith, none))
left_published rule n (Node.File file) Node.Gone i is below = absurd is
left_published rule n (Node.File file) Node.Directory i is below = absurd is
left_published rule n (Node.File file) (Node.File left) i is below =
    let size = is.size in
    let long = length-take file.published file.bytes in
    record { below = omega (arith, below, size, long); there = omega (arith, below, size, long) }

-- and one that is published is left
published_left : (rule : ByteRule) (n : ℕ) (x y : Node) (i : ℕ) → NodeLeft rule n x y → HasPublished x i → i < length (bytes_of y)
published_left rule n Node.Gone y i is has = absurd (let none = has.there in omega (arith, none))
published_left rule n Node.Directory y i is has = absurd (let none = has.there in omega (arith, none))
published_left rule n (Node.File file) Node.Gone i is has = absurd is
published_left rule n (Node.File file) Node.Directory i is has = absurd is
published_left rule n (Node.File file) (Node.File left) i is has =
    let size = is.size in
    let long = length-take file.published file.bytes in
    let low = has.below in
    let there = has.there in
    omega (arith, size, long, low, there)

file_size : (v : Volume) (f : Words) (ino : ℕ) (node : Node) → NodeStands v [] f ino File node → size_of v [] ino ≡ length (bytes_of node)
file_size v f ino Node.Gone is = absurd is
file_size v f ino Node.Directory is = absurd is
file_size v f ino (Node.File file) is = is.size

file_stays : (v : Volume) (f : Words) (ino : ℕ) (node : Node) → NodeStands v [] f ino Directory node → bytes_of node ≡ []
file_stays v f ino Node.Gone is = absurd is
file_stays v f ino Node.Directory is = refl
file_stays v f ino (Node.File file) is = absurd is

some_put : (s : State) (c : Unfinished) (n i y : ℕ) → value_put s c n i ≡ Some y → (p : Put) × (put_by s c.0 c.1 ≡ Some p)
some_put s c n i y = by (put_by s c.0 c.1) where
  by : (o : Option Put) → value_of o n i ≡ Some y → (p : Put) × (o ≡ Some p)
  by None is = cc
  by (Some p) is = (p, refl)

last_put : (b : Bool) (o : Option ℕ) (old y : ℕ) → b ≡ false → o ≡ Some y → cond b old (last_of old (with_value o [])) ≡ y
last_put b o old y uncut put = rw (uncut, put) refl

neither : (a b : Bool) → a ≡ false → b ≡ false → (a || b) ≡ false
neither a b first second = rw (first, second) refl

module _ (w x : Sides) (f h : Words) (start : State) (front later : List Item) (item : Item) (ino first last : ℕ) (world : PosixWorld LastBeforeCut w f start front later)
    (publishing : IsPublishing (run start (front ++ later))) (committed : x.committed ≡ w.committed) (numbers : x.committed_numbers ≡ w.committed_numbers) (not_sync : syncs item ≡ false)
    (writes : WritesPublished w f h (run start (front ++ later)) (begun item) ino first last) (batch : IsBatch x h start front (later ++ item ∷ [])) where
  -- so far as the call saw it
  now_is : run start (front ++ later) ≡ after_calls (run start front) (map begun later)
  now_is = run_both start front later ∙ sym (after_is_run (run start front) later)

  batch_used : IsUsed w.batch ino
  batch_used = ap is_used writes.file

  -- the file is there still
  now_file : node_at (run start (front ++ later)).nodes (number w.numbers ino) ≡ Node.Gone → ⊥
  now_file gone =
      let kind = kind-sized w.lengths w.batch ino ∙ writes.file in
      let there = world.live.nodes.each ino (ap is_used kind) in
      let standing = subst (λ k. NodeStands (sized w.lengths w.batch) w.staged f ino k (node_at (run start (front ++ later)).nodes (number w.numbers ino))) kind there in
      subst (NodeStands (sized w.lengths w.batch) w.staged f ino File) gone standing

  -- what is published now is below the size in the batch
  now_below : (i : ℕ) → HasPublished (node_at (run start (front ++ later)).nodes (number w.numbers ino)) i → i < size_of w.batch [] ino
  now_below i has =
      let left = published_left Same (number w.numbers ino) (node_at (run start (front ++ later)).nodes (number w.numbers ino)) (node_at world.cut.state.nodes (number w.numbers ino)) i (world.cut.left.each (number w.numbers ino)) has in
      let there = world.cut.stands.nodes.each ino batch_used in
      let standing = subst (λ k. NodeStands w.batch [] f ino k (node_at world.cut.state.nodes (number w.numbers ino))) writes.file there in
      subst (λ k. i < k) (sym (file_size w.batch f ino (node_at world.cut.state.nodes (number w.numbers ino)) standing)) left

  -- a byte of the medium past that size was cut off since
  cut_past : (i : ℕ) → i < length (bytes_of (node_at world.medium.state.nodes (number w.numbers ino))) → size_of w.batch [] ino ≤ i
      → was_cut (run start front) (map begun later) (begun item) (number w.numbers ino) i ≡ true
  cut_past i below past = by (world.medium.published (number w.numbers ino) i has) where
    has : HasPublished (node_at (run start front).nodes (number w.numbers ino)) i
    has = left_published (LastBeforeCut (run start front) (map begun later)) (number w.numbers ino) (node_at (run start front).nodes (number w.numbers ino)) (node_at world.medium.state.nodes (number w.numbers ino)) i
        (world.medium.left.each (number w.numbers ino)) below

    by : StillPublished (run start front) (map begun later) (run (run start front) later) (number w.numbers ino) i → was_cut (run start front) (map begun later) (begun item) (number w.numbers ino) i ≡ true
    by (inl cut) = or_left (is_shortened (run start front) (map begun later) (number w.numbers ino) i) (shortens (after_calls (run start front) (map begun later)) (begun item) (number w.numbers ino) i) cut
    by (inr (inl gone)) = absurd (now_file (ap (λ (t : State). node_at t.nodes (number w.numbers ino)) (run_both start front later) ∙ gone))
    by (inr (inr still)) =
        let low = now_below i (subst (λ (t : State). HasPublished (node_at t.nodes (number w.numbers ino)) i) (sym (run_both start front later)) still) in
        absurd (omega (arith, low, past))

  -- beside the range the call puts nothing that the medium shows
  quiet : (n i : ℕ) → i < length (bytes_of (node_at world.medium.state.nodes n)) → ((n ≡ number w.numbers ino) × (first ≤ i) × (i < last) → ⊥)
      → (value_put (run start (front ++ later)) (begun item) n i ≡ None) ⊎ (was_cut (run start front) (map begun later) (begun item) n i ≡ true)
  quiet n i below outside = elim (cases_eq n (number w.numbers ino)) [
    | inr other ↦ inl (writes.own n i other)
    | inl same ↦ elim (cases_lt i (size_of w.batch [] ino)) [
      | inl low ↦ inl (ap (λ k. value_put (run start (front ++ later)) (begun item) k i) same ∙ writes.beyond i (λ range. outside (same, range.0, range.1)) low)
      | inr past ↦ inr (ap (λ k. was_cut (run start front) (map begun later) (begun item) k i) same ∙ cut_past i (subst (λ k. i < length (bytes_of (node_at world.medium.state.nodes k))) same below) past)
    ]
  ]

  -- where it shows nothing of the range
  unseen : KeepsShown w.committed f h → ((i : ℕ) → first ≤ i → i < last → i < length (bytes_of (node_at world.medium.state.nodes (number w.numbers ino))) → ⊥)
      → PosixWorld LastBeforeCut x h start front (later ++ item ∷ [])
  unseen shown never =
      batch_steps w x f h start front later (item ∷ []) world publishing committed numbers shown
      (not_sync, record { each = λ n i below. quiet n i below (λ in_range. never i in_range.1 in_range.2 (subst (λ k. i < length (bytes_of (node_at world.medium.state.nodes k))) in_range.0 below)) }) batch

  -- a byte of the range is the call's
  put_there : (i z b : ℕ) → first ≤ i → i < last → disk_of w.batch [] ino (i / 4096) ≡ Some b → IsSettled w ino (i / 4096) b
      → byte_of h (4096 * b + i % 4096) ≡ value_before_cut (run start front) (map begun (later ++ item ∷ [])) (number w.numbers ino) i z
  put_there i z b from low at settled =
      let puts = writes.puts i b from low at in
      let n : ℕ = number w.numbers ino in
      let puts_now = subst (λ (t : State). value_put t (begun item) n i ≡ Some (byte_of h (4096 * b + i % 4096))) now_is puts in
      let put = some_put (after_calls (run start front) (map begun later)) (begun item) n i (byte_of h (4096 * b + i % 4096)) puts_now in
      let whole = put_keeps (after_calls (run start front) (map begun later)) item.who item.call put.0 put.1 n i in
      let most = writes.published in
      let uncut = world.cuts.settled ino i b batch_used (omega (arith, low, most)) at settled in
      let none = neither (is_shortened (run start front) (map begun later) n i) (shortens (after_calls (run start front) (map begun later)) (begun item) n i) uncut whole in
      sym (
      ap (λ calls. value_before_cut (run start front) calls n i z) (begun_more later item)
      ∙ value_more (run start front) (map begun later) (begun item) n i z
      ∙ last_put (was_cut (run start front) (map begun later) (begun item) n i) (value_put (after_calls (run start front) (map begun later)) (begun item) n i)
      (value_before_cut (run start front) (map begun later) n i z) (byte_of h (4096 * b + i % 4096)) none puts_now)

  -- the file of the medium has the bytes of the call
  seen : (inode w.committed ino).kind ≡ File → number w.committed_numbers ino ≡ number w.numbers ino → PosixWorld LastBeforeCut x h start front (later ++ item ∷ [])
  seen file same = with_batch x h start front (later ++ item ∷ []) (record {
    state = reread w.committed h ino w.committed_numbers m.state;
    shape = m.shape;
    left = reread_left w.committed f h w.committed_numbers m.state ino m.stands file (LastBeforeCut (run start front) (map begun later)) (LastBeforeCut (run start front) (map begun (later ++ item ∷ []))) (run start front)
        others own m.left;
    stands = subst (λ (v : Volume). Stands v [] h x.committed_numbers (reread w.committed h ino w.committed_numbers m.state)) (sym committed)
        (subst (λ (ns : List ℕ). Stands w.committed [] h ns (reread w.committed h ino w.committed_numbers m.state)) (sym numbers) (reread_stands w.committed f h w.committed_numbers m.state ino m.stands file shown));
    fsyncs = quiet_more later item m.fsyncs not_sync;
    published = still_more w f start front later item world publishing;
  }) batch where
    m : MediumStands LastBeforeCut w f start front later
    m = world.medium

    shown : (j : ℕ) → IsUsed w.committed j → j ≢ ino → ShownOf w.committed f h j
    shown j used other i kind below = writes.others j i kind below (λ in_range. other in_range.0)

    -- a byte of which the call puts nothing, or which was cut off
    stays : (n i z y : ℕ) → i < length (bytes_of (node_at m.state.nodes n)) → ((n ≡ number w.numbers ino) × (first ≤ i) × (i < last) → ⊥)
        → LastBeforeCut (run start front) (map begun later) n i z y → LastBeforeCut (run start front) (map begun (later ++ item ∷ [])) n i z y
    stays n i z y below outside is =
        let still = subst (λ (t : State). (value_put t (begun item) n i ≡ None) ⊎ (was_cut (run start front) (map begun later) (begun item) n i ≡ true)) now_is (quiet n i below outside) in
        is ∙ sym (value_quiet (run start front) (map begun later) (begun item) n i z still) ∙ ap (λ calls. value_before_cut (run start front) calls n i z) (sym (begun_more later item))

    others : (n i z y : ℕ) → n ≢ number w.committed_numbers ino → i < length (bytes_of (node_at m.state.nodes n)) → LastBeforeCut (run start front) (map begun later) n i z y
        → LastBeforeCut (run start front) (map begun (later ++ item ∷ [])) n i z y
    others n i z y other below is = stays n i z y below (λ in_range. other (in_range.0 ∙ sym same)) is

    m_size : size_of w.committed [] ino ≡ length (bytes_of (node_at m.state.nodes (number w.committed_numbers ino)))
    m_size = file_size w.committed f ino (node_at m.state.nodes (number w.committed_numbers ino))
        (subst (λ k. NodeStands w.committed [] f ino k (node_at m.state.nodes (number w.committed_numbers ino))) file (m.stands.nodes.each ino (ap is_used file)))

    beside : (i z : ℕ) → i < size_of w.committed [] ino → ((first ≤ i) × (i < last) → ⊥)
        → LastBeforeCut (run start front) (map begun later) (number w.committed_numbers ino) i z (byte_in f (disk_of w.committed [] ino (i / 4096)) i)
        → LastBeforeCut (run start front) (map begun (later ++ item ∷ [])) (number w.committed_numbers ino) i z (byte_in h (disk_of w.committed [] ino (i / 4096)) i)
    beside i z below outside is =
        writes.others ino i file below (λ in_range. outside (in_range.1, in_range.2))
        ∙ stays (number w.committed_numbers ino) i z (byte_in f (disk_of w.committed [] ino (i / 4096)) i) (subst (λ k. i < k) m_size below) (λ in_range. outside (in_range.1, in_range.2)) is

    within : (i z : ℕ) → first ≤ i → i < last → LastBeforeCut (run start front) (map begun (later ++ item ∷ [])) (number w.committed_numbers ino) i z (byte_in h (disk_of w.committed [] ino (i / 4096)) i)
    within i z from low =
        let block = writes.settled i from low in
        ap (λ o. byte_in h o i) block.2.same
        ∙ put_there i z block.0 from low block.1 block.2
        ∙ ap (λ n. value_before_cut (run start front) (map begun (later ++ item ∷ [])) n i z) (sym same)

    own : (i z : ℕ) → i < size_of w.committed [] ino → LastBeforeCut (run start front) (map begun later) (number w.committed_numbers ino) i z (byte_in f (disk_of w.committed [] ino (i / 4096)) i)
        → LastBeforeCut (run start front) (map begun (later ++ item ∷ [])) (number w.committed_numbers ino) i z (byte_in h (disk_of w.committed [] ino (i / 4096)) i)
    own i z below is = elim (cases_lt i first) [
      | inl before ↦ beside i z below (λ range. (let from = range.0 in omega (arith, before, from))) is
      | inr from ↦ elim (cases_lt i last) [
        | inl low ↦ within i z from low
        | inr past ↦ beside i z below (λ range. (let low = range.1 in omega (arith, past, low))) is
      ]
    ]

  -- what the medium has in the place of the file
  by_kind : (kind : Kind) → (inode w.committed ino).kind ≡ kind → is_used kind ≡ true → number w.committed_numbers ino ≡ number w.numbers ino → PosixWorld LastBeforeCut x h start front (later ++ item ∷ [])
  by_kind File is used same = seen is same
  by_kind Free is used same = absurd (let never : false ≡ true = used in cc)
  by_kind Staging is used same = absurd (let never : false ≡ true = used in cc)
  by_kind Directory is used same = unseen shown never where
    shown : KeepsShown w.committed f h
    shown j i file below = writes.others j i file below (λ in_range. (let never : Directory ≡ File = sym is ∙ (ap (λ k. (inode w.committed k).kind) (sym in_range.0) ∙ file) in cc))

    none : bytes_of (node_at world.medium.state.nodes (number w.numbers ino)) ≡ []
    none =
        ap (λ k. bytes_of (node_at world.medium.state.nodes k)) (sym same)
        ∙ file_stays w.committed f ino (node_at world.medium.state.nodes (number w.committed_numbers ino))
        (subst (λ k. NodeStands w.committed [] f ino k (node_at world.medium.state.nodes (number w.committed_numbers ino))) is (world.medium.stands.nodes.each ino (ap is_used is)))

    never : (i : ℕ) → first ≤ i → i < last → i < length (bytes_of (node_at world.medium.state.nodes (number w.numbers ino))) → ⊥
    never i from low below = let empty = subst (λ (bs : List ℕ). i < length bs) none below in omega (arith, empty)

  pub written : PosixWorld LastBeforeCut x h start front (later ++ item ∷ [])
  written = elim (cases_lt first last) [
    | inl some ↦ (let block = writes.settled first (omega arith) some in by_kind (inode w.committed ino).kind refl block.2.used block.2.node)
    | inr empty ↦ unseen (λ j i file below. writes.others j i file below (λ in_range. (let from = in_range.1 in let low = in_range.2 in omega (arith, from, low, empty)))) (λ i from low below. omega (arith, from, low, empty))
  ]

pub written_steps : StepsWritten
written_steps w x f h start front later item ino first last world publishing committed numbers not_sync writes batch =
    written w x f h start front later item ino first last world publishing committed numbers not_sync writes batch
