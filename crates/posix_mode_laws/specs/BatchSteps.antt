-- A change or a call that writes nothing that the medium shows leaves the three standings.
use Rattle.std.specs.Prelude.{◌≡◌, ◌⊎◌, ◌<◌, ◌||◌, ℕ, Bool, true, false, cond, List, [], ◌∷◌, ◌++◌, length, map, Option, Some, None, refl}
use Rattle.std.specs.List.{list_any}
use Rattle.std.proofs.Common.{arith, ap, append-nil, ◌∙◌, sym, subst, inl, inr}
use Rattle.std.proofs.lemmas.List.{map-append}
use Rattle.std.proofs.lemmas.List.Folds.{list_any-append}
use Rattle.world_image_laws.specs.pm_model.Words.{Words}
use Rattle.world_image_laws.specs.image_model.Volume.{Volume}
use Rattle.world_image_laws.specs.posix_types.declared.item.Item.{Item}
use Rattle.world_image_laws.specs.posix_tables.declared.nodes.Node.{Node}
use Rattle.world_image_laws.specs.posix_tables.Nodes.{bytes_of, node_at}
use Rattle.world_image_laws.specs.posix_spec.Run.{after_call, after_calls, Unfinished, begun, run, run-append}
use Rattle.world_image_laws.specs.posix_spec.State.{State}
use Rattle.world_image_laws.specs.posix_spec.Step.{step}
use Rattle.world_image_laws.specs.posix_laws.Lasting.{run_lasts}
use Rattle.world_image_laws.specs.posix_laws.NodeSteps.{gone_kept, published_kept}
use Rattle.world_image_laws.specs.posix_laws.OpenNodes.{or_left, or_right}
use Rattle.world_image_laws.specs.posix_laws.Publishes.{HasPublished, IsPublishing, PathsLeadToNodes}
use Rattle.world_image_laws.specs.posix_laws.PublishLaws.{node_below}
use Rattle.world_image_laws.specs.posix_laws.Shortens.{shortens}
use Rattle.world_image_laws.specs.crash_spec.Posix.{ByteRule, IsLeft, LastBeforeCut, NodeLeft, syncs}
use Rattle.world_image_laws.specs.crash_spec.Values.{is_shortened, last_of, value_before_cut, value_put, with_value}
use Rattle.world_image_laws.specs.world_model.Stands.{Stands}
use Rattle.posix_mode_laws.specs.Batch.{IsBatch, KeepsShown, LeavesMedium, was_cut}
use Rattle.posix_mode_laws.specs.BatchLaws.{StepsBatch}
use Rattle.posix_mode_laws.specs.Leading.{paths_lead}
use Rattle.posix_mode_laws.specs.Permits.{keeps_words}
use Rattle.posix_mode_laws.specs.Sides.{MediumStands, PosixWorld, Sides, sized, StillPublished}

-- ---- histories

pub run_both : (s : State) (a b : List Item) → run s (a ++ b) ≡ run (run s a) b
run_both s [] b = refl
run_both s (item ∷ items) b = run_both (step s item.who item.call).state items b

pub after_is_run : (s : State) (items : List Item) → after_calls s (map begun items) ≡ run s items
after_is_run s [] = refl
after_is_run s (item ∷ items) = after_is_run (step s item.who item.call).state items

pub begun_more : (later : List Item) (item : Item) → map begun (later ++ item ∷ []) ≡ map begun later ++ begun item ∷ []
begun_more later item = map-append begun later (item ∷ [])

-- ---- one call more

or_none : (b : Bool) → (b || false) ≡ b
or_none true = refl
or_none false = refl

or_grouped : (a b c : Bool) → ((a || b) || c) ≡ (a || (b || c))
or_grouped true b c = refl
or_grouped false b c = refl

pub shortened_more : (s : State) (calls : List Unfinished) (c : Unfinished) (n i : ℕ) → is_shortened s (calls ++ c ∷ []) n i ≡ was_cut s calls c n i
unfolding is_shortened
shortened_more s [] c n i = or_none (shortens s c n i)
shortened_more s (d ∷ calls) c n i =
    ap (λ (b : Bool). shortens s d n i || b) (shortened_more (after_call s d) calls c n i)
    ∙ sym (or_grouped (shortens s d n i) (is_shortened (after_call s d) calls n i) (shortens (after_calls (after_call s d) calls) c n i))

pub value_more : (s : State) (calls : List Unfinished) (c : Unfinished) (n i v : ℕ)
    → value_before_cut s (calls ++ c ∷ []) n i v
    ≡ cond (was_cut s calls c n i) (value_before_cut s calls n i v) (last_of (value_before_cut s calls n i v) (with_value (value_put (after_calls s calls) c n i) []))
unfolding is_shortened value_before_cut
value_more s [] c n i v = refl
value_more s (d ∷ calls) c n i v = by (shortens s d n i) (value_more (after_call s d) calls c n i (last_of v (with_value (value_put s d n i) []))) where
  next : State
  next = after_call s d

  then_on : ℕ
  then_on = last_of v (with_value (value_put s d n i) [])

  by : (b : Bool)
      → value_before_cut next (calls ++ c ∷ []) n i then_on
      ≡ cond (is_shortened next calls n i || shortens (after_calls next calls) c n i) (value_before_cut next calls n i then_on) (last_of (value_before_cut next calls n i then_on) (with_value (value_put (after_calls next calls) c n i) []))
      → cond b v (value_before_cut next (calls ++ c ∷ []) n i then_on)
      ≡ cond ((b || is_shortened next calls n i) || shortens (after_calls next calls) c n i) (cond b v (value_before_cut next calls n i then_on)) (last_of (cond b v (value_before_cut next calls n i then_on)) (with_value (value_put (after_calls next calls) c n i) []))
  by true rest = refl
  by false rest = rest

quiet_cond : (b : Bool) (o : Option ℕ) (x : ℕ) → (o ≡ None) ⊎ (b ≡ true) → cond b x (last_of x (with_value o [])) ≡ x
quiet_cond true o x quiet = refl
quiet_cond false None x quiet = refl
quiet_cond false (Some y) x (inl is) = cc
quiet_cond false (Some y) x (inr is) = cc

-- a call that puts nothing there, or a file that was shortened so far
pub value_quiet : (s : State) (calls : List Unfinished) (c : Unfinished) (n i v : ℕ) → (value_put (after_calls s calls) c n i ≡ None) ⊎ (was_cut s calls c n i ≡ true)
    → value_before_cut s (calls ++ c ∷ []) n i v ≡ value_before_cut s calls n i v
value_quiet s calls c n i v quiet = value_more s calls c n i v ∙ quiet_cond (was_cut s calls c n i) (value_put (after_calls s calls) c n i) (value_before_cut s calls n i v) quiet

-- ---- from one rule to another, of the bytes that are there

pub node_step : (a b : ByteRule) (n : ℕ) (x y : Node) → ((i v z : ℕ) → i < length (bytes_of y) → a n i v z → b n i v z) → NodeLeft a n x y → NodeLeft b n x y
node_step a b n (Node.File file) (Node.File left) step is = record { size = is.size; each = λ i below. step i _ _ below (is.each i below) }
node_step a b n (Node.File file) Node.Gone step is = is
node_step a b n (Node.File file) Node.Directory step is = is
node_step a b n Node.Gone y step is = is
node_step a b n Node.Directory y step is = is

pub left_step : (a b : ByteRule) (s m : State) → ((n i v z : ℕ) → i < length (bytes_of (node_at m.nodes n)) → a n i v z → b n i v z) → IsLeft a s m → IsLeft b s m
left_step a b s m step is = record { entries = is.entries; count = is.count; each = λ n. node_step a b n (node_at s.nodes n) (node_at m.nodes n) (step n) (is.each n) }

-- ---- the medium

-- what the medium leaves for later calls it leaves for one more
left_more : (start m : State) (front later : List Item) (item : Item) → LeavesMedium start front later item m → IsLeft (LastBeforeCut (run start front) (map begun later)) (run start front) m
    → IsLeft (LastBeforeCut (run start front) (map begun (later ++ item ∷ []))) (run start front) m
left_more start m front later item leaves = left_step (LastBeforeCut s (map begun later)) (LastBeforeCut s (map begun (later ++ item ∷ []))) s m step where
  s : State
  s = run start front

  now : run start (front ++ later) ≡ after_calls s (map begun later)
  now = run_both start front later ∙ sym (after_is_run s later)

  step : (n i v z : ℕ) → i < length (bytes_of (node_at m.nodes n)) → z ≡ value_before_cut s (map begun later) n i v → z ≡ value_before_cut s (map begun (later ++ item ∷ [])) n i v
  step n i v z below is =
      let quiet = subst (λ t. (value_put t (begun item) n i ≡ None) ⊎ (was_cut s (map begun later) (begun item) n i ≡ true)) now (leaves.each n i below) in
      is
      ∙ sym (value_quiet s (map begun later) (begun item) n i v quiet)
      ∙ ap (λ calls. value_before_cut s calls n i v) (sym (begun_more later item))

-- what was published is cut off, or its file is gone, or it is published still, behind one call more
pub published_more : (s : State) (later : List Item) (item : Item) (n i : ℕ) → IsPublishing (run s later) → PathsLeadToNodes (run s later) → n < length s.nodes
    → StillPublished s (map begun later) (run s later) n i → StillPublished s (map begun (later ++ item ∷ [])) (run s (later ++ item ∷ [])) n i
published_more s later item n i is paths below still = elim still [
  | inl cut ↦ inl (shorter (or_left (is_shortened s (map begun later) n i) (shortens (after_calls s (map begun later)) (begun item) n i) cut))
  | inr there ↦ elim there [
    | inl gone ↦ inr (inl (ap (λ (t : State). node_at t.nodes n) after ∙ gone_kept (run s later) (begun item) n is paths low gone))
    | inr has ↦ by (shortens (run s later) (begun item) n i) refl has
  ]
] where
  after : run s (later ++ item ∷ []) ≡ after_call (run s later) (begun item)
  after = run-append s later item

  low : n < length (run s later).nodes
  low = let more = (run_lasts s later).count in omega (arith, below, more)

  shorter : was_cut s (map begun later) (begun item) n i ≡ true → is_shortened s (map begun (later ++ item ∷ [])) n i ≡ true
  shorter cut = ap (λ calls. is_shortened s calls n i) (begun_more later item) ∙ shortened_more s (map begun later) (begun item) n i ∙ cut

  by : (b : Bool) → shortens (run s later) (begun item) n i ≡ b → HasPublished (node_at (run s later).nodes n) i
      → StillPublished s (map begun (later ++ item ∷ [])) (run s (later ++ item ∷ [])) n i
  by true cuts has =
      inl (shorter (or_right (is_shortened s (map begun later) n i) (shortens (after_calls s (map begun later)) (begun item) n i)
      (ap (λ t. shortens t (begun item) n i) (after_is_run s later) ∙ cuts)))
  by false whole has = elim (published_kept (run s later) (begun item) n i is has whole) [
    | inl kept ↦ inr (inr (subst (λ (t : State). HasPublished (node_at t.nodes n) i) (sym after) kept))
    | inr gone ↦ inr (inl (ap (λ (t : State). node_at t.nodes n) after ∙ gone))
  ]

-- a published byte is one of a node
published_below : (s : State) (n i : ℕ) → HasPublished (node_at s.nodes n) i → n < length s.nodes
published_below s n i has = node_below s.nodes n (λ gone. (let none = subst (λ x. HasPublished x i) gone has in let low = none.there in absurd (omega (arith, low))))

-- no `fsync` that returned ok, and none more
pub quiet_more : (later : List Item) (item : Item) → list_any syncs later ≡ false → syncs item ≡ false → list_any syncs (later ++ item ∷ []) ≡ false
quiet_more later item quiet not_sync = list_any-append syncs later (item ∷ []) ∙ (λ i. quiet i || (not_sync i || false))

-- the medium stays, over other words of which it shows the same, and beside another batch
pub medium_kept : (w x : Sides) (f h : Words) (start : State) (front later : List Item) → MediumStands LastBeforeCut w f start front later → x.committed ≡ w.committed
    → x.committed_numbers ≡ w.committed_numbers → KeepsShown w.committed f h → MediumStands LastBeforeCut x h start front later
medium_kept w x f h start front later m committed numbers shown =
    let over = keeps_words w.committed f h w.committed_numbers m.state shown m.stands in
    record {
      state = m.state;
      shape = m.shape;
      left = m.left;
      stands = subst (λ (v : Volume). Stands v [] h x.committed_numbers m.state) (sym committed) (subst (λ (ns : List ℕ). Stands w.committed [] h ns m.state) (sym numbers) over);
      fsyncs = m.fsyncs;
      published = m.published;
    }

-- what was published, behind one call more
pub still_more : (w : Sides) (f : Words) (start : State) (front later : List Item) (item : Item) → PosixWorld LastBeforeCut w f start front later → IsPublishing (run start (front ++ later))
    → (n i : ℕ) → HasPublished (node_at (run start front).nodes n) i → StillPublished (run start front) (map begun (later ++ item ∷ [])) (run (run start front) (later ++ item ∷ [])) n i
still_more w f start front later item world is n i has =
    let paths = paths_lead (sized w.lengths w.batch) w.staged f w.numbers (run start (front ++ later)) world.live in
    published_more (run start front) later item n i (subst IsPublishing (run_both start front later) is) (subst PathsLeadToNodes (run_both start front later) paths)
    (published_below (run start front) n i has) (world.medium.published n i has)

medium_more : (w : Sides) (f : Words) (start : State) (front later : List Item) (item : Item) → (world : PosixWorld LastBeforeCut w f start front later) → IsPublishing (run start (front ++ later)) → syncs item ≡ false
    → LeavesMedium start front later item world.medium.state → MediumStands LastBeforeCut w f start front (later ++ item ∷ [])
medium_more w f start front later item world is not_sync leaves = record {
  state = world.medium.state;
  shape = world.medium.shape;
  left = left_more start world.medium.state front later item leaves world.medium.left;
  stands = world.medium.stands;
  fsyncs = quiet_more later item world.medium.fsyncs not_sync;
  published = still_more w f start front later item world is;
}

pub with_batch : (x : Sides) (h : Words) (start : State) (front later : List Item) → MediumStands LastBeforeCut x h start front later → IsBatch x h start front later → PosixWorld LastBeforeCut x h start front later
with_batch x h start front later medium batch = record { medium = medium; cut = batch.cut; live = batch.live; lengths = batch.lengths; blocks = batch.blocks; cuts = batch.cuts }

pub batch_steps : StepsBatch
batch_steps w x f h start front later [] world is committed numbers shown adds batch =
    with_batch x h start front (later ++ []) (subst (λ items. MediumStands LastBeforeCut x h start front items) (sym (append-nil later)) (medium_kept w x f h start front later world.medium committed numbers shown)) batch
batch_steps w x f h start front later (item ∷ []) world is committed numbers shown adds batch =
    with_batch x h start front (later ++ item ∷ [])
    (medium_kept w x f h start front (later ++ item ∷ []) (medium_more w f start front later item world is adds.0 adds.1) committed numbers shown) batch
batch_steps w x f h start front later (item ∷ (second ∷ more)) world is committed numbers shown adds batch = absurd adds
