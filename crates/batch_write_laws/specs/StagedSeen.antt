-- What the calls see, behind a write that stages a run.
use Rattle.std.specs.Prelude.{◌≡◌, ◌≢◌, ◌⊎◌, ◌<◌, ◌≤◌, ◌+◌, ◌-◌, ◌*◌, ◌/◌, ◌%◌, ◌^◌, ◌==◌, ◌&&◌, ℕ, Bool, true, false, List, [], ◌∷◌, ◌++◌, length, map, nat_lt, filter, option_map, Option, Some, None, slice_index, slice_set, refl}
use Rattle.std.specs.List.{range_with_len}
use Rattle.std.proofs.Common.{arith, ap, ◌∙◌, sym, subst, inl, inr}
use Rattle.std.proofs.lemmas.Bool.{cases_Bool, cases_eq, cases_lt, eq-eqb}
use Rattle.std.proofs.lemmas.Bool.Decides.{nat_tests}
use Rattle.std.proofs.lemmas.List.{get_or_past, get_or-set_same, length-map, set-set}
use Rattle.std.proofs.lemmas.List.FromFn.{get_or-map-range_with_len, length-range_with_len}
use Rattle.live_model.specs.pm_model.ImageLaws.{IsImage-words_of}
use Rattle.live_model.specs.pm_model.Images.{IsImage, words_of}
use Rattle.live_model.specs.pm_model.Words.{Words}
use Rattle.live_model.specs.extent_model.Extents.{is_within}
use Rattle.live_model.specs.layout_model.Journal.{journaled}
use Rattle.live_model.specs.layout_model.Places.{Geometry}
use Rattle.live_model.specs.layout_model.declared.lines.Draft.{Draft}
use Rattle.live_model.specs.layout_model.declared.lines.Kind.TheVariants.{File, Staging}
use Rattle.live_model.specs.image_model.Content.{byte_in, bytes_of_file, disk_of, entry_of_block, size_of}
use Rattle.live_model.specs.image_model.Live.{is_file, is_live}
use Rattle.live_model.specs.image_model.Rules.{IsKindAt}
use Rattle.live_model.specs.image_model.Volume.{inode, Volume}
use Rattle.live_model.specs.file_overlay.declared.runs.Run.{Run}
use Rattle.live_model.specs.file_table.Files.{Files, runs_in, size_in}
use Rattle.live_model.specs.k_split_model.View.{View}
use Rattle.live_model.specs.list_laws.Filters.{filter-In, In-filter}
use Rattle.live_model.specs.list_laws.Members.{In, pushed-In}
use Rattle.live_model.specs.commute_laws.posix_types.declared.item.Item.{Item}
use Rattle.live_model.specs.posix_tables.declared.nodes.Node.{Node}
use Rattle.live_model.specs.posix_tables.Nodes.{bytes_of, node_at, published_of}
use Rattle.live_model.specs.posix_laws.Puts.{LeavesWhole, put_bytes, with_whole}
use Rattle.live_model.specs.posix_spec.Put.{Put}
use Rattle.live_model.specs.posix_spec.Run.{after_call, begun, run}
use Rattle.live_model.specs.posix_spec.State.{State}
use Rattle.live_model.specs.world_model.Claims.{ClaimsStand}
use Rattle.live_model.specs.world_model.Jobs.{live_claims, staged_block}
use Rattle.live_model.specs.world_model.Landed.{CanLand, disk-beside, disk-landed, entries-own, Stands-landed, within_bounds}
use Rattle.live_model.specs.world_model.Latest.{AreBelow, AreBelow-Consecutive, latest-In, latest-none}
use Rattle.live_model.specs.world_model.Lent.{unused_staged}
use Rattle.live_model.specs.world_model.Stands.{entries_of, FileStands, is_used, IsSane, IsUsed, LogStands, number, Stands}
use Rattle.live_model.specs.world_model.TreeRules.{used_below}
use Rattle.live_model.specs.world_step_laws.Ages.{AreAged}
use Rattle.live_model.specs.world_step_laws.Worlds.{IsWorld}
use Rattle.posix_mode_laws.specs.Claims.{AreSameClaims, with_size}
use Rattle.posix_mode_laws.specs.ClaimsLaws.{generation_sized, keeps_claims, live_sized, sized_again}
use Rattle.posix_mode_laws.specs.Sides.{sized}
use Rattle.posix_mode_laws.specs.Sized.{kind-sized, length-with_sizes}
use Rattle.batch_laws.specs.ChangesLaws.{entries_again}
use Rattle.batch_laws.specs.Ready.{GoesReady}
use Rattle.batch_laws.specs.Standing.{as_claims, draft_of_run, staged_of}
use Rattle.batch_laws.specs.WorldsLaws.{below_files, cut_is_world, line_size, live_all, live_is_world}
use Rattle.world_write_laws.specs.PlaceSteps.{same_shape, stands_written}
use Rattle.batch_write_laws.specs.Cutting.{beside_is, fits_new, leaves, log_plain, old_is, range_or, whole_is}
use Rattle.batch_write_laws.specs.Places.{staged_mapped}
use Rattle.batch_write_laws.specs.Seen.{beside_stays, old_stands, sized_file}
use Rattle.batch_write_laws.specs.StagedLaws.{again, block_more, disk_more, entries_more, IsOneAgain, next_order}
use Rattle.batch_write_laws.specs.Words.{put_end}
use Rattle.batch_write_laws.specs.WordsLaws.{IsRange, other_seen, seen_stays}
use Rattle.batch_write_laws.specs.Writes.{HasTheRest, IsBlockOf, IsGapClear, LaysRun, PutsInto, StagesWords}

-- ---- entries as claims

claim_of : (ds : List Draft) (slot : ℕ) (d : Draft) → In (slot, d) (as_claims ds) → (slot ≡ 0) × In d ds
claim_of [] slot d is = absurd is
claim_of (e ∷ ds) slot d (inl same) = (sym (ap (λ (c : ℕ × Draft). c.0) same), inl (ap (λ (c : ℕ × Draft). c.1) same))
claim_of (e ∷ ds) slot d (inr behind) = let rest = claim_of ds slot d behind in (rest.0, inr rest.1)

-- claims that are all live stand
all_stand : (w : Volume) (ds : List Draft) → ((d : Draft) → In d ds → is_live w d ≡ true) → ClaimsStand w (as_claims ds)
all_stand w ds alive = record {
  orders = λ a b d e first second other d_file e_file one. absurd (other ((claim_of ds a d first).0 ∙ sym (claim_of ds b e second).0));
  settled = λ slot d is file. inr (alive d (claim_of ds slot d is).1);
}

-- what is so of each entry of a lap
pub record IsAgedOne (w : Volume) (count : ℕ) (d : Draft) : Type 0 where
  pub staging : (inode w d.staging).kind ≡ Staging
  pub own : 5 ≤ d.ino
  pub taken : (d.generation < 2 ^ 32) × ((m : ℕ) × (m ≤ count) × ((d.generation + m) % 2 ^ 32 ≡ (inode w d.ino).generation))

all_aged : (w : Volume) (ds : List Draft) (count : ℕ) → count < 2 ^ 31 → ((d : Draft) → In d ds → IsAgedOne w count d) → AreAged w (as_claims ds) count
all_aged w ds count small each = record {
  small = small;
  staging = λ d is. (each d (subst (In d) (entries_again ds) is)).staging;
  own = λ d is. (each d (subst (In d) (entries_again ds) is)).own;
  taken = λ d is. (each d (subst (In d) (entries_again ds) is)).taken;
}

aged_one : (w : Volume) (ds : List Draft) (count : ℕ) → AreAged w (as_claims ds) count → (d : Draft) → In d ds → IsAgedOne w count d
aged_one w ds count aged d is =
    let there = subst (In d) (sym (entries_again ds)) is in
    record { staging = aged.staging d there; own = aged.own d there; taken = aged.taken d there }

one_sized : (lengths : List ℕ) (w : Volume) (count : ℕ) (d : Draft) → IsAgedOne w count d → IsAgedOne (sized lengths w) count d
one_sized lengths w count d one = record {
  staging = kind-sized lengths w d.staging ∙ one.staging;
  own = one.own;
  taken = (one.taken.0, (one.taken.1.0, one.taken.1.1, one.taken.1.2 ∙ sym (generation_sized lengths w d.ino)));
}

small_rest : (n : ℕ) → n < 2 ^ 32 → (n + 0) % 2 ^ 32 ≡ n
small_rest n small = omega (arith, small)

-- a file has the bytes that its blocks have
read_file : (w : Volume) (live : List Draft) (h : Words) (ino : ℕ) → FileStands w live h ino (bytes_of_file w live h ino)
read_file w live h ino = record {
  size = sym (length-map (range_with_len 0 (size_of w live ino)) (λ i. byte_in h (disk_of w live ino (i / 4096)) i) ∙ length-range_with_len 0 (size_of w live ino));
  each = λ i below. sym (get_or-map-range_with_len (λ i. byte_in h (disk_of w live ino (i / 4096)) i) 0 (size_of w live ino) i i 0 (omega (arith, below, size)) (omega arith));
} where
  size : length (bytes_of_file w live h ino) ≡ size_of w live ino
  size = length-map (range_with_len 0 (size_of w live ino)) (λ i. byte_in h (disk_of w live ino (i / 4096)) i) ∙ length-range_with_len 0 (size_of w live ino)

below_block : (i : ℕ) → i % 4096 < 4096
below_block i = omega arith

pub within_from : (first count i : ℕ) → first ≤ i / 4096 → i < 4096 * (first + count) → is_within first count (i / 4096) ≡ true
within_from first count i low high = let short : i / 4096 < first + count = omega (arith, high) in grind (arith, nat_tests, low, short)

pub not_within : (first count i : ℕ) → is_within first count (i / 4096) ≡ false → i < 4096 * (first + count) → i < 4096 * first
not_within first count i beside high = elim (cases_lt i (4096 * first)) [
  | inl low ↦ low
  | inr past ↦ absurd (let inside : is_within first count (i / 4096) ≡ true = within_from first count i (omega (arith, past)) high in let never : true ≡ false = sym inside ∙ beside in cc)
]

module _ (g : Geometry) (k : View) (files e : Files) (count : ℕ) (numbers : List ℕ) (start : State) (history : List Item) (item : Item) (ino : ℕ) (p : Put) (r : Run)
    (ready : GoesReady g k files count numbers start history) (puts : PutsInto k.volume numbers (run start history) item ino p)
    (laid : LaysRun k.volume files e ino (length (put_bytes (run start history) p)) r) (rest : HasTheRest r (size_in files ino) p) where
  abbrev v : Volume
  v = k.volume

  abbrev s : State
  s = run start history

  abbrev new : State
  new = after_call (run start history) (begun item)

  abbrev staged : List Draft
  staged = staged_of k.volume files

  abbrev n : ℕ
  n = number numbers ino

  abbrev whole : List ℕ
  whole = put_bytes (run start history) p

  abbrev pub entry : Draft
  entry = draft_of_run k.volume e ino r

  abbrev pub more : List Draft
  more = staged_of k.volume files ++ draft_of_run k.volume e ino r ∷ []

  abbrev wide : Volume
  wide = sized files.sizes k.volume

  abbrev first_image : Words
  first_image = words_of k.cells

  pub some_stands : Stands wide staged (journaled first_image) numbers s
  some_stands = old_stands g k files count numbers start history item ino p ready puts first_image (IsImage-words_of k.cells)

  sane : IsSane v
  sane = (cut_is_world g k files count numbers start history first_image ready.going (IsImage-words_of k.cells)).valid.stands.sane

  none : LogStands v []
  none = (cut_is_world g k files count numbers start history first_image ready.going (IsImage-words_of k.cells)).valid.stands.log

  pub log : LogStands v staged
  log = log_plain files.sizes v staged some_stands.log

  pub bare : (j : ℕ) → (inode v j).kind ≢ File → runs_in files j ≡ []
  bare j no_file = (ready.going.bare j no_file).0

  used : IsUsed v ino
  used = ap is_used puts.file

  -- ---- what is staged behind it

  generation_same : ((inode v ino).generation == (inode v ino).generation) ≡ true
  generation_same = eq-eqb (inode v ino).generation (inode v ino).generation refl

  -- the run would be live as an entry
  pub alive : is_live v entry ≡ true
  alive =
      let order = laid.order in
      let later : nat_lt (inode v ino).applied r.order ≡ true = grind (arith, nat_tests, order) in
      let file : is_file (inode v ino).kind ≡ true = ap is_file puts.file in
      let from : ((inode v r.staging).generation == (inode v r.staging).generation) ≡ true = eq-eqb (inode v r.staging).generation (inode v r.staging).generation refl in
      λ i. (file i && generation_same i) && later i && from i

  alive_more : (d : Draft) → In d more → is_live v d ≡ true
  alive_more d is = elim (pushed-In staged entry d is) [ inl old ↦ ready.going.alive d old | inr here ↦ subst (λ x. is_live v x ≡ true) here alive ]

  least : 5 ≤ ino
  least = subst (IsKindAt ino) puts.file (sane.kept.kinds ino (subst (λ m. ino < m) sane.inode_count (used_below v ino used)))

  aged_entry : IsAgedOne v count entry
  aged_entry = record { staging = laid.staging; own = least; taken = (laid.generation, (0, omega arith, small_rest (inode v ino).generation laid.generation)) }

  aged_more : (d : Draft) → In d more → IsAgedOne v count d
  aged_more d is = elim (pushed-In staged entry d is) [ inl old ↦ aged_one v staged count ready.going.aged d old | inr here ↦ subst (IsAgedOne v count) here aged_entry ]

  behind_one : (d : Draft) → In d (staged_of v e) → IsOneAgain v files e ino (length (put_bytes (run start history) p)) r ready.going.sizes puts.file bare some_stands.log laid d
  behind_one d is = again v files e ino (length (put_bytes (run start history) p)) r ready.going.sizes puts.file bare some_stands.log laid d is

  pub alive_behind : (d : Draft) → In d (staged_of v e) → is_live v d ≡ true
  alive_behind d is = let one = behind_one d is in subst (λ x. is_live v x ≡ true) one.is (alive_more one.was one.there)

  aged_behind_one : (d : Draft) → In d (staged_of v e) → IsAgedOne v count d
  aged_behind_one d is =
      let one = behind_one d is in
      let was = aged_more one.was one.there in
      subst (IsAgedOne v count) one.is (record { staging = was.staging; own = was.own; taken = was.taken })

  pub aged_behind : AreAged v (as_claims (staged_of v e)) count
  aged_behind = all_aged v (staged_of v e) count ready.going.aged.small aged_behind_one

  -- ---- where the bytes lie

  below_order : AreBelow r.order (entries_of ino staged)
  below_order = AreBelow-Consecutive (inode wide ino).applied entry.order (entries_of ino staged) (some_stands.log.orders ino) (let order = next_order v files e ino (length (put_bytes (run start history) p)) r ready.going.sizes puts.file bare some_stands.log laid in omega (arith, order))

  pub disk_in : (block : ℕ) → is_within r.file_block r.count block ≡ true → disk_of v (staged_of v e) ino block ≡ staged_block v entry (block - r.file_block)
  disk_in block within = disk_more v files e ino (length (put_bytes (run start history) p)) r ready.going.sizes puts.file bare some_stands.log laid ino block ∙ disk-landed v staged entry block below_order within

  pub disk_out : (block : ℕ) → is_within r.file_block r.count block ≡ false → disk_of v (staged_of v e) ino block ≡ disk_of v staged ino block
  disk_out block beside = disk_more v files e ino (length (put_bytes (run start history) p)) r ready.going.sizes puts.file bare some_stands.log laid ino block ∙ disk-beside v staged entry block beside

  pub range : IsRange v staged (staged_of v e) ino p.place (put_end p) (size_in files ino) (IsBlockOf v r)
  range = record {
    was = λ i b from low at. was i b from low at (cases_Bool (is_within r.file_block r.count (i / 4096)));
    unused = λ j block b j_used at fresh. unused_staged v staged entry sane log laid.staging laid.apart j block b j_used at fresh;
    unmapped = λ j block b j_used at fresh. staged_mapped v [] sane none j b j_used r.staging (r.staging_block + fresh.0) block laid.staging fresh.2 at;
  } where
    was : (i b : ℕ) → p.place ≤ i → i < put_end p → disk_of v (staged_of v e) ino (i / 4096) ≡ Some b → (is_within r.file_block r.count (i / 4096) ≡ true) ⊎ (is_within r.file_block r.count (i / 4096) ≡ false)
        → IsBlockOf v r b ⊎ ((disk_of v staged ino (i / 4096) ≡ Some b) × (i < size_in files ino))
    was i b from low at (inl within) =
        let bounds = within_bounds r.file_block r.count (i / 4096) within in
        inl (i / 4096 - r.file_block, omega (arith, bounds.0, bounds.1), sym (disk_in (i / 4096) within) ∙ at)
    was i b from low at (inr beside) =
        let ends = rest.ends in
        let short = not_within r.file_block r.count i beside (omega (arith, low, ends)) in
        inr (
          sym (disk_out (i / 4096) beside) ∙ at,
          elim rest.begins [
            | inl old ↦ omega (arith, short, old)
            | inr place ↦ absurd (omega (arith, short, place, from))
          ],
        )

  pub longer : length whole ≡ put_end p
  longer = let is = whole_is g k files count numbers start history item ino p ready puts in let past = rest.past in grind (arith, is, past)

  -- ---- a block that no staged run has

  some_there : (o : Option Draft) → (o ≡ None) ⊎ ((d : Draft) × (o ≡ Some d))
  some_there None = inl refl
  some_there (Some d) = inr (d, refl)

  none_mapped : (m : ℕ) (o : Option Draft) → option_map (with_size m) o ≡ None → o ≡ None
  none_mapped m None is = refl
  none_mapped m (Some d) is = cc

  -- it had none before
  none_more : (j block : ℕ) → entry_of_block (staged_of v e) j block ≡ None → entry_of_block more j block ≡ None
  none_more j block is =
      none_mapped (size_of wide more j) (entry_of_block more j block) (sym (block_more v files e ino (length (put_bytes (run start history) p)) r ready.going.sizes puts.file bare some_stands.log laid j block) ∙ is)

  front_In : (xs ys : List Draft) (d : Draft) → In d xs → In d (xs ++ ys)
  front_In [] ys d is = absurd is
  front_In (x ∷ xs) ys d (inl same) = inl same
  front_In (x ∷ xs) ys d (inr behind) = inr (front_In xs ys d behind)

  last_In : (xs : List Draft) (d : Draft) → In d (xs ++ d ∷ [])
  last_In [] d = inl refl
  last_In (x ∷ xs) d = inr (last_In xs d)

  pub covers : (j block : ℕ) → entry_of_block (staged_of v e) j block ≡ None → entry_of_block staged j block ≡ None
  covers j block is = elim (some_there (entry_of_block staged j block)) [
    | inl nothing ↦ nothing
    | inr some ↦ absurd (
        let test : Draft → Bool = λ (d : Draft). (d.ino == j) && is_within d.file_block d.count block in
        let its = filter-In test staged some.0 (latest-In (filter test staged) some.0 some.1) in
        latest-none (filter test more) some.0 (none_more j block is) (In-filter test more some.0 (front_In staged (entry ∷ []) some.0 its.0) its.1))
  ]

  -- and is none of the run
  pub none_within : (block : ℕ) → entry_of_block (staged_of v e) ino block ≡ None → is_within r.file_block r.count block ≡ false
  none_within block is = elim (cases_Bool (is_within r.file_block r.count block)) [
    | inr beside ↦ beside
    | inl within ↦ absurd (
        let test : Draft → Bool = λ (d : Draft). (d.ino == ino) && is_within d.file_block d.count block in
        let own : (ino == ino) ≡ true = eq-eqb ino ino refl in
        let passes : test entry ≡ true = λ i. own i && within i in
        latest-none (filter test more) entry (none_more ino block is) (In-filter test more entry (last_In staged entry) passes))
  ]

  -- ---- an image behind it

  module _ (gap : IsGapClear g k files count numbers start history ino r ready) (before h : Words) (is : IsImage k.cells before) (words : StagesWords v files e ino p.place (put_end p) whole r (journaled before) h) where
    published : ℕ
    published = published_of (node_at s.nodes n)

    stands : Stands wide staged (journaled before) numbers s
    stands = old_stands g k files count numbers start history item ino p ready puts before is

    wide_file : (inode wide ino).kind ≡ File
    wide_file = sized_file g k files count numbers start history item ino p ready puts before is

    bytes : List ℕ
    bytes = bytes_of_file wide staged h ino

    middle : State
    middle = record s { nodes = slice_set s.nodes n (Node.File (record { bytes = bytes; published = published })) }

    -- first the bytes in place,
    stands_middle : Stands wide staged h numbers middle
    unfolding middle bytes
    stands_middle =
        stands_written wide staged (journaled before) h numbers s middle ino (bytes_of_file wide staged h ino) published stands wide_file (read_file wide staged h ino)
        (λ j x i j_used other.
        other_seen v staged (staged_of v e) ino p.place (put_end p) (size_in files ino) whole (IsBlockOf v r) (journaled before) h sane log none puts.file range words.place j x i
        (subst (λ kind. is_used kind ≡ true) (kind-sized files.sizes v j) j_used) other) refl refl

    there : node_at middle.nodes n ≡ Node.File (record { bytes = bytes; published = published })
    unfolding middle
    there = get_or-set_same s.nodes n (Node.File (record { bytes = bytes; published = published })) Node.Gone (stands.names.within ino (ap is_used wide_file))

    leaves_middle : LeavesWhole middle new n whole
    unfolding middle published
    leaves_middle =
        let left = leaves g k files count numbers start history item ino p ready puts in
        record {
          entries = left.entries;
          shape = left.shape;
          mode = left.mode;
          nodes =
              left.nodes
              ∙ (sym (set-set s.nodes n (Node.File (record { bytes = bytes; published = published })) (with_whole s n whole))
              ∙ ap (λ m. slice_set (slice_set s.nodes n (Node.File (record { bytes = bytes; published = published }))) n (Node.File (record { bytes = whole; published = m }))) (sym (ap published_of there)));
        }

    -- beside the run each byte is the one of the call's end
    rest_is : (i : ℕ) → i < length whole → is_within r.file_block r.count (i / 4096) ≡ false → byte_in h (disk_of wide staged ino (i / 4096)) i ≡ slice_index whole i
    rest_is i below beside = elim (range_or p.place (put_end p) i) [
      | inl inside ↦ ap (λ o. byte_in h o i) (sym (disk_out (i / 4096) beside)) ∙ words.place.seen i inside.0 inside.1
      | inr apart ↦ elim (cases_lt i (size_in files ino)) [
        | inl low ↦ beside_stays g k files count numbers start history item ino p ready puts before is (staged_of v e) (IsBlockOf v r) h range words.place i low apart
        | inr past ↦ gap_byte i past apart (let ends = rest.ends in let long = longer in not_within r.file_block r.count i beside (omega (arith, below, long, ends)))
      ]
    ] where
      zero_there : (i : ℕ) → size_in files ino ≤ i → (i < p.place) ⊎ (put_end p ≤ i) → slice_index whole i ≡ 0
      zero_there i past apart =
          sym (beside_is g k files count numbers start history item ino p ready puts i apart)
          ∙ get_or_past (bytes_of (node_at s.nodes n)) i 0 (let size = old_is g k files count numbers start history item ino p ready puts in omega (arith, size, past))

      gap_byte : (i : ℕ) → size_in files ino ≤ i → (i < p.place) ⊎ (put_end p ≤ i) → i < 4096 * r.file_block → byte_in h (disk_of wide staged ino (i / 4096)) i ≡ slice_index whole i
      gap_byte i past apart short = by (disk_of v staged ino (i / 4096)) refl ∙ sym (zero_there i past apart) where
        by : (o : Option ℕ) → disk_of v staged ino (i / 4096) ≡ o → byte_in h (disk_of wide staged ino (i / 4096)) i ≡ 0
        by None at = ap (λ o. byte_in h o i) at
        by (Some b) at =
            seen_stays v staged (staged_of v e) ino p.place (put_end p) (size_in files ino) whole (IsBlockOf v r) (journaled before) h sane log none puts.file range words.place i apart
            ∙ (ap (λ o. byte_in (journaled before) o i) at ∙ (gap i b past short at).1 before is)

    can : CanLand wide staged h entry whole
    can = record {
      file = wide_file;
      order = next_order v files e ino (length (put_bytes (run start history) p)) r ready.going.sizes puts.file bare some_stands.log laid;
      size = laid.size_is;
      rest = rest_is;
      staging = kind-sized files.sizes v r.staging ∙ laid.staging;
      staged = laid.staged;
      apart = laid.apart;
    }

    -- then the run.
    stands_more : Stands wide more h numbers new
    stands_more = Stands-landed wide staged h numbers middle new entry whole stands_middle can words.run leaves_middle

    wide_alive : (ds : List Draft) → ((d : Draft) → In d ds → is_live v d ≡ true) → (d : Draft) → In d ds → is_live wide d ≡ true
    wide_alive ds all d there_d = live_sized files.sizes v d ∙ all d there_d

    world_more : IsWorld wide (as_claims more) [] h numbers new count
    world_more =
        let live = live_is_world g k files count numbers start history before ready.going is in
        let left = leaves g k files count numbers start history item ino p ready puts in
        record {
          valid = record {
            stands = subst (λ ds. Stands wide ds h numbers new) (sym (live_all v files.sizes more alive_more)) stands_more;
            out = tt;
            fits = fits_new g k files count numbers start history item ino p ready puts;
            room = omega arith;
          };
          claims_stand = all_stand wide more (wide_alive more alive_more);
          aged = all_aged wide more count ready.going.aged.small (λ d there_d. one_sized files.sizes v count d (aged_more d there_d));
          shape = same_shape wide s new left.shape live.0.shape;
          geometry = live.0.geometry;
        }

    same_claims : AreSameClaims wide (as_claims more) (as_claims (staged_of v e)) e.sizes count
    same_claims = record {
      entries = λ j.
          subst (λ ds. entries_of j ds ≡ map (with_size (size_of wide (live_claims wide (as_claims more)) j)) (entries_of j (live_claims wide (as_claims more)))) (sym (live_all v files.sizes (staged_of v e) alive_behind))
          (subst (λ ds. entries_of j (staged_of v e) ≡ map (with_size (size_of wide ds j)) (entries_of j ds)) (sym (live_all v files.sizes more alive_more))
          (entries_more v files e ino (length (put_bytes (run start history) p)) r ready.going.sizes puts.file bare some_stands.log laid j));
      unclaimed = λ j file nothing. unclaimed j (sym (kind-sized files.sizes v j) ∙ file) (subst (λ ds. entries_of j ds ≡ []) (live_all v files.sizes more alive_more) nothing) (cases_eq j ino);
      stand = all_stand wide (staged_of v e) (wide_alive (staged_of v e) alive_behind);
      aged = all_aged wide (staged_of v e) count ready.going.aged.small (λ d there_d. one_sized files.sizes v count d (aged_behind_one d there_d));
    } where
      no_last : (xs : List Draft) → xs ++ entry ∷ [] ≡ [] → ⊥
      no_last [] none_is = cc
      no_last (x ∷ xs) none_is = cc

      unclaimed : (j : ℕ) → (inode v j).kind ≡ File → entries_of j more ≡ [] → (j ≡ ino) ⊎ (j ≢ ino) → (inode (sized e.sizes wide) j).size ≡ (inode wide j).size
      unclaimed j file nothing (inl own) = absurd (no_last (entries_of ino staged) (sym (entries-own staged entry) ∙ subst (λ m. entries_of m more ≡ []) own nothing))
      unclaimed j file nothing (inr other) =
          let low = below_files v j file in
          let wide_count = length-with_sizes v.inodes files.sizes in
          let kept = ready.going.sizes in
          let as_many = laid.count in
          line_size wide.inodes e.sizes j (omega (arith, as_many, kept, wide_count)) (omega (arith, low, wide_count))
          ∙ ((laid.others j other).1 ∙ sym (line_size v.inodes files.sizes j kept low))

    -- WHAT THE CALLS SEE stands for the state behind the write.
    pub staged_behind : IsWorld (sized e.sizes v) (as_claims (staged_of v e)) [] h numbers new count
    staged_behind =
        subst (λ w. IsWorld w (as_claims (staged_of v e)) [] h numbers new count) (sized_again files.sizes e.sizes v (sym laid.count))
        (keeps_claims wide (as_claims more) (as_claims (staged_of v e)) e.sizes h numbers new count world_more same_claims)
