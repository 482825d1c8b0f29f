-- A file has applied nothing any more, once no line of the log is an entry: the image shows what it did.
use Rattle.std.proofs.Common.{◌≡◌, ◌≢◌, ◌≤◌, ◌<◌, ◌+◌, ◌^◌, ◌⊎◌, ◌&&◌, ◌==◌, ℕ, Bool, true, List, [], length, Result, Ok, Err, refl, sym, ◌∙◌, ap, subst, arith, inl, inr}
use Rattle.std.specs.Prelude.{All}
use Rattle.std.proofs.lemmas.Bool.{and_parts, cases_eq, cases_lt}
use Rattle.std.proofs.lemmas.Bool.Decides.{nat_tests}
use Rattle.std.proofs.lemmas.List.{get_or_past}
use Rattle.std.proofs.lemmas.List.Elements.{All-nil}
use Rattle.k_check.specs.pm_model.declared.Cell.{Cell}
use Rattle.k_check.specs.pm_model.Cells.{AllSingle}
use Rattle.k_check.specs.pm_model.Bytes.{line_bytes-same}
use Rattle.k_check.specs.pm_model.Images.{Follows}
use Rattle.k_check.specs.pm_model.Words.{line_bytes}
use Rattle.layout_model.specs.declared.lines.Inode.{Inode}
use Rattle.layout_model.specs.declared.lines.Kind.{Kind}
use Rattle.layout_model.specs.declared.lines.Kind.TheVariants.{Directory, File, Free, Staging}
use Rattle.layout_model.specs.Entries.{held_seq, is_self_valid}
use Rattle.layout_model.specs.Lines.{has_map_or_none, is_inode, is_inode_of_kind}
use Rattle.k_check.specs.layout_model.Places.{Geometry, log_line}
use Rattle.k_check.specs.image_model.Live.{live_entries}
use Rattle.k_check.specs.image_model.Reading.{inode_set}
use Rattle.k_check.specs.image_model.Room.{unused_blocks}
use Rattle.k_check.specs.image_model.Rules.{file_blocks_of}
use Rattle.k_check.specs.image_model.Volume.{chain, extents, free_inode, inode, Volume}
use Rattle.k_check.specs.extent_model.Extents.{disk_at}
use Rattle.staging_files.specs.k_map_plans.Resets.{reset, unapplied}
use Rattle.k_split.specs.k_map_plans.Plans.{IsLiveFile}
use Rattle.log_replay.proofs.LapImages.{none_live}
use Rattle.k_split.specs.k_plans.Whole.{IsWhole}
use Rattle.staging_files.specs.k_split_model.View.{View}
use Rattle.staging_files.specs.k_split.Answers.{Changes, IsDone}
use Rattle.staging_files.specs.k_split.declared.faults.KFault.{KFault}
use Rattle.staging_files.specs.k_split.MapChanges.{ChangesMaps, is_free_in, IsMapDone}
use Rattle.staging_files.specs.k_split.Resets.{IsResetAnswer}
use Rattle.k_check.specs.volume_laws.Changes.{inode_set-same, inode-set_other, inode-set_same}
use Rattle.k_check.specs.volume_laws.Footprint.{SameLog}
use Rattle.k_check.specs.volume_laws.FootprintLaws.{entry_in-same}
use Rattle.staging_files.specs.volume_laws.PoolLaws.{unused-set}
use Rattle.world_image_laws.specs.Images.{HasNoEntry, HasOldLines}
use Rattle.log_replay.specs.Replays.{seen, ShowsTheSame}
use Rattle.log_replay.proofs.Keeping.{images-next, images-off, images-own, images-then, log-next, shows-first, shows-next}
use Rattle.log_replay.proofs.Lines.{in-data, KeepsBytes, KeepsLines, lines-set, low-file, used-below}
use Rattle.log_replay.specs.Quiet.{IsQuiet, ShowsAsBefore}
use Rattle.log_replay.specs.Resets.{AreReset, IsLow, IsResetOne, MayReset}

-- ---- an inode that has applied something is a file

pub applied-file : (x : Inode) → is_inode x ≡ true → 0 < x.applied → x.kind ≡ File
applied-file x is some = by x.kind refl where
  none : (size applied root extents : Bool) → ((size && applied) && root) && extents ≡ true → applied ≡ true
  none size applied root extents all = (and_parts size applied (and_parts (size && applied) root (and_parts ((size && applied) && root) extents all).0).0).1

  never : (n : ℕ) → 0 < n → (n == 0) ≡ true → ⊥
  never n some zero = let is : n ≡ 0 = grind (arith, nat_tests, zero) in absurd (omega (arith, some, is))

  by : (kind : Kind) → x.kind ≡ kind → kind ≡ File
  by Free same = absurd (never x.applied some (none (x.size == 0) (x.applied == 0) (x.root == 0) (x.extents == 0) (subst (λ kind. is_inode_of_kind kind x ≡ true) same is)))
  by Directory same = absurd (never x.applied some (none (x.size == 0) (x.applied == 0) (x.root == 0) (x.extents == 0) (subst (λ kind. is_inode_of_kind kind x ≡ true) same is)))
  by File same = refl
  by Staging same =
      let all : ((x.size == 0) && (x.applied == 0)) && has_map_or_none x ≡ true = subst (λ kind. is_inode_of_kind kind x ≡ true) same is in
      absurd (never x.applied some (and_parts (x.size == 0) (x.applied == 0) (and_parts ((x.size == 0) && (x.applied == 0)) (has_map_or_none x) all).0).1)

-- ---- one file, done or cut off

map-changes : (v w : Volume) (old new : List Cell) → Changes v w old new → ChangesMaps [] v w old new
map-changes v w old new is = record {
  size = is.size;
  lent = is.lent;
  each_image = is.each_image;
  others = λ i out line outside. is.others i out line;
}

map-done : (k k2 : View) → IsDone k k2 → IsMapDone [] k k2
map-done k k2 done = record {
  kept_on = done.kept_on;
  batched = done.batched;
  order = done.order;
  changes = map-changes k.committed k2.volume k.cells k2.cells done.changes;
  singles = done.singles;
}

module _ (ino : ℕ) (k : View) (w : Volume) (may : MayReset k) (live : IsLiveFile ino k.volume) (given : w ≡ reset ino k.volume) (after : IsWhole w) where
  abbrev quiet : IsQuiet k
  quiet = may.quiet

  abbrev line : Inode
  line = unapplied (inode k.volume ino)

  whole : IsWhole k.volume
  whole = quiet.rest.order.whole

  -- the same, with the chain and the map that it has
  given-set : w ≡ inode_set ino line (chain k.volume ino) (extents k.volume ino) k.volume
  given-set = given ∙ sym (inode_set-same ino line k.volume)

  lines : KeepsLines k.volume w
  lines = subst (KeepsLines k.volume) (sym given-set) (lines-set ino line (chain k.volume ino) (extents k.volume ino) k.volume live.below refl refl refl)

  map-same : (i : ℕ) → extents w i ≡ extents k.volume i
  map-same i = ap (λ v. extents v i) given

  bytes : KeepsBytes k.volume w
  bytes i block file within = ap (λ es. disk_at es block) (map-same i)

  none-there : HasNoEntry w (seen k)
  none-there = subst (λ v. HasNoEntry v (seen k)) (sym given) may.no_entry

  old-there : HasOldLines w (seen k)
  old-there = subst (λ v. HasOldLines v (seen k)) (sym given) may.old_lines

  none : live_entries w (seen k) ≡ []
  none = none_live w (seen k) none-there

  freed : unused_blocks k.volume ≤ unused_blocks w
  freed =
      let x : Volume = inode_set ino line (chain k.volume ino) (extents k.volume ino) k.volume in
      let whole_x : IsWhole x = subst IsWhole given-set after in
      let set =
      unused-set k.volume ino line (chain k.volume ino) (extents k.volume ino) (λ i. file_blocks_of (inode k.volume i).kind) (λ i. file_blocks_of (inode x i).kind)
      live.below whole.maps (in-data k.volume whole) (in-data x whole_x) whole.kept.kept.once whole_x.kept.kept.once
      in
      let same : unused_blocks w ≡ unused_blocks x = ap unused_blocks given-set in
      omega (arith, set, same)

  free : All (λ b. is_free_in k b ≡ true) []
  free = All-nil (λ b. is_free_in k b ≡ true)

  low-own : IsLow w ino
  low-own =
      let at : (inode w ino).applied ≡ 0 = ap (λ v. (inode v ino).applied) given ∙ ap (λ (x : Inode). x.applied) (inode-set_same ino line [] [] k.volume live.below) in
      omega (arith, at)

  low-other : (i : ℕ) → i ≢ ino → IsLow k.volume i → IsLow w i
  low-other i other low =
      let at : (inode w i).applied ≡ (inode k.volume i).applied =
      ap (λ v. (inode v i).applied) given ∙ ap (λ (x : Inode). x.applied) (inode-set_other ino line [] [] k.volume i other)
      in
      omega (arith, at, low)

  -- each image shows what it did
  images-reset : (d : List Cell) → Changes k.committed w k.cells d → Follows (ShowsTheSame k.volume.geometry) k.cells d
  images-reset d changes = images-next k w [] quiet after lines bytes none free freed d (map-changes k.committed w k.cells d changes)

-- it is done
shows-reset : (ino : ℕ) (k0 k k2 : View) → ShowsAsBefore k0 k → (may : MayReset k) → IsLiveFile ino k.volume → IsResetAnswer ino k k2 (Ok tt) → ShowsAsBefore k0 k2
shows-reset ino k0 k k2 was may live gave =
    shows-next k0 k k2 [] was (map-done k k2 gave.2) (lines ino k k2.volume may live gave.1 gave.2.order.whole) (bytes ino k k2.volume may live gave.1 gave.2.order.whole)
    (none ino k k2.volume may live gave.1 gave.2.order.whole) (free ino k k2.volume may live gave.1 gave.2.order.whole) (freed ino k k2.volume may live gave.1 gave.2.order.whole)

no_entry-reset : (ino : ℕ) (k0 k k2 : View) → ShowsAsBefore k0 k → (may : MayReset k) → IsLiveFile ino k.volume → IsResetAnswer ino k k2 (Ok tt) → HasNoEntry k2.volume (seen k2)
no_entry-reset ino k0 k k2 was may live gave slot below =
    entry_in-same k2.volume (seen k) (seen k2)
    (log-next k0 k k2 [] was (map-done k k2 gave.2) (lines ino k k2.volume may live gave.1 gave.2.order.whole) (bytes ino k k2.volume may live gave.1 gave.2.order.whole)
    (none ino k k2.volume may live gave.1 gave.2.order.whole) (free ino k k2.volume may live gave.1 gave.2.order.whole) (freed ino k k2.volume may live gave.1 gave.2.order.whole))
    slot below
    ∙ none-there ino k k2.volume may live gave.1 gave.2.order.whole slot below

old-reset : (ino : ℕ) (k0 k k2 : View) → ShowsAsBefore k0 k → (may : MayReset k) → IsLiveFile ino k.volume → IsResetAnswer ino k k2 (Ok tt) → HasOldLines k2.volume (seen k2)
old-reset ino k0 k k2 was may live gave slot below valid =
    omega (arith, ap held_seq line, old-there ino k k2.volume may live gave.1 gave.2.order.whole slot below (ap is_self_valid (sym line) ∙ valid))
  where
    same : SameLog k2.volume.geometry (seen k) (seen k2)
    same =
        log-next k0 k k2 [] was (map-done k k2 gave.2) (lines ino k k2.volume may live gave.1 gave.2.order.whole) (bytes ino k k2.volume may live gave.1 gave.2.order.whole)
        (none ino k k2.volume may live gave.1 gave.2.order.whole) (free ino k k2.volume may live gave.1 gave.2.order.whole) (freed ino k k2.volume may live gave.1 gave.2.order.whole)

    line : line_bytes (seen k2) (log_line k2.volume.geometry slot) ≡ line_bytes (seen k) (log_line k2.volume.geometry slot)
    line = line_bytes-same (seen k2) (seen k) (log_line k2.volume.geometry slot) (λ i at. same.words slot i below at)

-- what is answered of it
pub reset-images : (ino : ℕ) (k k2 : View) (r : Result (Unit {0}) KFault) → MayReset k → IsLiveFile ino k.volume → IsResetAnswer ino k k2 r
    → Follows (ShowsTheSame k.volume.geometry) k.cells k2.cells
reset-images ino k k2 (Ok done) may live gave = images-reset ino k k2.volume may live gave.1 gave.2.order.whole k2.cells gave.2.changes
reset-images ino k k2 (Err (KFault.Refused errno)) may live refused = let never : ⊥ = cc (refused.0) in absurd never
reset-images ino k k2 (Err (KFault.Room room)) may live refused = let never : ⊥ = cc (refused.0) in absurd never
reset-images ino k k2 (Err KFault.NoMemory) may live same =
    subst (λ (z : View). Follows (ShowsTheSame k.volume.geometry) k.cells z.cells) (sym same.1) (images-own k k may.quiet.rest.single (shows-first k may.quiet))
reset-images ino k k2 (Err KFault.PowerLost) may live (inl off) = images-off k k k2 may.quiet.rest.single (shows-first k may.quiet) off
reset-images ino k k2 (Err KFault.PowerLost) may live (inr (none, (done, w, made, cut))) = images-reset ino k w may live made cut.whole k2.cells cut.changes

-- ---- one inode after the other

pub record IsOnTheWay (k0 k : View) (ino : ℕ) : Type 0 where
  pub shows : ShowsAsBefore k0 k
  pub no_entry : HasNoEntry k.volume (seen k)
  pub old_lines : HasOldLines k.volume (seen k)
  pub kind : (i : ℕ) → (inode k.volume i).kind ≡ (inode k0.volume i).kind
  pub size : (i : ℕ) → (inode k.volume i).size ≡ (inode k0.volume i).size
  pub map : (i : ℕ) → extents k.volume i ≡ extents k0.volume i
  pub low : (i : ℕ) → i < ino → IsLow k.volume i

-- inodes below 5 are no files
low-first : (k : View) → IsQuiet k → (i : ℕ) → i < 5 → IsLow k.volume i
low-first k quiet i below = elim (cases_lt 0 (inode k.volume i).applied) [
  | inr none ↦ omega (arith, none)
  | inl some ↦
      let file = applied-file (inode k.volume i) (quiet.rest.order.whole.inodes i) some in
      let kept = quiet.rest.order.whole.kept in
      absurd (omega (arith, below, low-file i (inode k.volume i).kind (kept.kept.kinds i (omega (arith, below, kept.geometry.least_inodes))) file))
]

pub way-begins : (k : View) → MayReset k → IsOnTheWay k k 5
way-begins k may = record {
  shows = shows-first k may.quiet;
  no_entry = may.no_entry;
  old_lines = may.old_lines;
  kind = λ i. refl;
  size = λ i. refl;
  map = λ i. refl;
  low = low-first k may.quiet;
}

pub way-may : (k0 k : View) (ino : ℕ) → IsOnTheWay k0 k ino → MayReset k
way-may k0 k ino way = record { quiet = way.shows.quiet; no_entry = way.no_entry; old_lines = way.old_lines }

pub way-next : (k0 k k2 : View) (ino : ℕ) → IsOnTheWay k0 k ino → IsResetOne ino k k2 → IsOnTheWay k0 k2 (ino + 1)
way-next k0 k k2 ino way (inl kept) = subst (λ z. IsOnTheWay k0 z (ino + 1)) (sym kept.1) (record {
  shows = way.shows;
  no_entry = way.no_entry;
  old_lines = way.old_lines;
  kind = way.kind;
  size = way.size;
  map = way.map;
  low = λ i below. elim (cases_eq i ino) [
    | inl same ↦ subst (IsLow k.volume) (sym same) kept.0
    | inr other ↦ way.low i (omega (arith, below, other))
  ];
})
way-next k0 k k2 ino way (inr cut) = record {
  shows = shows-reset ino k0 k k2 way.shows (way-may k0 k ino way) cut.0 cut.1;
  no_entry = no_entry-reset ino k0 k k2 way.shows (way-may k0 k ino way) cut.0 cut.1;
  old_lines = old-reset ino k0 k k2 way.shows (way-may k0 k ino way) cut.0 cut.1;
  kind = λ i. lines-of.kind i ∙ way.kind i;
  size = λ i. lines-of.size i ∙ way.size i;
  map = λ i. map-same ino k k2.volume (way-may k0 k ino way) cut.0 cut.1.1 cut.1.2.order.whole i ∙ way.map i;
  low = λ i below. elim (cases_eq i ino) [
    | inl same ↦ subst (IsLow k2.volume) (sym same) (low-own ino k k2.volume (way-may k0 k ino way) cut.0 cut.1.1 cut.1.2.order.whole)
    | inr other ↦ low-other ino k k2.volume (way-may k0 k ino way) cut.0 cut.1.1 cut.1.2.order.whole i other (way.low i (omega (arith, below, other)))
  ];
} where
  lines-of : KeepsLines k.volume k2.volume
  lines-of = lines ino k k2.volume (way-may k0 k ino way) cut.0 cut.1.1 cut.1.2.order.whole

pub way-ends : (k0 k : View) (ino : ℕ) → IsOnTheWay k0 k ino → k0.volume.geometry.inodes ≤ ino → AreReset k0 k
way-ends k0 k ino way all = record {
  shows = way.shows;
  no_entry = way.no_entry;
  old_lines = way.old_lines;
  kind = way.kind;
  size = way.size;
  map = way.map;
  low = λ i. by i (cases_lt i (length k.volume.inodes));
} where
  inodes : k.volume.geometry.inodes ≡ k0.volume.geometry.inodes
  inodes = ap (λ (g : Geometry). g.inodes) way.shows.geometry

  by : (i : ℕ) → (i < length k.volume.inodes) ⊎ (length k.volume.inodes ≤ i) → IsLow k.volume i
  by i (inl below) = way.low i (omega (arith, below, all, way.shows.quiet.rest.order.whole.kept.all.inode_count, inodes))
  by i (inr past) = omega (arith, ap (λ (x : Inode). x.applied) (get_or_past k.volume.inodes i free_inode past))

-- ---- what is asked for each

pub high-file : (k : View) (ino : ℕ) → IsQuiet k → 2 ^ 62 < (inode k.volume ino).applied → IsLiveFile ino k.volume
high-file k ino quiet high =
    let file = applied-file (inode k.volume ino) (quiet.rest.order.whole.inodes ino) (omega (arith, high)) in
    record { below = used-below k.volume ino file; file = file }

pub not-high : (v : Volume) (ino : ℕ) → ¬ (2 ^ 62 < (inode v ino).applied) → IsLow v ino
not-high v ino low = elim (cases_lt (2 ^ 62) (inode v ino).applied) [ inl high ↦ absurd (low high) | inr most ↦ most ]

pub free-low : (k : View) (ino : ℕ) → IsQuiet k → (inode k.volume ino).kind ≡ Free → ¬ (2 ^ 62 < (inode k.volume ino).applied)
free-low k ino quiet free high =
    let file = applied-file (inode k.volume ino) (quiet.rest.order.whole.inodes ino) (omega (arith, high)) in
    let never : File ≡ Free = sym file ∙ free in
    cc

-- images beside those of the beginning
pub way-images : (k0 k : View) (ino : ℕ) (d : List Cell) → AllSingle k0.cells → IsOnTheWay k0 k ino → Follows (ShowsTheSame k.volume.geometry) k.cells d
    → Follows (ShowsTheSame k0.volume.geometry) k0.cells d
way-images k0 k ino d single way images = images-then k0 k d single way.shows images
