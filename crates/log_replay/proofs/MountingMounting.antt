-- A device is opened, the live entries of its log are carried out, it is swept, and it is settled.
use Rattle.std.proofs.Common.{◌≡◌, ◌≤◌, ◌<◌, ◌+◌, ◌*◌, ◌^◌, ◌⊎◌, ℕ, false, List, [], length, Result, Ok, Err, refl, sym, ◌∙◌, ap, subst, arith, inl, inr}
use Rattle.k_check.specs.pm_model.declared.Cell.{Cell}
use Rattle.k_check.specs.pm_model.Cells.{AllSingle}
use Rattle.k_check.specs.pm_model.ImageLaws.{image-single, IsImage-words_of}
use Rattle.k_check.specs.pm_model.Images.{Follows, words_of}
use Rattle.k_check.specs.pm_model.Powers.{Supply}
use Rattle.k_check.specs.pm_model.Words.{Words}
use Rattle.layout_model.specs.declared.lines.Draft.{Draft}
use Rattle.layout_model.specs.declared.lines.Kind.TheVariants.{File, Free}
use Rattle.layout_model.specs.Names.{names_of}
use Rattle.k_check.specs.layout_model.Journal.{IsSound, journaled}
use Rattle.k_check.specs.layout_model.Places.{Geometry}
use Rattle.k_check.specs.image_model.Checked.{IsCheckedAs}
use Rattle.k_check.specs.image_model.Content.{content, content_of}
use Rattle.k_check.specs.image_model.Live.{live_entries}
use Rattle.k_check.specs.image_model.Reading.{base_set, Reads}
use Rattle.k_check.specs.image_model.Rules.{geometry_of, IsChecked}
use Rattle.k_check.specs.image_model.Volume.{extents, Volume, volume}
use Rattle.k_check.specs.extent_model.Extents.{disk_at}
use Rattle.block_counts.specs.Counts.{blocks_for}
use Rattle.staging_files.specs.image_laws.CheckedLaws.{checked-parts, head-checked, parts-checked}
use Rattle.log_replay.proofs.LapImages.{none_live}
use Rattle.log_replay.proofs.Recovered.{recovers_checked}
use Rattle.log_replay.specs.Laws.{IsCheckedToo, IsRecovered}
use Rattle.log_replay.specs.Sheds.{AllNamed, IsAtRest, IsKeptAt, IsSameDevice, IsSettled, IsShedAt, MaySettle, Sheds, StaysShown}
use Rattle.staging_files.specs.k_split_model.View.{View}
use Rattle.staging_files.specs.k_split.Laps.{next_base}
use Rattle.staging_files.specs.k_split.Order.{IsOpened}
use Rattle.log_replay.specs.Replays.{IsReplayed, MayReplay, seen, ShowsTheSame}
use Rattle.fsync_relink.specs.log_laws.Orders.{AreInOrder}
use Rattle.staging_files.specs.Keeps.{IsStaging}
use Rattle.k_check.specs.volume_laws.ReadingLaws.{reads-volume}
use Rattle.world_image_laws.specs.Changed.{sound_headed}
use Rattle.log_replay.proofs.Keeping.{shows-then}
use Rattle.log_replay.specs.declared.mounting.faults.MountFault.{MountFault}
use Rattle.log_replay.proofs.Showing.{left-opened, left-recovered}
use Rattle.log_replay.specs.Mounts.{IsLeft, IsMountAnswer, IsMounted, IsOpenAnswer}
use Rattle.log_replay.specs.Resets.{AreReset, IsClosed, MayReset}
use Rattle.log_replay.specs.declared.stops.Stop.{Stop}
use Rattle.log_replay.specs.Quiet.{IsQuiet, OnDone}
use Rattle.log_replay.specs.Sweeps.{AreSwept, AreTrimmed, AreUnstaged, EndsInTime}

geometry-of : (g : Geometry) (f : Words) → (volume g f).geometry ≡ g
unfolding volume
geometry-of g f = refl

-- the volume of K-Split is that of its image
own-volume : (k : View) → geometry_of (words_of k.cells) ≡ k.volume.geometry → IsCheckedAs (4096 * k.volume.geometry.blocks) (words_of k.cells) k.volume
    → volume k.volume.geometry (seen k) ≡ k.volume
own-volume k numbers checked = reads-volume k.volume.geometry (seen k) k.volume (subst (λ h. Reads h (seen k) k.volume) numbers checked.reads)

-- ---- mounted beside another image

-- of another image with the same content, names and log base
mounted-image : (g : Geometry) (image other : Words) (k : View) → content g other ≡ content g image
    → (volume g (journaled other)).names ≡ (volume g (journaled image)).names → (volume g (journaled other)).base ≡ (volume g (journaled image)).base
    → IsMounted g other k → IsMounted g image k
mounted-image g image other k same names base is = record {
  rest = is.rest;
  numbers = is.numbers;
  checked = is.checked;
  shows = λ path. is.shows path ∙ ap (λ c. c path) same;
  names = is.names ∙ names;
  named = is.named;
  short = is.short;
  bare = is.bare;
  low = is.low;
  base = record {
    risen = λ low. is.base.risen (subst (λ n. n ≤ 2 ^ 62) (sym base) low) ∙ next;
    anew = λ high. is.base.anew (subst (λ n. 2 ^ 62 < n) (sym base) high);
  };
  no_entry = is.no_entry;
  old_lines = is.old_lines;
} where
  logs : (volume g (journaled other)).geometry ≡ (volume g (journaled image)).geometry
  logs = geometry-of g (journaled other) ∙ sym (geometry-of g (journaled image))

  next : next_base (volume g (journaled other)) ≡ next_base (volume g (journaled image))
  next = λ i. base i + (logs i).log

-- of the image of K-Split before some changes that kept the content
mounted-before : (k k1 k3 : View) → geometry_of (words_of k.cells) ≡ k.volume.geometry → IsCheckedAs (4096 * k.volume.geometry.blocks) (words_of k.cells) k.volume → IsQuiet k1
    → k1.volume.geometry ≡ k.volume.geometry → k1.volume.base ≡ k.volume.base → k1.volume.names ≡ k.volume.names
    → content k.volume.geometry (words_of k1.cells) ≡ content k.volume.geometry (words_of k.cells)
    → IsMounted k1.volume.geometry (words_of k1.cells) k3 → IsMounted k.volume.geometry (words_of k.cells) k3
mounted-before k k1 k3 numbers checked quiet geometry base names same is =
    mounted-image k.volume.geometry (words_of k.cells) (words_of k1.cells) k3 same
    (ap (λ (v : Volume). v.names) then ∙ (names ∙ sym (ap (λ (v : Volume). v.names) (own-volume k numbers checked))))
    (ap (λ (v : Volume). v.base) then ∙ (base ∙ sym (ap (λ (v : Volume). v.base) (own-volume k numbers checked))))
    (subst (λ g. IsMounted g (words_of k1.cells) k3) geometry is)
  where
    then : volume k.volume.geometry (seen k1) ≡ k1.volume
    then = subst (λ g. volume g (seen k1) ≡ k1.volume) geometry (own-volume k1 quiet.numbers quiet.checked)

-- ---- swept

swept : (a b c : View) → AreUnstaged a b → AreTrimmed b c → AreSwept a c
swept a b c first second = record {
  shows = shows-then a b c first.shows second.shows;
  bare = λ x is. second.staged x is ∙ first.bare x is;
  short = second.short;
}

pub swept-done : (a b c : View) (r : Result (Unit {0}) Stop) → AreUnstaged a b → OnDone r (AreTrimmed b c) → OnDone r (AreSwept a c)
swept-done a b c (Ok done_is) first second = swept a b c first second
swept-done a b c (Err e) first second = tt

-- ---- settled

pub may-settle : (k k2 : View) → AreSwept k k2 → MaySettle k2
may-settle k k2 is = record {
  rest = is.shows.quiet.rest;
  numbers = is.shows.quiet.numbers;
  checked = checked-parts (4096 * k2.volume.geometry.blocks) (words_of k2.cells) k2.volume is.shows.quiet.checked;
  dead = is.shows.quiet.none;
}

-- ---- and no file has applied a high order

pub may-reset : (k2 k3 : View) → IsSettled k2.volume.geometry (words_of k2.cells) k3 → MayReset k3
may-reset k2 k3 is = record {
  quiet = record {
    rest = is.rest;
    numbers = is.numbers ∙ sym same;
    checked = subst (λ (h : Geometry). IsCheckedAs (4096 * h.blocks) (words_of k3.cells) k3.volume) (sym same) is.checked;
    none = none_live k3.volume (seen k3) is.no_entry;
  };
  no_entry = is.no_entry;
  old_lines = is.old_lines;
} where
  same : k3.volume.geometry ≡ k2.volume.geometry
  same = is.checked.reads.geometry ∙ is.numbers

pub closed-done : (k2 k3 k4 : View) (r : Result (Unit {0}) Stop) → IsSettled k2.volume.geometry (words_of k2.cells) k3 → OnDone r (AreReset k3 k4)
    → OnDone r (IsClosed k2 k4)
closed-done k2 k3 k4 (Ok done_is) settled is = record { middle = k3; settled = settled; reset = is }
closed-done k2 k3 k4 (Err e) settled is = tt

module _ (k k2 k4 : View) (quiet : IsQuiet k) (swept_is : AreSwept k k2) (closed : IsClosed k2 k4) where
  abbrev g : Geometry
  g = k2.volume.geometry

  abbrev k3 : View
  k3 = closed.middle

  abbrev is : IsSettled g (words_of k2.cells) k3
  is = closed.settled

  abbrev then : AreReset k3 k4
  then = closed.reset

  own : volume g (seen k2) ≡ k2.volume
  own = own-volume k2 swept_is.shows.quiet.numbers swept_is.shows.quiet.checked

  sheds : Sheds (base_set k3.volume.base k2.volume) k3.volume
  sheds = subst (λ v. Sheds (base_set k3.volume.base v) k3.volume) own is.sheds

  bare-at : (x : ℕ) → IsStaging x → IsKeptAt (base_set k3.volume.base k2.volume) k3.volume x ⊎ IsShedAt (base_set k3.volume.base k2.volume) k3.volume x
      → extents k3.volume x ≡ []
  bare-at x staging (inl kept) = kept.map ∙ swept_is.bare x staging
  bare-at x staging (inr shed) = shed.map

  short-at : (ino : ℕ) → IsKeptAt (base_set k3.volume.base k2.volume) k3.volume ino ⊎ IsShedAt (base_set k3.volume.base k2.volume) k3.volume ino
      → EndsInTime k3.volume ino
  short-at ino (inl kept) file block past =
      ap (λ es. disk_at es block) kept.map
      ∙ swept_is.short ino (sym (ap (λ x. x.kind) kept.line) ∙ file) block (subst (λ n. blocks_for n ≤ block) (ap (λ x. x.size) kept.line) past)
  short-at ino (inr shed) file block past = let never : File ≡ Free = sym file ∙ ap (λ x. x.kind) shed.line in cc

  geometry-is : k3.volume.geometry ≡ g
  geometry-is = is.checked.reads.geometry ∙ is.numbers

  geometry-now : k4.volume.geometry ≡ g
  geometry-now = then.shows.geometry ∙ geometry-is

  content-now : content g (words_of k4.cells) ≡ content g (words_of k3.cells)
  content-now = subst (λ h. content h (words_of k4.cells) ≡ content h (words_of k3.cells)) geometry-is then.shows.same

  named-now : AllNamed k4.volume
  named-now ino file = subst (λ rows. 1 ≤ names_of rows ino) (sym then.shows.names) (is.named ino (sym (then.kind ino) ∙ file))

  short-now : (ino : ℕ) → EndsInTime k4.volume ino
  short-now ino file block past =
      ap (λ es. disk_at es block) (then.map ino)
      ∙ short-at ino (sheds.each ino) (sym (then.kind ino) ∙ file) block (subst (λ n. blocks_for n ≤ block) (then.size ino) past)

  here : IsMounted g (words_of k2.cells) k4
  here = record {
    rest = then.shows.quiet.rest;
    numbers = then.shows.quiet.numbers ∙ geometry-now;
    checked = subst (λ (h : Geometry). IsCheckedAs (4096 * h.blocks) (words_of k4.cells) k4.volume) geometry-now then.shows.quiet.checked;
    shows = λ path. ap (λ c. c path) content-now ∙ is.shows path;
    names = then.shows.names ∙ is.sheds.names;
    named = named-now;
    short = short-now;
    bare = λ x staging. then.map x ∙ bare-at x staging (sheds.each x);
    low = then.low;
    base = record { risen = λ few. then.shows.base ∙ is.lap.risen few; anew = λ many. then.shows.base ∙ is.lap.anew many };
    no_entry = then.no_entry;
    old_lines = then.old_lines;
  }

  mounted-swept : IsMounted k.volume.geometry (words_of k.cells) k4
  mounted-swept =
      mounted-before k k2 k4 quiet.numbers quiet.checked swept_is.shows.quiet swept_is.shows.geometry swept_is.shows.base swept_is.shows.names swept_is.shows.same here

pub finish-done : (k k2 k4 : View) (r : Result (Unit {0}) Stop) → IsQuiet k → AreSwept k k2 → OnDone r (IsClosed k2 k4)
    → OnDone r (IsMounted k.volume.geometry (words_of k.cells) k4)
finish-done k k2 k4 (Ok done_is) quiet swept_is closed = mounted-swept k k2 k4 quiet swept_is closed
finish-done k k2 k4 (Err e) quiet swept_is closed = tt

-- ---- carried out

pub replayed-quiet : (k k1 : View) → IsReplayed k k1 → IsQuiet k1
replayed-quiet k k1 done = record {
  rest = done.rest;
  numbers = done.numbers ∙ sym done.geometry;
  checked = subst (λ (h : Geometry). IsCheckedAs (4096 * h.blocks) (words_of k1.cells) k1.volume) (sym done.geometry) done.checked;
  none = done.none;
}

mounted-replayed : (ds : List Draft) (k k1 k3 : View) → MayReplay k ds → IsReplayed k k1 → Follows (ShowsTheSame k.volume.geometry) k.cells k1.cells
    → IsMounted k1.volume.geometry (words_of k1.cells) k3 → IsMounted k.volume.geometry (words_of k.cells) k3
mounted-replayed ds k k1 k3 may done images is =
    mounted-before k k1 k3 may.numbers may.checked (replayed-quiet k k1 done) done.geometry done.base done.files.names same is
  where
    same : content k.volume.geometry (words_of k1.cells) ≡ content k.volume.geometry (words_of k.cells)
    same =
        let from = images (words_of k1.cells) (IsImage-words_of k1.cells) in
        subst (λ before. content k.volume.geometry (words_of k1.cells) ≡ content k.volume.geometry before) (image-single k.cells from.0 may.rest.single from.1.is_image) from.2.same

pub recover-done : (ds : List Draft) (k k1 k3 : View) (r : Result (Unit {0}) Stop) → MayReplay k ds → IsReplayed k k1
    → Follows (ShowsTheSame k.volume.geometry) k.cells k1.cells → OnDone r (IsMounted k1.volume.geometry (words_of k1.cells) k3)
    → OnDone r (IsMounted k.volume.geometry (words_of k.cells) k3)
recover-done ds k k1 k3 (Ok done_is) may done images is = mounted-replayed ds k k1 k3 may done images is
recover-done ds k k1 k3 (Err e) may done images is = tt

-- ---- opened

module _ (g : Geometry) (pm : List Cell) (k : View) (single : AllSingle pm) (numbers : geometry_of (words_of pm) ≡ g) (checked : IsChecked (4096 * g.blocks) (words_of pm))
    (opened : IsOpened pm (volume g (journaled (words_of pm))) false k) where
  rest-open : IsAtRest k
  rest-open = record {
    order = opened.order;
    unbatched = opened.batched_is;
    on = opened.on;
    single = subst AllSingle (sym opened.cells_are) single;
  }

  words-open : words_of k.cells ≡ words_of pm
  words-open = ap words_of opened.cells_are

  geometry-open : k.volume.geometry ≡ g
  geometry-open = ap (λ (v : Volume). v.geometry) opened.volume_is ∙ geometry-of g (journaled (words_of pm))

  checked-open : IsCheckedAs (4096 * g.blocks) (words_of k.cells) k.volume
  checked-open =
      subst (IsCheckedAs (4096 * g.blocks) (words_of k.cells)) ((λ i. volume (numbers-open i) (journaled (words-open i))) ∙ sym opened.volume_is)
      (parts-checked (4096 * g.blocks) (words_of k.cells) (subst (IsChecked (4096 * g.blocks)) (sym words-open) checked)) where
        numbers-open : geometry_of (words_of k.cells) ≡ g
        numbers-open = ap geometry_of words-open ∙ numbers

  pub may-replay : (ds : List Draft) → AreInOrder (live_entries (volume g (journaled (words_of pm))) (journaled (words_of pm))) ds → MayReplay k ds
  may-replay ds order = record {
    rest = rest-open;
    numbers = ap geometry_of words-open ∙ (numbers ∙ sym geometry-open);
    checked = subst (λ (h : Geometry). IsCheckedAs (4096 * h.blocks) (words_of k.cells) k.volume) (sym geometry-open) checked-open;
    entries = subst (λ live. AreInOrder live ds) (sym (λ i. live_entries (opened.volume_is i) (journaled (words-open i)))) order;
  }

  pub mounted-open : (k3 : View) → IsMounted k.volume.geometry (words_of k.cells) k3 → IsMounted g (words_of pm) k3
  mounted-open k3 is = subst (λ f. IsMounted g f k3) words-open (subst (λ h. IsMounted h (words_of k.cells) k3) geometry-open is)

  pub left-open : (left : List Cell) → length pm ≡ 512 * g.blocks → IsSameDevice k.cells left → StaysShown k.volume.geometry (words_of k.cells) left
      → IsLeft g (words_of pm) left
  left-open left size device shown = left-opened g pm left k single size opened.cells_are geometry-open device shown

-- ---- the journal is recovered before

module _ (g : Geometry) (image : Words) (d : List Cell) (numbers : geometry_of image ≡ g) (checked : IsChecked (4096 * g.blocks) image) (is : IsRecovered image d) where
  pub too : IsCheckedToo g image d
  too = recovers_checked g image d numbers checked is

  pub order-recovered : (ds : List Draft) → AreInOrder (live_entries (volume g (journaled image)) (journaled image)) ds
      → AreInOrder (live_entries (volume g (journaled (words_of d))) (journaled (words_of d))) ds
  order-recovered ds order = subst (λ j. AreInOrder (live_entries (volume g j) j) ds) (sym too.seen) order

  mounted-recovered : (k3 : View) → IsMounted g (words_of d) k3 → IsMounted g image k3
  mounted-recovered k3 mounted =
      mounted-image g image (words_of d) k3 (ap (content_of g) too.seen) (ap (λ j. (volume g j).names) too.seen) (ap (λ j. (volume g j).base) too.seen) mounted

  pub answer-recovered : (p : Supply) (r : Result View MountFault) → IsOpenAnswer g (words_of d) p r → IsOpenAnswer g image p r
  answer-recovered p (Ok k3) answer = (mounted-recovered k3 answer.0, answer.1)
  answer-recovered p (Err (MountFault.Bad bad)) answer = answer
  answer-recovered p (Err (MountFault.PowerLost left)) answer = (answer.0, left-recovered g image d left too.seen answer.1)
  answer-recovered p (Err MountFault.NoMemory) answer = answer

-- ---- a device of a checked image

pub sound-journal : (g : Geometry) (image : Words) → geometry_of image ≡ g → IsChecked (4096 * g.blocks) image → IsSound g image
sound-journal g image numbers checked = sound_headed g image (record { head = head-checked (4096 * g.blocks) image checked; geometry = numbers })

module _ (pm : List Cell) (g : Geometry) (size : length pm ≡ 512 * g.blocks) (checked : IsChecked (4096 * g.blocks) (words_of pm)) where
  pub checked-bytes : IsChecked (8 * length pm) (words_of pm)
  checked-bytes = let same : 4096 * g.blocks ≡ 8 * length pm = omega (arith, size) in subst (λ n. IsChecked n (words_of pm)) same checked

  pub fits-address : 8 * length pm < 2 ^ 64
  fits-address = omega (arith, size, checked.rule_1.whole, checked.rule_1.most)

module _ (pm : List Cell) (g : Geometry) (is : g ≡ geometry_of (words_of pm)) (checked : IsChecked (8 * length pm) (words_of pm)) where
  pub size-checked : length pm ≡ 512 * g.blocks
  size-checked = omega (arith, checked.rule_4.whole, ap (λ (h : Geometry). h.blocks) is)

  pub checked-blocks : IsChecked (4096 * g.blocks) (words_of pm)
  checked-blocks = let same : 8 * length pm ≡ 4096 * g.blocks = omega (arith, size-checked) in subst (λ n. IsChecked n (words_of pm)) same checked

  pub mount-answer : (before after : Supply) (r : Result View MountFault) → IsOpenAnswer g (words_of pm) after r → IsMountAnswer pm before after r
  mount-answer before after (Ok k) answer = (checked, subst (λ h. IsMounted h (words_of pm) k) is answer.0, answer.1)
  mount-answer before after (Err (MountFault.Bad bad)) answer = absurd answer
  mount-answer before after (Err (MountFault.PowerLost left)) answer = (checked, answer.0, subst (λ h. IsLeft h (words_of pm) left) is answer.1)
  mount-answer before after (Err MountFault.NoMemory) answer = tt
