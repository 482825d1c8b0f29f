-- The live entries are carried out one after the other: what is left, and what each image shows.
use Rattle.std.proofs.Common.{◌≡◌, ◌≢◌, ◌≤◌, ◌<◌, ◌+◌, ◌*◌, ◌^◌, ◌⊎◌, ◌↔◌, ◌-◌, ◌==◌, ℕ, true, List, [], ◌∷◌, length, None, Ok, Err, refl, sym, ◌∙◌, ap, subst, arith, inl, inr, get_or, drop, drop-cons, add-one}
use Rattle.std.specs.Prelude.{All, IsSome}
use Rattle.std.proofs.lemmas.Bool.{and_parts, cases_lt}
use Rattle.std.proofs.lemmas.Bool.Decides.{nat_tests}
use Rattle.std.proofs.lemmas.List.{drop_all, get_or_past}
use Rattle.std.proofs.lemmas.List.Elements.{All-append}
use Rattle.fsync_relink.specs.log_laws.pm_model.declared.Cell.{Cell}
use Rattle.fsync_relink.specs.log_laws.pm_model.CellLaws.{single-home}
use Rattle.fsync_relink.specs.log_laws.pm_model.Cells.{AllHome, AllSingle, cell}
use Rattle.fsync_relink.specs.log_laws.pm_model.ImageLaws.{Follows-from_words, image-single, IsImage-words_of}
use Rattle.fsync_relink.specs.log_laws.pm_model.Images.{Follows, IsImage, words_of}
use Rattle.fsync_relink.specs.log_laws.pm_model.Powers.{Steps, Supply}
use Rattle.fsync_relink.specs.log_laws.pm_model.Words.{line_bytes, Words}
use Rattle.layout_model.specs.declared.lines.Draft.{Draft}
use Rattle.layout_model.specs.declared.lines.Kind.{Kind}
use Rattle.layout_model.specs.declared.lines.Kind.TheVariants.{File, Free, Staging}
use Rattle.layout_model.specs.Entries.{is_draft}
use Rattle.layout_model.specs.EntryLaws.{IsEntryLine-decode_entry}
use Rattle.layout_model.specs.block_counts.declared.TheConstants.{LONGEST_FILE}
use Rattle.fsync_relink.specs.log_laws.layout_model.Journal.{journaled}
use Rattle.fsync_relink.specs.log_laws.layout_model.Places.{Geometry, is_data_block, log_line, reserve}
use Rattle.fsync_relink.specs.log_laws.image_model.Checked.{IsCheckedAs}
use Rattle.fsync_relink.specs.log_laws.image_model.Content.{content, disk_of, size_of}
use Rattle.fsync_relink.specs.log_laws.image_model.Live.{entry_in, is_file, is_live, live_entries, valid_entries}
use Rattle.fsync_relink.specs.log_laws.image_model.Reading.{Reads}
use Rattle.fsync_relink.specs.log_laws.image_model.Room.{unused_blocks}
use Rattle.fsync_relink.specs.log_laws.image_model.Rules.{geometry_of, IsChecked}
use Rattle.fsync_relink.specs.log_laws.image_model.Volume.{chain, extents, free_inode, inode, Volume}
use Rattle.std.specs.List.{range_with_len}
use Rattle.fsync_relink.specs.log_laws.extent_model.Extents.{disk_at}
use Rattle.fsync_relink.specs.log_laws.extent_model.Moves.{IsMapped}
use Rattle.fsync_relink.specs.log_laws.list_laws.Filters.{filter-In, filter_map-In}
use Rattle.fsync_relink.specs.log_laws.list_laws.Members.{In}
use Rattle.fsync_relink.specs.log_laws.image_laws.CheckedLaws.{checked-parts}
use Rattle.k_split.specs.k_map_plans.Plans.{MayMove}
use Rattle.world_image_laws.specs.Images.{IsHeaded}
use Rattle.log_replay.specs.Sheds.{IsAtRest}
use Rattle.k_split.specs.k_plans.Whole.{IsWhole}
use Rattle.fsync_relink.specs.log_laws.k_split_model.Stands.{IsOldOrNew}
use Rattle.fsync_relink.specs.log_laws.k_split_model.View.{View}
use Rattle.k_split.specs.Answers.{IsPaid}
use Rattle.k_split.specs.MapChanges.{ChangesMaps, is_free_in, IsMovedSingle, IsMovedWith, IsRelinkAnswer}
use Rattle.k_split.specs.declared.faults.KFault.{KFault}
use Rattle.fsync_relink.specs.Moves.{move_for}
use Rattle.fsync_relink.specs.log_laws.volume_laws.Footprint.{SameLog}
use Rattle.fsync_relink.specs.log_laws.volume_laws.FootprintLaws.{live_entries-same}
use Rattle.fsync_relink.specs.log_laws.world_model.LogRules.{live_parts}
use Rattle.fsync_relink.specs.log_laws.world_model.Landed.{kind_file}
use Rattle.fsync_relink.proofs.log_laws_proofs.CheckedLaws.{sound-checked}
use Rattle.fsync_relink.proofs.RelinkLaws.{count-same}
use Rattle.fsync_relink.proofs.WorldLaws.{gives-relinks, keeps-content, relink-takes_one}
use Rattle.fsync_relink.specs.Laws.{IsRelinkOf}
use Rattle.fsync_relink.specs.log_laws.Logs.{AreSound, CarriesOut, HasSameFiles, IsNext}
use Rattle.fsync_relink.specs.Images.{IsCarried}
use Rattle.fsync_relink.specs.log_laws.world_write_laws.Relinks.{SameLine}
use Rattle.log_replay.specs.Replays.{IsReplayAnswer, IsReplayed, IsReplayPaid, live_in, MayReplay, seen, ShowsTheSame, stopped_by}
use Rattle.fsync_relink.proofs.log_laws_proofs.Heads.{headed-next}
use Rattle.fsync_relink.proofs.log_laws_proofs.Kept.{log-carried, log-same}
use Rattle.fsync_relink.specs.log_laws.Orders.{ComeFirst}
use Rattle.fsync_relink.proofs.log_laws_proofs.InOrder.{first-in_order, no-member, permuted}

-- From k0 the entries in front were carried out; these are left.
pub record IsOnTheWay (k0 : View) (left : List Draft) (k : View) : Type 0 where
  pub rest : IsAtRest k
  pub geometry : k.volume.geometry ≡ k0.volume.geometry
  pub base : k.volume.base ≡ k0.volume.base
  pub lines : (ino : ℕ) → SameLine (inode k0.volume ino) (inode k.volume ino)
  pub numbers : geometry_of (words_of k.cells) ≡ k0.volume.geometry
  pub checked : IsCheckedAs (4096 * k0.volume.geometry.blocks) (words_of k.cells) k.volume
  pub log : SameLog k0.volume.geometry (seen k0) (seen k)
  pub same : content k0.volume.geometry (words_of k.cells) ≡ content k0.volume.geometry (words_of k0.cells)
  pub live : (e : Draft) → In e (live_in k) ↔ In e left
  pub files : HasSameFiles k0.volume k.volume (seen k0)
  pub strict : ComeFirst left

some-member : {X : Type 0} (xs : List X) (x : X) → In x xs → 1 ≤ length xs
some-member [] x is = absurd is
some-member (y ∷ ys) x is = omega arith

-- ---- images of a device at rest

home-single : (d : List Cell) → AllSingle d → AllHome d
home-single d single i = single-home (cell d i) (single i)

log-then : (g : Geometry) (a b c : Words) → SameLog g a b → SameLog g b c → SameLog g a c
log-then g a b c first second = record { words = λ s w below at. second.words s w below at ∙ first.words s w below at }

-- K-Split on the way shows what k0 did
shown-now : (k0 : View) (left : List Draft) (k : View) → IsOnTheWay k0 left k → ShowsTheSame k0.volume.geometry (words_of k0.cells) (words_of k.cells)
shown-now k0 left k way = record {
  numbers = way.numbers;
  checked = checked-parts (4096 * k0.volume.geometry.blocks) (words_of k.cells) k.volume way.checked;
  log = way.log;
  same = way.same;
}

pub shown-so_far : (k0 : View) (left : List Draft) (k : View) → IsAtRest k0 → IsOnTheWay k0 left k → Follows (ShowsTheSame k0.volume.geometry) k0.cells k.cells
shown-so_far k0 left k rest way =
    Follows-from_words (ShowsTheSame k0.volume.geometry) k0.cells k.cells (home-single k0.cells rest.single)
    (λ image is. subst (ShowsTheSame k0.volume.geometry (words_of k0.cells)) (sym (image-single k.cells image way.rest.single is)) (shown-now k0 left k way))

-- ---- the beginning

drafts-live : (v : Volume) (f : Words) (d : Draft) → In d (live_entries v f) → is_draft d ≡ true
drafts-live v f d is =
    let live = filter-In (is_live v) (valid_entries v f) d is in
    let from = filter_map-In (entry_in v f) (range_with_len 0 v.geometry.log) d live.0 in
    (IsEntryLine-decode_entry (line_bytes f (log_line v.geometry from.0)) (v.base + from.0) d from.2).fields

pub way-begins : (k : View) (ds : List Draft) → MayReplay k ds → IsOnTheWay k ds k
way-begins k ds may = record {
  rest = may.rest;
  geometry = refl;
  base = refl;
  lines = λ ino. record { kind = refl; generation = refl };
  numbers = may.numbers;
  checked = may.checked;
  log = record { words = λ s w below at. refl };
  same = refl;
  live = λ e. permuted (live_in k) ds e may.entries.same;
  files = record { names = refl; kind = λ ino. refl; size = λ ino is. refl; disk = λ ino block is. refl };
  strict = first-in_order k.volume (seen k) ds may.checked.log.recovers.orders may.entries;
}

-- ---- what a relink asks for

below-count : (v : Volume) (ino : ℕ) (kind : Kind) → (inode v ino).kind ≡ kind → Free ≢ kind → ino < length v.inodes
below-count v ino kind is used = elim (cases_lt ino (length v.inodes)) [
  | inl below ↦ below
  | inr past ↦ absurd (used (sym (ap (λ x. x.kind) (get_or_past v.inodes ino free_inode past)) ∙ is))
]

module _ (k0 : View) (d : Draft) (left : List Draft) (k : View) (way : IsOnTheWay k0 (d ∷ left) k) where
  alive : In d (live_in k)
  alive = (way.live d).1 (inl refl)

  sound : AreSound k.volume (live_in k)
  sound = sound-checked k.volume (seen k) way.rest.order.whole.kept.geometry way.rest.order.whole.kept.kept way.checked.log.recovers

  draft : is_draft d ≡ true
  draft = drafts-live k.volume (seen k) d alive

  lives : is_live k.volume d ≡ true
  lives = (filter-In (is_live k.volume) (valid_entries k.volume (seen k)) d alive).1

  file : (inode k.volume d.ino).kind ≡ File
  file = kind_file (inode k.volume d.ino).kind (and_parts (is_file (inode k.volume d.ino).kind) ((inode k.volume d.ino).generation == d.generation) (live_parts k.volume d lives).0).0

  staging : (inode k.volume d.staging).kind ≡ Staging
  staging = sound.staging d alive

  some : 1 ≤ d.count
  some = grind (arith, nat_tests, draft)

  place : d.file_block + d.count ≤ 4096
  place = grind (arith, nat_tests, draft)

  size : d.size ≤ LONGEST_FILE
  size = grind (arith, nat_tests, draft)

  order : d.order ≤ 2 ^ 63
  order = grind (arith, nat_tests, draft)

  there : IsMapped (extents k.volume d.staging) d.staging_block d.count
  there b low high =
      subst (λ n. IsSome (disk_at (extents k.volume d.staging) n)) (omega (arith, low))
      (sound.staged d alive (b - d.staging_block) (omega (arith, low, high)))

  pub may-move : MayMove (move_for d d.size) k.volume
  may-move = record {
    staging = record { below = below-count k.volume d.staging Staging staging (λ same. (cc)); kind = staging };
    file = record { below = below-count k.volume d.ino File file (λ same. (cc)); file = file };
    some = some;
    there = there;
    place = place;
    size = size;
    applied = order;
  }

  pub moves-single : IsMovedSingle (move_for d d.size) k.volume k.cells
  moves-single b i within at = way.rest.single i

  pub room-there : reserve k.volume.geometry ≤ unused_blocks k.volume + 2
  room-there =
      let one = some-member (live_in k) d alive in
      omega (arith, way.checked.log.recovers.unused, one)

  -- ---- a relink, done or cut off

  module _ (k2 : View) (w : Volume) (blocks : List ℕ) (whole : IsWhole w) (moved : IsMovedWith (move_for d d.size) k w blocks)
      (changes : ChangesMaps blocks k.committed w k.cells k2.cells) where
    is : IsRelinkOf d d.size k w blocks moved
    is = gives-relinks d d.size k w blocks way.rest.order way.rest.unbatched may-move whole moved

    next : IsNext w (live_in k) d
    next = record { there = alive; first = first; size = λ alone. is.size_is } where
      first : (e : Draft) → In e (live_in k) → e.ino ≡ d.ino → (d ≡ e) ⊎ (d.order < e.order)
      first e there own = elim ((way.live e).0 there) [ inl same ↦ inl same | inr behind ↦ inr (way.strict.0 e behind (sym own)) ]

    carried : (image : Words) → IsImage k2.cells image → IsCarried (move_for d d.size) k.volume w (words_of k.cells) image
    carried image is_image =
        let from = keeps-content (move_for d d.size) k k2 w blocks way.rest.order way.rest.unbatched may-move whole moved changes image is_image in
        subst (λ before. IsCarried (move_for d d.size) k.volume w before image) (image-single k.cells from.0 way.rest.single from.1.is_image) from.2

    out : CarriesOut k.volume w (seen k) d
    out = (carried (words_of k2.cells) (IsImage-words_of k2.cells)).carried d refl sound next

    settled : k.committed ≡ k.volume
    settled = way.rest.order.settled way.rest.unbatched

    changed : (image : Words) → IsImage k2.cells image → IsOldOrNew k0.volume.geometry blocks k.volume w (words_of k.cells) image
    changed image is_image =
        let old : ChangesMaps blocks k.volume w k.cells k2.cells = subst (λ v. ChangesMaps blocks v w k.cells k2.cells) settled changes in
        let from = old.each_image image is_image in
        subst (λ h. IsOldOrNew h blocks k.volume w (words_of k.cells) image) way.geometry
        (subst (λ before. IsOldOrNew k.volume.geometry blocks k.volume w before image) (image-single k.cells from.0 way.rest.single from.1.is_image) from.2)

    in_data : All (λ b. is_data_block k0.volume.geometry b ≡ true) blocks
    in_data =
        subst (λ h. All (λ b. is_data_block h b ≡ true) blocks) (is.relinks.geometry ∙ way.geometry)
        (subst (All (λ b. is_data_block w.geometry b ≡ true)) (sym moved.written)
        (All-append (λ b. is_data_block w.geometry b ≡ true) (chain w d.ino) (chain w d.staging) (whole.chains d.ino) (whole.chains d.staging)))

    headed : (image : Words) → IsImage k2.cells image → IsHeaded k0.volume.geometry image
    headed image is_image =
        headed-next k0.volume.geometry blocks k.volume w (words_of k.cells) image in_data (record { head = way.checked.head; geometry = way.numbers }) (changed image is_image) is.base
        way.checked.reads.base

    log_now : (image : Words) → IsImage k2.cells image → SameLog k.volume.geometry (seen k) (journaled image)
    log_now image is_image = (carried image is_image).log

    -- the image as one of the volume before, and as one of the volume then
    as_old : (image : Words) → IsImage k2.cells image → Reads k0.volume.geometry (journaled image) k.volume → IsCheckedAs (4096 * k0.volume.geometry.blocks) image k.volume
    as_old image is_image reads = record {
      head = (headed image is_image).head;
      reads = subst (λ h. Reads h (journaled image) k.volume) (sym (headed image is_image).geometry) reads;
      kept = way.rest.order.whole.kept.kept;
      log = log-same k.volume (seen k) (journaled image) (log_now image is_image) way.checked.log;
    }

    pub as_new : (image : Words) → IsImage k2.cells image → Reads k0.volume.geometry (journaled image) w → IsCheckedAs (4096 * k0.volume.geometry.blocks) image w
    as_new image is_image reads = record {
      head = (headed image is_image).head;
      reads = subst (λ h. Reads h (journaled image) w) (sym (headed image is_image).geometry) reads;
      kept = whole.kept.kept;
      log =
          log-same w (seen k) (journaled image) (subst (λ h. SameLog h (seen k) (journaled image)) (sym is.relinks.geometry) (log_now image is_image))
          (log-carried k.volume w (seen k) d is.relinks.geometry is.base counts (λ ino. is.relinks.same ino) out alive
          (relink-takes_one (move_for d d.size) k w blocks way.rest.order way.rest.unbatched may-move whole moved) way.checked.log);
    } where
      counts : length w.inodes ≡ length k.volume.inodes
      counts = count-same (is_free_in k) (move_for d d.size) k.volume w moved.displaced way.rest.order.whole may-move moved.moved

    is-checked : (image : Words) → IsImage k2.cells image → IsChecked (4096 * k0.volume.geometry.blocks) image
    is-checked image is_image = elim (changed image is_image).reads [
      | inl reads ↦ checked-parts (4096 * k0.volume.geometry.blocks) image k.volume (as_old image is_image reads)
      | inr reads ↦ checked-parts (4096 * k0.volume.geometry.blocks) image w (as_new image is_image reads)
    ]

    pub log-beside : (image : Words) → IsImage k2.cells image → SameLog k0.volume.geometry (seen k0) (journaled image)
    log-beside image is_image =
        log-then k0.volume.geometry (seen k0) (seen k) (journaled image) way.log (subst (λ h. SameLog h (seen k) (journaled image)) way.geometry (log_now image is_image))

    pub content-beside : (image : Words) → IsImage k2.cells image → content k0.volume.geometry image ≡ content k0.volume.geometry (words_of k0.cells)
    content-beside image is_image =
        subst (λ h. content h image ≡ content h (words_of k.cells)) way.geometry ((carried image is_image).same d refl sound next) ∙ way.same

    beside : (image : Words) → IsImage k2.cells image → ShowsTheSame k0.volume.geometry (words_of k0.cells) image
    beside image is_image = record {
      numbers = (headed image is_image).geometry;
      checked = is-checked image is_image;
      log = log-beside image is_image;
      same = content-beside image is_image;
    }

    pub shown-next : IsAtRest k0 → Follows (ShowsTheSame k0.volume.geometry) k0.cells k2.cells
    shown-next rest = Follows-from_words (ShowsTheSame k0.volume.geometry) k0.cells k2.cells (home-single k0.cells rest.single) beside

-- ---- an entry is carried out

module _ (k0 : View) (d : Draft) (left : List Draft) (k : View) (way : IsOnTheWay k0 (d ∷ left) k) (k2 : View)
    (gave : IsRelinkAnswer (move_for d d.size) k k2 (Ok tt)) where
  rest_now : IsAtRest k2
  rest_now = record {
    order = gave.2.order;
    unbatched = gave.2.batched ∙ way.rest.unbatched;
    on = gave.2.kept_on;
    single = λ i. gave.2.singles i (way.rest.single i);
  }

  relinked : IsRelinkOf d d.size k k2.volume gave.0 gave.1
  relinked = is k0 d left k way k2 k2.volume gave.0 gave.2.order.whole gave.1 gave.2.changes

  its : IsCarried (move_for d d.size) k.volume k2.volume (words_of k.cells) (words_of k2.cells)
  its = carried k0 d left k way k2 k2.volume gave.0 gave.2.order.whole gave.1 gave.2.changes (words_of k2.cells) (IsImage-words_of k2.cells)

  out_now : CarriesOut k.volume k2.volume (seen k) d
  out_now = out k0 d left k way k2 k2.volume gave.0 gave.2.order.whole gave.1 gave.2.changes

  geometry_now : k2.volume.geometry ≡ k.volume.geometry
  geometry_now = relinked.relinks.geometry

  live_now : live_in k2 ≡ live_entries k2.volume (seen k)
  live_now = live_entries-same k2.volume (seen k) (seen k2) (subst (λ g. SameLog g (seen k) (seen k2)) (sym geometry_now) its.log)

  reads_now : Reads k0.volume.geometry (seen k2) k2.volume
  reads_now =
      let settled : k2.committed ≡ k2.volume = gave.2.order.settled rest_now.unbatched in
      subst (λ g. Reads g (seen k2) k2.volume) (geometry_now ∙ way.geometry)
      (subst (λ (v : Volume). Reads v.geometry (seen k2) v) settled (gave.2.order.stands.reads (words_of k2.cells) (IsImage-words_of k2.cells)))

  -- by the words of the beginning
  live_first : (v : Volume) → v.geometry ≡ k0.volume.geometry → live_entries v (seen k) ≡ live_entries v (seen k0)
  live_first v same = live_entries-same v (seen k0) (seen k) (subst (λ g. SameLog g (seen k0) (seen k)) (sym same) way.log)

  left_now : (e : Draft) → In e (live_in k2) ↔ In e left
  left_now e = (on, back) where
    behind : In e (d ∷ left) → d ≢ e → In e left
    behind (inl same) other = absurd (other same)
    behind (inr there) other = there

    on : In e (live_in k2) → In e left
    on there =
        let was = (out_now.left e).0 (subst (In e) live_now there) in
        behind ((way.live e).0 was.0) was.1

    back : In e left → In e (live_in k2)
    back there =
        subst (In e) (sym live_now)
        ((out_now.left e).1 ((way.live e).1 (inr there), λ same. let less = way.strict.0 e there (ap (λ (x : Draft). x.ino) same) in omega (arith, less, ap (λ (x : Draft). x.order) same)))

  files_now : HasSameFiles k0.volume k2.volume (seen k0)
  files_now = record {
    names = out_now.files.names ∙ way.files.names;
    kind = λ ino. out_now.files.kind ino ∙ way.files.kind ino;
    size = λ ino is.
        ap (λ live. size_of k2.volume live ino) (sym (live_first k2.volume (geometry_now ∙ way.geometry)))
        ∙ out_now.files.size ino (way.files.kind ino ∙ is)
        ∙ ap (λ live. size_of k.volume live ino) (live_first k.volume way.geometry)
        ∙ way.files.size ino is;
    disk = λ ino block is.
        ap (λ live. disk_of k2.volume live ino block) (sym (live_first k2.volume (geometry_now ∙ way.geometry)))
        ∙ out_now.files.disk ino block (way.files.kind ino ∙ is)
        ∙ ap (λ live. disk_of k.volume live ino block) (live_first k.volume way.geometry)
        ∙ way.files.disk ino block is;
  }

  pub way-goes_on : IsOnTheWay k0 left k2
  way-goes_on = record {
    rest = rest_now;
    geometry = geometry_now ∙ way.geometry;
    base = relinked.base ∙ way.base;
    lines = λ ino. record {
      kind = (relinked.relinks.same ino).kind ∙ (way.lines ino).kind;
      generation = (relinked.relinks.same ino).generation ∙ (way.lines ino).generation;
    };
    numbers = (headed k0 d left k way k2 k2.volume gave.0 gave.2.order.whole gave.1 gave.2.changes (words_of k2.cells) (IsImage-words_of k2.cells)).geometry;
    checked = as_new k0 d left k way k2 k2.volume gave.0 gave.2.order.whole gave.1 gave.2.changes (words_of k2.cells) (IsImage-words_of k2.cells) reads_now;
    log = log-beside k0 d left k way k2 k2.volume gave.0 gave.2.order.whole gave.1 gave.2.changes (words_of k2.cells) (IsImage-words_of k2.cells);
    same = content-beside k0 d left k way k2 k2.volume gave.0 gave.2.order.whole gave.1 gave.2.changes (words_of k2.cells) (IsImage-words_of k2.cells);
    live = left_now;
    files = files_now;
    strict = way.strict.1;
  }

-- ---- K-Split did not carry it out

pub way-stops : (k0 : View) (d : Draft) (left : List Draft) (k k2 : View) (f : KFault) → IsAtRest k0 → IsOnTheWay k0 (d ∷ left) k
    → IsRelinkAnswer (move_for d d.size) k k2 (Err f) → Follows (ShowsTheSame k0.volume.geometry) k0.cells k2.cells
way-stops k0 d left k k2 (KFault.Refused errno) rest way answer = absurd answer
way-stops k0 d left k k2 (KFault.Room room) rest way answer = absurd answer
way-stops k0 d left k k2 KFault.NoMemory rest way answer =
    subst (λ (z : View). Follows (ShowsTheSame k0.volume.geometry) k0.cells z.cells) (sym answer) (shown-so_far k0 (d ∷ left) k rest way)
way-stops k0 d left k k2 KFault.PowerLost rest way (inl off) =
    subst (λ (z : View). Follows (ShowsTheSame k0.volume.geometry) k0.cells z.cells) (sym off) (shown-so_far k0 (d ∷ left) k rest way)
way-stops k0 d left k k2 KFault.PowerLost rest way (inr cut) =
    shown-next k0 d left k way k2 cut.0 cut.1 cut.3.whole cut.2 cut.3.changes rest

pub way-stops-paid : (d : Draft) (k k2 : View) (p q : Supply) (f : KFault) → IsRelinkAnswer (move_for d d.size) k k2 (Err f)
    → IsPaid {T = Unit {0}} None p q (Err f) → IsReplayPaid q (stopped_by f)
way-stops-paid d k k2 p q (KFault.Refused errno) answer paid = absurd answer
way-stops-paid d k k2 p q (KFault.Room room) answer paid = absurd answer
way-stops-paid d k k2 p q KFault.PowerLost answer paid = paid
way-stops-paid d k k2 p q KFault.NoMemory answer paid = paid.1

-- ---- all are carried out

pub way-ends : (k0 k : View) → IsOnTheWay k0 [] k → IsReplayed k0 k
way-ends k0 k way = record {
  rest = way.rest;
  geometry = way.geometry;
  base = way.base;
  numbers = way.numbers;
  checked = way.checked;
  none = no-member (live_in k) (λ e there. (way.live e).0 there);
  files = way.files;
  lines = way.lines;
}

-- ---- places in the list

pub way-at : (k0 : View) (ds : List Draft) (i : ℕ) (d e : Draft) (k : View) → i < length ds → get_or ds i d ≡ e → IsOnTheWay k0 (drop i ds) k
    → IsOnTheWay k0 (e ∷ drop (i + 1) ds) k
way-at k0 ds i d e k below at way =
    subst (λ left. IsOnTheWay k0 left k) (drop-cons ds i d below ∙ (λ j. at j ∷ drop (sym (add-one i) j) ds)) way

none-left : (ds : List Draft) (i : ℕ) → length ds ≤ i → drop i ds ≡ []
none-left ds i past = drop_all i ds past

pub way-whole : (k0 : View) (ds : List Draft) (i : ℕ) (k : View) → length ds ≤ i → IsOnTheWay k0 (drop i ds) k → IsReplayed k0 k
way-whole k0 ds i k past way = way-ends k0 k (subst (λ left. IsOnTheWay k0 left k) (none-left ds i past) way)

-- ---- answers and steps

pub answer-stopped : (d : Draft) (old k k2 : View) (f : KFault) → IsRelinkAnswer (move_for d d.size) k k2 (Err f) → IsReplayAnswer old k2 (stopped_by f)
answer-stopped d old k k2 (KFault.Refused errno) answer = absurd answer
answer-stopped d old k k2 (KFault.Room room) answer = absurd answer
answer-stopped d old k k2 KFault.PowerLost answer = tt
answer-stopped d old k k2 KFault.NoMemory answer = tt

pub more-steps : (n i : ℕ) (a b c : Supply) → i < n → Steps (2 ^ 15 * i) a b → Steps (2 ^ 15) b c → Steps (2 ^ 15 * n) a c
more-steps n i a b c below first second = record {
  given = second.given ∙ first.given;
  on_before = λ on. first.on_before (second.on_before on);
  later = omega (arith, first.later, second.later);
  bound = omega (arith, first.bound, second.bound, below);
}

pub as-many : (n i : ℕ) (a b : Supply) → i ≤ n → Steps (2 ^ 15 * i) a b → Steps (2 ^ 15 * n) a b
as-many n i a b most first = record { given = first.given; on_before = first.on_before; later = first.later; bound = omega (arith, first.bound, most) }

-- the entry at a place; past the end a blank one
abbrev pub blank : Draft
blank = record { count = 0; order = 0; ino = 0; generation = 0; file_block = 0; staging = 0; staging_block = 0; staging_generation = 0; size = 0 }

abbrev pub entry_at : List Draft → ℕ → Draft
entry_at ds i = get_or ds i blank
