-- What the calls see, behind a write that stages nothing.
use Rattle.std.specs.Prelude.{◌≡◌, ◌≢◌, ◌⊎◌, ◌<◌, ◌≤◌, ◌+◌, ◌*◌, ◌/◌, ◌%◌, ℕ, true, List, [], length, Some, slice_index}
use Rattle.std.proofs.Common.{arith, ap, ◌∙◌, sym, subst, inl, inr}
use Rattle.live_model.specs.pm_model.Images.{IsImage}
use Rattle.live_model.specs.pm_model.Words.{byte_of, Words}
use Rattle.live_model.specs.layout_model.Journal.{journaled}
use Rattle.live_model.specs.layout_model.Places.{Geometry}
use Rattle.live_model.specs.layout_model.declared.lines.Draft.{Draft}
use Rattle.live_model.specs.layout_model.declared.lines.Kind.TheVariants.{File}
use Rattle.live_model.specs.image_model.Content.{byte_in, disk_of}
use Rattle.live_model.specs.image_model.Volume.{inode, Volume}
use Rattle.live_model.specs.file_table.Files.{Files, size_in}
use Rattle.live_model.specs.k_split_model.View.{View}
use Rattle.live_model.specs.commute_laws.posix_types.declared.item.Item.{Item}
use Rattle.live_model.specs.posix_tables.Nodes.{bytes_of, node_at, published_of}
use Rattle.live_model.specs.posix_laws.Puts.{put_bytes}
use Rattle.live_model.specs.posix_spec.Put.{Put}
use Rattle.live_model.specs.posix_spec.Run.{after_call, begun, run}
use Rattle.live_model.specs.posix_spec.State.{State}
use Rattle.live_model.specs.world_model.Stands.{FileStands, is_used, IsUsed, NodeStands, number, Stands}
use Rattle.live_model.specs.world_step_laws.Worlds.{IsWorld}
use Rattle.posix_mode_laws.specs.Sides.{sized}
use Rattle.posix_mode_laws.specs.Sized.{kind-sized}
use Rattle.batch_laws.specs.Ready.{GoesReady}
use Rattle.batch_laws.specs.Standing.{as_claims, staged_of}
use Rattle.batch_laws.specs.WorldsLaws.{cut_is_world, live_is_world, size_of_staged}
use Rattle.world_write_laws.specs.PlaceSteps.{in_place_beside}
use Rattle.world_write_laws.specs.Places.{WritesBeside}
use Rattle.batch_write_laws.specs.Cutting.{beside_is, file_stands, fits_new, leaves, log_plain, range_or, whole_is}
use Rattle.batch_write_laws.specs.Words.{WritesWords, put_end}
use Rattle.batch_write_laws.specs.WordsLaws.{IsRange, other_seen, seen_stays}
use Rattle.batch_write_laws.specs.Writes.{IsNoBlock, PutsInto}

module _ (g : Geometry) (k : View) (files : Files) (count : ℕ) (numbers : List ℕ) (start : State) (history : List Item) (item : Item) (ino : ℕ) (p : Put)
    (ready : GoesReady g k files count numbers start history) (puts : PutsInto k.volume numbers (run start history) item ino p) where
  abbrev v : Volume
  v = k.volume

  abbrev s : State
  s = run start history

  abbrev new : State
  new = after_call (run start history) (begun item)

  abbrev staged : List Draft
  staged = staged_of k.volume files

  abbrev n : ℕ
  n = number numbers ino

  abbrev whole : List ℕ
  whole = put_bytes (run start history) p

  module _ (before : Words) (is : IsImage k.cells before) where
    pub old_stands : Stands (sized files.sizes v) staged (journaled before) numbers s
    old_stands =
        subst (λ ds. Stands (sized files.sizes v) ds (journaled before) numbers s) (live_is_world g k files count numbers start history before ready.going is).1
        (live_is_world g k files count numbers start history before ready.going is).0.valid.stands

    pub sized_file : (inode (sized files.sizes v) ino).kind ≡ File
    sized_file = kind-sized files.sizes v ino ∙ puts.file

    -- the file has its bytes where the calls see them
    pub old_file : FileStands (sized files.sizes v) staged (journaled before) ino (bytes_of (node_at s.nodes n))
    old_file =
        file_stands (sized files.sizes v) staged (journaled before) ino (node_at s.nodes n)
        (subst (λ kind. NodeStands (sized files.sizes v) staged (journaled before) ino kind (node_at s.nodes n)) sized_file (old_stands.nodes.each ino (ap is_used sized_file)))

    module _ (live : List Draft) (IsFreshBlock : ℕ → Type 0) (h : Words) (range : IsRange v staged live ino p.place (put_end p) (size_in files ino) IsFreshBlock)
        (writes : WritesWords v live ino p.place (put_end p) whole IsFreshBlock (journaled before) h) where
      -- beside the range each byte that was below the length is that of the call's end
      pub beside_stays : (i : ℕ) → i < size_in files ino → (i < p.place) ⊎ (put_end p ≤ i) → byte_in h (disk_of v staged ino (i / 4096)) i ≡ slice_index whole i
      beside_stays i below apart =
          let size = old_file.size in
          let kept = size_of_staged v files ino ready.going.sizes puts.file in
          let low : i < length (bytes_of (node_at s.nodes n)) = omega (arith, size, kept, below) in
          seen_stays v staged live ino p.place (put_end p) (size_in files ino) whole IsFreshBlock (journaled before) h (cut_is_world g k files count numbers start history before ready.going is).valid.stands.sane
          (log_plain files.sizes v staged old_stands.log) (cut_is_world g k files count numbers start history before ready.going is).valid.stands.log puts.file range writes i apart
          ∙ (old_file.each i low ∙ beside_is g k files count numbers start history item ino p ready puts i apart)

      -- in blocks of other files no word differs
      pub others_stay : (j x b i : ℕ) → IsUsed v j → j ≢ ino → disk_of v staged j x ≡ Some b → i < 4096 → byte_of h (4096 * b + i) ≡ byte_of (journaled before) (4096 * b + i)
      others_stay j x b i j_used other at small =
          let all =
          other_seen v staged live ino p.place (put_end p) (size_in files ino) whole IsFreshBlock (journaled before) h (cut_is_world g k files count numbers start history before ready.going is).valid.stands.sane
          (log_plain files.sizes v staged old_stands.log) (cut_is_world g k files count numbers start history before ready.going is).valid.stands.log puts.file range writes j x i j_used other
          in
          let rest : i % 4096 ≡ i = omega (arith, small) in
          subst (λ m. byte_of h (4096 * b + m) ≡ byte_of (journaled before) (4096 * b + m)) rest (subst (λ o. byte_in h o i ≡ byte_in (journaled before) o i) at all)

    -- WHERE NOTHING IS STAGED: the file has its bytes where they lie.
    module _ (within : put_end p ≤ size_in files ino) (h : Words) (writes : WritesWords v staged ino p.place (put_end p) whole IsNoBlock (journaled before) h) where
      pub range_in : IsRange v staged staged ino p.place (put_end p) (size_in files ino) IsNoBlock
      range_in = record {
        was = λ i b from below at. inr (at, omega (arith, below, within));
        unused = λ j block b used at never. never;
        unmapped = λ j block b used at never. never;
      }

      same_length : length whole ≡ size_in files ino
      same_length = let is = whole_is g k files count numbers start history item ino p ready puts in grind (arith, is, within)

      seen_writes : WritesBeside (sized files.sizes v) staged (journaled before) h ino whole
      seen_writes = record {
        file = sized_file;
        size = sym (size_of_staged v files ino ready.going.sizes puts.file) ∙ sym same_length;
        each = λ i below. each i (subst (λ m. i < m) same_length below) (range_or p.place (put_end p) i);
        others = λ j x b i j_used other at small. others_stay staged IsNoBlock h range_in writes j x b i (subst (λ kind. is_used kind ≡ true) (kind-sized files.sizes v j) j_used) other at small;
      } where
        each : (i : ℕ) → i < size_in files ino → ((p.place ≤ i) × (i < put_end p)) ⊎ ((i < p.place) ⊎ (put_end p ≤ i)) → byte_in h (disk_of (sized files.sizes v) staged ino (i / 4096)) i ≡ slice_index whole i
        each i below (inl inside) = writes.seen i inside.0 inside.1
        each i below (inr apart) = beside_stays staged IsNoBlock h range_in writes i below apart

      pub seen_behind : IsWorld (sized files.sizes v) (as_claims staged) [] h numbers new count
      seen_behind =
          let live = live_is_world g k files count numbers start history before ready.going is in
          let left = leaves g k files count numbers start history item ino p ready puts in
          in_place_beside (sized files.sizes v) (as_claims staged) (journaled before) h numbers s new count ino whole (published_of (node_at s.nodes n)) live.0
          (subst (λ ds. WritesBeside (sized files.sizes v) ds (journaled before) h ino whole) (sym live.1) seen_writes)
          (fits_new g k files count numbers start history item ino p ready puts) left.entries left.shape left.nodes
