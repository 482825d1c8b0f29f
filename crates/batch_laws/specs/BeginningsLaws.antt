-- The standing begins.
use Rattle.std.specs.Prelude.{◌≡◌, ◌≢◌, ◌⊎◌, ◌+◌, ℕ, zero, suc, true, List, [], ◌∷◌, ◌++◌, length, map, slice_index, refl}
use Rattle.std.specs.List.{flat_map, range_with_len}
use Rattle.std.proofs.Common.{arith, ap, ◌∙◌, sym, subst, inl, inr}
use Rattle.std.proofs.Math.ListN.{get_or-map}
use Rattle.std.proofs.lemmas.Bool.{cases_lt}
use Rattle.std.proofs.lemmas.Bool.Decides.{nat_tests}
use Rattle.std.proofs.lemmas.List.{ext_get_or, get_or_past, length-map}
use Rattle.eof_laws.specs.live_model.pm_model.ImageLaws.{IsImage-words_of}
use Rattle.eof_laws.specs.live_model.pm_model.Images.{words_of}
use Rattle.eof_laws.specs.live_model.pm_model.Words.{Words}
use Rattle.eof_laws.specs.live_model.extent_model.declared.extent_words.Extent.{Extent}
use Rattle.eof_laws.specs.live_model.layout_model.Journal.{journaled}
use Rattle.eof_laws.specs.live_model.layout_model.Lines.{is_inode_of_kind}
use Rattle.eof_laws.specs.live_model.layout_model.declared.lines.Draft.{Draft}
use Rattle.eof_laws.specs.live_model.layout_model.declared.lines.Inode.{Inode}
use Rattle.eof_laws.specs.live_model.layout_model.declared.lines.Kind.{Kind}
use Rattle.eof_laws.specs.live_model.layout_model.declared.lines.Kind.TheVariants.{Directory, File, Free, Staging}
use Rattle.eof_laws.specs.live_model.image_model.Reading.{Reads}
use Rattle.eof_laws.specs.live_model.image_model.Volume.{extents, free_inode, inode, Volume}
use Rattle.eof_laws.specs.live_model.file_table.Files.{Files, runs_in}
use Rattle.eof_laws.specs.live_model.list_laws.Members.{In}
use Rattle.eof_laws.specs.live_model.posix_laws.PublishLaws.{publishing_begins}
use Rattle.eof_laws.specs.live_model.crash_spec.Posix.{LastBeforeCut}
use Rattle.eof_laws.specs.live_model.world_step_laws.Ages.{AreAged}
use Rattle.eof_laws.specs.live_model.world_step_laws.Counts.{HasShape}
use Rattle.eof_laws.specs.live_model.world_step_laws.Worlds.{IsWorld}
use Rattle.eof_laws.specs.live_model.world_model.Rules.{HasFreeBlocks}
use Rattle.posix_mode_laws.specs.Beginning.{begins_in_posix_mode}
use Rattle.posix_mode_laws.specs.Device.{at_rest}
use Rattle.posix_mode_laws.specs.Sides.{PosixWorld, Sides}
use Rattle.batch_laws.specs.Standing.{as_claims, draft_of_run, sides_of, staged_of}
use Rattle.batch_laws.specs.Beginnings.{ReadyBegins}
use Rattle.batch_laws.specs.Ready.{AreUnmapped}

-- ---- nothing is staged

none_staged : (v : Volume) (files : Files) (a n : ℕ) → ((ino : ℕ) → runs_in files ino ≡ []) → flat_map (λ (ino : ℕ). map (draft_of_run v files ino) (runs_in files ino)) (range_with_len a n) ≡ []
none_staged v files a zero none = refl
none_staged v files a (suc n) none = (λ i. map (draft_of_run v files a) (none a i) ++ none_staged v files (a + 1) n none i)

-- ---- inodes that are no file

no_size : (kind : Kind) (x : Inode) → is_inode_of_kind kind x ≡ true → kind ≢ File → x.size ≡ 0
no_size Free x fits other = grind (arith, nat_tests, fits)
no_size Directory x fits other = grind (arith, nat_tests, fits)
no_size File x fits other = absurd (other refl)
no_size Staging x fits other = grind (arith, nat_tests, fits)

no_extents : (kind : Kind) (x : Inode) → is_inode_of_kind kind x ≡ true → kind ≢ File → kind ≢ Staging → x.extents ≡ 0
no_extents Free x fits other staging = grind (arith, nat_tests, fits)
no_extents Directory x fits other staging = grind (arith, nat_tests, fits)
no_extents File x fits other staging = absurd (other refl)
no_extents Staging x fits other staging = absurd (staging refl)

none_counted : (es : List Extent) (n : ℕ) → length es ≡ n → n ≡ 0 → es ≡ []
none_counted [] n is zeroth = refl
none_counted (e ∷ es) n is zeroth = absurd (omega (arith, is, zeroth))

-- WHAT IS NO FILE HAS NO BLOCK, in a volume that words read as.
pub unmapped_read : (v : Volume) (f : Words) → Reads v.geometry f v → ((ino : ℕ) → is_inode_of_kind (inode v ino).kind (inode v ino) ≡ true) → AreUnmapped v
unmapped_read v f reads lines ino no_file no_staging = elim (cases_lt ino v.geometry.inodes) [
  | inl below ↦ none_counted (extents v ino) (inode v ino).extents (reads.chains ino below).map.counted (no_extents (inode v ino).kind (inode v ino) (lines ino) no_file no_staging)
  | inr past ↦ get_or_past v.maps ino [] (let count = reads.map_count in omega (arith, past, count))
]

pub ready_begins : ReadyBegins
ready_begins k files numbers start count begins running mode tables all quiet home = record {
  going = record {
    mode = mode;
    order = begins.order;
    batched = begins.batched;
    on = begins.on;
    geometry = refl;
    is_geometry = world.geometry;
    publishing = publishing_begins start tables all;
    fits = world.valid.fits;
    shape = world.shape;
    blocks = running.device.room.blocks;
    quiet = quiet;
    home = home;
    sizes = begins.count;
    bare = λ ino other. (begins.runs ino, begins.others ino other);
    alive = λ d is. absurd (subst (In d) nothing is);
    aged = subst (λ (ds : List Draft). AreAged v (as_claims ds) count) (sym nothing) world.aged;
    spare = (let free = running.device.room.free in omega (arith, free));
    front = [];
    later = [];
    history_is = refl;
    old_numbers = numbers;
    world = λ image is.
        let shows = (begins_in_posix_mode v k.cells numbers start count running mode all).1.images image is in
        subst (λ (x : Sides). PosixWorld LastBeforeCut x (journaled image) start [] []) (sym sides_are) shows.world;
    headed = running.device.headed;
    fits_front = world.valid.fits;
    shape_front = subst (λ (x : Volume). HasShape x start) (sym begins.committed) world.shape;
    free = subst (λ (x : Volume). HasFreeBlocks x [] []) (sym begins.committed) running.device.room.free;
  };
  geometry = ap (λ (x : Volume). x.geometry) (sym begins.committed);
  base = ap (λ (x : Volume). x.base) (sym begins.committed);
  unmapped = unmapped_read v (journaled (words_of k.cells)) (running.device.stands.reads (words_of k.cells) (IsImage-words_of k.cells)) begins.order.whole.inodes;
  room = (let free = running.device.room.free in let none = ap (λ (ds : List Draft). length ds) nothing in omega (arith, free, none));
} where
  v : Volume
  v = k.volume

  world : IsWorld v [] [] (journaled (words_of k.cells)) numbers start count
  world = running.device.world (words_of k.cells) (IsImage-words_of k.cells)

  nothing : staged_of v files ≡ []
  nothing = none_staged v files 0 (length files.sizes) begins.runs

  -- the lengths are those of the inode lines
  each : (ino : ℕ) → slice_index files.sizes ino ≡ slice_index (map (λ (x : Inode). x.size) v.inodes) ino
  each ino = by (is_it (inode v ino).kind) ∙ sym (get_or-map (λ (x : Inode). x.size) v.inodes ino free_inode) where
    is_it : (kind : Kind) → (kind ≡ File) ⊎ (kind ≢ File)
    is_it Free = inr (λ same. cc)
    is_it Directory = inr (λ same. cc)
    is_it File = inl refl
    is_it Staging = inr (λ same. cc)

    by : ((inode v ino).kind ≡ File) ⊎ ((inode v ino).kind ≢ File) → slice_index files.sizes ino ≡ (inode v ino).size
    by (inl file) = begins.sizes ino file
    by (inr other) = begins.others ino other ∙ sym (no_size (inode v ino).kind (inode v ino) (begins.order.whole.inodes ino) other)

  lengths : files.sizes ≡ map (λ (x : Inode). x.size) v.inodes
  lengths = ext_get_or 0 files.sizes (map (λ (x : Inode). x.size) v.inodes) (begins.count ∙ sym (length-map v.inodes (λ (x : Inode). x.size))) (λ i below. each i)

  sides_are : sides_of k files numbers numbers ≡ at_rest v numbers
  sides_are = λ i. record { committed = begins.committed i; committed_numbers = numbers; batch = v; numbers = numbers; staged = nothing i; lengths = lengths i }
