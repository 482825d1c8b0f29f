-- What stands at the opening of a checked image whose journal is empty.
use Rattle.std.proofs.Common.{◌≡◌, ℕ, ◌*◌, ◌/◌, Bool, false, List, [], length, Result, Ok, Err, Vec, Global, refl, sym, ◌∙◌, ap, subst}
use Rattle.std.specs.Prelude.{IfOk}
use Rattle.std.specs.declared.alloc.AllocError.{AllocError}
use Rattle.block_io.specs.pm_model.declared.Cell.{Cell}
use Rattle.block_io.specs.pm_model.declared.Cell.TheVariants.{Single}
use Rattle.block_io.specs.pm_model.Cells.{AllSingle, cell, newest}
use Rattle.block_io.specs.pm_model.ImageLaws.{image-single}
use Rattle.block_io.specs.pm_model.Images.{words_of}
use Rattle.block_io.specs.pm_model.Words.{word_at, Words}
use Rattle.block_io.specs.layout_model.Journal.{journaled}
use Rattle.block_io.specs.layout_model.PlaceLaws.{journaled-words, behind_log-words}
use Rattle.block_io.specs.layout_model.Places.{Geometry, IsGeometry, base_word, commit_word}
use Rattle.block_io.specs.extent_model.declared.extent_words.Extent.{Extent}
use Rattle.layout_model.specs.declared.lines.Inode.{Inode}
use Rattle.layout_model.specs.Names.{Rows}
use Rattle.layout_model.specs.Tables.{IsKeyed}
use Rattle.block_io.specs.image_model.Kept.{AreKept}
use Rattle.block_io.specs.image_model.Reading.{Reads}
use Rattle.block_io.specs.image_model.Rules.{geometry_of, IsChecked}
use Rattle.block_io.specs.image_model.Volume.{Volume, volume}
use Rattle.k_tables.specs.volume_laws.ImageLaws.{journaled-idle}
use Rattle.k_tables.specs.volume_laws.LineWords.{data_word}
use Rattle.k_tables.specs.volume_laws.ReadingLaws.{reads-same, reads-volume}
use Rattle.k_tables.specs.name_laws.KeptLaws.{kept-keyed, reads-all_lines}
use Rattle.k_map_plans.specs.image_laws.CheckedLaws.{kept-checked, reads-checked}
use Rattle.k_map_plans.specs.image_laws.FreshLaws.{content-fresh, fresh-checked}
use Rattle.k_map_plans.specs.image_laws.FreshLines.{geometry_of-fresh}
use Rattle.layout_model.specs.Fresh.{fresh}
use Rattle.block_io.specs.image_model.Content.{content}
use Rattle.block_io.specs.image_model.FreshVolume.{root_alone}
use Rattle.k_map_plans.specs.k_journal.declared.batches.Record.{Record}
use Rattle.k_tables.specs.k_split_model.Stands.{Stands}
use Rattle.k_map_plans.specs.k_plans.View.{tables_view, TablesView}
use Rattle.k_map_plans.specs.k_plans.Whole.{IsWhole}
use Rattle.k_map_plans.specs.k_plans.WholeLaws.{whole-read}
use Rattle.k_split.specs.Order.{IsOpened, IsPlain, IsReady, view_of}
use Rattle.k_split.proofs.Ready.{in-order, plain-ready}

-- words whose journal is empty read as they do through it
pub reads-idle : (g : Geometry) (f : Words) (v : Volume) → f commit_word ≡ 0 → Reads g (journaled f) v → Reads g f v
reads-idle g f v idle r =
    reads-same g (journaled f) f v
    (record {
      lines = λ w line. sym (journaled-idle f w idle (journaled-words g (w / 8) w line refl));
      chains = λ ino k j below within word.
          sym (journaled-idle f _ idle (behind_log-words g _ (data_word g _ j (r.blocks ino below k 0 within) word)));
    })
    r

-- a device that is a checked image of this geometry, with an empty journal
pub record IsOpenable (g : Geometry) (d : List Cell) : Type 0 where
  pub size : length d ≡ 512 * g.blocks
  pub single : AllSingle d
  pub idle : cell d commit_word ≡ Single 0
  pub numbers : geometry_of (words_of d) ≡ g
  pub checked : IsChecked (4096 * g.blocks) (words_of d)

module _ (g : Geometry) (d : List Cell) (is : IsGeometry g) (open_is : IsOpenable g d) where
  f : Words
  f = words_of d

  v : Volume
  v = volume g (journaled f)

  no_commit : f commit_word ≡ 0
  unfolding f
  no_commit = ap newest open_is.idle

  through : Reads g (journaled f) v
  unfolding f v
  through = subst (λ h. Reads h (journaled (words_of d)) (volume h (journaled (words_of d)))) open_is.numbers (reads-checked (4096 * g.blocks) (words_of d) open_is.checked)

  reads : Reads g f v
  reads = reads-idle g f v no_commit through

  kept : AreKept v
  unfolding f v
  kept = subst (λ h. AreKept (volume h (journaled (words_of d)))) open_is.numbers (kept-checked (4096 * g.blocks) (words_of d) open_is.checked)

  -- so the volume of the words is the one through the journal
  pub same_volume : volume g (words_of d) ≡ volume g (journaled (words_of d))
  unfolding f v
  same_volume = reads-volume g f v reads

  pub keyed : IsKeyed (volume g (words_of d)).names
  unfolding f v
  keyed = subst (λ (w : Volume). IsKeyed w.names) (sym same_volume) (kept-keyed v kept (reads-all_lines g f v reads))

  pub whole : IsWhole (volume g (words_of d))
  unfolding f v
  whole = subst IsWhole (sym same_volume) (whole-read g f v is reads kept)

  pub reads-words : Reads g (words_of d) (volume g (words_of d))
  unfolding f v
  reads-words = subst (Reads g (words_of d)) (sym same_volume) reads

  stands : Stands g v d
  unfolding f v
  stands = record {
    size = open_is.size;
    idle = open_is.idle;
    single = λ i below. open_is.single i;
    chains = λ ino k i below at. open_is.single i;
    reads = λ image is_image. subst (λ h. Reads g (journaled h) v) (sym (image-single d image open_is.single is_image)) through;
  }

  pub plain : (t : TablesView) → t.volume ≡ volume g (words_of d) → t.waiting ≡ [] → t.aside ≡ [] → IsPlain t d
  unfolding f v
  plain t volume_is none_waits none_aside =
      let same : t.volume ≡ v = volume_is ∙ same_volume in
      let geometry_is : g ≡ t.volume.geometry = sym (ap (λ (w : Volume). w.geometry) same ∙ through.geometry) in
      record {
        stands = subst (λ h. Stands h t.volume d) geometry_is (subst (λ w. Stands g w d) (sym same) stands);
        whole = subst IsWhole (sym volume_is) whole;
        none_waits = none_waits;
        none_aside = none_aside;
        unstaged = λ i in_data free. open_is.single i;
      }

-- the tables that were read are those of the volume
pub tables-read : (g : Geometry) (d : List Cell) (base : ℕ) (inodes : List Inode) (rows : Rows) (chains : List (List ℕ)) (maps : List (List Extent))
    → IsGeometry g → IsOpenable g d → base ≡ words_of d base_word → inodes ≡ (volume g (words_of d)).inodes → rows ≡ (volume g (words_of d)).names
    → ((h : Geometry) (w : Volume) → length d ≡ 512 * h.blocks → Reads h (words_of d) w → w.inodes ≡ inodes → (chains ≡ w.chains) × (maps ≡ w.maps))
    → tables_view g base inodes rows chains maps [] [] ≡ record { volume = volume g (words_of d); aside = []; waiting = [] }
unfolding volume
tables-read g d base inodes rows chains maps is open_is base_is inodes_are rows_are read =
    let both = read g (volume g (words_of d)) open_is.size (reads-words g d is open_is) (sym inodes_are) in
    λ i. record {
      volume = record { geometry = g; base = base_is i; inodes = inodes_are i; names = rows_are i; chains = both.0 i; maps = both.1 i };
      aside = [];
      waiting = [];
    }

pub tables-whole : (g : Geometry) (d : List Cell) (t : TablesView) → IsGeometry g → IsOpenable g d
    → t ≡ record { volume = volume g (words_of d); aside = []; waiting = [] } → IsWhole t.volume
tables-whole g d t is open_is same = subst (λ (u : TablesView). IsWhole u.volume) (sym same) (whole g d is open_is)

-- ---- the fresh image

pub fresh-is : (g : Geometry) (f : Words) → IsGeometry g → f ≡ fresh g
    → IsChecked (4096 * g.blocks) f × (geometry_of f ≡ g) × (content g f ≡ root_alone)
fresh-is g f is same =
    subst (λ h. IsChecked (4096 * g.blocks) h × (geometry_of h ≡ g) × (content g h ≡ root_alone)) (sym same)
    (fresh-checked g is, geometry_of-fresh g is, content-fresh g is)

-- so it is of bytes that are those of the fresh image, where there was memory for them
pub if-fresh : (g : Geometry) (r : Result (Vec ℕ Global) AllocError) → IsGeometry g → IfOk r (λ bytes. word_at bytes.items ≡ fresh g)
    → IfOk r (λ bytes. IsChecked (4096 * g.blocks) (word_at bytes.items)) × IfOk r (λ bytes. geometry_of (word_at bytes.items) ≡ g)
    × IfOk r (λ bytes. content g (word_at bytes.items) ≡ root_alone)
if-fresh g (Ok bytes) is same = fresh-is g (word_at bytes.items) is same
if-fresh g (Err e) is same = (tt, tt, tt)

pub openable : (g : Geometry) (d : List Cell) → length d ≡ 512 * g.blocks → AllSingle d → cell d commit_word ≡ Single 0 → geometry_of (words_of d) ≡ g
    → IsChecked (4096 * g.blocks) (words_of d) → IsOpenable g d
openable g d size single idle numbers checked = record { size = size; single = single; idle = idle; numbers = numbers; checked = checked }

pub if-tables : (g : Geometry) (d : List Cell) (t : TablesView) (r : Result TablesView AllocError) → IfOk r (λ x. x ≡ t)
    → t ≡ record { volume = volume g (words_of d); aside = []; waiting = [] } → IfOk r (λ x. x ≡ record { volume = volume g (words_of d); aside = []; waiting = [] })
if-tables g d t (Ok x) is same = is ∙ same
if-tables g d t (Err e) is same = tt

pub opened-ready : (g : Geometry) (d : List Cell) (t : TablesView) (batched : Bool) (group b : List Record) → IsGeometry g → IsOpenable g d
    → t ≡ record { volume = volume g (words_of d); aside = []; waiting = [] } → group ≡ [] → b ≡ [] → IsReady t group b d batched
opened-ready g d t batched group b is open_is same empty none =
    plain-ready t group b d batched
    (plain g d is open_is t (ap (λ (u : TablesView). u.volume) same) (ap (λ (u : TablesView). u.waiting) same) (ap (λ (u : TablesView). u.aside) same)) empty none

pub opened-as : (g : Geometry) (d : List Cell) (t : TablesView) (batched : Bool) (group b : List Record) → IsGeometry g → IsOpenable g d
    → t ≡ record { volume = volume g (words_of d); aside = []; waiting = [] } → group ≡ [] → b ≡ []
    → IsOpened d (volume g (journaled (words_of d))) batched (view_of t group d batched false)
opened-as g d t batched group b is open_is same empty none = record {
  order = in-order t group b d batched (opened-ready g d t batched group b is open_is same empty none) false;
  volume_is = ap (λ (u : TablesView). u.volume) same ∙ same_volume g d is open_is;
  cells_are = refl;
  batched_is = refl;
  on = refl;
}
