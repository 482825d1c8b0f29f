-- What is kept of the maps of files, step by step.
use Rattle.std.specs.Prelude.{◌≡◌, ◌≢◌, ℕ, Option, None, Some, refl}
use Rattle.std.proofs.Common.{ap, ◌∙◌, sym}
use Rattle.write_plan.specs.layout_model.declared.lines.Inode.{Inode}
use Rattle.write_plan.specs.layout_model.declared.lines.Kind.TheVariants.{File}
use Rattle.write_plan.specs.image_model.Volume.{extents, inode, Volume}
use Rattle.write_plan.specs.extent_model.Extents.{disk_at}
use Rattle.write_plan.specs.eof_laws.Ends.{FilesEnd}
use Rattle.write_plan.specs.file_table.Files.{Files}
use Rattle.live_step_laws.specs.world_write_laws.HolesLaws.{KeepsLine}
use Rattle.write_begin.specs.Goes.{KeepsMaps}

pub line_same : (x y : Inode) → y ≡ x → KeepsLine x y
line_same x y same = record {
  kind = ap (λ (i : Inode). i.kind) same;
  generation = ap (λ (i : Inode). i.generation) same;
  size = ap (λ (i : Inode). i.size) same;
  applied = ap (λ (i : Inode). i.applied) same;
}

line_then : (x y z : Inode) → KeepsLine x y → KeepsLine y z → KeepsLine x z
line_then x y z first next = record {
  kind = next.kind ∙ first.kind;
  generation = next.generation ∙ first.generation;
  size = next.size ∙ first.size;
  applied = next.applied ∙ first.applied;
}

-- maps of files that are the same end where they did
pub ends_over : (v w : Volume) (files : Files) → ((ino : ℕ) → (inode w ino).kind ≡ (inode v ino).kind) → ((ino : ℕ) → (inode v ino).kind ≡ File → extents w ino ≡ extents v ino) → FilesEnd v files → FilesEnd w files
ends_over v w files kinds maps ends = record {
  maps = λ ino block file past. (
      let before : (inode v ino).kind ≡ File = sym (kinds ino) ∙ file in
      ap (λ es. disk_at es block) (maps ino before) ∙ ends.maps ino block before past);
  runs = ends.runs;
}

pub same_maps : (v : Volume) (files : Files) → KeepsMaps v v files files None
same_maps v files = record {
  kinds = λ ino. refl;
  lines = λ ino file. line_same (inode v ino) (inode v ino) refl;
  maps = λ ino file other. refl;
  runs = λ ino. refl;
  sizes = refl;
  ends = λ ends. ends;
  base = refl;
}

pub none_own : (ino : ℕ) → None ≢ Some ino
none_own ino never = cc

-- two steps, of which the second leaves all maps
pub maps_then : (v w u : Volume) (files then last : Files) (own : Option ℕ) → KeepsMaps v w files then own → KeepsMaps w u then last None → KeepsMaps v u files last own
maps_then v w u files then last own first next = record {
  kinds = λ ino. next.kinds ino ∙ first.kinds ino;
  lines = λ ino file. line_then (inode v ino) (inode w ino) (inode u ino) (first.lines ino file) (next.lines ino (first.kinds ino ∙ file));
  maps = λ ino file other. next.maps ino (first.kinds ino ∙ file) (none_own ino) ∙ first.maps ino file other;
  runs = λ ino. next.runs ino ∙ first.runs ino;
  sizes = next.sizes ∙ first.sizes;
  ends = λ ends. next.ends (first.ends ends);
  base = next.base ∙ first.base;
}

-- what leaves all maps leaves them but for one
pub maps_any : (v u : Volume) (files last : Files) (own : Option ℕ) → KeepsMaps v u files last None → KeepsMaps v u files last own
maps_any v u files last own keeps = record {
  kinds = keeps.kinds;
  lines = keeps.lines;
  maps = λ ino file other. keeps.maps ino file (none_own ino);
  runs = keeps.runs;
  sizes = keeps.sizes;
  ends = keeps.ends;
  base = keeps.base;
}
