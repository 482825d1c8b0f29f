-- No file has more bytes than a file may have.
use Rattle.std.specs.Prelude.{◌≡◌, ◌≤◌, ◌<◌, ◌==◌, ℕ, true, List, filter, Option, Some, None, refl}
use Rattle.std.proofs.Common.{arith, sym, subst}
use Rattle.std.proofs.lemmas.Bool.Decides.{nat_tests}
use Rattle.pm_lines.specs.pm_model.ImageLaws.{IsImage-words_of}
use Rattle.pm_lines.specs.pm_model.Images.{words_of}
use Rattle.pm_lines.specs.pm_model.Words.{line_bytes, Words}
use Rattle.eof_laws.specs.layout_model.declared.lines.Draft.{Draft}
use Rattle.eof_laws.specs.layout_model.declared.lines.Inode.{Inode}
use Rattle.eof_laws.specs.layout_model.declared.lines.Kind.{Kind}
use Rattle.eof_laws.specs.layout_model.declared.lines.Kind.TheVariants.{Directory, File, Free, Staging}
use Rattle.eof_laws.specs.layout_model.Entries.{is_draft}
use Rattle.eof_laws.specs.layout_model.LineLaws.{IsInodeLine-decode_inode}
use Rattle.eof_laws.specs.layout_model.block_counts.declared.TheConstants.{LONGEST_FILE}
use Rattle.eof_laws.specs.layout_model.Lines.{is_inode_of_kind}
use Rattle.eof_laws.specs.layout_model.Journal.{journaled}
use Rattle.eof_laws.specs.layout_model.Places.{Geometry, inode_line}
use Rattle.eof_laws.specs.image_model.Content.{size_by}
use Rattle.eof_laws.specs.image_model.Live.{latest}
use Rattle.eof_laws.specs.image_model.Reading.{Reads}
use Rattle.eof_laws.specs.image_model.Volume.{inode, Volume}
use Rattle.eof_laws.specs.file_table.Files.{size_in}
use Rattle.eof_laws.specs.k_split_model.View.{View}
use Rattle.open_files.specs.list_laws.Filters.{filter-In}
use Rattle.open_files.specs.list_laws.Members.{In}
use Rattle.posix_tables.specs.Open.{Tables}
use Rattle.open_files.specs.posix_spec.State.{State}
use Rattle.live_step_laws.specs.world_model.Jobs.{live_claims}
use Rattle.live_step_laws.specs.world_model.Stands.{is_used}
use Rattle.live_step_laws.specs.world_model.Latest.{latest-In}
use Rattle.live_step_laws.specs.world_model.TreeRules.{used_below}
use Rattle.live_step_laws.specs.live_model.Standing.{Kept}
use Rattle.file_calls.specs.Runs.{RunsAs}
use Rattle.file_calls.proofs.Running.{world}

few_bytes : (kind : Kind) (x : Inode) → is_inode_of_kind kind x ≡ true → x.size ≤ LONGEST_FILE
few_bytes Free x ok = grind (arith, nat_tests)
few_bytes Directory x ok = grind (arith, nat_tests)
few_bytes File x ok = grind (arith, nat_tests)
few_bytes Staging x ok = grind (arith, nat_tests)

line_small : (g : Geometry) (f : Words) (v : Volume) → Reads g f v → (ino : ℕ) → ino < g.inodes → (inode v ino).size ≤ LONGEST_FILE
line_small g f v reads ino below = few_bytes (inode v ino).kind (inode v ino) (IsInodeLine-decode_inode (line_bytes f (inode_line ino)) (inode v ino) (reads.inodes ino below)).fields

draft_small : (d : Draft) → is_draft d ≡ true → d.size ≤ LONGEST_FILE
draft_small d is = grind (arith, nat_tests)

module _ (g : Geometry) (k : View) (t : Tables) (x : Kept) (n : ℕ) (s : State) (runs : RunsAs g k t x n s) where
  abbrev live : List Draft
  live = live_claims k.volume x.claims

  own_small : (ino : ℕ) → (inode k.volume ino).kind ≡ File → (inode k.volume ino).size ≤ LONGEST_FILE
  own_small ino file =
      let below = used_below k.volume ino (subst (λ kind. is_used kind ≡ true) (sym file) refl) in
      let count = (world g k t x n s runs).valid.stands.sane.inode_count in
      line_small k.volume.geometry (journaled (words_of k.cells)) k.volume (runs.flying.device.stands.reads (words_of k.cells) (IsImage-words_of k.cells)) ino (omega (arith, below, count))

  by_latest : (ino : ℕ) → (inode k.volume ino).kind ≡ File → (o : Option Draft) → latest (filter (λ (d : Draft). d.ino == ino) live) ≡ o → size_by o (inode k.volume ino).size ≤ LONGEST_FILE
  by_latest ino file None is = own_small ino file
  by_latest ino file (Some d) is =
      let own : In d live = (filter-In (λ (y : Draft). y.ino == ino) live d (latest-In (filter (λ (y : Draft). y.ino == ino) live) d is)).0 in
      draft_small d (runs.drafts d own).fields

  pub size_small : (ino : ℕ) → (inode k.volume ino).kind ≡ File → size_in x.files ino ≤ LONGEST_FILE
  size_small ino file =
      let small = by_latest ino file (latest (filter (λ (d : Draft). d.ino == ino) live)) refl in
      let same = runs.sizes.files ino file in
      omega (arith, small, same)
