-- The inode lines of a device at rest.
use Rattle.std.specs.Prelude.{◌≡◌, ◌≢◌, ◌≤◌, ◌<◌, ℕ, true, refl}
use Rattle.std.proofs.Common.{arith, sym, subst, inl, inr}
use Rattle.std.proofs.lemmas.Bool.{cases_lt}
use Rattle.std.proofs.lemmas.Bool.Decides.{nat_tests}
use Rattle.std.proofs.lemmas.List.{get_or_past}
use Rattle.world_view_laws.specs.eof_laws.pm_model.ImageLaws.{IsImage-words_of}
use Rattle.world_view_laws.specs.eof_laws.pm_model.Images.{words_of}
use Rattle.world_view_laws.specs.eof_laws.pm_model.Words.{line_bytes, Words}
use Rattle.world_view_laws.specs.eof_laws.layout_model.declared.lines.Inode.{Inode}
use Rattle.world_view_laws.specs.eof_laws.layout_model.declared.lines.Kind.{Kind}
use Rattle.world_view_laws.specs.eof_laws.layout_model.declared.lines.Kind.TheVariants.{Directory, File, Free, Staging}
use Rattle.world_view_laws.specs.eof_laws.layout_model.LineLaws.{IsInodeLine-decode_inode}
use Rattle.world_view_laws.specs.eof_laws.layout_model.block_counts.declared.TheConstants.{LONGEST_FILE}
use Rattle.world_view_laws.specs.eof_laws.layout_model.Lines.{is_inode_of_kind}
use Rattle.world_view_laws.specs.eof_laws.layout_model.Journal.{journaled}
use Rattle.world_view_laws.specs.eof_laws.layout_model.Places.{Geometry, inode_line}
use Rattle.world_view_laws.specs.eof_laws.image_model.Reading.{Reads}
use Rattle.world_view_laws.specs.eof_laws.image_model.Volume.{free_inode, inode, Volume}
use Rattle.world_view_laws.specs.eof_laws.k_split_model.Stands.{Stands}
use Rattle.world_view_laws.specs.eof_laws.k_split_model.View.{View}
use Rattle.log_replay.specs.Sheds.{IsAtRest}

few_bytes : (kind : Kind) (x : Inode) → is_inode_of_kind kind x ≡ true → x.size ≤ LONGEST_FILE
few_bytes Free x ok = grind (arith, nat_tests)
few_bytes Directory x ok = grind (arith, nat_tests)
few_bytes File x ok = grind (arith, nat_tests)
few_bytes Staging x ok = grind (arith, nat_tests)

no_bytes : (kind : Kind) (x : Inode) → is_inode_of_kind kind x ≡ true → kind ≢ File → x.size ≡ 0
no_bytes Free x ok other = grind (arith, nat_tests)
no_bytes Directory x ok other = grind (arith, nat_tests)
no_bytes File x ok other = absurd (other refl)
no_bytes Staging x ok other = grind (arith, nat_tests)

-- what the size of an inode is
pub record IsSize (x : Inode) : Type 0 where
  pub small : x.size ≤ LONGEST_FILE
  pub none : x.kind ≢ File → x.size ≡ 0

size_of_line : (g : Geometry) (f : Words) (v : Volume) → Reads g f v → (ino : ℕ) → ino < g.inodes → IsSize (inode v ino)
size_of_line g f v reads ino below =
    let fields = (IsInodeLine-decode_inode (line_bytes f (inode_line ino)) (inode v ino) (reads.inodes ino below)).fields in
    record { small = few_bytes (inode v ino).kind (inode v ino) fields; none = no_bytes (inode v ino).kind (inode v ino) fields }

module _ (k : View) (rest : IsAtRest k) where
  pub stands_at_rest : Stands k.volume.geometry k.volume k.cells
  stands_at_rest = subst (λ (v : Volume). Stands v.geometry v k.cells) (rest.order.settled rest.unbatched) rest.order.stands

  pub size_is : (ino : ℕ) → IsSize (inode k.volume ino)
  size_is ino = elim (cases_lt ino k.volume.geometry.inodes) [
    | inl below ↦ size_of_line k.volume.geometry (journaled (words_of k.cells)) k.volume (stands_at_rest.reads (words_of k.cells) (IsImage-words_of k.cells)) ino below
    | inr past ↦
        subst IsSize (sym (get_or_past k.volume.inodes ino free_inode (omega (arith, past, rest.order.whole.kept.all.inode_count)))) (record { small = omega arith; none = λ other. refl })
  ]
