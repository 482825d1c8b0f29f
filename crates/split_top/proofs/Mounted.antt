-- A device that was mounted: its tree is that of the image's content, and its own image is as a mount leaves it.
use Rattle.std.proofs.Common.{◌≡◌, ◌≤◌, ◌+◌, ◌*◌, ◌^◌, ℕ, List, [], length, sym, ◌∙◌, ap, subst, arith, inl, inr}
use Rattle.std.proofs.Math.Path.{fun_ext}
use Rattle.std.proofs.lemmas.Bool.{cases_lt}
use Rattle.command_line.specs.pm_model.Cells.{newest}
use Rattle.command_line.specs.pm_model.Images.{words_of}
use Rattle.command_line.specs.pm_model.Words.{word_at, Words}
use Rattle.command_line.specs.layout_model.Journal.{journaled}
use Rattle.command_line.specs.layout_model.Places.{commit_word, Geometry}
use Rattle.split_machine.specs.image_model.Content.{content}
use Rattle.split_machine.specs.image_model.Live.{live_entries}
use Rattle.split_machine.specs.image_model.Rules.{geometry_of, IsChecked}
use Rattle.split_machine.specs.image_model.Volume.{Volume, volume}
use Rattle.split_machine.specs.image_laws.CheckedLaws.{checked-parts}
use Rattle.split_machine.specs.volume_laws.ReadingLaws.{reads-volume}
use Rattle.split_machine.specs.k_tables.ContentsTrees.{tree_content}
use Rattle.split_machine.specs.MountLaws.{TreesAreOfContent}
use Rattle.split_machine.specs.Sheds.{AllNamed}
use Rattle.split_machine.specs.k_split_model.View.{View}
use Rattle.split_machine.specs.Mounts.{IsMounted}
use Rattle.split_machine.specs.Resets.{IsLow}
use Rattle.split_machine.specs.Sweeps.{AreBare, EndsInTime}
use Rattle.split_machine.specs.posix_laws.TreeOf.{IsTreeOf}
use Rattle.posix_types.specs.declared.tree.TreeEntry.{TreeEntry}
use Rattle.split_machine.proofs.LapImages.{none_live}
use Rattle.split_machine.specs.world_image_laws.Images.{HasNoEntry}
use Rattle.split_machine.specs.world_model.Shown.{IsTreeOfContent}
use Rattle.split_top.specs.Found.{IsFoundOn}
use Rattle.split_top.specs.Images as images

-- the numbers of the image are those of the volume
module _ (g : Geometry) (image : Words) (k : View) (is : IsMounted g image k) where
  pub own-numbers : k.volume.geometry ≡ g
  own-numbers = is.checked.reads.geometry ∙ is.numbers

  pub own-live : live_entries k.volume (journaled (words_of k.cells)) ≡ []
  own-live = none_live k.volume (journaled (words_of k.cells)) is.no_entry

  own-content : content k.volume.geometry (words_of k.cells) ≡ content g image
  own-content = ap (λ h. content h (words_of k.cells)) own-numbers ∙ fun_ext is.shows

  pub own-tree : (tree : List TreeEntry) → TreesAreOfContent → IsTreeOf (tree_content (content k.volume.geometry (words_of k.cells))) tree → IsTreeOfContent (content g image) tree
  own-tree tree law is_tree = subst (λ c. IsTreeOfContent c tree) own-content (law (content k.volume.geometry (words_of k.cells)) tree is_tree)

  pub own-size : length k.cells ≡ 512 * g.blocks
  own-size =
      is.rest.order.stands.size
      ∙ ap (λ (v : Volume). 512 * v.geometry.blocks) (is.rest.order.settled is.rest.unbatched)
      ∙ ap (λ (h : Geometry). 512 * h.blocks) own-numbers

  -- the base of the next lap
  pub own-base : k.volume.base ≤ 2 ^ 62 + g.log
  unfolding volume
  own-base =
      let v : Volume = volume g (journaled image) in
      elim (cases_lt (2 ^ 62) v.base) [
        | inl above ↦ (let one : k.volume.base ≡ 1 = is.base.anew above in omega arith)
        | inr below ↦ (let next : k.volume.base ≡ v.base + g.log = is.base.risen below in omega arith)
      ]

-- the bytes of its newest words
module _ (image : Words) (k : View) (tree : List TreeEntry) (bytes : List ℕ) (found : IsFoundOn image k tree) (size : length bytes ≡ 8 * length k.cells) (words : word_at bytes ≡ words_of k.cells) where
  m : IsMounted (geometry_of image) image k
  m = found.mounted

  same : volume (geometry_of (words_of k.cells)) (journaled (words_of k.cells)) ≡ k.volume
  same = reads-volume (geometry_of (words_of k.cells)) (journaled (words_of k.cells)) k.volume m.checked.reads

  pub kept-numbers : geometry_of (word_at bytes) ≡ geometry_of image
  kept-numbers = ap geometry_of words ∙ m.numbers

  long : length bytes ≡ 4096 * (geometry_of image).blocks
  long = let own : length k.cells ≡ 512 * (geometry_of image).blocks = own-size (geometry_of image) image k m in omega arith

  checked : IsChecked (length bytes) (words_of k.cells)
  checked = subst (λ n. IsChecked n (words_of k.cells)) (sym long) (checked-parts (4096 * (geometry_of image).blocks) (words_of k.cells) k.volume m.checked)

  tree_of : IsTreeOfContent (content (geometry_of (words_of k.cells)) (words_of k.cells)) tree
  tree_of = subst (λ h. IsTreeOfContent (content h (words_of k.cells)) tree) (sym m.numbers) (subst (λ c. IsTreeOfContent c tree) (sym (fun_ext m.shows)) found.is_tree)

  base_of : k.volume.base ≤ 2 ^ 62 + (geometry_of (words_of k.cells)).log
  base_of = subst (λ (h : Geometry). k.volume.base ≤ 2 ^ 62 + h.log) (sym m.numbers) (own-base (geometry_of image) image k m)

  pub kept-mounted : images.IsMounted bytes tree
  kept-mounted = record {
    shows = record {
      can_open = subst (IsChecked (length bytes)) (sym words) checked;
      is_tree = subst (λ w. IsTreeOfContent (content (geometry_of w) w) tree) (sym words) tree_of;
    };
    idle = ap (λ w. w commit_word) words ∙ ap newest m.rest.order.stands.idle;
    named = subst (λ w. AllNamed (images.volume_of w)) (sym words) (subst AllNamed (sym same) m.named);
    short = subst (λ w. (ino : ℕ) → EndsInTime (images.volume_of w) ino) (sym words) (subst (λ v. (ino : ℕ) → EndsInTime v ino) (sym same) m.short);
    bare = subst (λ w. AreBare (images.volume_of w)) (sym words) (subst AreBare (sym same) m.bare);
    base = subst (λ w. (images.volume_of w).base ≤ 2 ^ 62 + (geometry_of w).log) (sym words) (subst (λ (v : Volume). v.base ≤ 2 ^ 62 + (geometry_of (words_of k.cells)).log) (sym same) base_of);
    low = subst (λ w. (ino : ℕ) → IsLow (images.volume_of w) ino) (sym words) (subst (λ v. (ino : ℕ) → IsLow v ino) (sym same) m.low);
    no_entry = subst (λ w. HasNoEntry (images.volume_of w) (journaled w)) (sym words) (subst (λ v. HasNoEntry v (journaled (words_of k.cells))) (sym same) m.no_entry);
  }
