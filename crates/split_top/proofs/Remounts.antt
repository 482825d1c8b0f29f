-- The devices behind a run, each mounted again: each can be mounted, and has the content of the first, so the tree that is found on
-- the last one is permitted.
use Rattle.std.proofs.Common.{◌≡◌, ◌*◌, ◌-◌, ◌<◌, ℕ, List, [], ◌∷◌, length, length-drop, get_or, take, drop, refl, sym, ◌∙◌, subst, arith}
use Rattle.std.proofs.Math.Path.{fun_ext}
use Rattle.std.proofs.lemmas.List.{take_all}
use Rattle.command_line.specs.pm_model.declared.Cell.{Cell}
use Rattle.command_line.specs.pm_model.Cells.{cell}
use Rattle.command_line.specs.pm_model.Images.{IsImageOf, words_of}
use Rattle.command_line.specs.pm_model.Words.{word_at, Words}
use Rattle.command_line.specs.layout_model.Places.{Geometry}
use Rattle.split_machine.specs.image_laws.CheckedLaws.{checked-parts}
use Rattle.split_machine.specs.image_model.Content.{content}
use Rattle.split_machine.specs.image_model.Honest.{IsHonest}
use Rattle.split_machine.specs.image_model.Rules.{geometry_of, IsChecked, IsWholeBlocks}
use Rattle.split_machine.specs.k_check.Crashes.{IsCrashImage}
use Rattle.split_machine.specs.k_split_model.View.{View}
use Rattle.split_machine.specs.crash_spec.Permitted.{StronglyPermitted}
use Rattle.split_machine.specs.Mounts.{IsLeft, IsMounted}
use Rattle.pm_lines.specs.declared.choices.Choice.{Choice}
use Rattle.posix_types.specs.declared.item.Item.{Item}
use Rattle.posix_types.specs.declared.tree.TreeEntry.{TreeEntry}
use Rattle.command_line.specs.posix_spec.Run.{Unfinished}
use Rattle.command_line.specs.posix_spec.State.{State}
use Rattle.split_machine.specs.world_image_laws.Promised.{IsKept}
use Rattle.split_machine.specs.world_model.Shown.{IsTreeOfContent}
use Rattle.split_top.specs.Devices.{CanMount, IsDeviceOf}
use Rattle.split_top.specs.Found.{IsFoundBy, IsFoundOn, IsLeftAs}
use Rattle.split_top.specs.Remounts.{AreRemounted, CanCrash, GoesOn, IsChosenImage, IsCrashed, IsRemounted}
use Rattle.split_top.proofs.Mounted.{own-size}

-- ---- a device by the choice
-- so long is a device of these blocks
long : (blocks : ℕ) (d : List Cell) → length d ≡ 512 * blocks → 4096 * blocks ≡ 8 * length d
long blocks d size = omega arith

pub can-mount : (g : Geometry) (choice : Choice) (d crashed : List Cell) → CanCrash g d → IsCrashed g choice d crashed → CanMount g crashed
can-mount g choice d crashed can is = record {
  checked = subst (λ n. IsChecked n (words_of crashed)) (long g.blocks crashed (is.size ∙ can.size)) (can.checked (words_of crashed) is.is_chosen.is_image is.is_chosen.is_honest);
  numbers = can.numbers (words_of crashed) is.is_chosen.is_image is.is_chosen.is_honest;
  single = is.single;
}

-- the bytes that were chosen have an image of the device, honest, by the choice
pub record IsTaken (g : Geometry) (choice : Choice) (d : List Cell) (bytes : List ℕ) : Type 0 where
  pub image : IsImageOf d bytes
  pub honest : IsHonest g (cell d) (word_at bytes)
  pub crash : IsCrashImage g choice d g.log (word_at bytes)

pub taken-whole : (g : Geometry) (choice : Choice) (d : List Cell) (bytes : List ℕ) → CanCrash g d → IsTaken g choice d bytes → IsWholeBlocks (length bytes)
taken-whole g choice d bytes can taken = subst IsWholeBlocks (sym (taken.image.size ∙ sym (long g.blocks d can.size))) (can.checked (word_at bytes) taken.image.words taken.honest).rule_1

eighths : (m n l : ℕ) → 8 * m ≡ l → l ≡ 8 * n → m ≡ n
eighths m n l first second = omega arith

pub taken-crashed : (g : Geometry) (choice : Choice) (d : List Cell) (bytes : List ℕ) (crashed : List Cell) → IsTaken g choice d bytes → IsDeviceOf bytes crashed → IsCrashed g choice d crashed
taken-crashed g choice d bytes crashed taken is = record {
  size = eighths (length crashed) (length d) (length bytes) is.size taken.image.size;
  single = is.single;
  is_chosen = subst (λ f. IsChosenImage g choice d f) (sym is.words) (record { is_image = taken.image.words; is_honest = taken.honest; is_crash = taken.crash });
}

-- what a run leaves may lose its power, and so may what a mount hands back
pub left-crash : (g : Geometry) (d : List Cell) (start : State) (history : List Item) (unfinished : List Unfinished) → IsLeftAs g d start history unfinished → CanCrash g d
left-crash g d start history unfinished left = record {
  size = left.size;
  home = left.home;
  checked = λ image is honest. (left.promise image is honest).checked;
  numbers = λ image is honest. (left.promise image is honest).geometry;
}

pub cut-crash : (g : Geometry) (image : Words) (d : List Cell) → IsLeft g image d → CanCrash g d
cut-crash g image d left = record {
  size = left.size;
  home = left.home;
  checked = λ f is honest. (left.shown f is honest).checked;
  numbers = λ f is honest. (left.shown f is honest).numbers;
}

-- ---- a device goes on
pub goes-on-itself : (g : Geometry) (d : List Cell) → CanMount g d → GoesOn g (words_of d) d
goes-on-itself g d mounts = record { mounts = mounts; same = λ path. refl }

pub goes-on-further : (g : Geometry) (image : Words) (d e : List Cell) → GoesOn g image d → GoesOn g (words_of d) e → GoesOn g image e
goes-on-further g image d e first next = record { mounts = next.mounts; same = λ path. next.same path ∙ first.same path }

-- where the power ran out
pub goes-on-cut : (g : Geometry) (choice : Choice) (image : Words) (d e : List Cell) → IsLeft g image d → IsCrashed g choice d e → GoesOn g image e
goes-on-cut g choice image d e left is = record {
  mounts = can-mount g choice d e (cut-crash g image d left) is;
  same = (left.shown (words_of e) is.is_chosen.is_image is.is_chosen.is_honest).same;
}

-- where it lasted
pub goes-on-mounted : (g : Geometry) (image : Words) (k : View) → IsMounted g image k → GoesOn g image k.cells
goes-on-mounted g image k m = record {
  mounts = record {
    checked = subst (λ n. IsChecked n (words_of k.cells)) (long g.blocks k.cells (own-size g image k m)) (checked-parts (4096 * g.blocks) (words_of k.cells) k.volume m.checked);
    numbers = m.numbers;
    single = m.rest.single;
  };
  same = m.shows;
}

-- ---- one for each number
pub remounted-none : (g : Geometry) (choice : Choice) (again : List ℕ) (d : List Cell) → length again ≡ 0 → AreRemounted g choice again d d
unfolding AreRemounted
remounted-none g choice [] d none = refl
remounted-none g choice (steps ∷ again) d none = absurd (omega (arith, none))

pub remounted-more : (g : Geometry) (choice : Choice) (again : List ℕ) (d next last : List Cell) → 0 < length again → IsRemounted g choice (get_or again 0 0) d next
    → AreRemounted g choice (drop 1 again) next last → AreRemounted g choice again d last
unfolding AreRemounted
remounted-more g choice [] d next last some one more = absurd (omega (arith, some))
remounted-more g choice (steps ∷ again) d next last some one more = (next, one, more)

-- the part of a list from its second element on, as a slice has it
pub rest-of : (xs : List ℕ) → take (length xs - 1) (drop 1 xs) ≡ drop 1 xs
rest-of xs = take_all (length xs - 1) (drop 1 xs) (omega (arith, length-drop 1 xs))

-- ---- what is found in the end
module _ (g : Geometry) (last : List Cell) (numbers : geometry_of (words_of last) ≡ g) (k : View) (tree : List TreeEntry) (found : IsFoundOn (words_of last) k tree) where
  -- the tree is that of the content of the last device
  pub shown : IsTreeOfContent (content g (words_of last)) tree
  shown = subst (λ h. IsTreeOfContent (content h (words_of last)) tree) numbers found.is_tree

  -- and of that of the image that it goes on from
  shown_first : (image : Words) → GoesOn g image last → IsTreeOfContent (content g image) tree
  shown_first image goes = subst (λ c. IsTreeOfContent c tree) (fun_ext goes.same) shown

  module _ (choice : Choice) (d crashed : List Cell) (is : IsCrashed g choice d crashed) where
    pub left-permitted : (start : State) (history : List Item) (unfinished : List Unfinished) → IsLeftAs g d start history unfinished → GoesOn g (words_of crashed) last → StronglyPermitted start.mode start history unfinished tree
    left-permitted start history unfinished left goes = kept.permitted tree (shown_first (words_of crashed) goes) where
      kept : IsKept g start history unfinished (words_of crashed)
      kept = left.promise (words_of crashed) is.is_chosen.is_image is.is_chosen.is_honest

    pub left-found : (again : List ℕ) → AreRemounted g choice again crashed last → IsFoundBy g choice again d tree
    left-found again remounted = record { crashed = crashed; is_crashed = is; last = last; are_remounted = remounted; is_tree = shown }
