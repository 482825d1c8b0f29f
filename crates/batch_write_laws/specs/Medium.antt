-- Where nothing but what is kept came since the commit, the medium has no byte of a file past its length.
use Rattle.std.specs.Prelude.{◌≡◌, ◌<◌, ◌≤◌, ℕ, true, List, [], ◌∷◌, ◌++◌, length, map, refl}
use Rattle.std.proofs.Common.{arith, ap, ◌∙◌, sym, subst}
use Rattle.std.proofs.lemmas.List.{length-take}
use Rattle.live_model.specs.pm_model.ImageLaws.{IsImage-words_of}
use Rattle.live_model.specs.pm_model.Images.{words_of}
use Rattle.live_model.specs.pm_model.Words.{Words}
use Rattle.live_model.specs.layout_model.Journal.{journaled}
use Rattle.live_model.specs.layout_model.Places.{Geometry}
use Rattle.live_model.specs.layout_model.declared.lines.Draft.{Draft}
use Rattle.live_model.specs.layout_model.declared.lines.Kind.{Kind}
use Rattle.live_model.specs.layout_model.declared.lines.Kind.TheVariants.{Directory, File, Free, Staging}
use Rattle.live_model.specs.image_model.Volume.{inode, Volume}
use Rattle.live_model.specs.file_table.Files.{Files, size_in}
use Rattle.live_model.specs.k_split_model.View.{View}
use Rattle.live_model.specs.commute_laws.posix_types.declared.item.Item.{Item}
use Rattle.live_model.specs.posix_tables.declared.nodes.Node.{Node}
use Rattle.live_model.specs.posix_tables.Nodes.{bytes_of, node_at}
use Rattle.live_model.specs.posix_spec.Run.{begun, run}
use Rattle.live_model.specs.posix_spec.State.{State}
use Rattle.live_model.specs.crash_spec.Posix.{ByteRule, LastBeforeCut, NodeLeft}
use Rattle.live_model.specs.world_model.Stands.{is_used, IsUsed, NodeStands, number}
use Rattle.posix_mode_laws.specs.Sides.{PosixWorld, sized}
use Rattle.posix_mode_laws.specs.Sized.{kind-sized}
use Rattle.batch_laws.specs.IdleLaws.{lengths_are_kept}
use Rattle.batch_laws.specs.Ready.{GoesReady}
use Rattle.batch_laws.specs.Standing.{sides_of, staged_of}

append_none : (later front : List Item) → later ≡ [] → front ++ later ≡ front
append_none later front none = ap (λ (xs : List Item). front ++ xs) none ∙ all front where
  all : (xs : List Item) → xs ++ [] ≡ xs
  all [] = refl
  all (x ∷ xs) = ap (λ ys. x ∷ ys) (all xs)

-- what is left of a file that is there is no longer than it
low_left : (rule : ByteRule) (n : ℕ) (v w : Volume) (live : List Draft) (f : Words) (j : ℕ) (kind : Kind) (x y : Node) (i : ℕ) → is_used kind ≡ true → NodeStands w live f j File x → NodeStands v [] f j kind y → NodeLeft rule n x y
    → i < (inode v j).size → i < length (bytes_of x)
low_left rule n v w live f j kind Node.Gone y i used there stands left below = absurd there
low_left rule n v w live f j kind Node.Directory y i used there stands left below = absurd there
low_left rule n v w live f j kind (Node.File file) Node.Gone i used there stands left below = absurd left
low_left rule n v w live f j kind (Node.File file) Node.Directory i used there stands left below = absurd left
low_left rule n v w live f j Free (Node.File file) (Node.File rest) i used there stands left below = absurd stands
low_left rule n v w live f j Staging (Node.File file) (Node.File rest) i used there stands left below = absurd stands
low_left rule n v w live f j Directory (Node.File file) (Node.File rest) i used there stands left below = absurd stands
low_left rule n v w live f j File (Node.File file) (Node.File rest) i used there stands left below =
    let size = left.size in
    let own = stands.size in
    let long = length-take file.published file.bytes in
    omega (arith, size, own, long, below)

pub medium_low : (g : Geometry) (k : View) (files : Files) (count : ℕ) (numbers : List ℕ) (start : State) (history : List Item) → (ready : GoesReady g k files count numbers start history) → (j i : ℕ) → (inode k.volume j).kind ≡ File
    → IsUsed k.committed j → number ready.going.old_numbers j ≡ number numbers j → ready.going.later ≡ [] → i < (inode k.committed j).size → size_in files j ≤ i → ⊥
medium_low g k files count numbers start history ready j i file used one none below past =
    let low = low_left (LastBeforeCut (run start ready.going.front) (map begun ready.going.later)) n k.committed (sized files.sizes k.volume) (staged_of k.volume files) (journaled image) j (inode k.committed j).kind (node_at s.nodes n)
    (node_at world.medium.state.nodes n) i used there stands left below in
    let size = (lengths_are_kept g k files count numbers start history j ready file).1 in
    omega (arith, low, size, past)
  where
    image : Words
    image = words_of k.cells

    n : ℕ
    n = number numbers j

    s : State
    s = run start history

    world : PosixWorld LastBeforeCut (sides_of k files ready.going.old_numbers numbers) (journaled image) start ready.going.front ready.going.later
    world = ready.going.world image (IsImage-words_of k.cells)

    same_history : ready.going.front ≡ history
    same_history = sym (append_none ready.going.later ready.going.front none) ∙ sym ready.going.history_is

    left : NodeLeft (LastBeforeCut (run start ready.going.front) (map begun ready.going.later)) n (node_at s.nodes n) (node_at world.medium.state.nodes n)
    left = subst (λ h. NodeLeft (LastBeforeCut (run start ready.going.front) (map begun ready.going.later)) n (node_at (run start h).nodes n) (node_at world.medium.state.nodes n)) same_history (world.medium.left.each n)

    stands : NodeStands k.committed [] (journaled image) j (inode k.committed j).kind (node_at world.medium.state.nodes n)
    stands = subst (λ m. NodeStands k.committed [] (journaled image) j (inode k.committed j).kind (node_at world.medium.state.nodes m)) one (world.medium.stands.nodes.each j used)

    sized_file : (inode (sized files.sizes k.volume) j).kind ≡ File
    sized_file = kind-sized files.sizes k.volume j ∙ file

    there : NodeStands (sized files.sizes k.volume) (staged_of k.volume files) (journaled image) j File (node_at s.nodes n)
    there =
        subst (λ h. NodeStands (sized files.sizes k.volume) (staged_of k.volume files) (journaled image) j File (node_at (run start h).nodes n)) (sym ready.going.history_is)
        (subst (λ kind. NodeStands (sized files.sizes k.volume) (staged_of k.volume files) (journaled image) j kind (node_at (run start (ready.going.front ++ ready.going.later)).nodes n)) sized_file
        (world.live.nodes.each j (ap is_used sized_file)))
