-- The batch as it would be committed, behind a write.
use Rattle.std.specs.Prelude.{◌≡◌, ◌≢◌, ◌⊎◌, ◌<◌, ◌≤◌, ◌+◌, ◌*◌, ◌/◌, ◌%◌, ℕ, List, [], ◌∷◌, length, map, take, max, Some, slice_index, refl}
use Rattle.std.proofs.Common.{arith, ap, ◌∙◌, sym, subst, inl, inr}
use Rattle.std.proofs.lemmas.Bool.{cases_lt}
use Rattle.std.proofs.Math.ListN.{get_or-map}
use Rattle.std.proofs.lemmas.List.{get_or-take, length-take, map-set}
use Rattle.live_model.specs.pm_model.Images.{IsImage}
use Rattle.live_model.specs.pm_model.Words.{byte_of, Words}
use Rattle.live_model.specs.layout_model.Journal.{journaled}
use Rattle.live_model.specs.layout_model.Places.{Geometry}
use Rattle.live_model.specs.layout_model.declared.lines.Draft.{Draft}
use Rattle.live_model.specs.layout_model.declared.lines.Kind.TheVariants.{File}
use Rattle.live_model.specs.image_model.Content.{byte_in, disk_of}
use Rattle.live_model.specs.image_model.Volume.{inode, Volume}
use Rattle.live_model.specs.file_table.Files.{Files, size_in}
use Rattle.live_model.specs.k_split_model.View.{View}
use Rattle.live_model.specs.commute_laws.posix_types.declared.item.Item.{Item}
use Rattle.live_model.specs.posix_tables.declared.nodes.Node.{Node}
use Rattle.live_model.specs.posix_tables.Nodes.{bytes_of, node_at, published_of}
use Rattle.live_model.specs.posix_laws.Cuts.{cut_node, cut_of}
use Rattle.live_model.specs.posix_laws.FitsLaws.{Fits-run}
use Rattle.live_model.specs.posix_laws.PutLaws.{LeavesWhole-step}
use Rattle.live_model.specs.posix_laws.Puts.{LeavesWhole, put_bytes, PutsWhole, with_whole}
use Rattle.live_model.specs.posix_spec.Put.{Put}
use Rattle.live_model.specs.posix_spec.Run.{after_call, begun, run}
use Rattle.live_model.specs.posix_spec.State.{Fits, State}
use Rattle.live_model.specs.world_model.Stands.{Consecutive, entries_of, FileStands, is_used, IsUsed, LogStands, NodeStands, number, Stands}
use Rattle.live_model.specs.world_step_laws.Worlds.{IsWorld}
use Rattle.posix_mode_laws.specs.CutStands.{cut_left, left_fits}
use Rattle.posix_mode_laws.specs.ClaimsLaws.{applied_sized}
use Rattle.posix_mode_laws.specs.Sides.{Same, sized}
use Rattle.posix_mode_laws.specs.Sized.{kind-sized}
use Rattle.batch_laws.specs.IdleLaws.{lengths_are_kept}
use Rattle.batch_laws.specs.Ready.{GoesReady}
use Rattle.batch_laws.specs.Standing.{as_claims, staged_of}
use Rattle.batch_laws.specs.WorldsLaws.{cut_is_world, live_is_world}
use Rattle.world_write_laws.specs.PlaceSteps.{in_place_beside}
use Rattle.world_write_laws.specs.Places.{WritesBeside}
use Rattle.batch_write_laws.specs.PutBytes.{byte_beside, length_put}
use Rattle.batch_write_laws.specs.Words.{WritesWords, put_end}
use Rattle.batch_write_laws.specs.WordsLaws.{IsRange, mapped_stays, other_mapped}
use Rattle.batch_write_laws.specs.Writes.{PutsInto}

-- the file of a node that stands
pub file_stands : (v : Volume) (live : List Draft) (f : Words) (ino : ℕ) (node : Node) → NodeStands v live f ino File node → FileStands v live f ino (bytes_of node)
file_stands v live f ino Node.Gone is = absurd is
file_stands v live f ino Node.Directory is = absurd is
file_stands v live f ino (Node.File file) is = is

cut_bytes : (node : Node) → bytes_of (cut_node node) ≡ take (published_of node) (bytes_of node)
cut_bytes Node.Gone = refl
cut_bytes Node.Directory = refl
cut_bytes (Node.File file) = refl

-- a byte is of a range, or beside it
pub range_or : (first last i : ℕ) → ((first ≤ i) × (i < last)) ⊎ ((i < first) ⊎ (last ≤ i))
range_or first last i = elim (cases_lt i first) [
  | inl before ↦ inr (inl before)
  | inr from ↦ elim (cases_lt i last) [
    | inl below ↦ inl (omega (arith, from), below)
    | inr past ↦ inr (inr (omega (arith, past)))
  ]
]

-- bytes that are cut to a length, at a place
take_at : (xs : List ℕ) (n i : ℕ) → i < n → slice_index (take n xs) i ≡ slice_index xs i
take_at xs n i below = get_or-take n xs i 0 below

-- sizes are no rule of what is staged
pub log_plain : (lengths : List ℕ) (v : Volume) (live : List Draft) → LogStands (sized lengths v) live → LogStands v live
log_plain lengths v live log = record {
  staging = λ d is. sym (kind-sized lengths v d.staging) ∙ log.staging d is;
  staged = log.staged;
  apart = log.apart;
  orders = λ ino. subst (λ m. Consecutive m (entries_of ino live)) (applied_sized lengths v ino) (log.orders ino);
}

module _ (g : Geometry) (k : View) (files : Files) (count : ℕ) (numbers : List ℕ) (start : State) (history : List Item) (item : Item) (ino : ℕ) (p : Put)
    (ready : GoesReady g k files count numbers start history) (puts : PutsInto k.volume numbers (run start history) item ino p) where
  abbrev pub v : Volume
  v = k.volume

  abbrev pub s : State
  s = run start history

  -- the state behind it, the node of the file, and its bytes then
  abbrev pub new : State
  new = after_call (run start history) (begun item)

  abbrev pub n : ℕ
  n = number numbers ino

  abbrev pub whole : List ℕ
  whole = put_bytes (run start history) p

  abbrev pub published : ℕ
  published = published_of (node_at (run start history).nodes (number numbers ino))

  pub used : IsUsed v ino
  used = ap is_used puts.file

  pub puts_whole : PutsWhole s item.who item.call n whole
  puts_whole = record { put = p; is = puts.is; node_is = puts.node; whole_is = refl }

  pub leaves : LeavesWhole s new n whole
  leaves = LeavesWhole-step s item.who item.call n whole puts_whole

  pub fits_new : Fits new
  fits_new = Fits-run s (item ∷ []) ready.going.fits

  -- its lengths
  pub published_is : published ≡ (inode v ino).size
  published_is = (lengths_are_kept g k files count numbers start history ino ready puts.file).0

  pub old_is : length (bytes_of (node_at s.nodes n)) ≡ size_in files ino
  old_is = (lengths_are_kept g k files count numbers start history ino ready puts.file).1

  pub whole_is : length whole ≡ max (size_in files ino) (put_end p)
  whole_is = length_put s p ∙ ap (λ m. max m (put_end p)) (ap (λ m. length (bytes_of (node_at s.nodes m))) puts.node ∙ old_is)

  pub published_low : published ≤ size_in files ino
  published_low = let low = ready.going.publishing.within n in omega (arith, low, old_is)

  pub low_whole : size_in files ino ≤ length whole
  low_whole = let is = whole_is in grind (arith, is)

  pub beside_is : (i : ℕ) → (i < p.place) ⊎ (put_end p ≤ i) → slice_index (bytes_of (node_at s.nodes n)) i ≡ slice_index whole i
  beside_is i apart = ap (λ m. slice_index (bytes_of (node_at s.nodes m)) i) (sym puts.node) ∙ sym (byte_beside s p i apart)

  module _ (live : List Draft) (IsFreshBlock : ℕ → Type 0) (before h : Words) (is : IsImage k.cells before)
      (range : IsRange v (staged_of k.volume files) live ino p.place (put_end p) (size_in files ino) IsFreshBlock)
      (writes : WritesWords v live ino p.place (put_end p) whole IsFreshBlock (journaled before) h) where
    old_cut : IsWorld v [] [] (journaled before) numbers (cut_of s) count
    old_cut = cut_is_world g k files count numbers start history before ready.going is

    old_live : IsWorld (sized files.sizes v) (as_claims (staged_of v files)) [] (journaled before) numbers s count
    old_live = (live_is_world g k files count numbers start history before ready.going is).0

    pub live_stands : Stands (sized files.sizes v) (staged_of v files) (journaled before) numbers s
    live_stands = subst (λ ds. Stands (sized files.sizes v) ds (journaled before) numbers s) (live_is_world g k files count numbers start history before ready.going is).1 old_live.valid.stands

    log : LogStands v (staged_of v files)
    log = log_plain files.sizes v (staged_of v files) live_stands.log

    cut_node_is : node_at (cut_of s).nodes n ≡ cut_node (node_at s.nodes n)
    cut_node_is = get_or-map cut_node s.nodes n Node.Gone

    cut_file : FileStands v [] (journaled before) ino (take published (bytes_of (node_at s.nodes n)))
    cut_file =
        let standing = subst (λ kind. NodeStands v [] (journaled before) ino kind (node_at (cut_of s).nodes n)) puts.file (old_cut.valid.stands.nodes.each ino used) in
        subst (FileStands v [] (journaled before) ino) (ap bytes_of cut_node_is ∙ cut_bytes (node_at s.nodes n))
        (file_stands v [] (journaled before) ino (node_at (cut_of s).nodes n) standing)

    short : length (take published whole) ≡ published
    short = let long = length-take published whole in let a = published_low in let b = low_whole in grind (arith, long, a, b)

    cut_writes : WritesBeside v [] (journaled before) h ino (take published whole)
    cut_writes = record {
      file = puts.file;
      size = sym published_is ∙ sym short;
      each = λ i below. each i (subst (λ m. i < m) short below) (range_or p.place (put_end p) i);
      others = λ j block b i j_used other at small. same j block b i j_used other at small;
    } where
      each : (i : ℕ) → i < published → ((p.place ≤ i) × (i < put_end p)) ⊎ ((i < p.place) ⊎ (put_end p ≤ i)) → byte_in h (disk_of v [] ino (i / 4096)) i ≡ slice_index (take published whole) i
      each i low (inl inside) = writes.mapped i inside.0 inside.1 (subst (λ m. i < m) published_is low) ∙ sym (take_at whole published i low)
      each i low (inr apart) =
          mapped_stays v (staged_of v files) live ino p.place (put_end p) (size_in files ino) whole IsFreshBlock (journaled before) h old_cut.valid.stands.sane log old_cut.valid.stands.log puts.file range writes i apart
          ∙ (cut_file.each i (let long = length-take published (bytes_of (node_at s.nodes n)) in let a = published_low in let b = old_is in grind (arith, long, a, b, low))
          ∙ (take_at (bytes_of (node_at s.nodes n)) published i low ∙ (beside_is i apart ∙ sym (take_at whole published i low))))

      same : (j block b i : ℕ) → IsUsed v j → j ≢ ino → disk_of v [] j block ≡ Some b → i < 4096 → byte_of h (4096 * b + i) ≡ byte_of (journaled before) (4096 * b + i)
      same j block b i j_used other at small =
          let all = other_mapped v (staged_of v files) live ino p.place (put_end p) (size_in files ino) whole IsFreshBlock (journaled before) h old_cut.valid.stands.sane log old_cut.valid.stands.log puts.file range writes j block i j_used other in
          let rest : i % 4096 ≡ i = omega (arith, small) in
          subst (λ m. byte_of h (4096 * b + m) ≡ byte_of (journaled before) (4096 * b + m)) rest
          (subst (λ o. byte_in h o i ≡ byte_in (journaled before) o i) at all)

    -- THE BATCH stands for the state behind the write, cut to published lengths.
    pub cut_behind : IsWorld v [] [] h numbers (cut_of new) count
    cut_behind =
        in_place_beside v [] (journaled before) h numbers (cut_of s) (cut_of new) count ino (take published whole) published old_cut cut_writes
        (left_fits Same new (cut_of new) (cut_left new) refl fits_new) leaves.entries leaves.shape
        (ap (map cut_node) leaves.nodes ∙ map-set cut_node s.nodes n (with_whole s n whole))
