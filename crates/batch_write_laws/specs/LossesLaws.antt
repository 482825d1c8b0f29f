-- The power goes while words are written: the device keeps the promise once its log lines are put back.
use Rattle.std.specs.Prelude.{◌≡◌, ◌≢◌, ◌⊎◌, ◌<◌, ◌≤◌, ◌+◌, ◌*◌, ◌/◌, ◌%◌, ◌^◌, ℕ, true, List, [], ◌∷◌, ◌++◌, map, Option, Some, None, slice_index, refl}
use Rattle.std.proofs.Common.{arith, ap, ◌∙◌, sym, subst, inl, inr}
use Rattle.std.proofs.lemmas.Bool.{cases_eq}
use Rattle.live_model.specs.pm_model.declared.Cell.{Cell}
use Rattle.live_model.specs.pm_model.Images.{ComesFrom, Follows, IsImage}
use Rattle.live_model.specs.pm_model.Parts.{put_back}
use Rattle.live_model.specs.pm_model.Words.{byte_of, Words}
use Rattle.live_model.specs.layout_model.Journal.{journaled}
use Rattle.live_model.specs.layout_model.Places.{base_word, data_blocks, Geometry, is_data_block, IsGeometry}
use Rattle.live_model.specs.layout_model.declared.lines.Draft.{Draft}
use Rattle.live_model.specs.layout_model.declared.lines.Kind.TheVariants.{File}
use Rattle.live_model.specs.image_model.Content.{byte_in, disk_of, found}
use Rattle.live_model.specs.image_model.Honest.{IsHonestWith}
use Rattle.live_model.specs.image_model.Live.{live_entries}
use Rattle.live_model.specs.image_model.Volume.{inode, Volume}
use Rattle.live_model.specs.file_table.Files.{Files}
use Rattle.live_model.specs.k_split_model.View.{View}
use Rattle.live_model.specs.list_laws.Members.{In}
use Rattle.live_model.specs.commute_laws.posix_types.declared.item.Item.{Item}
use Rattle.live_model.specs.commute_laws.posix_types.declared.tree.TreeEntry.{TreeEntry}
use Rattle.live_model.specs.posix_laws.Lasting.{run_lasts}
use Rattle.live_model.specs.posix_laws.Puts.{put_bytes}
use Rattle.live_model.specs.posix_spec.Put.{Put}
use Rattle.live_model.specs.posix_spec.Run.{begun, run, Unfinished}
use Rattle.live_model.specs.posix_spec.State.{Fits, State}
use Rattle.live_model.specs.crash_spec.Permitted.{StronglyPermitted}
use Rattle.live_model.specs.crash_spec.Posix.{LastBeforeCut, StrongPosix}
use Rattle.live_model.specs.crash_spec.Values.{value_put}
use Rattle.live_model.specs.volume_laws.OwnerLaws.{IsOnePlace}
use Rattle.live_model.specs.world_model.Ends.{SameMembers-shown}
use Rattle.live_model.specs.world_model.Lent.{disk_of-in_data}
use Rattle.live_model.specs.world_model.Shown.{IsTreeOfContent}
use Rattle.live_model.specs.world_model.Stands.{is_used, IsUsed, number, Stands}
use Rattle.live_model.specs.world_image_laws.Back.{calls_in_log, IsPutBack}
use Rattle.live_model.specs.world_image_laws.Changed.{ShowsLog-same}
use Rattle.live_model.specs.world_image_laws.Flights.{image_of, shows_back}
use Rattle.live_model.specs.world_image_laws.Images.{IsHeaded, ShowsLog}
use Rattle.live_model.specs.world_image_laws.Kept.{kept_by}
use Rattle.live_model.specs.world_image_laws.Promised.{IsKept}
use Rattle.posix_mode_laws.specs.Batch.{KeepsShown, ShowsTree}
use Rattle.posix_mode_laws.specs.BatchLaws.{AnyByte}
use Rattle.posix_mode_laws.specs.CutStands.{left_fits}
use Rattle.posix_mode_laws.specs.Permits.{keeps_words, permits_shown, ShownOf}
use Rattle.posix_mode_laws.specs.Reread.{one_place, permits_lost, reread, reread_left, reread_stands}
use Rattle.posix_mode_laws.specs.Sides.{LosesInPlace, PosixWorld, Sides}
use Rattle.batch_laws.specs.Ready.{GoesReady}
use Rattle.batch_laws.specs.Standing.{PosixGoing, sides_of}
use Rattle.batch_laws.specs.Steps.{IsOfStaging}
use Rattle.batch_laws.specs.StepsLaws.{lines_of_one}
use Rattle.batch_publish_laws.specs.Joins.{IsBase, IsWrittenFrom}
use Rattle.batch_publish_laws.specs.JoinsLaws.{image_headed, join_loss_is_kept}
use Rattle.batch_write_laws.specs.Heads.{headed_low, low_beside}
use Rattle.batch_write_laws.specs.Losses.{JoinKeepsBack, KeptBackOfOne, LosesPut, LosesTail, LosesWords, ShownKeepsBack, TailKeepsBack, WriteKeepsBack}
use Rattle.batch_write_laws.specs.PutBytes.{put_within}
use Rattle.batch_write_laws.specs.StagedLaws.{file_or}
use Rattle.batch_write_laws.specs.Words.{put_end}
use Rattle.batch_write_laws.specs.Writes.{PutsInto}

module _ (g : Geometry) (k : View) (files : Files) (count : ℕ) (numbers : List ℕ) (start : State) (history : List Item) (ready : GoesReady g k files count numbers start history) where
  abbrev going : PosixGoing g k files count numbers start history
  going = ready.going

  abbrev v : Volume
  v = k.volume

  abbrev c : Volume
  c = k.committed

  abbrev s : State
  s = run start history

  abbrev sides : Sides
  sides = sides_of k files ready.going.old_numbers numbers

  medium_is : k.committed.geometry ≡ g
  medium_is = sym ready.geometry ∙ going.geometry

  -- ---- an image that is left, with the log lines put back

  no_calls : (slots : List (Option ℕ)) (unfinished : List Unfinished) → calls_in_log slots [] ++ unfinished ≡ unfinished
  no_calls [] unfinished = refl
  no_calls (o ∷ slots) unfinished = refl

  -- its log shows no entry
  shows_log : (d : List Cell) (back : ℕ → Cell) (first : Words) (slots : List (Option ℕ)) (image : Words) → IsPutBack k.volume d back first [] [] slots image → IsHeaded k.committed.geometry image
      → k.volume.base ≡ journaled image base_word → ShowsLog k.committed [] (journaled image)
  shows_log d back first slots image put head base =
      let own = subst (λ x. IsHeaded x image) (sym ready.geometry) head in
      let most = head.head.state.most_base in
      let few = going.is_geometry.most_log in
      let small : k.volume.base + k.volume.geometry.log ≤ 2 ^ 64 = omega (arith, most, few, base, ap (λ (x : Geometry). x.log) going.geometry) in
      let shown = shows_back k.volume d [] [] back first slots image own small put in
      ShowsLog-same k.volume k.committed [] (journaled image) (journaled image) (sym ready.geometry) (sym ready.base) (record { words = λ slot i below at. refl }) shown.log

  module _ (d : List Cell) (Lost : Words → Words → Type 0) (lost : Follows (LosesWords k.committed Lost) k.cells d) (back : ℕ → Cell) (first : Words) (slots : List (Option ℕ)) (image : Words)
      (put : IsPutBack k.volume d back first [] [] slots image) where
    from : (before : Words) × ComesFrom k.cells image before × LosesWords k.committed Lost before image
    from = lost image (image_of d back image put.image_is)

    abbrev was : PosixWorld LastBeforeCut sides (journaled from.0) start ready.going.front ready.going.later
    was = ready.going.world from.0 from.1.is_image

    head : IsHeaded k.committed.geometry image
    head =
        headed_low k.committed.geometry from.0 image (subst (λ x. IsHeaded x from.0) (sym medium_is) (going.headed from.0 from.1.is_image))
        (λ i low. from.2.beside i (low_beside k.committed.geometry i low))

    seen_log : ShowsLog k.committed [] (journaled image)
    seen_log = shows_log d back first slots image put head (ready.base ∙ from.2.reads.base)

    -- no entry is live
    none_live : live_entries k.committed (journaled image) ≡ []
    none_live = empty (live_entries k.committed (journaled image)) (λ e is. (SameMembers-shown k.committed [] (journaled image) seen_log.shows).on e is) where
      empty : (es : List Draft) → ((e : Draft) → In e es → ⊥) → es ≡ []
      empty [] out = refl
      empty (e ∷ es) out = absurd (out e (inl refl))

    -- IT IS KEPT, where the medium stands for a state by its words, and what is found of it is permitted.
    kept_image : (unfinished : List Unfinished) (m : State) → Stands k.committed [] (journaled image) ready.going.old_numbers m → m.shape ≡ was.medium.state.shape → Fits m
        → ((left : List TreeEntry) → ShowsTree k.committed (journaled image) left → StrongPosix start (ready.going.front ++ ready.going.later) unfinished left)
        → IsKept k.volume.geometry start history (calls_in_log slots [] ++ unfinished) image
    kept_image unfinished m stands shape fits permits =
        subst (λ cs. IsKept k.volume.geometry start history cs image) (sym (no_calls slots unfinished))
        (subst (λ x. IsKept x start history unfinished image) (sym ready.geometry)
        (kept_by k.committed [] [] ready.going.old_numbers m 0 image start history unfinished
        (record {
          headed = head;
          reads = from.2.reads;
          world = record {
            valid = record { stands = stands; out = tt; fits = fits; room = omega arith };
            claims_stand = record { orders = λ a b e h one two other e_file h_file same. absurd one; settled = λ slot e there file. absurd there };
            aged = record { small = omega arith; staging = λ e there. absurd there; own = λ e there. absurd there; taken = λ e there. absurd there };
            shape = record {
              root = subst (λ x. 1 ≤ x.nodes) (sym same_shape) going.shape_front.root;
              nodes = ap (λ x. x.nodes + 4) same_shape ∙ going.shape_front.nodes;
              names = ap (λ x. x.names) same_shape ∙ going.shape_front.names;
            };
            geometry = subst IsGeometry (sym medium_is) going.is_geometry;
          };
          room = record { free = going.free; blocks = ap (λ x. x.data_blocks) (shape ∙ was.medium.shape) ∙ (going.blocks ∙ ap data_blocks (sym medium_is)) };
          landed = [];
          filled = tt;
          log = seen_log;
        })
        (λ left tree_is. subst (λ mode. StronglyPermitted mode start history unfinished left) (sym going.mode)
        (subst (λ h. StrongPosix start h unfinished left) (sym going.history_is)
        (permits left (none_live, subst (λ es. IsTreeOfContent (found k.committed es (journaled image)) left) none_live tree_is))))))
      where
        same_shape : m.shape ≡ (run start ready.going.front).shape
        same_shape = shape ∙ (was.medium.shape ∙ sym (run_lasts start ready.going.front).shape)

    -- nothing that the medium shows differs
    shown_kept : (unfinished : List Unfinished) → KeepsShown k.committed (journaled from.0) (journaled image) → IsKept k.volume.geometry start history (calls_in_log slots [] ++ unfinished) image
    shown_kept unfinished shown =
        kept_image unfinished was.medium.state (keeps_words k.committed (journaled from.0) (journaled image) ready.going.old_numbers was.medium.state shown was.medium.stands) refl
        (left_fits (LastBeforeCut (run start ready.going.front) (map begun ready.going.later)) (run start ready.going.front) was.medium.state was.medium.left (was.medium.shape ∙ sym (run_lasts start ready.going.front).shape)
        going.fits_front)
        (λ left tree_is. permits_shown sides (journaled from.0) (journaled image) start ready.going.front ready.going.later unfinished left was shown tree_is)

    -- a write in place was cut off
    lost_kept : (call : Unfinished) (ino from_byte to_byte : ℕ)
        → LosesInPlace k.committed [] ready.going.old_numbers (journaled from.0) (journaled image) (run start (ready.going.front ++ ready.going.later)) call ino from_byte to_byte
        → IsKept k.volume.geometry start history (calls_in_log slots [] ++ call ∷ []) image
    lost_kept call ino from_byte to_byte loses =
        kept_image (call ∷ []) (reread k.committed (journaled image) ino ready.going.old_numbers was.medium.state)
        (reread_stands k.committed (journaled from.0) (journaled image) ready.going.old_numbers was.medium.state ino was.medium.stands loses.file shown) refl
        (left_fits AnyByte (run start ready.going.front) (reread k.committed (journaled image) ino ready.going.old_numbers was.medium.state)
        (reread_left k.committed (journaled from.0) (journaled image) ready.going.old_numbers was.medium.state ino was.medium.stands loses.file
        (LastBeforeCut (run start ready.going.front) (map begun ready.going.later)) AnyByte (run start ready.going.front) (λ n i z y other below is. tt) (λ i z below is. tt) was.medium.left)
        (was.medium.shape ∙ sym (run_lasts start ready.going.front).shape) going.fits_front)
        (λ left tree_is. permits_lost sides (journaled from.0) (journaled image) start ready.going.front ready.going.later call ino from_byte to_byte left was loses tree_is)
      where
        shown : (j : ℕ) → IsUsed k.committed j → j ≢ ino → ShownOf k.committed (journaled from.0) (journaled image) j
        shown j j_used other i file below = by (disk_of k.committed [] j (i / 4096)) refl where
          by : (o : Option ℕ) → disk_of k.committed [] j (i / 4096) ≡ o → byte_in (journaled image) o i ≡ byte_in (journaled from.0) o i
          by None at = refl
          by (Some b) at =
              loses.others j (i / 4096) b (i % 4096) j_used at (omega arith)
              (λ m low high same. absurd (other (one_place k.committed was.medium.stands.sane j ino (i / 4096) (m / 4096) b j_used (ap is_used loses.file) at same).inode))

pub shown_keeps_back : ShownKeepsBack
shown_keeps_back g k d files count numbers start history first unfinished ready lost back slots image put =
    shown_kept g k files count numbers start history ready d (KeepsShown k.committed) lost back first slots image put unfinished
    (from g k files count numbers start history ready d (KeepsShown k.committed) lost back first slots image put).2.words

-- a change of maps
pub join_keeps_back : JoinKeepsBack
join_keeps_back g k l base files count numbers start history blocks first unfinished ready is_base written back slots image put =
    subst (λ cs. IsKept k.volume.geometry start history cs image) (sym (no_calls g k files count numbers start history ready slots unfinished))
    (subst (λ x. IsKept x start history unfinished image) (sym ready.going.geometry)
    (join_loss_is_kept g k l base files count numbers start history blocks unfinished ready is_base written image is
    (shows_log g k files count numbers start history ready l.cells back first slots image put (subst (λ x. IsHeaded x image) (sym (medium_is g k files count numbers start history ready)) (both is_base written).0) (both is_base written).1)))
  where
    is : IsImage l.cells image
    is = image_of l.cells back image put.image_is

    Has : Type 0
    Has = IsHeaded g image × (k.volume.base ≡ journaled image base_word)

    both : IsBase k base → IsWrittenFrom blocks base k l → Has
    both (inl same) from_base = still (subst (λ (b : View). IsWrittenFrom blocks b k l) same from_base) where
      still : IsWrittenFrom blocks k k l → Has
      still from_it =
          let came = from_it.changes.each_image image is in (
            image_headed g k files count numbers start history ready k.committed blocks from_it.spare.batch refl came.0 image came.1.is_image came.2,
            ready.base ∙ (from_it.reads image is).base,
          )
    both (inr anew) from_base = again (subst (λ (b : View). IsWrittenFrom blocks b k l) anew from_base) where
      again : IsWrittenFrom blocks (record k { committed = k.volume; waiting = []; lines = [] }) k l → Has
      again from_it =
          let came = from_it.changes.each_image image is in (
            image_headed g k files count numbers start history ready k.volume blocks from_it.spare.batch ready.base came.0 image came.1.is_image came.2,
            (from_it.reads image is).base,
          )

pub kept_back_of_one : KeptBackOfOne
kept_back_of_one v w d first start history unfinished geometry base kept back slots image put =
    subst (λ x. IsKept x start history (calls_in_log slots [] ++ unfinished) image) (sym geometry)
    (kept back slots image (record {
      lines = lines_of_one w v (put_back d back) first [] [] slots (sym geometry) (sym base) put.lines;
      image_is = put.image_is;
      honest = subst (λ x. IsHonestWith x d back image) geometry put.honest;
      filled = tt;
    }))

-- ---- a tail

pub tail_keeps_back : TailKeepsBack
tail_keeps_back g k d files count numbers start history first unfinished ino past ready empty file low lost back slots image put =
    shown_kept g k files count numbers start history ready d Lost lost back first slots image put unfinished unseen where
      Lost : Words → Words → Type 0
      Lost = LosesTail k.volume ino past

      came : (before : Words) × ComesFrom k.cells image before × LosesWords k.committed Lost before image
      came = from g k files count numbers start history ready d Lost lost back first slots image put

      world : PosixWorld LastBeforeCut (sides_of k files ready.going.old_numbers numbers) (journaled came.0) start ready.going.front ready.going.later
      world = ready.going.world came.0 came.1.is_image

      unseen : KeepsShown k.committed (journaled came.0) (journaled image)
      unseen j i j_file below = by (disk_of k.committed [] j (i / 4096)) refl where
        used : IsUsed k.committed j
        used = ap is_used j_file

        by : (o : Option ℕ) → disk_of k.committed [] j (i / 4096) ≡ o → byte_in (journaled image) o i ≡ byte_in (journaled came.0) o i
        by None at = refl
        by (Some b) at =
            came.2.words.others b (i % 4096)
            (subst (λ (y : Geometry). is_data_block y b ≡ true) (sym ready.geometry) (disk_of-in_data k.committed [] world.medium.stands.sane world.medium.stands.log j (i / 4096) b used at)) (omega arith)
            (λ staged. (world.blocks.staging staged.0 staged.1 b staged.2 staged.3).files j (i / 4096) used at) (λ m high rest there. elim (world.blocks.mapped ino (m / 4096) b (ap is_used file) there) [
              | inr fresh ↦ fresh.files j (i / 4096) used at
              | inl settled ↦ (
                  let one : IsOnePlace j ino (i / 4096) (m / 4096) = one_place k.committed world.medium.stands.sane j ino (i / 4096) (m / 4096) b used settled.used at settled.same in
                  let place = one.place in
                  let short : i < (inode k.volume ino).size = subst (λ (u : Volume). i < (inode u ino).size) empty (subst (λ y. i < (inode k.committed y).size) one.inode below) in
                  omega (arith, place, rest, short, low, high))
            ])

-- ---- a write that was cut off

module _ (g : Geometry) (k : View) (files : Files) (count : ℕ) (numbers : List ℕ) (start : State) (history : List Item) (item : Item) (ino : ℕ) (p : Put)
    (ready : GoesReady g k files count numbers start history) (puts : PutsInto k.volume numbers (run start history) item ino p) (before : Words) (is : IsImage k.cells before) (h : Words)
    (loses : LosesPut k.volume ino p.place (put_end p) (put_bytes (run start history) p) (journaled before) h) where
  abbrev world : PosixWorld LastBeforeCut (sides_of k files ready.going.old_numbers numbers) (journaled before) start ready.going.front ready.going.later
  world = ready.going.world before is

  used : IsUsed k.volume ino
  used = ap is_used puts.file

  in_data : (j x b : ℕ) → IsUsed k.committed j → disk_of k.committed [] j x ≡ Some b → is_data_block k.volume.geometry b ≡ true
  in_data j x b j_used at = subst (λ (y : Geometry). is_data_block y b ≡ true) (sym ready.geometry) (disk_of-in_data k.committed [] world.medium.stands.sane world.medium.stands.log j x b j_used at)

  -- a block of the medium is in no staging file of the batch
  unstaged : (j x b : ℕ) → IsUsed k.committed j → disk_of k.committed [] j x ≡ Some b → IsOfStaging k.volume b → ⊥
  unstaged j x b j_used at staged = (world.blocks.staging staged.0 staged.1 b staged.2 staged.3).files j x j_used at

  -- and where the file has it in the batch, it has it at the same place
  same_place : (j x m b : ℕ) → IsUsed k.committed j → disk_of k.committed [] j x ≡ Some b → disk_of k.volume [] ino m ≡ Some b → (j ≡ ino) × (x ≡ m) × (number ready.going.old_numbers ino ≡ number numbers ino)
  same_place j x m b j_used at there = elim (world.blocks.mapped ino m b used there) [
    | inr fresh ↦ absurd (fresh.files j x j_used at)
    | inl settled ↦ (
        let one : IsOnePlace j ino x m = one_place k.committed world.medium.stands.sane j ino x m b j_used settled.used at settled.same in
        (one.inode, one.place, settled.node))
  ]

  -- WHERE THE FILE IS ONE OF THE MEDIUM it was cut off in place;
  loses_in_place : (inode k.committed ino).kind ≡ File → number ready.going.old_numbers ino ≡ number numbers ino
      → LosesInPlace k.committed [] ready.going.old_numbers (journaled before) h (run start (ready.going.front ++ ready.going.later)) (begun item) ino p.place (put_end p)
  loses_in_place file node = record {
    file = file;
    others = λ j x b i j_used at small apart. loses.others b i (in_data j x b j_used at) small (unstaged j x b j_used at) (λ m low high rest there. (
        let one = same_place j x (m / 4096) b j_used at there in
        let place = one.1 in
        apart m low high (subst (λ y. disk_of k.committed [] y (m / 4096) ≡ Some b) one.0 (subst (λ y. disk_of k.committed [] j y ≡ Some b) place at)) rest));
    each = each;
  } where
    c_used : IsUsed k.committed ino
    c_used = ap is_used file

    each : (i b : ℕ) → p.place ≤ i → i < put_end p → disk_of k.committed [] ino (i / 4096) ≡ Some b
        → (byte_of h (4096 * b + i % 4096) ≡ byte_of (journaled before) (4096 * b + i % 4096))
        ⊎ (value_put (run start (ready.going.front ++ ready.going.later)) (begun item) (number ready.going.old_numbers ino) i ≡ Some (byte_of h (4096 * b + i % 4096)))
    each i b low high at = by (disk_of k.volume [] ino (i / 4096)) refl where
      stays : (disk_of k.volume [] ino (i / 4096) ≢ Some b) → byte_of h (4096 * b + i % 4096) ≡ byte_of (journaled before) (4096 * b + i % 4096)
      stays elsewhere = loses.others b (i % 4096) (in_data ino (i / 4096) b c_used at) (omega arith) (unstaged ino (i / 4096) b c_used at) (λ m m_low m_high rest there. (
          let one = same_place ino (i / 4096) (m / 4096) b c_used at there in
          let place = one.1 in
          elsewhere (subst (λ y. disk_of k.volume [] ino y ≡ Some b) (sym place) there)))

      some_same : (x y : ℕ) → Some x ≡ Some y → x ≡ y
      some_same x y same = ap (λ (o : Option ℕ). cond_or o) same where
        cond_or : Option ℕ → ℕ
        cond_or None = 0
        cond_or (Some z) = z

      new_value : byte_of h (4096 * b + i % 4096) ≡ slice_index (put_bytes (run start history) p) i
          → value_put (run start (ready.going.front ++ ready.going.later)) (begun item) (number ready.going.old_numbers ino) i ≡ Some (byte_of h (4096 * b + i % 4096))
      new_value byte =
          subst (λ xs. value_put (run start xs) (begun item) (number ready.going.old_numbers ino) i ≡ Some (byte_of h (4096 * b + i % 4096))) ready.going.history_is
          (subst (λ n. value_put (run start history) (begun item) n i ≡ Some (byte_of h (4096 * b + i % 4096))) (puts.node ∙ sym node)
          (put_within (run start history) (begun item) p i puts.is low high ∙ ap (λ x. Some x) (sym byte)))

      by : (o : Option ℕ) → disk_of k.volume [] ino (i / 4096) ≡ o
          → (byte_of h (4096 * b + i % 4096) ≡ byte_of (journaled before) (4096 * b + i % 4096))
          ⊎ (value_put (run start (ready.going.front ++ ready.going.later)) (begun item) (number ready.going.old_numbers ino) i ≡ Some (byte_of h (4096 * b + i % 4096)))
      by None there = inl (stays (λ is_there. (let never : None ≡ Some b = sym there ∙ is_there in cc)))
      by (Some e) there = elim (cases_eq e b) [
        | inr other ↦ inl (stays (λ is_there. other (some_same e b (sym there ∙ is_there))))
        | inl same ↦ elim (loses.each i b low high (there ∙ ap (λ x. Some x) same)) [
          | inl old ↦ inl old
          | inr new ↦ inr (new_value new)
        ]
      ]

  -- else nothing that the medium shows differs.
  loses_nothing : ((inode k.committed ino).kind ≡ File → number ready.going.old_numbers ino ≡ number numbers ino → ⊥) → KeepsShown k.committed (journaled before) h
  loses_nothing other j i file below = by (disk_of k.committed [] j (i / 4096)) refl where
    j_used : IsUsed k.committed j
    j_used = ap is_used file

    by : (o : Option ℕ) → disk_of k.committed [] j (i / 4096) ≡ o → byte_in h o i ≡ byte_in (journaled before) o i
    by None at = refl
    by (Some b) at = loses.others b (i % 4096) (in_data j (i / 4096) b j_used at) (omega arith) (unstaged j (i / 4096) b j_used at) (λ m low high rest there. (
        let one = same_place j (i / 4096) (m / 4096) b j_used at there in
        other (subst (λ x. (inode k.committed x).kind ≡ File) one.0 file) one.2))

pub write_keeps_back : WriteKeepsBack
write_keeps_back g k d files count numbers start history first item ino p ready puts lost back slots image put =
    by (file_or (inode k.committed ino).kind) (cases_eq (number ready.going.old_numbers ino) (number numbers ino)) where
      Lost : Words → Words → Type 0
      Lost = LosesPut k.volume ino p.place (put_end p) (put_bytes (run start history) p)

      came : (before : Words) × ComesFrom k.cells image before × LosesWords k.committed Lost before image
      came = from g k files count numbers start history ready d Lost lost back first slots image put

      unseen : ((inode k.committed ino).kind ≡ File → number ready.going.old_numbers ino ≡ number numbers ino → ⊥) → IsKept k.volume.geometry start history (calls_in_log slots [] ++ begun item ∷ []) image
      unseen other =
          shown_kept g k files count numbers start history ready d Lost lost back first slots image put (begun item ∷ [])
          (loses_nothing g k files count numbers start history item ino p ready puts came.0 came.1.is_image (journaled image) came.2.words other)

      by : ((inode k.committed ino).kind ≡ File) ⊎ ((inode k.committed ino).kind ≢ File) → (number ready.going.old_numbers ino ≡ number numbers ino) ⊎ (number ready.going.old_numbers ino ≢ number numbers ino)
          → IsKept k.volume.geometry start history (calls_in_log slots [] ++ begun item ∷ []) image
      by (inr other) same = unseen (λ file node. other file)
      by (inl file) (inr other) = unseen (λ is_file node. other node)
      by (inl file) (inl node) =
          lost_kept g k files count numbers start history ready d Lost lost back first slots image put (begun item) ino p.place (put_end p)
          (loses_in_place g k files count numbers start history item ino p ready puts came.0 came.1.is_image (journaled image) came.2.words file node)
