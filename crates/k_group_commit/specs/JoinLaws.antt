-- Laws of the calls that make room and let a change join.
use Rattle.std.specs.Prelude.{All, ◌≡◌, ◌/◌, ◌≤◌, ℕ, true, false, not, List, [], ◌++◌, length, refl}
use Rattle.std.proofs.Common.{arith, ap, sym, ◌∙◌, subst, inl, inr}
use Rattle.std.proofs.lemmas.List.{length-map}
use Rattle.std.proofs.lemmas.List.Sums.{count_by-le-length, length-filter}
use Rattle.pm_lines.specs.pm_model.declared.Cell.{Cell}
use Rattle.pm_lines.specs.pm_model.Cells.{cell, Settles}
use Rattle.pm_lines.specs.pm_model.Frames.{KeepsSingle, SameLent}
use Rattle.pm_lines.specs.pm_model.ImageLaws.{Follows-then, IsImage-words_of}
use Rattle.pm_lines.specs.pm_model.Images.{ComesFrom, Follows, Follows-weaken, IsImage, Then, words_of}
use Rattle.pm_lines.specs.pm_model.Words.{Words}
use Rattle.k_plans.specs.image_model.Placed.{IsOutside}
use Rattle.k_plans.specs.image_model.Volume.{Volume}
use Rattle.k_plans.specs.image_model.Reading.{Reads}
use Rattle.k_plans.specs.layout_model.Journal.{journaled}
use Rattle.k_plans.specs.layout_model.Places.{commit_word, Geometry, is_journaled_line}
use Rattle.k_plans.specs.volume_laws.ImageLaws.{journal-outside}
use Rattle.k_plans.specs.volume_laws.Reading.{AreUnchained}
use Rattle.k_plans.specs.k_journal.Batch.{AllLines, AreLaid, has_line, lines_of}
use Rattle.k_plans.specs.k_journal.declared.batches.Record.{Record}
use Rattle.k_plans.specs.k_journal.declared.outcomes.Commit.{Commit}
use Rattle.map_chain.specs.Writes.{SameOutside}
use Rattle.k_plans.specs.volume_laws.Uses.{is_unused}
use Rattle.k_plans.specs.Free.{AreKeptBack}
use Rattle.k_plans.specs.LandingLaws.{idle-image, idle-sound, lines-new}
use Rattle.k_plans.specs.Landings.{IsElsewhere}
use Rattle.k_plans.specs.LandingsPlans.{blocks_of, NewChain, Turns}
use Rattle.k_plans.specs.Maps.{AreApart, MayWriteAll}
use Rattle.k_plans.specs.Switching.{IsHeld, with_waiting}
use Rattle.k_plans.specs.View.{TablesView}
use Rattle.k_plans.specs.WrittenLaws.{reads-beside, settles-then, unused-apart}
use Rattle.k_plans.specs.k_split_model.Stands.{IsOldOrNew, Stands}
use Rattle.k_group_commit.specs.Gathered.{AreGathered, HaveGathered, IsJoining, IsOpen}
use Rattle.k_group_commit.specs.Joins.{Fits, Goes, HasJoined, IsAhead, IsJoined, IsRoomMade, IsToJoin, WasCommitted, WasRoom}
use Rattle.k_group_commit.specs.OpenLaws.{joins-apart, joins-unused, joining-committed, open-committed, open-joined, waits-joined}

-- ---- a commit of the group

module _ (u : Volume) (t p : TablesView) (a : List Record) (d : List Cell) (g : Geometry) (numbers : g ≡ p.volume.geometry)
    (is : IsAhead u t p a d) where
  same : g ≡ t.volume.geometry
  same = numbers ∙ is.geometry

  -- the volume of the device has the numbers of the tables
  device-same : u.geometry ≡ t.volume.geometry
  device-same = (is.opened.are.stands.reads (words_of d) (IsImage-words_of d)).geometry

  pub have-gathered : HaveGathered g u t.volume a d
  have-gathered = record {
    news = is.opened.news;
    are = subst (λ h. AreGathered h is.opened.news u t.volume a d) (sym same) is.opened.are;
  }

  pub goes-committed : (m : List Cell) → length m ≡ length d → SameLent d m
      → ((x y : Volume) → HaveGathered g x y a d → Follows (IsOldOrNew g [] x y) d m)
      → ((i : ℕ) → IsElsewhere a [] i → Settles (cell d i) (cell m i)) → Goes [] u t.volume d m
  goes-committed m size lent each_image others = record {
    size = size;
    lent = lent;
    each_image = subst (λ h. Follows (IsOldOrNew h [] u t.volume) d m) (same ∙ sym device-same) (each_image u t.volume have-gathered);
    others = λ i journal line out. others i (record {
      journal = journal;
      lines = lines-new u.geometry a (i / 8) (subst (λ h. AllLines (is_journaled_line h) a) (sym device-same) is.opened.are.turns.lines) line;
      outside = out;
    });
  }

  pub was-committed : (q : TablesView) (c : List Record) (m : List Cell) → q ≡ with_waiting [] p → c ≡ [] → Goes [] u t.volume d m → KeepsSingle d m
      → ((x y : Volume) → HaveGathered g x y a d → AreGathered g [] y y c m) → WasCommitted u t p q c d m
  was-committed q c m tables none goes keeps done = record {
    tables = tables;
    group = none;
    opened = open-committed u t a d m is.opened
        (subst (λ h. AreGathered h [] t.volume t.volume [] m) same
        (subst (λ (b : List Record). AreGathered g [] t.volume t.volume b m) none (done u t.volume have-gathered)));
    goes = goes;
    singles = keeps;
  }

-- ---- blocks are written

-- no word of no blocks
outside-none : (i : ℕ) → IsOutside [] i
outside-none i k below at = absurd (omega (arith, below))

-- Blocks that the volume of the device has not were written: each image reads as that volume.
pub goes-written : (g : Geometry) (u : Volume) (blocks : List ℕ) (d m : List Cell) → g ≡ u.geometry → Stands g u d → AreUnchained g u blocks
    → length m ≡ length d → SameLent d m → Follows (SameOutside blocks) d m → ((i : ℕ) → IsOutside blocks i → Settles (cell d i) (cell m i))
    → Goes blocks u u d m
goes-written g u blocks d m same stands free size lent follows others = record {
  size = size;
  lent = lent;
  each_image = subst (λ h. Follows (IsOldOrNew h blocks u u) d m) same each;
  others = λ i journal line out. others i out;
}
  where
    each : Follows (IsOldOrNew g blocks u u) d m
    each image is =
        let from : (before : Words) × ComesFrom d image before × SameOutside blocks before image = follows image is in
        let idle : from.0 commit_word ≡ 0 = idle-image d from.0 stands.idle from.1.is_image in (
          from.0,
          from.1,
          record {
            reads = inl (reads-beside g u blocks from.0 image free from.2 (stands.reads from.0 from.1.is_image));
            others = λ i journal line out. from.2 i out;
            sound = idle-sound g image (from.2 commit_word (journal-outside g blocks commit_word free.in_data refl) ∙ idle);
          },
        )

-- blocks of a device at one volume were written: each image reads as it
pub write-cut : (blocks : List ℕ) (v : Volume) (d m : List Cell) → Goes blocks v v d m → (image : Words) → IsImage m image
    → Reads v.geometry (journaled image) v
write-cut blocks v d m goes image im = elim (goes.each_image image im).2.reads [ inl old ↦ old | inr new ↦ new ]

-- a commit, after which no block was written
pub goes-more : (blocks : List ℕ) (u v : Volume) (d m : List Cell) → Goes [] u v d m → Goes blocks u v d m
goes-more blocks u v d m goes = record {
  size = goes.size;
  lent = goes.lent;
  each_image = Follows-weaken (IsOldOrNew u.geometry [] u v) (IsOldOrNew u.geometry blocks u v) d m
      (λ before image then. record { reads = then.reads; others = λ i journal line out. then.others i journal line (outside-none i); sound = then.sound })
      goes.each_image;
  others = λ i journal line out. goes.others i journal line (outside-none i);
}

-- a commit, and then blocks are written
pub goes-then : (blocks : List ℕ) (u v : Volume) (d m e : List Cell) → v.geometry ≡ u.geometry → Goes [] u v d m → Goes blocks v v m e
    → Goes blocks u v d e
goes-then blocks u v d m e same first next = record {
  size = next.size ∙ first.size;
  lent = λ i. next.lent i ∙ first.lent i;
  each_image = Follows-weaken (Then (IsOldOrNew u.geometry [] u v) (IsOldOrNew u.geometry blocks v v)) (IsOldOrNew u.geometry blocks u v) d e
      (λ before image then. record {
        reads = elim then.2.reads [
          | inl new ↦ inr new
          | inr new ↦ inr new
        ];
        others = λ i journal line out. then.2.others i journal line out ∙ then.1.others i journal line (outside-none i);
        sound = then.2.sound;
      })
      (Follows-then (IsOldOrNew u.geometry [] u v) (IsOldOrNew u.geometry blocks v v) d m e (λ i lent. first.lent i ∙ lent) first.each_image
      (subst (λ h. Follows (IsOldOrNew h blocks v v) m e) same next.each_image));
  others = λ i journal line out. settles-then (cell d i) (cell m i) (cell e i) (first.others i journal line (outside-none i))
      (next.others i journal (subst (λ h. is_journaled_line h (i / 8) ≡ false) (sym same) line) out);
}

-- ---- a change joins

module _ (u : Volume) (t p h : TablesView) (maps : List NewChain) (a b : List Record) (d : List Cell) (opened : IsOpen u t a d)
    (joining : IsJoining t p maps b) (held : IsHeld p h) where
  free-there : AreUnchained t.volume.geometry u (blocks_of maps)
  free-there = unused-apart t.volume.geometry u d (blocks_of maps) opened.are.stands (joins-unused u t p h maps a b d opened joining held)

  pub goes-joined : (m : List Cell) → length m ≡ length d → SameLent d m → Follows (SameOutside (blocks_of maps)) d m
      → ((i : ℕ) → IsOutside (blocks_of maps) i → Settles (cell d i) (cell m i)) → Goes (blocks_of maps) u u d m
  goes-joined m size lent follows others =
      goes-written t.volume.geometry u (blocks_of maps) d m (sym (opened.are.stands.reads (words_of d) (IsImage-words_of d)).geometry) opened.are.stands free-there
      size lent follows others

  pub has-joined : (c : List Record) (m : List Cell) → AreKeptBack h → AreLaid a b c → KeepsSingle d m → Goes (blocks_of maps) u u d m
      → ((g : Geometry) (news : List NewChain) (x y w : Volume) → AreGathered g news x y a d → All (λ k. is_unused x k ≡ true) (blocks_of maps)
      → AreApart (blocks_of news) (blocks_of maps) → Turns g maps y w b → AreGathered g (news ++ maps) x w c m)
      → HasJoined u u t.waiting t p h maps a b c d m
  has-joined c m back laid keeps goes done = record {
    opened = open-joined u t p h maps a b d opened joining held c m back
        (done t.volume.geometry opened.news u t.volume p.volume opened.are (joins-unused u t p h maps a b d opened joining held)
        (joins-apart u t p h maps a b d opened joining held) joining.turns);
    volume = held.volume;
    waits = waits-joined u t p h maps a b d opened joining held;
    laid = laid;
    goes = goes;
    singles = keeps;
  }

-- lines that are set beside none are not more than all
pub alone-few : (b : List Record) → length b ≤ 5 → Fits [] b
alone-few b few =
    omega (
      arith,
      few,
      length-filter (λ line. not (has_line [] line)) (lines_of b),
      count_by-le-length (λ line. not (has_line [] line)) (lines_of b),
      length-map b (λ (e : Record). e.line),
    )

-- ---- room was made for a change that is to join

module _ (u : Volume) (t p q h : TablesView) (maps : List NewChain) (a b e : List Record) (d n : List Cell) (to : IsToJoin u t p maps a b d)
    (made : IsRoomMade u t p q a b e d n Commit.Done) (held : IsHeld q h) where
  pub made-write : MayWriteAll maps d → MayWriteAll maps n
  made-write may = elim made [
    | inl room ↦ subst (MayWriteAll maps) (sym room.1.cells) may
    | inr was ↦ record {
      each = λ k below. record {
        count = (may.each k below).count;
        distinct = (may.each k below).distinct;
        in_device = λ j within. omega (arith, (may.each k below).in_device j within, was.1.goes.size);
        single = λ j i within at. was.1.singles i ((may.each k below).single j i within at);
      };
      apart = may.apart;
    }
  ]

  pub made-room : Fits e b
  made-room = elim made [
    | inl room ↦ subst (λ (x : List Record). Fits x b) (sym room.1.group) room.0
    | inr was ↦ subst (λ (x : List Record). Fits x b) (sym was.1.group) (alone-few b to.joining.most)
  ]

  -- where the lines fit
  module _ (room : WasRoom p q a e d n) where
    still-held : IsHeld p h
    still-held = subst (λ (x : TablesView). IsHeld x h) room.tables held

    pub goes-in_room : (m : List Cell) → length m ≡ length n → SameLent n m → Follows (SameOutside (blocks_of maps)) n m
        → ((i : ℕ) → IsOutside (blocks_of maps) i → Settles (cell n i) (cell m i)) → Goes (blocks_of maps) u u d m
    goes-in_room m size lent follows others =
        goes-joined u t p h maps a b d to.opened to.joining still-held m (size ∙ ap (λ (x : List Cell). length x) room.cells)
        (subst (λ (x : List Cell). SameLent x m) room.cells lent) (subst (λ (x : List Cell). Follows (SameOutside (blocks_of maps)) x m) room.cells follows)
        (subst (λ (x : List Cell). (i : ℕ) → IsOutside (blocks_of maps) i → Settles (cell x i) (cell m i)) room.cells others)

    pub joined-in_room : (c : List Record) (m : List Cell) → AreKeptBack h → AreLaid e b c → KeepsSingle n m → Goes (blocks_of maps) u u d m
        → ((g : Geometry) (news : List NewChain) (x y w : Volume) → AreGathered g news x y e n → All (λ k. is_unused x k ≡ true) (blocks_of maps)
        → AreApart (blocks_of news) (blocks_of maps) → Turns g maps y w b → AreGathered g (news ++ maps) x w c m)
        → HasJoined u u t.waiting t p h maps a b c d m
    joined-in_room c m back laid keeps goes done =
        has-joined u t p h maps a b d to.opened to.joining still-held c m back (subst (λ (x : List Record). AreLaid x b c) room.group laid)
        (subst (λ (x : List Cell). KeepsSingle x m) room.cells keeps) goes
        (λ g news x y w are. done g news x y w
        (subst (λ (s : List Record). AreGathered g news x y s n) (sym room.group) (subst (λ (s : List Cell). AreGathered g news x y a s) (sym room.cells) are)))

  -- where the group was committed before
  module _ (was : WasCommitted u t p q e d n) where
    then-held : IsHeld (with_waiting [] p) h
    then-held = subst (λ (x : TablesView). IsHeld x h) was.tables held

    then-joins : IsJoining (with_waiting [] t) (with_waiting [] p) maps b
    then-joins = joining-committed t p maps b to.joining

    opened-then : IsOpen t.volume (with_waiting [] t) e n
    opened-then = subst (λ (x : List Record). IsOpen t.volume (with_waiting [] t) x n) (sym was.group) was.opened

    written : (m : List Cell) → length m ≡ length n → SameLent n m → Follows (SameOutside (blocks_of maps)) n m
        → ((i : ℕ) → IsOutside (blocks_of maps) i → Settles (cell n i) (cell m i)) → Goes (blocks_of maps) t.volume t.volume n m
    written m size lent follows others =
        goes-joined t.volume (with_waiting [] t) (with_waiting [] p) h maps e b n opened-then then-joins then-held m size lent follows others

    pub goes-after : (m : List Cell) → Goes (blocks_of maps) t.volume t.volume n m → Goes (blocks_of maps) u t.volume d m
    goes-after m next =
        goes-then (blocks_of maps) u t.volume d n m (sym (to.opened.are.stands.reads (words_of d) (IsImage-words_of d)).geometry) was.goes next

    pub goes-written_after : (m : List Cell) → length m ≡ length n → SameLent n m → Follows (SameOutside (blocks_of maps)) n m
        → ((i : ℕ) → IsOutside (blocks_of maps) i → Settles (cell n i) (cell m i)) → Goes (blocks_of maps) u t.volume d m
    goes-written_after m size lent follows others = goes-after m (written m size lent follows others)

    pub joined-after : (c : List Record) (m : List Cell) → AreKeptBack h → AreLaid e b c → KeepsSingle n m → Goes (blocks_of maps) t.volume t.volume n m
        → ((g : Geometry) (news : List NewChain) (x y w : Volume) → AreGathered g news x y e n → All (λ k. is_unused x k ≡ true) (blocks_of maps)
        → AreApart (blocks_of news) (blocks_of maps) → Turns g maps y w b → AreGathered g (news ++ maps) x w c m)
        → HasJoined u t.volume [] t p h maps [] b c d m
    joined-after c m back laid keeps next done =
        let has = has-joined t.volume (with_waiting [] t) (with_waiting [] p) h maps e b n opened-then then-joins then-held c m back laid keeps next done in
        record {
          opened = has.opened;
          volume = has.volume;
          waits = has.waits;
          laid = subst (λ (x : List Record). AreLaid x b c) was.group laid;
          goes = goes-after m next;
          singles = λ i single. keeps i (was.singles i single);
        }

    pub joined-written_after : (c : List Record) (m : List Cell) → AreKeptBack h → AreLaid e b c → length m ≡ length n → SameLent n m
        → Follows (SameOutside (blocks_of maps)) n m → ((i : ℕ) → IsOutside (blocks_of maps) i → Settles (cell n i) (cell m i)) → KeepsSingle n m
        → ((g : Geometry) (news : List NewChain) (x y w : Volume) → AreGathered g news x y e n → All (λ k. is_unused x k ≡ true) (blocks_of maps)
        → AreApart (blocks_of news) (blocks_of maps) → Turns g maps y w b → AreGathered g (news ++ maps) x w c m)
        → HasJoined u t.volume [] t p h maps [] b c d m
    joined-written_after c m back laid size lent follows others keeps done =
        joined-after c m back laid keeps (written m size lent follows others) done

  -- the power went while maps were written
  pub cut-joined : (c : List Record) (m : List Cell) → length m ≡ length n → SameLent n m → Follows (SameOutside (blocks_of maps)) n m
      → ((i : ℕ) → IsOutside (blocks_of maps) i → Settles (cell n i) (cell m i)) → IsJoined u t p h maps a b c d m Commit.PowerLost
  cut-joined c m size lent follows others = elim made [
    | inl room ↦
        let goes = goes-in_room room.1 m size lent follows others in
        inr (inl (room.0, record { goes = goes; reads = write-cut (blocks_of maps) u d m goes }))
    | inr was ↦ inr (inr (
      was.0,
      record {
        goes = goes-written_after was.1 m size lent follows others;
        reads = write-cut (blocks_of maps) t.volume n m (written was.1 m size lent follows others);
      },
    ))
  ]

  -- it joined
  pub done-joined : (c : List Record) (m : List Cell) → AreKeptBack h → AreLaid e b c → length m ≡ length n → SameLent n m
      → Follows (SameOutside (blocks_of maps)) n m → ((i : ℕ) → IsOutside (blocks_of maps) i → Settles (cell n i) (cell m i)) → KeepsSingle n m
      → ((g : Geometry) (news : List NewChain) (x y w : Volume) → AreGathered g news x y e n → All (λ k. is_unused x k ≡ true) (blocks_of maps)
      → AreApart (blocks_of news) (blocks_of maps) → Turns g maps y w b → AreGathered g (news ++ maps) x w c m)
      → IsJoined u t p h maps a b c d m Commit.Done
  done-joined c m back laid size lent follows others keeps done = elim made [
    | inl room ↦ inl (room.0, joined-in_room room.1 c m back laid keeps (goes-in_room room.1 m size lent follows others) done)
    | inr was ↦ inr (was.0, joined-written_after was.1 c m back laid size lent follows others keeps done)
  ]

-- the power went in the commit of the group
pub cut-committed : (u : Volume) (t p q h : TablesView) (maps : List NewChain) (a b e c : List Record) (d n : List Cell)
    → IsRoomMade u t p q a b e d n Commit.PowerLost → IsJoined u t p h maps a b c d n Commit.PowerLost
cut-committed u t p q h maps a b e c d n made = inl made

pub joined-by : (u : Volume) (t p h : TablesView) (maps : List NewChain) (a b c : List Record) (d m : List Cell) (r : Commit)
    → (r ≡ Commit.Done → IsJoined u t p h maps a b c d m Commit.Done) → (r ≡ Commit.PowerLost → IsJoined u t p h maps a b c d m Commit.PowerLost)
    → IsJoined u t p h maps a b c d m r
joined-by u t p h maps a b c d m Commit.Done done lost = done refl
joined-by u t p h maps a b c d m Commit.PowerLost done lost = lost refl
