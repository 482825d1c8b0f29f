-- A file that gets a size: what its new map asks for.
use Rattle.std.proofs.Common.{◌≡◌, ◌≢◌, ◌≤◌, ◌<◌, ◌+◌, ◌^◌, ℕ, Bool, true, false, not, get_or, List, [], ◌∷◌, length, None, Some, refl, sym, ◌∙◌, ap, inl, inr, arith, subst}
use Rattle.std.specs.Prelude.{All, ◌&&◌, ◌==◌, if◌then◌else◌, nat_le, nat_lt}
use Rattle.std.proofs.lemmas.Bool.{cases_lt, eq-eqb, eqb-true}
use Rattle.std.proofs.lemmas.Bool.Decides.{nat_tests}
use Rattle.block_counts.specs.Counts.{blocks_for, chains_for}
use Rattle.layout_model.specs.declared.lines.Inode.{Inode}
use Rattle.layout_model.specs.declared.lines.Kind.{Kind}
use Rattle.layout_model.specs.declared.lines.Kind.TheVariants.{File}
use Rattle.layout_model.specs.block_counts.declared.TheConstants.{LONGEST_FILE}
use Rattle.layout_model.specs.Lines.{has_map_or_none, is_inode, is_inode_of_kind}
use Rattle.k_plans.specs.layout_model.Places.{reserve}
use Rattle.k_plans.specs.image_model.Rules.{file_blocks_of}
use Rattle.k_plans.specs.image_model.Volume.{Volume, chain, extents, inode}
use Rattle.k_relink.specs.extent_model.declared.extent_words.Extent.{Extent}
use Rattle.k_relink.specs.extent_model.Extents.{disk_at, IsCanonical}
use Rattle.k_relink.specs.extent_model.Maps.{IsPart}
use Rattle.k_relink.specs.extent_model.Spelling.{first_here, has_one_spelling}
use Rattle.k_plans.specs.LandingsPlans.{NewChain, blocks_of}
use Rattle.k_plans.specs.WrittenLaws.{blocks_of-one}
use Rattle.k_plans.specs.Free.{free_blocks, is_free_block}
use Rattle.k_plans.specs.View.{TablesView}
use Rattle.k_plans.specs.Whole.{IsWhole}
use Rattle.k_plans.specs.k_split_model.MapChangesChanges.{IsSized, with_size, WritesChain}
use Rattle.k_plans.specs.k_split_model.Taken.{AreLowest, switched, with_map}
use Rattle.k_plans.specs.volume_change_laws.Bounds.{part-bound}
use Rattle.k_plans.specs.volume_change_laws.Hits.{in_map-parts}
use Rattle.k_plans.specs.volume_laws.Changes.{extents-set_same}
use Rattle.k_plans.specs.volume_laws.Uses.{in_chain}
use Rattle.k_map_plans.specs.Going.{HasOwnMap, kept_map, MayGoOver, MayKeep}
use Rattle.k_map_plans.specs.Plans.{IsLiveFile, WantsToCut}
use Rattle.k_map_plans.proofs.Keeps.{own-line}

-- ---- the line of a file

-- a file that may have this line has applied at most so many
file-applied : (x : Inode) → x.kind ≡ File → is_inode x ≡ true → x.applied ≤ 2 ^ 63
file-applied x file fits = parts (subst (λ (k : Kind). is_inode_of_kind k x ≡ true) file fits)
  where
    parts : (nat_le x.size LONGEST_FILE && nat_le x.applied (2 ^ 63) && has_map_or_none x) ≡ true → x.applied ≤ 2 ^ 63
    parts fits = grind (arith, nat_tests)

-- a file's line without a map, with these numbers
pub file-fields : (x : Inode) → x.kind ≡ File → x.size ≤ LONGEST_FILE → x.applied ≤ 2 ^ 63 → is_inode (with_map [] [] x) ≡ true
file-fields x file size applied = subst (λ (k : Kind). is_inode_of_kind k (with_map [] [] x) ≡ true) (sym file) fits
  where
    fits : (nat_le x.size LONGEST_FILE && nat_le x.applied (2 ^ 63) && true) ≡ true
    fits = grind (arith, nat_tests)

-- the extents of a map are short enough for a file
pub file-short : (x : Inode) (es : List Extent) → x.kind ≡ File → IsCanonical es
    → All (λ (e : Extent). e.file + e.count ≤ file_blocks_of x.kind) es
file-short x es file canonical k d below =
    subst (λ (kind : Kind). (get_or es k d).file + (get_or es k d).count ≤ file_blocks_of kind) (sym file) (canonical.each k d below).in_file

-- nothing is set aside
pub none-aside : (aside : List ℕ) → aside ≡ [] → (b : ℕ) → in_chain aside b ≡ 0
none-aside aside none b = ap (λ ks. in_chain ks b) none

-- ---- its map

other-end : (from k : ℕ) → nat_le from k ≡ not (nat_lt k from)
other-end from k = grind (arith, nat_tests)

pub size-may : (t : TablesView) (ino size : ℕ) (es freed : List Extent) → IsWhole t.volume → t.aside ≡ [] → IsLiveFile ino t.volume
    → size ≤ LONGEST_FILE → IsCanonical (extents t.volume ino)
    → IsPart (λ b. nat_lt b (blocks_for size)) (extents t.volume ino) es → IsPart (λ b. nat_le (blocks_for size) b) (extents t.volume ino) freed
    → MayGoOver t ino (with_size size (inode t.volume ino)) es freed
size-may t ino size es freed whole idle file few canonical cut gone = record {
  below = file.below;
  kind = refl;
  holder = inl file.file;
  fields = file-fields (with_size size (inode t.volume ino)) file.file few
      (file-applied (inode t.volume ino) file.file (whole.inodes ino));
  short = file-short (with_size size (inode t.volume ino)) es file.file cut.canonical;
  once = λ b. omega (arith, none-aside t.aside idle b);
  same = λ b.
      omega (
        arith,
        in_map-parts (λ k. nat_lt k (blocks_for size)) (λ k. nat_le (blocks_for size) k) (extents t.volume ino) es freed b canonical cut gone
            (other-end (blocks_for size)),
        none-aside t.aside idle b,
      );
}

-- ---- nothing is cut off, or something is

-- a list whose length was tested
pub empty-list : (xs : List Extent) (n : ℕ) (test : Bool) → n ≡ length xs → test ≡ (n == 0) → test ≡ true → xs ≡ []
empty-list [] n test long is so = refl
empty-list (x ∷ xs) n test long is so = absurd (omega (arith, long, eqb-true n 0 (sym is ∙ so)))

pub some-list : (xs : List Extent) (n : ℕ) (test : Bool) → n ≡ length xs → test ≡ (n == 0) → test ≡ false → xs ≢ []
some-list xs n test long is so none =
    let never : false ≡ true = sym so ∙ is ∙ eq-eqb n 0 (long ∙ ap (λ (ys : List Extent). length ys) none) in
    cc

-- a map of which nothing is cut off is left whole
none-cut : (n : ℕ) (es left freed : List Extent) → IsCanonical es → IsPart (λ b. nat_lt b n) es left → IsPart (λ b. nat_le n b) es freed → freed ≡ []
    → left ≡ es
none-cut n es left freed canonical cut gone empty = has_one_spelling left es cut.canonical canonical same
  where
    same : (b : ℕ) → disk_at left b ≡ disk_at es b
    same b = elim (cases_lt b n) [
      | inl below ↦
          let is : nat_lt b n ≡ true = grind (arith, nat_tests, below) in
          cut.blocks b ∙ ap (λ t. if t then disk_at es b else None) is
      | inr past ↦
          let off : nat_lt b n ≡ false = grind (arith, nat_tests, past) in
          let is : nat_le n b ≡ true = grind (arith, nat_tests, past) in
          cut.blocks b ∙ ap (λ t. if t then disk_at es b else None) off
          ∙ ap (λ xs. disk_at xs b) (sym empty) ∙ gone.blocks b ∙ ap (λ t. if t then disk_at es b else None) is
    ]

-- one of which something is cut off is not
some-cut : (n : ℕ) (es left freed : List Extent) → IsPart (λ b. nat_lt b n) es left → IsPart (λ b. nat_le n b) es freed → freed ≢ [] → left ≢ es
some-cut n es left [] cut gone some same = some refl
some-cut n es left (e ∷ freed) cut gone some same = elim (cases_lt e.file n) [
  | inl below ↦
      let off : nat_le n e.file ≡ false = grind (arith, nat_tests, below) in
      let never : None ≡ Some e.disk = sym (ap (λ t. if t then disk_at es e.file else None) off) ∙ sym (gone.blocks e.file) ∙ here in
      cc
  | inr past ↦
      let off : nat_lt e.file n ≡ false = grind (arith, nat_tests, past) in
      let is : nat_le n e.file ≡ true = grind (arith, nat_tests, past) in
      let never : None ≡ Some e.disk =
      sym (ap (λ t. if t then disk_at es e.file else None) off) ∙ sym (cut.blocks e.file) ∙ ap (λ xs. disk_at xs e.file) same
      ∙ sym (ap (λ t. if t then disk_at es e.file else None) is) ∙ sym (gone.blocks e.file) ∙ here
      in
      cc
] where
  here : disk_at (e ∷ freed) e.file ≡ Some e.disk
  here = first_here e freed gone.canonical

-- what it wants where something is cut off, and where so many blocks are not free
pub cut-few : (t : TablesView) (ino size : ℕ) (es freed : List Extent) → IsWhole t.volume → IsLiveFile ino t.volume
    → IsCanonical (extents t.volume ino) → IsPart (λ b. nat_lt b (blocks_for size)) (extents t.volume ino) es
    → IsPart (λ b. nat_le (blocks_for size) b) (extents t.volume ino) freed → freed ≢ [] → free_blocks t < chains_for (length es)
    → ((n : ℕ) × WantsToCut ino size t.volume n × (free_blocks t < n)) × (free_blocks t + 3 < reserve t.volume.geometry)
cut-few t ino size es freed whole file canonical cut gone some few = (
  (chains_for (length es), (es, cut, some-cut (blocks_for size) (extents t.volume ino) es freed cut gone some, refl), few),
  omega (
    arith,
    few,
    part-bound t.volume ino (λ k. nat_lt k (blocks_for size)) es whole.kept.kept whole.kept.all file.below canonical cut,
  ),
)

-- ---- the line alone

-- a file may have its line with another size
sized-fields : (x : Inode) (size : ℕ) → x.kind ≡ File → size ≤ LONGEST_FILE → is_inode x ≡ true → is_inode (with_size size x) ≡ true
sized-fields x size file few fits =
    subst (λ (k : Kind). is_inode_of_kind k (with_size size x) ≡ true) (sym file)
    (parts (has_map_or_none x) (subst (λ (k : Kind). is_inode_of_kind k x ≡ true) file fits))
  where
    parts : (own : Bool) → (nat_le x.size LONGEST_FILE && nat_le x.applied (2 ^ 63) && own) ≡ true → (nat_le size LONGEST_FILE && nat_le x.applied (2 ^ 63) && own) ≡ true
    parts own fits = grind (arith, nat_tests, fits, few)

pub size-keep : (t : TablesView) (ino size : ℕ) → HasOwnMap t.volume ino → IsLiveFile ino t.volume → t.aside ≡ [] → size ≤ LONGEST_FILE
    → MayKeep t ino (with_size size (inode t.volume ino))
size-keep t ino size own file idle few = record {
  below = file.below;
  kind = refl;
  own = own;
  fields = λ whole. ap is_inode (own-line t.volume ino (with_size size (inode t.volume ino)) own refl refl)
      ∙ sized-fields (inode t.volume ino) size file.file few (whole.inodes ino);
  idle = idle;
}

module _ (t : TablesView) (w : Volume) (ino size : ℕ) (left freed : List Extent) (whole : IsWhole t.volume) (file : IsLiveFile ino t.volume)
    (cut : IsPart (λ b. nat_lt b (blocks_for size)) (extents t.volume ino) left) (gone : IsPart (λ b. nat_le (blocks_for size) b) (extents t.volume ino) freed) where
  abbrev line : Inode
  line = with_size size (inode t.volume ino)

  mapped : ino < length t.volume.maps
  mapped = omega (arith, file.below, whole.maps.map_count)

  module _ (own : HasOwnMap t.volume ino) (canonical : IsCanonical (extents t.volume ino)) (empty : freed ≡ []) (is : w ≡ kept_map ino line t.volume) where
    pub kept-sized : IsSized (is_free_block t) ino size t.volume w
    kept-sized = record {
      es = extents t.volume ino;
      blocks = chain t.volume ino;
      cut = subst (IsPart (λ b. nat_lt b (blocks_for size)) (extents t.volume ino)) (none-cut (blocks_for size) (extents t.volume ino) left freed canonical cut gone empty) cut;
      count = own.blocks;
      taken = inl (refl, refl);
      is_sized = is;
    }

    pub kept-written : WritesChain ino t.volume w []
    kept-written = inl (
      ap (λ v. extents v ino) is
          ∙ extents-set_same ino (with_map (chain t.volume ino) (extents t.volume ino) line) (chain t.volume ino) (extents t.volume ino) t.volume mapped,
      refl,
    )

  module _ (some : freed ≢ []) (c : NewChain) (lowest : AreLowest (is_free_block t) (chains_for (length left)) c.blocks)
      (is : w ≡ switched ino line c.blocks left t.volume) (chain_is : c.blocks ≡ chain w ino) where
    other : left ≢ extents t.volume ino
    other = some-cut (blocks_for size) (extents t.volume ino) left freed cut gone some

    pub cut-sized : IsSized (is_free_block t) ino size t.volume w
    cut-sized = record {
      es = left;
      blocks = c.blocks;
      cut = cut;
      count = lowest.count;
      taken = inr (other, lowest);
      is_sized = is;
    }

    pub cut-written : WritesChain ino t.volume w (blocks_of (c ∷ []))
    cut-written = inr (
      λ same. other (sym (ap (λ v. extents v ino) is ∙ extents-set_same ino (with_map c.blocks left line) c.blocks left t.volume mapped) ∙ same),
      blocks_of-one c ∙ chain_is,
    )
