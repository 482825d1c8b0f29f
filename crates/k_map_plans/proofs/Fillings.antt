-- Holes of a file that get blocks: what its new map asks for.
use Rattle.std.proofs.Common.{◌≡◌, ◌<◌, ◌≤◌, ◌+◌, ◌^◌, ℕ, true, List, [], ◌++◌, length, refl, sym, ◌∙◌, inl, inr, arith, subst}
use Rattle.std.specs.Prelude.{◌&&◌, nat_le}
use Rattle.std.proofs.lemmas.Bool.{cases_lt}
use Rattle.std.proofs.lemmas.Bool.Decides.{nat_tests}
use Rattle.block_counts.specs.Counts.{chains_for}
use Rattle.layout_model.specs.declared.lines.Inode.{Inode}
use Rattle.layout_model.specs.declared.lines.Kind.{Kind}
use Rattle.layout_model.specs.declared.lines.Kind.TheVariants.{File}
use Rattle.layout_model.specs.block_counts.declared.TheConstants.{LONGEST_FILE}
use Rattle.layout_model.specs.Lines.{has_map_or_none, is_inode, is_inode_of_kind}
use Rattle.k_plans.specs.layout_model.Places.{is_data_block, reserve}
use Rattle.k_plans.specs.image_model.Volume.{chain, extents, inode}
use Rattle.k_relink.specs.extent_model.declared.extent_words.Extent.{Extent}
use Rattle.k_plans.specs.k_journal.declared.batches.Record.{Record}
use Rattle.k_plans.specs.LandingsPlans.{NewChain}
use Rattle.k_plans.specs.Free.{AreAsideOnce, free_blocks, is_free_block}
use Rattle.k_plans.specs.Switching.{IsSetAside}
use Rattle.k_plans.specs.View.{TablesView}
use Rattle.k_plans.specs.Whole.{IsWhole}
use Rattle.k_plans.specs.k_split_model.MapChangesChanges.{Fills, IsFilled}
use Rattle.k_plans.specs.k_split_model.Taken.{AreLowest, switched, with_map}
use Rattle.k_plans.specs.volume_change_laws.Bounds.{map-bound, own-data, own-once}
use Rattle.k_plans.specs.volume_change_laws.Hits.{in_chain-append}
use Rattle.k_plans.specs.volume_change_laws.Switches.{unused-data, unused-owners}
use Rattle.k_plans.specs.volume_change_laws.TakenLaws.{AreLowest-append, rising-once}
use Rattle.k_plans.specs.volume_laws.OwnerLaws.{uses-le-owners}
use Rattle.k_plans.specs.volume_laws.UseLaws.{length-uses_by}
use Rattle.k_plans.specs.volume_laws.Uses.{in_chain, in_map}
use Rattle.k_map_plans.specs.Going.{HasGoneOver, MayGoOver}
use Rattle.k_map_plans.specs.Plans.{IsLiveFile, WantsToFill}
use Rattle.k_map_plans.specs.Plans.WantsToFill.{Chain}
use Rattle.k_map_plans.proofs.Goings.{aside-once, aside-unused, aside-volume, left-free}
use Rattle.k_map_plans.proofs.Sizes.{file-short, none-aside}

-- the line of a file, without its map
file-bare : (x : Inode) → x.kind ≡ File → is_inode x ≡ true → is_inode (with_map [] [] x) ≡ true
file-bare x file fits =
    subst (λ (k : Kind). is_inode_of_kind k (with_map [] [] x) ≡ true) (sym file)
    (parts (subst (λ (k : Kind). is_inode_of_kind k x ≡ true) file fits))
  where
    parts : (nat_le x.size LONGEST_FILE && nat_le x.applied (2 ^ 63) && has_map_or_none x) ≡ true
        → (nat_le x.size LONGEST_FILE && nat_le x.applied (2 ^ 63) && true) ≡ true
    parts fits = grind (arith, nat_tests)

module _ (t u : TablesView) (n ino first count : ℕ) (fresh : List ℕ) (es : List Extent) (aside : IsSetAside n fresh t u)
    (whole : IsWhole t.volume) (file : IsLiveFile ino t.volume) (fills : Fills first count fresh (extents t.volume ino) es)
    (blocks : (b : ℕ) → in_map es b ≡ in_map (extents t.volume ino) b + in_chain fresh b) where
  -- a block that is set aside is none of the map
  aside-apart : (b : ℕ) → 1 ≤ in_chain fresh b → in_map (extents t.volume ino) b ≡ 0
  aside-apart b has =
      omega (
        arith,
        unused-owners t.volume b (aside-unused t u n fresh aside b has),
        uses-le-owners t.volume b ino file.below,
        length-uses_by ino (chain t.volume ino) (extents t.volume ino) b,
      )

  filled-once : (b : ℕ) → in_map es b ≤ 1
  filled-once b = elim (cases_lt 0 (in_chain fresh b)) [
    | inl has ↦ omega (arith, blocks b, aside-apart b (omega arith), rising-once fresh b aside.lowest.rising)
    | inr none ↦ omega (arith, blocks b, own-once t.volume ino b whole.kept.kept whole.kept.all file.below)
  ]

  filled-data : (b : ℕ) → 1 ≤ in_map es b → is_data_block t.volume.geometry b ≡ true
  filled-data b has = elim (cases_lt 0 (in_chain fresh b)) [
    | inl new ↦ unused-data t.volume b (aside-unused t u n fresh aside b (omega arith))
    | inr old ↦ own-data t.volume ino b whole.kept.kept whole.kept.all file.below (omega (arith, blocks b))
  ]

  chain-room : chains_for (length es) + 3 ≤ reserve t.volume.geometry
  chain-room = map-bound t.volume es fills.canonical filled-once filled-data

  -- what it wants, where so many blocks are not free
  pub fill-few : free_blocks u + n ≡ free_blocks t → free_blocks u < chains_for (length es)
      → ((m : ℕ) × WantsToFill ino first count t m × (free_blocks t < m)) × (free_blocks t + 2 < n + reserve t.volume.geometry)
  fill-few left none = (
    (
      length fresh + chains_for (length es),
      Chain fresh es (subst (λ m. AreLowest (is_free_block t) m fresh) (sym aside.lowest.count) aside.lowest) fills refl,
      omega (arith, left, none, aside.lowest.count),
    ),
    omega (arith, left, none, chain-room),
  )

  pub fill-may : t.aside ≡ [] → MayGoOver u ino (inode u.volume ino) es []
  fill-may idle =
      subst (λ (y : TablesView). MayGoOver y ino (inode y.volume ino) es []) (sym aside.after) (record {
        below = file.below;
        kind = refl;
        holder = inl file.file;
        fields = file-bare (inode t.volume ino) file.file (whole.inodes ino);
        short = file-short (inode t.volume ino) es file.file fills.canonical;
        once = subst AreAsideOnce aside.after (aside-once t u n fresh aside (λ b. omega (arith, none-aside t.aside idle b)));
        same = λ b.
            let none : in_map [] b ≡ 0 = refl in
            omega (arith, none, blocks b, in_chain-append t.aside fresh b, none-aside t.aside idle b);
      })

pub filled-is : (t u : TablesView) (n ino first count : ℕ) (fresh : List ℕ) (es : List Extent) → IsSetAside n fresh t u
    → (w : TablesView) (b : List Record) (c : NewChain) → Fills first count fresh (extents t.volume ino) es
    → HasGoneOver ino (inode u.volume ino) es u w b c → 0 < n → IsFilled (is_free_block t) ino first count t.volume w.volume fresh
filled-is t u n ino first count fresh es aside w b c fills gone some = record {
  es = es;
  blocks = c.blocks;
  some = omega (arith, some, aside.lowest.count);
  fills = fills;
  taken = subst (λ m. AreLowest (is_free_block t) (m + chains_for (length es)) (fresh ++ c.blocks)) (sym aside.lowest.count)
      (AreLowest-append (is_free_block t) (is_free_block u) n (chains_for (length es)) fresh c.blocks aside.lowest gone.lowest
      (left-free t u n fresh aside));
  is_filled = gone.after
      ∙ (λ i. switched ino (inode (aside-volume t u n fresh aside i) ino) c.blocks es (aside-volume t u n fresh aside i));
}
