-- The blocks of a staging file: what its new map asks for.
use Rattle.std.proofs.Common.{◌≡◌, ◌≤◌, ◌<◌, ◌+◌, ℕ, true, List, [], ◌∷◌, length, Result, Ok, Err, refl, sym, ◌∙◌, ap, inr, arith, subst}
use Rattle.std.specs.Prelude.{All, IfOk, OnOk, ◌&&◌, ◌==◌}
use Rattle.k_map_plans.specs.declared.map_plans.faults.MapFault.{MapFault}
use Rattle.std.proofs.lemmas.Bool.Decides.{nat_tests}
use Rattle.std.proofs.lemmas.List.Elements.{All-nil}
use Rattle.layout_model.specs.declared.lines.Inode.{Inode}
use Rattle.layout_model.specs.declared.lines.Kind.{Kind}
use Rattle.layout_model.specs.declared.lines.Kind.TheVariants.{Staging}
use Rattle.layout_model.specs.Lines.{has_map_or_none, is_inode, is_inode_of_kind}
use Rattle.k_plans.specs.image_model.Rules.{file_blocks_of}
use Rattle.k_plans.specs.image_model.Volume.{extents, inode}
use Rattle.k_relink.specs.extent_model.declared.extent_words.Extent.{Extent}
use Rattle.k_plans.specs.k_journal.declared.batches.Record.{Record}
use Rattle.k_plans.specs.LandingsPlans.{NewChain}
use Rattle.k_plans.specs.View.{TablesView}
use Rattle.k_plans.specs.Whole.{IsWhole}
use Rattle.block_counts.specs.Counts.{chains_for}
use Rattle.k_plans.specs.layout_model.Places.{reserve}
use Rattle.k_plans.specs.Free.{AreAsideOnce, AreKeptBack, SetsFreedAside, free_blocks, is_free_block}
use Rattle.k_plans.specs.Switching.{IsSetAside}
use Rattle.k_plans.specs.k_split_model.MapChangesChanges.{aged, HasInOrder, IsPreallocated}
use Rattle.k_plans.specs.k_split_model.Taken.{switched, with_map}
use Rattle.k_plans.specs.volume_change_laws.Bounds.{map-bound}
use Rattle.k_plans.specs.volume_change_laws.Hits.{in_chain-append, in_map-in_order}
use Rattle.k_plans.specs.volume_change_laws.Shorts.{in_order-below}
use Rattle.k_plans.specs.volume_change_laws.Switches.{unused-data}
use Rattle.k_plans.specs.volume_change_laws.TakenLaws.{AreLowest-append, rising-once}
use Rattle.k_plans.specs.volume_laws.Uses.{in_chain, in_map}
use Rattle.k_map_plans.specs.Going.{HasGoneOver, MayGoOver}
use Rattle.k_map_plans.specs.Plans.{IsStagingFile, WantsToPreallocate}
use Rattle.k_map_plans.specs.Plans.WantsToPreallocate.{Chain}
use Rattle.k_map_plans.proofs.Goings.{aside-once, aside-unused, aside-volume, fresh-aside, left-free}
use Rattle.k_map_plans.proofs.Sizes.{none-aside}

-- ---- the line of a staging file

record IsBareStaging (x : Inode) : Type 0 where
  size : x.size ≡ 0
  applied : x.applied ≡ 0

bare : (x : Inode) → x.kind ≡ Staging → is_inode x ≡ true → IsBareStaging x
bare x staging fits = parts (subst (λ (k : Kind). is_inode_of_kind k x ≡ true) staging fits)
  where
    parts : ((x.size == 0) && (x.applied == 0) && has_map_or_none x) ≡ true → IsBareStaging x
    parts fits = record { size = grind (arith, nat_tests); applied = grind (arith, nat_tests) }

pub staging-fields : (x y : Inode) → x.kind ≡ Staging → is_inode x ≡ true → y.kind ≡ Staging → y.size ≡ x.size → y.applied ≡ x.applied
    → is_inode (with_map [] [] y) ≡ true
staging-fields x y staging fits kind size applied = subst (λ (k : Kind). is_inode_of_kind k (with_map [] [] y) ≡ true) (sym kind) fit
  where
    is : IsBareStaging x
    is = bare x staging fits

    fit : ((y.size == 0) && (y.applied == 0) && true) ≡ true
    fit = let none : y.size ≡ 0 = size ∙ is.size in let no : y.applied ≡ 0 = applied ∙ is.applied in grind (arith, nat_tests)

-- ---- it gives its blocks up

pub give_up-may : (t : TablesView) (staging : ℕ) → IsWhole t.volume → t.aside ≡ [] → IsStagingFile staging t.volume
    → MayGoOver t staging (inode t.volume staging) [] (extents t.volume staging)
give_up-may t staging whole idle is = record {
  below = is.below;
  kind = refl;
  holder = inr is.kind;
  fields = staging-fields (inode t.volume staging) (inode t.volume staging) is.kind (whole.inodes staging) is.kind refl refl;
  short = All-nil (λ (e : Extent). e.file + e.count ≤ file_blocks_of (inode t.volume staging).kind);
  once = λ b. omega (arith, none-aside t.aside idle b);
  same = λ b. let none : in_map [] b ≡ 0 = refl in omega (arith, none, none-aside t.aside idle b);
}

no_blocks : (xs : List ℕ) → length xs ≡ 0 → xs ≡ []
no_blocks [] none = refl
no_blocks (x ∷ xs) none = absurd (omega arith)

pub given-is : (staging : ℕ) (x : Inode) (t u : TablesView) (b : List Record) (c : NewChain)
    → HasGoneOver staging x [] t u b c → u.volume ≡ switched staging x [] [] t.volume
given-is staging x t u b c gone = gone.after ∙ ap (λ bs. switched staging x bs [] t.volume) (no_blocks c.blocks gone.lowest.count)

-- ---- it gets blocks

module _ (t u : TablesView) (count staging : ℕ) (fresh : List ℕ) (es : List Extent) (aside : IsSetAside count fresh t u)
    (whole : IsWhole t.volume) (idle : t.aside ≡ []) (is : IsStagingFile staging t.volume) (few : count ≤ 64) (order : HasInOrder fresh es) where
  fresh-map : (b : ℕ) → in_map es b ≡ in_chain fresh b
  fresh-map b = in_map-in_order fresh es b order (omega (arith, aside.lowest.count))

  chain-room : chains_for (length es) + 3 ≤ reserve t.volume.geometry
  chain-room =
      map-bound t.volume es order.canonical (λ b. omega (arith, fresh-map b, rising-once fresh b aside.lowest.rising)) (λ b has.
      unused-data t.volume b (aside-unused t u count fresh aside b (omega (arith, has, fresh-map b))))

  -- what it wants, where so many blocks are not free
  pub preallocate-few : free_blocks u + count ≡ free_blocks t → free_blocks u < chains_for (length es)
      → ((n : ℕ) × WantsToPreallocate count t n × (free_blocks t < n)) × (free_blocks t + 1 < count + reserve t.volume.geometry)
  preallocate-few left none = (
    (count + chains_for (length es), Chain fresh es aside.lowest order refl, omega (arith, left, none)),
    omega (arith, left, none, chain-room),
  )

  pub preallocate-may : extents t.volume staging ≡ [] → MayGoOver u staging (aged (inode u.volume staging)) es []
  preallocate-may bare =
      subst (λ (y : TablesView). MayGoOver y staging (aged (inode y.volume staging)) es []) (sym aside.after) (record {
        below = is.below;
        kind = refl;
        holder = inr is.kind;
        fields = staging-fields (inode t.volume staging) (aged (inode t.volume staging)) is.kind (whole.inodes staging) is.kind refl refl;
        short = subst (λ (k : Kind). All (λ (e : Extent). e.file + e.count ≤ file_blocks_of k) es) (sym is.kind) (λ k d within.
            omega (arith, in_order-below fresh es order k d within, aside.lowest.count, few));
        once = subst AreAsideOnce aside.after (aside-once t u count fresh aside (λ b. omega (arith, none-aside t.aside idle b)));
        same = λ b.
            let none : in_map [] b ≡ 0 = refl in
            omega (
              arith,
              none,
              fresh-map b,
              in_chain-append t.aside fresh b,
              none-aside t.aside idle b,
              ap (λ fs. in_map fs b) bare,
            );
      })

  pub aside-ok : (x : Inode) (w : TablesView) (b : List Record) (r : Result NewChain MapFault) → AreKeptBack t
      → IfOk r (HasGoneOver staging x es u w b) → OnOk r (SetsFreedAside t w)
  aside-ok x w b (Ok c) back gone =
      fresh-aside t u w count staging fresh x es b c aside gone idle back whole is.below (λ k. omega (arith, fresh-map k))
  aside-ok x w b (Err e) back gone = tt

  pub filled-ok : (w : TablesView) (b : List Record) (r : Result NewChain MapFault)
      → IfOk r (HasGoneOver staging (aged (inode u.volume staging)) es u w b)
      → OnOk r (IsPreallocated (is_free_block t) staging count t.volume w.volume)
  filled-ok w b (Ok c) gone = record {
    fresh = fresh;
    es = es;
    blocks = c.blocks;
    size = aside.lowest.count;
    map = order;
    taken = AreLowest-append (is_free_block t) (is_free_block u) count (chains_for (length es)) fresh c.blocks aside.lowest gone.lowest
        (left-free t u count fresh aside);
    is_preallocated = gone.after
        ∙ (λ i. switched staging (aged (inode (aside-volume t u count fresh aside i) staging)) c.blocks es (aside-volume t u count fresh aside i));
  }
  filled-ok w b (Err e) gone = tt
