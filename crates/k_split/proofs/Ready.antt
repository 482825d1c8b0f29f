-- What K-Split keeps between changes, and what contracts see of it.
use Rattle.std.proofs.Common.{◌≡◌, ◌<◌, ◌≤◌, ◌*◌, ℕ, suc, Bool, true, false, List, [], ◌∷◌, length, refl, sym, ◌∙◌, ap, subst, arith, inl, inr}
use Rattle.std.specs.Prelude.{◌==◌, ◌||◌, if◌then◌else◌}
use Rattle.std.proofs.lemmas.Bool.{both_ways, cases_Bool, eqb-true}
use Rattle.std.proofs.lemmas.List.{length-map}
use Rattle.block_io.specs.pm_model.declared.Cell.{Cell}
use Rattle.block_io.specs.pm_model.ImageLaws.{IsImage-words_of}
use Rattle.block_io.specs.pm_model.Images.{words_of}
use Rattle.block_io.specs.pm_model.Words.{Words}
use Rattle.block_io.specs.image_model.Reading.{Reads}
use Rattle.block_io.specs.layout_model.Journal.{journaled}
use Rattle.block_io.specs.layout_model.Places.{Geometry, is_journaled_line}
use Rattle.block_io.specs.image_model.Volume.{chain, extents, inode, Volume}
use Rattle.k_map_plans.specs.layout_model.block_counts.Counts.{chains_for}
use Rattle.k_map_plans.specs.volume_laws.ChainLaws.{chain-count}
use Rattle.k_map_plans.specs.k_plans.Whole.{HasFullMaps}
use Rattle.k_tables.specs.volume_laws.ReadingLaws.{reads-volume}
use Rattle.k_group_commit.specs.Gathered.{IsOpen}
use Rattle.k_group_commit.specs.GatheredLaws.{none-gathered}
use Rattle.k_group_commit.specs.OpenLaws.{covered-unchained, free-from, free-unused}
use Rattle.k_map_plans.specs.block_pool.FreeSets.{is_among}
use Rattle.k_map_plans.specs.k_journal.Batch.{AllLines, lines_of, with_batch}
use Rattle.k_map_plans.specs.k_journal.declared.batches.Record.{Record}
use Rattle.k_map_plans.specs.k_plans.View.{TablesView}
use Rattle.k_map_plans.specs.volume_laws.Uses.{is_unused}
use Rattle.k_tables.specs.k_split_model.Stands.{Stands}
use Rattle.k_split.specs.Order.{IsInOrder, IsPlain, IsReady, standing, view_of}

-- ---- nothing gathered

pub ready-idle : (t : TablesView) (group b : List Record) (d : List Cell) (batched : Bool) → IsReady t group b d batched → group ≡ [] → IsPlain t d
ready-idle t group b d batched ready empty =
    let none = ready.empty empty in
    record {
      stands = subst (λ (u : Volume). Stands t.volume.geometry u d) none.0 ready.opened.are.stands;
      whole = ready.opened.whole;
      none_waits = none.1;
      none_aside = ready.opened.idle;
      unstaged = ready.unstaged;
    }

pub ready-plain : (t : TablesView) (group b : List Record) (d : List Cell) (batched : Bool) → IsReady t group b d batched → batched ≡ false → IsPlain t d
ready-plain t group b d batched ready off = ready-idle t group b d batched ready (ready.unbatched off)

pub plain-ready : (t : TablesView) (group b : List Record) (d : List Cell) (batched : Bool) → IsPlain t d → group ≡ [] → b ≡ [] → IsReady t group b d batched
plain-ready t group b d batched plain none no_lines = record {
  committed = t.volume;
  opened = subst (λ (a : List Record). IsOpen t.volume t a d) (sym none) (record {
    news = [];
    are = none-gathered t.volume.geometry t.volume d plain.stands;
    committed = plain.whole;
    whole = plain.whole;
    idle = plain.none_aside;
    waits = λ x among.
        let never : false ≡ true = sym (ap (λ (bs : List ℕ). is_among bs x) plain.none_waits) ∙ among in
        absurd (both_ways false refl never);
    ahead = record {
      unused = λ x free. free-unused t x free;
      unchained = λ x has. covered-unchained t.volume x plain.whole has;
      held = λ k below. absurd (omega (arith, below));
      bare = λ k below has. omega (arith, below);
    };
  });
  unstaged = plain.unstaged;
  few = omega (arith, ap (λ (a : List Record). length a) none);
  empty = λ same. (refl, plain.none_waits);
  unbatched = λ off. none;
  no_lines = no_lines;
}

-- ---- all is in order

-- of a volume that words read as
full-maps : (g : Geometry) (f : Words) (v : Volume) → Reads g f v → HasFullMaps v
full-maps g f v reads = record {
  full = λ ino below.
      let map = reads.chains ino (omega (arith, below, reads.inode_count)) in
      chain-count f (512 * g.blocks) (inode v ino).root (inode v ino).extents (chain v ino) (extents v ino) map ∙ ap chains_for (sym map.map.counted);
  canonical = λ ino below. (reads.chains ino (omega (arith, below, reads.inode_count))).map.canonical;
}

or-second : (x y : Bool) → (x || y) ≡ true → x ≡ false → y ≡ true
or-second true y both none = let never : true ≡ false = none in absurd (both_ways true never refl)
or-second false y both none = both

pub lines-journaled : (g : Geometry) (group : List Record) (line : ℕ) → AllLines (is_journaled_line g) group → is_among (lines_of group) line ≡ true
    → is_journaled_line g line ≡ true
lines-journaled g [] line all among = let never : false ≡ true = among in absurd (both_ways false refl never)
lines-journaled g (e ∷ es) line all among = elim (cases_Bool (e.line == line)) [
  | inl same ↦ subst (λ n. is_journaled_line g n ≡ true) (eqb-true e.line line same) (all 0 (omega arith))
  | inr other ↦ lines-journaled g es line (λ k below. all (suc k) (omega (arith, below))) (or-second (e.line == line) (is_among (lines_of es) line) among other)
]

-- no line is set where the list of lines is empty
pub no-lines : (group : List Record) → lines_of group ≡ [] → group ≡ []
no-lines [] none = refl
no-lines (e ∷ es) none = absurd (omega (arith, ap (λ (ls : List ℕ). length ls) none))

module _ (t : TablesView) (group b : List Record) (d : List Cell) (batched : Bool) (ready : IsReady t group b d batched) where
  pub device-same : ready.committed.geometry ≡ t.volume.geometry
  device-same = (ready.opened.are.stands.reads (words_of d) (IsImage-words_of d)).geometry

  -- the volume of the device is the one that its words read as
  pub committed-is : (if batched then standing t.volume.geometry d else t.volume) ≡ ready.committed
  committed-is = elim (cases_Bool batched) [
    | inl on ↦
        subst (λ x. (if x then standing t.volume.geometry d else t.volume) ≡ ready.committed) (sym on)
        (reads-volume t.volume.geometry (journaled (words_of d)) ready.committed (ready.opened.are.stands.reads (words_of d) (IsImage-words_of d)))
    | inr off ↦
        subst (λ x. (if x then standing t.volume.geometry d else t.volume) ≡ ready.committed) (sym off) (sym (ready.empty (ready.unbatched off)).0)
  ]

  -- the words with the lines of the group read as the present volume, so its maps stand in their chains
  now-full : HasFullMaps t.volume
  now-full = full-maps t.volume.geometry (with_batch group (journaled (words_of d))) t.volume
      (ready.opened.are.turns.reads (journaled (words_of d)) (ready.opened.are.stand (words_of d) (IsImage-words_of d))
      (ready.opened.are.stands.reads (words_of d) (IsImage-words_of d)))

  pub in-order : (lost : Bool) → IsInOrder (view_of t group d batched lost)
  in-order lost =
      subst (λ (u : Volume). IsInOrder (record { volume = t.volume; committed = u; waiting = t.waiting; lines = lines_of group; cells = d; batched = batched; lost = lost }))
      (sym committed-is) (record {
        stands = subst (λ g. Stands g ready.committed d) (sym device-same) ready.opened.are.stands;
        whole = ready.opened.whole;
        full = now-full;
        committed = ready.opened.committed;
        geometry = sym device-same;
        waits = ready.opened.waits;
        unused = λ x unused quiet. ready.opened.ahead.unused x
            (free-from (is_unused t.volume x) (is_among t.aside x) (is_among t.waiting x) unused (ap (λ (bs : List ℕ). is_among bs x) ready.opened.idle) quiet);
        unchained = ready.opened.ahead.unchained;
        journaled = λ line among. lines-journaled t.volume.geometry group line ready.opened.are.turns.lines among;
        few = omega (arith, ready.few, length-map group (λ (e : Record). e.line));
        empty = λ none. ready.empty (no-lines group none);
        settled = λ off. (ready.empty (ready.unbatched off)).0;
        none_waits = λ off. (ready.empty (ready.unbatched off)).1;
        none_set = λ off. ap lines_of (ready.unbatched off);
        unstaged = ready.unstaged;
      })

-- words that read as the present volume: those of the device, with the lines of the group set
pub reads-ready : (t : TablesView) (group b : List Record) (d : List Cell) (batched : Bool) → IsReady t group b d batched
    → (f : Words) × Reads t.volume.geometry f t.volume
reads-ready t group b d batched ready = (
  with_batch group (journaled (words_of d)),
  ready.opened.are.turns.reads (journaled (words_of d)) (ready.opened.are.stand (words_of d) (IsImage-words_of d))
      (ready.opened.are.stands.reads (words_of d) (IsImage-words_of d)),
)

-- changes gather from now on
pub ready-gathers : (t : TablesView) (group b : List Record) (d : List Cell) (batched : Bool) → IsReady t group b d batched → IsReady t group b d true
ready-gathers t group b d batched ready = record {
  committed = ready.committed;
  opened = ready.opened;
  unstaged = ready.unstaged;
  few = ready.few;
  empty = ready.empty;
  unbatched = λ off. let never : true ≡ false = off in absurd (both_ways true never refl);
  no_lines = ready.no_lines;
}

pub view-gathers : (t : TablesView) (group b : List Record) (d : List Cell) (batched lost : Bool) → IsReady t group b d batched
    → view_of t group d true lost ≡ record (view_of t group d batched lost) { batched = true }
unfolding ready-gathers
view-gathers t group b d batched lost ready i = record {
  volume = t.volume;
  committed = (committed-is t group b d true (ready-gathers t group b d batched ready) ∙ sym (committed-is t group b d batched ready)) i;
  waiting = t.waiting;
  lines = lines_of group;
  cells = d;
  batched = true;
  lost = lost;
}
