-- What two Worlds and its blocks make of a batch.
use Rattle.std.specs.Prelude.{◌≡◌, ◌⊎◌, ◌<◌, ◌+◌, ◌++◌, ℕ, true, List, [], ◌∷◌, length, Option, None, Some, slice_index}
use Rattle.std.proofs.Common.{ap, ◌∙◌, sym, subst, inl, inr}
use Rattle.eof_laws.specs.live_model.layout_model.declared.lines.Kind.TheVariants.{File}
use Rattle.eof_laws.specs.live_model.pm_model.Words.{line_bytes, Words}
use Rattle.eof_laws.specs.live_model.image_model.Placed.{block_at}
use Rattle.eof_laws.specs.live_model.image_model.Volume.{chain, extents, inode, Volume}
use Rattle.eof_laws.specs.live_model.file_table.Files.{Files}
use Rattle.eof_laws.specs.live_model.layout_model.declared.lines.Draft.{Draft}
use Rattle.eof_laws.specs.live_model.list_laws.Members.{In}
use Rattle.eof_laws.specs.live_model.posix_spec.Run.{run}
use Rattle.eof_laws.specs.live_model.posix_spec.State.{State}
use Rattle.eof_laws.specs.live_model.posix_laws.Cuts.{cut_of}
use Rattle.eof_laws.specs.live_model.posix_tables.declared.nodes.Node.{Node}
use Rattle.eof_laws.specs.live_model.posix_tables.Nodes.{bytes_of, node_at}
use Rattle.eof_laws.specs.live_model.image_model.Content.{disk_of, size_of}
use Rattle.eof_laws.specs.live_model.layout_model.Places.{log_line}
use Rattle.eof_laws.specs.live_model.layout_model.Entries.{encode_entry, held_seq, is_self_valid}
use Rattle.eof_laws.specs.live_model.pm_model.declared.Cell.{Cell}
use Rattle.eof_laws.specs.live_model.world_model.Lines.{AreJobLines, HoldsWords, IsClaimedLine, IsPutOver, Spells}
use Rattle.eof_laws.specs.live_model.world_model.Jobs.{Job, live_claims}
use Rattle.eof_laws.specs.live_model.world_model.Stands.{is_used, IsUsed, NodeStands, number, Stands}
use Rattle.eof_laws.specs.live_model.world_step_laws.Worlds.{IsWorld}
use Rattle.posix_mode_laws.specs.CutStands.{cut_is_one}
use Rattle.posix_mode_laws.specs.Sides.{IsFresh, IsSettled, sized}
use Rattle.posix_mode_laws.specs.Sized.{kind-sized}
use Rattle.batch_laws.specs.Standing.{as_claims, staged_of}
use Rattle.batch_laws.specs.Steps.{BlocksStay, IsOfStaging, LinesOfOne, WorldsMakeBatch}
use Rattle.batch_laws.specs.WorldsLaws.{live_all, size_of_staged}

-- ---- two Worlds

-- a file that stands has so many bytes
file_size : (v : Volume) (live : List Draft) (f : Words) (ino : ℕ) (node : Node) → NodeStands v live f ino File node → size_of v live ino ≡ length (bytes_of node)
file_size v live f ino Node.Gone is = absurd is
file_size v live f ino Node.Directory is = absurd is
file_size v live f ino (Node.File file) is = is.size

-- of the sides that K-Split and the files make, as they are
module _ (committed : Volume) (committed_numbers numbers : List ℕ) (v : Volume) (files : Files) (f : Words) (s : State) (count : ℕ) (same : length files.sizes ≡ length v.inodes)
    (world : IsWorld (sized files.sizes v) (as_claims (staged_of v files)) [] f numbers s count) (alive : live_claims (sized files.sizes v) (as_claims (staged_of v files)) ≡ staged_of v files) where
  stands : Stands (sized files.sizes v) (staged_of v files) f numbers s
  stands = subst (λ ds. Stands (sized files.sizes v) ds f numbers s) alive world.valid.stands

  each : (ino : ℕ) → (inode v ino).kind ≡ File → slice_index files.sizes ino ≡ length (bytes_of (node_at s.nodes (number numbers ino)))
  each ino file =
      let kind : (inode (sized files.sizes v) ino).kind ≡ File = kind-sized files.sizes v ino ∙ file in
      size_of_staged v files ino same file
      ∙ file_size (sized files.sizes v) (staged_of v files) f ino (node_at s.nodes (number numbers ino))
      (subst (λ k. NodeStands (sized files.sizes v) (staged_of v files) f ino k (node_at s.nodes (number numbers ino))) kind (stands.nodes.each ino (ap is_used kind)))

pub worlds_make_batch : WorldsMakeBatch
worlds_make_batch x v files f start front later count are world cut blocks cuts =
    let live = live_all v files.sizes (staged_of v files) are.alive in
    let s : State = run start (front ++ later) in
    record {
      cut = (cut_is_one x f s).1 (subst (λ u. Stands u [] f x.numbers (cut_of s)) (sym are.batch) cut.valid.stands);
      live =
          subst (λ ns. Stands (sized ns x.batch) x.staged f x.numbers s) (sym are.lengths)
          (subst (λ u. Stands (sized files.sizes u) x.staged f x.numbers s) (sym are.batch)
          (subst (λ ds. Stands (sized files.sizes v) ds f x.numbers s) (sym are.staged) (subst (λ ds. Stands (sized files.sizes v) ds f x.numbers s) live world.valid.stands)));
      lengths = record {
        count = ap (λ (ns : List ℕ). length ns) are.lengths ∙ (are.count ∙ sym (ap (λ (u : Volume). length u.inodes) are.batch));
        each = λ ino file. (
            ap (λ (ns : List ℕ). slice_index ns ino) are.lengths
            ∙ each x.committed x.committed_numbers x.numbers v files f s count are.count world live ino (ap (λ (u : Volume). (inode u ino).kind) (sym are.batch) ∙ file));
      };
      blocks = blocks;
      cuts = cuts;
    }

-- ---- blocks

pub blocks_stay : BlocksStay
blocks_stay w x blocks uses takes fresh = record {
  mapped = λ ino block b used at. mapped ino block b (takes.files ino block b used at);
  staging = λ ino block b kind at. of_these b (takes.staging ino block b kind at);
  chains = λ ino k below. chains ino k below (takes.chains ino);
} where
  of_these : (b : ℕ) → In b blocks ⊎ IsOfStaging w.batch b → IsFresh x.committed b
  of_these b (inl among) = subst (λ v. IsFresh v b) (sym takes.committed) (fresh b among)
  of_these b (inr staged) = subst (λ v. IsFresh v b) (sym takes.committed) (uses.staging staged.0 staged.1 b staged.2 staged.3)

  settled : (ino block b : ℕ) → number x.numbers ino ≡ number w.numbers ino → IsSettled w ino block b → IsSettled x ino block b
  settled ino block b same is = record {
    used = subst (λ v. IsUsed v ino) (sym takes.committed) is.used;
    same = subst (λ v. disk_of v [] ino block ≡ Some b) (sym takes.committed) is.same;
    node = ap (λ (ns : List ℕ). number ns ino) takes.committed_numbers ∙ (is.node ∙ sym same);
  }

  mapped : (ino block b : ℕ) → (IsUsed w.batch ino × (disk_of w.batch [] ino block ≡ Some b) × (number x.numbers ino ≡ number w.numbers ino)) ⊎ (In b blocks ⊎ IsOfStaging w.batch b)
      → IsSettled x ino block b ⊎ IsFresh x.committed b
  mapped ino block b (inl was) = elim (uses.mapped ino block b was.0 was.1) [
    | inl is ↦ inl (settled ino block b was.2 is)
    | inr is ↦ inr (subst (λ v. IsFresh v b) (sym takes.committed) is)
  ]
  mapped ino block b (inr new) = inr (of_these b new)

  chains : (ino k : ℕ) → k < length (chain x.batch ino)
      → ((chain x.batch ino ≡ chain w.batch ino) × (extents x.batch ino ≡ extents w.batch ino)) ⊎ ((j : ℕ) → j < length (chain x.batch ino) → In (block_at (chain x.batch ino) j) blocks)
      → ((chain x.batch ino ≡ chain x.committed ino) × (extents x.batch ino ≡ extents x.committed ino)) ⊎ IsFresh x.committed (block_at (chain x.batch ino) k)
  chains ino k below (inr new) = inr (of_these (block_at (chain x.batch ino) k) (inl (new k below)))
  chains ino k below (inl same) = elim (uses.chains ino k (subst (λ (bs : List ℕ). k < length bs) same.0 below)) [
    | inl map_is ↦ inl (same.0 ∙ (map_is.0 ∙ ap (λ (v : Volume). chain v ino) (sym takes.committed)), same.1 ∙ (map_is.1 ∙ ap (λ (v : Volume). extents v ino) (sym takes.committed)))
    | inr is ↦ inr (subst (λ (bs : List ℕ). IsFresh x.committed (block_at bs k)) (sym same.0) (subst (λ v. IsFresh v (block_at (chain w.batch ino) k)) (sym takes.committed) is))
  ]

-- ---- log lines

module _ (v w : Volume) (geometry : w.geometry ≡ v.geometry) (base : w.base ≡ v.base) where
  spells : (slot : ℕ) (d : Draft) (words : Words) → Spells v slot d words → Spells w slot d words
  spells slot d words is = record {
    draft = is.draft;
    fits = is.fits;
    spelled = ap (λ g. line_bytes words (log_line g slot)) geometry ∙ (is.spelled ∙ ap (λ b. encode_entry d (b + slot)) (sym base));
  }

  claimed_line : (cells : ℕ → Cell) (slot : ℕ) (d : Draft) → IsClaimedLine v cells slot d → IsClaimedLine w cells slot d
  claimed_line cells slot d is = record {
    below = subst (λ g. slot < g.log) (sym geometry) is.below;
    entry = is.entry;
    spells = spells slot d is.entry is.spells;
    holds = subst (λ g. HoldsWords cells is.entry (log_line g slot)) (sym geometry) is.holds;
  }

  job_lines : (cells : ℕ → Cell) (first : Words) (jobs : List Job) (slots : List (Option ℕ)) → AreJobLines v cells first jobs slots → AreJobLines w cells first jobs slots
  job_lines cells first [] slots out = tt
  job_lines cells first (j ∷ jobs) [] out = tt
  job_lines cells first (j ∷ jobs) (None ∷ slots) out = job_lines cells first jobs slots out
  job_lines cells first (j ∷ jobs) (Some slot ∷ slots) out = (
    record {
      below = subst (λ g. slot < g.log) (sym geometry) out.0.below;
      entry = out.0.entry;
      spells = spells slot j.draft out.0.entry out.0.spells;
      holds = subst (λ g. HoldsWords cells out.0.entry (log_line g slot) ⊎ IsPutOver cells first out.0.entry (log_line g slot)) (sym geometry) out.0.holds;
    },
    job_lines cells first jobs slots out.1,
  )

pub lines_of_one : LinesOfOne
lines_of_one v w cells first claims jobs slots geometry base out = record {
  claimed = λ slot d is. claimed_line v w geometry base cells slot d (out.claimed slot d is);
  out = job_lines v w geometry base cells first jobs slots out.out;
  others = λ slot below unclaimed free.
      subst (λ g. HoldsWords cells first (log_line g slot)) (sym geometry) (out.others slot (subst (λ g. slot < g.log) geometry below) unclaimed free);
  old = λ slot below valid.
      subst (λ g. held_seq (line_bytes first (log_line g slot)) < w.base) (sym geometry)
      (subst (λ b. held_seq (line_bytes first (log_line v.geometry slot)) < b) (sym base)
      (out.old slot (subst (λ g. slot < g.log) geometry below) (subst (λ g. is_self_valid (line_bytes first (log_line g slot)) ≡ true) geometry valid)));
}
