-- Lines and blocks of jobs are put back alike after a change that leaves the geometry, the lap and the maps of staging files.
use Rattle.std.specs.Prelude.{◌≡◌, ℕ, List, [], ◌∷◌, ◌++◌, Option, Some, None}
use Rattle.std.proofs.Common.{sym, subst}
use Rattle.fsync_relink.specs.world_write_laws.pm_model.declared.Cell.{Cell}
use Rattle.fsync_relink.specs.world_write_laws.pm_model.Parts.{put_back}
use Rattle.fsync_relink.specs.world_write_laws.pm_model.Words.{Words}
use Rattle.fsync_relink.specs.world_write_laws.layout_model.Journal.{journaled}
use Rattle.fsync_relink.specs.world_write_laws.layout_model.Places.{Geometry}
use Rattle.fsync_relink.specs.world_write_laws.layout_model.declared.lines.Draft.{Draft}
use Rattle.fsync_relink.specs.world_write_laws.image_model.Honest.{IsHonestWith}
use Rattle.fsync_relink.specs.world_write_laws.image_model.Volume.{Volume}
use Rattle.fsync_relink.specs.world_write_laws.posix_types.declared.item.Item.{Item}
use Rattle.fsync_relink.specs.world_write_laws.posix_spec.Run.{Unfinished}
use Rattle.fsync_relink.specs.world_write_laws.posix_spec.State.{State}
use Rattle.fsync_relink.specs.world_write_laws.world_model.Lines.{AreJobLines, AreLinesOut, IsClaimedLine, IsJobLine, Spells}
use Rattle.fsync_relink.specs.world_write_laws.world_model.Jobs.{Job}
use Rattle.k_split_laws.specs.world_image_laws.Back.{calls_in_log, IsKeptBack, IsPutBack}
use Rattle.k_split_laws.specs.world_image_laws.Flights.{filled_same}
use Rattle.k_split_laws.specs.world_image_laws.LentLaws.{SameBlocks}
use Rattle.k_split_laws.specs.world_image_laws.Promised.{IsKept}

-- (first over a volume with the places of the first one)
module _ (v w : Volume) (cells : ℕ → Cell) (first : Words) where
  abbrev u : Volume
  u = record w { geometry = v.geometry; base = v.base }

  spells : (slot : ℕ) (d : Draft) (entry : Words) → Spells v slot d entry → Spells u slot d entry
  spells slot d entry is = record { draft = is.draft; fits = is.fits; spelled = is.spelled }

  claimed : (slot : ℕ) (d : Draft) → IsClaimedLine v cells slot d → IsClaimedLine u cells slot d
  claimed slot d is = record { below = is.below; entry = is.entry; spells = spells slot d is.entry is.spells; holds = is.holds }

  job_line : (slot : ℕ) (d : Draft) → IsJobLine v cells first slot d → IsJobLine u cells first slot d
  job_line slot d is = record { below = is.below; entry = is.entry; spells = spells slot d is.entry is.spells; holds = is.holds }

  job_lines : (jobs : List Job) (slots : List (Option ℕ)) → AreJobLines v cells first jobs slots → AreJobLines u cells first jobs slots
  job_lines [] slots are = tt
  job_lines (j ∷ jobs) [] are = tt
  job_lines (j ∷ jobs) (None ∷ slots) are = job_lines jobs slots are
  job_lines (j ∷ jobs) (Some slot ∷ slots) are = (job_line slot j.draft are.0, job_lines jobs slots are.1)

  lines_there : (claims : List (ℕ × Draft)) (jobs : List Job) (slots : List (Option ℕ)) → AreLinesOut v cells first claims jobs slots → AreLinesOut u cells first claims jobs slots
  lines_there claims jobs slots are = record {
    claimed = λ slot d is. claimed slot d (are.claimed slot d is);
    out = job_lines jobs slots are.out;
    others = are.others;
    old = are.old;
  }

  pub lines_same : (claims : List (ℕ × Draft)) (jobs : List Job) (slots : List (Option ℕ)) → w.geometry ≡ v.geometry → w.base ≡ v.base → AreLinesOut v cells first claims jobs slots → AreLinesOut w cells first claims jobs slots
  lines_same claims jobs slots geometry base are = subst (λ x. AreLinesOut x cells first claims jobs slots) there (lines_there claims jobs slots are) where
    there : u ≡ w
    there = λ i. record w { geometry = sym geometry i; base = sym base i }

same_put : (v w : Volume) (d : List Cell) (back : ℕ → Cell) (first : Words) (claims : List (ℕ × Draft)) (jobs : List Job) (slots : List (Option ℕ)) (image : Words) → w.geometry ≡ v.geometry → w.base ≡ v.base → SameBlocks v w jobs
    → IsPutBack v d back first claims jobs slots image → IsPutBack w d back first claims jobs slots image
same_put v w d back first claims jobs slots image geometry base blocks is = record {
  lines = lines_same v w (put_back d back) first claims jobs slots geometry base is.lines;
  image_is = is.image_is;
  honest = subst (λ (g : Geometry). IsHonestWith g d back image) (sym geometry) is.honest;
  filled = filled_same v w (journaled image) jobs slots blocks is.filled;
}

-- So what is kept over the one volume is kept over the other.
pub kept_over : (v w : Volume) (d : List Cell) (first : Words) (claims : List (ℕ × Draft)) (jobs : List Job) (start : State) (history : List Item) (last : List Unfinished) → w.geometry ≡ v.geometry → w.base ≡ v.base → SameBlocks v w jobs
    → IsKeptBack w d first claims jobs start history last → IsKeptBack v d first claims jobs start history last
kept_over v w d first claims jobs start history last geometry base blocks kept back slots image put =
    subst (λ g. IsKept g start history (calls_in_log slots jobs ++ last) image) geometry (kept back slots image (same_put v w d back first claims jobs slots image geometry base blocks put))
