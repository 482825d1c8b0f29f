-- The log of a round beside the World: it stays, and what its lines hold.
use Rattle.std.specs.Prelude.{◌≡◌, ◌<◌, ◌+◌, ◌*◌, ℕ, zero, suc, Contains, List, [], ◌∷◌, length}
use Rattle.std.proofs.Common.{ap, arith, inl, inr, ◌∙◌, subst, sym}
use Rattle.round_log.specs.pm_model.declared.Cell.{Cell}
use Rattle.round_log.specs.pm_model.Cells.{newest}
use Rattle.round_log.specs.pm_model.Parts.{Part}
use Rattle.round_log.specs.pm_model.Words.{Words}
use Rattle.round_log.specs.layout_model.declared.lines.Draft.{Draft}
use Rattle.round_log.specs.layout_model.Places.{Geometry, log_line}
use Rattle.round_log.specs.image_model.LogRule.{HoldsClaims, HoldsEntry, IsAsAtFirst, words_of_line}
use Rattle.world_view_laws.specs.block_io.Lines.{AreFrom, line_at}
use Rattle.world_view_laws.specs.list_laws.Members.{In}
use Rattle.round_log.specs.oplog_entry.LogLines.{cells_of}
use Rattle.round_log.specs.oplog_entry.EntryLines.{IsPutOver}
use Rattle.round_log.specs.Held.{HoldsRound}
use Rattle.round_log.specs.Rounds.{IsRound, RoundView}
use Rattle.round_log.proofs.Holding.{lines_hold}
use Rattle.world_view_laws.specs.Lines.{AreFresh, AreRoundLines, first_of, HoldTheClaims}
use Rattle.world_view_laws.specs.Views.{first_by, WorldView}

-- ---- members

pub In-Contains : {X : Type 0} (xs : List X) (x : X) → In x xs → Contains xs x
In-Contains [] x is = absurd is
In-Contains (y ∷ ys) x (inl e) = (0, omega arith, e)
In-Contains (y ∷ ys) x (inr is) = let k = In-Contains ys x is in (suc k.0, omega (arith, k.1), k.2)

pub Contains-In : {X : Type 0} (xs : List X) (x : X) → Contains xs x → In x xs
Contains-In [] x (k, below, is) = absurd (omega (arith, below))
Contains-In (y ∷ ys) x (zero, below, is) = inl is
Contains-In (y ∷ ys) x (suc k, below, is) = inr (Contains-In ys x (k, omega (arith, below), is))

-- ---- it stays where what it is of stays

pub record SameLap (w v : WorldView) : Type 0 where
  pub geometry : v.geometry ≡ w.geometry
  pub base : v.base ≡ w.base
  pub first : v.first ≡ w.first
  pub lines_out : v.lines_out ≡ w.lines_out

round_stays : (w v : WorldView) (lines : List Part) → SameLap w v → AreRoundLines w lines → AreRoundLines v lines
round_stays w v lines same are = record {
  out = same.lines_out ∙ are.out;
  count = are.count ∙ ap (λ (g : Geometry). g.log) (sym same.geometry);
  places = subst (λ (g : Geometry). AreFrom (log_line g 0) lines) (sym same.geometry) are.places;
}

pub fresh_stays : (w v : WorldView) (start : List Part) → SameLap w v → AreFresh w start → AreFresh v start
fresh_stays w v start same fresh = record {
  are = round_stays w v start same fresh.are;
  words = λ n below.
      subst (λ (g : Geometry). IsAsAtFirst (line_at start n).cells (λ j. first_by g v.first (8 * log_line g n + j))) (sym same.geometry)
      (subst (λ (words : List ℕ). IsAsAtFirst (line_at start n).cells (λ j. first_by w.geometry words (8 * log_line w.geometry n + j))) (sym same.first) (fresh.words n below));
}

-- ---- its lines

-- THE LOG OF A ROUND: its lines were fresh when the round began; it holds the World's claims, while entries are on their way into the taken
-- slots.
pub record IsLogOf (w : WorldView) (log : RoundView) (taken : List ℕ) : Type 0 where
  pub start : List Part
  pub fresh : AreFresh w start
  pub base : log.base ≡ w.base
  pub round : IsRound log
  pub holds : HoldsRound start log w.claims taken
  pub count : log.tail ≡ length w.claims + length taken

module _ (w : WorldView) (log : RoundView) (taken : List ℕ) (is : IsLogOf w log taken) where
  pub log_count : length log.lines ≡ w.geometry.log
  log_count = is.holds.count ∙ is.fresh.are.count

  pub log_lines : AreRoundLines w log.lines
  log_lines = record {
    out = is.fresh.are.out;
    count = log_count;
    places = λ n below. is.holds.places n ∙ is.fresh.are.places n (omega (arith, below, is.holds.count));
  }

  -- a line of a claim
  pub log_claimed : (n : ℕ) (d : Draft) → In (n, d) w.claims → (n < length log.lines) × HoldsEntry (line_at log.lines n).cells d (w.base + n)
  log_claimed n d at =
      let held = is.holds.claimed n d (In-Contains w.claims (n, d) at) in
      (omega (arith, held.0, is.round.within), subst (λ (b : ℕ). HoldsEntry (line_at log.lines n).cells d (b + n)) is.base held.1)

  -- one that nobody took
  pub log_others : (n : ℕ) → n < length log.lines → ((d : Draft) → ¬ In (n, d) w.claims) → ¬ Contains taken n → IsAsAtFirst (line_at log.lines n).cells (first_of w n)
  log_others n below free untaken =
      subst (λ (line : Part). IsAsAtFirst line.cells (first_of w n)) (sym (is.holds.others n (λ d at. free d (Contains-In w.claims (n, d) at)) untaken))
      (is.fresh.words n (omega (arith, below, is.holds.count)))

-- where no entry is on its way, they hold the claims;
pub log_holds : (w : WorldView) (log : RoundView) → IsLogOf w log [] → HoldTheClaims w log.lines
log_holds w log is = record {
  are = log_lines w log [] is;
  holds = subst (λ (b : ℕ). HoldsClaims b (cells_of log.lines) w.claims (first_of w)) is.base (lines_hold is.start log w.claims (first_of w) is.holds is.round (λ n below. is.fresh.words n below));
}

-- ---- the line of an entry on its way

-- the words that a free line had first are those of the beginning of the lap
pub over_first : (w : WorldView) (slot : ℕ) (line : List Cell) (first : List Cell) (entry : Words) → IsAsAtFirst first (first_of w slot) → IsPutOver line (words_of_line first) entry → IsPutOver line (first_of w slot) entry
over_first w slot line first entry fresh over = record { home = over.home; older = λ j below. over.older j below ∙ ap newest (fresh j below); newer = over.newer }
