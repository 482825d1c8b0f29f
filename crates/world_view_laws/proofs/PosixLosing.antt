-- A World that gathers in POSIX mode loses its power.
use Rattle.std.specs.Prelude.{◌≡◌, ◌*◌, ℕ, Bool, true, AllPairs, List, [], length, None, refl}
use Rattle.std.proofs.Common.{arith, ap, ◌∙◌, sym, subst}
use Rattle.file_calls.specs.batch_laws.BacksLaws.{posix_keeps_back}
use Rattle.file_calls.specs.batch_laws.PromiseLaws.{going_is_promised}
use Rattle.file_calls.specs.batch_laws.Together.{PosixStandsAt}
use Rattle.file_calls.specs.batch_laws.WorldsLaws.{cut_is_world}
use Rattle.file_calls.specs.eof_laws.pm_model.ImageLaws.{IsImage-words_of}
use Rattle.file_calls.specs.eof_laws.pm_model.Images.{words_of}
use Rattle.file_calls.specs.eof_laws.layout_model.declared.lines.Draft.{Draft}
use Rattle.file_calls.specs.eof_laws.layout_model.Journal.{IsSound, journaled}
use Rattle.file_calls.specs.eof_laws.layout_model.Places.{Geometry}
use Rattle.file_calls.specs.eof_laws.list_laws.Members.{In}
use Rattle.file_calls.specs.eof_laws.posix_tables.Open.{Tables}
use Rattle.file_calls.specs.k_split_laws.Left.{IsLeftOf}
use Rattle.in_flight.specs.k_split_model.View.{View}
use Rattle.in_flight.specs.live_model.Standing.{AreJobsOf, AreOfTwoThreads, JobOut, Kept}
use Rattle.in_flight.specs.posix_laws.Cuts.{cut_of}
use Rattle.in_flight.specs.posix_spec.Run.{run}
use Rattle.in_flight.specs.posix_spec.State.{State}
use Rattle.in_flight.specs.posix_types.declared.item.Item.{Item}
use Rattle.in_flight.specs.world_image_laws.Changed.{ShowsLog-same, sound_headed}
use Rattle.in_flight.specs.world_image_laws.Images.{HasLogHome}
use Rattle.world_view_laws.specs.PosixLosses.{PosixIsFoundLost, PosixIsLost, PosixKeepsHome}

-- no job is out, and no entry is logged
module _ (g : Geometry) (k : View) (t : Tables) (kept : Kept) (lines_out : Bool) (n : ℕ) (start : State) (history : List Item) (stands : PosixStandsAt g k t kept lines_out n start history) where
  pub no_job : (p : JobOut) → In p kept.pending → ⊥
  no_job p at = subst (In p) stands.none_out at

  no_claim : (slot : ℕ) (d : Draft) → In (slot, d) kept.claims → ⊥
  no_claim slot d at = subst (In (slot, d)) stands.none_claimed at

  -- the device has the blocks of its geometry
  pub posix_size : length k.cells ≡ 512 * g.blocks
  posix_size =
      stands.ready.going.order.stands.size ∙ ap (λ (x : Geometry). 512 * x.blocks) (sym stands.ready.geometry ∙ stands.ready.going.geometry)

  -- the device is left of itself
  posix_left : IsLeftOf g k.cells k.cells
  posix_left = record { size = refl; lent = λ i. refl; sound = λ image is. sound_headed g image (stands.ready.going.headed image is) }

-- with the log's lines out
pub posix_lost : PosixIsLost
posix_lost g k t kept n start history last e stands left keeps = record {
  jobless = λ posix. stands.none_out;
  jobs = [];
  jobs_are = subst (λ (ps : List JobOut). AreJobsOf ps []) (sym stands.none_out) tt;
  whole = λ strict. tt;
  callers = subst (AllPairs AreOfTwoThreads) (sym stands.none_out) (λ i j p before below. absurd (omega (arith, before, below)));
  blocks = λ p at. absurd (no_job g k t kept true n start history stands p at);
  puts = λ j at. absurd at;
  done = [];
  slot_of = λ ino. None;
  done_in = λ slot d at. absurd at;
  slots_in = λ j slot at had. absurd at;
  each_claim = λ slot d at. absurd (no_claim g k t kept true n start history stands slot d at);
  spelled = λ slot d at. absurd at;
  words = journaled (words_of k.cells);
  numbers = stands.numbers;
  s = cut_of (run start history);
  count = stands.count;
  world = cut_is_world g k kept.files stands.count stands.numbers start history (words_of k.cells) stands.ready.going (IsImage-words_of k.cells);
  lines = record { lent = λ slot j below word. left.lent _ ∙ stands.lines.lent slot j below word; old = stands.lines.old };
  sound = λ image is. subst (λ (x : Geometry). IsSound x image) (sym stands.ready.going.geometry) (left.sound image is);
  each_job = λ j at. absurd at;
  home = λ i lent. stands.ready.going.home i (sym (left.lent i) ∙ lent);
  promise = λ back slots image put hold. keeps back slots image put;
}

pub posix_found_lost : PosixIsFoundLost
posix_found_lost g k t kept n start history last stands =
    posix_lost g k t kept n start history last k.cells stands (posix_left g k t kept true n start history stands) (posix_keeps_back g k t kept true n start history last stands)

-- with them at home
pub posix_keeps_home : PosixKeepsHome
posix_keeps_home g k t kept n start history unfinished stands =
    going_is_promised g k kept.files stands.count stands.numbers start history unfinished stands.ready.going
    (record { geometry = stands.ready.geometry; base = stands.ready.base; log = medium_log; room = stands.ready.room }) where
      batch_log : HasLogHome k.volume k.cells []
      batch_log = subst (HasLogHome k.volume k.cells) stands.none_claimed stands.lines.1

      medium_log : HasLogHome k.committed k.cells []
      medium_log image is =
          ShowsLog-same k.volume k.committed [] (journaled image) (journaled image) (sym stands.ready.geometry) (sym stands.ready.base) (record { words = λ slot i below at. refl }) (batch_log image is)
