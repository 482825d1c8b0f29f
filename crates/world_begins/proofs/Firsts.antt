-- The file of a call is published first, at the parts of a World.
use Rattle.std.specs.Prelude.{◌≡◌, ◌≢◌, ◌+◌, ◌*◌, ◌^◌, ◌≤◌, ◌<◌, ◌==◌, ℕ, true, false, List, [], ◌∷◌, length, Option, None, Some, refl}
use Rattle.std.proofs.Common.{arith, ◌∙◌, sym, subst, inl, inr}
use Rattle.std.proofs.lemmas.Bool.Decides.{Decides-eqb}
use Rattle.world_parts.specs.pm_model.Powers.{is_on, Steps, Supply}
use Rattle.world_parts.specs.file_table.Files.{ChangesFile, Files, runs_in, size_in}
use Rattle.world_parts.specs.k_split_model.View.{View}
use Rattle.posix_types.specs.declared.call.Call.{Call}
use Rattle.posix_types.specs.declared.call.Who.{Who}
use Rattle.call_laws.specs.Calls.{HasBareFile}
use Rattle.call_laws.specs.file_publish.Answers.{LosesFile, PublishesFile}
use Rattle.call_laws.specs.file_publish.fsync_relink.Publishes.{IsPublishDone, IsPublishStopped, MayPublish}
use Rattle.call_laws.proofs.Publishing.{bare_cuts, bare_published, bare_publishes, bare_truncates, bare_waiting_none, bare_waiting_some, others_published, publish_loses, publish_lost, published_at, may_publish}
use Rattle.call_laws.proofs.Staying.{stands_now}
use Rattle.world_parts.proofs.in_flight_proofs.CountsCounts.{runs_of_file_few}
use Rattle.world_parts.specs.in_flight.live_model.world_model.TreeRules.{used_below}
use Rattle.world_parts.specs.file_publish.StandingLaws.{StandsToPublish}
use Rattle.world_parts.specs.in_flight.Busy.{WaitsForFile}
use Rattle.world_parts.specs.in_flight.k_split.declared.faults.KFault.{KFault}
use Rattle.world_parts.specs.world_view_laws.Begins.{LosesCall, OthersStay, Publishes}
use Rattle.world_parts.specs.world_view_laws.file_calls.Built.{CutsNothing}
use Rattle.world_parts.specs.world_view_laws.Views.{kept_of, state_of, WorldView}
use Rattle.world_parts.specs.declared.parts.Parts.{Parts}
use Rattle.world_parts.specs.Seen.{IsKept, seen}
use Rattle.world_begins.specs.Turns.{IsBareFor, IsBareLine, IsPublished, IsToPublish, IsTurn, publishes_by}
use Rattle.world_begins.proofs.Turning.{off_kept, off_seen}

-- ---- what a bare file says of the call

bare_for : (p : Parts) (who : Who) (call : Call) → HasBareFile p.k p.tables.tables p.staging p.files (seen p) who call → IsBareFor who call p
bare_for p who (Call.Truncate h size) has = bare_truncates p.k p.tables.tables p.staging p.files (seen p) who h size has
bare_for p who (Call.Mkdir path) has = tt
bare_for p who (Call.Rmdir path) has = tt
bare_for p who (Call.Unlink path) has = tt
bare_for p who (Call.Rename path to) has = tt
bare_for p who (Call.Open h path f) has = tt
bare_for p who (Call.Close h) has = tt
bare_for p who (Call.Dup h to) has = tt
bare_for p who (Call.Read h n) has = tt
bare_for p who (Call.Pread h o n) has = tt
bare_for p who (Call.Write h x) has = tt
bare_for p who (Call.Pwrite h o x) has = tt
bare_for p who (Call.Seek h w by) has = tt
bare_for p who (Call.Fsync h) has = tt
bare_for p who (Call.Stat path) has = tt
bare_for p who (Call.List path) has = tt

published_by : (old p : Parts) (who : Who) (call : Call) → old.claims ≡ p.claims → old.tables ≡ p.tables → HasBareFile p.k p.tables.tables p.staging p.files (seen p) who call → Publishes who call (seen old) (seen p)
published_by old p who (Call.Fsync h) claims files has =
    bare_publishes p.k p.tables.tables p.staging p.files (seen p) who h (seen old) (seen p) has (λ i. (claims i).items) (λ i. (files i).tables) refl
published_by old p who (Call.Mkdir path) claims files has = tt
published_by old p who (Call.Rmdir path) claims files has = tt
published_by old p who (Call.Unlink path) claims files has = tt
published_by old p who (Call.Rename path to) claims files has = tt
published_by old p who (Call.Open h path f) claims files has = tt
published_by old p who (Call.Close h) claims files has = tt
published_by old p who (Call.Dup h to) claims files has = tt
published_by old p who (Call.Read h n) claims files has = tt
published_by old p who (Call.Pread h o n) claims files has = tt
published_by old p who (Call.Write h x) claims files has = tt
published_by old p who (Call.Pwrite h o x) claims files has = tt
published_by old p who (Call.Seek h w by) claims files has = tt
published_by old p who (Call.Truncate h size) claims files has = tt
published_by old p who (Call.Stat path) claims files has = tt
published_by old p who (Call.List path) claims files has = tt

-- a call that has nothing published before it
plain_cuts : (call : Call) (k : View) (files : Files) → publishes_by call ≡ false → CutsNothing call k files
plain_cuts (Call.Open h path f) k files plain = λ cuts. (let never : true ≡ false = sym cuts ∙ plain in cc)
plain_cuts (Call.Fsync h) k files plain = tt
plain_cuts (Call.Truncate h size) k files plain = tt
plain_cuts (Call.Mkdir path) k files plain = tt
plain_cuts (Call.Rmdir path) k files plain = tt
plain_cuts (Call.Unlink path) k files plain = tt
plain_cuts (Call.Rename path to) k files plain = tt
plain_cuts (Call.Close h) k files plain = tt
plain_cuts (Call.Dup h to) k files plain = tt
plain_cuts (Call.Read h n) k files plain = tt
plain_cuts (Call.Pread h o n) k files plain = tt
plain_cuts (Call.Write h x) k files plain = tt
plain_cuts (Call.Pwrite h o x) k files plain = tt
plain_cuts (Call.Seek h w by) k files plain = tt
plain_cuts (Call.Stat path) k files plain = tt
plain_cuts (Call.List path) k files plain = tt

plain_bare : (who : Who) (call : Call) (p : Parts) → publishes_by call ≡ false → IsBareFor who call p
plain_bare who (Call.Truncate h size) p plain = cc
plain_bare who (Call.Open h path f) p plain = tt
plain_bare who (Call.Fsync h) p plain = tt
plain_bare who (Call.Mkdir path) p plain = tt
plain_bare who (Call.Rmdir path) p plain = tt
plain_bare who (Call.Unlink path) p plain = tt
plain_bare who (Call.Rename path to) p plain = tt
plain_bare who (Call.Close h) p plain = tt
plain_bare who (Call.Dup h to) p plain = tt
plain_bare who (Call.Read h n) p plain = tt
plain_bare who (Call.Pread h o n) p plain = tt
plain_bare who (Call.Write h x) p plain = tt
plain_bare who (Call.Pwrite h o x) p plain = tt
plain_bare who (Call.Seek h w by) p plain = tt
plain_bare who (Call.Stat path) p plain = tt
plain_bare who (Call.List path) p plain = tt

plain_published : (who : Who) (call : Call) (old new : WorldView) → publishes_by call ≡ false → Publishes who call old new
plain_published who (Call.Fsync h) old new plain = cc
plain_published who (Call.Truncate h size) old new plain = tt
plain_published who (Call.Open h path f) old new plain = tt
plain_published who (Call.Mkdir path) old new plain = tt
plain_published who (Call.Rmdir path) old new plain = tt
plain_published who (Call.Unlink path) old new plain = tt
plain_published who (Call.Rename path to) old new plain = tt
plain_published who (Call.Close h) old new plain = tt
plain_published who (Call.Dup h to) old new plain = tt
plain_published who (Call.Read h n) old new plain = tt
plain_published who (Call.Pread h o n) old new plain = tt
plain_published who (Call.Write h x) old new plain = tt
plain_published who (Call.Pwrite h o x) old new plain = tt
plain_published who (Call.Seek h w by) old new plain = tt
plain_published who (Call.Stat path) old new plain = tt
plain_published who (Call.List path) old new plain = tt

-- a list that is empty, by its length
pub no_runs : {A : Type 0} (xs : List A) → (length xs == 0) ≡ true → xs ≡ []
no_runs [] is = refl
no_runs (x ∷ xs) is = let none : length (x ∷ xs) ≡ 0 = (Decides-eqb (length (x ∷ xs)) 0).0 is in absurd (omega (arith, none))

-- fewer steps are within more
pub steps_within : (few many : ℕ) (before after : Supply) → few ≤ many → Steps few before after → Steps many before after
steps_within few many before after le steps = record { given = steps.given; on_before = steps.on_before; later = steps.later; bound = (let bound = steps.bound in omega (arith, bound, le)) }

-- all jobs stay out where the World is the same
all_stay : (w : WorldView) (who : Who) → OthersStay w w who
all_stay w who = (λ q job other is. is, λ q job other is. is)

module _ (p : Parts) (who : Who) (call : Call) (turn : IsTurn p who call) where
  -- the file that it waits for has its line
  pub waited_line : (ino : ℕ) → WaitsForFile who call p.k p.tables.tables (Some ino) → ino < length p.files.sizes
  waited_line ino waits =
      let now = stands_now p.k p.tables.tables p.staging p.files (seen p) who call turn.calls in
      let node = waits (seen p).geometry (kept_of (seen p) p.staging p.files) (length (seen p).history) (state_of (seen p)) now in
      let below = used_below p.k.volume ino node.1 in
      let count = now.sizes.count in
      omega (arith, below, count)

  -- what may be published
  pub may_first : StandsToPublish → (ino : ℕ) → WaitsForFile who call p.k p.tables.tables (Some ino) → runs_in p.files ino ≢ [] → MayPublish ino (size_in p.files ino) (runs_in p.files ino) p.k
  may_first law ino waits some = may_publish p.k p.tables.tables p.staging p.files (seen p) who call turn.calls ino waits some law

  pub few_first : (ino : ℕ) → 2 ^ 15 * (length (runs_in p.files ino) + 1) ≤ 2 ^ 25 + 2 ^ 15
  few_first ino =
      let few = runs_of_file_few (seen p).geometry p.k p.tables.tables (kept_of (seen p) p.staging p.files) true (length (seen p).history) (state_of (seen p)) (stands_now p.k p.tables.tables p.staging p.files (seen p) who call turn.calls) ino in
      omega (arith, few)

  -- ---- nothing is to be published

  bare_line : (found : Option ℕ) → WaitsForFile who call p.k p.tables.tables found → IsBareLine found p.files → HasBareFile p.k p.tables.tables p.staging p.files (seen p) who call
  bare_line None waits bare = bare_waiting_none p.k p.tables.tables p.staging p.files (seen p) who call turn.calls waits
  bare_line (Some ino) waits bare = bare_waiting_some p.k p.tables.tables p.staging p.files (seen p) who call ino turn.calls waits bare

  pub none_first : IsToPublish who call p None → (after : Supply) → is_on after ≡ true → IsPublished who call p p after
  none_first (inl plain) after on = record {
    turn = turn;
    view_is = refl;
    tables = refl;
    staging = refl;
    stay = all_stay (seen p) who;
    cuts = plain_cuts call p.k p.files plain;
    bare = plain_bare who call p plain;
    published = plain_published who call (seen p) (seen p) plain;
    on = on;
  }
  none_first (inr waits) after on =
      let has = bare_line waits.0 waits.1 waits.2 in
      record {
        turn = turn;
        view_is = refl;
        tables = refl;
        staging = refl;
        stay = all_stay (seen p) who;
        cuts = bare_cuts p.k p.tables.tables p.staging p.files (seen p) who call has;
        bare = bare_for p who call has;
        published = published_by p p who call refl refl has;
        on = on;
      }

  -- ---- its file is published

  module _ (ino : ℕ) (waits : WaitsForFile who call p.k p.tables.tables (Some ino)) (some : runs_in p.files ino ≢ []) (l : View) (d : Files) where
    abbrev q : Parts
    q = record p { k = l; files = d }

    pub file_first : IsPublishDone ino (size_in p.files ino) (runs_in p.files ino) p.k l → ChangesFile ino [] (size_in p.files ino) p.files d → PublishesFile ino p.k p.files l d
        → (after : Supply) → is_on after ≡ true → IsPublished who call p q after
    file_first done clears publishes after on =
        let has : HasBareFile q.k q.tables.tables q.staging q.files (seen q) who call = bare_published p.k p.tables.tables p.staging p.files (seen p) who call turn.calls ino waits some l d done clears publishes in
        record {
          turn = record {
            calls = published_at p.k p.tables.tables p.staging p.files (seen p) who call turn.calls ino waits some l d done clears publishes;
            counts = turn.counts;
            empty = turn.empty;
            room = record { items = turn.room.items; claims = turn.room.claims; jobs = turn.room.jobs; calls = turn.room.calls };
            usable = turn.usable;
          };
          view_is = refl;
          tables = refl;
          staging = refl;
          stay = others_published p.k p.tables.tables p.staging p.files (seen p) who call turn.calls ino waits some l d done clears publishes;
          cuts = bare_cuts q.k q.tables.tables q.staging q.files (seen q) who call has;
          bare = bare_for q who call has;
          published = published_by p q who call refl refl has;
          on = on;
        }

    -- or the power went in it
    pub file_lost : d ≡ p.files → IsPublishStopped KFault.PowerLost ino (size_in p.files ino) (runs_in p.files ino) p.k l → LosesFile ino p.k p.files l
        → (r : Parts) → r ≡ record q { unfinished = Some (record { who = who; call = call }); acts = p.acts + 1; lost = true }
        → (after : Supply) → is_on after ≡ false → IsKept r × LosesCall who (seen p) (seen r) after
    file_lost d_same stopped loses r rest after off =
        let lost : Parts = record p { k = l } in
        let on_l : r ≡ record p { k = l; unfinished = Some (record { who = who; call = call }); acts = p.acts + 1; lost = true } =
        rest ∙ (λ i. record p { k = l; files = d_same i; unfinished = Some (record { who = who; call = call }); acts = p.acts + 1; lost = true }) in (
          off_kept p who call turn lost refl r on_l (publish_lost p.k p.tables.tables p.staging p.files (seen p) who call turn.calls ino waits some l stopped loses),
          subst (λ (v : WorldView). LosesCall who (seen p) v after) (sym (off_seen p who call turn lost refl r on_l))
              (publish_loses p.k p.tables.tables p.staging p.files (seen p) who call turn.calls ino waits some l stopped loses after off),
        )
