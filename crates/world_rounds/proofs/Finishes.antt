-- A job of the parts of a World finishes while the power is on.
use Rattle.std.specs.Prelude.{◌≡◌, ◌≤◌, ◌<◌, ◌+◌, ◌++◌, ℕ, true, false, List, [], ◌∷◌, length, Some, AllPairs, slice_index, slice_index_or, vec_len, refl}
use Rattle.std.specs.Vec.{vec_capacity}
use Rattle.std.proofs.Common.{Global, Vec, arith, ap, ◌∙◌, sym, subst, inl, inr, length-append}
use Rattle.std.proofs.lemmas.Bool.{cases_lt}
use Rattle.std.proofs.lemmas.List.{get_or-set_other, get_or-set_same, get_or_past, length-set}
use Rattle.std.proofs.lemmas.List.FromFn.{get_or-map-range_with_len, length-map-range_with_len}
use Rattle.world_parts.specs.layout_model.declared.lines.Draft.{Draft}
use Rattle.world_parts.specs.file_table.Files.{ChangesFile, Files, runs_in}
use Rattle.world_parts.specs.eof_laws.FinishesLaws.{EndFinished}
use Rattle.world_parts.specs.k_split_model.View.{View}
use Rattle.world_parts.specs.list_laws.Members.{In}
use Rattle.world_parts.specs.pm_model.Powers.{is_on, Supply}
use Rattle.posix_types.specs.declared.call.Call.{Call}
use Rattle.posix_types.specs.declared.call.Who.{Who}
use Rattle.posix_types.specs.declared.item.Outcome.{Outcome}
use Rattle.posix_types.specs.declared.reply.Reply.{Reply}
use Rattle.posix_tables.specs.Outcomes.{answer}
use Rattle.world_parts.specs.posix_spec.Step.{step}
use Rattle.world_parts.specs.in_flight.Histories.{item_with}
use Rattle.world_parts.specs.in_flight.live_model.Standing.{AreOfTwoThreads, JobOut}
use Rattle.world_parts.specs.in_flight.live_model.Jobs.{without}
use Rattle.world_parts.specs.in_flight.live_model.Overlays.{run_of}
use Rattle.world_parts.specs.in_flight.world_model.Jobs.{put_bytes_of}
use Rattle.world_parts.proofs.world_view_laws_proofs.Ending.{can_finish, finish_view, finished_on, has, has_size, others_on, without_one}
use Rattle.world_parts.proofs.world_view_laws_proofs.Modes.{no_job}
use Rattle.world_parts.proofs.world_view_laws_proofs.OpenCalls.{next_of_job}
use Rattle.world_parts.proofs.world_view_laws_proofs.Finishing.{finished_ends, job_answers, one_job}
use Rattle.world_parts.specs.world_view_laws.file_calls.open_files.State.{OpenState}
use Rattle.world_parts.specs.world_view_laws.write_end.Ends.{CanFinish, LeavesFinished}
use Rattle.world_parts.specs.world_view_laws.Begins.{IsFilledOut}
use Rattle.world_parts.specs.world_view_laws.Jobs.{Finishes}
use Rattle.world_parts.specs.world_view_laws.Views.{disk_of, IsGoing, IsWorldOver, next_of, overlays_of, runs_on, state_of, WorldView}
use Rattle.world_parts.specs.write_jobs.Jobs.{FilledView}
use Rattle.world_parts.specs.declared.parts.Parts.{Parts}
use Rattle.world_parts.specs.Seen.{IsKept, seen}
use Rattle.world_parts.specs.Adds.{IsAdded, MayAdd}
use Rattle.world_parts.proofs.Adding.{few_acts, added_kept, added_seen, added_view, counted_next, few_next, HasRoomForItem}

-- a member is one of at least one
pub some_in : {X : Type 0} (xs : List X) (x : X) → In x xs → 1 ≤ length xs
some_in [] x at = absurd at
some_in (y ∷ xs) x at = omega arith

-- the runs of a file, as the World shows them
runs_at : (files : Files) (ino : ℕ) → ino < length files.sizes → slice_index_or (overlays_of files) ino [] ≡ runs_in files ino
runs_at files ino below = get_or-map-range_with_len (runs_in files) 0 (length files.sizes) ino ino [] below (omega arith)

runs_past : (files : Files) (ino : ℕ) → length files.sizes ≤ ino → slice_index_or (overlays_of files) ino [] ≡ []
runs_past files ino past = get_or_past (overlays_of files) ino [] (omega (arith, past, length-map-range_with_len (runs_in files) 0 (length files.sizes)))

runs_same : (old new : Files) (ino : ℕ) → length new.sizes ≡ length old.sizes → runs_in new ino ≡ runs_in old ino
    → slice_index_or (overlays_of new) ino [] ≡ slice_index_or (overlays_of old) ino []
runs_same old new ino count same = elim (cases_lt ino (length old.sizes)) [
  | inl below ↦ runs_at new ino (omega (arith, below, count)) ∙ same ∙ sym (runs_at old ino below)
  | inr past ↦ runs_past new ino (omega (arith, past, count)) ∙ sym (runs_past old ino past)
]

module _ (p : Parts) (kept : IsKept p) (awake : p.lost ≡ false) (out : p.lines_out ≡ true) (job : FilledView) (q : JobOut) (is_out : IsFilledOut (seen p) q job) where
  going : IsGoing p.k p.tables.tables p.staging p.files (seen p)
  going = kept.world.going awake

  pub callers : AllPairs AreOfTwoThreads p.pending.items
  callers = (going.stands (no_job p.k p.tables.tables p.staging p.files (seen p) going q is_out.there)).callers

  -- the one that is taken is the job's
  pub taken_is : (taken : JobOut) → In taken p.pending.items → taken.who ≡ job.who → taken ≡ q
  taken_is taken there own = one_job p.pending.items taken q callers there is_out.there (own ∙ is_out.who)

  pub may_finish : (call : Call) → call ≡ q.call → CanFinish p.k job p.tables.tables p.files call
  may_finish call same = subst (CanFinish p.k job p.tables.tables p.files) (sym same) (can_finish p.k p.tables.tables p.staging p.files (seen p) kept.world awake out q job is_out)

  pub room_for_claim : vec_len p.claims < vec_capacity p.claims
  room_for_claim = omega (arith, kept.room.claims_on awake, some_in p.pending.items q is_out.there)

  pub next_job : next_of (seen p) q.who ≡ Some q.call
  next_job = (next_of_job p.scripts p.history.items p.pending.items (seen p).unfinished kept.world.open_calls q is_out.there).call

  pub room_for_item : vec_len p.history < vec_capacity p.history
  room_for_item = omega (arith, kept.room.items awake, some_in p.pending.items q is_out.there)

  -- AN ITEM MAY BE ADDED for its caller.
  pub may_return : (who : Who) → who ≡ job.who → MayAdd p who
  may_return who own = subst (MayAdd p) (sym (own ∙ is_out.who)) (record {
    caller = counted_next p kept q.who q.call next_job;
    few = few_next p kept q.who q.call next_job;
    room = room_for_item;
    one_act = few_acts p kept;
  })

  pub answers_so : (step (state_of (seen p)) q.who q.call).outcome ≡ answer (Reply.Count (length (put_bytes_of q.call)))
  answers_so = job_answers p.geometry p.k p.tables.tables _ p.lines_out (length p.history.items) (state_of (seen p)) (going.stands (no_job p.k p.tables.tables p.staging p.files (seen p) going q is_out.there)) q is_out.there

  -- ---- what it leaves

  module _ (law : EndFinished) (slot : ℕ) (taken : JobOut) (same : taken ≡ q) (outcome : Outcome) (replied : outcome ≡ answer (Reply.Count (length (put_bytes_of taken.call))))
      (k : View) (files : OpenState) (laid : Files) (claims : Vec (ℕ × Draft) Global) (pending : Vec JobOut Global) (left : pending.items ≡ without job.who p.pending.items) (k_is : k ≡ record p.k { cells = k.cells })
      (claimed : claims.items ≡ p.claims.items ++ (slot, job.draft) ∷ []) (capacity : vec_capacity claims ≡ vec_capacity p.claims)
      (left_so : LeavesFinished p.k job (has p.k p.tables.tables p.staging p.files (seen p) kept.world awake out q job is_out) slot k files.tables laid) where
    abbrev pub middle : Parts
    middle = record p { k = k; tables = files; files = laid; claims = claims; pending = pending }

    abbrev then_view : WorldView
    then_view = finish_view p.k p.tables.tables p.staging p.files (seen p) kept.world awake out q job is_out slot k files.tables laid

    world_then : IsWorldOver k files.tables p.staging laid then_view
    world_then =
        finished_on p.k p.tables.tables p.staging p.files (seen p) kept.world awake out q job is_out slot k files.tables laid k_is left_so
        (finished_ends law p.k p.tables.tables p.staging p.files (seen p) kept.world awake out q job is_out slot k files.tables laid k_is left_so)

    out_is : (step (state_of (seen p)) q.who q.call).outcome ≡ outcome
    out_is = answers_so ∙ ap (λ (x : JobOut). answer (Reply.Count (length (put_bytes_of x.call)))) (sym same) ∙ sym replied

    pending_is : without q.who p.pending.items ≡ pending.items
    pending_is = ap (λ (w : Who). without w p.pending.items) (sym is_out.who) ∙ sym left

    claims_are : p.claims.items ++ (slot, q.draft) ∷ [] ≡ claims.items
    claims_are = ap (λ (d : Draft). p.claims.items ++ (slot, d) ∷ []) (sym is_out.draft) ∙ sym claimed

    -- THE VIEW IS THAT of the parts with the item.
    same_view : then_view ≡ added_view middle taken.who taken.call outcome
    same_view = λ i. record (seen p) {
      history = p.history.items ++ item_with p.history.items (sym same i).who (sym same i).call (out_is i) ∷ [];
      claims = claims_are i;
      pending = pending_is i;
      acts = p.acts + 1;
      disk = (added_view middle taken.who taken.call outcome).disk;
    }

    len : vec_len claims ≡ vec_len p.claims + 1
    len = omega (arith, claims.ok.0, p.claims.ok.0, ap length claimed, length-append p.claims.items ((slot, job.draft) ∷ []))

    one_less : length pending.items + 1 ≡ length p.pending.items
    one_less = ap (λ (xs : List JobOut). length xs + 1) (sym pending_is) ∙ without_one q.who p.pending.items q callers is_out.there refl

    room_then : HasRoomForItem middle
    room_then = record {
      on = awake;
      items = omega (arith, kept.room.items awake, one_less);
      claims = omega (arith, kept.room.claims_on awake, one_less, capacity, len);
      empty = kept.room.empty;
      calls = omega (arith, kept.room.calls, one_less);
    }

    module _ (r : Parts) (added : IsAdded taken.who taken.call outcome middle r) where
      pub finished_kept : IsKept r
      finished_kept = added_kept taken.who taken.call outcome middle r added kept.counts room_then (subst (IsWorldOver k files.tables p.staging laid) same_view world_then)

      seen_then : then_view ≡ seen r
      seen_then = same_view ∙ sym (added_seen taken.who taken.call outcome middle r added kept.counts)

      ino_is : job.draft.ino ≡ q.draft.ino
      ino_is = ap (λ (d : Draft). d.ino) is_out.draft

      below : job.draft.ino < length p.files.sizes
      below = let low = has_size p.k p.tables.tables p.staging p.files (seen p) kept.world awake out q job is_out in omega (arith, low, ino_is)

      disk_so : disk_of k files.tables p.staging laid ≡ record (seen p).disk { cells = k.cells; tables = files.tables; overlays = overlays_of laid; sizes = laid.sizes }
      disk_so = ap (λ (x : View). disk_of x files.tables p.staging laid) k_is

      pub finished_so : ChangesFile job.draft.ino (runs_in p.files job.draft.ino ++ run_of job.draft ∷ []) job.draft.size p.files laid → (power : Supply) → is_on power ≡ true
          → Finishes slot q (seen p) (seen r) power
      finished_so lays power on = subst (λ (v : WorldView). Finishes slot q (seen p) v power) seen_then (record {
        awake = awake;
        on = on;
        next = next_job;
        new_is = refl;
        disk = disk_so;
        others = λ ino apart. (
          runs_same p.files laid ino (ap length lays.sizes ∙ length-set p.files.sizes job.draft.ino job.draft.size) (lays.others ino (λ same. apart (same ∙ ino_is))),
          ap (λ (xs : List ℕ). slice_index xs ino) lays.sizes ∙ get_or-set_other p.files.sizes job.draft.ino ino job.draft.size 0 (λ same. apart (same ∙ ino_is)),
        );
        runs = subst (λ (d : Draft). runs_on (disk_of k files.tables p.staging laid) d.ino ≡ runs_on (seen p).disk d.ino ++ run_of d ∷ []) is_out.draft
            (runs_at laid job.draft.ino (omega (arith, below, ap length lays.sizes, length-set p.files.sizes job.draft.ino job.draft.size)) ∙ lays.runs_are ∙ ap (λ xs. xs ++ run_of job.draft ∷ []) (sym (runs_at p.files job.draft.ino below)));
        size = subst (λ (d : Draft). slice_index laid.sizes d.ino ≡ d.size) is_out.draft (ap (λ (xs : List ℕ). slice_index xs job.draft.ino) lays.sizes ∙ get_or-set_same p.files.sizes job.draft.ino job.draft.size 0 below);
        stay = others_on p.k p.tables.tables p.staging p.files (seen p) kept.world awake out q job is_out slot k files.tables laid k_is left_so
            (finished_ends law p.k p.tables.tables p.staging p.files (seen p) kept.world awake out q job is_out slot k files.tables laid k_is left_so);
      })
