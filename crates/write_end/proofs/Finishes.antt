-- A write finishes: it has landed, and the World stands together without it.
use Rattle.std.proofs.Common.{◌≡◌, ◌≢◌, ◌⊎◌, ◌≤◌, ◌<◌, ◌+◌, ◌*◌, ◌/◌, ◌%◌, ◌==◌, ◌++◌, ◌∷◌, [], not, cond, ℕ, Bool, true, false, List, length, Some, refl, arith, ap, ◌∙◌, sym, subst, inl, inr}
use Rattle.std.specs.Prelude.{Contains, slice_index}
use Rattle.std.proofs.lemmas.List.{length-append, length_push}
use Rattle.std.proofs.lemmas.List.Kept.{AllPairs-filter}
use Rattle.std.proofs.lemmas.Option.{same_Some}
use Rattle.in_place.specs.write_plan.pm_model.declared.Cell.{Cell}
use Rattle.in_place.specs.write_plan.pm_model.Cells.{cell, IsCandidate}
use Rattle.in_place.specs.write_plan.pm_model.Images.{IsImage}
use Rattle.in_place.specs.write_plan.pm_model.Words.{Words}
use Rattle.in_place.specs.write_plan.layout_model.Journal.{journaled}
use Rattle.in_place.specs.write_plan.layout_model.PlaceLaws.{behind_log-not_journaled, behind_log-words}
use Rattle.in_place.specs.write_plan.layout_model.Places.{Geometry}
use Rattle.layout_model.specs.declared.lines.Draft.{Draft}
use Rattle.layout_model.specs.declared.lines.Kind.{Kind}
use Rattle.layout_model.specs.declared.lines.Kind.TheVariants.{Directory, File, Free, Staging}
use Rattle.in_place.specs.live_model.write_jobs.world_image_laws.image_model.Live.{is_live}
use Rattle.in_place.specs.live_model.write_jobs.world_image_laws.image_model.Volume.{inode, Volume}
use Rattle.in_place.specs.live_model.posix_laws.Orders.{AreOrdered, AreOrdered-step_of}
use Rattle.in_place.specs.write_plan.file_table.Files.{ChangesFile, Files, runs_in, size_in}
use Rattle.in_place.specs.live_model.write_jobs.world_image_laws.k_split_model.View.{View}
use Rattle.in_place.specs.live_model.write_jobs.k_split.Order.{IsInOrder}
use Rattle.in_place.specs.write_plan.list_laws.Members.{In, pushed-In}
use Rattle.in_place.specs.write_plan.open_files.Numbered.{numbered_as}
use Rattle.in_place.specs.live_model.Overlays.{run_of}
use Rattle.posix_types.specs.declared.call.Call.{Call}
use Rattle.posix_types.specs.declared.call.Who.{Who}
use Rattle.in_place.specs.write_plan.posix_tables.declared.nodes.Node.{Node}
use Rattle.in_place.specs.write_plan.posix_tables.Nodes.{bytes_of, node_at}
use Rattle.in_place.specs.write_plan.posix_tables.Open.{is_open, same_who, Tables}
use Rattle.in_place.specs.write_plan.posix_laws.Puts.{put_bytes, PutsWhole}
use Rattle.in_place.specs.write_plan.posix_spec.Run.{after_call, Unfinished}
use Rattle.in_place.specs.write_plan.posix_spec.State.{alone, State, with_file}
use Rattle.in_place.specs.live_model.write_jobs.world_model.crash_spec.Sync.{with_bytes}
use Rattle.in_place.specs.live_model.write_jobs.world_image_laws.world_model.JobLaws.{acted, HoldsWhole-found, live_claims-more}
use Rattle.in_place.specs.live_model.write_jobs.world_image_laws.world_model.TreeRules.{used_below}
use Rattle.in_place.specs.live_model.write_jobs.world_image_laws.world_model.Jobs.{HoldsWhole, live_claims, staged_block, unfinished_call}
use Rattle.in_place.specs.live_model.write_jobs.world_image_laws.world_model.Stands.{entries_of, FileStands, is_used, NodeStands, number}
use Rattle.in_place.specs.live_model.write_jobs.world_image_laws.Changed.{sound_headed}
use Rattle.in_place.specs.live_model.write_jobs.world_image_laws.volume_laws.ImageLaws.{journaled-other}
use Rattle.in_place.specs.live_model.write_jobs.world_image_laws.volume_laws.LineWords.{data_word}
use Rattle.in_place.specs.live_model.write_jobs.Jobs.{FilledView, HoldWords, loan_at}
use Rattle.in_place.specs.live_model.write_jobs.Loans.{ComeBack}
use Rattle.in_place.specs.live_model.Flying.{IsFlying, with_entry}
use Rattle.in_place.proofs.live_model_proofs.FlightsFlights.{flies_landed}
use Rattle.in_place.specs.live_model.write_jobs.Blocks.{SpellWhole}
use Rattle.in_place.specs.live_model.Standing.{AreOfTwoThreads, file_state, IsQuietBeside, IsSpellable, JobOut, reserved_run, StandsAt}
use Rattle.in_place.specs.live_model.Jobs.{SpellCall, without}
use Rattle.in_place.specs.write_plan.Asks.{CanMoveBy, moved_by}
use Rattle.in_place.specs.write_plan.AsksLaws.{AreOfState}
use Rattle.in_place.proofs.write_plan_proofs.Calls.{may_move as may_move_there, moves_as_call, open_moved}
use Rattle.write_end.specs.Ends.{finished, HasJob}
use Rattle.write_end.specs.Landing.{HasLanded}
use Rattle.write_end.proofs.Ending.{claims, flying, is_file, j, loans_count, numbers, others, place_is, put_back, spelled, split, stood, v, valid, words}
use Rattle.write_end.proofs.Ended.{holds_spelled, single_word}
use Rattle.write_end.proofs.Fliers.{others_fly, present_on, whole_own}
use Rattle.write_end.proofs.Homes.{has_blocks_out}
use Rattle.write_end.proofs.Jobs.{in_data_block}
use Rattle.write_end.proofs.Laid.{bare_still, overlays_are, sizes_are}
use Rattle.write_end.proofs.EndsPending.{apart_of, IsJobOf, job_of, left_there, stands_of}
use Rattle.write_end.proofs.Settled.{agrees_still, free_single_still, lines_still, quiet_still}

-- ---- lists

-- an entry more is at most one of a file's more
entries_more : (ino : ℕ) (live : List Draft) (d : Draft) → length (entries_of ino (live ++ d ∷ [])) ≤ length (entries_of ino live) + 1
entries_more ino [] d = by (d.ino == ino) where
  by : (b : Bool) → length (cond b (d ∷ []) []) ≤ 1
  by true = omega arith
  by false = omega arith
entries_more ino (x ∷ live) d = by (x.ino == ino) (entries_more ino live d) where
  by : (b : Bool) → length (entries_of ino (live ++ d ∷ [])) ≤ length (entries_of ino live) + 1
      → length (cond b (x ∷ entries_of ino (live ++ d ∷ [])) (entries_of ino (live ++ d ∷ []))) ≤ length (cond b (x ∷ entries_of ino live) (entries_of ino live)) + 1
  by true rest = omega (arith, rest)
  by false rest = rest

-- ---- files of the state

file_node : (v : Volume) (live : List Draft) (f : Words) (ino : ℕ) (kind : Kind) (node : Node) → kind ≡ File → NodeStands v live f ino kind node → FileStands v live f ino (bytes_of node)
file_node v live f ino Free node file is = absurd is
file_node v live f ino Staging node file is = absurd is
file_node v live f ino Directory node file is = cc
file_node v live f ino File Node.Gone file is = absurd is
file_node v live f ino File Node.Directory file is = absurd is
file_node v live f ino File (Node.File x) file is = is

-- what a call puts is one thing
puts_one : (s : State) (who : Who) (call : Call) (m n : ℕ) (a b : List ℕ) → PutsWhole s who call m a → PutsWhole s who call n b → a ≡ b
puts_one s who call m n a b one two = sym one.whole_is ∙ (ap (put_bytes s) (same_Some one.put two.put (sym one.is ∙ two.is)) ∙ two.whole_is)

same_tables : (x : State) (n : ℕ) (bytes : List ℕ) → (with_bytes x n bytes).tables ≡ x.tables
unfolding with_file
same_tables x n bytes = refl

same_entries : (x : State) (n : ℕ) (bytes : List ℕ) → (with_bytes x n bytes).entries ≡ x.entries
unfolding with_file
same_entries x n bytes = refl

module _ (k : View) (job : FilledView) (has : HasJob k job) where
  length_at : (ino : ℕ) → is_open has.t ino ≡ true → length (bytes_of (node_at has.s.nodes (number (numbers k job has) ino))) ≡ size_in has.kept.files ino
  length_at ino opened =
      let file = has.stands.open_are_files ino opened in
      let node = node_at has.s.nodes (number (numbers k job has) ino) in
      let stands = file_node k.volume (live_claims k.volume (claims k job has)) (words k job has) ino (inode k.volume ino).kind node file ((valid k job has).stands.nodes.each ino (ap is_used file)) in
      sym stands.size ∙ sym (has.stands.flying.overlays ino file).size_is

  of_state : AreOfState has.s (number (numbers k job has)) has.t has.kept.files
  of_state = record { tables = has.stands.tables; sizes = length_at }

  open_below : (ino : ℕ) → is_open has.t ino ≡ true → ino < length has.kept.files.sizes
  open_below ino opened = let below = used_below k.volume ino (ap is_used (has.stands.open_are_files ino opened)) in omega (arith, below, has.stands.sizes.count)

  puts : PutsWhole has.s has.p.who has.p.call (number (numbers k job has) (j k job has).draft.ino) (j k job has).whole
  puts =
      subst (λ (c : Call). PutsWhole has.s has.p.who c (number (numbers k job has) (j k job has).draft.ino) (j k job has).whole) (split k job has).call
      (subst (λ (w : Who). PutsWhole has.s w (j k job has).call (number (numbers k job has) (j k job has).draft.ino) (j k job has).whole) (split k job has).who (stood k job has).puts)

  -- the offset may move
  pub may_move : CanMoveBy has.t has.kept.files has.p.who has.p.call
  may_move = may_move_there has.s (number (numbers k job has)) has.t has.kept.files has.p.who has.p.call puts.put of_state open_below puts.is

  -- of another that is out the file is another one
  other_file : (q : JobOut) → In q (without has.p.who has.kept.pending) → q.draft.ino ≢ has.p.draft.ino
  other_file q is same =
      let its = job_of (without has.p.who has.kept.pending) (others k job has) q (split k job has).rest is in
      (apart_of (j k job has) (others k job has) its.job (valid k job has).out.1 its.there).files
      (ap (λ (d : Draft). d.ino) (split k job has).draft ∙ sym same ∙ ap (λ (d : Draft). d.ino) (sym its.draft))

  module _ (e : List Cell) (u : Tables) (new : Files) (slot : ℕ) (hold : HoldWords job.loans job.words) (back : ComeBack job.loans k.cells e) (order : IsInOrder (record k { cells = e }))
      (moved : u ≡ moved_by has.t has.kept.files has.p.who has.p.call)
      (lays : ChangesFile has.p.draft.ino (runs_in has.kept.files has.p.draft.ino ++ run_of has.p.draft ∷ []) has.p.draft.size has.kept.files new) where
    abbrev d : Draft
    d = has.p.draft

    -- the state with what is found of it
    abbrev next : State
    next = acted (numbers k job has) has.s (j k job has)

    abbrev claims_then : List (ℕ × Draft)
    claims_then = has.kept.claims ++ (slot, d) ∷ []

    begun_is : unfinished_call (j k job has) ≡ (has.p.who, has.p.call)
    begun_is = λ i. ((split k job has).who i, (split k job has).call i)

    now : IsFlying k.volume e claims_then (others k job has) (with_entry (file_state has.kept.files) d) (numbers k job has) next has.stands.count
    now =
        subst (λ (x : Draft). IsFlying k.volume e (has.kept.claims ++ (slot, x) ∷ []) (others k job has) (with_entry (file_state has.kept.files) x) (numbers k job has) next has.stands.count)
        (split k job has).draft
        (flies_landed k.volume k.cells e (claims k job has) (split k job has).a (j k job has) (split k job has).b (file_state has.kept.files) (numbers k job has) has.s has.stands.count slot job.loans job.words (flying k job has)
        (put_back k job has e back) (loans_count k job has) hold (spelled k job has))

    alive : is_live k.volume d ≡ true
    alive = subst (λ (x : Draft). is_live k.volume x ≡ true) (split k job has).draft (stood k job has).alive

    live_is : live_claims k.volume claims_then ≡ live_claims k.volume has.kept.claims ++ d ∷ []
    live_is = live_claims-more k.volume has.kept.claims slot d alive

    file : (inode k.volume d.ino).kind ≡ File
    file = subst (λ (x : Draft). (inode k.volume x.ino).kind ≡ File) (split k job has).draft (is_file k job has)

    below : d.ino < length has.kept.files.sizes
    below = let short = used_below k.volume d.ino (ap is_used file) in omega (arith, short, has.stands.sizes.count)

    there : (q : JobOut) → In q (without has.p.who has.kept.pending) → In q has.kept.pending
    there q is = left_there has.p.who has.kept.pending q is

    claim : (x : Draft) → In x (live_claims k.volume claims_then) → In x (live_claims k.volume has.kept.claims) ⊎ (d ≡ x)
    claim x is = pushed-In (live_claims k.volume has.kept.claims) d x (subst (In x) live_is is)

    tables : next.tables ≡ numbered_as (number (numbers k job has)) u
    tables =
        same_tables (after_call has.s (unfinished_call (j k job has))) (number (numbers k job has) (j k job has).draft.ino) (j k job has).found
        ∙ ap (λ (c : Unfinished). (after_call has.s c).tables) begun_is
        ∙ (moves_as_call has.s (number (numbers k job has)) has.t has.kept.files has.p.who has.p.call puts.put of_state puts.is
        ∙ ap (numbered_as (number (numbers k job has))) (sym moved))

    -- THE WORLD STANDS TOGETHER
    stands : StandsAt has.g (record k { cells = e }) u (finished has.kept slot has.p new) true (has.n + 1) next
    stands = record {
      count = has.stands.count;
      few = omega (arith, has.stands.few);
      numbers = numbers k job has;
      jobs = others k job has;
      jobs_are = (split k job has).rest;
      order = order;
      unbatched = has.stands.unbatched;
      on = has.stands.on;
      geometry = has.stands.geometry;
      flying = record {
        device = now.device;
        whole = now.whole;
        out = now.out;
        home = now.home;
        overlays = overlays_are d has.kept.files new lays below k.volume (live_claims k.volume claims_then) now.overlays;
      };
      lines = lines_still k job has e back hold (finished has.kept slot has.p new) refl has.stands.lines;
      quiet = subst (λ (g : Geometry). IsQuietBeside g e) has.stands.geometry
          (quiet_still k job has e back hold (subst (λ (g : Geometry). IsQuietBeside g k.cells) (sym has.stands.geometry) has.stands.quiet));
      blocks = λ q is. has.stands.blocks q (there q is);
      callers = AllPairs-filter AreOfTwoThreads (λ (q : JobOut). not (same_who q.who has.p.who)) has.kept.pending has.stands.callers;
      tables = tables;
      open_are_files = λ ino is. has.stands.open_are_files ino (sym (open_moved has.t has.kept.files has.p.who has.p.call ino) ∙ (ap (λ (x : Tables). is_open x ino) (sym moved) ∙ is));
      ordered = subst AreOrdered (sym (same_entries (after_call has.s (unfinished_call (j k job has))) (number (numbers k job has) (j k job has).draft.ino) (j k job has).found))
          (AreOrdered-step_of alone has.s (j k job has).who (j k job has).call has.stands.ordered);
      sizes = sizes_are d has.kept.files new lays below k.volume (live_claims k.volume claims_then) now.overlays file (live_claims k.volume has.kept.claims) has.stands.sizes;
      bare = bare_still d has.kept.files new lays below k.volume (live_claims k.volume claims_then) now.overlays file has.stands.bare;
      staged = has.stands.staged;
      agrees = agrees_still k job has e back hold (record k { cells = e }) refl has.kept.staging has.stands.agrees;
      free_single = free_single_still k job has e back hold (record k { cells = e }) refl has.kept.staging has.stands.free_single;
      drafts = λ x is. elim (claim x is) [
        | inl old ↦ has.stands.drafts x old
        | inr same ↦ subst IsSpellable ((split k job has).draft ∙ same) (record { fields = (stood k job has).draft; fits = (stood k job has).fields })
      ];
      low = λ ino.
          let was = has.stands.low ino in
          let more = entries_more ino (live_claims k.volume has.kept.claims) d in
          omega (arith, was, more, ap (λ (live : List Draft). length (entries_of ino live)) live_is);
      claims_out = λ x is. elim (claim x is) [
        | inl old ↦ has.stands.claims_out x old
        | inr same ↦ subst (λ (y : Draft). Contains has.kept.staging.out (reserved_run y)) same (has.stands.jobs_out has.p has.out.there)
      ];
      jobs_out = λ q is. has.stands.jobs_out q (there q is);
      spare = λ q is. (let was = has.stands.spare q (there q is) in omega (arith, was, lays.spares q.draft.ino (other_file q is)));
      owed =
          let was = has.stands.owed in
          omega (
            arith,
            was,
            ap length live_is,
            length_push (live_claims k.volume has.kept.claims) d,
            ap length (split k job has).jobs_are,
            length-append (split k job has).a (j k job has ∷ (split k job has).b),
            length-append (split k job has).a (split k job has).b,
          );
    }

    -- the others are to hold the same words
    words_stay : (q : JobOut) (ws : List ℕ) → In q (without has.p.who has.kept.pending) → SpellCall has.s q ws → SpellCall (after_call has.s (has.p.who, has.p.call)) q ws
    words_stay q ws is spells node whole puts_now =
        subst (SpellWhole q.draft ws) (sym same) (spells (number (numbers k job has) its.job.draft.ino) its.job.whole before) where
          its : IsJobOf q (others k job has)
          its = job_of (without has.p.who has.kept.pending) (others k job has) q (split k job has).rest is

          of_q : (st : State) → PutsWhole st its.job.who its.job.call (number (numbers k job has) its.job.draft.ino) its.job.whole → PutsWhole st q.who q.call (number (numbers k job has) its.job.draft.ino) its.job.whole
          of_q st p =
              subst (λ (c : Call). PutsWhole st q.who c (number (numbers k job has) its.job.draft.ino) its.job.whole) its.call
              (subst (λ (w : Who). PutsWhole st w its.job.call (number (numbers k job has) its.job.draft.ino) its.job.whole) its.who p)

          before : PutsWhole has.s q.who q.call (number (numbers k job has) its.job.draft.ino) its.job.whole
          before = of_q has.s (stands_of k.volume (live_claims k.volume has.kept.claims) (words k job has) (numbers k job has) has.s (others k job has) its.job (valid k job has).out.2 its.there).puts

          after : PutsWhole (after_call has.s (has.p.who, has.p.call)) q.who q.call (number (numbers k job has) its.job.draft.ino) its.job.whole
          after =
              of_q (after_call has.s (has.p.who, has.p.call))
              (subst (λ (c : Unfinished). PutsWhole (after_call has.s c) its.job.who its.job.call (number (numbers k job has) its.job.draft.ino) its.job.whole) begun_is
              (others_fly k job has (split k job has).a (j k job has) (split k job has).b (split k job has).jobs_are its.job its.there).puts)

          same : whole ≡ its.job.whole
          same = puts_one (after_call has.s (has.p.who, has.p.call)) q.who q.call node (number (numbers k job has) its.job.draft.ino) whole its.job.whole puts_now after

    -- its blocks hold what is found of it
    held : (image : Words) → IsImage e image → HoldsWhole k.volume (journaled image) (j k job has).draft (j k job has).found
    held image image_is =
        HoldsWhole-found k.volume (live_claims k.volume has.kept.claims) (words k job has) (journaled image) (numbers k job has) has.s (j k job has) (stood k job has)
        (holds_spelled k.volume image (j k job has).draft job.words (j k job has).whole has_words (spelled k job has)) where
          has_words : (n b : ℕ) → n < (j k job has).draft.count → staged_block k.volume (j k job has).draft n ≡ Some b → (w : ℕ) → w / 512 ≡ b → journaled image w ≡ slice_index job.words (512 * n + w % 512)
          has_words n b below at w word =
              let within : n < length job.loans = omega (arith, below, loans_count k job has) in
              let there : w / 512 ≡ (loan_at job.loans n).place = word ∙ place_is k job has n b below at in
              let in_data = in_data_block k.volume (valid k job has).stands.sane (j k job has).draft n b (stood k job has).staging at in
              let behind = data_word k.volume.geometry b (w % 512) in_data (omega arith) in
              let read : journaled image w ≡ image w =
              journaled-other k.volume.geometry image w (sound_headed k.volume.geometry image (now.device.headed image image_is)) (behind_log-words k.volume.geometry w (omega (arith, word, behind)))
              (behind_log-not_journaled k.volume.geometry (w / 8) (omega (arith, word, behind)))
              in
              read
              ∙ single_word (cell (loan_at job.loans n).cells (w % 512)) (slice_index job.words (512 * n + w % 512)) (image w) (hold n (w % 512) within (omega arith))
              (subst (λ c. IsCandidate c (image w)) (back.words n w within there) (image_is w))

    pub lands : (l : View) → l ≡ record k { cells = e } → HasLanded k job has slot l u new
    unfolding stands
    lands l same =
        subst (λ (w : View). HasLanded k job has slot w u new) (sym same) (record {
          a = (split k job has).a;
          j = j k job has;
          b = (split k job has).b;
          jobs_are = (split k job has).jobs_are;
          who = (split k job has).who;
          call = (split k job has).call;
          draft = (split k job has).draft;
          whole = λ strict. whole_own (split k job has).a (j k job has) (split k job has).b ((flying k job has).whole strict);
          parts = (stood k job has).parts;
          present =
              present_on k job has (split k job has).a (j k job has) (split k job has).b (split k job has).jobs_are new d
              (subst (λ (x : Draft). runs_in new x.ino ≡ runs_in has.kept.files x.ino ++ run_of d ∷ []) (sym (split k job has).draft) lays.runs_are);
          stands = stands;
          rest = refl;
          held = held;
          numbers = refl;
          same = refl;
          home = record { out = has.out; lent = has_blocks_out has.g k has.t has.kept has.n has.s has.p has.stands has.out.there; holds = hold; back = back };
          words = words_stay;
        })
