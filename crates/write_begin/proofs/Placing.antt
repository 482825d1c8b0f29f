-- A write flies beside the jobs that are out, and its bytes are written where they lie.
use Rattle.std.specs.Prelude.{◌≡◌, ◌≢◌, ◌≤◌, ◌<◌, ◌⊎◌, ◌+◌, ◌-◌, ◌/◌, ℕ, suc, true, AllPairs, List, [], ◌∷◌, drop, length, Option, None, slice_index, slice_index_or, sum_by, refl}
use Rattle.std.proofs.Common.{arith, ap, ◌∙◌, sym, subst, inl, inr}
use Rattle.std.proofs.lemmas.Bool.{cases_eq}
use Rattle.std.proofs.lemmas.List.{append-nil, get_or-drop, get_or-set_other, get_or-set_same, length-drop, length-set}
use Rattle.posix_types.specs.declared.call.Mode.{Mode}
use Rattle.posix_types.specs.declared.call.Who.{Who}
use Rattle.posix_types.specs.declared.item.Item.{Item}
use Rattle.write_jobs.specs.pm_model.ImageLaws.{IsImage-words_of}
use Rattle.write_jobs.specs.pm_model.Images.{words_of}
use Rattle.write_jobs.specs.pm_model.Words.{Words}
use Rattle.write_jobs.specs.layout_model.Journal.{journaled}
use Rattle.write_jobs.specs.layout_model.declared.lines.Draft.{Draft}
use Rattle.write_jobs.specs.layout_model.declared.lines.Kind.{Kind}
use Rattle.write_jobs.specs.layout_model.declared.lines.Kind.TheVariants.{Free, Directory, File, Staging}
use Rattle.write_jobs.specs.image_model.Volume.{inode, Volume}
use Rattle.write_plan.specs.file_table.Files.{Files, size_in}
use Rattle.write_plan.specs.k_split_model.View.{View}
use Rattle.write_plan.specs.list_laws.Members.{In}
use Rattle.posix_tables.specs.Bytes.{overwritten}
use Rattle.posix_tables.specs.Nodes.{bytes_of, node_at}
use Rattle.posix_tables.specs.Open.{Tables}
use Rattle.posix_tables.specs.declared.nodes.File.{File as FileNode}
use Rattle.posix_tables.specs.declared.nodes.Node.{Node}
use Rattle.posix_laws.specs.FitsLaws.{length-overwritten}
use Rattle.posix_laws.specs.Orders.{AreOrdered}
use Rattle.posix_laws.specs.Puts.{LeavesWhole, PutsWhole, with_whole}
use Rattle.posix_laws.specs.Views.{need_of}
use Rattle.posix_laws.specs.posix_spec.Run.{after_call, run, Unfinished}
use Rattle.posix_laws.specs.posix_spec.State.{State, with_file}
use Rattle.live_step_laws.specs.commute_laws.Flights.{InFlight}
use Rattle.live_step_laws.specs.commute_laws.Frames.{AreThreads}
use Rattle.live_step_laws.specs.commute_laws.Needs as flying
use Rattle.live_step_laws.specs.commute_laws.Needs.{Flight, IsApart, needs-cons}
use Rattle.live_step_laws.specs.commute_laws.Orders.{AreTwoEach}
use Rattle.live_step_laws.specs.live_model.Standing.{AreJobsOf, AreOfTwoThreads, JobOut, StandsAt}
use Rattle.live_step_laws.specs.staging_files.Keeps.{Staged}
use Rattle.live_step_laws.specs.world_image_laws.Amid.{among_last}
use Rattle.live_step_laws.specs.world_image_laws.Back.{IsPutBack}
use Rattle.live_step_laws.specs.world_image_laws.Promised.{IsKept}
use Rattle.live_step_laws.specs.world_image_laws.Places.{go_on_at_first}
use Rattle.live_step_laws.specs.world_model.Beside.{LeavesWhole-bytes, with_bytes-whole}
use Rattle.live_step_laws.specs.world_model.JobLaws.{live_used, needs}
use Rattle.live_step_laws.specs.world_model.Jobs.{ApartFrom, Job, JobsStand, JobStands, live_claims}
use Rattle.live_step_laws.specs.world_model.Stands.{FileStands, is_used, NodeStands, number, Stands}
use Rattle.live_step_laws.specs.world_step_laws.OtherCalls.{IsWorld-same, SameShown}
use Rattle.live_step_laws.specs.world_step_laws.Parts.{FliesWith, part_of}
use Rattle.live_step_laws.specs.world_step_laws.Steps.{AreInFlight-jobs, begun-flights, flight_of, flights_of, shown_node}
use Rattle.live_step_laws.specs.world_step_laws.Worlds.{IsWorld}
use Rattle.live_step_laws.specs.live_model.Losses.{KeepsWhenLost}
use Rattle.live_step_laws.proofs.Standing.{stands_still}
use Rattle.write_plan.specs.declared.asks.asking.Target.{Target}
use Rattle.write_plan.specs.Asks.{moved_by}
use Rattle.write_plan.specs.open_files.Numbered.{numbered_as}
use Rattle.write_plan.proofs.Calls.{moves_as_call, open_moved}
use Rattle.write_plan.proofs.Numbers.{file_node, stands_as_kept}
use Rattle.in_place.specs.Holes.{IsPresent}
use Rattle.in_place.specs.Placing.{CanPlace, LosesPlacing, Places, Placing}
use Rattle.write_begin.specs.Stages.{with_parts}
use Rattle.write_begin.specs.Goes.{FitsTarget, Goes, LosesTarget, PlacesTarget}
use Rattle.write_begin.proofs.BeginsAsked.{turned}
use Rattle.write_begin.proofs.Numbers.{written_there}

-- the node of a file is one
file_there : (v : Volume) (live : List Draft) (f : Words) (ino : ℕ) (kind : Kind) (node : Node) → kind ≡ File → NodeStands v live f ino kind node → (file : FileNode) × (node ≡ Node.File file)
file_there v live f ino Free node is stands = absurd stands
file_there v live f ino Staging node is stands = absurd stands
file_there v live f ino Directory node is stands = cc
file_there v live f ino File Node.Gone is stands = absurd stands
file_there v live f ino File Node.Directory is stands = absurd stands
file_there v live f ino File (Node.File file) is stands = (file, refl)

-- ---- jobs that are out, two threads and two files each

module _ (v : Volume) (live : List Draft) (f : Words) (numbers : List ℕ) (s : State) (stands : Stands v live f numbers s) where
  nodes_apart : (i j : Job) → JobStands v live f numbers s i → JobStands v live f numbers s j → i.draft.ino ≢ j.draft.ino → number numbers i.draft.ino ≢ number numbers j.draft.ino
  nodes_apart i j one two files same = files (stands.names.one i.draft.ino j.draft.ino (live_used v i.draft one.alive) (live_used v j.draft two.alive) same)

  apart : (p : JobOut) (i : Job) (pending : List JobOut) (jobs : List Job) → i.who ≡ p.who → AreJobsOf pending jobs
      → ((m : ℕ) (d : JobOut) → m < length pending → AreOfTwoThreads p (slice_index_or pending m d))
      → JobStands v live f numbers s i → ApartFrom i jobs → JobsStand v live f numbers s jobs → IsApart (flight_of numbers i) (flights_of numbers jobs)
  apart p i [] [] who are each one away out = tt
  apart p i [] (j ∷ jobs) who are each one away out = absurd are
  apart p i (q ∷ pending) [] who are each one away out = absurd are
  apart p i (q ∷ pending) (j ∷ jobs) who are each one away out = (
    record {
      threads = subst (λ w. AreThreads w i.who) (sym are.0) (subst (AreThreads q.who) (sym who) (each 0 q (omega arith)));
      files = nodes_apart i j one out.0 away.0.files;
    },
    apart p i pending jobs who are.3 (λ m d below. each (suc m) d (omega (arith, below))) one away.1 out.2,
  )

  two_each : (pending : List JobOut) (jobs : List Job) → AreJobsOf pending jobs → AllPairs AreOfTwoThreads pending → JobsStand v live f numbers s jobs → AreTwoEach (flights_of numbers jobs)
  two_each [] [] are callers out = tt
  two_each [] (j ∷ jobs) are callers out = absurd are
  two_each (p ∷ pending) [] are callers out = absurd are
  two_each (p ∷ pending) (j ∷ jobs) are callers out = (
    apart p j pending jobs are.0 are.3 (λ m d below. callers 0 (suc m) d (omega arith) (omega (arith, below))) out.0 out.1 out.2,
    two_each pending jobs are.3 (λ a b d lt below. callers (suc a) (suc b) d (omega (arith, lt)) (omega (arith, below))) out.2,
  )

module _ (mode : Mode) (k : View) (staging : Staged) (files : Files) (who : Who) (target : Target) (x : List ℕ) (goes : Goes mode k staging files who target x) where
  abbrev node : ℕ
  node = number goes.stands.numbers target.ino

  abbrev pub old : List ℕ
  old = bytes_of (node_at goes.s.nodes node)

  abbrev place : ℕ
  place = goes.puts.put.place

  abbrev bytes : List ℕ
  bytes = goes.puts.put.bytes

  abbrev whole : List ℕ
  whole = overwritten old place bytes

  abbrev pub flight : Flight
  flight = record { begun = (who, goes.call); node = node; whole = whole }

  abbrev t : Tables
  t = moved_by goes.t files who goes.call

  world : IsWorld k.volume goes.kept.claims goes.stands.jobs (journaled (words_of k.cells)) goes.stands.numbers goes.s goes.stands.count
  world = goes.stands.flying.device.world (words_of k.cells) (IsImage-words_of k.cells)

  pub file : (inode k.volume target.ino).kind ≡ File
  file = goes.stands.open_are_files target.ino goes.opened

  own_stands : NodeStands k.volume (live_claims k.volume goes.kept.claims) (journaled (words_of k.cells)) target.ino (inode k.volume target.ino).kind (node_at goes.s.nodes node)
  own_stands = world.valid.stands.nodes.each target.ino (ap is_used file)

  there : node < length goes.s.nodes
  there = world.valid.stands.names.within target.ino (ap is_used file)

  pub size_old : length old ≡ size_in files target.ino
  size_old =
      let bytes_stand : FileStands k.volume (live_claims k.volume goes.kept.claims) (journaled (words_of k.cells)) target.ino old =
      file_node k.volume (live_claims k.volume goes.kept.claims) (journaled (words_of k.cells)) target.ino (inode k.volume target.ino).kind (node_at goes.s.nodes node) file own_stands
      in
      let of_file = bytes_stand.size in
      let of_table = goes.stands.sizes.files target.ino file in
      omega (arith, of_file, of_table)

  puts : PutsWhole goes.s who goes.call node whole
  puts = record {
    put = goes.puts.put;
    is = goes.puts.is;
    node_is = goes.puts.node_is;
    whole_is = ap (λ n. overwritten (bytes_of (node_at goes.s.nodes n)) place bytes) goes.puts.node_is;
  }

  -- ---- it flies beside them

  in_flight : InFlight goes.s (who, goes.call) node whole
  in_flight =
      let own = file_there k.volume (live_claims k.volume goes.kept.claims) (journaled (words_of k.cells)) target.ino (inode k.volume target.ino).kind (node_at goes.s.nodes node) file own_stands in
      record { puts = puts; file = own.0; is = own.1 }

  away : (pending : List JobOut) (jobs : List Job) → AreJobsOf pending jobs → ((p : JobOut) → In p pending → AreThreads who p.who) → ((j : Job) → In j jobs → j.draft.ino ≢ target.ino)
      → JobsStand k.volume (live_claims k.volume goes.kept.claims) (journaled (words_of k.cells)) goes.stands.numbers goes.s jobs → IsApart flight (flights_of goes.stands.numbers jobs)
  away [] [] are callers others out = tt
  away [] (j ∷ jobs) are callers others out = absurd are
  away (q ∷ pending) [] are callers others out = absurd are
  away (q ∷ pending) (j ∷ jobs) are callers others out = (
    record {
      threads = subst (λ w. AreThreads w who) (sym are.0) (turned who q.who (callers q (inl refl)));
      files = λ same. others j (inl refl) (sym (world.valid.stands.names.one target.ino j.draft.ino (ap is_used file) (live_used k.volume j.draft out.0.alive) same));
    },
    away pending jobs are.3 (λ p is. callers p (inr is)) (λ i is. others i (inr is)) out.2,
  )

  pub flies : FliesWith goes.s flight goes.stands.numbers goes.stands.jobs
  flies = record {
    flying = (in_flight, AreInFlight-jobs k.volume (live_claims k.volume goes.kept.claims) (journaled (words_of k.cells)) goes.stands.numbers goes.s goes.stands.jobs world.valid.stands world.valid.out);
    two = (
      away goes.kept.pending goes.stands.jobs goes.stands.jobs_are goes.callers goes.others world.valid.out,
      two_each k.volume (live_claims k.volume goes.kept.claims) (journaled (words_of k.cells)) goes.stands.numbers goes.s world.valid.stands goes.kept.pending goes.stands.jobs goes.stands.jobs_are goes.stands.callers world.valid.out,
    );
    fits =
        let all = needs-cons goes.s flight (flights_of goes.stands.numbers goes.stands.jobs) in
        let same : flying.needs goes.s (flights_of goes.stands.numbers goes.stands.jobs) ≡ needs goes.s goes.stands.jobs =
        ap (sum_by (λ (c : Unfinished). need_of goes.s c.0 c.1)) (begun-flights goes.stands.numbers goes.stands.jobs)
        in
        let fit = goes.fits in
        omega (arith, all, same, fit);
    held = world.valid.fits;
  }

  -- ---- no byte of it is written

  leaves : (b : List ℕ) → LeavesWhole goes.s (part_of goes.s flight b) node b
  leaves b = LeavesWhole-bytes goes.s (who, goes.call) node whole b puts there

  shown : SameShown goes.s (part_of goes.s flight old)
  shown = record {
    entries = (leaves old).entries;
    count = ap length (leaves old).nodes ∙ length-set goes.s.nodes node (with_whole goes.s node old);
    nodes = λ n. nodes n (cases_eq n node);
    shape = (leaves old).shape;
  } where
    own : (f : FileNode) × (node_at goes.s.nodes node ≡ Node.File f)
    own = file_there k.volume (live_claims k.volume goes.kept.claims) (journaled (words_of k.cells)) target.ino (inode k.volume target.ino).kind (node_at goes.s.nodes node) file own_stands

    own_shown : shown_node (node_at (part_of goes.s flight old).nodes node) ≡ shown_node (node_at goes.s.nodes node)
    own_shown =
        ap shown_node (ap (λ xs. node_at xs node) (leaves old).nodes ∙ get_or-set_same goes.s.nodes node (with_whole goes.s node old) Node.Gone there)
        ∙ ((λ i. Node.File (record { bytes = bytes_of (own.1 i); published = 0 })) ∙ ap shown_node (sym own.1))

    nodes : (n : ℕ) → (n ≡ node) ⊎ (n ≢ node) → shown_node (node_at (part_of goes.s flight old).nodes n) ≡ shown_node (node_at goes.s.nodes n)
    nodes n (inl same) = subst (λ m. shown_node (node_at (part_of goes.s flight old).nodes m) ≡ shown_node (node_at goes.s.nodes m)) (sym same) own_shown
    nodes n (inr other) = ap shown_node (ap (λ xs. node_at xs n) (leaves old).nodes ∙ get_or-set_other goes.s.nodes node n (with_whole goes.s node old) Node.Gone other)

  same_tables : (b : List ℕ) → (part_of goes.s flight b).tables ≡ (after_call goes.s (who, goes.call)).tables
  unfolding with_file
  same_tables b = refl

  tables_then : (part_of goes.s flight old).tables ≡ numbered_as (number goes.stands.numbers) t
  tables_then =
      same_tables old
      ∙ moves_as_call goes.s (number goes.stands.numbers) goes.t files who goes.call goes.puts.put
      (stands_as_kept goes.g k goes.t (with_parts goes.kept staging files) true goes.n goes.s goes.stands) goes.puts.is

  module _ (fits : FitsTarget files target (length x)) (within : target.start + length x ≤ target.size) where
    long : length x ≡ length bytes - (target.start - place)
    long = ap length goes.puts.bytes ∙ length-drop (target.start - place) bytes

    old_long : length old ≡ target.size
    old_long = size_old ∙ sym fits.size

    pub same_long : length old ≡ length whole
    same_long =
        let some = fits.some in
        let after = goes.puts.place in
        omega (arith, long, old_long, within, some, after, length-overwritten old place bytes)

    -- the World stands together in the state after it, but that its file has its old bytes
    pub stood : (now : StandsAt goes.g k t (with_parts goes.kept staging files) true (goes.n + 1) (part_of goes.s flight old)) × (now.jobs ≡ goes.stands.jobs) × (now.numbers ≡ goes.stands.numbers)
    stood =
        stands_still goes.g k goes.t t (with_parts goes.kept staging files) true goes.n goes.s (part_of goes.s flight old) goes.stands (leaves old).shape (leaves old).mode
        (λ f is. IsWorld-same k.volume goes.kept.claims goes.stands.jobs f goes.stands.numbers goes.s (part_of goes.s flight old) goes.stands.count is (go_on_at_first goes.s flight goes.stands.numbers goes.stands.jobs old flies same_long) shown)
        tables_then (λ ino is. goes.stands.open_are_files ino (sym (open_moved goes.t files who goes.call ino) ∙ is)) (subst AreOrdered (sym (leaves old).entries) goes.stands.ordered)

    abbrev pub placing : mode ≡ Mode.Sync → Placing k t files target.ino old
    placing sync = record {
      g = goes.g;
      kept = with_parts goes.kept staging files;
      n = goes.n + 1;
      s = goes.s;
      sync = goes.mode_is ∙ sync;
      f = flight;
      stands = stood.0;
      file = file;
      node = ap (λ ns. number ns target.ino) (sym stood.2);
      others = λ j is. goes.others j (subst (In j) stood.1 is);
      flies = subst (λ ns. FliesWith goes.s flight ns stood.0.jobs) (sym stood.2) (subst (FliesWith goes.s flight goes.stands.numbers) (sym stood.1) flies);
      part = record { size = same_long; each = λ i below. inr (below, refl) };
    }

    inside : target.start + length x ≤ length old
    inside = omega (arith, old_long, within)

    puts_there : (i : ℕ) → i < length x → slice_index whole (target.start + i) ≡ slice_index x i
    puts_there i below =
        let after = goes.puts.place in
        let at : target.start + i - place ≡ target.start - place + i = omega (arith, after) in
        written_there old bytes place (target.start + i) (omega (arith, after)) (omega (arith, after, long, below))
        ∙ (ap (slice_index bytes) at ∙ (sym (get_or-drop (target.start - place) bytes i 0) ∙ ap (λ (xs : List ℕ). slice_index xs i) (sym goes.puts.bytes)))

    -- THE BYTES MAY BE WRITTEN
    pub may_place : mode ≡ Mode.Sync → ((i : ℕ) → target.start ≤ i → i < target.start + length x → IsPresent k.volume files target.ino (i / 4096)) → CanPlace k files target.ino target.start x
    may_place sync present = record {
      t = t;
      now = old;
      placing = placing sync;
      short = fits.most;
      fits = fits.fits;
      within = inside;
      puts = puts_there;
      present = present;
    }

    -- written, the World stands together in the state after it
    pub placed_then : (l : View) → mode ≡ Mode.Sync → Places k l files target.ino target.start x → place ≡ target.start
        → StandsAt goes.g l t (with_parts goes.kept staging files) true (goes.n + 1) (after_call goes.s (who, goes.call))
    placed_then l sync places first =
        let on = places.goes_on t old (placing sync) inside puts_there in
        let all : overwritten old target.start x ≡ whole =
        (λ i. overwritten old (sym first i) ((goes.puts.bytes ∙ ap (λ n. drop n bytes) {x = target.start - place} {y = 0} (omega (arith, first))) i))
        in
        subst (StandsAt goes.g l t (with_parts goes.kept staging files) true (goes.n + 1)) (ap (part_of goes.s flight) all ∙ with_bytes-whole goes.s (who, goes.call) node whole puts there) on.stands

    -- where the power went in it, the promise is kept with it as the last call
    pub placed_lost : (l : View) (start : State) (history : List Item) → mode ≡ Mode.Sync → LosesPlacing k l files target.ino target.start x → goes.s ≡ run start history
        → KeepsWhenLost k.volume l.cells goes.kept goes.stands.jobs start history ((who, goes.call) ∷ [])
    placed_lost l start history sync loses same not_posix =
        let kept = loses.kept t old (placing sync) start history goes.stands.jobs [] same (stood.1 ∙ sym (append-nil goes.stands.jobs)) inside puts_there in
        λ back slots image is.
        subst (λ calls. IsKept k.volume.geometry start history calls image) (among_last slots goes.stands.jobs (who, goes.call))
        (kept back slots image (subst (λ (js : List Job). IsPutBack k.volume l.cells back goes.kept.first goes.kept.claims js slots image) (sym (append-nil goes.stands.jobs)) is))

-- ---- what `put_in_place` leaves of it

module _ (mode : Mode) (k l : View) (staging : Staged) (files : Files) (who : Who) (target : Target) (x : List ℕ) (sync : mode ≡ Mode.Sync) (fits : FitsTarget files target (length x)) (within : target.start + length x ≤ target.size) where
  pub places_target : Places k l files target.ino target.start x → (run : Option (ℕ × ℕ)) → run ≡ None → PlacesTarget mode k l staging staging files files who target x run
  places_target places run none = record {
    none = none;
    same = refl;
    kept = refl;
    in_place = places.same;
    stands = λ goes. placed_then mode k staging files who target x goes.0 fits within l sync places goes.1;
  }

  pub loses_target : LosesPlacing k l files target.ino target.start x → LosesTarget mode k l staging files who target x
  loses_target loses = record {
    left = λ goes. loses.left (moved_by goes.t files who goes.call) (old mode k staging files who target x goes) (placing mode k staging files who target x goes fits within sync);
    kept = λ goes start history same. placed_lost mode k staging files who target x goes fits within l start history sync loses same;
  }
