-- What a `truncate` answers and leaves, each answer.
use Rattle.std.specs.Prelude.{◌≡◌, ◌≢◌, ◌≤◌, ◌<◌, ◌+◌, ◌-◌, ℕ, true, false, List, [], ◌∷◌, length, Some, None, Result, Ok, Err, refl}
use Rattle.std.proofs.Common.{arith, ap, ◌∙◌, sym, subst, inl, inr}
use Rattle.in_place.specs.pm_model.declared.Cell.{Cell}
use Rattle.in_place.specs.pm_model.Images.{IsImage}
use Rattle.in_place.specs.pm_model.Powers.{is_on, Steps, Supply}
use Rattle.in_place.specs.pm_model.Words.{Words}
use Rattle.in_place.specs.layout_model.Journal.{journaled}
use Rattle.in_place.specs.layout_model.Places.{Geometry}
use Rattle.in_place.specs.layout_model.declared.lines.Kind.TheVariants.{File}
use Rattle.in_place.specs.write_plan.image_model.Volume.{inode, Volume}
use Rattle.file_calls.proofs.eof_laws_proofs.Ending.{end_sized}
use Rattle.file_calls.specs.eof_laws.Ends.{FilesEnd}
use Rattle.in_place.specs.write_plan.file_table.Files.{Files, runs_in, size_in}
use Rattle.in_place.specs.write_plan.k_journal.declared.outcomes.Commit.{Commit}
use Rattle.in_place.specs.write_plan.k_split_model.View.{View}
use Rattle.in_place.specs.list_laws.Members.{In}
use Rattle.file_calls.proofs.k_split_laws_proofs.Cuts.{left_at, left_map_cut, left_overwritten, left_through}
use Rattle.file_calls.specs.k_split_laws.Left.{IsLeftOf}
use Rattle.posix_types.specs.declared.call.Call.{Call}
use Rattle.posix_types.specs.declared.call.Who.{Who}
use Rattle.posix_types.specs.declared.handle.Handle.{Handle}
use Rattle.posix_types.specs.declared.item.Item.{Item}
use Rattle.posix_types.specs.declared.item.Outcome.{Outcome}
use Rattle.posix_types.specs.declared.reply.Errno.{Errno}
use Rattle.posix_types.specs.declared.reply.Reply.{Reply}
use Rattle.posix_tables.specs.declared.open.Description.{Description}
use Rattle.posix_tables.specs.Open.{opened, Tables}
use Rattle.posix_tables.specs.Outcomes.{answer, first}
use Rattle.posix_tables.specs.Room.{growth}
use Rattle.in_place.specs.write_plan.posix_spec.FileRows.{content, truncate_rows}
use Rattle.in_place.specs.write_plan.crash_spec.Busy.{waits_for}
use Rattle.in_place.specs.write_plan.posix_spec.Run.{run}
use Rattle.in_place.specs.write_plan.posix_spec.State.{room, State}
use Rattle.in_place.specs.write_plan.posix_spec.Tree.{tree}
use Rattle.in_place.specs.write_plan.Numbers.{RoomIsKept}
use Rattle.in_place.specs.write_plan.Rows.{truncate_row_by}
use Rattle.in_place.specs.CleansLaws.{KeepsCleaned, MayClean, StandsCleaned}
use Rattle.file_truncate.proofs.Cut.{keeps_sized}
use Rattle.file_truncate.proofs.Sized.{stands_sized}
use Rattle.file_truncate.proofs.Zeros.{cleans_behind}
use Rattle.file_truncate.specs.Sizes.{AreZeros, MaySize}
use Rattle.file_calls.specs.live_step_laws.k_split.Bytes.{tail_zeros}
use Rattle.file_calls.specs.live_step_laws.k_split.declared.faults.KFault.{KFault}
use Rattle.file_calls.specs.live_step_laws.k_split.MapChanges.{IsSizeAnswer}
use Rattle.file_calls.specs.live_step_laws.k_plans.Whole.{IsWhole}
use Rattle.file_calls.specs.live_step_laws.world_model.JobLaws.{needs as needs_of}
use Rattle.file_calls.specs.live_step_laws.world_model.Jobs.{Job}
use Rattle.file_calls.specs.live_step_laws.world_model.Stands.{number}
use Rattle.file_calls.specs.live_step_laws.world_step_laws.Steps.{LetsJobsBe}
use Rattle.file_calls.specs.live_step_laws.live_model.Losses.{KeepsWhenLost}
use Rattle.file_calls.specs.live_step_laws.live_model.Standing.{Kept}
use Rattle.file_calls.specs.declared.names.outcomes.NoMemory.{NoMemory}
use Rattle.file_calls.specs.Runs.{RunsAs, with_files}
use Rattle.file_calls.proofs.CloseCalls.{handle_open}
use Rattle.file_calls.proofs.Running.{leaves_off, loses_off, runs_later, two_each, world}
use Rattle.file_truncate.specs.Truncates.{Answers, Finds, HasSize, IsAsked, IsClean, IsCleanAnswer, IsGiven, IsLacking, IsSpent, IsTruncated, IsTruncatePaid, lacking_by, LeavesEnough, LeavesLess, Loses, StillRuns}
use Rattle.file_truncate.specs.declared.truncates.asking.Asked.{Asked}
use Rattle.file_truncate.specs.declared.truncates.outcomes.Truncated.{Truncated}
use Rattle.file_truncate.proofs.Rows.{content_long, outcome_done, room_is, room_left, row_is, step_done, step_refused, unknown_row, waits}

-- ---- refused

pub refused : (who : Who) (h : Handle) (size needs : ℕ) (k : View) (t : Tables) (f : Files) (o : Outcome)
    → ((g : Geometry) (x : Kept) (n : ℕ) (s : State) → RunsAs g k t (with_files x f) n s → first (truncate_rows s who h size) ≡ Some o) → Answers who h size needs k t f k f o
refused who h size needs k t f o row = record {
  runs = λ g x n s finds. (let is = step_refused s who h size o (row g x n s finds.runs) in
      subst (λ z. RunsAs g k t (with_files x f) (n + 1) z) (sym (ap (λ z. z.state) is)) (runs_later g k t (with_files x f) n s finds.runs));
  outcome_is = λ g x n s finds. ap (λ z. z.outcome) (step_refused s who h size o (row g x n s finds.runs));
  enough = λ g x n s finds none. absurd (let never : None ≡ Some o = sym none ∙ row g x n s finds.runs in cc);
}

-- one that is refused leaves the tree
pub refused_spent : (who : Who) (h : Handle) (size needs : ℕ) (k : View) (t : Tables) (f : Files) (o : Outcome)
    → ((g : Geometry) (x : Kept) (n : ℕ) (s : State) → RunsAs g k t (with_files x f) n s → first (truncate_rows s who h size) ≡ Some o) → (old new : Supply) → IsSpent who h size needs k t f old new
refused_spent who h size needs k t f o row old new g x n s finds = inl (ap (λ z. tree z.state) (step_refused s who h size o (row g x n s finds.runs)))

pub refused_unknown : (who : Who) (h : Handle) (size needs : ℕ) (k : View) (t : Tables) (f : Files) → opened t who h ≡ None → Answers who h size needs k t f k f (answer (Reply.Error Errno.EBADF))
refused_unknown who h size needs k t f none = refused who h size needs k t f (answer (Reply.Error Errno.EBADF)) (λ g x n s runs. unknown_row g k t (with_files x f) n s runs who h size none)

pub unknown_spent : (who : Who) (h : Handle) (size needs : ℕ) (k : View) (t : Tables) (f : Files) → opened t who h ≡ None → (old new : Supply) → IsSpent who h size needs k t f old new
unknown_spent who h size needs k t f none = refused_spent who h size needs k t f (answer (Reply.Error Errno.EBADF)) (λ g x n s runs. unknown_row g k t (with_files x f) n s runs who h size none)

-- a job that is out is of another file than the one that the call waits for
others_of : (s : State) (who : Who) (h : Handle) (size ino : ℕ) (numbers : List ℕ) (jobs : List Job) → LetsJobsBe s (who, Call.Truncate h size) numbers jobs → waits_for s (who, Call.Truncate h size) ≡ Some (number numbers ino) → (j : Job) → In j jobs → j.draft.ino ≢ ino
others_of s who h size ino numbers [] lets is j there = absurd there
others_of s who h size ino numbers (i ∷ jobs) lets is j (inl here) = λ same. lets.0.aside (is ∙ ap (λ m. Some (number numbers m)) (sym (ap (λ (y : Job). y.draft.ino) here ∙ same)))
others_of s who h size ino numbers (i ∷ jobs) lets is j (inr behind) = others_of s who h size ino numbers jobs lets.1 is j behind

module _ (who : Who) (h : Handle) (size needs : ℕ) (k : View) (t : Tables) (f : Files) (room_kept : RoomIsKept) (d : Description) (known : opened t who h ≡ Some d) where
  row_at : (g : Geometry) (x : Kept) (n : ℕ) (s : State) → RunsAs g k t (with_files x f) n s → first (truncate_rows s who h size) ≡ truncate_row_by d.flags.write size (size_in f d.node) (room_left k f)
  row_at g x n s runs = row_is g k t (with_files x f) n s runs who h d known room_kept size

  pub refused_row : (o : Outcome) → truncate_row_by d.flags.write size (size_in f d.node) (room_left k f) ≡ Some o → Answers who h size needs k t f k f o
  refused_row o is = refused who h size needs k t f o (λ g x n s runs. row_at g x n s runs ∙ is)

  pub row_spent : (o : Outcome) → truncate_row_by d.flags.write size (size_in f d.node) (room_left k f) ≡ Some o → (old new : Supply) → IsSpent who h size needs k t f old new
  row_spent o is = refused_spent who h size needs k t f o (λ g x n s runs. row_at g x n s runs ∙ is)

  pub leaves_less : (need left : ℕ) → truncate_row_by d.flags.write size (size_in f d.node) (room_left k f) ≡ None → need ≡ growth (size_in f d.node) size → left ≡ room_left k f - needs → left < need
      → LeavesLess who h size needs k t f need left
  leaves_less need left none need_is left_is lacks = record {
    accepted = λ g x n s finds. row_at g x n s finds.runs ∙ none;
    need_is = λ g x n s finds. need_is ∙ ap (λ m. growth m size) (sym (content_long g k t (with_files x f) n s finds.runs who h d known));
    left_is = λ g x n s finds. left_is ∙ ap (λ m. m - needs) (sym (room_is g k t (with_files x f) n s finds.runs who h d known room_kept));
    lacks = lacks;
  }

  pub leaves_enough : growth (size_in f d.node) size ≤ room_left k f - needs → LeavesEnough who h size needs k t f
  leaves_enough fits g x n s finds accepted =
      let long = content_long g k t (with_files x f) n s finds.runs who h d known in
      let left = room_is g k t (with_files x f) n s finds.runs who h d known room_kept in
      subst (λ m. growth m size ≤ room s - needs) (sym long) (subst (λ m. growth (size_in f d.node) size ≤ m - needs) (sym left) fits)

  -- what is asked by numbers tells whether there is room
  pub asked_lacks : (asked : Asked) → IsAsked d.flags.write size (size_in f d.node) (room_left k f) needs asked → IsLacking who h size needs k t f (lacking_by asked)
  asked_lacks (Asked.Answered o) is = (refused_row o is).enough
  asked_lacks (Asked.Full need rest) (none, need_is, rest_is, lacks) = leaves_less need rest none need_is rest_is lacks
  asked_lacks Asked.Goes (none, fits, small) = leaves_enough fits

  -- ---- it goes on

  module _ (none : truncate_row_by d.flags.write size (size_in f d.node) (room_left k f) ≡ None) (fits : growth (size_in f d.node) size ≤ room_left k f - needs) (bare : runs_in f d.node ≡ []) (ends : FilesEnd k.volume f) where
    module _ (g : Geometry) (x : Kept) (n : ℕ) (s : State) (finds : Finds g k t (with_files x f) n s who (Call.Truncate h size) needs) where
      file : (inode k.volume d.node).kind ≡ File
      file = finds.runs.open_are_files d.node (handle_open t who h d known)

      clean_may : MayClean k (with_files x f) finds.runs.jobs d.node (size_in f d.node)
      clean_may = record {
        file = file;
        behind = omega arith;
        others = others_of s who h size d.node finds.runs.numbers finds.runs.jobs finds.beside (waits g k t (with_files x f) n s finds.runs who h d known size);
      }

      -- they stand together once its end is clean
      cleaned : StandsCleaned → (l : View) → IsClean d.node (size_in f d.node) size k l
          → (now : RunsAs g l t (with_files x f) n s) × (now.jobs ≡ finds.runs.jobs) × (now.numbers ≡ finds.runs.numbers)
      cleaned stands_clean l (inl same) =
          subst (λ y. (now : RunsAs g y t (with_files x f) n s) × (now.jobs ≡ finds.runs.jobs) × (now.numbers ≡ finds.runs.numbers)) (sym same.1) (finds.runs, refl, refl)
      cleaned stands_clean l (inr done) = stands_clean g k l t (with_files x f) true n s d.node (size_in f d.node) finds.runs clean_may done.1

      -- behind its end each image has zeros then
      zeros : (l : View) → IsClean d.node (size_in f d.node) size k l → (image : Words) → IsImage l.cells image → AreZeros l.volume d.node (size_in f d.node) size (journaled image)
      zeros l (inl same) image is = λ i least most. absurd (omega (arith, least, most, same.0))
      zeros l (inr done) image is = cleans_behind g k l t (with_files x f) true n s d.node size finds.runs file ends done.1 image is

      -- beside the jobs that are out there is what it takes
      fits_beside : growth (length (content s who h)) size + needs_of s finds.runs.jobs ≤ room s
      fits_beside =
          let all : needs_of s finds.runs.jobs ≤ room s = (world g k t (with_files x f) n s finds.runs).valid.room in
          let takes = leaves_enough fits g x n s finds (row_at g x n s finds.runs ∙ none) in
          let needed = finds.needs_are in
          omega (arith, all, takes, needed)

      may_size : (l : View) (now : RunsAs g l t (with_files x f) n s) → now.jobs ≡ finds.runs.jobs → now.numbers ≡ finds.runs.numbers → IsClean d.node (size_in f d.node) size k l
          → MaySize l (with_files x f) now.jobs now.numbers s who h size d.node
      may_size l now jobs numbers clean = record {
        file = now.open_are_files d.node (handle_open t who h d known);
        accepted = row_at g x n s finds.runs ∙ none;
        waits = waits g l t (with_files x f) n s now who h d known size;
        bare = bare;
        beside = subst (λ js. LetsJobsBe s (who, Call.Truncate h size) now.numbers js) (sym jobs) (subst (λ ns. LetsJobsBe s (who, Call.Truncate h size) ns finds.runs.jobs) (sym numbers) finds.beside);
        fits = subst (λ js. growth (length (content s who h)) size + needs_of s js ≤ room s) (sym jobs) fits_beside;
        zeros = zeros l clean;
      }

    -- DONE
    pub has_size : StandsCleaned → (middle l : View) (u : Files) → IsClean d.node (size_in f d.node) size k middle → HasSize d.node size middle f l u → Answers who h size needs k t f l u (answer Reply.Ok)
    has_size stands_clean middle l u clean has = record {
      runs = λ g x n s finds. (let now = cleaned g x n s finds stands_clean middle clean in
          (stands_sized g middle l t (with_files x f) u true n (n + 1) s who h size d.node (omega arith) now.0 (may_size g x n s finds middle now.0 now.1 now.2 clean) has.sized has.file has.spare).0);
      outcome_is = λ g x n s finds. ap (λ z. z.outcome) (step_done s who h size (row_at g x n s finds.runs ∙ none)) ∙ outcome_done s who h size;
      enough = leaves_enough fits;
    }

    -- MEMORY RAN OUT
    pub still_runs : StandsCleaned → (l : View) → IsClean d.node (size_in f d.node) size k l → StillRuns who h size needs k t f l
    still_runs stands_clean l clean g x n s finds = cleaned g x n s finds stands_clean l clean

    -- THE POWER WENT in the cleaning
    pub loses_clean : KeepsCleaned → (l : View) → IsCleanAnswer d.node (size_in f d.node) size k l Commit.PowerLost → Loses who h size needs k t f l
    loses_clean keeps l (inl off) = record {
      kept = λ g x n start history finds. loses_off who (Call.Truncate h size) k l t f off g x n start history finds.few finds.runs finds.beside;
      left = λ g x n s finds. leaves_off g k l t (with_files x f) n s finds.runs off;
    }
    loses_clean keeps l (inr cut) = record {
      kept = λ g x n start history finds.
          keeps g k l t (with_files x f) true n start history (who, Call.Truncate h size) d.node (size_in f d.node) finds.runs (clean_may g x n (run start history) finds) cut;
      left = λ g x n s finds. (let whole = left_at k.volume k.committed k.cells l.cells (finds.runs.order.settled finds.runs.unbatched) (left_overwritten d.node (size_in f d.node) (tail_zeros k.volume d.node (size_in f d.node)) k l cut) in
          subst (λ y. IsLeftOf y k.cells l.cells) finds.runs.geometry whole);
    }

    -- and in the change of the size
    same_volume : (middle : View) → IsClean d.node (size_in f d.node) size k middle → middle.volume ≡ k.volume
    same_volume middle (inl same) = ap (λ y. y.volume) same.1
    same_volume middle (inr done) = ap (λ y. y.volume) done.1.same

    -- what is kept beside the jobs in the middle is kept beside those at the start
    lost_in_middle : (middle l : View) → IsClean d.node (size_in f d.node) size k middle → (x : Kept) (now jobs : List Job) (start : State) (history : List Item) → now ≡ jobs
        → KeepsWhenLost middle.volume l.cells x now start history ((who, Call.Truncate h size) ∷ []) → KeepsWhenLost k.volume l.cells x jobs start history ((who, Call.Truncate h size) ∷ [])
    lost_in_middle middle l clean x now jobs start history same kept =
        subst (λ v. KeepsWhenLost v l.cells x jobs start history ((who, Call.Truncate h size) ∷ [])) (same_volume middle clean)
        (subst (λ js. KeepsWhenLost middle.volume l.cells x js start history ((who, Call.Truncate h size) ∷ [])) same kept)

    lent_middle : (g : Geometry) (middle : View) (e : List Cell) → IsClean d.node (size_in f d.node) size k middle → IsLeftOf g middle.cells e → IsLeftOf g k.cells e
    lent_middle g middle e (inl same) is = subst (λ y. IsLeftOf g y e) (ap (λ y. y.cells) same.1) is
    lent_middle g middle e (inr done) is = left_through g k.cells middle.cells e done.1.over.size done.1.over.lent is

    pub loses_size : StandsCleaned → (middle l : View) → IsClean d.node (size_in f d.node) size k middle → IsSizeAnswer d.node size middle l (Err KFault.PowerLost) → Loses who h size needs k t f l
    loses_size stands_clean middle l clean (inl off) = record {
      kept = λ g x n start history finds. (let now = cleaned g x n (run start history) finds stands_clean middle clean in
          lost_in_middle middle l clean x now.0.jobs finds.runs.jobs start history now.1
          (loses_off who (Call.Truncate h size) middle l t f off g x n start history finds.few now.0 (may_size g x n (run start history) finds middle now.0 now.1 now.2 clean).beside));
      left = λ g x n s finds. (let now = cleaned g x n s finds stands_clean middle clean in lent_middle g middle l.cells clean (leaves_off g middle l t (with_files x f) n s now.0 off));
    }
    loses_size stands_clean middle l clean (inr (w, blocks, makes, cut)) = record {
      kept = λ g x n start history finds. (let now = cleaned g x n (run start history) finds stands_clean middle clean in
          lost_in_middle middle l clean x now.0.jobs finds.runs.jobs start history now.1
          (keeps_sized g middle l t (with_files x f) true n start history who h size d.node now.0 (two_each g middle t (with_files x f) n (run start history) now.0)
          (may_size g x n (run start history) finds middle now.0 now.1 now.2 clean) w blocks makes cut));
      left = λ g x n s finds. (let now = cleaned g x n s finds stands_clean middle clean in
          lent_middle g middle l.cells clean
          (subst (λ y. IsLeftOf y middle.cells l.cells) now.0.geometry (left_at middle.volume middle.committed middle.cells l.cells (now.0.order.settled now.0.unbatched) (left_map_cut blocks w middle l cut))));
    }

  -- ---- the ends of files

  pub ends_sized : (ino : ℕ) (middle l : View) (u : Files) → middle.volume ≡ k.volume → ino < length k.volume.inodes → ino < length f.sizes → IsWhole k.volume → HasSize ino size middle f l u → FilesEnd k.volume f → FilesEnd l.volume u
  ends_sized ino middle l u same below line whole has ends =
      end_sized _ ino size middle.volume l.volume f u (subst (λ (v : Volume). ino < length v.inodes) (sym same) below) line (subst IsWhole (sym same) whole) has.sized.1.sized has.file
      (subst (λ v. FilesEnd v f) (sym same) ends)

-- ---- whatever is answered

-- a step that was taken behind others
pub paid_later : (m : ℕ) (p q r : Supply) → Steps m p q → (result : Result Truncated NoMemory) → IsTruncatePaid q r result → IsTruncatePaid p r result
paid_later m p q r first (Ok (Truncated.Answered o)) paid = (paid.0, λ given some. (let more = paid.1 given (first.given ∙ some) in omega (arith, more, first.later)))
paid_later m p q r first (Ok (Truncated.RoundOver need left)) paid = paid
paid_later m p q r first (Ok Truncated.PowerLost) paid = paid
paid_later m p q r first (Err e) paid = paid

off_on : (new : Supply) → is_on new ≡ false → is_on new ≡ true → ⊥
off_on new off on = let never : false ≡ true = sym off ∙ on in cc

module _ (who : Who) (h : Handle) (size needs : ℕ) (k : View) (t : Tables) (f : Files) (room_kept : RoomIsKept) (d : Description) (known : opened t who h ≡ Some d)
    (none : truncate_row_by d.flags.write size (size_in f d.node) (room_left k f) ≡ None) (fits : growth (size_in f d.node) size ≤ room_left k f - needs) (bare : runs_in f d.node ≡ []) (ends : FilesEnd k.volume f)
    (stands_clean : StandsCleaned) (keeps_clean : KeepsCleaned) (l : View) (u : Files) (old new : Supply) where
  pub given_ended : (r : Result Truncated NoMemory) → IsTruncatePaid old new r → IsGiven d.node (size_in f d.node) size k f l u r → IsTruncated who h size needs k t f l u old new r
  given_ended (Ok (Truncated.Answered o)) paid (is, (middle, clean, has)) =
      (subst (Answers who h size needs k t f l u) (sym is) (has_size who h size needs k t f room_kept d known none fits bare ends stands_clean middle l u clean has), paid.0, λ g x n s finds. inr paid.1)
  given_ended (Ok (Truncated.RoundOver need left)) paid never = absurd never
  given_ended (Ok Truncated.PowerLost) paid (same, inl cut) = (loses_clean who h size needs k t f room_kept d known none fits bare ends keeps_clean l cut, same, paid)
  given_ended (Ok Truncated.PowerLost) paid (same, inr (middle, clean, answer_is)) =
      (loses_size who h size needs k t f room_kept d known none fits bare ends stands_clean middle l clean answer_is, same, paid)
  given_ended (Err e) paid (same, clean) = (still_runs who h size needs k t f room_kept d known none fits bare ends stands_clean l clean, same, paid)

  pub given_ends : d.node < length k.volume.inodes → d.node < length f.sizes → IsWhole k.volume → (r : Result Truncated NoMemory) → IsTruncatePaid old new r → IsGiven d.node (size_in f d.node) size k f l u r
      → is_on new ≡ true → (l.volume.base ≡ k.volume.base) × FilesEnd l.volume u
  given_ends below line whole (Ok (Truncated.Answered o)) paid (is, (middle, clean, has)) on =
      let same = same_volume who h size needs k t f room_kept d known none fits bare ends middle clean in
      (ap (λ (v : Volume). v.base) has.sized.1.sized.is_sized ∙ ap (λ (v : Volume). v.base) same, ends_sized who h size needs k t f room_kept d known d.node middle l u same below line whole has ends)
  given_ends below line whole (Ok (Truncated.RoundOver need left)) paid never on = absurd never
  given_ends below line whole (Ok Truncated.PowerLost) paid lost on = absurd (off_on new paid on)
  given_ends below line whole (Err e) paid (same, clean) on =
      let stays = same_volume who h size needs k t f room_kept d known none fits bare ends l clean in
      (ap (λ (v : Volume). v.base) stays, subst (λ y. FilesEnd l.volume y) (sym same) (subst (λ v. FilesEnd v f) (sym stays) ends))
