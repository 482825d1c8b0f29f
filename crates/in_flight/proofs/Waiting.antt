-- Which file a call waits for, by what the open files and the names say; and whether a job keeps it waiting.
use Rattle.std.specs.Prelude.{◌≡◌, ◌==◌, ◌&&◌, ◌||◌, not, ℕ, Bool, true, false, List, [], ◌∷◌, length, Option, Some, None, is_some, option_map, option_and_then, slice_get, unwrap_or, zero, suc, Result, Ok, Err, if◌then◌else◌, refl}
use Rattle.std.specs.List.{list_any}
use Rattle.std.specs.Option.{option_flatten, option_map_or}
use Rattle.std.proofs.Common.{arith, ap, ◌∙◌, sym, subst, inl, inr}
use Rattle.std.proofs.lemmas.Bool.Decides.{Decides-eqb}
use Rattle.live_model.specs.layout_model.declared.lines.Draft.{Draft}
use Rattle.live_model.specs.layout_model.Places.{Geometry}
use Rattle.live_model.specs.k_split_model.Spaces.{volume_space}
use Rattle.live_model.specs.k_split_model.View.{View}
use Rattle.live_model.specs.k_split.Looks.{IsFound}
use Rattle.live_model.specs.commute_laws.list_laws.Members.{In}
use Rattle.live_model.proofs.open_files_proofs.Lookups.{same_opened}
use Rattle.live_model.specs.open_files.Numbered.{described_as}
use Rattle.posix_types.specs.declared.call.Call.{Call}
use Rattle.posix_types.specs.declared.call.Who.{Who}
use Rattle.posix_types.specs.declared.handle.Handle.{Handle}
use Rattle.posix_types.specs.declared.item.Outcome.{Outcome}
use Rattle.posix_types.specs.declared.reply.Errno.{Errno}
use Rattle.posix_types.specs.declared.reply.Reply.{Reply}
use Rattle.live_model.specs.commute_laws.posix_tables.declared.open.Description.{Description}
use Rattle.live_model.specs.commute_laws.posix_tables.NameRows.{stat_rows, walk_row}
use Rattle.live_model.specs.commute_laws.posix_tables.Names.{child_of, exists_at, is_root, last_name, node_at_path, Space, too_long, walk}
use Rattle.live_model.specs.commute_laws.posix_tables.Open.{describes, is_open, key_of, opened, same_who, Tables}
use Rattle.live_model.specs.commute_laws.posix_tables.Outcomes.{answer, first, row}
use Rattle.live_model.specs.commute_laws.posix_spec.State.{space, State}
use Rattle.live_model.specs.commute_laws.Handles.{same_who-is}
use Rattle.live_model.specs.commute_laws.crash_spec.Busy.{handle_node, is_busy, keeps_busy, Out, path_node, waits_for}
use Rattle.live_model.specs.world_step_laws.Worlds.{world_mirror}
use Rattle.live_model.specs.world_model.JobLaws.{live_used}
use Rattle.live_model.specs.world_model.Stands.{is_used, IsUsed, number}
use Rattle.live_model.specs.world_step_laws.Mirrors.{Mirrors, node_at_path-same, node_at_path-used}
use Rattle.live_model.specs.Standing.{Kept, JobOut, StandsAt}
use Rattle.in_flight.specs.Busy.{file_out, files_by, found_ino, HoldsFile, IsKeeping, IsNodeOf}
use Rattle.in_flight.proofs.CountsJobs.{its_job, same_who-refl, stood, waits_of, words_now, world_now}

-- ---- a path

root_walks : (sp : Space) (p : List (List ℕ)) (errno : Errno) → is_root p ≡ true → walk sp p ≡ Err errno → (x y : Option ℕ) → x ≡ y
unfolding walk
root_walks sp [] errno root is x y = cc
root_walks sp (name ∷ names) errno root is x y = absurd (omega (arith, (Decides-eqb (length (name ∷ names)) 0).0 root))

-- a walk that ends in no directory leads to no node
lost_walk : (sp : Space) (p : List (List ℕ)) (errno : Errno) → walk sp p ≡ Err errno → node_at_path sp p ≡ None
unfolding node_at_path
lost_walk sp p errno lost = by (is_root p) (walk sp p) refl lost where
  found_in : Result ℕ Errno → Option ℕ
  found_in (Ok directory) = child_of sp.entries directory (last_name p)
  found_in (Err e) = None

  by : (c : Bool) (r : Result ℕ Errno) → is_root p ≡ c → r ≡ Err errno → (if c then Some 0 else found_in r) ≡ None
  by true r root is = root_walks sp p errno root lost (Some 0) None
  by false (Ok d) root is = cc
  by false (Err e) root is = refl

-- what a path leads to where `stat` refuses it
none_found : (sp : Space) (p : List (List ℕ)) (o : Outcome) → too_long sp.longest p ≡ false → first (stat_rows sp p) ≡ Some o → node_at_path sp p ≡ None
unfolding stat_rows
none_found sp p o short refused = by (node_at_path sp p) (walk sp p) refl refl where
  refusal : Result ℕ Errno → Option Outcome
  refusal (Ok node) = None
  refusal (Err errno) = Some (answer (Reply.Error errno))

  by : (x : Option ℕ) (r : Result ℕ Errno) → node_at_path sp p ≡ x → walk sp p ≡ r → node_at_path sp p ≡ None
  by None r at walked = at
  by (Some n) (Err e) at walked = lost_walk sp p e walked
  by (Some n) (Ok d) at walked =
      let same : first (row (too_long sp.longest p) Errno.ENAMETOOLONG ∷ refusal (walk sp p) ∷ row (not (is_some (node_at_path sp p))) Errno.ENOENT ∷ []) ≡ None = λ i. first (row (short i) Errno.ENAMETOOLONG ∷ refusal (walked i) ∷ row (not (is_some (at i))) Errno.ENOENT ∷ []) in
      let never : None ≡ Some o = sym same ∙ refused in
      cc

-- what a path that is not refused leads to
some_found : (sp : Space) (p : List (List ℕ)) → first (stat_rows sp p) ≡ None → too_long sp.longest p ≡ false
unfolding stat_rows
some_found sp p none = by (too_long sp.longest p) none where
  by : (b : Bool) → first (row b Errno.ENAMETOOLONG ∷ walk_row sp p ∷ row (not (exists_at sp p)) Errno.ENOENT ∷ []) ≡ None → b ≡ false
  by false is = refl
  by true is = cc

-- ---- a handle

any_at : (slots : List (Option Description)) (key : ℕ) (d : Description) → option_flatten (slice_get slots key) ≡ Some d → list_any (describes d.node) slots ≡ true
any_at [] key d is = cc
any_at (slot ∷ slots) zero d is = ap (λ (o : Option Description). list_any (describes d.node) (o ∷ slots)) is ∙ ap (λ b. b || list_any (describes d.node) slots) ((Decides-eqb d.node d.node).1 refl)
any_at (slot ∷ slots) (suc key) d is = by (describes d.node slot) (any_at slots key d is) where
  by : (b : Bool) → list_any (describes d.node) slots ≡ true → (b || list_any (describes d.node) slots) ≡ true
  by true rest = refl
  by false rest = rest

-- the file of a handle is open
opened_open : (t : Tables) (who : Who) (h : Handle) (d : Description) → opened t who h ≡ Some d → is_open t d.node ≡ true
unfolding opened
opened_open t who h d is = by (key_of t who h) is where
  by : (o : Option ℕ) → option_and_then (λ key. option_flatten (slice_get t.descriptions key)) o ≡ Some d → is_open t d.node ≡ true
  by None found = cc
  by (Some key) found = any_at t.descriptions key d found

-- ---- in a World that stands together

module _ (g : Geometry) (k : View) (t : Tables) (kept : Kept) (lines : Bool) (n : ℕ) (s : State) (stands : StandsAt g k t kept lines n s) where
  mirror : Mirrors (IsUsed k.volume) stands.numbers (volume_space k.volume) (space s)
  mirror = world_mirror k.volume kept.claims stands.jobs (words_now g k t kept lines n s stands) stands.numbers s stands.count (world_now g k t kept lines n s stands)

  -- WHAT STANDS AT A PATH, or none where it is too long
  pub path_waits : (p : List (List ℕ)) (r : Result ℕ Errno) → IsFound k.volume p r → IsNodeOf stands.numbers k (found_ino r) (path_node s p)
  path_waits p (Ok ino) found = (
    (λ i. if short i then None else node_at_path (space s) p) ∙ (sym (node_at_path-same (IsUsed k.volume) stands.numbers (volume_space k.volume) (space s) mirror p) ∙ ap (option_map (number stands.numbers)) found.1),
    node_at_path-used (IsUsed k.volume) stands.numbers (volume_space k.volume) (space s) mirror p ino found.1,
  ) where
    short : too_long (space s).longest p ≡ false
    short = ap (λ m. too_long m p) (sym mirror.longest) ∙ some_found (volume_space k.volume) p found.0
  path_waits p (Err errno) found = by (too_long (space s).longest p) refl where
    by : (b : Bool) → too_long (space s).longest p ≡ b → (if b then None else node_at_path (space s) p) ≡ None
    by true long = refl
    by false short =
        sym (node_at_path-same (IsUsed k.volume) stands.numbers (volume_space k.volume) (space s) mirror p)
        ∙ ap (option_map (number stands.numbers)) (none_found (volume_space k.volume) p (answer (Reply.Error errno)) (ap (λ m. too_long m p) mirror.longest ∙ short) found)

  -- WHAT A HANDLE STANDS FOR
  pub handle_waits : (who : Who) (h : Handle) (o : Option Description) → opened t who h ≡ o → IsNodeOf stands.numbers k (option_map (λ (d : Description). d.node) o) (handle_node s who h)
  handle_waits who h None is = ap (option_map (λ (d : Description). d.node)) (there ∙ ap (option_map (described_as (number stands.numbers))) is) where
    there : opened s.tables who h ≡ option_map (described_as (number stands.numbers)) (opened t who h)
    there = ap (λ (u : Tables). opened u who h) stands.tables ∙ same_opened (number stands.numbers) t who h
  handle_waits who h (Some d) is = (
    ap (option_map (λ (d : Description). d.node)) (there ∙ ap (option_map (described_as (number stands.numbers))) is),
    ap is_used (stands.open_are_files d.node (opened_open t who h d is)),
  ) where
    there : opened s.tables who h ≡ option_map (described_as (number stands.numbers)) (opened t who h)
    there = ap (λ (u : Tables). opened u who h) stands.tables ∙ same_opened (number stands.numbers) t who h

  -- two inodes in use with one number are one
  pub one_file : (i j : ℕ) → IsUsed k.volume i → IsUsed k.volume j → number stands.numbers i ≡ number stands.numbers j → i ≡ j
  one_file i j one two same = mirror.one i j one two same

  -- the file of a job is in use
  pub job_used : (p : JobOut) → In p kept.pending → IsUsed k.volume p.draft.ino
  job_used p is =
      let its = its_job g k t kept lines n s stands p is in
      subst (λ (d : Draft). IsUsed k.volume d.ino) its.draft (live_used k.volume its.job.draft (stood g k t kept lines n s stands its.job its.there).alive)

  in_map : (xs : List JobOut) (p : JobOut) → In p xs → In (file_out s p) (files_by s xs)
  in_map [] p is = absurd is
  in_map (x ∷ xs) p (inl same) = inl (ap (file_out s) same)
  in_map (x ∷ xs) p (inr rest) = inr (in_map xs p rest)

  node_of : (p : JobOut) → In p kept.pending → (file_out s p).1 ≡ number stands.numbers p.draft.ino
  node_of p is = ap (λ (o : Option ℕ). unwrap_or o 0) (waits_of g k t kept lines n s stands p is)

  none_keeps : (who : Who) (ino : ℕ) → IsUsed k.volume ino → (xs : List JobOut) → ((p : JobOut) → In p xs → In p kept.pending) → ((p : JobOut) → In p xs → p.draft.ino ≡ ino → p.who ≡ who)
      → list_any (keeps_busy who (number stands.numbers ino)) (files_by s xs) ≡ false
  none_keeps who ino used [] there own = refl
  none_keeps who ino used (p ∷ xs) there own =
      by (same_who p.who who) ((file_out s p).1 == number stands.numbers ino) refl refl (none_keeps who ino used xs (λ q at. there q (inr at)) (λ q at. own q (inr at))) where
        by : (a b : Bool) → same_who p.who who ≡ a → ((file_out s p).1 == number stands.numbers ino) ≡ b → list_any (keeps_busy who (number stands.numbers ino)) (files_by s xs) ≡ false
            → (not a && b || list_any (keeps_busy who (number stands.numbers ino)) (files_by s xs)) ≡ false
        by true b one two rest = rest
        by false false one two rest = rest
        by false true one two rest =
            let node : (file_out s p).1 ≡ number stands.numbers ino = (Decides-eqb (file_out s p).1 (number stands.numbers ino)).0 two in
            let file : p.draft.ino ≡ ino = one_file p.draft.ino ino (job_used p (there p (inl refl))) used (sym (node_of p (there p (inl refl))) ∙ node) in
            let never : true ≡ false = sym (same_who-refl who) ∙ (ap (λ w. same_who w who) (sym (own p (inl refl) file)) ∙ one) in
            cc

  one_keeps : (who : Who) (node : ℕ) (out : List Out) (o : Out) → In o out → keeps_busy who node o ≡ true → list_any (keeps_busy who node) out ≡ true
  one_keeps who node [] o is keeps = absurd is
  one_keeps who node (x ∷ out) o (inl same) keeps = ap (λ b. b || list_any (keeps_busy who node) out) (ap (keeps_busy who node) same ∙ keeps)
  one_keeps who node (x ∷ out) o (inr rest) keeps = by (keeps_busy who node x) (one_keeps who node out o rest keeps) where
    by : (b : Bool) → list_any (keeps_busy who node) out ≡ true → (b || list_any (keeps_busy who node) out) ≡ true
    by true found = refl
    by false found = found

  -- A CALL WAITS FOR NONE, or for a file that no job of another caller is out of
  pub idle_none : (who : Who) (call : Call) → waits_for s (who, call) ≡ None → is_busy s (files_by s kept.pending) (who, call) ≡ false
  unfolding is_busy
  idle_none who call waits = ap (λ o. option_map_or (λ node. list_any (keeps_busy who node) (files_by s kept.pending)) o false) waits

  pub idle_file : (who : Who) (call : Call) (ino : ℕ) → IsNodeOf stands.numbers k (Some ino) (waits_for s (who, call)) → HoldsFile kept.pending ino who None → is_busy s (files_by s kept.pending) (who, call) ≡ false
  unfolding is_busy
  idle_file who call ino waits none =
      ap (λ o. option_map_or (λ node. list_any (keeps_busy who node) (files_by s kept.pending)) o false) waits.0 ∙ none_keeps who ino waits.1 kept.pending (λ p at. at) none

  -- or that one is
  pub kept_waiting : (who : Who) (call : Call) (ino : ℕ) (holder : Who) → IsNodeOf stands.numbers k (Some ino) (waits_for s (who, call)) → HoldsFile kept.pending ino who (Some holder) → IsKeeping s kept.pending who call ino holder
  unfolding is_busy
  kept_waiting who call ino holder waits holds = record {
    job = holds.0;
    out = holds.1;
    holder_is = holds.3;
    other = λ same. holds.4 (holds.3 ∙ same);
    file = holds.2;
    waits = waits.0 ∙ sym own;
    busy =
        ap (λ o. option_map_or (λ node. list_any (keeps_busy who node) (files_by s kept.pending)) o false) waits.0
        ∙ one_keeps who (number stands.numbers ino) (files_by s kept.pending) (file_out s holds.0) (in_map kept.pending holds.0 holds.1) keeps;
  } where
    own : waits_for s (holds.0.who, holds.0.call) ≡ Some (number stands.numbers ino)
    own = waits_of g k t kept lines n s stands holds.0 holds.1 ∙ ap (λ i. Some (number stands.numbers i)) holds.2

    apart : (b : Bool) → same_who holds.0.who who ≡ b → b ≡ false
    apart false is = refl
    apart true is = absurd (holds.4 (same_who-is holds.0.who who is))

    keeps : keeps_busy who (number stands.numbers ino) (file_out s holds.0) ≡ true
    keeps =
        (λ i. not ((apart (same_who holds.0.who who) refl) i) && ((file_out s holds.0).1 == number stands.numbers ino))
        ∙ (Decides-eqb (file_out s holds.0).1 (number stands.numbers ino)).1 (ap (λ (o : Option ℕ). unwrap_or o 0) own)
