-- `close`: the handle goes, and with its last descriptor a file that has no name.
use Rattle.std.specs.Prelude.{◌≡◌, ◌≢◌, ◌⊎◌, ◌<◌, ◌+◌, ℕ, zero, suc, true, false, List, [], ◌∷◌, Option, Some, None, is_none, option_map, slice_set, Ok, refl}
use Rattle.std.specs.Option.{option_map_or}
use Rattle.std.proofs.Common.{ap, ◌∙◌, sym, subst, inl, inr}
use Rattle.eof_laws.specs.pm_model.Images.{words_of}
use Rattle.eof_laws.specs.pm_model.Powers.{is_on, Supply}
use Rattle.eof_laws.specs.layout_model.Journal.{journaled}
use Rattle.eof_laws.specs.layout_model.Places.{Geometry}
use Rattle.layout_model.specs.declared.lines.Kind.TheVariants.{File}
use Rattle.layout_model.specs.Names.{names_of}
use Rattle.eof_laws.specs.image_model.Live.{is_directory}
use Rattle.eof_laws.specs.image_model.Volume.{inode, Volume}
use Rattle.eof_laws.specs.file_table.Files.{Files}
use Rattle.live_step_laws.specs.posix_laws.Orders.{AreOrdered-step_of}
use Rattle.live_step_laws.specs.volume_change_laws.Changes.{MayDrop}
use Rattle.eof_laws.specs.k_split_model.View.{View}
use Rattle.live_step_laws.specs.open_files.Numbered.{described_as, numbered_as}
use Rattle.live_step_laws.proofs.open_files_proofs.Changes.{closes_alike, open_once_closed}
use Rattle.live_step_laws.proofs.open_files_proofs.Lookups.{same_open, same_opened}
use Rattle.posix_types.specs.declared.call.Call.{Call}
use Rattle.posix_types.specs.declared.call.Who.{Who}
use Rattle.posix_types.specs.declared.handle.Handle.{Handle}
use Rattle.posix_types.specs.declared.reply.Errno.{Errno}
use Rattle.posix_types.specs.declared.reply.Reply.{Reply}
use Rattle.open_files.specs.posix_tables.declared.nodes.Node.{Node}
use Rattle.open_files.specs.posix_tables.declared.open.Description.{Description}
use Rattle.open_files.specs.posix_tables.Names.{is_named}
use Rattle.open_files.specs.posix_tables.Nodes.{node_at, published_node}
use Rattle.open_files.specs.posix_tables.Open.{closed, is_open, opened, Tables}
use Rattle.open_files.specs.posix_tables.Outcomes.{answer, first, row}
use Rattle.open_files.specs.commute_laws.Bystanders.{is_open-Opens}
use Rattle.open_files.specs.commute_laws.Handles.{Opens-opened}
use Rattle.open_files.specs.posix_spec.FileRows.{close_rows, file_number}
use Rattle.open_files.specs.posix_spec.Run.{after_call}
use Rattle.open_files.specs.posix_spec.State.{alone, State, swept, with_published}
use Rattle.open_files.specs.posix_spec.Step.{close_done, step, stepped}
use Rattle.open_files.specs.posix_spec.Tree.{tree}
use Rattle.live_step_laws.specs.world_model.Stands.{is_used, number}
use Rattle.live_step_laws.specs.world_model.TreeRules.{used_below}
use Rattle.live_step_laws.specs.world_image_laws.Settings.{keeps_setting}
use Rattle.live_step_laws.specs.world_image_laws.Unseen.{tree-swept, tree_close}
use Rattle.live_step_laws.specs.world_step_laws.OtherCalls.{IsWorld-closed, IsWorld-same}
use Rattle.live_step_laws.specs.world_step_laws.RemoveCalls.{swept-gone}
use Rattle.live_step_laws.specs.world_step_laws.Nameless.{count-nameless, is_named-nameless}
use Rattle.live_step_laws.specs.world_step_laws.Steps.{LetsJobsBe}
use Rattle.live_step_laws.specs.world_step_laws.Worlds.{IsWorld}
use Rattle.live_step_laws.specs.world_model.Jobs.{Job}
use Rattle.live_step_laws.specs.world_image_laws.LentLaws.{SameBlocks}
use Rattle.live_step_laws.specs.live_model.Standing.{Kept, StandsAt}
use Rattle.live_step_laws.proofs.Standing.{stands_still}
use Rattle.live_step_laws.specs.k_split_laws.Ends.{not_root_number}
use Rattle.file_calls.specs.Answers.{ComesHalfWay, IsEnded, IsReplyOf, IsSpent}
use Rattle.file_calls.specs.Runs.{RunsAs, with_files}
use Rattle.file_calls.specs.declared.names.outcomes.Told.{Told}
use Rattle.file_calls.proofs.CallTables.{swept_tables}
use Rattle.file_calls.proofs.Halves.{named_there}
use Rattle.file_calls.proofs.Running.{runs_still, world}
use Rattle.file_calls.proofs.Shut.{GoOn-shut}

-- ---- the handle

-- what the state says of it
pub handle_there : (g : Geometry) (k : View) (t : Tables) (x : Kept) (n : ℕ) (s : State) (runs : RunsAs g k t x n s) (who : Who) (h : Handle) (o : Option Description) → opened t who h ≡ o
    → opened s.tables who h ≡ option_map (described_as (number runs.numbers)) o
handle_there g k t x n s runs who h o is = ap (λ y. opened y who h) runs.tables ∙ same_opened (number runs.numbers) t who h ∙ ap (option_map (described_as (number runs.numbers))) is

close_row : (t : Tables) (who : Who) (h : Handle) (o : Option Description) → opened t who h ≡ o → first (close_rows t who h) ≡ first (row (is_none o) Errno.EBADF ∷ [])
close_row t who h o is = ap (λ (x : Option Description). first (row (is_none x) Errno.EBADF ∷ [])) is

pub close_refused : (who : Who) (h : Handle) (k : View) (t : Tables) (fs : Files) → opened t who h ≡ None → (g : Geometry) (x : Kept) (n : ℕ) (s : State) → RunsAs g k t (with_files x fs) n s
    → step s who (Call.Close h) ≡ record { state = s; outcome = answer (Reply.Error Errno.EBADF) }
close_refused who h k t fs none g x n s runs = ap (λ o. stepped s o (close_done alone s who h)) (close_row s.tables who h None (handle_there g k t (with_files x fs) n s runs who h None none))

-- what a handle stands for is open
pub handle_open : (t : Tables) (who : Who) (h : Handle) (d : Description) → opened t who h ≡ Some d → is_open t d.node ≡ true
handle_open t who h d is = let o = Opens-opened t who h d is in is_open-Opens t who h o.0 d.node d o.1 refl

-- ---- what is dropped

-- a file that may be dropped, where it has no name
pub may_drop : (v : Volume) (ino : ℕ) → (inode v ino).kind ≡ File → names_of v.names ino ≡ 0 → MayDrop ino v
may_drop v ino file none = record { below = used_below v ino (ap is_used file); file = file; unnamed = none }

set_twice : (xs : List Node) (n : ℕ) (a b : Node) → slice_set (slice_set xs n a) n b ≡ slice_set xs n b
set_twice [] n a b = refl
set_twice (x ∷ xs) zero a b = refl
set_twice (x ∷ xs) (suc n) a b = ap (λ ys. x ∷ ys) (set_twice xs n a b)

-- between: the tables alone are changed
middle : Who → Handle → State → State
middle who h s = record s { tables = closed s.tables who h }

module _ (who : Who) (h : Handle) (k : View) (t t2 : Tables) (fs : Files) (d : Description) (known : opened t who h ≡ Some d) (t2_is : t2 ≡ closed t who h) where
  module _ (g : Geometry) (x : Kept) (n : ℕ) (s : State) (runs : RunsAs g k t (with_files x fs) n s) where
    there : opened s.tables who h ≡ Some (described_as (number runs.numbers) d)
    there = handle_there g k t (with_files x fs) n s runs who h (Some d) known

    no_row : first (close_rows s.tables who h) ≡ None
    no_row = close_row s.tables who h (Some (described_as (number runs.numbers) d)) there

    close_step : step s who (Call.Close h) ≡ close_done alone s who h
    close_step = ap (λ o. stepped s o (close_done alone s who h)) no_row

    file_is : file_number s.tables who h ≡ number runs.numbers d.node
    file_is = ap (λ o. option_map_or (λ (y : Description). y.node) o 0) there

    file_kind : (inode k.volume d.node).kind ≡ File
    file_kind = runs.open_are_files d.node (handle_open t who h d known)

    tables_closed : closed s.tables who h ≡ numbered_as (number runs.numbers) t2
    tables_closed = ap (λ y. closed y who h) runs.tables ∙ sym (closes_alike (number runs.numbers) t who h) ∙ ap (numbered_as (number runs.numbers)) (sym t2_is)

    files_closed : (i : ℕ) → is_open t2 i ≡ true → (inode k.volume i).kind ≡ File
    files_closed i is = runs.open_are_files i (open_once_closed t who h i (ap (λ y. is_open y i) (sym t2_is) ∙ is))

    here : IsWorld k.volume x.claims runs.jobs (journaled (words_of k.cells)) runs.numbers s runs.count
    here = world g k t (with_files x fs) n s runs

    -- of the open files it is open as it is in the state
    open_after : is_open (closed s.tables who h) (file_number s.tables who h) ≡ is_open t2 d.node
    open_after =
        (λ i. is_open (tables_closed i) (file_is i))
        ∙ same_open (number runs.numbers) t2 d.node (λ other open_other same.
        here.valid.stands.names.one other d.node (ap is_used (files_closed other open_other)) (ap is_used file_kind) same)

    close_tables : (after_call s (who, Call.Close h)).tables ≡ closed s.tables who h
    unfolding close_done
    close_tables =
        let file = file_number s.tables who h in
        ap (λ y. y.state.tables) close_step ∙ swept_tables (record (with_published s file) { tables = closed s.tables who h }) file

    close_outcome : (step s who (Call.Close h)).outcome ≡ answer Reply.Ok
    unfolding close_done
    close_outcome = ap (λ y. y.outcome) close_step

    -- in between they stand together, too
    runs_middle : LetsJobsBe s (who, Call.Close h) runs.numbers runs.jobs → (now : StandsAt g k t2 (with_files x fs) true (n + 1) (middle who h s)) × (now.jobs ≡ runs.jobs) × (now.numbers ≡ runs.numbers)
    unfolding middle
    runs_middle lets =
        stands_still g k t t2 (with_files x fs) true n s (middle who h s) runs refl refl
        (λ f valid.
        IsWorld-same k.volume x.claims runs.jobs f runs.numbers s (middle who h s) runs.count valid (GoOn-shut s who h (described_as (number runs.numbers) d) there k.volume x.claims runs.jobs f runs.numbers valid.valid lets)
        (record { entries = refl; count = refl; nodes = λ m. refl; shape = refl })) tables_closed files_closed runs.ordered

    -- the call's end, where the file stays
    stays_on : LetsJobsBe s (who, Call.Close h) runs.numbers runs.jobs → (is_named s.entries (file_number s.tables who h) ≡ true) ⊎ (is_open (closed s.tables who h) (file_number s.tables who h) ≡ true)
        → RunsAs g k t2 (with_files x fs) (n + 1) (after_call s (who, Call.Close h))
    stays_on lets stays =
        runs_still g k t t2 (with_files x fs) n s (after_call s (who, Call.Close h)) runs (keeps_setting s (who, Call.Close h)).shape (keeps_setting s (who, Call.Close h)).mode
        (λ f valid. IsWorld-closed k.volume x.claims runs.jobs f runs.numbers s runs.count who h valid lets no_row stays)
        (close_tables ∙ tables_closed) files_closed (AreOrdered-step_of alone s who (Call.Close h) runs.ordered)

    kept : (0 < names_of k.volume.names d.node) ⊎ (is_open t2 d.node ≡ true) → (is_named s.entries (file_number s.tables who h) ≡ true) ⊎ (is_open (closed s.tables who h) (file_number s.tables who h) ≡ true)
    kept (inl some) = inl (ap (is_named s.entries) file_is ∙ named_there g k t (with_files x fs) n s runs d.node some)
    kept (inr open_still) = inr (open_after ∙ open_still)

    -- the end is that state, swept
    other : number runs.numbers d.node ≢ 0
    other = not_root_number k.volume x.claims runs.jobs (journaled (words_of k.cells)) runs.numbers s runs.count d.node here (ap is_used file_kind) (ap is_directory file_kind)

    close_tree : tree (after_call s (who, Call.Close h)) ≡ tree s
    close_tree = tree_close s who h (λ root. other (sym file_is ∙ root))

    unnamed_there : names_of k.volume.names d.node ≡ 0 → is_named s.entries (number runs.numbers d.node) ≡ false
    unnamed_there none =
        is_named-nameless k.volume runs.numbers s d.node here.valid.stands.sane here.valid.stands.names (ap is_used file_kind) (count-nameless k.volume.names d.node none)

    gone : (m : ℕ) → is_named s.entries m ≡ false → is_open (closed s.tables who h) m ≡ false → swept alone (record (with_published s m) { tables = closed s.tables who h }) m ≡ swept alone (middle who h s) m
    unfolding with_published middle
    gone m no_name no_handle =
        swept-gone (record (with_published s m) { tables = closed s.tables who h }) m no_name no_handle
        ∙ ap (λ xs. record s { nodes = xs; tables = closed s.tables who h }) (set_twice s.nodes m (published_node (node_at s.nodes m)) Node.Gone) ∙ sym (swept-gone (middle who h s) m no_name no_handle)

    ends : names_of k.volume.names d.node ≡ 0 → is_open t2 d.node ≡ false → after_call s (who, Call.Close h) ≡ swept alone (middle who h s) (number runs.numbers d.node)
    unfolding close_done
    ends none shut =
        ap (λ y. y.state) close_step ∙ (λ i. swept alone (record (with_published s (file_is i)) { tables = closed s.tables who h }) (file_is i))
        ∙ gone (number runs.numbers d.node) (unnamed_there none) (ap (is_open (closed s.tables who h)) (sym file_is) ∙ (open_after ∙ shut))

  pub close_replies : IsReplyOf who (Call.Close h) k t fs (answer Reply.Ok)
  close_replies g x n s runs = close_outcome g x n s runs

  pub close_spent : (old new : Supply) → IsSpent who (Call.Close h) k t fs old new
  close_spent old new g x n s runs = inl (close_tree g x n s runs)

  -- THE FILE STAYS: it has a name, or is open still.
  pub close_stays : (old new : Supply) → (0 < names_of k.volume.names d.node) ⊎ (is_open t2 d.node ≡ true) → is_on new ≡ true
      → IsEnded who (Call.Close h) k t fs k t2 fs old new (Ok (Told.Answered (answer Reply.Ok)))
  close_stays old new stays on = (λ g x n s small runs lets. (stays_on g x n s runs lets (kept g x n s runs stays), close_replies g x n s runs), on, close_spent old new)

  -- IT GOES, where it has no name and nobody has it open.
  pub close_half : names_of k.volume.names d.node ≡ 0 → is_open t2 d.node ≡ false → ComesHalfWay who (Call.Close h) k t fs k t2 d.node
  unfolding middle
  close_half none shut g x n s small runs lets =
      let now = runs_middle g x n s runs lets in
      let end = ends g x n s runs none shut in
      record {
        geometry = refl;
        base = refl;
        blocks = same_blocks_here runs.jobs;
        middle = middle who h s;
        runs = now.0;
        jobs_are = now.1;
        file = record { below = used_below k.volume d.node (ap is_used (file_kind g x n s runs)); is_file = file_kind g x n s runs };
        ends = subst (λ ns. after_call s (who, Call.Close h) ≡ swept alone (middle who h s) (number ns d.node)) (sym now.2) end;
        tree_is = sym (ap tree end ∙ tree-swept (middle who h s) (number runs.numbers d.node) (other g x n s runs));
      }
    where
      same_blocks_here : (jobs : List Job) → SameBlocks k.volume k.volume jobs
      same_blocks_here [] = tt
      same_blocks_here (j ∷ jobs) = (λ i. refl, same_blocks_here jobs)
