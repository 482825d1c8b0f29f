-- `open`, `dup` and `stat`.
use Rattle.std.specs.Prelude.{◌≡◌, ◌⊎◌, ◌<◌, ◌+◌, ◌^◌, ℕ, zero, suc, Bool, true, false, List, [], ◌∷◌, length, Option, Some, None, IsSome, is_none, is_some, option_map, unwrap_or, slice_set, Result, Ok, Err, refl, if◌then◌else◌}
use Rattle.std.proofs.Common.{arith, ap, ◌∙◌, sym, subst, inl, inr}
use Rattle.std.proofs.lemmas.List.{length-set}
use Rattle.eof_laws.specs.pm_model.Images.{words_of}
use Rattle.eof_laws.specs.pm_model.Powers.{is_on, Supply}
use Rattle.eof_laws.specs.pm_model.Words.{Words}
use Rattle.eof_laws.specs.layout_model.Journal.{journaled}
use Rattle.eof_laws.specs.layout_model.Places.{Geometry}
use Rattle.layout_model.specs.declared.lines.Draft.{Draft}
use Rattle.layout_model.specs.declared.lines.Kind.{Kind}
use Rattle.layout_model.specs.declared.lines.Kind.TheVariants.{Directory, File, Free, Staging}
use Rattle.eof_laws.specs.image_model.Content.{size_of}
use Rattle.eof_laws.specs.image_model.Volume.{inode, Volume}
use Rattle.live_step_laws.specs.posix_laws.Orders.{AreOrdered-step_of}
use Rattle.eof_laws.specs.file_table.Files.{Files, size_in}
use Rattle.live_step_laws.proofs.Standing.{stands_on}
use Rattle.live_step_laws.specs.volume_change_laws.CallLaws.{row_to}
use Rattle.live_step_laws.specs.volume_change_laws.FoundLaws.{free-found}
use Rattle.live_step_laws.specs.volume_change_laws.FrameLaws.{made-inode}
use Rattle.live_step_laws.specs.k_plans.Making.{IsMade}
use Rattle.eof_laws.specs.k_split_model.Spaces.{volume_space}
use Rattle.eof_laws.specs.k_split_model.View.{View}
use Rattle.eof_laws.specs.layout_model.Spelling.{AreSpelled}
use Rattle.live_step_laws.specs.k_split.declared.faults.KFault.{KFault}
use Rattle.live_step_laws.specs.k_split.Answers.{IsPaid}
use Rattle.live_step_laws.specs.k_split.Looks.{IsFound}
use Rattle.live_step_laws.specs.k_split.Names.{IsMakeAnswer, make_row}
use Rattle.live_step_laws.specs.open_files.Numbered.{described_as, numbered_as}
use Rattle.live_step_laws.proofs.open_files_proofs.Changes.{dups_alike, open_once_opened, opens_alike}
use Rattle.live_step_laws.proofs.open_files_proofs.Lookups.{same_key, same_opened}
use Rattle.posix_types.specs.declared.call.Call.{Call}
use Rattle.posix_types.specs.declared.call.Who.{Who}
use Rattle.posix_types.specs.declared.handle.Flags.{Flags}
use Rattle.posix_types.specs.declared.handle.Handle.{Handle}
use Rattle.posix_types.specs.declared.item.Outcome.{Outcome}
use Rattle.posix_types.specs.declared.reply.Errno.{Errno}
use Rattle.posix_types.specs.declared.reply.Reply.{Reply}
use Rattle.posix_types.specs.declared.reply.Stat.{Stat}
use Rattle.open_files.specs.posix_tables.declared.nodes.Node.{Node}
use Rattle.open_files.specs.posix_tables.declared.open.Description.{Description}
use Rattle.open_files.specs.posix_tables.NameRows.{open_rows}
use Rattle.open_files.specs.posix_tables.Names.{exists_at, node_at_path, number_at}
use Rattle.open_files.specs.posix_tables.Nodes.{node_at}
use Rattle.open_files.specs.posix_tables.Open.{free_descriptor, is_full, is_open, key_of, next_descriptor, opened, Tables, with_descriptor, with_opened}
use Rattle.open_files.specs.posix_tables.Outcomes.{answer, first, row}
use Rattle.open_files.specs.posix_spec.FileRows.{dup_rows}
use Rattle.open_files.specs.posix_spec.Run.{after_call, run}
use Rattle.open_files.specs.posix_spec.State.{alone, made as made_state, space, State, with_node}
use Rattle.open_files.specs.posix_spec.Step.{dup_done, empty_file, is_busy, open_done, opening, opening_number, stat_of, step, stepped}
use Rattle.live_step_laws.specs.world_model.Stands.{is_used, IsUsed, NodeStands, number}
use Rattle.live_step_laws.specs.world_model.Jobs.{live_claims}
use Rattle.live_step_laws.specs.world_image_laws.Settings.{keeps_setting}
use Rattle.live_step_laws.specs.world_step_laws.OtherCalls.{IsWorld-same, SameShown}
use Rattle.live_step_laws.specs.world_step_laws.Mirrors.{exists-same, Mirrors, number_at-same}
use Rattle.live_step_laws.specs.world_step_laws.Rows.{HaveSameRows, HaveSameRows-Mirrors}
use Rattle.live_step_laws.specs.world_step_laws.Makers.{renumbered, renumbered-own}
use Rattle.live_step_laws.specs.world_step_laws.Steps.{GoOn-call, LetsJobsBe, shown_node}
use Rattle.live_step_laws.specs.world_step_laws.Worlds.{world_mirror}
use Rattle.live_step_laws.specs.k_split_laws.Going.{IsStep}
use Rattle.live_step_laws.specs.k_split_laws.DeviceSteps.{steps_opened}
use Rattle.live_step_laws.specs.live_model.Standing.{Kept}
use Rattle.file_calls.specs.Answers.{Answers, IsEnded, IsMissing, stat_by, told_of}
use Rattle.file_calls.specs.Runs.{RunsAs, with_files}
use Rattle.file_calls.specs.declared.names.outcomes.Told.{Told}
use Rattle.file_calls.proofs.NameCalls.{files_made, made_left, tables_renumbered, took}
use Rattle.file_calls.proofs.Paths.{open_made_rows, used_at}
use Rattle.file_calls.proofs.Running.{fault_ended, leads_end, loses_cut, runs_still, world}
use Rattle.file_calls.proofs.Trees.{tree_shown}

-- ---- what runs says of the volume and the state

module _ (g : Geometry) (k : View) (t : Tables) (x : Kept) (n : ℕ) (s : State) (runs : RunsAs g k t x n s) where
  pub mirror : Mirrors (IsUsed k.volume) runs.numbers (volume_space k.volume) (space s)
  mirror = world_mirror k.volume x.claims runs.jobs (journaled (words_of k.cells)) runs.numbers s runs.count (world g k t x n s runs)

  pub rows : HaveSameRows (volume_space k.volume) (space s)
  rows = HaveSameRows-Mirrors (IsUsed k.volume) runs.numbers (volume_space k.volume) (space s) mirror

  -- what stands at a path
  pub used_there : (p : List (List ℕ)) (ino : ℕ) → node_at_path (volume_space k.volume) p ≡ Some ino → IsUsed k.volume ino
  used_there p ino there = used_at (IsUsed k.volume) runs.numbers (volume_space k.volume) (space s) mirror p ino there

  pub number_there : (p : List (List ℕ)) (ino : ℕ) → node_at_path (volume_space k.volume) p ≡ Some ino → number_at (space s) p ≡ number runs.numbers ino
  number_there p ino there = sym (number_at-same (IsUsed k.volume) runs.numbers (volume_space k.volume) (space s) mirror p) ∙ ap (λ o. number runs.numbers (unwrap_or o 0)) there

  pub exists_there : (p : List (List ℕ)) → exists_at (space s) p ≡ is_some (node_at_path (volume_space k.volume) p)
  exists_there p = sym (exists-same (IsUsed k.volume) runs.numbers (volume_space k.volume) (space s) mirror p)

  pub node_stands : (ino : ℕ) → IsUsed k.volume ino → NodeStands k.volume (live_claims k.volume x.claims) (journaled (words_of k.cells)) ino (inode k.volume ino).kind (node_at s.nodes (number runs.numbers ino))
  node_stands ino used = (world g k t x n s runs).valid.stands.nodes.each ino used

  -- a file's size, as it is kept
  pub size_there : (ino : ℕ) → (inode k.volume ino).kind ≡ File → size_in x.files ino ≡ size_of k.volume (live_claims k.volume x.claims) ino
  size_there ino file = (runs.flying.overlays ino file).size_is

  pub full_there : is_full s.tables ≡ is_full t
  full_there = ap is_full runs.tables

  pub next_there : (fd : ℕ) → free_descriptor t ≡ Some fd → next_descriptor s.tables ≡ fd
  next_there fd free = ap next_descriptor runs.tables ∙ ap (λ o. unwrap_or o 0) free

-- ---- stat

pub stat_node : (v : Volume) (live : List Draft) (f : Words) (ino size : ℕ) (kind : Kind) (node : Node) → (kind ≡ File → size ≡ size_of v live ino) → NodeStands v live f ino kind node → stat_of node ≡ stat_by kind size
stat_node v live f ino size Free node size_is is = absurd is
stat_node v live f ino size Staging node size_is is = absurd is
stat_node v live f ino size Directory Node.Gone size_is is = absurd is
stat_node v live f ino size Directory Node.Directory size_is is = refl
stat_node v live f ino size Directory (Node.File file) size_is is = absurd is
stat_node v live f ino size File Node.Gone size_is is = absurd is
stat_node v live f ino size File Node.Directory size_is is = absurd is
stat_node v live f ino size File (Node.File file) size_is is = ap Stat.File (sym is.size ∙ sym (size_is refl))

-- ---- dup

pub dup_state : (s : State) (who : Who) (h to : Handle) → first (dup_rows s.tables who h) ≡ None → step s who (Call.Dup h to) ≡ dup_done s who h to
dup_state s who h to none = ap (λ o. stepped s o (dup_done s who h to)) none

pub dup_row : (numbers : List ℕ) (t : Tables) (s : State) (who : Who) (h : Handle) → s.tables ≡ numbered_as (number numbers) t → first (dup_rows s.tables who h) ≡ first (dup_rows t who h)
unfolding dup_rows
dup_row numbers t s who h tables =
    ap (λ y. first (dup_rows y who h)) tables ∙ ap (λ o. first (row o Errno.EBADF ∷ row (is_full t) Errno.EMFILE ∷ [])) (ap is_none (same_opened (number numbers) t who h) ∙ mapped (opened t who h)) where
      mapped : (o : Option Description) → is_none (option_map (described_as (number numbers)) o) ≡ is_none o
      mapped None = refl
      mapped (Some d) = refl

pub unknown_dup : (t : Tables) (who : Who) (h : Handle) → opened t who h ≡ None → first (dup_rows t who h) ≡ Some (answer (Reply.Error Errno.EBADF))
unfolding dup_rows
unknown_dup t who h none = ap (λ (o : Option Description). first (row (is_none o) Errno.EBADF ∷ row (is_full t) Errno.EMFILE ∷ [])) none

pub known_dup : (t : Tables) (who : Who) (h : Handle) → IsSome (opened t who h) → first (dup_rows t who h) ≡ first (row (is_full t) Errno.EMFILE ∷ [])
unfolding dup_rows
known_dup t who h known = by (opened t who h) known where
  by : (o : Option Description) → IsSome o → first (row (is_none o) Errno.EBADF ∷ row (is_full t) Errno.EMFILE ∷ []) ≡ first (row (is_full t) Errno.EMFILE ∷ [])
  by None never = cc
  by (Some d) is = refl

-- the tables behind it
pub tables_duped : (numbers : List ℕ) (t t2 : Tables) (s : State) (who : Who) (h to : Handle) → t2 ≡ with_descriptor t who to (unwrap_or (key_of t who h) 0) → s.tables ≡ numbered_as (number numbers) t
    → (dup_done s who h to).state.tables ≡ numbered_as (number numbers) t2
unfolding dup_done
tables_duped numbers t t2 s who h to t2_is tables =
    ap (λ y. with_descriptor y who to (unwrap_or (key_of y who h) 0)) tables
    ∙ ap (λ o. with_descriptor (numbered_as (number numbers) t) who to (unwrap_or o 0)) (same_key (number numbers) t who h)
    ∙ sym (dups_alike (number numbers) t who to (unwrap_or (key_of t who h) 0)) ∙ ap (numbered_as (number numbers)) (sym t2_is)

-- ---- open

-- its rows
pub open_row : (g : Geometry) (k : View) (t : Tables) (x : Kept) (n : ℕ) (s : State) (p : List (List ℕ)) (f : Flags) → RunsAs g k t x n s
    → first (open_rows (space s) (is_full s.tables) (is_busy alone s p) p f) ≡ first (open_rows (volume_space k.volume) (is_full t) false p f)
open_row g k t x n s p f runs = ap (λ full. first (open_rows (space s) full false p f)) (full_there g k t x n s runs) ∙ ap first (sym ((rows g k t x n s runs).open_ (is_full t) false p f))

pub open_refused : (who : Who) (h : Handle) (p : List (List ℕ)) (f : Flags) (k : View) (t : Tables) (fs : Files) (o : Outcome) → first (open_rows (volume_space k.volume) (is_full t) false p f) ≡ Some o
    → (g : Geometry) (x : Kept) (n : ℕ) (s : State) → RunsAs g k t (with_files x fs) n s → step s who (Call.Open h p f) ≡ record { state = s; outcome = o }
open_refused who h p f k t fs o is g x n s runs = ap (λ y. stepped s y (open_done s who h p f)) (open_row g k t (with_files x fs) n s p f runs ∙ is)

pub open_step : (who : Who) (h : Handle) (p : List (List ℕ)) (f : Flags) (k : View) (t : Tables) → first (open_rows (volume_space k.volume) (is_full t) false p f) ≡ None
    → (g : Geometry) (x : Kept) (n : ℕ) (s : State) → RunsAs g k t x n s → step s who (Call.Open h p f) ≡ open_done s who h p f
open_step who h p f k t none g x n s runs = ap (λ y. stepped s y (open_done s who h p f)) (open_row g k t x n s p f runs ∙ none)

-- the description that is opened
abbrev pub opening_of : ℕ → Flags → Description
opening_of ino f = record { node = ino; offset = 0; flags = f }

-- what is open then are files
pub files_opened : (k : View) (t t2 : Tables) (who : Who) (h : Handle) (ino : ℕ) (f : Flags) → t2 ≡ with_opened t who h (opening_of ino f) → ((i : ℕ) → is_open t i ≡ true → (inode k.volume i).kind ≡ File)
    → (inode k.volume ino).kind ≡ File → (i : ℕ) → is_open t2 i ≡ true → (inode k.volume i).kind ≡ File
files_opened k t t2 who h ino f t2_is files file i there = by (open_once_opened t who h (opening_of ino f) i (ap (λ x. is_open x i) (sym t2_is) ∙ there)) where
  by : (is_open t i ≡ true) ⊎ (i ≡ ino) → (inode k.volume i).kind ≡ File
  by (inl was) = files i was
  by (inr own) = ap (λ m. (inode k.volume m).kind) own ∙ file

pub tables_opened : (f : ℕ → ℕ) (t t2 : Tables) (x : Tables) (who : Who) (h : Handle) (ino m : ℕ) (flags : Flags) → x ≡ numbered_as f t → f ino ≡ m → t2 ≡ with_opened t who h (opening_of ino flags)
    → with_opened x who h (opening_of m flags) ≡ numbered_as f t2
tables_opened f t t2 x who h ino m flags x_is number_is t2_is =
    (λ i. with_opened (x_is i) who h (opening_of (sym number_is i) flags)) ∙ sym (opens_alike f t who h (opening_of ino flags)) ∙ ap (numbered_as f) (sym t2_is)

-- the tables then
pub opened_tables : (who : Who) (h : Handle) (p : List (List ℕ)) (f : Flags) (k : View) (t : Tables) (fs : Files) (ino : ℕ) → IsFound k.volume p (Ok ino) → (t2 : Tables) → first (open_rows (volume_space k.volume) (is_full t) false p f) ≡ None
    → t2 ≡ with_opened t who h (opening_of ino f) → (g : Geometry) (x : Kept) (n : ℕ) (s : State) → (runs : RunsAs g k t (with_files x fs) n s) → (after_call s (who, Call.Open h p f)).tables ≡ numbered_as (number runs.numbers) t2
unfolding open_done
opened_tables who h p f k t fs ino found t2 none t2_is g x n s runs =
    let there : exists_at (space s) p ≡ true = exists_there g k t (with_files x fs) n s runs p ∙ ap is_some found.1 in
    let m : opening_number s p ≡ number runs.numbers ino = ap (λ b. if b then number_at (space s) p else length s.nodes) there ∙ number_there g k t (with_files x fs) n s runs p ino found.1 in
    ap (λ y. y.state.tables) (open_step who h p f k t none g (with_files x fs) n s runs) ∙ tables_opened (number runs.numbers) t t2 s.tables who h ino (opening_number s p) f runs.tables (sym m) t2_is

-- A FILE THAT IS THERE is opened. It is not cut; or it has no bytes, and a cut changes nothing.
shown_set : (xs : List Node) (n m : ℕ) (x : Node) → shown_node x ≡ shown_node (node_at xs n) → shown_node (node_at (slice_set xs n x) m) ≡ shown_node (node_at xs m)
shown_set [] n m x same = refl
shown_set (y ∷ ys) zero zero x same = same
shown_set (y ∷ ys) zero (suc m) x same = refl
shown_set (y ∷ ys) (suc n) zero x same = refl
shown_set (y ∷ ys) (suc n) (suc m) x same = shown_set ys n m x same

no_bytes : (bytes : List ℕ) → 0 ≡ length bytes → [] ≡ bytes
no_bytes [] is = refl
no_bytes (b ∷ bytes) is = absurd (omega (arith, is))

shown_empty : (v : Volume) (live : List Draft) (f : Words) (ino : ℕ) (kind : Kind) (node : Node) → kind ≡ File → NodeStands v live f ino kind node → size_of v live ino ≡ 0 → shown_node empty_file ≡ shown_node node
shown_empty v live f ino Free node file is none = absurd is
shown_empty v live f ino Staging node file is none = absurd is
shown_empty v live f ino Directory node file is none = cc
shown_empty v live f ino File Node.Gone file is none = absurd is
shown_empty v live f ino File Node.Directory file is none = absurd is
shown_empty v live f ino File (Node.File x) file is none = ap (λ b. Node.File (record { bytes = b; published = 0 })) (no_bytes x.bytes (sym none ∙ is.size))

opening_there : (s : State) (p : List (List ℕ)) (c : Bool) → exists_at (space s) p ≡ true → opening s p c ≡ (if c then with_node s (number_at (space s) p) empty_file else s)
unfolding opening
opening_there s p c there = ap (λ b. if b then (if c then with_node s (number_at (space s) p) empty_file else s) else made_state s p empty_file) there

cut_same : (s : State) (m : ℕ) (c : Bool) → (c ≡ true → shown_node empty_file ≡ shown_node (node_at s.nodes m)) → SameShown s (if c then with_node s m empty_file else s)
cut_same s m true same = record { entries = refl; count = length-set s.nodes m empty_file; nodes = λ n. shown_set s.nodes m n empty_file (same refl); shape = refl }
cut_same s m false same = record { entries = refl; count = refl; nodes = λ n. refl; shape = refl }

module _ (who : Who) (h : Handle) (p : List (List ℕ)) (f : Flags) (k : View) (t : Tables) (fs : Files) (ino : ℕ) (found : IsFound k.volume p (Ok ino)) (file : (inode k.volume ino).kind ≡ File) (stays : f.truncate ≡ true → size_in fs ino ≡ 0) where
  same_shown : (g : Geometry) (x : Kept) (n : ℕ) (s : State) → RunsAs g k t (with_files x fs) n s → SameShown s (opening s p f.truncate)
  same_shown g x n s runs =
      let there : exists_at (space s) p ≡ true = exists_there g k t (with_files x fs) n s runs p ∙ ap is_some found.1 in
      let m = number_there g k t (with_files x fs) n s runs p ino found.1 in
      subst (SameShown s) (sym (opening_there s p f.truncate there))
      (cut_same s (number_at (space s) p) f.truncate (λ cuts.
      subst (λ i. shown_node empty_file ≡ shown_node (node_at s.nodes i)) (sym m)
      (shown_empty k.volume (live_claims k.volume x.claims) (journaled (words_of k.cells)) ino (inode k.volume ino).kind (node_at s.nodes (number runs.numbers ino)) file (node_stands g k t (with_files x fs) n s runs ino (ap is_used file))
      (sym (size_there g k t (with_files x fs) n s runs ino file) ∙ stays cuts))))

  opened_shown : first (open_rows (volume_space k.volume) (is_full t) false p f) ≡ None → (g : Geometry) (x : Kept) (n : ℕ) (s : State) → RunsAs g k t (with_files x fs) n s → SameShown s (after_call s (who, Call.Open h p f))
  unfolding open_done
  opened_shown none g x n s runs =
      let is = open_step who h p f k t none g (with_files x fs) n s runs in
      let same = same_shown g x n s runs in
      subst (SameShown s) (sym (ap (λ y. y.state) is)) (record { entries = same.entries; count = same.count; nodes = same.nodes; shape = same.shape })

  pub opened_ended : (t2 : Tables) (fd : ℕ) (old new : Supply) → first (open_rows (volume_space k.volume) (is_full t) false p f) ≡ None → free_descriptor t ≡ Some fd → t2 ≡ with_opened t who h (opening_of ino f) → is_on new ≡ true
      → IsEnded who (Call.Open h p f) k t fs k t2 fs old new (Ok (Told.Answered (answer (Reply.Fd fd))))
  unfolding open_done
  opened_ended t2 fd old new none free t2_is on = (answers, on, λ g x n s runs. inl (tree_shown s (after_call s (who, Call.Open h p f)) (opened_shown none g x n s runs))) where
    answers : Answers who (Call.Open h p f) k t fs k t2 fs (answer (Reply.Fd fd))
    answers g x n s small runs lets = (
      runs_still g k t t2 (with_files x fs) n s (after_call s (who, Call.Open h p f)) runs (keeps_setting s (who, Call.Open h p f)).shape (keeps_setting s (who, Call.Open h p f)).mode
          (λ w valid. IsWorld-same k.volume x.claims runs.jobs w runs.numbers s (after_call s (who, Call.Open h p f)) runs.count valid
          (GoOn-call k.volume x.claims runs.jobs w runs.numbers s (who, Call.Open h p f) valid.valid lets tt) (opened_shown none g x n s runs)) (opened_tables who h p f k t fs ino found t2 none t2_is g x n s runs)
          (files_opened k t t2 who h ino f t2_is runs.open_are_files file) (AreOrdered-step_of alone s who (Call.Open h p f) runs.ordered),
      ap (λ y. y.outcome) (open_step who h p f k t none g (with_files x fs) n s runs) ∙ ap (λ i. answer (Reply.Fd i)) (next_there g k t (with_files x fs) n s runs fd free),
    )

-- what is made is a file
pub new_file : (p : List (List ℕ)) (v w : Volume) (ino : ℕ) → IsMade false p v w ino → (inode w ino).kind ≡ File
new_file p v w ino is =
    let free = free-found v.inodes is.place.ino is.is_place.room.ino in
    subst (λ i. (inode w i).kind ≡ File) (sym is.ino_is)
    (subst (λ (x : Volume). (inode x is.place.ino).kind ≡ File) (sym is.is_made) (ap (λ x. x.kind) (made-inode File is.place.ino is.place.line (row_to p is.place.parent is.place.ino) v free.within)))

-- A MISSING FILE is made and opened.
module _ (who : Who) (h : Handle) (p : List (List ℕ)) (f : Flags) (k : View) (t : Tables) (fs : Files) (spelled : AreSpelled p) (missing_is : IsMissing k.volume p) (create : f.create ≡ true) (unfull : is_full t ≡ false) where
  pub same_rows : first (open_rows (volume_space k.volume) (is_full t) false p f) ≡ make_row p k
  same_rows = ap (λ b. first (open_rows (volume_space k.volume) b false p f)) unfull ∙ open_made_rows (volume_space k.volume) p f missing_is.short missing_is.walked missing_is.none create

  created_step : (w : Volume) (ino : ℕ) → make_row p k ≡ None → IsMade false p k.volume w ino → (g : Geometry) (x : Kept) (n : ℕ) (s : State) → n + 1 < 2 ^ 31 → (runs : RunsAs g k t x n s)
      → LetsJobsBe s (who, Call.Open h p f) runs.numbers runs.jobs
      → IsStep (Some ino) k.volume w x.claims runs.jobs runs.numbers (renumbered runs.numbers ino (length s.nodes)) s (after_call s (who, Call.Open h p f)) runs.count (runs.count + 1)
  created_step w ino none is g x n s small runs lets =
      steps_opened k.volume k.cells x.claims runs.jobs runs.numbers s runs.count who h p f w ino runs.flying.device lets (omega (arith, small, runs.few)) spelled
      (ap (λ full. first (open_rows (volume_space k.volume) full false p f)) (full_there g k t x n s runs) ∙ same_rows ∙ none) is

  created_tables : (k2 : View) (t2 : Tables) (ino : ℕ) → make_row p k ≡ None → IsMade false p k.volume k2.volume ino → t2 ≡ with_opened t who h (opening_of ino f) → (g : Geometry) (x : Kept) (n : ℕ) (s : State)
      → (runs : RunsAs g k t x n s) → (after_call s (who, Call.Open h p f)).tables ≡ numbered_as (number (renumbered runs.numbers ino (length s.nodes))) t2
  unfolding open_done
  created_tables k2 t2 ino none made_is t2_is g x n s runs =
      let files = files_made false p k.volume k2.volume ino t made_is runs.open_are_files in
      let after = renumbered runs.numbers ino (length s.nodes) in
      let gone : exists_at (space s) p ≡ false = exists_there g k t x n s runs p ∙ ap is_some missing_is.none in
      let m : opening_number s p ≡ length s.nodes = ap (λ b. if b then number_at (space s) p else length s.nodes) gone in
      ap (λ y. y.state.tables) (open_step who h p f k t (same_rows ∙ none) g x n s runs)
      ∙ tables_opened (number after) t t2 s.tables who h ino (opening_number s p) f (runs.tables ∙ tables_renumbered runs.numbers t ino (length s.nodes) files.0) (renumbered-own runs.numbers ino (length s.nodes) ∙ sym m) t2_is

  pub created_ended : (k2 : View) (t2 : Tables) (ino fd : ℕ) (old new : Supply) → (let r : Result ℕ KFault = Ok ino in IsMakeAnswer false p k k2 r × IsPaid (make_row p k) old new r)
      → free_descriptor t ≡ Some fd → t2 ≡ with_opened t who h (opening_of ino f) → IsEnded who (Call.Open h p f) k t fs k2 t2 fs old new (Ok (Told.Answered (answer (Reply.Fd fd))))
  unfolding open_done
  created_ended k2 t2 ino fd old new is free t2_is = let taken = took (make_row p k) old new ino is.0.0 is.1 in (answers, taken.0, λ g x n s runs. inr taken.1) where
    answers : Answers who (Call.Open h p f) k t fs k2 t2 fs (answer (Reply.Fd fd))
    answers g x n s small runs lets = (
      (stands_on g k k2 t t2 (with_files x fs) fs true n (n + 1) s (after_call s (who, Call.Open h p f)) (renumbered runs.numbers ino (length s.nodes)) (runs.count + 1) (Some ino) runs is.0.2
          (created_step k2.volume ino is.0.0 is.0.1 g (with_files x fs) n s small runs lets) (keeps_setting s (who, Call.Open h p f)).mode (omega (arith, runs.few)) (omega arith) (created_tables k2 t2 ino is.0.0 is.0.1 t2_is g (with_files x fs) n s runs)
          (files_opened k2 t t2 who h ino f t2_is (files_made false p k.volume k2.volume ino t is.0.1 runs.open_are_files).1 (new_file p k.volume k2.volume ino is.0.1)) (AreOrdered-step_of alone s who (Call.Open h p f) runs.ordered)
          (made_left false p g k t (with_files x fs) n s runs k2.volume ino is.0.1)).0,
      ap (λ y. y.outcome) (open_step who h p f k t (same_rows ∙ is.0.0) g (with_files x fs) n s runs) ∙ ap (λ i. answer (Reply.Fd i)) (next_there g k t (with_files x fs) n s runs fd free),
    )

  pub created_fault : (k2 : View) (old new : Supply) (fault : KFault) → (let r : Result ℕ KFault = Err fault in IsMakeAnswer false p k k2 r × IsPaid (make_row p k) old new r)
      → IsEnded who (Call.Open h p f) k t fs k2 t fs old new (told_of fault)
  created_fault k2 old new fault is =
      fault_ended (make_row p k) (λ ino w. IsMade false p k.volume w ino) who (Call.Open h p f) k k2 t fs old new fault (λ o row_is. open_refused who h p f k t fs o (same_rows ∙ row_is))
      (λ ino w none made_is cut. loses_cut who (Call.Open h p f) k k2 t fs w cut (λ g x n start history small runs lets. record {
        touched = Some ino;
        after = renumbered runs.numbers ino (length (run start history).nodes);
        next = after_call (run start history) (who, Call.Open h p f);
        later = runs.count + 1;
        is_step = created_step w ino none made_is g (with_files x fs) n (run start history) small runs lets;
        leads = leads_end g k t (with_files x fs) n start history who (Call.Open h p f) runs lets refl;
      }))
      is
