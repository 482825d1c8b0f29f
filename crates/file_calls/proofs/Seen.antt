-- What is seen of the state of the calls through what is kept, in each mode; and how a call ends in POSIX mode that changes nothing, that
-- a row refuses, or in which the power goes.
use Rattle.std.specs.Prelude.{◌≡◌, ◌≤◌, ◌+◌, ℕ, true, List, [], ◌∷◌, ◌++◌, length, Option, Some, None, option_map, unwrap_or, is_some, Result, Err, refl}
use Rattle.std.proofs.Common.{arith, ap, ◌∙◌, sym, subst}
use Rattle.eof_laws.specs.pm_model.ImageLaws.{IsImage-words_of}
use Rattle.eof_laws.specs.pm_model.Images.{words_of}
use Rattle.eof_laws.specs.pm_model.Powers.{Supply}
use Rattle.eof_laws.specs.layout_model.Journal.{journaled}
use Rattle.eof_laws.specs.layout_model.Places.{Geometry}
use Rattle.layout_model.specs.declared.lines.Draft.{Draft}
use Rattle.layout_model.specs.declared.lines.Kind.{Kind}
use Rattle.layout_model.specs.declared.lines.Kind.TheVariants.{File}
use Rattle.layout_model.specs.Names.{child_named}
use Rattle.eof_laws.specs.image_model.Volume.{inode, Volume}
use Rattle.eof_laws.specs.file_table.Files.{Files, runs_in, size_in}
use Rattle.eof_laws.specs.k_split_model.Spaces.{volume_space}
use Rattle.eof_laws.specs.k_split_model.View.{View}
use Rattle.live_step_laws.specs.k_split.declared.faults.KFault.{KFault}
use Rattle.live_step_laws.specs.k_split.Answers.{IsPowered}
use Rattle.live_step_laws.specs.k_split.Gathers.{IsGatherAnswer, WritesNone}
use Rattle.live_step_laws.specs.data_route.Reads.{read_len}
use Rattle.live_step_laws.specs.file_reads.Reads.{bytes_in}
use Rattle.live_step_laws.specs.live_model.Standing.{Kept}
use Rattle.live_step_laws.specs.live_model.staging_files.Keeps.{Staged}
use Rattle.live_step_laws.specs.open_files.Numbered.{numbered_as}
use Rattle.live_step_laws.specs.posix_laws.Cuts.{cut_of}
use Rattle.live_step_laws.specs.posix_laws.Orders.{AreOrdered}
use Rattle.live_step_laws.specs.world_model.Jobs.{live_claims}
use Rattle.live_step_laws.specs.world_model.Stands.{is_used, IsSane, IsUsed, NodeStands, number}
use Rattle.live_step_laws.specs.world_step_laws.Mirrors.{exists-same, Mirrors, number_at-same}
use Rattle.live_step_laws.specs.world_step_laws.Rows.{HaveSameRows, HaveSameRows-Mirrors}
use Rattle.live_step_laws.specs.world_step_laws.Worlds.{IsWorld}
use Rattle.posix_types.specs.declared.call.Call.{Call}
use Rattle.posix_types.specs.declared.call.Who.{Who}
use Rattle.posix_types.specs.declared.item.Item.{Item}
use Rattle.posix_types.specs.declared.item.Outcome.{Outcome}
use Rattle.posix_types.specs.declared.reply.Errno.{Errno}
use Rattle.posix_types.specs.declared.reply.Reply.{Reply}
use Rattle.open_files.specs.posix_tables.Names.{child_of, exists_at, node_at_path, number_at}
use Rattle.open_files.specs.posix_tables.Bytes.{bytes_from}
use Rattle.open_files.specs.posix_tables.Nodes.{bytes_of, node_at, published_of}
use Rattle.open_files.specs.posix_tables.Open.{is_open, Tables}
use Rattle.open_files.specs.posix_tables.Outcomes.{answer}
use Rattle.open_files.specs.posix_spec.Run.{run, run-append}
use Rattle.open_files.specs.posix_spec.State.{space, State}
use Rattle.open_files.specs.posix_spec.Step.{stat_of, step}
use Rattle.batch_laws.specs.BacksLaws.{loss_keeps_back}
use Rattle.batch_laws.specs.Changes.{PutsNone}
use Rattle.batch_laws.specs.IdleLaws.{lengths_are_kept, still_goes_on}
use Rattle.batch_laws.specs.JoinsLaws.{loss_leaves, names_lost}
use Rattle.batch_laws.specs.Losses.{IsLostIn}
use Rattle.batch_laws.specs.SpacesLaws.{batch_mirror}
use Rattle.batch_laws.specs.Standing.{as_claims, staged_of}
use Rattle.batch_laws.specs.StandsOn.{IsNext, LeavesFiles}
use Rattle.batch_laws.specs.StandsOnLaws.{files_stand_on}
use Rattle.batch_laws.specs.Together.{PosixStandsAt, with_parts}
use Rattle.batch_laws.specs.WorldsLaws.{cut_is_world, live_is_world, staged_is_overlay}
use Rattle.batch_laws.specs.posix_mode_laws.Sides.{sized}
use Rattle.batch_laws.specs.posix_mode_laws.Sized.{kind-sized}
use Rattle.file_calls.specs.Answers.{stat_by, told_of}
use Rattle.file_calls.specs.Gathers.{GatheredAnswers, GatheredLoses, IsGatheredEnd, IsItemOf}
use Rattle.file_calls.specs.Runs.{RunsAs}
use Rattle.file_calls.proofs.GatheredContents.{gathered_bytes}
use Rattle.file_calls.proofs.OpenCalls.{mirror, node_stands, size_there, stat_node}
use Rattle.file_calls.proofs.Paths.{used_at}
use Rattle.file_calls.proofs.ReadCalls.{bytes_there, length_there}
use Rattle.file_calls.proofs.Running.{world}

-- WHAT IS SEEN: the names are those of the state, the tables those of the open files, all of which are files; and a file has the length
-- that is kept, and the bytes that are read.
pub record IsSeenAs (k : View) (t : Tables) (f : Files) (s : State) : Type 0 where
  pub numbers : List ℕ
  pub mirror : Mirrors (IsUsed k.volume) numbers (volume_space k.volume) (space s)
  pub sane : IsSane k.volume
  pub children : (p : ℕ) (name : List ℕ) → IsUsed k.volume p → option_map (number numbers) (child_named k.volume.names p name) ≡ child_of s.entries (number numbers p) name
  pub ordered : AreOrdered s.entries
  pub stats : (ino : ℕ) → IsUsed k.volume ino → stat_of (node_at s.nodes (number numbers ino)) ≡ stat_by (inode k.volume ino).kind (size_in f ino)
  pub tables : s.tables ≡ numbered_as (number numbers) t
  pub open_are_files : (ino : ℕ) → is_open t ino ≡ true → (inode k.volume ino).kind ≡ File
  pub lengths : (ino : ℕ) → (inode k.volume ino).kind ≡ File → length (bytes_of (node_at s.nodes (number numbers ino))) ≡ size_in f ino
  pub contents : (ino : ℕ) → (inode k.volume ino).kind ≡ File → (place n : ℕ)
      → bytes_from (bytes_of (node_at s.nodes (number numbers ino))) place n ≡ bytes_in k.volume (words_of k.cells) (runs_in f ino) ino place (read_len (size_in f ino) place n)

module _ (k : View) (t : Tables) (f : Files) (s : State) (seen : IsSeenAs k t f s) where
  pub rows_seen : HaveSameRows (volume_space k.volume) (space s)
  rows_seen = HaveSameRows-Mirrors (IsUsed k.volume) seen.numbers (volume_space k.volume) (space s) seen.mirror

  pub used_seen : (p : List (List ℕ)) (ino : ℕ) → node_at_path (volume_space k.volume) p ≡ Some ino → IsUsed k.volume ino
  used_seen p ino there = used_at (IsUsed k.volume) seen.numbers (volume_space k.volume) (space s) seen.mirror p ino there

  pub number_seen : (p : List (List ℕ)) (ino : ℕ) → node_at_path (volume_space k.volume) p ≡ Some ino → number_at (space s) p ≡ number seen.numbers ino
  number_seen p ino there = sym (number_at-same (IsUsed k.volume) seen.numbers (volume_space k.volume) (space s) seen.mirror p) ∙ ap (λ o. number seen.numbers (unwrap_or o 0)) there

  pub exists_seen : (p : List (List ℕ)) → exists_at (space s) p ≡ is_some (node_at_path (volume_space k.volume) p)
  exists_seen p = sym (exists-same (IsUsed k.volume) seen.numbers (volume_space k.volume) (space s) seen.mirror p)

-- where the calls run it is seen
abbrev pub runs_seen : (g : Geometry) (k : View) (t : Tables) (x : Kept) (n : ℕ) (s : State) → RunsAs g k t x n s → IsSeenAs k t x.files s
runs_seen g k t x n s runs = record {
  numbers = runs.numbers;
  mirror = mirror g k t x n s runs;
  sane = (world g k t x n s runs).valid.stands.sane;
  children = (world g k t x n s runs).valid.stands.names.names;
  ordered = runs.ordered;
  stats = λ ino used.
      stat_node k.volume (live_claims k.volume x.claims) (journaled (words_of k.cells)) ino (size_in x.files ino) (inode k.volume ino).kind (node_at s.nodes (number runs.numbers ino)) (size_there g k t x n s runs ino)
      (node_stands g k t x n s runs ino used);
  tables = runs.tables;
  open_are_files = runs.open_are_files;
  lengths = length_there g k t x n s runs;
  contents = bytes_there g k t x n s runs;
}

-- no file has more published than it has bytes
abbrev pub IsWithin : State → Type 0
IsWithin s = (n : ℕ) → published_of (node_at s.nodes n) ≤ length (bytes_of (node_at s.nodes n))

-- where they stand together it is seen
module _ (g : Geometry) (k : View) (t : Tables) (x : Kept) (n : ℕ) (start : State) (history : List Item) (stands : PosixStandsAt g k t x true n start history) where
  cut : IsWorld k.volume [] [] (journaled (words_of k.cells)) stands.numbers (cut_of (run start history)) stands.count
  cut = cut_is_world g k x.files stands.count stands.numbers start history (words_of k.cells) stands.ready.going (IsImage-words_of k.cells)

  pub sane_there : IsSane k.volume
  sane_there = cut.valid.stands.sane

  pub children_there : (p : ℕ) (name : List ℕ) → IsUsed k.volume p → option_map (number stands.numbers) (child_named k.volume.names p name) ≡ child_of (run start history).entries (number stands.numbers p) name
  children_there = cut.valid.stands.names.names

  pub stats_there : (ino : ℕ) → IsUsed k.volume ino → stat_of (node_at (run start history).nodes (number stands.numbers ino)) ≡ stat_by (inode k.volume ino).kind (size_in x.files ino)
  stats_there ino used =
      let v : Volume = sized x.files.sizes k.volume in
      let claimed : List Draft = staged_of k.volume x.files in
      let live = live_is_world g k x.files stands.count stands.numbers start history (words_of k.cells) stands.ready.going (IsImage-words_of k.cells) in
      let kind : (inode v ino).kind ≡ (inode k.volume ino).kind = kind-sized x.files.sizes k.volume ino in
      let node = live.0.valid.stands.nodes.each ino (ap is_used kind ∙ used) in
      stat_node v claimed (journaled (words_of k.cells)) ino (size_in x.files ino) (inode k.volume ino).kind (node_at (run start history).nodes (number stands.numbers ino))
      (λ file. (staged_is_overlay g k x.files stands.count stands.numbers start history stands.ready.going ino (kind ∙ file)).size_is)
      (subst (λ ds. NodeStands v ds (journaled (words_of k.cells)) ino (inode k.volume ino).kind (node_at (run start history).nodes (number stands.numbers ino))) live.1
      (subst (λ (c : Kind). NodeStands v (live_claims v (as_claims claimed)) (journaled (words_of k.cells)) ino c (node_at (run start history).nodes (number stands.numbers ino))) kind node))

  abbrev pub seen_of : IsSeenAs k t x.files (run start history)
  seen_of = record {
    numbers = stands.numbers;
    mirror = batch_mirror g k x.files stands.count stands.numbers start history stands.ready;
    sane = sane_there;
    children = children_there;
    ordered = stands.ordered;
    stats = stats_there;
    tables = stands.tables;
    open_are_files = stands.open_are_files;
    lengths = λ ino file. (lengths_are_kept g k x.files stands.count stands.numbers start history ino stands.ready file).1;
    contents = λ ino file. gathered_bytes g k x.files stands.count stands.numbers start history stands.ready ino file;
  }

-- ---- K-Split stays

same_files : (k : View) → LeavesFiles None k k
same_files k = record {
  lent = λ i. refl;
  singles = λ i is. is;
  geometry = refl;
  base = refl;
  others = λ ino other. refl;
  file = λ ino never. (let no : None ≡ Some ino = never in cc);
  staging = λ ino never. (let no : None ≡ Some ino = never in cc);
  applied = λ ino. omega arith;
  maps = λ ino. refl;
}

-- A call that leaves names and nodes, and moves the tables.
pub record StepsStill (who : Who) (call : Call) (t : Tables) (numbers : List ℕ) (s : State) (outcome : Outcome) : Type 0 where
  pub nodes : (step s who call).state.nodes ≡ s.nodes
  pub entries : (step s who call).state.entries ≡ s.entries
  pub tables : (step s who call).state.tables ≡ numbered_as (number numbers) t
  pub outcome_is : (step s who call).outcome ≡ outcome

pub still_gathered : (who : Who) (call : Call) (k : View) (t t2 : Tables) (a : Staged) (f : Files) (o : Outcome)
    → ((s : State) (item : Item) → IsSeenAs k t f s → IsItemOf who call o item → (step s who call).state.nodes ≡ s.nodes → PutsNone s item)
    → ((i : ℕ) → is_open t2 i ≡ true → ((j : ℕ) → is_open t j ≡ true → (inode k.volume j).kind ≡ File) → (inode k.volume i).kind ≡ File)
    → ((s : State) → (seen : IsSeenAs k t f s) → IsWithin s → StepsStill who call t2 seen.numbers s o) → GatheredAnswers who call k t a f k t2 a f o
still_gathered who call k t t2 a f o puts open_files steps g x n start history item small item_is stands =
    let s : State = run start history in
    let seen = seen_of g k t (with_parts x a f) n start history stands in
    let is = steps s seen stands.ready.going.publishing.within in
    let same : step s item.who item.call ≡ step s who call = λ i. step s (item_is.0 i) (item_is.1 i) in
    let behind : run start (history ++ item ∷ []) ≡ (step s who call).state = run-append start history item ∙ ap (λ y. y.state) same in (
      files_stand_on g k k t t2 (with_parts x a f) n (n + 1) stands.count stands.numbers start history (item ∷ []) None stands (same_files k)
          (still_goes_on g k f stands.count stands.numbers start history item stands.ready (puts s item seen item_is is.nodes) (ap (λ y. y.state.nodes) same ∙ is.nodes) (ap (λ y. y.state.entries) same ∙ is.entries))
          (omega (arith, stands.few)) (omega arith)
          (subst (IsNext k t2 (with_parts x a f) stands.numbers) (sym behind) (record {
            tables = is.tables;
            open_are_files = λ i there. open_files i there stands.open_are_files;
            ordered = subst AreOrdered (sym is.entries) stands.ordered;
            ends = stands.ends;
          })),
      is.outcome_is,
    )

-- A call that changes nothing.
pub nothing_gathered : (who : Who) (call : Call) (k : View) (t : Tables) (a : Staged) (f : Files) (o : Outcome) → ((s : State) (item : Item) → IsSeenAs k t f s → IsItemOf who call o item → PutsNone s item)
    → ((s : State) → IsSeenAs k t f s → step s who call ≡ record { state = s; outcome = o }) → GatheredAnswers who call k t a f k t a f o
nothing_gathered who call k t a f o puts stays =
    still_gathered who call k t t a f o (λ s item seen item_is same. puts s item seen item_is) (λ i there files. files i there) (λ s seen within. (
    let is = stays s seen in
    record { nodes = ap (λ y. y.state.nodes) is; entries = ap (λ y. y.state.entries) is; tables = ap (λ y. y.state.tables) is ∙ seen.tables; outcome_is = ap (λ y. y.outcome) is }))

-- ---- the power went, or K-Split refuses

pub lost_gathered : (who : Who) (call : Call) (k l : View) (t : Tables) (a : Staged) (f : Files) → IsLostIn k l → GatheredLoses who call k t a f l
lost_gathered who call k l t a f lost = record {
  kept = λ g x n start history stands. loss_keeps_back g k l f stands.count stands.numbers start history x.first ((who, call) ∷ []) stands.ready lost;
  left = λ g x n start history stands. loss_leaves g k l f stands.count stands.numbers start history stands.ready lost;
}

pub fault_gathered : {T : Type 0} (row : Option Outcome) (Makes : T → Volume → Type 0) (who : Who) (call : Call) (k l : View) (t : Tables) (a : Staged) (f : Files) (old new : Supply) (fault : KFault)
    → ((o : Outcome) (s : State) (item : Item) → row ≡ Some o → IsSeenAs k t f s → IsItemOf who call o item → PutsNone s item)
    → ((o : Outcome) → row ≡ Some o → (s : State) → IsSeenAs k t f s → step s who call ≡ record { state = s; outcome = o })
    → (let r : Result T KFault = Err fault in IsGatherAnswer row (WritesNone Makes) k l r × IsPowered new r) → IsGatheredEnd who call k t a f l t a f old new (told_of fault)
fault_gathered row Makes who call k l t a f old new (KFault.Refused errno) puts stays is =
    let o : Outcome = answer (Reply.Error errno) in
    (subst (λ z. GatheredAnswers who call k t a f z t a f o) (sym is.0.1) (nothing_gathered who call k t a f o (λ s item. puts o s item is.0.0) (stays o is.0.0)), is.1)
fault_gathered row Makes who call k l t a f old new (KFault.Room room) puts stays is =
    let o : Outcome = record { reply = Reply.Error Errno.ENOSPC; room = Some room } in
    (subst (λ z. GatheredAnswers who call k t a f z t a f o) (sym is.0.1) (nothing_gathered who call k t a f o (λ s item. puts o s item is.0.0) (stays o is.0.0)), is.1)
fault_gathered row Makes who call k l t a f old new KFault.NoMemory puts stays is = is.1
fault_gathered row Makes who call k l t a f old new KFault.PowerLost puts stays is = (lost_gathered who call k l t a f (names_lost row Makes k l is.0), is.1)
