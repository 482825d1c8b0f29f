-- `open` of a file that is there and of one that is missing, where changes gather.
use Rattle.std.specs.Prelude.{◌≡◌, ◌≤◌, ◌+◌, ◌&&◌, ℕ, zero, suc, Bool, true, false, List, [], ◌∷◌, ◌++◌, length, Option, Some, None, is_some, unwrap_or, slice_set, Result, Ok, Err, refl, if◌then◌else◌}
use Rattle.std.proofs.Common.{arith, ap, ◌∙◌, sym, subst}
use Rattle.eof_laws.specs.pm_model.Powers.{is_on, Supply}
use Rattle.eof_laws.specs.layout_model.Spelling.{AreSpelled}
use Rattle.layout_model.specs.declared.lines.Kind.TheVariants.{File}
use Rattle.eof_laws.specs.image_model.Volume.{inode, Volume}
use Rattle.eof_laws.proofs.Ending.{end_made}
use Rattle.eof_laws.specs.file_table.Files.{Files, size_in}
use Rattle.eof_laws.specs.k_split_model.Spaces.{volume_space}
use Rattle.eof_laws.specs.k_split_model.View.{View}
use Rattle.live_step_laws.specs.k_plans.Making.{IsMade}
use Rattle.live_step_laws.specs.k_split.declared.faults.KFault.{KFault}
use Rattle.live_step_laws.specs.k_split.Answers.{IsPowered}
use Rattle.live_step_laws.specs.k_split.Gathers.{IsGatherMake}
use Rattle.live_step_laws.specs.k_split.Looks.{IsFound}
use Rattle.live_step_laws.specs.k_split.Names.{make_row}
use Rattle.live_step_laws.specs.live_model.Standing.{Kept}
use Rattle.live_step_laws.specs.live_model.staging_files.Keeps.{Staged}
use Rattle.live_step_laws.specs.open_files.Numbered.{numbered_as}
use Rattle.live_step_laws.specs.posix_laws.Orders.{AreOrdered-step_of}
use Rattle.live_step_laws.specs.world_model.Stands.{is_used, number}
use Rattle.live_step_laws.specs.world_step_laws.Makers.{renumbered, renumbered-own}
use Rattle.posix_types.specs.declared.call.Call.{Call}
use Rattle.posix_types.specs.declared.call.Who.{Who}
use Rattle.posix_types.specs.declared.handle.Flags.{Flags}
use Rattle.posix_types.specs.declared.handle.Handle.{Handle}
use Rattle.posix_types.specs.declared.reply.Reply.{Reply}
use Rattle.posix_types.specs.declared.reply.Stat.{Stat}
use Rattle.open_files.specs.posix_tables.declared.nodes.Node.{Node}
use Rattle.open_files.specs.posix_tables.NameRows.{open_rows}
use Rattle.open_files.specs.posix_tables.Names.{exists_at, number_at}
use Rattle.open_files.specs.posix_tables.Nodes.{bytes_of, node_at, published_of}
use Rattle.open_files.specs.posix_tables.Open.{free_descriptor, is_full, is_open, next_descriptor, Tables, with_opened}
use Rattle.open_files.specs.posix_tables.Outcomes.{answer, first}
use Rattle.open_files.specs.posix_spec.Run.{run}
use Rattle.open_files.specs.posix_spec.State.{alone, made as made_state, space, State, with_node}
use Rattle.open_files.specs.posix_spec.Step.{empty_file, is_busy, open_done, opening, opening_number, stat_of, step}
use Rattle.batch_laws.specs.Joins.{IsJoinedFrom}
use Rattle.batch_laws.specs.JoinsLaws.{found_goes_on, make_joins}
use Rattle.batch_laws.specs.MadeLaws.{creation_goes_on}
use Rattle.batch_laws.specs.Ready.{GoesReady}
use Rattle.batch_laws.specs.StandsOn.{IsNext}
use Rattle.batch_laws.specs.StandsOnLaws.{files_stand_on}
use Rattle.batch_laws.specs.Together.{with_parts}
use Rattle.file_calls.specs.Answers.{IsMissing, stat_by, told_of}
use Rattle.file_calls.specs.Gathers.{GatheredAnswers, IsGatheredEnd}
use Rattle.file_calls.specs.declared.names.outcomes.Told.{Told}
use Rattle.file_calls.proofs.Gathered.{behind_item, free_unmapped, made_leaves}
use Rattle.file_calls.proofs.NameCalls.{files_made, tables_renumbered}
use Rattle.file_calls.proofs.OpenCalls.{files_opened, new_file, opening_of, same_rows, tables_opened}
use Rattle.file_calls.proofs.OpenEnds.{free_unfull, open_found_none, opens_quietly, refused_puts, refused_seen, step_seen}
use Rattle.file_calls.proofs.Seen.{exists_seen, fault_gathered, IsSeenAs, IsWithin, number_seen, seen_of, still_gathered, StepsStill}

-- ---- a file that is there

-- a node that is set to what it is
set_same : (xs : List Node) (n : ℕ) → slice_set xs n (node_at xs n) ≡ xs
set_same [] n = refl
set_same (x ∷ xs) zero = refl
set_same (x ∷ xs) (suc n) = ap (λ ys. x ∷ ys) (set_same xs n)

no_bytes : (bytes : List ℕ) → length bytes ≡ 0 → bytes ≡ []
no_bytes [] is = refl
no_bytes (b ∷ bytes) is = absurd (omega (arith, is))

-- a file of no byte, of which no more is published
empty_there : (node : Node) → stat_of node ≡ Stat.File 0 → published_of node ≤ length (bytes_of node) → node ≡ empty_file
empty_there Node.Gone is within = cc
empty_there Node.Directory is within = cc
empty_there (Node.File file) is within =
    let none : length file.bytes ≡ 0 = cc in
    let bytes = no_bytes file.bytes none in
    let published : file.published ≡ 0 = omega (arith, within, none) in
    λ i. Node.File (record { bytes = bytes i; published = published i })

module _ (who : Who) (h : Handle) (p : List (List ℕ)) (f : Flags) (k : View) (t : Tables) (a : Staged) (fs : Files) (power : Supply) (on : is_on power ≡ true) (ino : ℕ) (found : IsFound k.volume p (Ok ino))
    (shared : (f.create && f.exclusive) ≡ false) where
  module _ (file : (inode k.volume ino).kind ≡ File) (stays : f.truncate ≡ true → size_in fs ino ≡ 0) (fd : ℕ) (t2 : Tables) (free : free_descriptor t ≡ Some fd) (t2_is : t2 ≡ with_opened t who h (opening_of ino f)) where
    none : first (open_rows (volume_space k.volume) (is_full t) false p f) ≡ None
    none = open_found_none who h p f k t fs ino found shared file (free_unfull who h p f k t fs fd free)

    exists_is : (s : State) → IsSeenAs k t fs s → exists_at (space s) p ≡ true
    exists_is s seen = exists_seen k t fs s seen p ∙ ap is_some found.1

    opening_is : (s : State) → IsSeenAs k t fs s → opening s p f.truncate ≡ (if f.truncate then with_node s (number_at (space s) p) empty_file else s)
    unfolding opening
    opening_is s seen = ap (λ b. if b then (if f.truncate then with_node s (number_at (space s) p) empty_file else s) else made_state s p empty_file) (exists_is s seen)

    -- a cut of a file without bytes leaves it
    same_nodes : (s : State) → IsSeenAs k t fs s → IsWithin s → (opening s p f.truncate).nodes ≡ s.nodes
    same_nodes s seen within = ap (λ (x : State). x.nodes) (opening_is s seen) ∙ by f.truncate stays where
      by : (c : Bool) → (c ≡ true → size_in fs ino ≡ 0) → (if c then with_node s (number_at (space s) p) empty_file else s).nodes ≡ s.nodes
      by true empty =
          let m = number_seen k t fs s seen p ino found.1 in
          let node = node_at s.nodes (number seen.numbers ino) in
          let is : node ≡ empty_file = empty_there node (seen.stats ino (ap is_used file) ∙ (λ i. stat_by (file i) (empty refl i))) (within (number seen.numbers ino)) in
          ap (λ i. slice_set s.nodes i empty_file) m ∙ (ap (slice_set s.nodes (number seen.numbers ino)) (sym is) ∙ set_same s.nodes (number seen.numbers ino))
      by false empty = refl

    same_entries : (s : State) → IsSeenAs k t fs s → (opening s p f.truncate).entries ≡ s.entries
    same_entries s seen = ap (λ (x : State). x.entries) (opening_is s seen) ∙ by f.truncate where
      by : (c : Bool) → (if c then with_node s (number_at (space s) p) empty_file else s).entries ≡ s.entries
      by true = refl
      by false = refl

    number_is : (s : State) → (seen : IsSeenAs k t fs s) → opening_number s p ≡ number seen.numbers ino
    number_is s seen = ap (λ b. if b then number_at (space s) p else length s.nodes) (exists_is s seen) ∙ number_seen k t fs s seen p ino found.1

    steps : (s : State) → (seen : IsSeenAs k t fs s) → IsWithin s → StepsStill who (Call.Open h p f) t2 seen.numbers s (answer (Reply.Fd fd))
    unfolding open_done
    steps s seen within = record {
      nodes = ap (λ y. y.state.nodes) (step_seen who h p f k t fs none s seen) ∙ same_nodes s seen within;
      entries = ap (λ y. y.state.entries) (step_seen who h p f k t fs none s seen) ∙ same_entries s seen;
      tables = ap (λ y. y.state.tables) (step_seen who h p f k t fs none s seen) ∙ tables_opened (number seen.numbers) t t2 s.tables who h ino (opening_number s p) f seen.tables (sym (number_is s seen)) t2_is;
      outcome_is = ap (λ y. y.outcome) (step_seen who h p f k t fs none s seen) ∙ ap (λ i. answer (Reply.Fd i)) (ap next_descriptor seen.tables ∙ ap (λ (o : Option ℕ). unwrap_or o 0) free);
    }

    pub opened_gathered : IsGatheredEnd who (Call.Open h p f) k t a fs k t2 a fs power power (Ok (Told.Answered (answer (Reply.Fd fd))))
    opened_gathered = (
      still_gathered who (Call.Open h p f) k t t2 a fs (answer (Reply.Fd fd))
          (λ s item seen item_is same. opens_quietly who h p f k t fs (answer (Reply.Fd fd)) s item item_is same)
          (λ i there files. files_opened k t t2 who h ino f t2_is files file i there) steps,
      on,
    )

-- ---- a file that is missing

module _ (who : Who) (h : Handle) (p : List (List ℕ)) (f : Flags) (k : View) (t : Tables) (a : Staged) (fs : Files) (missing_is : IsMissing k.volume p) where
  module _ (l : View) (old new : Supply) (spelled : AreSpelled p) (create : f.create ≡ true) (unfull : is_full t ≡ false) where
    rows_are : first (open_rows (volume_space k.volume) (is_full t) false p f) ≡ make_row p k
    rows_are = same_rows who h p f k t fs spelled missing_is create unfull

    created_tables : (ino : ℕ) (t2 : Tables) → make_row p k ≡ None → IsMade false p k.volume l.volume ino → t2 ≡ with_opened t who h (opening_of ino f) → ((i : ℕ) → is_open t i ≡ true → (inode k.volume i).kind ≡ File) → (s : State)
        → (seen : IsSeenAs k t fs s) → (step s who (Call.Open h p f)).state.tables ≡ numbered_as (number (renumbered seen.numbers ino (length s.nodes))) t2
    unfolding open_done
    created_tables ino t2 none made t2_is open_files s seen =
        let files = files_made false p k.volume l.volume ino t made open_files in
        let after = renumbered seen.numbers ino (length s.nodes) in
        let gone : exists_at (space s) p ≡ false = exists_seen k t fs s seen p ∙ ap is_some missing_is.none in
        let m : opening_number s p ≡ length s.nodes = ap (λ b. if b then number_at (space s) p else length s.nodes) gone in
        ap (λ y. y.state.tables) (step_seen who h p f k t fs (rows_are ∙ none) s seen)
        ∙ tables_opened (number after) t t2 s.tables who h ino (opening_number s p) f (seen.tables ∙ tables_renumbered seen.numbers t ino (length s.nodes) files.0) (renumbered-own seen.numbers ino (length s.nodes) ∙ sym m) t2_is

    created_outcome : (fd : ℕ) → make_row p k ≡ None → free_descriptor t ≡ Some fd → (s : State) → IsSeenAs k t fs s → (step s who (Call.Open h p f)).outcome ≡ answer (Reply.Fd fd)
    unfolding open_done
    created_outcome fd none free s seen =
        ap (λ y. y.outcome) (step_seen who h p f k t fs (rows_are ∙ none) s seen) ∙ ap (λ i. answer (Reply.Fd i)) (ap next_descriptor seen.tables ∙ ap (λ (o : Option ℕ). unwrap_or o 0) free)

    pub created_gathered : (ino fd : ℕ) (t2 : Tables) → (let r : Result ℕ KFault = Ok ino in IsGatherMake false p k l r × IsPowered new r) → free_descriptor t ≡ Some fd → t2 ≡ with_opened t who h (opening_of ino f)
        → IsGatheredEnd who (Call.Open h p f) k t a fs l t2 a fs old new (Ok (Told.Answered (answer (Reply.Fd fd))))
    created_gathered ino fd t2 is free t2_is = (answers, is.1) where
      answers : GatheredAnswers who (Call.Open h p f) k t a fs l t2 a fs (answer (Reply.Fd fd))
      answers g x n start history item small item_is stands = (
        files_stand_on g k l t t2 kept n (n + 1) (stands.count + 1) after start history (item ∷ []) (Some ino) stands (made_leaves false p k l ino made joined) ready (omega (arith, stands.few)) (omega arith)
            (subst (IsNext l t2 kept after) (sym (behind_item start history item who (Call.Open h p f) (answer (Reply.Fd fd)) item_is)) (record {
              tables = created_tables ino t2 is.0.0 made t2_is stands.open_are_files s seen;
              open_are_files = files_opened l t t2 who h ino f t2_is (files_made false p k.volume l.volume ino t made stands.open_are_files).1 (new_file p k.volume l.volume ino made);
              ordered = AreOrdered-step_of alone s who (Call.Open h p f) stands.ordered;
              ends = end_made false p k.volume l.volume ino fs (free_unmapped k.volume stands.ready.unmapped) made stands.ends;
            })),
        created_outcome fd is.0.0 free s seen,
      ) where
        kept : Kept
        kept = with_parts x a fs

        s : State
        s = run start history

        seen : IsSeenAs k t fs (run start history)
        seen = seen_of g k t (with_parts x a fs) n start history stands

        both : IsMade false p k.volume l.volume ino × IsJoinedFrom k l
        both = make_joins false p k l ino stands.ready.going.order stands.ready.going.batched stands.ready.going.on is.0

        made : IsMade false p k.volume l.volume ino
        made = both.0

        joined : IsJoinedFrom k l
        joined = both.1

        after : List ℕ
        after = renumbered stands.numbers ino (length (run start history).nodes)

        rows_now : first (open_rows (volume_space k.volume) (is_full s.tables) (is_busy alone s p) p f) ≡ None
        rows_now = ap (λ full. first (open_rows (volume_space k.volume) full false p f)) (ap is_full stands.tables) ∙ (rows_are ∙ is.0.0)

        ready : GoesReady g l fs (stands.count + 1) after start (history ++ item ∷ [])
        ready =
            creation_goes_on g joined.mid l fs stands.count stands.numbers start history item h p f l.volume ino
            (found_goes_on g k joined.mid fs stands.count stands.numbers start history stands.ready joined.found) item_is.1 (omega (arith, small, stands.few)) spelled
            (ap (λ (v : Volume). first (open_rows (volume_space v) (is_full s.tables) (is_busy alone s p) p f)) joined.volume ∙ rows_now) (subst (λ (v : Volume). IsMade false p v l.volume ino) (sym joined.volume) made) joined.gathered

    pub created_gathered_fault : (fault : KFault) → (let r : Result ℕ KFault = Err fault in IsGatherMake false p k l r × IsPowered new r) → IsGatheredEnd who (Call.Open h p f) k t a fs l t a fs old new (told_of fault)
    created_gathered_fault fault is =
        fault_gathered (make_row p k) (λ ino w. IsMade false p k.volume w ino) who (Call.Open h p f) k l t a fs old new fault
        (λ o s item row. refused_puts who h p f k t fs o (rows_are ∙ row) s item) (λ o row. refused_seen who h p f k t fs o (rows_are ∙ row)) is
