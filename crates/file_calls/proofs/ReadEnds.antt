-- `seek`, `read` and `pread`, in each mode; and `fsync` where each change is committed at once, which no call sees then.
use Rattle.std.specs.Prelude.{◌≡◌, ◌+◌, not, ℕ, ℤ, true, false, List, [], ◌∷◌, length, Option, Some, None, is_none, option_map, unwrap_or, Ok, refl}
use Rattle.std.specs.Option.{option_map_or}
use Rattle.std.proofs.Common.{ap, ◌∙◌, sym, inl}
use Rattle.pm_lines.specs.pm_model.Images.{words_of}
use Rattle.pm_lines.specs.pm_model.Powers.{is_on, Supply}
use Rattle.eof_laws.specs.layout_model.Places.{Geometry}
use Rattle.eof_laws.specs.file_table.Files.{Files, runs_in, size_in}
use Rattle.eof_laws.specs.image_model.Volume.{inode}
use Rattle.layout_model.specs.declared.lines.Kind.TheVariants.{File}
use Rattle.eof_laws.specs.k_split_model.View.{View}
use Rattle.live_step_laws.specs.data_route.Reads.{read_len}
use Rattle.live_step_laws.specs.file_reads.Reads.{bytes_in}
use Rattle.live_step_laws.specs.live_model.Standing.{Kept}
use Rattle.live_step_laws.specs.world_model.Stands.{number}
use Rattle.live_step_laws.specs.world_step_laws.Worlds.{IsIdle}
use Rattle.live_step_laws.proofs.open_files_proofs.Changes.{moves_alike}
use Rattle.live_step_laws.proofs.open_files_proofs.Lookups.{same_key, same_opened}
use Rattle.open_files.specs.Numbered.{described_as, numbered_as}
use Rattle.posix_types.specs.declared.call.Call.{Call}
use Rattle.posix_types.specs.declared.call.Who.{Who}
use Rattle.posix_types.specs.declared.handle.Handle.{Handle}
use Rattle.posix_types.specs.declared.handle.Whence.{Whence}
use Rattle.posix_types.specs.declared.item.Outcome.{Outcome}
use Rattle.posix_types.specs.declared.reply.Errno.{Errno}
use Rattle.posix_types.specs.declared.reply.Reply.{Reply}
use Rattle.posix_tables.specs.declared.open.Description.{Description}
use Rattle.posix_tables.specs.Bytes.{bytes_from, moved_place}
use Rattle.posix_tables.specs.Nodes.{bytes_of, node_at}
use Rattle.posix_tables.specs.Open.{is_open, key_of, may_read, opened, Tables, with_offset}
use Rattle.posix_tables.specs.Outcomes.{answer, first, row}
use Rattle.open_files.specs.posix_spec.FileRows.{content, file_number, offset_of, read_rows, seek_base, seek_rows, seek_target}
use Rattle.open_files.specs.posix_spec.State.{State, with_published}
use Rattle.open_files.specs.posix_spec.Step.{fsync_done, pread_done, read_done, seek_done, step, stepped}
use Rattle.open_files.specs.posix_spec.Tree.{tree}
use Rattle.batch_laws.specs.Quiet.{IsQuiet}
use Rattle.file_calls.specs.Answers.{Answers, IsEnded}
use Rattle.file_calls.specs.Reading.{base_by}
use Rattle.file_calls.specs.Runs.{RunsAs, with_files}
use Rattle.file_calls.specs.declared.names.outcomes.Told.{Told}
use Rattle.file_calls.proofs.Alike.{EndsAlike, looks_alike, tables_alike}
use Rattle.file_calls.proofs.CloseCalls.{handle_open, handle_there}
use Rattle.file_calls.proofs.ReadCalls.{open_once_moved}
use Rattle.file_calls.proofs.Running.{idle_on, nothing_ended}
use Rattle.file_calls.proofs.Seen.{IsSeenAs, StepsStill}
use Rattle.file_calls.proofs.Trees.{tree_published}

-- ---- what a handle stands for, in the state

module _ (k : View) (t : Tables) (f : Files) (s : State) (seen : IsSeenAs k t f s) (who : Who) (h : Handle) where
  handle_seen : (o : Option Description) → opened t who h ≡ o → opened s.tables who h ≡ option_map (described_as (number seen.numbers)) o
  handle_seen o is = ap (λ y. opened y who h) seen.tables ∙ same_opened (number seen.numbers) t who h ∙ ap (option_map (described_as (number seen.numbers))) is

  module _ (d : Description) (known : opened t who h ≡ Some d) where
    there : opened s.tables who h ≡ Some (described_as (number seen.numbers) d)
    there = handle_seen (Some d) known

    number_is : file_number s.tables who h ≡ number seen.numbers d.node
    number_is = ap (λ (o : Option Description). option_map_or (λ y. y.node) o 0) there

    offset_is : offset_of s.tables who h ≡ d.offset
    offset_is = ap (λ (o : Option Description). option_map_or (λ y. y.offset) o 0) there

    file_is : (inode k.volume d.node).kind ≡ File
    file_is = seen.open_are_files d.node (handle_open t who h d known)

    length_is : length (content s who h) ≡ size_in f d.node
    length_is = ap (λ m. length (bytes_of (node_at s.nodes m))) number_is ∙ seen.lengths d.node file_is

    content_is : (place n : ℕ) → bytes_from (content s who h) place n ≡ bytes_in k.volume (words_of k.cells) (runs_in f d.node) d.node place (read_len (size_in f d.node) place n)
    content_is place n = ap (λ m. bytes_from (bytes_of (node_at s.nodes m)) place n) number_is ∙ seen.contents d.node file_is place n

  key_is : key_of s.tables who h ≡ key_of t who h
  key_is = ap (λ y. key_of y who h) seen.tables ∙ same_key (number seen.numbers) t who h

  -- the tables with another offset
  tables_moved : (t2 : Tables) (offset : ℕ) → t2 ≡ with_offset t (unwrap_or (key_of t who h) 0) offset → with_offset s.tables (unwrap_or (key_of s.tables who h) 0) offset ≡ numbered_as (number seen.numbers) t2
  tables_moved t2 offset t2_is =
      (λ i. with_offset (seen.tables i) (unwrap_or (key_is i) 0) offset) ∙ sym (moves_alike (number seen.numbers) t (unwrap_or (key_of t who h) 0) offset) ∙ ap (numbered_as (number seen.numbers)) (sym t2_is)

-- an offset alone changes
offset_alike : (who : Who) (call : Call) (h : Handle) (k : View) (t t2 : Tables) (f : Files) (o : Outcome) (offset : ℕ) → IsIdle call → ((s : State) → IsQuiet s call) → t2 ≡ with_offset t (unwrap_or (key_of t who h) 0) offset
    → ((s : State) → (seen : IsSeenAs k t f s) → StepsStill who call t2 seen.numbers s o) → EndsAlike who call k t t2 f (Ok (Told.Answered o))
offset_alike who call h k t t2 f o offset idle quiet t2_is =
    tables_alike who call k t f o t2 idle quiet (λ i there. sym (open_once_moved t (unwrap_or (key_of t who h) 0) offset i) ∙ (ap (λ y. is_open y i) (sym t2_is) ∙ there))

-- ---- seek

module _ (who : Who) (h : Handle) (w : Whence) (by : ℤ) (k : View) (t : Tables) (f : Files) where
  pub seek_unknown : opened t who h ≡ None → EndsAlike who (Call.Seek h w by) k t t f (Ok (Told.Answered (answer (Reply.Error Errno.EBADF))))
  unfolding seek_rows
  seek_unknown none =
      looks_alike who (Call.Seek h w by) k t f (answer (Reply.Error Errno.EBADF)) (λ s. tt) (λ s seen.
      ap (λ (o : Option Description). stepped s (first (row (is_none o) Errno.EBADF ∷ row (is_none (seek_target s who h w by)) Errno.EINVAL ∷ [])) (seek_done s who h w by)) (handle_seen k t f s seen who h None none))

  module _ (d : Description) (known : opened t who h ≡ Some d) where
    base_is : (s : State) → IsSeenAs k t f s → (z : Whence) → seek_base s who h z ≡ base_by d.offset (size_in f d.node) z
    base_is s seen Whence.Set = refl
    base_is s seen Whence.Cur = offset_is k t f s seen who h d known
    base_is s seen Whence.End = length_is k t f s seen who h d known

    target_is : (s : State) → IsSeenAs k t f s → seek_target s who h w by ≡ moved_place (base_by d.offset (size_in f d.node) w) by
    target_is s seen = ap (λ base. moved_place base by) (base_is s seen w)

    row_is : (s : State) → IsSeenAs k t f s → (o : Option ℕ) → moved_place (base_by d.offset (size_in f d.node) w) by ≡ o → first (seek_rows s who h w by) ≡ first (row (is_none o) Errno.EINVAL ∷ [])
    unfolding seek_rows
    row_is s seen o is =
        ap (λ (z : Option Description). first (row (is_none z) Errno.EBADF ∷ row (is_none (seek_target s who h w by)) Errno.EINVAL ∷ [])) (handle_seen k t f s seen who h (Some d) known)
        ∙ ap (λ (z : Option ℕ). first (row (is_none z) Errno.EINVAL ∷ [])) (target_is s seen ∙ is)

    pub seek_refused : moved_place (base_by d.offset (size_in f d.node) w) by ≡ None → EndsAlike who (Call.Seek h w by) k t t f (Ok (Told.Answered (answer (Reply.Error Errno.EINVAL))))
    seek_refused none = looks_alike who (Call.Seek h w by) k t f (answer (Reply.Error Errno.EINVAL)) (λ s. tt) (λ s seen. ap (λ o. stepped s o (seek_done s who h w by)) (row_is s seen None none))

    module _ (m : ℕ) (t2 : Tables) (is : moved_place (base_by d.offset (size_in f d.node) w) by ≡ Some m) (t2_is : t2 ≡ with_offset t (unwrap_or (key_of t who h) 0) m) where
      seek_is_done : (s : State) → IsSeenAs k t f s → step s who (Call.Seek h w by) ≡ seek_done s who h w by
      seek_is_done s seen = ap (λ o. stepped s o (seek_done s who h w by)) (row_is s seen (Some m) is)

      place_is : (s : State) → IsSeenAs k t f s → unwrap_or (seek_target s who h w by) 0 ≡ m
      place_is s seen = ap (λ (o : Option ℕ). unwrap_or o 0) (target_is s seen ∙ is)

      seek_steps : (s : State) → (seen : IsSeenAs k t f s) → StepsStill who (Call.Seek h w by) t2 seen.numbers s (answer (Reply.Offset m))
      unfolding seek_done
      seek_steps s seen = record {
        nodes = ap (λ y. y.state.nodes) (seek_is_done s seen);
        entries = ap (λ y. y.state.entries) (seek_is_done s seen);
        tables = ap (λ y. y.state.tables) (seek_is_done s seen) ∙ ap (λ i. with_offset s.tables (unwrap_or (key_of s.tables who h) 0) i) (place_is s seen) ∙ tables_moved k t f s seen who h t2 m t2_is;
        outcome_is = ap (λ y. y.outcome) (seek_is_done s seen) ∙ ap (λ i. answer (Reply.Offset i)) (place_is s seen);
      }

      pub seek_ends : EndsAlike who (Call.Seek h w by) k t t2 f (Ok (Told.Answered (answer (Reply.Offset m))))
      seek_ends = offset_alike who (Call.Seek h w by) h k t t2 f (answer (Reply.Offset m)) m tt (λ s. tt) t2_is seek_steps

-- ---- read and pread

module _ (who : Who) (h : Handle) (k : View) (t : Tables) (f : Files) where
  -- a handle that may not read
  unread_row : (s : State) (seen : IsSeenAs k t f s) → (o : Option Description) → opened t who h ≡ o → first (read_rows s.tables who h) ≡ first (row (not (option_map_or (λ y. y.flags.read) o false)) Errno.EBADF ∷ [])
  unread_row s seen o is =
      ap (λ (z : Option Description). first (row (not (option_map_or (λ y. y.flags.read) z false)) Errno.EBADF ∷ [])) (handle_seen k t f s seen who h o is) ∙ by o where
        by : (z : Option Description) → first (row (not (option_map_or (λ y. y.flags.read) (option_map (described_as (number seen.numbers)) z) false)) Errno.EBADF ∷ []) ≡ first (row (not (option_map_or (λ y. y.flags.read) z false)) Errno.EBADF ∷ [])
        by None = refl
        by (Some d) = refl

  shut_row : may_read t who h ≡ false → (s : State) → IsSeenAs k t f s → first (read_rows s.tables who h) ≡ Some (answer (Reply.Error Errno.EBADF))
  shut_row shut s seen = unread_row s seen (opened t who h) refl ∙ ap (λ b. first (row (not b) Errno.EBADF ∷ [])) shut

  pub unread : may_read t who h ≡ false → (count : ℕ) → EndsAlike who (Call.Read h count) k t t f (Ok (Told.Answered (answer (Reply.Error Errno.EBADF))))
  unread shut count = looks_alike who (Call.Read h count) k t f (answer (Reply.Error Errno.EBADF)) (λ s. tt) (λ s seen. ap (λ o. stepped s o (read_done s who h count)) (shut_row shut s seen))

  pub unread_at : may_read t who h ≡ false → (place count : ℕ) → EndsAlike who (Call.Pread h place count) k t t f (Ok (Told.Answered (answer (Reply.Error Errno.EBADF))))
  unread_at shut place count =
      looks_alike who (Call.Pread h place count) k t f (answer (Reply.Error Errno.EBADF)) (λ s. tt) (λ s seen. ap (λ o. stepped s o (pread_done s who h place count)) (shut_row shut s seen))

  module _ (d : Description) (known : opened t who h ≡ Some d) (may : d.flags.read ≡ true) where
    no_row : (s : State) → IsSeenAs k t f s → first (read_rows s.tables who h) ≡ None
    no_row s seen = unread_row s seen (Some d) known ∙ ap (λ b. first (row (not b) Errno.EBADF ∷ [])) may

    pub pread_ends : (place count : ℕ) (bytes : List ℕ) → bytes ≡ bytes_in k.volume (words_of k.cells) (runs_in f d.node) d.node place (read_len (size_in f d.node) place count)
        → EndsAlike who (Call.Pread h place count) k t t f (Ok (Told.Answered (answer (Reply.Bytes bytes))))
    unfolding pread_done
    pread_ends place count bytes is =
        looks_alike who (Call.Pread h place count) k t f (answer (Reply.Bytes bytes)) (λ s. tt) (λ s seen.
        ap (λ o. stepped s o (pread_done s who h place count)) (no_row s seen) ∙ ap (λ xs. record { state = s; outcome = answer (Reply.Bytes xs) }) (content_is k t f s seen who h d known place count ∙ sym is))

    module _ (count : ℕ) (bytes : List ℕ) (t2 : Tables) (is : bytes ≡ bytes_in k.volume (words_of k.cells) (runs_in f d.node) d.node d.offset (read_len (size_in f d.node) d.offset count))
        (t2_is : t2 ≡ with_offset t (unwrap_or (key_of t who h) 0) (d.offset + length bytes)) where
      read_is_done : (s : State) → IsSeenAs k t f s → step s who (Call.Read h count) ≡ read_done s who h count
      read_is_done s seen = ap (λ o. stepped s o (read_done s who h count)) (no_row s seen)

      bytes_are : (s : State) → IsSeenAs k t f s → bytes_from (content s who h) (offset_of s.tables who h) count ≡ bytes
      bytes_are s seen = ap (λ place. bytes_from (content s who h) place count) (offset_is k t f s seen who h d known) ∙ content_is k t f s seen who h d known d.offset count ∙ sym is

      read_steps : (s : State) → (seen : IsSeenAs k t f s) → StepsStill who (Call.Read h count) t2 seen.numbers s (answer (Reply.Bytes bytes))
      unfolding read_done
      read_steps s seen = record {
        nodes = ap (λ y. y.state.nodes) (read_is_done s seen);
        entries = ap (λ y. y.state.entries) (read_is_done s seen);
        tables = ap (λ y. y.state.tables) (read_is_done s seen)
            ∙ (λ i. with_offset s.tables (unwrap_or (key_of s.tables who h) 0) (offset_is k t f s seen who h d known i + length (bytes_are s seen i)))
            ∙ tables_moved k t f s seen who h t2 (d.offset + length bytes) t2_is;
        outcome_is = ap (λ y. y.outcome) (read_is_done s seen) ∙ ap (λ xs. answer (Reply.Bytes xs)) (bytes_are s seen);
      }

      pub read_ends : EndsAlike who (Call.Read h count) k t t2 f (Ok (Told.Answered (answer (Reply.Bytes bytes))))
      read_ends = offset_alike who (Call.Read h count) h k t t2 f (answer (Reply.Bytes bytes)) (d.offset + length bytes) tt (λ s. tt) t2_is read_steps

-- ---- fsync

pub sync_unknown : (who : Who) (h : Handle) (k : View) (t : Tables) (fs : Files) (power : Supply) → is_on power ≡ true → opened t who h ≡ None
    → IsEnded who (Call.Fsync h) k t fs k t fs power power (Ok (Told.Answered (answer (Reply.Error Errno.EBADF))))
sync_unknown who h k t fs power on none =
    nothing_ended who (Call.Fsync h) k k t fs (answer (Reply.Error Errno.EBADF)) power power refl on (λ g x n s runs.
    ap (λ (o : Option Description). stepped s (first (row (is_none o) Errno.EBADF ∷ [])) (fsync_done s who h)) (handle_there g k t (with_files x fs) n s runs who h None none))

pub sync_ended : (who : Who) (h : Handle) (k : View) (t : Tables) (fs : Files) (power : Supply) → is_on power ≡ true → (d : Description) → opened t who h ≡ Some d
    → IsEnded who (Call.Fsync h) k t fs k t fs power power (Ok (Told.Answered (answer Reply.Ok)))
unfolding fsync_done with_published
sync_ended who h k t fs power on d known = (answers, on, λ g x n s runs. inl (ap (λ y. tree y.state) (sync_step g (with_files x fs) n s runs) ∙ tree_published s (file_number s.tables who h))) where
  sync_step : (g : Geometry) (x : Kept) (n : ℕ) (s : State) → RunsAs g k t x n s → step s who (Call.Fsync h) ≡ fsync_done s who h
  sync_step g x n s runs = ap (λ (o : Option Description). stepped s (first (row (is_none o) Errno.EBADF ∷ [])) (fsync_done s who h)) (handle_there g k t x n s runs who h (Some d) known)

  answers : Answers who (Call.Fsync h) k t fs k t fs (answer Reply.Ok)
  answers g x n s small runs lets =
      let step_is = sync_step g (with_files x fs) n s runs in (
        idle_on g k t t (with_files x fs) n s who (Call.Fsync h) runs tt lets (ap (λ y. y.state.tables) step_is ∙ runs.tables) runs.open_are_files,
        ap (λ y. y.outcome) step_is,
      )
