-- `stat`, `list` and `dup`, in each mode.
use Rattle.std.specs.Prelude.{◌≡◌, ℕ, List, [], ◌∷◌, Option, Some, None, IsSome, is_none, unwrap_or, Ok, Err, refl}
use Rattle.std.proofs.Common.{ap, ◌∙◌, sym, subst}
use Rattle.eof_laws.specs.image_model.Volume.{inode}
use Rattle.eof_laws.specs.file_table.Files.{Files, size_in}
use Rattle.eof_laws.specs.k_split_model.Spaces.{volume_space}
use Rattle.eof_laws.specs.k_split_model.View.{View}
use Rattle.live_step_laws.specs.k_split.Looks.{IsFound, IsListed, IsListFault}
use Rattle.live_step_laws.specs.k_split.declared.faults.KFault.{KFault}
use Rattle.live_step_laws.proofs.open_files_proofs.Changes.{open_once_duped}
use Rattle.open_files.specs.State.{IsDupFault, OpenState}
use Rattle.open_files.specs.declared.files.faults.OpenFault.{OpenFault}
use Rattle.posix_types.specs.declared.call.Call.{Call}
use Rattle.posix_types.specs.declared.call.Who.{Who}
use Rattle.posix_types.specs.declared.handle.Handle.{Handle}
use Rattle.posix_types.specs.declared.reply.Errno.{Errno}
use Rattle.posix_types.specs.declared.reply.Reply.{Reply}
use Rattle.open_files.specs.posix_tables.Names.{names_in}
use Rattle.open_files.specs.posix_tables.NameRows.{list_rows}
use Rattle.open_files.specs.posix_tables.Nodes.{node_at}
use Rattle.open_files.specs.posix_tables.Open.{free_descriptor, is_full, is_open, key_of, next_descriptor, opened, Tables, with_descriptor}
use Rattle.open_files.specs.posix_tables.Outcomes.{answer, first, row}
use Rattle.open_files.specs.posix_spec.FileRows.{dup_rows}
use Rattle.open_files.specs.posix_spec.State.{space, State}
use Rattle.open_files.specs.posix_spec.Step.{dup_done, list_done, stat_done, stat_of, step, stepped}
use Rattle.file_calls.specs.Answers.{stat_by, told_of, told_of_open}
use Rattle.file_calls.specs.declared.names.outcomes.Told.{Told}
use Rattle.file_calls.proofs.Alike.{EndsAlike, looks_alike, tables_alike}
use Rattle.file_calls.proofs.Lists.{state_lists}
use Rattle.file_calls.proofs.OpenCalls.{dup_row, dup_state, known_dup, tables_duped, unknown_dup}
use Rattle.file_calls.proofs.Seen.{IsSeenAs, number_seen, rows_seen, StepsStill, used_seen}

-- ---- stat

module _ (who : Who) (p : List (List ℕ)) (k : View) (t : Tables) (f : Files) where
  pub stat_lost : (errno : Errno) → IsFound k.volume p (Err errno) → EndsAlike who (Call.Stat p) k t t f (Ok (Told.Answered (answer (Reply.Error errno))))
  stat_lost errno found =
      looks_alike who (Call.Stat p) k t f (answer (Reply.Error errno)) (λ s. tt) (λ s seen. ap (λ o. stepped s o (stat_done s p)) (ap first (sym ((rows_seen k t f s seen).stat p)) ∙ found))

  stat_stays : (ino : ℕ) → IsFound k.volume p (Ok ino) → (s : State) → IsSeenAs k t f s → step s who (Call.Stat p) ≡ record { state = s; outcome = answer (Reply.Stat (stat_by (inode k.volume ino).kind (size_in f ino))) }
  unfolding stat_done
  stat_stays ino found s seen =
      ap (λ o. stepped s o (stat_done s p)) (ap first (sym ((rows_seen k t f s seen).stat p)) ∙ found.0)
      ∙ ap (λ y. record { state = s; outcome = answer (Reply.Stat y) }) (ap (λ m. stat_of (node_at s.nodes m)) (number_seen k t f s seen p ino found.1) ∙ seen.stats ino (used_seen k t f s seen p ino found.1))

  pub stat_seen : (ino : ℕ) → IsFound k.volume p (Ok ino) → EndsAlike who (Call.Stat p) k t t f (Ok (Told.Answered (answer (Reply.Stat (stat_by (inode k.volume ino).kind (size_in f ino))))))
  stat_seen ino found = looks_alike who (Call.Stat p) k t f (answer (Reply.Stat (stat_by (inode k.volume ino).kind (size_in f ino)))) (λ s. tt) (stat_stays ino found)

-- ---- list

module _ (who : Who) (p : List (List ℕ)) (k : View) (t : Tables) (f : Files) where
  list_row : (s : State) → IsSeenAs k t f s → first (list_rows (space s) p) ≡ first (list_rows (volume_space k.volume) p)
  list_row s seen = ap first (sym ((rows_seen k t f s seen).list p))

  list_stays : (names : List (List ℕ)) → IsListed k.volume p names → (s : State) → IsSeenAs k t f s → step s who (Call.List p) ≡ record { state = s; outcome = answer (Reply.Names names) }
  unfolding list_done
  list_stays names listed s seen =
      ap (λ o. stepped s o (list_done s p)) (list_row s seen ∙ listed.found.0)
      ∙ ap (λ y. record { state = s; outcome = answer (Reply.Names y) })
      (ap (names_in s.entries) (number_seen k t f s seen p listed.ino listed.found.1)
      ∙ state_lists k.volume seen.numbers s seen.sane seen.ordered seen.children listed.ino (used_seen k t f s seen p listed.ino listed.found.1) names listed.are listed.sorted)

  pub names_listed : (names : List (List ℕ)) → IsListed k.volume p names → EndsAlike who (Call.List p) k t t f (Ok (Told.Answered (answer (Reply.Names names))))
  names_listed names listed = looks_alike who (Call.List p) k t f (answer (Reply.Names names)) (λ s. tt) (list_stays names listed)

  pub list_fault : (fault : KFault) → IsListFault k.volume p fault → EndsAlike who (Call.List p) k t t f (told_of fault)
  list_fault (KFault.Refused errno) is =
      looks_alike who (Call.List p) k t f (answer (Reply.Error errno)) (λ s. tt) (λ s seen. ap (λ y. stepped s y (list_done s p)) (list_row s seen ∙ is))
  list_fault (KFault.Room room) is = absurd is
  list_fault KFault.NoMemory is = record { ended = λ power on. (refl, refl, refl, refl); gathers = λ a power on. on }
  list_fault KFault.PowerLost is = absurd is

-- ---- dup

module _ (who : Who) (h to : Handle) (k : View) (t t2 : Tables) (f : Files) where
  module _ (fd : ℕ) (known : IsSome (opened t who h)) (free : free_descriptor t ≡ Some fd) (t2_is : t2 ≡ with_descriptor t who to (unwrap_or (key_of t who h) 0)) where
    is_done : (s : State) → IsSeenAs k t f s → step s who (Call.Dup h to) ≡ dup_done s who h to
    is_done s seen = dup_state s who h to (dup_row seen.numbers t s who h seen.tables ∙ known_dup t who h known ∙ ap (λ (o : Option ℕ). first (row (is_none o) Errno.EMFILE ∷ [])) free)

    next : (s : State) → IsSeenAs k t f s → next_descriptor s.tables ≡ fd
    next s seen = ap next_descriptor seen.tables ∙ ap (λ (o : Option ℕ). unwrap_or o 0) free

    steps : (s : State) → (seen : IsSeenAs k t f s) → StepsStill who (Call.Dup h to) t2 seen.numbers s (answer (Reply.Fd fd))
    unfolding dup_done
    steps s seen = record {
      nodes = ap (λ y. y.state.nodes) (is_done s seen);
      entries = ap (λ y. y.state.entries) (is_done s seen);
      tables = ap (λ y. y.state.tables) (is_done s seen) ∙ tables_duped seen.numbers t t2 s who h to t2_is seen.tables;
      outcome_is = ap (λ y. y.outcome) (is_done s seen) ∙ ap (λ m. answer (Reply.Fd m)) (next s seen);
    }

    pub dup_ends : EndsAlike who (Call.Dup h to) k t t2 f (Ok (Told.Answered (answer (Reply.Fd fd))))
    dup_ends =
        tables_alike who (Call.Dup h to) k t f (answer (Reply.Fd fd)) t2 tt (λ s. tt)
        (λ i there. sym (open_once_duped t who to (unwrap_or (key_of t who h) 0) i) ∙ (ap (λ y. is_open y i) (sym t2_is) ∙ there)) steps

  dup_no : (errno : Errno) → t2 ≡ t → first (dup_rows t who h) ≡ Some (answer (Reply.Error errno)) → EndsAlike who (Call.Dup h to) k t t2 f (Ok (Told.Answered (answer (Reply.Error errno))))
  dup_no errno t2_is is =
      subst (λ x. EndsAlike who (Call.Dup h to) k t x f (Ok (Told.Answered (answer (Reply.Error errno))))) (sym t2_is)
      (looks_alike who (Call.Dup h to) k t f (answer (Reply.Error errno)) (λ s. tt) (λ s seen. ap (λ o. stepped s o (dup_done s who h to)) (dup_row seen.numbers t s who h seen.tables ∙ is)))

  pub dup_fault : (files : OpenState) (fault : OpenFault) → files.tables ≡ t → t2 ≡ t → IsDupFault files who h fault → EndsAlike who (Call.Dup h to) k t t2 f (told_of_open fault)
  dup_fault files (OpenFault.Full count) files_are t2_is why =
      dup_no Errno.EMFILE t2_is (known_dup t who h (subst (λ (x : Tables). IsSome (opened x who h)) files_are why.0) ∙ ap (λ b. first (row b Errno.EMFILE ∷ [])) (ap is_full (sym files_are) ∙ why.1.1))
  dup_fault files OpenFault.NotOpen files_are t2_is why = dup_no Errno.EBADF t2_is (unknown_dup t who h (subst (λ (x : Tables). opened x who h ≡ None) files_are why))
  dup_fault files OpenFault.NoMemory files_are t2_is why = record { ended = λ power on. (refl, t2_is, refl, refl); gathers = λ a power on. on }
