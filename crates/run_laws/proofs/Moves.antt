-- Whether a call moved data or the next call of some caller may: once so it stays so.
use Rattle.std.specs.Prelude.{◌≡◌, ◌⊎◌, ◌<◌, ◌||◌, Bool, true, false, List, [], ◌∷◌, ◌++◌, length, Option, Some, None, refl}
use Rattle.std.specs.List.{list_any, range_with_len}
use Rattle.std.specs.Option.{option_map_or}
use Rattle.std.proofs.Common.{arith, ap, ◌∙◌, sym, inl, inr}
use Rattle.std.proofs.lemmas.Bool.{cases_lt}
use Rattle.std.proofs.lemmas.List.{get_or_past}
use Rattle.std.proofs.lemmas.Option.{same_Some, slice_get_within}
use Rattle.world_view_laws.specs.crash_spec.Busy.{is_logged, is_logged_put}
use Rattle.world_view_laws.specs.crash_spec.ScheduleLaws.{may_write}
use Rattle.world_view_laws.specs.in_flight.Histories.{next_stays}
use Rattle.world_view_laws.specs.list_laws.Filters.{filter_map-In, In-filter_map, In-map, In-range}
use Rattle.world_view_laws.specs.list_laws.Members.{In}
use Rattle.world_view_laws.specs.posix_spec.Put.{Put, put_by}
use Rattle.world_view_laws.specs.posix_types.declared.call.Call.{Call}
use Rattle.world_view_laws.specs.posix_types.declared.call.Who.{Who}
use Rattle.world_view_laws.specs.posix_types.declared.item.Item.{Item}
use Rattle.world_view_laws.specs.posix_types.Scripts.{Scripts}
use Rattle.world_view_laws.specs.posix_tables.Open.{same_who}
use Rattle.world_view_laws.specs.posix_spec.Afforded.{callers, moves_data, next_calls}
use Rattle.world_view_laws.specs.posix_spec.Scripted.{items_of, next_call, script_of}
use Rattle.world_view_laws.specs.posix_spec.State.{State}
use Rattle.world_view_laws.specs.in_flight.commute_laws.Handles.{same_who-is}
use Rattle.run_laws.specs.Paid.{has_moved}
use Rattle.run_laws.proofs.Longer.{moved_now, moved_still}

abbrev pub next_moves : Scripts → List Item → Bool
next_moves scripts history = list_any moves_data (next_calls scripts history)

abbrev pub moves_by : Scripts → List Item → Bool
moves_by scripts history = has_moved history || next_moves scripts history

-- ---- tests

or_left : (a b : Bool) → a ≡ true → (a || b) ≡ true
or_left true b is = refl
or_left false b is = cc

or_right : (a b : Bool) → b ≡ true → (a || b) ≡ true
or_right true b is = refl
or_right false b is = is

or_cases : (a b : Bool) → (a || b) ≡ true → (a ≡ true) ⊎ (b ≡ true)
or_cases true b is = inl refl
or_cases false b is = inr is

pub not_both : (b : Bool) → b ≡ true → b ≡ false → ⊥
not_both true is fails = cc
not_both false is fails = cc

-- what is not true
pub if_not : (b : Bool) → (b ≡ true → ⊥) → b ≡ false
if_not true never = absurd (never refl)
if_not false never = refl

any_there : (calls : List Call) (call : Call) → In call calls → moves_data call ≡ true → list_any moves_data calls ≡ true
any_there [] call is moves = absurd is
any_there (c ∷ calls) call (inl same) moves = or_left (moves_data c) (list_any moves_data calls) (ap moves_data same ∙ moves)
any_there (c ∷ calls) call (inr rest) moves = or_right (moves_data c) (list_any moves_data calls) (any_there calls call rest moves)

some_moves : (calls : List Call) → list_any moves_data calls ≡ true → (call : Call) × In call calls × (moves_data call ≡ true)
some_moves [] is = cc
some_moves (c ∷ calls) is = elim (or_cases (moves_data c) (list_any moves_data calls) is) [
  | inl own ↦ (c, inl refl, own)
  | inr rest ↦ (let behind = some_moves calls rest in (behind.0, inr behind.1, behind.2))
]

-- ---- next calls

-- the caller of a next call is one of the scripts
pub is_caller : (scripts : Scripts) (history : List Item) (who : Who) (call : Call) → next_call scripts history who ≡ Some call → In who (callers scripts)
is_caller scripts history Who.Setup call next = inl refl
is_caller scripts history (Who.Thread n) call next = inr (In-map (λ m. Who.Thread m) (range_with_len 0 (length scripts.threads)) n (In-range 0 (length scripts.threads) n (omega arith) (omega (arith, below)))) where
  below : n < length scripts.threads
  below = elim (cases_lt n (length scripts.threads)) [
    | inl it ↦ it
    | inr past ↦
        let none : script_of scripts (Who.Thread n) ≡ [] = get_or_past scripts.threads n [] past in
        let within : length (items_of history (Who.Thread n)) < length (script_of scripts (Who.Thread n)) = slice_get_within (script_of scripts (Who.Thread n)) (length (items_of history (Who.Thread n))) call next in
        absurd (omega (arith, within, ap length none))
  ]

next_there : (scripts : Scripts) (history : List Item) (who : Who) (call : Call) → next_call scripts history who ≡ Some call → moves_data call ≡ true → next_moves scripts history ≡ true
next_there scripts history who call next moves =
    any_there (next_calls scripts history) call (In-filter_map (next_call scripts history) (callers scripts) who call (is_caller scripts history who call next) next) moves

-- A NEXT CALL THAT MAY MOVE DATA
pub call_moves : (scripts : Scripts) (history : List Item) (who : Who) (call : Call) → next_call scripts history who ≡ Some call → moves_data call ≡ true → moves_by scripts history ≡ true
call_moves scripts history who call next moves = or_right (has_moved history) (next_moves scripts history) (next_there scripts history who call next moves)

-- ---- one call more

next_more : (scripts : Scripts) (history : List Item) (item : Item) → next_call scripts history item.who ≡ Some item.call → next_moves scripts history ≡ true → moves_by scripts (history ++ item ∷ []) ≡ true
next_more scripts history item own is = by (same_who item.who from.0) refl where
  one : (call : Call) × In call (next_calls scripts history) × (moves_data call ≡ true)
  one = some_moves (next_calls scripts history) is

  from : (who : Who) × In who (callers scripts) × (next_call scripts history who ≡ Some one.0)
  from = filter_map-In (next_call scripts history) (callers scripts) one.0 one.1

  by : (b : Bool) → same_who item.who from.0 ≡ b → moves_by scripts (history ++ item ∷ []) ≡ true
  by true same =
      let caller : item.who ≡ from.0 = same_who-is item.who from.0 same in
      let call : item.call ≡ one.0 = same_Some item.call one.0 (sym own ∙ (ap (next_call scripts history) caller ∙ from.2)) in
      or_left (has_moved (history ++ item ∷ [])) (next_moves scripts (history ++ item ∷ [])) (moved_now history item (ap moves_data call ∙ one.2))
  by false other = call_moves scripts (history ++ item ∷ []) from.0 one.0 (next_stays scripts history item from.0 other ∙ from.2) one.2

-- ONCE SO IT STAYS SO.
pub moves_more : (scripts : Scripts) (history : List Item) (item : Item) → next_call scripts history item.who ≡ Some item.call → moves_by scripts history ≡ true → moves_by scripts (history ++ item ∷ []) ≡ true
moves_more scripts history item own is = elim (or_cases (has_moved history) (next_moves scripts history) is) [
  | inl moved ↦ or_left (has_moved (history ++ item ∷ [])) (next_moves scripts (history ++ item ∷ [])) (moved_still history item moved)
  | inr next ↦ next_more scripts history item own next
]

-- so where none moves data afterwards, none did before, nor did the call
pub quiet_before : (scripts : Scripts) (history : List Item) (item : Item) → next_call scripts history item.who ≡ Some item.call → moves_by scripts (history ++ item ∷ []) ≡ false → moves_by scripts history ≡ false
quiet_before scripts history item own quiet = if_not (moves_by scripts history) (λ is. not_both (moves_by scripts (history ++ item ∷ [])) (moves_more scripts history item own is) quiet)

pub quiet_next : (scripts : Scripts) (history : List Item) (who : Who) (call : Call) → next_call scripts history who ≡ Some call → moves_by scripts history ≡ false → moves_data call ≡ false
quiet_next scripts history who call next quiet = if_not (moves_data call) (λ is. not_both (moves_by scripts history) (call_moves scripts history who call next is) quiet)

-- ---- writes

pub write_moves : (call : Call) → may_write call ≡ true → moves_data call ≡ true
write_moves (Call.Mkdir p) is = cc
write_moves (Call.Rmdir p) is = cc
write_moves (Call.Unlink p) is = cc
write_moves (Call.Rename p q) is = cc
write_moves (Call.Open h p f) is = cc
write_moves (Call.Close h) is = cc
write_moves (Call.Dup h g) is = cc
write_moves (Call.Read h n) is = cc
write_moves (Call.Pread h o n) is = cc
write_moves (Call.Write h x) is = refl
write_moves (Call.Pwrite h o x) is = refl
write_moves (Call.Seek h w by) is = cc
write_moves (Call.Truncate h n) is = refl
write_moves (Call.Fsync h) is = cc
write_moves (Call.Stat p) is = cc
write_moves (Call.List p) is = cc

put_writes : (s : State) (who : Who) (call : Call) (put : Put) → put_by s who call ≡ Some put → may_write call ≡ true
unfolding put_by
put_writes s who (Call.Mkdir p) put is = cc
put_writes s who (Call.Rmdir p) put is = cc
put_writes s who (Call.Unlink p) put is = cc
put_writes s who (Call.Rename p q) put is = cc
put_writes s who (Call.Open h p f) put is = cc
put_writes s who (Call.Close h) put is = cc
put_writes s who (Call.Dup h g) put is = cc
put_writes s who (Call.Read h n) put is = cc
put_writes s who (Call.Pread h o n) put is = cc
put_writes s who (Call.Write h x) put is = refl
put_writes s who (Call.Pwrite h o x) put is = refl
put_writes s who (Call.Seek h w by) put is = cc
put_writes s who (Call.Truncate h n) put is = cc
put_writes s who (Call.Fsync h) put is = cc
put_writes s who (Call.Stat p) put is = cc
put_writes s who (Call.List p) put is = cc

-- a logged call is a write
pub logged_writes : (s : State) (who : Who) (call : Call) → is_logged s (who, call) ≡ true → may_write call ≡ true
logged_writes s who call is = by (put_by s who call) refl where
  by : (o : Option Put) → put_by s who call ≡ o → may_write call ≡ true
  by None none = (let never : false ≡ true = sym (ap (λ (o : Option Put). option_map_or (is_logged_put s.mode s) o false) none) ∙ is in cc)
  by (Some put) some = put_writes s who call put some
