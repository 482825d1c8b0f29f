-- Histories that follow scripts.
use Rattle.std.specs.Prelude.{◌≡◌, ℕ, ◌+◌, List, [], ◌∷◌, ◌++◌, length, filter, sum_by, Option, Some, slice_get, slice_index_or}
use Rattle.std.proofs.Common.{sym, subst, append_assoc}
use Rattle.std.proofs.lemmas.List.{append-nil}
use Rattle.posix_types.specs.declared.call.Who.{Who}
use Rattle.posix_types.specs.declared.call.Call.{Call}
use Rattle.posix_types.specs.declared.item.Item.{Item}
use Rattle.posix_types.specs.Scripts.{Scripts}
use Rattle.posix_tables.specs.Open.{same_who}

-- the calls of a caller, none of a thread that is not there
abbrev pub script_of : Scripts → Who → List Call
script_of scripts Who.Setup = scripts.setup
script_of scripts (Who.Thread n) = slice_index_or scripts.threads n []

abbrev pub items_of : List Item → Who → List Item
items_of items who = filter (λ item. same_who item.who who) items

-- the call of a caller's script that follows the calls that it has made, if there is one
abbrev pub next_call : Scripts → List Item → Who → Option Call
next_call scripts past who = slice_get (script_of scripts who) (length (items_of past who))

-- how many calls all scripts have
abbrev pub call_count : Scripts → ℕ
call_count scripts = length scripts.setup + sum_by (λ calls. length calls) scripts.threads

-- the set-up is done before a thread begins
abbrev pub IsSetUp : Scripts → List Item → Who → Type 0
IsSetUp scripts past Who.Setup = Unit {0}
IsSetUp scripts past (Who.Thread n) = length (items_of past Who.Setup) ≡ length scripts.setup

-- an item is the next call of its script after the items before it
pub record IsNext (scripts : Scripts) (past : List Item) (item : Item) : Type 0 where
  pub call : next_call scripts past item.who ≡ Some item.call
  pub index : item.index ≡ length (items_of past item.who)
  pub set_up : IsSetUp scripts past item.who

abbrev pub ScriptedAfter : Scripts → List Item → List Item → Type 0
ScriptedAfter scripts past [] = Unit {0}
ScriptedAfter scripts past (item ∷ items) = IsNext scripts past item × ScriptedAfter scripts (past ++ item ∷ []) items

-- The calls of each caller are the first of its script, with indices from 0, and no item of a thread comes before the last call of the set-up.
abbrev pub Scripted : Scripts → List Item → Type 0
Scripted scripts history = ScriptedAfter scripts [] history

-- the history has all calls
abbrev pub IsComplete : Scripts → List Item → Type 0
IsComplete scripts history = length history ≡ call_count scripts

ScriptedAfter-append : (scripts : Scripts) (past items : List Item) (item : Item) → ScriptedAfter scripts past items → IsNext scripts (past ++ items) item → ScriptedAfter scripts past (items ++ item ∷ [])
ScriptedAfter-append scripts past [] item scripted next = (subst (λ p. IsNext scripts p item) (append-nil past) next, tt)
ScriptedAfter-append scripts past (first ∷ items) item scripted next =
    (scripted.0, ScriptedAfter-append scripts (past ++ first ∷ []) items item scripted.1 (subst (λ p. IsNext scripts p item) (sym (append_assoc past (first ∷ []) items)) next))

-- a history stays scripted with one more item, if that is the next call of its script
pub Scripted-append : (scripts : Scripts) (history : List Item) (item : Item) → Scripted scripts history → IsNext scripts history item → Scripted scripts (history ++ item ∷ [])
Scripted-append scripts history item scripted next = ScriptedAfter-append scripts [] history item scripted next
