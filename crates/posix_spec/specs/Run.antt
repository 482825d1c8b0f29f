-- Runs of histories.
use Rattle.std.specs.Prelude.{◌≡◌, List, [], ◌∷◌, ◌++◌, refl}
use Rattle.posix_types.specs.declared.call.Who.{Who}
use Rattle.posix_types.specs.declared.call.Call.{Call}
use Rattle.posix_types.specs.declared.item.Item.{Item}
use Rattle.posix_spec.specs.Step.{step}
use Rattle.posix_spec.specs.State.{State}

-- a call with its caller, before it has a reply
abbrev pub Unfinished : Type 0
Unfinished = Who × Call

abbrev pub begun : Item → Unfinished
begun item = (item.who, item.call)

abbrev pub after_call : State → Unfinished → State
after_call s c = (step s c.0 c.1).state

abbrev pub after_calls : State → List Unfinished → State
after_calls s [] = s
after_calls s (c ∷ calls) = after_calls (after_call s c) calls

-- the state after the calls of a history
abbrev pub run : State → List Item → State
run s [] = s
run s (item ∷ items) = run (step s item.who item.call).state items

-- an item has the reply and the room that step gives
abbrev pub IsAnswered : State → Item → Type 0
IsAnswered s item = (step s item.who item.call).outcome ≡ record { reply = item.reply; room = item.room }

-- A history is legal: each item has the reply and the room that step gives at its place.
abbrev pub IsLegal : State → List Item → Type 0
IsLegal s [] = Unit {0}
IsLegal s (item ∷ items) = IsAnswered s item × IsLegal (step s item.who item.call).state items

-- with one more item, the run goes one step on
pub run-append : (s : State) (items : List Item) (item : Item) → run s (items ++ item ∷ []) ≡ (step (run s items) item.who item.call).state
run-append s [] item = refl
run-append s (first ∷ items) item = run-append (step s first.who first.call).state items item

-- and the history stays legal, if the item is answered
pub IsLegal-append : (s : State) (items : List Item) (item : Item) → IsLegal s items → IsAnswered (run s items) item → IsLegal s (items ++ item ∷ [])
IsLegal-append s [] item legal answered = (answered, tt)
IsLegal-append s (first ∷ items) item legal answered = (legal.0, IsLegal-append (step s first.who first.call).state items item legal.1 answered)
