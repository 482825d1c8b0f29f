-- The laws of the turn's rule.
use Rattle.std.specs.Prelude.{◌≡◌, ℕ, List, length, slice_get, slice_set, Some}
use Rattle.round_laws.specs.world_view_laws.pm_model.Powers.{Supply}
use Rattle.round_laws.specs.world_view_laws.Views.{WorldView}
use Rattle.thread_laws.specs.Hands.{first_hands, HandView}
use Rattle.thread_laws.specs.Moves.{Knows, MayLeave, MayOpen, next_hand}
use Rattle.thread_laws.specs.Stands.{Stands}

abbrev pub HandsAreSized : Type 0
HandsAreSized = (w : WorldView) (power : Supply) (n : ℕ) → MayOpen w power n → length (first_hands w power n) ≡ n

abbrev pub HandsStart : Type 0
HandsStart = (w : WorldView) (power : Supply) (n : ℕ) → MayOpen w power n → Stands w power (first_hands w power n)

abbrev pub HandsAreKept : Type 0
HandsAreKept =
    (old new : WorldView) (before after : Supply) (views : List HandView) (i : ℕ) (v : HandView) → Stands old before views → slice_get views i ≡ Some v
    → MayLeave v old new before after → Stands new after (slice_set views i (next_hand v old new))

abbrev pub HandsKnow : Type 0
HandsKnow = (w : WorldView) (power : Supply) (views : List HandView) (i : ℕ) (v : HandView) → Stands w power views → slice_get views i ≡ Some v → Knows w power v
