-- The loop of a run: from one turn to the next, and its ends.
use Rattle.std.specs.Prelude.{◌≡◌, ◌≢◌, ◌<◌, ◌+◌, ℕ, Bool, true, false, Option, Some, None, refl}
use Rattle.std.proofs.Common.{arith, ◌∙◌, inl, sym, subst}
use Rattle.run_laws.specs.crash_spec.Orders.{none_picked, Order}
use Rattle.schedule.specs.declared.picks.Picker.{Picker}
use Rattle.schedule.specs.Picking.{IsSoFar}
use Rattle.run_laws.specs.pm_model.Powers.{is_on, Supply}
use Rattle.run_laws.specs.world_view_laws.Views.{WorldView}
use Rattle.run_laws.specs.Between.{left_to_do}
use Rattle.run_laws.specs.Held.{nothing_out, OutView}
use Rattle.run_laws.specs.Course.{setting_of}
use Rattle.run_laws.specs.Runs.{IsFirst}
use Rattle.run_laws.proofs.Rounds.{calls_are_out}
use Rattle.split_machine.specs.declared.outstanding.Acted.{Acted}
use Rattle.split_machine.specs.declared.runs.End.{End}
use Rattle.split_machine.specs.Events.{IsOnCourse, IsOpen, IsStepped, IsUnderWay}
use Rattle.split_machine.specs.Runs.{HasCome, IsAtEnd, IsLed, IsLeftAfter, IsOneLess, IsReached, IsUntil}
use Rattle.split_machine.proofs.Ends.{course_first, goes_reached, lost_at_end, off_at_end, opened_left, opened_reached, reached_first, until_first, until_less, until_none, until_same, until_some}
use Rattle.split_machine.proofs.Steps.{opened_course}

-- a test of the power fails
pub off_now : (b : Bool) (now : Supply) → b ≡ is_on now → b ≡ false → is_on now ≡ false
off_now b now is fails = sym is ∙ fails

-- whatever the order is, so many events led here
abbrev pub AreLed : WorldView → Picker → Option ℕ → Option ℕ → WorldView → OutView → Picker → Type 0
AreLed first begun cut left w out picker = (order : Order) → IsSoFar begun order none_picked → IsLed first order cut left w out picker

pub led_first : (w : WorldView) → IsFirst w → (out : OutView) → out ≡ nothing_out → (picker : Picker) (cut : Option ℕ) → AreLed w picker cut cut w out picker
led_first w first out none picker cut order far =
    subst (λ (o : OutView). IsLed w order cut cut w o picker) (sym none) (record { events = 0; course = course_first w first order picker far; until = until_first cut })

pub reached_at_first : (w : WorldView) → IsFirst w → (out : OutView) → out ≡ nothing_out → (now : Supply) → IsReached w w out now now
reached_at_first w first out none now = subst (λ (o : OutView). IsReached w w o now now) (sym none) (reached_first w first now)

module _ (first : WorldView) (begun : Picker) (cut : Option ℕ) (start : Supply) (w : WorldView) (out : OutView) (picker : Picker) (left : Option ℕ) (now : Supply) (reached : IsReached first w out start now)
    (led : AreLed first begun cut left w out picker) where
  -- the cut is reached
  pub cut_comes : left ≡ Some 0 → (order : Order) → IsSoFar begun order none_picked → HasCome first order cut w out start now End.Cut
  cut_comes none order far =
      let here = led order far in
      record { events = here.events; picker = picker; course = here.course; cut_is = until_none cut here.events (subst (λ (l : Option ℕ). IsUntil cut l here.events) none here.until) }

  -- the power was off
  module _ (off : is_on now ≡ false) where
    pub off_ends : IsAtEnd first w out start now End.PowerLost
    off_ends = off_at_end first w out start now reached off

    pub off_comes : left ≢ Some 0 → (order : Order) → IsSoFar begun order none_picked → HasCome first order cut w out start now End.PowerLost
    off_comes some order far =
        let here = led order far in
        record {
          was = w;
          out_was = out;
          events = here.events;
          picker = picker;
          between = reached.between;
          course = here.course;
          below = until_some cut left here.events some here.until;
          history = refl;
          left = inl (calls_are_out (setting_of first) here.course.course.machine w out reached.between here.course.beside);
        }

  -- the lines go out, and a step follows
  module _ (mid : WorldView) (middle : OutView) (opens : IsOpen w out mid middle) where
    between_now : IsReached first mid middle start now
    between_now = opened_reached first w mid out middle start now reached opens

    pub under_way : IsUnderWay mid middle now
    under_way = record { between = between_now.between; log = opens.0; on = between_now.on }

    course_now : (order : Order) (far : IsSoFar begun order none_picked) → IsOnCourse first order (led order far).events mid middle picker
    course_now order far = opened_course w mid out middle opens first order (led order far).events picker (led order far).course

    module _ (new : WorldView) (then : OutView) (next : Picker) (after : Supply) where
      -- an event
      pub event_reached : IsStepped mid middle picker new then next now after (Some Acted.Event) → IsReached first new then start after
      event_reached is = goes_reached first mid new middle then start now between_now after is.0

      pub event_led : IsStepped mid middle picker new then next now after (Some Acted.Event) → (less : Option ℕ) → IsOneLess left less → AreLed first begun cut less new then next
      event_led is less one order far =
          record { events = (led order far).events + 1; course = is.1 first order (led order far).events (course_now order far); until = until_less cut left less (led order far).events (led order far).until one }

      pub event_less : IsStepped mid middle picker new then next now after (Some Acted.Event) → left_to_do new then < left_to_do w out
      event_less is = (let less = is.0.less in omega (arith, less, opened_left w mid out middle opens))

      -- the end of a round
      pub over_reached : IsStepped mid middle picker new then next now after (Some Acted.RoundOver) → IsReached first new then start after
      over_reached is = goes_reached first mid new middle then start now between_now after is.0

      pub over_led : IsStepped mid middle picker new then next now after (Some Acted.RoundOver) → AreLed first begun cut left new then next
      over_led is order far =
          record { events = (led order far).events + 0; course = is.1 first order (led order far).events (course_now order far); until = until_same cut left (led order far).events (led order far).until }

      pub over_less : IsStepped mid middle picker new then next now after (Some Acted.RoundOver) → left_to_do new then < left_to_do w out
      over_less is = (let less = is.0.less in omega (arith, less, opened_left w mid out middle opens))

      -- whichever it was, but for the power
      pub turn_reached : (acted : Acted) → acted ≢ Acted.PowerLost → IsStepped mid middle picker new then next now after (Some acted) → IsReached first new then start after
      turn_reached Acted.Event lasts is = event_reached is
      turn_reached Acted.RoundOver lasts is = over_reached is
      turn_reached Acted.PowerLost lasts is = absurd (lasts refl)

      pub turn_led : (acted : Acted) → acted ≢ Acted.PowerLost → IsStepped mid middle picker new then next now after (Some acted) → (less : Option ℕ) → IsLeftAfter left acted less → AreLed first begun cut less new then next
      turn_led Acted.Event lasts is less one = event_led is less one
      turn_led Acted.RoundOver lasts is less same = subst (λ (l : Option ℕ). AreLed first begun cut l new then next) (sym same) (over_led is)
      turn_led Acted.PowerLost lasts is less same = absurd (lasts refl)

      pub turn_less : (acted : Acted) → acted ≢ Acted.PowerLost → IsStepped mid middle picker new then next now after (Some acted) → left_to_do new then < left_to_do w out
      turn_less Acted.Event lasts is = event_less is
      turn_less Acted.RoundOver lasts is = over_less is
      turn_less Acted.PowerLost lasts is = absurd (lasts refl)

      -- the power goes
      pub lost_ends : is_on now ≡ true → IsStepped mid middle picker new then next now after (Some Acted.PowerLost) → IsAtEnd first new then start after End.PowerLost
      lost_ends on is = lost_at_end first mid new middle then start now between_now after is.begins on is.loses

      pub lost_comes : left ≢ Some 0 → IsStepped mid middle picker new then next now after (Some Acted.PowerLost) → (order : Order) → IsSoFar begun order none_picked → HasCome first order cut new then start after End.PowerLost
      lost_comes some is order far = record {
        was = mid;
        out_was = middle;
        events = (led order far).events;
        picker = picker;
        between = between_now.between;
        course = course_now order far;
        below = until_some cut left (led order far).events some (led order far).until;
        history = is.loses.history;
        left = is.leaves first order (led order far).events (course_now order far);
      }

      -- all returned
      pub all_ends : IsStepped mid middle picker new then next now after None → IsAtEnd first new then start after End.All
      all_ends is =
          subst (λ (v : WorldView). IsAtEnd first v then start after End.All) (sym is.0)
          (subst (λ (o : OutView). IsAtEnd first mid o start after End.All) (sym is.1)
          (subst (λ (p : Supply). IsAtEnd first mid middle start p End.All) (sym is.3) (between_now, opens.0, is.4)))

      pub all_comes : left ≢ Some 0 → IsStepped mid middle picker new then next now after None → (order : Order) → IsSoFar begun order none_picked → HasCome first order cut new then start after End.All
      all_comes some is order far =
          subst (λ (v : WorldView). HasCome first order cut v then start after End.All) (sym is.0)
          (subst (λ (o : OutView). HasCome first order cut mid o start after End.All) (sym is.1)
          (record {
            events = (led order far).events;
            picker = picker;
            course = course_now order far;
            below = until_some cut left (led order far).events some (led order far).until;
          }))
