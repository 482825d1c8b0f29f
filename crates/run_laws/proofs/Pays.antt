-- What events take of the power is paid for.
use Rattle.std.specs.Prelude.{◌||◌, ◌≡◌, ◌⊎◌, ◌≤◌, ◌+◌, ◌*◌, ◌^◌, ℕ, Bool, true, false, List, Option, Some, None, if◌then◌else◌, refl}
use Rattle.std.proofs.Common.{arith, ap, ◌∙◌, sym, inl, inr}
use Rattle.round_log.specs.pm_model.Powers.{is_on, Steps, Supply}
use Rattle.run_laws.specs.Paid.{KeepsTree}
use Rattle.world_view_laws.specs.in_flight.Costs.{most_of, most_of_call}
use Rattle.world_view_laws.specs.k_journal.Commits.{TakesAStep}
use Rattle.world_view_laws.specs.posix_types.declared.call.Call.{Call}
use Rattle.world_view_laws.specs.posix_types.declared.call.Mode.{Mode}
use Rattle.world_view_laws.specs.posix_spec.Afforded.{is_posix, moves_data}
use Rattle.world_view_laws.specs.Views.{WorldView}
use Rattle.run_laws.proofs.Longer.{tree_ahead, tree_later, tree_off}
use Rattle.run_laws.specs.declared.held.Held.{Held}
use Rattle.run_laws.specs.Held.{OutView}
use Rattle.run_laws.specs.EventsPaid.{act_steps, HaveActed, IsPaid, IsPaidOff, moves_now, PaysForActed, steps_ahead, steps_early}

-- ---- supplies

pub no_steps : (p : Supply) → Steps 0 p p
no_steps p = record { given = refl; on_before = λ on. on; later = omega arith; bound = omega arith }

small_call : (mode : Mode) (call : Call) → most_of_call mode call ≤ 2 ^ 26
small_call mode call = by (is_posix mode || moves_data call) where
  by : (b : Bool) → (if b then 2 ^ 26 else 512) ≤ 2 ^ 26
  by true = omega arith
  by false = omega arith

pub small : (mode : Mode) (o : Option Call) → most_of mode o ≤ 2 ^ 26
small mode None = omega arith
small mode (Some call) = small_call mode call

-- a call that moves no data, outside POSIX mode
pub quiet_call : (mode : Mode) (call : Call) → is_posix mode ≡ false → moves_data call ≡ false → most_of_call mode call ≡ 512
quiet_call mode call calm none = ap (λ (b : Bool). if b || moves_data call then 2 ^ 26 else 512) calm ∙ ap (λ (b : Bool). if b then 2 ^ 26 else 512) none

-- ---- so many steps more

pub record IsPaidAny (first now : Supply) (w : WorldView) (jobs : List Held) : Type 0 where
  pub any : Steps (act_steps * w.acts) first now
  pub ahead : now.taken + steps_ahead jobs ≤ first.taken + act_steps * w.acts

pub pays : (first before after : Supply) (w v : WorldView) (jobs left : List Held) (n : ℕ) → IsPaid first before w jobs → Steps n before after → n + steps_ahead left + act_steps * w.acts ≤ steps_ahead jobs + act_steps * v.acts
    → IsPaidAny first after v left
pays first before after w v jobs left n was steps enough = record {
  any = record {
    given = steps.given ∙ was.any.given;
    on_before = λ on. was.any.on_before (steps.on_before on);
    later = omega (arith, was.any.later, steps.later);
    bound = omega (arith, was.ahead, steps.bound, enough);
  };
  ahead = omega (arith, was.ahead, steps.bound, enough);
}

-- no step more was taken ahead of a return; or one was
abbrev pub IsEarly : Supply → Supply → ℕ → ℕ → Type 0
IsEarly before after early left = (left ≤ early) ⊎ ((left ≡ early + 1) × (is_on after ≡ true) × TakesAStep before after)

still_keeps : (first before after : Supply) (w : WorldView) (early left given n : ℕ) → before.given ≡ Some given → Steps n before after → IsEarly before after early left → KeepsTree first before w early given → KeepsTree first after w left given
still_keeps first before after w early left given n some steps (inl fewer) kept = tree_later first before after w w early left given n refl refl fewer steps kept
still_keeps first before after w early left given n some steps (inr (one, on, takes)) kept = tree_ahead first before after w early left given n some on one steps takes kept

-- an event that takes steps of a job, while a call may move data
pub pays_on : (first before after : Supply) (w : WorldView) (jobs left : List Held) (n : ℕ) → moves_now w ≡ true → Steps n before after → n + steps_ahead left ≤ steps_ahead jobs
    → IsEarly before after (steps_early jobs) (steps_early left) → IsPaid first before w jobs → IsPaid first after w left
pays_on first before after w jobs left n moves steps enough early was = record {
  any = both.any;
  ahead = both.ahead;
  quiet = λ calm quiet. (let never : true ≡ false = sym moves ∙ quiet in cc);
  tree = λ given some. still_keeps first before after w (steps_early jobs) (steps_early left) given n (was.any.given ∙ some) steps early (was.tree given some);
} where
  both : IsPaidAny first after w left
  both = pays first before after w w jobs left n was steps (omega (arith, enough))

-- where the power went, with one step more for the calls that are out
pub pays_acted : (first before after : Supply) (w v : WorldView) (left : OutView) (early most given n : ℕ) → v.start ≡ w.start → v.history ≡ w.history → before.given ≡ Some given → is_on before ≡ true → is_on after ≡ false → most ≤ early + 1
    → Steps n before after → HaveActed v left most → KeepsTree first before w early given → PaysForActed first after v left given
pays_acted first before after w v left early most given n start history some on off fewer steps acted kept = record {
  most = most;
  tree = tree_off first before after w v early most given n start history some on off fewer steps kept;
  acted = acted;
}

pub pays_off : (first before after : Supply) (w : WorldView) (jobs : List Held) (n : ℕ) → moves_now w ≡ true → Steps n before after → n ≤ steps_ahead jobs → IsPaid first before w jobs → IsPaidOff first after w
pays_off first before after w jobs n moves steps enough was = record {
  any = record {
    given = steps.given ∙ was.any.given;
    on_before = λ on. was.any.on_before (steps.on_before on);
    later = omega (arith, was.any.later, steps.later);
    bound = omega (arith, was.ahead, steps.bound, enough);
  };
  quiet = λ calm quiet. (let never : true ≡ false = sym moves ∙ quiet in cc);
  tree = λ given some. tree_later first before after w w (steps_early jobs) 0 given n refl refl (omega arith) steps (was.tree given some);
}
