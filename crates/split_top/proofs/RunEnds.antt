-- How a run may have ended, by what was asked for.
use Rattle.std.proofs.Common.{◌≡◌, ℕ, Option, None, Some, inl, inr, subst}
use Rattle.split_top.specs.Runs.{AreWithin, RunsAreCut, RunsAreWhole, ThreadRunsAreWhole}

none_some : {A : Type 0} (o : Option ℕ) (n : ℕ) → o ≡ None → o ≡ Some n → A
none_some o n is other = (let f : ⊥ = cc (is, other) in absurd f)

same_some : (o : Option ℕ) (m n : ℕ) → o ≡ Some m → o ≡ Some n → n ≡ m
same_some o m n is other = cc (is, other)

pub runs-whole : RunsAreWhole
runs-whole task options history unfinished left cut stop is = elim is.ended [
  | inl whole ↦ whole
  | inr (inl stopped) ↦ none_some options.stop stopped.steps stop stopped.given
  | inr (inr was_cut) ↦ none_some options.cut is.course.events cut was_cut.cut_is
]

pub runs-cut : RunsAreCut
runs-cut task options history unfinished left most cut stop is = elim is.ended [
  | inl whole ↦ inr (subst (λ (c : Option ℕ). AreWithin is.course.events c) cut is.course.within, whole)
  | inr (inl stopped) ↦ none_some options.stop stopped.steps stop stopped.given
  | inr (inr was_cut) ↦ inl (same_some options.cut most is.course.events cut was_cut.cut_is, was_cut.none_began)
]

pub thread-runs-whole : ThreadRunsAreWhole
thread-runs-whole task options history unfinished left stop is = elim is.ended [
  | inl whole ↦ whole
  | inr stopped ↦ none_some options.stop stopped.steps stop stopped.given
]
