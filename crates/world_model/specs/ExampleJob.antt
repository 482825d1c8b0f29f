-- The worked world's write in flight, and its claim. What stands here has nothing above it but the answer that puts the
-- world together.
use Rattle.std.specs.Prelude.{◌≡◌, ◌≢◌, ◌⊎◌, ◌<◌, ◌≤◌, ℕ, zero, suc, ◌/◌, true, false, [], ◌∷◌, slice_index, refl}
use Rattle.std.proofs.Common.{arith, ap, ◌∙◌, sym, subst, inl, inr}
use Rattle.name_laws.specs.volume_laws.image_model.extent_model.Extents.{is_within}
use Rattle.name_laws.specs.volume_laws.image_model.layout_model.declared.lines.Draft.{Draft}
use Rattle.name_laws.specs.volume_laws.image_model.Content.{byte_in, disk_of}
use Rattle.name_laws.specs.volume_laws.image_model.Live.{is_live, is_of_file}
use Rattle.name_laws.specs.volume_laws.image_model.Rules.{AreApart}
use Rattle.name_laws.specs.volume_laws.image_model.Volume.{inode}
use Rattle.crash_spec.specs.list_laws.Members.{In}
use Rattle.crash_spec.specs.posix_laws.Puts.{PutsWhole}
use Rattle.world_model.specs.Claims.{ClaimsStand}
use Rattle.world_model.specs.Jobs.{JobStands, live_claims}
use Rattle.world_model.specs.Example.{claims_a, entry_a, job_a, numbers_a, one_entry, staged_at, state_a, volume_a, words_a}

-- The write in flight stands, where it puts what it is to put.
pub JobStands-a : PutsWhole state_a job_a.who job_a.call 1 (1 ∷ 9 ∷ 3 ∷ []) → JobStands volume_a (live_claims volume_a claims_a) words_a numbers_a state_a job_a
JobStands-a puts = record {
  draft = refl;
  fields = record { ino = omega arith; generation = omega arith; staging_generation = omega arith };
  alive = refl;
  order = refl;
  size = refl;
  rest = rest;
  within = λ i inside. refl;
  parts = record { front = λ i front. absurd (omega (arith, front)); within_file = λ i front. absurd (omega (arith, front)); rest = λ i not_front. refl };
  placed = λ i front. absurd (omega (arith, front));
  staging = refl;
  staged = staged_at 1 2 refl;
  apart = λ d is. subst (λ x. AreApart x (entry_a 1 2)) (one_entry d is) (λ same. inl (omega arith));
  puts = puts;
  part = record { size = refl; each = λ i below. inl refl };
} where
  rest : (i : ℕ) → i < 3 → is_within 0 1 (i / 4096) ≡ false → byte_in words_a (disk_of volume_a (live_claims volume_a claims_a) 5 (i / 4096)) i ≡ slice_index (1 ∷ 9 ∷ 3 ∷ []) i
  rest zero below beside = cc
  rest (suc zero) below beside = cc
  rest (suc (suc zero)) below beside = cc
  rest (suc (suc (suc i))) below beside = absurd (omega (arith, below))

-- Its claim stands.
pub ClaimsStand-a : ClaimsStand volume_a claims_a
ClaimsStand-a = record { orders = orders; settled = settled } where
  one_claim : (s : ℕ) (d : Draft) → In (s, d) claims_a → 0 ≡ s
  one_claim s d (inl same) = ap (λ (c : ℕ × Draft). c.0) same
  one_claim s d (inr none) = absurd none

  orders : (s t : ℕ) (d e : Draft) → In (s, d) claims_a → In (t, e) claims_a → s ≢ t → is_of_file volume_a d ≡ true → is_of_file volume_a e ≡ true → d.ino ≡ e.ino → d.order ≢ e.order
  orders s t d e first second other d_file e_file same order = other (sym (one_claim s d first) ∙ one_claim t e second)

  settled : (s : ℕ) (d : Draft) → In (s, d) claims_a → is_of_file volume_a d ≡ true → (d.order ≤ (inode volume_a d.ino).applied) ⊎ (is_live volume_a d ≡ true)
  settled s d (inl same) file = inr (ap (λ (c : ℕ × Draft). is_live volume_a c.1) (sym same))
  settled s d (inr none) file = absurd none
