-- Staging files give up their blocks, one after the other.
use Rattle.std.proofs.Common.{◌≡◌, ◌≢◌, ◌≤◌, ◌<◌, ◌-◌, ◌/◌, ℕ, suc, zero, true, false, List, [], ◌∷◌, length, Some, None, Ok, Err, get_or, refl, sym, ◌∙◌, ap, subst, inl, inr, arith}
use Rattle.std.proofs.lemmas.Bool.{both_ways, cases_eq}
use Rattle.std.proofs.lemmas.List.{get_or-replicate}
use Rattle.std.specs.Prelude.{remove, slice_get, Contains}
use Rattle.k_split.specs.pm_model.Powers.{Steps, Supply}
use Rattle.k_split.specs.layout_model.declared.lines.Kind.TheVariants.{Directory, File, Free, Staging}
use Rattle.k_split.specs.layout_model.declared.lines.Kind.{Kind}
use Rattle.k_split.specs.image_model.Rules.{IsKindAt}
use Rattle.k_split.specs.image_model.Volume.{Volume, extents, inode}
use Rattle.k_split.specs.extent_model.Extents.{covers}
use Rattle.k_split.specs.k_map_plans.Plans.{IsStagingFile}
use Rattle.k_split.specs.k_plans.Whole.{IsWhole}
use Rattle.k_split.specs.k_split_model.View.{View}
use Rattle.k_split.specs.MapChanges.{IsGiveUpAnswer}
use Rattle.k_split.specs.Answers.{IsPaid}
use Rattle.k_split.specs.Order.{IsInOrder}
use Rattle.k_split.specs.declared.faults.KFault.{KFault}
use Rattle.k_split.specs.k_split_model.MapChangesChanges.{given_up}
use Rattle.k_split.specs.k_split_model.Taken.{with_map}
use Rattle.k_split.specs.volume_laws.Changes.{extents-set_other, extents-set_same}
use Rattle.staging_files.specs.GivesUp.{AgreesAfterAll, AllStagedSingle, AreGivenUp, bared, IsGiveUpAllPaid, IsGivenUpEach, nothing_staged, stopped_by}
use Rattle.staging_files.specs.declared.runs.StageRun.{StageRun}
use Rattle.staging_files.specs.Keeps.{Agrees, given_to, IsStaged, IsStaging, Staged}
use Rattle.staging_files.proofs.StagedLaws.{free-given}

-- inodes 1 to 4 are the staging files
pub staging-file : (v : Volume) (x : ℕ) → IsWhole v → IsStaging x → IsStagingFile x v
staging-file v x whole is = record {
  below = omega (arith, is.most, whole.kept.all.inode_count, whole.kept.geometry.least_inodes);
  kind = by (inode v x).kind (whole.kept.kept.kinds x (omega (arith, is.most, whole.kept.geometry.least_inodes)));
}
  where
    by : (kind : Kind) → IsKindAt x kind → kind ≡ Staging
    by Free at = absurd (omega (arith, at, is.most))
    by Directory (inl root) = absurd (omega (arith, root, is.least))
    by Directory (inr behind) = absurd (omega (arith, behind, is.most))
    by File at = absurd (omega (arith, at, is.most))
    by Staging at = refl

module _ (x : ℕ) (k l : View) (order : IsInOrder k) (staging : IsStaging x) (gave : IsGiveUpAnswer x k l (Ok tt)) where
  pub given-volume : l.volume ≡ given_up x k.volume
  given-volume = gave.1.given

  -- it has no blocks then, and the others have theirs
  pub bare-own : extents l.volume x ≡ []
  bare-own =
      let below = (staging-file k.volume x order.whole staging).below in
      ap (λ v. extents v x) given-volume ∙ extents-set_same x (with_map [] [] (inode k.volume x)) [] [] k.volume (omega (arith, below, order.whole.maps.map_count))

  pub bare-other : (y : ℕ) → y ≢ x → extents l.volume y ≡ extents k.volume y
  bare-other y other = ap (λ v. extents v y) given-volume ∙ extents-set_other x (with_map [] [] (inode k.volume x)) [] [] k.volume y other

  pub still-single : AllStagedSingle k → AllStagedSingle l
  still-single single y is i has = elim (cases_eq y x) [
    | inl same ↦
        let none : covers (extents l.volume y) (i / 512) ≡ false = ap (λ es. covers es (i / 512)) (ap (extents l.volume) same ∙ bare-own) in
        absurd (both_ways (covers (extents l.volume y) (i / 512)) none has)
    | inr other ↦ gave.2.singles i (single y is i (ap (λ es. covers es (i / 512)) (sym (bare-other y other)) ∙ has))
  ]

-- the first n staging files have no block then
pub AreBare : ℕ → View → Type 0
AreBare n k = (x : ℕ) → IsStaging x → x ≤ n → extents k.volume x ≡ []

pub bare-next : (n : ℕ) (k l : View) → IsInOrder k → n < 4 → IsGiveUpAnswer (suc n) k l (Ok tt) → AreBare n k → AreBare (suc n) l
unfolding AreBare
bare-next n k l order few gave bare x is most = elim (cases_eq x (suc n)) [
  | inl same ↦ ap (extents l.volume) same ∙ bare-own (suc n) k l order (record { least = omega arith; most = omega arith }) gave
  | inr other ↦ bare-other (suc n) k l order (record { least = omega arith; most = omega arith }) gave x other ∙ bare x is (omega arith)
]

-- what all four make of the volume
pub bared-volume : (k l : View) → AreGivenUp 4 k l → l.volume ≡ bared k.volume
bared-volume k l (third, (second, (first, (zeroth, same, one), two), three), four) =
    four.1.given
    ∙ ap (given_up 4) (three.1.given ∙ ap (given_up 3) (two.1.given ∙ ap (given_up 2) (one.1.given ∙ ap (λ (v : View). given_up 1 v.volume) same)))

-- where no staging file has a block, nothing that is staged agrees
pub agrees-nothing : (k : View) → AreBare 4 k → Agrees nothing_staged k
unfolding AreBare
agrees-nothing k bare = record {
  free = λ x b is free. absurd (none x b is (free-given nothing_staged x b free));
  empty = λ x is empty. bare x is is.most;
}
  where
    none : (x b : ℕ) → IsStaging x → b < given_to nothing_staged x → ⊥
    none x b is below = omega (arith, below, get_or-replicate {A = ℕ} 4 (x - 1) 0 0 (omega (arith, is.least, is.most)))

-- where nothing is staged, all is kept
pub staged-nothing : IsStaged nothing_staged
staged-nothing = record {
  files = refl;
  most = λ k d below. subst (λ n. n ≤ 64) (sym (get_or-replicate {A = ℕ} 4 k 0 d below)) (omega arith);
  placed = λ k d below. absurd (omega (arith, below));
  apart = λ i j d before below. absurd (omega (arith, below));
}

-- ---- one after the other

-- the first n staging files gave up their blocks, and K-Split is in order
pub record HasGivenUp (n : ℕ) (k l : View) : Type 0 where
  pub gave : AreGivenUp n k l
  pub on : l.lost ≡ false
  pub unbatched : l.batched ≡ false
  pub order : IsInOrder l
  pub single : AllStagedSingle l
  pub bare : AreBare n l

pub next-given : (n : ℕ) (k m l : View) → n < 4 → HasGivenUp n k m → IsGiveUpAnswer (suc n) m l (Ok tt) → HasGivenUp (suc n) k l
next-given n k m l few before answer = record {
  gave = (m, before.gave, answer);
  on = answer.2.kept_on;
  unbatched = answer.2.batched ∙ before.unbatched;
  order = answer.2.order;
  single = still-single (suc n) m l before.order (record { least = omega arith; most = omega (arith, few) }) answer before.single;
  bare = bare-next n m l before.order few answer before.bare;
}

pub none-bare : (k : View) → AreBare 0 k
unfolding AreBare
none-bare k x is most = absurd (omega (arith, is.least, most))

pub stopped-agrees : (f : KFault) (l : View) → AgreesAfterAll nothing_staged l (stopped_by f)
stopped-agrees (KFault.Refused errno) l = tt
stopped-agrees (KFault.Room room) l = tt
stopped-agrees KFault.PowerLost l = tt
stopped-agrees KFault.NoMemory l = tt

pub stopped-answer : (f : KFault) (n : ℕ) (k m l : View) → n < 4 → AreGivenUp n k m → IsGiveUpAnswer (suc n) m l (Err f) → IsGivenUpEach k l (stopped_by f)
stopped-answer (KFault.Refused errno) n k m l few gave answer = absurd answer
stopped-answer (KFault.Room room) n k m l few gave answer = absurd answer
stopped-answer KFault.PowerLost n k m l few gave answer = record { done = n; few = few; middle = m; gave = gave; cut = answer }
stopped-answer KFault.NoMemory n k m l few gave answer = record { done = n; few = few; gave = subst (AreGivenUp n k) (sym answer) gave }

pub stopped-paid : (x : ℕ) (k l : View) (p q : Supply) (f : KFault) → IsGiveUpAnswer x k l (Err f) → IsPaid {T = Unit {0}} None p q (Err f) → IsGiveUpAllPaid q (stopped_by f)
stopped-paid x k l p q (KFault.Refused errno) answer paid = absurd answer
stopped-paid x k l p q (KFault.Room room) answer paid = absurd answer
stopped-paid x k l p q KFault.PowerLost answer paid = paid
stopped-paid x k l p q KFault.NoMemory answer paid = paid.1

-- a K-Split that lost its power already
pub lost-off : (k : View) → k.lost ≡ true → k ≡ record k { lost = true }
lost-off k lost = ap (λ b. record k { lost = b }) lost

pub fewer-steps : (m n : ℕ) (p q : Supply) → m ≤ n → Steps m p q → Steps n p q
fewer-steps m n p q fewer steps = record { given = steps.given; on_before = steps.on_before; later = steps.later; bound = omega (arith, steps.bound, fewer) }

-- ---- places in lists

pub place-within : (xs : List StageRun) (n : ℕ) (x : StageRun) → slice_get xs n ≡ Some x → n < length xs
place-within [] n x at = cc
place-within (y ∷ xs) zero x at = omega arith
place-within (y ∷ xs) (suc n) x at = omega (arith, place-within xs n x at)

pub at-place : (xs : List StageRun) (n : ℕ) (x : StageRun) → slice_get xs n ≡ Some x → (d : StageRun) → get_or xs n d ≡ x
at-place [] n x at d = cc
at-place (y ∷ xs) zero x at d = cc
at-place (y ∷ xs) (suc n) x at d = at-place xs n x at d

contained : (xs : List StageRun) (x : StageRun) (k : ℕ) → k < length xs → get_or xs k x ≡ x → slice_get xs k ≡ Some x
contained [] x k low at = absurd (omega (arith, low))
contained (y ∷ xs) x zero low at = ap Some at
contained (y ∷ xs) x (suc k) low at = contained xs x k (omega (arith, low)) at

pub not-there : (s : Staged) (items : List StageRun) (given : List ℕ) (xs : List StageRun) (x : StageRun) → record { out = items; given = given } ≡ s → xs ≡ items → Contains s.out x
    → ((k : ℕ) → slice_get xs k ≢ Some x) → ⊥
not-there s items given xs x is same has none =
    none has.0 (contained xs x has.0 (subst (λ ys. has.0 < length ys) (sym (same ∙ ap (λ (v : Staged). v.out) is)) has.1)
    (subst (λ ys. get_or ys has.0 x ≡ x) (sym (same ∙ ap (λ (v : Staged). v.out) is)) has.2))

abbrev pub staged_of : List StageRun → List ℕ → Staged
staged_of out given = record { out = out; given = given }

-- what is kept once a run is taken out of its place
pub back-view : (items rest : List StageRun) (given : List ℕ) (s : Staged) (place : ℕ) → staged_of items given ≡ s → rest ≡ remove items place
    → staged_of rest given ≡ record s { out = remove s.out place }
back-view items rest given s place same is = ap (λ (xs : List StageRun). staged_of xs given) is ∙ ap (λ (v : Staged). record v { out = remove v.out place }) same
