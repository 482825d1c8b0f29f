-- The live entries of a checked image are sound.
use Rattle.std.proofs.Common.{◌≡◌, ◌≤◌, ◌<◌, ◌+◌, ◌&&◌, ◌==◌, ℕ, suc, true, List, [], ◌∷◌, Some, refl, sym, ◌∙◌, ap, subst, arith, inl, inr}
use Rattle.std.specs.Prelude.{All, nat_lt}
use Rattle.std.specs.List.{range_with_len}
use Rattle.std.proofs.lemmas.Bool.{and_parts, cases_eq, cases_lt}
use Rattle.std.proofs.lemmas.Bool.Decides.{nat_tests}
use Rattle.std.proofs.lemmas.Option.{same_Some}
use Rattle.world_write_laws.specs.pm_model.Words.{line_bytes, Words}
use Rattle.world_write_laws.specs.layout_model.declared.lines.Draft.{Draft}
use Rattle.world_write_laws.specs.layout_model.declared.lines.Kind.{Kind}
use Rattle.world_write_laws.specs.layout_model.declared.lines.Kind.TheVariants.{Directory, File, Free, Staging}
use Rattle.world_write_laws.specs.layout_model.Entries.{is_draft}
use Rattle.world_write_laws.specs.layout_model.EntryLaws.{IsEntryLine-decode_entry}
use Rattle.world_write_laws.specs.layout_model.Places.{log_line}
use Rattle.world_write_laws.specs.image_model.Live.{entry_in, is_live, is_of_file, live_entries, valid_entries}
use Rattle.world_write_laws.specs.image_model.Rules.{AreApart, HasStagingBlocks, IsKindAt}
use Rattle.world_write_laws.specs.image_model.Volume.{inode, Volume}
use Rattle.world_write_laws.specs.list_laws.Filters.{filter-In, filter_map-In, range-In}
use Rattle.world_write_laws.specs.list_laws.Members.{In}
use Rattle.log_laws.specs.LiveLaws.{AreSoundWhenChecked}

All-In : {X : Type 0} (P : X → Type 0) (xs : List X) (x : X) → All P xs → In x xs → P x
All-In P [] x all is = absurd is
All-In P (y ∷ ys) x all (inl same) = subst P same (all 0 y (omega arith))
All-In P (y ∷ ys) x all (inr is) = All-In P ys x (λ k d below. all (suc k) d (omega (arith, below))) is

-- the slot of a live entry
record IsInSlot (v : Volume) (f : Words) (d : Draft) : Type 0 where
  slot : ℕ
  below : slot < v.geometry.log
  at : entry_in v f slot ≡ Some d
  alive : is_live v d ≡ true

in-slot : (v : Volume) (f : Words) (d : Draft) → In d (live_entries v f) → IsInSlot v f d
in-slot v f d is =
    let live = filter-In (is_live v) (valid_entries v f) d is in
    let from = filter_map-In (entry_in v f) (range_with_len 0 v.geometry.log) d live.0 in
    record { slot = from.0; below = omega (arith, (range-In 0 v.geometry.log from.0 from.1).1); at = from.2; alive = live.1 }

of-file : (v : Volume) (d : Draft) → is_live v d ≡ true → is_of_file v d ≡ true
of-file v d alive =
    let first = and_parts (is_of_file v d && nat_lt (inode v d.ino).applied d.order) ((inode v d.staging).generation == d.staging_generation) alive in
    (and_parts (is_of_file v d) (nat_lt (inode v d.ino).applied d.order) first.0).0

-- inodes 1 to 4 are staging files
kind-staging : (n : ℕ) (kind : Kind) → 1 ≤ n → n ≤ 4 → IsKindAt n kind → kind ≡ Staging
kind-staging n Free low high is = absurd (omega (arith, is))
kind-staging n Directory low high (inl root) = absurd (omega (arith, root))
kind-staging n Directory low high (inr past) = absurd (omega (arith, past))
kind-staging n File low high is = absurd (omega (arith, is))
kind-staging n Staging low high is = refl

record IsStagingNumber (n : ℕ) : Type 0 where
  low : 1 ≤ n
  high : n ≤ 4

staging-number : (d : Draft) → is_draft d ≡ true → IsStagingNumber d.staging
staging-number d is = record { low = grind (arith, nat_tests, is); high = grind (arith, nat_tests, is) }

turned : (d e : Draft) → AreApart d e → AreApart e d
turned d e apart same = elim (apart (sym same)) [ inl before ↦ inr before | inr past ↦ inl past ]

same-slot : (v : Volume) (f : Words) (s t : ℕ) (d e : Draft) → s ≡ t → entry_in v f s ≡ Some d → entry_in v f t ≡ Some e → d ≡ e
same-slot v f s t d e same first second = same_Some d e (sym first ∙ (ap (entry_in v f) same ∙ second))

pub sound-checked : AreSoundWhenChecked
sound-checked v f geometry kept rule = record {
  staging = λ d is.
      let at = in-slot v f d is in
      let line = IsEntryLine-decode_entry (line_bytes f (log_line v.geometry at.slot)) (v.base + at.slot) d at.at in
      let number = staging-number d line.fields in
      kind-staging d.staging (inode v d.staging).kind number.low number.high (kept.kinds d.staging (omega (arith, number.high, geometry.least_inodes)));
  staged = λ d is. All-In (HasStagingBlocks v) (live_entries v f) d rule.staged is;
  apart = λ d e d_is e_is.
      let s = in-slot v f d d_is in
      let t = in-slot v f e e_is in
      elim (cases_lt s.slot t.slot) [
        | inl before ↦ inr (rule.apart s.slot t.slot d e before t.below s.at t.at s.alive t.alive)
        | inr behind ↦ elim (cases_eq s.slot t.slot) [
          | inl same ↦ inl (same-slot v f s.slot t.slot d e same s.at t.at)
          | inr other ↦ inr (turned e d (rule.apart t.slot s.slot e d (omega (arith, behind, other)) s.below t.at s.at t.alive s.alive))
        ]
      ];
  orders = λ d e d_is e_is own order.
      let s = in-slot v f d d_is in
      let t = in-slot v f e e_is in
      elim (cases_lt s.slot t.slot) [
        | inl before ↦ absurd (rule.orders s.slot t.slot d e before t.below s.at t.at (of-file v d s.alive) (of-file v e t.alive) own order)
        | inr behind ↦ elim (cases_eq s.slot t.slot) [
          | inl same ↦ same-slot v f s.slot t.slot d e same s.at t.at
          | inr other ↦
              absurd (rule.orders t.slot s.slot e d (omega (arith, behind, other)) s.below t.at s.at (of-file v e t.alive) (of-file v d s.alive) (sym own) (sym order))
        ]
      ];
}
