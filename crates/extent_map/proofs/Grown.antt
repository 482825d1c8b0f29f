-- A list in the one spelling that grows at its end.
use Rattle.std.proofs.Common.{◌≡◌, ℕ, ◌+◌, ◌-◌, ◌<◌, ◌≤◌, true, false, List, [], ◌∷◌, ◌++◌, length, get_or, set, take, Some, None, IsSome, refl, sym, ◌∙◌, ap, subst, inl, inr, arith, length-set}
use Rattle.std.specs.Option.{option_or}
use Rattle.std.proofs.lemmas.Bool.{cases_lt, cases_Bool, false≢true}
use Rattle.std.proofs.lemmas.Bool.Decides.{nat_tests}
use Rattle.std.proofs.lemmas.List.{take_more, take_more_set, length_push, take_all}
use Rattle.std.proofs.lemmas.List.Sums.{sum_by_push, sum_by-set}
use Rattle.extent_model.specs.declared.extent_words.Extent.{Extent}
use Rattle.extent_model.specs.Extents.{holds, disk_in, disk_at, IsExtent, Continues, IsCanonical}
use Rattle.extent_model.specs.Maps.{Replaces}
use Rattle.extent_map.specs.Pieces.{Appends}
use Rattle.extent_model.specs.Facts.{disk_at-append, disk_at-push_here, disk_at-push_away, disk_at-IsSome, IsCanonical-front, IsCanonical-last, IsCanonical-push}

-- a map in the one spelling whose blocks are all below `limit` ends there
ends_by : (es : List Extent) (limit : ℕ) → IsCanonical es → ((b : ℕ) → limit ≤ b → disk_at es b ≡ None) → (k : ℕ) (d : Extent) → k < length es → (get_or es k d).file + (get_or es k d).count ≤ limit
ends_by es limit c none k d lt =
    let e = get_or es k d in
    let filled : 1 ≤ e.count = (c.each k d lt).filled in
    elim (cases_lt limit (e.file + e.count)) [
      | inl past ↦
          let b : ℕ = e.file + e.count - 1 in
          let here : holds e b ≡ true = grind (arith, nat_tests) in
          absurd (false≢true (subst IsSome (none b (omega arith)) (disk_at-IsSome es k b d lt here)))
      | inr by ↦ by
    ]

-- an extent behind the last
pub appends_push : (es : List Extent) (x : Extent) → IsCanonical es → IsExtent x → ((b : ℕ) → x.file ≤ b → disk_at es b ≡ None) → ((k : ℕ) (d : Extent) → k + 1 ≡ length es → ¬ Continues (get_or es k d) x) → Appends x es (es ++ x ∷ [])
appends_push es x c ok none apart =
    record {
      map = record {
        canonical = IsCanonical-push es x c ok (λ k d last. record { after = ends_by es x.file c none k d (omega arith); apart = apart k d last });
        blocks = λ b. elim (cases_Bool (holds x b)) [
          | inl here ↦ rw here (disk_at-push_here es x b (none b (grind (arith, nat_tests))) here)
          | inr away ↦ rw away (disk_at-push_away es x b away)
        ];
      };
      few = omega (arith, length_push es x);
      count = sum_by_push (λ (e : Extent). e.count) es x;
    }

-- an extent with the blocks of another that goes on from it
abbrev pub merged : Extent → Extent → Extent
merged last x = record last { count = last.count + x.count }

merged_ok : (last x : Extent) → IsExtent last → IsExtent x → Continues last x → IsExtent (merged last x)
merged_ok last x last_ok ok joined = record {
  filled = omega (arith, last_ok.filled);
  in_file = omega (arith, ok.in_file, joined.file);
  on_disk = omega (arith, ok.on_disk, joined.disk);
}

merged_away : (last x : Extent) (b : ℕ) → Continues last x → holds x b ≡ false → disk_at (merged last x ∷ []) b ≡ disk_at (last ∷ []) b
merged_away last x b joined away =
    let same : holds (merged last x) b ≡ holds last b = grind (arith, nat_tests, joined.file) in
    rw same refl

merged_here : (last x : Extent) (b : ℕ) → Continues last x → holds x b ≡ true → (holds (merged last x) b ≡ true) × (holds last b ≡ false) × (disk_in (merged last x) b ≡ disk_in x b)
merged_here last x b joined here =
    (grind (arith, nat_tests, joined.file), grind (arith, nat_tests, joined.file), grind (arith, nat_tests, joined.file, joined.disk))

-- the last extent made longer by one that goes on from it
replaces_merged : (es : List Extent) (last x : Extent) → IsCanonical (es ++ last ∷ []) → IsExtent x → ((b : ℕ) → x.file ≤ b → disk_at (es ++ last ∷ []) b ≡ None) → Continues last x → Replaces x (es ++ last ∷ []) (es ++ merged last x ∷ [])
replaces_merged es last x c ok none joined =
    let front = IsCanonical-front es (last ∷ []) c in
    let behind = IsCanonical-last es last c in
    record {
      canonical = IsCanonical-push es (merged last x) front (merged_ok last x behind.0 ok joined) (λ k d is_last.
          let before = behind.1 k d (omega arith) in
          record { after = before.after; apart = λ on. before.apart (record { file = on.file; disk = on.disk }) });
      blocks = λ b. elim (cases_Bool (holds x b)) [
        | inl here ↦
            let at = merged_here last x b joined here in
            let empty : disk_at es b ≡ None = sym (disk_at-push_away es last b at.1) ∙ none b (grind (arith, nat_tests)) in
            rw here (disk_at-push_here es (merged last x) b empty at.0 ∙ ap Some at.2)
        | inr away ↦
            rw (away, disk_at-append, disk_at-append) (ap (option_or (disk_at es b)) (merged_away last x b joined away))
      ];
    }

-- the same in place
pub appends_merged : (es : List Extent) (n : ℕ) (last x : Extent) → length es ≡ n + 1 → get_or es n last ≡ last → IsCanonical es → IsExtent x → ((b : ℕ) → x.file ≤ b → disk_at es b ≡ None) → Continues last x → Appends x es (set es n (merged last x))
appends_merged es n last x size is_last c ok none joined =
    let before : es ≡ take n es ++ last ∷ [] =
    sym (take_all (n + 1) es (omega arith)) ∙ take_more es n last (omega arith) ∙ ap (λ e. take n es ++ e ∷ []) is_last in
    let after : set es n (merged last x) ≡ take n es ++ merged last x ∷ [] =
    sym (take_all (n + 1) (set es n (merged last x)) (omega (arith, length-set es n (merged last x)))) ∙ take_more_set es n (merged last x) (omega arith) in
    let none' = λ (b : ℕ) (le : x.file ≤ b). subst (λ xs. disk_at xs b ≡ None) before (none b le) in
    let map = replaces_merged (take n es) last x (subst IsCanonical before c) ok none' joined in
    record {
      map = subst (λ xs. Replaces x xs (set es n (merged last x))) (sym before) (subst (Replaces x (take n es ++ last ∷ [])) (sym after) map);
      few = omega (arith, length-set es n (merged last x));
      count = omega (arith, sum_by-set (λ (e : Extent). e.count) es n (merged last x) last (omega arith), ap (λ (e : Extent). e.count) is_last);
    }
