-- The bytes of an entry: 64, each below 256.
use Rattle.std.proofs.Common.{◌≡◌, ℕ, zero, suc, ◌-◌, ◌<◌, ◌≤◌, List, [], ◌∷◌, ◌++◌, length, get_or, sym, refl, subst, ⊎_elim, arith}
use Rattle.std.specs.Int.{bytes_low_first, to_le_bytes, w16, w32, w64}
use Rattle.std.proofs.lemmas.Bool.{cases_lt}
use Rattle.std.proofs.lemmas.List.{get_or_append_left, get_or-append_right}
use Rattle.image_model.specs.layout_model.Fields.{zeros}
use Rattle.layout_model.specs.declared.lines.Draft.{Draft}
use Rattle.layout_model.specs.Entries.{encode_entry, entry_body, fnv_1a}

small_low : (i k n j : ℕ) → get_or (bytes_low_first i k n) j 0 < 256
small_low i zero n j = omega arith
small_low zero (suc k) n zero = omega arith
small_low (suc i) (suc k) n zero = omega arith
small_low i (suc k) n (suc j) = small_low (suc i) k n j

small_zeros : (n j : ℕ) → get_or (zeros n) j 0 < 256
small_zeros zero j = omega arith
small_zeros (suc n) zero = omega arith
small_zeros (suc n) (suc j) = small_zeros n j

small_append : (xs ys : List ℕ) → ((j : ℕ) → get_or xs j 0 < 256) → ((j : ℕ) → get_or ys j 0 < 256) → (j : ℕ) → get_or (xs ++ ys) j 0 < 256
small_append xs ys small more j = ⊎_elim
    (λ (below : j < length xs). subst (λ (b : ℕ). b < 256) (sym (get_or_append_left xs ys 0 j below)) (small j))
    (λ (past : length xs ≤ j). subst (λ (b : ℕ). b < 256) (sym (get_or-append_right xs ys (length xs) j 0 refl past)) (more (j - length xs)))
    (cases_lt j (length xs))

small_two : (j : ℕ) → get_or (1 ∷ 1 ∷ []) j 0 < 256
small_two zero = omega arith
small_two (suc zero) = omega arith
small_two (suc (suc j)) = omega arith

small_body : (d : Draft) (seq j : ℕ) → get_or (entry_body d seq) j 0 < 256
unfolding entry_body
small_body d seq =
    let a : List ℕ = (1 ∷ 1 ∷ []) ++ to_le_bytes w16 d.count in
    let b : List ℕ = a ++ to_le_bytes w64 seq in
    let c : List ℕ = b ++ to_le_bytes w64 d.order in
    let e : List ℕ = c ++ to_le_bytes w32 d.ino in
    let f : List ℕ = e ++ to_le_bytes w32 d.generation in
    let g : List ℕ = f ++ to_le_bytes w32 d.file_block in
    let h : List ℕ = g ++ to_le_bytes w32 d.staging in
    let k : List ℕ = h ++ to_le_bytes w32 d.staging_block in
    let l : List ℕ = k ++ to_le_bytes w32 d.staging_generation in
    let m : List ℕ = l ++ to_le_bytes w64 d.size in
    small_append m (zeros 8)
    (small_append l (to_le_bytes w64 d.size)
    (small_append k (to_le_bytes w32 d.staging_generation)
    (small_append h (to_le_bytes w32 d.staging_block)
    (small_append g (to_le_bytes w32 d.staging)
    (small_append f (to_le_bytes w32 d.file_block)
    (small_append e (to_le_bytes w32 d.generation)
    (small_append c (to_le_bytes w32 d.ino)
    (small_append b (to_le_bytes w64 d.order)
    (small_append a (to_le_bytes w64 seq)
    (small_append (1 ∷ 1 ∷ []) (to_le_bytes w16 d.count) small_two (small_low 0 2 d.count))
    (small_low 0 8 seq))
    (small_low 0 8 d.order))
    (small_low 0 4 d.ino))
    (small_low 0 4 d.generation))
    (small_low 0 4 d.file_block))
    (small_low 0 4 d.staging))
    (small_low 0 4 d.staging_block))
    (small_low 0 4 d.staging_generation))
    (small_low 0 8 d.size))
    (small_zeros 8)

pub encode_entry-small : (d : Draft) (seq j : ℕ) → get_or (encode_entry d seq) j 0 < 256
unfolding encode_entry
encode_entry-small d seq = small_append (to_le_bytes w32 (fnv_1a (entry_body d seq))) (entry_body d seq) (small_low 0 4 (fnv_1a (entry_body d seq))) (small_body d seq)

pub length-encode_entry : (d : Draft) (seq : ℕ) → length (encode_entry d seq) ≡ 64
unfolding encode_entry entry_body
length-encode_entry d seq = refl
