-- A part of a line that is lent out, written and put back stands as `put_at` says.
use Rattle.std.proofs.Common.{◌≡◌, ℕ, ◌+◌, ◌-◌, List, ◌++◌, length, take, drop, ap, sym, ◌∙◌, arith, append_assoc, refl}
use Rattle.std.proofs.lemmas.List.{drop-drop}
use Rattle.image_layout.specs.Puts.{put_at}

pub put_is : (line part : List ℕ) (at k : ℕ) → length part ≡ k → take at line ++ (part ++ drop (at + k - at) (drop at line)) ≡ put_at line at part
put_is line part at k e =
    let n : at + (at + k - at) ≡ at + length part = omega (arith, e) in
    let rest : drop (at + k - at) (drop at line) ≡ drop (at + length part) line = drop-drop (at + k - at) at line ∙ ap (λ (m : ℕ). drop m line) n in
    rw (rest, append_assoc) refl
