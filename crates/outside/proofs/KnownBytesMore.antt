-- A write of the next bytes of a list after a write of its front.
use Rattle.std.proofs.Common.{ℕ, ◌+◌, List, ◌++◌, take, drop, Option, Some, None, ◌∙◌, ap, subst, append_assoc, ◌-◌, ◌≤◌, length, arith, length-drop}
use Rattle.std.proofs.lemmas.List.{take_rest}
use Rattle.std.proofs.Math.Seq.{take-add}
use Rattle.std.specs.Io.KnownBytes.{Appends, Keeps}

Appends-more : (a b c : Option (List ℕ)) (xs ys : List ℕ) → Appends a b xs → Appends b c ys → Appends a c (xs ++ ys)
Appends-more None b c xs ys h k = tt
Appends-more (Some a) None c xs ys h k = absurd h
Appends-more (Some a) (Some b) None xs ys h k = absurd k
Appends-more (Some a) (Some b) (Some c) xs ys h k = k ∙ ap (λ zs. zs ++ ys) h ∙ append_assoc a xs ys

-- a front of i bytes, and then n of the rest
pub Appends-front : (bytes : List ℕ) (i n : ℕ) (a b c : Option (List ℕ)) → Appends a b (take i bytes) → Appends b c (take n (take (length bytes - i) (drop i bytes))) → Appends a c (take (i + n) bytes)
Appends-front bytes i n a b c h k =
    rw take-add (Appends-more a b c (take i bytes) (take n (drop i bytes)) h (subst (λ zs. Appends b c (take n zs)) (take_rest bytes i) k))

pub front-within : (bytes : List ℕ) (i n : ℕ) → i ≤ length bytes → n ≤ length (take (length bytes - i) (drop i bytes)) → i + n ≤ length bytes
front-within bytes i n h k = omega (arith, length-drop i bytes, subst (λ zs. n ≤ length zs) (take_rest bytes i) k)

-- a front of i bytes, and then nothing
pub Appends-kept : (a b c : Option (List ℕ)) (xs : List ℕ) → Appends a b xs → Keeps b c → Appends a c xs
Appends-kept None b c xs h k = tt
Appends-kept (Some a) None c xs h k = absurd h
Appends-kept (Some a) (Some b) None xs h k = absurd k
Appends-kept (Some a) (Some b) (Some c) xs h k = k ∙ h
