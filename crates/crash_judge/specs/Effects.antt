-- What calls do to bytes, kept as plain data: what each puts, and how far each shortens the files.
use Rattle.std.specs.Prelude.{◌≡◌, ℕ, Bool, false, ◌&&◌, ◌||◌, ◌==◌, nat_lt, nat_le, IsTrue, List, [], ◌∷◌, fold, length, Option, Some, None, slice_get, unwrap_or, if◌then◌else◌}
use Rattle.std.specs.List.{list_any}
use Rattle.posix_tables.specs.declared.nodes.Node.{Node}
use Rattle.posix_tables.specs.Nodes.{bytes_of, node_at}
use Rattle.crash_spec.specs.posix_spec.Put.{put_by}
use Rattle.crash_spec.specs.posix_spec.Run.{after_call, Unfinished}
use Rattle.crash_spec.specs.posix_spec.State.{State}
use Rattle.crash_spec.specs.Posix.{ByteRule}
use Rattle.crash_spec.specs.Values.{shortens, value_of}
use Rattle.crash_judge.specs.declared.judge_bytes.effects.Cut.{Cut}
use Rattle.crash_judge.specs.declared.judge_bytes.effects.Effect.{Effect}

-- a file that had a byte ends at it or before
abbrev pub in_cut : Option Cut → ℕ → Bool
in_cut None i = false
in_cut (Some cut) i = nat_lt i cut.from && nat_le cut.to i

abbrev pub is_cut : List Cut → ℕ → ℕ → Bool
is_cut cuts n i = in_cut (slice_get cuts n) i

-- where a file ends now, and for what is no file the given end
abbrev pub end_of : Node → ℕ → ℕ
end_of Node.Gone end = end
end_of Node.Directory end = end
end_of (Node.File file) end = length file.bytes

-- the bytes by which a node was shortened
abbrev pub cut_of : Node → Node → Cut
cut_of before after = record { to = end_of after (length (bytes_of before)); from = length (bytes_of before) }

-- those of all nodes
pub record AreCuts (before after : List Node) (cuts : List Cut) : Type 0 where
  pub size : length cuts ≡ length before
  pub each : (n : ℕ) (cut : Cut) → slice_get cuts n ≡ Some cut → cut ≡ cut_of (node_at before n) (node_at after n)

-- the effect is that of a call in a state
pub record IsEffect (s : State) (c : Unfinished) (e : Effect) : Type 0 where
  pub put : e.put ≡ put_by s c.0 c.1
  pub cuts : (n i : ℕ) → is_cut e.cuts.items n i ≡ shortens s c n i

-- the effects are those of calls, one after the other
abbrev pub AreEffects : State → List Unfinished → List Effect → Type 0
AreEffects s [] [] = Unit {0}
AreEffects s [] (e ∷ effects) = ⊥
AreEffects s (c ∷ calls) [] = ⊥
AreEffects s (c ∷ calls) (e ∷ effects) = IsEffect s c e × AreEffects (after_call s c) calls effects

-- ---- what may be found at byte i of node n

abbrev pub is_value : Option ℕ → ℕ → Bool
is_value None x = false
is_value (Some y) x = y == x

-- an effect puts this value there
abbrev pub puts_it : ℕ → ℕ → ℕ → Effect → Bool
puts_it n i x e = is_value (value_of e.put n i) x

-- some effect does
abbrev pub any_puts : List Effect → ℕ → ℕ → ℕ → Bool
any_puts effects n i x = list_any (puts_it n i x) effects

-- some effect shortens the file to i bytes or less
abbrev pub any_cuts : List Effect → ℕ → ℕ → Bool
any_cuts effects n i = list_any (λ e. is_cut e.cuts.items n i) effects

-- the value after the effects, of one that was v
abbrev pub newest : List Effect → ℕ → ℕ → ℕ → ℕ
newest effects n i v = fold (λ last e. unwrap_or (value_of e.put n i) last) v effects

-- x may be found after these effects, or is put by one of those that may or may not be there
abbrev pub may_be : List Effect → List Effect → ℕ → ℕ → ℕ → ℕ → Bool
may_be effects extra n i v x =
    (if any_cuts effects n i then (v == x) || any_puts effects n i x else (newest effects n i v == x)) || any_puts extra n i x

abbrev pub EffectRule : List Effect → List Effect → ByteRule
EffectRule effects extra n i v x = IsTrue (may_be effects extra n i v x)
