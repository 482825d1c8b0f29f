-- The bytes that a write puts, each by its place.
use Rattle.std.specs.Prelude.{◌≡◌, ◌≢◌, ◌⊎◌, ◌<◌, ◌≤◌, ◌-◌, ◌==◌, ◌&&◌, ℕ, Bool, true, false, cond, nat_lt, nat_le, List, length, max, Option, Some, None, slice_get, slice_index, if◌then◌else◌, refl}
use Rattle.std.proofs.Common.{arith, ap, ◌∙◌, sym, inl, inr}
use Rattle.std.proofs.lemmas.Bool.{eq-eqb, ne_eqb}
use Rattle.std.proofs.lemmas.Bool.Decides.{nat_tests}
use Rattle.std.proofs.lemmas.Option.{slice_get-get_or, slice_get_past}
use Rattle.posix_laws.proofs.ByteLaws.{index-overwritten}
use Rattle.posix_laws.specs.FitsLaws.{length-overwritten}
use Rattle.posix_laws.specs.Puts.{put_bytes}
use Rattle.posix_laws.specs.posix_spec.Put.{Put, put_by}
use Rattle.posix_laws.specs.posix_spec.Run.{Unfinished}
use Rattle.posix_laws.specs.posix_spec.State.{State}
use Rattle.posix_laws.specs.posix_tables.Nodes.{bytes_of, node_at}
use Rattle.live_model.specs.commute_laws.posix_types.declared.call.Call.{Call}
use Rattle.live_model.specs.commute_laws.posix_types.declared.item.Item.{Item}
use Rattle.live_model.specs.crash_spec.Posix.{is_fsync, is_ok, syncs}
use Rattle.live_model.specs.crash_spec.Values.{value_of, value_put}
use Rattle.batch_write_laws.specs.Words.{put_end}

-- the bytes of its file before it
abbrev pub old_bytes : State → Put → List ℕ
old_bytes s p = bytes_of (node_at s.nodes p.node)

pub length_put : (s : State) (p : Put) → length (put_bytes s p) ≡ max (length (old_bytes s p)) (put_end p)
length_put s p = length-overwritten (old_bytes s p) p.place p.bytes

-- beside them a byte stays, and is zero past the old end
pub byte_beside : (s : State) (p : Put) (i : ℕ) → (i < p.place) ⊎ (put_end p ≤ i) → slice_index (put_bytes s p) i ≡ slice_index (old_bytes s p) i
byte_beside s p i beside = index-overwritten (old_bytes s p) p.place p.bytes i ∙ elim beside [
  | inl before ↦ (let is : nat_lt i p.place ≡ true = grind (arith, nat_tests, before) in ap (λ (b : Bool). cond b (slice_index (old_bytes s p) i) (cond (nat_lt i (put_end p)) (slice_index p.bytes (i - p.place)) (slice_index (old_bytes s p) i))) is)
  | inr past ↦ (
      let low : nat_lt i p.place ≡ false = grind (arith, nat_tests, past) in
      let high : nat_lt i (put_end p) ≡ false = grind (arith, nat_tests, past) in
      λ k. cond (low k) (slice_index (old_bytes s p) i) (cond (high k) (slice_index p.bytes (i - p.place)) (slice_index (old_bytes s p) i)))
]

-- within them it is the one that is put
byte_within : (s : State) (p : Put) (i : ℕ) → p.place ≤ i → i < put_end p → slice_index (put_bytes s p) i ≡ slice_index p.bytes (i - p.place)
byte_within s p i from below =
    let low : nat_lt i p.place ≡ false = grind (arith, nat_tests, from) in
    let high : nat_lt i (put_end p) ≡ true = grind (arith, nat_tests, below) in
    index-overwritten (old_bytes s p) p.place p.bytes i ∙ (λ k. cond (low k) (slice_index (old_bytes s p) i) (cond (high k) (slice_index p.bytes (i - p.place)) (slice_index (old_bytes s p) i)))

value_beside : (p : Put) (n i : ℕ) → (p.node ≢ n) ⊎ ((i < p.place) ⊎ (put_end p ≤ i)) → value_of (Some p) n i ≡ None
value_beside p n i (inl other) = ap (λ (b : Bool). if b && nat_le p.place i then slice_get p.bytes (i - p.place) else None) (ne_eqb p.node n other)
value_beside p n i (inr (inl before)) =
    let low : nat_le p.place i ≡ false = grind (arith, nat_tests, before) in
    ap (λ (b : Bool). if (p.node == n) && b then slice_get p.bytes (i - p.place) else None) low ∙ by (p.node == n) where
      by : (b : Bool) → (if b && false then slice_get p.bytes (i - p.place) else None) ≡ None
      by true = refl
      by false = refl
value_beside p n i (inr (inr past)) = by ((p.node == n) && nat_le p.place i) where
  none : slice_get p.bytes (i - p.place) ≡ None
  none = slice_get_past p.bytes (i - p.place) (omega (arith, past))

  by : (b : Bool) → (if b then slice_get p.bytes (i - p.place) else None) ≡ None
  by true = none
  by false = refl

-- the call puts nothing beside them, and into no other file
pub put_beside : (s : State) (c : Unfinished) (p : Put) (n i : ℕ) → put_by s c.0 c.1 ≡ Some p → (p.node ≢ n) ⊎ ((i < p.place) ⊎ (put_end p ≤ i)) → value_put s c n i ≡ None
put_beside s c p n i is beside = ap (λ (o : Option Put). value_of o n i) is ∙ value_beside p n i beside

-- and within them the byte that the file has then
pub put_within : (s : State) (c : Unfinished) (p : Put) (i : ℕ) → put_by s c.0 c.1 ≡ Some p → p.place ≤ i → i < put_end p → value_put s c p.node i ≡ Some (slice_index (put_bytes s p) i)
put_within s c p i is from below =
    let own : (p.node == p.node) ≡ true = eq-eqb p.node p.node refl in
    let low : nat_le p.place i ≡ true = grind (arith, nat_tests, from) in
    ap (λ (o : Option Put). value_of o p.node i) is
    ∙ ((λ k. if own k && low k then slice_get p.bytes (i - p.place) else None)
    ∙ (slice_get-get_or p.bytes (i - p.place) 0 (omega (arith, from, below)) ∙ ap (λ x. Some x) (sym (byte_within s p i from below))))

-- a call that puts is no `fsync`
pub put_no_sync : (s : State) (item : Item) (p : Put) → put_by s item.who item.call ≡ Some p → syncs item ≡ false
unfolding put_by
put_no_sync s item p is = by item.call is where
  by : (call : Call) → put_by s item.who call ≡ Some p → (is_fsync call && is_ok item.reply) ≡ false
  by (Call.Fsync h) never = cc
  by (Call.Mkdir q) is_put = refl
  by (Call.Rmdir q) is_put = refl
  by (Call.Unlink q) is_put = refl
  by (Call.Rename q r) is_put = refl
  by (Call.Open h q f) is_put = refl
  by (Call.Close h) is_put = refl
  by (Call.Dup h g) is_put = refl
  by (Call.Read h n) is_put = refl
  by (Call.Pread h o n) is_put = refl
  by (Call.Write h x) is_put = refl
  by (Call.Pwrite h o x) is_put = refl
  by (Call.Seek h w m) is_put = refl
  by (Call.Truncate h n) is_put = refl
  by (Call.Stat q) is_put = refl
  by (Call.List q) is_put = refl
