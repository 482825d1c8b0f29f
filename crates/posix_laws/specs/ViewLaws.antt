-- A write puts the same where what it looks at stayed.
use Rattle.std.specs.Prelude.{◌≡◌, ◌≤◌, ℕ, ◌+◌, Bool, false, cond, List, length, Option, Some, refl}
use Rattle.std.specs.Option.{option_map_or}
use Rattle.std.proofs.Common.{◌∙◌, ap, subst}
use Rattle.posix_spec.specs.posix_types.declared.call.Call.{Call}
use Rattle.posix_spec.specs.posix_types.declared.call.Mode.{Mode}
use Rattle.posix_spec.specs.posix_types.declared.call.Who.{Who}
use Rattle.posix_spec.specs.posix_types.declared.handle.Handle.{Handle}
use Rattle.posix_spec.specs.posix_tables.declared.open.Description.{Description}
use Rattle.posix_spec.specs.posix_tables.Bytes.{overwritten}
use Rattle.posix_spec.specs.posix_tables.Nodes.{bytes_of, node_at}
use Rattle.posix_spec.specs.posix_tables.Open.{may_write}
use Rattle.posix_spec.specs.posix_tables.Room.{write_need}
use Rattle.posix_spec.specs.FileRows.{appends, content, file_number, offset_of, write_start}
use Rattle.posix_spec.specs.Put.{Put, put_at, put_by, put_unless}
use Rattle.posix_spec.specs.State.{room, State}
use Rattle.posix_laws.specs.RowLaws.{Accepts, put_at-Some, rows-from_Accepts}
use Rattle.posix_laws.specs.Puts.{put_bytes, PutsWhole}
use Rattle.posix_laws.specs.Views.{KeepsView, need_of, SameView}

-- What a handle stands for stays: the file, its bytes, the offset, the flags, and where a write begins.
pub file_number-same : (s new : State) (who : Who) (h : Handle) → SameView s new who h → file_number new.tables who h ≡ file_number s.tables who h
file_number-same s new who h same = ap (λ (o : Option Description). option_map_or (λ d. d.node) o 0) same.handle

pub node-same : (s new : State) (who : Who) (h : Handle) → SameView s new who h → node_at new.nodes (file_number new.tables who h) ≡ node_at s.nodes (file_number s.tables who h)
node-same s new who h same = ap (node_at new.nodes) (file_number-same s new who h same) ∙ same.node

pub content-same : (s new : State) (who : Who) (h : Handle) → SameView s new who h → content new who h ≡ content s who h
content-same s new who h same = ap bytes_of (node-same s new who h same)

may_write-same : (s new : State) (who : Who) (h : Handle) → SameView s new who h → may_write new.tables who h ≡ may_write s.tables who h
may_write-same s new who h same = ap (λ (o : Option Description). option_map_or (λ d. d.flags.write) o false) same.handle

pub write_start-same : (s new : State) (who : Who) (h : Handle) → SameView s new who h → write_start new who h ≡ write_start s who h
write_start-same s new who h same =
    let append = ap (λ (o : Option Description). option_map_or (λ d. d.flags.append) o false) same.handle in
    let offset = ap (λ (o : Option Description). option_map_or (λ d. d.offset) o 0) same.handle in
    let long = ap length (content-same s new who h same) in
    ap (λ (b : Bool). (let n : ℕ = cond b (length (content new who h)) (offset_of new.tables who h) in n)) append
    ∙ ap (λ n. cond (appends s.tables who h) n (offset_of new.tables who h)) long
    ∙ ap (λ n. cond (appends s.tables who h) (length (content s who h)) n) offset

-- A write is accepted again, where it finds room.
accepted_again : (s new : State) (who : Who) (h : Handle) (start : ℕ) (x : List ℕ) → SameView s new who h → Accepts s who h start x
    → write_need s.mode (length (content s who h)) start (start + length x) ≤ room new → Accepts new who h start x
accepted_again s new who h start x same accepts fits =
    let long = ap length (content-same s new who h same) in
    record {
      may_write = may_write-same s new who h same ∙ accepts.may_write;
      short = accepts.short;
      some = accepts.some;
      end = accepts.end;
      room = rw (same.mode, long) fits;
    }

-- So it puts the same.
put_again : (s new : State) (who : Who) (h : Handle) (start start2 : ℕ) (x : List ℕ) (p : Put) → SameView s new who h → start2 ≡ start → put_at s who h start x ≡ Some p
    → write_need s.mode (length (content s who h)) start (start + length x) ≤ room new → (put_at new who h start2 x ≡ Some p) × (put_bytes new p ≡ put_bytes s p)
put_again s new who h start start2 x p same begins is fits =
    let says = put_at-Some s who h start x p is in
    let none = rows-from_Accepts new who h start x (accepted_again s new who h start x same says.0 fits) in
    let file = file_number-same s new who h same in
    let put_of : ℕ → Put = λ n. record { node = n; place = start; bytes = x } in
    let first_put : put_at new who h start x ≡ Some (put_of (file_number new.tables who h)) = ap (λ o. put_unless o (put_of (file_number new.tables who h))) none in
    let node : node_at new.nodes p.node ≡ node_at s.nodes p.node = subst (λ (q : Put). node_at new.nodes q.node ≡ node_at s.nodes q.node) says.1 same.node in (
      ap (λ n. put_at new who h n x) begins ∙ first_put ∙ ap (λ n. Some (put_of n)) file ∙ ap Some says.1,
      ap (λ m. overwritten (bytes_of m) p.place p.bytes) node,
    )

whole_again : (s new : State) (who : Who) (call : Call) (node : ℕ) (whole : List ℕ) (puts : PutsWhole s who call node whole)
    → (put_by new who call ≡ Some puts.put) × (put_bytes new puts.put ≡ put_bytes s puts.put) → PutsWhole new who call node whole
whole_again s new who call node whole puts again = record { put = puts.put; is = again.0; node_is = puts.node_is; whole_is = again.1 ∙ puts.whole_is }

-- A write whose view stays, and which finds room, puts the same.
pub PutsWhole-kept : (s new : State) (who : Who) (call : Call) (node : ℕ) (whole : List ℕ) → PutsWhole s who call node whole → KeepsView s new who call → need_of s who call ≤ room new
    → PutsWhole new who call node whole
unfolding put_by
PutsWhole-kept s new who (Call.Write h x) node whole puts keeps fits =
    whole_again s new who (Call.Write h x) node whole puts (put_again s new who h (write_start s who h) (write_start new who h) x puts.put keeps (write_start-same s new who h keeps) puts.is fits)
PutsWhole-kept s new who (Call.Pwrite h start x) node whole puts keeps fits =
    whole_again s new who (Call.Pwrite h start x) node whole puts (put_again s new who h start start x puts.put keeps refl puts.is fits)
PutsWhole-kept s new who call node whole puts keeps fits = let is = puts.is in cc

-- and needs the same
pub need_of-kept : (s new : State) (who : Who) (call : Call) → KeepsView s new who call → need_of new who call ≡ need_of s who call
need_of-kept s new who (Call.Write h x) keeps =
    ap (λ (m : Mode). write_need m (length (content new who h)) (write_start new who h) (write_start new who h + length x)) keeps.mode
    ∙ ap (λ n. write_need s.mode n (write_start new who h) (write_start new who h + length x)) (ap length (content-same s new who h keeps))
    ∙ ap (λ k. write_need s.mode (length (content s who h)) k (k + length x)) (write_start-same s new who h keeps)
need_of-kept s new who (Call.Pwrite h start x) keeps =
    ap (λ (m : Mode). write_need m (length (content new who h)) start (start + length x)) keeps.mode
    ∙ ap (λ n. write_need s.mode n start (start + length x)) (ap length (content-same s new who h keeps))
need_of-kept s new who call keeps = refl
