-- What a write that acted leaves: the room, and what writes of other files look at.
use Rattle.std.specs.Prelude.{◌≡◌, ◌≢◌, ◌≤◌, ◌<◌, ℕ, zero, suc, ◌+◌, ◌-◌, max, true, false, List, [], ◌∷◌, length, Option, Some, None, option_and_then, slice_get, slice_set, unwrap_or, refl}
use Rattle.std.specs.Option.{option_flatten, option_map_or}
use Rattle.std.proofs.Common.{arith, ap, ◌∙◌, sym, subst}
use Rattle.std.proofs.lemmas.List.{get_or-set_other, get_or-set_same}
use Rattle.std.proofs.lemmas.List.Sums.{sum_by-cons}
use Rattle.name_laws.specs.block_counts.Counts.{held_by, reserve_for}
use Rattle.crash_spec.specs.posix_laws.posix_types.declared.call.Call.{Call}
use Rattle.crash_spec.specs.posix_laws.posix_types.declared.call.Who.{Who}
use Rattle.crash_spec.specs.posix_laws.posix_types.declared.handle.Handle.{Handle}
use Rattle.crash_spec.specs.posix_laws.posix_types.declared.item.Outcome.{Outcome}
use Rattle.crash_spec.specs.posix_laws.posix_types.declared.reply.Shape.{Shape}
use Rattle.crash_spec.specs.posix_laws.posix_tables.declared.nodes.Node.{Node}
use Rattle.crash_spec.specs.posix_laws.posix_tables.declared.open.Description.{Description}
use Rattle.crash_spec.specs.posix_laws.posix_tables.Nodes.{bytes_of, node_at, published_of}
use Rattle.crash_spec.specs.posix_laws.posix_tables.Open.{key_of, opened, Tables, with_offset}
use Rattle.crash_spec.specs.posix_laws.posix_tables.Outcomes.{first}
use Rattle.crash_spec.specs.posix_laws.posix_tables.Room.{growth, held, staged_below}
use Rattle.crash_spec.specs.posix_laws.posix_spec.FileRows.{content, file_number, write_rows, write_start}
use Rattle.crash_spec.specs.posix_laws.posix_spec.Put.{put_at, put_by}
use Rattle.crash_spec.specs.posix_laws.posix_spec.Run.{after_call, Unfinished}
use Rattle.crash_spec.specs.posix_laws.posix_spec.State.{alone, Fits, room, State, with_file}
use Rattle.crash_spec.specs.posix_laws.posix_spec.Step.{pwrite_done, step, stepped, write_done, written}
use Rattle.crash_spec.specs.posix_laws.FitsLaws.{length-overwritten}
use Rattle.crash_spec.specs.posix_laws.RowLaws.{put_at-Some, rows-from_Accepts}
use Rattle.crash_spec.specs.Sync.{with_bytes}
use Rattle.crash_spec.specs.posix_laws.Puts.{LeavesWhole, put_bytes, PutsWhole, with_whole}
use Rattle.crash_spec.specs.posix_laws.PutLaws.{LeavesWhole-step}
use Rattle.crash_spec.specs.posix_laws.Views.{KeepsView, need_of, SameView}

-- Tables.

abbrev described : List (Option Description) → ℕ → Option Description
described slots key = option_flatten (slice_get slots key)

-- what a handle stands for, with its number
record HasKey (t : Tables) (who : Who) (h : Handle) (d : Description) : Type 0 where
  key : ℕ
  key_is : key_of t who h ≡ Some key
  stands : described t.descriptions key ≡ Some d

has_key : (t : Tables) (who : Who) (h : Handle) (d : Description) → opened t who h ≡ Some d → HasKey t who h d
unfolding opened
has_key t who h d is = by (key_of t who h) refl is where
  by : (o : Option ℕ) → key_of t who h ≡ o → option_and_then (λ key. described t.descriptions key) o ≡ Some d → HasKey t who h d
  by None key_is stands = cc
  by (Some key) key_is stands = record { key = key; key_is = key_is; stands = stands }

slot_other : (slots : List (Option Description)) (i j : ℕ) (slot : Option Description) → j ≢ i → slice_get (slice_set slots i slot) j ≡ slice_get slots j
slot_other [] i j slot other = refl
slot_other (x ∷ xs) zero zero slot other = absurd (other refl)
slot_other (x ∷ xs) zero (suc j) slot other = refl
slot_other (x ∷ xs) (suc i) zero slot other = refl
slot_other (x ∷ xs) (suc i) (suc j) slot other = slot_other xs i j slot (λ same. other (ap suc same))

-- another offset of one description leaves those of other files
opened-with_offset : (t : Tables) (who who2 : Who) (h h2 : Handle) (offset : ℕ) (d e : Description) → opened t who h ≡ Some e → opened t who2 h2 ≡ Some d → d.node ≢ e.node
    → opened (with_offset t (unwrap_or (key_of t who h) 0) offset) who2 h2 ≡ Some d
unfolding opened key_of with_offset
opened-with_offset t who who2 h h2 offset d e moved is other =
    let mine = has_key t who h e moved in
    let its = has_key t who2 h2 d is in
    let apart : its.key ≢ mine.key = λ same.
    (let both : Some d ≡ Some e = sym its.stands ∙ (ap (described t.descriptions) same ∙ mine.stands) in
    let one : d ≡ e = cc in
    other (ap (λ (x : Description). x.node) one)) in
    rw (mine.key_is, mine.stands, its.key_is, slot_other t.descriptions mine.key its.key (Some (record e { offset = offset })) apart) its.stands

-- the description through which a call puts
record IsPutThrough (s : State) (who : Who) (h : Handle) (node : ℕ) : Type 0 where
  by : Description
  is : opened s.tables who h ≡ Some by
  node_is : by.node ≡ node

granted : (o : Option Description) → option_map_or (λ (d : Description). d.flags.write) o false ≡ true → (d : Description) × (o ≡ Some d)
granted None is = cc
granted (Some d) is = (d, refl)

put_through : (s : State) (who : Who) (h : Handle) (start : ℕ) (x : List ℕ) (call : Call) (node : ℕ) (whole : List ℕ) (puts : PutsWhole s who call node whole) → put_at s who h start x ≡ Some puts.put
    → IsPutThrough s who h node
put_through s who h start x call node whole puts is =
    let says = put_at-Some s who h start x puts.put is in
    let d = granted (opened s.tables who h) says.0.may_write in
    let file : file_number s.tables who h ≡ node = ap (λ p. p.node) says.1 ∙ puts.node_is in
    record { by = d.0; is = d.1; node_is = sym (ap (λ (o : Option Description). option_map_or (λ y. y.node) o 0) d.1) ∙ file }

-- after a write, descriptions of other files stand as before
abbrev KeepsOthers : Tables → Tables → ℕ → Type 0
KeepsOthers t next node = (who : Who) (h : Handle) (d : Description) → opened t who h ≡ Some d → d.node ≢ node → opened next who h ≡ Some d

others_write : (s : State) (who : Who) (h : Handle) (x : List ℕ) (node : ℕ) (o : Option Outcome) → o ≡ None → IsPutThrough s who h node → KeepsOthers s.tables (stepped s o (write_done alone s who h x)).state.tables node
unfolding write_done written with_file
others_write s who h x node (Some outcome) none through who2 h2 d is other = let never : Some outcome ≡ None = none in cc
others_write s who h x node None none through who2 h2 d is other =
    opened-with_offset s.tables who who2 h h2 (write_start s who h + length x) d through.by through.is is (λ same. other (same ∙ through.node_is))

others_pwrite : (s : State) (who : Who) (h : Handle) (start : ℕ) (x : List ℕ) (node : ℕ) (o : Option Outcome) → o ≡ None → KeepsOthers s.tables (stepped s o (pwrite_done alone s who h start x)).state.tables node
unfolding pwrite_done written with_file
others_pwrite s who h start x node (Some outcome) none who2 h2 d is other = let never : Some outcome ≡ None = none in cc
others_pwrite s who h start x node None none who2 h2 d is other = is

keeps_others : (s : State) (who : Who) (call : Call) (node : ℕ) (whole : List ℕ) → PutsWhole s who call node whole → KeepsOthers s.tables (step s who call).state.tables node
unfolding put_by
keeps_others s who (Call.Write h x) node whole puts =
    let says = put_at-Some s who h (write_start s who h) x puts.put puts.is in
    others_write s who h x node (first (write_rows s who h (write_start s who h) x)) (rows-from_Accepts s who h (write_start s who h) x says.0)
    (put_through s who h (write_start s who h) x (Call.Write h x) node whole puts puts.is)
keeps_others s who (Call.Pwrite h start x) node whole puts =
    let says = put_at-Some s who h start x puts.put puts.is in
    others_pwrite s who h start x node (first (write_rows s who h start x)) (rows-from_Accepts s who h start x says.0)
keeps_others s who call node whole puts = let never = puts.is in cc

-- A state after a write, with these bytes in the file.

set_twice : (nodes : List Node) (n : ℕ) (a b : Node) → slice_set (slice_set nodes n a) n b ≡ slice_set nodes n b
set_twice [] n a b = refl
set_twice (x ∷ xs) zero a b = refl
set_twice (x ∷ xs) (suc n) a b = ap (λ l. x ∷ l) (set_twice xs n a b)

-- it leaves just those
pub LeavesWhole-bytes : (s : State) (c : Unfinished) (node : ℕ) (whole bytes : List ℕ) → PutsWhole s c.0 c.1 node whole → node < length s.nodes → LeavesWhole s (with_bytes (after_call s c) node bytes) node bytes
unfolding with_file
LeavesWhole-bytes s c node whole bytes puts there =
    let leaves = LeavesWhole-step s c.0 c.1 node whole puts in
    let own : node_at (after_call s c).nodes node ≡ with_whole s node whole =
    ap (λ nodes. node_at nodes node) leaves.nodes ∙ get_or-set_same s.nodes node (with_whole s node whole) Node.Gone there in
    record {
      entries = leaves.entries;
      shape = leaves.shape;
      mode = leaves.mode;
      nodes =
          (λ i. slice_set (leaves.nodes i) node (Node.File (record { bytes = bytes; published = published_of (own i) })))
          ∙ set_twice s.nodes node (with_whole s node whole) (with_whole s node bytes);
    }

-- with the whole bytes it is the state after the call
pub with_bytes-whole : (s : State) (c : Unfinished) (node : ℕ) (whole : List ℕ) → PutsWhole s c.0 c.1 node whole → node < length s.nodes → with_bytes (after_call s c) node whole ≡ after_call s c
unfolding with_file
with_bytes-whole s c node whole puts there =
    let after = LeavesWhole-step s c.0 c.1 node whole puts in
    let again = LeavesWhole-bytes s c node whole whole puts there in
    λ i. record (after_call s c) { nodes = (again.nodes ∙ sym after.nodes) i }

-- the file has the whole bytes after the call
pub bytes-after : (s : State) (c : Unfinished) (node : ℕ) (whole : List ℕ) → PutsWhole s c.0 c.1 node whole → node < length s.nodes → bytes_of (node_at (after_call s c).nodes node) ≡ whole
bytes-after s c node whole puts there =
    let leaves = LeavesWhole-step s c.0 c.1 node whole puts in
    ap bytes_of (ap (λ nodes. node_at nodes node) leaves.nodes ∙ get_or-set_same s.nodes node (with_whole s node whole) Node.Gone there)

same_view : (s : State) (c : Unfinished) (node : ℕ) (whole bytes : List ℕ) (who2 : Who) (h : Handle) (node2 : ℕ) → PutsWhole s c.0 c.1 node whole → node < length s.nodes → IsPutThrough s who2 h node2 → node2 ≢ node
    → SameView s (with_bytes (after_call s c) node bytes) who2 h
unfolding with_file
same_view s c node whole bytes who2 h node2 puts there through other =
    let leaves = LeavesWhole-bytes s c node whole bytes puts there in
    let file : file_number s.tables who2 h ≡ node2 = ap (λ (o : Option Description). option_map_or (λ y. y.node) o 0) through.is ∙ through.node_is in
    record {
      handle = keeps_others s c.0 c.1 node whole puts who2 h through.by through.is (λ same. other (sym through.node_is ∙ same)) ∙ sym through.is;
      node =
          ap (λ nodes. node_at nodes (file_number s.tables who2 h)) leaves.nodes
          ∙ get_or-set_other s.nodes node (file_number s.tables who2 h) (with_whole s node bytes) Node.Gone (λ same. other (sym file ∙ same));
      mode = leaves.mode;
    }

-- A write of another file looks at the same.
pub KeepsView-other : (s : State) (c : Unfinished) (node : ℕ) (whole bytes : List ℕ) (who2 : Who) (call2 : Call) (node2 : ℕ) (whole2 : List ℕ)
    → PutsWhole s c.0 c.1 node whole → node < length s.nodes → PutsWhole s who2 call2 node2 whole2 → node2 ≢ node → KeepsView s (with_bytes (after_call s c) node bytes) who2 call2
unfolding put_by with_file
KeepsView-other s c node whole bytes who2 (Call.Write h x) node2 whole2 puts there puts2 other =
    same_view s c node whole bytes who2 h node2 puts there (put_through s who2 h (write_start s who2 h) x (Call.Write h x) node2 whole2 puts2 puts2.is) other
KeepsView-other s c node whole bytes who2 (Call.Pwrite h start x) node2 whole2 puts there puts2 other =
    same_view s c node whole bytes who2 h node2 puts there (put_through s who2 h start x (Call.Pwrite h start x) node2 whole2 puts2 puts2.is) other
KeepsView-other s c node whole bytes who2 call2 node2 whole2 puts there puts2 other = tt

-- Room.

bound : (k from to : ℕ) → held_by to ≤ held_by from + (k + growth from to)
bound k from to = omega arith

-- the file of a write grows by no more than the write needs
grows_put : (s : State) (who : Who) (h : Handle) (start : ℕ) (x : List ℕ) (call : Call) (node : ℕ) (whole : List ℕ) (k : ℕ) (puts : PutsWhole s who call node whole) → put_at s who h start x ≡ Some puts.put
    → held_by (length whole) ≤ held_by (length (bytes_of (node_at s.nodes node))) + (k + growth (length (content s who h)) (max (length (content s who h)) (start + length x)))
grows_put s who h start x call node whole k puts is =
    let says = put_at-Some s who h start x puts.put is in
    let old : ℕ = length (content s who h) in
    let long : ℕ = max old (start + length x) in
    let file : file_number s.tables who h ≡ node = ap (λ p. p.node) says.1 ∙ puts.node_is in
    let to : length whole ≡ long = ap length (sym puts.whole_is) ∙ (ap (λ p. length (put_bytes s p)) (sym says.1) ∙ length-overwritten (content s who h) start x) in
    let from : old ≡ length (bytes_of (node_at s.nodes node)) = ap (λ n. length (bytes_of (node_at s.nodes n))) file in
    subst (λ n. held_by n ≤ held_by (length (bytes_of (node_at s.nodes node))) + (k + growth old long)) (sym to)
    (subst (λ n. held_by long ≤ held_by n + (k + growth old long)) from (bound k old long))

grows : (s : State) (who : Who) (call : Call) (node : ℕ) (whole : List ℕ) → PutsWhole s who call node whole → held_by (length whole) ≤ held_by (length (bytes_of (node_at s.nodes node))) + need_of s who call
unfolding put_by
grows s who (Call.Write h x) node whole puts =
    grows_put s who h (write_start s who h) x (Call.Write h x) node whole (staged_below s.mode (length (content s who h)) (write_start s who h) (write_start s who h + length x)) puts puts.is
grows s who (Call.Pwrite h start x) node whole puts =
    grows_put s who h start x (Call.Pwrite h start x) node whole (staged_below s.mode (length (content s who h)) start (start + length x)) puts puts.is
grows s who call node whole puts = let never = puts.is in cc

-- what a node holds
abbrev weight : Node → ℕ
weight node = held_by (length (bytes_of node))

-- with another node under a number the files hold at most as much more as that node does
held_set : (nodes : List Node) (n : ℕ) (node : Node) (most : ℕ) → weight node ≤ weight (node_at nodes n) + most → held (slice_set nodes n node) ≤ held nodes + most
held_set [] n node most le = omega arith
held_set (x ∷ xs) zero node most le = omega (arith, sum_by-cons weight x xs, sum_by-cons weight node xs, le)
held_set (x ∷ xs) (suc n) node most le = omega (arith, sum_by-cons weight x xs, sum_by-cons weight x (slice_set xs n node), held_set xs n node most le)

held_after : (s next : State) (c : Unfinished) (node : ℕ) (whole bytes : List ℕ) → PutsWhole s c.0 c.1 node whole → LeavesWhole s next node bytes → length bytes ≡ length whole
    → held next.nodes ≤ held s.nodes + need_of s c.0 c.1
held_after s next c node whole bytes puts leaves long =
    let le = subst (λ n. held_by n ≤ weight (node_at s.nodes node) + need_of s c.0 c.1) (sym long) (grows s c.0 c.1 node whole puts) in
    subst (λ nodes. held nodes ≤ held s.nodes + need_of s c.0 c.1) (sym leaves.nodes) (held_set s.nodes node (with_whole s node bytes) (need_of s c.0 c.1) le)

-- So what was left besides the need is left, and the files fit.
pub room-after : (s next : State) (c : Unfinished) (node : ℕ) (whole bytes : List ℕ) (k : ℕ) → PutsWhole s c.0 c.1 node whole → LeavesWhole s next node bytes → length bytes ≡ length whole
    → need_of s c.0 c.1 + k ≤ room s → k ≤ room next
room-after s next c node whole bytes k puts leaves long fits =
    let most = held_after s next c node whole bytes puts leaves long in
    subst (λ (shape : Shape). k ≤ shape.data_blocks - reserve_for shape.data_blocks - held next.nodes) (sym leaves.shape) (omega (arith, most, fits))

pub Fits-after : (s next : State) (c : Unfinished) (node : ℕ) (whole bytes : List ℕ) → PutsWhole s c.0 c.1 node whole → LeavesWhole s next node bytes → length bytes ≡ length whole
    → need_of s c.0 c.1 ≤ room s → Fits s → Fits next
Fits-after s next c node whole bytes puts leaves long fits all =
    let most = held_after s next c node whole bytes puts leaves long in
    subst (λ (shape : Shape). held next.nodes + reserve_for shape.data_blocks ≤ shape.data_blocks) (sym leaves.shape) (omega (arith, most, fits, all))
