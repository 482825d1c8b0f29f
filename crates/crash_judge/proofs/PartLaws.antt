-- What acts towards a tree leads to it, where anything that acts whole or in part does; and the walk over the unfinished
-- calls is the sync relation.
use Rattle.std.specs.Prelude.{◌≡◌, ◌⊎◌, ◌↔◌, ℕ, ◌<◌, ◌≤◌, Bool, true, false, cond, not, ◌&&◌, ◌==◌, nat_lt, IsTrue, List, [], ◌∷◌, ◌++◌, length, map, Option, Some, None, slice_index, slice_index_or, slice_set, refl}
use Rattle.std.proofs.Common.{arith, ap, ◌∙◌, sym, subst, inl, inr}
use Rattle.std.proofs.lemmas.Bool.Decides.{nat_tests}
use Rattle.std.proofs.lemmas.List.{ext_get_or, get_or-set_same, get_or_default, get_or_past, length-set, set-get_or}
use Rattle.std.proofs.lemmas.List.FromFn.{get_or-map-range_with_len, length-map-range_with_len}
use Rattle.posix_laws.specs.posix_types.declared.item.Item.{Item}
use Rattle.posix_laws.specs.posix_types.declared.tree.TreeEntry.{TreeEntry}
use Rattle.posix_laws.specs.posix_types.declared.tree.TreeNode.{TreeNode}
use Rattle.posix_tables.specs.declared.nodes.DirEntry.{DirEntry}
use Rattle.posix_tables.specs.declared.nodes.File.{File}
use Rattle.posix_tables.specs.declared.nodes.Node.{Node}
use Rattle.posix_tables.specs.declared.places.Place.{Place}
use Rattle.posix_tables.specs.Nodes.{bytes_of, node_at, published_of}
use Rattle.posix_tables.specs.Places.{places, tree_entry, tree_node}
use Rattle.posix_laws.specs.posix_spec.Put.{Put, put_by}
use Rattle.posix_laws.specs.posix_spec.Run.{after_call, after_calls, Unfinished, run}
use Rattle.posix_laws.specs.posix_spec.State.{State, with_file}
use Rattle.posix_laws.specs.posix_spec.Tree.{tree}
use Rattle.posix_laws.specs.PutLaws.{LeavesWhole-put}
use Rattle.posix_laws.specs.Puts.{put_bytes}
use Rattle.crash_spec.specs.Strict.{Strict, StrictFrom}
use Rattle.crash_spec.specs.Sync.{ActsInPart, file_bytes, IsPartOf, Sync, SyncFrom, with_bytes}
use Rattle.crash_judge.specs.Parts.{all_toward, LeadTo, PartsThen, pick, picked, put_toward, SomeLead, toward}
use Rattle.crash_judge.specs.Wanted.{numbers_of, wanted}
use Rattle.crash_judge.proofs.Likes.{AllGo-same, bytes_go, BytesGo, ByteWise, Like, Like-call, Like-file, MayBeSame, NodesGo, published_same, put_by-like}
use Rattle.crash_judge.proofs.NearestLaws.{split}
use Rattle.crash_judge.proofs.WantedLaws.{Each, Each-map, IsWanted, same_map, wanted-tree}

-- ---- what is picked is a part

picked_at : (old whole want : List ℕ) (i : ℕ) → i < length whole → slice_index (picked old whole want) i ≡ pick old whole want i
picked_at old whole want i below = get_or-map-range_with_len (pick old whole want) 0 (length whole) i i 0 below (omega arith)

picked_size : (old whole want : List ℕ) → length (picked old whole want) ≡ length whole
picked_size old whole want = length-map-range_with_len (pick old whole want) 0 (length whole)

both_true : (a b : Bool) → (a && b) ≡ true → a ≡ true
both_true true b is = refl
both_true false b is = cc

below_from : (i n : ℕ) → nat_lt i n ≡ true → i < n
below_from i n is = grind (arith, nat_tests)

IsPartOf-picked : (old whole want : List ℕ) → IsPartOf old whole (picked old whole want)
IsPartOf-picked old whole want = record { size = picked_size old whole want; each = each } where
  by : (i : ℕ) (b : Bool) → (nat_lt i (length old) && not (slice_index whole i == slice_index want i)) ≡ b → (x : ℕ) → x ≡ cond b (slice_index old i) (slice_index whole i)
      → (x ≡ slice_index whole i) ⊎ ((i < length old) × (x ≡ slice_index old i))
  by i true is x same = inr (below_from i (length old) (both_true _ _ is), same)
  by i false is x same = inl same

  each : (i : ℕ) → i < length (picked old whole want) → (slice_index (picked old whole want) i ≡ slice_index whole i) ⊎ ((i < length old) × (slice_index (picked old whole want) i ≡ slice_index old i))
  each i below = by i _ refl (slice_index (picked old whole want) i) (picked_at old whole want i (let size = picked_size old whole want in omega (arith, size, below)))

-- so what acts towards a tree acts
toward_acts : (want : ℕ → List ℕ) (s : State) (c : Unfinished) (calls : List Unfinished) (P : State → Type 0) → PartsThen (toward want s c) calls P → PartsThen s (c ∷ calls) P
toward_acts want s c calls P = by (put_by s c.0 c.1) refl where
  by : (o : Option Put) → put_by s c.0 c.1 ≡ o → PartsThen (put_toward want s (after_call s c) o) calls P → PartsThen s (c ∷ calls) P
  by None is then = inl then
  by (Some put) is then = inr (
    put_toward want s (after_call s c) (Some put),
    record {
      put = put;
      bytes = picked (file_bytes s put.node) (file_bytes (after_call s c) put.node) (want put.node);
      is_write = is;
      part = IsPartOf-picked (file_bytes s put.node) (file_bytes (after_call s c) put.node) (want put.node);
      next_is = refl;
    },
    then,
  )

pub toward_leads : (want : ℕ → List ℕ) (calls : List Unfinished) (s : State) (left : List TreeEntry) → left ≡ tree (all_toward want s calls) → LeadTo s calls left
toward_leads want [] s left is = is
toward_leads want (c ∷ calls) s left is = toward_acts want s c calls (λ t. left ≡ tree t) (toward_leads want calls (toward want s c) left is)

-- ---- a write that acts whole

file_is : (nodes : List Node) (n : ℕ) (w : File) → (n < length nodes → node_at nodes n ≡ Node.File w) → (let f : File = record { bytes = bytes_of (node_at nodes n); published = published_of (node_at nodes n) } in slice_set nodes n (Node.File f) ≡ nodes)
file_is nodes n w is = by (split n (length nodes)) where
  f : File
  f = record { bytes = bytes_of (node_at nodes n); published = published_of (node_at nodes n) }

  here : (n < length nodes) ⊎ (length nodes ≤ n) → Node.File f ≡ slice_index_or nodes n (Node.File f)
  here (inl below) =
      let there = is below in
      let same : Node.File f ≡ Node.File w = (λ k. Node.File (record { bytes = bytes_of (there k); published = published_of (there k) })) in
      same ∙ sym there ∙ get_or_default nodes n Node.Gone (Node.File f) below
  here (inr past) = sym (get_or_past nodes n (Node.File f) past)

  by : (n < length nodes) ⊎ (length nodes ≤ n) → slice_set nodes n (Node.File f) ≡ nodes
  by either = ap (λ (x : Node). slice_set nodes n x) (here either) ∙ set-get_or nodes n (Node.File f)

after_put : (s : State) (c : Unfinished) (put : Put) → put_by s c.0 c.1 ≡ Some put → with_bytes (after_call s c) put.node (file_bytes (after_call s c) put.node) ≡ after_call s c
unfolding with_file
after_put s c put is =
    let leaves = LeavesWhole-put s c.0 c.1 put is in
    let new = after_call s c in
    let n = put.node in
    let w : File = record { bytes = put_bytes s put; published = published_of (node_at s.nodes n) } in
    let there : n < length new.nodes → node_at new.nodes n ≡ Node.File w =
    λ below. ap (λ (ns : List Node). node_at ns n) leaves.nodes
    ∙ get_or-set_same s.nodes n (Node.File w) Node.Gone (let size = length-set s.nodes n (Node.File w) in let same = ap (λ (ns : List Node). length ns) leaves.nodes in omega (arith, size, same, below)) in
    λ i. record new { nodes = file_is new.nodes n w there i }

whole_in_part : (s : State) (c : Unfinished) (put : Put) → put_by s c.0 c.1 ≡ Some put → ActsInPart s c (after_call s c)
whole_in_part s c put is = record {
  put = put;
  bytes = file_bytes (after_call s c) put.node;
  is_write = is;
  part = record { size = refl; each = λ i below. inl refl };
  next_is = sym (after_put s c put is);
}

-- ---- towards what is wanted

-- where one has what is wanted, the other has it
abbrev pub Toward : (ℕ → List ℕ) → ByteWise
Toward want n i g t = t ≡ slice_index (want n) i → g ≡ slice_index (want n) i

abbrev pub Any : ByteWise
Any n i g t = Unit {0}

toward_same : (want : ℕ → List ℕ) → MayBeSame (Toward want)
toward_same want n i v is = is

any_same : MayBeSame Any
any_same n i v = tt

equal : (a b : ℕ) → a ≡ b → not (a == b) ≡ false
equal a b is = grind (arith, nat_tests)

pick_whole : (old whole want : List ℕ) (i : ℕ) → slice_index whole i ≡ slice_index want i → pick old whole want i ≡ slice_index want i
pick_whole old whole want i is = ap (λ b. cond (nat_lt i (length old) && b) (slice_index old i) (slice_index whole i)) (equal _ _ is) ∙ by (nat_lt i (length old)) where
  by : (b : Bool) → cond (b && false) (slice_index old i) (slice_index whole i) ≡ slice_index want i
  by true = is
  by false = is

pick_old : (old whole want : List ℕ) (i : ℕ) → i < length old → slice_index old i ≡ slice_index want i → pick old whole want i ≡ slice_index want i
pick_old old whole want i below is = by (slice_index whole i == slice_index want i) refl where
  there : nat_lt i (length old) ≡ true
  there = grind (arith, nat_tests)

  by : (b : Bool) → (slice_index whole i == slice_index want i) ≡ b → cond (nat_lt i (length old) && not b) (slice_index old i) (slice_index whole i) ≡ slice_index want i
  by true same = ap (λ b. cond (b && false) (slice_index old i) (slice_index whole i)) there ∙ (let e : slice_index whole i ≡ slice_index want i = grind (arith, nat_tests) in e)
  by false other = ap (λ b. cond (b && true) (slice_index old i) (slice_index whole i)) there ∙ is

-- what is picked goes with any part
picked_goes : (want : ℕ → List ℕ) (n : ℕ) (old_g whole_g old_t whole_t bytes : List ℕ) → BytesGo (Toward want) n old_g old_t → BytesGo (Toward want) n whole_g whole_t → IsPartOf old_t whole_t bytes
    → BytesGo (Toward want) n (picked old_g whole_g (want n)) bytes
picked_goes want n old_g whole_g old_t whole_t bytes old whole part = record { size = size; each = λ i. at i (split i (length bytes)) } where
  size : length (picked old_g whole_g (want n)) ≡ length bytes
  size = picked_size old_g whole_g (want n) ∙ whole.size ∙ sym part.size

  by : (i : ℕ) → (slice_index bytes i ≡ slice_index whole_t i) ⊎ ((i < length old_t) × (slice_index bytes i ≡ slice_index old_t i)) → slice_index bytes i ≡ slice_index (want n) i
      → pick old_g whole_g (want n) i ≡ slice_index (want n) i
  by i (inl same) is = pick_whole old_g whole_g (want n) i (whole.each i (sym same ∙ is))
  by i (inr same) is = pick_old old_g whole_g (want n) i (let s = old.size in let b = same.0 in omega (arith, s, b)) (old.each i (sym same.1 ∙ is))

  at : (i : ℕ) → (i < length bytes) ⊎ (length bytes ≤ i) → Toward want n i (slice_index (picked old_g whole_g (want n)) i) (slice_index bytes i)
  at i (inl below) is = picked_at old_g whole_g (want n) i (let s = size in let p = picked_size old_g whole_g (want n) in omega (arith, s, p, below)) ∙ by i (part.each i below) is
  at i (inr past) is = get_or_past (picked old_g whole_g (want n)) i 0 (let s = size in omega (arith, s, past)) ∙ sym (get_or_past bytes i 0 past) ∙ is

-- what acts towards the wanted goes with what acts in part
part_like : (want : ℕ → List ℕ) (g t next : State) (c : Unfinished) → Like (Toward want) g t → ActsInPart t c next → Like (Toward want) (toward want g c) next
part_like want g t next c likes acts =
    let R = Toward want in
    let same = toward_same want in
    let n = acts.put.node in
    let both = Like-call R same g t c likes in
    let put : put_by g c.0 c.1 ≡ Some acts.put = put_by-like R same g t c.0 c.1 likes ∙ acts.is_write in
    let new = after_call g c in
    let old_bytes = bytes_go R same n (node_at g.nodes n) (node_at t.nodes n) (likes.nodes.each n) in
    let new_bytes = bytes_go R same n (node_at new.nodes n) (node_at (after_call t c).nodes n) (both.nodes.each n) in
    let here : Like R (put_toward want g new (Some acts.put)) (with_bytes (after_call t c) n acts.bytes) =
    Like-file R new (after_call t c) n _ _ _ _ (published_same R n (node_at new.nodes n) (node_at (after_call t c).nodes n) (both.nodes.each n))
    (picked_goes want n (file_bytes g n) (file_bytes new n) (file_bytes t n) (file_bytes (after_call t c) n) acts.bytes old_bytes new_bytes acts.part) both in
    subst (λ (o : Option Put). Like R (put_toward want g new o) next) (sym put) (subst (λ (m : State). Like R (put_toward want g new (Some acts.put)) m) (sym acts.next_is) here)

whole_like : (want : ℕ → List ℕ) (g t : State) (c : Unfinished) → Like (Toward want) g t → Like (Toward want) (toward want g c) (after_call t c)
whole_like want g t c likes = by (put_by t c.0 c.1) refl where
  by : (o : Option Put) → put_by t c.0 c.1 ≡ o → Like (Toward want) (toward want g c) (after_call t c)
  by None is =
      let none : put_by g c.0 c.1 ≡ None = put_by-like (Toward want) (toward_same want) g t c.0 c.1 likes ∙ is in
      subst (λ (o : Option Put). Like (Toward want) (put_toward want g (after_call g c) o) (after_call t c)) (sym none) (Like-call (Toward want) (toward_same want) g t c likes)
  by (Some put) is = part_like want g t (after_call t c) c likes (whole_in_part t c put is)

-- and what acts whole goes with it, but for the bytes
any_part : (w t next : State) (c : Unfinished) → Like Any w t → ActsInPart t c next → Like Any (after_call w c) next
any_part w t next c likes acts =
    let n = acts.put.node in
    let both = Like-call Any any_same w t c likes in
    let put : put_by w c.0 c.1 ≡ Some acts.put = put_by-like Any any_same w t c.0 c.1 likes ∙ acts.is_write in
    let new = after_call w c in
    let bytes = bytes_go Any any_same n (node_at new.nodes n) (node_at (after_call t c).nodes n) (both.nodes.each n) in
    let here : Like Any (with_bytes new n (file_bytes new n)) (with_bytes (after_call t c) n acts.bytes) =
    Like-file Any new (after_call t c) n _ _ _ _ (published_same Any n (node_at new.nodes n) (node_at (after_call t c).nodes n) (both.nodes.each n))
    (record { size = bytes.size ∙ sym acts.part.size; each = λ i. tt }) both in
    subst (λ (m : State). Like Any m next) (after_put w c acts.put put) (subst (λ (m : State). Like Any (with_bytes new n (file_bytes new n)) m) (sym acts.next_is) here)

-- where the calls lead
pub record Led (want : ℕ → List ℕ) (g w : State) (left : List TreeEntry) : Type 0 where
  pub end : State
  pub toward_it : Like (Toward want) g end
  pub beside_it : Like Any w end
  pub tree_is : left ≡ tree end

led : (want : ℕ → List ℕ) (calls : List Unfinished) (g w t : State) (left : List TreeEntry) → Like (Toward want) g t → Like Any w t → LeadTo t calls left → Led want (all_toward want g calls) (after_calls w calls) left
led want [] g w t left towards beside is = record { end = t; toward_it = towards; beside_it = beside; tree_is = is }
led want (c ∷ calls) g w t left towards beside (inl whole) =
    led want calls (toward want g c) (after_call w c) (after_call t c) left (whole_like want g t c towards) (Like-call Any any_same w t c beside) whole
led want (c ∷ calls) g w t left towards beside (inr (next, acts, rest)) =
    led want calls (toward want g c) (after_call w c) next left (part_like want g t next c towards acts) (any_part w t next c beside acts) rest

-- ---- the end

wanted_node : (want : ℕ → List ℕ) (n : ℕ) (g t : Node) → want n ≡ bytes_of t → NodesGo (Toward want) n g t → tree_node t ≡ tree_node g
wanted_node want n Node.Gone Node.Gone is go = refl
wanted_node want n Node.Gone Node.Directory is go = absurd go
wanted_node want n Node.Gone (Node.File t) is go = absurd go
wanted_node want n Node.Directory Node.Gone is go = absurd go
wanted_node want n Node.Directory Node.Directory is go = refl
wanted_node want n Node.Directory (Node.File t) is go = absurd go
wanted_node want n (Node.File g) Node.Gone is go = absurd go
wanted_node want n (Node.File g) Node.Directory is go = absurd go
wanted_node want n (Node.File g) (Node.File t) is go =
    ap TreeNode.File (ext_get_or 0 t.bytes g.bytes (sym go.bytes.size) (λ i below.
    let there : slice_index t.bytes i ≡ slice_index (want n) i = ap (λ (xs : List ℕ). slice_index xs i) (sym is) in
    there ∙ sym (go.bytes.each i there)))

end_tree : (g t : State) (numbers : List ℕ) (left : List TreeEntry) → numbers ≡ numbers_of (length t.nodes) t.entries → left ≡ tree t → Like (Toward (wanted numbers left)) g t → left ≡ tree g
end_tree g t numbers left numbers_are is likes =
    is ∙ same_map (tree_entry t.nodes) (tree_entry g.nodes) (places t.entries) each ∙ ap (λ (es : List DirEntry). map (tree_entry g.nodes) (places es)) (sym likes.entries)
  where
    count : ℕ
    count = length t.nodes

    wants : Each (IsWanted count t.nodes numbers left) (places t.entries)
    wants =
        subst (λ (ns : List ℕ). Each (IsWanted count t.nodes ns left) (places t.entries)) (sym numbers_are)
        (subst (λ (l : List TreeEntry). Each (IsWanted count t.nodes (numbers_of count t.entries) l) (places t.entries)) (sym is) (wanted-tree count t.nodes (places t.entries)))

    at : (place : Place) → IsWanted count t.nodes numbers left place → tree_entry t.nodes place ≡ tree_entry g.nodes place
    at place wanted_is = λ k. record { path = place.path; node = node (split place.node count) k } where
      node : (place.node < count) ⊎ (count ≤ place.node) → tree_node (node_at t.nodes place.node) ≡ tree_node (node_at g.nodes place.node)
      node (inl below) = wanted_node (wanted numbers left) place.node (node_at g.nodes place.node) (node_at t.nodes place.node) (wanted_is below) (likes.nodes.each place.node)
      node (inr past) =
          ap tree_node (get_or_past t.nodes place.node Node.Gone past)
          ∙ sym (ap tree_node (get_or_past g.nodes place.node Node.Gone (let size = likes.nodes.count in omega (arith, size, past))))

    each : Each (λ place. tree_entry t.nodes place ≡ tree_entry g.nodes place) (places t.entries)
    each = Each-map (IsWanted count t.nodes numbers left) (λ place. tree_entry t.nodes place ≡ tree_entry g.nodes place) (places t.entries) at wants

-- calls lead to a tree exactly where what acts towards it does
pub LeadTo-toward : (s : State) (calls : List Unfinished) (numbers : List ℕ) (left : List TreeEntry) → (let w : State = after_calls s calls in numbers ≡ numbers_of (length w.nodes) w.entries)
    → (left ≡ tree (all_toward (wanted numbers left) s calls)) ↔ LeadTo s calls left
LeadTo-toward s calls numbers left numbers_are = (toward_leads (wanted numbers left) calls s left, back) where
  alike : (R : ByteWise) → MayBeSame R → Like R s s
  alike R same = record { entries = refl; tables = refl; shape = refl; mode = refl; nodes = AllGo-same R same s.nodes }

  back : LeadTo s calls left → left ≡ tree (all_toward (wanted numbers left) s calls)
  back is =
      let its = led (wanted numbers left) calls s s s left (alike (Toward (wanted numbers left)) (toward_same (wanted numbers left))) (alike Any any_same) is in
      let named : numbers ≡ numbers_of (length its.end.nodes) its.end.entries = numbers_are ∙ (λ i. numbers_of (its.beside_it.nodes.count i) (its.beside_it.entries i)) in
      end_tree (all_toward (wanted numbers left) s calls) its.end numbers left named its.tree_is its.toward_it

-- ---- the sync relation

parts_map : (calls : List Unfinished) (s : State) (P Q : State → Type 0) → ((t : State) → P t → Q t) → PartsThen s calls P → PartsThen s calls Q
parts_map [] s P Q implies is = implies s is
parts_map (c ∷ calls) s P Q implies (inl whole) = inl (parts_map calls (after_call s c) P Q implies whole)
parts_map (c ∷ calls) s P Q implies (inr (next, acts, rest)) = inr (next, acts, parts_map calls next P Q implies rest)

parts_more : (calls : List Unfinished) (s : State) (c : Unfinished) (P : State → Type 0) → PartsThen s (calls ++ c ∷ []) P → PartsThen s calls (λ t. PartsThen t (c ∷ []) P)
parts_more [] s c P is = is
parts_more (d ∷ calls) s c P (inl whole) = inl (parts_more calls (after_call s d) c P whole)
parts_more (d ∷ calls) s c P (inr (next, acts, rest)) = inr (next, acts, parts_more calls next c P rest)

parts_joined : (calls : List Unfinished) (s : State) (c : Unfinished) (P : State → Type 0) → PartsThen s calls (λ t. PartsThen t (c ∷ []) P) → PartsThen s (calls ++ c ∷ []) P
parts_joined [] s c P is = is
parts_joined (d ∷ calls) s c P (inl whole) = inl (parts_joined calls (after_call s d) c P whole)
parts_joined (d ∷ calls) s c P (inr (next, acts, rest)) = inr (next, acts, parts_joined calls next c P rest)

parts_either : (calls : List Unfinished) (s : State) (P Q : State → Type 0) → PartsThen s calls (λ t. P t ⊎ Q t) → PartsThen s calls P ⊎ PartsThen s calls Q
parts_either [] s P Q is = is
parts_either (c ∷ calls) s P Q (inl whole) = elim (parts_either calls (after_call s c) P Q whole) [ inl p ↦ inl (inl p) | inr q ↦ inr (inl q) ]
parts_either (c ∷ calls) s P Q (inr (next, acts, rest)) = elim (parts_either calls next P Q rest) [ inl p ↦ inl (inr (next, acts, p)) | inr q ↦ inr (inr (next, acts, q)) ]

one_then : (t : State) (c : Unfinished) (unfinished : List Unfinished) (left : List TreeEntry) → PartsThen t (c ∷ []) (λ u. SyncFrom u unfinished left) → SyncFrom t (c ∷ unfinished) left
one_then t c unfinished left (inl whole) = inl whole
one_then t c unfinished left (inr part) = inr (inl part)

then_one : (t : State) (c : Unfinished) (unfinished : List Unfinished) (left : List TreeEntry) → SyncFrom t (c ∷ unfinished) left
    → PartsThen t (c ∷ []) (λ u. SyncFrom u unfinished left) ⊎ SyncFrom t unfinished left
then_one t c unfinished left (inl whole) = inl (inl whole)
then_one t c unfinished left (inr (inl part)) = inl (inr part)
then_one t c unfinished left (inr (inr idle)) = inr idle

some_sync : (unfinished : List Unfinished) (s : State) (chosen : List Unfinished) (left : List TreeEntry) → SomeLead s chosen unfinished left → PartsThen s chosen (λ t. SyncFrom t unfinished left)
some_sync [] s chosen left is = is
some_sync (c ∷ unfinished) s chosen left (inl acts) =
    parts_map chosen s (λ t. PartsThen t (c ∷ []) (λ u. SyncFrom u unfinished left)) (λ t. SyncFrom t (c ∷ unfinished) left) (λ t. one_then t c unfinished left)
    (parts_more chosen s c (λ u. SyncFrom u unfinished left) (some_sync unfinished s (chosen ++ c ∷ []) left acts))
some_sync (c ∷ unfinished) s chosen left (inr idle) =
    parts_map chosen s (λ t. SyncFrom t unfinished left) (λ t. SyncFrom t (c ∷ unfinished) left) (λ t x. inr (inr x)) (some_sync unfinished s chosen left idle)

sync_some : (unfinished : List Unfinished) (s : State) (chosen : List Unfinished) (left : List TreeEntry) → PartsThen s chosen (λ t. SyncFrom t unfinished left) → SomeLead s chosen unfinished left
sync_some [] s chosen left is = is
sync_some (c ∷ unfinished) s chosen left is = by (parts_either chosen s (λ t. PartsThen t (c ∷ []) (λ u. SyncFrom u unfinished left)) (λ t. SyncFrom t unfinished left)
    (parts_map chosen s (λ t. SyncFrom t (c ∷ unfinished) left) (λ t. PartsThen t (c ∷ []) (λ u. SyncFrom u unfinished left) ⊎ SyncFrom t unfinished left) (λ t. then_one t c unfinished left) is))
    (sync_some unfinished s (chosen ++ c ∷ []) left) (sync_some unfinished s chosen left)
  where
    by : PartsThen s chosen (λ t. PartsThen t (c ∷ []) (λ u. SyncFrom u unfinished left)) ⊎ PartsThen s chosen (λ t. SyncFrom t unfinished left)
        → (PartsThen s (chosen ++ c ∷ []) (λ t. SyncFrom t unfinished left) → SomeLead s (chosen ++ c ∷ []) unfinished left)
        → (PartsThen s chosen (λ t. SyncFrom t unfinished left) → SomeLead s chosen unfinished left)
        → SomeLead s (chosen ++ c ∷ []) unfinished left ⊎ SomeLead s chosen unfinished left
    by (inl acts) acting idling = inl (acting (parts_joined chosen s c (λ u. SyncFrom u unfinished left) acts))
    by (inr idle) acting idling = inr (idling idle)

pub SyncFrom-some : (s : State) (unfinished : List Unfinished) (left : List TreeEntry) → SomeLead s [] unfinished left ↔ SyncFrom s unfinished left
SyncFrom-some s unfinished left = (some_sync unfinished s [] left, sync_some unfinished s [] left)

-- ---- what the functions decide

pub lead_decided : (s : State) (calls : List Unfinished) (numbers : List ℕ) (left : List TreeEntry) (end : State) (b : Bool) → (let w : State = after_calls s calls in numbers ≡ numbers_of (length w.nodes) w.entries)
    → end ≡ all_toward (wanted numbers left) s calls → (IsTrue b ↔ (left ≡ tree end)) → IsTrue b ↔ LeadTo s calls left
lead_decided s calls numbers left end b numbers_are end_is is =
    let same = LeadTo-toward s calls numbers left numbers_are in
    (λ t. same.0 (is.0 t ∙ ap (λ (m : State). tree m) end_is), λ (h : LeadTo s calls left). is.1 (same.1 h ∙ sym (ap (λ (m : State). tree m) end_is)))

pub sync_decided : (s done : State) (h : List Item) (unfinished : List Unfinished) (left : List TreeEntry) (b : Bool) → done ≡ run s h → (IsTrue b ↔ SomeLead done [] unfinished left)
    → IsTrue b ↔ Sync s h unfinished left
sync_decided s done h unfinished left b done_is is =
    let same = SyncFrom-some done unfinished left in (
      λ t. subst (λ (m : State). SyncFrom m unfinished left) done_is (same.0 (is.0 t)),
      λ (p : Sync s h unfinished left). is.1 (same.1 (subst (λ (m : State). SyncFrom m unfinished left) (sym done_is) p)),
    )

pub strict_decided : (s done : State) (h : List Item) (unfinished : List Unfinished) (left : List TreeEntry) (b : Bool) → done ≡ run s h → (IsTrue b ↔ StrictFrom done unfinished left)
    → IsTrue b ↔ Strict s h unfinished left
strict_decided s done h unfinished left b done_is is = subst (λ (m : State). IsTrue b ↔ StrictFrom m unfinished left) done_is is
