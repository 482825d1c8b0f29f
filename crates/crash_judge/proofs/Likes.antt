-- States that differ in bytes alone go together under every call.
use Rattle.std.specs.Prelude.{◌≡◌, ◌⊎◌, ℕ, suc, ◌+◌, ◌-◌, ◌<◌, ◌≤◌, Bool, true, false, cond, not, ◌||◌, ◌==◌, nat_le, nat_lt, List, [], ◌∷◌, ◌++◌, length, count_by, sum_by, Option, Some, None, is_none, slice_index, slice_set, unwrap_or, ℤ, refl}
use Rattle.std.proofs.Common.{arith, ap, ◌∙◌, sym, subst, inl, inr}
use Rattle.std.proofs.lemmas.Bool.Decides.{nat_tests}
use Rattle.std.proofs.lemmas.List.{get_or-set_other, get_or-set_same, get_or_append_left, get_or_past, get_or_push, length-append, length-set}
use Rattle.std.proofs.lemmas.List.Sums.{sum_by-cons}
use Rattle.posix_laws.specs.block_counts.Counts.{held_by, reserve_for}
use Rattle.posix_laws.specs.posix_types.declared.call.Call.{Call}
use Rattle.posix_laws.specs.posix_types.declared.call.Who.{Who}
use Rattle.posix_laws.specs.posix_types.declared.handle.Flags.{Flags}
use Rattle.posix_laws.specs.posix_types.declared.handle.Handle.{Handle}
use Rattle.posix_laws.specs.posix_types.declared.handle.Whence.{Whence}
use Rattle.posix_laws.specs.posix_types.declared.item.Outcome.{Outcome}
use Rattle.posix_laws.specs.posix_types.declared.reply.Errno.{Errno}
use Rattle.posix_laws.specs.posix_types.declared.reply.Reply.{Reply}
use Rattle.posix_laws.specs.posix_types.declared.reply.What.{What}
use Rattle.posix_tables.specs.declared.nodes.DirEntry.{DirEntry}
use Rattle.posix_tables.specs.declared.nodes.File.{File}
use Rattle.posix_tables.specs.declared.nodes.Node.{Node}
use Rattle.posix_tables.specs.block_counts.declared.TheConstants.{LONGEST_FILE, LONGEST_WRITE}
use Rattle.posix_tables.specs.Bytes.{moved_place, overwritten, resized}
use Rattle.posix_tables.specs.NameRows.{list_rows, mkdir_rows, open_rows, rename_rows, rmdir_rows, stat_rows, unlink_rows}
use Rattle.posix_tables.specs.Names.{directory_stands, exists_at, file_stands, is_named, last_name, lines_taken, longest_name, number_at, parent_at, with_entry, without_entry}
use Rattle.posix_tables.specs.Nodes.{bytes_of, is_directory, is_live, node_at, published_node, published_of}
use Rattle.posix_tables.specs.Open.{is_full, is_open, key_of, may_write, Tables, with_offset, with_opened}
use Rattle.posix_tables.specs.Outcomes.{first, idle_row, row, space_row, unless}
use Rattle.posix_tables.specs.Room.{growth, held, write_need}
use Rattle.posix_laws.specs.posix_spec.FileRows.{appends, content, dup_rows, file_number, offset_of, seek_base, seek_rows, seek_target, truncate_rows, unknown_row, write_rows, write_start}
use Rattle.posix_laws.specs.posix_spec.Put.{put_by, put_unless}
use Rattle.posix_laws.specs.posix_spec.Run.{after_call, Unfinished}
use Rattle.posix_laws.specs.posix_spec.State.{alone, made, room, space, State, swept, unnamed, with_file, with_node, with_published}
use Rattle.posix_laws.specs.posix_spec.Step.{close_done, dup_done, empty_file, fsync_done, list_done, mkdir_done, moved_offset, open_done, opening, opening_number, pread_done, pwrite_done, read_done, rename_done, renamed, rmdir_done, seek_done, stat_done, step, stepped, Stepped, truncate_done, unlink_done, write_done, written}
use Rattle.posix_laws.proofs.ByteLaws.{index-overwritten, index-resized, length-bytes_from, length-overwritten, length-resized, written_at}
use Rattle.crash_judge.proofs.NearestLaws.{split}

-- what two states may have at byte i of node n, and that they may have the same
abbrev pub ByteWise : Type 1
ByteWise = (n i g t : ℕ) → Type 0

abbrev pub MayBeSame : ByteWise → Type 0
MayBeSame R = (n i v : ℕ) → R n i v v

pub record BytesGo (R : ByteWise) (n : ℕ) (g t : List ℕ) : Type 0 where
  pub size : length g ≡ length t
  pub each : (i : ℕ) → R n i (slice_index g i) (slice_index t i)

pub record FilesGo (R : ByteWise) (n : ℕ) (g t : File) : Type 0 where
  pub bytes : BytesGo R n g.bytes t.bytes
  pub published : g.published ≡ t.published

abbrev pub NodesGo : ByteWise → ℕ → Node → Node → Type 0
NodesGo R n Node.Gone Node.Gone = Unit {0}
NodesGo R n Node.Gone Node.Directory = ⊥
NodesGo R n Node.Gone (Node.File t) = ⊥
NodesGo R n Node.Directory Node.Gone = ⊥
NodesGo R n Node.Directory Node.Directory = Unit {0}
NodesGo R n Node.Directory (Node.File t) = ⊥
NodesGo R n (Node.File g) Node.Gone = ⊥
NodesGo R n (Node.File g) Node.Directory = ⊥
NodesGo R n (Node.File g) (Node.File t) = FilesGo R n g t

pub record AllGo (R : ByteWise) (gs ts : List Node) : Type 0 where
  pub count : length gs ≡ length ts
  pub each : (n : ℕ) → NodesGo R n (node_at gs n) (node_at ts n)

pub record Like (R : ByteWise) (g t : State) : Type 0 where
  pub entries : g.entries ≡ t.entries
  pub tables : g.tables ≡ t.tables
  pub shape : g.shape ≡ t.shape
  pub mode : g.mode ≡ t.mode
  pub nodes : AllGo R g.nodes t.nodes

-- ---- nodes

pub NodesGo-same : (R : ByteWise) → MayBeSame R → (n : ℕ) (a : Node) → NodesGo R n a a
NodesGo-same R same n Node.Gone = tt
NodesGo-same R same n Node.Directory = tt
NodesGo-same R same n (Node.File file) = record { bytes = record { size = refl; each = λ i. same n i (slice_index file.bytes i) }; published = refl }

pub AllGo-same : (R : ByteWise) → MayBeSame R → (ns : List Node) → AllGo R ns ns
AllGo-same R same ns = record { count = refl; each = λ n. NodesGo-same R same n (node_at ns n) }

pub bytes_go : (R : ByteWise) → MayBeSame R → (n : ℕ) (a b : Node) → NodesGo R n a b → BytesGo R n (bytes_of a) (bytes_of b)
bytes_go R same n Node.Gone Node.Gone go = record { size = refl; each = λ i. same n i 0 }
bytes_go R same n Node.Gone Node.Directory go = absurd go
bytes_go R same n Node.Gone (Node.File t) go = absurd go
bytes_go R same n Node.Directory Node.Gone go = absurd go
bytes_go R same n Node.Directory Node.Directory go = record { size = refl; each = λ i. same n i 0 }
bytes_go R same n Node.Directory (Node.File t) go = absurd go
bytes_go R same n (Node.File g) Node.Gone go = absurd go
bytes_go R same n (Node.File g) Node.Directory go = absurd go
bytes_go R same n (Node.File g) (Node.File t) go = go.bytes

pub published_same : (R : ByteWise) (n : ℕ) (a b : Node) → NodesGo R n a b → published_of a ≡ published_of b
published_same R n Node.Gone Node.Gone go = refl
published_same R n Node.Gone Node.Directory go = absurd go
published_same R n Node.Gone (Node.File t) go = absurd go
published_same R n Node.Directory Node.Gone go = absurd go
published_same R n Node.Directory Node.Directory go = refl
published_same R n Node.Directory (Node.File t) go = absurd go
published_same R n (Node.File g) Node.Gone go = absurd go
published_same R n (Node.File g) Node.Directory go = absurd go
published_same R n (Node.File g) (Node.File t) go = go.published

live_same : (R : ByteWise) (n : ℕ) (a b : Node) → NodesGo R n a b → is_live a ≡ is_live b
live_same R n Node.Gone Node.Gone go = refl
live_same R n Node.Gone Node.Directory go = absurd go
live_same R n Node.Gone (Node.File t) go = absurd go
live_same R n Node.Directory Node.Gone go = absurd go
live_same R n Node.Directory Node.Directory go = refl
live_same R n Node.Directory (Node.File t) go = absurd go
live_same R n (Node.File g) Node.Gone go = absurd go
live_same R n (Node.File g) Node.Directory go = absurd go
live_same R n (Node.File g) (Node.File t) go = refl

directory_test : (gs ts : List Node) (n : ℕ) (a b : Node) → node_at gs n ≡ a → node_at ts n ≡ b → is_directory (a ∷ []) 0 ≡ is_directory (b ∷ []) 0 → is_directory gs n ≡ is_directory ts n
directory_test gs ts n a b ga tb same =
    (λ k. is_directory (ga k ∷ []) 0) ∙ same ∙ (λ k. is_directory (sym tb k ∷ []) 0)

directory_node : (R : ByteWise) (n : ℕ) (a b : Node) → NodesGo R n a b → is_directory (a ∷ []) 0 ≡ is_directory (b ∷ []) 0
directory_node R n Node.Gone Node.Gone go = refl
directory_node R n Node.Gone Node.Directory go = absurd go
directory_node R n Node.Gone (Node.File t) go = absurd go
directory_node R n Node.Directory Node.Gone go = absurd go
directory_node R n Node.Directory Node.Directory go = refl
directory_node R n Node.Directory (Node.File t) go = absurd go
directory_node R n (Node.File g) Node.Gone go = absurd go
directory_node R n (Node.File g) Node.Directory go = absurd go
directory_node R n (Node.File g) (Node.File t) go = refl

directory_same : (R : ByteWise) (gs ts : List Node) → AllGo R gs ts → (n : ℕ) → is_directory gs n ≡ is_directory ts n
directory_same R gs ts go n = directory_test gs ts n (node_at gs n) (node_at ts n) refl refl (directory_node R n (node_at gs n) (node_at ts n) (go.each n))

-- how many stand for something, and what files hold
counts_same : (gs ts : List Node) → length gs ≡ length ts → ((n : ℕ) → is_live (node_at gs n) ≡ is_live (node_at ts n)) → count_by is_live gs ≡ count_by is_live ts
counts_same [] [] count each = refl
counts_same [] (t ∷ ts) count each = absurd (omega (arith, count))
counts_same (g ∷ gs) [] count each = absurd (omega (arith, count))
counts_same (g ∷ gs) (t ∷ ts) count each =
    sum_by-cons (λ (x : Node). cond (is_live x) 1 0) g gs
    ∙ (λ k. cond (each 0 k) 1 0 + counts_same gs ts (omega (arith, count)) (λ n. each (suc n)) k)
    ∙ sym (sum_by-cons (λ (x : Node). cond (is_live x) 1 0) t ts)

held_same : (gs ts : List Node) → length gs ≡ length ts → ((n : ℕ) → length (bytes_of (node_at gs n)) ≡ length (bytes_of (node_at ts n))) → held gs ≡ held ts
held_same [] [] count each = refl
held_same [] (t ∷ ts) count each = absurd (omega (arith, count))
held_same (g ∷ gs) [] count each = absurd (omega (arith, count))
held_same (g ∷ gs) (t ∷ ts) count each =
    sum_by-cons (λ (x : Node). held_by (length (bytes_of x))) g gs
    ∙ (λ k. held_by (each 0 k) + held_same gs ts (omega (arith, count)) (λ n. each (suc n)) k)
    ∙ sym (sum_by-cons (λ (x : Node). held_by (length (bytes_of x))) t ts)

-- ---- changes of nodes

number_test : (a b : ℕ) → (a ≡ b) ⊎ (a ≡ b → ⊥)
number_test a b = by (a == b) refl where
  by : (c : Bool) → (a == b) ≡ c → (a ≡ b) ⊎ (a ≡ b → ⊥)
  by true is = inl (grind (arith, nat_tests))
  by false is = inr (λ same. (let other : ⊥ = grind (arith, nat_tests) in other))

AllGo-set : (R : ByteWise) (gs ts : List Node) (n : ℕ) (a b : Node) → AllGo R gs ts → NodesGo R n a b → AllGo R (slice_set gs n a) (slice_set ts n b)
AllGo-set R gs ts n a b go node = record { count = length-set gs n a ∙ go.count ∙ sym (length-set ts n b); each = each } where
  other : (k : ℕ) → (k ≡ n → ⊥) → NodesGo R k (node_at (slice_set gs n a) k) (node_at (slice_set ts n b) k)
  other k apart =
      subst (λ (x : Node). NodesGo R k x (node_at (slice_set ts n b) k)) (sym (get_or-set_other gs n k a Node.Gone apart))
      (subst (λ (x : Node). NodesGo R k (node_at gs k) x) (sym (get_or-set_other ts n k b Node.Gone apart)) (go.each k))

  here : (n < length ts) ⊎ (length ts ≤ n) → NodesGo R n (node_at (slice_set gs n a) n) (node_at (slice_set ts n b) n)
  here (inl below) =
      subst (λ (x : Node). NodesGo R n x (node_at (slice_set ts n b) n)) (sym (get_or-set_same gs n a Node.Gone (let count = go.count in omega (arith, count, below))))
      (subst (λ (x : Node). NodesGo R n a x) (sym (get_or-set_same ts n b Node.Gone below)) node)
  here (inr past) =
      subst (λ (x : Node). NodesGo R n x (node_at (slice_set ts n b) n)) (sym (get_or_past (slice_set gs n a) n Node.Gone (let count = go.count in let size = length-set gs n a in omega (arith, count, past, size))))
      (subst (λ (x : Node). NodesGo R n Node.Gone x) (sym (get_or_past (slice_set ts n b) n Node.Gone (let size = length-set ts n b in omega (arith, past, size)))) tt)

  each : (k : ℕ) → NodesGo R k (node_at (slice_set gs n a) k) (node_at (slice_set ts n b) k)
  each k = elim (number_test k n) [
    | inl same ↦ subst (λ m. NodesGo R m (node_at (slice_set gs n a) m) (node_at (slice_set ts n b) m)) (sym same) (here (split n (length ts)))
    | inr apart ↦ other k apart
  ]

AllGo-push : (R : ByteWise) → MayBeSame R → (gs ts : List Node) (a : Node) → AllGo R gs ts → AllGo R (gs ++ a ∷ []) (ts ++ a ∷ [])
AllGo-push R same gs ts a go = record { count = length-append gs (a ∷ []) ∙ ap (λ n. n + 1) go.count ∙ sym (length-append ts (a ∷ [])); each = λ n. at n (split n (length ts)) (number_test n (length ts)) } where
  at : (n : ℕ) → (n < length ts) ⊎ (length ts ≤ n) → (n ≡ length ts) ⊎ (n ≡ length ts → ⊥) → NodesGo R n (node_at (gs ++ a ∷ []) n) (node_at (ts ++ a ∷ []) n)
  at n (inl below) either =
      subst (λ (x : Node). NodesGo R n x (node_at (ts ++ a ∷ []) n)) (sym (get_or_append_left gs (a ∷ []) Node.Gone n (let count = go.count in omega (arith, count, below))))
      (subst (λ (x : Node). NodesGo R n (node_at gs n) x) (sym (get_or_append_left ts (a ∷ []) Node.Gone n below)) (go.each n))
  at n (inr past) (inl end) =
      subst (λ (x : Node). NodesGo R n x (node_at (ts ++ a ∷ []) n)) (sym (get_or_push gs a Node.Gone n (go.count ∙ sym end)))
      (subst (λ (x : Node). NodesGo R n a x) (sym (get_or_push ts a Node.Gone n (sym end))) (NodesGo-same R same n a))
  at n (inr past) (inr apart) =
      let beyond : length ts + 1 ≤ n = (let apart' = apart in grind arith) in
      subst (λ (x : Node). NodesGo R n x (node_at (ts ++ a ∷ []) n)) (sym (get_or_past (gs ++ a ∷ []) n Node.Gone (let count = go.count in let size = length-append gs (a ∷ []) in omega (arith, count, beyond, size))))
      (subst (λ (x : Node). NodesGo R n Node.Gone x) (sym (get_or_past (ts ++ a ∷ []) n Node.Gone (let size = length-append ts (a ∷ []) in omega (arith, beyond, size)))) tt)

BytesGo-resized : (R : ByteWise) → MayBeSame R → (n : ℕ) (a b : List ℕ) (m : ℕ) → BytesGo R n a b → BytesGo R n (resized a m) (resized b m)
BytesGo-resized R same n a b m go = record { size = length-resized a m ∙ sym (length-resized b m); each = each } where
  by : (i : ℕ) (c : Bool) → R n i (cond c (slice_index a i) 0) (cond c (slice_index b i) 0)
  by i true = go.each i
  by i false = same n i 0

  each : (i : ℕ) → R n i (slice_index (resized a m) i) (slice_index (resized b m) i)
  each i =
      subst (λ x. R n i x (slice_index (resized b m) i)) (sym (index-resized a m i))
      (subst (λ x. R n i (cond (nat_lt i m) (slice_index a i) 0) x) (sym (index-resized b m i)) (by i (nat_lt i m)))

BytesGo-overwritten : (R : ByteWise) → MayBeSame R → (n : ℕ) (a b : List ℕ) (start : ℕ) (x : List ℕ) → BytesGo R n a b → BytesGo R n (overwritten a start x) (overwritten b start x)
BytesGo-overwritten R same n a b start x go = record {
  size = length-overwritten a start x ∙ ap (λ k. start + length x + (k - (start + length x))) go.size ∙ sym (length-overwritten b start x);
  each = each;
} where
  by : (i : ℕ) (c d : Bool) → R n i (cond c (slice_index a i) (cond d (slice_index x (i - start)) (slice_index a i))) (cond c (slice_index b i) (cond d (slice_index x (i - start)) (slice_index b i)))
  by i true d = go.each i
  by i false true = same n i (slice_index x (i - start))
  by i false false = go.each i

  each : (i : ℕ) → R n i (slice_index (overwritten a start x) i) (slice_index (overwritten b start x) i)
  each i =
      subst (λ y. R n i y (slice_index (overwritten b start x) i)) (sym (index-overwritten a start x i))
      (subst (λ y. R n i (written_at a start x i) y) (sym (index-overwritten b start x i)) (by i (nat_lt i start) (nat_lt i (start + length x))))

-- ---- two states of which one has other nodes

abbrev pub with_nodes : State → List Node → State
with_nodes t gs = record t { nodes = gs }

abbrev pub Goes : ByteWise → State → List Node → Type 0
Goes R t gs = AllGo R gs t.nodes

-- the two states after something
abbrev pub AreLike : ByteWise → Stepped → Stepped → Type 0
AreLike R g t = Like R g.state t.state

pub like : (R : ByteWise) (t : State) (gs : List Node) → Goes R t gs → Like R (with_nodes t gs) t
like R t gs go = record { entries = refl; tables = refl; shape = refl; mode = refl; nodes = go }

pub space_same : (R : ByteWise) (t : State) (gs : List Node) → Goes R t gs → space (with_nodes t gs) ≡ space t
space_same R t gs go =
    let live = counts_same gs t.nodes go.count (λ n. live_same R n (node_at gs n) (node_at t.nodes n) (go.each n)) in
    λ i. record {
      directory = λ n. directory_same R gs t.nodes go n i;
      entries = t.entries;
      nodes_left = t.shape.nodes - live i;
      lines_left = t.shape.names - sum_by (λ (entry : DirEntry). lines_taken entry.name) t.entries;
      longest = longest_name t.shape;
    }

-- a row that fits leaves both as they were
stepped_like : (R : ByteWise) (t : State) (gs : List Node) (o p : Option Outcome) (a b : Stepped) → Goes R t gs → o ≡ p → AreLike R a b → AreLike R (stepped (with_nodes t gs) o a) (stepped t p b)
stepped_like R t gs None None a b go same likes = likes
stepped_like R t gs None (Some q) a b go same likes = let never : None ≡ Some q = same in cc
stepped_like R t gs (Some o) None a b go same likes = let never : Some o ≡ None = same in cc
stepped_like R t gs (Some o) (Some q) a b go same likes = like R t gs go

Like-cond : (R : ByteWise) (x y z w : State) (b c : Bool) → b ≡ c → Like R x y → Like R z w → Like R (cond b x z) (cond c y w)
Like-cond R x y z w true true same p q = p
Like-cond R x y z w true false same p q = cc
Like-cond R x y z w false true same p q = cc
Like-cond R x y z w false false same p q = q

Like-node : (R : ByteWise) (g t : State) (m n : ℕ) (a b : Node) → m ≡ n → Like R g t → NodesGo R n a b → Like R (with_node g m a) (with_node t n b)
Like-node R g t m n a b same likes node = subst (λ k. Like R (with_node g k a) (with_node t n b)) (sym same)
    (record { entries = likes.entries; tables = likes.tables; shape = likes.shape; mode = likes.mode; nodes = AllGo-set R g.nodes t.nodes n a b likes.nodes node })

Like-tables : (R : ByteWise) (g t : State) (a b : Tables) → a ≡ b → Like R g t → Like R (record g { tables = a }) (record t { tables = b })
Like-tables R g t a b same likes = record { entries = likes.entries; tables = same; shape = likes.shape; mode = likes.mode; nodes = likes.nodes }

Like-entries : (R : ByteWise) (g t : State) (a b : List DirEntry) → a ≡ b → Like R g t → Like R (record g { entries = a }) (record t { entries = b })
Like-entries R g t a b same likes = record { entries = same; tables = likes.tables; shape = likes.shape; mode = likes.mode; nodes = likes.nodes }

Like-swept : (R : ByteWise) (g t : State) (m n : ℕ) → m ≡ n → Like R g t → Like R (swept alone g m) (swept alone t n)
unfolding swept
Like-swept R g t m n same likes =
    Like-cond R g t (with_node g m Node.Gone) (with_node t n Node.Gone) (is_named g.entries m || is_open g.tables m) (is_named t.entries n || is_open t.tables n)
    (λ k. is_named (likes.entries k) (same k) || is_open (likes.tables k) (same k)) likes (Like-node R g t m n Node.Gone Node.Gone same likes tt)

published_goes : (R : ByteWise) (n : ℕ) (a b : Node) → NodesGo R n a b → NodesGo R n (published_node a) (published_node b)
published_goes R n Node.Gone Node.Gone go = tt
published_goes R n Node.Gone Node.Directory go = absurd go
published_goes R n Node.Gone (Node.File t) go = absurd go
published_goes R n Node.Directory Node.Gone go = absurd go
published_goes R n Node.Directory Node.Directory go = tt
published_goes R n Node.Directory (Node.File t) go = absurd go
published_goes R n (Node.File g) Node.Gone go = absurd go
published_goes R n (Node.File g) Node.Directory go = absurd go
published_goes R n (Node.File g) (Node.File t) go = record { bytes = go.bytes; published = go.bytes.size }

Like-published : (R : ByteWise) (g t : State) (n : ℕ) → Like R g t → Like R (with_published g n) (with_published t n)
unfolding with_published
Like-published R g t n likes = Like-node R g t n n _ _ refl likes (published_goes R n (node_at g.nodes n) (node_at t.nodes n) (likes.nodes.each n))

pub Like-file : (R : ByteWise) (g t : State) (n : ℕ) (a b : List ℕ) (p q : ℕ) → p ≡ q → BytesGo R n a b → Like R g t → Like R (with_file g n a p) (with_file t n b q)
unfolding with_file
Like-file R g t n a b p q same bytes likes = Like-node R g t n n (Node.File (record { bytes = a; published = p })) (Node.File (record { bytes = b; published = q })) refl likes (record { bytes = bytes; published = same })

-- ---- names

Like-unnamed : (R : ByteWise) (t : State) (gs : List Node) (p : List (List ℕ)) → Goes R t gs → Like R (unnamed (with_nodes t gs) p) (unnamed t p)
unfolding unnamed
Like-unnamed R t gs p go =
    let names = space_same R t gs go in
    Like-entries R (with_nodes t gs) t _ _ (λ i. without_entry t.entries (parent_at (names i) p) (last_name p)) (like R t gs go)

Like-made : (R : ByteWise) → MayBeSame R → (t : State) (gs : List Node) (p : List (List ℕ)) (node : Node) → Goes R t gs → Like R (made (with_nodes t gs) p node) (made t p node)
unfolding made
Like-made R same t gs p node go =
    let names = space_same R t gs go in
    record {
      entries = λ i. with_entry t.entries (record { parent = parent_at (names i) p; name = last_name p; child = go.count i });
      tables = refl;
      shape = refl;
      mode = refl;
      nodes = AllGo-push R same gs t.nodes node go;
    }

Like-renamed : (R : ByteWise) (t : State) (gs : List Node) (p q : List (List ℕ)) → Goes R t gs → Like R (renamed (with_nodes t gs) p q) (renamed t p q)
unfolding renamed unnamed
Like-renamed R t gs p q go =
    let names = space_same R t gs go in
    Like-entries R (with_nodes t gs) t _ _
    (λ i. with_entry (without_entry (without_entry t.entries (parent_at (names i) p) (last_name p)) (parent_at (names i) q) (last_name q))
    (record { parent = parent_at (names i) q; name = last_name q; child = number_at (names i) p })) (like R t gs go)

-- ---- files

number_of : (t : State) (who : Who) (h : Handle) → ℕ
number_of t who h = file_number t.tables who h

content_goes : (R : ByteWise) → MayBeSame R → (t : State) (gs : List Node) (who : Who) (h : Handle) → Goes R t gs → BytesGo R (file_number t.tables who h) (content (with_nodes t gs) who h) (content t who h)
content_goes R same t gs who h go = bytes_go R same (file_number t.tables who h) (node_at gs (file_number t.tables who h)) (node_at t.nodes (file_number t.tables who h)) (go.each (file_number t.tables who h))

room_same : (R : ByteWise) → MayBeSame R → (t : State) (gs : List Node) → Goes R t gs → room (with_nodes t gs) ≡ room t
room_same R same t gs go =
    ap (λ n. t.shape.data_blocks - reserve_for t.shape.data_blocks - n)
    (held_same gs t.nodes go.count (λ n. (bytes_go R same n (node_at gs n) (node_at t.nodes n) (go.each n)).size))

start_same : (R : ByteWise) → MayBeSame R → (t : State) (gs : List Node) (who : Who) (h : Handle) → Goes R t gs → write_start (with_nodes t gs) who h ≡ write_start t who h
start_same R same t gs who h go = ap (λ n. cond (appends t.tables who h) n (offset_of t.tables who h)) (content_goes R same t gs who h go).size

write_rows_same : (R : ByteWise) → MayBeSame R → (t : State) (gs : List Node) (who : Who) (h : Handle) (start start2 : ℕ) (x : List ℕ) → Goes R t gs → start ≡ start2
    → first (write_rows (with_nodes t gs) who h start x) ≡ first (write_rows t who h start2 x)
unfolding write_rows
write_rows_same R same t gs who h start start2 x go begins =
    let size = (content_goes R same t gs who h go).size in
    let left = room_same R same t gs go in
    λ i. (let need : ℕ = write_need t.mode (size i) (begins i) (begins i + length x) in first (row (not (may_write t.tables who h)) Errno.EBADF
    ∷ row (nat_lt LONGEST_WRITE (length x)) Errno.EINVAL
    ∷ idle_row (length x == 0) (Reply.Count 0)
    ∷ row (nat_lt LONGEST_FILE (begins i + length x)) Errno.EFBIG
    ∷ space_row (nat_lt (left i) need) What.Blocks need (left i)
    ∷ []))

-- what a call puts is the same
pub put_same : (R : ByteWise) → MayBeSame R → (t : State) (gs : List Node) (who : Who) (call : Call) → Goes R t gs → put_by (with_nodes t gs) who call ≡ put_by t who call
unfolding put_by
put_same R same t gs who (Call.Write h x) go =
    let begins = start_same R same t gs who h go in
    λ i. put_unless (write_rows_same R same t gs who h (write_start (with_nodes t gs) who h) (write_start t who h) x go begins i) (record { node = file_number t.tables who h; place = begins i; bytes = x })
put_same R same t gs who (Call.Pwrite h o x) go =
    λ i. put_unless (write_rows_same R same t gs who h o o x go refl i) (record { node = file_number t.tables who h; place = o; bytes = x })
put_same R same t gs who call go = refl

Like-written : (R : ByteWise) → MayBeSame R → (t : State) (gs : List Node) (who : Who) (h : Handle) (start : ℕ) (x : List ℕ) → Goes R t gs → Like R (written alone (with_nodes t gs) who h start x) (written alone t who h start x)
unfolding written
Like-written R same t gs who h start x go =
    let n = file_number t.tables who h in
    Like-file R (with_nodes t gs) t n _ _ _ _ (published_same R n (node_at gs n) (node_at t.nodes n) (go.each n))
    (BytesGo-overwritten R same n (content (with_nodes t gs) who h) (content t who h) start x (content_goes R same t gs who h go)) (like R t gs go)

Like-offset : (R : ByteWise) (g t : State) (who : Who) (h : Handle) (m n : ℕ) → m ≡ n → Like R g t → Like R (moved_offset g who h m) (moved_offset t who h n)
Like-offset R g t who h m n same likes = Like-tables R g t _ _ (λ i. with_offset (likes.tables i) (unwrap_or (key_of (likes.tables i) who h) 0) (same i)) likes

Like-opening : (R : ByteWise) → MayBeSame R → (t : State) (gs : List Node) (p : List (List ℕ)) (cut : Bool) → Goes R t gs → Like R (opening (with_nodes t gs) p cut) (opening t p cut)
unfolding opening
Like-opening R same t gs p cut go =
    let names = space_same R t gs go in
    let likes = like R t gs go in
    Like-cond R _ _ _ _ _ _ (λ i. exists_at (names i) p)
    (Like-cond R _ _ _ _ cut cut refl (Like-node R (with_nodes t gs) t _ _ empty_file empty_file (λ i. number_at (names i) p) likes (NodesGo-same R same _ empty_file)) likes)
    (Like-made R same t gs p empty_file go)

base_same : (R : ByteWise) → MayBeSame R → (t : State) (gs : List Node) (who : Who) (h : Handle) (w : Whence) → Goes R t gs → seek_base (with_nodes t gs) who h w ≡ seek_base t who h w
base_same R same t gs who h Whence.Set go = refl
base_same R same t gs who h Whence.Cur go = refl
base_same R same t gs who h Whence.End go = (content_goes R same t gs who h go).size

target_same : (R : ByteWise) → MayBeSame R → (t : State) (gs : List Node) (who : Who) (h : Handle) (w : Whence) (by : ℤ) → Goes R t gs → seek_target (with_nodes t gs) who h w by ≡ seek_target t who h w by
target_same R same t gs who h w by go = ap (λ n. moved_place n by) (base_same R same t gs who h w go)

-- ---- every call

goes_rename : (R : ByteWise) (t : State) (gs : List Node) (p q : List (List ℕ)) → Goes R t gs → AreLike R (rename_done alone (with_nodes t gs) p q) (rename_done alone t p q)
unfolding rename_done
goes_rename R t gs p q go =
    let names = space_same R t gs go in
    let likes = Like-renamed R t gs p q go in
    Like-cond R _ _ _ _ _ _ (λ i. directory_stands (names i) q) (Like-node R _ _ _ _ Node.Gone Node.Gone (λ i. number_at (names i) q) likes tt)
    (Like-cond R _ _ _ _ _ _ (λ i. file_stands (names i) q) (Like-swept R _ _ _ _ (λ i. number_at (names i) q) likes) likes)

goes_open : (R : ByteWise) → MayBeSame R → (t : State) (gs : List Node) (who : Who) (h : Handle) (p : List (List ℕ)) (f : Flags) → Goes R t gs → AreLike R (open_done (with_nodes t gs) who h p f) (open_done t who h p f)
unfolding open_done
goes_open R same t gs who h p f go =
    let names = space_same R t gs go in
    let number : opening_number (with_nodes t gs) p ≡ opening_number t p = λ i. cond (exists_at (names i) p) (number_at (names i) p) (go.count i) in
    Like-tables R _ _ _ _ (λ i. with_opened t.tables who h (record { node = number i; offset = 0; flags = f })) (Like-opening R same t gs p f.truncate go)

pub step_goes : (R : ByteWise) → MayBeSame R → (t : State) (gs : List Node) (who : Who) (call : Call) → Goes R t gs → AreLike R (step (with_nodes t gs) who call) (step t who call)
unfolding mkdir_done rmdir_done unlink_done close_done dup_done read_done pread_done write_done pwrite_done seek_done truncate_done fsync_done stat_done list_done seek_rows truncate_rows dup_rows
step_goes R same t gs who (Call.Mkdir p) go = stepped_like R t gs _ _ _ _ go (ap (λ sp. first (mkdir_rows sp p)) (space_same R t gs go)) (Like-made R same t gs p Node.Directory go)
step_goes R same t gs who (Call.Rmdir p) go =
    let names = space_same R t gs go in
    stepped_like R t gs _ _ _ _ go (ap (λ sp. first (rmdir_rows sp p)) names) (Like-node R _ _ _ _ Node.Gone Node.Gone (λ i. number_at (names i) p) (Like-unnamed R t gs p go) tt)
step_goes R same t gs who (Call.Unlink p) go =
    let names = space_same R t gs go in
    stepped_like R t gs _ _ _ _ go (ap (λ sp. first (unlink_rows sp p)) names) (Like-swept R _ _ _ _ (λ i. number_at (names i) p) (Like-unnamed R t gs p go))
step_goes R same t gs who (Call.Rename p q) go = stepped_like R t gs _ _ _ _ go (ap (λ sp. first (rename_rows sp p q)) (space_same R t gs go)) (goes_rename R t gs p q go)
step_goes R same t gs who (Call.Open h p f) go = stepped_like R t gs _ _ _ _ go (ap (λ sp. first (open_rows sp (is_full t.tables) false p f)) (space_same R t gs go)) (goes_open R same t gs who h p f go)
step_goes R same t gs who (Call.Close h) go =
    let n = file_number t.tables who h in
    stepped_like R t gs _ _ _ _ go refl (Like-swept R _ _ n n refl (Like-tables R _ _ _ _ refl (Like-published R (with_nodes t gs) t n (like R t gs go))))
step_goes R same t gs who (Call.Dup h k) go = stepped_like R t gs _ _ _ _ go refl (Like-tables R _ _ _ _ refl (like R t gs go))
step_goes R same t gs who (Call.Read h n) go =
    stepped_like R t gs _ _ _ _ go refl
    (Like-offset R _ _ who h _ _ (ap (λ k. offset_of t.tables who h + k) (length-bytes_from (content (with_nodes t gs) who h) (content t who h) (offset_of t.tables who h) n (content_goes R same t gs who h go).size)) (like R t gs go))
step_goes R same t gs who (Call.Pread h o n) go = stepped_like R t gs _ _ _ _ go refl (like R t gs go)
step_goes R same t gs who (Call.Write h x) go =
    let begins = start_same R same t gs who h go in
    stepped_like R t gs _ _ _ _ go (write_rows_same R same t gs who h _ _ x go begins)
    (Like-offset R _ _ who h _ _ (ap (λ n. n + length x) begins)
    (subst (λ n. Like R (written alone (with_nodes t gs) who h n x) (written alone t who h (write_start t who h) x)) (sym begins) (Like-written R same t gs who h (write_start t who h) x go)))
step_goes R same t gs who (Call.Pwrite h o x) go = stepped_like R t gs _ _ _ _ go (write_rows_same R same t gs who h o o x go refl) (Like-written R same t gs who h o x go)
step_goes R same t gs who (Call.Seek h w by) go =
    let target = target_same R same t gs who h w by go in
    stepped_like R t gs _ _ _ _ go (λ i. first (unknown_row t.tables who h ∷ row (is_none (target i)) Errno.EINVAL ∷ [])) (Like-offset R _ _ who h _ _ (λ i. unwrap_or (target i) 0) (like R t gs go))
step_goes R same t gs who (Call.Truncate h n) go =
    let size = (content_goes R same t gs who h go).size in
    let left = room_same R same t gs go in
    stepped_like R t gs _ _ _ _ go
    (λ i. (let need : ℕ = growth (size i) n in first (row (not (may_write t.tables who h)) Errno.EBADF ∷ row (nat_lt LONGEST_FILE n) Errno.EFBIG ∷ unless (nat_le n (size i)) (space_row (nat_lt (left i) need) What.Blocks need (left i)) ∷ [])))
    (Like-file R (with_nodes t gs) t (file_number t.tables who h) _ _ n n refl (BytesGo-resized R same (file_number t.tables who h) _ _ n (content_goes R same t gs who h go)) (like R t gs go))
step_goes R same t gs who (Call.Fsync h) go = stepped_like R t gs _ _ _ _ go refl (Like-published R (with_nodes t gs) t (file_number t.tables who h) (like R t gs go))
step_goes R same t gs who (Call.Stat p) go = stepped_like R t gs _ _ _ _ go (ap (λ sp. first (stat_rows sp p)) (space_same R t gs go)) (like R t gs go)
step_goes R same t gs who (Call.List p) go = stepped_like R t gs _ _ _ _ go (ap (λ sp. first (list_rows sp p)) (space_same R t gs go)) (like R t gs go)

-- ---- of any two states

reshaped : (R : ByteWise) (g t : State) → Like R g t → with_nodes t g.nodes ≡ g
reshaped R g t likes = λ i. record { nodes = g.nodes; entries = sym likes.entries i; tables = sym likes.tables i; shape = sym likes.shape i; mode = sym likes.mode i }

pub Like-call : (R : ByteWise) → MayBeSame R → (g t : State) (c : Unfinished) → Like R g t → Like R (after_call g c) (after_call t c)
Like-call R same g t c likes = subst (λ (s : State). Like R (after_call s c) (after_call t c)) (reshaped R g t likes) (step_goes R same t g.nodes c.0 c.1 likes.nodes)

pub put_by-like : (R : ByteWise) → MayBeSame R → (g t : State) (who : Who) (call : Call) → Like R g t → put_by g who call ≡ put_by t who call
put_by-like R same g t who call likes = subst (λ (s : State). put_by s who call ≡ put_by t who call) (reshaped R g t likes) (put_same R same t g.nodes who call likes.nodes)
