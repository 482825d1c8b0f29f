-- The promise between two calls, and the commit, by any rule for bytes.
use Rattle.std.specs.Prelude.{◌≡◌, ◌⊎◌, ◌<◌, ◌+◌, ◌-◌, ◌==◌, ◌&&◌, ℕ, true, false, List, [], ◌++◌, length, map, Option, Some, None, refl}
use Rattle.std.proofs.Common.{arith, ap, append-nil, ◌∙◌, sym, subst, inl, inr}
use Rattle.std.proofs.lemmas.Bool.{cases_lt}
use Rattle.std.proofs.lemmas.List.{get_or_past}
use Rattle.world_image_laws.specs.pm_model.Words.{Words}
use Rattle.world_image_laws.specs.layout_model.declared.lines.Draft.{Draft}
use Rattle.world_image_laws.specs.layout_model.declared.lines.Kind.TheVariants.{Free, Staging}
use Rattle.world_image_laws.specs.extent_model.Extents.{disk_at, is_within}
use Rattle.world_image_laws.specs.extent_model.Covers.{covers-disk_at}
use Rattle.world_image_laws.specs.image_model.Content.{disk_by, entry_of_block, found}
use Rattle.world_image_laws.specs.image_model.Live.{live_entries}
use Rattle.world_image_laws.specs.image_model.Rules.{IsNamedOnce}
use Rattle.world_image_laws.specs.image_model.Volume.{chain, extents, free_inode, inode, Volume}
use Rattle.world_image_laws.specs.volume_laws.OwnerLaws.{IsOnePlace, no_chain_has, one_owner}
use Rattle.world_image_laws.specs.posix_types.declared.item.Item.{Item}
use Rattle.world_image_laws.specs.posix_types.declared.tree.TreeEntry.{TreeEntry}
use Rattle.world_image_laws.specs.posix_tables.declared.nodes.Node.{Node}
use Rattle.world_image_laws.specs.posix_tables.Nodes.{node_at}
use Rattle.world_image_laws.specs.posix_spec.Run.{Unfinished, begun, run}
use Rattle.world_image_laws.specs.posix_spec.State.{State}
use Rattle.world_image_laws.specs.posix_spec.Tree.{tree}
use Rattle.world_image_laws.specs.posix_laws.Lasting.{run_lasts}
use Rattle.world_image_laws.specs.posix_laws.Paths.{stands_at}
use Rattle.world_image_laws.specs.posix_laws.TreeOf.{IsTreeOf-same, IsTreeOf-tree}
use Rattle.world_image_laws.specs.crash_spec.Posix.{ByteRule, IsLeft, LaterRule, LastBeforeCut, NodeLeft, OrUnfinished, Overwritten, PosixBy}
use Rattle.world_image_laws.specs.crash_spec.Values.{is_shortened, value_before_cut, values_put}
use Rattle.world_image_laws.specs.list_laws.Filters.{filter-In}
use Rattle.world_image_laws.specs.world_model.Shown.{IsTreeOfContent}
use Rattle.world_image_laws.specs.world_model.Stands.{is_used, IsSane, Stands}
use Rattle.world_image_laws.specs.world_model.Contents.{found-Stands, IsTreeOf-content}
use Rattle.world_image_laws.specs.world_model.Latest.{latest-In}
use Rattle.world_image_laws.specs.world_model.Lent.{once_named}
use Rattle.world_image_laws.specs.world_model.TreeRules.{IsTreeLike-names, used_below}
use Rattle.posix_mode_laws.specs.BatchLaws.{CommitsBatch}
use Rattle.posix_mode_laws.specs.Laws.{KeepsCommitted, KeepsStrongCommitted, PermitsTreeOfMedium, PermitsTreeStrongly, StagesNoFreed}
use Rattle.posix_mode_laws.specs.Sides.{AreLengths, BatchStands, IsFresh, IsLengthOf, IsSettled, KeepsCutBytes, MediumStands, PosixWorld, Same, Sides, sized, UsesNoFreed}
use Rattle.posix_mode_laws.specs.Sized.{kind-sized}

-- a weaker rule leaves more
node_weaker : (a b : ByteRule) → ((n i v x : ℕ) → a n i v x → b n i v x) → (n : ℕ) (x y : Node) → NodeLeft a n x y → NodeLeft b n x y
node_weaker a b weaker n (Node.File file) (Node.File out) is = record { size = is.size; each = λ i below. weaker n i _ _ (is.each i below) }
node_weaker a b weaker n (Node.File file) Node.Gone is = is
node_weaker a b weaker n (Node.File file) Node.Directory is = is
node_weaker a b weaker n Node.Gone y is = is
node_weaker a b weaker n Node.Directory y is = is

pub left_weaker : (a b : ByteRule) → ((n i v x : ℕ) → a n i v x → b n i v x) → (s m : State) → IsLeft a s m → IsLeft b s m
left_weaker a b weaker s m is = record { entries = is.entries; count = is.count; each = λ n. node_weaker a b weaker n (node_at s.nodes n) (node_at m.nodes n) (is.each n) }

-- ---- the promise

-- the tree of the medium is permitted, whatever the rule
pub permitted_medium : (rule : LaterRule) (w : Sides) (f : Words) (start : State) (kept later : List Item) (unfinished : List Unfinished) (left : List TreeEntry)
    → (m : MediumStands rule w f start kept later) → left ≡ tree m.state → PosixBy rule start (kept ++ later) unfinished left
permitted_medium rule w f start kept later unfinished left m is =
    inl (record {
      kept = kept;
      later = later;
      is = refl;
      fsyncs = m.fsyncs;
      tree_left = (
        m.state,
        left_weaker (rule (run start kept) (map begun later)) (OrUnfinished (rule (run start kept) (map begun later)) (run start (kept ++ later)) unfinished) (λ n i v x yes_it. inl yes_it) (run start kept) m.state m.left,
        is,
      );
    })

pub permitted_left : (rule : LaterRule) (w : Sides) (f : Words) (start : State) (kept later : List Item) (unfinished : List Unfinished) (left : List TreeEntry) → (world : PosixWorld rule w f start kept later) → left ≡ tree world.medium.state
    → PosixBy rule start (kept ++ later) unfinished left
permitted_left rule w f start kept later unfinished left world is = permitted_medium rule w f start kept later unfinished left world.medium is

-- the tree that is found, of a volume in which no entry is live
pub shown_tree : (v : Volume) (f : Words) (numbers : List ℕ) (m : State) (left : List TreeEntry) → Stands v [] f numbers m → IsTreeOfContent (found v [] f) left → left ≡ tree m
shown_tree v f numbers m left stands shown =
    IsTreeOf-same (stands_at m) left (tree m) (IsTreeOf-content (found v [] f) m left (found-Stands v [] f numbers m stands) shown)
    (IsTreeOf-tree m (IsTreeLike-names v numbers m stands.sane stands.names))

tree_of : (w : Sides) (f : Words) (m : State) (left : List TreeEntry) → Stands w.committed [] f w.committed_numbers m → live_entries w.committed f ≡ [] → IsTreeOfContent (found w.committed (live_entries w.committed f) f) left → left ≡ tree m
tree_of w f m left stands none is = shown_tree w.committed f w.committed_numbers m left stands (subst (λ ds. IsTreeOfContent (found w.committed ds f) left) none is)

pub tree_permitted : PermitsTreeOfMedium
tree_permitted w f start kept later unfinished left world none is =
    permitted_left Overwritten w f start kept later unfinished left world (tree_of w f world.medium.state left world.medium.stands none is)

pub tree_permitted_strongly : PermitsTreeStrongly
tree_permitted_strongly w f start kept later unfinished left world none is =
    permitted_left LastBeforeCut w f start kept later unfinished left world (tree_of w f world.medium.state left world.medium.stands none is)

-- ---- blocks of staging files

staging_below : (v : Volume) (ino : ℕ) → (inode v ino).kind ≡ Staging → ino < length v.inodes
staging_below v ino kind = elim (cases_lt ino (length v.inodes)) [
  | inl below ↦ below
  | inr past ↦ let never : Staging ≡ Free = sym kind ∙ ap (λ x. x.kind) (get_or_past v.inodes ino free_inode past) in cc
]

chain_below : (v : Volume) → IsSane v → (ino k : ℕ) → k < length (chain v ino) → ino < length v.inodes
chain_below v sane ino k below = elim (cases_lt ino (length v.chains)) [
  | inl there ↦ omega (arith, there, sane.chain_count, sane.inode_count)
  | inr past ↦ let none : length (chain v ino) ≡ 0 = ap (λ (bs : List ℕ). length bs) (get_or_past v.chains ino [] past) in absurd (omega (arith, none, below))
]

-- Each block has one owner: so a block of a staging file is fresh in its own volume.
fresh_staging : (v : Volume) → IsSane v → (ino block b : ℕ) → (inode v ino).kind ≡ Staging → disk_at (extents v ino) block ≡ Some b → IsFresh v b
fresh_staging v sane ino block b staging at = record {
  files = λ i x used own. (
      let one : IsOnePlace i ino x block = one_owner v b i ino x block once (used_below v i used) low own at in
      let never : true ≡ false = sym used ∙ (ap (λ n. is_used (inode v n).kind) one.inode ∙ ap is_used staging) in
      cc);
  chains = λ j k below. (
      let short : k < length (chain v j) = omega (arith, below) in
      no_chain_has v b ino j k once low (chain_below v sane j k short) (covers-disk_at (extents v ino) block b at) short);
} where
  low : ino < length v.inodes
  low = staging_below v ino staging

  once : IsNamedOnce v b
  once = once_named v sane ino block b low at

-- What is staged lies in staging files of the batch.
pub staged_fresh : StagesNoFreed
staged_fresh w f s blocks stands ino block b used is = by (entry_of_block w.staged ino block) refl is where
  by : (o : Option Draft) → entry_of_block w.staged ino block ≡ o → disk_by w.batch o ino block ≡ Some b → IsSettled w ino block b ⊎ IsFresh w.committed b
  by None entry at = blocks.mapped ino block b used at
  by (Some d) entry at =
      let there = (filter-In (λ (x : Draft). (x.ino == ino) && is_within x.file_block x.count block) w.staged d (latest-In _ d entry)).0 in
      let staging = sym (kind-sized w.lengths w.batch d.staging) ∙ stands.log.staging d there in
      inr (blocks.staging d.staging (d.staging_block + (block - d.file_block)) b staging at)

-- ---- the commit

-- what a rule says where no later call is
abbrev pub Starts : LaterRule → Type 0
Starts rule = (s : State) (n i v x : ℕ) → x ≡ v → rule s [] n i v x

pub starts_overwritten : Starts Overwritten
unfolding is_shortened values_put
starts_overwritten s n i v x is = is

pub starts_before_cut : Starts LastBeforeCut
unfolding value_before_cut
starts_before_cut s n i v x is = is

-- once it is committed, each block of the batch is settled, or in a map that is the same, or of a staging file
pub no_freed : (w : Sides) → IsSane w.batch → UsesNoFreed (record w { committed = w.batch; committed_numbers = w.numbers })
no_freed w sane = record {
  mapped = λ ino block b used is. inl (record { used = used; same = is; node = refl });
  staging = λ ino block b staging at. fresh_staging w.batch sane ino block b staging at;
  chains = λ ino k below. inl (refl, refl);
}

pub none_cut : (w : Sides) (start : State) (kept : List Item) → KeepsCutBytes (record w { committed = w.batch; committed_numbers = w.numbers }) start kept []
unfolding is_shortened
none_cut w start kept = record {
  settled = λ ino i b used below at settled. refl;
  staged = λ ino i b used node past below long at settled. absurd (omega (arith, past, below));
  unstaged = λ ino i b used long none at settled. refl;
}

-- the batch becomes the medium, whatever the rule
commits : (rule : LaterRule) → Starts rule → (w : Sides) (f : Words) (start : State) (history : List Item) → BatchStands w f (run start history) → Stands (sized w.lengths w.batch) w.staged f w.numbers (run start history)
    → AreLengths w (run start history) → PosixWorld rule (record w { committed = w.batch; committed_numbers = w.numbers }) f start history []
commits rule starts w f start history batch live lengths =
    let all : history ++ [] ≡ history = append-nil history in
    record {
      medium = record {
        state = batch.state;
        shape = batch.shape ∙ (run_lasts start history).shape;
        left = left_weaker Same (rule (run start history) []) (λ n i v x is. starts (run start history) n i v x is) (run start history) batch.state batch.left;
        stands = batch.stands;
        fsyncs = refl;
        published = λ n i is. inr (inr is);
      };
      cut = record {
        state = batch.state;
        shape = subst (λ h. batch.state.shape ≡ (run start h).shape) (sym all) batch.shape;
        left = subst (λ h. IsLeft Same (run start h) batch.state) (sym all) batch.left;
        stands = batch.stands;
      };
      live = subst (λ h. Stands (sized w.lengths w.batch) w.staged f w.numbers (run start h)) (sym all) live;
      lengths = record {
        count = lengths.count;
        each = subst (λ h. (ino : ℕ) → IsLengthOf w (run start h) ino) (sym all) lengths.each;
      };
      blocks = no_freed w batch.stands.sane;
      cuts = none_cut w start history;
    }

commit : (rule : LaterRule) → Starts rule → (w : Sides) (f : Words) (start : State) (kept later : List Item) → PosixWorld rule w f start kept later
    → PosixWorld rule (record w { committed = w.batch; committed_numbers = w.numbers }) f start (kept ++ later) []
commit rule starts w f start kept later world = commits rule starts w f start (kept ++ later) world.cut world.live world.lengths

pub batch_commits : CommitsBatch
batch_commits x f start history batch live lengths = commits LastBeforeCut starts_before_cut x f start history batch live lengths

pub committed : KeepsCommitted
committed w f start kept later world = commit Overwritten starts_overwritten w f start kept later world

pub committed_strongly : KeepsStrongCommitted
committed_strongly w f start kept later world = commit LastBeforeCut starts_before_cut w f start kept later world
