-- What each kind of change makes of volume and state: names alone, a node made, a node gone.
use Rattle.std.specs.Prelude.{◌≡◌, ◌≢◌, ◌⊎◌, ◌<◌, ℕ, zero, suc, Bool, true, false, ◌&&◌, ◌==◌, List, [], ◌∷◌, ◌++◌, length, map, refl}
use Rattle.std.proofs.Common.{arith, ap, ◌∙◌, sym, subst, inl, inr}
use Rattle.std.proofs.lemmas.Bool.{cases_eq, eq-eqb, ne_eqb}
use Rattle.std.proofs.lemmas.Bool.Decides.{Decides-eqb}
use Rattle.volume_change_laws.specs.pm_model.Words.{Words}
use Rattle.volume_change_laws.specs.layout_model.declared.lines.Draft.{Draft}
use Rattle.volume_change_laws.specs.layout_model.declared.lines.Kind.TheVariants.{Free, Staging}
use Rattle.volume_change_laws.specs.layout_model.Names.{Rows}
use Rattle.volume_change_laws.specs.image_model.Live.{is_file, is_of_file}
use Rattle.volume_change_laws.specs.image_model.Volume.{inode, Volume}
use Rattle.commute_laws.specs.posix_tables.declared.nodes.Node.{Node}
use Rattle.commute_laws.specs.posix_tables.Nodes.{node_at}
use Rattle.commute_laws.specs.posix_spec.State.{State}
use Rattle.commute_laws.specs.list_laws.Members.{In}
use Rattle.world_model.specs.Jobs.{live_claims}
use Rattle.world_model.specs.Stands.{is_used, IsSane, IsUsed, NamesStand, NodesStand, NodeStands, number}
use Rattle.world_step_laws.specs.Steps.{shown_node, Steps}
use Rattle.world_step_laws.specs.Touched.{beside, Leaves, only, untouched}

-- the numbers with another one for an inode
abbrev pub renumbered : List ℕ → ℕ → ℕ → List ℕ
renumbered [] zero n = n ∷ []
renumbered [] (suc ino) n = 0 ∷ renumbered [] ino n
renumbered (x ∷ xs) zero n = n ∷ xs
renumbered (x ∷ xs) (suc ino) n = x ∷ renumbered xs ino n

pub renumbered-own : (numbers : List ℕ) (ino n : ℕ) → number (renumbered numbers ino n) ino ≡ n
renumbered-own [] zero n = refl
renumbered-own [] (suc ino) n = renumbered-own [] ino n
renumbered-own (x ∷ xs) zero n = refl
renumbered-own (x ∷ xs) (suc ino) n = renumbered-own xs ino n

pub renumbered-other : (numbers : List ℕ) (ino n i : ℕ) → i ≢ ino → number (renumbered numbers ino n) i ≡ number numbers i
renumbered-other [] zero n zero other = absurd (other refl)
renumbered-other [] zero n (suc i) other = refl
renumbered-other [] (suc ino) n zero other = refl
renumbered-other [] (suc ino) n (suc i) other = renumbered-other [] ino n i (λ same. other (ap suc same))
renumbered-other (x ∷ xs) zero n zero other = absurd (other refl)
renumbered-other (x ∷ xs) zero n (suc i) other = refl
renumbered-other (x ∷ xs) (suc ino) n zero other = refl
renumbered-other (x ∷ xs) (suc ino) n (suc i) other = renumbered-other xs ino n i (λ same. other (ap suc same))

never_true : {X : Type 0} (b : Bool) → b ≡ false → b ≡ true → X
never_true b is_not is = let never : true ≡ false = sym is ∙ is_not in cc

-- ---- names alone, or nothing but published lengths

pub Steps-names : (v : Volume) (rows : Rows) (claims : List (ℕ × Draft)) (live : List Draft) (f : Words) (numbers : List ℕ) (s new : State) → NodesStand v live f numbers s
    → IsSane (record v { names = rows }) → NamesStand (record v { names = rows }) numbers new → ((n : ℕ) → shown_node (node_at new.nodes n) ≡ shown_node (node_at s.nodes n))
    → Steps untouched v (record v { names = rows }) claims f numbers numbers s new
Steps-names v rows claims live f numbers s new nodes sane names same = record {
  leaves = record { inodes = λ ino out. refl; maps = λ ino out. refl; staging = λ ino is. refl };
  sane = sane;
  names = names;
  same_number = λ ino used out. refl;
  same_node = λ ino used out. same (number numbers ino);
  own = λ ino used out. never_true false refl out;
  all = λ n there. nodes.all n (λ gone. there (shown_gone (node_at new.nodes n) (same n ∙ ap shown_node gone)));
  staging = λ d is. refl;
  dead = λ d is out. never_true false refl out;
} where
  shown_gone : (node : Node) → shown_node node ≡ Node.Gone → node ≡ Node.Gone
  shown_gone Node.Gone is = refl
  shown_gone Node.Directory is = cc
  shown_gone (Node.File file) is = cc

-- ---- a node goes

pub Steps-gone : (v w : Volume) (claims : List (ℕ × Draft)) (live : List Draft) (f : Words) (numbers : List ℕ) (s new : State) (c : ℕ) → NodesStand v live f numbers s → NamesStand v numbers s → IsUsed v c
    → Leaves (only c) v w → (inode w c).kind ≡ Free → IsSane w → NamesStand w numbers new → ((n : ℕ) → n ≢ number numbers c → shown_node (node_at new.nodes n) ≡ shown_node (node_at s.nodes n)) → node_at new.nodes (number numbers c) ≡ Node.Gone
    → ((d : Draft) → In d (map (λ (x : ℕ × Draft). x.1) claims) → (inode v d.staging).kind ≡ Staging) → Steps (only c) v w claims f numbers numbers s new
Steps-gone v w claims live f numbers s new c nodes names used leaves free sane after others gone staged = record {
  leaves = leaves;
  sane = sane;
  names = after;
  same_number = λ ino there out. refl;
  same_node = λ ino there out. others (number numbers ino) (λ same. out_of ino out (names.one ino c there used same));
  own = λ ino there out. (let never : true ≡ false = sym there ∙ (ap (λ i. is_used (inode w i).kind) ((Decides-eqb ino c).0 out) ∙ ap is_used free) in cc);
  all = λ n there. all n there (cases_eq n (number numbers c));
  staging = λ d is. leaves.staging d.staging (staged d is);
  dead = λ d is out. inl (ap (λ k. is_file k && ((inode w d.ino).generation == d.generation)) (ap (λ i. (inode w i).kind) ((Decides-eqb d.ino c).0 out) ∙ free));
} where
  out_of : (ino : ℕ) → (ino == c) ≡ false → ino ≢ c
  out_of ino out same = never_true (ino == c) out (eq-eqb ino c same)

  shown_gone : (node : Node) → shown_node node ≡ Node.Gone → node ≡ Node.Gone
  shown_gone Node.Gone is = refl
  shown_gone Node.Directory is = cc
  shown_gone (Node.File file) is = cc

  all : (n : ℕ) → node_at new.nodes n ≢ Node.Gone → (n ≡ number numbers c) ⊎ (n ≢ number numbers c) → (ino : ℕ) × IsUsed w ino × (number numbers ino ≡ n)
  all n there (inl own) = absurd (there (ap (node_at new.nodes) own ∙ gone))
  all n there (inr other) =
      let its = nodes.all n (λ was. there (shown_gone (node_at new.nodes n) (others n other ∙ ap shown_node was))) in
      let apart : its.0 ≢ c = λ same. other (sym its.2 ∙ ap (number numbers) same) in
      (its.0, ap (λ x. is_used x.kind) (leaves.inodes its.0 (ne_eqb its.0 c apart)) ∙ its.1, its.2)

-- ---- a node is made

pub Steps-made : (v w : Volume) (claims : List (ℕ × Draft)) (live : List Draft) (f : Words) (numbers after : List ℕ) (s new : State) (c : ℕ) (node : Node) → NodesStand v live f numbers s → NamesStand v numbers s
    → (inode v c).kind ≡ Free → Leaves (only c) v w → IsSane w → NamesStand w after new → new.nodes ≡ s.nodes ++ node ∷ [] → IsUsed w c → number after c ≡ length s.nodes → ((ino : ℕ) → ino ≢ c → number after ino ≡ number numbers ino)
    → NodeStands w (beside (only c) (live_claims v claims)) f c (inode w c).kind node → ((d : Draft) → In d (map (λ (x : ℕ × Draft). x.1) claims) → (inode v d.staging).kind ≡ Staging)
    → ((d : Draft) → In d (map (λ (x : ℕ × Draft). x.1) claims) → d.ino ≡ c → is_of_file w d ≡ false) → Steps (only c) v w claims f numbers after s new
Steps-made v w claims live f numbers after s new c node nodes names free leaves sane stand pushed used own_number others stands staged dead = record {
  leaves = leaves;
  sane = sane;
  names = stand;
  same_number = λ ino there out. others ino (out_of ino out);
  same_node = λ ino there out. ap shown_node (ap (λ xs. node_at xs (number numbers ino)) pushed ∙ front s.nodes node (number numbers ino) (names.within ino there));
  own = λ ino there out. subst (λ i. NodeStands w (beside (only c) (live_claims v claims)) f i (inode w i).kind (node_at new.nodes (number after i))) (sym ((Decides-eqb ino c).0 out)) own_stands;
  all = λ n there. all n there (cases_eq n (length s.nodes));
  staging = λ d is. leaves.staging d.staging (staged d is);
  dead = λ d is out. inl (dead d is ((Decides-eqb d.ino c).0 out));
} where
  out_of : (ino : ℕ) → (ino == c) ≡ false → ino ≢ c
  out_of ino out same = never_true (ino == c) out (eq-eqb ino c same)

  front : (xs : List Node) (x : Node) (n : ℕ) → n < length xs → node_at (xs ++ x ∷ []) n ≡ node_at xs n
  front [] x n below = absurd (omega (arith, below))
  front (y ∷ ys) x zero below = refl
  front (y ∷ ys) x (suc n) below = front ys x n (omega (arith, below))

  last : (xs : List Node) (x : Node) → node_at (xs ++ x ∷ []) (length xs) ≡ x
  last [] x = refl
  last (y ∷ ys) x = last ys x

  past : (xs : List Node) (x : Node) (n : ℕ) → n ≢ length xs → node_at (xs ++ x ∷ []) n ≢ Node.Gone → node_at xs n ≢ Node.Gone
  past [] x zero other there = absurd (other refl)
  past [] x (suc n) other there = there
  past (y ∷ ys) x zero other there = there
  past (y ∷ ys) x (suc n) other there = past ys x n (λ same. other (ap suc same)) there

  own_stands : NodeStands w (beside (only c) (live_claims v claims)) f c (inode w c).kind (node_at new.nodes (number after c))
  own_stands =
      subst (NodeStands w (beside (only c) (live_claims v claims)) f c (inode w c).kind)
      (sym (ap (node_at new.nodes) own_number ∙ (ap (λ xs. node_at xs (length s.nodes)) pushed ∙ last s.nodes node))) stands

  all : (n : ℕ) → node_at new.nodes n ≢ Node.Gone → (n ≡ length s.nodes) ⊎ (n ≢ length s.nodes) → (ino : ℕ) × IsUsed w ino × (number after ino ≡ n)
  all n there (inl own) = (c, used, own_number ∙ sym own)
  all n there (inr other) =
      let its = nodes.all n (past s.nodes node n other (λ gone. there (ap (λ xs. node_at xs n) pushed ∙ gone))) in
      let apart : its.0 ≢ c = λ same. (let never : true ≡ false = sym its.1 ∙ (ap (λ i. is_used (inode v i).kind) same ∙ ap is_used free) in cc) in
      (its.0, ap (λ x. is_used x.kind) (leaves.inodes its.0 (ne_eqb its.0 c apart)) ∙ its.1, others its.0 apart ∙ its.2)
